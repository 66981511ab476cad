use Rattle.std.proofs.Common.{sym, ◌∙◌}
use Rattle.iso_compile.proofs.ExpressionLemmas.{one_leaves}
use Rattle.iso_compile.proofs.expressions.leave_one.Goals as goal

pub returns-clause-known : goal.returns-clause-known
returns-clause-known c _ =
    one_leaves c.args.tasks.now.items c.push.new.self.items c.push-2.new.self.items c.args.name c.args.operand c.in_ok-push.ensures.items c.in_ok-push-2.ensures.items (rw c.as_str.ensures.value at (sym c.is_operation_on_one.ensures ∙ c.if-not-is_operation_on_one.false))
