use Rattle.std.proofs.Common.{sym, ◌∙◌}
use Rattle.iso_compile.proofs.ExpressionLemmas.{two_leaves}
use Rattle.iso_compile.proofs.expressions.leave_two.Goals as goal

pub returns-clause-known : goal.returns-clause-known
returns-clause-known c _ =
    two_leaves c.args.tasks.now.items c.push.new.self.items c.push-2.new.self.items c.args.name c.push-3.new.self.items c.args.left c.args.right c.in_ok-push.ensures.items c.in_ok-push-2.ensures.items c.in_ok-push-3.ensures.items (rw c.as_str.ensures.value at (sym c.is_operation_on_two.ensures ∙ c.if-not-is_operation_on_two.false))
