use Rattle.std.proofs.Common.{ap, sym, ◌∙◌, map}
use Rattle.iso_token.specs.Shows.{shown}
use Rattle.iso_lint.specs.Once.{occurs_once}
use Rattle.iso_lint.proofs.ListLemmas.{found_more, found_same}
use Rattle.iso_lint.proofs.once.variables_once.Goals as goal
use Rattle.iso_lint.proofs.once.variables_once.Goals.{then-is_once+in_ok-push, else-is_once}

pub loop-token-preserved : goal.loop-token-preserved
loop-token-preserved c =
    let tokens = c.args.tokens.now in
    let p = occurs_once (map shown tokens) in
    let k = c.loop-token.token-index in
    let tells = c.is_once.ensures (map shown tokens) c.in_ok-counts.ensures in
    elim c.if-is_once.branch [
      | then-is_once+in_ok-push w ↦
          found_more shown p tokens k _ c.loop-token.found.items _ c.loop-token-test.true (sym tells ∙ w.if-is_once.true) (ap (λ v. v.items) w.found-is ∙ w.in_ok-push.ensures.items) c.loop-token.invariant
      | else-is_once w ↦
          rw w.found-is (found_same shown p tokens k _ c.loop-token.found.items c.loop-token-test.true (sym tells ∙ w.if-is_once.false) c.loop-token.invariant)
    ]
