use Rattle.std.proofs.Common.{◌≡◌, min, [], ◌∷◌, ◌++◌, codes, ◌∙◌, ap, sym, arith, append_assoc}
use Rattle.std.specs.Fmt.{decimal}
use Rattle.iso_model.specs.Session.Lines.{counted}
use Rattle.iso_session_core.proofs.composed.directive_stopped_line.Goals as goal

pub returns : goal.returns
returns c =
    let same : c.args.number ≡ min c.args.number 18446744073709551615 = omega (arith, c.ranges.number.fits) in
    ap (λ v. v.items) c.into_bytes.ensures.value ∙ c.in_ok-format.ensures.ok ∙ ap (λ n. codes "directive " ++ (decimal n ++ codes " stopped: budget\n")) same
    ∙ ap (λ z. codes "directive " ++ z) (sym (append_assoc (counted c.args.number) (codes " stopped: budget") (10 ∷ [])))
