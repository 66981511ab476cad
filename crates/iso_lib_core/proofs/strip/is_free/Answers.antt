use Rattle.std.proofs.Common.{◌≡◌, Bool, true, false, not, is_some, refl, ap, sym, ◌∙◌}
use Rattle.iso_lib_core.specs.Stripping.{is_free}
use Rattle.iso_lib_core.proofs.StripLemmas.{some_placed}
use Rattle.iso_lib_core.proofs.strip.is_free.Goals as goal

twice_not : (b : Bool) → not (not b) ≡ b
twice_not true = refl
twice_not false = refl

pub returns-in-Var : goal.returns-in-Var
returns-in-Var g c =
    let placed = ap is_some c.place.ensures.place ∙ some_placed c.in-Var.number c.args.bound.now in
    sym (twice_not c.is_none.result) ∙ ap not (sym c.is_none.ensures ∙ placed) ∙ ap (is_free c.args.bound.now) (sym c.in-Var.ensures.shape)
