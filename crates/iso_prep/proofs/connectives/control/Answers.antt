use borrow.Author.Tests.{ltb-true, ltb-false}
use Rattle.std.proofs.Common.{◌≡◌, arith, length, ◌∷◌, [], Some, sym, ◌∙◌}
use Rattle.std.specs.String.{string_bytes}
use Rattle.iso_prep.specs.Connectives.{connective_of}
use Rattle.iso_prep.proofs.ConnectiveLemmas.{two_items, control_of_compound, no_control}
use Rattle.iso_prep.proofs.connectives.control.Goals.{in_default-as_slice-via-then-as_slice-lt2, in_default-as_slice-via-else-as_slice-lt2+else-this-lt3}
use Rattle.iso_prep.proofs.connectives.control.Goals as goal

pub returns-in_default-as_slice : goal.returns-in_default-as_slice
returns-in_default-as_slice c =
    let other : length c.in-Compound.arguments.items ≡ 2 → ⊥ = λ two. elim c.in_default-as_slice.branch [
      | in_default-as_slice-via-then-as_slice-lt2 w ↦ absurd (omega (arith, ltb-true, ltb-false))
      | in_default-as_slice-via-else-as_slice-lt2+else-this-lt3 w ↦ absurd (omega (arith, ltb-true, ltb-false))
    ] in
    no_control c.args.term.now c.in-Compound.name c.in-Compound.arguments c.in-Compound.is other

pub returns : goal.returns
returns c =
    let items : c.in-Compound.arguments.items ≡ c.first-item.result ∷ c.second-item.result ∷ [] = rw c.as_slice.ensures.value at (two_items _ _ _ c.in-len2.len_at_least c.in-len2.len_below c.first-item.is c.second-item.is) in
    let name : connective_of (string_bytes c.in-Compound.name) ≡ Some c.in_ok-connective.connective = rw c.as_str.ensures.value at (sym c.connective_named.ensures ∙ c.in_ok-connective.was) in
    control_of_compound c.args.term.now c.in-Compound.name c.in-Compound.arguments c.first-item.result c.second-item.result _ c.in-Compound.is items name
