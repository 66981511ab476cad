-- The variables so far that have a place, and are not born later, were met.
use Rattle.std.proofs.Common.{◌≡◌, ◌<◌, ℕ, true, false, Some, length, get_or}
use Rattle.std.specs.List.{slice_get}
use Rattle.iso_alloc.specs.declared.places.Place.{Place}
use Rattle.iso_compile.specs.Emitting.{is_placed}
use Rattle.iso_compile.specs.Emitted.{is_met, Marks, AreNew}
use Rattle.iso_compile.proofs.entry.fresh_variables.Given as goal

abbrev pub invariant-loop-variable : goal.invariant-loop-variable
invariant-loop-variable l =
    Marks l.plan.places l.parts.items l.fn.met.items l.met.items
    × ((x : ℕ) (place : Place) → x < l.variable → slice_get l.plan.places x ≡ Some place → is_placed place ≡ true → get_or l.born x false ≡ false → is_met l.met.items x ≡ true)
    × ((x : ℕ) → get_or l.born x false ≡ true → is_met l.met.items x ≡ is_met l.fn.met.items x)
    × AreNew l.parts.items
    × (length l.met.items ≡ length l.fn.met.items)
