-- Variables that get cells behind a head, each new there.
use Rattle.std.proofs.Common.{◌≡◌, ◌<◌, ℕ, zero, suc, Bool, List, [], ◌∷◌, length, get_or, refl, ap, subst, ◌∙◌, arith}
use Rattle.std.specs.List.{All, AllZip}
use Rattle.std.proofs.lemmas.List.Elements.{All-nil, All-cons, All-head, All-tail}
use Rattle.iso_alloc.specs.declared.places.Place.{Place}
use Rattle.iso_compile.specs.declared.instructions.Part.{Part}
use Rattle.iso_compile.specs.declared.instructions.Part.TheVariants as part
use Rattle.iso_compile.specs.Emitted as emitted
use Rattle.iso_compile.specs.Emitted.{AreNew}
use Rattle.iso_code.specs.declared.operands.Operand.{Operand}
use Rattle.iso_code.specs.Loaded as loaded
use Rattle.iso_code.specs.Loaded.{IsInside}
use Rattle.iso_code.specs.Loading.{IsBelow, IsNew, IsOfNew, IsLoadedFresh}

-- where all are new, so is the one at a place
pub new_there : (ps : List Part) (i : ℕ) (p : Part) → AreNew ps → i < length ps → p ≡ get_or ps i p → IsNew p
new_there [] i p new inside is = absurd (omega (arith, inside))
new_there (part.New x place ∷ ps) zero p new inside is = rw is tt
new_there (part.New x place ∷ ps) (suc i) p new inside is = new_there ps i p new (omega (arith, inside)) is
new_there (part.Old x place ∷ ps) i p new inside is = absurd new
new_there (part.Void x ∷ ps) i p new inside is = absurd new
new_there (part.Integer z ∷ ps) i p new inside is = absurd new
new_there (part.Atom a ∷ ps) i p new inside is = absurd new
new_there (part.Inner r ∷ ps) i p new inside is = absurd new

new_inside : (atoms count : ℕ) (p : Part) (o : Operand) → IsOfNew p o → IsBelow count p → IsInside atoms count 0 o
new_inside atoms count (part.New x place) o h below = rw h below
new_inside atoms count (part.Old x place) o h below = absurd h
new_inside atoms count (part.Void x) o h below = absurd h
new_inside atoms count (part.Integer z) o h below = absurd h
new_inside atoms count (part.Atom a) o h below = absurd h
new_inside atoms count (part.Inner r) o h below = absurd h

fresh_inside : (atoms count : ℕ) (ps : List Part) (os : List Operand) → AllZip IsOfNew ps os → All (IsBelow count) ps → All (IsInside atoms count 0) os
fresh_inside atoms count [] [] h below = All-nil (IsInside atoms count 0)
fresh_inside atoms count [] (o ∷ os) h below = absurd h
fresh_inside atoms count (p ∷ ps) [] h below = absurd h
fresh_inside atoms count (p ∷ ps) (o ∷ os) h below =
    All-cons (IsInside atoms count 0) o os (new_inside atoms count p o h.0 (All-head (IsBelow count) p ps below)) (fresh_inside atoms count ps os h.1 (All-tail (IsBelow count) p ps below))

-- A variable is new where it was.
met_same : (met : ℕ → Bool) (p : Part) (o : Operand) → IsOfNew p o → emitted.met_after met p ≡ loaded.met_after met o
met_same met (part.New x place) o h = rw h refl
met_same met (part.Old x place) o h = absurd h
met_same met (part.Void x) o h = absurd h
met_same met (part.Integer z) o h = absurd h
met_same met (part.Atom a) o h = absurd h
met_same met (part.Inner r) o h = absurd h

mark_same : (places : List Place) (met : ℕ → Bool) (p : Part) (o : Operand) → IsOfNew p o → emitted.IsMarked places met p → loaded.IsMarked met o
mark_same places met (part.New x place) o h m = rw h m.0
mark_same places met (part.Old x place) o h m = absurd h
mark_same places met (part.Void x) o h m = absurd h
mark_same places met (part.Integer z) o h m = absurd h
mark_same places met (part.Atom a) o h m = absurd h
mark_same places met (part.Inner r) o h m = absurd h

marks_same : (places : List Place) (met : ℕ → Bool) (ps : List Part) (os : List Operand) → AllZip IsOfNew ps os → emitted.AreMarked places met ps → loaded.AreMarked met os
marks_same places met [] [] h m = tt
marks_same places met [] (o ∷ os) h m = absurd h
marks_same places met (p ∷ ps) [] h m = absurd h
marks_same places met (p ∷ ps) (o ∷ os) h m = (
  mark_same places met p o h.0 m.0,
  marks_same places (loaded.met_after met o) ps os h.1 (subst (λ f. emitted.AreMarked places f ps) (met_same met p o h.0) m.1),
)

behind_same : (met : ℕ → Bool) (ps : List Part) (os : List Operand) → AllZip IsOfNew ps os → emitted.met_behind met ps ≡ loaded.met_behind met os
behind_same met [] [] h = refl
behind_same met [] (o ∷ os) h = absurd h
behind_same met (p ∷ ps) [] h = absurd h
behind_same met (p ∷ ps) (o ∷ os) h = ap (λ f. emitted.met_behind f ps) (met_same met p o h.0) ∙ behind_same (loaded.met_after met o) ps os h.1

-- So they are loaded.
pub fresh_loaded : (ps : List Part) (os : List Operand) → AllZip IsOfNew ps os → IsLoadedFresh ps os
fresh_loaded ps os h = record {
  inside = λ atoms count below. fresh_inside atoms count ps os h below;
  marked = λ places met marks. marks_same places met ps os h marks;
  behind = λ met x. ap (λ f. f x) (behind_same met ps os h);
}
