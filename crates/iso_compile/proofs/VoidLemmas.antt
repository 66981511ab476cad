-- Void variables are forgotten behind a goal: then just those variables count as met that have a place.
use Rattle.std.proofs.Common.{◌≡◌, ◌≢◌, ◌<◌, ℕ, zero, suc, ◌+◌, ◌==◌, List, [], ◌∷◌, ◌++◌, length, map, drop, Bool, true, false, Some, inl, inr, refl, sym, ap, ◌∙◌, subst, arith, if◌then◌else◌}
use Rattle.std.proofs.lemmas.Bool.{cases_Bool, eqb-true, eq-eqb, true≢false, false≢true}
use Rattle.std.proofs.lemmas.List.{get_or-set_same, get_or-set_other, length-set, length-map}
use Rattle.std.proofs.lemmas.Option.{slice_get_within}
use Rattle.std.specs.List.{slice_get, slice_set}
use Rattle.iso_alloc.specs.declared.places.Place.{Place}
use Rattle.iso_alloc.specs.declared.places.Place.TheVariants.{Register, Slot, Nowhere}
use Rattle.iso_compile.specs.declared.instructions.Block.{Block}
use Rattle.iso_compile.specs.declared.instructions.Part.{Part}
use Rattle.iso_compile.specs.declared.instructions.Part.TheVariants.{New, Old, Void, Integer, Atom, Inner}
use Rattle.iso_compile.specs.Emitted.{met_after, AreMarked, met_behind, is_met, Marking, all_parts}
use Rattle.iso_compile.specs.Emitting.{is_placed, all_placed, without_voids, HasPlaced}
use Rattle.iso_compile.specs.declared.expressions.Step.{Step}
use Rattle.iso_compile.specs.declared.expressions.Step.TheVariants as step
use Rattle.iso_compile.specs.Expressions.{step_parts}
use Rattle.iso_compile.proofs.GoalLemmas.{one_left}

pub placed_at : (places : List Place) (x : ℕ) (place : Place) → slice_get places x ≡ Some place → all_placed places x ≡ is_placed place
placed_at [] x place is = absurd (cc is)
placed_at (p ∷ places) zero place is = ap is_placed (cc is)
placed_at (p ∷ places) (suc x) place is = placed_at places x place is

pub some_place : (place : Place) → place ≢ Nowhere → is_placed place ≡ true
some_place (Register r) some = refl
some_place (Slot s) some = refl
some_place Nowhere some = absurd (some refl)

-- whether a variable is void here
abbrev is_void : List Part → ℕ → Bool
is_void [] x = false
is_void (Void y ∷ ps) x = if x == y then true else is_void ps x
is_void (p ∷ ps) x = is_void ps x

-- behind parts that have no new variables, others than void ones are met as before
met_only : (places : List Place) (met : ℕ → Bool) (ps : List Part) → ((x : ℕ) → all_placed places x ≡ true → met x ≡ true) → AreMarked places met ps → (x : ℕ) → is_void ps x ≡ false → met_behind met ps x ≡ met x
met_only places met [] all h x none = refl
met_only places met (New y place ∷ ps) all h x none = absurd (true≢false (sym (all y (placed_at places y place h.0.1 ∙ some_place place h.0.2)) ∙ h.0.0))
met_only places met (Old y place ∷ ps) all h x none = met_only places met ps all h.1 x none
met_only places met (Void y ∷ ps) all h x none = elim (cases_Bool (x == y)) [
  | inl same ↦ absurd (true≢false (sym (rw same refl) ∙ none))
  | inr other ↦ met_only places (met_after met (Void y)) ps (λ z placed. kept z (all z placed)) h.1 x (sym (rw other refl) ∙ none) ∙ rw other refl
]
  where
    kept : (z : ℕ) → met z ≡ true → met_after met (Void y) z ≡ true
    kept z h = elim (cases_Bool (z == y)) [
      | inl same ↦ rw same refl
      | inr other ↦ rw other h
    ]
met_only places met (Integer z ∷ ps) all h x none = met_only places met ps all h.1 x none
met_only places met (Atom a ∷ ps) all h x none = met_only places met ps all h.1 x none
met_only places met (Inner r ∷ ps) all h x none = met_only places met ps all h.1 x none

-- a void variable has no place, but is one of the plan
voids_are : (places : List Place) (met : ℕ → Bool) (ps : List Part) → AreMarked places met ps → (x : ℕ) → is_void ps x ≡ true → slice_get places x ≡ Some Nowhere
voids_are places met [] h x void = absurd (false≢true void)
voids_are places met (New y place ∷ ps) h x void = voids_are places (met_after met (New y place)) ps h.1 x void
voids_are places met (Old y place ∷ ps) h x void = voids_are places met ps h.1 x void
voids_are places met (Void y ∷ ps) h x void = elim (cases_Bool (x == y)) [
  | inl same ↦ ap (slice_get places) (eqb-true x y same) ∙ h.0.1
  | inr other ↦ voids_are places (met_after met (Void y)) ps h.1 x (sym (rw other refl) ∙ void)
]
voids_are places met (Integer z ∷ ps) h x void = voids_are places met ps h.1 x void
voids_are places met (Atom a ∷ ps) h x void = voids_are places met ps h.1 x void
voids_are places met (Inner r ∷ ps) h x void = voids_are places met ps h.1 x void

pub voids_long : (list : List Bool) (ps : List Part) → length (without_voids list ps) ≡ length list
voids_long list [] = refl
voids_long list (New y place ∷ ps) = voids_long list ps
voids_long list (Old y place ∷ ps) = voids_long list ps
voids_long list (Void y ∷ ps) = voids_long (slice_set list y false) ps ∙ length-set list y false
voids_long list (Integer z ∷ ps) = voids_long list ps
voids_long list (Atom a ∷ ps) = voids_long list ps
voids_long list (Inner r ∷ ps) = voids_long list ps

voids_forgotten : (list : List Bool) (ps : List Part) → ((x : ℕ) → is_void ps x ≡ true → x < length list) → (x : ℕ) → is_met (without_voids list ps) x ≡ (if is_void ps x then false else is_met list x)
voids_forgotten list [] low x = refl
voids_forgotten list (New y place ∷ ps) low x = voids_forgotten list ps low x
voids_forgotten list (Old y place ∷ ps) low x = voids_forgotten list ps low x
voids_forgotten list (Void y ∷ ps) low x =
    let inner = voids_forgotten (slice_set list y false) ps (λ z void. (let below = low z (either z void) in let long = length-set list y false in omega (arith, below, long))) x in
    elim (cases_Bool (x == y)) [
      | inl same ↦ inner ∙ rw same (both (is_void ps x) (ap (is_met (slice_set list y false)) (eqb-true x y same) ∙ get_or-set_same list y false true (low y (itself y))))
      | inr other ↦ inner ∙ rw other (ap (λ b. if is_void ps x then false else b) (get_or-set_other list y x false true (λ e. true≢false (sym (eq-eqb x y e) ∙ other))))
    ]
  where
    either : (z : ℕ) → is_void ps z ≡ true → is_void (Void y ∷ ps) z ≡ true
    either z void = elim (cases_Bool (z == y)) [
      | inl same ↦ rw same refl
      | inr other ↦ rw other void
    ]

    itself : (z : ℕ) → is_void (Void z ∷ ps) z ≡ true
    itself z = rw (eq-eqb z z refl) refl

    both : (b : Bool) {c : Bool} → c ≡ false → (if b then false else c) ≡ false
    both true is = refl
    both false is = is
voids_forgotten list (Integer z ∷ ps) low x = voids_forgotten list ps low x
voids_forgotten list (Atom a ∷ ps) low x = voids_forgotten list ps low x
voids_forgotten list (Inner r ∷ ps) low x = voids_forgotten list ps low x

-- behind the parts of a goal
pub placed_again : (places : List Place) (ps : List Part) (list : List Bool) → length list ≡ length places → Marking places (all_placed places) ps list → HasPlaced places (without_voids list ps)
placed_again places ps list many marking = record { many = voids_long list ps ∙ many; each = each }
  where
    within : (x : ℕ) → is_void ps x ≡ true → x < length list
    within x void = let low = slice_get_within places x Nowhere (voids_are places (all_placed places) ps marking.marked x void) in omega (arith, low, many)

    each : (x : ℕ) → is_met (without_voids list ps) x ≡ all_placed places x
    each x = elim (cases_Bool (is_void ps x)) [
      | inl void ↦ voids_forgotten list ps within x ∙ rw void (sym (placed_at places x Nowhere (voids_are places (all_placed places) ps marking.marked x void)))
      | inr none ↦ voids_forgotten list ps within x ∙ rw none (sym (marking.behind x) ∙ met_only places (all_placed places) ps (λ y placed. placed) marking.marked x none)
    ]

pub voids_append : (list : List Bool) (ps qs : List Part) → without_voids (without_voids list ps) qs ≡ without_voids list (ps ++ qs)
voids_append list [] qs = refl
voids_append list (New y place ∷ ps) qs = voids_append list ps qs
voids_append list (Old y place ∷ ps) qs = voids_append list ps qs
voids_append list (Void y ∷ ps) qs = voids_append (slice_set list y false) ps qs
voids_append list (Integer z ∷ ps) qs = voids_append list ps qs
voids_append list (Atom a ∷ ps) qs = voids_append list ps qs
voids_append list (Inner r ∷ ps) qs = voids_append list ps qs

-- one part or block more was gone through
pub part_forgotten : (ps : List Part) (i : ℕ) (p : Part) (old new : List Bool) → slice_get ps i ≡ Some p → new ≡ without_voids old (p ∷ []) → without_voids new (drop (i + 1) ps) ≡ without_voids old (drop i ps)
part_forgotten ps i p old new is one =
    ap (λ list. without_voids list (drop (i + 1) ps)) one ∙ voids_append old (p ∷ []) (drop (i + 1) ps) ∙ ap (without_voids old) (sym (one_left ps i p is))

pub block_forgotten : (bs : List Block) (i : ℕ) (b : Block) (old new : List Bool) → slice_get bs i ≡ Some b → new ≡ without_voids old b.parts.items → without_voids new (all_parts (drop (i + 1) bs)) ≡ without_voids old (all_parts (drop i bs))
block_forgotten bs i b old new is one =
    ap (λ list. without_voids list (all_parts (drop (i + 1) bs))) one ∙ voids_append old b.parts.items (all_parts (drop (i + 1) bs)) ∙ ap (λ cs. without_voids old (all_parts cs)) (sym (one_left bs i b is))

pub step_first : (k : Step) (ks : List Step) → step_parts (k ∷ ks) ≡ step_parts (k ∷ []) ++ step_parts ks
step_first (step.Value p) ks = refl
step_first (step.One f) ks = refl
step_first (step.Two f) ks = refl

pub step_forgotten : (ks : List Step) (i : ℕ) (k : Step) (old new : List Bool) → slice_get ks i ≡ Some k → new ≡ without_voids old (step_parts (k ∷ [])) → without_voids new (step_parts (drop (i + 1) ks)) ≡ without_voids old (step_parts (drop i ks))
step_forgotten ks i k old new is one =
    ap (λ list. without_voids list (step_parts (drop (i + 1) ks))) one ∙ voids_append old (step_parts (k ∷ [])) (step_parts (drop (i + 1) ks))
    ∙ ap (without_voids old) (sym (ap step_parts (one_left ks i k is) ∙ step_first k (drop (i + 1) ks)))

-- no part was met yet
pub none_marked : (places : List Place) (list : List Bool) → HasPlaced places list → Marking places (all_placed places) [] list
none_marked places list placed = record { marked = tt; behind = λ x. sym (placed.each x) }

-- a goal's parts, and then those of its blocks, were forgotten
pub twice_again : (places : List Place) (ps qs : List Part) (list mid new : List Bool) → length list ≡ length places → Marking places (all_placed places) (ps ++ qs) list → mid ≡ without_voids list ps → new ≡ without_voids mid qs → HasPlaced places new
twice_again places ps qs list mid new many marking first second =
    subst (HasPlaced places) (sym (second ∙ ap (λ l. without_voids l qs) first ∙ voids_append list ps qs)) (placed_again places (ps ++ qs) list many marking)

pub once_again : (places : List Place) (ps : List Part) (list new : List Bool) → length list ≡ length places → Marking places (all_placed places) ps list → new ≡ without_voids list ps → HasPlaced places new
once_again places ps list new many marking is = subst (HasPlaced places) (sym is) (placed_again places ps list many marking)

-- the list that was made for the plan
pub placed_first : (places : List Place) (list : List Bool) → list ≡ map is_placed places → HasPlaced places list
placed_first places list is = record { many = ap length is ∙ length-map places is_placed; each = λ x. ap (λ l. is_met l x) is }
