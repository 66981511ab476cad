-- Variables that the head did not meet.
use Rattle.std.proofs.Common.{◌≡◌, ◌≢◌, ℕ, zero, suc, ◌+◌, ◌<◌, ◌==◌, List, [], ◌∷◌, get_or, length, replicate, nat_lt, Bool, true, false, Some, inl, inr, refl, sym, ap, ◌∙◌, arith, if◌then◌else◌}
use Rattle.std.proofs.lemmas.Bool.{cases_Bool, cases_eq, eqb-true, ltb-true, ltb-false, true≢false, false≢true}
use Rattle.std.proofs.lemmas.Option.{slice_get-get_or}
use Rattle.std.specs.List.{slice_get}
use Rattle.iso_alloc.specs.declared.places.Place.{Place}
use Rattle.iso_alloc.specs.declared.places.Place.TheVariants.{Nowhere}
use Rattle.iso_compile.specs.declared.instructions.Part.{Part}
use Rattle.iso_compile.specs.declared.instructions.Part.TheVariants.{New, Old, Void, Integer, Atom, Inner}
use Rattle.iso_compile.specs.Emitting.{is_placed, all_placed, none_met, AreMet}
use Rattle.iso_compile.specs.Emitted.{is_met, met_after, AreMarked, met_behind, Marking}
use Rattle.iso_compile.specs.Ways.{kept_behind}
use Rattle.iso_compile.specs.Births.{BeginsWith, GivesValues}
use Rattle.iso_compile.specs.declared.control.Instruction.{Instruction}
use Rattle.iso_compile.proofs.VoidLemmas.{placed_at, some_place}
use Rattle.iso_compile.proofs.MarkLemmas.{past}

-- a variable more
pub met_more : (places : List Place) (born old new : List Bool) (n : ℕ) → ((x : ℕ) (place : Place) → x < n → slice_get places x ≡ Some place → is_placed place ≡ true → get_or born x false ≡ false → is_met old x ≡ true)
    → ((x : ℕ) → is_met old x ≡ true → is_met new x ≡ true)
    → ((place : Place) → slice_get places n ≡ Some place → is_placed place ≡ true → get_or born n false ≡ false → is_met new n ≡ true)
    → (x : ℕ) (place : Place) → x < n + 1 → slice_get places x ≡ Some place → is_placed place ≡ true → get_or born x false ≡ false → is_met new x ≡ true
met_more places born old new n before kept last x place low is placed none = elim (cases_eq x n) [
  | inl same ↦ ap (is_met new) same ∙ last place (sym (ap (slice_get places) same) ∙ is) placed (sym (ap (λ k. get_or born k false) same) ∙ none)
  | inr other ↦ kept x (before x place (omega (arith, low, other)) is placed none)
]

-- ---- what has a value before the body

kept_at : (ps : List Part) (met other : ℕ → Bool) (x : ℕ) → met x ≡ other x → kept_behind met ps x ≡ kept_behind other ps x
kept_at [] met other x same = same
kept_at (New y place ∷ ps) met other x same = kept_at ps (λ k. if k == y then true else met k) (λ k. if k == y then true else other k) x (ap (λ b. if x == y then true else b) same)
kept_at (Old y place ∷ ps) met other x same = kept_at ps met other x same
kept_at (Void y ∷ ps) met other x same = kept_at ps met other x same
kept_at (Integer z ∷ ps) met other x same = kept_at ps met other x same
kept_at (Atom a ∷ ps) met other x same = kept_at ps met other x same
kept_at (Inner r ∷ ps) met other x same = kept_at ps met other x same

void_apart : (places : List Place) (met : ℕ → Bool) (x y : ℕ) → all_placed places x ≡ true → slice_get places y ≡ Some Nowhere → met x ≡ met_after met (Void y) x
void_apart places met x y placed none = elim (cases_Bool (x == y)) [
  | inl same ↦ absurd (true≢false (sym placed ∙ ap (all_placed places) (eqb-true x y same) ∙ placed_at places y Nowhere none))
  | inr other ↦ rw other refl
]

kept_placed : (places : List Place) (ps : List Part) (met : ℕ → Bool) (x : ℕ) → AreMarked places met ps → all_placed places x ≡ true → kept_behind met ps x ≡ met_behind met ps x
kept_placed places [] met x h placed = refl
kept_placed places (New y place ∷ ps) met x h placed = kept_placed places ps (met_after met (New y place)) x h.1 placed
kept_placed places (Old y place ∷ ps) met x h placed = kept_placed places ps met x h.1 placed
kept_placed places (Void y ∷ ps) met x h placed = kept_at ps met (met_after met (Void y)) x (void_apart places met x y placed h.0.1) ∙ kept_placed places ps (met_after met (Void y)) x h.1 placed
kept_placed places (Integer z ∷ ps) met x h placed = kept_placed places ps met x h.1 placed
kept_placed places (Atom a ∷ ps) met x h placed = kept_placed places ps met x h.1 placed
kept_placed places (Inner r ∷ ps) met x h placed = kept_placed places ps met x h.1 placed

new_apart : (places : List Place) (met : ℕ → Bool) (x y : ℕ) (place : Place) → all_placed places x ≡ false → slice_get places y ≡ Some place → place ≢ Nowhere → (if x == y then true else met x) ≡ met x
new_apart places met x y place none is some = elim (cases_Bool (x == y)) [
  | inl same ↦ absurd (true≢false (sym (placed_at places y place is ∙ some_place place some) ∙ ap (all_placed places) (sym (eqb-true x y same)) ∙ none))
  | inr other ↦ rw other refl
]

kept_unplaced : (places : List Place) (ps : List Part) (met other : ℕ → Bool) (x : ℕ) → AreMarked places other ps → all_placed places x ≡ false → kept_behind met ps x ≡ met x
kept_unplaced places [] met other x h none = refl
kept_unplaced places (New y place ∷ ps) met other x h none =
    kept_unplaced places ps (λ k. if k == y then true else met k) (met_after other (New y place)) x h.1 none ∙ new_apart places met x y place none h.0.1 h.0.2
kept_unplaced places (Old y place ∷ ps) met other x h none = kept_unplaced places ps met other x h.1 none
kept_unplaced places (Void y ∷ ps) met other x h none = kept_unplaced places ps met (met_after other (Void y)) x h.1 none
kept_unplaced places (Integer z ∷ ps) met other x h none = kept_unplaced places ps met other x h.1 none
kept_unplaced places (Atom a ∷ ps) met other x h none = kept_unplaced places ps met other x h.1 none
kept_unplaced places (Inner r ∷ ps) met other x h none = kept_unplaced places ps met other x h.1 none

-- a variable without a place is one of the plan
inside_of : (places : List Place) (x : ℕ) → all_placed places x ≡ false → x < length places
inside_of [] x none = absurd (true≢false none)
inside_of (p ∷ places) zero none = omega arith
inside_of (p ∷ places) (suc x) none = let low = inside_of places x none in omega (arith, low)

none_before : (n x : ℕ) → x < n → is_met (replicate n false) x ≡ false
none_before zero x low = absurd (omega (arith, low))
none_before (suc n) zero low = refl
none_before (suc n) (suc x) low = none_before n x (omega (arith, low))

born_inside : (born : List Bool) (x : ℕ) → get_or born x false ≡ true → x < length born
born_inside [] x is = absurd (false≢true is)
born_inside (b ∷ born) zero is = omega arith
born_inside (b ∷ born) (suc x) is = let low = born_inside born x is in omega (arith, low)

either_false : (b c : Bool) → c ≡ false → (if b then false else c) ≡ false
either_false true c none = refl
either_false false c none = none

pub begins_with : (places : List Place) (ps : List Part) (first list born : List Bool) → length list ≡ length places → Marking places (none_met places) ps list → AreMet places born list
    → ((x : ℕ) → get_or born x false ≡ true → is_met list x ≡ is_met first x) → ((x : ℕ) → get_or born x false ≡ true → is_met first x ≡ false) → BeginsWith places born (kept_behind (none_met places) ps)
begins_with places ps first list born many marking met kept unmet x = elim (cases_Bool (all_placed places x)) [
  | inr none ↦ (
      kept_unplaced places ps (none_met places) (none_met places) x marking.marked none ∙ none_before (length places) x (inside_of places x none) ∙ sym (either_false (get_or born x false) (all_placed places x) none))
  | inl placed ↦ (kept_placed places ps (none_met places) x marking.marked placed ∙ marking.behind x ∙ (elim (cases_Bool (get_or born x false)) [
    | inl is ↦ rw is (kept x is ∙ unmet x is)
    | inr other ↦ rw other (all_of other placed ∙ sym placed)
  ]))
]
  where
    all_of : get_or born x false ≡ false → all_placed places x ≡ true → is_met list x ≡ true
    all_of other placed = elim (cases_Bool (nat_lt x (length places))) [
      | inl inside ↦ (
          let at = slice_get-get_or places x Nowhere (ltb-true x (length places) inside) in
          met x (get_or places x Nowhere) at (sym (placed_at places x (get_or places x Nowhere) at) ∙ placed) other)
      | inr outside ↦ past list x (let far = ltb-false x (length places) outside in omega (arith, far, many))
    ]

-- where nothing is born
pub all_begin : (places : List Place) (born : List Bool) (entry : ℕ → Bool) → BeginsWith places born entry → ((x : ℕ) → get_or born x false ≡ false) → (x : ℕ) → all_placed places x ≡ true → entry x ≡ true
all_begin places born entry begins none x placed = begins x ∙ rw (none x) placed

-- where all were met, none is born
none_born : (n : ℕ) (list born : List Bool) → list ≡ replicate n true → ((x : ℕ) → get_or born x false ≡ true → is_met list x ≡ false) → (x : ℕ) → get_or born x false ≡ false
none_born n list born all unmet x = elim (cases_Bool (get_or born x false)) [
  | inl is ↦ absurd (true≢false (sym (ap (λ l. is_met l x) all ∙ all_met n x) ∙ unmet x is))
  | inr other ↦ other
]
  where
    all_met : (m y : ℕ) → is_met (replicate m true) y ≡ true
    all_met zero y = refl
    all_met (suc m) zero = refl
    all_met (suc m) (suc y) = all_met m y

pub all_given : (n : ℕ) (met list born : List Bool) (old new : List Instruction) → list ≡ replicate n true → length list ≡ length met → GivesValues list old new born → GivesValues met old new born × ((x : ℕ) → get_or born x false ≡ false)
all_given n met list born old new all long h =
    let none = none_born n list born all h.unmet in (
      record {
        does = h.does;
        ways = λ plan ms entry many right does begins. h.ways plan ms entry (many ∙ sym long) right does begins;
        unmet = λ x is. absurd (true≢false (sym is ∙ none x));
        behind = h.behind;
        calls = h.calls;
      },
      none,
    )
