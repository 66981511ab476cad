-- A plan with a place more.
use Rattle.std.proofs.Common.{◌≡◌, ℕ, zero, suc, ◌+◌, ◌<◌, ◌≤◌, ◌⊎◌, List, [], ◌∷◌, ◌++◌, length, Option, Some, None, MatchOption, inl, inr, refl, sym, ap, subst, ◌∙◌, arith, length-append}
use Rattle.std.proofs.lemmas.Option.{slice_get_within}
use Rattle.std.specs.List.{slice_get}
use Rattle.iso_model.specs.Terms.Trees.{Tree, count}
use Rattle.iso_prep.specs.Preparations.{Preparation}
use Rattle.iso_prep.specs.Classes.{class_of, goals_of, last_goal}
use Rattle.iso_prep.specs.declared.classes.Class.{Class}
use Rattle.iso_prep.specs.declared.classes.Class.TheVariants.{Void, Temporary, Permanent}
use Rattle.iso_alloc.specs.declared.places.Place.{Place}
use Rattle.iso_alloc.specs.declared.places.Place.TheVariants.{Register, Slot, Nowhere}
use Rattle.iso_alloc.specs.Plans.{Layout, IsPlan, Suits, arguments_of, argument_from}
use Rattle.iso_alloc.proofs.ArgumentLemmas.{argument_within, same_argument}

some_place : (v w : Place) → Some v ≡ Some w → v ≡ w
some_place v w e = ap got e
  where
    got : Option Place → Place
    got (Some u) = u
    got None = v

last_or_before : (xs : List Place) (v : Place) (i : ℕ) (w : Place) → slice_get (xs ++ v ∷ []) i ≡ Some w → (slice_get xs i ≡ Some w) ⊎ ((i ≡ length xs) × (v ≡ w))
last_or_before [] v zero w h = inr (refl, some_place v w h)
last_or_before [] v (suc i) w h = inl h
last_or_before (x ∷ xs) v zero w h = inl h
last_or_before (x ∷ xs) v (suc i) w h = elim (last_or_before xs v i w h) [
  | inl before ↦ inl before
  | inr last ↦ inr (let e = last.0 in omega (arith, e), last.1)
]

suits_more : (plan grown : Layout) (arguments : Tree) (x : ℕ) (class : Class) (last : ℕ) (place : Place) → plan.slots ≤ grown.slots → plan.registers ≤ grown.registers
    → Suits plan arguments x class last place → Suits grown arguments x class last place
suits_more plan grown arguments x Void last Nowhere a b h = tt
suits_more plan grown arguments x Void last (Slot s) a b h = absurd h
suits_more plan grown arguments x Void last (Register r) a b h = absurd h
suits_more plan grown arguments x Permanent last Nowhere a b h = absurd h
suits_more plan grown arguments x Permanent last (Slot s) a b h = omega (arith, a, h)
suits_more plan grown arguments x Permanent last (Register r) a b h = absurd h
suits_more plan grown arguments x Temporary last Nowhere a b h = absurd h
suits_more plan grown arguments x Temporary last (Slot s) a b h = (h.0, let low = h.1 in omega (arith, a, low))
suits_more plan grown arguments x Temporary last (Register r) a b h = (h.0, let low = h.1 in omega (arith, b, low), h.2)

slot_within : (plan : Layout) (arguments : Tree) (x : ℕ) (class : Class) (last : ℕ) (s : ℕ) → Suits plan arguments x class last (Slot s) → s < plan.slots
slot_within plan arguments x Void last s h = absurd h
slot_within plan arguments x Permanent last s h = h
slot_within plan arguments x Temporary last s h = h.1

register_suits : (plan : Layout) (arguments : Tree) (x : ℕ) (class : Class) (last : ℕ) (r : ℕ) → Suits plan arguments x class last (Register r)
    → (r < plan.registers) × MatchOption (argument_from 0 x arguments) (count arguments ≤ r) (λ i. r ≡ i)
register_suits plan arguments x Void last r h = absurd h
register_suits plan arguments x Permanent last r h = absurd h
register_suits plan arguments x Temporary last r h = (h.1, h.2)

module _ (plan : Layout) (p : Preparation) (is : IsPlan plan p) where
  -- one variable more has a place, which no variable has that comes before it
  pub grown_plan : (grown : Layout) (place : Place) (class : Class) → class ≡ class_of p.variables p.head (goals_of p.body) → grown.places ≡ plan.places ++ place ∷ []
      → plan.slots ≤ grown.slots → plan.registers ≤ grown.registers → Suits grown (arguments_of p.head) p.variables class (last_goal p.variables (goals_of p.body)) place
      → ((y : ℕ) → slice_get plan.places y ≡ Some place → place ≡ Nowhere) → IsPlan grown (record p { variables = p.variables + 1 })
  grown_plan grown place class of more slots registers suits fresh = record {
    each = let a = ap length more in let b = length-append plan.places (place ∷ []) in let e = is.each in omega (arith, a, b, e);
    arguments = let a = is.arguments in omega (arith, a, registers);
    suits = λ x v h. elim (last_or_before plan.places place x v (sym (ap (λ ps. slice_get ps x) more) ∙ h)) [
      | inl before ↦ suits_more plan grown (arguments_of p.head) x (class_of x p.head (goals_of p.body)) (last_goal x (goals_of p.body)) v slots registers (is.suits x v before)
      | inr last ↦ last_suits x v (last.0 ∙ is.each) last.1
    ];
    apart = λ x y v h g. elim (last_or_before plan.places place x v (sym (ap (λ ps. slice_get ps x) more) ∙ h)) [
      | inl before ↦ elim (last_or_before plan.places place y v (sym (ap (λ ps. slice_get ps y) more) ∙ g)) [
        | inl too ↦ is.apart x y v before too
        | inr last ↦ inr (sym last.1 ∙ fresh x (before ∙ ap Some (sym last.1)))
      ]
      | inr last ↦ elim (last_or_before plan.places place y v (sym (ap (λ ps. slice_get ps y) more) ∙ g)) [
        | inl before ↦ inr (sym last.1 ∙ fresh y (before ∙ ap Some (sym last.1)))
        | inr too ↦ inl (last.0 ∙ sym too.0)
      ]
    ];
  }
    where
      last_suits : (x : ℕ) (v : Place) → x ≡ p.variables → place ≡ v → Suits grown (arguments_of p.head) x (class_of x p.head (goals_of p.body)) (last_goal x (goals_of p.body)) v
      last_suits x v at same =
          subst (λ w. Suits grown (arguments_of p.head) x (class_of x p.head (goals_of p.body)) (last_goal x (goals_of p.body)) w) same
          (subst (λ n. Suits grown (arguments_of p.head) n (class_of n p.head (goals_of p.body)) (last_goal n (goals_of p.body)) place) (sym at)
          (subst (λ k. Suits grown (arguments_of p.head) p.variables k (last_goal p.variables (goals_of p.body)) place) of suits))

  pub fresh_slot : (y : ℕ) → slice_get plan.places y ≡ Some (Slot plan.slots) → Slot plan.slots ≡ Nowhere
  fresh_slot y h = let low = slot_within plan (arguments_of p.head) y (class_of y p.head (goals_of p.body)) (last_goal y (goals_of p.body)) plan.slots (is.suits y (Slot plan.slots) h) in absurd (omega (arith, low))

  pub fresh_register : (y : ℕ) → slice_get plan.places y ≡ Some (Register plan.registers) → Register plan.registers ≡ Nowhere
  fresh_register y h =
      let low = (register_suits plan (arguments_of p.head) y (class_of y p.head (goals_of p.body)) (last_goal y (goals_of p.body)) plan.registers (is.suits y (Register plan.registers) h)).0 in absurd (omega (arith, low))

  pub fresh_argument : (i : ℕ) → argument_from 0 p.variables (arguments_of p.head) ≡ Some i → (y : ℕ) → slice_get plan.places y ≡ Some (Register i) → Register i ≡ Nowhere
  fresh_argument i one y h =
      other (argument_from 0 y (arguments_of p.head)) refl (register_suits plan (arguments_of p.head) y (class_of y p.head (goals_of p.body)) (last_goal y (goals_of p.body)) i (is.suits y (Register i) h)).1
    where
      other : (o : Option ℕ) → argument_from 0 y (arguments_of p.head) ≡ o → MatchOption o (count (arguments_of p.head) ≤ i) (λ j. i ≡ j) → Register i ≡ Nowhere
      other None e high = let low = (argument_within 0 p.variables i (arguments_of p.head) one).1 in absurd (omega (arith, low, high))
      other (Some j) e same =
          let one_variable : y ≡ p.variables = same_argument 0 y p.variables i (arguments_of p.head) (e ∙ ap Some (sym same)) one in
          let low = slice_get_within plan.places y (Register i) h in
          let long = is.each in
          absurd (omega (arith, one_variable, low, long))

  -- what suits a temporary variable that no goal has behind the first
  pub argument_suits : (grown : Layout) (last i : ℕ) → last ≤ 1 → argument_from 0 p.variables (arguments_of p.head) ≡ Some i → plan.registers ≤ grown.registers → Suits grown (arguments_of p.head) p.variables Temporary last (Register i)
  argument_suits grown last i early one more =
      let low = (argument_within 0 p.variables i (arguments_of p.head) one).1 in
      let long = is.arguments in
      (early, omega (arith, low, long, more), subst (λ o. MatchOption o (count (arguments_of p.head) ≤ i) (λ j. i ≡ j)) (sym one) refl)

  pub other_suits : (grown : Layout) (last : ℕ) → last ≤ 1 → argument_from 0 p.variables (arguments_of p.head) ≡ None → plan.registers + 1 ≤ grown.registers
      → Suits grown (arguments_of p.head) p.variables Temporary last (Register plan.registers)
  other_suits grown last early none more = (early, omega (arith, more), subst (λ o. MatchOption o (count (arguments_of p.head) ≤ plan.registers) (λ j. plan.registers ≡ j)) (sym none) is.arguments)

-- no variable has a place yet
pub first_plan : (plan : Layout) (p : Preparation) → plan.places ≡ [] → count (arguments_of p.head) ≤ plan.registers → IsPlan plan (record p { variables = 0 })
first_plan plan p none low = record {
  each = ap length none;
  arguments = low;
  suits = λ x v h. absurd (nothing x v (sym (ap (λ ps. slice_get ps x) none) ∙ h));
  apart = λ x y v h g. absurd (nothing x v (sym (ap (λ ps. slice_get ps x) none) ∙ h));
}
  where
    nothing : (x : ℕ) (v : Place) → slice_get [] x ≡ Some v → ⊥
    nothing x v h = let low = slice_get_within [] x v h in omega (arith, low)
