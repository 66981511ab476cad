-- Lists that are put in order ascend.
use Rattle.std.proofs.Common.{◌≡◌, ◌≢◌, List, [], ◌∷◌, Bool, true, false, refl, sym, ap, ◌∙◌, Ordering, Less, Equal, Greater}
use Rattle.std.proofs.lemmas.Bool.{false≢true}
use Rattle.std.specs.Ordering.{ordering_reverse, is_eq, is_gt}
use Rattle.std.specs.List.{filter}
use Rattle.std.specs.Prelude.{cond}
use Rattle.std.specs.Cmp.{IsTotalOrder, on_total}
use Rattle.iso_model.specs.Terms.Arguments.{argument}
use Rattle.iso_model.specs.Terms.Trees.{Tree}
use Rattle.iso_model.specs.Terms.Order.{term_cmp}
use Rattle.iso_model.specs.Terms.Sorting.{by_order, inserted, in_order, key_cmp, sorted, sorted_by_keys}
use Rattle.iso_model.specs.Terms.SortingLaws.{StandsBefore, AreInTurn}
use Rattle.iso_model.proofs.OnTerms.OrderLemmas.{term_cmp_total}

module _ {X : Type 0} {cmp : X → X → Ordering} (total : IsTotalOrder cmp) where
  abbrev Rises : X → X → Type 0
  Rises x y = cmp x y ≡ Less

  -- the new element, or the one before which it comes to stand
  first_of : (y x z : X) (zs : List X) (o : Ordering) → cmp x z ≡ o → Rises y x → Rises y z → StandsBefore Rises y (by_order o (x ∷ z ∷ zs) (x ∷ zs) (z ∷ inserted true cmp x zs))
  first_of y x z zs Less e p q = p
  first_of y x z zs Equal e p q = p
  first_of y x z zs Greater e p q = q

  first_after : (y x : X) (zs : List X) → Rises y x → StandsBefore Rises y zs → StandsBefore Rises y (inserted true cmp x zs)
  first_after y x [] p q = p
  first_after y x (z ∷ zs) p q = first_of y x z zs (cmp x z) refl p q

  -- what stands alike with the first of a list stands before the others too
  in_its_place : (x y : X) (ys : List X) → cmp x y ≡ Equal → StandsBefore Rises y ys → StandsBefore Rises x ys
  in_its_place x y [] e q = tt
  in_its_place x y (z ∷ zs) e q = total.congr x y z e ∙ q

  ascends_by : (x y : X) (ys : List X) (o : Ordering) → cmp x y ≡ o → StandsBefore Rises y ys → AreInTurn Rises ys → AreInTurn Rises (inserted true cmp x ys)
      → AreInTurn Rises (by_order o (x ∷ y ∷ ys) (x ∷ ys) (y ∷ inserted true cmp x ys))
  ascends_by x y ys Less e first others with_it = (e, (first, others))
  ascends_by x y ys Equal e first others with_it = (in_its_place x y ys e first, others)
  ascends_by x y ys Greater e first others with_it = (first_after y x ys (total.antisymm y x ∙ ap ordering_reverse e) first, with_it)

  ascends_with : (x : X) (ys : List X) → AreInTurn Rises ys → AreInTurn Rises (inserted true cmp x ys)
  ascends_with x [] h = (tt, tt)
  ascends_with x (y ∷ ys) h = ascends_by x y ys (cmp x y) refl h.0 h.1 (ascends_with x ys h.1)

  pub merged_ascends : (xs : List X) → AreInTurn Rises (in_order true cmp xs)
  merged_ascends [] = tt
  merged_ascends (x ∷ xs) = ascends_with x (in_order true cmp xs) (merged_ascends xs)

pub sorted_ascends : (ts : List Tree) → AreInTurn (λ t u. term_cmp t u ≡ Less) (sorted ts)
sorted_ascends ts = merged_ascends term_cmp_total ts

module _ {X : Type 0} {cmp : X → X → Ordering} (total : IsTotalOrder cmp) where
  abbrev Stays : X → X → Type 0
  Stays x y = cmp x y ≢ Greater

  -- the order of two elements, the other way round
  other_way : (o : Ordering) → o ≡ Greater → ordering_reverse o ≢ Greater
  other_way Less e h = false≢true (ap is_gt e)
  other_way Equal e h = false≢true (ap is_gt e)
  other_way Greater e h = false≢true (ap is_gt h)

  behind_first : (y x z : X) (zs : List X) (o : Ordering) → Stays y x → Stays y z → StandsBefore Stays y (by_order o (x ∷ z ∷ zs) (x ∷ z ∷ zs) (z ∷ inserted false cmp x zs))
  behind_first y x z zs Less p q = p
  behind_first y x z zs Equal p q = p
  behind_first y x z zs Greater p q = q

  behind : (y x : X) (zs : List X) → Stays y x → StandsBefore Stays y zs → StandsBefore Stays y (inserted false cmp x zs)
  behind y x [] p q = p
  behind y x (z ∷ zs) p q = behind_first y x z zs (cmp x z) p q

  stays_by : (x y : X) (ys : List X) (o : Ordering) → cmp x y ≡ o → StandsBefore Stays y ys → AreInTurn Stays ys → AreInTurn Stays (inserted false cmp x ys)
      → AreInTurn Stays (by_order o (x ∷ y ∷ ys) (x ∷ y ∷ ys) (y ∷ inserted false cmp x ys))
  stays_by x y ys Less e first others with_it = (λ h. false≢true (ap is_gt (sym e ∙ h)), (first, others))
  stays_by x y ys Equal e first others with_it = (λ h. false≢true (ap is_gt (sym e ∙ h)), (first, others))
  stays_by x y ys Greater e first others with_it = (behind y x ys (λ h. other_way (cmp x y) e (sym (total.antisymm y x) ∙ h)) first, with_it)

  stays_with : (x : X) (ys : List X) → AreInTurn Stays ys → AreInTurn Stays (inserted false cmp x ys)
  stays_with x [] h = (tt, tt)
  stays_with x (y ∷ ys) h = stays_by x y ys (cmp x y) refl h.0 h.1 (stays_with x ys h.1)

  pub never_descends : (xs : List X) → AreInTurn Stays (in_order false cmp xs)
  never_descends [] = tt
  never_descends (x ∷ xs) = stays_with x (in_order false cmp xs) (never_descends xs)

  -- the elements that stand alike with this one
  abbrev alike : X → List X → List X
  alike k xs = filter (λ u. is_eq (cmp k u)) xs

  alike_of : (o : Ordering) → is_eq o ≡ true → o ≡ Equal
  alike_of Equal e = refl
  alike_of Less e = absurd (false≢true e)
  alike_of Greater e = absurd (false≢true e)

  -- two elements of which one comes before the other do not both stand alike with a third
  not_both : (k x y : X) → cmp x y ≡ Greater → is_eq (cmp k x) ≡ true → is_eq (cmp k y) ≡ false
  not_both k x y e same = ap is_eq (total.congr k x y (alike_of (cmp k x) same) ∙ e)

  -- an element that is not kept is passed over; else the other one is not
  passed : (k x y : X) (xs : List X) (a b : Bool) → is_eq (cmp k x) ≡ a → is_eq (cmp k y) ≡ b → cmp x y ≡ Greater
      → cond b (y ∷ cond a (x ∷ xs) xs) (cond a (x ∷ xs) xs) ≡ cond a (x ∷ cond b (y ∷ xs) xs) (cond b (y ∷ xs) xs)
  passed k x y xs false b p q e = refl
  passed k x y xs true false p q e = refl
  passed k x y xs true true p q e = absurd (false≢true (sym (not_both k x y e p) ∙ q))

  kept_by : (k x y : X) (ys : List X) (o : Ordering) → cmp x y ≡ o → alike k (inserted false cmp x ys) ≡ cond (is_eq (cmp k x)) (x ∷ alike k ys) (alike k ys)
      → alike k (by_order o (x ∷ y ∷ ys) (x ∷ y ∷ ys) (y ∷ inserted false cmp x ys)) ≡ alike k (x ∷ y ∷ ys)
  kept_by k x y ys Less e h = refl
  kept_by k x y ys Equal e h = refl
  kept_by k x y ys Greater e h = rw h (passed k x y (alike k ys) (is_eq (cmp k x)) (is_eq (cmp k y)) refl refl e)

  kept_with : (k x : X) (ys : List X) → alike k (inserted false cmp x ys) ≡ alike k (x ∷ ys)
  kept_with k x [] = refl
  kept_with k x (y ∷ ys) = kept_by k x y ys (cmp x y) refl (kept_with k x ys)

  pub keeps_alike : (xs : List X) (k : X) → alike k (in_order false cmp xs) ≡ alike k xs
  keeps_alike [] k = refl
  keeps_alike (x ∷ xs) k = kept_with k x (in_order false cmp xs) ∙ ap (λ us. cond (is_eq (cmp k x)) (x ∷ us) us) (keeps_alike xs k)

-- the order by keys is total too
key_cmp_total : IsTotalOrder key_cmp
key_cmp_total = on_total (argument 0) term_cmp_total

pub keys_never_descend : (ts : List Tree) → AreInTurn (λ t u. key_cmp t u ≢ Greater) (sorted_by_keys ts)
keys_never_descend ts = never_descends key_cmp_total ts

pub keys_keep_elements : (ts : List Tree) (t : Tree) → filter (λ u. is_eq (key_cmp t u)) (sorted_by_keys ts) ≡ filter (λ u. is_eq (key_cmp t u)) ts
keys_keep_elements ts t = keeps_alike key_cmp_total ts t
