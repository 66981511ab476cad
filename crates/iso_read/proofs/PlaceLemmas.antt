-- The places of names, where one more name stands behind them.
use Rattle.std.proofs.Common.{◌≡◌, ℕ, Bool, true, false, if◌then◌else◌, List, [], ◌∷◌, ◌++◌, length, Some, None, refl, ap, sym, ◌∙◌, arith, codes, not, nat_cmp, inl, inr}
use Rattle.std.specs.Borrow.{Bor}
use Rattle.std.specs.List.{position}
use Rattle.std.specs.Str.{bytes_eq}
use Rattle.std.specs.BTreeMap as tree
use Rattle.std.specs.Cmp.Lexicographic.{slice_cmp}
use Rattle.std.specs.declared.collections.BTreeMap.{BTreeMap}
use Rattle.std.specs.declared.alloc.Global.{Global}
use Rattle.std.proofs.lemmas.Bool.{cases_Bool}
use Rattle.std.proofs.lemmas.Grind.{common_steps}
use Rattle.std.proofs.lemmas.List.{map-append, length-map}
use Rattle.std.proofs.lemmas.List.Folds.{position_or_len_push}
use Rattle.std.proofs.lemmas.List.Sums.{prefix_len-le-length}
use Rattle.std.proofs.lemmas.Map.Text.{btree_map_updates_str}
use Rattle.std.proofs.lemmas.Slice.Eq.{bytes_eq-Decides}
use Rattle.iso_model.specs.Syntax.Grammar.{name_place}
use Rattle.iso_read.specs.Places.{texts_of, ArePlaced}

position-past : {X : Type 0} (p : X → Bool) (xs : List X) (y : X) → p y ≡ false → position p (xs ++ y ∷ []) ≡ position p xs
position-past p xs y h = grind (arith, common_steps, position_or_len_push p xs y, h)

position-last : {X : Type 0} (p : X → Bool) (xs : List X) (y : X) → p y ≡ true → position p xs ≡ None → position p (xs ++ y ∷ []) ≡ Some (length xs)
position-last p xs y h none = grind (arith, common_steps, position_or_len_push p xs y, prefix_len-le-length (λ x. not (p x)) xs, h)

-- another name keeps its place
name_place-past : (text name : List ℕ) (names : List (List ℕ)) → bytes_eq name text ≡ false → name_place text (names ++ name ∷ []) ≡ name_place text names
name_place-past text name names other = ap (λ place. if bytes_eq text (codes "_") then None else place) (position-past (λ n. bytes_eq n text) names name other)

-- a new name but `_` has the last place
name_place-last : (name : List ℕ) (names : List (List ℕ)) → bytes_eq name (codes "_") ≡ false → name_place name names ≡ None → name_place name (names ++ name ∷ []) ≡ Some (length names)
name_place-last name names named new =
    let none : position (λ n. bytes_eq n name) names ≡ None = rw named at new in
    rw named (position-last (λ n. bytes_eq n name) names name ((bytes_eq-Decides name name).1 refl) none)

-- `_` has no place
anonymous_place : (text : List ℕ) (names more : List (List ℕ)) → bytes_eq text (codes "_") ≡ true → name_place text names ≡ name_place text more
anonymous_place text names more h = rw h refl

module _ (names more : List (Bor (List ℕ))) (name : Bor (List ℕ)) (is : more ≡ names ++ name ∷ []) where
  texts : texts_of more ≡ texts_of names ++ name.now ∷ []
  texts = ap texts_of is ∙ map-append (λ n. n.now) names (name ∷ [])

  pub placed_with_anonymous : (places : BTreeMap (Bor (List ℕ)) ℕ Global) → bytes_eq name.now (codes "_") ≡ true → ArePlaced places (texts_of names) → ArePlaced places (texts_of more)
  placed_with_anonymous places anonymous placed text =
      placed text ∙ elim (cases_Bool (bytes_eq name.now text)) [
        | inl same ↦ anonymous_place text (texts_of names) (texts_of more) (ap (λ n. bytes_eq n (codes "_")) (sym ((bytes_eq-Decides name.now text).0 same)) ∙ anonymous)
        | inr other ↦ sym (ap (name_place text) texts ∙ name_place-past text name.now (texts_of names) other)
      ]

  pub placed_with_named : (places after : BTreeMap (Bor (List ℕ)) ℕ Global) (n : ℕ) → bytes_eq name.now (codes "_") ≡ false → name_place name.now (texts_of names) ≡ None → n ≡ length names
      → tree.UpdatesBy (λ x y. slice_cmp nat_cmp x.now y.now) (λ k. slice_cmp nat_cmp name.now k.now) places after (Some n)
      → ArePlaced places (texts_of names) → ArePlaced after (texts_of more)
  placed_with_named places after n named new count updates placed text =
      btree_map_updates_str name.now places after (Some n) updates text ∙ elim (cases_Bool (bytes_eq name.now text)) [
        | inl same ↦ rw same (ap Some (count ∙ sym (length-map names (λ k. k.now))) ∙ sym (name_place-last name.now (texts_of names) named new)
            ∙ ap (λ k. name_place k (texts_of names ++ name.now ∷ [])) ((bytes_eq-Decides name.now text).0 same) ∙ sym (ap (name_place text) texts))
        | inr other ↦ rw other (placed text ∙ sym (ap (name_place text) texts ∙ name_place-past text name.now (texts_of names) other))
      ]
