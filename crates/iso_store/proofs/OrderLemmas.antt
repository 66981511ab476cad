-- How what is left of two terms compares.
use Rattle.std.proofs.Common.{◌≡◌, ℕ, ◌+◌, ◌<◌, List, [], ◌∷◌, ◌++◌, length, refl, ap, ap₂, sym, ◌∙◌, arith, Less, Equal, Greater, not, ◌==◌, true, false, inl, inr}
use Rattle.std.proofs.lemmas.Cmp.{tied_itself}
use Rattle.std.specs.Cmp.{nat_cmp_total}
use Rattle.std.specs.Cmp.Lexicographic.{slice_cmp, nat_list_cmp_total}
use Rattle.std.specs.declared.cmp.Ordering.{Ordering}
use Rattle.std.proofs.lemmas.Bool.{false≢true}
use Rattle.std.specs.Ordering.{nat_cmp, ordering_then, ordering_index}
use Rattle.iso_model.specs.Terms.Trees.{Tree, Variable, Name, Apply, row, count}
use Rattle.iso_model.specs.Terms.Order.{term_cmp}
use Rattle.iso_model.proofs.OnTerms.OrderLemmas.{identical, alike_itself}
use Rattle.iso_store.specs.declared.unify.Task.{Task}
use Rattle.iso_store.specs.declared.unify.Task.TheVariants.{Arguments, Join}
use Rattle.iso_store_core.specs.Presents.{Present, meaning}
use Rattle.iso_store_core.specs.Arguments.{argument}
use Rattle.iso_store.specs.Unifying.{IsCompound, ones, others}
use Rattle.iso_store.specs.declared.order.Comparison.TheVariants.{Arguments}
use Rattle.iso_store.specs.Comparing.{IsComparison, order_left}
use Rattle.iso_store.proofs.PairLemmas.{Behind, some-behind}
use Rattle.iso_store.proofs.UnifyLemmas.{Opened, terms-now, terms-append, ones-opened, others-opened, ones-before, others-before, ones-last, others-last, ones-more, others-more, count-row}

-- names and numbers that stand alike are one
one-name : (a b : List ℕ) → slice_cmp nat_cmp a b ≡ Equal → a ≡ b
one-name a b e = let whole = identical (Name a) (Name b) e in cc

one-number : (m n : ℕ) → nat_cmp m n ≡ Equal → m ≡ n
one-number m n e = let whole = identical (Variable m) (Variable n) e in cc

then-assoc : (a b c : Ordering) → ordering_then a (ordering_then b c) ≡ ordering_then (ordering_then a b) c
then-assoc Less b c = refl
then-assoc Equal b c = refl
then-assoc Greater b c = refl

-- lists of one length, and then others
rows-append : (us vs cs ds : List Tree) → length us ≡ length vs → term_cmp (row (us ++ cs)) (row (vs ++ ds)) ≡ ordering_then (term_cmp (row us) (row vs)) (term_cmp (row cs) (row ds))
rows-append [] [] cs ds same = refl
rows-append [] (v ∷ vs) cs ds same = absurd (omega arith)
rows-append (u ∷ us) [] cs ds same = absurd (omega arith)
rows-append (u ∷ us) (v ∷ vs) cs ds same =
    ap (ordering_then (term_cmp u v)) (rows-append us vs cs ds (omega arith)) ∙ then-assoc (term_cmp u v) (term_cmp (row us) (row vs)) (term_cmp (row cs) (row ds))

module _ {W : Type 0} (p : Present W) where
  -- two terms, and then those of the tasks
  pub order-first : (a b : Tree) (xs : List (Task W)) → ordering_then (term_cmp a b) (order_left p [] [] xs) ≡ order_left p (a ∷ []) (b ∷ []) xs
  order-first a b xs =
      ap₂ (λ us vs. term_cmp (row us) (row vs)) (sym (terms-now p (λ one other. one) (a ∷ []) xs)) (sym (terms-now p (λ one other. other) (b ∷ []) xs))

  -- these are identical
  pub order-same : (a b : Tree) (xs : List (Task W)) → a ≡ b → order_left p [] [] xs ≡ order_left p (a ∷ []) (b ∷ []) xs
  order-same a b xs same =
      let alike : term_cmp a b ≡ Equal = ap (term_cmp a) (sym same) ∙ alike_itself a in
      ap (λ o. ordering_then o (order_left p [] [] xs)) (sym alike) ∙ order-first a b xs

  -- these are compounds of one name, whose arguments come in their place
  pub order-opened : (xs ys zs : List (Task W)) (w v : W) (n : ℕ) (a b : Tree) (one : meaning p w ≡ a) (other : meaning p v ≡ b) (o : Opened n a b)
      → ys ≡ xs ++ Join w v ∷ [] → zs ≡ ys ++ Arguments w v 0 n ∷ [] → order_left p [] [] zs ≡ order_left p (a ∷ []) (b ∷ []) xs
  order-opened xs ys zs w v n a b one other o first second =
      let new = ap₂ (λ us vs. term_cmp (row us) (row vs)) (ones-opened p xs ys zs w v n a b one other o first second) (others-opened p xs ys zs w v n a b one other o first second) in
      let old = ap₂ (λ us vs. term_cmp (row us) (row vs)) (ones-before p xs ys zs w v n a b one other o first second) (others-before p xs ys zs w v n a b one other o first second) in
      let same = o.left_many ∙ sym o.right_many in
      let many : nat_cmp (count (row o.left)) (count (row o.right)) ≡ Equal =
      ap₂ nat_cmp (count-row o.left ∙ same) (count-row o.right) ∙ tied_itself nat_cmp_total (length o.right) in
      let names : slice_cmp nat_cmp o.name o.name ≡ Equal = tied_itself nat_list_cmp_total o.name in
      let heads : term_cmp (Apply o.name (row o.left)) (Apply o.name (row o.right)) ≡ term_cmp (row o.left) (row o.right) =
      ap₂ (λ x y. ordering_then x (ordering_then y (term_cmp (row o.left) (row o.right)))) many names in
      new ∙ rows-append o.left o.right (ones p [] xs) (others p [] xs) same ∙ ap (λ x. ordering_then x (order_left p [] [] xs)) (sym heads) ∙ sym old

  pub order-alone : (zs : List (Task W)) (w v : W) (n : ℕ) (a b : Tree) (one : meaning p w ≡ a) (other : meaning p v ≡ b) (o : Opened n a b)
      → zs ≡ Arguments w v 0 n ∷ [] → order_left p [] [] zs ≡ order_left p (a ∷ []) (b ∷ []) []
  order-alone zs w v n a b one other o alone = ap (order_left p [] []) alone ∙ order-opened [] (Join w v ∷ []) (Join w v ∷ Arguments w v 0 n ∷ []) w v n a b one other o refl refl

  -- the arguments of two compounds, one after another
  module _ (xs : List (Task W)) (w v : W) (i n : ℕ) (below : i < n) (left : IsCompound n (meaning p w)) (right : IsCompound n (meaning p v)) (a b : Tree)
      (one : a ≡ argument i (meaning p w)) (other : b ≡ argument i (meaning p v)) where
    pub order-last : i + 1 ≡ n → order_left p (a ∷ []) (b ∷ []) xs ≡ order_left p [] [] (xs ++ Arguments w v i n ∷ [])
    order-last last =
        sym (ap₂ (λ us vs. term_cmp (row us) (row vs)) (ones-last p xs w v i n below left right a b one other last) (others-last p xs w v i n below left right a b one other last))

    pub order-more : (ys : List (Task W)) → ys ≡ xs ++ Arguments w v (i + 1) n ∷ [] → order_left p (a ∷ []) (b ∷ []) ys ≡ order_left p [] [] (xs ++ Arguments w v i n ∷ [])
    order-more ys more =
        sym (ap₂ (λ us vs. term_cmp (row us) (row vs)) (ones-more p xs w v i n below left right a b one other ys more) (others-more p xs w v i n below left right a b one other ys more))

  -- words that are joined
  pub order-joined : (xs : List (Task W)) (w v : W) → order_left p [] [] xs ≡ order_left p [] [] (xs ++ Join w v ∷ [])
  order-joined xs w v =
      sym (ap₂ (λ us vs. term_cmp (row us) (row vs)) (terms-append p (λ one other. one) [] xs (Join w v ∷ [])) (terms-append p (λ one other. other) [] xs (Join w v ∷ [])))

-- terms that no step told apart
pub alike : (o : Ordering) → not (ordering_index o == 1) ≡ false → o ≡ Equal
alike Less e = absurd (false≢true (sym e))
alike Equal e = refl
alike Greater e = absurd (false≢true (sym e))

-- where they are told apart, what is behind them counts for nothing
decides : (o x y : Ordering) → not (ordering_index o == 1) ≡ true → ordering_then o x ≡ ordering_then o y
decides Less x y e = refl
decides Equal x y e = absurd (false≢true e)
decides Greater x y e = refl

-- ---- the arguments of two compounds pair by pair
module _ {W : Type 0} (p : Present W) (xs : List (Task W)) (w v : W) (i n : ℕ) (below : i < n) (left : IsCompound n (meaning p w)) (right : IsCompound n (meaning p v)) (a b : Tree)
    (one : a ≡ argument i (meaning p w)) (other : b ≡ argument i (meaning p v)) where
  pub order-behind : (ys : List (Task W)) → Behind w v (i + 1) n xs ys → order_left p (a ∷ []) (b ∷ []) ys ≡ order_left p [] [] (xs ++ Arguments w v i n ∷ [])
  order-behind ys (inl last) = ap (order_left p (a ∷ []) (b ∷ [])) last.1 ∙ order-last p xs w v i n below left right a b one other last.0
  order-behind ys (inr more) = order-more p xs w v i n below left right a b one other ys more.1

  -- the pair is one term
  pub order-equal : (ys : List (Task W)) → Behind w v (i + 1) n xs ys → a ≡ b → order_left p [] [] ys ≡ order_left p [] [] (xs ++ Arguments w v i n ∷ [])
  order-equal ys behind same = order-same p a b ys same ∙ order-behind ys behind

  -- the pair decides
  pub order-decided : (o x : Ordering) → not (ordering_index o == 1) ≡ true → o ≡ term_cmp a b → ordering_then o x ≡ order_left p [] [] (xs ++ Arguments w v i n ∷ [])
  order-decided o x e is =
      let rest = some-behind w v i n xs below in
      decides o x (order_left p [] [] rest.0) e ∙ ap (λ k. ordering_then k (order_left p [] [] rest.0)) is ∙ order-first p a b rest.0 ∙ order-behind rest.0 rest.1

-- two compounds of one name, with one number of arguments
pub arguments-decide : (m n : ℕ) (f g : List ℕ) (ts us : Tree) → nat_cmp m n ≡ Equal → slice_cmp nat_cmp f g ≡ Equal → count ts ≡ m → count us ≡ n → IsComparison (Arguments m) (Apply f ts) (Apply g us)
arguments-decide m n f g ts us arities names many other =
    (f, ts, us, refl, ap (λ h. Apply h us) (sym (one-name f g names)), many, other ∙ sym (one-number m n arities))
