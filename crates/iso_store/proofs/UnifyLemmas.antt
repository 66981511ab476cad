-- What is left to do of making two terms equal, and what is done by a step.
use Rattle.std.proofs.Common.{◌≡◌, ◌==◌, ℕ, zero, suc, ◌+◌, ◌<◌, List, [], ◌∷◌, ◌++◌, length, map, drop, true, refl, ap, ap₂, sym, ◌∙◌, subst, subst₂, arith, append_assoc, append-nil, length-append, Some, Bool}
use Rattle.std.specs.List.{All}
use Rattle.std.proofs.lemmas.Bool.{eqb-true}
use Rattle.std.proofs.lemmas.List.{nil_from_length, length-map, drop-map, map-append}
use Rattle.std.proofs.lemmas.List.Elements.{All-head, All-tail, All-push, All-pop}
use Rattle.iso_model.specs.Terms.Trees.{Tree, Variable, Apply, row, count}
use Rattle.iso_model.specs.Terms.Sorts.{is_term}
use Rattle.iso_model.specs.Terms.Substitutions.{Subst, apply, compose}
use Rattle.iso_model.specs.Terms.Unifiers.{Unifier, NeverEqual}
use Rattle.iso_model.specs.Terms.Unification.Applied.{apply_apply, apply_none}
use Rattle.iso_model.specs.Terms.Unification.Composed.{never_first, unifier_same}
use Rattle.iso_model.proofs.OnTerms.CostOfRows.{apply-row}
use Rattle.iso_store.specs.declared.notes.Notes.{Notes}
use Rattle.iso_store.specs.declared.unify.Task.{Task}
use Rattle.iso_store.specs.declared.unify.Task.TheVariants.{Arguments, Join}
use Rattle.iso_store_core.specs.Presents.{Present, Holds, meaning, Binds}
use Rattle.iso_store_core.specs.Arguments.{arity, argument, members_from, listed, arguments_from}
use Rattle.iso_store.specs.Meetings.{IsMeeting}
use Rattle.iso_store.specs.declared.meetings.Meeting.TheVariants.{Arguments}
use Rattle.iso_store.specs.Unifying.{MakesEqual, IsCompound, IsPair, terms, ones, others, AreSound, AreJoined, Stands, Steps}
use Rattle.iso_store.proofs.Bound.{binds-meaning, binds-none}
use Rattle.iso_store.proofs.ArgumentLemmas.{row_of_term, row-listed, length-listed, arguments-more, arguments-last}
use Rattle.iso_store.proofs.LeftLemmas.{equal-both, equal-parts, left-none, left-solved, left-opened}

pub All-front : {X : Type 0} (P : X → Type 0) (xs : List X) (x : X) → All P (xs ++ x ∷ []) → All P xs
All-front P xs x all = (All-pop P (xs ++ x ∷ []) xs (Some x) refl all).0

pub All-last : {X : Type 0} (P : X → Type 0) (xs : List X) (x : X) → All P (xs ++ x ∷ []) → P x
All-last P xs x all = (All-pop P (xs ++ x ∷ []) xs (Some x) refl all).1

-- ---- compounds
from-row : (i : ℕ) (ts : List Tree) → listed (members_from i (row ts)) ≡ drop i ts
from-row zero [] = refl
from-row zero (t ∷ ts) = ap (λ us. t ∷ us) (from-row zero ts)
from-row (suc i) [] = refl
from-row (suc i) (t ∷ ts) = from-row i ts

pub arguments-compound : (i : ℕ) (f : List ℕ) (ts : List Tree) (t : Tree) → t ≡ Apply f (row ts) → arguments_from i t ≡ drop i ts
arguments-compound i f ts t is = ap (arguments_from i) is ∙ from-row i ts

pub count-row : (ts : List Tree) → count (row ts) ≡ length ts
count-row [] = refl
count-row (t ∷ ts) = omega (arith, count-row ts)

pub compound-arity : (n : ℕ) (t : Tree) → IsCompound n t → arity t ≡ n
compound-arity n t c = ap arity c.2 ∙ count-row c.1 ∙ c.3

pub compound-applied : (n : ℕ) (t : Tree) (s : Subst) → IsCompound n t → IsCompound n (apply s t)
compound-applied n t s c = (c.0, map (apply s) c.1, ap (apply s) c.2 ∙ ap (Apply c.0) (apply-row s c.1), length-map c.1 (apply s) ∙ c.3)

pub arguments-applied : (i n : ℕ) (t : Tree) (s : Subst) → IsCompound n t → arguments_from i (apply s t) ≡ map (apply s) (arguments_from i t)
unfolding compound-applied
arguments-applied i n t s c =
    let now = compound-applied n t s c in
    arguments-compound i now.0 now.1 (apply s t) now.2 ∙ drop-map (apply s) i c.1 ∙ ap (map (apply s)) (sym (arguments-compound i c.0 c.1 t c.2))

pub compound-same : (n : ℕ) (t u : Tree) → t ≡ u → IsCompound n t → IsCompound n u
compound-same n t u same c = (c.0, c.1, sym same ∙ c.2, c.3)

-- ---- bindings
pub pair-bound : {W : Type 0} {p q : Present W} {s : Subst} → Binds p q s → (k : Task W) → IsPair p k → IsPair q k
pair-bound {s = s} bound (Arguments w v i n) pair = (
  bound.words.stand w pair.0,
  bound.words.stand v pair.1,
  pair.2,
  compound-same n _ _ (sym (binds-meaning bound w pair.0)) (compound-applied n _ s pair.3),
  compound-same n _ _ (sym (binds-meaning bound v pair.1)) (compound-applied n _ s pair.4),
)
pair-bound bound (Join w v) pair = (bound.words.stand w pair.0, bound.words.stand v pair.1)

-- a side of a pair
abbrev Picks : {W : Type 0} → (W → W → W) → Type 1
Picks {W} side = (P : W → Type 0) (w v : W) → P w → P v → P (side w v)

module _ {W : Type 0} (p : Present W) where
  pub terms-append : (side : W → W → W) (now : List Tree) (xs ys : List (Task W)) → terms p side now (xs ++ ys) ≡ terms p side (terms p side now ys) xs
  terms-append side now [] ys = refl
  terms-append side now (Arguments w v i n ∷ xs) ys = ap (λ us. us ++ arguments_from i (meaning p (side w v))) (terms-append side now xs ys)
  terms-append side now (Join w v ∷ xs) ys = terms-append side now xs ys

  pub terms-now : (side : W → W → W) (now : List Tree) (xs : List (Task W)) → terms p side now xs ≡ now ++ terms p side [] xs
  terms-now side now [] = sym (append-nil now)
  terms-now side now (Arguments w v i n ∷ xs) =
      ap (λ us. us ++ arguments_from i (meaning p (side w v))) (terms-now side now xs) ∙ append_assoc now (terms p side [] xs) (arguments_from i (meaning p (side w v)))
  terms-now side now (Join w v ∷ xs) = terms-now side now xs

  pub sound-append : (us vs : List Tree) (xs ys : List (Task W)) → AreSound p (ones p us ys) (others p vs ys) xs → AreSound p us vs ys → AreSound p us vs (xs ++ ys)
  sound-append us vs [] ys front end = end
  sound-append us vs (Arguments w v i n ∷ xs) ys front end = sound-append us vs xs ys front end
  sound-append us vs (Join w v ∷ xs) ys front end =
      ((λ s e. front.0 s (subst₂ (MakesEqual s) (terms-append (λ one other. one) us xs ys) (terms-append (λ one other. other) vs xs ys) e)), sound-append us vs xs ys front.1 end)

  pub sound-parts : (us vs : List Tree) (xs ys : List (Task W)) → AreSound p us vs (xs ++ ys) → AreSound p (ones p us ys) (others p vs ys) xs × AreSound p us vs ys
  sound-parts us vs [] ys sound = (tt, sound)
  sound-parts us vs (Arguments w v i n ∷ xs) ys sound = sound-parts us vs xs ys sound
  sound-parts us vs (Join w v ∷ xs) ys sound =
      let parts = sound-parts us vs xs ys sound.1 in
      (((λ s e. sound.0 s (subst₂ (MakesEqual s) (sym (terms-append (λ one other. one) us xs ys)) (sym (terms-append (λ one other. other) vs xs ys)) e)), parts.0), parts.1)

  -- other terms stand before those of the tasks, and only what makes the first ones equal makes these equal
  pub sound-instead : (us vs cs ds : List Tree) (xs : List (Task W)) → length cs ≡ length ds → ((s : Subst) → MakesEqual s cs ds → MakesEqual s us vs) → AreSound p us vs xs → AreSound p cs ds xs
  sound-instead us vs cs ds [] same back sound = tt
  sound-instead us vs cs ds (Arguments w v i n ∷ xs) same back sound = sound-instead us vs cs ds xs same back sound
  sound-instead us vs cs ds (Join w v ∷ xs) same back sound = (
    (λ s e.
        let whole = subst₂ (MakesEqual s) (terms-now (λ one other. one) cs xs) (terms-now (λ one other. other) ds xs) e in
        let parts = equal-parts s cs ds (ones p [] xs) (others p [] xs) same whole in
        let old = equal-both s us vs (ones p [] xs) (others p [] xs) (back s parts.0) parts.1 in
        sound.0 s (subst₂ (MakesEqual s) (sym (terms-now (λ one other. one) us xs)) (sym (terms-now (λ one other. other) vs xs)) old)),
    sound-instead us vs cs ds xs same back sound.1,
  )

-- once s is bound
module _ {W : Type 0} {p q : Present W} {s : Subst} (bound : Binds p q s) where
  pub pairs-bound : (xs : List (Task W)) → All (IsPair p) xs → All (IsPair q) xs
  pairs-bound xs pairs k d below = pair-bound bound _ (pairs k d below)

  terms-bound : (side : W → W → W) → Picks side → (xs : List (Task W)) → All (IsPair p) xs → terms q side [] xs ≡ map (apply s) (terms p side [] xs)
  terms-bound side picks [] pairs = refl
  terms-bound side picks (Arguments w v i n ∷ xs) pairs =
      let pair = All-head (IsPair p) (Arguments w v i n) xs pairs in
      let inner = terms-bound side picks xs (All-tail (IsPair p) (Arguments w v i n) xs pairs) in
      let here = binds-meaning bound (side w v) (picks (Holds p) w v pair.0 pair.1) in
      let arguments = ap (arguments_from i) here ∙ arguments-applied i n (meaning p (side w v)) s (picks (λ u. IsCompound n (meaning p u)) w v pair.3 pair.4) in
      ap₂ ◌++◌ inner arguments ∙ sym (map-append (apply s) (terms p side [] xs) (arguments_from i (meaning p (side w v))))
  terms-bound side picks (Join w v ∷ xs) pairs = terms-bound side picks xs (All-tail (IsPair p) (Join w v) xs pairs)

  pub ones-bound : (xs : List (Task W)) → All (IsPair p) xs → ones q [] xs ≡ map (apply s) (ones p [] xs)
  ones-bound = terms-bound (λ one other. one) (λ P w v a b. a)

  pub others-bound : (xs : List (Task W)) → All (IsPair p) xs → others q [] xs ≡ map (apply s) (others p [] xs)
  others-bound = terms-bound (λ one other. other) (λ P w v a b. b)

  applied : (u : Subst) (us : List Tree) → apply u (row (map (apply s) us)) ≡ apply (compose s u) (row us)
  applied u us = ap (apply u) (sym (apply-row s us)) ∙ apply_apply s u (row us)

  -- the terms a and b are equal now
  pub sound-bound : (a b : Tree) → apply s a ≡ apply s b → (xs : List (Task W)) → All (IsPair p) xs → AreSound p (a ∷ []) (b ∷ []) xs → AreSound q [] [] xs
  sound-bound a b equal [] pairs sound = tt
  sound-bound a b equal (Arguments w v i n ∷ xs) pairs sound = sound-bound a b equal xs (All-tail (IsPair p) (Arguments w v i n) xs pairs) sound
  sound-bound a b equal (Join w v ∷ xs) pairs sound =
      let later = All-tail (IsPair p) (Join w v) xs pairs in
      let pair = All-head (IsPair p) (Join w v) xs pairs in (
        (λ u e.
            let others_equal : MakesEqual (compose s u) (ones p [] xs) (others p [] xs) =
            sym (ap (λ us. apply u (row us)) (ones-bound xs later) ∙ applied u (ones p [] xs)) ∙ e ∙ ap (λ us. apply u (row us)) (others-bound xs later) ∙ applied u (others p [] xs) in
            let first : apply (compose s u) a ≡ apply (compose s u) b = sym (apply_apply s u a) ∙ ap (apply u) equal ∙ apply_apply s u b in
            let whole = equal-both (compose s u) (a ∷ []) (b ∷ []) (ones p [] xs) (others p [] xs) (cc) others_equal in
            let joined = sound.0 (compose s u) (subst₂ (MakesEqual (compose s u)) (sym (terms-now p (λ one other. one) (a ∷ []) xs)) (sym (terms-now p (λ one other. other) (b ∷ []) xs)) whole) in
            ap (apply u) (binds-meaning bound w pair.0) ∙ apply_apply s u (meaning p w) ∙ joined ∙ sym (ap (apply u) (binds-meaning bound v pair.1) ∙ apply_apply s u (meaning p v))),
        sound-bound a b equal xs later sound.1,
      )

  -- the first two terms are made equal
  pub steps-solved : (a b : Tree) → Unifier a b s → (xs : List (Task W)) → All (IsPair p) xs → Steps p q (a ∷ []) (b ∷ []) xs xs
  steps-solved a b solved xs pairs =
      let one = terms-now p (λ one other. one) (a ∷ []) xs in
      let other = terms-now p (λ one other. other) (b ∷ []) xs in
      record {
        bound = (s, rw (one, other, ones-bound xs pairs, others-bound xs pairs) (left-solved a b (ones p [] xs) (others p [] xs) s solved), bound);
        falls = λ m measures.
            let less = measures.solved a b (ones p [] xs) (others p [] xs) s solved in
            rw (one, other, ones-bound xs pairs, others-bound xs pairs) (omega arith);
      }

-- ---- two compounds of one name are to be made equal
-- two compounds of one name, each with so many arguments
pub record Opened (n : ℕ) (a b : Tree) : Type 0 where
  pub name : List ℕ
  pub left : List Tree
  pub right : List Tree
  pub left_is : a ≡ Apply name (row left)
  pub right_is : b ≡ Apply name (row right)
  pub left_many : length left ≡ n
  pub right_many : length right ≡ n
  pub some : 0 < n

pub row-of : (n : ℕ) (f : List ℕ) (t ts : Tree) → t ≡ Apply f ts → count ts ≡ n → is_term t ≡ true → (t ≡ Apply f (row (listed ts))) × (length (listed ts) ≡ n)
row-of n f t ts is many sort =
    let row = row-listed ts (row_of_term f ts (ap is_term (sym is) ∙ sort)).2 in
    (is ∙ ap (Apply f) (sym row), length-listed ts ∙ many)

pub opened : (n : ℕ) (a b : Tree) → IsMeeting (Arguments n) a b → is_term a ≡ true → is_term b ≡ true → Opened n a b
opened n a b meets sort_a sort_b =
    let one = row-of n meets.0 a meets.1 meets.3 meets.5 sort_a in
    let other = row-of n meets.0 b meets.2 meets.4 meets.6 sort_b in
    let above = (row_of_term meets.0 meets.1 (ap is_term (sym meets.3) ∙ sort_a)).0 in
    record {
      name = meets.0;
      left = listed meets.1;
      right = listed meets.2;
      left_is = one.0;
      right_is = other.0;
      left_many = one.1;
      right_many = other.1;
      some = let many = meets.5 in omega arith;
    }

module _ {W : Type 0} (p : Present W) (xs ys zs : List (Task W)) (w v : W) (n : ℕ) (a b : Tree) (one : meaning p w ≡ a) (other : meaning p v ≡ b) (o : Opened n a b)
    (first : ys ≡ xs ++ Join w v ∷ []) (second : zs ≡ ys ++ Arguments w v 0 n ∷ []) where
  both : zs ≡ xs ++ Join w v ∷ Arguments w v 0 n ∷ []
  both = second ∙ ap (λ ks. ks ++ Arguments w v 0 n ∷ []) first ∙ append_assoc xs (Join w v ∷ []) (Arguments w v 0 n ∷ [])

  left_arguments : arguments_from 0 (meaning p w) ≡ o.left
  left_arguments = arguments-compound 0 o.name o.left (meaning p w) (one ∙ o.left_is)

  right_arguments : arguments_from 0 (meaning p v) ≡ o.right
  right_arguments = arguments-compound 0 o.name o.right (meaning p v) (other ∙ o.right_is)

  pub ones-opened : ones p [] zs ≡ o.left ++ ones p [] xs
  ones-opened =
      ap (ones p []) both ∙ terms-append p (λ one other. one) [] xs (Join w v ∷ Arguments w v 0 n ∷ []) ∙ ap (λ us. ones p us xs) left_arguments ∙ terms-now p (λ one other. one) o.left xs

  pub others-opened : others p [] zs ≡ o.right ++ others p [] xs
  others-opened =
      ap (others p []) both ∙ terms-append p (λ one other. other) [] xs (Join w v ∷ Arguments w v 0 n ∷ []) ∙ ap (λ us. others p us xs) right_arguments ∙ terms-now p (λ one other. other) o.right xs

  pub ones-before : ones p (a ∷ []) xs ≡ Apply o.name (row o.left) ∷ ones p [] xs
  ones-before = terms-now p (λ one other. one) (a ∷ []) xs ∙ ap (λ t. t ∷ ones p [] xs) o.left_is

  pub others-before : others p (b ∷ []) xs ≡ Apply o.name (row o.right) ∷ others p [] xs
  others-before = terms-now p (λ one other. other) (b ∷ []) xs ∙ ap (λ t. t ∷ others p [] xs) o.right_is

  same : length o.left ≡ length o.right
  same = o.left_many ∙ sym o.right_many

  -- one pair less, and its arguments
  pub steps-opened : Steps p p (a ∷ []) (b ∷ []) xs zs
  steps-opened = record {
    bound = (Variable, rw (ones-before, others-before, ones-opened, others-opened) (left-opened o.name o.left o.right (ones p [] xs) (others p [] xs) same), binds-none p);
    falls = λ m measures.
        let less = measures.opened o.name o.left o.right (ones p [] xs) (others p [] xs) same in
        let size : length zs ≡ length xs + 2 = ap length both ∙ omega (arith, length-append xs (Join w v ∷ Arguments w v 0 n ∷ [])) in
        rw (ones-before, others-before, ones-opened, others-opened) (omega arith);
  }

  makes-same : (s : Subst) → MakesEqual s o.left o.right → apply s a ≡ apply s b
  makes-same s e = ap (apply s) o.left_is ∙ ap (Apply o.name) e ∙ ap (apply s) (sym o.right_is)

  sound-opened : AreSound p (a ∷ []) (b ∷ []) xs → AreSound p [] [] zs
  sound-opened sound =
      let now = sound-instead p (a ∷ []) (b ∷ []) o.left o.right xs same (λ s e. let t : apply s a ≡ apply s b = makes-same s e in (cc)) sound in
      let front = subst₂ (λ us vs. AreSound p us vs xs) (sym left_arguments) (sym right_arguments) now in
      rw both
      (sound-append p [] [] xs (Join w v ∷ Arguments w v 0 n ∷ []) front
      ((
        (λ s e.
            let inner : MakesEqual s o.left o.right = subst₂ (MakesEqual s) left_arguments right_arguments e in
            ap (apply s) one ∙ makes-same s inner ∙ ap (apply s) (sym other)),
        tt,
      )))

  pub stands-opened : (at : ℕ → Tree) (old new : Notes W) → p.holds w ≡ true → p.holds v ≡ true → Stands p at old (a ∷ []) (b ∷ []) xs → AreJoined p at new → Stands p at new [] [] zs
  stands-opened at old new holds_w holds_v stands joins = record {
    pairs =
        rw second
        (All-push (IsPair p) ys (Arguments w v 0 n) (rw first (All-push (IsPair p) xs (Join w v) stands.pairs (holds_w, holds_v)))
        (holds_w, holds_v, o.some, (o.name, o.left, one ∙ o.left_is, o.left_many), (o.name, o.right, other ∙ o.right_is, o.right_many)));
    sound = sound-opened stands.sound;
    joins = joins;
  }

pub no_tasks : {X : Type 0} (xs : List X) (n : ℕ) (none : Bool) → n ≡ length xs → none ≡ (n == 0) → none ≡ true → xs ≡ []
no_tasks xs n none is test e = nil_from_length xs (sym is ∙ eqb-true n 0 (sym test ∙ e))

-- they alone are left, so they need not be joined
module _ {W : Type 0} (p : Present W) (zs : List (Task W)) (w v : W) (n : ℕ) (a b : Tree) (one : meaning p w ≡ a) (other : meaning p v ≡ b) (o : Opened n a b)
    (alone : zs ≡ Arguments w v 0 n ∷ []) where
  pub steps-alone : Steps p p (a ∷ []) (b ∷ []) [] zs
  steps-alone =
      let joined = steps-opened p [] (Join w v ∷ []) (Join w v ∷ Arguments w v 0 n ∷ []) w v n a b one other o refl refl in
      rw alone (record { bound = joined.bound; falls = λ m measures. let less = joined.falls m measures in omega arith })

  pub stands-alone : (at : ℕ → Tree) (joined : Notes W) → p.holds w ≡ true → p.holds v ≡ true → AreJoined p at joined → Stands p at joined [] [] zs
  stands-alone at joined holds_w holds_v joins = record {
    pairs =
        rw alone
        (All-push (IsPair p) [] (Arguments w v 0 n) (λ k d below. absurd (omega arith))
        (holds_w, holds_v, o.some, (o.name, o.left, one ∙ o.left_is, o.left_many), (o.name, o.right, other ∙ o.right_is, o.right_many)));
    sound = rw alone tt;
    joins = joins;
  }

-- ---- the arguments of two compounds, one after another
module _ {W : Type 0} (p : Present W) (xs : List (Task W)) (w v : W) (i n : ℕ) (below : i < n) (left : IsCompound n (meaning p w)) (right : IsCompound n (meaning p v)) (a b : Tree)
    (one : a ≡ argument i (meaning p w)) (other : b ≡ argument i (meaning p v)) where
  ones-popped : ones p [] (xs ++ Arguments w v i n ∷ []) ≡ ones p (arguments_from i (meaning p w)) xs
  ones-popped = terms-append p (λ one other. one) [] xs (Arguments w v i n ∷ [])

  others-popped : others p [] (xs ++ Arguments w v i n ∷ []) ≡ others p (arguments_from i (meaning p v)) xs
  others-popped = terms-append p (λ one other. other) [] xs (Arguments w v i n ∷ [])

  left_more : arguments_from i (meaning p w) ≡ a ∷ arguments_from (i + 1) (meaning p w)
  left_more = arguments-more i n (meaning p w) a below (compound-arity n (meaning p w) left) one

  right_more : arguments_from i (meaning p v) ≡ b ∷ arguments_from (i + 1) (meaning p v)
  right_more = arguments-more i n (meaning p v) b below (compound-arity n (meaning p v) right) other

  -- nothing makes these arguments equal
  pub never-popped : NeverEqual a b → NeverEqual (row (ones p [] (xs ++ Arguments w v i n ∷ []))) (row (others p [] (xs ++ Arguments w v i n ∷ [])))
  never-popped never =
      rw (ones-popped, others-popped, terms-now p (λ one other. one) (arguments_from i (meaning p w)) xs, terms-now p (λ one other. other) (arguments_from i (meaning p v)) xs, left_more, right_more)
      (never_first a b _ _ never)

  -- the last arguments
  module _ (last : i + 1 ≡ n) where
    left_last : arguments_from i (meaning p w) ≡ a ∷ []
    left_last = arguments-last i n (meaning p w) a below (compound-arity n (meaning p w) left) one last

    right_last : arguments_from i (meaning p v) ≡ b ∷ []
    right_last = arguments-last i n (meaning p v) b below (compound-arity n (meaning p v) right) other last

    pub stands-last : (at : ℕ → Tree) (joined : Notes W) → Stands p at joined [] [] (xs ++ Arguments w v i n ∷ []) → Stands p at joined (a ∷ []) (b ∷ []) xs
    stands-last at joined stands = record {
      pairs = All-front (IsPair p) xs (Arguments w v i n) stands.pairs;
      sound = subst₂ (λ us vs. AreSound p us vs xs) left_last right_last ((sound-parts p [] [] xs (Arguments w v i n ∷ []) stands.sound).0);
      joins = stands.joins;
    }

    pub ones-last : ones p [] (xs ++ Arguments w v i n ∷ []) ≡ ones p (a ∷ []) xs
    ones-last = ones-popped ∙ ap (λ us. ones p us xs) left_last

    pub others-last : others p [] (xs ++ Arguments w v i n ∷ []) ≡ others p (b ∷ []) xs
    others-last = others-popped ∙ ap (λ us. others p us xs) right_last

    pub steps-last : (q : Present W) (new : List (Task W)) → Steps p q (a ∷ []) (b ∷ []) xs new → Steps p q [] [] (xs ++ Arguments w v i n ∷ []) new
    steps-last q new steps = record {
      bound = rw (ones-last, others-last) steps.bound;
      falls = λ m measures.
          let less = steps.falls m measures in
          let size = length-append xs (Arguments w v i n ∷ []) in
          rw (ones-last, others-last) (omega arith);
    }

  -- others behind them
  module _ (ys : List (Task W)) (more : ys ≡ xs ++ Arguments w v (i + 1) n ∷ []) where
    pub stands-more : (at : ℕ → Tree) (joined : Notes W) → i + 1 < n → Stands p at joined [] [] (xs ++ Arguments w v i n ∷ []) → Stands p at joined (a ∷ []) (b ∷ []) ys
    stands-more at joined within stands =
        let pair = All-last (IsPair p) xs (Arguments w v i n) stands.pairs in
        rw more (record {
          pairs = All-push (IsPair p) xs (Arguments w v (i + 1) n) (All-front (IsPair p) xs (Arguments w v i n) stands.pairs) (pair.0, pair.1, within, pair.3, pair.4);
          sound = sound-append p (a ∷ []) (b ∷ []) xs (Arguments w v (i + 1) n ∷ []) (subst₂ (λ us vs. AreSound p us vs xs) left_more right_more ((sound-parts p [] [] xs (Arguments w v i n ∷ []) stands.sound).0)) tt;
          joins = stands.joins;
        })

    pub ones-more : ones p [] (xs ++ Arguments w v i n ∷ []) ≡ ones p (a ∷ []) ys
    ones-more = ones-popped ∙ ap (λ us. ones p us xs) left_more ∙ sym (ap (ones p (a ∷ [])) more ∙ terms-append p (λ one other. one) (a ∷ []) xs (Arguments w v (i + 1) n ∷ []))

    pub others-more : others p [] (xs ++ Arguments w v i n ∷ []) ≡ others p (b ∷ []) ys
    others-more = others-popped ∙ ap (λ us. others p us xs) right_more ∙ sym (ap (others p (b ∷ [])) more ∙ terms-append p (λ one other. other) (b ∷ []) xs (Arguments w v (i + 1) n ∷ []))

    pub steps-more : (q : Present W) (new : List (Task W)) → Steps p q (a ∷ []) (b ∷ []) ys new → Steps p q [] [] (xs ++ Arguments w v i n ∷ []) new
    steps-more q new steps = record {
      bound = rw (ones-more, others-more) steps.bound;
      falls = λ m measures.
          let less = steps.falls m measures in
          let old = length-append xs (Arguments w v i n ∷ []) in
          let pushed = ap length more ∙ length-append xs (Arguments w v (i + 1) n ∷ []) in
          rw (ones-more, others-more) (omega arith);
    }

-- ---- words that are joined
module _ {W : Type 0} (p : Present W) (xs : List (Task W)) (w v : W) where
  -- they stand for one term, as nothing is left before the task
  pub join-equal : AreSound p [] [] (xs ++ Join w v ∷ []) → meaning p w ≡ meaning p v
  join-equal sound =
      let here = (sound-parts p [] [] xs (Join w v ∷ []) sound).1.0 Variable refl in
      sym (apply_none (meaning p w)) ∙ here ∙ apply_none (meaning p v)

  pub stands-joined : (at : ℕ → Tree) (old new : Notes W) → Stands p at old [] [] (xs ++ Join w v ∷ []) → AreJoined p at new → Stands p at new [] [] xs
  stands-joined at old new stands joins = record {
    pairs = All-front (IsPair p) xs (Join w v) stands.pairs;
    sound = (sound-parts p [] [] xs (Join w v ∷ []) stands.sound).0;
    joins = joins;
  }

  pub steps-joined : Steps p p [] [] (xs ++ Join w v ∷ []) xs
  steps-joined =
      let ones_same = terms-append p (λ one other. one) [] xs (Join w v ∷ []) in
      let others_same = terms-append p (λ one other. other) [] xs (Join w v ∷ []) in
      record {
        bound = (Variable, rw (ones_same, others_same) (left-none (ones p [] xs) (others p [] xs)), binds-none p);
        falls = λ m measures. let size = length-append xs (Join w v ∷ []) in rw (ones_same, others_same) (omega arith);
      }

-- ---- two terms are equal now
pub stands-solved : {W : Type 0} {p q : Present W} {s : Subst} (bound : Binds p q s) (at now : ℕ → Tree) (old new : Notes W) (a b : Tree) (xs : List (Task W)) → apply s a ≡ apply s b → Stands p at old (a ∷ []) (b ∷ []) xs → AreJoined q now new → Stands q now new [] [] xs
stands-solved bound at now old new a b xs equal stands joins = record {
  pairs = pairs-bound bound xs stands.pairs;
  sound = sound-bound bound a b equal xs stands.pairs stands.sound;
  joins = joins;
}

-- and were so before
module _ {W : Type 0} (p : Present W) (at : ℕ → Tree) (old new : Notes W) (a b : Tree) (xs : List (Task W)) (equal : a ≡ b) (stands : Stands p at old (a ∷ []) (b ∷ []) xs) where
  pub stands-same : AreJoined p at new → Stands p at new [] [] xs
  stands-same joins = stands-solved (binds-none p) at at old new a b xs (ap (apply Variable) equal) stands joins

  pub steps-same : Steps p p (a ∷ []) (b ∷ []) xs xs
  steps-same = steps-solved (binds-none p) a b (subst (λ t. Unifier a t Variable) equal (unifier_same a)) xs stands.pairs
