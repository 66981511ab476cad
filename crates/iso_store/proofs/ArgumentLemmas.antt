-- The arguments of a compound, from a place on.
use Rattle.std.proofs.Common.{◌≡◌, ℕ, zero, suc, ◌+◌, ◌<◌, ◌≤◌, ◌&&◌, nat_le, List, [], ◌∷◌, length, true, refl, ap, sym, ◌∙◌, arith, add-one}
use Rattle.std.proofs.lemmas.Bool.{and_parts, leb-true, false≢true}
use Rattle.iso_model.specs.Terms.Trees.{Tree, Variable, Integer, Name, Apply, End, More, row, count}
use Rattle.iso_model.specs.Terms.Sorts.{is_term, is_row}
use Rattle.iso_store_core.specs.Arguments.{arguments, arity, member, argument, members_from, listed, arguments_from}

-- a compound that is a term has 1 to 255 terms as arguments
pub row_of_term : (f : List ℕ) (ts : Tree) → is_term (Apply f ts) ≡ true → (0 < count ts) × (count ts ≤ 255) × (is_row ts ≡ true)
row_of_term f ts h =
    let some_args = and_parts (nat_le 1 (count ts)) (nat_le (count ts) 255 && is_row ts) h in
    let most_args = and_parts (nat_le (count ts) 255) (is_row ts) some_args.1 in
    (leb-true 1 (count ts) some_args.0, leb-true (count ts) 255 most_args.0, most_args.1)

members_from-more : (i : ℕ) (ts : Tree) → i < count ts → members_from i ts ≡ More (member i ts) (members_from (suc i) ts)
members_from-more zero (More t ts) below = refl
members_from-more (suc i) (More t ts) below = members_from-more i ts (omega arith)
members_from-more i (Variable n) below = absurd (omega arith)
members_from-more i (Integer z) below = absurd (omega arith)
members_from-more i (Name a) below = absurd (omega arith)
members_from-more i (Apply f ts) below = absurd (omega arith)
members_from-more i End below = absurd (omega arith)

listed-none : (ts : Tree) → count ts ≡ 0 → listed ts ≡ []
listed-none (More t ts) none = absurd (omega arith)
listed-none (Variable n) none = refl
listed-none (Integer z) none = refl
listed-none (Name a) none = refl
listed-none (Apply f ts) none = refl
listed-none End none = refl

pub listed-end : (i : ℕ) (ts : Tree) → count ts ≡ i → listed (members_from i ts) ≡ []
listed-end zero ts none = listed-none ts none
listed-end (suc i) (More t ts) none = listed-end i ts (omega arith)
listed-end (suc i) (Variable n) none = refl
listed-end (suc i) (Integer z) none = refl
listed-end (suc i) (Name a) none = refl
listed-end (suc i) (Apply f ts) none = refl
listed-end (suc i) End none = refl

pub row-listed : (ts : Tree) → is_row ts ≡ true → row (listed ts) ≡ ts
row-listed (More t ts) sort = ap (More t) (row-listed ts (and_parts (is_term t) (is_row ts) sort).1)
row-listed End sort = refl
row-listed (Variable n) sort = absurd (false≢true sort)
row-listed (Integer z) sort = absurd (false≢true sort)
row-listed (Name a) sort = absurd (false≢true sort)
row-listed (Apply f ts) sort = absurd (false≢true sort)

pub length-listed : (ts : Tree) → length (listed ts) ≡ count ts
length-listed (More t ts) = omega (arith, length-listed ts)
length-listed (Variable n) = refl
length-listed (Integer z) = refl
length-listed (Name a) = refl
length-listed (Apply f ts) = refl
length-listed End = refl

-- the argument at a place, and those behind it
pub arguments-more : (i n : ℕ) (m t : Tree) → i < n → arity m ≡ n → t ≡ argument i m → arguments_from i m ≡ t ∷ arguments_from (i + 1) m
arguments-more i n m t below many is =
    let next : arguments_from (suc i) m ≡ arguments_from (i + 1) m = ap (λ k. arguments_from k m) (sym (add-one i)) in
    ap listed (members_from-more i (arguments m) (omega arith)) ∙ ap (λ u. u ∷ arguments_from (suc i) m) (sym is) ∙ ap (λ us. t ∷ us) next

pub arguments-last : (i n : ℕ) (m t : Tree) → i < n → arity m ≡ n → t ≡ argument i m → i + 1 ≡ n → arguments_from i m ≡ t ∷ []
arguments-last i n m t below many is last =
    arguments-more i n m t below many is ∙ ap (λ us. t ∷ us) (listed-end (i + 1) (arguments m) (omega arith))

-- none is left
pub arguments-end : (n : ℕ) (m : Tree) → arity m ≡ n → arguments_from n m ≡ []
arguments-end n m many = listed-end n (arguments m) many

-- all arguments
module _ (f : List ℕ) (n : ℕ) (m ts : Tree) (is : m ≡ Apply f ts) (many : count ts ≡ n) where
  pub arguments-whole : is_term m ≡ true → Apply f (row (arguments_from 0 m)) ≡ m
  arguments-whole sort =
      ap (λ t. Apply f (row (listed (arguments t)))) is ∙ ap (Apply f) (row-listed ts (row_of_term f ts (ap is_term (sym is) ∙ sort)).2) ∙ sym is

  pub arguments-count : n ≡ length (arguments_from 0 m)
  arguments-count = sym (ap (λ t. length (listed (arguments t))) is ∙ length-listed ts ∙ many)
