-- Goals that are called, and their arguments.
use Rattle.std.proofs.Common.{◌≡◌, ℕ, zero, suc, ◌+◌, ◌-◌, ◌<◌, List, [], ◌∷◌, ◌++◌, map, length, true, refl, sym, ap, ap₂, ◌∙◌, subst, arith, nat_le, drop, take, get_or, false, ◌==◌}
use Rattle.std.proofs.lemmas.Bool.{and_parts, false≢true, eqb-false}
use Rattle.std.proofs.lemmas.List.{take_all, length-drop}
use Rattle.iso_model.specs.Terms.Trees.{Tree, Variable, Name, Apply, End, More, count, row}
use Rattle.iso_model.specs.Terms.Sorts.{is_term, is_row}
use Rattle.iso_model.specs.Terms.Arguments.{arguments, arity, member, argument, others, joined, with_arguments}
use Rattle.iso_model.specs.Terms.Substitutions.{apply}
use Rattle.iso_store_core.specs.Arguments.{members_from}
use Rattle.iso_store_core.specs.Presents.{Present, Makes, meaning}
use Rattle.iso_store_core.specs.ArgumentWords.{AreArguments}
use Rattle.iso_search_core.specs.Replies.{HasName}
use Rattle.iso_search_core.specs.Cells.{called_of}

-- ---- lists of terms

pub row_whole : (ts : Tree) → is_row ts ≡ true → members_from (count ts) ts ≡ End
row_whole End h = refl
row_whole (More t ts) h =
    let both = and_parts (is_term t) (is_row ts) h in
    let next : count ts + 1 ≡ suc (count ts) = omega arith in
    ap (λ n. members_from n (More t ts)) next ∙ row_whole ts both.1
row_whole ts h = absurd (false≢true h)

pub member_next : (i : ℕ) (ts : Tree) → is_row ts ≡ true → i < count ts → members_from i ts ≡ More (member i ts) (members_from (i + 1) ts)
member_next i End h within = absurd (omega (arith, within))
member_next zero (More t ts) h within = refl
member_next (suc i) (More t ts) h within =
    let both = and_parts (is_term t) (is_row ts) h in
    let next : suc i + 1 ≡ suc (i + 1) = omega arith in
    member_next i ts both.1 (omega (arith, within)) ∙ ap (λ n. More (member i ts) (members_from n (More t ts))) (sym next)
member_next i ts h within = absurd (false≢true h)

pub behind_first : (ts : Tree) → members_from 1 ts ≡ others ts
behind_first (Variable n) = refl
behind_first ts = refl

module _ {W : Type 0} (f : W → Tree) where
  pub joined_end : (ws : List W) → joined (row (map f ws)) End ≡ row (map f ws)
  joined_end [] = refl
  joined_end (w ∷ ws) = ap (More (f w)) (joined_end ws)

  pub joined_push : (ws : List W) (w : W) (m : Tree) → joined (row (map f (ws ++ w ∷ []))) m ≡ joined (row (map f ws)) (More (f w) m)
  joined_push [] w m = refl
  joined_push (v ∷ ws) w m = ap (More (f v)) (joined_push ws w m)

pub row_length : {W : Type 0} (f : W → Tree) (ws : List W) → count (row (map f ws)) ≡ length ws
row_length f [] = refl
row_length f (w ∷ ws) = let more = row_length f ws in omega (arith, more)

pub row_of_goal : (t : Tree) → is_term t ≡ true → is_row (arguments t) ≡ true
row_of_goal (Apply f ts) h = (and_parts (nat_le (count ts) 255) (is_row ts) (and_parts (nat_le 1 (count ts)) _ h).1).1
row_of_goal End h = absurd (false≢true h)
row_of_goal (More t ts) h = absurd (false≢true h)
row_of_goal t h = refl

-- ---- words for the arguments of a term

row_of_words : {W : Type 0} (f : W → Tree) (ws : List W) (ts : Tree) → is_row ts ≡ true → length ws ≡ count ts → ((k : ℕ) (d : W) → k < length ws → f (get_or ws k d) ≡ member k ts) → row (map f ws) ≡ ts
row_of_words f [] End h many values = refl
row_of_words f (w ∷ ws) End h many values = absurd (omega (arith, many))
row_of_words f [] (More t ts) h many values = absurd (omega (arith, many))
row_of_words f (w ∷ ws) (More t ts) h many values =
    let both = and_parts (is_term t) (is_row ts) h in
    ap₂ More (values 0 w (omega arith)) (row_of_words f ws ts both.1 (omega (arith, many)) (λ k d within. values (suc k) d (omega (arith, within))))
row_of_words f ws ts h many values = absurd (false≢true h)

-- so are the values of a goal's argument words
pub arguments_row : {W : Type 0} (p : Present W) (ws : List W) (t : Tree) → is_term t ≡ true → AreArguments p ws t → row (map (meaning p) ws) ≡ arguments t
arguments_row p ws t fits are = row_of_words (meaning p) ws (arguments t) (row_of_goal t fits) are.count are.values

row_append : {W : Type 0} (f : W → Tree) (xs ys : List W) → row (map f (xs ++ ys)) ≡ joined (row (map f xs)) (row (map f ys))
row_append f [] ys = refl
row_append f (x ∷ xs) ys = ap (More (f x)) (row_append f xs ys)

row_behind : {W : Type 0} (f : W → Tree) (ws : List W) → row (map f (drop 1 ws)) ≡ members_from 1 (row (map f ws))
row_behind f [] = refl
row_behind f (w ∷ ws) = refl

pub slice_behind : {X : Type 0} (xs : List X) → take (length xs - 1) (drop 1 xs) ≡ drop 1 xs
slice_behind xs = take_all (length xs - 1) (drop 1 xs) (let long = length-drop 1 xs in omega (arith, long))

-- a number that is not 0
pub positive : (n : ℕ) → (n ≡ 0 → ⊥) → 0 < n
positive zero other = absurd (other refl)
positive (suc n) other = omega arith

pub not_none : (n : ℕ) → (n == 0) ≡ false → 0 < n
not_none n none = positive n (eqb-false n 0 none)

-- the words behind the first were appended
pub others_appended : {W : Type 0} (f : W → Tree) (own others all ws : List W) (ts : Tree) → all ≡ own ++ others → others ≡ drop 1 ws → row (map f ws) ≡ ts → row (map f all) ≡ joined (row (map f own)) (members_from 1 ts)
others_appended f own others all ws ts is behind whole =
    ap (λ xs. row (map f xs)) (is ∙ ap (λ xs. own ++ xs) behind) ∙ row_append f own (drop 1 ws) ∙ ap (joined (row (map f own))) (row_behind f ws ∙ ap (members_from 1) whole)

count_joined : (ts us : Tree) → is_row ts ≡ true → count (joined ts us) ≡ count ts + count us
count_joined End us h = omega arith
count_joined (More t ts) us h = let both = and_parts (is_term t) (is_row ts) h in let more = count_joined ts us both.1 in omega (arith, more)
count_joined ts us h = absurd (false≢true h)

-- ---- a goal with arguments

-- its name, its first argument, and the others
record HasArguments (t : Tree) : Type 0 where
  name : List ℕ
  first : Tree
  behind : Tree
  is : t ≡ Apply name (More first behind)
  first_term : is_term first ≡ true
  behind_row : is_row behind ≡ true

has_arguments : (t : Tree) → is_term t ≡ true → 0 < arity t → HasArguments t
has_arguments (Apply f (More g os)) h some =
    let both = and_parts (is_term g) (is_row os) (row_of_goal (Apply f (More g os)) h) in
    record { name = f; first = g; behind = os; is = refl; first_term = both.0; behind_row = both.1 }
has_arguments t h some = absurd (omega (arith, some))

module _ (t : Tree) (fits : is_term t ≡ true) (some : 0 < arity t) where
  parts : HasArguments t
  parts = has_arguments t fits some

  called_is : called_of t ≡ with_arguments parts.first parts.behind
  called_is = ap called_of parts.is

  -- a first argument that has a name, with the others behind its own
  pub called_named : (f : List ℕ) (args : Tree) → HasName f (argument 0 t) → (arity t - 1 ≡ 0 → ⊥) → args ≡ joined (joined End (members_from 0 (arguments (argument 0 t)))) (members_from 1 (arguments t)) → Apply f args ≡ called_of t
  called_named f args named many is =
      let first_is : argument 0 t ≡ parts.first = ap (argument 0) parts.is in
      let behind_is : members_from 1 (arguments t) ≡ parts.behind = behind_first (arguments t) ∙ ap (λ u. others (arguments u)) parts.is in
      let all : args ≡ joined (arguments parts.first) parts.behind = is ∙ ap₂ (λ u us. joined (joined End (members_from 0 (arguments u))) us) first_is behind_is in
      let total : arity t ≡ count parts.behind + 1 = ap arity parts.is in
      let more : 0 < count parts.behind = positive (count parts.behind) (λ none. many (omega (arith, total, none))) in
      ap (Apply f) all ∙ named_with f parts.first parts.behind (subst (HasName f) first_is named) more parts.behind_row ∙ sym called_is
    where
      named_with : (f : List ℕ) (g os : Tree) → HasName f g → 0 < count os → is_row os ≡ true → Apply f (joined (arguments g) os) ≡ with_arguments g os
      named_with f (Name a) (More u us) h some r = ap (λ x. Apply x (More u us)) (sym h)
      named_with f (Apply k ts) (More u us) h some r = ap (λ x. Apply x (joined ts (More u us))) (sym h)
      named_with f x (More u us) h some r = absurd h
      named_with f g os h some r = absurd (omega (arith, some))

  -- made of the values of words, its own arguments first
  pub called_row : {W : Type 0} (m : W → Tree) (f : List ℕ) (none own all : List W) (u : Tree) → HasName f u → u ≡ argument 0 t → (arity t - 1 ≡ 0 → ⊥) → none ≡ []
      → row (map m own) ≡ joined (row (map m none)) (members_from 0 (arguments u)) → row (map m all) ≡ joined (row (map m own)) (members_from 1 (arguments t)) → Apply f (row (map m all)) ≡ called_of t
  called_row m f none own all u named first many empty own_are all_are =
      let begin : row (map m own) ≡ joined End (members_from 0 (arguments (argument 0 t))) = own_are ∙ ap₂ (λ ws v. joined (row (map m ws)) (members_from 0 (arguments v))) empty first in
      called_named f (row (map m all)) (subst (HasName f) first named) many (all_are ∙ ap (λ us. joined us (members_from 1 (arguments t))) begin)

  -- and how many arguments it has then
  pub called_count : (f : List ℕ) → HasName f (argument 0 t) → (arity t - 1 ≡ 0 → ⊥) → arity (called_of t) ≡ arity (argument 0 t) + (arity t - 1)
  called_count f named many =
      let first_is : argument 0 t ≡ parts.first = ap (argument 0) parts.is in
      let total : arity t ≡ count parts.behind + 1 = ap arity parts.is in
      let behind_is : members_from 1 (arguments t) ≡ parts.behind = behind_first (arguments t) ∙ ap (λ u. others (arguments u)) parts.is in
      let all = ap arity (sym (called_named f (joined (arguments (argument 0 t)) (members_from 1 (arguments t))) named many refl)) in
      let own = row_of_goal (argument 0 t) (ap is_term first_is ∙ parts.first_term) in
      let sum = count_joined (arguments (argument 0 t)) (members_from 1 (arguments t)) own in
      let behind = ap count behind_is in
      omega (arith, all, sum, behind, total)

-- ---- a goal of call/N that is for its first argument alone

none_behind : (us : Tree) → is_row us ≡ true → count us ≡ 0 → us ≡ End
none_behind End h none = refl
none_behind (More t ts) h none = absurd (omega (arith, none))
none_behind us h none = absurd (false≢true h)

pub called_alone : (t : Tree) → is_term t ≡ true → arity t ≡ 1 → argument 0 t ≡ called_of t
called_alone t fits one =
    let p = has_arguments t fits (omega (arith, one)) in
    let total : arity t ≡ count p.behind + 1 = ap arity p.is in
    let none = none_behind p.behind p.behind_row (omega (arith, total, one)) in
    ap (argument 0) p.is ∙ sym (ap called_of p.is ∙ ap (with_arguments p.first) none)

-- ---- the arguments of the goal that is called

joined_row : (ts us : Tree) → is_row ts ≡ true → is_row us ≡ true → is_row (joined ts us) ≡ true
joined_row End us h k = k
joined_row (More t ts) us h k = let both = and_parts (is_term t) (is_row ts) h in rw (both.0, joined_row ts us both.1 k) refl
joined_row ts us h k = absurd (false≢true h)

with_row : (u us : Tree) → is_term u ≡ true → is_row us ≡ true → is_row (arguments (with_arguments u us)) ≡ true
with_row u End h k = row_of_goal u h
with_row (Name a) us h k = k
with_row (Apply f ts) us h k = joined_row ts us (row_of_goal (Apply f ts) h) k
with_row u us h k = refl

pub called_fits : (t : Tree) → is_term t ≡ true → 0 < arity t → is_row (arguments (called_of t)) ≡ true
called_fits t fits some =
    let p = has_arguments t fits some in
    ap (λ u. is_row (arguments (called_of u))) p.is ∙ with_row p.first p.behind p.first_term p.behind_row

-- ---- compounds of words

row_applied : {W : Type 0} (p : Present W) (ws : List W) → apply p.substitution (row (map p.term ws)) ≡ row (map (meaning p) ws)
row_applied p [] = refl
row_applied p (w ∷ ws) = ap (More (meaning p w)) (row_applied p ws)

-- one that was made stands for its arguments' values
pub made_value : {W : Type 0} (p q : Present W) (w : W) (f : List ℕ) (ws : List W) → Makes p q w (Apply f (row (map p.term ws))) → meaning q w ≡ Apply f (row (map (meaning p) ws))
made_value p q w f ws made = ap₂ apply made.substitution made.term ∙ ap (Apply f) (row_applied p ws)
