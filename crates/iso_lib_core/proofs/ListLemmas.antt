-- Elements before other terms.
use Rattle.std.proofs.Common.{ap₂, ◌∷◌, ◌<◌, ◌≤◌, ◌+◌, length, map, drop, get_or, ◌≡◌, ℕ, List, [], Bool, true, false, not, ◌&&◌, nat_le, refl, sym, ap, subst, ◌∙◌, arith}
use Rattle.std.specs.Str.{bytes_eq}
use Rattle.std.proofs.lemmas.Bool.{and_parts, true≢false}
use Rattle.std.proofs.lemmas.List.{drop_all, drop_more, get_or-map, length-map}
use Rattle.std.proofs.lemmas.Slice.Eq.{bytes_eq-Decides}
use Rattle.iso_model.specs.Terms.Trees.{Tree, Name, Apply, End, More, row, count}
use Rattle.iso_model.specs.Terms.Sorts.{is_term, is_row}
use Rattle.iso_model.specs.Terms.Arguments.{argument}
use Rattle.iso_model.specs.Terms.Lists.{nil, dot, list_of}
use Rattle.iso_model.specs.Terms.Substitutions.{apply}
use Rattle.iso_store_core.specs.Presents.{Present, Holds, meaning, KeepsNumbers}
use Rattle.iso_lib_core.specs.Lists.{Comes}
use Rattle.std.specs.List.{All}

no_row : (first : Bool) → (first && false) ≡ true → false ≡ true
no_row true h = h
no_row false h = h

-- a compound of two arguments
two_parts : (f : List ℕ) (ts : Tree) → is_row ts ≡ true → count ts ≡ 2 → Apply f ts ≡ Apply f (More (argument 0 (Apply f ts)) (More (argument 1 (Apply f ts)) End))
two_parts f (More t (More u End)) row n = refl
two_parts f (More t (More u (More v vs))) row n = absurd (omega arith)
two_parts f (More t (More u us)) row n = absurd (true≢false (sym (no_row (is_term u) ((and_parts (is_term t) (is_term u && false) row).1))))
two_parts f (More t ts) row n = absurd (omega arith)
two_parts f End row n = absurd (omega arith)
two_parts f ts row n = absurd (true≢false (sym row))

rows_of : (f : List ℕ) (ts : Tree) → is_term (Apply f ts) ≡ true → is_row ts ≡ true
rows_of f ts h = (and_parts (nat_le (count ts) 255) (is_row ts) ((and_parts (nat_le 1 (count ts)) (nat_le (count ts) 255 && is_row ts) h).1)).1

-- a term of the name `.` and two arguments is an element before another term
pub pair_of : (t : Tree) (f name : List ℕ) (ts : Tree) → is_term t ≡ true → t ≡ Apply f ts → count ts ≡ 2 → f ≡ name → t ≡ Apply name (More (argument 0 t) (More (argument 1 t) End))
pair_of t f name ts fits is many named =
    let own : is_term (Apply f ts) ≡ true = sym (ap is_term is) ∙ fits in
    let parts = two_parts f ts (rows_of f ts own) many in
    subst (λ (u : Tree). u ≡ Apply name (More (argument 0 u) (More (argument 1 u) End))) (sym is)
    (parts ∙ ap (λ g. Apply g (More (argument 0 (Apply f ts)) (More (argument 1 (Apply f ts)) End))) named)

pub named_as : (text name : List ℕ) → false ≡ not (bytes_eq text name) → text ≡ name
named_as text name same = (bytes_eq-Decides text name).0 (not_false (bytes_eq text name) same) where
  not_false : (b : Bool) → false ≡ not b → b ≡ true
  not_false true h = refl
  not_false false h = absurd (true≢false (sym h))

-- ---- lists that are made

module _ {W : Type 0} (p : Present W) (ws : List W) where
  pub list_begins : list_of (drop (length ws) (map (meaning p) ws)) ≡ Name nil
  list_begins = ap list_of (drop_all (length ws) (map (meaning p) ws) (let long = length-map ws (meaning p) in omega (arith, long)))

  -- one word before those behind its place
  pub list_goes_on : (i : ℕ) (d : W) → i < length ws → Apply dot (row (meaning p (get_or ws i d) ∷ list_of (drop (i + 1) (map (meaning p) ws)) ∷ [])) ≡ list_of (drop i (map (meaning p) ws))
  list_goes_on i d h =
      let long = length-map ws (meaning p) in
      let here = get_or-map (meaning p) ws i d (meaning p d) h in
      let next = drop_more (map (meaning p) ws) i (meaning p d) (omega (arith, long, h)) in
      ap (λ t. Apply dot (row (t ∷ list_of (drop (i + 1) (map (meaning p) ws)) ∷ []))) (sym here) ∙ sym (ap list_of next)

  -- what came stays in order while more comes
  pub list_grows : (m q : Present W) (i k : ℕ) (first list w : W) → i + 1 ≡ k → k ≤ length ws → All (λ v. Holds p v) ws → first ≡ get_or ws i first → Comes p m list (list_of (drop k (map (meaning p) ws)))
      → Comes m q w (Apply dot (row (meaning m first ∷ meaning m list ∷ []))) → Comes p q w (list_of (drop i (map (meaning p) ws)))
  list_grows m q i k first list w next within hold is one more =
      let h : i < length ws = omega (arith, next, within) in
      let there : p.holds first ≡ true = subst (λ v. p.holds v ≡ true) (sym is) (hold i first h) in
      let same : meaning m first ≡ meaning p (get_or ws i first) = ap₂ apply one.substitution (one.words.terms first there) ∙ ap (meaning p) is in
      record {
        words = record {
          stand = λ v k. more.words.stand v (one.words.stand v k);
          terms = λ v k. more.words.terms v (one.words.stand v k) ∙ one.words.terms v k;
        };
        substitution = more.substitution ∙ one.substitution;
        holds = more.holds;
        value = more.value ∙ ap₂ (λ t u. Apply dot (row (t ∷ u ∷ []))) same (one.value ∙ ap (λ n. list_of (drop n (map (meaning p) ws))) (sym next)) ∙ list_goes_on i first h;
      }

pub numbers_then : {W : Type 0} (p m q : Present W) → KeepsNumbers p m → KeepsNumbers m q → KeepsNumbers p q
numbers_then p m q one more = record { next = more.next ∙ one.next; taken = λ n. more.taken n ∙ one.taken n }
