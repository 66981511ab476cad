-- The variables of what is written are those that are read: a variable's text has the place that the variable has.
use Rattle.std.proofs.Common.{◌≡◌, ℕ, suc, ◌+◌, ◌<◌, ◌≤◌, ◌^◌, true, false, ◌==◌, cond, nat_lt, List, [], ◌∷◌, ◌++◌, map, length, Some, None, unwrap_or, codes, inl, inr, refl, sym, ap, ◌∙◌, arith, append_assoc, append-nil}
use Rattle.std.specs.Fmt.{decimal}
use Rattle.std.specs.List.{position_or_len}
use Rattle.std.specs.Cmp.{both_ways}
use Rattle.std.specs.Str.{bytes_eq}
use Rattle.std.specs.Str.Parse.{digits_value}
use Rattle.std.proofs.lemmas.Bool.{cases_Bool, eq-eqb, eqb-true, or_left, or_right, false≢true}
use Rattle.std.proofs.lemmas.Bool.Decides.{nat_tests}
use Rattle.std.proofs.lemmas.List.{map-append}
use Rattle.std.proofs.lemmas.Fmt.{decimal_is_IsNumeral_wide}
use Rattle.std.proofs.lemmas.Slice.Eq.{bytes_eq-Decides}
use Rattle.iso_model.specs.Terms.Trees.{Tree, Variable, Integer, Name, Apply, End, More}
use Rattle.iso_model.specs.Terms.Variables.{is_in, distinct_from}
use Rattle.iso_model.specs.Terms.Copies.{place_of}
use Rattle.iso_model.specs.Syntax.Texts.{variable_text}
use Rattle.iso_model.specs.Syntax.Grammar.{number_of, with_name_by}
use Rattle.iso_model.specs.Syntax.Grammar as grammar
use Rattle.iso_model.proofs.OnTerms.CopyLemmas.{place_tells}

-- ---- places

pub place_within : (x : ℕ) (vs : List ℕ) → place_of x vs ≤ length vs
place_within x [] = omega arith
place_within x (v ∷ vs) = let within = place_within x vs in grind (arith, nat_tests)

place_below : (x : ℕ) (vs : List ℕ) → is_in x vs ≡ true → place_of x vs < length vs
place_below x [] h = absurd (false≢true h)
place_below x (v ∷ vs) h = let below = place_below x vs in grind (arith, nat_tests)

place_absent : (x : ℕ) (vs : List ℕ) → is_in x vs ≡ false → place_of x vs ≡ length vs
place_absent x [] h = refl
place_absent x (v ∷ vs) h = let absent = place_absent x vs in grind (arith, nat_tests)

place_stays : (x : ℕ) (vs more : List ℕ) → is_in x vs ≡ true → place_of x (vs ++ more) ≡ place_of x vs
place_stays x [] more h = absurd (false≢true h)
place_stays x (v ∷ vs) more h = let stays = place_stays x vs more in grind (arith, nat_tests)

place_new : (x : ℕ) (vs more : List ℕ) → is_in x vs ≡ false → place_of x (vs ++ x ∷ more) ≡ length vs
place_new x [] more h = grind (arith, nat_tests)
place_new x (v ∷ vs) more h = let new = place_new x vs more in grind (arith, nat_tests)

-- a variable's place among those before it and itself, whatever joins, is its place among those before it
pub place_kept : (x : ℕ) (vs more : List ℕ) → place_of x (distinct_from vs (Variable x) ++ more) ≡ place_of x vs
place_kept x vs more =
    elim (cases_Bool (is_in x vs)) [
      | inl old ↦ rw old (place_stays x vs more old)
      | inr new ↦ rw (new, append_assoc vs (x ∷ []) more) (place_new x vs more new ∙ sym (place_absent x vs new))
    ]

-- ---- beginnings of lists of variables

pub record IsBeginning (vs all : List ℕ) : Type 0 where
  pub more : List ℕ
  pub is : all ≡ vs ++ more

pub begins_within : (vs ws all : List ℕ) → IsBeginning vs ws → IsBeginning ws all → IsBeginning vs all
begins_within vs ws all a b = record { more = a.more ++ b.more; is = b.is ∙ ap (λ us. us ++ b.more) a.is ∙ append_assoc vs a.more b.more }

pub begins_itself : (vs : List ℕ) → IsBeginning vs vs
begins_itself vs = record { more = []; is = sym (append-nil vs) }

-- the variables so far begin those with a term's
pub begins_distinct : (vs : List ℕ) (t : Tree) → IsBeginning vs (distinct_from vs t)
begins_distinct vs (Variable n) =
    elim (cases_Bool (is_in n vs)) [
      | inl old ↦ rw old (begins_itself vs)
      | inr new ↦ rw new (record { more = n ∷ []; is = refl })
    ]
begins_distinct vs (Integer z) = begins_itself vs
begins_distinct vs (Name a) = begins_itself vs
begins_distinct vs (Apply f ts) = begins_distinct vs ts
begins_distinct vs End = begins_itself vs
begins_distinct vs (More t ts) =
    begins_within vs (distinct_from vs t) (distinct_from (distinct_from vs t) ts) (begins_distinct vs t) (begins_distinct (distinct_from vs t) ts)

-- ---- texts of variables

unwrapped : (n k : ℕ) → k ≤ n → unwrap_or (cond (nat_lt k n) (Some k) None) n ≡ k
unwrapped n k h = grind (arith, nat_tests)

some_place : (k n : ℕ) → k < n → cond (nat_lt k n) (Some k) None ≡ Some k
some_place k n h = grind (arith, nat_tests)

no_place : (k n : ℕ) → k ≡ n → cond (nat_lt k n) (Some k) None ≡ None
no_place k n h = grind (arith, nat_tests)

cons_inner : (a b : List ℕ) → 95 ∷ a ≡ 95 ∷ b → a ≡ b
cons_inner a b h = cc

-- decimal digits tell numbers apart
decimal_tells : (m n : ℕ) → m < 10 ^ 64 → n < 10 ^ 64 → decimal m ≡ decimal n → m ≡ n
decimal_tells m n small low e = sym (decimal_is_IsNumeral_wide m small).1 ∙ ap (digits_value 10) e ∙ (decimal_is_IsNumeral_wide n low).1

longer : (z : List ℕ) → 0 < length z → z ≡ [] → ⊥
longer z some e = let none : length z ≡ 0 = ap length e in omega arith

-- a variable of a line has its own text, which is not `_`
module _ (seen : List ℕ) (few : length seen < 10 ^ 64) where
  text_place : (x : ℕ) → variable_text seen x ≡ 95 ∷ decimal (place_of x seen + 1)
  text_place x = ap (λ k. 95 ∷ decimal (k + 1)) (unwrapped (length seen) (place_of x seen) (place_within x seen))

  text_tells : (x y : ℕ) → is_in x seen ≡ true → is_in y seen ≡ true → variable_text seen x ≡ variable_text seen y → x ≡ y
  text_tells x y a b e =
      let below = place_below x seen a in
      let low = place_below y seen b in
      let digits = cons_inner (decimal (place_of x seen + 1)) (decimal (place_of y seen + 1)) (sym (text_place x) ∙ e ∙ text_place y) in
      let same = decimal_tells (place_of x seen + 1) (place_of y seen + 1) (omega arith) (omega arith) digits in
      place_tells seen x y a (omega arith)

  text_test : (x y : ℕ) → is_in x seen ≡ true → is_in y seen ≡ true → bytes_eq (variable_text seen x) (variable_text seen y) ≡ (x == y)
  text_test x y a b =
      both_ways (bytes_eq (variable_text seen x) (variable_text seen y)) (x == y)
      (λ e. eq-eqb x y (text_tells x y a b ((bytes_eq-Decides (variable_text seen x) (variable_text seen y)).0 e)))
      (λ e. (bytes_eq-Decides (variable_text seen x) (variable_text seen y)).1 (ap (variable_text seen) (eqb-true x y e)))

  -- a variable's text has the place among texts that the variable has
  abbrev pub texts : List ℕ → List (List ℕ)
  texts vs = map (variable_text seen) vs

  place_read : (x : ℕ) (vs : List ℕ) → is_in x seen ≡ true → ((y : ℕ) → is_in y vs ≡ true → is_in y seen ≡ true) → position_or_len (λ other. bytes_eq other (variable_text seen x)) (texts vs) ≡ place_of x vs
  place_read x [] a h = refl
  place_read x (v ∷ vs) a h =
      let here = text_test v x (h v (or_left (v == v) (is_in v vs) (eq-eqb v v refl))) a in
      let others = place_read x vs a (λ y o. h y (or_right (v == y) (is_in y vs) o)) in
      rw (here, others) refl

  length_read : (vs : List ℕ) → length (texts vs) ≡ length vs
  length_read [] = refl
  length_read (v ∷ vs) = ap suc (length_read vs)

  named_text : (x : ℕ) → is_in x seen ≡ true → bytes_eq (variable_text seen x) (codes "_") ≡ false
  named_text x a =
      let below = place_below x seen a in
      both_ways (bytes_eq (variable_text seen x) (codes "_")) false (λ e. absurd (longer (decimal (place_of x seen + 1)) (decimal_is_IsNumeral_wide (place_of x seen + 1) (omega arith)).0.0
      (cons_inner (decimal (place_of x seen + 1)) [] (sym (text_place x) ∙ (bytes_eq-Decides (variable_text seen x) (codes "_")).0 e)))) (λ e. absurd (false≢true e))

  pub number_read : (x : ℕ) (vs : List ℕ) → is_in x seen ≡ true → ((y : ℕ) → is_in y vs ≡ true → is_in y seen ≡ true) → number_of (variable_text seen x) (texts vs) ≡ place_of x vs
  number_read x vs a h =
      rw (named_text x a, place_read x vs a h, length_read vs) (unwrapped (length vs) (place_of x vs) (place_within x vs))

  pub names_read : (x : ℕ) (vs : List ℕ) → is_in x seen ≡ true → ((y : ℕ) → is_in y vs ≡ true → is_in y seen ≡ true)
      → with_name_by (variable_text seen x) (texts vs) (grammar.name_place (variable_text seen x) (texts vs)) ≡ texts (distinct_from vs (Variable x))
  names_read x vs a h =
      elim (cases_Bool (is_in x vs)) [
        | inl old ↦ rw (named_text x a, place_read x vs a h, length_read vs, old, some_place (place_of x vs) (length vs) (place_below x vs old)) refl
        | inr new ↦ rw (named_text x a, place_read x vs a h, length_read vs, new, no_place (place_of x vs) (length vs) (place_absent x vs new)) (sym (map-append (variable_text seen) vs (x ∷ [])))
      ]
