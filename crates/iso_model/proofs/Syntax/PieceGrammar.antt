-- The tokens of what is written of a term are read as that term.
use Rattle.std.proofs.Common.{◌≡◌, ℕ, ◌+◌, ◌<◌, ◌≤◌, ◌^◌, true, false, ◌&&◌, ◌==◌, nat_le, is_some, List, [], ◌∷◌, ◌++◌, length, unwrap_or, position, pos, negsuc, ℤ, refl, sym, ap, ◌∙◌, subst, arith, append-nil}
use Rattle.std.proofs.lemmas.Bool.{and_parts, or_parts, false≢true, leb-true, ltb-true, eq-eqb}
use Rattle.iso_ops.specs.Operators.{Operator, IsOpTable, HasNoBrackets}
use Rattle.iso_ops.specs.declared.settings.Flags.{Flags}
use Rattle.iso_model.specs.Terms.Trees.{Tree, Variable, Integer, Name, Apply, End, More, row, count}
use Rattle.iso_model.specs.Terms.Sorts.{is_term, is_row}
use Rattle.iso_model.specs.Terms.Variables.{is_in, distinct_from, variables}
use Rattle.iso_model.specs.Terms.Substitutions.{apply}
use Rattle.iso_model.specs.Terms.Copies.{place_of, copy_from}
use Rattle.iso_model.specs.Terms.Unification.Listed.{is_in-append, distinct_keeps, distinct_covers}
use Rattle.iso_model.specs.Syntax.Token.{Shown}
use Rattle.iso_model.specs.Syntax.Texts.{variable_text}
use Rattle.iso_model.specs.Syntax.Grammar.{Node, Reads, start_of, number_of}
use Rattle.iso_model.specs.Syntax.Pieces.{Piece, Writeq, piece, compound_written, variable_number, at_most, term_written}
use Rattle.iso_model.specs.Syntax.WritingLaws.{IsWritable, integers_fit, has_numbered_variable}
use Rattle.iso_model.specs.Terms.Integers.{fits}
use Rattle.iso_model.proofs.OnTerms.SortLemmas.{row_of_arguments}
use Rattle.iso_model.proofs.OnTerms.VariableLemmas.{listed_occurring}
use Rattle.iso_model.proofs.Syntax.ReadingSound.{left_at}
use Rattle.iso_model.proofs.Syntax.PieceTokens.{AreTokens}
use Rattle.iso_model.proofs.Syntax.PieceVariables.{place_kept, IsBeginning, begins_within, begins_itself, begins_distinct, texts, number_read, names_read}
use Rattle.iso_model.proofs.Syntax.PieceParts.{node, IsPart, place_part, nothing_follows, nothing_ends}
use Rattle.iso_model.proofs.Syntax.PieceTerms.{count_part, negative_part}
use Rattle.iso_model.proofs.Syntax.PiecePlaces.{IsPlace, AreArguments, last_argument, more_arguments, compound_part}
use Rattle.iso_model.proofs.Syntax.PieceWritten.{IsReadable, simple_readable, place_written, atom_readable, single_readable, numbered_readable, pair_readable}

-- The tokens are read as the term with its variables numbered 0, 1, .. by first occurrence.
pub record AreRead (table : List Operator) (flags : Flags) (t : Tree) (ts : List Shown) : Type 0 where
  pub node : Node
  pub names : List (List ℕ)
  pub reads : Reads table flags (start_of ts) node (record { tokens = []; names = names })
  pub priority : node.priority ≤ 1200
  pub term : node.term ≡ copy_from t 0

few_arguments : (name : List ℕ) (ts : Tree) → is_term (Apply name ts) ≡ true → count ts ≤ 255
few_arguments name ts sort =
    leb-true (count ts) 255 (and_parts (nat_le (count ts) 255) (is_row ts) (and_parts (nat_le 1 (count ts)) (nat_le (count ts) 255 && is_row ts) sort).1).0

second_row : (name : List ℕ) (t ts : Tree) → is_term (Apply name (More t ts)) ≡ true → is_row ts ≡ true
second_row name t ts sort = (and_parts (is_term t) (is_row ts) (row_of_arguments name (More t ts) sort)).1

-- no argument of a term without numbered variables has one
no_numbered : (name : List ℕ) (ts : Tree) → has_numbered_variable (Apply name ts) ≡ false → has_numbered_variable ts ≡ false
no_numbered name ts none = (or_parts (is_some (variable_number (Apply name ts))) (has_numbered_variable ts) none).1

third_row : (name : List ℕ) (t u ts : Tree) → is_term (Apply name (More t (More u ts))) ≡ true → is_row ts ≡ true
third_row name t u ts sort = (and_parts (is_term u) (is_row ts) (second_row name t (More u ts) sort)).1

-- All variables of a text, in the order of their first occurrence, are among those of its line.
module _ (table : List Operator) (flags : Flags) (good : IsOpTable table) (plain : HasNoBrackets table) (seen : List ℕ) (few : length seen < 10 ^ 64) (all : List ℕ) (known : (x : ℕ) → is_in x all ≡ true → is_in x seen ≡ true) where
  -- each variable by its place
  abbrev numbered : Tree → Tree
  numbered t = apply (λ x. Variable (0 + place_of x all)) t

  -- What is written of a term is read as that term, behind these variables.
  abbrev Readable : Tree → List ℕ → Type 0
  Readable t vs = IsReadable table flags seen (term_written Writeq table seen t) (texts seen few vs) (texts seen few (distinct_from vs t)) (numbered t)

  variable_readable : (n : ℕ) (vs : List ℕ) → IsBeginning (distinct_from vs (Variable n)) all → Readable (Variable n) vs
  variable_readable n vs within =
      let listed = λ (y : ℕ) (h : is_in y (distinct_from vs (Variable n)) ≡ true). known y (subst (λ us. is_in y us ≡ true) (sym within.is) (is_in-append y (distinct_from vs (Variable n)) within.more h)) in
      let here = listed n (distinct_covers vs (Variable n) n (eq-eqb n n refl)) in
      let before = λ (y : ℕ) (h : is_in y vs ≡ true). listed y (distinct_keeps vs (Variable n) y h) in
      let number = number_read seen few n vs here before in
      let place = ap (place_of n) within.is ∙ place_kept n vs within.more in
      let same : number_of (variable_text seen n) (texts seen few vs) ≡ 0 + place_of n all = omega (arith, number, place) in
      simple_readable table flags seen
      (subst (λ k. IsPart table flags (piece (variable_text seen n) ∷ []) 0 false false (texts seen few vs) (texts seen few (distinct_from vs (Variable n))) (Variable k)) same
      (subst (λ us. IsPart table flags (piece (variable_text seen n) ∷ []) 0 false false (texts seen few vs) us (Variable (number_of (variable_text seen n) (texts seen few vs)))) (names_read seen few n vs here before)
      (place_part table flags (unwrap_or (position (λ m. m == n) seen) (length seen) + 1) (texts seen few vs))))

  integer_readable : (z : ℤ) (vs : List ℕ) → fits z ≡ true → Readable (Integer z) vs
  integer_readable (pos n) vs fits = simple_readable table flags seen (count_part table flags n (ltb-true n (2 ^ 127) fits) (texts seen few vs))
  integer_readable (negsuc n) vs fits = simple_readable table flags seen (negative_part table flags n (ltb-true n (2 ^ 127) fits) (texts seen few vs))

  -- What is written of further arguments goes on with them behind a first one.
  record AreReadable (ts : Tree) (vs : List ℕ) : Type 0 where
    pub args : List Tree
    pub is : row args ≡ numbered ts
    pub count : length args ≡ count ts
    pub continues : {ps : List Piece} {names : List (List ℕ)} {t : Tree} → IsPlace table flags 999 ps names (texts seen few vs) t
        → AreArguments table flags (ps ++ (term_written Writeq table seen ts).others) names (texts seen few (distinct_from vs ts)) (t ∷ args)

  within_first : (t ts : Tree) (vs : List ℕ) → IsBeginning (distinct_from (distinct_from vs t) ts) all → IsBeginning (distinct_from vs t) all
  within_first t ts vs within = begins_within (distinct_from vs t) (distinct_from (distinct_from vs t) ts) all (begins_distinct (distinct_from vs t) ts) within

  none_readable : (vs : List ℕ) → AreReadable End vs
  none_readable vs = record {
    args = [];
    is = refl;
    count = refl;
    continues = λ {ps} {names} {t} p. subst (λ us. AreArguments table flags us names (texts seen few vs) (t ∷ [])) (sym (append-nil ps)) (last_argument table flags p);
  }

  more_readable : (t ts : Tree) (vs : List ℕ) → Readable t vs → AreReadable ts (distinct_from vs t) → AreReadable (More t ts) vs
  more_readable t ts vs first others = record {
    args = numbered t ∷ others.args;
    is = ap (More (numbered t)) others.is;
    count = omega (arith, others.count);
    continues = λ p. more_arguments table flags p (others.continues (place_written table flags seen 999 first));
  }

  -- a compound of arguments
  arguments_readable : (name : List ℕ) (t ts : Tree) (vs : List ℕ) → count ts < 255 → Readable t vs → AreReadable ts (distinct_from vs t)
      → IsReadable table flags seen (compound_written Writeq table seen name (at_most 999 (term_written Writeq table seen t) ++ (term_written Writeq table seen ts).others)) (texts seen few vs) (texts seen few (distinct_from (distinct_from vs t) ts)) (Apply name (More (numbered t) (numbered ts)))
  arguments_readable name t ts vs most first others =
      rw (← others.is) (simple_readable table flags seen (compound_part table flags name (others.continues (place_written table flags seen 999 first)) (omega (arith, most, others.count))))

  mutual
    term_readable : (t : Tree) (vs : List ℕ) → is_term t ≡ true → integers_fit t ≡ true → has_numbered_variable t ≡ false → IsBeginning (distinct_from vs t) all → Readable t vs
    term_readable (Variable n) vs sort fits none within = variable_readable n vs within
    term_readable (Integer z) vs sort fits none within = integer_readable z vs fits
    term_readable (Name name) vs sort fits none within = atom_readable table flags seen plain name (texts seen few vs)
    term_readable (Apply name (More t End)) vs sort fits none within =
        let sorts = and_parts (is_term t) true (row_of_arguments name (More t End) sort) in
        let fit = and_parts (integers_fit t) true fits in
        let no = or_parts (is_some (variable_number (Apply name (More t End)))) (has_numbered_variable (More t End)) none in
        let other = or_parts (has_numbered_variable t) false no.1 in
        numbered_readable table flags seen (variable_number (Apply name (More t End))) no.0 (single_readable table flags seen good plain name (term_readable t vs sorts.0 fit.0 other.0 within))
    term_readable (Apply name (More t (More u End))) vs sort fits none within =
        let sorts = and_parts (is_term t) (is_row (More u End)) (row_of_arguments name (More t (More u End)) sort) in
        let more_sorts = and_parts (is_term u) true sorts.1 in
        let fit = and_parts (integers_fit t) (integers_fit (More u End)) fits in
        let more_fit = and_parts (integers_fit u) true fit.1 in
        let no = or_parts (has_numbered_variable t) (has_numbered_variable (More u End)) (no_numbered name (More t (More u End)) none) in
        let other = or_parts (has_numbered_variable u) false no.1 in
        pair_readable table flags seen good plain name (term_readable t vs sorts.0 fit.0 no.0 (within_first t u vs within)) (term_readable u (distinct_from vs t) more_sorts.0 more_fit.0 other.0 within)
    term_readable (Apply name (More t (More u (More v ts)))) vs sort fits none within =
        let sorts = and_parts (is_term t) (is_row (More u (More v ts))) (row_of_arguments name (More t (More u (More v ts))) sort) in
        let fit = and_parts (integers_fit t) (integers_fit (More u (More v ts))) fits in
        let no = or_parts (has_numbered_variable t) (has_numbered_variable (More u (More v ts))) (no_numbered name (More t (More u (More v ts))) none) in
        arguments_readable name t (More u (More v ts)) vs (omega (arith, few_arguments name (More t (More u (More v ts))) sort)) (term_readable t vs sorts.0 fit.0 no.0 (within_first t (More u (More v ts)) vs within)) (row_readable (More u (More v ts)) (distinct_from vs t) sorts.1 fit.1 no.1 within)
    term_readable (Apply name (More t (More u (Variable n)))) vs sort fits none within = absurd (false≢true (third_row name t u (Variable n) sort))
    term_readable (Apply name (More t (More u (Integer z)))) vs sort fits none within = absurd (false≢true (third_row name t u (Integer z) sort))
    term_readable (Apply name (More t (More u (Name a)))) vs sort fits none within = absurd (false≢true (third_row name t u (Name a) sort))
    term_readable (Apply name (More t (More u (Apply f ts)))) vs sort fits none within = absurd (false≢true (third_row name t u (Apply f ts) sort))
    term_readable (Apply name (More t (Variable n))) vs sort fits none within = absurd (false≢true (second_row name t (Variable n) sort))
    term_readable (Apply name (More t (Integer z))) vs sort fits none within = absurd (false≢true (second_row name t (Integer z) sort))
    term_readable (Apply name (More t (Name a))) vs sort fits none within = absurd (false≢true (second_row name t (Name a) sort))
    term_readable (Apply name (More t (Apply f ts))) vs sort fits none within = absurd (false≢true (second_row name t (Apply f ts) sort))
    term_readable (Apply name End) vs sort fits none within = absurd (false≢true sort)
    term_readable (Apply name (Variable n)) vs sort fits none within = absurd (false≢true sort)
    term_readable (Apply name (Integer z)) vs sort fits none within = absurd (false≢true sort)
    term_readable (Apply name (Name a)) vs sort fits none within = absurd (false≢true sort)
    term_readable (Apply name (Apply f ts)) vs sort fits none within = absurd (false≢true sort)
    term_readable End vs sort fits none within = absurd (false≢true sort)
    term_readable (More t ts) vs sort fits none within = absurd (false≢true sort)

    row_readable : (ts : Tree) (vs : List ℕ) → is_row ts ≡ true → integers_fit ts ≡ true → has_numbered_variable ts ≡ false → IsBeginning (distinct_from vs ts) all → AreReadable ts vs
    row_readable End vs sort fits none within = none_readable vs
    row_readable (More t ts) vs sort fits none within =
        let sorts = and_parts (is_term t) (is_row ts) sort in
        let fit = and_parts (integers_fit t) (integers_fit ts) fits in
        let no = or_parts (has_numbered_variable t) (has_numbered_variable ts) none in
        more_readable t ts vs (term_readable t vs sorts.0 fit.0 no.0 (within_first t ts vs within)) (row_readable ts (distinct_from vs t) sorts.1 fit.1 no.1 within)
    row_readable (Variable n) vs sort fits none within = absurd (false≢true sort)
    row_readable (Integer z) vs sort fits none within = absurd (false≢true sort)
    row_readable (Name a) vs sort fits none within = absurd (false≢true sort)
    row_readable (Apply f ts) vs sort fits none within = absurd (false≢true sort)

pub written_read : (table : List Operator) (flags : Flags) → IsOpTable table → HasNoBrackets table → (seen : List ℕ) (t : Tree) → IsWritable seen t
    → (ts : List Shown) → AreTokens (at_most 1200 (term_written Writeq table seen t)) ts → AreRead table flags t ts
written_read table flags good plain seen t writable ts tokens =
    let few : length seen < 10 ^ 64 = omega (arith, writable.few) in
    let known = λ (x : ℕ) (h : is_in x (variables t) ≡ true). writable.places x (sym (listed_occurring t x) ∙ h) in
    let r = term_readable table flags good plain seen few (variables t) known t [] writable.term writable.integers writable.numbered (begins_itself (variables t)) in
    let x = (place_written table flags seen 1200 r).reads [] ts (nothing_follows table flags) (nothing_ends table flags) (subst (λ us. AreTokens us ts) (sym (append-nil (at_most 1200 (term_written Writeq table seen t)))) tokens) in
    record {
      node = node (copy_from t 0) x.priority x.height x.is_open;
      names = texts seen few (variables t);
      reads = subst (λ us. Reads table flags (start_of ts) (node (copy_from t 0) x.priority x.height x.is_open) (left_at us (texts seen few (variables t)))) x.tokens.are x.reads;
      priority = x.within;
      term = refl;
    }
