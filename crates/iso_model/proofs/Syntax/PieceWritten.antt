-- What is written of a term, by its shape, from what is written of its parts.
use Rattle.std.proofs.Common.{◌≡◌, ℕ, ◌≤◌, Bool, true, false, ◌&&◌, nat_lt, if◌then◌else◌, List, [], ◌∷◌, Option, Some, None, is_some, codes, inl, inr, refl, sym, ap, ◌∙◌, subst, arith}
use Rattle.std.specs.Str.{bytes_eq}
use Rattle.std.proofs.lemmas.Bool.{cases_Bool, true≢false}
use Rattle.std.proofs.lemmas.Bool.Decides.{nat_tests}
use Rattle.std.proofs.lemmas.Slice.Eq.{bytes_eq-Decides}
use Rattle.iso_ops.specs.declared.specifiers.Kind.TheVariants.{Prefix, Infix, Postfix}
use Rattle.iso_ops.specs.Operators.{Operator, IsOpTable, HasNoBrackets}
use Rattle.iso_ops.specs.declared.settings.Flags.{Flags}
use Rattle.iso_ops.proofs.TableLemmas.{find_op-parts, find_op-priority}
use Rattle.iso_model.specs.Syntax.Operators.{prefix_named, infix_named, postfix_named, right_of}
use Rattle.iso_ops.specs.Specifiers.{is_right_open}
use Rattle.iso_model.specs.Terms.Trees.{Tree, Name, Apply, row}
use Rattle.iso_model.specs.Syntax.Lists.{nil, curly, dot}
use Rattle.iso_model.specs.Syntax.Texts.{name_text}
use Rattle.iso_model.specs.Syntax.Pieces.{Piece, Writeq, Written, piece, simple, made_by, at_most, operand_at, left_operand, bracketed, single_by, single_written, numbered_or, pair_by, pair_written, list_written, atom_written, is_operator_name}
use Rattle.iso_model.proofs.Syntax.PieceParts.{IsPart}
use Rattle.iso_model.proofs.Syntax.PieceTerms.{atom_part, nil_part, curly_part}
use Rattle.iso_model.proofs.Syntax.PiecePlaces.{IsPlace, place_of_part, bracket_part, braces_part, last_argument, more_arguments, compound_part}
use Rattle.iso_model.proofs.Syntax.PieceLists.{IsTail, nil_tail, bar_tail, cell_tail, list_part}
use Rattle.iso_model.proofs.Syntax.PieceOperators.{IsOperandAt, operand_part, IsLeftOperand, left_part, infix_written, postfix_written, prefix_written}

and_true : (a : Bool) → (a && true) ≡ a
and_true true = refl
and_true false = refl

module _ (table : List Operator) (flags : Flags) (seen : List ℕ) where
  -- What is written is read as this term.
  pub record IsReadable (w : Written) (names behind : List (List ℕ)) (t : Tree) : Type 0 where
    pub part : IsPart table flags w.bare w.priority w.is_open w.is_operator names behind t
    pub priority : w.priority ≤ 1200
    pub tail : IsTail table flags w.tail names behind t

  pub simple_readable : {ps : List Piece} {names behind : List (List ℕ)} {t : Tree} → IsPart table flags ps 0 false false names behind t → IsReadable (simple ps) names behind t
  simple_readable p = record { part = p; priority = omega arith; tail = bar_tail table flags (place_of_part table flags 999 p (omega arith)) }

  -- a part in a place of at most this priority
  placed_part : (most : ℕ) {ps : List Piece} {priority : ℕ} {is_open lone : Bool} {names behind : List (List ℕ)} {t : Tree} → IsPart table flags ps priority is_open lone names behind t → priority ≤ 1200
      → IsPlace table flags most (if nat_lt most priority then bracketed ps else ps) names behind t
  placed_part most {priority = priority} p le =
      elim (cases_Bool (nat_lt most priority)) [
        | inl above ↦ rw above (place_of_part table flags most (bracket_part table flags (place_of_part table flags 1200 p le)) (omega arith))
        | inr within ↦ rw within (place_of_part table flags most p (grind (arith, nat_tests, within)))
      ]

  pub place_written : (most : ℕ) {w : Written} {names behind : List (List ℕ)} {t : Tree} → IsReadable w names behind t → IsPlace table flags most (at_most most w) names behind t
  place_written most r = placed_part most r.part r.priority

  -- as a tail: an argument
  made_tail : (o : Operator) {ps : List Piece} {names behind : List (List ℕ)} {t : Tree} → IsPart table flags ps o.priority (is_right_open o.spec) false names behind t → o.priority ≤ 1200 → IsTail table flags (made_by o ps).tail names behind t
  made_tail o p le = bar_tail table flags (placed_part 999 p le)

  made_readable : (o : Operator) {ps : List Piece} {names behind : List (List ℕ)} {t : Tree} → IsPart table flags ps o.priority (is_right_open o.spec) false names behind t → o.priority ≤ 1200 → IsReadable (made_by o ps) names behind t
  made_readable o p le = record { part = p; priority = le; tail = made_tail o p le }

  operand_written : (most : ℕ) {w : Written} {names behind : List (List ℕ)} {t : Tree} → IsReadable w names behind t → IsOperandAt table flags most (operand_at most w) names behind t
  operand_written most r = operand_part table flags most r.part r.priority

  left_written : (o : Operator) {w : Written} {names behind : List (List ℕ)} {t : Tree} → IsReadable w names behind t → IsLeftOperand table flags o (left_operand o w) names behind t
  left_written o r = left_part table flags o r.part r.priority

  -- ---- one argument

  single_by_readable : IsOpTable table → HasNoBrackets table → (name : List ℕ) (p q : Option Operator) → prefix_named table name ≡ p → postfix_named table name ≡ q → {w : Written} {names behind : List (List ℕ)} {t : Tree} → IsReadable w names behind t
      → IsReadable (single_by Writeq table seen p q name w) names behind (Apply name (row (t ∷ [])))
  single_by_readable good plain name (Some o) q is other {names = names} {behind} {t} r =
      let same = (find_op-parts Prefix name table o is).1 in
      let low = find_op-priority Prefix name table o good.priorities is in
      let made = made_readable o (prefix_written table flags plain o (ap (prefix_named table) (sym same) ∙ is) (operand_written (right_of o) r)) low.1 in
      rw same made
  single_by_readable good plain name None (Some o) is other {names = names} {behind} {t} r =
      let same = (find_op-parts Postfix name table o other).1 in
      let low = find_op-priority Postfix name table o good.priorities other in
      let made = made_readable o (postfix_written table flags good plain o (ap (postfix_named table) (sym same) ∙ other) (left_written o r)) low.1 in
      rw same made
  single_by_readable good plain name None None is other r = simple_readable (compound_part table flags name (last_argument table flags (place_written 999 r)) (omega arith))

  pub single_readable : IsOpTable table → HasNoBrackets table → (name : List ℕ) {w : Written} {names behind : List (List ℕ)} {t : Tree} → IsReadable w names behind t → IsReadable (single_written Writeq table seen name w) names behind (Apply name (row (t ∷ [])))
  single_readable good plain name r =
      elim (cases_Bool (bytes_eq name (codes "{}"))) [
        | inl is ↦ (let same = (bytes_eq-Decides name (codes "{}")).0 is in rw (is, same) (simple_readable (braces_part table flags (place_written 1200 r))))
        | inr other ↦ rw other (single_by_readable good plain name (prefix_named table name) (postfix_named table name) refl refl r)
      ]

  -- where there is no number
  pub numbered_readable : (o : Option ℕ) → is_some o ≡ false → {w : Written} {names behind : List (List ℕ)} {t : Tree} → IsReadable w names behind t → IsReadable (numbered_or o w) names behind t
  numbered_readable None none r = r
  numbered_readable (Some n) none r = absurd (true≢false none)

  -- ---- two arguments

  pair_by_readable : IsOpTable table → HasNoBrackets table → (name : List ℕ) (p : Option Operator) → infix_named table name ≡ p → {w v : Written} {names mid behind : List (List ℕ)} {t u : Tree} → IsReadable w names mid t → IsReadable v mid behind u
      → IsReadable (pair_by Writeq table seen p name w v) names behind (Apply name (row (t ∷ u ∷ [])))
  pair_by_readable good plain name (Some o) is r q =
      let same = (find_op-parts Infix name table o is).1 in
      let low = find_op-priority Infix name table o good.priorities is in
      let made = made_readable o (infix_written table flags plain o (ap (infix_named table) (sym same) ∙ is) (left_written o r) (operand_written (right_of o) q)) low.1 in
      rw same made
  pair_by_readable good plain name None is r q =
      simple_readable (compound_part table flags name (more_arguments table flags (place_written 999 r) (last_argument table flags (place_written 999 q))) (omega arith))

  list_readable : {w v : Written} {names mid behind : List (List ℕ)} {t u : Tree} → IsReadable w names mid t → IsReadable v mid behind u → IsReadable (list_written Writeq table seen w v) names behind (Apply dot (row (t ∷ u ∷ [])))
  list_readable r q = record {
    part = list_part table flags (place_written 999 r) q.tail;
    priority = omega arith;
    tail = cell_tail table flags (place_written 999 r) q.tail;
  }

  pub pair_readable : IsOpTable table → HasNoBrackets table → (name : List ℕ) {w v : Written} {names mid behind : List (List ℕ)} {t u : Tree} → IsReadable w names mid t → IsReadable v mid behind u
      → IsReadable (pair_written Writeq table seen name w v) names behind (Apply name (row (t ∷ u ∷ [])))
  pair_readable good plain name r q =
      elim (cases_Bool (bytes_eq name (codes "."))) [
        | inl is ↦ (let same = (bytes_eq-Decides name (codes ".")).0 is in rw (is, same) (list_readable r q))
        | inr other ↦ rw other (pair_by_readable good plain name (infix_named table name) refl r q)
      ]

  -- ---- atoms

  nil_alone : HasNoBrackets table → (is_operator_name Writeq table seen nil && true) ≡ false
  nil_alone plain = rw ((plain Prefix).0, (plain Infix).0, (plain Postfix).0) refl

  curly_alone : HasNoBrackets table → (is_operator_name Writeq table seen curly && true) ≡ false
  curly_alone plain = rw ((plain Prefix).1, (plain Infix).1, (plain Postfix).1) refl

  name_part : HasNoBrackets table → (name : List ℕ) (names : List (List ℕ)) → IsPart table flags (piece (name_text name) ∷ []) 0 false (is_operator_name Writeq table seen name && true) names names (Name name)
  name_part plain name names =
      elim (cases_Bool (bytes_eq name (codes "[]"))) [
        | inl is ↦ (let same = (bytes_eq-Decides name (codes "[]")).0 is in rw same (subst (λ lone. IsPart table flags (piece (codes "[]") ∷ []) 0 false lone names names (Name nil)) (sym (nil_alone plain)) (nil_part table flags plain names)))
        | inr a ↦ elim (cases_Bool (bytes_eq name (codes "{}"))) [
          | inl is ↦ (let same = (bytes_eq-Decides name (codes "{}")).0 is in rw same (subst (λ lone. IsPart table flags (piece (codes "{}") ∷ []) 0 false lone names names (Name curly)) (sym (curly_alone plain)) (curly_part table flags plain names)))
          | inr c ↦ atom_part table flags name a c (is_operator_name Writeq table seen name && true) (and_true (is_operator_name Writeq table seen name)) names
        ]
      ]

  name_tail : HasNoBrackets table → (name : List ℕ) (names : List (List ℕ)) (b : Bool) → bytes_eq name (codes "[]") ≡ b
      → IsTail table flags (if b then piece (codes "]") ∷ [] else piece (codes "|") ∷ piece (name_text name) ∷ piece (codes "]") ∷ []) names names (Name name)
  name_tail plain name names true is = rw ((bytes_eq-Decides name (codes "[]")).0 is) (nil_tail table flags names)
  name_tail plain name names false is = bar_tail table flags (place_of_part table flags 999 (name_part plain name names) (omega arith))

  pub atom_readable : HasNoBrackets table → (name : List ℕ) (names : List (List ℕ)) → IsReadable (atom_written Writeq table seen name) names names (Name name)
  atom_readable plain name names = record {
    part = name_part plain name names;
    priority = omega arith;
    tail = name_tail plain name names (bytes_eq name (codes "[]")) refl;
  }
