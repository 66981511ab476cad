-- The forms in which terms are written.
use Rattle.std.proofs.Common.{◌≡◌, ℕ, ◌≤◌, ◌<◌, true, false, List, [], ◌∷◌, length, get_or, map, Option, Some, None, option_map, unwrap_or, codes, refl, ap, sym, ◌∙◌, arith}
use Rattle.std.specs.Str.{bytes_eq}
use Rattle.iso_ops.specs.declared.specifiers.Spec.{Spec}
use Rattle.iso_ops.specs.declared.specifiers.Kind.{Kind}
use Rattle.iso_ops.specs.Operators.{Operator, operator, find_op, priority_and_spec}
use Rattle.iso_model.specs.declared.terms.Term.{Term}
use Rattle.iso_model.specs.Terms.Trees.{Apply, More, End}
use Rattle.iso_model.specs.Terms.TermOf.{term_of, row_of}
use Rattle.iso_model.proofs.Syntax.MarkLemmas.{found_name}
use Rattle.iso_model.specs.Syntax.Operators.{prefix_named, infix_named, postfix_named}
use Rattle.iso_model.specs.Syntax.Pieces as pieces
use Rattle.iso_write.specs.declared.forms.Form.{Form}
use Rattle.iso_write.specs.Forms.{written, form_written, form_or, arguments_written}

named_by : (name : List ℕ) (o : Option Operator) (priority : ℕ) (spec : Spec) → ((x : Operator) → o ≡ Some x → x.name ≡ name)
    → Some (priority, spec) ≡ option_map priority_and_spec o → o ≡ Some (operator priority spec name)
named_by name None priority spec same is = cc
named_by name (Some x) priority spec same is =
    let both : (priority, spec) ≡ (x.priority, x.spec) = cc in
    let p = ap (λ (y : ℕ × Spec). y.0) both in
    let s = ap (λ (y : ℕ × Spec). y.1) both in
    let n = same x refl in
    rw (p, s, ← n) refl

-- the operator of an entry that was found
pub found_operator : (k : Kind) (name : List ℕ) (table : List Operator) (priority : ℕ) (spec : Spec) → Some (priority, spec) ≡ option_map priority_and_spec (find_op k name table)
    → find_op k name table ≡ Some (operator priority spec name)
found_operator k name table priority spec is = named_by name (find_op k name table) priority spec (found_name k name table) is

nothing_by : (o : Option Operator) → None ≡ option_map priority_and_spec o → o ≡ None
nothing_by None is = refl
nothing_by (Some o) is = cc

-- there is no entry
pub found_nothing : (k : Kind) (name : List ℕ) (table : List Operator) → None ≡ option_map priority_and_spec (find_op k name table) → find_op k name table ≡ None
found_nothing k name table is = nothing_by (find_op k name table) is

module _ (style : pieces.Style) (table : List Operator) (seen : List ℕ) where
  -- a compound of one argument by a prefix operator
  pub single_prefix : (name : List ℕ) (o : Operator) (w : pieces.Written) → pieces.uses_operators style ≡ true → bytes_eq name (codes "{}") ≡ false → prefix_named table name ≡ Some o
      → pieces.made_by o (pieces.prefix_pieces style table seen o w) ≡ pieces.single_written style table seen name w
  single_prefix name o w u b p = rw (u, b, p) refl

  -- by a postfix operator
  pub single_postfix : (name : List ℕ) (o : Operator) (w : pieces.Written) → pieces.uses_operators style ≡ true → bytes_eq name (codes "{}") ≡ false → prefix_named table name ≡ None
      → postfix_named table name ≡ Some o → pieces.made_by o (pieces.postfix_pieces style table seen o w) ≡ pieces.single_written style table seen name w
  single_postfix name o w u b p q = rw (u, b, p, q) refl

  -- a compound of two arguments by an infix operator
  pub pair_infix : (name : List ℕ) (o : Operator) (l r : pieces.Written) → bytes_eq name (codes ".") ≡ false → pieces.uses_operators style ≡ true → infix_named table name ≡ Some o
      → pieces.made_by o (pieces.infix_pieces style table seen o l r) ≡ pieces.pair_written style table seen name l r
  pair_infix name o l r b u p = rw (b, u, p) refl

  form_or_is : (f : Option Form) (d : Form) → form_or style table seen (form_written style table seen d) f ≡ form_written style table seen (unwrap_or f d)
  form_or_is None d = refl
  form_or_is (Some form) d = refl

  single_items : (name : List ℕ) (items : List Term) (a : Term) (f : Option Form) (d r : Form) → length items ≡ 1 → a ≡ get_or items 0 a
      → form_written style table seen d ≡ arguments_written style table seen name (map term_of items)
      → form_or style table seen (arguments_written style table seen name (term_of a ∷ [])) f ≡ written style table seen (Apply name (More (term_of a) End))
      → r ≡ unwrap_or f d → form_written style table seen r ≡ written style table seen (Apply name (row_of items))
  single_items name [] a f d r one first default single is = absurd (omega arith)
  single_items name (x ∷ []) a f d r one first default single is =
      rw (is) (sym (form_or_is f d) ∙ rw (default, ← first) single ∙ ap (λ (t : Term). written style table seen (Apply name (More (term_of t) End))) first)
  single_items name (x ∷ y ∷ z) a f d r one first default single is = absurd (omega arith)

  -- a compound of one argument
  pub compound_single : (name : List ℕ) (items : List Term) (a : Term) (f : Option Form) (d r : Form) → 1 ≤ length items → length items < 2 → a ≡ get_or items 0 a
      → form_written style table seen d ≡ arguments_written style table seen name (map term_of items)
      → form_or style table seen (arguments_written style table seen name (term_of a ∷ [])) f ≡ written style table seen (Apply name (More (term_of a) End))
      → r ≡ unwrap_or f d → form_written style table seen r ≡ written style table seen (Apply name (row_of items))
  compound_single name items a f d r low high = single_items name items a f d r (omega arith)

  -- a compound of two arguments
  pub compound_pair : (name : List ℕ) (items : List Term) (a b : Term) (f : Option Form) (d r : Form) → 2 ≤ length items → length items < 3 → a ≡ get_or items 0 a → b ≡ get_or items 1 b
      → form_written style table seen d ≡ arguments_written style table seen name (map term_of items)
      → form_or style table seen (arguments_written style table seen name (term_of a ∷ term_of b ∷ [])) f
      ≡ pieces.pair_written style table seen name (written style table seen (term_of a)) (written style table seen (term_of b))
      → r ≡ unwrap_or f d → form_written style table seen r ≡ written style table seen (Apply name (row_of items))
  compound_pair name [] a b f d r low high first second default pair is = absurd (omega arith)
  compound_pair name (x ∷ []) a b f d r low high first second default pair is = absurd (omega arith)
  compound_pair name (x ∷ y ∷ []) a b f d r low high first second default pair is =
      rw (is) (sym (form_or_is f d) ∙ rw (default, ← first, ← second) pair
      ∙ ap (λ (t : Term). pieces.pair_written style table seen name (written style table seen (term_of t)) (written style table seen (term_of b))) first
      ∙ ap (λ (t : Term). pieces.pair_written style table seen name (written style table seen (term_of x)) (written style table seen (term_of t))) second)
  compound_pair name (x ∷ y ∷ w ∷ z) a b f d r low high first second default pair is = absurd (omega arith)

  -- a compound of more
  pub compound_more : (name : List ℕ) (items : List Term) → 3 ≤ length items → arguments_written style table seen name (map term_of items) ≡ written style table seen (Apply name (row_of items))
  compound_more name [] low = absurd (omega arith)
  compound_more name (x ∷ []) low = absurd (omega arith)
  compound_more name (x ∷ y ∷ []) low = absurd (omega arith)
  compound_more name (x ∷ y ∷ w ∷ z) low = refl
