-- A term has a piece, so what stands before its pieces stands before them and those behind.
use Rattle.std.proofs.Common.{◌≡◌, ℕ, Bool, true, false, List, [], ◌∷◌, ◌++◌, Option, Some, None, if◌then◌else◌, refl, ap, sym, ◌∙◌, append_assoc, codes}
use Rattle.std.specs.Str.{bytes_eq}
use Rattle.iso_ops.specs.Operators.{Operator}
use Rattle.iso_model.specs.declared.terms.Term.{Term}
use Rattle.iso_model.specs.declared.terms.Term.TheOpen.{Term-F}
use Rattle.iso_model.specs.declared.terms.Term.TheOpen as layer
use Rattle.iso_model.specs.declared.terms.Term.TheFolds.{fold_out-Term}
use Rattle.iso_model.specs.Terms.Trees.{Tree, Variable, Integer, Name, Apply, End, More}
use Rattle.iso_model.specs.Terms.TermOf.{term_of, term_step}
use Rattle.iso_model.specs.Syntax.Operators.{prefix_named, infix_named, postfix_named, right_of}
use Rattle.iso_model.specs.Syntax.Pieces.{Style, Piece, Written, piece, after_space, bracketed, uses_operators, name_bytes, is_symbolic, term_written, single_written, pair_written, single_by, numbered_or, variable_number, numbers_variables, pair_by, infix_pieces, prefix_pieces, postfix_pieces}
use Rattle.iso_model.specs.Syntax.Pieces as pieces
use Rattle.iso_write.specs.declared.tasks.Place.{Place}
use Rattle.iso_write.specs.Tasks.{placed, needs_brackets, stands_apart}
use Rattle.iso_write.proofs.TaskLemmas.{placed_by}

abbrev pub has_piece : List Piece → Bool
has_piece [] = false
has_piece (p ∷ ps) = true

pub after_space-append : (ps qs : List Piece) → has_piece ps ≡ true → after_space (ps ++ qs) ≡ after_space ps ++ qs
after_space-append [] qs some_piece = cc
after_space-append (p ∷ ps) qs some_piece = refl

has_piece-append : (ps qs : List Piece) → has_piece qs ≡ true → has_piece (ps ++ qs) ≡ true
has_piece-append [] qs some_piece = some_piece
has_piece-append (p ∷ ps) qs some_piece = refl

has_either : (b : Bool) (x y : List Piece) → has_piece x ≡ true → has_piece y ≡ true → has_piece (if b then x else y) ≡ true
has_either true x y p q = p
has_either false x y p q = q

bare_either : (b : Bool) (x y : Written) → has_piece x.bare ≡ true → has_piece y.bare ≡ true → has_piece (if b then x else y).bare ≡ true
bare_either true x y p q = p
bare_either false x y p q = q

numbered_has : (o : Option ℕ) (w : Written) → has_piece w.bare ≡ true → has_piece (numbered_or o w).bare ≡ true
numbered_has None w h = h
numbered_has (Some n) w h = refl

module _ (style : Style) (table : List Operator) (seen : List ℕ) where
  infix_has : (o : Operator) (l r : Written) → has_piece (infix_pieces style table seen o l r) ≡ true
  infix_has o l r = has_either (is_symbolic o.name) _ _ (has_piece-append (pieces.left_operand o l) _ refl) (has_piece-append (pieces.left_operand o l) _ refl)

  postfix_has : (o : Operator) (w : Written) → has_piece (postfix_pieces style table seen o w) ≡ true
  postfix_has o w = has_piece-append (pieces.left_operand o w) _ (has_either (is_symbolic o.name) _ _ refl refl)

  single_has : (p q : Option Operator) (name : List ℕ) (w : Written) → has_piece (single_by style table seen p q name w).bare ≡ true
  single_has (Some o) q name w = refl
  single_has None (Some o) name w = postfix_has o w
  single_has None None name w = refl

  pair_has : (p : Option Operator) (name : List ℕ) (l r : Written) → has_piece (pair_by style table seen p name l r).bare ≡ true
  pair_has (Some o) name l r = infix_has o l r
  pair_has None name l r = refl

  -- a term, and no list of terms
  abbrev pub is_term : Tree → Bool
  is_term End = false
  is_term (More t ts) = false
  is_term t = true

  bare_has : (t : Tree) → is_term t ≡ true → has_piece (term_written style table seen t).bare ≡ true
  bare_has (Variable n) is = refl
  bare_has (Integer z) is = refl
  bare_has (Name a) is = refl
  bare_has (Apply name (More t End)) is =
      let w = term_written style table seen t in
      let one = bare_either (uses_operators style) _ _ (bare_either (bytes_eq name (codes "{}")) _ _ refl (single_has (prefix_named table name) (postfix_named table name) name w)) refl in
      numbered_has (if numbers_variables style then variable_number (Apply name (More t End)) else None) (single_written style table seen name w) one
  bare_has (Apply name (More t (More u End))) is =
      bare_either (bytes_eq name (codes ".")) _ _ refl (pair_has (if uses_operators style then infix_named table name else None) name (term_written style table seen t) (term_written style table seen u))
  bare_has (Apply name (More t ts)) is = refl
  bare_has (Apply name ts) is = refl
  bare_has End is = cc
  bare_has (More t ts) is = cc

  step_is_term : (x : Term-F Tree) → is_term (term_step x) ≡ true
  step_is_term (layer.Var n) = refl
  step_is_term (layer.Int z) = refl
  step_is_term (layer.Atom a) = refl
  step_is_term (layer.Compound f v) = refl

  -- a term in its place
  pub placed_has : (place : Place) (t : Term) → has_piece (placed place (term_written style table seen (term_of t))) ≡ true
  placed_has place t =
      let w = term_written style table seen (term_of t) in
      let is = ap is_term (fold_out-Term Tree term_step t) ∙ step_is_term _ in
      let by = placed_by place w in
      rw by (has_either (needs_brackets place w) (bracketed w.bare) w.bare refl (bare_has (term_of t) is))

prefix_either : (b : Bool) (right after : List Piece) → has_piece right ≡ true → (if b then after_space (right ++ after) else right ++ after) ≡ (if b then after_space right else right) ++ after
prefix_either true right after h = after_space-append right after h
prefix_either false right after h = refl

module _ (style : Style) (table : List Operator) (seen : List ℕ) where
  -- a prefix operator with its operand
  pub prefix_by : (apart : Bool) (o : Operator) (w : Written) (after : List Piece) → has_piece (pieces.operand_at (right_of o) w) ≡ true → apart ≡ stands_apart o w
      → piece (name_bytes style o.name) ∷ (if apart then after_space (pieces.operand_at (right_of o) w ++ after) else pieces.operand_at (right_of o) w ++ after)
      ≡ prefix_pieces style table seen o w ++ after
  prefix_by apart o w after h is =
      let right = pieces.operand_at (right_of o) w in
      let shape = λ (b : Bool). (if b then after_space right else right) ++ after in
      ap (λ (z : List Piece). piece (name_bytes style o.name) ∷ z) (prefix_either apart right after h ∙ ap shape is)

  -- an infix operator that is no symbol
  pub infix_word : (o : Operator) (l r : Written) (after : List Piece) → has_piece (pieces.operand_at (right_of o) r) ≡ true → is_symbolic o.name ≡ false
      → pieces.left_operand o l ++ after_space (piece (name_bytes style o.name) ∷ after_space (pieces.operand_at (right_of o) r ++ after)) ≡ infix_pieces style table seen o l r ++ after
  infix_word o l r after h symbolic =
      let left = pieces.left_operand o l in
      let right = pieces.operand_at (right_of o) r in
      let name = after_space (piece (name_bytes style o.name) ∷ []) in
      let shape = λ (s : Bool). (if s then left ++ (piece (pieces.operator_bytes style o.name) ∷ right) else left ++ (name ++ after_space right)) ++ after in
      ap (λ (z : List Piece). left ++ (name ++ z)) (after_space-append right after h) ∙ sym (append_assoc left (name ++ after_space right) after) ∙ ap shape (sym symbolic)
