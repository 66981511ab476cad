-- The first byte of a text.
use Rattle.std.proofs.Common.{◌≡◌, ℕ, ◌==◌, Bool, true, false, ◌&&◌, ◌||◌, not, List, [], ◌∷◌, ◌++◌, length, map, Option, Some, None, slice_get, slice_index, unwrap_or, if◌then◌else◌, refl, ap, sym, ◌∙◌, codes, eqb-true, arith}
use Rattle.std.specs.Option.{option_or}
use Rattle.std.specs.Str.{bytes_eq}
use Rattle.std.proofs.lemmas.Slice.Eq.{bytes_eq-Decides}
use Rattle.iso_ops.specs.Operators.{Operator}
use Rattle.iso_model.specs.declared.terms.Term.{Term}
use Rattle.iso_model.specs.Terms.TermOf.{term_of, row_of}
use Rattle.iso_model.specs.Syntax.Operators.{right_of}
use Rattle.iso_model.specs.Syntax.Characters.{is_digit}
use Rattle.iso_model.specs.Syntax.Texts.{is_bare}
use Rattle.iso_model.specs.Syntax.Pieces.{Style, Piece, Written, piece, after_space, quotes, name_bytes, operator_bytes, is_symbolic, run_together, pieces_behind, infix_pieces, prefix_pieces, postfix_pieces}
use Rattle.iso_model.specs.Syntax.Pieces as pieces
use Rattle.iso_write.specs.declared.tasks.Place.{Place}
use Rattle.iso_write.specs.Forms.{arguments_written, written}
use Rattle.iso_write.specs.Tasks.{placed, needs_brackets, stands_apart}
use Rattle.iso_write.specs.Leads.{lead, postfix_lead, infix_lead}
use Rattle.iso_write.proofs.EdgeLemmas.{first_is}
use Rattle.iso_write.proofs.TaskLemmas.{placed_by}
use Rattle.iso_write.proofs.PieceLemmas.{has_piece}

step_by : (spaced : Bool) (text : List ℕ) (ps : List Piece)
    → slice_get ((if spaced || run_together 0 (slice_index text 0) then 32 ∷ text else text) ++ pieces_behind text ps) 0 ≡ (if spaced then Some 32 else option_or (slice_get text 0) (lead ps))
step_by true text ps = refl
step_by false [] ps = refl
step_by false (b ∷ z) ps = refl

-- the first piece's space, or its first byte, or what stands behind it where it is empty
lead_step : (p : Piece) (ps : List Piece) → lead (p ∷ ps) ≡ (if p.spaced then Some 32 else option_or (slice_get p.text 0) (lead ps))
lead_step p ps = step_by p.spaced p.text ps

or_by : (spaced : Bool) (a b c : Option ℕ) → (if spaced then Some 32 else option_or a (option_or b c)) ≡ option_or (if spaced then Some 32 else option_or a b) c
or_by true a b c = refl
or_by false None b c = refl
or_by false (Some x) b c = refl

-- the first pieces' first byte, or that of those behind where there is none
lead-append : (xs ys : List Piece) → lead (xs ++ ys) ≡ option_or (lead xs) (lead ys)
lead-append [] ys = refl
lead-append (p ∷ xs) ys =
    lead_step p (xs ++ ys) ∙ ap (λ o. if p.spaced then Some 32 else option_or (slice_get p.text 0) o) (lead-append xs ys)
    ∙ or_by p.spaced (slice_get p.text 0) (lead xs) (lead ys) ∙ sym (ap (λ o. option_or o (lead ys)) (lead_step p xs))

lead-space : (ps : List Piece) → has_piece ps ≡ true → lead (after_space ps) ≡ Some 32
lead-space [] some_piece = cc
lead-space (p ∷ ps) some_piece = refl

-- a name with a byte begins with one however it is written
quoted_some : (q bare : Bool) (b : ℕ) (z quoted : List ℕ) (other : Option ℕ)
    → slice_get (if q then (if bare then b ∷ z else 39 ∷ quoted) else b ∷ z) 0 ≡ option_or (slice_get (if q then (if bare then b ∷ z else 39 ∷ quoted) else b ∷ z) 0) other
quoted_some true true b z quoted other = refl
quoted_some true false b z quoted other = refl
quoted_some false bare b z quoted other = refl

name_some : (style : Style) (b : ℕ) (z : List ℕ) (other : Option ℕ) → slice_get (name_bytes style (b ∷ z)) 0 ≡ option_or (slice_get (name_bytes style (b ∷ z)) 0) other
name_some style b z other = quoted_some (quotes style) (is_bare (b ∷ z)) b z _ other

or_none : (o : Option ℕ) → o ≡ option_or o None
or_none None = refl
or_none (Some x) = refl

-- an empty name before a space and this
empty_name : (q : Bool) (right : List Piece) → has_piece right ≡ true → option_or (slice_get (if q then 39 ∷ 39 ∷ [] else []) 0) (Some 32) ≡ lead (piece (if q then 39 ∷ 39 ∷ [] else []) ∷ after_space right)
empty_name true right h = refl
empty_name false right h = sym (lead_step (piece []) (after_space right) ∙ lead-space right h)

prefix_name : (style : Style) (name : List ℕ) (right : List Piece) (apart : Bool) → has_piece right ≡ true
    → option_or (slice_get (name_bytes style name) 0) (Some 32) ≡ lead (piece (name_bytes style name) ∷ (if not (is_symbolic name) || apart then after_space right else right))
prefix_name style [] right apart h = empty_name (quotes style) right h
prefix_name style (b ∷ z) right apart h =
    sym (name_some style b z (Some 32)) ∙ name_some style b z _ ∙ sym (lead_step (piece (name_bytes style (b ∷ z))) (if not (is_symbolic (b ∷ z)) || apart then after_space right else right))

postfix_name : (symbolic : Bool) (name : List ℕ) → (if symbolic then slice_get name 0 else Some 32) ≡ lead (if symbolic then piece name ∷ [] else after_space (piece name ∷ []))
postfix_name true name = or_none (slice_get name 0) ∙ sym (lead_step (piece name) [])
postfix_name false name = refl

infix_by : (comma symbolic : Bool) (name text : List ℕ) (left right : List Piece) → (comma ≡ true → symbolic ≡ true) → (comma ≡ true → slice_get name 0 ≡ Some 44)
    → (symbolic ≡ true → slice_get text 0 ≡ option_or (slice_get text 0) (lead right))
    → option_or (lead left) (if comma then Some 44 else (if symbolic then slice_get text 0 else Some 32))
    ≡ lead (if symbolic then left ++ (piece (if comma then name else text) ∷ right) else left ++ (after_space (piece text ∷ []) ++ after_space right))
infix_by true true name text left right both first some =
    sym (lead-append left (piece name ∷ right) ∙ ap (option_or (lead left)) (lead_step (piece name) right ∙ ap (λ o. option_or o (lead right)) (first refl)))
infix_by true false name text left right both first some = let no = both refl in cc
infix_by false true name text left right both first some =
    sym (lead-append left (piece text ∷ right) ∙ ap (option_or (lead left)) (lead_step (piece text) right ∙ sym (some refl)))
infix_by false false name text left right both first some = sym (lead-append left (after_space (piece text ∷ []) ++ after_space right))

either_true : (a b : Bool) → a ≡ true → a || b ≡ true
either_true true b e = refl
either_true false b e = cc

symbol_some : (style : Style) (name : List ℕ) (other : Option ℕ) → is_symbolic name ≡ true → slice_get (name_bytes style name) 0 ≡ option_or (slice_get (name_bytes style name) 0) other
symbol_some style [] other symbolic = cc
symbol_some style (b ∷ z) other symbolic = name_some style b z other

module _ (style : Style) (table : List Operator) (seen : List ℕ) where
  -- a prefix operator and its operand
  pub lead_prefix : (o : Operator) (w : Written) → has_piece (pieces.operand_at (right_of o) w) ≡ true
      → option_or (slice_get (name_bytes style o.name) 0) (Some 32) ≡ lead (prefix_pieces style table seen o w)
  lead_prefix o w h = let right = pieces.operand_at (right_of o) w in
      prefix_name style o.name right (pieces.begins_open right || (bytes_eq o.name (codes "-") && pieces.begins_digit right)) h

  -- a postfix operator behind its operand
  pub lead_postfix : (o : Operator) (w : Written) → option_or (lead (pieces.left_operand o w)) (postfix_lead style o.name) ≡ lead (postfix_pieces style table seen o w)
  lead_postfix o w =
      let left = pieces.left_operand o w in
      ap (option_or (lead left)) (postfix_name (is_symbolic o.name) (name_bytes style o.name)) ∙ sym (lead-append left _)

  -- an infix operator between its operands
  pub lead_infix : (o : Operator) (l r : Written) → option_or (lead (pieces.left_operand o l)) (infix_lead style o.name) ≡ lead (infix_pieces style table seen o l r)
  lead_infix o l r =
      let comma = bytes_eq o.name (codes ",") in
      infix_by comma (is_symbolic o.name) o.name (name_bytes style o.name) (pieces.left_operand o l) (pieces.operand_at (right_of o) r) (either_true comma _)
      (λ e. ap (λ n. slice_get n 0) ((bytes_eq-Decides o.name (codes ",")).0 e)) (symbol_some style o.name _)

-- a name alone, and before its arguments
pub no_argument : (style : Style) (table : List Operator) (seen : List ℕ) (name : List ℕ) (ts : List Term) → length ts == 0 ≡ true
    → slice_get (name_bytes style name) 0 ≡ lead (arguments_written style table seen name (map term_of ts)).bare
no_argument style table seen name [] none = or_none (slice_get (name_bytes style name) 0) ∙ sym (lead_step (piece (name_bytes style name)) [])
no_argument style table seen name (t ∷ ts) none = absurd (omega (arith, eqb-true (length (t ∷ ts)) 0 none))

pub some_argument : (style : Style) (table : List Operator) (seen : List ℕ) (name : List ℕ) (ts : List Term) → length ts == 0 ≡ false
    → option_or (slice_get (name_bytes style name) 0) (Some 40) ≡ lead (arguments_written style table seen name (map term_of ts)).bare
some_argument style table seen name [] some = cc
some_argument style table seen name (t ∷ ts) some =
    let arguments = pieces.at_most 999 (written style table seen (term_of t)) ++ (written style table seen (row_of ts)).others in
    sym (lead_step (piece (name_bytes style name)) (piece (codes "(") ∷ (arguments ++ piece (codes ")") ∷ [])))

-- a term in brackets, and one without
pub lead_bracketed : (place : Place) (w : Written) → needs_brackets place w ≡ true → lead (placed place w) ≡ Some 40
lead_bracketed place w held = let by = placed_by place w in rw (by, held) refl

pub lead_bare : (place : Place) (w : Written) → needs_brackets place w ≡ false → lead (placed place w) ≡ lead w.bare
lead_bare place w failed = let by = placed_by place w in rw (by, failed) refl

pub or_assoc : (a b c : Option ℕ) → option_or a (option_or b c) ≡ option_or (option_or a b) c
or_assoc None b c = refl
or_assoc (Some x) b c = refl

byte_is : (o : Option ℕ) (text : List ℕ) → o ≡ slice_get text 0 → unwrap_or o 0 ≡ slice_index text 0
byte_is o text is = ap (λ x. unwrap_or x 0) is ∙ first_is text

-- the space behind a symbolic prefix operator, by the first byte of its operand's text
pub apart_by : (o : Operator) (w : Written) (leading : Option ℕ) (first : ℕ) → is_symbolic o.name ≡ true → leading ≡ lead (pieces.operand_at (right_of o) w) → first ≡ unwrap_or leading 0
    → first == 40 || (bytes_eq o.name (codes "-") && is_digit first) ≡ stands_apart o w
apart_by o w leading first symbolic leads is =
    let right = pieces.operand_at (right_of o) w in
    let shape = λ (s : Bool) (b : ℕ). not s || (b == 40 || (bytes_eq o.name (codes "-") && is_digit b)) in
    ap (shape true) (is ∙ byte_is leading (pieces.pieces_text right) leads) ∙ ap (λ s. shape s (slice_index (pieces.pieces_text right) 0)) (sym symbolic)
