-- The text of a term in three styles, as the pieces that are written one after the other (ISO/IEC 13211-1:1995,
-- 7.10.5; layout and brackets are own). Bytes stand as their codes: `(` is 40, `)` 41, a space 32, `'` 39, `-` 45,
-- `_` 95.
use Rattle.std.specs.Prelude.{ℕ, List, [], ◌∷◌, ◌++◌, Bool, true, false, ◌&&◌, ◌||◌, ◌==◌, not, nat_lt, slice_index, codes, if◌then◌else◌, Option, Some, None, is_some, pos}
use Rattle.std.specs.Fmt.{signed_decimal}
use Rattle.std.specs.List.{list_all}
use Rattle.std.specs.Str.{bytes_eq}
use Rattle.iso_ops.specs.Operators.{Operator}
use Rattle.iso_model.specs.Syntax.Characters.{is_digit, is_alphanumeric, is_graphic, space, quote, byte_of}
use Rattle.iso_model.specs.Syntax.Operators.{prefix_named, infix_named, postfix_named, left_of, right_of}
use Rattle.iso_ops.specs.Specifiers.{takes_equal, is_right_open}
use Rattle.iso_model.specs.Terms.Trees.{Tree, Variable, Integer, Name, Apply, End, More}
use Rattle.iso_model.specs.Syntax.Texts.{is_bare, name_text, variable_text, numbered_variable}

-- How terms are written (8.14.2): as `write`, `writeq` and `write_canonical` do.
pub data Style : Type 0 where
  Write : Style
  Writeq : Style
  Canonical : Style

-- whether names are quoted where they need it, and whether operators are written as such
abbrev pub quotes : Style → Bool
quotes Write = false
quotes Writeq = true
quotes Canonical = true

abbrev pub uses_operators : Style → Bool
uses_operators Write = true
uses_operators Writeq = true
uses_operators Canonical = false

-- whether `'$VAR'(N)` is written as a numbered variable
abbrev pub numbers_variables : Style → Bool
numbers_variables Write = true
numbers_variables Writeq = true
numbers_variables Canonical = false

-- the number N of a term `'$VAR'(N)`, where it is an integer of at least 0
abbrev pub variable_number : Tree → Option ℕ
variable_number (Apply name (More (Integer (pos n)) End)) = if bytes_eq name (codes "$VAR") then Some n else None
variable_number t = None

-- A piece of a text: its bytes, and whether a space stands before it in any case.
pub record Piece : Type 0 where
  pub text : List ℕ
  pub spaced : Bool

abbrev pub piece : List ℕ → Piece
piece text = record { text = text; spaced = false }

-- the pieces, the first of which stands behind a space
abbrev pub after_space : List Piece → List Piece
after_space [] = []
after_space (p ∷ ps) = record { text = p.text; spaced = true } ∷ ps

-- the last byte of a text; 0 where it has none
abbrev pub last_byte : List ℕ → ℕ
last_byte [] = 0
last_byte (b ∷ []) = b
last_byte (b ∷ c ∷ z) = last_byte (c ∷ z)

-- Whether a space parts two neighbours: both are letters, digits or `_`, both graphic, a digit and a quote, or both
-- quotes.
abbrev pub run_together : ℕ → ℕ → Bool
run_together last first =
    (is_alphanumeric last && is_alphanumeric first) || ((is_graphic last && is_graphic first) || ((is_digit last || last == quote) && first == quote))

abbrev pub parted : List ℕ → Piece → List ℕ
parted before p = if p.spaced || run_together (last_byte before) (slice_index p.text 0) then space ∷ p.text else p.text

-- the bytes of pieces behind a piece with this text
abbrev pub pieces_behind : List ℕ → List Piece → List ℕ
pieces_behind before [] = []
pieces_behind before (p ∷ ps) = parted before p ++ pieces_behind p.text ps

abbrev pub pieces_text : List Piece → List ℕ
pieces_text ps = pieces_behind [] ps

-- What is written of a term: its pieces, the priority of the operator that made it (0 for any other term), whether
-- that operator takes a right operand of its own priority, and whether the term is an atom that is an operator. Then
-- what the term adds behind a list's elements where it is the list's tail, and what it adds as further arguments.
pub record Written : Type 0 where
  pub bare : List Piece
  pub priority : ℕ
  pub is_open : Bool
  pub is_operator : Bool
  pub tail : List Piece
  pub others : List Piece

abbrev pub bracketed : List Piece → List Piece
bracketed ps = piece (codes "(") ∷ (ps ++ piece (codes ")") ∷ [])

-- a term in a place of at most this priority: an argument, an element, in braces, or the whole
abbrev pub at_most : ℕ → Written → List Piece
at_most most w = if nat_lt most w.priority then bracketed w.bare else w.bare

-- an operand: an atom that is an operator stands in brackets too
abbrev pub operand_at : ℕ → Written → List Piece
operand_at most w = if w.is_operator || nat_lt most w.priority then bracketed w.bare else w.bare

-- a left operand: so does a term that could be read another way (own)
abbrev pub left_operand : Operator → Written → List Piece
left_operand o w = if w.is_open && (w.priority == o.priority && takes_equal o.spec) then bracketed w.bare else operand_at (left_of o) w

-- a term that no operator made: as a tail it stands behind a bar
abbrev pub simple : List Piece → Written
simple ps = record { bare = ps; priority = 0; is_open = false; is_operator = false; tail = piece (codes "|") ∷ (ps ++ piece (codes "]") ∷ []); others = [] }

-- a numbered variable where there is a number, and else this
abbrev pub numbered_or : Option ℕ → Written → Written
numbered_or (Some n) other = simple (piece (numbered_variable n) ∷ [])
numbered_or None other = other

-- a term that this operator made: as a tail it is an argument
abbrev pub made_by : Operator → List Piece → Written
made_by o ps = record {
  bare = ps;
  priority = o.priority;
  is_open = is_right_open o.spec;
  is_operator = false;
  tail = piece (codes "|") ∷ ((if nat_lt 999 o.priority then bracketed ps else ps) ++ piece (codes "]") ∷ []);
  others = [];
}

-- a name as an operator is written without spaces: a bare run of graphic characters, `,` or `;`
abbrev pub is_symbolic : List ℕ → Bool
is_symbolic name = bytes_eq name (codes ",") || (bytes_eq name (codes ";") || (is_bare name && list_all is_graphic name))

-- whether the text of these pieces begins with a bracket, or with a digit
abbrev pub begins_open : List Piece → Bool
begins_open ps = slice_index (pieces_text ps) 0 == byte_of (codes "(")

abbrev pub begins_digit : List Piece → Bool
begins_digit ps = is_digit (slice_index (pieces_text ps) 0)

-- a name, quoted where the style quotes and it needs it
abbrev pub name_bytes : Style → List ℕ → List ℕ
name_bytes style name = if quotes style then name_text name else name

-- an infix operator's name: the comma is written as it is
abbrev pub operator_bytes : Style → List ℕ → List ℕ
operator_bytes style name = if bytes_eq name (codes ",") then name else name_bytes style name

module _ (style : Style) (table : List Operator) (seen : List ℕ) where
  abbrev pub is_operator_name : List ℕ → Bool
  is_operator_name name = is_some (prefix_named table name) || (is_some (infix_named table name) || is_some (postfix_named table name))

  abbrev pub atom_written : List ℕ → Written
  atom_written name =
      let ps = piece (name_bytes style name) ∷ [] in
      record {
        bare = ps;
        priority = 0;
        is_open = false;
        is_operator = is_operator_name name && uses_operators style;
        tail = if bytes_eq name (codes "[]") then piece (codes "]") ∷ [] else piece (codes "|") ∷ (ps ++ piece (codes "]") ∷ []);
        others = [];
      }

  -- `f(a,..)`
  abbrev pub compound_written : List ℕ → List Piece → Written
  compound_written name arguments = simple (piece (name_bytes style name) ∷ piece (codes "(") ∷ (arguments ++ piece (codes ")") ∷ []))

  -- `[a,..]`
  abbrev pub list_written : Written → Written → Written
  list_written first rest = record {
    bare = piece (codes "[") ∷ (at_most 999 first ++ rest.tail);
    priority = 0;
    is_open = false;
    is_operator = false;
    tail = piece (codes ",") ∷ (at_most 999 first ++ rest.tail);
    others = [];
  }

  abbrev pub infix_pieces : Operator → Written → Written → List Piece
  infix_pieces o l r =
      let right = operand_at (right_of o) r in
      if is_symbolic o.name then left_operand o l ++ (piece (operator_bytes style o.name) ∷ right)
      else left_operand o l ++ (after_space (piece (name_bytes style o.name) ∷ []) ++ after_space right)

  abbrev pub prefix_pieces : Operator → Written → List Piece
  prefix_pieces o w =
      let right = operand_at (right_of o) w in
      let apart = not (is_symbolic o.name) || (begins_open right || (bytes_eq o.name (codes "-") && begins_digit right)) in
      piece (name_bytes style o.name) ∷ (if apart then after_space right else right)

  abbrev pub postfix_pieces : Operator → Written → List Piece
  postfix_pieces o w =
      let name = piece (name_bytes style o.name) ∷ [] in
      left_operand o w ++ (if is_symbolic o.name then name else after_space name)

  -- a compound of two arguments that is no list
  abbrev pub pair_by : Option Operator → List ℕ → Written → Written → Written
  pair_by (Some o) name first second = made_by o (infix_pieces o first second)
  pair_by None name first second = compound_written name (at_most 999 first ++ (piece (codes ",") ∷ at_most 999 second))

  abbrev pub pair_written : List ℕ → Written → Written → Written
  pair_written name first second =
      if bytes_eq name (codes ".") then list_written first second
      else pair_by (if uses_operators style then infix_named table name else None) name first second

  -- a compound of one argument: a prefix operator's before a postfix operator's
  abbrev pub single_by : Option Operator → Option Operator → List ℕ → Written → Written
  single_by (Some o) other name argument = made_by o (prefix_pieces o argument)
  single_by None (Some o) name argument = made_by o (postfix_pieces o argument)
  single_by None None name argument = compound_written name (at_most 999 argument)

  abbrev pub single_written : List ℕ → Written → Written
  single_written name argument =
      if uses_operators style then (
      if bytes_eq name (codes "{}") then simple (piece (codes "{") ∷ (at_most 1200 argument ++ piece (codes "}") ∷ []))
      else single_by (prefix_named table name) (postfix_named table name) name argument)
      else compound_written name (at_most 999 argument)

  -- what is written of a term, where the variables of its line are these by first occurrence
  abbrev pub term_written : Tree → Written
  term_written (Variable n) = simple (piece (variable_text seen n) ∷ [])
  term_written (Integer z) = simple (piece (signed_decimal z) ∷ [])
  term_written (Name name) = atom_written name
  term_written (Apply name (More t End)) = numbered_or (if numbers_variables style then variable_number (Apply name (More t End)) else None) (single_written name (term_written t))
  term_written (Apply name (More t (More u End))) = pair_written name (term_written t) (term_written u)
  term_written (Apply name (More t ts)) = compound_written name (at_most 999 (term_written t) ++ (term_written ts).others)
  term_written (Apply name ts) = simple (piece (name_bytes style name) ∷ [])
  term_written End = simple []
  term_written (More t ts) = record {
    bare = [];
    priority = 0;
    is_open = false;
    is_operator = false;
    tail = [];
    others = piece (codes ",") ∷ (at_most 999 (term_written t) ++ (term_written ts).others);
  }

  -- the text of a term in a place of at most this priority
  abbrev pub text_at : ℕ → Tree → List ℕ
  text_at most t = pieces_text (at_most most (term_written t))
