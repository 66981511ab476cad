-- The grammar of terms (ISO/IEC 13211-1:1995, 6.3), as a relation between tokens and terms. Nothing in it says that
-- an operand extends as far as it may: the rule on what stands unbracketed on the left of an operator leaves one
-- reading (own).
use Rattle.std.specs.Prelude.{◌≡◌, ℕ, ◌+◌, ◌-◌, ◌≤◌, max, Bool, true, false, not, ◌&&◌, ◌||◌, ◌==◌, if◌then◌else◌, List, [], ◌∷◌, ◌++◌, length, position, Option, Some, None, is_some, unwrap_or, pos, neg_ℤ, codes}
use Rattle.std.specs.Str.{bytes_eq}
use Rattle.iso_ops.specs.Operators.{Operator}
use Rattle.iso_ops.specs.declared.settings.Flags.{Flags}
use Rattle.iso_model.specs.Syntax.Operators.{prefix_named, infix_named, postfix_named, left_of, right_of}
use Rattle.iso_ops.specs.Specifiers.{takes_equal, is_right_open}
use Rattle.iso_model.specs.Syntax.Token.{Shown, TokenKind, NameToken, QuotedToken, DoubleToken, VariableToken, IntegerToken, PunctToken, EndToken, BadToken, magnitude, content}
use Rattle.iso_model.specs.Terms.Integers.{extent}
use Rattle.iso_model.specs.Terms.Trees.{Tree, Variable, Integer, Name, Apply, row}
use Rattle.iso_model.specs.Syntax.Lists.{nil, curly, list_before, quoted_term}

-- What is left of a clause while it is read: its tokens, and the names of the variables before them, in the order of
-- their first occurrence. A variable's number is its name's place; each `_` has a place of its own.
pub record Left : Type 0 where
  pub tokens : List Shown
  pub names : List (List ℕ)

-- a token before what is left
abbrev pub before : Shown → Left → Left
before t s = record { tokens = t ∷ s.tokens; names = s.names }

-- where a variable's name stands among these
abbrev pub name_place : List ℕ → List (List ℕ) → Option ℕ
name_place name names = if bytes_eq name (codes "_") then None else position (λ other. bytes_eq other name) names

-- the number of a variable behind variables of these names
abbrev pub number_of : List ℕ → List (List ℕ) → ℕ
number_of name names = unwrap_or (name_place name names) (length names)

-- the names with a variable's, where it has no place yet
abbrev pub with_name_by : List ℕ → List (List ℕ) → Option ℕ → List (List ℕ)
with_name_by name names None = names ++ name ∷ []
with_name_by name names (Some place) = names

abbrev pub with_name : List ℕ → Left → Left
with_name name s = record { tokens = s.tokens; names = with_name_by name s.names (name_place name s.names) }

-- A term as it is read: its priority, how deep its deepest part stands in it, and whether an operator made it whose
-- right operand may have the operator's priority.
pub record Node : Type 0 where
  pub term : Tree
  pub priority : ℕ
  pub height : ℕ
  pub is_open : Bool

-- a term of priority 0
abbrev pub closed : Tree → ℕ → Node
closed t height = record { term = t; priority = 0; height = height; is_open = false }

-- the term that an infix operator makes of its operands (6.3.4.2)
abbrev pub joined : Node → Operator → Node → Node
joined l o r = record { term = Apply o.name (row (l.term ∷ r.term ∷ [])); priority = o.priority; height = max l.height r.height + 1; is_open = is_right_open o.spec }

-- the term that a prefix or postfix operator makes of its operand (6.3.4.2)
abbrev pub applied : Operator → Node → Node
applied o n = record { term = Apply o.name (row (n.term ∷ [])); priority = o.priority; height = n.height + 1; is_open = is_right_open o.spec }

-- Arguments or elements, and how deep their deepest part stands in them.
pub record Row : Type 0 where
  pub terms : List Tree
  pub height : ℕ

abbrev pub no_terms : Row
no_terms = record { terms = []; height = 0 }

-- an argument before others
abbrev pub with_first : Node → Row → Row
with_first n r = record { terms = n.term ∷ r.terms; height = max n.height r.height }

-- whether a token is a name, quoted or not (6.4.2)
abbrev pub is_name : TokenKind → Bool
is_name NameToken = true
is_name QuotedToken = true
is_name _ = false

abbrev pub is_unquoted : TokenKind → Bool
is_unquoted NameToken = true
is_unquoted _ = false

abbrev pub is_integer : TokenKind → Bool
is_integer IntegerToken = true
is_integer _ = false

abbrev pub is_punct : TokenKind → Bool
is_punct PunctToken = true
is_punct _ = false

-- whether a token is this bracket, comma or bar
abbrev pub is_mark : List ℕ → Shown → Bool
is_mark mark t = is_punct t.kind && bytes_eq t.text mark

-- whether a token opens an argument list: a `(` directly behind the token before it (6.3.3)
abbrev pub opens_arguments : Shown → Bool
opens_arguments t = is_mark (codes "(") t && not t.after_layout

-- whether a token is an integer directly behind the token before it
abbrev pub is_direct_integer : Shown → Bool
is_direct_integer t = is_integer t.kind && not t.after_layout

-- whether the next token passes a test
abbrev pub next_is : (Shown → Bool) → List Shown → Bool
next_is test [] = false
next_is test (t ∷ ts) = test t

-- whether a name begins a negative literal before these tokens: an unquoted `-` directly before an integer (6.3.1.2)
abbrev pub negates : Bool → List ℕ → List Shown → Bool
negates unquoted name ts = unquoted && (bytes_eq name (codes "-") && next_is is_direct_integer ts)

-- the greatest integer (own limit)
abbrev pub max_integer : ℕ
max_integer = extent - 1

module _ (table : List Operator) where
  -- the infix operator that a token is, and the postfix operator
  abbrev pub infix_at : Shown → Option Operator
  infix_at t = if is_name t.kind || is_mark (codes ",") t then infix_named table (content t) else None

  abbrev pub postfix_at : Shown → Option Operator
  postfix_at t = if is_name t.kind then postfix_named table (content t) else None

  -- whether a name behind a prefix operator begins that operator's operand: it does where it is no infix or postfix
  -- operator, or is a prefix operator, a functor or the sign of a literal too (own)
  abbrev pub name_begins : Shown → List Shown → Bool
  name_begins t ts =
      not (is_some (infix_named table (content t)) || is_some (postfix_named table (content t)))
      || (is_some (prefix_named table (content t)) || (next_is opens_arguments ts || negates (is_unquoted t.kind) (content t) ts))

  abbrev pub begins_by : Shown → List Shown → TokenKind → Bool
  begins_by t ts NameToken = name_begins t ts
  begins_by t ts QuotedToken = name_begins t ts
  begins_by t ts PunctToken = is_mark (codes "(") t || (is_mark (codes "[") t || is_mark (codes "{") t)
  begins_by t ts EndToken = false
  begins_by t ts BadToken = false
  begins_by t ts _ = true

  -- whether these tokens can begin the operand of a prefix operator (own)
  abbrev pub begins : List Shown → Bool
  begins [] = false
  begins (t ∷ ts) = begins_by t ts t.kind

-- An operator and what may stand on its left: a term made by an operator that is open on its right stands unbracketed
-- on the left of no operator of its priority that takes an equal left operand (own).
pub record TakesLeft (l : Node) (o : Operator) : Type 0 where
  pub within : l.priority ≤ left_of o
  pub bracketed : (l.is_open && l.priority == o.priority && takes_equal o.spec) ≡ false

-- The table of operators, and the flags.
module _ (table : List Operator) (flags : Flags) where
  mutual
    -- what is left begins with this term, and this is left behind it (6.3)
    pub data Reads : Left → Node → Left → Type 0 where
      alone : {s z : Left} {n : Node} → Operand s n z → Reads s n z
      between : {s m z : Left} {l r : Node} {t : Shown} {o : Operator} → Reads s l (before t m) → infix_at table t ≡ Some o → TakesLeft l o → Reads m r z → r.priority ≤ right_of o → Reads s (joined l o r) z
      behind : {s z : Left} {l : Node} {t : Shown} {o : Operator} → Reads s l (before t z) → infix_at table t ≡ None → postfix_at table t ≡ Some o → TakesLeft l o → Reads s (applied o l) z

    -- it begins with this operand (6.3.1 to 6.3.7)
    pub data Operand : Left → Node → Left → Type 0 where
      variable_at : {s : Left} {t : Shown} → t.kind ≡ VariableToken → Operand (before t s) (closed (Variable (number_of t.text s.names)) 0) (with_name t.text s)
      integer_at : {s : Left} {t : Shown} {n : ℕ} → magnitude t ≡ Some n → n ≤ max_integer → Operand (before t s) (closed (Integer (pos n)) 0) s
      double_at : {s : Left} {t : Shown} → t.kind ≡ DoubleToken → Operand (before t s) (closed (quoted_term flags.double_quotes (content t)) 0) s
      name_at : {s z : Left} {t : Shown} {n : Node} → is_name t.kind ≡ true → Named (is_unquoted t.kind) (content t) s n z → Operand (before t s) n z
      nil_at : {s z : Left} {t u : Shown} {n : Node} → is_mark (codes "[") t ≡ true → is_mark (codes "]") u ≡ true → Named false nil s n z → Operand (before t (before u s)) n z
      curly_at : {s z : Left} {t u : Shown} {n : Node} → is_mark (codes "{") t ≡ true → is_mark (codes "}") u ≡ true → Named false curly s n z → Operand (before t (before u s)) n z
      brackets_at : {s z : Left} {t u : Shown} {n : Node} → is_mark (codes "(") t ≡ true → Reads s n (before u z) → n.priority ≤ 1200 → is_mark (codes ")") u ≡ true → Operand (before t s) (closed n.term (n.height + 1)) z
      braces_at : {s z : Left} {t u : Shown} {n : Node} → is_mark (codes "{") t ≡ true → Reads s n (before u z) → n.priority ≤ 1200 → is_mark (codes "}") u ≡ true
          → Operand (before t s) (closed (Apply curly (row (n.term ∷ []))) (n.height + 1)) z
      list_at : {s z : Left} {t u : Shown} {r : Row} → is_mark (codes "[") t ≡ true → Elements s r (before u z) → is_mark (codes "]") u ≡ true → Operand (before t s) (closed (list_before r.terms (Name nil)) (r.height + 1)) z
      list_with_tail_at : {s m z : Left} {t u v : Shown} {r : Row} {n : Node} → is_mark (codes "[") t ≡ true → Elements s r (before u m) → is_mark (codes "|") u ≡ true → Reads m n (before v z) → n.priority ≤ 999 → is_mark (codes "]") v ≡ true
          → Operand (before t s) (closed (list_before r.terms n.term) (max r.height n.height + 1)) z

    -- Behind a name (unquoted or not) that this term begins with, this is left: a compound where its arguments follow
    -- directly (6.3.3), a negative literal (6.3.1.2), an atom (6.3.1.3), or a prefix operator with its operand
    -- (6.3.4.2).
    pub data Named : Bool → List ℕ → Left → Node → Left → Type 0 where
      compound_of : {unquoted : Bool} {name : List ℕ} {s z : Left} {u v : Shown} {r : Row} → opens_arguments u ≡ true → Elements s r (before v z) → is_mark (codes ")") v ≡ true → length r.terms ≤ 255
          → Named unquoted name (before u s) (closed (Apply name (row r.terms)) (r.height + 1)) z
      literal_of : {unquoted : Bool} {name : List ℕ} {s : Left} {t : Shown} {n : ℕ} → negates unquoted name (t ∷ s.tokens) ≡ true → magnitude t ≡ Some n → Named unquoted name (before t s) (closed (Integer (neg_ℤ (pos n))) 0) s
      atom_of : {unquoted : Bool} {name : List ℕ} {s : Left} → next_is opens_arguments s.tokens ≡ false → negates unquoted name s.tokens ≡ false → prefix_named table name ≡ None → Named unquoted name s (closed (Name name) 0) s
      operator_alone : {unquoted : Bool} {name : List ℕ} {s : Left} {o : Operator} → next_is opens_arguments s.tokens ≡ false → negates unquoted name s.tokens ≡ false → prefix_named table name ≡ Some o → begins table s.tokens ≡ false
          → Named unquoted name s (closed (Name name) 0) s
      operator_before : {unquoted : Bool} {name : List ℕ} {s z : Left} {o : Operator} {n : Node} → next_is opens_arguments s.tokens ≡ false → negates unquoted name s.tokens ≡ false → prefix_named table name ≡ Some o → begins table s.tokens ≡ true → Reads s n z → n.priority ≤ right_of o
          → Named unquoted name s (applied o n) z

    -- it begins with one or more terms with commas between
    pub data Elements : Left → Row → Left → Type 0 where
      last_of : {s z : Left} {n : Node} → Reads s n z → n.priority ≤ 999 → Elements s (with_first n no_terms) z
      more_of : {s m z : Left} {n : Node} {t : Shown} {r : Row} → Reads s n (before t m) → n.priority ≤ 999 → is_mark (codes ",") t ≡ true → Elements m r z → Elements s (with_first n r) z

-- A term that was read (6.2), with its variables numbered 0, 1, .. in the order of their first occurrence, and the
-- named variables but `_` with their numbers.
pub record ReadTerm : Type 0 where
  pub term : Tree
  pub names : List (List ℕ × ℕ)

-- the names but `_`, each with its place, where the first has this one
abbrev pub numbered : ℕ → List (List ℕ) → List (List ℕ × ℕ)
numbered place [] = []
numbered place (name ∷ names) = if bytes_eq name (codes "_") then numbered (place + 1) names else (name, place) ∷ numbered (place + 1) names

-- what is left at the start of a clause of these tokens
abbrev pub start_of : List Shown → Left
start_of ts = record { tokens = ts; names = [] }

-- how deep a part of a term may stand in it (own limit)
abbrev pub max_depth : ℕ
max_depth = 4096

-- The tokens are this term (6.2): a term of priority at most 1200, with nothing behind it.
pub record IsReadTerm (table : List Operator) (flags : Flags) (ts : List Shown) (c : ReadTerm) : Type 0 where
  pub node : Node
  pub names : List (List ℕ)
  pub reads : Reads table flags (start_of ts) node (record { tokens = []; names = names })
  pub priority : node.priority ≤ 1200
  pub height : node.height ≤ max_depth
  pub is : c ≡ record { term = node.term; names = numbered 0 names }
