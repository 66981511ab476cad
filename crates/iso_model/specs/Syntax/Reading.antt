-- Reading by precedence: the grammar as a function of the tokens. An operand is read first; then the operators behind
-- it are taken as long as they may stand there.
use Rattle.std.specs.Prelude.{ℕ, zero, suc, ◌+◌, ◌-◌, max, Bool, true, false, not, ◌&&◌, ◌==◌, if◌then◌else◌, nat_le, nat_lt, List, [], ◌∷◌, length, drop, Option, Some, None, option_map, pos, neg_ℤ, codes}
use Rattle.iso_ops.specs.Operators.{Operator}
use Rattle.iso_ops.specs.declared.settings.Flags.{Flags}
use Rattle.iso_model.specs.Syntax.Operators.{prefix_named, left_of, right_of}
use Rattle.iso_ops.specs.Specifiers.{takes_equal}
use Rattle.iso_model.specs.Syntax.Token.{Shown, TokenKind, NameToken, QuotedToken, DoubleToken, VariableToken, IntegerToken, PunctToken, magnitude, content}
use Rattle.iso_model.specs.Syntax.Grammar.{Left, Node, Row, ReadTerm, number_of, with_name, closed, joined, applied, no_terms, with_first, is_mark, opens_arguments, next_is, negates, begins, max_integer, max_depth, infix_at, postfix_at, numbered, start_of}
use Rattle.iso_model.specs.Syntax.Lists.{nil, curly, list_before, quoted_term}
use Rattle.iso_model.specs.Terms.Trees.{Variable, Integer, Name, Apply, row}

-- what was read, and what is left behind it; nothing where the grammar has no case
abbrev pub Outcome : Type 0 → Type 0
Outcome A = Option (A × Left)

infixl 10 ◌>>=◌
abbrev pub ◌>>=◌ : {A B : Type 0} → Option A → (A → Option B) → Option B
None >>= f = None
(Some x) >>= f = f x

-- what reads a term of at most this priority
abbrev pub Reader : Type 0
Reader = ℕ → Left → Outcome Node

-- what is left behind the next token
abbrev pub rest : Left → Left
rest s = record { tokens = drop 1 s.tokens; names = s.names }

-- whether this mark is next
abbrev pub sees : List ℕ → Left → Bool
sees mark s = next_is (is_mark mark) s.tokens

-- what was made, behind this mark
abbrev pub closing : {A : Type 0} → List ℕ → A → Left → Outcome A
closing mark x s = if sees mark s then Some (x, rest s) else None

-- more arguments, each behind a comma; the number is at least that of the tokens
unfoldable pub further : Reader → ℕ → Left → Outcome Row
further sub zero s = Some (no_terms, s)
further sub (suc turns) s =
    if sees (codes ",") s then (do
      x ← sub 999 (rest s)
      r ← further sub turns x.1
      Some (with_first x.0 r.0, r.1))
    else Some (no_terms, s)

unfoldable pub elements : Reader → Left → Outcome Row
elements sub s = do
  x ← sub 999 s
  r ← further sub (length x.1.tokens) x.1
  Some (with_first x.0 r.0, r.1)

-- the compound of this name whose arguments are next
unfoldable pub compound : Reader → List ℕ → Left → Outcome Node
compound sub name s = do
  x ← elements sub s
  if nat_le (length x.0.terms) 255 then closing (codes ")") (closed (Apply name (row x.0.terms)) (x.0.height + 1)) x.1 else None

-- the term between brackets, of which the first is behind
unfoldable pub bracketed : Reader → Left → Outcome Node
bracketed sub s = do
  x ← sub 1200 s
  closing (codes ")") (closed x.0.term (x.0.height + 1)) x.1

-- the term in braces, of which the first is behind
unfoldable pub braced : Reader → Left → Outcome Node
braced sub s = do
  x ← sub 1200 s
  closing (codes "}") (closed (Apply curly (row (x.0.term ∷ []))) (x.0.height + 1)) x.1

-- what closes a list behind its elements
unfoldable pub list_end : Reader → Row → Left → Outcome Node
list_end sub r s =
    if sees (codes "|") s then (do
      x ← sub 999 (rest s)
      closing (codes "]") (closed (list_before r.terms x.0.term) (max r.height x.0.height + 1)) x.1)
    else closing (codes "]") (closed (list_before r.terms (Name nil)) (r.height + 1)) s

-- the list whose first bracket is behind
unfoldable pub listed : Reader → Left → Outcome Node
listed sub s = do
  x ← elements sub s
  list_end sub x.0 x.1

-- the integer of this size
abbrev pub integer : Option ℕ → Option Node
integer None = None
integer (Some n) = if nat_le n max_integer then Some (closed (Integer (pos n)) 0) else None

-- the negative literal of this size
abbrev pub literal : Option ℕ → Option Node
literal size = option_map (λ n. closed (Integer (neg_ℤ (pos n))) 0) size

-- the negative literal whose digits are next
abbrev pub negative : Left → List Shown → Outcome Node
negative s [] = None
negative s (t ∷ ts) = do n ← literal (magnitude t); Some (n, rest s)

-- whether an operator may take this operand on its left, in a place of at most this priority
abbrev pub fits : ℕ → Node → Operator → Bool
fits most l o = nat_le o.priority most && nat_le l.priority (left_of o) && not (l.is_open && l.priority == o.priority && takes_equal o.spec)

-- an operator that goes on behind an operand: between that and another, or behind it
pub data Following : Type 0 where
  Between : (operator : Operator) → Following
  Behind : (operator : Operator) → Following

abbrev pub operator_of : Following → Operator
operator_of (Between o) = o
operator_of (Behind o) = o

abbrev pub if_fits : ℕ → Node → Option Following → Option Following
if_fits most l None = None
if_fits most l (Some f) = if fits most l (operator_of f) then Some f else None

-- The table of operators, and the flags.
module _ (table : List Operator) (flags : Flags) where
  -- what a name that is this prefix operator stands for
  abbrev pub prefixed : Reader → List ℕ → Left → Option Operator → Outcome Node
  prefixed sub name s None = Some (closed (Name name) 0, s)
  prefixed sub name s (Some o) =
      if begins table s.tokens then (do
        x ← sub (right_of o) s
        Some (applied o x.0, x.1))
      else Some (closed (Name name) 0, s)

  -- what a name stands for
  unfoldable pub named : Reader → Bool → List ℕ → Left → Outcome Node
  named sub unquoted name s =
      if next_is opens_arguments s.tokens then compound sub name (rest s)
      else (if negates unquoted name s.tokens then negative s s.tokens
      else prefixed sub name s (prefix_named table name))

  -- what a bracket stands before
  unfoldable pub punctuated : Reader → Shown → Left → Outcome Node
  punctuated sub t s =
      if is_mark (codes "(") t then bracketed sub s
      else (if is_mark (codes "[") t then (if sees (codes "]") s then named sub false nil (rest s) else listed sub s)
      else (if is_mark (codes "{") t then (if sees (codes "}") s then named sub false curly (rest s) else braced sub s)
      else None))

  -- the operand that a token of this kind begins
  abbrev pub operand_by : Reader → Shown → Left → TokenKind → Outcome Node
  operand_by sub t s VariableToken = Some (closed (Variable (number_of t.text s.names)) 0, with_name t.text s)
  operand_by sub t s IntegerToken = do n ← integer (magnitude t); Some (n, s)
  operand_by sub t s DoubleToken = Some (closed (quoted_term flags.double_quotes (content t)) 0, s)
  operand_by sub t s NameToken = named sub true (content t) s
  operand_by sub t s QuotedToken = named sub false (content t) s
  operand_by sub t s PunctToken = punctuated sub t s
  operand_by sub t s _ = None

  abbrev pub operand_from : Reader → Left → List Shown → Outcome Node
  operand_from sub s [] = None
  operand_from sub s (t ∷ ts) = operand_by sub t (rest s) t.kind

  unfoldable pub operand : Reader → Left → Outcome Node
  operand sub s = operand_from sub s s.tokens

  -- the operator that a token is behind an operand
  abbrev pub following_by : Option Operator → Option Operator → Option Following
  following_by (Some o) other = Some (Between o)
  following_by None other = option_map Behind other

  abbrev pub next_operator : List Shown → Option Following
  next_operator [] = None
  next_operator (t ∷ ts) = following_by (infix_at table t) (postfix_at table t)

  -- the operator that goes on behind an operand
  unfoldable pub operator_behind : ℕ → Node → Left → Option Following
  operator_behind most l s = if_fits most l (next_operator s.tokens)

  abbrev pub extended_by : Reader → Node → Following → Left → Outcome Node
  extended_by sub l (Between o) s = do
    x ← sub (right_of o) s
    Some (joined l o x.0, x.1)
  extended_by sub l (Behind o) s = Some (applied o l, s)

  -- an operand with the operator that was taken behind it, and that operator's right operand
  unfoldable pub extended : Reader → ℕ → Node → Following → Left → Outcome Node
  extended sub depth l f s = if nat_lt l.height depth then extended_by sub l f s else None

  abbrev pub climb_by : Reader → ℕ → Node → Left → (Node → Left → Outcome Node) → Option Following → Outcome Node
  climb_by sub depth l s go None = Some (l, s)
  climb_by sub depth l s go (Some f) = do
    x ← extended sub depth l f (rest s)
    go x.0 x.1

  -- the operators that go on behind an operand, so many at most
  unfoldable pub climb : Reader → ℕ → ℕ → ℕ → Node → Left → Outcome Node
  climb sub depth most zero l s = Some (l, s)
  climb sub depth most (suc turns) l s = climb_by sub depth l s (climb sub depth most turns) (operator_behind most l s)

  -- All operators that go on behind an operand. Each makes the term higher, and nothing stands as deep as one more
  -- than the first number, so there are no more of them.
  unfoldable pub continued : Reader → ℕ → ℕ → Node → Left → Outcome Node
  continued sub depth most l s = climb sub depth most (suc depth - l.height) l s

  -- a term of at most this priority, in which nothing stands as deep as the first number
  unfoldable pub term : ℕ → Reader
  term zero most s = None
  term (suc depth) most s = do
    x ← operand (term depth) s
    if nat_le x.0.priority most then continued (term depth) depth most x.0 x.1 else None

  abbrev pub clause_by : Node × Left → Option ReadTerm
  clause_by (n, s) = if nat_lt 0 (length s.tokens) then None else Some (record { term = n.term; names = numbered 0 s.names })

  -- the clause that the tokens are
  unfoldable pub clause_of : List Shown → Option ReadTerm
  clause_of ts = do
    x ← term (max_depth + 1) 1200 (start_of ts)
    clause_by x
