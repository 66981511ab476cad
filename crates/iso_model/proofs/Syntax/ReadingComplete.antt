-- What the grammar gives, the reading by precedence gives too.
use Rattle.std.proofs.Common.{◌≡◌, ℕ, zero, suc, ◌+◌, ◌-◌, ◌<◌, ◌≤◌, max, Bool, true, false, ◌&&◌, ◌||◌, ◌==◌, cond, nat_le, List, [], ◌∷◌, length, Option, Some, None, pos, neg_ℤ, codes, refl, ◌∙◌, ap, arith}
use Rattle.std.proofs.lemmas.Bool.{le-leb}
use Rattle.std.proofs.lemmas.Bool.Decides.{nat_tests}
use Rattle.std.specs.Str.{bytes_eq}
use Rattle.iso_ops.specs.declared.specifiers.Kind.TheVariants as op_kind
use Rattle.iso_ops.specs.declared.settings.Flags.{Flags}
use Rattle.iso_ops.specs.Operators.{Operator, IsOpTable, comma}
use Rattle.iso_model.specs.Syntax.Operators.{prefix_named, left_of, right_of}
use Rattle.iso_ops.specs.Specifiers.{takes_equal}
use Rattle.iso_model.specs.Syntax.Token.{Shown, TokenKind, NameToken, QuotedToken, DoubleToken, VariableToken, IntegerToken, PunctToken, EndToken, BadToken, magnitude, content}
use Rattle.iso_model.specs.Terms.Trees.{Variable, Integer, Name, Apply, row}
use Rattle.iso_model.specs.Syntax.Lists.{nil, curly, list_before, quoted_term}
use Rattle.iso_model.specs.Syntax.Grammar.{Left, before, Node, Row, closed, joined, applied, no_terms, with_first, with_name, number_of, is_name, is_unquoted, is_mark, opens_arguments, next_is, negates, max_integer, infix_at, postfix_at, TakesLeft, Reads, Operand, Named, Elements, alone, between, behind, variable_at, integer_at, double_at, name_at, nil_at, curly_at, brackets_at, braces_at, list_at, list_with_tail_at, compound_of, literal_of, atom_of, operator_alone, operator_before, last_of, more_of}
use Rattle.iso_model.specs.Syntax.Reading.{Outcome, ◌>>=◌, Reader, sees, closing, further, elements, compound, bracketed, braced, list_end, listed, integer, prefixed, named, punctuated, operand_by, operand, fits, Following, Between, Behind, operator_of, following_by, if_fits, next_operator, operator_behind, extended, climb_by, continued, term}
use Rattle.iso_model.proofs.Syntax.MarkLemmas.{magnitude_kind, name_is_no_punct, no_mark, other_mark, digits_open_nothing, mark_is_no_infix, mark_is_no_postfix, comma_is_infix, found_positive, mark_parts}
use Rattle.iso_model.proofs.Syntax.ReadingSound.{term_sound}
use Rattle.iso_model.proofs.Syntax.ReadingSteps.{further_comma, further_end, continued-step}

-- the greatest priority that an operator may have whose left operand would be cut out of this term
abbrev pub edge_of : Node → ℕ
edge_of n = cond n.is_open n.priority (n.priority - 1)

cond_le : (b : Bool) (p : ℕ) → cond b p (p - 1) ≤ p
cond_le true p = omega arith
cond_le false p = omega arith

left_le : (o : Operator) → left_of o ≤ o.priority
left_le o = cond_le (takes_equal o.spec) o.priority

-- an operator that may take l on its left stands above the edge of l
edge_below_by : (open_ equal : Bool) (p q : ℕ) → 0 < p → q ≤ cond equal p (p - 1) → (open_ && q == p && equal) ≡ false → cond open_ q (q - 1) < p
edge_below_by false equal p q h a b = omega (arith, cond_le equal p)
edge_below_by true false p q h a b = omega arith
edge_below_by true true p q h a b = grind (arith, nat_tests)

edge_below : (l : Node) (o : Operator) → 0 < o.priority → TakesLeft l o → edge_of l < o.priority
edge_below l o h t = edge_below_by l.is_open (takes_equal o.spec) o.priority l.priority h t.within t.bracketed

edge_le : (n : Node) → edge_of n ≤ n.priority
edge_le n = cond_le n.is_open n.priority

fits_yes : (most : ℕ) (l : Node) (o : Operator) → TakesLeft l o → o.priority ≤ most → fits most l o ≡ true
fits_yes most l o left le = rw (le-leb o.priority most le, le-leb l.priority (left_of o) left.within, left.bracketed) refl

fits_none : (most : ℕ) (l : Node) (o : Option Following) → ((f : Following) → o ≡ Some f → most < (operator_of f).priority) → if_fits most l o ≡ None
fits_none most l None c = refl
fits_none most l (Some f) c = let h : nat_le (operator_of f).priority most ≡ false = let above = c f refl in grind (arith, nat_tests) in rw h refl

if_some : {A : Type 0} (b : Bool) (o : Option A) (x : A) → cond b o None ≡ Some x → o ≡ Some x
if_some true o x h = h
if_some false o x h = cc

-- the parts of a reader's steps
closing_read : {A : Type 0} (mark : List ℕ) (x : A) (u : Shown) (z : Left) → is_mark mark u ≡ true → closing mark x (before u z) ≡ Some (x, z)
closing_read mark x u z close = rw close refl

elements_read : (sub : Reader) (s m : Left) (n : Node) (o : Outcome Row) → sub 999 s ≡ Some (n, m) → further sub (length m.tokens) m ≡ o → elements sub s ≡ (o >>= (λ r. Some (with_first n r.0, r.1)))
unfolding elements
elements_read sub s m n o read more = rw (read, more) refl

compound_read : (sub : Reader) (name : List ℕ) (s z : Left) (v : Shown) (r : Row) → elements sub s ≡ Some (r, before v z) → is_mark (codes ")") v ≡ true → length r.terms ≤ 255 → compound sub name s ≡ Some (closed (Apply name (row r.terms)) (r.height + 1), z)
unfolding compound
compound_read sub name s z v r read close le = rw (read, le-leb (length r.terms) 255 le) (closing_read (codes ")") (closed (Apply name (row r.terms)) (r.height + 1)) v z close)

bracketed_read : (sub : Reader) (s z : Left) (u : Shown) (n : Node) → sub 1200 s ≡ Some (n, before u z) → is_mark (codes ")") u ≡ true → bracketed sub s ≡ Some (closed n.term (n.height + 1), z)
unfolding bracketed
bracketed_read sub s z u n read close = rw read (closing_read (codes ")") (closed n.term (n.height + 1)) u z close)

braced_read : (sub : Reader) (s z : Left) (u : Shown) (n : Node) → sub 1200 s ≡ Some (n, before u z) → is_mark (codes "}") u ≡ true → braced sub s ≡ Some (closed (Apply curly (row (n.term ∷ []))) (n.height + 1), z)
unfolding braced
braced_read sub s z u n read close = rw read (closing_read (codes "}") (closed (Apply curly (row (n.term ∷ []))) (n.height + 1)) u z close)

list_read : (sub : Reader) (s z : Left) (u : Shown) (r : Row) → elements sub s ≡ Some (r, before u z) → is_mark (codes "]") u ≡ true → listed sub s ≡ Some (closed (list_before r.terms (Name nil)) (r.height + 1), z)
unfolding listed list_end
list_read sub s z u r read close =
    let no_bar = other_mark (codes "]") (codes "|") u close refl in
    rw (read, no_bar) (closing_read (codes "]") (closed (list_before r.terms (Name nil)) (r.height + 1)) u z close)

tail_read : (sub : Reader) (s m z : Left) (u v : Shown) (r : Row) (n : Node) → elements sub s ≡ Some (r, before u m) → is_mark (codes "|") u ≡ true → sub 999 m ≡ Some (n, before v z) → is_mark (codes "]") v ≡ true
    → listed sub s ≡ Some (closed (list_before r.terms n.term) (max r.height n.height + 1), z)
unfolding listed list_end
tail_read sub s m z u v r n read bar last close =
    rw (read, bar, last) (closing_read (codes "]") (closed (list_before r.terms n.term) (max r.height n.height + 1)) v z close)

module _ (table : List Operator) (flags : Flags) (good : IsOpTable table) where
  infix_positive : (t : Shown) (o : Operator) → infix_at table t ≡ Some o → 0 < o.priority
  infix_positive t o at = found_positive op_kind.Infix (content t) table o good.priorities (if_some (is_name t.kind || is_mark (codes ",") t) _ o at)

  postfix_positive : (t : Shown) (o : Operator) → postfix_at table t ≡ Some o → 0 < o.priority
  postfix_positive t o at = found_positive op_kind.Postfix (content t) table o good.priorities (if_some (is_name t.kind) _ o at)

  -- what stands next is no operator of at most this priority
  abbrev pub Clear : ℕ → Left → Type 0
  Clear m z = (f : Following) → next_operator table flags z.tokens ≡ Some f → m < (operator_of f).priority

  clear_more : (a b : ℕ) (z : Left) → a ≤ b → Clear b z → Clear a z
  clear_more a b z le c = λ f at. let above = c f at in omega arith

  clear_infix : (l : Node) (t : Shown) (o : Operator) (m : Left) → infix_at table t ≡ Some o → TakesLeft l o → Clear (edge_of l) (before t m)
  clear_infix l t o m at left = λ f e.
      let is : following_by table flags (infix_at table t) (postfix_at table t) ≡ Some (Between o) = rw at refl in
      let same : Between o ≡ f = cc in
      let below = edge_below l o (infix_positive t o at) left in
      rw (← same) below

  clear_postfix : (l : Node) (t : Shown) (o : Operator) (m : Left) → infix_at table t ≡ None → postfix_at table t ≡ Some o → TakesLeft l o → Clear (edge_of l) (before t m)
  clear_postfix l t o m none at left = λ f e.
      let is : following_by table flags (infix_at table t) (postfix_at table t) ≡ Some (Behind o) = rw (none, at) refl in
      let same : Behind o ≡ f = cc in
      let below = edge_below l o (postfix_positive t o at) left in
      rw (← same) below

  clear_comma : (t : Shown) (m : Left) → is_mark (codes ",") t ≡ true → Clear 999 (before t m)
  clear_comma t m h = λ f e.
      let at : infix_at table t ≡ Some comma = comma_is_infix table t h ∙ good.has_comma in
      let is : following_by table flags (infix_at table t) (postfix_at table t) ≡ Some (Between comma) = rw at refl in
      let same : Between comma ≡ f = cc in
      rw (← same) (omega arith)

  -- any other mark is no operator
  clear_mark : (mark : List ℕ) (most : ℕ) (t : Shown) (z : Left) → is_mark mark t ≡ true → bytes_eq mark (codes ",") ≡ false → Clear most (before t z)
  clear_mark mark most t z h differs = λ f e.
      let is : following_by table flags (infix_at table t) (postfix_at table t) ≡ None = rw (mark_is_no_infix table mark t h differs, mark_is_no_postfix table mark t h) refl in
      cc

  operator_taken : (most : ℕ) (l : Node) (t : Shown) (m : Left) (f : Following) → following_by table flags (infix_at table t) (postfix_at table t) ≡ Some f → TakesLeft l (operator_of f) → (operator_of f).priority ≤ most → operator_behind table flags most l (before t m) ≡ Some f
  unfolding operator_behind
  operator_taken most l t m f at left le = rw (at, fits_yes most l (operator_of f) left le) refl

  operator_none : (most : ℕ) (l : Node) (z : Left) → Clear most z → operator_behind table flags most l z ≡ None
  unfolding operator_behind
  operator_none most l z c = fits_none most l (next_operator table flags z.tokens) c

  -- a term is read where no operator can go on behind it
  pub finish : (depth most : ℕ) (s z : Left) (n : Node) → term table flags (suc depth) most s ≡ continued table flags (term table flags depth) depth most n z → n.height ≤ depth → Clear most z → term table flags (suc depth) most s ≡ Some (n, z)
  finish depth most s z n read high c =
      read ∙ continued-step table flags depth most n z high ∙ ap (climb_by table flags (term table flags depth) depth n z (continued table flags (term table flags depth) depth most)) (operator_none most n z c)

  operand_step : (depth most : ℕ) (s z : Left) (n : Node) → operand table flags (term table flags depth) s ≡ Some (n, z) → n.height ≤ depth → n.priority ≤ most → term table flags (suc depth) most s ≡ continued table flags (term table flags depth) depth most n z
  unfolding term
  operand_step depth most s z n read high le = rw (read, le-leb n.priority most le) refl

  extended_between : (sub : Reader) (depth : ℕ) (l r : Node) (o : Operator) (m z : Left) → l.height < depth → sub (right_of o) m ≡ Some (r, z) → extended table flags sub depth l (Between o) m ≡ Some (joined l o r, z)
  unfolding extended
  extended_between sub depth l r o m z high read = rw (read, le-leb (suc l.height) depth high) refl

  extended_behind : (sub : Reader) (depth : ℕ) (l : Node) (o : Operator) (z : Left) → l.height < depth → extended table flags sub depth l (Behind o) z ≡ Some (applied o l, z)
  unfolding extended
  extended_behind sub depth l o z high = rw (le-leb (suc l.height) depth high) refl

  -- an operator is taken, and what it makes goes on
  following_step : (depth most : ℕ) (l n : Node) (f : Following) (t : Shown) (m z : Left) → following_by table flags (infix_at table t) (postfix_at table t) ≡ Some f → TakesLeft l (operator_of f) → (operator_of f).priority ≤ most → l.height < depth
      → extended table flags (term table flags depth) depth l f m ≡ Some (n, z)
      → continued table flags (term table flags depth) depth most l (before t m) ≡ continued table flags (term table flags depth) depth most n z
  following_step depth most l n f t m z at left le high read =
      continued-step table flags depth most l (before t m) (omega arith)
      ∙ ap (climb_by table flags (term table flags depth) depth l (before t m) (continued table flags (term table flags depth) depth most)) (operator_taken most l t m f at left le)
      ∙ ap (λ (x : Outcome Node). x >>= (λ y. continued table flags (term table flags depth) depth most y.0 y.1)) read

  between_step : (depth most : ℕ) (l r : Node) (o : Operator) (t : Shown) (m z : Left) → infix_at table t ≡ Some o → TakesLeft l o → o.priority ≤ most → l.height < depth → term table flags depth (right_of o) m ≡ Some (r, z)
      → continued table flags (term table flags depth) depth most l (before t m) ≡ continued table flags (term table flags depth) depth most (joined l o r) z
  between_step depth most l r o t m z at left le high read =
      let is : following_by table flags (infix_at table t) (postfix_at table t) ≡ Some (Between o) = rw at refl in
      following_step depth most l (joined l o r) (Between o) t m z is left le high (extended_between (term table flags depth) depth l r o m z high read)

  behind_step : (depth most : ℕ) (l : Node) (o : Operator) (t : Shown) (z : Left) → infix_at table t ≡ None → postfix_at table t ≡ Some o → TakesLeft l o → o.priority ≤ most → l.height < depth
      → continued table flags (term table flags depth) depth most l (before t z) ≡ continued table flags (term table flags depth) depth most (applied o l) z
  behind_step depth most l o t z none at left le high =
      let is : following_by table flags (infix_at table t) (postfix_at table t) ≡ Some (Behind o) = rw (none, at) refl in
      following_step depth most l (applied o l) (Behind o) t z z is left le high (extended_behind (term table flags depth) depth l o z high)

  -- the parts of an operand
  variable_read : (sub : Reader) (t : Shown) (s : Left) → t.kind ≡ VariableToken → operand table flags sub (before t s) ≡ Some (closed (Variable (number_of t.text s.names)) 0, with_name t.text s)
  unfolding operand
  variable_read sub t s is = rw is refl

  integer_read : (sub : Reader) (t : Shown) (s : Left) (n : ℕ) → magnitude t ≡ Some n → n ≤ max_integer → operand table flags sub (before t s) ≡ Some (closed (Integer (pos n)) 0, s)
  unfolding operand
  integer_read sub t s n is le =
      let kind = magnitude_kind t.kind t.text n is in
      ap (operand_by table flags sub t s) kind ∙ ap (λ (o : Option ℕ). integer o >>= (λ x. Some (x, s))) is ∙ rw (le-leb n max_integer le) refl

  double_read : (sub : Reader) (t : Shown) (s : Left) → t.kind ≡ DoubleToken → operand table flags sub (before t s) ≡ Some (closed (quoted_term flags.double_quotes (content t)) 0, s)
  unfolding operand
  double_read sub t s is = ap (operand_by table flags sub t s) is

  name_read_by : (sub : Reader) (t : Shown) (s : Left) (k : TokenKind) → is_name k ≡ true → operand_by table flags sub t s k ≡ named table flags sub (is_unquoted k) (content t) s
  name_read_by sub t s NameToken h = refl
  name_read_by sub t s QuotedToken h = refl
  name_read_by sub t s DoubleToken h = cc
  name_read_by sub t s VariableToken h = cc
  name_read_by sub t s IntegerToken h = cc
  name_read_by sub t s PunctToken h = cc
  name_read_by sub t s EndToken h = cc
  name_read_by sub t s BadToken h = cc

  name_read : (sub : Reader) (t : Shown) (s : Left) → is_name t.kind ≡ true → operand table flags sub (before t s) ≡ named table flags sub (is_unquoted t.kind) (content t) s
  unfolding operand
  name_read sub t s is = name_read_by sub t s t.kind is

  mark_read : (sub : Reader) (mark : List ℕ) (t : Shown) (s : Left) → is_mark mark t ≡ true → operand table flags sub (before t s) ≡ punctuated table flags sub t s
  unfolding operand
  mark_read sub mark t s is = ap (operand_by table flags sub t s) (mark_parts mark t is).0

  round_read : (sub : Reader) (t : Shown) (s : Left) → is_mark (codes "(") t ≡ true → operand table flags sub (before t s) ≡ bracketed sub s
  unfolding punctuated
  round_read sub t s is = mark_read sub (codes "(") t s is ∙ rw is refl

  square_read : (sub : Reader) (t : Shown) (s : Left) (o : Outcome Node) → is_mark (codes "[") t ≡ true → sees (codes "]") s ≡ false → listed sub s ≡ o → operand table flags sub (before t s) ≡ o
  unfolding punctuated
  square_read sub t s o is na read = mark_read sub (codes "[") t s is ∙ rw (other_mark (codes "[") (codes "(") t is refl, is, na) read

  curly_read : (sub : Reader) (t : Shown) (s : Left) (o : Outcome Node) → is_mark (codes "{") t ≡ true → sees (codes "}") s ≡ false → braced sub s ≡ o → operand table flags sub (before t s) ≡ o
  unfolding punctuated
  curly_read sub t s o is na read = mark_read sub (codes "{") t s is ∙ rw (other_mark (codes "{") (codes "(") t is refl, other_mark (codes "{") (codes "[") t is refl, is, na) read

  nil_read : (sub : Reader) (t u : Shown) (s : Left) → is_mark (codes "[") t ≡ true → is_mark (codes "]") u ≡ true → operand table flags sub (before t (before u s)) ≡ named table flags sub false nil s
  unfolding punctuated
  nil_read sub t u s is close = mark_read sub (codes "[") t (before u s) is ∙ rw (other_mark (codes "[") (codes "(") t is refl, is, close) refl

  empty_read : (sub : Reader) (t u : Shown) (s : Left) → is_mark (codes "{") t ≡ true → is_mark (codes "}") u ≡ true → operand table flags sub (before t (before u s)) ≡ named table flags sub false curly s
  unfolding punctuated
  empty_read sub t u s is close = mark_read sub (codes "{") t (before u s) is ∙ rw (other_mark (codes "{") (codes "(") t is refl, other_mark (codes "{") (codes "[") t is refl, is, close) refl

  -- the parts of what a name stands for
  arguments_read : (sub : Reader) (unquoted : Bool) (name : List ℕ) (u : Shown) (s : Left) → opens_arguments u ≡ true → named table flags sub unquoted name (before u s) ≡ compound sub name s
  unfolding named
  arguments_read sub unquoted name u s opens = rw opens refl

  literal_read : (sub : Reader) (unquoted : Bool) (name : List ℕ) (t : Shown) (s : Left) (n : ℕ) → negates unquoted name (t ∷ s.tokens) ≡ true → magnitude t ≡ Some n → named table flags sub unquoted name (before t s) ≡ Some (closed (Integer (neg_ℤ (pos n))) 0, s)
  unfolding named
  literal_read sub unquoted name t s n is size = rw (digits_open_nothing unquoted name t s.tokens is, is, size) refl

  plain_read : (sub : Reader) (unquoted : Bool) (name : List ℕ) (s : Left) (o : Option Operator) → next_is opens_arguments s.tokens ≡ false → negates unquoted name s.tokens ≡ false → prefix_named table name ≡ o
      → named table flags sub unquoted name s ≡ prefixed table flags sub name s o
  unfolding named
  plain_read sub unquoted name s o opens negates is = rw (opens, negates, is) refl

  -- no term begins with a closing mark
  abbrev Closes : List ℕ → Type 0
  Closes mark = (bytes_eq (codes "(") mark ≡ false) × (bytes_eq (codes "[") mark ≡ false) × (bytes_eq (codes "{") mark ≡ false)

  operand_opens : (mark : List ℕ) → Closes mark → {s z : Left} {n : Node} → Operand table flags s n z → sees mark s ≡ false
  operand_opens mark h (variable_at {s} {t} is) = rw is refl
  operand_opens mark h (integer_at {s} {t} {n} is le) = rw (magnitude_kind t.kind t.text n is) refl
  operand_opens mark h (double_at {s} {t} is) = rw is refl
  operand_opens mark h (name_at {s} {z} {t} is a) = no_mark mark t (name_is_no_punct t.kind is)
  operand_opens mark h (nil_at {s} {z} {t} is close a) = other_mark (codes "[") mark t is h.1
  operand_opens mark h (curly_at {s} {z} {t} is close a) = other_mark (codes "{") mark t is h.2
  operand_opens mark h (brackets_at {s} {z} {t} is a le close) = other_mark (codes "(") mark t is h.0
  operand_opens mark h (braces_at {s} {z} {t} is a le close) = other_mark (codes "{") mark t is h.2
  operand_opens mark h (list_at {s} {z} {t} is a close) = other_mark (codes "[") mark t is h.1
  operand_opens mark h (list_with_tail_at {s} {m} {z} {t} is a bar b le close) = other_mark (codes "[") mark t is h.1

  reads_opens : (mark : List ℕ) → Closes mark → {s z : Left} {n : Node} → Reads table flags s n z → sees mark s ≡ false
  reads_opens mark h (alone a) = operand_opens mark h a
  reads_opens mark h (between a at left b le) = reads_opens mark h a
  reads_opens mark h (behind a none at left) = reads_opens mark h a

  elements_opens : (mark : List ℕ) → Closes mark → {s z : Left} {r : Row} → Elements table flags s r z → sees mark s ≡ false
  elements_opens mark h (last_of a le) = reads_opens mark h a
  elements_opens mark h (more_of a le parted b) = reads_opens mark h a

  mutual
    pub reads_complete : {s z : Left} {n : Node} → Reads table flags s n z → (depth most : ℕ) → n.height ≤ depth → n.priority ≤ most → Clear (edge_of n) z → term table flags (suc depth) most s ≡ continued table flags (term table flags depth) depth most n z
    reads_complete (alone {s} {z} {n} a) depth most high le c = operand_step depth most s z n (operand_complete a depth high c) high le
    reads_complete (between {s} {m} {z} {l} {r} {t} {o} a at left b within) zero most high le c = absurd (omega arith)
    reads_complete (between {s} {m} {z} {l} {r} {t} {o} a at left b within) (suc d) most high le c =
        let lower : l.priority ≤ most = omega (arith, left_le o, left.within) in
        let near = clear_more (edge_of r) (right_of o) z (omega (arith, edge_le r, within)) c in
        reads_complete a (suc d) most (omega arith) lower (clear_infix l t o m at left)
        ∙ between_step (suc d) most l r o t m z at left le (omega arith) (finish d (right_of o) m z r (reads_complete b d (right_of o) (omega arith) within near) (omega arith) c)
    reads_complete (behind {s} {z} {l} {t} {o} a none at left) depth most high le c =
        let lower : l.priority ≤ most = omega (arith, left_le o, left.within) in
        reads_complete a depth most (omega arith) lower (clear_postfix l t o z none at left)
        ∙ behind_step depth most l o t z none at left le (omega arith)

    operand_complete : {s z : Left} {n : Node} → Operand table flags s n z → (depth : ℕ) → n.height ≤ depth → Clear (edge_of n) z → operand table flags (term table flags depth) s ≡ Some (n, z)
    operand_complete (variable_at {s} {t} is) depth high c = variable_read (term table flags depth) t s is
    operand_complete (integer_at {s} {t} {n} is le) depth high c = integer_read (term table flags depth) t s n is le
    operand_complete (double_at {s} {t} is) depth high c = double_read (term table flags depth) t s is
    operand_complete (name_at {s} {z} {t} {n} is a) depth high c = name_read (term table flags depth) t s is ∙ named_complete a depth high c
    operand_complete (nil_at {s} {z} {t} {u} {n} is close a) depth high c = nil_read (term table flags depth) t u s is close ∙ named_complete a depth high c
    operand_complete (curly_at {s} {z} {t} {u} {n} is close a) depth high c = empty_read (term table flags depth) t u s is close ∙ named_complete a depth high c
    operand_complete (brackets_at is a le close) zero high c = absurd (omega arith)
    operand_complete (brackets_at {s} {z} {t} {u} {n} is a le close) (suc d) high c =
        let clear = λ (m : ℕ). clear_mark (codes ")") m u z close refl in
        round_read (term table flags (suc d)) t s is
        ∙ bracketed_read (term table flags (suc d)) s z u n (finish d 1200 s (before u z) n (reads_complete a d 1200 (omega arith) le (clear (edge_of n))) (omega arith) (clear 1200)) close
    operand_complete (braces_at is a le close) zero high c = absurd (omega arith)
    operand_complete (braces_at {s} {z} {t} {u} {n} is a le close) (suc d) high c =
        let clear = λ (m : ℕ). clear_mark (codes "}") m u z close refl in
        curly_read (term table flags (suc d)) t s _ is (reads_opens (codes "}") (refl, refl, refl) a)
        (braced_read (term table flags (suc d)) s z u n (finish d 1200 s (before u z) n (reads_complete a d 1200 (omega arith) le (clear (edge_of n))) (omega arith) (clear 1200)) close)
    operand_complete (list_at is a close) zero high c = absurd (omega arith)
    operand_complete (list_at {s} {z} {t} {u} {r} is a close) (suc d) high c =
        square_read (term table flags (suc d)) t s _ is (elements_opens (codes "]") (refl, refl, refl) a)
        (list_read (term table flags (suc d)) s z u r (elements_complete a d (omega arith) (clear_mark (codes "]") 999 u z close refl) (other_mark (codes "]") (codes ",") u close refl)) close)
    operand_complete (list_with_tail_at is a bar b le close) zero high c = absurd (omega arith)
    operand_complete (list_with_tail_at {s} {m} {z} {t} {u} {v} {r} {n} is a bar b le close) (suc d) high c =
        let clear = λ (k : ℕ). clear_mark (codes "]") k v z close refl in
        square_read (term table flags (suc d)) t s _ is (elements_opens (codes "]") (refl, refl, refl) a)
        (tail_read (term table flags (suc d)) s m z u v r n (elements_complete a d (omega arith) (clear_mark (codes "|") 999 u m bar refl) (other_mark (codes "|") (codes ",") u bar refl)) bar
        (finish d 999 m (before v z) n (reads_complete b d 999 (omega arith) le (clear (edge_of n))) (omega arith) (clear 999)) close)

    named_complete : {unquoted : Bool} {name : List ℕ} {s z : Left} {n : Node} → Named table flags unquoted name s n z → (depth : ℕ) → n.height ≤ depth → Clear (edge_of n) z → named table flags (term table flags depth) unquoted name s ≡ Some (n, z)
    named_complete (compound_of opens e close le) zero high c = absurd (omega arith)
    named_complete (compound_of {unquoted} {name} {s} {z} {u} {v} {r} opens e close le) (suc d) high c =
        arguments_read (term table flags (suc d)) unquoted name u s opens
        ∙ compound_read (term table flags (suc d)) name s z v r (elements_complete e d (omega arith) (clear_mark (codes ")") 999 v z close refl) (other_mark (codes ")") (codes ",") v close refl)) close le
    named_complete (literal_of {unquoted} {name} {s} {t} {n} is size) depth high c = literal_read (term table flags depth) unquoted name t s n is size
    named_complete (atom_of {unquoted} {name} {s} opens negates is) depth high c = plain_read (term table flags depth) unquoted name s None opens negates is
    named_complete (operator_alone {unquoted} {name} {s} {o} opens negates is stops) depth high c =
        plain_read (term table flags depth) unquoted name s (Some o) opens negates is ∙ rw stops refl
    named_complete (operator_before opens negates is starts a le) zero high c = absurd (omega arith)
    named_complete (operator_before {unquoted} {name} {s} {z} {o} {n} opens negates is starts a le) (suc d) high c =
        let near = clear_more (edge_of n) (right_of o) z (omega (arith, edge_le n, le)) c in
        let read = finish d (right_of o) s z n (reads_complete a d (right_of o) (omega arith) le near) (omega arith) c in
        plain_read (term table flags (suc d)) unquoted name s (Some o) opens negates is ∙ rw (starts, read) refl

    elements_complete : {s z : Left} {r : Row} → Elements table flags s r z → (depth : ℕ) → r.height ≤ depth → Clear 999 z → next_is (is_mark (codes ",")) z.tokens ≡ false → elements (term table flags (suc depth)) s ≡ Some (r, z)
    elements_complete (last_of {s} {z} {n} a le) depth high c na =
        elements_read (term table flags (suc depth)) s z n (Some (no_terms, z))
        (finish depth 999 s z n (reads_complete a depth 999 (omega arith) le (clear_more (edge_of n) 999 z (omega (arith, edge_le n, le)) c)) (omega arith) c)
        (further_end table flags (term table flags (suc depth)) (length z.tokens) z na)
    elements_complete (more_of {s} {m} {z} {n} {t} {r} a le parted b) depth high c na =
        let here = clear_comma t m parted in
        elements_read (term table flags (suc depth)) s (before t m) n (Some (r, z))
        (finish depth 999 s (before t m) n (reads_complete a depth 999 (omega arith) le (clear_more (edge_of n) 999 (before t m) (omega (arith, edge_le n, le)) here)) (omega arith) here)
        (further_comma table flags (term table flags (suc depth)) (suc depth) (term_sound table flags (suc depth)) t m parted ∙ elements_complete b depth (omega arith) c na)
