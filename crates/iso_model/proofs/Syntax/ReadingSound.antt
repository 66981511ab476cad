-- What the reading by precedence gives, the grammar gives too.
use Rattle.std.proofs.Common.{◌≡◌, ℕ, zero, suc, ◌+◌, ◌-◌, ◌<◌, ◌≤◌, Bool, true, false, not, ◌&&◌, cond, nat_le, nat_lt, List, [], ◌∷◌, length, drop, Option, Some, None, IfSome, codes, refl, sym, subst, arith}
use Rattle.std.proofs.lemmas.Bool.{and_parts, cond_both, leb-true, ltb-true}
use Rattle.iso_ops.specs.Operators.{Operator}
use Rattle.iso_ops.specs.declared.settings.Flags.{Flags}
use Rattle.iso_model.specs.Syntax.Operators.{prefix_named, left_of, right_of}
use Rattle.iso_model.specs.Syntax.Token.{Shown, TokenKind, NameToken, QuotedToken, DoubleToken, VariableToken, IntegerToken, PunctToken, EndToken, BadToken, magnitude, content}
use Rattle.iso_model.specs.Terms.Trees.{Apply, row}
use Rattle.iso_model.specs.Syntax.Lists.{nil, curly}
use Rattle.iso_model.specs.Syntax.Grammar.{Left, before, Node, Row, closed, no_terms, with_first, is_name, is_unquoted, is_mark, opens_arguments, next_is, negates, begins, max_integer, infix_at, postfix_at, Reads, Operand, Named, Elements, alone, between, behind, variable_at, integer_at, double_at, name_at, nil_at, curly_at, brackets_at, braces_at, list_at, list_with_tail_at, compound_of, literal_of, atom_of, operator_alone, operator_before, last_of, more_of}
use Rattle.iso_model.specs.Syntax.Reading.{Outcome, ◌>>=◌, Reader, closing, further, elements, compound, bracketed, braced, list_end, listed, integer, literal, prefixed, named, punctuated, operand_by, operand, fits, Following, Between, Behind, operator_of, following_by, if_fits, operator_behind, extended_by, extended, climb_by, climb, continued, term}

pub bind_if : {A B : Type 0} (o : Option A) (f : A → Option B) (P : A → Type 0) (Q : B → Type 0) → IfSome o P → ((x : A) → P x → IfSome (f x) Q) → IfSome (o >>= f) Q
bind_if None f P Q a b = tt
bind_if (Some x) f P Q a b = b x a

if_as : {A : Type 0} {P Q : A → Type 0} (o : Option A) → IfSome o P → ((x : A) → P x → Q x) → IfSome o Q
if_as None a f = tt
if_as (Some x) a f = f x a

pub if_either : {B : Type 0} (b : Bool) (o p : Option B) (Q : B → Type 0) → (b ≡ true → IfSome o Q) → (b ≡ false → IfSome p Q) → IfSome (cond b o p) Q
if_either b o p Q holds fails = cond_both b o p (λ x. IfSome x Q) holds fails

pub guard_if : {B : Type 0} (b : Bool) (o : Option B) (Q : B → Type 0) → (b ≡ true → IfSome o Q) → IfSome (cond b o None) Q
guard_if b o Q holds = if_either b o None Q holds (λ _. tt)

not_true : (a : Bool) → not a ≡ true → a ≡ false
not_true true h = cc
not_true false h = refl

abbrev pub left_at : List Shown → List (List ℕ) → Left
left_at ts names = record { tokens = ts; names = names }

-- what is made behind a mark, where something holds of what is left before it
closing_if : {A : Type 0} (mark : List ℕ) (x : A) (P : List Shown → Type 0) (Q : A × Left → Type 0) (ts : List Shown) (names : List (List ℕ)) → P ts → ((u : Shown) (us : List Shown) → P (u ∷ us) → is_mark mark u ≡ true → Q (x, left_at us names))
    → IfSome (closing mark x (left_at ts names)) Q
closing_if mark x P Q [] names p h = tt
closing_if mark x P Q (u ∷ us) names p h = guard_if (is_mark mark u) _ Q (λ close. h u us p close)

module _ (table : List Operator) (flags : Flags) where
  -- what a reader gives
  pub record IsSound (most depth : ℕ) (s : Left) (x : Node × Left) : Type 0 where
    pub reads : Reads table flags s x.0 x.1
    pub height : x.0.height < depth
    pub priority : x.0.priority ≤ most
    pub shorter : length x.1.tokens < length s.tokens

  abbrev pub Sound : Reader → ℕ → Type 0
  Sound sub depth = (most : ℕ) (s : Left) → IfSome (sub most s) (IsSound most depth s)

  -- what may stand behind an argument
  record IsFurther (depth : ℕ) (s : Left) (x : Row × Left) : Type 0 where
    pub reads : (z : Left) (n : Node) → Reads table flags z n s → n.priority ≤ 999 → Elements table flags z (with_first n x.0) x.1
    pub height : x.0.height < depth
    pub shorter : length x.1.tokens ≤ length s.tokens

  nothing_further : (depth : ℕ) (s : Left) → 0 < depth → IsFurther depth s (no_terms, s)
  nothing_further depth s h = record { reads = λ z n r le. last_of r le; height = h; shorter = omega arith }

  further_sound : (sub : Reader) (depth : ℕ) → Sound sub depth → 0 < depth → (turns : ℕ) (ts : List Shown) (names : List (List ℕ)) → IfSome (further sub turns (left_at ts names)) (IsFurther depth (left_at ts names))
  unfolding further
  further_sound sub depth sound h zero ts names = nothing_further depth _ h
  further_sound sub depth sound h (suc turns) [] names = nothing_further depth _ h
  further_sound sub depth sound h (suc turns) (t ∷ ts) names =
      if_either (is_mark (codes ",") t) _ _ _
      (λ comma.
      bind_if (sub 999 (left_at ts names)) _ _ _ (sound 999 (left_at ts names))
      (λ x a. bind_if (further sub turns x.1) _ _ _ (further_sound sub depth sound h turns x.1.tokens x.1.names)
      (λ r b. record {
        reads = λ z n reads le. more_of reads le comma (b.reads (left_at ts names) x.0 a.reads a.priority);
        height = omega (arith, a.height, b.height);
        shorter = omega (arith, a.shorter, b.shorter);
      })))
      (λ na. nothing_further depth _ h)

  -- what `elements` gives
  record IsElements (depth : ℕ) (s : Left) (x : Row × Left) : Type 0 where
    pub reads : Elements table flags s x.0 x.1
    pub height : x.0.height < depth
    pub shorter : length x.1.tokens < length s.tokens

  elements_sound : (sub : Reader) (depth : ℕ) → Sound sub depth → (s : Left) → IfSome (elements sub s) (IsElements depth s)
  unfolding elements
  elements_sound sub depth sound s =
      bind_if (sub 999 s) _ _ _ (sound 999 s)
      (λ x a. bind_if (further sub (length x.1.tokens) x.1) _ _ _ (further_sound sub depth sound (omega (arith, a.height)) (length x.1.tokens) x.1.tokens x.1.names)
      (λ r b. record {
        reads = b.reads s x.0 a.reads a.priority;
        height = omega (arith, a.height, b.height);
        shorter = omega (arith, a.shorter, b.shorter);
      }))

  -- what `operand` gives
  record IsOperand (depth : ℕ) (s : Left) (x : Node × Left) : Type 0 where
    pub reads : Operand table flags s x.0 x.1
    pub height : x.0.height ≤ depth
    pub shorter : length x.1.tokens < length s.tokens

  -- what `named` gives
  record IsNamed (depth : ℕ) (unquoted : Bool) (name : List ℕ) (s : Left) (x : Node × Left) : Type 0 where
    pub reads : Named table flags unquoted name s x.0 x.1
    pub height : x.0.height ≤ depth
    pub shorter : length x.1.tokens ≤ length s.tokens

  compound_sound : (sub : Reader) (depth : ℕ) → Sound sub depth → (unquoted : Bool) (name : List ℕ) (u : Shown) (s : Left) → opens_arguments u ≡ true → IfSome (compound sub name s) (IsNamed depth unquoted name (before u s))
  unfolding compound
  compound_sound sub depth sound unquoted name u s opens =
      bind_if (elements sub s) _ _ _ (elements_sound sub depth sound s)
      (λ x a. guard_if (nat_le (length x.0.terms) 255) _ _ (λ le.
      closing_if (codes ")") (closed (Apply name (row x.0.terms)) (x.0.height + 1)) (λ ts. IsElements depth s (x.0, left_at ts x.1.names)) _ x.1.tokens x.1.names a
      (λ v vs p close. record {
        reads = compound_of {v = v} opens p.reads close (leb-true (length x.0.terms) 255 le);
        height = omega (arith, p.height);
        shorter = omega (arith, p.shorter);
      })))

  literal_sound : (depth : ℕ) (unquoted : Bool) (name : List ℕ) (t : Shown) (s : Left) (m : Option ℕ) → negates unquoted name (t ∷ s.tokens) ≡ true → magnitude t ≡ m → IfSome (literal m >>= (λ n. Some (n, s))) (IsNamed depth unquoted name (before t s))
  literal_sound depth unquoted name t s None is size = tt
  literal_sound depth unquoted name t s (Some n) is size = record { reads = literal_of is size; height = omega arith; shorter = omega arith }

  prefixed_sound : (sub : Reader) (depth : ℕ) → Sound sub depth → (unquoted : Bool) (name : List ℕ) (s : Left) (o : Option Operator) → next_is opens_arguments s.tokens ≡ false → negates unquoted name s.tokens ≡ false → prefix_named table name ≡ o
      → IfSome (prefixed table flags sub name s o) (IsNamed depth unquoted name s)
  prefixed_sound sub depth sound unquoted name s None opens negates is = record { reads = atom_of opens negates is; height = omega arith; shorter = omega arith }
  prefixed_sound sub depth sound unquoted name s (Some o) opens negates is =
      if_either (begins table s.tokens) _ _ _
      (λ starts. bind_if (sub (right_of o) s) _ _ _ (sound (right_of o) s)
      (λ x a. record { reads = operator_before opens negates is starts a.reads a.priority; height = omega (arith, a.height); shorter = omega (arith, a.shorter) }))
      (λ stops. record { reads = operator_alone opens negates is stops; height = omega arith; shorter = omega arith })

  named_sound : (sub : Reader) (depth : ℕ) → Sound sub depth → (unquoted : Bool) (name : List ℕ) (ts : List Shown) (names : List (List ℕ)) → IfSome (named table flags sub unquoted name (left_at ts names)) (IsNamed depth unquoted name (left_at ts names))
  unfolding named
  named_sound sub depth sound unquoted name [] names =
      if_either (negates unquoted name []) _ _ _ (λ _. tt) (λ no_literal. prefixed_sound sub depth sound unquoted name (left_at [] names) (prefix_named table name) refl no_literal refl)
  named_sound sub depth sound unquoted name (u ∷ us) names =
      if_either (opens_arguments u) _ _ _ (λ opens. compound_sound sub depth sound unquoted name u (left_at us names) opens)
      (λ no_arguments. if_either (negates unquoted name (u ∷ us)) _ _ _ (λ is. literal_sound depth unquoted name u (left_at us names) (magnitude u) is refl)
      (λ no_literal. prefixed_sound sub depth sound unquoted name (left_at (u ∷ us) names) (prefix_named table name) no_arguments no_literal refl))

  -- a term in round brackets
  bracketed_sound : (sub : Reader) (depth : ℕ) → Sound sub depth → (t : Shown) (s : Left) → is_mark (codes "(") t ≡ true → IfSome (bracketed sub s) (IsOperand depth (before t s))
  unfolding bracketed
  bracketed_sound sub depth sound t s opens =
      bind_if (sub 1200 s) _ _ _ (sound 1200 s)
      (λ x a. closing_if (codes ")") (closed x.0.term (x.0.height + 1)) (λ ts. IsSound 1200 depth s (x.0, left_at ts x.1.names)) _ x.1.tokens x.1.names a
      (λ v vs p close. record { reads = brackets_at {u = v} opens p.reads p.priority close; height = omega (arith, p.height); shorter = omega (arith, p.shorter) }))

  braced_sound : (sub : Reader) (depth : ℕ) → Sound sub depth → (t : Shown) (s : Left) → is_mark (codes "{") t ≡ true → IfSome (braced sub s) (IsOperand depth (before t s))
  unfolding braced
  braced_sound sub depth sound t s opens =
      bind_if (sub 1200 s) _ _ _ (sound 1200 s)
      (λ x a. closing_if (codes "}") (closed (Apply curly (row (x.0.term ∷ []))) (x.0.height + 1)) (λ ts. IsSound 1200 depth s (x.0, left_at ts x.1.names)) _ x.1.tokens x.1.names a
      (λ v vs p close. record { reads = braces_at {u = v} opens p.reads p.priority close; height = omega (arith, p.height); shorter = omega (arith, p.shorter) }))

  list_end_sound : (sub : Reader) (depth : ℕ) → Sound sub depth → (t : Shown) (s : Left) (r : Row) (ts : List Shown) (names : List (List ℕ)) → is_mark (codes "[") t ≡ true → IsElements depth s (r, left_at ts names) → IfSome (list_end sub r (left_at ts names)) (IsOperand depth (before t s))
  unfolding list_end
  list_end_sound sub depth sound t s r [] names opens e = tt
  list_end_sound sub depth sound t s r (u ∷ us) names opens e =
      if_either (is_mark (codes "|") u) _ _ _
      (λ bar. bind_if (sub 999 (left_at us names)) _ _ _ (sound 999 (left_at us names))
      (λ x a. closing_if (codes "]") _ (λ ts. IsSound 999 depth (left_at us names) (x.0, left_at ts x.1.names)) _ x.1.tokens x.1.names a
      (λ v vs p close. record { reads = list_with_tail_at {u = u} {v = v} opens e.reads bar p.reads p.priority close; height = omega (arith, e.height, p.height); shorter = omega (arith, e.shorter, p.shorter) })))
      (λ _. guard_if (is_mark (codes "]") u) _ _ (λ close. record { reads = list_at {u = u} opens e.reads close; height = omega (arith, e.height); shorter = omega (arith, e.shorter) }))

  listed_sound : (sub : Reader) (depth : ℕ) → Sound sub depth → (t : Shown) (s : Left) → is_mark (codes "[") t ≡ true → IfSome (listed sub s) (IsOperand depth (before t s))
  unfolding listed
  listed_sound sub depth sound t s opens =
      bind_if (elements sub s) _ _ _ (elements_sound sub depth sound s) (λ x a. list_end_sound sub depth sound t s x.0 x.1.tokens x.1.names opens a)

  -- what stands behind a square bracket, and behind a brace
  square_sound : (sub : Reader) (depth : ℕ) → Sound sub depth → (t : Shown) (ts : List Shown) (names : List (List ℕ)) → is_mark (codes "[") t ≡ true
      → IfSome (cond (next_is (is_mark (codes "]")) ts) (named table flags sub false nil (left_at (drop 1 ts) names)) (listed sub (left_at ts names))) (IsOperand depth (before t (left_at ts names)))
  square_sound sub depth sound t [] names opens = listed_sound sub depth sound t (left_at [] names) opens
  square_sound sub depth sound t (u ∷ us) names opens =
      if_either (is_mark (codes "]") u) _ _ _
      (λ close. if_as (named table flags sub false nil (left_at us names)) (named_sound sub depth sound false nil us names)
      (λ x a. record { reads = nil_at {u = u} opens close a.reads; height = a.height; shorter = omega (arith, a.shorter) }))
      (λ _. listed_sound sub depth sound t (left_at (u ∷ us) names) opens)

  curly_sound : (sub : Reader) (depth : ℕ) → Sound sub depth → (t : Shown) (ts : List Shown) (names : List (List ℕ)) → is_mark (codes "{") t ≡ true
      → IfSome (cond (next_is (is_mark (codes "}")) ts) (named table flags sub false curly (left_at (drop 1 ts) names)) (braced sub (left_at ts names))) (IsOperand depth (before t (left_at ts names)))
  curly_sound sub depth sound t [] names opens = braced_sound sub depth sound t (left_at [] names) opens
  curly_sound sub depth sound t (u ∷ us) names opens =
      if_either (is_mark (codes "}") u) _ _ _
      (λ close. if_as (named table flags sub false curly (left_at us names)) (named_sound sub depth sound false curly us names)
      (λ x a. record { reads = curly_at {u = u} opens close a.reads; height = a.height; shorter = omega (arith, a.shorter) }))
      (λ _. braced_sound sub depth sound t (left_at (u ∷ us) names) opens)

  punctuated_sound : (sub : Reader) (depth : ℕ) → Sound sub depth → (t : Shown) (ts : List Shown) (names : List (List ℕ)) → IfSome (punctuated table flags sub t (left_at ts names)) (IsOperand depth (before t (left_at ts names)))
  unfolding punctuated
  punctuated_sound sub depth sound t ts names =
      if_either (is_mark (codes "(") t) _ _ _ (λ opens. bracketed_sound sub depth sound t (left_at ts names) opens)
      (λ _. if_either (is_mark (codes "[") t) _ _ _ (λ opens. square_sound sub depth sound t ts names opens)
      (λ _. if_either (is_mark (codes "{") t) _ _ _ (λ opens. curly_sound sub depth sound t ts names opens) (λ _. tt)))

  integer_sound : (depth : ℕ) (t : Shown) (s : Left) (m : Option ℕ) → magnitude t ≡ m → IfSome (integer m) (λ n. IsOperand depth (before t s) (n, s))
  integer_sound depth t s None is = tt
  integer_sound depth t s (Some n) is = guard_if (nat_le n max_integer) _ _ (λ le. record { reads = integer_at is (leb-true n max_integer le); height = omega arith; shorter = omega arith })

  -- a name of this kind
  name_sound : (depth : ℕ) (t : Shown) (s : Left) (k : TokenKind) (o : Outcome Node) → t.kind ≡ k → is_name k ≡ true → IfSome o (IsNamed depth (is_unquoted k) (content t) s) → IfSome o (IsOperand depth (before t s))
  name_sound depth t s k None is name a = tt
  name_sound depth t s k (Some x) is name a =
      record {
        reads = name_at (subst (λ j. is_name j ≡ true) (sym is) name) (subst (λ j. Named table flags (is_unquoted j) (content t) s x.0 x.1) (sym is) a.reads);
        height = a.height;
        shorter = omega (arith, a.shorter);
      }

  operand_by_sound : (sub : Reader) (depth : ℕ) → Sound sub depth → (t : Shown) (ts : List Shown) (names : List (List ℕ)) (k : TokenKind) → t.kind ≡ k → IfSome (operand_by table flags sub t (left_at ts names) k) (IsOperand depth (before t (left_at ts names)))
  operand_by_sound sub depth sound t ts names VariableToken is = record { reads = variable_at is; height = omega arith; shorter = omega arith }
  operand_by_sound sub depth sound t ts names IntegerToken is = bind_if (integer (magnitude t)) _ _ _ (integer_sound depth t (left_at ts names) (magnitude t) refl) (λ n a. a)
  operand_by_sound sub depth sound t ts names NameToken is = name_sound depth t (left_at ts names) NameToken _ is refl (named_sound sub depth sound true (content t) ts names)
  operand_by_sound sub depth sound t ts names QuotedToken is = name_sound depth t (left_at ts names) QuotedToken _ is refl (named_sound sub depth sound false (content t) ts names)
  operand_by_sound sub depth sound t ts names DoubleToken is = record { reads = double_at is; height = omega arith; shorter = omega arith }
  operand_by_sound sub depth sound t ts names PunctToken is = punctuated_sound sub depth sound t ts names
  operand_by_sound sub depth sound t ts names EndToken is = tt
  operand_by_sound sub depth sound t ts names BadToken is = tt

  operand_sound : (sub : Reader) (depth : ℕ) → Sound sub depth → (ts : List Shown) (names : List (List ℕ)) → IfSome (operand table flags sub (left_at ts names)) (IsOperand depth (left_at ts names))
  unfolding operand
  operand_sound sub depth sound [] names = tt
  operand_sound sub depth sound (t ∷ ts) names = operand_by_sound sub depth sound t ts names t.kind refl

  -- the token is this operator behind an operand
  abbrev pub IsAt : Shown → Following → Type 0
  IsAt t (Between o) = infix_at table t ≡ Some o
  IsAt t (Behind o) = (infix_at table t ≡ None) × (postfix_at table t ≡ Some o)

  -- what an operator that goes on makes
  extended_by_sound : (sub : Reader) (depth : ℕ) → Sound sub depth → (most : ℕ) (s m : Left) (l : Node) (t : Shown) (f : Following) → IsSound most (suc depth) s (l, before t m) → IsAt t f → fits most l (operator_of f) ≡ true → l.height < depth
      → IfSome (extended_by table flags sub l f m) (IsSound most (suc depth) s)
  extended_by_sound sub depth sound most s m l t (Between o) a at h high =
      bind_if (sub (right_of o) m) _ _ _ (sound (right_of o) m) (λ x b.
      let outer = and_parts (nat_le o.priority most && nat_le l.priority (left_of o)) _ h in
      let inner = and_parts (nat_le o.priority most) (nat_le l.priority (left_of o)) outer.0 in
      record {
        reads = between a.reads at (record { within = leb-true l.priority (left_of o) inner.1; bracketed = not_true _ outer.1 }) b.reads b.priority;
        height = omega (arith, b.height, high);
        priority = leb-true o.priority most inner.0;
        shorter = omega (arith, a.shorter, b.shorter);
      })
  extended_by_sound sub depth sound most s m l t (Behind o) a at h high =
      let outer = and_parts (nat_le o.priority most && nat_le l.priority (left_of o)) _ h in
      let inner = and_parts (nat_le o.priority most) (nat_le l.priority (left_of o)) outer.0 in
      record {
        reads = behind a.reads at.0 at.1 (record { within = leb-true l.priority (left_of o) inner.1; bracketed = not_true _ outer.1 });
        height = omega (arith, high);
        priority = leb-true o.priority most inner.0;
        shorter = omega (arith, a.shorter);
      }

  extended_sound : (sub : Reader) (depth : ℕ) → Sound sub depth → (most : ℕ) (s m : Left) (l : Node) (t : Shown) (f : Following) → IsSound most (suc depth) s (l, before t m) → IsAt t f → fits most l (operator_of f) ≡ true
      → IfSome (extended table flags sub depth l f m) (IsSound most (suc depth) s)
  unfolding extended
  extended_sound sub depth sound most s m l t f a at h =
      guard_if (nat_lt l.height depth) _ _ (λ lower. extended_by_sound sub depth sound most s m l t f a at h (ltb-true l.height depth lower))

  -- what goes on from a term is a term
  abbrev Goes : ℕ → ℕ → Left → (Node → Left → Outcome Node) → Type 0
  Goes most depth s go = (l : Node) (m : Left) → IsSound most depth s (l, m) → IfSome (go l m) (IsSound most depth s)

  climb_at_sound : (sub : Reader) (depth : ℕ) → Sound sub depth → (most : ℕ) (s m : Left) (l : Node) (t : Shown) (go : Node → Left → Outcome Node) → Goes most (suc depth) s go → IsSound most (suc depth) s (l, before t m) → (f : Following) → IsAt t f
      → IfSome (climb_by table flags sub depth l (before t m) go (if_fits most l (Some f))) (IsSound most (suc depth) s)
  climb_at_sound sub depth sound most s m l t go goes a f at =
      cond_both (fits most l (operator_of f)) (Some f) None (λ x. IfSome (climb_by table flags sub depth l (before t m) go x) (IsSound most (suc depth) s))
      (λ h. bind_if (extended table flags sub depth l f m) _ _ _ (extended_sound sub depth sound most s m l t f a at h) (λ x b. goes x.0 x.1 b))
      (λ na. a)

  climb_by_sound : (sub : Reader) (depth : ℕ) → Sound sub depth → (most : ℕ) (s m : Left) (l : Node) (t : Shown) (go : Node → Left → Outcome Node) → Goes most (suc depth) s go → IsSound most (suc depth) s (l, before t m)
      → (o p : Option Operator) → infix_at table t ≡ o → postfix_at table t ≡ p → IfSome (climb_by table flags sub depth l (before t m) go (if_fits most l (following_by table flags o p))) (IsSound most (suc depth) s)
  climb_by_sound sub depth sound most s m l t go goes a (Some o) p at other = climb_at_sound sub depth sound most s m l t go goes a (Between o) at
  climb_by_sound sub depth sound most s m l t go goes a None (Some p) at other = climb_at_sound sub depth sound most s m l t go goes a (Behind p) (at, other)
  climb_by_sound sub depth sound most s m l t go goes a None None at other = a

  climb_sound : (sub : Reader) (depth : ℕ) → Sound sub depth → (most : ℕ) (s : Left) (turns : ℕ) (l : Node) (ts : List Shown) (names : List (List ℕ)) → IsSound most (suc depth) s (l, left_at ts names)
      → IfSome (climb table flags sub depth most turns l (left_at ts names)) (IsSound most (suc depth) s)
  unfolding climb operator_behind
  climb_sound sub depth sound most s zero l ts names a = a
  climb_sound sub depth sound most s (suc turns) l [] names a = a
  climb_sound sub depth sound most s (suc turns) l (t ∷ ts) names a =
      climb_by_sound sub depth sound most s (left_at ts names) l t (climb table flags sub depth most turns) (λ n m b. climb_sound sub depth sound most s turns n m.tokens m.names b) a (infix_at table t) (postfix_at table t) refl refl

  -- what is read by precedence is a term of the grammar
  pub term_sound : (depth : ℕ) → Sound (term table flags depth) depth
  unfolding term continued
  term_sound zero most s = tt
  term_sound (suc depth) most s =
      bind_if (operand table flags (term table flags depth) s) _ _ _ (operand_sound (term table flags depth) depth (term_sound depth) s.tokens s.names)
      (λ x a. guard_if (nat_le x.0.priority most) _ _ (λ le.
      climb_sound (term table flags depth) depth (term_sound depth) most s (suc depth - x.0.height) x.0 x.1.tokens x.1.names
      (record { reads = alone a.reads; height = omega (arith, a.height); priority = leb-true x.0.priority most le; shorter = a.shorter })))
