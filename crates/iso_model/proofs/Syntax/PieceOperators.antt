-- Written terms of operators are read.
use Rattle.std.proofs.Common.{◌≡◌, ℕ, ◌+◌, ◌≤◌, Bool, true, false, ◌&&◌, ◌||◌, ◌==◌, not, nat_lt, if◌then◌else◌, List, [], ◌∷◌, ◌++◌, Option, Some, None, is_some, codes, inl, inr, refl, sym, ap, ◌∙◌, subst, arith, append_assoc}
use Rattle.std.specs.Str.{bytes_eq}
use Rattle.std.proofs.lemmas.Bool.{cases_Bool, false≢true}
use Rattle.std.proofs.lemmas.Bool.Decides.{nat_tests}
use Rattle.std.proofs.lemmas.Slice.Eq.{bytes_eq-Decides}
use Rattle.std.specs.Cmp.{both_ways}
use Rattle.std.proofs.lemmas.Option.{none-some}
use Rattle.iso_ops.specs.declared.specifiers.Kind.{Kind}
use Rattle.iso_ops.specs.declared.specifiers.Kind.TheVariants.{Prefix, Infix, Postfix}
use Rattle.iso_ops.specs.Operators.{Operator, IsOpTable, HasNoBrackets, find_op}
use Rattle.iso_ops.specs.declared.settings.Flags.{Flags}
use Rattle.iso_ops.proofs.TableLemmas.{apart-postfix}
use Rattle.iso_model.specs.Syntax.Operators.{prefix_named, infix_named, postfix_named, left_of, right_of}
use Rattle.iso_ops.specs.Specifiers.{takes_equal, is_right_open}
use Rattle.iso_model.specs.Terms.Trees.{Tree, Apply, row}
use Rattle.iso_model.specs.Syntax.Token.{Shown, content, content_of}
use Rattle.iso_model.specs.Syntax.Texts.{name_text}
use Rattle.iso_model.specs.Syntax.Grammar.{is_name, is_unquoted, is_direct_integer, next_is, infix_at, postfix_at, TakesLeft, Reads, Named, alone, between, behind, name_at, operator_before}
use Rattle.iso_model.specs.Syntax.Pieces.{Piece, Writeq, piece, is_symbolic, name_bytes, operator_bytes, after_space, begins_open, begins_digit, bracketed}
use Rattle.iso_model.proofs.Syntax.ReadingSound.{left_at}
use Rattle.iso_model.proofs.Syntax.PieceTokens.{AreTokens, Begins, IsMarkToken, IsNameToken}
use Rattle.iso_model.proofs.Syntax.PieceLexemes.{mark_first, name_first}
use Rattle.iso_model.proofs.Syntax.PieceParts.{with_space, AreSome, starts_open, starts_digit, begins_open-first, begins_digit-first, name_some, spaced_as, node, MayFollow, BeginOperand, IsPart, name_begins_operand, name_follows, mark_follows, mark_test, name_is}
use Rattle.iso_model.proofs.Syntax.PieceTerms.{prefix_begins}
use Rattle.iso_model.proofs.Syntax.PiecePlaces.{unspaced, place_of_part, bracket_part}

and_false : (a : Bool) → (a && false) ≡ false
and_false true = refl
and_false false = refl

module _ (table : List Operator) (flags : Flags) where
  -- An operand of at most this priority.
  pub record IsOperandAt (most : ℕ) (ps : List Piece) (names behind : List (List ℕ)) (t : Tree) : Type 0 where
    pub priority : ℕ
    pub is_open : Bool
    pub within : priority ≤ most
    pub part : IsPart table flags ps priority is_open false names behind t

  in_brackets : (most : ℕ) {ps : List Piece} {priority : ℕ} {is_open lone : Bool} {names behind : List (List ℕ)} {t : Tree} → IsPart table flags ps priority is_open lone names behind t → priority ≤ 1200 → IsOperandAt most (bracketed ps) names behind t
  in_brackets most p le = record { priority = 0; is_open = false; within = omega arith; part = bracket_part table flags (place_of_part table flags 1200 p le) }

  pub operand_part : (most : ℕ) {ps : List Piece} {priority : ℕ} {is_open lone : Bool} {names behind : List (List ℕ)} {t : Tree} → IsPart table flags ps priority is_open lone names behind t → priority ≤ 1200
      → IsOperandAt most (if lone || nat_lt most priority then bracketed ps else ps) names behind t
  operand_part most {lone = true} p le = in_brackets most p le
  operand_part most {priority = priority} {lone = false} p le =
      elim (cases_Bool (nat_lt most priority)) [
        | inl above ↦ rw above (in_brackets most p le)
        | inr within ↦ rw within (record { priority = priority; is_open = _; within = grind (arith, nat_tests, within); part = p })
      ]

  -- A left operand of this operator.
  pub record IsLeftOperand (o : Operator) (ps : List Piece) (names behind : List (List ℕ)) (t : Tree) : Type 0 where
    pub priority : ℕ
    pub is_open : Bool
    pub takes : (height : ℕ) → TakesLeft (node t priority height is_open) o
    pub part : IsPart table flags ps priority is_open false names behind t

  takes_bare : (a b c : Bool) → (a && (b && c)) ≡ false → ((a && b) && c) ≡ false
  takes_bare true b c h = h
  takes_bare false b c h = refl

  left_in_brackets : (o : Operator) {ps : List Piece} {priority : ℕ} {is_open lone : Bool} {names behind : List (List ℕ)} {t : Tree} → IsPart table flags ps priority is_open lone names behind t → priority ≤ 1200 → IsLeftOperand o (bracketed ps) names behind t
  left_in_brackets o p le = record { priority = 0; is_open = false; takes = λ height. record { within = omega arith; bracketed = refl }; part = bracket_part table flags (place_of_part table flags 1200 p le) }

  pub left_part : (o : Operator) {ps : List Piece} {priority : ℕ} {is_open lone : Bool} {names behind : List (List ℕ)} {t : Tree} → IsPart table flags ps priority is_open lone names behind t → priority ≤ 1200
      → IsLeftOperand o (if is_open && (priority == o.priority && takes_equal o.spec) then bracketed ps else (if lone || nat_lt (left_of o) priority then bracketed ps else ps)) names behind t
  left_part o {ps} {priority} {is_open} {lone} {names} {behind} {t} p le =
      elim (cases_Bool (is_open && (priority == o.priority && takes_equal o.spec))) [
        | inl same ↦ rw same (left_in_brackets o p le)
        | inr other ↦ rw other (by lone p other)
      ]
    where
      by : (lone : Bool) → IsPart table flags ps priority is_open lone names behind t → (is_open && (priority == o.priority && takes_equal o.spec)) ≡ false
          → IsLeftOperand o (if lone || nat_lt (left_of o) priority then bracketed ps else ps) names behind t
      by true p other = left_in_brackets o p le
      by false p other =
          elim (cases_Bool (nat_lt (left_of o) priority)) [
            | inl above ↦ rw above (left_in_brackets o p le)
            | inr within ↦ rw within (record {
              priority = priority;
              is_open = is_open;
              takes = λ height. record { within = grind (arith, nat_tests, within); bracketed = takes_bare is_open (priority == o.priority) (takes_equal o.spec) other };
              part = p;
            })
          ]

  -- ---- pieces behind pieces

  front_spaced : (b : Bool) (ps qs : List Piece) → AreSome ps → with_space b (ps ++ qs) ≡ with_space b ps ++ qs
  front_spaced b [] qs h = absurd h
  front_spaced b (p ∷ ps) qs h = refl

  front_tokens : (b : Bool) (ps qs zs : List Piece) (ts : List Shown) → AreSome ps → AreTokens (with_space b (ps ++ qs) ++ zs) ts → AreTokens (with_space b ps ++ (qs ++ zs)) ts
  front_tokens b ps qs zs ts h tokens = subst (λ us. AreTokens us ts) (ap (λ us. us ++ zs) (front_spaced b ps qs h) ∙ append_assoc (with_space b ps) qs zs) tokens

  front_some : (ps qs : List Piece) → AreSome ps → AreSome (ps ++ qs)
  front_some [] qs h = absurd h
  front_some (p ∷ ps) qs h = h

  front_open : (ps qs : List Piece) → AreSome ps → starts_open (ps ++ qs) ≡ starts_open ps
  front_open [] qs h = absurd h
  front_open (p ∷ ps) qs h = refl

  front_digit : (ps qs : List Piece) → AreSome ps → starts_digit (ps ++ qs) ≡ starts_digit ps
  front_digit [] qs h = absurd h
  front_digit (p ∷ ps) qs h = refl

  -- pieces begin an operand where their front does
  front_begins : (ps qs : List Piece) → AreSome ps → BeginOperand table flags ps → BeginOperand table flags (ps ++ qs)
  front_begins ps qs h k = record {
    begins = λ b zs ts tokens. k.begins b (qs ++ zs) ts (front_tokens b ps qs zs ts h tokens);
    opens = λ b zs ts tokens apart. k.opens b (qs ++ zs) ts (front_tokens b ps qs zs ts h tokens) (subst (λ c. (not b && c) ≡ false) (front_open ps qs h) apart);
    counts = λ b zs ts tokens apart. k.counts b (qs ++ zs) ts (front_tokens b ps qs zs ts h tokens) (subst (λ c. (not b && c) ≡ false) (front_digit ps qs h) apart);
  }

  -- ---- infix operators

  -- A piece that is read as this infix operator.
  pub record IsInfix (text : List ℕ) (spaced : Bool) (o : Operator) : Type 0 where
    pub follows : (qs : List Piece) → MayFollow table flags (spaced_as text spaced ∷ qs)
    pub reads : (qs : List Piece) (ts : List Shown) → AreTokens (spaced_as text spaced ∷ qs) ts → Begins (λ t. infix_at table t ≡ Some o) qs ts

  infix_part : (o : Operator) (text : List ℕ) (spaced : Bool) → IsInfix text spaced o → (d : Bool) {l r : List Piece} {names mid behind : List (List ℕ)} {t u : Tree} → IsLeftOperand o l names mid t → IsOperandAt (right_of o) r mid behind u
      → IsPart table flags (l ++ (spaced_as text spaced ∷ with_space d r)) o.priority (is_right_open o.spec) false names behind (Apply o.name (row (t ∷ u ∷ [])))
  infix_part o text spaced is d {l} {r} {names} {mid} {behind} {t} {u} left right = record {
    some = front_some l (spaced_as text spaced ∷ with_space d r) left.part.some;
    reads = λ b qs ts follows ends tokens.
        let x = left.part.reads b (spaced_as text spaced ∷ (with_space d r ++ qs)) ts (is.follows (with_space d r ++ qs)) (λ h. absurd (false≢true h)) (front_tokens b l (spaced_as text spaced ∷ with_space d r) qs ts left.part.some tokens) in
        let y = is.reads (with_space d r ++ qs) x.rest x.tokens in
        let z = right.part.reads d qs y.others follows (λ h. absurd (false≢true h)) y.tokens in
        record {
          rest = z.rest;
          tokens = z.tokens;
          height = _;
          reads = between {m = left_at y.others mid} {l = node t left.priority x.height left.is_open} {r = node u right.priority z.height right.is_open} {t = y.first}
              (subst (λ us. Reads table flags (left_at ts names) (node t left.priority x.height left.is_open) (left_at us mid)) y.is x.reads) y.holds (left.takes x.height) z.reads right.within;
        };
    begins = λ _. front_begins l (spaced_as text spaced ∷ with_space d r) left.part.some (left.part.begins refl);
  }

  -- an operator's name is one token
  pub one_token : HasNoBrackets table → (kind : Kind) (name : List ℕ) (o : Operator) → find_op kind name table ≡ Some o → (bytes_eq name (codes "[]") ≡ false) × (bytes_eq name (codes "{}") ≡ false)
  one_token plain kind name o found = (
    both_ways (bytes_eq name (codes "[]")) false (λ e. absurd (none-some o (sym (plain kind).0 ∙ ap (λ z. find_op kind z table) (sym ((bytes_eq-Decides name (codes "[]")).0 e)) ∙ found))) (λ e. absurd (false≢true e)),
    both_ways (bytes_eq name (codes "{}")) false (λ e. absurd (none-some o (sym (plain kind).1 ∙ ap (λ z. find_op kind z table) (sym ((bytes_eq-Decides name (codes "{}")).0 e)) ∙ found))) (λ e. absurd (false≢true e)),
  )

  name_infix : HasNoBrackets table → (o : Operator) → infix_named table o.name ≡ Some o → (spaced : Bool) → IsInfix (name_text o.name) spaced o
  name_infix plain o found spaced =
      let k = one_token plain Infix o.name o found in
      record {
        follows = λ qs. name_follows table flags o.name k.0 k.1 spaced qs;
        reads = λ qs ts tokens.
            let x = name_first o.name k.0 k.1 spaced qs ts tokens in
            record { first = x.first; others = x.others; is = x.is; holds = rw (name_is o.name x.first x.holds, x.holds.content) found; tokens = x.tokens };
      }

  mark_content : (byte : ℕ) (parted : Bool) (t : Shown) → IsMarkToken byte parted t → content t ≡ byte ∷ []
  mark_content byte parted t h = ap (λ k. content_of k t.text) h.kind ∙ h.text

  whichever : (b : Bool) (found : Option Operator) (o : Operator) → found ≡ Some o → (if b || true then found else None) ≡ Some o
  whichever true found o h = h
  whichever false found o h = h

  comma_at : (t : Shown) → IsMarkToken 44 false t → (o : Operator) → infix_named table (codes ",") ≡ Some o → infix_at table t ≡ Some o
  comma_at t h o found =
      rw (mark_test 44 false t (codes ",") h) (whichever (is_name t.kind) (infix_named table (content t)) o (ap (infix_named table) (mark_content 44 false t h) ∙ found))

  comma_infix : (o : Operator) → infix_named table (codes ",") ≡ Some o → IsInfix (codes ",") false o
  comma_infix o found = record {
    follows = λ qs. mark_follows table flags 44 refl refl qs;
    reads = λ qs ts tokens.
        let x = mark_first 44 refl false qs ts tokens in
        record { first = x.first; others = x.others; is = x.is; holds = comma_at x.first x.holds o found; tokens = x.tokens };
  }

  after_spaced : (ps : List Piece) → with_space true ps ≡ after_space ps
  after_spaced [] = refl
  after_spaced (p ∷ ps) = refl

  -- an infix operator between its operands, as it is written
  pub infix_written : HasNoBrackets table → (o : Operator) → infix_named table o.name ≡ Some o → {l r : List Piece} {names mid behind : List (List ℕ)} {t u : Tree} → IsLeftOperand o l names mid t → IsOperandAt (right_of o) r mid behind u
      → IsPart table flags (if is_symbolic o.name then l ++ (piece (operator_bytes Writeq o.name) ∷ r) else l ++ (after_space (piece (name_bytes Writeq o.name) ∷ []) ++ after_space r)) o.priority (is_right_open o.spec) false names behind (Apply o.name (row (t ∷ u ∷ [])))
  infix_written plain o found {l} {r} {names} {mid} {behind} {t} {u} left right =
      elim (cases_Bool (is_symbolic o.name)) [
        | inr spaced ↦ rw (spaced, ← after_spaced r) (infix_part o (name_text o.name) true (name_infix plain o found true) true left right)
        | inl close ↦ rw close (subst (λ us. IsPart table flags (l ++ (piece (operator_bytes Writeq o.name) ∷ us)) o.priority (is_right_open o.spec) false names behind (Apply o.name (row (t ∷ u ∷ [])))) (unspaced r)
            (infix_part o (operator_bytes Writeq o.name) false named false left right))
      ]
    where
      named : IsInfix (operator_bytes Writeq o.name) false o
      named =
          elim (cases_Bool (bytes_eq o.name (codes ","))) [
            | inl is ↦ (let same = (bytes_eq-Decides o.name (codes ",")).0 is in
                rw is (subst (λ z. IsInfix z false o) (sym same) (comma_infix o (ap (infix_named table) (sym same) ∙ found))))
            | inr other ↦ rw other (name_infix plain o found false)
          ]

  -- ---- postfix operators

  postfix_at_name : (o : Operator) → (t : Shown) → IsNameToken o.name t → postfix_named table o.name ≡ Some o → postfix_at table t ≡ Some o
  postfix_at_name o t h found = rw (name_is o.name t h, h.content) found

  no_infix_at : (o : Operator) → (t : Shown) → IsNameToken o.name t → infix_named table o.name ≡ None → infix_at table t ≡ None
  no_infix_at o t h none = rw (name_is o.name t h, h.content) none

  postfix_part : IsOpTable table → HasNoBrackets table → (o : Operator) → postfix_named table o.name ≡ Some o → (spaced : Bool) {l : List Piece} {names mid : List (List ℕ)} {t : Tree} → IsLeftOperand o l names mid t
      → IsPart table flags (l ++ (spaced_as (name_text o.name) spaced ∷ [])) o.priority (is_right_open o.spec) false names mid (Apply o.name (row (t ∷ [])))
  postfix_part good plain o found spaced {l} {names} {mid} {t} left =
      let k = one_token plain Postfix o.name o found in
      record {
        some = front_some l (spaced_as (name_text o.name) spaced ∷ []) left.part.some;
        reads = λ b qs ts follows ends tokens.
            let x = left.part.reads b (spaced_as (name_text o.name) spaced ∷ qs) ts (name_follows table flags o.name k.0 k.1 spaced qs) (λ h. absurd (false≢true h)) (front_tokens b l (spaced_as (name_text o.name) spaced ∷ []) qs ts left.part.some tokens) in
            let y = name_first o.name k.0 k.1 spaced qs x.rest x.tokens in
            record {
              rest = y.others;
              tokens = y.tokens;
              height = _;
              reads = behind {z = left_at y.others mid} {l = node t left.priority x.height left.is_open} {t = y.first}
                  (subst (λ us. Reads table flags (left_at ts names) (node t left.priority x.height left.is_open) (left_at us mid)) y.is x.reads)
                  (no_infix_at o y.first y.holds (apart-postfix table o.name o good found)) (postfix_at_name o y.first y.holds found) (left.takes x.height);
            };
        begins = λ _. front_begins l (spaced_as (name_text o.name) spaced ∷ []) left.part.some (left.part.begins refl);
      }

  -- a postfix operator behind its operand, as it is written
  pub postfix_written : IsOpTable table → HasNoBrackets table → (o : Operator) → postfix_named table o.name ≡ Some o → {l : List Piece} {names mid : List (List ℕ)} {t : Tree} → IsLeftOperand o l names mid t
      → IsPart table flags (l ++ (if is_symbolic o.name then piece (name_bytes Writeq o.name) ∷ [] else after_space (piece (name_bytes Writeq o.name) ∷ []))) o.priority (is_right_open o.spec) false names mid (Apply o.name (row (t ∷ [])))
  postfix_written good plain o found left =
      elim (cases_Bool (is_symbolic o.name)) [
        | inl close ↦ rw close (postfix_part good plain o found false left)
        | inr spaced ↦ rw spaced (postfix_part good plain o found true left)
      ]

  -- ---- prefix operators

  -- what stands behind a prefix operator takes no space where it opens no bracket, and no digits behind `-`
  apart_opens : (a b c : Bool) → (not (a || (b || c)) && b) ≡ false
  apart_opens true b c = refl
  apart_opens false true c = refl
  apart_opens false false c = and_false (not c)

  apart_counts : (a b s c : Bool) → s ≡ true → (not (a || (b || (s && c))) && c) ≡ false
  apart_counts true b s c h = refl
  apart_counts false true s c h = refl
  apart_counts false false true true h = refl
  apart_counts false false true false h = refl
  apart_counts false false false c h = absurd (false≢true h)

  no_sign : (unquoted sign direct : Bool) → (sign ≡ true → direct ≡ false) → (unquoted && (sign && direct)) ≡ false
  no_sign true true direct h = h refl
  no_sign true false direct h = refl
  no_sign false sign direct h = refl

  prefix_part : HasNoBrackets table → (o : Operator) → prefix_named table o.name ≡ Some o → (d : Bool) {r : List Piece} {names behind : List (List ℕ)} {t : Tree} → IsOperandAt (right_of o) r names behind t → (not d && starts_open r) ≡ false
      → (bytes_eq o.name (codes "-") ≡ true → (not d && starts_digit r) ≡ false) → IsPart table flags (piece (name_text o.name) ∷ with_space d r) o.priority (is_right_open o.spec) false names behind (Apply o.name (row (t ∷ [])))
  prefix_part plain o found d {r} {names} {behind} {t} right opens counts =
      let k = one_token plain Prefix o.name o found in
      let first = right.part.begins refl in
      record {
        some = (refl, name_some o.name);
        reads = λ b qs ts follows ends tokens.
            let x = name_first o.name k.0 k.1 (b || false) (with_space d r ++ qs) ts tokens in
            let z = right.part.reads d qs x.others follows (λ h. absurd (false≢true h)) x.tokens in
            rw x.is (record {
              rest = z.rest;
              tokens = z.tokens;
              height = z.height + 1;
              reads = alone (name_at {s = left_at x.others names} {t = x.first} (name_is o.name x.first x.holds)
                  (subst (λ name. Named table flags (is_unquoted x.first.kind) name (left_at x.others names) (node (Apply o.name (row (t ∷ []))) o.priority (z.height + 1) (is_right_open o.spec)) (left_at z.rest behind)) (sym x.holds.content)
                  (operator_before {s = left_at x.others names} {n = node t right.priority z.height right.is_open} (first.opens d qs x.others x.tokens opens)
                  (no_sign (is_unquoted x.first.kind) (bytes_eq o.name (codes "-")) (next_is is_direct_integer x.others) (λ is. first.counts d qs x.others x.tokens (counts is)))
                  found (first.begins d qs x.others x.tokens) z.reads right.within)));
            });
        begins = λ _. name_begins_operand table flags o.name (piece (name_text o.name) ∷ with_space d r) (λ b qs ts tokens.
            let x = name_first o.name k.0 k.1 (b || false) (with_space d r ++ qs) ts tokens in
            record { first = x.first; others = x.others; is = x.is; holds = x.holds; begins = prefix_begins table flags x.first x.others (ap (λ z. is_some (prefix_named table z)) x.holds.content ∙ ap is_some found) });
      }

  -- a prefix operator before its operand, as it is written
  pub prefix_written : HasNoBrackets table → (o : Operator) → prefix_named table o.name ≡ Some o → {r : List Piece} {names behind : List (List ℕ)} {t : Tree} → IsOperandAt (right_of o) r names behind t
      → IsPart table flags (piece (name_bytes Writeq o.name) ∷ (if not (is_symbolic o.name) || (begins_open r || (bytes_eq o.name (codes "-") && begins_digit r)) then after_space r else r)) o.priority (is_right_open o.spec) false names behind (Apply o.name (row (t ∷ [])))
  prefix_written plain o found {r} {names} {behind} {t} right =
      let plain_name = not (is_symbolic o.name) in
      let sign = bytes_eq o.name (codes "-") in
      let apart = plain_name || (starts_open r || (sign && starts_digit r)) in
      rw (begins_open-first r right.part.some, begins_digit-first r right.part.some)
      (by apart (prefix_part plain o found apart right (apart_opens plain_name (starts_open r) (sign && starts_digit r)) (λ h. apart_counts plain_name (starts_open r) sign (starts_digit r) h)))
    where
      by : (d : Bool) → IsPart table flags (piece (name_text o.name) ∷ with_space d r) o.priority (is_right_open o.spec) false names behind (Apply o.name (row (t ∷ [])))
          → IsPart table flags (piece (name_bytes Writeq o.name) ∷ (if d then after_space r else r)) o.priority (is_right_open o.spec) false names behind (Apply o.name (row (t ∷ [])))
      by true p = subst (λ us. IsPart table flags (piece (name_text o.name) ∷ us) o.priority (is_right_open o.spec) false names behind (Apply o.name (row (t ∷ [])))) (after_spaced r) p
      by false p = subst (λ us. IsPart table flags (piece (name_text o.name) ∷ us) o.priority (is_right_open o.spec) false names behind (Apply o.name (row (t ∷ [])))) (unspaced r) p
