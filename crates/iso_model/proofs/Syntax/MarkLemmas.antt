-- Marks of punctuation, and the operators that a token is.
use Rattle.std.proofs.Common.{◌≡◌, ℕ, ◌<◌, Bool, true, false, List, [], ◌∷◌, Some, None, codes, refl, sym, arith}
use Rattle.std.proofs.lemmas.Bool.{and_parts, cond_both}
use Rattle.std.proofs.lemmas.Slice.Eq.{bytes_eq-Decides}
use Rattle.std.specs.Str.{bytes_eq}
use Rattle.iso_ops.specs.declared.specifiers.Kind.{Kind}
use Rattle.iso_ops.specs.declared.specifiers.Kind.TheVariants as op_kind
use Rattle.iso_ops.specs.Specifiers.{kind_of, same_kind}
use Rattle.iso_ops.specs.Operators.{Operator, is_for, find_op, HasPriorities}
use Rattle.iso_model.specs.Syntax.Token.{Shown, TokenKind, NameToken, QuotedToken, DoubleToken, VariableToken, IntegerToken, PunctToken, EndToken, BadToken, magnitude_by}
use Rattle.iso_model.specs.Syntax.Grammar.{is_name, is_integer, is_punct, is_mark, opens_arguments, negates, infix_at, postfix_at}

pub punct_kind : (k : TokenKind) → is_punct k ≡ true → k ≡ PunctToken
punct_kind NameToken h = cc
punct_kind QuotedToken h = cc
punct_kind DoubleToken h = cc
punct_kind VariableToken h = cc
punct_kind IntegerToken h = cc
punct_kind PunctToken h = refl
punct_kind EndToken h = cc
punct_kind BadToken h = cc

pub integer_kind : (k : TokenKind) → is_integer k ≡ true → k ≡ IntegerToken
integer_kind NameToken h = cc
integer_kind QuotedToken h = cc
integer_kind DoubleToken h = cc
integer_kind VariableToken h = cc
integer_kind IntegerToken h = refl
integer_kind PunctToken h = cc
integer_kind EndToken h = cc
integer_kind BadToken h = cc

pub name_is_no_punct : (k : TokenKind) → is_name k ≡ true → is_punct k ≡ false
name_is_no_punct NameToken h = refl
name_is_no_punct QuotedToken h = refl
name_is_no_punct DoubleToken h = cc
name_is_no_punct VariableToken h = cc
name_is_no_punct IntegerToken h = cc
name_is_no_punct PunctToken h = cc
name_is_no_punct EndToken h = cc
name_is_no_punct BadToken h = cc

pub magnitude_kind : (k : TokenKind) (v : List ℕ) (n : ℕ) → magnitude_by k v ≡ Some n → k ≡ IntegerToken
magnitude_kind NameToken v n h = cc
magnitude_kind QuotedToken v n h = cc
magnitude_kind DoubleToken v n h = cc
magnitude_kind VariableToken v n h = cc
magnitude_kind IntegerToken v n h = refl
magnitude_kind PunctToken v n h = cc
magnitude_kind EndToken v n h = cc
magnitude_kind BadToken v n h = cc

-- a mark's kind and text
pub mark_parts : (mark : List ℕ) (t : Shown) → is_mark mark t ≡ true → (t.kind ≡ PunctToken) × (t.text ≡ mark)
mark_parts mark t h =
    let parts = and_parts (is_punct t.kind) _ h in
    (punct_kind t.kind parts.0, (bytes_eq-Decides t.text mark).0 parts.1)

-- a token that is no punctuation is no mark
pub no_mark : (mark : List ℕ) (t : Shown) → is_punct t.kind ≡ false → is_mark mark t ≡ false
no_mark mark t h = rw h refl

-- one mark is no other
pub other_mark : (mark other : List ℕ) (t : Shown) → is_mark mark t ≡ true → bytes_eq mark other ≡ false → is_mark other t ≡ false
other_mark mark other t h differs = let parts = mark_parts mark t h in rw (parts.0, parts.1) differs

-- a sign's digits open no argument list
pub digits_open_nothing : (unquoted : Bool) (name : List ℕ) (t : Shown) (ts : List Shown) → negates unquoted name (t ∷ ts) ≡ true → opens_arguments t ≡ false
digits_open_nothing unquoted name t ts h =
    let first = and_parts unquoted _ h in
    let second = and_parts (bytes_eq name (codes "-")) _ first.1 in
    let third = and_parts (is_integer t.kind) _ second.1 in
    rw (integer_kind t.kind third.0) refl

module _ (table : List Operator) where
  -- a mark but the comma is no operator
  pub mark_is_no_infix : (mark : List ℕ) (t : Shown) → is_mark mark t ≡ true → bytes_eq mark (codes ",") ≡ false → infix_at table t ≡ None
  mark_is_no_infix mark t h differs = let parts = mark_parts mark t h in rw (parts.0, parts.1, differs) refl

  pub mark_is_no_postfix : (mark : List ℕ) (t : Shown) → is_mark mark t ≡ true → postfix_at table t ≡ None
  mark_is_no_postfix mark t h = let parts = mark_parts mark t h in rw parts.0 refl

  pub comma_is_infix : (t : Shown) → is_mark (codes ",") t ≡ true → infix_at table t ≡ find_op op_kind.Infix (codes ",") table
  comma_is_infix t h = let parts = mark_parts (codes ",") t h in rw (parts.0, parts.1) refl

-- an operator that is found has a priority of at least 1
pub found_positive : (kind : Kind) (name : List ℕ) (table : List Operator) (o : Operator) → HasPriorities table → find_op kind name table ≡ Some o → 0 < o.priority
found_positive kind name [] o h found = cc
found_positive kind name (first ∷ others) o h found =
    cond_both (is_for kind name first) (Some first) (find_op kind name others) (λ x. x ≡ Some o → 0 < o.priority)
    (λ _ is. let same : first ≡ o = cc in rw (← same) (omega (arith, h.0)))
    (λ _ is. found_positive kind name others o h.2 is) found

-- its name is the one that was looked for
pub found_name : (kind : Kind) (name : List ℕ) (table : List Operator) (o : Operator) → find_op kind name table ≡ Some o → o.name ≡ name
found_name kind name [] o found = cc
found_name kind name (first ∷ others) o found =
    cond_both (is_for kind name first) (Some first) (find_op kind name others) (λ x. x ≡ Some o → o.name ≡ name)
    (λ is at. let same : first ≡ o = cc in rw (← same) (sym ((bytes_eq-Decides name first.name).0 (and_parts (same_kind kind (kind_of first.spec)) _ is).1)))
    (λ _ at. found_name kind name others o at) found
