-- Written integers and atoms are read.
use Rattle.std.proofs.Common.{◌≡◌, ℕ, suc, ◌+◌, ◌<◌, ◌^◌, length, Bool, true, false, ◌&&◌, ◌||◌, not, List, [], ◌∷◌, slice_index, Option, Some, None, is_some, pos, negsuc, codes, refl, sym, ap, ◌∙◌, subst, arith, neg_ℤ}
use Rattle.std.specs.Fmt.{decimal, signed_decimal}
use Rattle.std.specs.Str.{bytes_eq}
use Rattle.std.proofs.lemmas.Bool.{true≢false, and_from, and_parts}
use Rattle.std.specs.List.{list_all}
use Rattle.iso_ops.specs.Operators.{Operator, HasNoBrackets}
use Rattle.iso_ops.specs.declared.settings.Flags.{Flags}
use Rattle.iso_ops.specs.declared.specifiers.Kind.TheVariants.{Prefix}
use Rattle.iso_model.specs.Syntax.Characters.{is_digit}
use Rattle.iso_model.specs.Syntax.Operators.{prefix_named, infix_named, postfix_named}
use Rattle.iso_model.specs.Terms.Trees.{Integer, Name}
use Rattle.iso_model.specs.Syntax.Token.{Shown, content}
use Rattle.iso_model.specs.Syntax.Texts.{name_text}
use Rattle.iso_model.specs.Syntax.Lists.{nil, curly}
use Rattle.iso_model.specs.Syntax.Grammar.{closed, is_name, is_unquoted, is_integer, opens_arguments, is_direct_integer, next_is, negates, name_begins, begins_by, begins, Named, integer_at, name_at, nil_at, curly_at, literal_of, atom_of, operator_alone}
use Rattle.iso_model.specs.Syntax.Pieces.{Piece, piece}
use Rattle.iso_model.proofs.Syntax.ReadingSound.{left_at}
use Rattle.iso_model.proofs.Syntax.PieceTokens.{AreTokens, IsSignToken}
use Rattle.iso_model.proofs.Syntax.PieceLexemes.{name_first, nil_first, curly_first, count_first, negative_first}
use Rattle.iso_model.proofs.Syntax.Digits.{decimal_digits, decimal_some}
use Rattle.iso_model.proofs.Syntax.Integers.{integer_lone}
use Rattle.iso_model.proofs.Syntax.PieceParts.{MayFollow, IsPart, mark_begins, name_begins_operand, read_operand, mark_test, name_is, name_some}

first_of : (ds : List ℕ) → 0 < length ds → list_all is_digit ds ≡ true → is_digit (slice_index ds 0) ≡ true
first_of [] some all = absurd (omega arith)
first_of (d ∷ ds) some all = (and_parts (is_digit d) _ all).0

digit_first : (n : ℕ) → is_digit (slice_index (decimal n) 0) ≡ true
digit_first n = first_of (decimal n) (decimal_some n) (decimal_digits n)

one_more : (n : ℕ) → n + 1 ≡ suc n
one_more n = omega arith

no_direct : (a b : Bool) → b ≡ true → (a && not b) ≡ false
no_direct true b h = rw h refl
no_direct false b h = refl

second_false : (a b : Bool) → b ≡ false → (a && b) ≡ false
second_false true b h = h
second_false false b h = refl

or_fourth : (a b c d : Bool) → d ≡ true → (a || (b || (c || d))) ≡ true
or_fourth true b c d h = refl
or_fourth false true c d h = refl
or_fourth false false true d h = refl
or_fourth false false false d h = h

or_third : (a b c d : Bool) → c ≡ true → (a || (b || (c || d))) ≡ true
or_third true b c d h = refl
or_third false true c d h = refl
or_third false false true d h = refl
or_third false false false d h = absurd (true≢false (sym h))

or_second : (a b c : Bool) → b ≡ true → (a || (b || c)) ≡ true
or_second true b c h = refl
or_second false true c h = refl
or_second false false c h = absurd (true≢false (sym h))

module _ (table : List Operator) (flags : Flags) where
  -- an integer from 0 on that stands where no sign may take it
  count_apart : (n : ℕ) → n < 2 ^ 127 → (t : Shown) (b : Bool) → ((b || false) ≡ true → t.after_layout ≡ true) → (not b && is_digit (slice_index (decimal n) 0)) ≡ false → is_direct_integer t ≡ false
  count_apart n small t true layout h = no_direct (is_integer t.kind) t.after_layout (layout refl)
  count_apart n small t false layout h = absurd (true≢false (sym (digit_first n) ∙ h))

  pub count_part : (n : ℕ) → n < 2 ^ 127 → (names : List (List ℕ)) → IsPart table flags (piece (signed_decimal (pos n)) ∷ []) 0 false false names names (Integer (pos n))
  count_part n small names = record {
    some = (refl, (integer_lone n (omega arith)).some);
    reads = λ b qs ts follows ends tokens.
        let x = count_first n small (b || false) qs ts tokens in
        rw x.is (read_operand table flags {height = 0} x.tokens (integer_at {s = left_at x.others names} {t = x.first} x.holds.0.magnitude (omega arith)));
    begins = λ _. record {
      begins = λ b qs ts tokens. let x = count_first n small (b || false) qs ts tokens in rw x.is (ap (begins_by table x.first x.others) x.holds.0.kind);
      opens = λ b qs ts tokens h. let x = count_first n small (b || false) qs ts tokens in rw (x.is, x.holds.0.kind) refl;
      counts = λ b qs ts tokens h. let x = count_first n small (b || false) qs ts tokens in rw x.is (count_apart n small x.first b x.holds.1 h);
    };
  }

  sign_negates : (n : ℕ) (t u : Shown) (us : List Shown) → IsSignToken t → is_direct_integer u ≡ true → negates (is_unquoted t.kind) (content t) (u ∷ us) ≡ true
  sign_negates n t u us sign direct =
      and_from (is_unquoted t.kind) (bytes_eq (content t) (codes "-") && is_direct_integer u) (ap is_unquoted sign.kind)
      (and_from (bytes_eq (content t) (codes "-")) (is_direct_integer u) (ap (λ z. bytes_eq z (codes "-")) sign.content) direct)

  -- a name that begins an operand: the sign of a literal, a functor, a prefix operator, or what is no operator behind an operand
  sign_begins : (t : Shown) (ts : List Shown) → negates (is_unquoted t.kind) (content t) ts ≡ true → name_begins table t ts ≡ true
  sign_begins t ts h =
      or_fourth (not (is_some (infix_named table (content t)) || is_some (postfix_named table (content t)))) (is_some (prefix_named table (content t))) (next_is opens_arguments ts) (negates (is_unquoted t.kind) (content t) ts) h

  pub functor_begins : (t : Shown) (ts : List Shown) → next_is opens_arguments ts ≡ true → name_begins table t ts ≡ true
  functor_begins t ts h =
      or_third (not (is_some (infix_named table (content t)) || is_some (postfix_named table (content t)))) (is_some (prefix_named table (content t))) (next_is opens_arguments ts) (negates (is_unquoted t.kind) (content t) ts) h

  pub prefix_begins : (t : Shown) (ts : List Shown) → is_some (prefix_named table (content t)) ≡ true → name_begins table t ts ≡ true
  prefix_begins t ts h =
      or_second (not (is_some (infix_named table (content t)) || is_some (postfix_named table (content t)))) (is_some (prefix_named table (content t))) (next_is opens_arguments ts || negates (is_unquoted t.kind) (content t) ts) h

  other_begins : (t : Shown) (ts : List Shown) → (is_some (infix_named table (content t)) || is_some (postfix_named table (content t))) ≡ false → name_begins table t ts ≡ true
  other_begins t ts h = rw h refl

  pub negative_part : (n : ℕ) → n < 2 ^ 127 → (names : List (List ℕ)) → IsPart table flags (piece (signed_decimal (negsuc n)) ∷ []) 0 false false names names (Integer (negsuc n))
  negative_part n small names = record {
    some = (refl, omega arith);
    reads = λ b qs ts follows ends tokens.
        let x = negative_first n small (b || false) qs ts tokens in
        rw x.is (read_operand table flags {height = 0} x.tokens (name_at {s = left_at (x.second ∷ x.others) names} {t = x.first} (ap is_name x.holds.kind)
        (subst (λ k. Named table flags (is_unquoted x.first.kind) (content x.first) (left_at (x.second ∷ x.others) names) (closed (Integer (neg_ℤ (pos k))) 0) (left_at x.others names)) (one_more n)
        (literal_of {s = left_at x.others names} {t = x.second} (sign_negates n x.first x.second x.others x.holds x.follows.1) x.follows.0.magnitude))));
    begins = λ _. record {
      begins = λ b qs ts tokens.
          let x = negative_first n small (b || false) qs ts tokens in
          rw x.is (ap (begins_by table x.first (x.second ∷ x.others)) x.holds.kind ∙ sign_begins x.first (x.second ∷ x.others) (sign_negates n x.first x.second x.others x.holds x.follows.1));
      opens = λ b qs ts tokens h. let x = negative_first n small (b || false) qs ts tokens in rw (x.is, x.holds.kind) refl;
      counts = λ b qs ts tokens h. let x = negative_first n small (b || false) qs ts tokens in rw (x.is, x.holds.kind) refl;
    };
  }

  -- what is no sign of a literal
  negates_never : (b : Bool) (name : List ℕ) (ts : List Shown) → next_is is_direct_integer ts ≡ false → negates b name ts ≡ false
  negates_never true name ts h = second_false (bytes_eq name (codes "-")) _ h
  negates_never false name ts h = refl

  -- a name alone: an atom
  atom_named : (b : Bool) (name : List ℕ) (qs : List Piece) (zs : List Shown) (names : List (List ℕ)) (o : Option Operator) → MayFollow table flags qs → AreTokens qs zs → prefix_named table name ≡ o → (is_some o ≡ true → begins table zs ≡ false)
      → Named table flags b name (left_at zs names) (closed (Name name) 0) (left_at zs names)
  atom_named b name qs zs names None follows tokens is stops = atom_of {s = left_at zs names} (follows.opens zs tokens) (negates_never b name zs (follows.counts zs tokens)) is
  atom_named b name qs zs names (Some o) follows tokens is stops = operator_alone {s = left_at zs names} (follows.opens zs tokens) (negates_never b name zs (follows.counts zs tokens)) is (stops refl)

  first_of_three : (p i q a : Bool) → a ≡ (p || (i || q)) → p ≡ true → a ≡ true
  first_of_three p i q a is h = rw (is, h) refl

  no_operator : (p i q : Bool) → (p || (i || q)) ≡ false → (i || q) ≡ false
  no_operator true i q h = absurd (true≢false h)
  no_operator false i q h = h

  pub atom_part : (name : List ℕ) → bytes_eq name (codes "[]") ≡ false → bytes_eq name (codes "{}") ≡ false → (lone : Bool) → lone ≡ (is_some (prefix_named table name) || (is_some (infix_named table name) || is_some (postfix_named table name)))
      → (names : List (List ℕ)) → IsPart table flags (piece (name_text name) ∷ []) 0 false lone names names (Name name)
  atom_part name a c lone is names = record {
    some = (refl, name_some name);
    reads = λ b qs ts follows ends tokens.
        let x = name_first name a c (b || false) qs ts tokens in
        rw x.is (read_operand table flags {height = 0} x.tokens (name_at {s = left_at x.others names} {t = x.first} (name_is name x.first x.holds)
        (subst (λ z. Named table flags (is_unquoted x.first.kind) z (left_at x.others names) (closed (Name name) 0) (left_at x.others names)) (sym x.holds.content)
        (atom_named (is_unquoted x.first.kind) name qs x.others names (prefix_named table name) follows x.tokens refl (λ some. ends (first_of_three (is_some (prefix_named table name)) (is_some (infix_named table name)) (is_some (postfix_named table name)) lone is some) x.others x.tokens)))));
    begins = λ h. name_begins_operand table flags name (piece (name_text name) ∷ []) (λ b qs ts tokens.
        let x = name_first name a c (b || false) qs ts tokens in
        record {
          first = x.first;
          others = x.others;
          is = x.is;
          holds = x.holds;
          begins = other_begins x.first x.others (subst (λ z. (is_some (infix_named table z) || is_some (postfix_named table z)) ≡ false) (sym x.holds.content)
              (no_operator (is_some (prefix_named table name)) (is_some (infix_named table name)) (is_some (postfix_named table name)) (sym is ∙ h)));
        });
  }

  pub nil_part : HasNoBrackets table → (names : List (List ℕ)) → IsPart table flags (piece (codes "[]") ∷ []) 0 false false names names (Name nil)
  nil_part plain names = record {
    some = (refl, omega arith);
    reads = λ b qs ts follows ends tokens.
        let x = nil_first (b || false) qs ts tokens in
        rw x.is (read_operand table flags {height = 0} x.tokens (nil_at {s = left_at x.others names} {t = x.first} {u = x.second} (mark_test 91 (b || false) x.first (codes "[") x.holds) (mark_test 93 false x.second (codes "]") x.follows)
        (atom_of {s = left_at x.others names} (follows.opens x.others x.tokens) refl (plain Prefix).0)));
    begins = λ _. mark_begins table flags 91 (piece (codes "[]") ∷ []) (λ b qs ts tokens.
        let x = nil_first (b || false) qs ts tokens in record { first = x.first; others = x.second ∷ x.others; is = x.is; holds = x.holds }) refl (λ b h. refl);
  }

  pub curly_part : HasNoBrackets table → (names : List (List ℕ)) → IsPart table flags (piece (codes "{}") ∷ []) 0 false false names names (Name curly)
  curly_part plain names = record {
    some = (refl, omega arith);
    reads = λ b qs ts follows ends tokens.
        let x = curly_first (b || false) qs ts tokens in
        rw x.is (read_operand table flags {height = 0} x.tokens (curly_at {s = left_at x.others names} {t = x.first} {u = x.second} (mark_test 123 (b || false) x.first (codes "{") x.holds) (mark_test 125 false x.second (codes "}") x.follows)
        (atom_of {s = left_at x.others names} (follows.opens x.others x.tokens) refl (plain Prefix).1)));
    begins = λ _. mark_begins table flags 123 (piece (codes "{}") ∷ []) (λ b qs ts tokens.
        let x = curly_first (b || false) qs ts tokens in record { first = x.first; others = x.second ∷ x.others; is = x.is; holds = x.holds }) refl (λ b h. refl);
  }
