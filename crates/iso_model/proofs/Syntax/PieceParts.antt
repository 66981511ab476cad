-- Parts of what is written: what their tokens begin with, what may stand behind them, and how they are read.
use Rattle.std.proofs.Common.{◌≡◌, ℕ, ◌≤◌, Bool, true, false, ◌&&◌, ◌||◌, ◌==◌, not, if◌then◌else◌, List, [], ◌∷◌, ◌++◌, length, slice_index, codes, refl, ap, ◌∙◌, subst, arith}
use Rattle.std.specs.Fmt.{decimal}
use Rattle.std.specs.Str.{bytes_eq}
use Rattle.std.proofs.lemmas.Bool.{false≢true, true≢false}
use Rattle.iso_ops.specs.Operators.{Operator}
use Rattle.iso_ops.specs.declared.settings.Flags.{Flags}
use Rattle.iso_model.specs.Syntax.Characters.{is_punctuation, is_digit}
use Rattle.iso_model.specs.Terms.Trees.{Tree, Variable}
use Rattle.iso_model.specs.Syntax.Token.{Shown, TokenKind, NameToken, QuotedToken}
use Rattle.iso_model.specs.Syntax.Texts.{is_bare, name_text, quoted_bytes}
use Rattle.iso_model.specs.Syntax.Grammar.{Node, closed, is_name, is_integer, is_punct, is_mark, opens_arguments, is_direct_integer, next_is, name_begins, begins_by, begins, number_of, with_name_by, name_place, Reads, Operand, alone, variable_at}
use Rattle.iso_model.specs.Syntax.Pieces.{Piece, piece, begins_open, begins_digit, pieces_text}
use Rattle.iso_model.proofs.Syntax.ReadingSound.{left_at}
use Rattle.iso_model.proofs.Syntax.PieceTokens.{AreTokens, IsMarkToken, IsNameToken}
use Rattle.iso_model.proofs.Syntax.PieceLexemes.{mark_first, name_first, place_first}

-- ---- tests of tokens

pub mark_test : (byte : ℕ) (parted : Bool) (t : Shown) (mark : List ℕ) → IsMarkToken byte parted t → is_mark mark t ≡ bytes_eq (byte ∷ []) mark
mark_test byte parted t mark h = rw (h.kind, h.text) refl

pub mark_opens : (byte : ℕ) (parted : Bool) (t : Shown) → IsMarkToken byte parted t → opens_arguments t ≡ (bytes_eq (byte ∷ []) (codes "(") && not parted)
mark_opens byte parted t h = rw (mark_test byte parted t (codes "(") h, h.layout) refl

mark_counts : (byte : ℕ) (parted : Bool) (t : Shown) → IsMarkToken byte parted t → is_direct_integer t ≡ false
mark_counts byte parted t h = rw h.kind refl

-- what holds of both kinds of names holds of a name's kind
of_names : (P : TokenKind → Type 0) (b : Bool) → P NameToken → P QuotedToken → P (if b then NameToken else QuotedToken)
of_names P true bare quoted = bare
of_names P false bare quoted = quoted

pub name_is : (name : List ℕ) (t : Shown) → IsNameToken name t → is_name t.kind ≡ true
name_is name t h = rw h.kind (of_names (λ k. is_name k ≡ true) (is_bare name) refl refl)

name_opens : (name : List ℕ) (t : Shown) → IsNameToken name t → opens_arguments t ≡ false
name_opens name t h = rw h.kind (of_names (λ k. ((is_punct k && bytes_eq t.text (codes "(")) && not t.after_layout) ≡ false) (is_bare name) refl refl)

name_counts : (name : List ℕ) (t : Shown) → IsNameToken name t → is_direct_integer t ≡ false
name_counts name t h = rw h.kind (of_names (λ k. (is_integer k && not t.after_layout) ≡ false) (is_bare name) refl refl)

-- ---- pieces

-- the pieces, the first of which stands behind a space, or as it did
abbrev pub with_space : Bool → List Piece → List Piece
with_space b [] = []
with_space b (p ∷ ps) = record { text = p.text; spaced = b || p.spaced } ∷ ps

-- a piece before others
abbrev pub spaced_as : List ℕ → Bool → Piece
spaced_as text spaced = record { text = text; spaced = spaced }

-- there is a first piece, which has a byte and stands behind no space
abbrev pub AreSome : List Piece → Type 0
AreSome [] = ⊥
AreSome (p ∷ ps) = (p.spaced ≡ false) × (1 ≤ length p.text)

-- whether the first of these pieces begins with a bracket, or with a digit
abbrev pub starts_open : List Piece → Bool
starts_open [] = false
starts_open (p ∷ ps) = slice_index p.text 0 == 40

abbrev pub starts_digit : List Piece → Bool
starts_digit [] = false
starts_digit (p ∷ ps) = is_digit (slice_index p.text 0)

-- so does their text
text_first : (text : List ℕ) (spaced : Bool) (ps : List Piece) → spaced ≡ false → 1 ≤ length text → slice_index (pieces_text (spaced_as text spaced ∷ ps)) 0 ≡ slice_index text 0
text_first [] spaced ps h le = absurd (omega (arith, le))
text_first (c ∷ z) true ps h le = absurd (true≢false h)
text_first (c ∷ z) false ps h le = refl

pub begins_open-first : (ps : List Piece) → AreSome ps → begins_open ps ≡ starts_open ps
begins_open-first [] h = absurd h
begins_open-first (p ∷ ps) h = ap (λ (c : ℕ). c == 40) (text_first p.text p.spaced ps h.0 h.1)

pub begins_digit-first : (ps : List Piece) → AreSome ps → begins_digit ps ≡ starts_digit ps
begins_digit-first [] h = absurd h
begins_digit-first (p ∷ ps) h = ap is_digit (text_first p.text p.spaced ps h.0 h.1)

-- a name is written as some bytes
pub name_some : (name : List ℕ) → 1 ≤ length (name_text name)
name_some name = by name (is_bare name) refl
  where
    by : (name : List ℕ) (b : Bool) → is_bare name ≡ b → 1 ≤ length (if b then name else 39 ∷ (quoted_bytes name ++ 39 ∷ []))
    by [] true h = absurd (false≢true h)
    by (c ∷ z) true h = omega arith
    by name false h = omega arith

abbrev pub node : Tree → ℕ → ℕ → Bool → Node
node t priority height is_open = record { term = t; priority = priority; height = height; is_open = is_open }

module _ (table : List Operator) (flags : Flags) where
  -- pieces that may stand behind a term: their tokens begin neither with arguments nor with the digits of a literal
  pub record MayFollow (qs : List Piece) : Type 0 where
    pub opens : (zs : List Shown) → AreTokens qs zs → next_is opens_arguments zs ≡ false
    pub counts : (zs : List Shown) → AreTokens qs zs → next_is is_direct_integer zs ≡ false

  -- pieces that may stand behind an operator that is an atom: their tokens begin no operand
  abbrev pub MayEnd : List Piece → Type 0
  MayEnd qs = (zs : List Shown) → AreTokens qs zs → begins table zs ≡ false

  -- pieces that may stand behind a prefix operator
  pub record BeginOperand (ps : List Piece) : Type 0 where
    pub begins : (b : Bool) (qs : List Piece) (ts : List Shown) → AreTokens (with_space b ps ++ qs) ts → begins table ts ≡ true
    pub opens : (b : Bool) (qs : List Piece) (ts : List Shown) → AreTokens (with_space b ps ++ qs) ts → (not b && starts_open ps) ≡ false → next_is opens_arguments ts ≡ false
    pub counts : (b : Bool) (qs : List Piece) (ts : List Shown) → AreTokens (with_space b ps ++ qs) ts → (not b && starts_digit ps) ≡ false → next_is is_direct_integer ts ≡ false

  -- The tokens begin with this term, and those of these pieces are behind it.
  pub record IsRead (ts : List Shown) (names behind : List (List ℕ)) (t : Tree) (priority : ℕ) (is_open : Bool) (qs : List Piece) : Type 0 where
    pub rest : List Shown
    pub tokens : AreTokens qs rest
    pub height : ℕ
    pub reads : Reads table flags (left_at ts names) (node t priority height is_open) (left_at rest behind)

  -- The pieces are read as this term, made by an operator of this priority (0: by none), which may be open on its right; `lone`: it is an
  -- atom that is an operator.
  pub record IsPart (ps : List Piece) (priority : ℕ) (is_open lone : Bool) (names behind : List (List ℕ)) (t : Tree) : Type 0 where
    pub some : AreSome ps
    pub reads : (b : Bool) (qs : List Piece) (ts : List Shown) → MayFollow qs → (lone ≡ true → MayEnd qs) → AreTokens (with_space b ps ++ qs) ts → IsRead ts names behind t priority is_open qs
    pub begins : lone ≡ false → BeginOperand ps

  -- ---- what may follow

  pub mark_follows : (byte : ℕ) → is_punctuation byte ≡ true → bytes_eq (byte ∷ []) (codes "(") ≡ false → (qs : List Piece) → MayFollow (piece (byte ∷ []) ∷ qs)
  mark_follows byte is other qs = record {
    opens = λ zs tokens. let x = mark_first byte is false qs zs tokens in rw (x.is, mark_opens byte false x.first x.holds, other) refl;
    counts = λ zs tokens. let x = mark_first byte is false qs zs tokens in rw (x.is, mark_counts byte false x.first x.holds) refl;
  }

  pub mark_ends : (byte : ℕ) → is_punctuation byte ≡ true → bytes_eq (byte ∷ []) (codes "(") ≡ false → bytes_eq (byte ∷ []) (codes "[") ≡ false → bytes_eq (byte ∷ []) (codes "{") ≡ false → (qs : List Piece) → MayEnd (piece (byte ∷ []) ∷ qs)
  mark_ends byte is a b c qs zs tokens =
      let x = mark_first byte is false qs zs tokens in
      rw (x.is, x.holds.kind, mark_test byte false x.first (codes "(") x.holds, mark_test byte false x.first (codes "[") x.holds, mark_test byte false x.first (codes "{") x.holds, a, b, c) refl

  pub name_follows : (name : List ℕ) → bytes_eq name (codes "[]") ≡ false → bytes_eq name (codes "{}") ≡ false → (spaced : Bool) (qs : List Piece) → MayFollow (spaced_as (name_text name) spaced ∷ qs)
  name_follows name a b spaced qs = record {
    opens = λ zs tokens. let x = name_first name a b spaced qs zs tokens in rw (x.is, name_opens name x.first x.holds) refl;
    counts = λ zs tokens. let x = name_first name a b spaced qs zs tokens in rw (x.is, name_counts name x.first x.holds) refl;
  }

  pub nothing_follows : MayFollow []
  nothing_follows = record { opens = λ zs tokens. rw tokens.are refl; counts = λ zs tokens. rw tokens.are refl }

  pub nothing_ends : MayEnd []
  nothing_ends zs tokens = rw tokens.are refl

  -- ---- what begins an operand

  -- the tokens begin with this mark, behind layout or not
  pub record BeginWithMark (byte : ℕ) (b : Bool) (ts : List Shown) : Type 0 where
    pub first : Shown
    pub others : List Shown
    pub is : ts ≡ first ∷ others
    pub holds : IsMarkToken byte (b || false) first

  mark_begins_by : (byte : ℕ) (parted : Bool) (t : Shown) (ts : List Shown) → IsMarkToken byte parted t
      → begins table (t ∷ ts) ≡ (bytes_eq (byte ∷ []) (codes "(") || (bytes_eq (byte ∷ []) (codes "[") || bytes_eq (byte ∷ []) (codes "{")))
  mark_begins_by byte parted t ts h =
      ap (begins_by table t ts) h.kind ∙ rw (mark_test byte parted t (codes "(") h, mark_test byte parted t (codes "[") h, mark_test byte parted t (codes "{") h) refl

  pub mark_begins : (byte : ℕ) (ps : List Piece) → ((b : Bool) (qs : List Piece) (ts : List Shown) → AreTokens (with_space b ps ++ qs) ts → BeginWithMark byte b ts)
      → (bytes_eq (byte ∷ []) (codes "(") || (bytes_eq (byte ∷ []) (codes "[") || bytes_eq (byte ∷ []) (codes "{"))) ≡ true
      → ((b : Bool) → (not b && starts_open ps) ≡ false → (bytes_eq (byte ∷ []) (codes "(") && not (b || false)) ≡ false) → BeginOperand ps
  mark_begins byte ps marks is apart = record {
    begins = λ b qs ts tokens.
        let x = marks b qs ts tokens in
        rw x.is (mark_begins_by byte (b || false) x.first x.others x.holds ∙ is);
    opens = λ b qs ts tokens h. let x = marks b qs ts tokens in rw (x.is, mark_opens byte (b || false) x.first x.holds) (apart b h);
    counts = λ b qs ts tokens h. let x = marks b qs ts tokens in rw (x.is, mark_counts byte (b || false) x.first x.holds) refl;
  }

  -- the tokens begin with this name, which begins an operand
  pub record BeginWithName (name : List ℕ) (ts : List Shown) : Type 0 where
    pub first : Shown
    pub others : List Shown
    pub is : ts ≡ first ∷ others
    pub holds : IsNameToken name first
    pub begins : name_begins table first others ≡ true

  name_begins_by : (name : List ℕ) (t : Shown) (ts : List Shown) → IsNameToken name t → begins table (t ∷ ts) ≡ name_begins table t ts
  name_begins_by name t ts h = ap (begins_by table t ts) h.kind ∙ of_names (λ k. begins_by table t ts k ≡ name_begins table t ts) (is_bare name) refl refl

  pub name_begins_operand : (name : List ℕ) (ps : List Piece) → ((b : Bool) (qs : List Piece) (ts : List Shown) → AreTokens (with_space b ps ++ qs) ts → BeginWithName name ts) → BeginOperand ps
  name_begins_operand name ps names = record {
    begins = λ b qs ts tokens. let x = names b qs ts tokens in rw x.is (name_begins_by name x.first x.others x.holds ∙ x.begins);
    opens = λ b qs ts tokens h. let x = names b qs ts tokens in rw (x.is, name_opens name x.first x.holds) refl;
    counts = λ b qs ts tokens h. let x = names b qs ts tokens in rw (x.is, name_counts name x.first x.holds) refl;
  }

  -- ---- terms of one or two tokens

  -- an operand that these tokens begin with
  pub read_operand : {ts rest : List Shown} {names behind : List (List ℕ)} {t : Tree} {height : ℕ} {qs : List Piece} → AreTokens qs rest → Operand table flags (left_at ts names) (closed t height) (left_at rest behind) → IsRead ts names behind t 0 false qs
  read_operand {rest = rest} {height = height} tokens reads = record { rest = rest; tokens = tokens; height = height; reads = alone reads }

  pub place_part : (number : ℕ) (names : List (List ℕ)) → IsPart (piece (95 ∷ decimal number) ∷ []) 0 false false names (with_name_by (95 ∷ decimal number) names (name_place (95 ∷ decimal number) names)) (Variable (number_of (95 ∷ decimal number) names))
  place_part number names = record {
    some = (refl, omega arith);
    reads = λ b qs ts follows ends tokens.
        let x = place_first number (b || false) qs ts tokens in
        rw x.is (read_operand {height = 0} x.tokens (subst (λ text. Operand table flags (left_at (x.first ∷ x.others) names) (closed (Variable (number_of text names)) 0) (left_at x.others (with_name_by text names (name_place text names)))) x.holds.text
        (variable_at {s = left_at x.others names} {t = x.first} x.holds.kind)));
    begins = λ _. record {
      begins = λ b qs ts tokens. let x = place_first number (b || false) qs ts tokens in rw x.is (ap (begins_by table x.first x.others) x.holds.kind);
      opens = λ b qs ts tokens h. let x = place_first number (b || false) qs ts tokens in rw (x.is, x.holds.kind) refl;
      counts = λ b qs ts tokens h. let x = place_first number (b || false) qs ts tokens in rw (x.is, x.holds.kind) refl;
    };
  }
