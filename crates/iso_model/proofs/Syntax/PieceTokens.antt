-- The tokens of written pieces: each piece has the tokens of its text, and layout stands before the first where the piece is parted
-- from the one before it.
use Rattle.std.proofs.Common.{◌≡◌, ℕ, ◌+◌, Bool, true, false, ◌||◌, if◌then◌else◌, List, [], ◌∷◌, ◌++◌, length, slice_index, Some, codes, ℤ}
use Rattle.std.specs.Fmt.{decimal, signed_decimal}
use Rattle.iso_model.specs.Syntax.Characters.{is_punctuation}
use Rattle.iso_model.specs.Syntax.Token.{Shown, NameToken, QuotedToken, VariableToken, IntegerToken, PunctToken, content, magnitude}
use Rattle.iso_model.specs.Syntax.Tokens.{tokens}
use Rattle.iso_model.specs.Syntax.Texts.{is_bare, name_text}
use Rattle.iso_model.specs.Syntax.Pieces.{Piece, run_together, last_byte}
use Rattle.iso_model.specs.Terms.Integers.{fits}

-- the tokens of a piece that begins at this place, behind layout or not
abbrev pub placed : ℕ → Bool → List Shown → List Shown
placed at after [] = []
placed at after (t ∷ ts) = record { kind = t.kind; text = t.text; start = at + t.start; after_layout = after || t.after_layout } ∷ placed at false ts

-- whether a space stands between a text and the piece behind it
abbrev pub is_parted : List ℕ → Piece → Bool
is_parted before p = p.spaced || run_together (last_byte before) (slice_index p.text 0)

abbrev pub start_behind : ℕ → Bool → ℕ
start_behind at parted = if parted then at + 1 else at

-- the tokens of pieces behind this text, which ends at this place
abbrev pub shown_pieces : ℕ → List ℕ → List Piece → List Shown
shown_pieces at before [] = []
shown_pieces at before (p ∷ ps) =
    let start = start_behind at (is_parted before p) in
    placed start (is_parted before p) (tokens p.text) ++ shown_pieces (start + length p.text) p.text ps

-- These are the tokens of these pieces, behind some text.
pub record AreTokens (ps : List Piece) (ts : List Shown) : Type 0 where
  pub at : ℕ
  pub before : List ℕ
  pub are : ts ≡ shown_pieces at before ps

-- What a piece may be that is written of a term, quoted.
pub data Sign : Type 0 where
  Mark : (byte : ℕ) → Sign
  Named : (name : List ℕ) → Sign
  Place : (number : ℕ) → Sign
  Number : (value : ℤ) → Sign

abbrev pub sign_text : Sign → List ℕ
sign_text (Mark byte) = byte ∷ []
sign_text (Named name) = name_text name
sign_text (Place number) = 95 ∷ decimal number
sign_text (Number value) = signed_decimal value

abbrev pub is_sound : Sign → Bool
is_sound (Mark byte) = is_punctuation byte
is_sound (Named name) = true
is_sound (Place number) = true
is_sound (Number value) = fits value

-- A piece is one of these.
pub record IsSigned (p : Piece) : Type 0 where
  pub sign : Sign
  pub sound : is_sound sign ≡ true
  pub text : p.text ≡ sign_text sign

pub data AreSigned : List Piece → Type 0 where
  none_left : AreSigned []
  one_more : {p : Piece} {ps : List Piece} → IsSigned p → AreSigned ps → AreSigned (p ∷ ps)

-- What the tokens of pieces begin with, by what the first piece is. `parted`: the piece is marked to stand behind a space.

-- a bracket, comma or bar: layout stands before it where it is marked so, and nowhere else
pub record IsMarkToken (byte : ℕ) (parted : Bool) (t : Shown) : Type 0 where
  pub kind : t.kind ≡ PunctToken
  pub text : t.text ≡ byte ∷ []
  pub layout : t.after_layout ≡ parted

-- a name but `[]` and `{}`
pub record IsNameToken (name : List ℕ) (t : Shown) : Type 0 where
  pub kind : t.kind ≡ (if is_bare name then NameToken else QuotedToken)
  pub content : content t ≡ name

-- a variable
pub record IsPlaceToken (number : ℕ) (t : Shown) : Type 0 where
  pub kind : t.kind ≡ VariableToken
  pub text : t.text ≡ 95 ∷ decimal number

-- an integer from 0 on
pub record IsCountToken (number : ℕ) (t : Shown) : Type 0 where
  pub kind : t.kind ≡ IntegerToken
  pub magnitude : magnitude t ≡ Some number

-- the sign of a negative integer
pub record IsSignToken (t : Shown) : Type 0 where
  pub kind : t.kind ≡ NameToken
  pub content : content t ≡ codes "-"

-- The tokens begin with these, and those behind them are the tokens of ps.
pub record Begins (Holds : Shown → Type 0) (ps : List Piece) (ts : List Shown) : Type 0 where
  pub first : Shown
  pub others : List Shown
  pub is : ts ≡ first ∷ others
  pub holds : Holds first
  pub tokens : AreTokens ps others

pub record BeginsTwice (Holds Follows : Shown → Type 0) (ps : List Piece) (ts : List Shown) : Type 0 where
  pub first : Shown
  pub second : Shown
  pub others : List Shown
  pub is : ts ≡ first ∷ second ∷ others
  pub holds : Holds first
  pub follows : Follows second
  pub tokens : AreTokens ps others
