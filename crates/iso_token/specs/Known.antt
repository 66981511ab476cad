-- What is known of a text: comments and quoted items that have no end.
use Rattle.std.specs.Prelude.{◌≡◌, ℕ, Bool, true, List, drop, Option, None, IfSome}
use Rattle.iso_model.specs.Syntax.Lexemes.{comment_len}
use Rattle.iso_model.specs.Syntax.Quoted.{item_len}
use Rattle.iso_token.specs.declared.known.Known.{Known}

-- where it is known, no `*/` stands behind the first byte
abbrev pub IsEndless : Bool → List ℕ → Type 0
IsEndless known text = known ≡ true → comment_len (drop 1 text) ≡ None

-- at the place, if one is known, the rest of an item in such quotes isn't closed
abbrev pub IsOpenAt : ℕ → Option ℕ → List ℕ → Type 0
IsOpenAt quote place text = IfSome place (λ at. item_len quote (drop at text) ≡ None)

-- what is known of the text is so
pub record IsKnown (known : Known) (text : List ℕ) : Type 0 where
  pub endless : IsEndless known.endless text
  pub single : IsOpenAt 39 known.single text
  pub double : IsOpenAt 34 known.double text
