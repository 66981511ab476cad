-- The tokens that a `Tokens` has left.
use Rattle.std.specs.Prelude.{◌+◌, ◌^◌, ◌<◌, false, List, length}
use Rattle.iso_model.specs.Syntax.Token.{Shown}
use Rattle.iso_model.specs.Syntax.Tokens.{tokens_from}
use Rattle.iso_token.specs.Known.{IsKnown}
use Rattle.iso_token.specs.declared.cursor.Tokens.TheInside.{Inside}

abbrev pub tokens_left : Inside → List Shown
tokens_left t = tokens_from 0 t.start false t.rest.now

-- each place of the text that is left has a number, and what is known of it is so
abbrev pub IsKept : Inside → Type 0
IsKept t = (t.start + length t.rest.now < 2 ^ 64) × IsKnown t.known t.rest.now
