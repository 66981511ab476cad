-- What a turn of the loop over a part's tokens does.
use Rattle.std.proofs.Common.{List, ◌++◌}
use Rattle.iso_model.specs.Syntax.Token.{Shown}
use Rattle.iso_lint.specs.Parts.{Cut}

-- a cut with these tokens before it
abbrev pub behind_tokens : List Shown → Cut → Cut
behind_tokens front c = record c { tokens = front ++ c.tokens }
