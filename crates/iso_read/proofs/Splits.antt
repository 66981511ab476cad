-- What a turn of the loop over a clause's tokens does.
use Rattle.std.proofs.Common.{List, ◌++◌, Option, Some, None}
use Rattle.iso_model.specs.Syntax.Token.{Shown}

-- what was split off, with these tokens before it
abbrev pub behind_tokens : List Shown → Option (List Shown × List Shown) → Option (List Shown × List Shown)
behind_tokens front None = None
behind_tokens front (Some x) = Some (front ++ x.0, x.1)
