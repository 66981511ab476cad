-- What is left of a clause, as clauses see it.
use Rattle.std.specs.Prelude.{◌≡◌, map, List, ◌∷◌, Option, Some, String}
use Rattle.std.specs.String.{string_bytes}
use Rattle.std.specs.declared.alloc.Global.{Global}
use Rattle.iso_model.specs.Syntax.Token.{content}
use Rattle.iso_token.specs.declared.kinds.Token.{Token}
use Rattle.iso_model.specs.Syntax.Grammar.{Left}
use Rattle.iso_token.specs.Shows.{shown}
use Rattle.iso_read.specs.declared.input.Input.TheInside.{Inside}

-- what is kept is what the first token stands for
abbrev pub KeepsContent : Option (String Global) → List Token → Type 0
KeepsContent (Some text) (t ∷ ts) = string_bytes text ≡ content (shown t)
KeepsContent kept ts = Unit {0}

-- the tokens and the names
abbrev pub left_of : Inside → Left
left_of i = record { tokens = map shown i.tokens.now; names = i.names }
