-- What clauses see of cuts.
use Rattle.std.specs.Prelude.{◌≡◌, List, map}
use Rattle.iso_model.specs.Syntax.Token.{Shown}
use Rattle.iso_token.specs.Shows.{shown}
use Rattle.iso_lint.specs.Parts as parts
use Rattle.iso_lint_core.specs.declared.settings.Settings.{Settings}
use Rattle.iso_lint.specs.declared.cuts.Cut.{Cut}

-- this is the cut of these tokens, and these are left behind it
abbrev pub IsCut : Cut → List Shown → List Shown → Type 0
IsCut c ts behind = parts.cut ts ≡ record { tokens = map shown c.tokens.items; ends = c.ends; behind = behind }

-- the part that is cut so and read by these settings
abbrev pub part_with : Cut → Settings → parts.Part
part_with c s = record { tokens = map shown c.tokens.items; ends = c.ends; settings = s }
