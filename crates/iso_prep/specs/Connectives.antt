-- The control constructs of two parts, by their functors.
use Rattle.std.specs.Prelude.{ℕ, List, Option, Some, None, codes, if◌then◌else◌}
use Rattle.std.specs.Str.{bytes_eq}
use Rattle.iso_model.specs.Terms.Trees.{Tree, Apply, End, More}
use Rattle.iso_model.specs.Search.Bodies as bodies
use Rattle.iso_model.specs.Search.Bodies.{Body, either}
use Rattle.iso_prep.specs.declared.connectives.Connective.{Connective}
use Rattle.iso_prep.specs.declared.connectives.Connective.TheVariants.{And, Or, If}

abbrev pub text_of : Connective → List ℕ
text_of And = codes ","
text_of Or = codes ";"
text_of If = codes "->"

-- how it joins two converted bodies
abbrev pub join_of : Connective → Body → Body → Body
join_of And = bodies.And
join_of Or = either
join_of If = bodies.If

-- the connective with this name
abbrev pub connective_of : List ℕ → Option Connective
connective_of f = if bytes_eq f (codes ",") then Some And else (if bytes_eq f (codes ";") then Some Or else (if bytes_eq f (codes "->") then Some If else None))

-- what the term is a control construct by, where it is one
abbrev pub control_of : Tree → Option Connective
control_of (Apply f (More a (More b End))) = connective_of f
control_of t = None
