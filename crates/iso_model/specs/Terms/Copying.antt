-- What is left to do of a copy, and how its variables are named.
use Rattle.std.specs.Prelude.{List, map, ◌+◌}
use Rattle.iso_model.specs.declared.terms.Task.{Task}
use Rattle.iso_model.specs.declared.terms.Task.TheVariants.{Copy, Build}
use Rattle.iso_model.specs.declared.terms.Naming.{Naming}
use Rattle.iso_model.specs.declared.terms.Naming.TheVariants.{Same, Places, From}
use Rattle.iso_model.specs.Terms.Trees.{Variable}
use Rattle.iso_model.specs.Terms.TermOf.{term_of}
use Rattle.iso_model.specs.Terms.Substitutions.{Subst, apply}
use Rattle.iso_model.specs.Terms.Copies.{place_of}
use Rattle.iso_model.specs.Terms.Building.{Step, Give, Gather}

-- each variable as it is, or by its place, or by its place behind a first number
abbrev pub named_by : Naming → Subst
named_by Same x = Variable x
named_by (Places vs) x = Variable (place_of x vs.now)
named_by (From vs first) x = Variable (first + place_of x vs.now)

-- where s names the variables
abbrev pub step_of : Subst → Task → Step
step_of s (Copy ts) = Give (map (apply s) (map term_of ts.now))
step_of s (Build name n) = Gather name.now n

abbrev pub steps_of : Subst → List Task → List Step
steps_of s tasks = map (step_of s) tasks
