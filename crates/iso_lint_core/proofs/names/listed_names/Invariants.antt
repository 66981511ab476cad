-- The names so far, and those of what is left, are all of them.
use Rattle.std.proofs.Common.{◌≡◌, ◌++◌, map, option_map}
use Rattle.iso_ops.specs.Entries.{text_of}
use Rattle.iso_model.specs.Terms.TermOf.{term_of}
use Rattle.iso_model.specs.Terms.Sizes.{size}
use Rattle.iso_lint_core.specs.Names.{names_listed}
use Rattle.iso_lint_core.proofs.names.listed_names.Given as goal

abbrev pub invariant-loop-name : goal.invariant-loop-name
invariant-loop-name l = option_map (λ texts. map text_of l.found.items ++ texts) (names_listed (term_of l.rest)) ≡ names_listed (term_of l.fn.names)

abbrev pub decreases-loop-name : goal.decreases-loop-name
decreases-loop-name l = size (term_of l.rest)
