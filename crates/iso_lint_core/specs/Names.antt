-- The names that a goal `op(P, T, Names)` sets, one by one (ISO/IEC 13211-1:1995, 8.14.3).
use Rattle.std.specs.Prelude.{◌≡◌, ℕ, ℤ, List, [], ◌∷◌, Option, Some, None, option_map, Result, Ok, Err, if◌then◌else◌}
use Rattle.iso_ops.specs.Operators.{Operator, asked_op, set_op}
use Rattle.iso_ops.specs.declared.table.OpFault.{OpFault}
use Rattle.iso_model.specs.Terms.Trees.{Tree, Name}
use Rattle.iso_model.specs.Terms.TermOf.{term_of}
use Rattle.iso_model.specs.Terms.Lists.{elements, is_list, is_nil, dot}
use Rattle.iso_model.specs.Search.Bodies.{two}
use Rattle.iso_lint_core.specs.declared.names.NameStep.{NameStep}
use Rattle.iso_lint_core.specs.declared.names.NameStep.TheVariants as step

-- the texts of these terms, where each is an atom
abbrev pub texts_of : List Tree → Option (List (List ℕ))
texts_of [] = Some []
texts_of (Name a ∷ ts) = option_map (λ texts. a ∷ texts) (texts_of ts)
texts_of (t ∷ ts) = None

-- the names that a list gives
abbrev pub names_listed : Tree → Option (List (List ℕ))
names_listed t = if is_list t then texts_of (elements t) else None

-- the names that the term gives: an atom is one, but the empty list is none, and a list of atoms gives each of them
abbrev pub names_given : Tree → Option (List (List ℕ))
names_given (Name a) = if is_nil (Name a) then Some [] else Some (a ∷ [])
names_given t = names_listed t

-- the operators once each of these names is one of this priority and specifier; none where one of them can't be
abbrev pub set_all_by : (List Operator → Option (List Operator)) → List Operator → Result Operator OpFault → Option (List Operator)
set_all_by goes_on ops (Ok op) = goes_on (set_op op ops)
set_all_by goes_on ops (Err fault) = None

abbrev pub set_all : ℤ → List ℕ → List (List ℕ) → List Operator → Option (List Operator)
set_all p s [] ops = Some ops
set_all p s (a ∷ names) ops = set_all_by (set_all p s names) ops (asked_op p s a ops)

-- what a list of names begins with
abbrev pub IsNameStep : NameStep → Tree → Type 0
IsNameStep (step.Name name others) t = t ≡ two dot (Name name.now) (term_of others.now)
IsNameStep step.End t = names_listed t ≡ Some []
IsNameStep step.NoNames t = names_listed t ≡ None
