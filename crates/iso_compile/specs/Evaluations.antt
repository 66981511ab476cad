-- The table of instructions for arithmetic: what they come to (ISO/IEC 13211-1:1995, 8.6, 8.7).
use Rattle.std.specs.Prelude.{◌≡◌, ◌&&◌, ℕ, ℤ, List, [], ◌∷◌, map, Bool, true, false, Some, Result, Ok, Err, codes, if◌then◌else◌}
use Rattle.std.specs.List.{list_any}
use Rattle.std.specs.Str.{bytes_eq}
use Rattle.iso_model.specs.Terms.Trees.{Tree, Apply, End, More}
use Rattle.iso_model.specs.Terms.Variables.{occurs}
use Rattle.iso_model.specs.Terms.Substitutions.{Subst, apply}
use Rattle.iso_model.specs.Terms.Copies.{renamed}
use Rattle.iso_model.specs.Search.Errors.{Key, key, raised}
use Rattle.iso_model.specs.Search.Databases.{key_of}
use Rattle.iso_model.specs.Search.Replies.{Answer, Fail, Raise}
use Rattle.iso_model.specs.Search.Library.{library_answer, equate_integer, tested, compares, comparison_name}
use Rattle.iso_model.specs.declared.kinds.Comparison.{Comparison}
use Rattle.iso_model.specs.declared.kinds.Comparison.TheVariants as comparison
use Rattle.iso_model.specs.declared.kinds.Library.TheVariants as library
use Rattle.iso_compile.specs.declared.control.Instruction.{Instruction}
use Rattle.iso_compile.specs.declared.control.Instruction.TheVariants.{Is, Compare}
use Rattle.iso_compile.specs.Table as table
use Rattle.iso_compile.specs.Emitted.{part_of}
use Rattle.iso_compile.specs.Expressions.{Step, Take, step_of, done, is_known}
use Rattle.iso_compile.specs.Tasks.{is_atomic}

-- goes on with the only value that was left; an error is raised by this procedure
abbrev pub with_one : Result (List ℤ) Tree → Key → (ℤ → Answer) → Answer
with_one (Ok (z ∷ [])) k go = go z
with_one (Ok zs) k go = Fail
with_one (Err error) k go = Raise (raised error k)

-- so with the two values that were left, of which the last one stands first
abbrev pub with_two : Result (List ℤ) Tree → Key → (ℤ → ℤ → Answer) → Answer
with_two (Ok (y ∷ x ∷ [])) k go = go x y
with_two (Ok zs) k go = Fail
with_two (Err error) k go = Raise (raised error k)

-- `is/2`: the part is unified with the value of the steps. The clause's variables are numbered from `next` on, under this
-- substitution.
abbrev pub evaluated : ℕ → Subst → table.Part → List Step → Answer
evaluated next s p ks = with_one (done next s ks []) (key (codes "is") 2) (equate_integer (apply s (table.part_term next (λ r. End) p)))

-- a comparison: whether it holds of the values of the steps
abbrev pub compared : Comparison → ℕ → Subst → List Step → Answer
compared c next s ks = with_two (done next s ks []) (key (comparison_name c) 2) (λ x y. tested (compares c x y))

-- where the part is a variable, it is one of the term
abbrev pub OccursIn : Tree → table.Part → Type 0
OccursIn t (table.Place x) = occurs x t ≡ true
OccursIn t p = Unit {0}

-- so it is with the parts whose values the steps take
abbrev pub OccurIn : Tree → List Step → Type 0
OccurIn t [] = Unit {0}
OccurIn t (Take p ∷ ks) = OccursIn t p × OccurIn t ks
OccurIn t (k ∷ ks) = OccurIn t ks

-- The instruction comes to what this goal comes to, whatever its variables are; and it has no others.
abbrev pub ComesTo : Instruction → Tree → Type 0
ComesTo (Is p ks) t =
    (key_of t ≡ Some (key (codes "is") 2))
    × ((next : ℕ) (s : Subst) → evaluated next s (part_of p) (map step_of ks.items)
    ≡ library_answer library.Is (apply s (renamed next t))) × OccursIn t (part_of p)
    × OccurIn t (map step_of ks.items)
ComesTo (Compare c ks) t =
    (key_of t ≡ Some (key (comparison_name c) 2))
    × ((next : ℕ) (s : Subst) → compared c next s (map step_of ks.items)
    ≡ library_answer (library.Compare c) (apply s (renamed next t))) × OccurIn t (map step_of ks.items)
ComesTo i t = ⊥

abbrev pub is_comparison : List ℕ → Bool
is_comparison f = list_any (λ c. bytes_eq (comparison_name c) f) (comparison.Equal ∷ comparison.Unequal ∷ comparison.Less ∷ comparison.AtMost ∷ comparison.Greater ∷ comparison.AtLeast ∷ [])

-- whether a goal is in line: `is/2` of a variable or a constant and a known expression, or a comparison of two
abbrev pub is_in_line : Tree → Bool
is_in_line (Apply f (More l (More r End))) = if bytes_eq f (codes "is") then is_atomic l && is_known r else is_comparison f && (is_known l && is_known r)
is_in_line t = false
