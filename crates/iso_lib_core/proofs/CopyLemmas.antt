-- How many cells copies take.
use Rattle.std.proofs.Common.{◌≤◌, ℕ, arith}
use Rattle.iso_model.specs.Terms.Trees.{Tree, Variable, Integer, Name, Apply, End, More}
use Rattle.iso_model.specs.Terms.Sizes.{size}
use Rattle.iso_model.specs.Terms.Variables.{variable_count}
use Rattle.iso_store_core.specs.Presents.{Grows}
use Rattle.iso_store_core.specs.Retaining.{CountsCells, Takes}
use Rattle.iso_store_core.specs.declared.stores.Store.{Ghosts}
use Rattle.iso_store_core.proofs.RetainLemmas.{grows_most, variables_within, wide-within}
use Rattle.iso_lib_core.specs.Cells.{copy_cells}

copy_within : (t : Tree) → copy_cells t ≤ size t
copy_within (Variable n) = omega arith
copy_within (Integer z) = let some = wide-within z in omega arith
copy_within (Name a) = omega arith
copy_within (Apply f ts) = omega arith
copy_within End = omega arith
copy_within (More t ts) = omega arith

-- a copy takes no more cells than its term is large
pub takes_copied : {S W M : Type 0} {g : Ghosts S W M} {a b : S} (n : ℕ) (t : Tree) → size t ≤ n → (CountsCells g → Grows (g.present a) (g.present b) (copy_cells t) (variable_count t)) → Takes g a b n
takes_copied n t most one = record { grows = λ counts. grows_most n n (let less = copy_within t in omega (arith, less, most)) (let few = variables_within t in omega (arith, few, most)) (one counts) }
