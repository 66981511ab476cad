-- How much room a heap takes: each entry of the trail is of a variable that is bound.
use Rattle.std.proofs.Common.{ℕ, ◌+◌, ◌≤◌, List, [], ◌∷◌, length, arith}
use Rattle.iso_store.specs.declared.heap_cells.Cell.{Cell}
use Rattle.iso_store.specs.declared.heap_cells.Cell.TheVariants.{Unbound, Bound, Argument, Functor, Wide, Entry}
use Rattle.iso_store.specs.HeapTerms.{bound_count, variable_cells}

bound-within : (cs : List Cell) → bound_count cs ≤ variable_cells cs
bound-within [] = omega arith
bound-within (Unbound n ∷ cs) = let inner = bound-within cs in omega arith
bound-within (Bound n w ∷ cs) = let inner = bound-within cs in omega arith
bound-within (Argument w ∷ cs) = let inner = bound-within cs in omega arith
bound-within (Functor f n ∷ cs) = let inner = bound-within cs in omega arith
bound-within (Wide z ∷ cs) = let inner = bound-within cs in omega arith
bound-within (Entry p ∷ cs) = let inner = bound-within cs in omega arith

pub variables-within : (cs : List Cell) → variable_cells cs ≤ length cs
variables-within [] = omega arith
variables-within (Unbound n ∷ cs) = let inner = variables-within cs in omega arith
variables-within (Bound n w ∷ cs) = let inner = variables-within cs in omega arith
variables-within (Argument w ∷ cs) = let inner = variables-within cs in omega arith
variables-within (Functor f n ∷ cs) = let inner = variables-within cs in omega arith
variables-within (Wide z ∷ cs) = let inner = variables-within cs in omega arith
variables-within (Entry p ∷ cs) = let inner = variables-within cs in omega arith

-- where both stacks fill the room, it is no more than the cells with one more for each variable
pub full-used : (cs es : List Cell) (limit : ℕ) → length es ≤ bound_count cs → limit ≤ length cs + length es → limit ≤ length cs + variable_cells cs
full-used cs es limit trailed full = let inner = bound-within cs in omega arith
