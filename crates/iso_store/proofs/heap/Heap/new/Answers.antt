use Rattle.std.proofs.Common.{refl, arith}
use Rattle.iso_store.proofs.heap.Heap.new.Goals as goal

-- no integer and no atom takes a cell, and a copy takes as many as the size of its term
pub returns-clause-counted : goal.returns-clause-counted
returns-clause-counted c = record { atomic = refl; built = λ t. omega arith }
