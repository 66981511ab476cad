-- It shows so for the operands so far.
use Rattle.std.proofs.Common.{◌≡◌, ℕ, take}
use Rattle.std.specs.List.{All}
use Rattle.iso_model.specs.Terms.Trees.{Variable}
use Rattle.iso_store_core.specs.Presents.{meaning}
use Rattle.iso_writing.specs.Pushing.{IsApart}
use Rattle.iso_writing.proofs.writing.are_apart.Given as goal

abbrev pub invariant-loop-operand : goal.invariant-loop-operand
invariant-loop-operand g l =
    (n : ℕ) → meaning (g.S.Store.present l.store) l.variable ≡ Variable n
    → All (IsApart (g.S.Store.present l.store) n l.environment l.compounds) (take l.operand-index l.operands)
