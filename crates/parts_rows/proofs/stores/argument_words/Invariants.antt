-- The words before the next one hold.
use Rattle.std.specs.List.{All}
use Rattle.iso_store_core.specs.Presents.{Holds}
use Rattle.parts_rows.proofs.stores.argument_words.Given as goal

abbrev pub invariant-loop-index : goal.invariant-loop-index
invariant-loop-index g l = All (λ w. Holds (g.S.Store.present l.store) w) l.words.items
