-- The arguments before the next one were appended.
use Rattle.std.proofs.Common.{◌≡◌, map}
use Rattle.std.specs.List.{All}
use Rattle.iso_model.specs.Terms.Trees.{row}
use Rattle.iso_model.specs.Terms.Arguments.{arguments, joined}
use Rattle.iso_store_core.specs.Arguments.{members_from}
use Rattle.iso_store_core.specs.Presents.{Holds, meaning}
use Rattle.iso_search_core.proofs.goals.push_arguments.Given as goal

abbrev pub invariant-loop-index : goal.invariant-loop-index
invariant-loop-index g l =
    (joined (row (map (meaning (g.S.Store.present l.store)) l.words.items)) (members_from l.index (arguments (meaning (g.S.Store.present l.store) l.word)))
    ≡ joined (row (map (meaning (g.S.Store.present l.store)) l.fn.words.items)) (arguments (meaning (g.S.Store.present l.store) l.word)))
    × All (λ w. Holds (g.S.Store.present l.store) w) l.words.items
