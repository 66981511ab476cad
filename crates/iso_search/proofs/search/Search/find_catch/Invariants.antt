-- What comes before the list from the place on is passed.
use Rattle.std.proofs.Common.{◌≡◌, List}
use Rattle.iso_model.specs.Search.Walker.{Member, State, thrown}
use Rattle.iso_model.specs.Terms.Trees.{Tree}
use Rattle.iso_search.specs.Catches.{HasStack}
use Rattle.iso_search.proofs.search.Search.find_catch.Given as goal

abbrev pub invariant-loop-past : goal.invariant-loop-past
invariant-loop-past g l =
    (behind : List Member) → g.L.Lists.list (g.S.Store.present l.fn.self.store) l.fn.self.lists (g.L.Lists.whole l.fn.self.lists) l.fn.from behind
    → (ms : List Member) × g.L.Lists.list (g.S.Store.present l.fn.self.store) l.fn.self.lists (g.L.Lists.whole l.fn.self.lists) l.place ms
    × ((s : State) (ball : Tree) → HasStack g.S.Store g.L.Lists l.fn.self s → thrown ball behind s ≡ thrown ball ms s)

abbrev pub decreases-loop-past : goal.decreases-loop-past
decreases-loop-past g l = g.L.Lists.depth l.fn.self.lists l.place
