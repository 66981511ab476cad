-- The goal can be converted where what is left to be looked at can.
use Rattle.std.proofs.Common.{◌+◌}
use Rattle.iso_store_core.specs.Presents.{meaning}
use Rattle.iso_prep.specs.Conversions.{is_callable}
use Rattle.iso_search_core.proofs.CallableWords.{LooksOn, look_load, words_load}
use Rattle.iso_search_core.proofs.callable_goals.can_be_called.Given as goal

abbrev pub invariant-looking : goal.invariant-looking
invariant-looking g l = LooksOn (g.S.Store.present l.store) l.parts.items l.next (is_callable (meaning (g.S.Store.present l.store) l.fn.goal))

abbrev pub decreases-looking : goal.decreases-looking
decreases-looking g l = look_load (g.S.Store.present l.store) l.next + words_load (g.S.Store.present l.store) l.parts.items
