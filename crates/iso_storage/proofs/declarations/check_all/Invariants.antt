-- Those so far are named, and the rest is left.
use Rattle.std.proofs.Common.{List}
use Rattle.iso_model.specs.Search.Databases.{Key}
use Rattle.iso_model.specs.Search.Errors.{key}
use Rattle.iso_model.specs.Search.Storages.{indicated}
use Rattle.iso_storage.proofs.DeclarationLemmas.{IsLeft}
use Rattle.iso_storage.proofs.declarations.check_all.Given as goal

abbrev pub invariant-loop-indicator : goal.invariant-loop-indicator
invariant-loop-indicator g l = (ks : List Key) × IsLeft (λ p. indicated p (key l.by 1)) (g.S.Store.present l.store) l.indicators l.indicator-index ks
