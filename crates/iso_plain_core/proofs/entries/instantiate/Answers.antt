use Rattle.std.proofs.Common.{subst, ℕ, ◌+◌}
use Rattle.iso_store_core.specs.Copying.{cells_of}
use Rattle.iso_store_core.specs.Presents.{Grows}
use Rattle.iso_program.specs.Written.{term_in}
use Rattle.iso_plain_core.proofs.entries.instantiate.Goals as goal

pub instantiate-requires-clause-pattern : goal.instantiate-requires-clause-pattern
instantiate-requires-clause-pattern g c =
    let fits = c.requires.fits in
    (term_in (g.S.Store.names c.args.store.now) c.args.pattern.now, fits.written, fits.fits.arities, fits.fits.below)

pub returns-clause-made : goal.returns-clause-made
returns-clause-made g c = c.instantiate.ensures.made (term_in (g.S.Store.names c.args.store.now) c.args.pattern.now) c.requires.fits.written

pub returns-clause-cells : goal.returns-clause-cells
returns-clause-cells g c = λ counts.
    let t = term_in (g.S.Store.names c.args.store.now) c.args.pattern.now in
    subst (λ (k : ℕ). Grows (g.S.Store.present c.args.store.now) (g.S.Store.present c.instantiate.new.self) (cells_of k (λ n. n + 1) t) 0) counts.atomic (c.instantiate.ensures.cells t c.requires.fits.written)
