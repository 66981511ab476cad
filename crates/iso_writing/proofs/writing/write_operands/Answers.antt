use Rattle.std.proofs.Common.{◌≡◌, true, [], length, refl, ◌∙◌, arith}
use Rattle.iso_model.specs.Terms.Trees.{Variable}
use Rattle.iso_store_core.specs.Presents.{meaning}
use Rattle.iso_writing.proofs.VariableLemmas.{begins_stands, widens_meaning}
use Rattle.iso_writing.proofs.BlockLemmas.{block_writes, block_unifies, flat_makes, flat_held, flat_apart, made_arity}
use Rattle.iso_writing.proofs.writing.write_operands.Goals as goal

pub are_apart-requires-clause-inside : goal.are_apart-requires-clause-inside
are_apart-requires-clause-inside g c = (length (g.S.Store.names c.args.store.now), rw (c.requires.same, c.write_flat.ensures.count) c.requires.sound.inside)

pub are_apart-requires-clause-held : goal.are_apart-requires-clause-held
are_apart-requires-clause-held g c =
    rw c.requires.same (flat_held (g.S.Store.present c.args.store.now) (g.S.Store.present c.write_flat.new.store) c.args.environment.now c.write_flat.new.environment c.args.compounds.now
    c.args.first c.args.block.now.operands.items c.requires.stands c.in_ok-made.ensures.makes)

pub bind_made-requires-clause-compound : goal.bind_made-requires-clause-compound
bind_made-requires-clause-compound g c =
    let h = c.requires.stands in
    let at = c.in_ok-made.ensures.made h.0.arguments h.1 h.2 h.3 (begins_stands c.args.environment.now c.args.compounds.now c.args.block.now.operands.items h) h.7 h.8 in
    let many = made_arity (g.S.Store.present c.write_flat.new.store) h.3.subst c.args.first h.3.registers (g.S.Store.names c.args.store.now) h.1.low c.args.block.now c.in_ok-made.made at in
    let some = c.requires.sound.some in
    omega (arith, many, some)

pub bind_made-requires-clause-apart : goal.bind_made-requires-clause-apart
bind_made-requires-clause-apart g c =
    let n = c.requires.unbound.0 in
    let all = (rw c.requires.same at c.if-are_apart.ensures) refl n in
    let is : meaning (g.S.Store.present c.write_flat.new.store) c.args.variable ≡ Variable n = widens_meaning c.args.variable c.in_ok-made.ensures.widens c.requires.variable ∙ c.requires.unbound.1 in (
      n,
      is,
      flat_apart (g.S.Store.present c.args.store.now) (g.S.Store.present c.write_flat.new.store) (g.met.S.Store.untouched c.args.store.now) (g.S.Store.names c.args.store.now) c.args.first n
          c.args.variable c.in_ok-made.made c.args.block.now c.args.environment.now c.write_flat.new.environment c.args.compounds.now c.requires.variable c.requires.unbound.1 c.write_flat.ensures.count
          c.requires.sound c.requires.stands c.in_ok-made.ensures.makes c.in_ok-made.ensures.made (all is),
    )

pub returns-then-are_apart-clause-writes : goal.returns-then-are_apart-clause-writes
returns-then-are_apart-clause-writes g c =
    block_writes (g.S.Store.names c.args.store.now) c.args.block.now [] c.args.first (g.S.Store.present c.args.store.now) (g.S.Store.present c.write_flat.new.store) (g.S.Store.present c.bind_made.new.self)
    (g.met.S.Store.untouched c.write_flat.new.store) c.args.variable c.in_ok-made.made c.args.environment.now c.write_flat.new.environment c.args.compounds.now c.args.compounds.now true
    (flat_makes (g.S.Store.names c.args.store.now) c.args.block.now c.args.first (g.S.Store.present c.args.store.now) (g.S.Store.present c.write_flat.new.store) c.in_ok-made.made
    c.args.environment.now c.write_flat.new.environment c.args.compounds.now c.in_ok-made.ensures.makes c.in_ok-made.ensures.made)
    c.in_ok-bind_made.ensures.unified

pub returns-clause-writes : goal.returns-clause-writes
returns-clause-writes g c =
    block_unifies (g.S.Store.names c.args.store.now) c.args.block.now [] c.args.first (g.S.Store.present c.args.store.now) (g.S.Store.present c.write_flat.new.store) (g.S.Store.present c.unify_made.new.store)
    (g.met.S.Store.untouched c.write_flat.new.store) c.args.variable c.in_ok-made.made c.args.environment.now c.write_flat.new.environment c.args.compounds.now c.args.compounds.now c.unify_made.result
    (flat_makes (g.S.Store.names c.args.store.now) c.args.block.now c.args.first (g.S.Store.present c.args.store.now) (g.S.Store.present c.write_flat.new.store) c.in_ok-made.made
    c.args.environment.now c.write_flat.new.environment c.args.compounds.now c.in_ok-made.ensures.makes c.in_ok-made.ensures.made)
    c.unify_made.ensures.unified
