-- One part more is tidied.
use Rattle.std.proofs.Common.{refl}
use Rattle.iso_clauses.proofs.TidyLemmas.{Tidies-both, Tidies-nothing}
use Rattle.iso_clauses.proofs.tidying.trim_parts.Goals as goal

pub loop-position-init : goal.loop-position-init
loop-position-init g c = λ of. Tidies-nothing of c.args.slots.now c.args.removals c.args.lists.now.items c.args.lists.now.items refl

pub trim_part-requires : goal.trim_part-requires
trim_part-requires g c = (let was = c.requires in (was.0, was.1, (c.loop-position.invariant was.0).kept was.1 was.2))

pub loop-position-preserved : goal.loop-position-preserved
loop-position-preserved g c =
    λ of. Tidies-both of c.args.slots.now c.args.removals c.args.lists.now.items c.loop-position.lists.items c.trim_part.new.lists.items (c.loop-position.invariant of) (c.trim_part.ensures of)
