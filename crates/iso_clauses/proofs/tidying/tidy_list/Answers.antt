-- First the one, then the other.
use Rattle.iso_clauses.proofs.TidyLemmas.{Tidies-both}
use Rattle.iso_clauses.proofs.tidying.tidy_list.Goals as goal

pub thin_out-requires : goal.thin_out-requires
thin_out-requires g c = (let was = c.requires in (was.0, was.1, (c.trim.ensures was.0).kept was.1 was.2))

pub returns : goal.returns
returns g c =
    λ of. Tidies-both of c.args.slots.now c.args.removals c.args.lists.now.items c.trim.new.entries.items c.thin_out.new.entries.items (c.trim.ensures of) (c.thin_out.ensures of)
