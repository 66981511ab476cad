use Rattle.std.proofs.Common.{sym, ◌∙◌}
use Rattle.iso_area.proofs.AreaLemmas.{low_value}
use Rattle.iso_area.proofs.Area.low.Goals as goal

pub get-requires : goal.get-requires
get-requires g c = let found = low_value c.self.inside c.self.invariant c.args.self.now c.self.view_is c.args.index c.requires in (sym c.self.invariant.block.0, (found.0, found.1.0))

pub returns : goal.returns
returns g c = let found = low_value c.self.inside c.self.invariant c.args.self.now c.self.view_is c.args.index c.requires in found.1.1 ∙ (sym found.1.0 ∙ c.get.ensures)
