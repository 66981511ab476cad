use Rattle.iso_area.proofs.AreaLemmas.{cut_high}
use Rattle.iso_area.proofs.Area.cut_high.Goals as goal

pub invariant_of-self : goal.invariant_of-self
invariant_of-self g c = (cut_high c.self.inside c.self.invariant c.args.self.now c.self.view_is c.args.len c.requires).0

pub returns : goal.returns
returns g c = (cut_high c.self.inside c.self.invariant c.args.self.now c.self.view_is c.args.len c.requires).1
