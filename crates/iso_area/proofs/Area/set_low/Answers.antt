use Rattle.iso_area.proofs.AreaLemmas.{set_low}
use Rattle.iso_area.proofs.Area.set_low.Goals as goal

pub invariant_of-self : goal.invariant_of-self
invariant_of-self g c = (set_low c.self.inside c.self.invariant c.args.self.now c.self.view_is c.write.new.self c.args.index c.args.item c.requires c.write.ensures.0 c.write.ensures.1).0

pub returns : goal.returns
returns g c = (set_low c.self.inside c.self.invariant c.args.self.now c.self.view_is c.write.new.self c.args.index c.args.item c.requires c.write.ensures.0 c.write.ensures.1).1
