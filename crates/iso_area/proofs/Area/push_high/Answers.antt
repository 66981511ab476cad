use Rattle.iso_area.proofs.AreaLemmas.{pushed_high}
use Rattle.iso_area.proofs.Area.push_high.Goals as goal

pub invariant_of-self : goal.invariant_of-self
invariant_of-self g c = (pushed_high c.self.inside c.self.invariant c.args.self.now c.self.view_is c.write.new.self c.args.item c.if-self.false c.write.ensures.0 c.write.ensures.1).0

pub returns-clause-pushed : goal.returns-clause-pushed
returns-clause-pushed g c = (pushed_high c.self.inside c.self.invariant c.args.self.now c.self.view_is c.write.new.self c.args.item c.if-self.false c.write.ensures.0 c.write.ensures.1).1
