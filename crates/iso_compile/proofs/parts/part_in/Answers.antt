use Rattle.iso_compile.specs.declared.instructions.Part.TheVariants.{Integer, Atom, Inner}
use Rattle.std.proofs.Common.{refl}
use Rattle.iso_compile.proofs.MarkLemmas.{marks_part}
use Rattle.iso_compile.proofs.parts.part_in.Goals as goal

pub returns-in-Int-clause-marks : goal.returns-in-Int-clause-marks
returns-in-Int-clause-marks c = marks_part c.args.plan.now.places c.args.met.now.items c.args.met.now.items (Integer _) tt (λ k. refl)

pub returns-in_ok-clone-in-Atom-clause-marks : goal.returns-in_ok-clone-in-Atom-clause-marks
returns-in_ok-clone-in-Atom-clause-marks c = marks_part c.args.plan.now.places c.args.met.now.items c.args.met.now.items (Atom _) tt (λ k. refl)

pub returns-in-Compound-clause-marks : goal.returns-in-Compound-clause-marks
returns-in-Compound-clause-marks c = marks_part c.args.plan.now.places c.args.met.now.items c.args.met.now.items (Inner _) tt (λ k. refl)
