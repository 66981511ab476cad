use Rattle.std.proofs.Common.{ap}
use Rattle.iso_model.specs.Terms.Trees.{Variable}
use Rattle.iso_store.proofs.Gathering.{moved-on, made-after}
use Rattle.iso_store.proofs.heap.HeapStore.fresh.Goals as goal

pub returns-clause-made : goal.returns-clause-made
returns-clause-made c =
    made-after _ (Variable c.reserve-number.result) (Variable c.args.self.now.next) c.variable.result c.reserve-number.ensures.words c.reserve-number.ensures.substitution (ap Variable c.reserve-number.ensures.number) c.variable.ensures.made

pub returns-clause-numbers : goal.returns-clause-numbers
returns-clause-numbers c = moved-on _ c.reserve-number.result c.variable.result c.reserve-number.ensures.number c.reserve-number.ensures.numbers c.variable.ensures.numbers

pub returns-clause-marks : goal.returns-clause-marks
returns-clause-marks c m p h = c.variable.ensures.marks m p (c.reserve-number.ensures.marks m p h)
