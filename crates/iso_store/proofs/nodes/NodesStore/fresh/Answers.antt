use Rattle.iso_store.proofs.CellCounts.{variable-counted}
use Rattle.iso_store.proofs.Gathering.{moved-on}
use Rattle.iso_store.proofs.nodes.NodesStore.fresh.Goals as goal

pub returns-clause-numbers : goal.returns-clause-numbers
returns-clause-numbers c = moved-on _ c.reserve-number.result c.variable.result c.reserve-number.ensures.number c.reserve-number.ensures.numbers c.variable.ensures.numbers

pub returns-clause-counted : goal.returns-clause-counted
returns-clause-counted c = variable-counted _ c.reserve-number.result c.variable.result c.reserve-number.ensures.numbers c.reserve-number.ensures.cells c.variable.ensures.numbers c.variable.ensures.cell

pub returns-clause-marks : goal.returns-clause-marks
returns-clause-marks c m p h = c.variable.ensures.marks m p (c.reserve-number.ensures.marks m p h)
