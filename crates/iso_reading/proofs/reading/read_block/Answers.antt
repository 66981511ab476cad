use Rattle.iso_reading.proofs.reading.read_block.Goals as goal

pub read_operands-requires-clause-arity : goal.read_operands-requires-clause-arity
read_operands-requires-clause-arity g c = rw (rw c.in-NewNew.is at c.requires.sound.pair).2 at c.requires.arity

pub read_operands-requires-clause-inside : goal.read_operands-requires-clause-inside
read_operands-requires-clause-inside g c = rw (rw c.in-NewNew.is at c.requires.sound.pair).2 at c.requires.sound.inside

pub read_operands-requires-clause-begins : goal.read_operands-requires-clause-begins
read_operands-requires-clause-begins g c = rw (rw c.in-NewNew.is at c.requires.sound.pair).2 at c.requires.begins

pub returns-in-NewNew-clause-reads : goal.returns-in-NewNew-clause-reads
returns-in-NewNew-clause-reads g c = rw (rw c.in-NewNew.is at c.requires.sound.pair).2 c.read_operands.ensures.reads

pub returns-in-NewNew-clause-cells : goal.returns-in-NewNew-clause-cells
returns-in-NewNew-clause-cells g c = rw (rw c.in-NewNew.is at c.requires.sound.pair).2 c.read_operands.ensures.cells

pub returns-in_default-clause-reads : goal.returns-in_default-clause-reads
returns-in_default-clause-reads g c = rw c.as_slice.ensures.value at c.read_operands-in_default.ensures.reads
