use Rattle.iso_text.proofs.texts.builtin.Goals as goal

pub returns-in-AtomChars-clause-replies : goal.returns-in-AtomChars-clause-replies
returns-in-AtomChars-clause-replies g c = rw c.in-AtomChars.is c.atom_list.ensures.replies

pub returns-in-AtomChars-clause-cells : goal.returns-in-AtomChars-clause-cells
returns-in-AtomChars-clause-cells g c = rw c.in-AtomChars.is c.atom_list.ensures.cells

pub returns-in-AtomCodes-clause-replies : goal.returns-in-AtomCodes-clause-replies
returns-in-AtomCodes-clause-replies g c = rw c.in-AtomCodes.is c.atom_list-in-AtomCodes.ensures.replies

pub returns-in-AtomCodes-clause-cells : goal.returns-in-AtomCodes-clause-cells
returns-in-AtomCodes-clause-cells g c = rw c.in-AtomCodes.is c.atom_list-in-AtomCodes.ensures.cells

pub returns-in-NumberChars-clause-replies : goal.returns-in-NumberChars-clause-replies
returns-in-NumberChars-clause-replies g c = rw c.in-NumberChars.is c.number_list.ensures.replies

pub returns-in-NumberChars-clause-cells : goal.returns-in-NumberChars-clause-cells
returns-in-NumberChars-clause-cells g c = rw c.in-NumberChars.is c.number_list.ensures.cells

pub returns-in-NumberCodes-clause-replies : goal.returns-in-NumberCodes-clause-replies
returns-in-NumberCodes-clause-replies g c = rw c.in-NumberCodes.is c.number_list-in-NumberCodes.ensures.replies

pub returns-in-NumberCodes-clause-cells : goal.returns-in-NumberCodes-clause-cells
returns-in-NumberCodes-clause-cells g c = rw c.in-NumberCodes.is c.number_list-in-NumberCodes.ensures.cells
