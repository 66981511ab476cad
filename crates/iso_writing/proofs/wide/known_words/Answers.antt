use Rattle.std.proofs.Common.{◌≡◌, ◌<◌, ◌+◌, ℕ, List, ◌∷◌, [], IfOk, IfSome, OnOk, Bool, length, map, ◌-◌, ◌*◌, ◌≤◌, ◌/◌, ◌%◌, true, false, nat_eq, nat_lt, ◌++◌, slice_index_or, slice_set, bit_and, bit_or, Fits, w8, w32, w64, Bor, MutBor}
use Rattle.std.specs.List.{All}
use Rattle.iso_atoms.specs.Texts.{text_at}
use Rattle.iso_model.specs.Terms.Trees.{Apply, row}
use Rattle.iso_model.specs.Terms.Substitutions.{Subst, apply}
use Rattle.iso_store_core.specs.Presents.{Holds, Grows}
use Rattle.iso_store_core.specs.Retaining.{CountsCells, RetainsAll}
use Rattle.iso_compile.specs.Orders.{part_cells, parts_cells}
use Rattle.iso_compile.specs.Table.{Registers, part_term, part_row}
use Rattle.iso_code.specs.Loaded.{IsInside, IsMet, part_at}
use Rattle.iso_code.specs.Standing.{IsFor, Known}
use Rattle.iso_code.specs.declared.operands.Operand.TheVariants as operand
use Rattle.iso_writing.specs.Pushing.{IsHeld}
use Rattle.iso_writing.specs.Writing.{Adds}
use Rattle.iso_writing.proofs.wide.known_words.Goals as goal

-- src/wide.rt:144:9
pub returns-in-Some-clause-words : goal.returns-in-Some-clause-words
returns-in-Some-clause-words g c own by next low met rs known are_met =
    rw (c.in-Some.ensures) (c.known_each.ensures.words own by next low met rs known (rw (c.in-Some.ensures) at are_met))

-- src/wide.rt:152:9
pub known_each-requires-in-Some-three_variables-clause-inside :
    goal.known_each-requires-in-Some-three_variables-clause-inside
known_each-requires-in-Some-three_variables-clause-inside g c = rw (c.in-Some-three_variables.ensures) at c.requires.inside

-- src/wide.rt:152:9
pub known_each-requires-in-Some-three_variables-clause-held :
    goal.known_each-requires-in-Some-three_variables-clause-held
known_each-requires-in-Some-three_variables-clause-held g c = rw (c.in-Some-three_variables.ensures) at c.requires.held

-- src/wide.rt:152:9
pub returns-in-Some-three_variables-clause-words :
    goal.returns-in-Some-three_variables-clause-words
returns-in-Some-three_variables-clause-words g c own by next low met rs known are_met =
    rw (c.in-Some-three_variables.ensures) (c.known_each-in-Some-three_variables.ensures.words own by next low met rs known (rw (c.in-Some-three_variables.ensures) at are_met))
