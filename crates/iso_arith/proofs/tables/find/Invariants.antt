-- The operation of the atom is among the entries that are left, if it is among all.
use Rattle.std.proofs.Common.{◌≡◌, ◌<◌, ℕ, List, length, map, drop}
use Rattle.iso_atoms.specs.Texts.{EachOnce, text_at}
use Rattle.iso_model.specs.Search.Arithmetic.{among}
use Rattle.iso_arith.specs.Tables.{HaveNames, named_by}
use Rattle.iso_arith.proofs.tables.find.Given as goal

abbrev pub invariant-loop-atom : goal.invariant-loop-atom
invariant-loop-atom g l =
    (names : List (List ℕ)) → EachOnce names → HaveNames names l.table → l.name < length names
    → among (map (named_by names) (drop l.atom-index l.table)) (text_at names l.name) ≡ among (map (named_by names) l.table) (text_at names l.name)
