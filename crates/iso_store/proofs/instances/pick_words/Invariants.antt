-- The words of the places so far came.
use Rattle.std.proofs.Common.{◌≡◌, take}
use Rattle.iso_store.specs.Writing.{picked}
use Rattle.iso_store.proofs.instances.pick_words.Given as goal

abbrev pub invariant-loop-part : goal.invariant-loop-part
invariant-loop-part g l = l.words.items ≡ picked l.variables (take l.part-index l.places)
