use Rattle.std.proofs.Common.{length, arith}
use Rattle.iso_store.specs.declared.heap_cells.Piece.TheVariants.{Word, Variable as Place}
use Rattle.iso_store.proofs.HeapCopied.{known-variable, known-word}
use Rattle.iso_store.proofs.heap_copies.known_piece.Goals as goal

pub returns-then-place-places : goal.returns-then-place-places
returns-then-place-places c = known-variable (length c.args.places.now) c.args.compounds.now c.args.place (Place c.args.place) c.if-place-places.true

pub returns : goal.returns
returns c = known-word (length c.args.places.now) c.args.compounds.now c.args.place c.index-compounds-place.result (Word c.index-compounds-place.result) (omega (arith, c.if-place-places.false)) c.requires c.index-compounds-place.is
