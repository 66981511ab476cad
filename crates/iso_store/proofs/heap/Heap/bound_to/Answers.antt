use Rattle.std.proofs.Common.{◌∙◌}
use Rattle.std.specs.List.{slice_get}
use Rattle.iso_store.proofs.HeldWords.{held-bound}
use Rattle.iso_store.proofs.heap.Heap.bound_to.Goals as goal

pub returns : goal.returns
returns c = c.held.ensures ∙ held-bound (slice_get c.args.self.now.area.low c.args.place) c.requires.variable
