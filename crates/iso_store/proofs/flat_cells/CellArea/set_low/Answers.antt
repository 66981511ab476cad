use Rattle.std.proofs.Common.{map, set, ap, ◌∙◌}
use Rattle.iso_area.specs.Stacks.{stacks}
use Rattle.iso_store.specs.FlatCells.{whole}
use Rattle.std.proofs.lemmas.List.{map-set}
use Rattle.iso_store.proofs.flat_cells.CellArea.set_low.Goals as goal

pub returns : goal.returns
returns c =
    let a = c.self.inside.area in
    rw (c.set_low.ensures, ← c.self.view_is) (ap (λ xs. stacks xs (map whole a.high) a.capacity) (map-set whole a.low c.args.index c.flattened.result ∙ ap (set (map whole a.low) c.args.index) c.flattened.ensures))
