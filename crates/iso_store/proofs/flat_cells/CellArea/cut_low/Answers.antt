use Rattle.std.proofs.Common.{map, ap, sym}
use Rattle.std.proofs.lemmas.List.{take-map}
use Rattle.iso_area.specs.Stacks.{stacks}
use Rattle.iso_store.specs.FlatCells.{whole}
use Rattle.iso_store.proofs.flat_cells.CellArea.cut_low.Goals as goal

pub returns : goal.returns
returns c =
    let a = c.self.inside.area in
    rw (c.cut_low.ensures, ← c.self.view_is) (ap (λ xs. stacks xs (map whole a.high) a.capacity) (sym (take-map whole c.args.len a.low)))
