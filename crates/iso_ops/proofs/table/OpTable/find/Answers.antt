use Rattle.std.proofs.Common.{◌≡◌, sym, ap, ◌∙◌, None, Some}
use Rattle.std.specs.Option.{option_map}
use Rattle.iso_ops.specs.Operators.{find_op, priority_and_spec}
use Rattle.iso_ops.proofs.EntryLemmas.{entry_place, find_op-nowhere, find_op-entry}
use Rattle.iso_ops.proofs.table.OpTable.find.Goals as goal

pub returns-in_err-found-clause-entry : goal.returns-in_err-found-clause-entry
returns-in_err-found-clause-entry c =
    let nowhere : entry_place c.args.kind c.args.name.now c.self.inside.entries.items ≡ None = rw (← c.as_slice.ensures.value) (sym c.in_err-found.ensures) in
    let none = find_op-nowhere c.args.kind c.args.name.now c.self.inside.entries.items nowhere in
    c.from_residual.ensures ∙ ap (option_map priority_and_spec) (sym none ∙ ap (find_op c.args.kind c.args.name.now) c.self.view_is)

pub returns-clause-entry : goal.returns-clause-entry
returns-clause-entry c =
    let here : entry_place c.args.kind c.args.name.now c.self.inside.entries.items ≡ Some c.in_ok-found.found = rw (← c.as_slice.ensures.value) (sym c.in_ok-found.ensures) in
    let found = find_op-entry c.args.kind c.args.name.now c.self.inside.entries.items c.in_ok-found.found c.index-entry.result.now here c.index-entry.ensures in
    ap (option_map priority_and_spec) (sym found ∙ ap (find_op c.args.kind c.args.name.now) c.self.view_is)
