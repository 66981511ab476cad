-- The entry at the place is gone, or there was none.
use Rattle.std.proofs.Common.{◌≡◌, sym, ap, subst, ◌∙◌, None, Some, map}
use Rattle.iso_ops.specs.Entries.{operator_of}
use Rattle.iso_ops.specs.Operators.{without_op, IsOpTable}
use Rattle.iso_ops.proofs.EntryLemmas.{entry_place, without_op-nowhere, without_op-entry}
use Rattle.iso_ops.proofs.TableLemmas.{IsOpTable-without_op}
use Rattle.iso_ops.proofs.table.OpTable.remove.Goals as goal

pub returns-in-Some-clause-removed : goal.returns-in-Some-clause-removed
returns-in-Some-clause-removed c =
    let here : entry_place c.args.kind c.args.name.now c.self.inside.entries.items ≡ Some c.in-Some.place = rw (← c.as_slice.ensures.value) (sym c.in-Some.ensures) in
    ap (map operator_of) c.remove.ensures.items
    ∙ without_op-entry c.args.kind c.args.name.now c.self.inside.entries.items c.in-Some.place here
    ∙ ap (without_op c.args.kind c.args.name.now) c.self.view_is

pub returns-in-Some-clause-table : goal.returns-in-Some-clause-table
returns-in-Some-clause-table c =
    subst IsOpTable (sym (returns-in-Some-clause-removed c))
    (IsOpTable-without_op c.args.kind c.args.name.now c.args.self.now c.requires (subst IsOpTable c.self.view_is c.self.invariant))

pub invariant_of-self : goal.invariant_of-self
invariant_of-self c = returns-in-Some-clause-table c

pub returns-in_default-clause-removed : goal.returns-in_default-clause-removed
returns-in_default-clause-removed c =
    let nowhere : entry_place c.args.kind c.args.name.now c.self.inside.entries.items ≡ None = rw (← c.as_slice.ensures.value) (sym c.in_default.ensures) in
    sym c.self.view_is ∙ without_op-nowhere c.args.kind c.args.name.now c.self.inside.entries.items nowhere ∙ ap (without_op c.args.kind c.args.name.now) c.self.view_is
