-- The entry at the place is redefined, or a new one stands behind the others.
use Rattle.std.proofs.Common.{◌≡◌, sym, ap, subst, ◌∙◌, None, Some, map, Result, Ok, Err, OnOk, OnErr}
use Rattle.std.proofs.lemmas.Result.{on_ok_weaker}
use Rattle.iso_ops.specs.Specifiers.{kind_of}
use Rattle.iso_ops.specs.Entries.{operator_of}
use Rattle.iso_ops.specs.Operators.{operator, with_op, IsOpTable}
use Rattle.iso_ops.proofs.EntryLemmas.{entry_place, find_op-nowhere, with_op-entry, with_op-last}
use Rattle.iso_ops.proofs.TableLemmas.{IsOpTable-with_op}
use Rattle.iso_ops.proofs.table.OpTable.put.Goals as goal
use Rattle.iso_ops.proofs.table.OpTable.put.Goals.{After-push_entry}

-- a fact of either outcome
either_way : {E : Type 0} (r : Result (Unit {0}) E) {P Q G : Type 0} → OnOk r P → OnErr r Q → (P → G) → (Q → G) → G
either_way (Ok _) ok err on_ok on_err = on_ok ok
either_way (Err _) ok err on_ok on_err = on_err err

on_err_also : {E : Type 0} (r : Result (Unit {0}) E) {G : Type 0} → G → OnErr r G
on_err_also (Ok _) holds = tt
on_err_also (Err _) holds = holds

pub returns-in-Some-clause-ok : goal.returns-in-Some-clause-ok
returns-in-Some-clause-ok c =
    let here : entry_place (kind_of c.args.spec) c.args.name.now c.self.inside.entries.items ≡ Some c.in-Some.place = rw (← c.as_slice.ensures.value, ← c.kind.ensures) (sym c.in-Some.ensures) in
    with_op-entry c.args.priority c.args.spec c.args.name.now c.self.inside.entries.items c.in-Some.place c.index_mut-entry.result.now here c.index_mut-entry.ensures.value
    ∙ ap (with_op (operator c.args.priority c.args.spec c.args.name.now)) c.self.view_is

pub returns-in-Some-clause-table : goal.returns-in-Some-clause-table
returns-in-Some-clause-table c =
    let table : IsOpTable c.args.self.now = subst IsOpTable c.self.view_is c.self.invariant in
    subst IsOpTable (sym (returns-in-Some-clause-ok c))
    (IsOpTable-with_op (operator c.args.priority c.args.spec c.args.name.now) c.args.self.now c.requires.low c.requires.high c.requires.other c.requires.alone table)

pub invariant_of-self : goal.invariant_of-self
invariant_of-self c = returns-in-Some-clause-table c

nowhere : (c : After-push_entry) → entry_place (kind_of c.args.spec) c.args.name.now c.self.inside.entries.items ≡ None
nowhere c = rw (← c.as_slice.ensures.value, ← c.kind.ensures) (sym c.in-None.ensures)

pub returns-in-None-clause-ok : goal.returns-in-None-clause-ok
returns-in-None-clause-ok c =
    on_ok_weaker c.push_entry.result
    (λ e.
    e
    ∙ with_op-last c.args.priority c.args.spec c.args.name.now c.self.inside.entries.items (nowhere c)
    ∙ ap (with_op (operator c.args.priority c.args.spec c.args.name.now)) c.self.view_is)
    c.push_entry.ensures.ok

pub returns-in-None-clause-table : goal.returns-in-None-clause-table
returns-in-None-clause-table c =
    let table : IsOpTable c.args.self.now = subst IsOpTable c.self.view_is c.self.invariant in
    either_way c.push_entry.result (returns-in-None-clause-ok c) c.push_entry.ensures.err
    (λ e. subst IsOpTable (sym e)
    (IsOpTable-with_op (operator c.args.priority c.args.spec c.args.name.now) c.args.self.now c.requires.low c.requires.high c.requires.other c.requires.alone table))
    (λ e. subst IsOpTable (sym (ap (map operator_of) e)) c.self.invariant)

pub invariant_of-self-in-None : goal.invariant_of-self-in-None
invariant_of-self-in-None c = returns-in-None-clause-table c

pub returns-in-None-clause-is_new : goal.returns-in-None-clause-is_new
returns-in-None-clause-is_new c =
    on_err_also c.push_entry.result (rw (← c.self.view_is) (find_op-nowhere (kind_of c.args.spec) c.args.name.now c.self.inside.entries.items (nowhere c)))
