-- What stands on, in whichever way the clause comes.
use Rattle.std.proofs.Common.{sym}
use Rattle.iso_program.specs.declared.procedures.Way.TheVariants as way
use Rattle.iso_program.proofs.KeyingLemmas.{key_on, preserves_same, preserves_came}
use Rattle.iso_program.proofs.procedures.insert.Goals as goal

pub returns-in_err-add_consulted-in-Consulted-clause-preserves : goal.returns-in_err-add_consulted-in-Consulted-clause-preserves
returns-in_err-add_consulted-in-Consulted-clause-preserves g c = let now = c.in_err-add_consulted-in-Consulted.ensures in preserves_same c.args.db.now c.add_consulted.new.self now.clauses now.index now.unchanged

pub returns-in_ok-add_consulted-in-Consulted-clause-preserves : goal.returns-in_ok-add_consulted-in-Consulted-clause-preserves
returns-in_ok-add_consulted-in-Consulted-clause-preserves g c =
    let now = c.in_ok-add_consulted-in-Consulted.ensures in
    preserves_came c.args.db.now c.add_consulted.new.self now.clauses now.index way.Consulted c.args.place c.in_ok-add_consulted-in-Consulted.field-0 c.args.clause now.contents now.number (key_on (sym now.key) c.key_of_head-key.ensures)

pub returns-in-Ok-clause-preserves : goal.returns-in-Ok-clause-preserves
returns-in-Ok-clause-preserves g c =
    let now = c.in-Ok.ensures in
    preserves_came c.args.db.now c.add_first.new.self now.clauses now.index way.First c.args.place c.in-Ok.field-0 c.args.clause now.contents now.number (key_on (sym now.key) c.key_of_head-key.ensures)

pub returns-in-Err-NoMemory-clause-preserves : goal.returns-in-Err-NoMemory-clause-preserves
returns-in-Err-NoMemory-clause-preserves g c = let now = c.in-Err-NoMemory.ensures in preserves_same c.args.db.now c.add_first.new.self now.clauses now.index now.unchanged

pub returns-in-Ok-add_last-clause-preserves : goal.returns-in-Ok-add_last-clause-preserves
returns-in-Ok-add_last-clause-preserves g c =
    let now = c.in-Ok-add_last.ensures in
    preserves_came c.args.db.now c.add_last.new.self now.clauses now.index way.Last c.args.place c.in-Ok-add_last.field-0 c.args.clause now.contents now.number (key_on (sym now.key) c.key_of_head-key.ensures)

pub returns-in-Err-NoMemory-add_last-clause-preserves : goal.returns-in-Err-NoMemory-add_last-clause-preserves
returns-in-Err-NoMemory-add_last-clause-preserves g c = let now = c.in-Err-NoMemory-add_last.ensures in preserves_same c.args.db.now c.add_last.new.self now.clauses now.index now.unchanged
