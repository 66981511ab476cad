use Rattle.std.proofs.Common.{rules, map, ap}
use Rattle.iso_token.specs.Shows.{shown}
use Rattle.iso_read.specs.Answers.{clause_read}
use Rattle.iso_read.proofs.Nexts.{next_read, next_error, clause_well}
use Rattle.iso_read.proofs.clause.read_clause.Goals as goal

pub returns-in_err-whole-clause-reads : goal.returns-in_err-whole-clause-reads
returns-in_err-whole-clause-reads c =
    let splits = rw c.in-Some-2.is at c.in_ok-clause.ensures.split in
    let failed = next_error c.args.ops.now c.args.flags.now c.is_table.ensures c.args.tokens.now (map shown c.in-Some-2.clause.items) c.clause_from.new.tokens (map shown c.deref.result.now) c.in_err-whole.field-0.0 (rw c.in-Some.ensures splits) (ap (map shown) c.deref.ensures.value) c.in_err-whole.ensures in
    search (rules, failed)

pub returns-clause-reads : goal.returns-clause-reads
returns-clause-reads c =
    let splits = rw c.in-Some-2.is at c.in_ok-clause.ensures.split in
    next_read c.args.ops.now c.args.flags.now c.args.tokens.now (map shown c.in-Some-2.clause.items) c.clause_from.new.tokens (clause_read c.in_ok-whole.field-0) (rw c.in-Some.ensures splits) (rw c.deref.ensures.value at c.in_ok-whole.ensures)

pub returns-clause-well_formed : goal.returns-clause-well_formed
returns-clause-well_formed c = clause_well c.args.ops.now c.args.flags.now _ (clause_read c.in_ok-whole.field-0) c.in_ok-whole.ensures
