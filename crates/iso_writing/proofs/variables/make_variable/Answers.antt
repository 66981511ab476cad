use Rattle.std.proofs.Common.{rules, ◌<◌, length}
use Rattle.iso_writing.proofs.VariableLemmas.{variable_makes, keeps_makes}
use Rattle.iso_writing.proofs.variables.make_variable.Goals as goal

pub returns-in_ok-environment-clause-makes : goal.returns-in_ok-environment-clause-makes
returns-in_ok-environment-clause-makes g c =
    let inside : c.in-New.variable < length c.args.environment.now = search rules in
    rw c.in-New.is (variable_makes (g.S.Store.present c.args.store.now) (g.S.Store.present c.variable.new.self) (g.met.S.Store.untouched c.args.store.now)
    c.args.first c.in-New.variable c.in_ok-environment.field-0 c.args.environment.now inside c.in_ok-environment.ensures.made c.in_ok-environment.ensures.numbers)

pub returns-in_default-clause-makes : goal.returns-in_default-clause-makes
returns-in_default-clause-makes g c = keeps_makes (g.S.Store.present c.args.store.now) c.args.operand.now c.args.first c.args.environment.now c.in_default.not-New
