use Rattle.std.proofs.Common.{rules, ◌≡◌, ap, ◌∙◌, Ok, Err}
use Rattle.iso_lib_core.specs.declared.outcomes.Reply.TheVariants as outcome
use Rattle.iso_machine.proofs.Moves.BuiltIn.{ball_fits, done_came, done_list, fails_came, fault_came, here, thrown_came}
use Rattle.iso_machine.proofs.Moves.Went.{went_not}
use Rattle.iso_machine.proofs.built_ins.go_on_from.Goals as goal

-- ---- it succeeded

pub go_on-requires : goal.go_on-requires
go_on-requires g c =
    let has = c.requires.4 in
    let s = c.requires.5 in
    let is : c.args.answered ≡ Ok outcome.Done = search rules in (
      g.S.Store.present c.args.search.now.store,
      (here g.S.Store g.S.Cells.atom_word has s.0 s.1).at.behind,
      done_list g.S.Store g.S.Cells.atom_word has s.0 s.1 is,
    )

pub returns-in-Ok-Done : goal.returns-in-Ok-Done
returns-in-Ok-Done g c = λ old e name room has.
    (let is : c.args.answered ≡ Ok outcome.Done = search rules in
    done_came g.S.Store g.S.Cells.atom_word has is c.go_on.new.doing
    (c.go_on.ensures.behind (g.S.Store.present c.args.search.now.store)) c.go_on.ensures.cost c.go_on.ensures.awake)

-- ---- it failed

pub returns-in-Ok-Fail : goal.returns-in-Ok-Fail
returns-in-Ok-Fail g c = λ old e name room has.
    (let is : c.args.answered ≡ Ok outcome.Fail = search rules in fails_came g.S.Store g.S.Cells.atom_word has is)

-- ---- a ball is thrown, or it was refused

pub behind_fault-requires : goal.behind_fault-requires
behind_fault-requires g c = λ ball is.
    ball_fits g.S.Store g.S.Cells.atom_word c.requires.4 ball (c.in-Err.is ∙ ap Err is)

pub returns-in_err-behind_fault-in-Err : goal.returns-in_err-behind_fault-in-Err
returns-in_err-behind_fault-in-Err g c = λ old e name room has.
    went_not g.S.Store g.S.Cells.atom_word c.from_residual.result _ c.from_residual.ensures.0 c.from_residual.ensures.1
    (fault_came g.S.Store g.S.Cells.atom_word has c.in-Err.fault c.in-Err.is _ c.behind_fault.new.self
    c.in_err-behind_fault-in-Err.ensures.throws c.in_err-behind_fault-in-Err.ensures.stays)

pub returns-in_ok-behind_fault-in-Err : goal.returns-in_ok-behind_fault-in-Err
returns-in_ok-behind_fault-in-Err g c = λ old e name room has.
    thrown_came g.S.Store g.S.Cells.atom_word has c.in-Err.fault c.in-Err.is _ c.behind_fault.new.self
    c.in_ok-behind_fault-in-Err.ensures.throws c.in_ok-behind_fault-in-Err.ensures.stays
