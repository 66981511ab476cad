use Rattle.std.proofs.Common.{rules, ◌≡◌, refl, ap, sym, subst, ◌∙◌, Ok, Err}
use Rattle.iso_search.specs.declared.calls.Next.TheVariants as calls
use Rattle.iso_machine.specs.Came.{CameTo}
use Rattle.iso_machine.specs.Engines.{Engine}
use Rattle.iso_machine.specs.Unpushed.{with_choices}
use Rattle.iso_lib_core.specs.declared.outcomes.Reply.TheVariants as outcome
use Rattle.iso_machine.proofs.Moves.Arithmetic.{ball_fits, chain, done_list, done_moved, fail_moved, fault_came, fault_choices, fault_lists, fault_steps, goes_below, has_answered, raised_ahead, some_above, thrown_came}
use Rattle.iso_machine.proofs.Moves.Thrown.{throws_over}
use Rattle.iso_machine.proofs.Moves.Unpushed.{stays_over}
use Rattle.iso_machine.proofs.Moves.Went.{came_moved, went_not}
use Rattle.iso_machine.proofs.arithmetic.go_on_from.Goals as goal

pub overflow_sub-behind : goal.overflow_sub-behind
overflow_sub-behind g c =
    let has = c.requires.2 in
    let s = c.requires.3 in
    some_above c.args.rest
    (goes_below g.S.Cells.atom_word c.requires.1.lists c.args.rest has.there
    (chain g.S.Store g.S.Cells.atom_word has s.0 s.1))

-- ---- it succeeded

pub go_behind-requires : goal.go_behind-requires
go_behind-requires g c =
    let has = c.requires.2 in
    let s = c.requires.3 in
    let is : c.args.answered ≡ Ok outcome.Done = search rules in (
      (has_answered g.S.Store g.S.Cells.atom_word has s.0 s.1).behind,
      done_list g.S.Store g.S.Cells.atom_word has s.0 s.1 is,
    )

pub returns-in-Ok-Done-clause-came : goal.returns-in-Ok-Done-clause-came
returns-in-Ok-Done-clause-came g c = λ e s has stands.
    (let is : c.args.answered ≡ Ok outcome.Done = search rules in
    let gone = c.go_behind.ensures in
    subst (λ (x : Engine _ _ _). CameTo g.S.Store g.S.Cells.atom_word e (Ok calls.Went) x) (sym gone.same)
    (came_moved g.S.Store g.S.Cells.atom_word (done_moved g.S.Store g.S.Cells.atom_word has s stands is
    c.go_behind.new.search.now gone.behind gone.cost gone.awake (search rules))))

-- ---- it failed

pub returns-in-Ok-Fail-clause-came : goal.returns-in-Ok-Fail-clause-came
returns-in-Ok-Fail-clause-came g c = λ e s has stands.
    (let is : c.args.answered ≡ Ok outcome.Fail = search rules in
    came_moved g.S.Store g.S.Cells.atom_word
    (fail_moved g.S.Store g.S.Cells.atom_word has s stands is (search rules)))

-- ---- a ball is thrown, or it was refused

pub behind_fault-requires : goal.behind_fault-requires
behind_fault-requires g c = λ ball is.
    ball_fits g.S.Store g.S.Cells.atom_word c.requires.2 c.requires.3.0 c.requires.3.1 ball (c.in-Err.is ∙ ap Err is)

pub returns-in_err-behind_fault-in-Err-clause-came : goal.returns-in_err-behind_fault-in-Err-clause-came
returns-in_err-behind_fault-in-Err-clause-came g c = λ e s has stands.
    went_not g.S.Store g.S.Cells.atom_word c.from_residual.result _ c.from_residual.ensures.0 c.from_residual.ensures.1
    (fault_came g.S.Store g.S.Cells.atom_word has s stands c.in-Err.fault c.in-Err.is _ c.behind_fault.new.self
    c.in_err-behind_fault-in-Err.ensures.throws c.in_err-behind_fault-in-Err.ensures.stays)

pub returns-in_ok-behind_fault-in-Err-clause-came : goal.returns-in_ok-behind_fault-in-Err-clause-came
returns-in_ok-behind_fault-in-Err-clause-came g c = λ e s has stands.
    thrown_came g.S.Store g.S.Cells.atom_word has s stands c.in-Err.fault c.in-Err.is _ c.behind_fault.new.self
    c.in_ok-behind_fault-in-Err.ensures.throws c.in_ok-behind_fault-in-Err.ensures.stays

pub returns-in_ok-behind_fault-in-Err-clause-steps : goal.returns-in_ok-behind_fault-in-Err-clause-steps
returns-in_ok-behind_fault-in-Err-clause-steps g c =
    fault_steps g.S.Store g.S.Cells.atom_word _ c.behind_fault.new.self c.in-Err.fault _ _
    c.in_ok-behind_fault-in-Err.ensures.throws

-- ---- one choice more may stand

pub returns-in-Ok-Done-clause-over : goal.returns-in-Ok-Done-clause-over
returns-in-Ok-Done-clause-over g c = λ choices e s more has stands.
    (let is : c.args.answered ≡ Ok outcome.Done = search rules in
    let gone = c.go_behind.ensures in
    subst (λ (x : Engine g.row.S.Denot g.row.S-Word.Denot g.row.S-Mark.Denot).
    CameTo g.S.Store g.S.Cells.atom_word e (Ok calls.Went) (with_choices x choices)) (sym gone.same)
    (came_moved g.S.Store g.S.Cells.atom_word (done_moved g.S.Store g.S.Cells.atom_word has s stands is
    c.go_behind.new.search.now gone.behind gone.cost gone.awake
    (record {
      limit = refl;
      vocabulary = refl;
      names_kept = λ place text there. there;
      base = λ p stood. stood;
      within = λ within. within;
    }))))

pub returns-in-Ok-Fail-clause-over : goal.returns-in-Ok-Fail-clause-over
returns-in-Ok-Fail-clause-over g c = λ choices e s more has stands.
    (let is : c.args.answered ≡ Ok outcome.Fail = search rules in
    came_moved g.S.Store g.S.Cells.atom_word
    (fail_moved g.S.Store g.S.Cells.atom_word has s stands is
    (record {
      limit = refl;
      vocabulary = refl;
      names_kept = λ place text there. there;
      base = λ p stood. stood;
      within = λ within. within;
    })))

pub returns-in_err-behind_fault-in-Err-clause-over : goal.returns-in_err-behind_fault-in-Err-clause-over
returns-in_err-behind_fault-in-Err-clause-over g c = λ choices e s more has stands.
    (let throws = throws_over g.S.Store g.S.Cells.atom_word c.args.search.now c.behind_fault.new.self choices more _ _
    c.in-Err.fault
    (λ ball is. raised_ahead g.S.Store g.S.Cells.atom_word has s stands ball (c.in-Err.is ∙ ap Err is) s stands)
    c.in_err-behind_fault-in-Err.ensures.throws in
    went_not g.S.Store g.S.Cells.atom_word c.from_residual.result _ c.from_residual.ensures.0 c.from_residual.ensures.1
    (fault_came g.S.Store g.S.Cells.atom_word has s stands c.in-Err.fault c.in-Err.is _
    (with_choices c.behind_fault.new.self choices) throws
    (stays_over g.S.Store choices c.in_err-behind_fault-in-Err.ensures.stays)))

pub returns-in_ok-behind_fault-in-Err-clause-over : goal.returns-in_ok-behind_fault-in-Err-clause-over
returns-in_ok-behind_fault-in-Err-clause-over g c = λ choices e s more has stands.
    (let throws = throws_over g.S.Store g.S.Cells.atom_word c.args.search.now c.behind_fault.new.self choices more _ _
    c.in-Err.fault
    (λ ball is. raised_ahead g.S.Store g.S.Cells.atom_word has s stands ball (c.in-Err.is ∙ ap Err is) s stands)
    c.in_ok-behind_fault-in-Err.ensures.throws in
    thrown_came g.S.Store g.S.Cells.atom_word has s stands c.in-Err.fault c.in-Err.is _
    (with_choices c.behind_fault.new.self choices) throws
    (stays_over g.S.Store choices c.in_ok-behind_fault-in-Err.ensures.stays))

pub returns-in-Ok-Done-clause-same : goal.returns-in-Ok-Done-clause-same
returns-in-Ok-Done-clause-same g c =
    ap (λ (x : Engine g.row.S.Denot g.row.S-Word.Denot g.row.S-Mark.Denot). x.choices) c.go_behind.ensures.same

pub returns-in_err-behind_fault-in-Err-clause-same : goal.returns-in_err-behind_fault-in-Err-clause-same
returns-in_err-behind_fault-in-Err-clause-same g c =
    fault_choices g.S.Store g.S.Cells.atom_word _ c.behind_fault.new.self c.in-Err.fault _ _
    c.in_err-behind_fault-in-Err.ensures.throws

pub returns-in_ok-behind_fault-in-Err-clause-same : goal.returns-in_ok-behind_fault-in-Err-clause-same
returns-in_ok-behind_fault-in-Err-clause-same g c =
    fault_choices g.S.Store g.S.Cells.atom_word _ c.behind_fault.new.self c.in-Err.fault _ _
    c.in_ok-behind_fault-in-Err.ensures.throws

pub returns-in-Ok-Done-clause-lists : goal.returns-in-Ok-Done-clause-lists
returns-in-Ok-Done-clause-lists g c =
    ap (λ (x : Engine g.row.S.Denot g.row.S-Word.Denot g.row.S-Mark.Denot). x.lists) c.go_behind.ensures.same

pub returns-in_err-behind_fault-in-Err-clause-lists : goal.returns-in_err-behind_fault-in-Err-clause-lists
returns-in_err-behind_fault-in-Err-clause-lists g c =
    fault_lists g.S.Store g.S.Cells.atom_word _ c.behind_fault.new.self c.in-Err.fault _ _
    c.in_err-behind_fault-in-Err.ensures.throws

pub returns-in_ok-behind_fault-in-Err-clause-lists : goal.returns-in_ok-behind_fault-in-Err-clause-lists
returns-in_ok-behind_fault-in-Err-clause-lists g c =
    fault_lists g.S.Store g.S.Cells.atom_word _ c.behind_fault.new.self c.in-Err.fault _ _
    c.in_ok-behind_fault-in-Err.ensures.throws
