use Rattle.std.proofs.Common.{rules, ◌≡◌, ◌≢◌, Ok, Err, ap, sym, ◌∙◌, refl, subst, arith}
use Rattle.std.proofs.lemmas.Bool.{false≢true}
use Rattle.iso_model.specs.declared.built_ins.BuiltIn.TheVariants as built_in
use Rattle.iso_search.specs.declared.calls.Called.TheVariants as call
use Rattle.iso_search.specs.declared.calls.Next.TheVariants as calls
use Rattle.iso_machine.specs.Came.{IsBehindCalls}
use Rattle.iso_machine.proofs.CameLemmas.{came_behind, came_same, came_word, full_behind, gone_error, shown_not}
use Rattle.iso_machine.proofs.Moves.BuiltIn.{misses_came}
use Rattle.iso_machine.proofs.goals.leave_goal.Goals as goal

-- ---- no clause is left for it

pub returns-in-Fails : goal.returns-in-Fails
returns-in-Fails g c = λ old whole s later r behind put calling other.
    (let more : c.args.search.now.steps ≢ 0 = λ none. absurd (omega (arith, c.if-search-ne0.true, none)) in
    rw c.goal_fails.ensures
    (came_behind g.S.Store g.S.Cells.atom_word c.args.went (Ok calls.Went) behind
    (misses_came g.S.Store g.S.Cells.atom_word put more (λ w is. rw c.in-Fails.is at (calling w is)) c.args.asked.now)
    (λ w. refl)))

-- ---- it is one of a built-in that runs no other goal

pub run_library-requires-clause-row : goal.run_library-requires-clause-row
run_library-requires-clause-row g c =
    let a = (c.requires.5.at c.requires.2 c.requires.3).at.ahead.world in
    let is : c.args.called ≡ call.BuiltIn (built_in.Library c.in-BuiltIn-Library.row) = search rules in
    rw is at (c.requires.6.1 _ a)

pub run_library-requires-clause-put : goal.run_library-requires-clause-put
run_library-requires-clause-put g c = (c.requires.1, _, c.requires.5, (c.requires.2, c.requires.3))

pub returns-in_err-run_library-in-BuiltIn-Library : goal.returns-in_err-run_library-in-BuiltIn-Library
returns-in_err-run_library-in-BuiltIn-Library g c = λ old whole s later r behind put calling other.
    came_behind g.S.Store g.S.Cells.atom_word c.args.went c.from_residual.result behind
    (came_same g.S.Store g.S.Cells.atom_word c.from_residual.result _ c.from_residual.ensures.0
    c.from_residual.ensures.1 (c.in_err-run_library-in-BuiltIn-Library.ensures whole _ put))
    (λ w. gone_error c.from_residual.result c.from_residual.ensures.0)

pub returns-in_ok-run_library-in-BuiltIn-Library : goal.returns-in_ok-run_library-in-BuiltIn-Library
returns-in_ok-run_library-in-BuiltIn-Library g c = λ old whole s later r behind put calling other.
    came_behind g.S.Store g.S.Cells.atom_word c.args.went (Ok calls.Went) behind
    (c.in_ok-run_library-in-BuiltIn-Library.ensures whole _ put c.args.asked.now) (λ w. refl)

-- ---- it is left

pub returns-in_err-show_goal-in_default : goal.returns-in_err-show_goal-in_default
returns-in_err-show_goal-in_default g c = λ old whole s later r behind put calling other.
    came_behind g.S.Store g.S.Cells.atom_word c.args.went c.from_residual-in_err-show_goal-in_default.result behind
    (shown_not g.S.Store g.S.Cells.atom_word c.from_residual-in_err-show_goal-in_default.result c.from_residual-in_err-show_goal-in_default.ensures.0 put
    (λ t h. c.in_err-show_goal-in_default.ensures.stopped whole t put h)
    (full_behind c.from_residual-in_err-show_goal-in_default.result _ c.from_residual-in_err-show_goal-in_default.ensures.1
    (λ is. c.in_err-show_goal-in_default.ensures.full (ap Err is)))
    c.in_err-show_goal-in_default.ensures.stays)
    (λ w. gone_error c.from_residual-in_err-show_goal-in_default.result c.from_residual-in_err-show_goal-in_default.ensures.0)

pub returns-in_ok-show_goal-in_default : goal.returns-in_ok-show_goal-in_default
returns-in_ok-show_goal-in_default g c = λ old whole s later r behind put calling other.
    came_word g.S.Store g.S.Cells.atom_word
    (subst (IsBehindCalls g.S.Store g.S.Cells.atom_word old whole) c.if-went.true behind)
    (c.in_ok-show_goal-in_default.ensures.shown whole put)

pub returns-in_default-2 : goal.returns-in_default-2
returns-in_default-2 g c = λ old whole s later r behind put calling other.
    came_behind g.S.Store g.S.Cells.atom_word c.args.went c.show_next.result behind
    (c.show_next.ensures whole later put calling other)
    (λ w. absurd (false≢true (sym c.if-went.false ∙ w)))
