use Rattle.std.proofs.Common.{◌∙◌, Option, ap, arith}
use Rattle.std.proofs.lemmas.Result.{IfOk-weaker}
use Rattle.iso_search_core.specs.Bodies.{body_cost, most}
use Rattle.iso_search_core.specs.Costs.{choices_cost}
use Rattle.iso_search.specs.Retrying.{attempt_of}
use Rattle.iso_search.proofs.BackLemmas.{newest_tries}
use Rattle.iso_search.proofs.LimitLemmas.{stays_on}
use Rattle.iso_frames.specs.declared.frames.Rest.{Rest}
use Rattle.iso_machine.specs.Engines.{Engine, framed}
use Rattle.iso_machine.specs.Lists.{cost_at}
use Rattle.iso_machine.specs.Unpushed.{IsBack}
use Rattle.iso_machine.proofs.Moves.Try.{newest_left}
use Rattle.iso_machine.proofs.Moves.Unpushed.{chosen}
use Rattle.iso_machine.proofs.retrying.try_next.Given.{Over}
use Rattle.iso_machine.proofs.retrying.try_next.Goals.{After-leave_choice-below}
use Rattle.iso_machine.proofs.retrying.try_next.Goals as goal

pub leave_choice-below-requires-clause-back : goal.leave_choice-below-requires-clause-back
leave_choice-below-requires-clause-back g c =
    let l = framed g.S.Cells.atom_word in
    let r = c.requires.stands.1 in
    let tries = c.requires.tries in
    let went = c.go_back-newest in
    let b = newest_tries g.S.Store l c.args.search.now went.new.self went.result.mark went.result.rest c.args.retry
    r.own tries went.ensures.choices (went.ensures.back r.own r.engine) in (
      attempt_of c.args.retry tries.later,
      b.choice,
      r.own,
      b.alternative,
      b.below,
      b.mark_is,
      b.left_is,
      b.back,
    )

module _ (g : Over) (c : After-leave_choice-below g) where
  -- the engine went back
  is_back : IsBack g.S.Store g.S.Cells.atom_word c.args.search.now c.leave_choice-below.new.self
      (attempt_of c.args.retry c.requires.tries.later) c.go_back-newest.result.rest c.leave_choice-below.result
  is_back =
      let l = framed g.S.Cells.atom_word in
      let tries = c.requires.tries in
      let went = c.go_back-newest in
      let leave = c.leave_choice-below in
      let mid = went.new.self in
      let rest = went.result.rest in
      record {
        failing = c.requires.failing;
        again = λ s r.
            (let b = newest_left g.S.Store l c.args.search.now went.new.self leave.new.self went.result.mark
            went.result.rest leave.result c.args.retry s r tries went.ensures.choices
            (went.ensures.back r.own r.engine) leave.ensures.calls leave.ensures.below in
            record {
              alternative = b.newest.alternative;
              below = b.newest.below;
              stack = b.newest.stack;
              retries = b.retries;
              height = b.height;
            });
        steps =
            ap (λ (x : Engine g.row.S.Denot g.row.S-Word.Denot g.row.S-Mark.Denot). x.steps) leave.ensures.same
            ∙ went.ensures.steps;
        less =
            (let r = c.requires.stands.1 in
            let b = newest_tries g.S.Store l c.args.search.now mid went.result.mark rest c.args.retry r.own tries
            went.ensures.choices (went.ensures.back r.own r.engine) in
            let fewer = leave.ensures.costs (attempt_of c.args.retry tries.later) b.choice b.back.newest b.left_is in
            let place = ap (λ (p : Option Rest). body_cost most (cost_at mid.lists p)) b.rest_is in
            let lists = ap (λ (x : Engine g.row.S.Denot g.row.S-Word.Denot g.row.S-Mark.Denot).
            body_cost most (cost_at x.lists rest)) leave.ensures.same in
            let costs = went.ensures.costs in
            let choices = ap (λ (v : _). choices_cost (cost_at mid.lists) v.items) went.ensures.choices in
            omega (arith, fewer, place, lists, costs, choices));
        stays = stays_on g.S.Store went.ensures.stays leave.ensures.stays;
      }

pub retry_above-requires : goal.retry_above-requires
retry_above-requires g c = (
  c.leave_choice-below.new.self.choices,
  c.requires.tries.later,
  c.args.search.now,
  c.requires.stands.0,
  c.requires.stands.1,
  is_back g (goal.at.retry_above-requires g c).After-leave_choice-below,
)

pub returns-clause-came : goal.returns-clause-came
returns-clause-came g c =
    let came = c.retry_above.ensures.came c.leave_choice-below.new.self.choices c.requires.tries.later c.args.search.now
    c.requires.stands.0 c.requires.stands.1 (is_back g (goal.at.returns-clause-came g c).After-leave_choice-below) in
    chosen g.S.Store g.S.Cells.atom_word c.retry_above.ensures.same came

pub returns-clause-steps : goal.returns-clause-steps
returns-clause-steps g c =
    let back = is_back g (goal.at.returns-clause-steps g c).After-leave_choice-below in
    let steps = back.steps in
    IfOk-weaker c.retry_above.result _ _ (λ done same. same ∙ steps) c.retry_above.ensures.steps
