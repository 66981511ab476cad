use Rattle.std.proofs.Common.{rules, ap, arith}
use Rattle.iso_compile.specs.BodyTasks.{task_load}
use Rattle.iso_compile.proofs.BodyLemmas.{after_and, after_or, after_try, after_condition, after_commit, after_then, after_choose, tasks_load-more, right_more}
use Rattle.iso_compile.proofs.bodies.go_on.Goals as goal

pub returns-in-And-clause-works : goal.returns-in-And-clause-works
returns-in-And-clause-works c = λ plan parts ms ns whole does turns leads.
    rw c.top-behind.ensures (after_and plan parts c.args.code.now.items c.args.code.now.items c.args.tasks.now.items c.args.tasks.now.items ms ns whole does c.in-And.part c.in-And.mark c.in-And.level (rw c.in-And.is at turns) leads)

pub returns-in_ok-push-in-Or-clause-works : goal.returns-in_ok-push-in-Or-clause-works
returns-in_ok-push-in-Or-clause-works c = λ plan parts ms ns whole does turns leads.
    after_or plan parts c.args.code.now.items c.args.code.now.items c.args.tasks.now.items c.push.new.self.items ms ns whole does c.in-Or.next (rw c.in-Or.is at turns) (rw c.top-behind.ensures at c.in_ok-push-in-Or.ensures.items) leads

pub returns-in_ok-push-in-Or-clause-load : goal.returns-in_ok-push-in-Or-clause-load
returns-in_ok-push-in-Or-clause-load c = omega (arith, tasks_load-more c.args.tasks.now.items _ _ c.in_ok-push-in-Or.ensures.items, ap task_load c.in-Or.is)

pub returns-in_ok-push-in-Try-clause-works : goal.returns-in_ok-push-in-Try-clause-works
returns-in_ok-push-in-Try-clause-works c = λ plan parts ms ns whole does turns leads.
    after_try plan parts c.args.code.now.items c.push-in-Try.new.self.items c.args.tasks.now.items c.args.tasks.now.items ms ns whole does c.in-Try.other (rw c.in-Try.is at turns) c.in_ok-push-in-Try.ensures.items leads

pub returns-in_ok-ok_or-in-Condition-clause-works : goal.returns-in_ok-ok_or-in-Condition-clause-works
returns-in_ok-ok_or-in-Condition-clause-works c = λ plan parts ms ns whole does turns leads.
    rw c.top.ensures (after_condition plan parts c.args.code.now.items c.push-in-Condition.new.self.items c.args.tasks.now.items c.args.tasks.now.items ms ns whole does c.in-Condition.part c.in-Condition.mark c.in-Condition.slot c.in_ok-ok_or-in-Condition.field-0
    (search rules) (rw c.in-Condition.is at turns) c.in_ok-push-in-Condition.ensures.items leads)

pub returns-in_ok-push-in-Commit-clause-works : goal.returns-in_ok-push-in-Commit-clause-works
returns-in_ok-push-in-Commit-clause-works c = λ plan parts ms ns whole does turns leads.
    after_commit plan parts c.args.code.now.items c.push-in-Commit.new.self.items c.args.tasks.now.items c.args.tasks.now.items ms ns whole does c.in-Commit.slot (rw c.in-Commit.is at turns) c.in_ok-push-in-Commit.ensures.items leads

pub returns-in_ok-push-in-Then-2-clause-works : goal.returns-in_ok-push-in-Then-2-clause-works
returns-in_ok-push-in-Then-2-clause-works c = λ plan parts ms ns whole does turns leads.
    after_then plan parts c.args.code.now.items c.args.code.now.items c.args.tasks.now.items c.push-in-Then-2.new.self.items ms ns whole does c.in-Then.condition c.in-Then.next c.push-in-Then.new.self.items (rw c.in-Then.is at turns)
    (rw c.top-behind.ensures at c.in_ok-push-in-Then.ensures.items) c.in_ok-push-in-Then-2.ensures.items leads

pub returns-in_ok-push-in-Then-2-clause-load : goal.returns-in_ok-push-in-Then-2-clause-load
returns-in_ok-push-in-Then-2-clause-load c =
    omega (arith, tasks_load-more c.args.tasks.now.items _ _ c.in_ok-push-in-Then.ensures.items, tasks_load-more c.push-in-Then.new.self.items _ _ c.in_ok-push-in-Then-2.ensures.items, ap task_load c.in-Then.is)

pub returns-in_ok-push-in-Choose-2-clause-works : goal.returns-in_ok-push-in-Choose-2-clause-works
returns-in_ok-push-in-Choose-2-clause-works c = λ plan parts ms ns whole does turns leads.
    after_choose plan parts c.args.code.now.items c.push-in-Choose-2.new.self.items c.args.tasks.now.items c.args.tasks.now.items ms ns whole does c.in-Choose.other c.in-Choose.slot c.push-in-Choose.new.self.items (rw c.in-Choose.is at turns)
    c.in_ok-push-in-Choose.ensures.items c.in_ok-push-in-Choose-2.ensures.items leads

pub returns-in_ok-push-in-Try-clause-right : goal.returns-in_ok-push-in-Try-clause-right
returns-in_ok-push-in-Try-clause-right c plan before = right_more plan _ _ c.in_ok-push-in-Try.ensures.items before (record { marked = tt; behind = tt })

pub returns-in_ok-ok_or-in-Condition-clause-right : goal.returns-in_ok-ok_or-in-Condition-clause-right
returns-in_ok-ok_or-in-Condition-clause-right c plan before = right_more plan _ _ c.in_ok-push-in-Condition.ensures.items before (record { marked = tt; behind = tt })

pub returns-in_ok-push-in-Commit-clause-right : goal.returns-in_ok-push-in-Commit-clause-right
returns-in_ok-push-in-Commit-clause-right c plan before = right_more plan _ _ c.in_ok-push-in-Commit.ensures.items before (record { marked = tt; behind = tt })

pub returns-in_ok-push-in-Choose-2-clause-right : goal.returns-in_ok-push-in-Choose-2-clause-right
returns-in_ok-push-in-Choose-2-clause-right c plan before = right_more plan _ _ c.in_ok-push-in-Choose-2.ensures.items (right_more plan _ _ c.in_ok-push-in-Choose.ensures.items before (record { marked = tt; behind = tt })) (record { marked = tt; behind = tt })
