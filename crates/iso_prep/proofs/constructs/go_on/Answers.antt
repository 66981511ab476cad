use Rattle.std.proofs.Common.{ap, arith}
use Rattle.std.proofs.Common.{sym, ◌∙◌, append-nil, refl}
use Rattle.iso_model.specs.Terms.TermOf.{term_of}
use Rattle.iso_prep.specs.declared.constructs.Task.TheVariants.{Join, Other, Choose}
use Rattle.iso_prep.specs.declared.bodies.Node.TheVariants as node
use Rattle.iso_prep.specs.Classes.{goals_of}
use Rattle.iso_prep.specs.Trees.{joint}
use Rattle.iso_prep.specs.Readings.{read, task_load, task_goals}
use Rattle.iso_prep.proofs.PartGoals.{goals_of_next, goals_of_join, joint_goals}
use Rattle.iso_prep.proofs.ReadingLemmas.{after_first, after_condition, after_next, after_second, after_other, tasks_load-more}
use Rattle.iso_prep.proofs.constructs.go_on.Goals as goal

pub returns-in_ok-push-in-Second-clause-works : goal.returns-in_ok-push-in-Second-clause-works
returns-in_ok-push-in-Second-clause-works c = λ b m whole ends does leads.
    after_first c.args.parts.now.items c.args.tasks.now.items c.push.new.self.items c.args.task b m whole ends does leads c.in-Second.connective c.in-Second.second c.saturating_sub-last.result c.in-Second.is (omega (arith, c.args.parts.now.ok.0)) c.in_ok-push-in-Second.ensures.items

pub returns-in_ok-push-in-Second-clause-load : goal.returns-in_ok-push-in-Second-clause-load
returns-in_ok-push-in-Second-clause-load c = omega (arith, tasks_load-more c.args.tasks.now.items _ _ c.in_ok-push-in-Second.ensures.items, ap task_load c.in-Second.is)

pub returns-in_ok-push-in-Next-clause-works : goal.returns-in_ok-push-in-Next-clause-works
returns-in_ok-push-in-Next-clause-works c = λ b m whole ends does leads.
    after_condition c.args.parts.now.items c.args.tasks.now.items c.push-in-Next.new.self.items c.args.task b m whole ends does leads c.in-Next.next c.in-Next.other c.saturating_sub-last.result c.in-Next.is (omega (arith, c.args.parts.now.ok.0)) c.in_ok-push-in-Next.ensures.items

pub returns-in_ok-push-in-Next-clause-load : goal.returns-in_ok-push-in-Next-clause-load
returns-in_ok-push-in-Next-clause-load c = omega (arith, tasks_load-more c.args.tasks.now.items _ _ c.in_ok-push-in-Next.ensures.items, ap task_load c.in-Next.is)

pub returns-in_ok-push-in-Other-clause-works : goal.returns-in_ok-push-in-Other-clause-works
returns-in_ok-push-in-Other-clause-works c = λ b m whole ends does leads.
    after_next c.args.parts.now.items c.args.tasks.now.items c.push-in-Other.new.self.items c.args.task b m whole ends does leads c.in-Other.other c.in-Other.condition c.saturating_sub-last.result c.in-Other.is (omega (arith, c.args.parts.now.ok.0)) c.in_ok-push-in-Other.ensures.items

pub returns-in_ok-push-in-Other-clause-load : goal.returns-in_ok-push-in-Other-clause-load
returns-in_ok-push-in-Other-clause-load c = omega (arith, tasks_load-more c.args.tasks.now.items _ _ c.in_ok-push-in-Other.ensures.items, ap task_load c.in-Other.is)

pub returns-in_ok-push-in-Join-clause-works : goal.returns-in_ok-push-in-Join-clause-works
returns-in_ok-push-in-Join-clause-works c = λ b m whole ends does leads.
    after_second c.args.parts.now.items c.args.tasks.now.items c.args.tasks.now.items c.args.task b m whole ends does leads c.in-Join.connective c.in-Join.first c.saturating_sub.result _ c.in-Join.is (omega (arith, c.args.parts.now.ok.0))
    (rw c.joined.ensures at c.in_ok-push-in-Join.ensures.items)

pub returns-in_ok-push-in-Choose-clause-works : goal.returns-in_ok-push-in-Choose-clause-works
returns-in_ok-push-in-Choose-clause-works c = λ b m whole ends does leads.
    after_other c.args.parts.now.items c.args.tasks.now.items c.args.tasks.now.items c.args.task b m whole ends does leads c.in-Choose.condition c.in-Choose.next c.saturating_sub-condition.result c.saturating_sub-next.result _ c.in-Choose.is (omega (arith, c.args.parts.now.ok.0)) (omega (arith, c.args.parts.now.ok.0)) c.in_ok-push-in-Choose.ensures.items

pub returns-in_ok-push-in-Second-clause-goals : goal.returns-in_ok-push-in-Second-clause-goals
returns-in_ok-push-in-Second-clause-goals c =
    let left = Join c.in-Second.connective c.saturating_sub-last.result in
    let goals = goals_of (read (term_of c.in-Second.second.now)) in
    goals_of_next c.args.parts.now.items c.args.parts.now.items c.args.tasks.now.items c.push.new.self.items c.args.task c.in-Second.second left (ap task_goals c.in-Second.is ∙ sym (append-nil goals)) c.in_ok-push-in-Second.ensures.items

pub returns-in_ok-push-in-Next-clause-goals : goal.returns-in_ok-push-in-Next-clause-goals
returns-in_ok-push-in-Next-clause-goals c =
    let left = Other c.saturating_sub-last.result c.in-Next.other in
    goals_of_next c.args.parts.now.items c.args.parts.now.items c.args.tasks.now.items c.push-in-Next.new.self.items c.args.task c.in-Next.next left (ap task_goals c.in-Next.is) c.in_ok-push-in-Next.ensures.items

pub returns-in_ok-push-in-Other-clause-goals : goal.returns-in_ok-push-in-Other-clause-goals
returns-in_ok-push-in-Other-clause-goals c =
    let left = Choose c.in-Other.condition c.saturating_sub-last.result in
    let goals = goals_of (read (term_of c.in-Other.other.now)) in
    goals_of_next c.args.parts.now.items c.args.parts.now.items c.args.tasks.now.items c.push-in-Other.new.self.items c.args.task c.in-Other.other left (ap task_goals c.in-Other.is ∙ sym (append-nil goals)) c.in_ok-push-in-Other.ensures.items

pub returns-in_ok-push-in-Join-clause-goals : goal.returns-in_ok-push-in-Join-clause-goals
returns-in_ok-push-in-Join-clause-goals c =
    let part = joint c.in-Join.connective c.saturating_sub.result in
    goals_of_join c.args.parts.now.items _ c.args.tasks.now.items c.args.tasks.now.items c.args.task part (ap task_goals c.in-Join.is) (joint_goals c.in-Join.connective c.saturating_sub.result) (rw c.joined.ensures at c.in_ok-push-in-Join.ensures.items)

pub returns-in_ok-push-in-Choose-clause-goals : goal.returns-in_ok-push-in-Choose-clause-goals
returns-in_ok-push-in-Choose-clause-goals c =
    let part = node.Choose c.saturating_sub-condition.result c.saturating_sub-next.result in
    goals_of_join c.args.parts.now.items _ c.args.tasks.now.items c.args.tasks.now.items c.args.task part (ap task_goals c.in-Choose.is) refl c.in_ok-push-in-Choose.ensures.items
