use Rattle.iso_prep.proofs.ReadingLemmas.{leaf_works, second_left, second_load, next_left, next_load_left}
use Rattle.iso_prep.proofs.PartGoals.{goals_of_leaf, goals_of_two, goals_of_choice}
use Rattle.iso_prep.proofs.constructs.read_part.Goals as goal

pub returns-in_default-clause-works : goal.returns-in_default-clause-works
returns-in_default-clause-works c = λ whole leads.
    leaf_works c.args.parts.now.items c.push.new.self.items c.args.tasks.now.items c.leaf.result _ whole (c.leaf.ensures c.in_default.ensures) c.in_ok-push.ensures.items leads

pub returns-in-Some-choice-clause-works : goal.returns-in-Some-choice-clause-works
returns-in-Some-choice-clause-works c = λ whole leads.
    next_left c.args.parts.now.items c.args.tasks.now.items c.push-in-Some-choice.new.self.items c.args.term.now c.in-Some.connective c.in-Some.first c.in-Some.second c.in-Some.ensures
    c.in-Some-choice.condition c.in-Some-choice.next c.in-Some-choice.ensures.0 c.in-Some-choice.ensures.1 c.in_ok-push-2.ensures.items whole leads

pub returns-in-Some-choice-clause-load : goal.returns-in-Some-choice-clause-load
returns-in-Some-choice-clause-load c =
    next_load_left c.args.parts.now.items c.args.tasks.now.items c.push-in-Some-choice.new.self.items c.args.term.now c.in-Some.connective c.in-Some.first c.in-Some.second c.in-Some.ensures
    c.in-Some-choice.condition c.in-Some-choice.next c.in-Some-choice.ensures.0 c.in-Some-choice.ensures.1 c.in_ok-push-2.ensures.items

pub returns-clause-works : goal.returns-clause-works
returns-clause-works c = λ whole leads.
    second_left c.args.parts.now.items c.args.tasks.now.items c.push-2.new.self.items c.args.term.now c.in-Some.connective c.in-Some.first c.in-Some.second c.in-Some.ensures c.in_default-choice.ensures
    c.in_ok-push-3.ensures.items whole leads

pub returns-clause-load : goal.returns-clause-load
returns-clause-load c =
    second_load c.args.parts.now.items c.args.tasks.now.items c.push-2.new.self.items c.args.term.now c.in-Some.connective c.in-Some.first c.in-Some.second c.in-Some.ensures c.in_ok-push-3.ensures.items

pub returns-in_default-clause-goals : goal.returns-in_default-clause-goals
returns-in_default-clause-goals c = goals_of_leaf c.args.parts.now.items c.push.new.self.items c.args.tasks.now.items c.leaf.result _ (c.leaf.ensures c.in_default.ensures) c.in_ok-push.ensures.items

pub returns-in-Some-choice-clause-goals : goal.returns-in-Some-choice-clause-goals
returns-in-Some-choice-clause-goals c =
    goals_of_choice c.args.parts.now.items c.args.tasks.now.items c.push-in-Some-choice.new.self.items c.args.term.now c.in-Some.connective c.in-Some.first c.in-Some.second c.in-Some.ensures
    c.in-Some-choice.condition c.in-Some-choice.next c.in-Some-choice.ensures.1 c.in_ok-push-2.ensures.items

pub returns-clause-goals : goal.returns-clause-goals
returns-clause-goals c =
    goals_of_two c.args.parts.now.items c.args.tasks.now.items c.push-2.new.self.items c.args.term.now c.in-Some.connective c.in-Some.first c.in-Some.second c.in-Some.ensures c.in_ok-push-3.ensures.items
