use Rattle.std.proofs.Common.{◌≡◌, [], arith, rules, sym, ◌∙◌}
use Rattle.iso_model.specs.Terms.TermOf.{term_of}
use Rattle.iso_prep.specs.Readings.{read}
use Rattle.iso_prep.proofs.ReadingLemmas.{popped_works, popped_load}
use Rattle.iso_prep.proofs.PartGoals.{goals_popped, goals_read}
use Rattle.iso_prep.proofs.constructs.parts_of.Goals as goal

pub reading-smaller : goal.reading-smaller
reading-smaller c =
    let popped = popped_load c.pop.new.self.items c.reading.tasks.items c.in-Some-pop.task c.reading.next c.in-None.is c.in-Some-pop.ensures.items in
    let less = c.in_ok-next-in-Some-pop.ensures.load in
    omega arith

pub reading-preserved : goal.reading-preserved
reading-preserved c =
    let p = popped_works c.reading.parts.items c.pop.new.self.items c.reading.tasks.items c.in-Some-pop.task c.reading.next (read (term_of c.args.body.now)) c.in-None.is c.in-Some-pop.ensures.items c.reading.invariant.0 in
    let popped = goals_popped c.reading.parts.items c.pop.new.self.items c.reading.tasks.items c.in-Some-pop.task c.reading.next c.in-None.is c.in-Some-pop.ensures.items in
    (c.in_ok-next-in-Some-pop.ensures.works p.0 p.1 (read (term_of c.args.body.now)) p.2 p.3 p.4, c.in_ok-next-in-Some-pop.ensures.goals ∙ sym popped ∙ c.reading.invariant.1)

pub returns-in-None-pop-clause-goals : goal.returns-in-None-pop-clause-goals
returns-in-None-pop-clause-goals c =
    let done : c.reading.tasks.items ≡ [] = search rules in
    goals_read c.reading.parts.items c.reading.tasks.items c.reading.next (read (term_of c.args.body.now)) c.in-None.is done c.reading.invariant.1
