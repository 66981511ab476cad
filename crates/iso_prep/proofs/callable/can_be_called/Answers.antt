use Rattle.std.proofs.Common.{sym, ◌∙◌, arith, rules}
use Rattle.iso_prep.proofs.ConversionLemmas.{are_callable-popped, terms_load-popped, test_false, test_true}
use Rattle.iso_prep.proofs.callable.can_be_called.Goals as goal

pub returns-then-not-branch : goal.returns-then-not-branch
returns-then-not-branch c =
    let popped = are_callable-popped c.pop.new.self.items c.loop-part.parts.items c.in-Some.part c.in-Some.ensures.items in
    test_false c.in_ok-check_next.field-0 _ _ (search rules) c.in_ok-check_next.ensures.callable ∙ sym popped ∙ c.loop-part.invariant

pub loop-part-smaller : goal.loop-part-smaller
loop-part-smaller c =
    let popped = terms_load-popped c.pop.new.self.items c.loop-part.parts.items c.in-Some.part c.in-Some.ensures.items in
    let less = c.in_ok-check_next.ensures.load in
    omega arith

pub loop-part-preserved : goal.loop-part-preserved
loop-part-preserved c =
    let popped = are_callable-popped c.pop.new.self.items c.loop-part.parts.items c.in-Some.part c.in-Some.ensures.items in
    test_true c.in_ok-check_next.field-0 _ _ (search rules) c.in_ok-check_next.ensures.callable ∙ sym popped ∙ c.loop-part.invariant
