use Rattle.iso_prep.proofs.ConversionLemmas.{are_callable-parts, terms_load-parts}
use Rattle.iso_prep.proofs.callable.check_next.Goals as goal

pub returns-in-Some-clause-callable : goal.returns-in-Some-clause-callable
returns-in-Some-clause-callable c = are_callable-parts _ c.args.term.now _ _ _ c.in-Some.first c.in-Some.second c.in-Some.ensures c.in_ok-push.ensures.items c.in_ok-push-2.ensures.items

pub returns-in-Some-clause-load : goal.returns-in-Some-clause-load
returns-in-Some-clause-load c = terms_load-parts _ c.args.term.now _ _ _ c.in-Some.first c.in-Some.second c.in-Some.ensures c.in_ok-push.ensures.items c.in_ok-push-2.ensures.items
