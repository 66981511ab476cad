use Rattle.iso_lib_core.proofs.PartLemmas.{both_answered}
use Rattle.iso_lib_core.proofs.functors.unify_both.Goals as goal

pub returns-clause-unified : goal.returns-clause-unified
returns-clause-unified g c =
    both_answered (g.S.Store.present c.args.store.now) (g.S.Store.present c.unify.new.self) (g.S.Store.present c.unify-2.new.self) c.args.first.0 c.args.first.1 c.args.second.0 c.args.second.1
    c.in_ok-unify.field-0 c.unify-2.result c.requires.second_one c.requires.second_other c.in_ok-unify.ensures.unified c.if-not-branch.false c.unify-2.ensures.unified
