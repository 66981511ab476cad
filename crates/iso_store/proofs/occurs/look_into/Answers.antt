use Rattle.iso_store.proofs.SearchLemmas.{found-compound, sound-compound, load-compound}
use Rattle.iso_store.proofs.occurs.look_into.Goals as goal

pub returns-in_ok-push-in-Compound-2-clause-sound :
    goal.returns-in_ok-push-in-Compound-2-clause-sound
returns-in_ok-push-in-Compound-2-clause-sound g c =
    let here = c.in-Compound.ensures.shape in
    sound-compound (g.S.Primitives.present c.args.store.now) (g.S.Primitives.at_place c.args.store.now) c.args.number _ _ _ c.args.word _ _ _ here.1 here.2 here.3 c.in-Compound.ensures.term c.in-Some.ensures.value c.in_ok-push-in-Compound.ensures.items c.in_ok-push-in-Compound-2.ensures.items c.requires.sound

pub returns-in_ok-push-in-Compound-2-clause-found :
    goal.returns-in_ok-push-in-Compound-2-clause-found
returns-in_ok-push-in-Compound-2-clause-found g c =
    let here = c.in-Compound.ensures.shape in
    found-compound (g.S.Primitives.present c.args.store.now) (g.S.Primitives.at_place c.args.store.now) c.args.number _ _ _ c.args.word _ _ _ here.1 here.2 here.3 c.in-Compound.ensures.term c.in-Some.ensures.value c.in_ok-push-in-Compound.ensures.items c.in_ok-push-in-Compound-2.ensures.items

pub returns-in_ok-push-in-Compound-2-clause-load :
    goal.returns-in_ok-push-in-Compound-2-clause-load
returns-in_ok-push-in-Compound-2-clause-load g c =
    let here = c.in-Compound.ensures.shape in
    load-compound (g.S.Primitives.present c.args.store.now) (g.S.Primitives.at_place c.args.store.now) c.args.number _ _ _ c.args.word _ _ _ here.1 here.2 here.3 c.in-Compound.ensures.term c.in-Some.ensures.value c.in_ok-push-in-Compound.ensures.items c.in_ok-push-in-Compound-2.ensures.items
