use Rattle.iso_store.proofs.JoinLemmas.{joined-bound}
use Rattle.iso_store.proofs.PairLemmas.{bound-met, swapped-met}
use Rattle.iso_store.proofs.unify.meet_ends.Goals as goal

pub returns-in-Same-clause-joined : goal.returns-in-Same-clause-joined
returns-in-Same-clause-joined g c =
    let places = c.in_ok-meet_ends.ensures.places in
    λ joined some. joined-bound _ _ c.args.notes.now.joined places.1 places.2 joined

pub returns-in-Arguments-clause-joined : goal.returns-in-Arguments-clause-joined
returns-in-Arguments-clause-joined g c =
    let places = c.in_ok-meet_ends.ensures.places in
    λ joined some. joined-bound _ _ c.args.notes.now.joined places.1 places.2 joined

pub returns-in_ok-bind_checked-in-FirstVariable-clause-joined :
    goal.returns-in_ok-bind_checked-in-FirstVariable-clause-joined
returns-in_ok-bind_checked-in-FirstVariable-clause-joined g c =
    let places = c.in_ok-meet_ends.ensures.places in
    λ joined some. c.in_ok-bind_checked-in-FirstVariable.ensures.joined (joined-bound _ _ c.args.notes.now.joined places.1 places.2 joined) (bound-met _ c.met_by.result c.met_by.ensures some)

pub returns-in_ok-bind_checked-in-SecondVariable-clause-joined :
    goal.returns-in_ok-bind_checked-in-SecondVariable-clause-joined
returns-in_ok-bind_checked-in-SecondVariable-clause-joined g c =
    let places = c.in_ok-meet_ends.ensures.places in
    λ joined some. c.in_ok-bind_checked-in-SecondVariable.ensures.joined (joined-bound _ _ c.args.notes.now.joined places.1 places.2 joined) (bound-met _ c.met_by-in-SecondVariable.result c.met_by-in-SecondVariable.ensures some)

pub returns-in_ok-bind_checked-in-SecondVariable-clause-met : goal.returns-in_ok-bind_checked-in-SecondVariable-clause-met
returns-in_ok-bind_checked-in-SecondVariable-clause-met g c =
    let met = rw c.in-SecondVariable.is at c.in_ok-meet_ends.ensures.met in
    let unified = rw met.0 at c.in_ok-bind_checked-in-SecondVariable.ensures.unified in
    swapped-met _ _ _ _ _ c.met_by-in-SecondVariable.result c.met_by-in-SecondVariable.ensures unified
