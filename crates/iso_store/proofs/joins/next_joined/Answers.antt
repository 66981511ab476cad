use Rattle.std.proofs.Common.{sym, ◌∙◌}
use Rattle.iso_store.proofs.JoinLemmas.{joined-more}
use Rattle.iso_store.proofs.joins.next_joined.Goals as goal
use Rattle.iso_store.proofs.joins.next_joined.Goals.{in-Some, in_default}

pub place-requires : goal.place-requires
place-requires g c = (c.requires c.args.place c.in_ok-next.next (sym c.at.ensures ∙ c.in_ok-next.was)).0

pub returns-clause-joined : goal.returns-clause-joined
returns-clause-joined g c =
    let p = g.S.Primitives.present c.args.store.now in
    let at = g.S.Primitives.at_place c.args.store.now in
    let next = c.requires c.args.place c.in_ok-next.next (sym c.at.ensures ∙ c.in_ok-next.was) in
    elim c.match-at.branch [
      | in-Some w ↦
          let behind = c.requires c.in_ok-next_place.next_place w.in-Some.behind (sym c.at-2.ensures ∙ w.in-Some.is) in
          rw w.joined-is
          (joined-more p at c.args.joined.now w.change.new.self c.args.place w.in-Some.behind c.requires behind.0 (behind.1 ∙ c.in_ok-next_place.ensures.value ∙ next.1) w.change.ensures)
      | in_default w ↦ rw w.joined-is c.requires
    ]

pub returns-clause-holds : goal.returns-clause-holds
returns-clause-holds g c = (c.requires c.args.place c.in_ok-next.next (sym c.at.ensures ∙ c.in_ok-next.was)).0

pub returns-clause-value : goal.returns-clause-value
returns-clause-value g c = (c.requires c.args.place c.in_ok-next.next (sym c.at.ensures ∙ c.in_ok-next.was)).1

pub returns-clause-place : goal.returns-clause-place
returns-clause-place g c = c.in_ok-next_place.ensures.value ∙ (c.requires c.args.place c.in_ok-next.next (sym c.at.ensures ∙ c.in_ok-next.was)).1
