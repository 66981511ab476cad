-- What a call can't use is passed over.
use Rattle.std.proofs.Common.{◌∙◌, sym, arith}
use Rattle.iso_db.proofs.KeyedLemmas.{offers_passed, offers_first, offers_taken, offers_ended}
use Rattle.iso_db.proofs.keyed.next_fitting.Goals as goal

pub next_from-requires : goal.next_from-requires
next_from-requires g c = (let was = c.requires in let now = c.loop-id.invariant.offers was.0 was.1 was.2 in (was.0, now.all, now.gives))

pub returns-then-may_use-clause-first : goal.returns-then-may_use-clause-first
returns-then-may_use-clause-first g c = λ r cs offers.
    offers_first c.args.slots.now.items r c.args.lists.now.items c.args.key c.loop-id.view cs c.in-Some.id (λ ds gives. sym c.in-Some.is ∙ c.next_from.ensures.first r ds gives) (sym c.may_use.ensures ∙ c.if-may_use.true) (c.loop-id.invariant.offers r cs offers)

pub returns-then-may_use-clause-rest : goal.returns-then-may_use-clause-rest
returns-then-may_use-clause-rest g c = λ r cs offers some.
    offers_taken c.args.slots.now.items r c.args.lists.now.items c.args.key c.loop-id.view c.next_from.new.view cs c.in-Some.id (λ ds gives. sym c.in-Some.is ∙ c.next_from.ensures.first r ds gives) (c.next_from.ensures.rest r) (sym c.may_use.ensures ∙ c.if-may_use.true) (c.loop-id.invariant.offers r cs offers)

pub loop-id-preserved : goal.loop-id-preserved
loop-id-preserved g c = record {
  offers = λ r cs offers. offers_passed c.args.slots.now.items r c.args.lists.now.items c.args.key c.loop-id.view c.next_from.new.view cs c.in-Some.id (λ ds gives. sym c.in-Some.is ∙ c.next_from.ensures.first r ds gives) (c.next_from.ensures.rest r) (sym c.may_use.ensures ∙ c.if-may_use.false) (c.loop-id.invariant.offers r cs offers);
  later = omega (arith, c.next_from.ensures.never_rises, c.loop-id.invariant.later);
}

pub returns-clause-first : goal.returns-clause-first
returns-clause-first g c = λ r cs offers.
    offers_ended c.args.slots.now.items r c.args.lists.now.items c.args.key c.loop-id.view cs (λ ds gives. sym c.in_default.is ∙ c.next_from.ensures.first r ds gives) (c.loop-id.invariant.offers r cs offers)
