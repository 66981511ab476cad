use Rattle.std.proofs.Common.{◌≡◌, ◌∙◌, ◌≤◌, ap, subst, refl, sym}
use Rattle.iso_store_core.specs.Presents.{meaning}
use Rattle.iso_search_core.specs.declared.choices.Choice as kept
use Rattle.iso_search_core.proofs.StandingLemmas.{some_same}
use Rattle.iso_search.proofs.BackLemmas.{marks_of}
use Rattle.iso_search.proofs.Moves.Offer.{offered_there, taken, there_is, taken_gone, taken_many, next_some, next_last, some_cost, last_cost}
use Rattle.iso_search.proofs.WorldLemmas.{same_texts}
use Rattle.iso_search.proofs.search.Search.next_offer.Goals as goal

pub take_offer-requires-clause-each : goal.take_offer-requires-clause-each
take_offer-requires-clause-each g c = λ ch word offers there tries.
    (let b = c.requires.back in
    let e = c.args.self.now in
    let same : b.0 ≡ ch = some_same (sym (there_is g.S.Store g.L.Lists e b.0 b.3 b.4 b.5 b.8 b.1 b.2 b.7 c.len-newest.result c.len-newest.ensures) ∙ there) in
    (meaning (g.S.Store.present e.store) word, (offered_there g.S.Store g.L.Lists e b.0 b.3 b.4 b.5 b.8 word offers (ap (λ (x : kept.Choice _ _ _ _ _). x.left) same ∙ tries)).each))

pub unreachable-requires : goal.unreachable-requires
unreachable-requires g c =
    let b = c.requires.back in
    let e = c.args.self.now in
    let has = offered_there g.S.Store g.L.Lists e b.0 b.3 b.4 b.5 b.8 b.1 b.2 b.7 in
    let there = there_is g.S.Store g.L.Lists e b.0 b.3 b.4 b.5 b.8 b.1 b.2 b.7 c.len-newest.result c.len-newest.ensures in
    let t = c.take_offer.ensures b.0 b.1 b.2 there b.7 has.some in
    c.in_default.not-Some _ t.is

pub returns-then-is_last-clause-meets : goal.returns-then-is_last-clause-meets
returns-then-is_last-clause-meets g c = λ ch word offers s a below mark tries w.
    (let e = c.args.self.now in
    let t = taken g.S.Store g.L.Lists e ch s a below w word offers tries c.len-newest.result c.take_offer.new.choices.items c.take_offer.result c.in-Some.row c.in-Some.is_last c.len-newest.ensures c.requires.some (c.take_offer.ensures ch word offers) c.in-Some.is in
    let gone = taken_gone g.S.Store g.L.Lists e ch s a below w word offers tries c.in-Some.row c.in-Some.is_last c.take_offer.new.choices.items t c.requires.some c.len-newest.result c.truncate.new.self.items c.len-newest.ensures c.truncate.ensures.items in
    next_last g.S.Store g.L.Lists e ch s a below w word offers tries c.in-Some.row c.in-Some.is_last c.take_offer.new.choices.items t c.requires.some c.forget.new.self c.truncate.new.self c.if-is_last.true c.forget.ensures.present
    (marks_of g.S.Store.older c.args.mark ch.mark mark c.forget.ensures.marks) (same_texts c.forget.ensures.names) gone)

pub returns-then-is_last-clause-costs : goal.returns-then-is_last-clause-costs
returns-then-is_last-clause-costs g c = λ ch word offers s a below mark tries w.
    (let e = c.args.self.now in
    let t = taken g.S.Store g.L.Lists e ch s a below w word offers tries c.len-newest.result c.take_offer.new.choices.items c.take_offer.result c.in-Some.row c.in-Some.is_last c.len-newest.ensures c.requires.some (c.take_offer.ensures ch word offers) c.in-Some.is in
    let gone = taken_gone g.S.Store g.L.Lists e ch s a below w word offers tries c.in-Some.row c.in-Some.is_last c.take_offer.new.choices.items t c.requires.some c.len-newest.result c.truncate.new.self.items c.len-newest.ensures c.truncate.ensures.items in
    last_cost g.S.Store g.L.Lists e ch s a below w word offers tries c.in-Some.row c.in-Some.is_last c.take_offer.new.choices.items t c.requires.some c.truncate.new.self.items gone)

pub returns-else-is_last-clause-meets : goal.returns-else-is_last-clause-meets
returns-else-is_last-clause-meets g c = λ ch word offers s a below mark tries w.
    (let e = c.args.self.now in
    let t = taken g.S.Store g.L.Lists e ch s a below w word offers tries c.len-newest.result c.take_offer.new.choices.items c.take_offer.result c.in-Some.row c.in-Some.is_last c.len-newest.ensures c.requires.some (c.take_offer.ensures ch word offers) c.in-Some.is in
    next_some g.S.Store g.L.Lists e ch s a below w word offers tries c.in-Some.row c.in-Some.is_last c.take_offer.new.choices.items t c.requires.some c.take_offer.new.choices (g.met.L.Lists.top e.lists) c.if-is_last.false refl)

pub returns-else-is_last-clause-costs : goal.returns-else-is_last-clause-costs
returns-else-is_last-clause-costs g c = λ ch word offers s a below mark tries w.
    (let e = c.args.self.now in
    let t = taken g.S.Store g.L.Lists e ch s a below w word offers tries c.len-newest.result c.take_offer.new.choices.items c.take_offer.result c.in-Some.row c.in-Some.is_last c.len-newest.ensures c.requires.some (c.take_offer.ensures ch word offers) c.in-Some.is in
    some_cost g.S.Store g.L.Lists e ch s a below w word offers tries c.in-Some.row c.in-Some.is_last c.take_offer.new.choices.items t c.requires.some c.take_offer.new.choices.items refl)

pub returns-else-is_last-clause-stays : goal.returns-else-is_last-clause-stays
returns-else-is_last-clause-stays g c =
    let b = c.requires.back in
    let e = c.args.self.now in
    let t = taken g.S.Store g.L.Lists e b.0 b.3 b.4 b.5 b.8 b.1 b.2 b.7 c.len-newest.result c.take_offer.new.choices.items c.take_offer.result c.in-Some.row c.in-Some.is_last c.len-newest.ensures c.requires.some (c.take_offer.ensures b.0 b.1 b.2) c.in-Some.is in
    let same = taken_many g.S.Store g.L.Lists e b.0 b.3 b.4 b.5 b.8 b.1 b.2 b.7 c.in-Some.row c.in-Some.is_last c.take_offer.new.choices.items t c.requires.some in
    record { limit = refl; vocabulary = refl; names_kept = λ place text k. k; base = λ p k. k; within = λ few. subst (λ n. n ≤ e.limit) (sym same) few }
