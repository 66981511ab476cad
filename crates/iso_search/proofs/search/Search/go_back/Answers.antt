use Rattle.std.proofs.Common.{refl}
use Rattle.iso_search_core.proofs.StandingLemmas.{newest, last_item}
use Rattle.iso_search.proofs.BackLemmas.{goes_back}
use Rattle.iso_search.proofs.WorldLemmas.{same_texts}
use Rattle.iso_search.proofs.search.Search.go_back.Goals as goal

pub undo-requires : goal.undo-requires
undo-requires g c =
    let last = last_item c.args.self.now.choices c.len.result c.index-choice.result.now c.len.ensures c.requires.some c.index-choice.ensures in
    let here = (newest g.L.Lists c.index-choice.result.now last (c.requires.failing.1).choices).here in
    (here.present, here.mark)

pub go_back-requires : goal.go_back-requires
go_back-requires g c =
    let last = last_item c.args.self.now.choices c.len.result c.index-choice.result.now c.len.ensures c.requires.some c.index-choice.ensures in
    (newest g.L.Lists c.index-choice.result.now last (c.requires.failing.1).choices).within

pub returns-clause-back : goal.returns-clause-back
returns-clause-back g c = λ s is.
    (let ch = c.index-choice.result.now in
    let last = last_item c.args.self.now.choices c.len.result c.index-choice.result.now c.len.ensures c.requires.some c.index-choice.ensures in
    let b = goes_back g.S.Store g.L.Lists c.args.self.now c.undo.new.self c.go_back.new.self ch s is last c.requires.some c.undo.ensures.back c.undo.ensures.stands
    c.undo.ensures.marks (same_texts c.undo.ensures.names) c.go_back.ensures.keeps c.go_back.ensures.whole (g.met.L.Lists.itself ch.kept) in
    (ch, b.alternative, b.below, b.is, refl, refl, b.went))

pub returns-clause-costs : goal.returns-clause-costs
returns-clause-costs g c =
    (let ch = c.index-choice.result.now in
    let last = last_item c.args.self.now.choices c.len.result c.index-choice.result.now c.len.ensures c.requires.some c.index-choice.ensures in
    (goes_back g.S.Store g.L.Lists c.args.self.now c.undo.new.self c.go_back.new.self ch c.requires.failing.0 c.requires.failing.1 last c.requires.some c.undo.ensures.back c.undo.ensures.stands
    c.undo.ensures.marks (same_texts c.undo.ensures.names) c.go_back.ensures.keeps c.go_back.ensures.whole (g.met.L.Lists.itself ch.kept)).costs)

pub returns-clause-stays : goal.returns-clause-stays
returns-clause-stays g c =
    let last = last_item c.args.self.now.choices c.len.result c.index-choice.result.now c.len.ensures c.requires.some c.index-choice.ensures in
    let here = (newest g.L.Lists c.index-choice.result.now last (c.requires.failing.1).choices).here in
    record { limit = refl; vocabulary = refl; names_kept = same_texts c.undo.ensures.names; base = λ p h. c.undo.ensures.marks c.args.self.now.base p here.newer h; within = λ h. h }
