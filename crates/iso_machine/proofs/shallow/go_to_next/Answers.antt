use Rattle.std.proofs.Common.{ap, ◌≡◌, ◌∙◌, ◌<◌, ℕ, Option, Some, subst}
use Rattle.std.specs.Option.{IfSome}
use Rattle.iso_db.specs.Keyed.{remaining_keyed}
use Rattle.iso_program.specs.Leaving.{AreLeft, NextLeft}
use Rattle.iso_search_core.specs.Own.{own_of}
use Rattle.iso_search.proofs.WorldLemmas.{same_texts}
use Rattle.iso_machine.specs.Engines.{framed}
use Rattle.iso_machine.specs.declared.framed.Framed.{Framed}
use Rattle.iso_machine.proofs.FrameLemmas.{taken_keeps}
use Rattle.iso_machine.proofs.Moves.Held.{held_back}
use Rattle.iso_machine.proofs.Moves.Shallow.{back_last, back_next, extent_within, gives_left, mark_stands}
use Rattle.iso_machine.proofs.shallow.go_to_next.Goals as goal

pub undo-requires : goal.undo-requires
undo-requires g c =
    let r = c.requires.stands in
    mark_stands g.S.Store g.S.Cells.atom_word c.args.search.now c.args.kept c.args.later.now c.args.put.now.behind
    r.0 r.1 r.2.0 r.2.1

pub cut_down-requires : goal.cut_down-requires
cut_down-requires g c =
    let r = c.requires.stands in
    extent_within g.S.Store g.S.Cells.atom_word c.args.search.now c.args.kept c.args.later.now c.args.put.now.behind
    r.0 r.1 r.2.0 r.2.1

pub next_left-requires : goal.next_left-requires
next_left-requires g c =
    let r = c.requires.stands in
    gives_left g.S.Store g.S.Cells.atom_word c.args.search.now c.args.kept c.args.later.now c.args.put.now.behind
    r.0 r.1 r.2.0 r.2.1

pub returns-in-Some-clause-next : goal.returns-in-Some-clause-next
returns-in-Some-clause-next g c = λ choices others s clause pushed r is again.
    let l = framed {S = g.row.S.Denot} {M = g.row.S-Mark.Denot} g.S.Cells.atom_word in
    let found : c.next_left.result ≡ Some clause = c.in-Some.is ∙ is in
    back_next g.S.Store g.S.Cells.atom_word c.args.search.now c.args.kept c.args.later.now c.args.put.now.behind choices
    pushed c.requires.failing c.undo.new.self c.cut_down.new.self c.undo.ensures.back c.undo.ensures.stands
    c.undo.ensures.marks (same_texts c.undo.ensures.names) (taken_keeps g.S.Cells.atom_word c.args.search.now.lists c.cut_down.new.self c.args.kept.kept
    (extent_within g.S.Store g.S.Cells.atom_word c.args.search.now c.args.kept c.args.later.now c.args.put.now.behind
    choices pushed s r) c.cut_down.ensures.nodes c.cut_down.ensures.frames c.cut_down.ensures.words)
    c.cut_down.ensures.extent clause
    c.next_left.new.later
    (λ names ks cs gives are few. subst (λ (o : Option ℕ).
    NextLeft (AreLeft (own_of l) names c.args.search.now.db) o c.next_left.new.later cs) found
    (c.next_left.ensures.left names ks cs gives are few))
    (subst (λ (o : Option ℕ). IfSome o
    (λ n. remaining_keyed c.next_left.new.later < remaining_keyed c.args.later.now)) found c.next_left.ensures.falls)
    others again s r

pub forget-requires : goal.forget-requires
forget-requires g c =
    let r = c.requires.stands in
    let stood = mark_stands g.S.Store g.S.Cells.atom_word c.args.search.now c.args.kept c.args.later.now
    c.args.put.now.behind r.0 r.1 r.2.0 r.2.1 in
    (stood.0, c.undo.ensures.stands stood.0 stood.1)

pub returns-in-None-clause-last : goal.returns-in-None-clause-last
returns-in-None-clause-last g c = λ choices s pushed r is.
    let l = framed {S = g.row.S.Denot} {M = g.row.S-Mark.Denot} g.S.Cells.atom_word in
    back_last g.S.Store g.S.Cells.atom_word c.args.search.now c.args.kept c.args.later.now c.args.put.now.behind choices
    pushed c.requires.failing c.undo.new.self c.cut_down.new.self c.undo.ensures.back c.undo.ensures.stands
    c.undo.ensures.marks (same_texts c.undo.ensures.names) (taken_keeps g.S.Cells.atom_word c.args.search.now.lists c.cut_down.new.self c.args.kept.kept
    (extent_within g.S.Store g.S.Cells.atom_word c.args.search.now c.args.kept c.args.later.now c.args.put.now.behind
    choices pushed s r) c.cut_down.ensures.nodes c.cut_down.ensures.frames c.cut_down.ensures.words)
    c.cut_down.ensures.extent
    c.next_left.new.later
    (λ names ks cs gives are few. subst (λ (o : Option ℕ).
    NextLeft (AreLeft (own_of l) names c.args.search.now.db) o c.next_left.new.later cs) c.in-None.is
    (c.next_left.ensures.left names ks cs gives are few))
    c.forget.new.self c.forget.ensures.present c.forget.ensures.marks (same_texts c.forget.ensures.names) s r

pub returns-in-Some-clause-holds : goal.returns-in-Some-clause-holds
returns-in-Some-clause-holds g c = λ h.
    held_back c.args.search.now.lists c.cut_down.new.self c.args.kept
    (ap (λ (l : Framed _ _ _). l.arguments) c.cut_down.ensures.same) h c.cut_down.ensures.words

pub returns-in-None-clause-holds : goal.returns-in-None-clause-holds
returns-in-None-clause-holds g c = λ h.
    held_back c.args.search.now.lists c.cut_down.new.self c.args.kept
    (ap (λ (l : Framed _ _ _). l.arguments) c.cut_down.ensures.same) h c.cut_down.ensures.words
