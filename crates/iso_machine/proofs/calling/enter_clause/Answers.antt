use Rattle.std.proofs.Common.{refl, ◌≤◌, ◌<◌, ◌+◌, ◌*◌, ◌++◌, ◌∙◌, Option, Some, Ok, Vec, Global, length, ap, subst, sym, arith}
use Rattle.iso_model.specs.Search.Walker.{body_size}
use Rattle.iso_program.proofs.LeavingLemmas.{left_clause}
use Rattle.iso_program.proofs.ResultLemmas.{behind_error}
use Rattle.iso_search_core.specs.Bodies.{body_cost, most}
use Rattle.iso_search.proofs.AheadLemmas.{keeps_ahead}
use Rattle.iso_search.proofs.Moves.Body.{grown_cost}
use Rattle.iso_search.proofs.StoppedLemmas.{keeps_more}
use Rattle.iso_search.proofs.WorldLemmas.{same_texts}
use Rattle.iso_db.specs.Presents.{Stands}
use Rattle.iso_frames.specs.Costs.{pending_of}
use Rattle.iso_frames.specs.declared.frames.Frame.{Frame}
use Rattle.iso_frames.specs.declared.frames.Rest.{Rest}
use Rattle.iso_environments.specs.Entered.{clause_members}
use Rattle.iso_machine.specs.declared.entering.Entered.{Entered}
use Rattle.iso_machine.specs.Engines.{framed}
use Rattle.iso_machine.specs.Entered.{Comes, IfAt}
use Rattle.iso_machine.specs.Lists.{cost_at, pending_at}
use Rattle.iso_machine.proofs.Moves.Entered.{Tried, missed_engine, remains_tried}
use Rattle.iso_machine.proofs.FrameLemmas.{adds_keeps, adds_same}
use Rattle.iso_machine.proofs.Moves.Framed.{begun_engine}
use Rattle.iso_machine.specs.LastCalls.{place_of, with_frames}
use Rattle.iso_machine.proofs.BodyCells.{clause_cells}
use Rattle.iso_machine.proofs.LastEntered.{frames_last, has_last, last_costs, last_grows, last_unframed}
use Rattle.iso_machine.proofs.LastFrames.{last_engine, last_pending}
use Rattle.iso_machine.specs.Unpushed.{with_choices}
use Rattle.iso_machine.proofs.CameLemmas.{error_else}
use Rattle.iso_machine.proofs.calling.enter_clause.Goals as goal

-- ---- it was refused

pub returns-in_err-enter-clause-over : goal.returns-in_err-enter-clause-over
returns-in_err-enter-clause-over g c = λ choices. record {
  tried = λ s t k ks gs later calls done. error_else c.from_residual.result c.from_residual.ensures.0 done;
  kept = λ s t k ks gs later calls.
      (let a = g.S.Cells.atom_word in
      let e = with_choices c.args.search.now choices in
      let on = c.in_err-enter.ensures in
      let held = c.enter.new.lists in
      let grows = adds_keeps a e.lists held (adds_same on.nodes) on.frames on.words in
      let is = left_clause (g.S.Store.names e.store) e.db calls.clauses c.clause-entered.result.now
      c.clause-entered.ensures in
      let keeps = keeps_more g.S.Store (framed a) e c.enter.new.store held s.world s.stack
      (keeps_ahead g.S.Store (framed a) e _ c.args.put.now.behind calls.ahead) on.rest.marks
      (same_texts on.rest.names) grows in
      behind_error c.from_residual.result
      (remains_tried g.S.Store (framed a) (record e { store = c.enter.new.store; lists = held })
      (g.S.Store.present e.store) s t k c.args.mark gs (pending_at e.lists c.args.put.now.behind) keeps (on.cells k is)
      calls.ahead.fits));
  last = λ s t k ks gs later calls done. error_else c.from_residual.result c.from_residual.ensures.0 done;
  costs = λ s t k ks gs later calls done. error_else c.from_residual.result c.from_residual.ensures.0 done;
}

pub returns-in_err-enter-clause-itself : goal.returns-in_err-enter-clause-itself
returns-in_err-enter-clause-itself g c = (returns-in_err-enter-clause-over g c) c.args.search.now.choices

-- ---- its head missed

pub returns-in-Missed-clause-over : goal.returns-in-Missed-clause-over
returns-in-Missed-clause-over g c = λ choices. record {
  tried = λ s t k ks gs later calls done.
      (let a = g.S.Cells.atom_word in
      let e = with_choices c.args.search.now choices in
      let on = c.in_ok-enter.ensures in
      let store = c.enter.new.store in
      let held = c.enter.new.lists in
      let is = left_clause (g.S.Store.names e.store) e.db calls.clauses c.clause-entered.result.now
      c.clause-entered.ensures in
      let comes = on.comes k t gs is calls.put calls.ahead.chain in
      let never = subst (λ (x : Entered). Comes a (g.S.Store.present e.store) (g.S.Store.present store) t k c.args.mark
      gs held x) c.in-Missed.is comes in
      let tried : Tried g.S.Store (framed a) e c.args.put.now.behind s k gs store held = record {
        ahead = calls.ahead;
        space = calls.space;
        keeps = on.rest.marks;
        texts = same_texts on.rest.names;
        grows = adds_keeps a e.lists held (adds_same on.nodes) on.frames on.words;
        cells = on.cells k is;
        few = is.few;
        goals = is.own.goals;
      } in
      missed_engine g.S.Store (framed a) e c.args.put.now.behind s t k gs store held c.args.mark tried never);
  kept = λ s t k ks gs later calls. tt;
  last = λ s t k ks gs later calls done. absurd (cc done);
  costs = λ s t k ks gs later calls done.
      (let a = g.S.Cells.atom_word in
      let e = with_choices c.args.search.now choices in
      let on = c.in_ok-enter.ensures in
      let held = c.enter.new.lists in
      let grows = adds_keeps a e.lists held (adds_same on.nodes) on.frames on.words in
      let same = grown_cost g.S.Store (framed a) e _ c.args.put.now.behind held calls.ahead grows in
      omega (arith, same));
}

pub returns-in-Missed-clause-itself : goal.returns-in-Missed-clause-itself
returns-in-Missed-clause-itself g c = (returns-in-Missed-clause-over g c) c.args.search.now.choices

-- ---- it was entered

pub go_on-requires : goal.go_on-requires
go_on-requires g c =
    let a = g.S.Cells.atom_word in
    let e = c.args.search.now in
    let k = c.requires.1.2 in
    let calls = c.requires.1.6 in
    let is = left_clause (g.S.Store.names e.store) e.db calls.clauses c.clause-entered.result.now
    c.clause-entered.ensures in
    let comes = c.in_ok-enter.ensures.comes k c.requires.1.1 c.requires.1.4 is calls.put calls.ahead.chain in
    let b = subst (λ (x : Entered). Comes a (g.S.Store.present e.store) (g.S.Store.present c.enter.new.store)
    c.requires.1.1 k c.args.mark c.requires.1.4 c.enter.new.lists x) c.in-At.is comes in (
      g.S.Store.present c.enter.new.store,
      clause_members (g.S.Store.present c.enter.new.store) b.words c.args.mark k ++ c.requires.1.4,
      b.list,
    )

pub enter-requires : goal.enter-requires
enter-requires g c =
    let calls = c.requires.1.6 in
    let e = c.args.search.now in
    let is = left_clause (g.S.Store.names e.store) e.db calls.clauses c.clause-entered.result.now
    c.clause-entered.ensures in
    let next = calls.ahead.goes.next in
    let few = is.few in
    let space = calls.space in (
      c.requires.1.2,
      c.requires.1.1,
      c.requires.1.4,
      is,
      calls.put,
      calls.ahead.chain,
      omega (arith, next, few, space),
    )

pub returns-in-At-clause-over : goal.returns-in-At-clause-over
returns-in-At-clause-over g c = λ choices. record {
  tried = λ s t k ks gs later calls done.
      (let a = g.S.Cells.atom_word in
      let e = with_choices c.args.search.now choices in
      let on = c.in_ok-enter.ensures in
      let store = c.enter.new.store in
      let held = c.enter.new.lists in
      let is = left_clause (g.S.Store.names e.store) e.db calls.clauses c.clause-entered.result.now
      c.clause-entered.ensures in
      let comes = on.comes k t gs is calls.put calls.ahead.chain in
      let b = subst (λ (x : Entered). Comes a (g.S.Store.present e.store) (g.S.Store.present store) t k c.args.mark gs
      held x) c.in-At.is comes in
      let pending = subst (λ (x : Entered). IfAt x (λ (place : Option Rest). pending_at held place
      ≤ 2 * body_size k.body + pending_at e.lists c.args.put.now.behind)) c.in-At.is (on.pending k is) in
      let tried : Tried g.S.Store (framed a) e c.args.put.now.behind s k gs store held = record {
        ahead = calls.ahead;
        space = calls.space;
        keeps = on.rest.marks;
        texts = same_texts on.rest.names;
        grows = adds_keeps a e.lists held (adds_same on.nodes) on.frames on.words;
        cells = on.cells k is;
        few = is.few;
        goals = is.own.goals;
      } in
      begun_engine g.S.Store a e c.args.put.now.behind s t k gs store held c.args.mark tried c.in-At.place b pending
      c.go_on.new.doing
      (c.go_on.ensures.behind (g.S.Store.present store)
      (clause_members (g.S.Store.present store) b.words c.args.mark k ++ gs) b.list));
  kept = λ s t k ks gs later calls. tt;
  last = λ s t k ks gs later calls done. absurd (cc done);
  costs = λ s t k ks gs later calls done.
      (let a = g.S.Cells.atom_word in
      let e = with_choices c.args.search.now choices in
      let on = c.in_ok-enter.ensures in
      let held = c.enter.new.lists in
      let grows = adds_keeps a e.lists held (adds_same on.nodes) on.frames on.words in
      let same = grown_cost g.S.Store (framed a) e _ c.args.put.now.behind held calls.ahead grows in
      let first = c.go_on.ensures.cost in
      let cost = subst (λ (x : Entered). IfAt x (λ (place : Option Rest). cost_at held place
      ≤ body_cost most (cost_at e.lists c.args.put.now.behind))) c.in-At.is on.cost in
      omega (arith, same, first, cost));
}

pub returns-in-At-clause-itself : goal.returns-in-At-clause-itself
returns-in-At-clause-itself g c = (returns-in-At-clause-over g c) c.args.search.now.choices

-- ---- it was entered, and has no frame

pub returns-in-Last-clause-alone : goal.returns-in-Last-clause-alone
returns-in-Last-clause-alone g c = λ done.
    c.may_go_last-last.ensures.last (c.in_ok-enter.ensures.alone (ap Ok c.in-Last.is)).0

pub returns-in-Last-clause-over : goal.returns-in-Last-clause-over
returns-in-Last-clause-over g c = λ choices. record {
  tried = λ s t k ks gs later calls done. absurd (cc done);
  kept = λ s t k ks gs later calls. tt;
  last = λ s0 t0 k0 ks0 gs0 later0 r done.
      (let a = g.S.Cells.atom_word in
      let e = with_choices c.args.search.now choices in
      let names = g.S.Store.names e.store in
      let on = c.in_ok-enter.ensures in
      let store = c.enter.new.store in
      let held = c.enter.new.lists in
      let value = c.clause-entered.result.now in
      let stands : Stands e.db c.args.clause value =
      r.clauses.stands ∙ ap Some (sym (c.clause-entered.ensures r.clauses.kept r.clauses.stands)) in
      let is_last = ap Ok c.in-Last.is in
      let alone = on.alone is_last in
      let many = c.may_go_last-last.ensures.few alone.0 in
      let same = ap (λ (v : Vec Frame Global). length v.items) alone.1 in
      let few : length held.frames.items + 1 < 9223372036854775808 = omega (arith, many, same) in
      let rest = c.args.put.now.behind in
      let mark = c.args.mark in
      let frames = frames_last g.S.Store a e store held c.args.clause value mark rest stands alone.2 alone.1 few in
      let has = has_last g.S.Store a e store held c.args.clause value mark rest stands alone.2 alone.1 few in
      record {
        frames = frames;
        rest = place_of held;
        unframed =
            last_unframed g.S.Store a e store held c.args.clause value mark rest stands alone.2 alone.1 few _ r.ahead;
        says = (
          λ s t k ks gs later calls.
              let is = left_clause names e.db calls.clauses value c.clause-entered.ensures in
              let most = clause_cells is.own in
              let behind = ap (λ (v : Vec Frame Global). pending_of v.items rest) alone.1 in
              let pending = last_pending held frames value.own.kept mark rest has alone.2 in
              let tried : Tried g.S.Store (framed a) e rest s k gs store (with_frames held frames) = record {
                ahead = calls.ahead;
                space = calls.space;
                keeps = on.rest.marks;
                texts = same_texts on.rest.names;
                grows =
                    last_grows g.S.Store a e store held c.args.clause value mark rest stands alone.2 alone.1 few on.nodes
                    on.words;
                cells = on.cells k is;
                few = is.few;
                goals = is.own.goals;
              } in
              last_engine g.S.Store a e rest s t k gs store held mark frames value.own.kept has alone.2 tried
              (on.last frames k t gs is_last has is calls.put calls.ahead.chain)
              (omega (arith, most, behind, pending)),
          last_costs g.S.Store a e store held c.args.clause value mark rest stands alone.2 alone.1 few _ r.ahead on.nodes
              on.words,
        );
      });
  costs = λ s t k ks gs later calls done. absurd (cc done);
}

pub returns-in-Last-clause-itself : goal.returns-in-Last-clause-itself
returns-in-Last-clause-itself g c = (returns-in-Last-clause-over g c) c.args.search.now.choices

pub returns-in_err-enter-clause-stays : goal.returns-in_err-enter-clause-stays
returns-in_err-enter-clause-stays g c = record {
  limit = refl;
  vocabulary = refl;
  names_kept = same_texts c.enter.ensures.rest.names;
  base = λ p stood. c.enter.ensures.rest.marks c.args.search.now.base p stood;
  within = λ within. within;
}

pub returns-in-Missed-clause-stays : goal.returns-in-Missed-clause-stays
returns-in-Missed-clause-stays g c = record {
  limit = refl;
  vocabulary = refl;
  names_kept = same_texts c.enter.ensures.rest.names;
  base = λ p stood. c.enter.ensures.rest.marks c.args.search.now.base p stood;
  within = λ within. within;
}

pub returns-in-At-clause-stays : goal.returns-in-At-clause-stays
returns-in-At-clause-stays g c = record {
  limit = refl;
  vocabulary = refl;
  names_kept = same_texts c.enter.ensures.rest.names;
  base = λ p stood. c.enter.ensures.rest.marks c.args.search.now.base p stood;
  within = λ within. within;
}
