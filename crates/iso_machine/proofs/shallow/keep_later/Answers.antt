use Rattle.std.proofs.Common.{sym, ◌≡◌, ◌∙◌, ℕ, Option, [], length, arith, ap, subst, refl}
use Rattle.iso_program.specs.Leaving.{AreLeft, NextLeft}
use Rattle.iso_program.proofs.LeavingLemmas.{left_behind}
use Rattle.iso_program.proofs.ResultLemmas.{behind_error}
use Rattle.iso_search_core.specs.Own.{own_of}
use Rattle.iso_search.proofs.AheadLemmas.{remains_ahead}
use Rattle.iso_search.proofs.WorldLemmas.{same_texts}
use Rattle.iso_machine.specs.Engines.{framed}
use Rattle.iso_machine.specs.declared.framed.Extent.{Extent}
use Rattle.iso_machine.specs.declared.framed.Framed.{Framed}
use Rattle.iso_machine.specs.declared.shallow.Unpushed.{Unpushed}
use Rattle.iso_machine.proofs.Moves.Kept.{kept_ahead, kept_behind, kept_stays}
use Rattle.iso_machine.proofs.Moves.Shallow.{later_calls, later_costs}
use Rattle.iso_machine.proofs.shallow.keep_later.Goals as goal

pub next_left-requires : goal.next_left-requires
next_left-requires g c = (let t = c.requires.6 in (t.clauses.behind, t.clauses.gives))

pub unreachable-requires : goal.unreachable-requires
unreachable-requires g c =
    let e = c.args.search.now in
    let names = g.S.Store.names e.store in
    let own = own_of (framed {S = g.row.S.Denot} {M = g.row.S-Mark.Denot} g.S.Cells.atom_word) in
    let t = c.requires.6 in
    let ks = c.requires.4 in
    let are = left_behind names e.db t.clauses in
    let next = c.next_left.ensures.left names t.clauses.behind ks t.clauses.gives are t.clauses.few in
    let none : ks ≡ [] =
    subst (λ (o : Option ℕ). NextLeft (AreLeft own names e.db) o c.next_left.new.later ks) c.in_default.is next in
    let some = c.requires.7 in
    let many = ap length none in
    omega (arith, some, many)

pub returns-in_err-call-clause-refused : goal.returns-in_err-call-clause-refused
returns-in_err-call-clause-refused g c = λ first s call k ks gs t.
    let l = framed {S = g.row.S.Denot} {M = g.row.S-Mark.Denot} g.S.Cells.atom_word in
    let e = c.args.search.now in
    let on = c.keep_arguments.ensures in
    behind_error c.from_residual.result
    (remains_ahead g.S.Store l (record e { lists = c.keep_arguments.new.lists }) (record s { list = gs })
    c.args.put.now.behind
    (kept_ahead g.S.Store g.S.Cells.atom_word e c.keep_arguments.new.lists
    (ap (λ (h : Framed _ _ _). h.nodes) on.same) (ap (λ (h : Framed _ _ _). h.frames) on.same)
    on.words c.args.put.now.behind (record s { list = gs }) t.ahead))

pub returns-in_err-call-clause-behind : goal.returns-in_err-call-clause-behind
returns-in_err-call-clause-behind g c =
    let on = c.keep_arguments.ensures in
    kept_behind g.S.Store g.S.Cells.atom_word c.args.search.now c.keep_arguments.new.lists
    (ap (λ (h : Framed _ _ _). h.nodes) on.same) (ap (λ (h : Framed _ _ _). h.frames) on.same)
    on.words c.args.put.now.behind

pub returns-in_err-call-clause-stays : goal.returns-in_err-call-clause-stays
returns-in_err-call-clause-stays g c =
    let on = c.keep_arguments.ensures in
    kept_stays g.S.Store g.S.Cells.atom_word c.args.search.now c.keep_arguments.new.lists
    (ap (λ (h : Framed _ _ _). h.nodes) on.same) (ap (λ (h : Framed _ _ _). h.frames) on.same)
    on.words

pub returns-clause-behind : goal.returns-clause-behind
returns-clause-behind g c =
    let on = c.keep_arguments.ensures in
    kept_behind g.S.Store g.S.Cells.atom_word c.args.search.now c.keep_arguments.new.lists
    (ap (λ (h : Framed _ _ _). h.nodes) on.same) (ap (λ (h : Framed _ _ _). h.frames) on.same)
    on.words c.args.put.now.behind

pub returns-clause-stays : goal.returns-clause-stays
returns-clause-stays g c = record {
  limit = refl;
  vocabulary = refl;
  names_kept = same_texts c.mark-mark.ensures.names;
  base = λ p stood. c.mark-mark.ensures.marks c.args.search.now.base p stood;
  within = λ within. within;
}

pub returns-clause-keeps : goal.returns-clause-keeps
returns-clause-keeps g c =
    let e = c.args.search.now in
    let l = framed {S = g.row.S.Denot} {M = g.row.S-Mark.Denot} g.S.Cells.atom_word in
    let names = g.S.Store.names e.store in
    let on = c.keep_arguments.ensures in
    let held = c.keep_arguments.new.lists in
    let marked = c.mark-mark.ensures in
    let nodes = ap (λ (h : Framed _ _ _). h.nodes) on.same in
    let frames = ap (λ (h : Framed _ _ _). h.frames) on.same in
    let arguments = ap (λ (h : Framed _ _ _). h.arguments) on.same in
    let u : Unpushed g.row.S-Mark.Denot = record {
      mark = c.mark-mark.result;
      kept = c.kept-kept.result;
      clause = c.in-Some.clause;
      call = c.in_ok-call.call;
    } in
    record {
      calls = λ choices pushed first s call k ks gs t.
          (let are = left_behind names e.db t.clauses in
          let next = c.next_left.ensures.left names t.clauses.behind ks t.clauses.gives are t.clauses.few in
          let there = subst (λ (o : Option ℕ). NextLeft (AreLeft (own_of l) names e.db) o c.next_left.new.later ks)
          c.in-Some.is next in
          later_calls g.S.Store g.S.Cells.atom_word e held nodes frames arguments on.words c.mark-mark.new.self
          marked.present marked.marks (same_texts marked.names) u c.next_left.new.later c.args.put.now.behind
          c.kept-kept.ensures marked.stands marked.older choices pushed first c.args.later.now c.args.put.now.name s
          call k ks gs t
          (c.in_ok-call.ensures.is_for (g.S.Store.present e.store) (t.put).name (t.put).known (t.put).named (t.put).hold)
          there);
      costs = λ choices pushed.
          (let few = c.requires.6.clauses.few in
          let less = c.next_left.ensures.never_rises in
          later_costs g.S.Store g.S.Cells.atom_word e held nodes frames arguments on.words c.mark-mark.new.self
          marked.present marked.marks (same_texts marked.names) u c.next_left.new.later c.args.put.now.behind
          c.kept-kept.ensures marked.stands marked.older choices pushed (omega (arith, few, less)));
    }

pub returns-clause-holds : goal.returns-clause-holds
returns-clause-holds g c =
    let on = c.in_ok-call.ensures in
    let place = on.place in
    let kept = ap (λ (x : Extent). x.words) c.kept-kept.ensures in
    record {
      within = omega (arith, place, kept);
      stood = omega (arith, kept);
      are = on.arguments ∙ sym (ap (λ (h : Framed _ _ _). h.arguments.items) c.keep_arguments.ensures.same);
    }
