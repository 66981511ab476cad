use Rattle.std.proofs.Common.{ℕ, subst, sym}
use Rattle.iso_plain_core.specs.Entering.{HeadFits}
use Rattle.iso_plain_core.proofs.EnteringLemmas.{adds_none}
use Rattle.iso_plain_core.proofs.KeptLemmas.{head_fits, kept_parts_fit}
use Rattle.iso_program.proofs.LeavingLemmas.{left_clause}
use Rattle.iso_program.proofs.ResultLemmas.{behind_error}
use Rattle.iso_search.proofs.AheadLemmas.{keeps_ahead}
use Rattle.iso_search.proofs.StoppedLemmas.{keeps_more}
use Rattle.iso_search.proofs.WorldLemmas.{same_texts}
use Rattle.iso_plain.specs.Engines.{linked}
use Rattle.iso_plain.proofs.CallLemmas.{entered_within, tried_engine}
use Rattle.iso_plain.proofs.EngineLemmas.{Tried, entered_cells, remains_tried, with_nodes}
use Rattle.iso_plain.proofs.LinkLemmas.{adds_keeps, list_on}
use Rattle.iso_plain.proofs.calling.enter_clause.Goals as goal

pub enter-requires-clause-head_fits : goal.enter-requires-clause-head_fits
enter-requires-clause-head_fits g c =
    let t = c.requires.6 in
    let is = left_clause (g.S.Store.names c.args.search.now.store) c.args.search.now.db t.clauses c.clause-clause.result.now c.clause-clause.ensures in
    let names = g.S.Store.names c.args.search.now.store in
    let clause = c.clause-clause.result.now in
    subst (λ (n : ℕ). HeadFits names n clause) (sym is.variables) (head_fits names _ clause _ is.head is.head_template)

pub enter-requires-clause-parts_fit : goal.enter-requires-clause-parts_fit
enter-requires-clause-parts_fit g c =
    let t = c.requires.6 in
    let is = left_clause (g.S.Store.names c.args.search.now.store) c.args.search.now.db t.clauses c.clause-clause.result.now c.clause-clause.ensures in
    rw is.variables (kept_parts_fit _ _ _ is.own.goal_templates)

pub behind_clause-search-requires-clause-within : goal.behind_clause-search-requires-clause-within
behind_clause-search-requires-clause-within g c =
    entered_within (g.S.Store.names c.args.search.now.store) (g.S.Store.present c.args.search.now.store) (g.S.Store.present c.enter.new.store) c.args.search.now.lists.nodes.items c.enter.new.nodes.items
    ((g.S.Store.present c.args.search.now.store).term c.args.goal) c.clause-clause.result.now _ c.in_ok-entered.entered c.in_ok-entered.ensures.enters

pub behind_clause-search-requires-clause-list : goal.behind_clause-search-requires-clause-list
behind_clause-search-requires-clause-list g c =
    let e = c.args.search.now in
    let lists = with_nodes e.lists c.enter.new.nodes in
    (g.S.Store.present e.store, c.requires.4, list_on e.lists lists c.in_ok-entered.ensures.nodes (adds_none _) c.requires.6.ahead.chain)

pub returns-clause-tried : goal.returns-clause-tried
returns-clause-tried g c =
    λ s call k ks gs later t.
    (let is = left_clause (g.S.Store.names c.args.search.now.store) c.args.search.now.db t.clauses c.clause-clause.result.now c.clause-clause.ensures in
    let tried : Tried g.S.Store c.args.search.now (record { clause = c.args.clause; later = later; call = c.args.goal }) c.args.rest s call k ks gs c.enter.new.store c.enter.new.nodes c.clause-clause.result.now =
    record { calls = t; keeps = c.in_ok-entered.ensures.rest.marks; texts = same_texts c.in_ok-entered.ensures.rest.names; adds = c.in_ok-entered.ensures.nodes; cells = entered_cells g.S.Store c.args.search.now.store c.enter.new.store c.clause-clause.result.now k is c.in_ok-entered.ensures.cells; is = is } in
    tried_engine g.S.Store c.args.search.now (record { clause = c.args.clause; later = later; call = c.args.goal }) c.args.rest s call k ks gs c.enter.new.store c.enter.new.nodes c.enter.new.words c.clause-clause.result.now c.args.mark tried
    c.in_ok-entered.entered c.in_ok-entered.ensures.enters c.behind_clause-search.result (c.behind_clause-search.ensures.comes (g.S.Store.present c.enter.new.store)))

pub returns-in_err-entered-clause-kept : goal.returns-in_err-entered-clause-kept
returns-in_err-entered-clause-kept g c =
    λ s call k ks gs later t.
    (let e = c.args.search.now in
    let rest = c.in_err-entered.ensures.rest in
    let lists = with_nodes e.lists c.enter.new.nodes in
    let is = left_clause (g.S.Store.names e.store) e.db t.clauses c.clause-clause.result.now c.clause-clause.ensures in
    let keeps = keeps_more g.S.Store linked e c.enter.new.store lists s.world s.stack (keeps_ahead g.S.Store linked e _ c.args.rest t.ahead) rest.marks (same_texts rest.names) (adds_keeps e.lists lists c.in_err-entered.ensures.nodes (adds_none _)) in
    behind_error c.from_residual.result
    (remains_tried g.S.Store (record e { store = c.enter.new.store; lists = lists; words = c.enter.new.words }) (g.S.Store.present e.store) s call k c.args.mark gs _ keeps
    (entered_cells g.S.Store e.store c.enter.new.store c.clause-clause.result.now k is c.in_err-entered.ensures.cells) t.ahead.fits))
