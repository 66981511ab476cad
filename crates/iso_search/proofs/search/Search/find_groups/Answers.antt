use Rattle.std.proofs.Common.{◌≡◌, ◌∙◌, ◌+◌, [], ◌∷◌, Ok, length, refl, ap, sym, subst, inl, inr}
use Rattle.iso_model.specs.Terms.Substitutions.{apply, Subst}
use Rattle.iso_model.specs.Terms.Trees.{Tree}
use Rattle.iso_model.specs.Terms.Sizes.{size}
use Rattle.iso_model.specs.Search.Bodies.{body_term, converted}
use Rattle.iso_model.specs.Search.Replies.{InGroups}
use Rattle.iso_model.specs.Search.Walker.{Gather, Gathering, Goal, with_template}
use Rattle.iso_store_core.specs.Presents.{meaning, Present}
use Rattle.iso_search_core.specs.Asking.{goal_grouping}
use Rattle.iso_search_core.specs.Cells.{conversion_cells}
use Rattle.iso_search.specs.EngineStates.{IsEngine, Remains}
use Rattle.iso_search.specs.Groups.{gathering_groups}
use Rattle.iso_search.specs.declared.search.Search.{Search}
use Rattle.iso_program.proofs.ResultLemmas.{behind_error}
use Rattle.iso_search.proofs.Moves.Asked.{asked_remains, asked_ahead, nothing_grouped, groups_as}
use Rattle.iso_search.proofs.Moves.Local.{full_called, lists_same, meaning_on}
use Rattle.iso_search.proofs.PaidLemmas.{paid, pays_groups_as}
use Rattle.iso_search.proofs.search.Search.find_groups.Goals as goal

-- ---- what it asks for is made, and its choice comes

pub returns-in_err-asked-clause-kept : goal.returns-in_err-asked-clause-kept
returns-in_err-asked-clause-kept g c = λ s h.
    (let ends = c.ask_groups.ensures in
    behind_error c.from_residual.result
    (inl (asked_remains g.S.Store g.L.Lists c.args.self.now c.args.goal c.args.sorts s c.args.rest h
    c.ask_groups.new.store ends.rest ends.cells)))

pub returns-in_err-push_choice-clause-kept : goal.returns-in_err-push_choice-clause-kept
returns-in_err-push_choice-clause-kept g c = λ s h.
    (let asked = c.in_ok-asked.asked in
    let ends = c.ask_groups.ensures in
    let ahead = asked_ahead g.S.Store g.L.Lists c.args.self.now c.args.goal c.args.sorts s c.args.rest h
    c.ask_groups.new.store ends.rest ends.cells asked c.in_ok-asked.ensures.asked g.met.L.Lists.words in
    behind_error c.from_residual-in_err-push_choice.result (inl (c.in_err-push_choice.ensures.refused _ ahead)))

pub returns-then-not-branch-clause-called : goal.returns-then-not-branch-clause-called
returns-then-not-branch-clause-called g c = λ s b h is.
    (let e = c.args.self.now in
    let asker = record e { store = c.ask_groups.new.store } in
    let by = goal_grouping c.args.sorts (meaning (g.S.Store.present e.store) c.args.goal) in
    let ends = c.ask_groups.ensures in
    let ahead = asked_ahead g.S.Store g.L.Lists e c.args.goal c.args.sorts s c.args.rest h c.ask_groups.new.store
    ends.rest ends.cells c.in_ok-asked.asked c.in_ok-asked.ensures.asked g.met.L.Lists.words in
    rw c.full_frames.ensures.is
    (full_called g.S.Store g.L.Lists asker c.push_choice.new.self c.full_frames.new.self _
    (with_template (InGroups by) s) s c.args.rest ahead
    (c.in_ok-push_choice.ensures.full (ap Ok c.if-not-branch.true)).0 refl c.full_frames.ensures.spent))

-- ---- it is run

pub run_converted-requires-clause-ahead : goal.run_converted-requires-clause-ahead
run_converted-requires-clause-ahead g c =
    let e = c.args.self.now in
    let s = c.requires.enters.0 in
    let h = c.requires.enters.1 in
    let by = goal_grouping c.args.sorts (meaning (g.S.Store.present e.store) c.args.goal) in
    let store = c.ask_groups.new.store in
    let ends = c.ask_groups.ensures in
    let asked = c.in_ok-asked.asked in
    let asks = c.in_ok-asked.ensures.asked in
    let ahead = asked_ahead g.S.Store g.L.Lists e c.args.goal c.args.sorts s c.args.rest h store ends.rest ends.cells
    asked asks g.met.L.Lists.words in
    let has = nothing_grouped g.S.Store g.L.Lists e c.args.goal c.args.sorts s c.args.rest h store ends.rest ends.cells
    asked asks c.new.result c.new.ensures.copies c.new.ensures.variables in (
      gathering_groups by s,
      c.in_ok-push_choice.ensures.ahead (with_template (InGroups by) s) (Gathering (InGroups by) [] 0)
          (ap Ok c.if-not-branch.false) ahead has h.space,
    )

pub returns-in_err-run_converted-clause-kept : goal.returns-in_err-run_converted-clause-kept
returns-in_err-run_converted-clause-kept g c = λ s h.
    (let e = c.args.self.now in
    let by = goal_grouping c.args.sorts (meaning (g.S.Store.present e.store) c.args.goal) in
    let store = c.ask_groups.new.store in
    let ends = c.ask_groups.ensures in
    let asked = c.in_ok-asked.asked in
    let asks = c.in_ok-asked.ensures.asked in
    let ahead = asked_ahead g.S.Store g.L.Lists e c.args.goal c.args.sorts s c.args.rest h store ends.rest ends.cells
    asked asks g.met.L.Lists.words in
    let has = nothing_grouped g.S.Store g.L.Lists e c.args.goal c.args.sorts s c.args.rest h store ends.rest ends.cells
    asked asks c.new.result c.new.ensures.copies c.new.ensures.variables in
    let gathers = c.in_ok-push_choice.ensures.ahead (with_template (InGroups by) s) (Gathering (InGroups by) [] 0)
    (ap Ok c.if-not-branch.false) ahead has h.space in
    let remains = λ (x : Tree). Remains g.S.Store g.L.Lists c.run_converted.new.self
    (record (gathering_groups by s) { built = (with_template (InGroups by) s).built + conversion_cells x }) in
    behind_error c.from_residual-in_err-run_converted.result
    (inr (subst remains (meaning_on asked.goal c.in_ok-push_choice.ensures.present asks.goal_is)
    (c.in_err-run_converted.ensures.kept (gathering_groups by s) gathers))))

pub returns-clause-called : goal.returns-clause-called
returns-clause-called g c = λ s b h is.
    (let e = c.args.self.now in
    let many : c.len-height.result ≡ length e.choices.items = cc (c.len-height.ensures, e.choices.ok.0) in
    let by = goal_grouping c.args.sorts (meaning (g.S.Store.present e.store) c.args.goal) in
    let store = c.ask_groups.new.store in
    let q = g.S.Store.present store in
    let ends = c.ask_groups.ensures in
    let asked = c.in_ok-asked.asked in
    let asks = c.in_ok-asked.ensures.asked in
    let ahead = asked_ahead g.S.Store g.L.Lists e c.args.goal c.args.sorts s c.args.rest h store ends.rest ends.cells
    asked asks g.met.L.Lists.words in
    let has = nothing_grouped g.S.Store g.L.Lists e c.args.goal c.args.sorts s c.args.rest h store ends.rest ends.cells
    asked asks c.new.result c.new.ensures.copies c.new.ensures.variables in
    let gathers = c.in_ok-push_choice.ensures.ahead (with_template (InGroups by) s) (Gathering (InGroups by) [] 0)
    (ap Ok c.if-not-branch.false) ahead has h.space in
    let kept = c.in_ok-push_choice.ensures.present in
    let run = c.in_ok-run_converted.ensures.runs (gathering_groups by s) b gathers
    (ap converted (meaning_on asked.goal kept asks.goal_is) ∙ is) in
    let runs = λ (x : Present _). IsEngine g.S.Store g.L.Lists c.run_converted.new.self
    (record (gathering_groups by s) {
      list = Goal run.0 (c.len-height.result + 1) ∷ Gather c.len-height.result (x.term asked.template) ∷ s.list;
      built = (with_template (InGroups by) s).built + size (body_term b);
    }) in (
      q.term asked.template,
      run.0,
      ap (λ (u : Subst). apply u (q.term asked.template)) (sym ahead.goes.subst) ∙ asks.template_is,
      run.1,
      (
        groups_as g.S.Store g.L.Lists e c.args.goal c.args.sorts s c.args.rest h store ends.rest ends.cells
            c.run_converted.new.self c.len-height.result _ run.0 (q.term asked.template) many (subst runs kept run.2),
        c.in_ok-run_converted.ensures.awake,
      ),
    ))

-- ---- what falls

pub returns-clause-falls : goal.returns-clause-falls
returns-clause-falls g c = λ w less.
    (let e = c.args.self.now in
    let asker = record e { store = c.ask_groups.new.store } in
    let mid = c.push_choice.new.self in
    let kept = c.in_ok-push_choice.ensures.costs (ap Ok c.if-not-branch.false) in
    let same = c.in_ok-push_choice.ensures.same in
    let rest = ap (λ (x : _). g.L.Lists.cost x c.args.rest) (lists_same asker mid same) in
    let steps = c.run_converted.ensures.steps ∙ ap (λ (x : Search _ _ _ _ _ _ _ _ _ _). x.steps) same in
    paid g.L.Lists e c.run_converted.new.self w _ steps c.in_ok-run_converted.ensures.costs
    (pays_groups_as _ _ _ _ w kept rest less))
