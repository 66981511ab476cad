use Rattle.std.proofs.Common.{◌≡◌, ◌∙◌, ◌+◌, [], ◌∷◌, Ok, length, refl, ap, sym, subst, inl, inr}
use Rattle.iso_model.specs.Terms.Substitutions.{apply, Subst}
use Rattle.iso_model.specs.Terms.Sizes.{size}
use Rattle.iso_model.specs.Search.Bodies.{body_term, converted}
use Rattle.iso_store_core.specs.Presents.{Present}
use Rattle.iso_search_core.specs.Cells.{conversion_cells}
use Rattle.iso_model.specs.Terms.Trees.{Tree}
use Rattle.iso_search.specs.EngineStates.{IsEngine, Remains}
use Rattle.iso_model.specs.Search.Replies.{AsList}
use Rattle.iso_model.specs.Search.Walker.{Gather, Gathering, Goal, pushed}
use Rattle.iso_prep.specs.Conversions.{is_callable}
use Rattle.iso_search.specs.Gathers.{result_of}
use Rattle.iso_search.specs.declared.search.Search.{Search}
use Rattle.iso_program.proofs.ResultLemmas.{behind_error}
use Rattle.iso_search.proofs.Moves.Gather.{nothing_gathered, finds_as}
use Rattle.iso_search.proofs.Moves.Local.{full_called, lists_same, meaning_on}
use Rattle.iso_search.proofs.PaidLemmas.{paid, pays_found_as}
use Rattle.iso_search.proofs.search.Search.find_all.Goals as goal

pub returns-in_err-push_choice-clause-kept : goal.returns-in_err-push_choice-clause-kept
returns-in_err-push_choice-clause-kept g c = λ s h. behind_error c.from_residual.result (inl (c.in_err-push_choice.ensures.refused s h.ahead))

pub returns-then-not-branch-clause-called : goal.returns-then-not-branch-clause-called
returns-then-not-branch-clause-called g c = λ s b h is.
    rw c.full_frames.ensures.is
    (full_called g.S.Store g.L.Lists c.args.self.now c.push_choice.new.self c.full_frames.new.self _ s s c.args.rest h.ahead (c.in_ok-push_choice.ensures.full (ap Ok c.if-not-branch.true)).0 refl c.full_frames.ensures.spent)

pub run_converted-requires-clause-ahead : goal.run_converted-requires-clause-ahead
run_converted-requires-clause-ahead g c =
    let e = c.args.self.now in
    let s = c.requires.enters.0 in
    let h = c.requires.enters.1 in
    let result = result_of (g.S.Store.present e.store) c.args.goal in
    let has = nothing_gathered g.S.Store g.L.Lists e c.args.goal s c.args.rest h c.arg-solutions.result c.new.result c.arg-solutions.ensures.holds c.arg-solutions.ensures.value c.new.ensures.copies c.new.ensures.variables in
    (pushed s.list (Gathering (AsList result) [] 0) s, c.in_ok-push_choice.ensures.ahead s (Gathering (AsList result) [] 0) (ap Ok c.if-not-branch.false) h.ahead has h.space)

pub run_converted-requires-clause-callable : goal.run_converted-requires-clause-callable
run_converted-requires-clause-callable g c = ap is_callable (meaning_on _ c.in_ok-push_choice.ensures.present c.arg-solved.ensures.value) ∙ c.requires.can.1

pub returns-in_err-run_converted-clause-kept : goal.returns-in_err-run_converted-clause-kept
returns-in_err-run_converted-clause-kept g c = λ s h.
    (let e = c.args.self.now in
    let result = result_of (g.S.Store.present e.store) c.args.goal in
    let has = nothing_gathered g.S.Store g.L.Lists e c.args.goal s c.args.rest h c.arg-solutions.result c.new.result c.arg-solutions.ensures.holds c.arg-solutions.ensures.value c.new.ensures.copies c.new.ensures.variables in
    let ahead = c.in_ok-push_choice.ensures.ahead s (Gathering (AsList result) [] 0) (ap Ok c.if-not-branch.false) h.ahead has h.space in
    behind_error c.from_residual-in_err-run_converted.result
    (inr (subst (λ (x : Tree). Remains g.S.Store g.L.Lists c.run_converted.new.self (record (pushed s.list (Gathering (AsList result) [] 0) s) { built = s.built + conversion_cells x })) (meaning_on _ c.in_ok-push_choice.ensures.present c.arg-solved.ensures.value)
    (c.in_err-run_converted.ensures.kept (pushed s.list (Gathering (AsList result) [] 0) s) ahead))))

pub returns-clause-called : goal.returns-clause-called
returns-clause-called g c = λ s b h is.
    (let e = c.args.self.now in
    let p = g.S.Store.present e.store in
    let many : c.len-height.result ≡ length e.choices.items = cc (c.len-height.ensures, e.choices.ok.0) in
    let result = result_of p c.args.goal in
    let has = nothing_gathered g.S.Store g.L.Lists e c.args.goal s c.args.rest h c.arg-solutions.result c.new.result c.arg-solutions.ensures.holds c.arg-solutions.ensures.value c.new.ensures.copies c.new.ensures.variables in
    let ahead = c.in_ok-push_choice.ensures.ahead s (Gathering (AsList result) [] 0) (ap Ok c.if-not-branch.false) h.ahead has h.space in
    let run = c.in_ok-run_converted.ensures.runs (pushed s.list (Gathering (AsList result) [] 0) s) b ahead (ap converted (meaning_on _ c.in_ok-push_choice.ensures.present c.arg-solved.ensures.value) ∙ is) in
    let engine = subst (λ (x : Present _). IsEngine g.S.Store g.L.Lists c.run_converted.new.self (record (pushed s.list (Gathering (AsList result) [] 0) s) { list = Goal run.0 (c.len-height.result + 1) ∷ Gather c.len-height.result (x.term c.arg-template.result) ∷ s.list; built = s.built + size (body_term b) }))
    c.in_ok-push_choice.ensures.present run.2 in (
      p.term c.arg-template.result,
      run.0,
      ap (λ (q : Subst). apply q (p.term c.arg-template.result)) (sym h.ahead.goes.subst) ∙ c.arg-template.ensures.value,
      run.1,
      (
        finds_as g.S.Store g.L.Lists e c.args.goal s c.args.rest h c.run_converted.new.self c.len-height.result _ run.0 (p.term c.arg-template.result) many engine,
        c.in_ok-run_converted.ensures.awake,
      ),
    ))

pub returns-clause-falls : goal.returns-clause-falls
returns-clause-falls g c = λ w less.
    (let e = c.args.self.now in
    let mid = c.push_choice.new.self in
    let kept = c.in_ok-push_choice.ensures.costs (ap Ok c.if-not-branch.false) in
    let rest = ap (λ (x : _). g.L.Lists.cost x c.args.rest) (lists_same e mid c.in_ok-push_choice.ensures.same) in
    let steps = c.run_converted.ensures.steps ∙ ap (λ (x : Search _ _ _ _ _ _ _ _ _ _). x.steps) c.in_ok-push_choice.ensures.same in
    paid g.L.Lists e c.run_converted.new.self w _ steps c.in_ok-run_converted.ensures.costs (pays_found_as _ _ _ _ w kept rest less))
