-- What a goal that comes first leaves to be done: less than before it.
use Rattle.std.proofs.Common.{◌≡◌, ◌≢◌, ◌<◌, ◌≤◌, ◌+◌, ◌-◌, ℕ, suc, refl, ap, sym, ◌∙◌, subst, arith, Result}
use Rattle.std.specs.Prelude.{IfOk}
use Rattle.std.proofs.lemmas.Result.{IfOk-weaker}
use Rattle.iso_model.specs.Terms.Trees.{Tree}
use Rattle.iso_model.specs.declared.built_ins.BuiltIn.{BuiltIn}
use Rattle.iso_search_core.specs.Costs.{choices_cost, now_cost}
use Rattle.iso_search.specs.Moved.{FallsFrom}
use Rattle.iso_store_core.specs.declared.stores.Store.{Ghosts}
use Rattle.iso_search.specs.Nexts.{IsGoalFirst}
use Rattle.iso_search.specs.declared.search.Move.{Move}
use Rattle.iso_search_core.specs.declared.nows.Now.{Now}
use Rattle.iso_search.specs.declared.search.Search.{Search}
use Rattle.iso_model.specs.Search.Walker.{State}
use Rattle.iso_store_core.specs.declared.shapes.StoreFault.{StoreFault}
use Rattle.iso_search_core.specs.Bodies.{body_cost, left_cost, most, whole_cost}
use Rattle.iso_search_core.specs.declared.lists.Lists as lists
use Rattle.iso_search_core.specs.declared.nows.Now.TheVariants as now
use Rattle.iso_search_core.proofs.BodyCosts.{whole_paid}
use Rattle.iso_search_core.proofs.CostLemmas.{choices_cost_on}
use Rattle.iso_search.specs.EngineStates.{Represents, Falls, cost, cost_from, kept_cost, weight}
use Rattle.iso_search.specs.Replying.{TookStep}
use Rattle.iso_search.proofs.RunLemmas.{one_less}
use Rattle.iso_search.proofs.WeightLemmas.{falls_called}
use Rattle.iso_search.proofs.Moves.Run.{first_value, step_at}
use Rattle.iso_search.proofs.Moves.Value.{IsAtValue, TookStepAt}

-- ---- whatever stands for the goal

module _ {S L W M K P C N B O : Type 0} (l : lists.Ghosts L S K P C N B O W M) (e : Search S L W M K P C N B O)
    (first : N) (rest : P) (running : e.now ≡ now.Running first)
    (cheaper : l.cost e.lists rest < l.first_cost e.lists first) where
  -- less than before the goal is to be done behind it
  pub rest_less : cost_from l e rest + 1 ≤ cost l e
  rest_less =
      let doing = ap (λ (n : Now N P). kept_cost l e + now_cost (l.first_cost e.lists) n) running in
      omega (arith, doing, cheaper)

  module _ (more : e.steps ≢ 0) where
    -- with the step that is taken
    pub taken_weight : whole_cost (suc (e.steps - 1)) (cost l e) ≡ weight l e
    taken_weight = ap (λ n. whole_cost n (cost l e)) (sym (one_less e.steps more))

    -- what falls behind the step
    pub taken_falls : (new : Search S L W M K P C N B O) → new.steps ≡ e.steps - 1 → cost l new ≤ cost l e
        → weight l new < weight l e
    taken_falls new steps less =
        subst (λ x. weight l new < x) taken_weight
        (subst (λ (k : ℕ). whole_cost k (cost l new) < whole_cost (suc (e.steps - 1)) (cost l e)) (sym steps)
        (whole_paid (e.steps - 1) (cost l e) (cost l new) (omega (arith, less))))

    -- a procedure was called
    pub taken_calls : (new : Search S L W M K P C N B O) → new.steps ≡ e.steps - 1
        → cost l new ≤ kept_cost l e + left_cost most (l.cost e.lists rest) + body_cost most (l.cost e.lists rest)
        → weight l new < weight l e
    taken_calls new steps within =
        let behind = rest_less in
        subst (λ x. weight l new < x) taken_weight
        (subst (λ (k : ℕ). whole_cost k (cost l new) < whole_cost (suc (e.steps - 1)) (cost l e)) (sym steps)
        (falls_called (e.steps - 1) (kept_cost l e) (l.cost e.lists rest) (cost l e) (cost l new)
        (omega (arith, behind)) within))

    -- it failed
    pub taken_fails : weight l (record e { steps = e.steps - 1; now = now.Failing }) < weight l e
    taken_fails =
        let less = rest_less in
        taken_falls (record e { steps = e.steps - 1; now = now.Failing }) refl (omega (arith, less))

    -- a ball is thrown
    pub taken_throws : (new : Search S L W M K P C N B O) → new.now ≡ now.Raising rest
        → new ≡ record e { steps = e.steps - 1; raised = new.raised; now = new.now } → weight l new < weight l e
    taken_throws new doing same =
        let less = rest_less in
        let raising = record e { steps = e.steps - 1; now = now.Raising rest } in
        let at_once = taken_falls raising refl (omega (arith, less)) in
        subst (λ (x : Search S L W M K P C N B O). weight l x < weight l e)
        (sym (same ∙ ap (λ (n : Now N P). record e { steps = e.steps - 1; raised = new.raised; now = n }) doing))
        at_once

module _ {S L W M K P C N B O : Type 0} (g : Ghosts S W M) (l : lists.Ghosts L S K P C N B O W M) where
  module _ {e mid : Search S L W M K P C N B O} {call : Tree} {rest : P} {b : BuiltIn} (own : State) (first : N)
      (running : e.now ≡ now.Running first) (cheaper : l.cost e.lists rest < l.first_cost e.lists first)
      (a : IsAtValue g l e call rest own) (took : TookStepAt g l e mid call rest a.at.behind b) where
    -- the choices cost what they did
    kept_same : kept_cost l mid ≡ kept_cost l e
    kept_same =
        ap (λ (x : Search S L W M K P C N B O). choices_cost (l.cost mid.lists) x.choices.items) took.same
        ∙ choices_cost_on l took.grows (λ d among. tt) a.at.ahead.choices

    -- less than before the goal is to be done behind the step
    pub value_less : cost_from l mid rest + 1 ≤ cost l e
    value_less =
        let less = rest_less l e first rest running cheaper in
        let kept = kept_same in
        let behind = took.cost in
        omega (arith, less, kept, behind)

    pub value_steps : mid.steps ≡ e.steps - 1
    value_steps = ap (λ (x : Search S L W M K P C N B O). x.steps) took.same

    -- behind the step this comes next
    pub value_falls : (next : Now N P) → now_cost (l.first_cost mid.lists) next ≤ l.cost mid.lists rest + 1
        → weight l (record mid { now = next }) < weight l e
    value_falls next within =
        let less = value_less in
        taken_falls l e first rest running cheaper took.more (record mid { now = next }) value_steps
        (omega (arith, less, within))

    -- a ball is thrown
    pub value_throws_falls : (new : Search S L W M K P C N B O) → new.now ≡ now.Raising rest
        → new ≡ record mid { raised = new.raised; now = new.now } → weight l new < weight l e
    value_throws_falls new doing same =
        subst (λ (x : Search S L W M K P C N B O). weight l x < weight l e)
        (sym (same ∙ ap (λ (n : Now N P). record mid { raised = new.raised; now = n }) doing))
        (value_falls (now.Raising rest) (omega arith))

    -- what a move behind the goal makes fall, falls from before it
    pub value_falls_behind : (result : Result Move StoreFault) (new : Search S L W M K P C N B O)
        → FallsFrom l mid (cost_from l mid rest + 1) result new → IfOk result (λ m. Falls m (weight l e) (weight l new))
    value_falls_behind result new falls =
        let whole = ap (λ (k : ℕ). whole_cost (suc k) (cost l e)) value_steps
        ∙ taken_weight l e first rest running cheaper took.more in
        IfOk-weaker result _ _ (λ m. subst (λ x. Falls m x (weight l new)) whole) (falls (cost l e) value_less)

  -- ---- the same of a goal that a word stands for

  module _ (e : Search S L W M K P C N B O) (goal : W) (rest : P) (first : IsGoalFirst g l e goal rest)
      (more : e.steps ≢ 0) where
    -- it failed
    pub fails_at_once : weight l (record e { steps = e.steps - 1; now = now.Failing }) < weight l e
    fails_at_once = taken_fails l e first.first rest first.running first.less more

    -- a ball is thrown
    pub thrown_at_once : (new : Search S L W M K P C N B O) → new.now ≡ now.Raising rest
        → new ≡ record e { steps = e.steps - 1; raised = new.raised; now = new.now } → weight l new < weight l e
    thrown_at_once = taken_throws l e first.first rest first.running first.less more

  module _ {e mid : Search S L W M K P C N B O} {w : W} {rest : P} {b : BuiltIn} (took : TookStep g l e mid w rest b)
      (s : State) (r : Represents g l e s) where
    pub steps_same : mid.steps ≡ e.steps - 1
    steps_same =
        value_steps r.own took.first.first took.first.running took.first.less (first_value g l e s w rest took.first r)
        (step_at g l took s r)

    -- what a move behind the goal makes fall, falls from before it
    pub falls_behind : (result : Result Move StoreFault) (new : Search S L W M K P C N B O)
        → FallsFrom l mid (cost_from l mid rest + 1) result new → IfOk result (λ m. Falls m (weight l e) (weight l new))
    falls_behind =
        value_falls_behind r.own took.first.first took.first.running took.first.less
        (first_value g l e s w rest took.first r) (step_at g l took s r)

    -- behind the step this comes next
    pub next_falls : (next : Now N P) → now_cost (l.first_cost mid.lists) next ≤ l.cost mid.lists rest + 1
        → weight l (record mid { now = next }) < weight l e
    next_falls =
        value_falls r.own took.first.first took.first.running took.first.less (first_value g l e s w rest took.first r)
        (step_at g l took s r)

    -- a ball is thrown
    pub throws_falls : (new : Search S L W M K P C N B O) → new.now ≡ now.Raising rest
        → new ≡ record mid { raised = new.raised; now = new.now } → weight l new < weight l e
    throws_falls =
        value_throws_falls r.own took.first.first took.first.running took.first.less
        (first_value g l e s w rest took.first r) (step_at g l took s r)
