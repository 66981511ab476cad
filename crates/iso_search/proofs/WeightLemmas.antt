-- By what moves fall.
use Rattle.std.proofs.Common.{◌≡◌, ◌<◌, ◌≤◌, ◌+◌, ℕ, suc, List, refl, ap, ◌∙◌, arith}
use Rattle.iso_search_core.specs.declared.lists.Lists as lists
use Rattle.iso_search_core.specs.Bodies.{body_cost, left_cost, most, whole_cost}
use Rattle.iso_search_core.specs.Costs.{choices_cost, now_cost, tried_cost}
use Rattle.iso_search.specs.EngineStates.{cost, kept_cost, weight}
use Rattle.iso_search_core.specs.Standing.{GainsChoice}
use Rattle.iso_search_core.specs.declared.choices.Left.{Left}
use Rattle.iso_search_core.specs.declared.nows.Now.{Now}
use Rattle.iso_store_core.specs.Presents.{Present}
use Rattle.iso_search.specs.declared.search.Search.{Search}
use Rattle.iso_search_core.specs.declared.nows.Now.TheVariants as now
use Rattle.iso_search_core.specs.declared.choices.Choice as kept
use Rattle.iso_search_core.proofs.CostLemmas.{choices_last}
use Rattle.iso_search_core.proofs.BodyCosts.{whole_more, whole_paid, called_cost, left_step, cost_above}

-- a step was taken for a call
pub falls_called : (steps s r w v : ℕ) → s + r ≤ w → v ≤ s + left_cost most r + body_cost most r → whole_cost steps v < whole_cost (suc steps) w
falls_called steps s r w v less within =
    let h = called_cost most most s r w (omega arith) (omega arith) less in
    whole_paid steps w v (omega (arith, h, within))

-- a choice came
pub gained_cost : {W M K P C : Type 0} {old new : M → Present W → Type 0} {older : M → M → Type 0} {present : Present W} {kept_now : K} {rest : P} {left : Left W C} {before after : List (kept.Choice W M K P C)} (cost : P → ℕ)
    → GainsChoice old new older present kept_now rest left before after → choices_cost cost after ≡ choices_cost cost before + tried_cost left (cost rest)
gained_cost {kept_now = kept_now} {rest = rest} {left = left} {before = before} cost gains =
    ap (choices_cost cost) gains.are ∙ choices_last cost before (record { mark = gains.mark; kept = kept_now; rest = rest; left = left })

module _ {S L W M K P C N B O : Type 0} (l : lists.Ghosts L S K P C N B O W M) where
  -- as many steps, and less to be done before the next
  pub falls_less : (e new : Search S L W M K P C N B O) → new.steps ≡ e.steps → cost l new < cost l e → weight l new < weight l e
  falls_less e new steps less = rw steps (whole_more e.steps (cost l new) (cost l e) less)

  -- behind failure: the newest choice was taken away, or left at less
  pub back_cost : (e back : Search S L W M K P C N B O) → back.choices ≡ e.choices → choices_cost (l.cost back.lists) e.choices.items ≡ kept_cost l e → kept_cost l back ≤ cost l e
  back_cost e back choices same =
      let all : kept_cost l back ≡ choices_cost (l.cost back.lists) e.choices.items = ap (λ cs. choices_cost (l.cost back.lists) cs.items) choices in
      omega (arith, all, same)

  -- no step was taken, and less is to be done than the newest choice cost
  pub falls_back : (e back new : Search S L W M K P C N B O) → back.choices ≡ e.choices → choices_cost (l.cost back.lists) e.choices.items ≡ kept_cost l e → back.steps ≡ e.steps → new.steps ≡ back.steps → cost l new < kept_cost l back → weight l new < weight l e
  falls_back e back new choices same steps on less =
      let all = back_cost e back choices same in
      falls_less e new (on ∙ steps) (omega (arith, all, less))

  -- a step was taken for a choice that stays
  pub falls_again : (e new : Search S L W M K P C N B O) (w : ℕ) → new.steps + 1 ≡ e.steps → cost l new ≤ w + w → w ≤ cost l e → weight l new < weight l e
  falls_again e new w steps within less =
      let all : e.steps ≡ suc new.steps = omega (arith, steps) in
      let a = left_step most (cost l e) in
      let b = cost_above most (cost l e) in
      let paid = whole_paid new.steps (cost l e) (cost l new) (omega (arith, a, b, within, less)) in
      rw all paid

  -- an answer was given
  pub answered_falls : (e : Search S L W M K P C N B O) → e.now ≡ now.Answering → weight l (record e { now = now.Failing }) < weight l e
  answered_falls e doing =
      let old : cost l e ≡ kept_cost l e + 1 = ap (λ (n : Now N P). kept_cost l e + now_cost (l.first_cost e.lists) n) doing in
      falls_less e (record e { now = now.Failing }) refl (omega (arith, old))
