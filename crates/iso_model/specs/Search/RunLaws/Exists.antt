-- Every state has a run: the budget falls, or it stays and the weight falls.
use Rattle.std.proofs.Common.{◌≡◌, ◌<◌, ℕ, zero, suc, inl, inr, refl, ◌∙◌, arith}
use Rattle.iso_model.specs.Search.Walker.{State, Outcome, Goes, Gives, Ends, step}
use Rattle.iso_model.specs.Search.Runs.{Trace, Then, Stops, Run, goes, gives, ends}
use Rattle.iso_model.specs.Search.RunLaws.Weights.{weight, Smaller, Progress, step_progress}

abbrev pub HasRun : State → Type 0
HasRun s = (r : Trace) × Run s r

after_step : (s : State) (o : Outcome) (n w : ℕ) → step s ≡ o → Progress n w o → ((t : State) → Smaller n w t → HasRun t) → HasRun s
after_step s (Goes t) n w is less on = let r = on t less in (r.0, goes is r.1)
after_step s (Gives e t) n w is less on = let r = on t less in (Then e t.world r.0, gives is r.1)
after_step s (Ends e world) n w is less on = (Stops e world, ends is)

module _ (n : ℕ) (fewer : (t : State) → t.steps < n → HasRun t) where
  by_weight : (k : ℕ) (s : State) → s.steps ≡ n → weight s < k → HasRun s
  by_weight zero s same light = absurd (omega arith)
  by_weight (suc k) s same light =
      after_step s (step s) s.steps (weight s) refl (step_progress s) (λ t less. elim less [
        | inl fewer_steps ↦ fewer t (omega arith)
        | inr lighter ↦ (let steps = lighter.steps in let weights = lighter.lighter in by_weight k t (steps ∙ same) (omega arith))
      ])

by_steps : (k : ℕ) (s : State) → s.steps < k → HasRun s
by_steps zero s less = absurd (omega arith)
by_steps (suc k) s less =
    by_weight s.steps (λ t fewer. by_steps k t (omega arith)) (suc (weight s)) s refl (omega arith)

-- every state has a run
pub has_run : (s : State) → HasRun s
has_run s = by_steps (suc s.steps) s (omega arith)
