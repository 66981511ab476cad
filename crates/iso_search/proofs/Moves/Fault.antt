-- What a goal comes to behind a fault of its built-in.
use Rattle.std.proofs.Common.{◌≡◌, ◌+◌, ◌<◌, suc, Result, refl, ap, sym, ◌∙◌, subst, arith}
use Rattle.std.specs.Prelude.{IfOk, OnErr}
use Rattle.iso_model.specs.Search.Walker.{State}
use Rattle.iso_model.specs.declared.pauses.Ball.{Ball}
use Rattle.iso_search.specs.EngineStates.{cost_from, Remains, IsAhead, IsEngine, kept_cost, phase_of, weight}
use Rattle.iso_search.specs.Moved.{FallsFrom}
use Rattle.iso_lib_core.specs.declared.outcomes.Fault.{Fault}
use Rattle.iso_store_core.specs.declared.stores.Store.{Ghosts}
use Rattle.iso_model.specs.Search.Engines.{IsAwake}
use Rattle.iso_search.specs.declared.search.Move.{Move}
use Rattle.iso_search_core.specs.declared.nows.Now.{Now}
use Rattle.iso_search.specs.Limits.{ResultFull, ResultMet}
use Rattle.iso_search.specs.declared.search.Search.{Search}
use Rattle.iso_store_core.specs.declared.shapes.StoreFault.{StoreFault}
use Rattle.iso_model.specs.Terms.TermOf.{term_of}
use Rattle.iso_search.specs.Catches.{throwing}
use Rattle.iso_search_core.specs.Bodies.{whole_cost}
use Rattle.iso_lib_core.specs.declared.outcomes.Fault.TheVariants as fault
use Rattle.iso_search_core.specs.declared.lists.Lists as lists
use Rattle.iso_search_core.specs.declared.nows.Now.TheVariants as now
use Rattle.iso_search_core.proofs.BodyCosts.{whole_paid}
use Rattle.iso_search.specs.declared.search.Move.TheVariants as move
use Rattle.iso_search.specs.Faults.{Throws}

module _ {S L W M K P C N B O : Type 0} (g : Ghosts S W M) (l : lists.Ghosts L S K P C N B O W M) where
  module _ (old new : Search S L W M K P C N B O) (place : P) (result : Result Move StoreFault) where
    -- What holds of a goal behind this fault, whose ball it raises where it has one.
    pub record GoalThrows (f : Fault) : Type 1 where
      pub goes : (Q : Move → Type 0) → ((ball : Ball) → f ≡ fault.Raise ball → ((s : State) → IsAhead g l old s place → IsEngine g l new (throwing (term_of ball.term.value) s)) → IsAwake (phase_of new.now) → Q move.Goes) → IfOk result Q
      pub kept : (s : State) → Remains g l old s → OnErr result (Remains g l new s)
      pub falls : FallsFrom l old (cost_from l old place + 1) result new
      pub frames : (Fact : Type 0) → ResultFull Fact result
      pub met : (f ≡ fault.Full → g.full old.store) → ResultMet g result new

    throws_by : (f : Fault) → Throws g l old f place result new → GoalThrows f
    throws_by (fault.Raise ball) h =
        let same : new ≡ record old { raised = new.raised; now = now.Raising place } = h.2 ∙ ap (λ (n : Now N P). record old { raised = new.raised; now = n }) h.1 in
        record {
          goes = λ q on. rw h.0 (on ball refl h.3 (rw h.1 tt));
          kept = λ s k. rw h.0 tt;
          falls = λ w less. rw h.0 (subst (λ (e : Search S L W M K P C N B O). weight l e < whole_cost (suc old.steps) w) (sym same) (whole_paid old.steps w (kept_cost l old + 1) (omega (arith, less))));
          frames = λ fact. rw h.0 tt;
          met = λ full. rw h.0 tt;
        }
    throws_by fault.Full h = record {
      goes = λ q on. rw h.0 tt;
      kept = λ s k. rw h.0 (subst (λ (e : Search S L W M K P C N B O). Remains g l e s) (sym h.1) k);
      falls = λ w less. rw h.0 tt;
      frames = λ fact. rw h.0 tt;
      met = λ full. rw h.0 (subst (λ (e : Search S L W M K P C N B O). g.full e.store) (sym h.1) (full refl));
    }
    throws_by fault.NoMemory h = record {
      goes = λ q on. rw h.0 tt;
      kept = λ s k. rw h.0 (subst (λ (e : Search S L W M K P C N B O). Remains g l e s) (sym h.1) k);
      falls = λ w less. rw h.0 tt;
      frames = λ fact. rw h.0 tt;
      met = λ full. rw h.0 tt;
    }

  pub goal_throws : {old new : Search S L W M K P C N B O} {place : P} {result : Result Move StoreFault} {f : Fault} → Throws g l old f place result new → GoalThrows old new place result f
  goal_throws {old = old} {new = new} {place = place} {result = result} {f = f} h = throws_by old new place result f h
