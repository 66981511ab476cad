-- What running a goal comes to that a word stands for.
use Rattle.std.proofs.Common.{◌≡◌, ◌≢◌, ◌-◌, None}
use Rattle.iso_ops.specs.declared.settings.Unknown.TheVariants as on_unknown
use Rattle.iso_model.specs.Terms.Trees.{Tree}
use Rattle.iso_model.specs.Search.Databases.{clauses_at, Key}
use Rattle.iso_model.specs.Search.Errors.{existence_error}
use Rattle.iso_model.specs.Search.BuiltIns.{reply}
use Rattle.iso_model.specs.declared.built_ins.BuiltIn.{BuiltIn}
use Rattle.iso_model.specs.declared.built_ins.BuiltIn.TheVariants as built_in
use Rattle.iso_model.specs.declared.pauses.Pause.TheVariants as pause
use Rattle.iso_model.specs.Search.Engines.{IsAwake}
use Rattle.iso_model.specs.Search.Walker.{State, World, Outcome, Goes, charged, idle, run_value, step}
use Rattle.iso_store_core.specs.Presents.{meaning}
use Rattle.iso_store_core.specs.Retaining.{Takes}
use Rattle.iso_store_core.specs.declared.stores.Store.{Ghosts}
use Rattle.iso_search_core.specs.Cells.{reply_cells}
use Rattle.iso_search_core.specs.GoalKinds.{IsUser, IsBuiltIn}
use Rattle.iso_search_core.specs.declared.lists.Lists as lists
use Rattle.iso_search_core.specs.declared.nows.Now.TheVariants as now
use Rattle.iso_search.specs.Called.{FailsAt}
use Rattle.iso_search.specs.Catches.{throwing}
use Rattle.iso_search.specs.EngineStates.{IsEngine, Keeps, Moves, phase_of, Refused, Represents}
use Rattle.iso_search.specs.Nexts.{IsGoalFirst, IsAtGoal}
use Rattle.iso_search.specs.Replying.{TookStep}
use Rattle.iso_search.specs.Worlds.{IsWorld}
use Rattle.iso_search.specs.declared.search.Move.TheVariants as move
use Rattle.iso_search.specs.declared.search.Search.{Search}
use Rattle.iso_search.proofs.Moves.Value.{
  IsAtValue,
  TookStepAt,
  value_of,
  value_spends,
  value_comes,
  value_goes,
  value_refused_reply,
  value_fail,
  value_unknown,
  value_misses,
}

module _ {S L W M K P C N B O : Type 0} (g : Ghosts S W M) (l : lists.Ghosts L S K P C N B O W M) where
  module _ (e : Search S L W M K P C N B O) (s : State) (w : W) (rest : P) (first : IsGoalFirst g l e w rest)
      (r : Represents g l e s) where
    abbrev pub own : State
    own = r.own

    abbrev pub at : IsAtGoal g l e w rest own
    at = first.at own r.engine

    abbrev pub call : Tree
    call = meaning (g.present e.store) w

    -- it is a goal of this value
    abbrev pub first_value : IsAtValue g l e call rest own
    first_value = value_of g l at

    -- no step is left
    pub spends : (new : Search S L W M K P C N B O) → e.steps ≡ 0
        → ((v : World) → IsWorld g l e v → IsEngine g l new (idle v)) → new.now ≡ now.Idle
        → Moves g l (move.Pauses pause.Budget) s new
    spends = value_spends g l e own s call rest r.same first_value

    -- what the goal comes to
    pub comes_to : (x : Outcome) → e.steps ≢ 0 → run_value call at.at.behind own ≡ x
        → step own ≡ charged (e.steps - 1) x
    comes_to x more h = value_comes g l e own s call rest r.same first_value more x h

    -- what it goes to
    pub runs_to : (v : State) → e.steps ≢ 0 → run_value call at.at.behind own ≡ Goes v
        → step own ≡ Goes (record v { steps = e.steps - 1 })
    runs_to v more h = value_goes g l e own s call rest r.same first_value more v h

    -- it was refused, with no more cells than its reply counts
    pub refuses_reply : (new : Search S L W M K P C N B O) (b : BuiltIn) → e.steps ≢ 0 → IsBuiltIn call b
        → Takes g e.store new.store (reply_cells (reply b call)) → Keeps g l new own.world own.stack → Refused g l new s
    refuses_reply new b more = value_refused_reply g l e own s call rest r.same first_value more new b

    -- the ball of an unknown procedure is thrown
    pub throws_unknown : (new : Search S L W M K P C N B O) (ball : Tree) → e.steps ≢ 0
        → (k : Key) × IsUser call k × (clauses_at own.world.database.procedures k ≡ None)
        × (own.world.flags.unknown ≡ on_unknown.Error) × (ball ≡ existence_error k)
        → IsEngine g l new (throwing ball (record own { list = at.at.behind; steps = e.steps - 1 }))
        → IsAwake (phase_of new.now) → Moves g l move.Goes s new
    throws_unknown new ball more = value_unknown g l e own s call rest r.same first_value more new ball

    -- fail/0
    pub fails_own : e.steps ≢ 0 → IsBuiltIn call built_in.Fail
        → Moves g l move.Goes s (record e { steps = e.steps - 1; now = now.Failing })
    fails_own = value_fail g l e own s call rest r.same first_value

    -- one that fails
    pub fails_unknown : e.steps ≢ 0 → FailsAt own.world call
        → Moves g l move.Goes s (record e { steps = e.steps - 1; now = now.Failing })
    fails_unknown = value_misses g l e own s call rest r.same first_value

  -- so is its step
  pub step_at : {e mid : Search S L W M K P C N B O} {w : W} {rest : P} {b : BuiltIn}
      (took : TookStep g l e mid w rest b) (s : State) (r : Represents g l e s)
      → TookStepAt g l e mid (call e s w rest took.first r) rest (at e s w rest took.first r).at.behind b
  step_at {e = e} {w = w} {rest = rest} took s r =
      let a = (at e s w rest took.first r).at in
      record {
        more = took.more;
        is_own = took.is_own;
        same = took.same;
        keeps = took.keeps;
        texts = took.texts;
        grows = took.grows;
        cost = took.cost;
        pending = took.pending;
        cells = took.cells;
        chain = λ words. took.behind a.behind words a.ahead.chain;
      }
