-- The engine fails: it goes on with the newest choice, or the run ends.
use Rattle.std.proofs.Common.{◌≡◌, ◌+◌, suc, List, ◌∷◌, length, ap, ◌∙◌, arith}
use Rattle.std.proofs.lemmas.List.{nil_from_length}
use Rattle.iso_model.specs.Search.Walker.{Again, Alternative, AsIs, Budget, Catching, fails, idle, NoMore, pushed, State, World}
use Rattle.iso_store_core.specs.declared.stores.Store.{Ghosts}
use Rattle.iso_model.specs.Search.Engines.{IsAwake}
use Rattle.iso_search.specs.EngineStates.{IsEngine, Moves, phase_of, Represents, went_back}
use Rattle.iso_search.specs.Worlds.{IsWorld}
use Rattle.iso_search.specs.declared.search.Search.{Search}
use Rattle.iso_model.specs.Terms.Trees.{Tree}
use Rattle.iso_model.proofs.Search.RunLaws.Likeness.{alike_fewer}
use Rattle.iso_model.specs.declared.pauses.Pause.TheVariants as pause
use Rattle.iso_search_core.specs.declared.lists.Lists as lists
use Rattle.iso_search_core.specs.declared.nows.Now.TheVariants as now
use Rattle.iso_search_core.proofs.StandingLemmas.{no_choices, choices_length}
use Rattle.iso_search.specs.declared.search.Move.TheVariants as move
use Rattle.iso_search.proofs.EndLemmas.{next_is}
use Rattle.iso_search.proofs.SearchSteps.{again_step, spent_step, last_step, back_step}
use Rattle.iso_search.proofs.Moves.Search.{goes, ends}

module _ {S L W M K P C N B O : Type 0} (g : Ghosts S W M) (l : lists.Ghosts L S K P C N B O W M) where
  -- no choice is left: the run ends
  pub ends_run : (e new : Search S L W M K P C N B O) (s : State) (r : Represents g l e s) → e.now ≡ now.Failing → length e.choices.items ≡ 0
      → ((w : World) → IsWorld g l e w → IsEngine g l new (idle w)) → new.now ≡ now.Idle
      → Moves g l (move.Pauses pause.NoMore) s new
  ends_run e new s r is none idles rests =
      let first = next_is g l e r.own now.Failing is r.engine in
      let step = last_step r.own first.0 first.1 (no_choices l (nil_from_length e.choices.items none) r.engine.choices) in
      (ends g l new r.own s NoMore r.same step rests (idles r.own.world r.engine.world), ap phase_of rests)

  -- an engine that stands for an idle state has no choice
  pub idle_choices : (e : Search S L W M K P C N B O) (w : World) → Represents g l e (idle w) → length e.choices.items ≡ 0
  idle_choices e w r = (
      let many = choices_length l r.engine.choices in
      let fewer = alike_fewer r.own (idle w) r.same in
      omega (arith, many, fewer))

  -- ---- lists that a choice kept

  module _ (e new : Search S L W M K P C N B O) (s : State) (r : Represents g l e s) (a : Alternative) (below : List Alternative) (is : e.now ≡ now.Failing) (stack : r.own.stack ≡ a ∷ below) where
    pub resumes_on : a.left ≡ AsIs → IsEngine g l new (went_back a below r.own) → IsAwake (phase_of new.now) → Moves g l move.Goes s new
    resumes_on left engine awake =
        let first = next_is g l e r.own now.Failing is r.engine in
        goes g l e new s r (went_back a below r.own) (back_step r.own first.0 a below AsIs first.1 stack left) engine awake

    pub repeats_on : a.left ≡ Again → new.steps + 1 ≡ e.steps
        → IsEngine g l new (record (pushed a.list Again (went_back a below r.own)) { steps = new.steps }) → IsAwake (phase_of new.now)
        → Moves g l move.Goes s new
    repeats_on left more engine awake =
        let first = next_is g l e r.own now.Failing is r.engine in
        let steps : (r.own).steps ≡ suc new.steps = (let all = r.engine.steps in omega (arith, all, more)) in
        goes g l e new s r (record (pushed a.list Again (went_back a below r.own)) { steps = new.steps })
        (again_step r.own first.0 a below new.steps first.1 stack left steps) engine awake

    -- nothing is left at the entry of a catch
    pub passes_on : (catcher recovery : Tree) → a.left ≡ Catching catcher recovery → IsEngine g l new (fails (went_back a below r.own))
        → IsAwake (phase_of new.now) → Moves g l move.Goes s new
    passes_on catcher recovery left engine awake =
        let first = next_is g l e r.own now.Failing is r.engine in
        goes g l e new s r (fails (went_back a below r.own)) (back_step r.own first.0 a below (Catching catcher recovery) first.1 stack left) engine awake

    -- no step is left for that
    pub spends_on : a.left ≡ Again → e.steps ≡ 0 → IsEngine g l new (idle (r.own).world) → new.now ≡ now.Idle → Moves g l (move.Pauses pause.Budget) s new
    spends_on left none idles rests =
        let first = next_is g l e r.own now.Failing is r.engine in
        (ends g l new r.own s Budget r.same (spent_step r.own first.0 a below first.1 stack left (r.engine.steps ∙ none)) rests idles, ap phase_of rests)
