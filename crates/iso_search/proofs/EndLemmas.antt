-- What is true behind an answer, behind a ball that nothing catches, and in an idle engine.
use Rattle.std.proofs.Common.{◌≡◌, ℕ, zero, suc, ◌+◌, ◌<◌, List, [], ◌∷◌, length, get_or, map, Some, true, refl, ap, sym, ◌∙◌, subst, arith, Vec, Global, ◌≤◌}
use Rattle.std.specs.Prelude.{option_map}
use Rattle.iso_model.specs.Terms.Trees.{arities_fit, Tree}
use Rattle.iso_model.specs.declared.pauses.Ball.{Ball}
use Rattle.iso_search_core.specs.Standing.{DoesNext}
use Rattle.iso_store_core.specs.declared.stores.Store.{Ghosts}
use Rattle.iso_search.specs.EngineStates.{IsAhead, IsEngine, Moves, phase_of, Represents}
use Rattle.iso_search.specs.Worlds.{IsWorld}
use Rattle.iso_atoms.specs.Texts.{KeepsTexts}
use Rattle.iso_search_core.specs.declared.nows.Now.{Now}
use Rattle.iso_search.specs.declared.search.Search.{Search}
use Rattle.iso_model.specs.Terms.Substitutions.{Subst}
use Rattle.iso_model.specs.Terms.TermOf.{term_of}
use Rattle.iso_model.specs.Terms.Variables.{variables}
use Rattle.iso_model.specs.Search.Walker.{State, World, Member, Raise, Answered, NoMore, Uncaught, fails, idle, Fail}
use Rattle.iso_model.specs.declared.terms.Term.{Term}
use Rattle.iso_model.specs.declared.pauses.Pause.TheVariants as pause
use Rattle.iso_store_core.specs.Presents.{Present, Holds, KeepsMarks, meaning}
use Rattle.iso_store_core.specs.Retaining.{Takes}
use Rattle.iso_search_core.proofs.FittingLemmas.{fits_fewer, fits_taken}
use Rattle.iso_search_core.specs.declared.lists.Lists as lists
use Rattle.iso_search_core.specs.declared.nows.Now.TheVariants as now
use Rattle.iso_search.specs.declared.search.Move.TheVariants as move
use Rattle.iso_search_core.specs.Words.{AreVariables, no_word, one_word}
use Rattle.iso_search.specs.Catches.{IsUncaught}
use Rattle.iso_search.proofs.StoppedLemmas.{base_kept}
use Rattle.iso_search.proofs.WorldLemmas.{world_on, choices_kept}
use Rattle.iso_search.proofs.SearchSteps.{last_step, step_is}
use Rattle.iso_search.proofs.Moves.Search.{ends, gives}
use Rattle.iso_search.proofs.AheadLemmas.{engine_next}

-- ---- the values of the query's variables

-- words of variables stand for what the substitution has at their numbers
pub variables_mean : {W : Type 0} {p : Present W} {ws : List W} {ns : List ℕ} → AreVariables p ws ns → map (λ w. meaning p w) ws ≡ map p.substitution ns
variables_mean no_word = refl
variables_mean (one_word holds is others) = cc (is, variables_mean others)

pub variable_holds : {W : Type 0} {p : Present W} (ws : List W) (ns : List ℕ) (i : ℕ) (w : W) → AreVariables p ws ns → i < length ws → w ≡ get_or ws i w → Holds p w
variable_holds [] ns i w h within is = absurd (omega arith)
variable_holds {p = p} (v ∷ ws) ns zero w (one_word holds named others) within is = subst (λ (x : _). p.holds x ≡ true) (sym is) holds
variable_holds (v ∷ ws) ns (suc i) w (one_word {ns = ms} holds named others) within is = variable_holds ws ms i w others (omega arith) is

module _ {S L W M K P C N B O : Type 0} (g : Ghosts S W M) (l : lists.Ghosts L S K P C N B O W M) where
  -- what comes next, by the engine's phase
  pub next_is : (e : Search S L W M K P C N B O) (s : State) (n : Now N P) → e.now ≡ n → IsEngine g l e s → DoesNext l (g.present e.store) e.lists e.query.items n (option_map (λ b. term_of b.term.value) e.raised) s
  next_is e s n is engine = subst (λ (x : Now N P). DoesNext l (g.present e.store) e.lists e.query.items x (option_map (λ b. term_of b.term.value) e.raised) s) is engine.next

  -- ---- an answer

  pub failing_engine : (e : Search S L W M K P C N B O) (s : State) → IsEngine g l e s → IsEngine g l (record e { now = now.Failing }) (fails s)
  failing_engine e s is = record {
    world = is.world;
    steps = is.steps;
    base = is.base;
    choices = is.choices;
    room = is.room;
    fits = fits_fewer g (g.present e.store) s (omega arith) is.fits;
    next = ([], refl);
  }

  -- so it is with any list ahead
  pub failing_ahead : (e : Search S L W M K P C N B O) (s : State) (place : P) → IsAhead g l e s place → IsEngine g l (record e { now = now.Failing }) (fails s)
  failing_ahead e s place h = engine_next g l e s place e.raised now.Failing (Fail ∷ []) h (omega arith) ([], refl)

  -- and with another store that keeps its marks and names, and in which no more cells came than are counted
  pub keeps_fails : (e : Search S L W M K P C N B O) (store : S) (s : State) (place : P) {made : ℕ} (n : ℕ) → made ≤ n → IsAhead g l e s place → KeepsMarks (g.stands e.store) (g.stands store) → KeepsTexts (g.names e.store) (g.names store) → Takes g e.store store made
      → IsEngine g l (record e { store = store; now = now.Failing }) (fails (record s { built = s.built + n }))
  keeps_fails e store s place n few h keeps texts takes = record {
    world = world_on l texts h.world;
    steps = h.steps;
    base = base_kept g e.store store e.base keeps h.base;
    choices = choices_kept l texts (λ d p among stood. keeps d.mark p stood) h.choices;
    room = h.room;
    fits = fits_taken g s (fails (record s { built = s.built + n })) takes (omega arith) refl (omega arith) h.fits;
    next = ([], refl);
  }

  pub answers_engine : (e : Search S L W M K P C N B O) (s : State) (values : Vec Term Global) → e.now ≡ now.Answering
      → ((ns : List ℕ) → AreVariables (g.present e.store) e.query.items ns → map term_of values.items ≡ map (g.present e.store).substitution ns)
      → Represents g l e s → Moves g l (move.Pauses (pause.Answer values)) s (record e { now = now.Failing })
  answers_engine e s values doing are r =
      let o = r.own in
      let next = next_is e o now.Answering doing r.engine in
      let shown : map term_of values.items ≡ map o.subst (variables o.query) = are (variables o.query) next.1.words ∙ ap (λ (f : Subst). map f (variables o.query)) next.1.subst in
      (rw shown (gives g l (record e { now = now.Failing }) o (fails o) s (Answered (map o.subst (variables o.query))) r.same (step_is o [] next.0) refl (failing_engine e o r.engine)), refl)

  -- ---- a ball

  -- it is well formed
  pub ball_fits : (e : Search S L W M K P C N B O) (s : State) (place : P) (ball : Ball) → e.now ≡ now.Raising place → Represents g l e s → e.raised ≡ Some ball → arities_fit (term_of ball.term.value) ≡ true
  ball_fits e s place ball doing r kept =
      let next = next_is e r.own (now.Raising place) doing r.engine in
      let same : term_of ball.term.value ≡ next.0 = cc (ap (option_map (λ b. term_of b.term.value)) kept, next.4) in
      rw same next.5

  -- nothing catches it
  pub uncaught_engine : (e new : Search S L W M K P C N B O) (s : State) (place : P) (ball : Ball) (r : Represents g l e s) → e.now ≡ now.Raising place → e.raised ≡ Some ball
      → ((w : World) → IsWorld g l e w → IsEngine g l new (idle w)) → new.now ≡ now.Idle
      → ((t : Tree) (behind : List Member) → r.own.list ≡ Raise t ∷ behind → IsUncaught t behind r.own) → Moves g l (move.Pauses (pause.Uncaught ball)) s new
  uncaught_engine e new s place ball r doing kept cleared rests uncaught =
      let o = r.own in
      let next = next_is e o (now.Raising place) doing r.engine in
      let same : term_of ball.term.value ≡ next.0 = cc (ap (option_map (λ b. term_of b.term.value)) kept, next.4) in
      (rw same (ends g l new o s (Uncaught next.0) r.same (step_is o (Raise next.0 ∷ next.1) next.2 ∙ uncaught next.0 next.1 next.2) rests (cleared o.world r.engine.world)), ap phase_of rests)

  -- ---- an idle engine

  pub idle_moves : (e : Search S L W M K P C N B O) (s : State) → Represents g l e s → e.now ≡ now.Idle → Moves g l (move.Pauses pause.NoMore) s e
  idle_moves e s r doing =
      let o = r.own in
      let same = next_is e o now.Idle doing r.engine in
      let is : IsEngine g l e (idle o.world) = subst (λ (m : State). IsEngine g l e m) same r.engine in
      (ends g l e o s NoMore r.same (last_step o [] (ap (λ (m : State). m.list) same) (ap (λ (m : State). m.stack) same)) doing is, ap phase_of doing)
