-- A catcher meets a ball.
use Rattle.std.proofs.Common.{◌≡◌, ℕ, ◌+◌, ◌*◌, ◌≤◌, List, ◌∷◌, length, codes, Option, true, refl, ap, sym, ◌∙◌, subst, arith}
use Rattle.std.proofs.lemmas.Bool.{false≢true}
use Rattle.iso_model.specs.Terms.Substitutions.{apply, compose, Subst}
use Rattle.iso_model.specs.Terms.Unification.Applied.{apply_apply}
use Rattle.iso_model.specs.Terms.Trees.{arities_fit, Tree, Variable, Integer, Apply, End, More}
use Rattle.iso_model.specs.Terms.Sorts.{is_term}
use Rattle.iso_model.specs.declared.pauses.Ball.{Ball}
use Rattle.iso_store_core.specs.declared.stores.Store.{Ghosts}
use Rattle.iso_model.specs.Search.Walker.{Goal, Member, State}
use Rattle.iso_search_core.specs.Standing.{GoesOn}
use Rattle.iso_search.specs.EngineStates.{IsAhead, IsEngine, Keeps}
use Rattle.iso_search.specs.declared.search.Search.{Search}
use Rattle.iso_model.specs.Terms.TermOf.{term_of}
use Rattle.iso_model.specs.Terms.Sizes.{size}
use Rattle.iso_model.specs.Terms.Variables.{variable_count}
use Rattle.iso_model.specs.Search.Bodies.{Run, one}
use Rattle.iso_store_core.specs.Presents.{Present, Grows, KeepsWords, Makes, meaning}
use Rattle.iso_store_core.specs.Retaining.{CountsCells, Retains, RetainsAll}
use Rattle.iso_store_core.proofs.RetainLemmas.{variables_within, wide-within}
use Rattle.iso_lib_core.specs.Cells.{copy_cells}
use Rattle.iso_search_core.specs.Cells.{IsBound}
use Rattle.iso_search_core.specs.Fitting.{FitsState}
use Rattle.iso_search_core.proofs.FittingLemmas.{fits_fewer, fits_more, fits_paid}
use Rattle.iso_search_core.specs.declared.lists.Lists as lists
use Rattle.iso_search_core.specs.declared.nows.Now.TheVariants as now
use Rattle.iso_search_core.specs.Standing as standing
use Rattle.iso_search_core.proofs.StandingLemmas.{keeps_none}
use Rattle.iso_search.specs.Catches.{MeetsBall, Recovers, Calling, Unified, recovery_of, throwing}
use Rattle.iso_search.proofs.AheadLemmas.{keeps_ahead, engine_throws}
use Rattle.iso_search.proofs.BoundLemmas.{ahead_bound, ahead_placed}
use Rattle.iso_search.proofs.Moves.Local.{called_as}
use Rattle.iso_search.proofs.StoppedLemmas.{base_kept, keeps_store}
use Rattle.iso_search.proofs.WorldLemmas.{world_on, choices_kept}

-- a bound term counts for its copy, for its variables and for the call of a recovery
copy_spare : (t : Tree) → IsBound t → is_term t ≡ true → 2 + (copy_cells t + variable_count t) ≤ 2 * size t
copy_spare (Variable n) bound is = absurd bound
copy_spare (Apply f ts) bound is = let few : variable_count (Apply f ts) ≤ size ts = variables_within ts in omega (arith, few)
copy_spare End bound is = absurd (false≢true is)
copy_spare (More t ts) bound is = absurd (false≢true is)
copy_spare (Integer z) bound is = omega (arith, wide-within z)
copy_spare t bound is = omega arith

module _ {S W M : Type 0} (g : Ghosts S W M) where
  -- The ball is counted, and a copy of it was made; the call of a recovery is still to be.
  pub fits_met : (p q : Present W) (pending : ℕ) (s : State) (ball : Tree) → IsBound ball → is_term ball ≡ true → (CountsCells g → Grows p q (copy_cells ball) (variable_count ball)) → FitsState g p pending s
      → FitsState g q (2 + pending) (record s { built = s.built + size ball })
  fits_met p q pending s ball bound is grows fits counts =
      (let all = fits counts in let cells = (grows counts).cells in let variables = (grows counts).variables in let spare = copy_spare ball bound is in omega (arith, all, cells, variables, spare))

module _ {S L W M K P C N B O : Type 0} (g : Ghosts S W M) (l : lists.Ghosts L S K P C N B O W M) where
  -- ---- the recovery is called

  module _ (e : Search S L W M K P C N B O) (recovery : W) (s : State) (place : P) (h : Recovers g l e recovery s place) (store : S) (call : W) (retains : RetainsAll g e.store store)
      (made : Makes (g.present e.store) (g.present store) call (one (codes "call") ((g.present e.store).term recovery))) where
    -- its goal was placed, before the list behind the catch
    pub recovery_ahead : (more : L) → (g.present store).next ≡ (g.present e.store).next → standing.Keeps l e.lists more → Grows (g.present e.store) (g.present store) 2 0 → l.pending more place ≡ l.pending e.lists place
        → l.list (g.present store) more (l.whole more) place s.list → IsAhead g l (record e { store = store; lists = more }) s place
    recovery_ahead more same grows cells pending chain =
        ahead_placed g l e store more s place s.built h.ahead retains grows (fits_paid g (g.present e.store) (g.present store) s cells (omega (arith, pending)) h.fits) chain (record { words = made.words; substitution = made.substitution; next = same })

    pub calls_recovery : (new : Search S L W M K P C N B O) (n : ℕ) → n ≡ length e.choices.items → IsEngine g l new (record s { list = Goal (Run ((g.present store).term call)) n ∷ s.list })
        → Calling g l new (one (codes "call") (meaning (g.present e.store) recovery)) s
    calls_recovery new n many is = record {
      term = (g.present store).term call;
      value = ap (apply s.subst) made.term ∙ ap (λ (r : Subst). one (codes "call") (apply r ((g.present e.store).term recovery))) (sym h.ahead.goes.subst);
      engine = called_as g l e new s place n (Run ((g.present store).term call)) h.ahead many is;
    }

  -- ---- the ball meets the catcher

  module _ (e : Search S L W M K P C N B O) (goal : W) (ball : Tree) (s : State) (place : P) (h : MeetsBall g l e goal ball s place) (mid : Search S L W M K P C N B O) (is : mid ≡ record e { store = mid.store })
      (retains : Retains g e.store mid.store) where
    -- whatever became of it
    pub keeps_met : Keeps g l mid s.world s.stack
    keeps_met = subst (λ (x : Search S L W M K P C N B O). Keeps g l x s.world s.stack) (sym is) (keeps_store g l e mid.store s.world s.stack (keeps_ahead g l e s place h.ahead) retains.marks retains.names)

    -- they were unified, and the recovery is called
    pub unified_recovers : FitsState g (g.present mid.store) (2 + l.pending e.lists place) (record s { built = s.built + size ball }) → ((p q : Present W) (x : L) (k : K) (i : P) (ms : List Member) → KeepsWords p q → l.list p x k i ms → l.list q x k i ms) → (recovery : W) → (g.present e.store).holds recovery ≡ true
        → (u : Unified (g.present e.store) (g.present mid.store) goal ball) → Recovers g l mid recovery (record s { subst = compose s.subst u.unifier; next = s.next + variable_count ball; built = s.built + size ball }) place
    unified_recovers fits words recovery holds u =
        let space = h.space in
        let few = u.few in
        let steps = h.ahead.steps in
        let t : State = record s { subst = compose s.subst u.unifier; next = s.next + variable_count ball; built = s.built + size ball } in
        let chain = words (g.present e.store) (g.present mid.store) e.lists (l.whole e.lists) place s.list u.words h.ahead.chain in
        subst (λ (x : Search S L W M K P C N B O). Recovers g l x recovery t place) (sym is) (record {
          ahead = ahead_bound g l e mid.store e.lists s place (variable_count ball) (s.built + size ball) (compose s.subst u.unifier) h.ahead retains.marks retains.names (keeps_none l e.lists) (fits_fewer g (g.present mid.store) t (omega arith) fits) chain u.words
              (u.substitution ∙ ap (λ (r : Subst). compose r u.unifier) h.ahead.goes.subst) u.next (omega (arith, space, few));
          fits = fits;
          holds = u.words.stand recovery holds;
        })

    -- what the recovery means then
    pub recovery_moved : (recovery : W) → (g.present e.store).holds recovery ≡ true → meaning (g.present e.store) recovery ≡ recovery_of (g.present e.store) goal → (u : Unified (g.present e.store) (g.present mid.store) goal ball)
        → meaning (g.present mid.store) recovery ≡ apply u.unifier (recovery_of (g.present e.store) goal)
    recovery_moved recovery holds value u =
        ap (λ (r : Subst). apply r ((g.present mid.store).term recovery)) u.substitution ∙ ap (apply (compose (g.present e.store).substitution u.unifier)) (u.words.terms recovery holds)
        ∙ sym (apply_apply (g.present e.store).substitution u.unifier ((g.present e.store).term recovery)) ∙ ap (apply u.unifier) value

    -- the ball was counted, over a store that is as it was
    same_ahead : g.present mid.store ≡ g.present e.store → IsAhead g l (record e { store = mid.store }) (record s { built = s.built + size ball }) place
    same_ahead same =
        let a = h.ahead in
        record {
          world = world_on l retains.names a.world;
          steps = a.steps;
          base = base_kept g e.store mid.store e.base retains.marks a.base;
          choices = choices_kept l retains.names (λ d p among stood. retains.marks d.mark p stood) a.choices;
          room = a.room;
          fits = subst (λ (p : Present W). FitsState g p (l.pending e.lists place) (record s { built = s.built + size ball })) (sym same) (fits_more g (g.present e.store) (l.pending e.lists place) s (record s { built = s.built + size ball }) refl (omega arith) a.fits);
          goes = subst (λ (p : Present W). GoesOn p e.query.items (record s { built = s.built + size ball })) (sym same) (record { subst = a.goes.subst; next = a.goes.next; room = a.goes.room; words = a.goes.words });
          chain = subst (λ (p : Present W). l.list p e.lists (l.whole e.lists) place s.list) (sym same) a.chain;
        }

    -- they can't be, and the ball is thrown on
    pub thrown_on : g.present mid.store ≡ g.present e.store → IsEngine g l (record mid { now = now.Raising place }) (throwing ball (record s { built = s.built + size ball }))
    thrown_on same =
        let t : State = record s { built = s.built + size ball } in
        let thrown = engine_throws g l (record e { store = mid.store }) t place h.kept.0 (subst (λ (x : Tree). arities_fit x ≡ true) (sym h.kept.2) h.fits) (same_ahead same) in
        subst (λ (x : Search S L W M K P C N B O). IsEngine g l (record x { now = now.Raising place }) (throwing ball t)) (sym is)
        (subst (λ (x : Tree). IsEngine g l (record e { store = mid.store; now = now.Raising place }) (throwing x t)) h.kept.2
        (subst (λ (b : Option Ball). IsEngine g l (record e { store = mid.store; raised = b; now = now.Raising place }) (throwing (term_of (h.kept.0).term.value) t)) (sym h.kept.1) thrown))
