-- The engine is at a goal.
use Rattle.std.proofs.Common.{◌≡◌, ◌≢◌, ◌-◌, ◌+◌, ◌≤◌, ℕ, zero, suc, refl, ap, ◌∙◌, subst, arith}
use Rattle.iso_store_core.specs.declared.stores.Store.{Ghosts}
use Rattle.iso_search_core.specs.Standing.{HaveRoom, numbers_a_step}
use Rattle.iso_search.specs.EngineStates.{IsAhead}
use Rattle.iso_store_core.specs.Presents.{KeepsMarks, KeepsWords}
use Rattle.iso_store_core.specs.Retaining.{Takes}
use Rattle.iso_atoms.specs.Texts.{KeepsTexts}
use Rattle.iso_search.specs.declared.search.Search.{Search}
use Rattle.iso_model.specs.Search.Walker.{State}
use Rattle.iso_model.specs.Terms.Substitutions.{Subst}
use Rattle.iso_search_core.specs.declared.lists.Lists as lists
use Rattle.iso_search_core.specs.Standing as standing
use Rattle.iso_search_core.proofs.FittingLemmas.{fits_taken}
use Rattle.iso_search_core.proofs.WordLemmas.{variables_more}
use Rattle.iso_search.proofs.BackLemmas.{room_less}
use Rattle.iso_search.proofs.StoppedLemmas.{base_kept}
use Rattle.iso_search.proofs.WorldLemmas.{world_on, choices_grown}

pub one_less : (n : ℕ) → n ≢ 0 → n ≡ suc (n - 1)
one_less zero h = absurd (h refl)
one_less (suc n) h = omega (arith)

module _ {S L W M K P C N B O : Type 0} (g : Ghosts S W M) (l : lists.Ghosts L S K P C N B O W M) where
  -- a step was taken, bindings, lists and numbers came, and cells that are counted, and the list behind the goal comes next
  pub ahead_more : (e : Search S L W M K P C N B O) (store : S) (more : L) (s : State) (place : P) (n made built count : ℕ) (q : Subst) → IsAhead g l e s place → e.steps ≡ suc n
      → KeepsMarks (g.stands e.store) (g.stands store) → KeepsTexts (g.names e.store) (g.names store) → standing.Keeps l e.lists more → Takes g e.store store made → s.built + made ≤ built → l.pending more place ≡ l.pending e.lists place
      → l.list (g.present store) more (l.whole more) place s.list → KeepsWords (g.present e.store) (g.present store) → (g.present store).substitution ≡ q
      → (g.present store).next ≡ (g.present e.store).next + count → count ≤ numbers_a_step
      → IsAhead g l (record e { store = store; lists = more; steps = n }) (record s { subst = q; next = s.next + count; built = built; steps = n }) place
  ahead_more e store more s place n made built count q h many keeps texts grows takes counted pending chain words substitution next few = record {
    world = world_on l texts h.world;
    steps = refl;
    base = base_kept g e.store store e.base keeps h.base;
    choices = choices_grown l texts grows (λ d p among stood. keeps d.mark p stood) h.choices;
    room = room_less n s.stack (subst (λ (k : ℕ). HaveRoom k s.stack) many h.room);
    fits = fits_taken g s (record s { subst = q; next = s.next + count; built = built; steps = n }) takes (omega (arith, pending)) refl counted h.fits;
    goes = record {
      subst = substitution;
      next = next ∙ ap (λ (m : ℕ). m + count) h.goes.next;
      room = (let room = h.goes.room in let all = h.steps in omega (arith, room, all, many, few));
      words = variables_more words h.goes.words;
    };
    chain = chain;
  }

  -- the same where no number came
  pub ahead_step : (e : Search S L W M K P C N B O) (store : S) (more : L) (s : State) (place : P) (n made built : ℕ) (q : Subst) → IsAhead g l e s place → e.steps ≡ suc n
      → KeepsMarks (g.stands e.store) (g.stands store) → KeepsTexts (g.names e.store) (g.names store) → standing.Keeps l e.lists more → Takes g e.store store made → s.built + made ≤ built → l.pending more place ≡ l.pending e.lists place
      → l.list (g.present store) more (l.whole more) place s.list → KeepsWords (g.present e.store) (g.present store) → (g.present store).substitution ≡ q → (g.present store).next ≡ (g.present e.store).next
      → IsAhead g l (record e { store = store; lists = more; steps = n }) (record s { subst = q; built = built; steps = n }) place
  ahead_step e store more s place n made built q h many keeps texts grows takes counted pending chain words substitution next =
      let none : s.next + 0 ≡ s.next = omega arith in
      let same : (g.present store).next ≡ (g.present e.store).next + 0 = omega (arith, next) in
      subst (λ (m : ℕ). IsAhead g l (record e { store = store; lists = more; steps = n }) (record s { subst = q; next = m; built = built; steps = n }) place) none
      (ahead_more e store more s place n made built 0 q h many keeps texts grows takes counted pending chain words substitution same (omega arith))
