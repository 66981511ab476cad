-- The list ahead of the engine, as bindings and lists come.
use Rattle.std.proofs.Common.{◌≡◌, ℕ, ◌+◌, ◌*◌, ◌≤◌, List, ap, ◌∙◌, subst, arith}
use Rattle.iso_store_core.specs.declared.stores.Store.{Ghosts}
use Rattle.iso_search.specs.EngineStates.{IsAhead}
use Rattle.iso_lib_core.specs.Replies.{IsUnbound}
use Rattle.iso_store_core.specs.Retaining.{RetainsAll}
use Rattle.iso_store_core.specs.Presents.{KeepsMarks, KeepsWords, Present}
use Rattle.iso_atoms.specs.Texts.{KeepsTexts}
use Rattle.iso_model.specs.Search.Walker.{Member, State}
use Rattle.iso_search_core.specs.Fitting.{FitsState}
use Rattle.iso_search_core.specs.Standing.{most_numbers, numbers_a_step}
use Rattle.iso_search.specs.declared.search.Search.{Search}
use Rattle.iso_model.specs.Terms.Substitutions.{Subst}
use Rattle.iso_search_core.specs.declared.lists.Lists as lists
use Rattle.iso_search_core.specs.Standing as standing
use Rattle.iso_search_core.proofs.WordLemmas.{variables_more}
use Rattle.iso_search.proofs.StoppedLemmas.{base_kept}
use Rattle.iso_search.proofs.WorldLemmas.{world_on, choices_grown, same_texts}

-- a list that stands stands on as words and lists come, by the laws of lists
pub list_on : {S L W M K P C N B O : Type 0} (l : lists.Ghosts L S K P C N B O W M) → ((x : L) → l.within x (l.whole x)) → ((x : L) (k : K) → l.within x k → l.below k (l.whole x))
    → ((p : Present W) (x : L) (j k : K) (i : P) (ms : List Member) → l.below j k → l.list p x j i ms → l.list p x k i ms)
    → ((p q : Present W) (x : L) (k : K) (i : P) (ms : List Member) → KeepsWords p q → l.list p x k i ms → l.list q x k i ms)
    → (p q : Present W) (old new : L) (place : P) (ms : List Member) → KeepsWords p q → standing.Keeps l old new → l.list p old (l.whole old) place ms → l.list q new (l.whole new) place ms
list_on l all top more on p q old new place ms words keeps list =
    more q new (l.whole old) (l.whole new) place ms (top new (l.whole old) (keeps.stands (l.whole old) tt (all old)))
    (keeps.lists q (l.whole old) place ms tt (all old) (on p q old (l.whole old) place ms words list))

module _ {S L W M K P C N B O : Type 0} (g : Ghosts S W M) (l : lists.Ghosts L S K P C N B O W M) where
  -- bindings, lists and numbers came, and cells that fit what is built then
  pub ahead_bound : (e : Search S L W M K P C N B O) (store : S) (more : L) (s : State) (place : P) (m built : ℕ) (q : Subst) → IsAhead g l e s place
      → KeepsMarks (g.stands e.store) (g.stands store) → KeepsTexts (g.names e.store) (g.names store) → standing.Keeps l e.lists more → FitsState g (g.present store) (l.pending more place) (record s { built = built })
      → l.list (g.present store) more (l.whole more) place s.list → KeepsWords (g.present e.store) (g.present store) → (g.present store).substitution ≡ q → (g.present store).next ≡ (g.present e.store).next + m
      → s.next + m + numbers_a_step * e.steps ≤ most_numbers → IsAhead g l (record e { store = store; lists = more }) (record s { subst = q; next = s.next + m; built = built }) place
  ahead_bound e store more s place m built q h keeps texts grows fits chain words substitution next space = record {
    world = world_on l texts h.world;
    steps = h.steps;
    base = base_kept g e.store store e.base keeps h.base;
    choices = choices_grown l texts grows (λ d p among stood. keeps d.mark p stood) h.choices;
    room = h.room;
    fits = fits;
    goes = record {
      subst = substitution;
      next = next ∙ ap (λ (n : ℕ). n + m) h.goes.next;
      room = (let steps = h.steps in omega (arith, space, steps));
      words = variables_more words h.goes.words;
    };
    chain = chain;
  }

  -- nothing was bound
  pub ahead_unbound : (e : Search S L W M K P C N B O) (store : S) (more : L) (s : State) (place : P) (built : ℕ) → IsAhead g l e s place
      → KeepsMarks (g.stands e.store) (g.stands store) → KeepsTexts (g.names e.store) (g.names store) → standing.Keeps l e.lists more
      → FitsState g (g.present store) (l.pending more place) (record s { built = built })
      → l.list (g.present store) more (l.whole more) place s.list → IsUnbound (g.present e.store) (g.present store) → IsAhead g l (record e { store = store; lists = more }) (record s { built = built }) place
  ahead_unbound e store more s place built h keeps texts grows fits chain unbound =
      let room = h.goes.room in
      let steps = h.steps in
      let same = unbound.next in
      let none : s.next + 0 ≡ s.next = omega arith in
      subst (λ (n : ℕ). IsAhead g l (record e { store = store; lists = more }) (record s { next = n; built = built }) place) none
      (ahead_bound e store more s place 0 built s.subst h keeps texts grows fits chain unbound.words (unbound.substitution ∙ h.goes.subst) (omega (arith, same)) (omega (arith, room, steps)))

  -- a body or a goal was placed
  pub ahead_placed : (e : Search S L W M K P C N B O) (store : S) (more : L) (s : State) (place : P) (built : ℕ) → IsAhead g l e s place → RetainsAll g e.store store → standing.Keeps l e.lists more
      → FitsState g (g.present store) (l.pending more place) (record s { built = built })
      → l.list (g.present store) more (l.whole more) place s.list → IsUnbound (g.present e.store) (g.present store) → IsAhead g l (record e { store = store; lists = more }) (record s { built = built }) place
  ahead_placed e store more s place built h retains = ahead_unbound e store more s place built h retains.marks (same_texts retains.names)
