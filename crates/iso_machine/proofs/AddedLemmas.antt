-- An engine to whose store words came, and whose lists keep what they have.
use Rattle.std.proofs.Common.{◌≡◌, ◌≢◌, ◌≤◌, ◌<◌, ◌+◌, ◌-◌, ◌⊎◌, ℕ, List, refl, ap, ◌∙◌, subst, arith, inl, inr}
use Rattle.std.proofs.Math.Nat.{eq-or-lt_of_le}
use Rattle.iso_model.specs.Search.Walker.{State, Member}
use Rattle.iso_store_core.specs.Presents.{Grows, KeepsMarks}
use Rattle.iso_store_core.specs.Retaining.{CountsCells, RetainsAll}
use Rattle.iso_store_core.specs.declared.stores.Store.{Ghosts}
use Rattle.iso_writing.specs.Writing.{Adds}
use Rattle.iso_search_core.specs.Bodies.{whole_cost}
use Rattle.iso_search_core.specs.Fitting.{FitsState}
use Rattle.iso_search_core.specs.Standing as standing
use Rattle.iso_search_core.specs.Standing.{HaveRoom}
use Rattle.iso_search_core.specs.declared.lists.Lists as lists
use Rattle.iso_search_core.proofs.BodyCosts.{whole_more}
use Rattle.iso_search_core.proofs.FittingLemmas.{fits_fewer, fits_paid}
use Rattle.iso_search_core.proofs.StandingLemmas.{keeps_none}
use Rattle.iso_search_core.proofs.WordLemmas.{variables_more}
use Rattle.iso_search.specs.EngineStates.{IsAhead, Keeps, Remains, cost, weight}
use Rattle.iso_search.specs.Stays.{Stays}
use Rattle.iso_search.specs.declared.search.Search.{Search}
use Rattle.iso_search.proofs.BackLemmas.{room_less}
use Rattle.iso_search.proofs.RunLemmas.{one_less}
use Rattle.iso_search.proofs.StoppedLemmas.{base_kept, keeps_more}
use Rattle.iso_search.proofs.WorldLemmas.{world_on, choices_grown, same_texts}

module _ {S L W M K P C N B O : Type 0} (g : Ghosts S W M) (l : lists.Ghosts L S K P C N B O W M) where
  -- At most so many cells came to the store, and no atom; marks and lists stand on.
  pub record IsGrown (e : Search S L W M K P C N B O) (store : S) (more : L) (made : ℕ) : Type 0 where
    pub names : g.names store ≡ g.names e.store
    pub marks : KeepsMarks (g.stands e.store) (g.stands store)
    pub lists : standing.Keeps l e.lists more
    pub cells : CountsCells g → Grows (g.present e.store) (g.present store) made 0

  -- the lists are as they were
  pub store_grown : (e : Search S L W M K P C N B O) (store : S) (made : ℕ) → RetainsAll g e.store store
      → (CountsCells g → Grows (g.present e.store) (g.present store) made 0) → IsGrown e store e.lists made
  store_grown e store made retains cells = record {
    names = retains.names;
    marks = retains.marks;
    lists = keeps_none l e.lists;
    cells = cells;
  }

  module _ {e : Search S L W M K P C N B O} {store : S} {more : L} {made : ℕ} (grown : IsGrown e store more made) where
    -- with another list, which is to take so few of the cells that were still to be taken
    pub ahead_added : (s : State) (place other : P) (few : ℕ) (ms : List Member) → IsAhead g l e s place
        → Adds (g.present e.store) (g.present store) → FitsState g (g.present e.store) (made + few) s
        → l.pending more other ≤ few → l.list (g.present store) more (l.whole more) other ms
        → IsAhead g l (record e { store = store; lists = more }) (record s { list = ms }) other
    ahead_added s place other few ms h adds fits less chain = record {
      world = world_on l (same_texts grown.names) h.world;
      steps = h.steps;
      base = base_kept g e.store store e.base grown.marks h.base;
      choices =
          choices_grown l (same_texts grown.names) grown.lists (λ d p among there. grown.marks d.mark p there)
          h.choices;
      room = h.room;
      fits = λ counts. fits_paid g (g.present e.store) (g.present store) s (grown.cells counts) less fits counts;
      goes = record {
        subst = adds.substitution ∙ h.goes.subst;
        next = adds.numbers.next ∙ h.goes.next;
        room = h.goes.room;
        words = variables_more adds.words h.goes.words;
      };
      chain = chain;
    }

    -- cells that were still to be taken
    pub fits_grown : (s : State) (few : ℕ) → FitsState g (g.present e.store) (made + few) s
        → FitsState g (g.present store) few s
    fits_grown s few fits counts =
        fits_paid g (g.present e.store) (g.present store) s (grown.cells counts) (omega arith) fits counts

    -- what is left of an engine that stops
    pub remains_grown : (s : State) → Keeps g l e s.world s.stack → FitsState g (g.present e.store) made s
        → Remains g l (record e { store = store; lists = more }) s
    remains_grown s keeps fits = (
      keeps_more g l e store more s.world s.stack keeps grown.marks (same_texts grown.names) grown.lists,
      fits_grown s 0 (fits_fewer g (g.present e.store) s {few = made + 0} (omega arith) fits),
    )

    pub stays_grown : Stays g e (record e { store = store; lists = more })
    stays_grown = record {
      limit = refl;
      vocabulary = refl;
      names_kept = same_texts grown.names;
      base = λ p stood. grown.marks e.base p stood;
      within = λ within. within;
    }

  -- a step is taken
  pub ahead_taken : (e : Search S L W M K P C N B O) (s : State) (place : P) → IsAhead g l e s place → e.steps ≢ 0
      → IsAhead g l (record e { steps = e.steps - 1 }) (record s { steps = e.steps - 1 }) place
  ahead_taken e s place h more =
      let many = one_less e.steps more in
      record {
        world = h.world;
        steps = refl;
        base = h.base;
        choices = h.choices;
        room = room_less (e.steps - 1) s.stack (subst (λ (k : ℕ). HaveRoom k s.stack) many h.room);
        fits = h.fits;
        goes = record {
          subst = h.goes.subst;
          next = h.goes.next;
          room = (let room = h.goes.room in let all = h.steps in omega (arith, room, all, many));
          words = h.goes.words;
        };
        chain = h.chain;
      }

module _ {S L W M K P C N B O : Type 0} (l : lists.Ghosts L S K P C N B O W M) where
  -- as many steps, and no more to be done before the next
  pub weight_less : (e new : Search S L W M K P C N B O) → new.steps ≡ e.steps → cost l new ≤ cost l e
      → weight l new ≤ weight l e
  weight_less e new steps less = rw steps (by_cost (eq-or-lt_of_le less)) where
    by_cost : (cost l new ≡ cost l e) ⊎ (cost l new < cost l e)
        → whole_cost e.steps (cost l new) ≤ whole_cost e.steps (cost l e)
    by_cost (inl same) = (let whole = ap (whole_cost e.steps) same in omega (arith, whole))
    by_cost (inr below) = (let whole = whole_more e.steps (cost l new) (cost l e) below in omega (arith, whole))
