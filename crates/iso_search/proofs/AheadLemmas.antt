-- The engine, as it goes on with the list from a place on, and as lists and choices come and go.
use Rattle.iso_model.specs.Search.Walker.{Alternative, cut_back, Member, pushed, query_size, shortened, State, Raise}
use Rattle.iso_program.specs.Leaving.{AreLeft}
use Rattle.iso_model.specs.Terms.Trees.{arities_fit}
use Rattle.iso_model.specs.declared.pauses.Ball.{Ball}
use Rattle.iso_store_core.specs.declared.stores.Store.{Ghosts}
use Rattle.iso_store_core.specs.Presents.{KeepsMarks, Present}
use Rattle.iso_atoms.specs.Texts.{KeepsTexts}
use Rattle.iso_search_core.specs.declared.choices.Left.{Left}
use Rattle.iso_search_core.specs.declared.nows.Now.{Now}
use Rattle.iso_search_core.specs.Costs.{now_pending}
use Rattle.iso_search_core.specs.Fitting.{FitsLeft, FitsState}
use Rattle.iso_search_core.specs.Own.{own_of}
use Rattle.iso_search.specs.declared.search.Search.{Search}
use Rattle.iso_model.specs.Terms.TermOf.{term_of}
use Rattle.iso_search.specs.Catches.{throwing}
use Rattle.iso_model.specs.Terms.Variables.{variables}
use Rattle.std.proofs.Common.{◌≡◌, ℕ, suc, ◌+◌, ◌*◌, ◌-◌, ◌≤◌, List, ◌∷◌, length, take, drop, Some, true, refl, sym, subst, arith, Vec, Global, Option}
use Rattle.std.specs.Prelude.{option_map}
use Rattle.std.specs.List.{slice_get}
use Rattle.iso_model.specs.Search.Walker as walker
use Rattle.iso_search_core.specs.declared.lists.Lists as lists
use Rattle.iso_search_core.specs.declared.choices.Choice as kept
use Rattle.iso_search_core.specs.declared.nows.Now.TheVariants as now
use Rattle.iso_search_core.specs.Standing.{Among, HasLeft, StandsForChoice, StandsForChoices, GainsChoice, HaveRoom, GoesOn, DoesNext, entered_at, most_numbers, numbers_a_step}
use Rattle.iso_search_core.specs.Standing as standing
use Rattle.iso_search_core.proofs.FittingLemmas.{fits_fewer}
use Rattle.iso_search_core.proofs.StandingLemmas.{choices_length, choices_push, each_stands, lower, left_on as left_stays}
use Rattle.iso_search.specs.EngineStates.{Remains, IsAhead, IsBehind, IsEngine, Keeps}
use Rattle.iso_search.proofs.StoppedLemmas.{base_kept}
use Rattle.iso_search.proofs.WorldLemmas.{world_on, choices_kept, choices_grown, left_on}

-- with other goals and alternatives
pub goes_with : {W : Type 0} {p : Present W} {query : List W} {s : State} (list : List Member) (stack : List Alternative) → GoesOn p query s → GoesOn p query (record s { list = list; stack = stack })
goes_with list stack g = record { subst = g.subst; next = g.next; room = g.room; words = g.words }

pub room_dropped : (steps n : ℕ) (ks : List Alternative) → HaveRoom steps ks → HaveRoom steps (drop n ks)
room_dropped steps (suc n) (k ∷ ks) h = room_dropped steps n ks h.1
room_dropped steps n ks h = h

module _ {S L W M K P C N B O : Type 0} (g : Ghosts S W M) (l : lists.Ghosts L S K P C N B O W M) where
  -- ---- what comes next

  next_of : (e : Search S L W M K P C N B O) (s : State) (place : P) (n : Now N P) → IsBehind l (g.present e.store) e.lists place n s.list → GoesOn (g.present e.store) e.query.items s
      → DoesNext l (g.present e.store) e.lists e.query.items n (option_map (λ b. term_of b.term.value) e.raised) s
  next_of e s place now.Answering is goes = (is, goes)
  next_of e s place (now.Running first) is goes = (is.0, goes)
  next_of e s place n is goes = absurd is

  pub pending_behind : (p : Present W) (held : L) (place : P) (n : Now N P) (ms : List Member) → IsBehind l p held place n ms → now_pending (l.first_pending held) n ≤ l.pending held place
  pending_behind p held place now.Answering ms is = omega arith
  pending_behind p held place (now.Running first) ms is = is.1
  pending_behind p held place n ms is = absurd is

  -- this is next with these goals, where those ahead are to take no fewer cells
  pub engine_next : (e : Search S L W M K P C N B O) (s : State) (place : P) (raised : Option Ball) (n : Now N P) (ms : List Member) → IsAhead g l e s place → now_pending (l.first_pending e.lists) n ≤ l.pending e.lists place
      → DoesNext l (g.present e.store) e.lists e.query.items n (option_map (λ b. term_of b.term.value) raised) (record s { list = ms }) → IsEngine g l (record e { raised = raised; now = n }) (record s { list = ms })
  engine_next e s place raised n ms h fewer next = record {
    world = h.world;
    steps = h.steps;
    base = h.base;
    choices = h.choices;
    room = h.room;
    fits = fits_fewer g (g.present e.store) s fewer h.fits;
    next = next;
  }

  -- the list from a place on
  pub engine_place : (e : Search S L W M K P C N B O) (s : State) (place : P) (n : Now N P) → IsAhead g l e s place → IsBehind l (g.present e.store) e.lists place n s.list → IsEngine g l (record e { now = n }) s
  engine_place e s place n h is = engine_next e s place e.raised n s.list h (pending_behind (g.present e.store) e.lists place n s.list is) (next_of e s place n is h.goes)

  -- the ball that is kept is thrown, past the list from a place on
  pub engine_throws : (e : Search S L W M K P C N B O) (s : State) (place : P) (ball : Ball) → arities_fit (term_of ball.term.value) ≡ true → IsAhead g l e s place
      → IsEngine g l (record e { raised = Some ball; now = now.Raising place }) (throwing (term_of ball.term.value) s)
  engine_throws e s place ball fits h = engine_next e s place (Some ball) (now.Raising place) (Raise (term_of ball.term.value) ∷ s.list) h (omega arith) (term_of ball.term.value, s.list, refl, h.chain, refl, fits)

  pub keeps_ahead : (e : Search S L W M K P C N B O) (s : State) (place : P) → IsAhead g l e s place → Keeps g l e s.world s.stack
  keeps_ahead e s place h = (h.world, h.base, (s.query, h.choices))

  pub remains_ahead : (e : Search S L W M K P C N B O) (s : State) (place : P) → IsAhead g l e s place → Remains g l e s
  remains_ahead e s place h = (keeps_ahead e s place h, fits_fewer g (g.present e.store) s (omega arith) h.fits)

  -- ---- lists and choices that come

  -- lists that keep what they have, and another list of them
  pub ahead_grown : (e : Search S L W M K P C N B O) (s : State) (place other : P) (more : L) (ms : List Member) → IsAhead g l e s place → standing.Keeps l e.lists more → l.list (g.present e.store) more (l.whole more) other ms → l.pending more other ≤ l.pending e.lists place
      → IsAhead g l (record e { lists = more }) (record s { list = ms }) other
  ahead_grown e s place other more ms h grows chain fewer = record {
    world = h.world;
    steps = h.steps;
    base = h.base;
    choices = choices_grown l (λ x text there. there) grows (λ x p among there. there) h.choices;
    room = h.room;
    fits = fits_fewer g (g.present e.store) s fewer h.fits;
    goes = goes_with ms s.stack h.goes;
    chain = chain;
  }

  -- a choice with this left to be tried, before the list ahead
  pub ahead_left : (e : Search S L W M K P C N B O) (s : State) (place : P) (store : S) (choices : Vec (kept.Choice W M K P C) Global) (left : Left W C) (x : walker.Left) → l.within e.lists (l.whole e.lists) → ((k : K) → l.within e.lists k → l.below k (l.whole e.lists))
      → IsAhead g l e s place → HasLeft (AreLeft (own_of l) (g.names e.store) e.db) (l.call (g.present e.store) e.lists (l.whole e.lists)) (g.present e.store) left (record { list = s.list; subst = s.subst; next = s.next; built = s.built; left = x })
      → s.next + numbers_a_step * (e.steps + entered_at x) ≤ most_numbers
      → g.present store ≡ g.present e.store → KeepsMarks (g.stands e.store) (g.stands store) → KeepsTexts (g.names e.store) (g.names store)
      → GainsChoice (g.stands e.store) (g.stands store) g.older (g.present e.store) (l.whole e.lists) place left e.choices.items choices.items
      → IsAhead g l (record e { store = store; choices = choices }) (pushed s.list x s) place
  ahead_left e s place store choices left x all top h has space same keeps texts gains =
      let b = h.base in
      let c : kept.Choice W M K P C = record { mark = gains.mark; kept = l.whole e.lists; rest = place; left = left } in
      let a : Alternative = record { list = s.list; subst = s.subst; next = s.next; built = s.built; left = x } in
      let old : StandsForChoices l (g.stands store) g.older e.base (AreLeft (own_of l) (g.names store) e.db) e.query.items (variables s.query) (FitsLeft g (query_size s.query)) e.lists e.choices.items s.stack =
      choices_kept l texts (λ d p among there. keeps d.mark p there) h.choices in
      let here : StandsForChoice l (g.stands store) g.older e.base (AreLeft (own_of l) (g.names store) e.db) e.query.items (variables s.query) (FitsLeft g (query_size s.query)) e.lists c a = record {
        present = g.present e.store;
        mark = gains.stands;
        newer = gains.newer e.base b.present b.stands_for;
        on = record { subst_is = h.goes.subst; next_is = h.goes.next; chain = h.chain; words = h.goes.words };
        has = left_stays (g.present e.store) a (left_on l texts {d = e.db}) (λ d t is. is) left has;
        fits = h.fits;
      } in
      let newer : (d : kept.Choice W M K P C) → Among d e.choices.items → g.older d.mark gains.mark = λ d among.
      (let there = (each_stands l d h.choices among).1 in gains.newer d.mark there.0 there.1) in
      let goes = goes_with {p = g.present e.store} {query = e.query.items} {s = s} s.list (a ∷ s.stack) h.goes in
      record {
        world = world_on l texts h.world;
        steps = h.steps;
        base = base_kept g e.store store e.base keeps b;
        choices = rw gains.are (choices_push l c a all top here newer old);
        room = (space, h.room);
        fits = subst (λ (p : Present W). FitsState g p (l.pending e.lists place) (pushed s.list x s)) (sym same) h.fits;
        goes = subst (λ (p : Present W). GoesOn p e.query.items (pushed s.list x s)) (sym same) goes;
        chain = subst (λ (p : Present W). l.list p e.lists (l.whole e.lists) place s.list) (sym same) h.chain;
      }

  -- one at which no clause is entered and no ball is caught
  pub ahead_choice : (e : Search S L W M K P C N B O) (s : State) (place : P) (store : S) (choices : Vec (kept.Choice W M K P C) Global) (left : Left W C) (x : walker.Left) → l.within e.lists (l.whole e.lists) → ((k : K) → l.within e.lists k → l.below k (l.whole e.lists))
      → IsAhead g l e s place → HasLeft (AreLeft (own_of l) (g.names e.store) e.db) (l.call (g.present e.store) e.lists (l.whole e.lists)) (g.present e.store) left (record { list = s.list; subst = s.subst; next = s.next; built = s.built; left = x }) → entered_at x ≡ 0
      → g.present store ≡ g.present e.store → KeepsMarks (g.stands e.store) (g.stands store) → KeepsTexts (g.names e.store) (g.names store)
      → GainsChoice (g.stands e.store) (g.stands store) g.older (g.present e.store) (l.whole e.lists) place left e.choices.items choices.items
      → IsAhead g l (record e { store = store; choices = choices }) (pushed s.list x s) place
  ahead_choice e s place store choices left x all top h has none same keeps texts gains =
      ahead_left e s place store choices left x all top h has (let room = h.goes.room in let steps = h.steps in omega (arith, room, steps, none)) same keeps texts gains

  -- ---- choices that go

  -- those above a height
  pub ahead_cut : (e : Search S L W M K P C N B O) (s : State) (place : P) (height : ℕ) (store : S) (choices : Vec (kept.Choice W M K P C) Global) (c : kept.Choice W M K P C) → IsAhead g l e s place
      → slice_get e.choices.items height ≡ Some c → choices.items ≡ take height e.choices.items → g.present store ≡ g.present e.store
      → ((m : M) (p : Present W) → g.older m c.mark → g.stands e.store m p → g.stands store m p) → KeepsTexts (g.names e.store) (g.names store)
      → IsAhead g l (record e { store = store; choices = choices }) (cut_back height s.list s) place
  ahead_cut e s place height store choices c h there taken same marks texts =
      let b = h.base in
      let low = lower l height c there h.choices in
      let stood : StandsForChoices l (g.stands store) g.older e.base (AreLeft (own_of l) (g.names store) e.db) e.query.items (variables s.query) (FitsLeft g (query_size s.query)) e.lists (take height e.choices.items) (shortened height s.stack) =
      choices_kept l texts (λ d p among standing. marks d.mark p (low.newer d among).0 standing) low.stand in
      let goes = goes_with {p = g.present e.store} {query = e.query.items} {s = s} s.list (shortened height s.stack) h.goes in
      record {
        world = world_on l texts h.world;
        steps = h.steps;
        base = record { present = b.present; stands_for = marks e.base b.present low.newer_base b.stands_for; substitution = b.substitution; next = b.next; cells = b.cells; variables = b.variables };
        choices = rw taken stood;
        room = room_dropped e.steps (length s.stack - height) s.stack h.room;
        fits = subst (λ (p : Present W). FitsState g p (l.pending e.lists place) (cut_back height s.list s)) (sym same) h.fits;
        goes = subst (λ (p : Present W). GoesOn p e.query.items (cut_back height s.list s)) (sym same) goes;
        chain = subst (λ (p : Present W). l.list p e.lists (l.whole e.lists) place s.list) (sym same) h.chain;
      }

  -- none is above it
  pub ahead_uncut : (e : Search S L W M K P C N B O) (s : State) (place : P) (height : ℕ) → IsAhead g l e s place → length e.choices.items ≤ height → IsAhead g l e (cut_back height s.list s) place
  ahead_uncut e s place height h less =
      let many = choices_length l h.choices in
      let none : 0 ≡ length s.stack - height = omega (arith, many, less) in
      subst (λ (n : ℕ). IsAhead g l e (record s { stack = drop n s.stack }) place) none (record {
        world = h.world;
        steps = h.steps;
        base = h.base;
        choices = h.choices;
        room = h.room;
        fits = h.fits;
        goes = goes_with s.list s.stack h.goes;
        chain = h.chain;
      })
