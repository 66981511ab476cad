-- A body is run next, before a list.
use Rattle.std.proofs.Common.{◌≡◌, ◌≤◌, ◌+◌, ℕ, List, ◌∷◌, Some, refl, ap, sym, ◌∙◌, arith}
use Rattle.iso_model.specs.Terms.Trees.{Tree}
use Rattle.iso_model.specs.Terms.Substitutions.{Subst}
use Rattle.iso_model.specs.Search.Bodies.{Body, converted, map_body}
use Rattle.iso_store_core.specs.Presents.{KeepsWords, Present}
use Rattle.iso_store_core.specs.Retaining.{RetainsAll, Takes}
use Rattle.iso_search_core.specs.Cells.{conversion_cells}
use Rattle.iso_search_core.specs.declared.ends.End.{End}
use Rattle.iso_search_core.specs.declared.ends.End.TheVariants as end
use Rattle.iso_search_core.specs.Keeping.{EndHolds, ending}
use Rattle.iso_search_core.specs.Placing.{IsConverted, PlacesBody}
use Rattle.iso_search_core.specs.Costs.{choices_cost}
use Rattle.iso_store_core.specs.declared.stores.Store.{Ghosts}
use Rattle.iso_search.specs.EngineStates.{IsAhead, IsEngine, kept_cost}
use Rattle.iso_model.specs.Search.Walker.{Member, Gather, State}
use Rattle.iso_search.specs.declared.search.Search.{Search}
use Rattle.iso_search_core.specs.declared.lists.Lists as lists
use Rattle.iso_search_core.specs.declared.nows.Now.TheVariants as now
use Rattle.iso_search_core.specs.Standing as standing
use Rattle.iso_search_core.proofs.CostLemmas.{choices_cost_on}
use Rattle.iso_search_core.proofs.FittingLemmas.{fits_fewer, fits_taken}
use Rattle.iso_search.proofs.AheadLemmas.{goes_with}
use Rattle.iso_search.proofs.BoundLemmas.{ahead_placed, list_on}
use Rattle.iso_search.proofs.WorldLemmas.{choices_grown}

-- ---- an end, as words come

pub end_holds : {W : Type 0} {p q : Present W} → KeepsWords p q → (x : End W) → EndHolds p x → EndHolds q x
end_holds keeps (end.Gather height template) h = keeps.stand template h
end_holds keeps x h = tt

pub end_same : {W : Type 0} {p q : Present W} → KeepsWords p q → (x : End W) (ms : List Member) → EndHolds p x → ending q x ms ≡ ending p x ms
end_same keeps (end.Gather height template) ms h = ap (λ (t : Tree). Gather height t ∷ ms) (keeps.terms template h)
end_same keeps x ms h = refl

-- ---- a body that is run

module _ {S L W M K P C N B O : Type 0} (g : Ghosts S W M) (l : lists.Ghosts L S K P C N B O W M) where
  -- lists came, and this comes first
  pub engine_grown : (e : Search S L W M K P C N B O) (s : State) (place : P) (more : L) (first : N) (ms : List Member) → IsAhead g l e s place → standing.Keeps l e.lists more → l.first (g.present e.store) more first ms → l.first_pending more first ≤ l.pending e.lists place
      → IsEngine g l (record e { lists = more; now = now.Running first }) (record s { list = ms })
  engine_grown e s place more first ms h grows is fewer = record {
    world = h.world;
    steps = h.steps;
    base = h.base;
    choices = choices_grown l (λ x text there. there) grows (λ x p among there. there) h.choices;
    room = h.room;
    fits = fits_fewer g (g.present e.store) s fewer h.fits;
    next = (is, goes_with ms s.stack h.goes);
  }

  -- over lists that came choices cost what they did
  pub grown_cost : (e : Search S L W M K P C N B O) (s : State) (place : P) (more : L) → IsAhead g l e s place → standing.Keeps l e.lists more → choices_cost (l.cost more) e.choices.items ≡ kept_cost l e
  grown_cost e s place more h grows = choices_cost_on l grows (λ d among. tt) h.choices

  -- ---- a goal that was converted

  module _ (e : Search S L W M K P C N B O) (rest : P) (store : S) (more : L) (t : Tree) (place : B) (retains : RetainsAll g e.store store) (grows : standing.Keeps l e.lists more) (placed : IsConverted l.body (g.present e.store) (g.present store) more t place) where
    abbrev at : PlacesBody l.body (g.present e.store) (g.present store) more placed.0 place
    at = placed.2

    -- the engine behind it
    abbrev pub behind_goal : Search S L W M K P C N B O
    behind_goal = record e { store = store; lists = more }

    pub converted_ahead : ((x : L) → l.within x (l.whole x)) → ((x : L) (k : K) → l.within x k → l.below k (l.whole x))
        → ((p : Present W) (x : L) (j k : K) (i : P) (ms : List Member) → l.below j k → l.list p x j i ms → l.list p x k i ms)
        → ((p q : Present W) (x : L) (k : K) (i : P) (ms : List Member) → KeepsWords p q → l.list p x k i ms → l.list q x k i ms)
        → Takes g e.store store (conversion_cells t) → (s : State) (built : ℕ) → s.built + conversion_cells t ≤ built → IsAhead g l e s rest → IsAhead g l behind_goal (record s { built = built }) rest
    converted_ahead all top further words takes s built within h =
        let pending = grows.pendings (g.present e.store) (l.whole e.lists) rest s.list tt (all e.lists) h.chain in
        let fits = fits_taken g s (record s { built = built }) takes (omega (arith, pending)) refl within h.fits in
        let chain = list_on l all top further words (g.present e.store) (g.present store) e.lists more rest s.list at.words grows h.chain in
        ahead_placed g l e store more s rest built h retains grows fits chain (record { words = at.words; substitution = at.substitution; next = at.next })

    -- the goal has one body
    same_body : (b : Body) → converted t ≡ Some b → placed.0 ≡ b
    same_body b is = let both : Some placed.0 ≡ Some b = sym placed.1 ∙ is in cc

    pub own_values : (s : State) (b : Body) → IsAhead g l e s rest → converted t ≡ Some b → map_body s.subst at.own ≡ b
    own_values s b h is = ap (λ (u : Subst). map_body u at.own) (sym h.goes.subst) ∙ (at.values ∙ same_body b is)
