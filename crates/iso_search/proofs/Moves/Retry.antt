-- The engine fails, and the next clause of its newest choice is tried.
use Rattle.std.proofs.Common.{◌≡◌, ℕ, List, ◌∷◌, length, subst}
use Rattle.iso_model.specs.Search.Engines.{IsAwake}
use Rattle.iso_model.specs.Search.Walker.{State, Alternative, tried, tried_clause, with_others, Clauses}
use Rattle.iso_store_core.specs.declared.stores.Store.{Ghosts}
use Rattle.iso_search_core.specs.declared.lists.Lists as lists
use Rattle.iso_search_core.specs.declared.choices.Attempt.{Attempt}
use Rattle.iso_search_core.specs.declared.nows.Now.TheVariants as now
use Rattle.iso_search.specs.declared.search.Move.TheVariants as move
use Rattle.iso_search.specs.declared.search.Search.{Search}
use Rattle.iso_search.specs.EngineStates.{Remains, Moves, Refused, Represents, Retries, StandsAs, phase_of, went_back}
use Rattle.iso_search.proofs.EndLemmas.{next_is}
use Rattle.iso_search.proofs.Moves.Search.{goes_alike, refuses}
use Rattle.iso_search.proofs.SearchSteps.{back_step}

module _ {S L W M K P C N B O : Type 0} (g : Ghosts S W M) (l : lists.Ghosts L S K P C N B O W M) where
  module _ (e new : Search S L W M K P C N B O) (attempt : Attempt C) (rest : P) (s : State) (r : Represents g l e s) (a : Alternative) (below : List Alternative) (left : Search S L W M K P C N B O) (mark : ℕ)
      (is : e.now ≡ now.Failing) (stack : r.own.stack ≡ a ∷ below) (t : Retries g l left attempt rest r.own a below) (height : mark ≡ length below) where
    abbrev there : State
    there = with_others t.call t.others a.list (went_back a below r.own)

    -- the clause at the newest choice was tried
    pub tries_on : StandsAs g l new (tried_clause t.call t.clause mark a.list there) → IsAwake (phase_of new.now) → Moves g l move.Goes s new
    tries_on engine awake =
        let first = next_is g l e r.own now.Failing is r.engine in
        goes_alike g l e new s r (tried t.call (t.clause ∷ t.others) a.list (went_back a below r.own)) (back_step r.own first.0 a below (Clauses t.call (t.clause ∷ t.others)) first.1 stack t.left)
        (subst (λ (n : ℕ). StandsAs g l new (tried_clause t.call t.clause n a.list there)) height engine) awake

    -- it was refused
    pub stops_on : Remains g l new (tried_clause t.call t.clause mark a.list there) → Refused g l new s
    stops_on remains =
        let first = next_is g l e r.own now.Failing is r.engine in
        refuses g l new r.own (tried t.call (t.clause ∷ t.others) a.list (went_back a below r.own)) s r.same
        (back_step r.own first.0 a below (Clauses t.call (t.clause ∷ t.others)) first.1 stack t.left)
        (subst (λ (n : ℕ). Remains g l new (tried_clause t.call t.clause n a.list there)) height remains)
