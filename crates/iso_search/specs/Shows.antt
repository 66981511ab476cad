-- Goals that read or change the database, as the engine comes to them (ISO/IEC 13211-1:1995, 7.4.2, 8.8, 8.9).
use Rattle.std.specs.Prelude.{◌≡◌, ℕ, suc, ◌+◌, ◌*◌, ◌≤◌, List, [], ◌∷◌, length, map, Bool, true, false, Option, Some, None, ◌⊎◌}
use Rattle.iso_model.specs.Terms.Trees.{Tree, row}
use Rattle.iso_model.specs.Terms.Arguments.{arity}
use Rattle.iso_model.specs.Terms.Copies.{renamed}
use Rattle.iso_model.specs.Terms.Substitutions.{Subst, apply}
use Rattle.iso_model.specs.Terms.Unification.{unifier_of}
use Rattle.iso_model.specs.Search.BuiltIns.{built_in}
use Rattle.iso_model.specs.Search.Databases.{Clause, Key, key_of}
use Rattle.iso_model.specs.Search.Storages.{clause_cost, clause_row, storage_arity}
use Rattle.iso_model.specs.Search.RunLaws.Thinness.{SkipsRows}
use Rattle.iso_model.specs.Search.Walker.{State, Alternative, Offered, under, fails, settled, with_rights}
use Rattle.iso_model.specs.Search.Settlements as walker
use Rattle.iso_model.specs.Search.Settlements.{Settled}
use Rattle.iso_model.specs.declared.kinds.Storage.{Storage}
use Rattle.iso_store_core.specs.Presents.{Present, meaning}
use Rattle.iso_store_core.specs.declared.stores.Store.{Ghosts}
use Rattle.iso_search_core.specs.declared.lists.Lists as lists
use Rattle.iso_db.specs.Databases.{Database}
use Rattle.iso_program.specs.ClauseOffers.{clause_offer}
use Rattle.iso_program.specs.Programs.{place_at, kept_at, kind_of}
use Rattle.iso_search_core.specs.Fitting.{FitsState}
use Rattle.iso_search_core.specs.Standing.{most_numbers, numbers_a_step}
use Rattle.iso_program.specs.declared.showing.Showing.{Showing}
use Rattle.iso_search.specs.declared.search.Move.{Move}
use Rattle.iso_search.specs.declared.search.Search.{Search}
use Rattle.iso_search.specs.EngineStates.{IsEngine, SameUnder, IsAhead, Keeps, WasTried, leaves_of, went_back}

-- the head and the body that clauses are to be unified with
abbrev pub shown_row : {W : Type 0} → Present W → Showing W → Tree
shown_row p shown = row (meaning p shown.head ∷ meaning p shown.body ∷ [])

-- the rows that these clauses of the procedure with this key offer
abbrev pub offers_of : {W : Type 0} → Showing W → Key → List Clause → List walker.Offer
offers_of shown k cs = map (clause_offer shown.removes k) cs

-- The procedure with this key is at this place; without a place it is absent.
abbrev pub IsUserPlace : {E : Type 0} → Database E → Key → Option ℕ → Type 0
IsUserPlace d k (Some place) = place_at d k ≡ Some place
IsUserPlace d k None = kind_of (kept_at d k) ≡ None

-- What is settled is the same, or it offers rows without some that miss the left one.
pub data ThinSettled : Settled → Settled → Type 0 where
  same_settled : {x : Settled} → ThinSettled x x
  fewer_offers : {left : Tree} {ps os : List walker.Offer} → SkipsRows left ps os → ThinSettled (walker.Offers left ps) (walker.Offers left os)

-- One alternative more stands behind what the goal comes to, whose rows are without some that miss the left one.
pub record GainsAlternative (s : State) (x : Settled) : Type 0 where
  pub own : Settled
  pub thin : ThinSettled own x
  pub longer : length (settled own s.list s).stack ≡ suc (length s.stack)

module _ {S L W M K P C N B O : Type 0} (g : Ghosts S W M) (l : lists.Ghosts L S K P C N B O W M) where
  -- The engine, in this state, is about to unify a head and a body with those of this clause, and then of these,
  -- before its members from a place of the members on. They are of the user procedure with this key, which is the key
  -- of the head.
  pub record Shows (e : Search S L W M K P C N B O) (shown : Showing W) (place : P) (s : State) (k : Key) (c : Clause) (cs : List Clause) : Type 0 where
    pub ahead : IsAhead g l e s place
    pub space : s.next + numbers_a_step * (e.steps + 1) ≤ most_numbers
    pub head : (g.present e.store).holds shown.head ≡ true
    pub body : (g.present e.store).holds shown.body ≡ true
    pub key_is : key_of (meaning (g.present e.store) shown.head) ≡ Some k
    pub user : built_in k ≡ None
    pub clauses : leaves_of g l e shown.clause shown.later (c ∷ cs)

  -- The head and the body, this row of two terms, were unified with those of the clause, which is counted: the engine's
  -- substitution gives what is ahead the same values as their unifier. Or they can't be; then the engine, which fails
  -- next, is in that state.
  abbrev pub HasUnified : Search S L W M K P C N B O → Tree → P → State → Clause → Bool → Type 0
  HasUnified e r place s c true = (u : Subst) × (under s.subst (unifier_of r (apply s.subst (renamed s.next (clause_row c)))) ≡ Some u) × (own : Subst) × IsAhead g l e (record s { subst = own; next = s.next + c.variables; built = s.built + clause_cost c }) place
      × SameUnder own u (record s { next = s.next + c.variables })
  HasUnified e r place s c false = (under s.subst (unifier_of r (apply s.subst (renamed s.next (clause_row c)))) ≡ None) × IsEngine g l e (fails (record s { built = s.built + clause_cost c }))

  -- The engine, in this state, is about to run this goal of this row, with its members from this place of the members
  -- on behind it.
  pub record StoresAt (e : Search S L W M K P C N B O) (row : Storage) (goal : W) (s : State) (place : P) : Type 0 where
    pub ahead : IsAhead g l e s place
    pub space : s.next + numbers_a_step * (e.steps + 1) ≤ most_numbers
    pub holds : (g.present e.store).holds goal ≡ true
    pub arity_is : arity (meaning (g.present e.store) goal) ≡ storage_arity row

  -- The goal came to what is settled: the engine tried rows of it without some that miss the left one.
  pub record WasSettled (m : Move) (e : Search S L W M K P C N B O) (s : State) (x : Settled) : Type 0 where
    pub own : Settled
    pub thin : ThinSettled own x
    pub tried : WasTried g l m e s (settled own s.list s)

  -- The engine, in this state, is about to unify a head and a body with those of the first clause that was left at
  -- its newest alternative.
  pub record ShowsNext (e : Search S L W M K P C N B O) (shown : Showing W) (place : P) (s : State) (a : Alternative) (below : List Alternative) : Type 0 where
    pub key : Key
    pub clause : Clause
    pub others : List Clause
    pub left : a.left ≡ Offered (shown_row (g.present e.store) shown) (offers_of shown key (clause ∷ others))
    pub shows : Shows e shown place (with_rights (shown_row (g.present e.store) shown) (offers_of shown key others) a.list (went_back a below s)) key clause others

  -- The goal was given up: before a clause was shown the engine has its alternatives, behind that none. Its store fits
  -- what the goal came to, which is this, or less than this by rows that miss the left one.
  pub record WasGivenUp (e : Search S L W M K P C N B O) (s : State) (x : Settled) : Type 0 where
    pub keeps : Keeps g l e s.world s.stack ⊎ Keeps g l e s.world []
    pub own : Settled
    pub thin : ThinSettled own x
    pub fits : FitsState g (g.present e.store) 0 (settled own s.list s)
