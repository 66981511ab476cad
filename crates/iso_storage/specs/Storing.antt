-- What goals that read or change the database come to, over a database as it is kept.
use Rattle.std.specs.Prelude.{◌≡◌, ◌<◌, ℕ, List, [], ◌∷◌, map, Bool, true, Option, Some, None, Result, Ok, Err, Vec}
use Rattle.std.specs.Global.{Global}
use Rattle.std.specs.List.{slice_get}
use Rattle.iso_atoms.specs.Texts.{EachOnce}
use Rattle.iso_model.specs.Terms.Trees.{Tree, row}
use Rattle.iso_model.specs.Search.Databases as databases
use Rattle.iso_model.specs.Search.Databases.{Key, Place, at_front, at_end, key, key_of}
use Rattle.iso_model.specs.Search.BuiltIns.{built_in}
use Rattle.iso_model.specs.Search.RunLaws.Thinness.{Skips, SkipsRows}
use Rattle.iso_model.specs.Search.Settlements.{Offer, Settled, Changes, Offers}
use Rattle.iso_model.specs.Search.Storages.{with_head}
use Rattle.iso_model.specs.Search.Worlds.{World}
use Rattle.iso_db.specs.Databases.{Database}
use Rattle.iso_db.specs.Presents.{contents}
use Rattle.iso_db.specs.declared.db.Db.{Db}
use Rattle.iso_db.specs.declared.keyed.KeyedView.{KeyedView}
use Rattle.iso_store_core.specs.Presents.{Present, meaning}
use Rattle.iso_lib_core.specs.declared.outcomes.Fault.{Fault}
use Rattle.iso_lib_core.specs.declared.outcomes.Fault.TheVariants as fault
use Rattle.iso_lib.specs.Indicators.{IsFunctor}
use Rattle.iso_lib.specs.Settlements.{IsRefused}
use Rattle.iso_lib.specs.declared.indicators.Functor.{Functor}
use Rattle.iso_program.specs.Callables.{Finds}
use Rattle.iso_program.specs.Leaving.{AreLeft, SomeLeft, GivesFor}
use Rattle.iso_program.specs.ClauseOffers.{clause_offer}
use Rattle.iso_program.specs.Programs.{IsDatabase}
use Rattle.iso_program.specs.declared.callables.Callable.{Callable}
use Rattle.iso_program.specs.declared.callables.Callee.{Callee}
use Rattle.iso_program.specs.declared.callables.Callee.TheVariants as callee
use Rattle.iso_program.specs.declared.clauses.Clause.{Clause}
use Rattle.iso_program.specs.declared.procedures.Way.{Way}
use Rattle.iso_program.specs.declared.procedures.Way.TheVariants as way
use Rattle.iso_program.specs.declared.showing.Showing.{Showing}
use Rattle.iso_program.specs.Kept.{Keeping}
use Rattle.iso_storage.specs.declared.storages.StorageReply.{StorageReply}
use Rattle.iso_storage.specs.declared.storages.StorageReply.TheVariants as stored

-- Where these are the names of the atoms, this is the database, and its procedures are found.
pub record IsProgram {C : Type 0} (keeps : Keeping C) (names : List (List ℕ)) (d : Database (Clause C))
    (rows : List (Vec Callable Global)) (m : databases.Database) : Type 0 where
  pub database : IsDatabase keeps names d m
  pub found : Finds names rows d

-- The atom is that of the text.
pub record IsNamed (names : List (List ℕ)) (f : Functor) (text : List ℕ) : Type 0 where
  pub each_once : EachOnce names
  pub atom : slice_get names f.name ≡ Some text
  pub few : f.arity < 256

-- The place of the procedure that is called, where it is one of the database.
abbrev pub user_place : Option Callee → Option ℕ
user_place None = None
user_place (Some (callee.BuiltIn b)) = None
user_place (Some (callee.User place)) = Some place

-- This is the procedure of a head, or the error for it is thrown.
abbrev pub HasHead : List (List ℕ) → Tree → Key → Result Functor Fault → Type 0
HasHead names h by (Ok f) = (k : Key) × (key_of h ≡ Some k) × IsFunctor names k f
    × ((goes_on : Key → Settled) → with_head h by goes_on ≡ goes_on k)
HasHead names h by (Err (fault.Raise ball)) = (goes_on : Key → Settled) → IsRefused (with_head h by goes_on) ball
HasHead names h by (Err fault.Full) = ⊥
HasHead names h by (Err fault.NoMemory) = Unit {0}

-- The view gives these clauses of the database, but for some that miss the call; without a view there are none.
abbrev pub AreOf : {C : Type 0} → Keeping C → List (List ℕ) → Db (Clause C) → Tree → List databases.Clause
    → Option KeyedView → Type 0
AreOf keeps names d call cs None = cs ≡ []
AreOf keeps names d call cs (Some view) = GivesFor keeps names d view call cs

-- The first of these clauses that may meet the call, with those behind it, is to be unified with this head and this
-- body, and is removed then or stays; or none may meet it.
abbrev pub OffersFirst : {W C : Type 0} → Keeping C → List (List ℕ) → Db (Clause C) → W → W → Bool → Tree
    → List databases.Clause → StorageReply W → Type 0
OffersFirst keeps names d head body removes call cs stored.Done = ⊥
OffersFirst keeps names d head body removes call cs stored.Fails = Skips call [] cs
OffersFirst keeps names d head body removes call cs (stored.Shows shown) =
    (shown.head ≡ head) × (shown.body ≡ body) × (shown.removes ≡ removes)
    × SomeLeft keeps names d shown.clause shown.later call cs

-- Heads and bodies of clauses of a user procedure are offered, with which those of a goal are to be unified. These
-- clauses are all that are offered, but for some with which they can't be.
pub record IsShown {W C : Type 0} (keeps : Keeping C) (names : List (List ℕ)) (q : Present W) (d : Db (Clause C))
    (settled : Settled) (shown : Showing W) : Type 0 where
  pub head : q.holds shown.head ≡ true
  pub body : q.holds shown.body ≡ true
  pub key : Key
  pub key_is : key_of (meaning q shown.head) ≡ Some key
  pub user : built_in key ≡ None
  pub offers : List Offer
  pub is : settled ≡ Offers (row (meaning q shown.head ∷ meaning q shown.body ∷ [])) offers
  pub clauses : List databases.Clause
  pub skips : SkipsRows (row (meaning q shown.head ∷ meaning q shown.body ∷ []))
      (map (clause_offer shown.removes key) clauses) offers
  pub are : AreLeft keeps names d shown.clause shown.later clauses

-- The goal offers rows, none of which can be met.
pub record OffersNone (settled : Settled) : Type 0 where
  pub left : Tree
  pub offers : List Offer
  pub is : settled ≡ Offers left offers
  pub skips : SkipsRows left [] offers

-- The goal offers the clauses of a procedure, or none of it, or its error is thrown. These are the names, the store
-- and the database behind it.
abbrev pub IsOffered : {W C : Type 0} → Keeping C → List (List ℕ) → Present W → Db (Clause C) → Settled
    → Result (StorageReply W) Fault → Type 0
IsOffered keeps names q d settled (Ok stored.Done) = ⊥
IsOffered keeps names q d settled (Ok stored.Fails) = OffersNone settled
IsOffered keeps names q d settled (Ok (stored.Shows shown)) = IsShown keeps names q d settled shown
IsOffered keeps names q d settled (Err (fault.Raise ball)) = IsRefused settled ball
IsOffered keeps names q d settled (Err fault.Full) = Unit {0}
IsOffered keeps names q d settled (Err fault.NoMemory) = Unit {0}

-- From the world w the goal came to what is settled: the database is that of the world behind it, or its error is
-- thrown. These are the names and the database behind it.
abbrev pub IsChanged : {C : Type 0} → Keeping C → List (List ℕ) → Database (Clause C) → List (Vec Callable Global)
    → World → Settled → Result Unit Fault → Type 0
IsChanged keeps names d rows w settled (Ok _) = (made : ℕ) × (m : databases.Database)
    × (settled ≡ Changes made (record w { database = m })) × IsProgram keeps names d rows m
IsChanged keeps names d rows w settled (Err (fault.Raise ball)) = IsRefused settled ball
IsChanged keeps names d rows w settled (Err fault.Full) = Unit {0}
IsChanged keeps names d rows w settled (Err fault.NoMemory) = Unit {0}

-- one or the other
abbrev pub IsStorageReply : {W C : Type 0} → Keeping C → List (List ℕ) → Present W → Db (Clause C)
    → List (Vec Callable Global) → World → Settled → Result (StorageReply W) Fault → Type 0
IsStorageReply keeps names q d rows w settled (Ok stored.Done) =
    IsChanged keeps names (contents d) rows w settled (Ok tt)
IsStorageReply keeps names q d rows w settled result = IsOffered keeps names q d settled result

-- the place of a clause that comes in this way
abbrev pub place_of : Way → Place
place_of way.Consulted = at_end
place_of way.First = at_front
place_of way.Last = at_end

-- what holds unless the store was full or memory refused
abbrev pub UnlessStopped : {A : Type 0} → Result A Fault → Type 0 → Type 0
UnlessStopped (Ok a) holds = holds
UnlessStopped (Err (fault.Raise ball)) holds = holds
UnlessStopped (Err fault.Full) holds = Unit {0}
UnlessStopped (Err fault.NoMemory) holds = Unit {0}

-- what holds unless the goal was done
abbrev pub UnlessDone : {W : Type 0} → Result (StorageReply W) Fault → Type 0 → Type 0
UnlessDone (Ok stored.Done) holds = Unit {0}
UnlessDone result holds = holds

-- a goal that changed the database is done, or its error is thrown
abbrev pub done_of : {W : Type 0} → Result Unit Fault → Result (StorageReply W) Fault
done_of (Ok _) = Ok stored.Done
done_of (Err e) = Err e
