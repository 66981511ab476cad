-- What a goal of a row comes to, from what its procedure comes to.
use Rattle.std.proofs.Common.{◌≡◌, ◌<◌, ℕ, List, length, get_or, arith, sym, subst, Result, Ok, Err, Vec, Global, OnErr}
use Rattle.iso_model.specs.Terms.Trees.{Tree}
use Rattle.iso_model.specs.Terms.Arguments.{argument}
use Rattle.iso_model.specs.Search.Settlements.{Settled}
use Rattle.iso_model.specs.Search.Storages.{storage_arity}
use Rattle.iso_model.specs.declared.kinds.Storage.{Storage}
use Rattle.iso_model.specs.declared.kinds.Storage.TheVariants as storage
use Rattle.iso_model.specs.Search.Worlds.{World}
use Rattle.iso_db.specs.Presents.{contents}
use Rattle.iso_db.specs.Databases.{Database}
use Rattle.iso_db.specs.declared.db.Db.{Db}
use Rattle.iso_store_core.specs.Presents.{Present, meaning}
use Rattle.iso_store_core.specs.ArgumentWords.{AreArguments}
use Rattle.iso_store_core.proofs.ArgumentLemmas.{argument-is}
use Rattle.iso_lib_core.specs.declared.outcomes.Fault.{Fault}
use Rattle.iso_lib_core.specs.declared.outcomes.Fault.TheVariants as fault
use Rattle.iso_program.specs.declared.callables.Callable.{Callable}
use Rattle.iso_program.specs.declared.clauses.Clause.{Clause}
use Rattle.iso_storage.specs.Storing.{IsProgram, IsOffered, IsChanged, IsStorageReply, UnlessDone, done_of}
use Rattle.iso_storage.specs.Declaring.{IsOnlyChecked}
use Rattle.iso_storage.specs.declared.storages.StorageReply.{StorageReply}
use Rattle.iso_storage.specs.declared.storages.StorageReply.TheVariants as stored
use Rattle.iso_program.specs.Kept.{Keeping}

module _ {C : Type 0} (keeps : Keeping C) {W : Type 0} (names : List (List ℕ)) (q : Present W) (d : Db (Clause C))
    (rows : List (Vec Callable Global)) (w : World) (s : Settled) where
  -- a goal that offers clauses
  pub offered_as : (r : Result (StorageReply W) Fault) → IsOffered keeps names q d s r
      → IsStorageReply keeps names q d rows w s r
  offered_as (Ok stored.Done) h = absurd h
  offered_as (Err fault.Full) h = tt
  offered_as (Err fault.NoMemory) h = tt
  offered_as r h = h

  -- one that changes the database
  pub changed_as : (r : Result Unit Fault) → IsChanged keeps names (contents d) rows w s r
      → IsStorageReply keeps names q d rows w s (done_of r)
  changed_as (Err fault.Full) h = tt
  changed_as (Err fault.NoMemory) h = tt
  changed_as r h = h

-- a goal of each row has an argument
some_argument : (row : Storage) → 0 < storage_arity row
some_argument storage.Asserta = omega arith
some_argument row = omega arith

-- which its first word stands for
pub first_argument : {W : Type 0} (p : Present W) (words : List W) (t : Tree) (w : W) (row : Storage)
    → AreArguments p words t → length words ≡ storage_arity row → w ≡ get_or words 0 w → meaning p w ≡ argument 0 t
first_argument p words t w row are count is = let some = some_argument row in argument-is p words t 0 w are (omega (arith, some, count)) is

-- a goal that only checks
pub checked_changed : {C : Type 0} {keeps : Keeping C} (names : List (List ℕ)) (d : Database (Clause C))
    (rows : List (Vec Callable Global)) (w : World) (s : Settled) (r : Result Unit Fault)
    → IsProgram keeps names d rows w.database → IsOnlyChecked w s r → IsChanged keeps names d rows w s r
checked_changed names d rows w s (Ok u) is h = (0, w.database, h, is)
checked_changed names d rows w s (Err (fault.Raise ball)) is h = h
checked_changed names d rows w s r is h = tt

-- ---- what holds unless it was done

pub kept_done : {W : Type 0} (P : Type 0) (x : Result (StorageReply W) Fault) (r : Result Unit Fault) → x ≡ done_of r
    → OnErr r P → UnlessDone x P
kept_done {W = W} P x r done h = subst (λ (y : Result (StorageReply W) Fault). UnlessDone y P) (sym done) (by_result r h) where
  by_result : (r : Result Unit Fault) → OnErr r P → UnlessDone {W = W} (done_of r) P
  by_result (Ok u) h = tt
  by_result (Err (fault.Raise ball)) h = h
  by_result (Err fault.Full) h = h
  by_result (Err fault.NoMemory) h = h

pub kept_always : {W : Type 0} (P : Type 0) (x : Result (StorageReply W) Fault) → P → UnlessDone x P
kept_always P (Ok stored.Done) h = tt
kept_always P x h = h
