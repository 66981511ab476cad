-- The database stays what it is where names come, and which procedures are fixed.
use Rattle.std.proofs.Common.{◌≡◌, ℕ, List, Bool, not, true, false, Some, refl, sym, ap, ◌∙◌, Vec, Global, Result, Ok, Err, OnErr, IsErrAnd, slice_get}
use Rattle.std.proofs.lemmas.Bool.{or_parts}
use Rattle.iso_atoms.specs.Texts.{KeepsTexts, EachOnce}
use Rattle.iso_model.specs.Search.Databases as databases
use Rattle.iso_model.specs.Search.Databases.{Key, is_static}
use Rattle.iso_model.specs.Search.BuiltIns.{is_built_in}
use Rattle.iso_model.specs.Search.Storages as table
use Rattle.iso_db.specs.Databases.{Database, is_not_static}
use Rattle.iso_lib.specs.declared.indicators.Functor.{Functor}
use Rattle.iso_program.specs.declared.callables.Callable.{Callable}
use Rattle.iso_program.specs.declared.clauses.Clause.{Clause}
use Rattle.iso_program.specs.Adding.{IsFound}
use Rattle.iso_program.specs.Programs.{kept_at, kind_of}
use Rattle.iso_program.proofs.ChangeLemmas.{database_kept, finds_kept}
use Rattle.iso_model.specs.Terms.Trees.{arities_fit}
use Rattle.iso_model.specs.Search.Errors.{permission_error}
use Rattle.iso_model.specs.Search.Settlements.{Settled, Refuses}
use Rattle.iso_lib_core.specs.Replies.{IsFault}
use Rattle.iso_lib_core.proofs.CheckLemmas.{handed_on}
use Rattle.iso_model.specs.Search.Worlds.{World}
use Rattle.iso_lib_core.specs.declared.outcomes.Fault.{Fault}
use Rattle.iso_lib_core.specs.declared.outcomes.Fault.TheVariants as fault
use Rattle.iso_storage.specs.Storing.{IsProgram, IsChanged}
use Rattle.iso_program.specs.Kept.{Keeping, StaysKept}
use Rattle.iso_storage.proofs.HeadLemmas.{kept_kind}

-- ---- names come

pub program_kept : {C : Type 0} {keeps : Keeping C} {old new : List (List ℕ)} {d : Database (Clause C)} {rows : List
    (Vec Callable Global)} {m : databases.Database} → StaysKept keeps → KeepsTexts old new
    → IsProgram keeps old d rows m → IsProgram keeps new d rows m
program_kept {old = old} {new = new} stays texts is = record { database = database_kept old new stays texts is.database; found = finds_kept texts is.found }

pub found_in : {C : Type 0} {keeps : Keeping C} {names : List (List ℕ)} {d : Database (Clause C)} {rows : List
    (Vec Callable Global)} {m : databases.Database} (f : Functor) (text : List ℕ) → IsProgram keeps names d rows m
    → EachOnce names → slice_get names f.name ≡ Some text → IsFound names f text d rows
found_in f text is once at = record { each_once = once; atom = at; found = is.found }

-- ---- procedures that are fixed

not_not : (b : Bool) → not b ≡ false → b ≡ true
not_not true h = refl
not_not false h = absurd (cc h)

-- goals may change it
pub changes_fit : {C : Type 0} {keeps : Keeping C} {names : List (List ℕ)} {d : Database (Clause C)} {rows : List
    (Vec Callable Global)} {m : databases.Database} (k : Key) → IsProgram keeps names d rows m
    → table.is_fixed m.procedures k ≡ false → is_not_static (kind_of (kept_at d k)) ≡ true
changes_fit {d = d} {m = m} k is free =
    not_not (is_not_static (kind_of (kept_at d k))) (sym (kept_kind d m k is.database (kind_of (kept_at d k)) refl) ∙ (or_parts (is_built_in k) (is_static (databases.kind_at m.procedures k)) free).1)

-- where the rows are lent
pub rows_lent : {C : Type 0} {keeps : Keeping C} {names : List (List ℕ)} {d : Database
    (Clause C)} {rows lent : List (Vec Callable Global)} {m : databases.Database} → lent ≡ rows
    → IsProgram keeps names d rows m → IsProgram keeps names d lent m
rows_lent same is = rw same is

-- ---- memory was refused

pub no_memory : {C : Type 0} (keeps : Keeping C) (names : List (List ℕ)) (d : Database (Clause C))
    (rows : List (Vec Callable Global)) (w : World) (s : Settled) (r : Result Unit Fault)
    → IsErrAnd r (λ x. x ≡ fault.NoMemory) → IsChanged keeps names d rows w s r
no_memory keeps names d rows w s (Ok u) h = absurd h
no_memory keeps names d rows w s (Err x) h = rw h tt

pub on_err : (r : Result Unit Fault) (P : Type 0) → P → OnErr r P
on_err (Ok u) P h = tt
on_err (Err x) P h = h

-- ---- the procedure is fixed

pub changed_refused : {C : Type 0} (keeps : Keeping C) (names : List (List ℕ)) (d : Database (Clause C))
    (rows : List (Vec Callable Global)) (w : World) (s : Settled) (k by : Key) (r : Result Unit Fault) (e : Fault)
    → IsErrAnd r (λ x. x ≡ e) → s ≡ Refuses (permission_error k by) → IsFault (permission_error k by) e
    → IsChanged keeps names d rows w s r
changed_refused keeps names d rows w s k by r e handed settled raised = handed_on (IsChanged keeps names d rows w s) r e handed (by_fault e raised) where
  by_fault : (x : Fault) → IsFault (permission_error k by) x → IsChanged keeps names d rows w s (Err x)
  by_fault (fault.Raise ball) h = rw settled (h.0, ap arities_fit h.0)
  by_fault fault.Full h = tt
  by_fault fault.NoMemory h = tt
