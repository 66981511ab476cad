-- What goals come to that remove clauses or a procedure.
use Rattle.std.proofs.Common.{◌≡◌, ℕ, List, map, Bool, Some, None, refl, Ok, Err, if◌then◌else◌, not, Vec, Global, filter, slice_get}
use Rattle.iso_model.specs.Terms.Trees.{Tree}
use Rattle.iso_model.specs.Search.Databases as databases
use Rattle.iso_model.specs.Search.Databases.{Key, key, Dynamic, with_clauses, without_procedure}
use Rattle.iso_model.specs.Search.Errors.{permission_error}
use Rattle.iso_model.specs.Search.Settlements.{Settled, Refuses}
use Rattle.iso_model.specs.Search.Storages.{with_head, is_fixed, clauses_of, retractall_key, retractall_changed, retractall_settled, abolished, abolish_key, abolish_settled, indicated}
use Rattle.iso_model.specs.Search.Worlds.{World}
use Rattle.iso_db.specs.Databases as db
use Rattle.iso_db.specs.Databases.{Database}
use Rattle.iso_db.specs.declared.kinds.Kind.TheVariants as kind
use Rattle.iso_lib.specs.declared.indicators.Functor.{Functor}
use Rattle.iso_program.specs.declared.callables.Callable.{Callable}
use Rattle.iso_program.specs.declared.callables.Callee.TheVariants as callee
use Rattle.iso_program.specs.declared.clauses.Clause.{Clause}
use Rattle.iso_program.specs.Callables.{callee_at}
use Rattle.iso_program.specs.Programs.{place_at, kept_at, kind_of}
use Rattle.iso_program.proofs.ChangeLemmas.{database_gone, finds_gone}
use Rattle.iso_storage.specs.Matching.{all_removed}
use Rattle.iso_storage.specs.Storing.{IsProgram}
use Rattle.iso_storage.proofs.RemovalLemmas.{database_absent, database_retracted, finds_retracted}
use Rattle.iso_program.specs.Kept.{Keeping}

-- what retractall/1 comes to, whether its procedure is fixed or not
pub retractall_is : (h : Tree) (next : ℕ) (w : World) (k : Key)
    → ((goes_on : Key → Settled) → with_head h retractall_key goes_on ≡ goes_on k)
    → (fixed : Bool) → is_fixed w.database.procedures k ≡ fixed → retractall_settled h next w
    ≡ (if fixed then Refuses (permission_error k retractall_key) else retractall_changed h next w k)
retractall_is h next w k headed fixed is = rw (headed, is) refl

-- and abolish/1
pub abolish_is : (t : Tree) (w : World) (k : Key) → indicated t abolish_key ≡ Ok k
    → (fixed : Bool) → is_fixed w.database.procedures k ≡ fixed
    → abolish_settled t w ≡ abolished w (if fixed then Err (permission_error k abolish_key) else Ok k)
abolish_is t w k named fixed is = rw (named, is) refl

-- without its procedure
pub program_gone : {C : Type 0} {keeps : Keeping C} {names : List (List ℕ)} {rows : List (Vec Callable Global)}
    (d new : Database (Clause C)) (m : databases.Database) (k : Key) (place : ℕ) → place_at d k ≡ Some place
    → new ≡ db.without_procedure place d → IsProgram keeps names d rows m
    → IsProgram keeps names new rows (record m { procedures = without_procedure m.procedures k })
program_gone d new m k place at gone is = rw gone (record { database = database_gone d m k place at is.database; found = finds_gone d m k place at is.found })

pub program_absent : {C : Type 0} {keeps : Keeping C} {names : List (List ℕ)} {rows : List (Vec Callable Global)}
    (d : Database (Clause C)) (m : databases.Database) (k : Key) → kind_of (kept_at d k) ≡ None
    → IsProgram keeps names d rows m
    → IsProgram keeps names d rows (record m { procedures = without_procedure m.procedures k })
program_absent d m k none is = record { database = database_absent d m k none is.database; found = is.found }

-- without the clauses that pass a test
pub program_retracted : {C : Type 0} {keeps : Keeping C} {names : List (List ℕ)} {rows : List (Vec Callable Global)}
    (d new : Database (Clause C)) (m : databases.Database) (place : ℕ) (test : databases.Clause → Bool) (ns : List ℕ)
    (g : Functor) (text : List ℕ) → place_at d (key text g.arity) ≡ Some place
    → ns ≡ map (λ (c : databases.Clause). c.number) (filter test (clauses_of m.procedures (key text g.arity)))
    → new ≡ all_removed place ns (db.with_kind kind.Dynamic place d) → slice_get names g.name ≡ Some text
    → callee_at rows g.name g.arity ≡ Some (callee.User place) → IsProgram keeps names d rows m
    → IsProgram keeps names new rows (record m {
      procedures = with_clauses
          (filter (λ c. not (test c))) Dynamic m.procedures (key text g.arity);
    })
program_retracted d new m place test ns g text at those gone atom called is =
    rw gone (record { database = database_retracted d m (key text g.arity) place at test ns those is.database; found = finds_retracted d m (key text g.arity) place at ns g text atom refl called is.found })
