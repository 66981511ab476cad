-- What a goal calls, by its name and arity.
use Rattle.std.proofs.Common.{◌≡◌, ℕ, List, Some, None, Option, option_map, is_some, true, false, refl, ap, sym, ◌∙◌, subst, inl, inr, Vec, Global, [], length, ◌<◌}
use Rattle.std.specs.List.{slice_get}
use Rattle.std.specs.Prelude.{MatchOption}
use Rattle.std.proofs.lemmas.Option.{slice_get-get_or}
use Rattle.std.specs.Option.{option_and_then}
use Rattle.iso_atoms.specs.Texts.{EachOnce, text_at}
use Rattle.iso_program.specs.declared.callables.Callee.{Callee}
use Rattle.iso_program.specs.Callables.{Finds, Agrees, callee_at, callee_of}
use Rattle.iso_program.proofs.AddingLemmas.{called_none}
use Rattle.iso_program.proofs.CallableLemmas.{index_none}
use Rattle.iso_program.specs.Leaving.{AreLeft, Leaving}
use Rattle.iso_program.specs.declared.callables.Callable.{Callable}
use Rattle.iso_program.specs.declared.clauses.Clause.{Clause}
use Rattle.iso_db.specs.Databases.{Database}
use Rattle.iso_db.specs.declared.db.Db.{Db}
use Rattle.iso_program.specs.Kept.{Keeping}
use Rattle.iso_db.specs.declared.keyed.KeyedView.{KeyedView}
use Rattle.iso_model.specs.Terms.Trees.{Tree}
use Rattle.iso_model.specs.Search.Walker.{World}
use Rattle.iso_model.specs.Search.Databases as databases
use Rattle.iso_model.specs.Search.Databases.{Key, key, key_of, clauses_at}
use Rattle.iso_model.specs.Search.BuiltIns.{built_in}
use Rattle.iso_db.specs.Databases as db
use Rattle.iso_db.specs.declared.kinds.Kind.{Kind}
use Rattle.iso_search.specs.declared.calls.Called.{Called}
use Rattle.iso_search.specs.declared.calls.Called.TheVariants as call
use Rattle.iso_program.specs.Programs.{AreClauses, IsProcedure, IsDatabase, procedure_with, kept_at, kind_of}
use Rattle.iso_search.specs.Called.{ClausesFor, IsNamed, IsCalled}
use Rattle.iso_program.proofs.ProcedureLemmas.{clauses_with}

-- ---- the procedure of a key

-- none, where nothing is kept
pub none_there : {E : Type 0} {keeps : Keeping E} {names : List (List ℕ)} {d : Database (Clause E)} {m : databases.Database} (k : Key) → IsDatabase keeps names d m → kind_of (kept_at d k) ≡ None → clauses_at m.procedures k ≡ None
none_there {keeps = keeps} {names = names} {d = d} {m = m} k is absent =
    clauses_with m.procedures k ∙ by_kind (procedure_with m.procedures k) (subst (λ (o : Option Kind). IsProcedure keeps names o (db.clauses_of (kept_at d k)) (procedure_with m.procedures k)) absent (is.procedures k)) where
      by_kind : (o : Option databases.Procedure) → IsProcedure keeps names None (db.clauses_of (kept_at d k)) o → option_map (λ p. p.clauses) o ≡ None
      by_kind None is = refl
      by_kind (Some p) is = absurd is

-- one with these clauses, where they are kept
pub record Clauses {E : Type 0} (keeps : Keeping E) (names : List (List ℕ)) (m : databases.Database) (k : Key) (ks : List (db.Clause (Clause E))) : Type 0 where
  pub clauses : List databases.Clause
  pub found : clauses_at m.procedures k ≡ Some clauses
  pub are : AreClauses keeps names ks clauses

pub clauses_there : {E : Type 0} {keeps : Keeping E} {names : List (List ℕ)} {d : Database (Clause E)} {m : databases.Database} (k : Key) (kind : Kind) → IsDatabase keeps names d m → kind_of (kept_at d k) ≡ Some kind → Clauses keeps names m k (db.clauses_of (kept_at d k))
clauses_there {keeps = keeps} {names = names} {d = d} {m = m} k kind is there =
    by_kind (procedure_with m.procedures k) (clauses_with m.procedures k) (subst (λ (o : Option Kind). IsProcedure keeps names o (db.clauses_of (kept_at d k)) (procedure_with m.procedures k)) there (is.procedures k)) where
      by_kind : (o : Option databases.Procedure) → clauses_at m.procedures k ≡ option_map (λ p. p.clauses) o → IsProcedure keeps names (Some kind) (db.clauses_of (kept_at d k)) o → Clauses keeps names m k (db.clauses_of (kept_at d k))
      by_kind None found is = absurd is
      by_kind (Some p) found is = record { clauses = p.clauses; found = found; are = is.1 }

-- ---- what a goal calls

-- these clauses are left for a call: the first comes next, and the view gives those behind it; or there is none
abbrev Leaves : Leaving → KeyedView → List databases.Clause → Called → Type 0
Leaves leaves later cs (call.BuiltIn b) = ⊥
Leaves leaves later cs (call.User clause) = leaves clause later cs
Leaves leaves later cs call.Fails = cs ≡ []
Leaves leaves later cs call.Unknown = ⊥

-- a procedure is called, and what is left of it for the call begins so
pub named_begins : (leaves : Leaving) (later : KeyedView) (w : World) (k : Key) (t : Tree) (cs : List databases.Clause) (c : Called) → built_in k ≡ None → ClausesFor w k t cs → Leaves leaves later cs c → IsNamed leaves later w k t c
named_begins leaves later w k t cs (call.User clause) none left is = (none, (cs, left, is))
named_begins leaves later w k t cs call.Fails none left is = (none, inl (subst (λ (ds : List databases.Clause). ClausesFor w k t ds) is left))
named_begins leaves later w k t cs c none left is = absurd is

pub named_calls : {E : Type 0} (keeps : Keeping E) (names : List (List ℕ)) (d : Db (Clause E)) (later : KeyedView) (w : World) (t : Tree) (k : Key) (c : Called) → key_of t ≡ Some k → IsNamed (AreLeft keeps names d) later w k t c → IsCalled (AreLeft keeps names d) later w t c
named_calls keeps names d later w t k (call.BuiltIn b) named h = record { key = k; named = named; found = h }
named_calls keeps names d later w t k (call.User clause) named h =
    let left = h.1.2 in
    record {
      key = k;
      first = left.first;
      others = left.others;
      user = record { named = named; none = h.0 };
      clauses = subst (λ (cs : List databases.Clause). ClausesFor w k t cs) left.is h.1.1;
      left = subst (λ (cs : List databases.Clause). AreLeft keeps names d clause later cs) left.is left;
    }
named_calls keeps names d later w t k call.Fails named h = inr (k, record { named = named; none = h.0 }, h.1)
named_calls keeps names d later w t k call.Unknown named h = (k, record { named = named; none = h.0 }, h.1)

-- ---- what is found by an atom

-- what was found is called
pub found_by : {E : Type 0} (names : List (List ℕ)) (rows : List (Vec Callable Global)) (d : Database (Clause E)) (a n : ℕ) (c : Callee) → Finds names rows d → callee_at rows a n ≡ Some c → callee_of d (key (text_at names a) n) ≡ Some c
found_by names rows d a n c f h = by_case (f.agrees (key (text_at names a) n)) where
  by_case : Agrees d (key (text_at names a) n) (f.calls (key (text_at names a) n)) → callee_of d (key (text_at names a) n) ≡ Some c
  by_case (inl same) = sym same ∙ (f.indexes.sound a n c h).1
  by_case (inr none) = absurd (let e : None ≡ Some c = sym none.0 ∙ (f.indexes.sound a n c h).1 in cc e)

-- under a name that isn't found no built-in is called, and no procedure is there
pub found_none : {E : Type 0} (names : List (List ℕ)) (rows : List (Vec Callable Global)) (d : Database (Clause E)) (a n : ℕ) (text : List ℕ) → EachOnce names → slice_get names a ≡ Some text → Finds names rows d → callee_at rows a n ≡ None
    → (built_in (key text n) ≡ None) × (kind_of (kept_at d (key text n)) ≡ None)
found_none names rows d a n text once there f none = by_case (f.agrees (key text n)) where
  by_case : Agrees d (key text n) (f.calls (key text n)) → (built_in (key text n) ≡ None) × (kind_of (kept_at d (key text n)) ≡ None)
  by_case (inl same) =
      let parts = called_none d (key text n) (sym same ∙ index_none names rows f.calls a n text once there f.indexes none) in
      (parts.0, ap (λ o. kind_of (option_and_then (slice_get d.procedures) o)) parts.1)
  by_case (inr b) = (b.1, b.2)

-- so is called what is found under a name and an arity, or nothing is
pub callee_found : {E : Type 0} (names : List (List ℕ)) (rows : List (Vec Callable Global)) (d : Database (Clause E)) (a n : ℕ) → EachOnce names → a < length names → Finds names rows d → (o : Option Callee) → o ≡ callee_at rows a n
    → MatchOption o ((built_in (key (text_at names a) n) ≡ None) × (kind_of (kept_at d (key (text_at names a) n)) ≡ None)) (λ c. callee_of d (key (text_at names a) n) ≡ Some c)
callee_found names rows d a n once there f None is = found_none names rows d a n (text_at names a) once (slice_get-get_or names a [] there) f (sym is)
callee_found names rows d a n once there f (Some c) is = found_by names rows d a n c f (sym is)

-- what has no value is none, and what has one is some
pub none_of : {X : Type 0} (o : Option X) → false ≡ is_some o → o ≡ None
none_of None h = refl
none_of (Some x) h = absurd (cc h)

pub some_of : {X : Type 0} (o : Option X) → true ≡ is_some o → (x : X) × (o ≡ Some x)
some_of None h = absurd (cc h)
some_of (Some x) h = (x, refl)
