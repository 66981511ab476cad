-- Clauses and procedures that are taken away or declared: what is kept stays the database of the language. And names that come.
use Rattle.std.proofs.Common.{◌≡◌, ◌==◌, ℕ, List, [], refl, sym, ap, ◌∙◌, subst, arith, not, Option, Some, None, option_map, unwrap_or, Vec, Global}
use Rattle.std.specs.List.{filter, list_any, slice_get}
use Rattle.iso_atoms.specs.Texts.{KeepsTexts}
use Rattle.iso_model.specs.Search.Databases as databases
use Rattle.iso_model.specs.Search.Databases.{Key, key, Dynamic, without_clause, without_procedure, with_declared, has_clause, clauses_at}
use Rattle.iso_db.specs.Databases as db
use Rattle.iso_db.specs.Databases.{Database, Procedure, has_in}
use Rattle.iso_db.specs.declared.kinds.Kind.{Kind}
use Rattle.iso_db.specs.declared.kinds.Kind.TheVariants as kind
use Rattle.iso_lib.specs.declared.indicators.Functor.{Functor}
use Rattle.iso_program.specs.declared.callables.Callable.{Callable}
use Rattle.iso_program.specs.declared.callables.Callee.TheVariants as callee
use Rattle.iso_program.specs.declared.clauses.Clause.{Clause}
use Rattle.iso_program.specs.Callables.{Finds, callee_at}
use Rattle.iso_program.specs.Programs.{AreClauses, no_clauses, more_clauses, IsProcedure, IsDatabase, procedure_with, place_at, kept_at, kind_of}
use Rattle.iso_program.proofs.AddingLemmas.{finds_absent, finds_called}
use Rattle.iso_program.proofs.CallableLemmas.{index_kept}
use Rattle.iso_program.proofs.NumberedLemmas.{clauses_less, has_same, numbered_less}
use Rattle.iso_program.proofs.ProcedureLemmas.{grown, one_less, with_same, with_other, gone_same, gone_other, less_same, less_other, clauses_with}
use Rattle.iso_program.proofs.ProgramLemmas.{kept_here, kept_there, database_changed}
use Rattle.iso_program.proofs.WrittenLemmas.{clause_kept}
use Rattle.iso_program.specs.Kept.{Keeping, StaysKept}

-- ---- names come

module _ {C : Type 0} {keeps : Keeping C} (old new : List (List ℕ)) (stays : StaysKept keeps)
    (texts : KeepsTexts old new) where
  pub clauses_kept : {ks : List (db.Clause (Clause C))} {cs : List databases.Clause} → AreClauses keeps old ks cs
      → AreClauses keeps new ks cs
  clauses_kept no_clauses = no_clauses
  clauses_kept (more_clauses {k = k} {c = c} number is others) = more_clauses number (clause_kept old new texts stays k.value c is) (clauses_kept others)

  procedure_kept : (kind : Option Kind) (ks : List (db.Clause (Clause C))) (o : Option databases.Procedure)
      → IsProcedure keeps old kind ks o → IsProcedure keeps new kind ks o
  procedure_kept (Some k) ks (Some p) is = (is.0, clauses_kept is.1)
  procedure_kept kind ks o is = is

  pub database_kept : {d : Database (Clause C)} {m : databases.Database} → IsDatabase keeps old d m
      → IsDatabase keeps new d m
  database_kept {d = d} {m = m} is = record {
    procedures = λ k. procedure_kept (kind_of (kept_at d k)) (db.clauses_of (kept_at d k)) (procedure_with m.procedures k) (is.procedures k);
    numbers = is.numbers;
    added = is.added;
  }

pub finds_kept : {X : Type 0} {old new : List (List ℕ)} → KeepsTexts old new
    → {rows : List (Vec Callable Global)} {d : Database X} → Finds old rows d → Finds new rows d
finds_kept {old = old} {new = new} texts {rows = rows} is = record { calls = is.calls; indexes = index_kept old new rows is.calls texts is.indexes; agrees = is.agrees }

-- ---- what is done to a procedure, on both sides

kind_less : {X : Type 0} (n : ℕ) (o : Option (Procedure X)) → kind_of (option_map (db.one_less n) o) ≡ kind_of o
kind_less n None = refl
kind_less n (Some p) = refl

procedure_less : {C : Type 0} (keeps : Keeping C) (names : List (List ℕ)) (n : ℕ) (x : Option Kind)
    (ks : List (db.Clause (Clause C))) (o : Option databases.Procedure) → IsProcedure keeps names x ks o
    → IsProcedure keeps names x (filter (λ c. not (c.number == n)) ks) (option_map (one_less n) o)
procedure_less keeps names n None ks None is = ap (filter (λ c. not (c.number == n))) is
procedure_less keeps names n (Some x) ks (Some p) is = (is.0, clauses_less (λ a. not (a == n)) is.1)
procedure_less keeps names n x ks o is = is

procedure_has : {C : Type 0} (keeps : Keeping C) (names : List (List ℕ)) (n : ℕ) (x : Option Kind)
    (ks : List (db.Clause (Clause C))) (o : Option databases.Procedure) → IsProcedure keeps names x ks o
    → has_in ks n ≡ list_any (λ c. c.number == n) (unwrap_or (option_map (λ p. p.clauses) o) [])
procedure_has keeps names n None ks None is = ap (λ xs. has_in xs n) is
procedure_has keeps names n (Some x) ks (Some p) is = has_same n is.1
procedure_has keeps names n x ks o is = absurd is

-- a procedure that is taken away
abbrev pub gone : {X : Type 0} → Procedure X → Procedure X
gone p = record p { kind = None; clauses = [] }

no_kind : {X : Type 0} (o : Option (Procedure X)) → kind_of (option_map gone o) ≡ None
no_kind None = refl
no_kind (Some p) = refl

-- one that is declared
abbrev pub declared : {X : Type 0} → Procedure X → Procedure X
declared p = record p { kind = Some (unwrap_or p.kind kind.Dynamic) }

procedure_declared : {C : Type 0} (keeps : Keeping C) (names : List (List ℕ)) (k : Key) (x : Option Kind)
    (ks : List (db.Clause (Clause C))) (o : Option databases.Procedure) → IsProcedure keeps names x ks o
    → IsProcedure keeps names (Some (unwrap_or x kind.Dynamic)) ks (Some (grown (λ cs. cs) Dynamic k o))
procedure_declared {C = C} keeps names k None ks None is = (tt, subst (λ (xs : List (db.Clause (Clause C))). AreClauses keeps names xs []) (sym is) no_clauses)
procedure_declared keeps names k (Some x) ks (Some p) is = is
procedure_declared keeps names k x ks o is = absurd is

-- ---- so in a database

module _ {C : Type 0} (d : Database (Clause C)) (m : databases.Database) (k : Key) (place : ℕ)
    (at : place_at d k ≡ Some place) where
  -- a clause is removed
  pub database_less : {keeps : Keeping C} {names : List (List ℕ)} (n : ℕ) → IsDatabase keeps names d m
      → IsDatabase keeps names (db.without_clause_at place n d)
      (record m { procedures = without_clause m.procedures k n })
  database_less {keeps = keeps} {names = names} n is =
      database_changed (db.one_less n) (λ p. refl) d.added d place k m (record m { procedures = without_clause m.procedures k n }) at (omega arith) is.added
      (λ j apart. less_other m.procedures k j n apart) (λ p was. numbered_less d.added (λ c. not (c.number == n)) p.clauses was)
      (λ p was. subst (λ (o : Option databases.Procedure). IsProcedure keeps names p.kind (filter (λ c. not (c.number == n)) p.clauses) o) (sym (less_same m.procedures k n)) (procedure_less keeps names n p.kind p.clauses (procedure_with m.procedures k) was)) is

  pub finds_less : {names : List (List ℕ)} {rows : List (Vec Callable Global)} (n : ℕ) → Finds names rows d
      → Finds names rows (db.without_clause_at place n d)
  finds_less {names = names} {rows = rows} n is =
      finds_absent names rows (db.one_less n) (λ p. refl) d.added d place k at is (λ none. ap kind_of (kept_here (db.one_less n) (λ p. refl) d.added d place k at) ∙ kind_less n (kept_at d k) ∙ none)

  -- whether it is there
  pub has_at : {keeps : Keeping C} {names : List (List ℕ)} (n : ℕ) → IsDatabase keeps names d m
      → has_in (db.clauses_at d place) n ≡ has_clause m.procedures k n
  has_at {keeps = keeps} {names = names} n is =
      ap (λ o. has_in (db.clauses_of o) n) (sym (kept_there d k place at))
      ∙ procedure_has keeps names n (kind_of (kept_at d k)) (db.clauses_of (kept_at d k)) (procedure_with m.procedures k) (is.procedures k)
      ∙ ap (λ o. list_any (λ c. c.number == n) (unwrap_or o [])) (sym (clauses_with m.procedures k))

  -- the procedure is taken away
  pub database_gone : {keeps : Keeping C} {names : List (List ℕ)} → IsDatabase keeps names d m
      → IsDatabase keeps names (db.without_procedure place d)
      (record m { procedures = without_procedure m.procedures k })
  database_gone {keeps = keeps} {names = names} is =
      database_changed gone (λ p. refl) d.added d place k m (record m { procedures = without_procedure m.procedures k }) at (omega arith) is.added
      (λ j apart. gone_other m.procedures k j apart) (λ p was. tt)
      (λ p was. subst (λ (o : Option databases.Procedure). IsProcedure keeps names None [] o) (sym (gone_same m.procedures k)) refl) is

  pub finds_gone : {names : List (List ℕ)} {rows : List (Vec Callable Global)} → Finds names rows d
      → Finds names rows (db.without_procedure place d)
  finds_gone {names = names} {rows = rows} is =
      finds_absent names rows gone (λ p. refl) d.added d place k at is
      (λ none. ap kind_of (kept_here gone (λ p. refl) d.added d place k at) ∙ no_kind (kept_at d k))

  -- the procedure is declared
  pub database_declared : {keeps : Keeping C} {names : List (List ℕ)} → IsDatabase keeps names d m
      → IsDatabase keeps names (db.with_kind kind.Dynamic place d)
      (record m { procedures = with_declared m.procedures k })
  database_declared {keeps = keeps} {names = names} is =
      database_changed declared (λ p. refl) d.added d place k m (record m { procedures = with_declared m.procedures k }) at (omega arith) is.added
      (λ j apart. with_other (λ cs. cs) Dynamic m.procedures k j apart) (λ p was. was)
      (λ p was. subst (λ (o : Option databases.Procedure). IsProcedure keeps names (Some (unwrap_or p.kind kind.Dynamic)) p.clauses o) (sym (with_same (λ cs. cs) Dynamic m.procedures k)) (procedure_declared keeps names k p.kind p.clauses (procedure_with m.procedures k) was)) is

  pub finds_declared : {names : List (List ℕ)} {rows : List (Vec Callable Global)} (g : Functor) (text : List ℕ)
      → slice_get names g.name ≡ Some text → k ≡ key text g.arity
      → callee_at rows g.name g.arity ≡ Some (callee.User place) → Finds names rows d
      → Finds names rows (db.with_kind kind.Dynamic place d)
  finds_declared {names = names} {rows = rows} g text atom named found is =
      finds_called names rows declared (λ p. refl) d.added d place k at is g text atom named found
