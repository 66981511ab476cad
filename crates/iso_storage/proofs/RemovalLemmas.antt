-- Clauses that are removed by their numbers, and what the database is then.
use Rattle.std.proofs.Common.{◌≡◌, ◌==◌, ◌<◌, ◌+◌, ℕ, zero, suc, List, [], ◌∷◌, map, length, drop, get_or, add-one, refl, sym, ap, ◌∙◌, subst, Bool, true, false, not, if◌then◌else◌, Option, Some, None, option_map, unwrap_or, Result, Ok, Err, is_ok, inl, inr, Vec, Global, OnOk, drop-cons}
use Rattle.std.specs.List.{filter, list_any, slice_get}
use Rattle.std.proofs.lemmas.Bool.{cases_Bool, eqb-true, eq-eqb, or_parts}
use Rattle.iso_model.specs.Search.Databases as databases
use Rattle.iso_model.specs.Search.Databases.{Key, key, Procedures, Procedure, Dynamic, same_key, with_clauses, with_declared, without_number, without_clause, without_procedure}
use Rattle.iso_model.specs.Search.Storages.{clauses_of}
use Rattle.iso_db.specs.Databases as db
use Rattle.iso_db.specs.Databases.{Database, at_place, has_in}
use Rattle.iso_db.specs.declared.kinds.Kind.{Kind}
use Rattle.iso_db.specs.declared.kinds.Kind.TheVariants as kind
use Rattle.iso_lib.specs.declared.indicators.Functor.{Functor}
use Rattle.iso_program.specs.declared.callables.Callable.{Callable}
use Rattle.iso_program.specs.declared.callables.Callee.TheVariants as callee
use Rattle.iso_program.specs.declared.clauses.Clause.{Clause}
use Rattle.iso_program.specs.Callables.{Finds, callee_at}
use Rattle.iso_program.specs.Programs.{AreClauses, no_clauses, more_clauses, AreNumbered, IsProcedure, IsDatabase, procedure_with, place_at, kept_at, kind_of}
use Rattle.iso_program.proofs.CallableLemmas.{same_key_is}
use Rattle.iso_program.proofs.ChangeLemmas.{database_less, finds_less, database_declared, finds_declared}
use Rattle.iso_program.proofs.NumberedLemmas.{has_same}
use Rattle.iso_program.proofs.ProcedureLemmas.{grown, one_less, with_same, with_other, gone_same, gone_other, less_same, less_other, clauses_with}
use Rattle.iso_program.proofs.ProgramLemmas.{same_place}
use Rattle.iso_storage.specs.Matching.{all_removed}
use Rattle.iso_storage.proofs.HeadLemmas.{absent_procedure}
use Rattle.iso_program.specs.Kept.{Keeping}

-- ---- one step after another

pub long_still : {X : Type 0} (f : db.Procedure X → db.Procedure X) (place : ℕ) (ps : List (db.Procedure X))
    → length (at_place place f ps) ≡ length ps
long_still f place [] = refl
long_still f zero (p ∷ ps) = refl
long_still f (suc place) (p ∷ ps) = ap suc (long_still f place ps)

-- what was asked for was done
pub was_done : {P : Type 0} {E : Type 0} (r : Result Unit E) → is_ok r ≡ true → OnOk r P → P
was_done (Ok u) ok is = is
was_done (Err e) ok is = absurd (cc ok)

pub long_declared : {X : Type 0} (place : ℕ) (d : Database X)
    → length (db.with_kind kind.Dynamic place d).procedures ≡ length d.procedures
long_declared place d = long_still (λ p. record p { kind = Some (unwrap_or p.kind kind.Dynamic) }) place d.procedures

pub next_removed : {X : Type 0} (place : ℕ) (ns : List ℕ) (i n : ℕ) (d : Database X) → i < length ns → n ≡ get_or ns i n
    → all_removed place (drop i ns) d ≡ all_removed place (drop (i + 1) ns) (db.without_clause_at place n d)
next_removed place ns i n d within is =
    let next : drop i ns ≡ n ∷ drop (i + 1) ns = rw (drop-cons ns i n within, ← is, add-one) refl in
    ap (λ xs. all_removed place xs d) next

-- ---- the clauses

-- the clauses without those of these numbers
abbrev without_numbers : List ℕ → List databases.Clause → List databases.Clause
without_numbers [] cs = cs
without_numbers (n ∷ ns) cs = without_numbers ns (without_number n cs)

-- whether the number is one of these
abbrev is_among : List ℕ → ℕ → Bool
is_among ns n = list_any (λ x. n == x) ns

first_without : (ns : List ℕ) (c : databases.Clause) (cs : List databases.Clause)
    → without_numbers ns (c ∷ cs) ≡ (if is_among ns c.number then without_numbers ns cs else c ∷ without_numbers ns cs)
first_without [] c cs = refl
first_without (n ∷ ns) c cs =
    elim (cases_Bool (c.number == n)) [
      | inl here ↦ rw here refl
      | inr other ↦ rw other (first_without ns c (without_number n cs))
    ]

-- a number that no clause has
none_without : (n : ℕ) (cs : List databases.Clause) → list_any (λ c. c.number == n) cs ≡ false
    → without_number n cs ≡ cs
none_without n [] none = refl
none_without n (c ∷ cs) none =
    let parts = or_parts (c.number == n) (list_any (λ c. c.number == n) cs) none in
    rw parts.0 (ap (λ xs. c ∷ xs) (none_without n cs parts.1))

turned : (a b : ℕ) → (a == b) ≡ false → (b == a) ≡ false
turned a b apart = elim (cases_Bool (b == a)) [
  | inl same ↦ (let e : true ≡ false = sym (eq-eqb a a refl) ∙ ap (λ (n : ℕ). a == n) (sym (eqb-true b a same)) ∙ apart in absurd (cc e))
  | inr unlike ↦ unlike
]

none_among : (test : databases.Clause → Bool) (n : ℕ) (cs : List databases.Clause)
    → list_any (λ c. c.number == n) cs ≡ false → is_among
    (map (λ (c : databases.Clause). c.number) (filter test cs)) n ≡ false
none_among test n [] none = refl
none_among test n (c ∷ cs) none =
    let parts = or_parts (c.number == n) (list_any (λ c. c.number == n) cs) none in
    elim (cases_Bool (test c)) [
      | inl passes ↦ (let other = turned c.number n parts.0 in rw (passes, other) (none_among test n cs parts.1))
      | inr fails ↦ rw fails (none_among test n cs parts.1)
    ]

-- without the numbers of those that pass the test, the others are left
others_left : {C : Type 0} {keeps : Keeping C} {names : List (List ℕ)} (test : databases.Clause → Bool)
    (a : ℕ) {ks : List (db.Clause (Clause C))} {cs : List databases.Clause} → AreClauses keeps names ks cs
    → AreNumbered a ks
    → without_numbers (map (λ (c : databases.Clause). c.number) (filter test cs)) cs ≡ filter (λ c. not (test c)) cs
others_left test a no_clauses numbered = refl
others_left test a (more_clauses {k = k} {c = c} {ks = ks} {cs = cs} number is others) numbered =
    let own : list_any (λ (x : databases.Clause). x.number == c.number) cs ≡ false = sym (has_same c.number others) ∙ ap (has_in ks) number ∙ numbered.1 in
    let ns = map (λ (x : databases.Clause). x.number) (filter test cs) in
    let left : without_numbers ns cs ≡ filter (λ x. not (test x)) cs = others_left test a others numbered.2 in
    let gone : without_numbers (c.number ∷ ns) (c ∷ cs) ≡ without_numbers ns (without_number c.number cs) =
    ap (λ (b : Bool). without_numbers ns (if not b then c ∷ without_number c.number cs else without_number c.number cs)) (eq-eqb c.number c.number refl) in
    let stays : without_numbers ns (c ∷ cs) ≡ c ∷ without_numbers ns cs =
    first_without ns c cs ∙ ap (λ (b : Bool). if b then without_numbers ns cs else c ∷ without_numbers ns cs) (none_among test c.number cs own) in
    elim (cases_Bool (test c)) [
      | inl passes ↦ rw passes (gone ∙ ap (without_numbers ns) (none_without c.number cs own) ∙ left)
      | inr fails ↦ rw fails (stays ∙ ap (λ xs. c ∷ xs) left)
    ]

-- ---- the procedures

abbrev all_without : Procedures → Key → List ℕ → Procedures
all_without ps k [] = ps
all_without ps k (n ∷ ns) = all_without (without_clause ps k n) k ns

abbrev all_less : List ℕ → Procedure → Procedure
all_less ns p = record p { clauses = without_numbers ns p.clauses }

all_same : (ns : List ℕ) (ps : Procedures) (k : Key)
    → procedure_with (all_without ps k ns) k ≡ option_map (all_less ns) (procedure_with ps k)
all_same [] ps k = same (procedure_with ps k) where
  same : (o : Option Procedure) → o ≡ option_map (all_less []) o
  same None = refl
  same (Some p) = refl
all_same (n ∷ ns) ps k = all_same ns (without_clause ps k n) k ∙ ap (option_map (all_less ns)) (less_same ps k n) ∙ both (procedure_with ps k) where
  both : (o : Option Procedure) → option_map (all_less ns) (option_map (one_less n) o) ≡ option_map
      (all_less (n ∷ ns)) o
  both None = refl
  both (Some p) = refl

all_other : (ns : List ℕ) (ps : Procedures) (k j : Key) → same_key k j ≡ false
    → procedure_with (all_without ps k ns) j ≡ procedure_with ps j
all_other [] ps k j apart = refl
all_other (n ∷ ns) ps k j apart = all_other ns (without_clause ps k n) k j apart ∙ less_other ps k j n apart

-- only what is under each key matters
database_same : {C : Type 0} {keeps : Keeping C} {names : List (List ℕ)} {d : Database
    (Clause C)} {old new : databases.Database} → ((k : Key)
    → procedure_with new.procedures k ≡ procedure_with old.procedures k) → old.added ≡ new.added
    → IsDatabase keeps names d old → IsDatabase keeps names d new
database_same {keeps = keeps} {names = names} {d = d} same added is = record {
  procedures = λ k. subst (λ (o : Option Procedure). IsProcedure keeps names (kind_of (kept_at d k)) (db.clauses_of (kept_at d k)) o) (sym (same k)) (is.procedures k);
  numbers = is.numbers;
  added = is.added ∙ added;
}

-- ---- the database

module _ {names : List (List ℕ)} (k : Key) (place : ℕ) where
  database_all : {C : Type 0} {keeps : Keeping C} (ns : List ℕ) (d : Database (Clause C)) (m : databases.Database)
      → place_at d k ≡ Some place → IsDatabase keeps names d m
      → IsDatabase keeps names (all_removed place ns d) (record m { procedures = all_without m.procedures k ns })
  database_all [] d m at is = is
  database_all (n ∷ ns) d m at is =
      database_all ns (db.without_clause_at place n d) (record m { procedures = without_clause m.procedures k n }) (same_place (db.one_less n) (λ p. refl) d.added d place k ∙ at) (database_less d m k place at n is)

  finds_all : {C : Type 0} {rows : List (Vec Callable Global)} (ns : List ℕ) (d : Database (Clause C))
      (m : databases.Database) → place_at d k ≡ Some place → Finds names rows d
      → Finds names rows (all_removed place ns d)
  finds_all [] d m at is = is
  finds_all (n ∷ ns) d m at is = finds_all ns (db.without_clause_at place n d) m (same_place (db.one_less n) (λ p. refl) d.added d place k ∙ at) (finds_less d m k place at n is)

-- a procedure whose clauses pass the test loses them
rest_grown : {C : Type 0} (keeps : Keeping C) (names : List (List ℕ)) (test : databases.Clause → Bool) (a : ℕ) (k : Key)
    (ns : List ℕ) (x : Option Kind) (ks : List (db.Clause (Clause C))) (o : Option Procedure)
    → IsProcedure keeps names x ks o → AreNumbered a ks
    → ns ≡ map (λ (c : databases.Clause). c.number) (filter test (unwrap_or (option_map (λ p. p.clauses) o) []))
    → all_less ns (grown (λ cs. cs) Dynamic k o) ≡ grown (filter (λ c. not (test c))) Dynamic k o
rest_grown keeps names test a k ns x ks None is numbered those = rw those refl
rest_grown keeps names test a k ns None ks (Some p) is numbered those = absurd is
rest_grown keeps names test a k ns (Some x) ks (Some p) is numbered those = ap (λ xs. record p { clauses = xs }) (ap (λ xs. without_numbers xs p.clauses) those ∙ others_left test a is.1 numbered)

-- the procedure at the place was made where it was absent
abbrev declared_at : {X : Type 0} → ℕ → Database X → Database X
declared_at place d = db.with_kind kind.Dynamic place d

declared_place : {X : Type 0} (d : Database X) (k : Key) (place : ℕ) → place_at d k ≡ Some place
    → place_at (declared_at place d) k ≡ Some place
declared_place d k place at = same_place (λ p. record p { kind = Some (unwrap_or p.kind kind.Dynamic) }) (λ p. refl) d.added d place k ∙ at

module _ {C : Type 0} {names : List (List ℕ)} (d : Database (Clause C)) (m : databases.Database) (k : Key) (place : ℕ)
    (at : place_at d k ≡ Some place) where
  -- the clauses that pass the test are removed, and the procedure is made where it is absent
  pub database_retracted : {keeps : Keeping C} (test : databases.Clause → Bool) (ns : List ℕ)
      → ns ≡ map (λ (c : databases.Clause). c.number) (filter test (clauses_of m.procedures k))
      → IsDatabase keeps names d m
      → IsDatabase keeps names (all_removed place ns (declared_at place d))
      (record m { procedures = with_clauses (filter (λ c. not (test c))) Dynamic m.procedures k })
  database_retracted {keeps = keeps} test ns those is =
      database_same same refl (database_all k place ns (declared_at place d) (record m { procedures = with_declared m.procedures k }) (declared_place d k place at) (database_declared d m k place at is)) where
        keep : List databases.Clause → List databases.Clause
        keep = filter (λ c. not (test c))

        here : procedure_with (with_clauses keep Dynamic m.procedures k) k ≡ procedure_with
            (all_without (with_declared m.procedures k) k ns) k
        here = with_same keep Dynamic m.procedures k
            ∙ ap Some (sym (rest_grown keeps names test d.added k ns (kind_of (kept_at d k)) (db.clauses_of (kept_at d k)) (procedure_with m.procedures k) (is.procedures k) (is.numbers k)
            (those ∙ ap (λ o. map (λ (c : databases.Clause). c.number) (filter test (unwrap_or o []))) (clauses_with m.procedures k))))
            ∙ sym (all_same ns (with_declared m.procedures k) k ∙ ap (option_map (all_less ns)) (with_same (λ cs. cs) Dynamic m.procedures k))

        same : (j : Key) → procedure_with (with_clauses keep Dynamic m.procedures k) j ≡ procedure_with
            (all_without (with_declared m.procedures k) k ns) j
        same j = elim (cases_Bool (same_key k j)) [
          | inl there ↦ subst (λ (x : Key). procedure_with (with_clauses keep Dynamic m.procedures k) x ≡ procedure_with (all_without (with_declared m.procedures k) k ns) x) (same_key_is k j there) here
          | inr other ↦ with_other keep Dynamic m.procedures k j other ∙ sym (all_other ns (with_declared m.procedures k) k j other ∙ with_other (λ cs. cs) Dynamic m.procedures k j other)
        ]

  -- it is found
  pub finds_retracted : {rows : List (Vec Callable Global)} (ns : List ℕ) (g : Functor) (text : List ℕ)
      → slice_get names g.name ≡ Some text → k ≡ key text g.arity
      → callee_at rows g.name g.arity ≡ Some (callee.User place) → Finds names rows d
      → Finds names rows (all_removed place ns (declared_at place d))
  finds_retracted ns g text atom named found is = finds_all k place ns (declared_at place d) m (declared_place d k place at) (finds_declared d m k place at g text atom named found is)

-- a procedure that is absent is taken away
pub database_absent : {C : Type 0} {keeps : Keeping C} {names : List (List ℕ)} (d : Database (Clause C))
    (m : databases.Database) (k : Key) → kind_of (kept_at d k) ≡ None → IsDatabase keeps names d m
    → IsDatabase keeps names d (record m { procedures = without_procedure m.procedures k })
database_absent d m k none is = database_same same refl is where
  same : (j : Key) → procedure_with (without_procedure m.procedures k) j ≡ procedure_with m.procedures j
  same j = elim (cases_Bool (same_key k j)) [
    | inl there ↦ subst (λ (x : Key). procedure_with (without_procedure m.procedures k) x ≡ procedure_with m.procedures x) (same_key_is k j there) (gone_same m.procedures k ∙ sym (absent_procedure d m k is none))
    | inr other ↦ gone_other m.procedures k j other
  ]
