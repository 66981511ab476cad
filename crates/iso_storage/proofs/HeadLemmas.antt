-- The procedure of a head, as it is found by an atom and as it is in the database.
use Rattle.std.proofs.Common.{◌≡◌, ◌<◌, ℕ, List, [], length, refl, sym, ap, ◌∙◌, subst, true, false, not, ◌||◌, Option, Some, None, option_map, unwrap_or, is_some, inl, inr, Vec, Global}
use Rattle.std.proofs.lemmas.Bool.{or_parts}
use Rattle.std.proofs.Math.Bool.{or-true}
use Rattle.iso_model.specs.Search.Databases as databases
use Rattle.iso_model.specs.Search.Databases.{Key, key, Procedures, Static, Dynamic, kind_at, is_static}
use Rattle.iso_model.specs.Search.BuiltIns.{built_in, is_some_built_in, is_control, is_built_in}
use Rattle.iso_model.specs.declared.built_ins.BuiltIn.{BuiltIn}
use Rattle.iso_model.specs.Search.Storages.{is_fixed, clauses_of}
use Rattle.iso_db.specs.Databases as db
use Rattle.iso_db.specs.Databases.{Database, is_not_static}
use Rattle.iso_db.specs.declared.kinds.Kind.{Kind}
use Rattle.iso_db.specs.declared.kinds.Kind.TheVariants as kind
use Rattle.iso_program.specs.declared.callables.Callable.{Callable}
use Rattle.iso_program.specs.declared.callables.Callee.{Callee}
use Rattle.iso_program.specs.declared.callables.Callee.TheVariants as callee
use Rattle.iso_program.specs.declared.clauses.Clause.{Clause}
use Rattle.iso_program.specs.Adding.{IsFound}
use Rattle.iso_program.specs.Callables.{callee_at}
use Rattle.iso_program.specs.Programs.{AreClauses, no_clauses, IsKind, IsProcedure, IsDatabase, procedure_with, place_at, kept_at, kind_of}
use Rattle.iso_program.proofs.AddingLemmas.{user_alone, called_user, called_own, called_none, found_callee, found_place, found_nothing, found_absent}
use Rattle.iso_program.proofs.ProgramLemmas.{place_within, kept_there, kind_there}
use Rattle.iso_program.proofs.ProcedureLemmas.{clauses_with, kinds_with}
use Rattle.iso_lib.specs.declared.indicators.Functor.{Functor}
use Rattle.iso_storage.specs.Storing.{IsProgram, IsNamed, user_place}
use Rattle.iso_program.specs.Kept.{Keeping}

module _ {C : Type 0} {keeps : Keeping C} {names : List (List ℕ)} (d : Database (Clause C)) (m : databases.Database)
    (k : Key) (is : IsDatabase keeps names d m) where
  -- it is static where it is kept as static
  pub kept_kind : (o : Option Kind) → kind_of (kept_at d k) ≡ o
      → is_static (kind_at m.procedures k) ≡ not (is_not_static o)
  kept_kind o there = ap is_static (kinds_with m.procedures k) ∙ by_kind o (db.clauses_of (kept_at d k)) (procedure_with m.procedures k)
      (rw there at (is.procedures k)) where
        by_own : (x : Kind) (y : databases.Kind) → IsKind x y → is_static (Some y) ≡ not (is_not_static (Some x))
        by_own kind.Static Static h = refl
        by_own kind.Static Dynamic h = absurd h
        by_own kind.Dynamic Static h = absurd h
        by_own kind.Dynamic Dynamic h = refl

        by_kind : (x : Option Kind) (ks : List (db.Clause (Clause C))) (q : Option databases.Procedure)
            → IsProcedure keeps names x ks q → is_static (option_map (λ p. p.kind) q) ≡ not (is_not_static x)
        by_kind None ks None h = refl
        by_kind (Some x) ks (Some p) h = by_own x p.kind h.0
        by_kind x ks q h = absurd h

  -- its clauses are kept
  pub kept_clauses : AreClauses keeps names (db.clauses_of (kept_at d k)) (clauses_of m.procedures k)
  kept_clauses = subst (λ (o : Option (List databases.Clause)). AreClauses keeps names (db.clauses_of (kept_at d k)) (unwrap_or o [])) (sym (clauses_with m.procedures k))
      (by_kind (kind_of (kept_at d k)) (db.clauses_of (kept_at d k)) (procedure_with m.procedures k) (is.procedures k)) where
        by_kind : (x : Option Kind) (ks : List (db.Clause (Clause C))) (q : Option databases.Procedure)
            → IsProcedure keeps names x ks q → AreClauses keeps names ks (unwrap_or (option_map (λ p. p.clauses) q) [])
        by_kind None ks None h = subst (λ (xs : List (db.Clause (Clause C))). AreClauses keeps names xs []) (sym h) no_clauses
        by_kind (Some x) ks (Some p) h = h.1
        by_kind x ks q h = absurd h

  -- one that is absent has none
  pub absent_procedure : kind_of (kept_at d k) ≡ None → procedure_with m.procedures k ≡ None
  absent_procedure none = by_kind (db.clauses_of (kept_at d k)) (procedure_with m.procedures k)
      (rw none at (is.procedures k)) where
        by_kind : (ks : List (db.Clause (Clause C))) (q : Option databases.Procedure)
            → IsProcedure keeps names None ks q → q ≡ None
        by_kind ks None h = refl
        by_kind ks (Some p) h = absurd h

  pub absent_clauses : kind_of (kept_at d k) ≡ None → clauses_of m.procedures k ≡ []
  absent_clauses none = ap (λ o. unwrap_or o []) (clauses_with m.procedures k) ∙ ap (λ o. unwrap_or (option_map (λ p. p.clauses) o) []) (absent_procedure none)

  -- by its place
  pub clauses_placed : (i : ℕ) → place_at d k ≡ Some i → AreClauses keeps names (db.clauses_at d i) (clauses_of m.procedures k)
  clauses_placed i at = subst (λ (ks : List (db.Clause (Clause C))). AreClauses keeps names ks (clauses_of m.procedures k)) (ap db.clauses_of (kept_there d k i at)) kept_clauses

  pub none_placed : (i : ℕ) → place_at d k ≡ Some i → is_some (db.kind_at d i) ≡ false → clauses_of m.procedures k ≡ []
  none_placed i at none = absent_clauses (sym (kind_there d k i at) ∙ none_of (db.kind_at d i) none) where
    none_of : {X : Type 0} (o : Option X) → is_some o ≡ false → o ≡ None
    none_of None h = refl
    none_of (Some x) h = absurd (cc h)

-- ---- what is found by an atom

-- what may be changed is no built-in
pub free_alone : (ps : Procedures) (k : Key) → is_fixed ps k ≡ false → built_in k ≡ None
free_alone ps k free = user_alone k (or_parts (is_built_in k) (is_static (kind_at ps k)) free).0

module _ {C : Type 0} {keeps : Keeping C} {names : List (List ℕ)} {d : Database (Clause C)}
    {rows : List (Vec Callable Global)} {m : databases.Database} {f : Functor} {text : List ℕ}
    (is : IsProgram keeps names d rows m) (named : IsNamed names f text) where
  abbrev by_atom : IsFound names f text d rows
  by_atom = record { each_once = named.each_once; atom = named.atom; found = is.found }

  abbrev of_name : Key
  of_name = key text f.arity

  -- the procedure at the place
  pub user_there : (i : ℕ) → user_place (callee_at rows f.name f.arity) ≡ Some i → place_at d of_name ≡ Some i
  user_there i h = by_callee (callee_at rows f.name f.arity) refl h where
    by_callee : (o : Option Callee) → callee_at rows f.name f.arity ≡ o → user_place o ≡ Some i
        → place_at d of_name ≡ Some i
    by_callee None at h = absurd (cc h)
    by_callee (Some (callee.BuiltIn b)) at h = absurd (cc h)
    by_callee (Some (callee.User j)) at h = found_place names f text d rows by_atom i (at ∙ ap (option_map callee.User) h)

  pub user_within : (i : ℕ) → user_place (callee_at rows f.name f.arity) ≡ Some i → i < length d.procedures
  user_within i h = place_within d of_name i (user_there i h)

  -- without a place it is a built-in or absent
  pub user_absent : user_place (callee_at rows f.name f.arity) ≡ None → built_in of_name ≡ None
      → kind_of (kept_at d of_name) ≡ None
  user_absent h alone = by_callee (callee_at rows f.name f.arity) refl h where
    by_callee : (o : Option Callee) → callee_at rows f.name f.arity ≡ o → user_place o ≡ None
        → kind_of (kept_at d of_name) ≡ None
    by_callee None at h = found_absent names f text d rows by_atom at
    by_callee (Some (callee.BuiltIn b)) at h = absurd (let own = called_own d of_name b (found_callee names f text d rows by_atom (callee.BuiltIn b) at) in let e : None ≡ Some b = sym alone ∙ own in cc e)
    by_callee (Some (callee.User j)) at h = absurd (cc h)

  -- where nothing is called there is no built-in
  found_alone : callee_at rows f.name f.arity ≡ None → built_in of_name ≡ None
  found_alone at =
      let none = found_nothing names f text d rows by_atom at in
      elim (is.found.agrees of_name) [
        | inl same ↦ (called_none d of_name (sym same ∙ none)).0
        | inr absent ↦ absent.1
      ]

  -- whether it may be read or changed: a built-in may not
  pub fixed_own : (b : BuiltIn) → callee_at rows f.name f.arity ≡ Some (callee.BuiltIn b)
      → true ≡ is_fixed m.procedures of_name
  fixed_own b at = rw (called_own d of_name b (found_callee names f text d rows by_atom (callee.BuiltIn b) at), or-true (is_control of_name)) refl

  -- neither a control construct nor a built-in
  free_here : is_control of_name ≡ false → built_in of_name ≡ None → is_built_in of_name ≡ false
  free_here off none = ap (λ o. is_control of_name || is_some_built_in o) none ∙ ap (λ b. b || false) off

  pub fixed_there : (i : ℕ) → callee_at rows f.name f.arity ≡ Some (callee.User i) → is_control of_name ≡ false
      → not (is_not_static (db.kind_at d i)) ≡ is_fixed m.procedures of_name
  fixed_there i at off =
      let user = called_user d of_name i (found_callee names f text d rows by_atom (callee.User i) at) in
      let free = free_here off user.0 in
      sym (ap (λ b. b || is_static (kind_at m.procedures of_name)) free ∙ kept_kind d m of_name is.database (db.kind_at d i) (sym (kind_there d of_name i user.1)))

  pub place_there : (i : ℕ) → callee_at rows f.name f.arity ≡ Some (callee.User i) → i < length d.procedures
  place_there i at = place_within d of_name i (found_place names f text d rows by_atom i at)

  pub fixed_none : callee_at rows f.name f.arity ≡ None → is_control of_name ≡ false
      → false ≡ is_fixed m.procedures of_name
  fixed_none at off =
      let free = free_here off (found_alone at) in
      sym (ap (λ b. b || is_static (kind_at m.procedures of_name)) free ∙ kept_kind d m of_name is.database None (found_absent names f text d rows by_atom at))

  -- its clauses
  pub clauses_there : (i : ℕ) → user_place (callee_at rows f.name f.arity) ≡ Some i
      → AreClauses keeps names (db.clauses_at d i) (clauses_of m.procedures of_name)
  clauses_there i h = clauses_placed d m of_name is.database i (user_there i h)

  pub clauses_none : user_place (callee_at rows f.name f.arity) ≡ None → is_fixed m.procedures of_name ≡ false
      → clauses_of m.procedures of_name ≡ []
  clauses_none h free = absent_clauses d m of_name is.database (user_absent h (free_alone m.procedures of_name free))

  pub clauses_absent : (i : ℕ) → user_place (callee_at rows f.name f.arity) ≡ Some i → is_some (db.kind_at d i) ≡ false
      → clauses_of m.procedures of_name ≡ []
  clauses_absent i h none = none_placed d m of_name is.database i (user_there i h) none
