-- The database: procedures with their clauses (ISO/IEC 13211-1:1995, 7.5), whatever is kept of a clause.
use Rattle.std.specs.Prelude.{ℕ, zero, suc, ◌+◌, Bool, true, false, not, ◌==◌, List, [], ◌∷◌, ◌++◌, Option, Some, None, map, filter, is_some, unwrap_or, if◌then◌else◌}
use Rattle.std.specs.List.{slice_get, list_any}
use Rattle.std.specs.Option.{option_and_then}
pub use Rattle.iso_clauses.specs.Clauses.{Clause}
use Rattle.iso_db.specs.Keys.{Key, key, place_of}
use Rattle.iso_db.specs.declared.kinds.Kind.{Kind}
use Rattle.iso_db.specs.declared.kinds.Kind.TheVariants.{Static, Dynamic}

-- whether clauses may be added and removed: an absent procedure becomes dynamic by it
abbrev pub is_not_static : Option Kind → Bool
is_not_static None = true
is_not_static (Some Dynamic) = true
is_not_static (Some Static) = false

-- A procedure (7.5.2): its kind, or none while it is absent, and its clauses in order.
pub record Procedure (C : Type 0) : Type 0 where
  pub key : Key
  pub kind : Option Kind
  pub clauses : List (Clause C)

-- The procedures in the order of their places, and how many clauses were ever added: the number of the next one.
pub record Database (C : Type 0) : Type 0 where
  pub procedures : List (Procedure C)
  pub added : ℕ

module _ {C : Type 0} where
  -- no procedure
  abbrev pub no_procedures : Database C
  no_procedures = record { procedures = []; added = 0 }

  -- the place of the procedure with this name and number of arguments
  abbrev pub place_in : Database C → List ℕ → ℕ → Option ℕ
  place_in db name arity = place_of (map (λ p. p.key) db.procedures) name arity

  -- the kind of the procedure at a place, if it is there
  abbrev pub kind_at : Database C → ℕ → Option Kind
  kind_at db place = option_and_then (λ p. p.kind) (slice_get db.procedures place)

  abbrev pub clauses_of : Option (Procedure C) → List (Clause C)
  clauses_of None = []
  clauses_of (Some p) = p.clauses

  -- the clauses of the procedure at a place
  abbrev pub clauses_at : Database C → ℕ → List (Clause C)
  clauses_at db place = clauses_of (slice_get db.procedures place)

  -- whether one of these clauses has this number
  abbrev pub has_in : List (Clause C) → ℕ → Bool
  has_in cs number = list_any (λ c. c.number == number) cs

  -- whether the clause of this number is in the database
  abbrev pub has_clause : Database C → ℕ → Bool
  has_clause db number = list_any (λ p. has_in p.clauses number) db.procedures

  -- the procedure at a place changed, and no other
  abbrev pub at_place : ℕ → (Procedure C → Procedure C) → List (Procedure C) → List (Procedure C)
  at_place place change [] = []
  at_place zero change (p ∷ ps) = change p ∷ ps
  at_place (suc place) change (p ∷ ps) = p ∷ at_place place change ps

  -- with a procedure of this name and number of arguments, absent and behind the others where there was none
  abbrev pub with_procedure : List ℕ → ℕ → Database C → Database C
  with_procedure name arity db = if is_some (place_in db name arity) then db
      else record db { procedures = db.procedures ++ record { key = key name arity; kind = None; clauses = [] } ∷ [] }

  -- where a clause that is added comes among those of its procedure
  abbrev pub at_end : Clause C → List (Clause C) → List (Clause C)
  at_end c cs = cs ++ c ∷ []

  abbrev pub at_front : Clause C → List (Clause C) → List (Clause C)
  at_front c cs = c ∷ cs

  -- the procedure with one clause more, which gets this kind where it was absent
  abbrev pub one_more : (Clause C → List (Clause C) → List (Clause C)) → Kind → Clause C → Procedure C → Procedure C
  one_more put kind c p = record p { kind = Some (unwrap_or p.kind kind); clauses = put c p.clauses }

  -- one clause added to the procedure at a place
  abbrev pub with_clause : (Clause C → List (Clause C) → List (Clause C)) → Kind → ℕ → C → Database C → Database C
  with_clause put kind place value db = record {
    procedures = at_place place (one_more put kind (record { number = db.added; value = value })) db.procedures;
    added = db.added + 1;
  }

  -- the procedure at a place of this kind, where it was absent
  abbrev pub with_kind : Kind → ℕ → Database C → Database C
  with_kind kind place db = record db { procedures = at_place place (λ p. record p { kind = Some (unwrap_or p.kind kind) }) db.procedures }

  -- the procedure at a place absent
  abbrev pub without_procedure : ℕ → Database C → Database C
  without_procedure place db = record db { procedures = at_place place (λ p. record p { kind = None; clauses = [] }) db.procedures }

  -- a procedure without the clause of this number
  abbrev pub one_less : ℕ → Procedure C → Procedure C
  one_less number p = record p { clauses = filter (λ c. not (c.number == number)) p.clauses }

  -- the clause of this number removed
  abbrev pub without_clause : ℕ → Database C → Database C
  without_clause number db = record db { procedures = map (one_less number) db.procedures }

  -- the clause of this number removed from the procedure at a place
  abbrev pub without_clause_at : ℕ → ℕ → Database C → Database C
  without_clause_at place number db = record db { procedures = at_place place (one_less number) db.procedures }
