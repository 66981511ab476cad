-- The procedures of the language, by their keys.
use Rattle.std.proofs.Common.{arith, ◌≡◌, ℕ, List, [], ◌∷◌, refl, ap, ◌∙◌, true, false, Option, Some, None, option_map}
use Rattle.iso_model.specs.Search.Databases.{Key, Procedures, Procedure, Clause, Kind, same_key, clauses_at, kind_at, with_clauses, without_procedure, without_clause, without_number}
use Rattle.iso_program.specs.Programs.{procedure_with}
use Rattle.iso_program.proofs.CallableLemmas.{same_key_is, same_key_self}

pub clauses_with : (ps : Procedures) (k : Key) → clauses_at ps k ≡ option_map (λ p. p.clauses) (procedure_with ps k)
clauses_with [] k = refl
clauses_with (p ∷ ps) k = grind (arith, clauses_with ps k)

pub kinds_with : (ps : Procedures) (k : Key) → kind_at ps k ≡ option_map (λ p. p.kind) (procedure_with ps k)
kinds_with [] k = refl
kinds_with (p ∷ ps) k = grind (arith, kinds_with ps k)

-- a procedure with the key k has no other
no_other : (p k j : Key) → same_key p k ≡ true → same_key k j ≡ false → same_key p j ≡ false
no_other p k j here apart = ap (λ (x : Key). same_key x j) (same_key_is p k here) ∙ apart

-- ---- the clauses of a procedure changed, and the others as they were

module _ (change : List Clause → List Clause) (kd : Kind) where
  abbrev pub grown : Key → Option Procedure → Procedure
  grown k None = record { key = k; kind = kd; clauses = change [] }
  grown k (Some p) = record p { clauses = change p.clauses }

  pub with_same : (ps : Procedures) (k : Key) → procedure_with (with_clauses change kd ps k) k ≡ Some (grown k (procedure_with ps k))
  with_same [] k = rw (same_key_self k) refl
  with_same (p ∷ ps) k = grind (arith, with_same ps k)

  pub with_other : (ps : Procedures) (k j : Key) → same_key k j ≡ false → procedure_with (with_clauses change kd ps k) j ≡ procedure_with ps j
  with_other [] k j apart = rw apart refl
  with_other (p ∷ ps) k j apart = grind (arith, no_other p.key k j, with_other ps k j apart)

-- ---- a procedure taken away

pub gone_same : (ps : Procedures) (k : Key) → procedure_with (without_procedure ps k) k ≡ None
gone_same [] k = refl
gone_same (p ∷ ps) k = grind (arith, gone_same ps k)

pub gone_other : (ps : Procedures) (k j : Key) → same_key k j ≡ false → procedure_with (without_procedure ps k) j ≡ procedure_with ps j
gone_other [] k j apart = refl
gone_other (p ∷ ps) k j apart = grind (arith, no_other p.key k j, gone_other ps k j apart)

-- ---- a clause taken away

abbrev pub one_less : ℕ → Procedure → Procedure
one_less n p = record p { clauses = without_number n p.clauses }

pub less_same : (ps : Procedures) (k : Key) (n : ℕ) → procedure_with (without_clause ps k n) k ≡ option_map (one_less n) (procedure_with ps k)
less_same [] k n = refl
less_same (p ∷ ps) k n = grind (arith, less_same ps k n)

pub less_other : (ps : Procedures) (k j : Key) (n : ℕ) → same_key k j ≡ false → procedure_with (without_clause ps k n) j ≡ procedure_with ps j
less_other [] k j n apart = refl
less_other (p ∷ ps) k j n apart = grind (arith, no_other p.key k j, less_other ps k j n apart)
