-- What stands on in the database as clauses and procedures come and go.
use Rattle.std.proofs.Common.{◌≡◌, ◌<◌, ◌≤◌, ◌+◌, ◌==◌, ℕ, zero, suc, List, [], ◌∷◌, ◌++◌, Bool, not, Option, Some, None, sym, ap, ◌∙◌, subst, arith, unwrap_or}
use Rattle.std.specs.List.{filter, slice_get}
use Rattle.iso_db.specs.Databases as db
use Rattle.iso_db.specs.Databases.{Database, Procedure, no_procedures, at_place, clauses_of, with_procedure}
use Rattle.iso_db.specs.Presents.{contents, key_in, KeepsClauses, KeepsIndex}
use Rattle.iso_db.specs.declared.db.Db.{Db}
use Rattle.iso_db.specs.declared.kinds.Kind.{Kind}
use Rattle.iso_db.specs.declared.kinds.Kind.TheVariants as kind
use Rattle.iso_db.specs.Fits.{FirstKey}
use Rattle.iso_program.specs.declared.clauses.Clause.{Clause}
use Rattle.iso_program.specs.declared.procedures.Way.{Way}
use Rattle.iso_program.specs.declared.procedures.Way.TheVariants as way
use Rattle.iso_program.specs.Adding.{came}
use Rattle.iso_store_core.specs.declared.patterns.Part.{Part}
use Rattle.iso_program.specs.FirstKeys.{IsKeyOf}
use Rattle.iso_program.specs.Heads.{head_parts}
use Rattle.iso_program.specs.Keying.{IsKeyed, EachKeyed, HasKeys, AreKeyed, Preserves}
use Rattle.iso_program.proofs.ProgramLemmas.{absent_is, placed}

-- ---- lists of clauses

-- a key that is the same is one of the same parts
pub key_on : {ks : List Part} {key more : Option FirstKey} → key ≡ more → IsKeyOf ks key → IsKeyOf ks more
key_on {ks = ks} same is = subst (λ (k : Option FirstKey). IsKeyOf ks k) same is

-- keys that stay, of clauses that were added before
abbrev SameKeys : ℕ → (ℕ → Option FirstKey) → (ℕ → Option FirstKey) → Type 0
SameKeys added keys more = (n : ℕ) → n < added → more n ≡ keys n

module _ {added later : ℕ} {keys more : ℕ → Option FirstKey} (few : added ≤ later)
    (same : SameKeys added keys more) where
  one_on : {C : Type 0} (k : db.Clause (Clause C)) → IsKeyed added keys k → IsKeyed later more k
  one_on k is = (let below = is.number in record { number = omega (arith, few, below); key = key_on (sym (same k.number is.number)) is.key })

  each_on : {C : Type 0} (ks : List (db.Clause (Clause C))) → EachKeyed added keys ks → EachKeyed later more ks
  each_on [] h = tt
  each_on (k ∷ ks) h = (one_on k h.0, each_on ks h.1)

module _ (added : ℕ) (keys : ℕ → Option FirstKey) where
  each_less : {C : Type 0} (keep : db.Clause (Clause C) → Bool) (ks : List (db.Clause (Clause C)))
      → EachKeyed added keys ks → EachKeyed added keys (filter keep ks)
  each_less keep [] h = tt
  each_less keep (k ∷ ks) h = grind (arith, each_less keep ks h.1)

  each_end : {C : Type 0} (k : db.Clause (Clause C)) (ks : List (db.Clause (Clause C))) → IsKeyed added keys k
      → EachKeyed added keys ks → EachKeyed added keys (ks ++ k ∷ [])
  each_end k [] is h = (is, tt)
  each_end k (j ∷ ks) is h = (h.0, each_end k ks is h.1)

-- ---- lists of procedures

module _ {X : Type 0} (P : List (db.Clause X) → Type 0) where
  -- the procedure at a place is changed
  at_changed : (f : Procedure X → Procedure X) → ((p : Procedure X) → P p.clauses → P (f p).clauses)
      → (place : ℕ) (ps : List (Procedure X)) → ((j : ℕ) → P (clauses_of (slice_get ps j)))
      → (j : ℕ) → P (clauses_of (slice_get (at_place place f ps) j))
  at_changed f on zero (p ∷ ps) h zero = on p (h 0)
  at_changed f on (suc place) (p ∷ ps) h (suc j) = at_changed f on place ps (λ i. h (suc i)) j
  at_changed f on place ps h j = h j

  -- one without clauses comes
  at_more : (q : Procedure X) → P q.clauses → P [] → (ps : List (Procedure X))
      → ((j : ℕ) → P (clauses_of (slice_get ps j))) → (j : ℕ) → P (clauses_of (slice_get (ps ++ q ∷ []) j))
  at_more q new none [] h zero = new
  at_more q new none [] h (suc j) = none
  at_more q new none (p ∷ ps) h zero = h 0
  at_more q new none (p ∷ ps) h (suc j) = at_more q new none ps (λ i. h (suc i)) j

-- ---- databases

module _ {C : Type 0} {keys more : ℕ → Option FirstKey} (d : Database (Clause C)) where
  keys_on : SameKeys d.added keys more → HasKeys keys d → HasKeys more d
  keys_on same h place = each_on (omega arith) same (db.clauses_at d place) (h place)

  -- a clause comes in one of the ways
  keys_came : (w : Way) (place : ℕ) (value : Clause C) → SameKeys d.added keys more
      → IsKeyOf (head_parts value) (more d.added) → HasKeys keys d → HasKeys more (came w place value d)
  keys_came w place value same key h = by_way w where
    new : db.Clause (Clause C)
    new = record { number = d.added; value = value }

    one : IsKeyed (d.added + 1) more new
    one = record { number = omega arith; key = key }

    all : (j : ℕ) → EachKeyed (d.added + 1) more (db.clauses_at d j)
    all j = each_on (omega arith) same (db.clauses_at d j) (h j)

    by_way : (w : Way) → HasKeys more (came w place value d)
    by_way way.Consulted = at_changed (EachKeyed (d.added + 1) more) (db.one_more db.at_end kind.Static new) (λ p k. each_end (d.added + 1) more new p.clauses one k) place d.procedures all
    by_way way.First = at_changed (EachKeyed (d.added + 1) more) (db.one_more db.at_front kind.Dynamic new) (λ p k. (one, k)) place d.procedures all
    by_way way.Last = at_changed (EachKeyed (d.added + 1) more) (db.one_more db.at_end kind.Dynamic new) (λ p k. each_end (d.added + 1) more new p.clauses one k) place d.procedures all

-- ---- the kept database

-- one change after another
pub preserves_on : {C : Type 0} (old mid new : Db (Clause C)) → Preserves old mid → Preserves mid new
    → Preserves old new
preserves_on old mid new first second = record {
  added = (let a = first.added in let b = second.added in omega (arith, a, b));
  clauses = λ number value stands. second.clauses number value (first.clauses number value stands);
  index = record {
    keys = λ number below. (let a = first.added in second.index.keys number (omega (arith, a, below)) ∙ first.index.keys number below);
    views = λ v cs gives. second.index.views v cs (first.index.views v cs gives);
  };
  keyed = λ keyed. second.keyed (first.keyed keyed);
}

module _ {C : Type 0} (old new : Db (Clause C)) (clauses : KeepsClauses old new) (index : KeepsIndex old new) where
  -- the contents of the database became these
  preserves_as : (d : Database (Clause C)) → contents new ≡ d → (contents old).added ≤ d.added
      → (HasKeys (key_in old) (contents old) → HasKeys (key_in new) d) → Preserves old new
  preserves_as d are more keyed = record {
    added = subst (λ (x : Database (Clause C)). (contents old).added ≤ x.added) (sym are) more;
    clauses = clauses;
    index = index;
    keyed = λ was. subst (λ (x : Database (Clause C)). HasKeys (key_in new) x) (sym are) (keyed was);
  }

  -- they are as they were
  pub preserves_same : contents new ≡ contents old → Preserves old new
  preserves_same same = preserves_as (contents old) same (omega arith) (keys_on (contents old) index.keys)

  -- a clause came with its key
  pub preserves_came : (w : Way) (place number : ℕ) (value : Clause C)
      → contents new ≡ came w place value (contents old) → number ≡ (contents old).added
      → IsKeyOf (head_parts value) (key_in new number) → Preserves old new
  preserves_came w place number value are numbered key =
      preserves_as (came w place value (contents old)) are (added_more w)
      (keys_came (contents old) w place value index.keys (key_on (ap (key_in new) numbered) key)) where
        added_more : (w : Way) → (contents old).added ≤ (came w place value (contents old)).added
        added_more way.Consulted = omega arith
        added_more way.First = omega arith
        added_more way.Last = omega arith

  -- a procedure got a place
  pub preserves_placed : (name : List ℕ) (arity : ℕ) → contents new ≡ with_procedure name arity (contents old)
      → Preserves old new
  preserves_placed name arity are =
      preserves_as (with_procedure name arity (contents old)) are
      (placed (contents old) name arity (λ d. (contents old).added ≤ d.added) (omega arith) (omega arith))
      (λ was. (let now = keys_on (contents old) index.keys was in
      placed (contents old) name arity (HasKeys (key_in new)) now
      (at_more (EachKeyed (contents old).added (key_in new)) (absent_is name arity) tt tt (contents old).procedures now)))

  preserves_changed : (f : Procedure (Clause C) → Procedure (Clause C))
      → ((p : Procedure (Clause C)) → EachKeyed (contents old).added (key_in new) p.clauses
      → EachKeyed (contents old).added (key_in new) (f p).clauses) → (place : ℕ)
      → contents new ≡ record { procedures = at_place place f (contents old).procedures; added = (contents old).added }
      → Preserves old new
  preserves_changed f on place are =
      preserves_as (record { procedures = at_place place f (contents old).procedures; added = (contents old).added }) are (omega arith)
      (λ was. at_changed (EachKeyed (contents old).added (key_in new)) f on place (contents old).procedures (keys_on (contents old) index.keys was))

  -- a procedure was declared
  pub preserves_declared : (k : Kind) (place : ℕ) → contents new ≡ db.with_kind k place (contents old)
      → Preserves old new
  preserves_declared k place are = preserves_changed (λ p. record p { kind = Some (unwrap_or p.kind k) }) (λ p h. h) place are

  -- a procedure was taken away
  pub preserves_gone : (place : ℕ) → contents new ≡ db.without_procedure place (contents old) → Preserves old new
  preserves_gone place are = preserves_changed (λ p. record p { kind = None; clauses = [] }) (λ p h. tt) place are

  -- a clause was taken away from a procedure
  pub preserves_less : (place number : ℕ) → contents new ≡ db.without_clause_at place number (contents old)
      → Preserves old new
  preserves_less place number are = preserves_changed (db.one_less number) (λ p h. each_less (contents old).added (key_in new) (λ c. not (c.number == number)) p.clauses h) place are

-- views were forgotten
pub keyed_forgotten : {C : Type 0} (old new : Db (Clause C)) → contents new ≡ contents old
    → ((number : ℕ) → key_in new number ≡ key_in old number) → AreKeyed old → AreKeyed new
keyed_forgotten {C = C} old new same keys was = subst (λ (x : Database (Clause C)). HasKeys (key_in new) x) (sym same) (keys_on (contents old) (λ number below. keys number) was)

-- there are no procedures yet
pub keyed_first : {C : Type 0} (d : Db (Clause C)) → contents d ≡ no_procedures → AreKeyed d
keyed_first {C = C} d none = subst (λ (x : Database (Clause C)). HasKeys (key_in d) x) (sym none) (λ place. tt)
