-- Which clauses stand in a database that a text of clauses makes.
use Rattle.std.proofs.Common.{◌≡◌, ◌⊎◌, ℕ, List, [], ◌∷◌, ◌++◌, Bool, true, false, Option, Some, None, inl, inr, refl, sym, ap, ap₂, ◌∙◌, subst, if◌then◌else◌}
use Rattle.std.proofs.Common.{◌&&◌}
use Rattle.std.proofs.lemmas.Bool.{eq-eqb}
use Rattle.std.proofs.lemmas.Slice.Eq.{bytes_eq-Decides}
use Rattle.std.specs.Prelude.{nat_lt}
use Rattle.iso_model.specs.Terms.Trees.{Tree, Variable}
use Rattle.iso_model.specs.Terms.Variables.{variable_count}
use Rattle.iso_model.specs.Terms.Copies.{copy_from}
use Rattle.iso_model.specs.Search.Bodies.{Body, converted}
use Rattle.iso_model.specs.Search.Databases.{Clause, Procedure, Procedures, Database, Key, key_of, same_key, Static, clauses_at, with_clause, at_end}
use Rattle.iso_model.specs.Search.Table.{is_built_in}
use Rattle.iso_model.specs.Search.Additions.{Adds, Refuses, Fits, Faulty, consult_key, addition_by, user_checked, prepared_head, prepared_body, with_added}
use Rattle.iso_model.specs.Search.Additions.{clause_of, head_of, body_of, most_variables, fault_error, TooManyVariables, NotUser, NotCallable, UnboundHead}
use Rattle.iso_logic.specs.Provability.{Among, first, later}
use Rattle.iso_logic.specs.DefiniteClauses.{IsDefiniteClause, IsDefinite}
use Rattle.iso_logic.specs.Consulting.{Consulted, no_more, adds}
use Rattle.iso_logic.proofs.Conversions.{same_key_is}
use Rattle.iso_logic.specs.ProgramProofs.{IsOneOf, here, there}

-- ---- the database with a clause more

joined_among : (c d : Clause) (cs : List Clause) → Among d (cs ++ c ∷ []) → (d ≡ c) ⊎ Among d cs
joined_among c d [] first = inl refl
joined_among c d [] (later h) = inr h
joined_among c d (x ∷ xs) first = inr first
joined_among c d (x ∷ xs) (later h) = elim (joined_among c d xs h) [ inl same ↦ inl same | inr old ↦ inr (later old) ]

-- what is at a key is what was there, or the new clause too where it is its key
module _ (k j : Key) (c : Clause) (cs : List Clause) (d : Clause) (among : Among d cs) where
  abbrev Known : Procedures → Type 0
  Known ps = ((d ≡ c) × (k ≡ j)) ⊎ ((old : List Clause) × (clauses_at ps j ≡ Some old) × Among d old)

  here_or : (b : Bool) → same_key k j ≡ b → (if b then Some (c ∷ []) else None) ≡ Some cs → ((d ≡ c) × (k ≡ j)) ⊎ ⊥
  here_or true e h =
      let same : cs ≡ c ∷ [] = cc in
      elim (joined_among c d [] (subst (Among d) same among)) [ inl is ↦ inl (is, same_key_is k j e) | inr nowhere ↦ elim nowhere [ ] ]
  here_or false e h = let clash : None ≡ Some cs = h in cc

  at_same : (p : Procedure) (ps : Procedures) (b : Bool) → same_key p.key j ≡ b → p.key ≡ k
      → (if b then Some (p.clauses ++ c ∷ []) else clauses_at ps j) ≡ Some cs → Known (p ∷ ps)
  at_same p ps true e is h =
      let same : cs ≡ p.clauses ++ c ∷ [] = cc in
      elim (joined_among c d p.clauses (subst (Among d) same among)) [
        | inl new ↦ inl (new, sym is ∙ same_key_is p.key j e)
        | inr old ↦ inr (p.clauses, ap (λ x. if x then Some p.clauses else clauses_at ps j) e, old)
      ]
  at_same p ps false e is h = inr (cs, ap (λ x. if x then Some p.clauses else clauses_at ps j) e ∙ h, among)

  at_other : (p : Procedure) (ps : Procedures) (b : Bool) → same_key p.key j ≡ b → (clauses_at (with_clause at_end Static ps k c) j ≡ Some cs → Known ps)
      → (if b then Some p.clauses else clauses_at (with_clause at_end Static ps k c) j) ≡ Some cs → Known (p ∷ ps)
  at_other p ps true e rest h = inr (cs, ap (λ x. if x then Some p.clauses else clauses_at ps j) e ∙ h, among)
  at_other p ps false e rest h = elim (rest h) [
    | inl new ↦ inl new
    | inr old ↦ inr (old.0, ap (λ x. if x then Some p.clauses else clauses_at ps j) e ∙ old.1, old.2)
  ]

  known_with : (ps : Procedures) → clauses_at (with_clause at_end Static ps k c) j ≡ Some cs → Known ps
  known_with [] h = elim (here_or (same_key k j) refl h) [ inl new ↦ inl new | inr nothing ↦ absurd nothing ]
  known_with (p ∷ ps) h = go (same_key p.key k) refl (known_with ps) h where
    go : (b : Bool) → same_key p.key k ≡ b → (clauses_at (with_clause at_end Static ps k c) j ≡ Some cs → Known ps)
        → clauses_at (if b then record p { clauses = p.clauses ++ c ∷ [] } ∷ ps else p ∷ with_clause at_end Static ps k c) j ≡ Some cs → Known (p ∷ ps)
    go true e rest g = at_same p ps (same_key p.key j) refl (same_key_is p.key k e) g
    go false e rest g = at_other p ps (same_key p.key j) refl rest g

pub with_definite : (ps : Procedures) (k : Key) (c : Clause) → IsDefinite ps → IsDefiniteClause k c → IsDefinite (with_clause at_end Static ps k c)
with_definite ps k c definite new j cs at d among = elim (known_with k j c cs d among ps at) [
  | inl is ↦ subst (λ x. IsDefiniteClause j x) (sym is.0) (subst (λ x. IsDefiniteClause x c) is.1 new)
  | inr old ↦ definite j old.0 old.1 d old.2
]

-- ---- consulting

-- What an added clause comes to.
pub record Added (t : Tree) (o : Option Key) (db after : Database) : Type 0 where
  pub procedure : Key
  pub body : Body
  pub named : o ≡ Some procedure
  pub is : converted (body_of (copy_from t 0)) ≡ Some body
  pub database : after ≡ with_added at_end Static t procedure body db

module _ (t : Tree) (db after : Database) where
  user_added : (k : Key) (b : Body) → converted (body_of (copy_from t 0)) ≡ Some b → (c : Bool)
      → addition_by at_end Static consult_key t db (if c then Faulty (NotUser k) else Fits k b) ≡ Adds after → Added t (Some k) db after
  user_added k b is true h = let clash : Refuses (fault_error consult_key (NotUser k)) ≡ Adds after = h in cc
  user_added k b is false h =
      let both : Adds (with_added at_end Static t k b db) ≡ Adds after = h in
      let same : after ≡ with_added at_end Static t k b db = cc in
      record { procedure = k; body = b; named = refl; is = is; database = same }

  small_added : (k : Key) (b : Body) → converted (body_of (copy_from t 0)) ≡ Some b → (c : Bool)
      → addition_by at_end Static consult_key t db (user_checked (if c then Faulty TooManyVariables else Fits k b)) ≡ Adds after → Added t (Some k) db after
  small_added k b is true h = let clash : Refuses (fault_error consult_key TooManyVariables) ≡ Adds after = h in cc
  small_added k b is false h = user_added k b is (is_built_in k) h

  body_added : (k : Key) (o : Option Body) → converted (body_of (copy_from t 0)) ≡ o
      → addition_by at_end Static consult_key t db (user_checked (prepared_body t k o)) ≡ Adds after → Added t (Some k) db after
  body_added k None e h = let clash : Refuses (fault_error consult_key (NotCallable (body_of t))) ≡ Adds after = h in cc
  body_added k (Some b) e h = small_added k b e (nat_lt most_variables (variable_count t)) h

  pub key_added : (x : Tree) (o : Option Key) → addition_by at_end Static consult_key t db (user_checked (prepared_head t x o)) ≡ Adds after
      → Added t o db after
  key_added (Variable n) o h = let clash : Refuses (fault_error consult_key UnboundHead) ≡ Adds after = h in cc
  key_added x None h = let clash : Refuses (fault_error consult_key (NotCallable x)) ≡ Adds after = h in cc
  key_added x (Some k) h = body_added k (converted (body_of (copy_from t 0))) refl h

-- ---- clauses that stand

same_key_self : (k : Key) → same_key k k ≡ true
same_key_self k = ap₂ ◌&&◌ (eq-eqb k.arity k.arity refl) ((bytes_eq-Decides k.name k.name).1 refl)

among_left : (c d : Clause) (cs : List Clause) → Among d cs → Among d (cs ++ c ∷ [])
among_left c d [] h = elim h [ ]
among_left c d (x ∷ xs) first = first
among_left c d (x ∷ xs) (later h) = later (among_left c d xs h)

among_last : (c : Clause) (cs : List Clause) → Among c (cs ++ c ∷ [])
among_last c [] = first
among_last c (x ∷ xs) = later (among_last c xs)

-- The clause is at this key.
pub record StandsAt (ps : Procedures) (j : Key) (d : Clause) : Type 0 where
  pub clauses : List Clause
  pub at : clauses_at ps j ≡ Some clauses
  pub among : Among d clauses

module _ (k : Key) (c : Clause) where
  kept_here : (p : Procedure) (ps : Procedures) (j : Key) (d : Clause) (b : Bool) → same_key p.key j ≡ b → (old : List Clause)
      → (if b then Some p.clauses else clauses_at ps j) ≡ Some old → Among d old
      → StandsAt (record p { clauses = p.clauses ++ c ∷ [] } ∷ ps) j d
  kept_here p ps j d true e old at among =
      let same : p.clauses ≡ old = cc in
      record {
        clauses = p.clauses ++ c ∷ [];
        at = ap (λ x. if x then Some (p.clauses ++ c ∷ []) else clauses_at ps j) e;
        among =
            among_left c d p.clauses (subst (Among d) (sym same) among);
      }
  kept_here p ps j d false e old at among =
      record { clauses = old; at = ap (λ x. if x then Some (p.clauses ++ c ∷ []) else clauses_at ps j) e ∙ at; among = among }

  kept_other : (p : Procedure) (ps qs : Procedures) (j : Key) (d : Clause) (b : Bool) → same_key p.key j ≡ b → (old : List Clause)
      → (if b then Some p.clauses else clauses_at ps j) ≡ Some old → Among d old
      → (clauses_at ps j ≡ Some old → StandsAt qs j d) → StandsAt (p ∷ qs) j d
  kept_other p ps qs j d true e old at among rest = record { clauses = old; at = ap (λ x. if x then Some p.clauses else clauses_at qs j) e ∙ at; among = among }
  kept_other p ps qs j d false e old at among rest =
      let r = rest at in record { clauses = r.clauses; at = ap (λ x. if x then Some p.clauses else clauses_at qs j) e ∙ r.at; among = r.among }

  pub kept_with : (ps : Procedures) (j : Key) (d : Clause) (old : List Clause) → clauses_at ps j ≡ Some old → Among d old
      → StandsAt (with_clause at_end Static ps k c) j d
  kept_with [] j d old at among = let clash : None ≡ Some old = at in cc
  kept_with (p ∷ ps) j d old at among = go (same_key p.key k) (λ a. kept_with ps j d old a among) where
    go : (b : Bool) → (clauses_at ps j ≡ Some old → StandsAt (with_clause at_end Static ps k c) j d)
        → StandsAt (if b then record p { clauses = p.clauses ++ c ∷ [] } ∷ ps else p ∷ with_clause at_end Static ps k c) j d
    go true rest = kept_here p ps j d (same_key p.key j) refl old at among
    go false rest = kept_other p ps (with_clause at_end Static ps k c) j d (same_key p.key j) refl old at among rest

  new_with : (ps : Procedures) → StandsAt (with_clause at_end Static ps k c) k c
  new_with [] = record { clauses = c ∷ []; at = ap (λ x. if x then Some (c ∷ []) else None) (same_key_self k); among = first }
  new_with (p ∷ ps) = go (same_key p.key k) refl (new_with ps) where
    go : (b : Bool) → same_key p.key k ≡ b → StandsAt (with_clause at_end Static ps k c) k c
        → StandsAt (if b then record p { clauses = p.clauses ++ c ∷ [] } ∷ ps else p ∷ with_clause at_end Static ps k c) k c
    go true e rest =
        record { clauses = p.clauses ++ c ∷ []; at = ap (λ x. if x then Some (p.clauses ++ c ∷ []) else clauses_at ps k) e; among = among_last c p.clauses }
    go false e rest =
        record {
          clauses = rest.clauses;
          at = ap (λ x. if x then Some p.clauses else clauses_at (with_clause at_end Static ps k c) k) e ∙ rest.at;
          among =
              rest.among;
        }

-- The clause is that of a term of the program.
pub record FromTerm (program : List Tree) (c : Clause) : Type 0 where
  pub term : Tree
  pub among : IsOneOf term program
  pub number : ℕ
  pub body : Body
  pub is : c ≡ clause_of term body number
  pub converts : converted (body_of (copy_from term 0)) ≡ Some body

-- A term of the program is a clause of the database.
pub record InDatabase (ps : Procedures) (t : Tree) : Type 0 where
  pub number : ℕ
  pub body : Body
  pub converts : converted (body_of (copy_from t 0)) ≡ Some body
  pub procedure : Key
  pub named : key_of (head_of t) ≡ Some procedure
  pub stands : StandsAt ps procedure (clause_of t body number)

from_more : {t : Tree} {ts : List Tree} {c : Clause} → FromTerm ts c → FromTerm (t ∷ ts) c
from_more f = record { term = f.term; among = there f.among; number = f.number; body = f.body; is = f.is; converts = f.converts }

pub comes_from : {ts : List Tree} {db last : Database} → Consulted ts db last → (k : Key) (cs : List Clause) → clauses_at last.procedures k ≡ Some cs
    → (c : Clause) → Among c cs
    → StandsAt db.procedures k c ⊎ FromTerm ts c
comes_from no_more k cs at c among = inl (record { clauses = cs; at = at; among = among })
comes_from (adds {t = t} {db = db} {after = after} added others) k cs at c among =
    let a = key_added t db after (head_of t) (key_of (head_of t)) added in
    elim (comes_from others k cs at c among) [
      | inl old ↦ elim (known_with a.procedure k (clause_of t a.body db.added) old.clauses c old.among db.procedures
          (subst (λ d. clauses_at d.procedures k ≡ Some old.clauses) a.database old.at)) [
            | inl new ↦ inr (record { term = t; among = here; number = db.added; body = a.body; is = new.0; converts = a.is })
            | inr known ↦ inl (record { clauses = known.0; at = known.1; among = known.2 })
          ]
      | inr later_one ↦ inr (from_more later_one)
    ]

stays_in : {ts : List Tree} {db last : Database} → Consulted ts db last → (j : Key) (d : Clause) → StandsAt db.procedures j d → StandsAt last.procedures j d
stays_in no_more j d h = h
stays_in (adds {t = t} {db = db} {after = after} added others) j d h =
    let a = key_added t db after (head_of t) (key_of (head_of t)) added in
    stays_in others j d (subst (λ x. StandsAt x.procedures j d) (sym a.database)
    (kept_with a.procedure (clause_of t a.body db.added) db.procedures j d h.clauses h.at h.among))

one_cases : (t u : Tree) (us : List Tree) → IsOneOf t (u ∷ us) → (u ≡ t) ⊎ IsOneOf t us
one_cases t u us here = inl refl
one_cases t u us (there h) = inr h

pub goes_in : {ts : List Tree} {db last : Database} → Consulted ts db last → (u : Tree) → IsOneOf u ts → InDatabase last.procedures u
goes_in no_more u h = elim h [ ]
goes_in (adds {t = t} {ts = ts} {db = db} {after = after} {last = last} added others) u h =
    let a = key_added t db after (head_of t) (key_of (head_of t)) added in
    elim (one_cases u t ts h) [
      | inl same ↦ subst (InDatabase last.procedures) same (record {
        number = db.added;
        body = a.body;
        converts = a.is;
        procedure = a.procedure;
        named = a.named;
        stands =
            stays_in others a.procedure (clause_of t a.body db.added)
            (subst (λ x. StandsAt x.procedures a.procedure (clause_of t a.body db.added)) (sym a.database)
            (new_with a.procedure (clause_of t a.body db.added) db.procedures));
      })
      | inr behind ↦ goes_in others u behind
    ]
