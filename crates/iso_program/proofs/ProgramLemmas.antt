-- The database as it is kept: how a procedure is found, and how a clause comes to it.
use Rattle.std.proofs.Common.{◌≡◌, ◌<◌, ◌≤◌, ◌+◌, ◌==◌, ℕ, zero, suc, List, [], ◌∷◌, ◌++◌, length, map, refl, sym, ap, ap₂, ◌∙◌, subst, arith, Bool, true, false, true≢false, Option, Some, None, option_map, unwrap_or, is_some, if◌then◌else◌, inl, inr}
use Rattle.std.specs.List.{slice_get}
use Rattle.std.specs.Option.{option_and_then, option_or}
use Rattle.std.specs.Str.{bytes_eq}
use Rattle.std.proofs.Math.Bool.{and_comm}
use Rattle.std.proofs.lemmas.Bool.Decides.{same_from_decides}
use Rattle.std.proofs.lemmas.Bool.{cases_Bool, and_parts, eqb-true}
use Rattle.std.proofs.lemmas.List.{length-map, map-append}
use Rattle.std.proofs.lemmas.Option.{slice_get_cases}
use Rattle.std.proofs.lemmas.Slice.Eq.{bytes_eq-Decides}
use Rattle.iso_model.specs.Search.Databases as databases
use Rattle.iso_model.specs.Search.Databases.{Key, key, Place, Static, Dynamic, same_key, at_front, at_end, with_clause}
use Rattle.iso_db.specs.Keys as keys
use Rattle.iso_db.specs.Keys.{is_key, place_of}
use Rattle.iso_db.specs.Databases as db
use Rattle.iso_db.specs.Databases.{Database, Procedure, at_place, clauses_of, one_more, with_procedure}
use Rattle.iso_db.specs.declared.kinds.Kind.{Kind}
use Rattle.iso_db.specs.declared.kinds.Kind.TheVariants as kind
use Rattle.iso_db.proofs.IndexLemmas.{place_of-push}
use Rattle.iso_db.proofs.KeptLemmas.{place_of-within}
use Rattle.iso_db.proofs.ListLemmas.{slice_get-push_before, slice_get-push_last}
use Rattle.iso_program.specs.declared.clauses.Clause.{Clause}
use Rattle.iso_program.specs.declared.procedures.Way.{Way}
use Rattle.iso_program.specs.declared.procedures.Way.TheVariants as way
use Rattle.iso_program.specs.Adding.{came, with_more}
use Rattle.iso_program.specs.Kept.{Keeping, IsClause}
use Rattle.iso_program.specs.Programs.{AreClauses, no_clauses, more_clauses, IsKind, IsProcedure, AreNumbered, IsDatabase, procedure_with, place_at, kept_at, kind_of}
use Rattle.iso_program.proofs.CallableLemmas.{same_key_self, by_key, or_none}
use Rattle.iso_program.proofs.ProcedureLemmas.{grown, with_same, with_other}
use Rattle.iso_program.proofs.NumberedLemmas.{numbered_more, numbered_front, numbered_end}

-- ---- the keys that have places

-- the key at the place of a name and a number of arguments
key_at : (ks : List keys.Key) (name : List ℕ) (arity i : ℕ) → place_of ks name arity ≡ Some i
    → slice_get ks i ≡ Some (keys.key name arity)
key_at [] name arity i h = absurd (cc h)
key_at (k ∷ ks) name arity i h =
    elim (cases_Bool (is_key name arity k)) [
      | inl here ↦ (let e : Some 0 ≡ Some i = rw here at h in
          let first : i ≡ 0 = cc e in
          let parts = and_parts (bytes_eq name k.name) (k.arity == arity) here in
          rw first (ap Some (ap₂ keys.key (sym ((bytes_eq-Decides name k.name).0 parts.0)) (eqb-true k.arity arity parts.1))))
      | inr other ↦ (let e : option_map suc (place_of ks name arity) ≡ Some i = rw other at h in
          by_rest (place_of ks name arity) (key_at ks name arity) e)
    ] where
      by_rest : (o : Option ℕ) → ((j : ℕ) → o ≡ Some j → slice_get ks j ≡ Some (keys.key name arity))
          → option_map suc o ≡ Some i → slice_get (k ∷ ks) i ≡ Some (keys.key name arity)
      by_rest None found e = absurd (cc e)
      by_rest (Some j) found e = (let same : i ≡ suc j = cc e in rw same (found j refl))

-- one place, one key
pub place_once : (ks : List keys.Key) (k j : Key) (i : ℕ) → place_of ks k.name k.arity ≡ Some i
    → place_of ks j.name j.arity ≡ Some i → k ≡ j
place_once ks k j i one other =
    let there : Some (keys.key k.name k.arity) ≡ Some (keys.key j.name j.arity) = sym (key_at ks k.name k.arity i one) ∙ key_at ks j.name j.arity i other in
    let same : keys.key k.name k.arity ≡ keys.key j.name j.arity = cc there in
    ap (λ (x : keys.Key). key x.name x.arity) same

pub place_within : {X : Type 0} (d : Database X) (k : Key) (i : ℕ) → place_at d k ≡ Some i → i < length d.procedures
place_within d k i h =
    subst (λ n. i < n) (length-map d.procedures (λ p. p.key)) (place_of-within (map (λ p. p.key) d.procedures) k.name k.arity i h)

-- what is kept at its place
pub kept_there : {X : Type 0} (d : Database X) (k : Key) (i : ℕ) → place_at d k ≡ Some i
    → kept_at d k ≡ slice_get d.procedures i
kept_there d k i h = ap (λ o. option_and_then (slice_get d.procedures) o) h

-- ---- a procedure comes, absent

abbrev pub absent_is : {X : Type 0} → List ℕ → ℕ → Procedure X
absent_is name arity = record { key = keys.key name arity; kind = None; clauses = [] }

-- the database with one procedure more, that is absent
abbrev pub wider : {X : Type 0} → Database X → List ℕ → ℕ → Database X
wider d name arity = record d { procedures = d.procedures ++ absent_is name arity ∷ [] }

wider_place : {X : Type 0} (d : Database X) (name : List ℕ) (arity : ℕ) (k : Key)
    → place_at (wider d name arity) k ≡ option_or (place_at d k)
    (if is_key k.name k.arity (keys.key name arity) then Some (length d.procedures) else None)
wider_place {X = X} d name arity k =
    ap (λ ks. place_of ks k.name k.arity) (map-append (λ (x : Procedure X). x.key) d.procedures (absent_is name arity ∷ []))
    ∙ place_of-push (map (λ (x : Procedure X). x.key) d.procedures) (keys.key name arity) k.name k.arity
    ∙ ap (λ n. option_or (place_at d k) (if is_key k.name k.arity (keys.key name arity) then Some n else None)) (length-map d.procedures (λ (x : Procedure X). x.key))

-- what holds with and without a procedure more
pub placed : {X : Type 0} (d : Database X) (name : List ℕ) (arity : ℕ) (P : Database X → Type 0) → P d
    → P (wider d name arity) → P (with_procedure name arity d)
placed d name arity P known new = by_place (db.place_in d name arity) where
  by_place : (o : Option ℕ) → P (if is_some o then d else wider d name arity)
  by_place None = new
  by_place (Some i) = known

-- a procedure that is there is where it was; one that came is absent
wider_kept : {X : Type 0} (d : Database X) (name : List ℕ) (arity : ℕ) (k : Key) (o : Option ℕ) (b : Bool)
    → place_at d k ≡ o → place_at (wider d name arity) k ≡ option_or o (if b then Some (length d.procedures) else None)
    → (kind_of (kept_at (wider d name arity) k) ≡ kind_of (kept_at d k))
    × (clauses_of (kept_at (wider d name arity) k) ≡ clauses_of (kept_at d k))
wider_kept d name arity k (Some i) b was now = rw (now, was, slice_get-push_before d.procedures (absent_is name arity) i (place_within d k i was)) (refl, refl)
wider_kept d name arity k None true was now = rw (now, was, slice_get-push_last d.procedures (absent_is name arity)) (refl, refl)
wider_kept d name arity k None false was now = rw (now, was) (refl, refl)

-- what is kept under a key where a place came
pub placed_kept : {X : Type 0} (d : Database X) (name : List ℕ) (arity : ℕ) (k : Key)
    → (kind_of (kept_at (with_procedure name arity d) k) ≡ kind_of (kept_at d k))
    × (clauses_of (kept_at (with_procedure name arity d) k) ≡ clauses_of (kept_at d k))
placed_kept d name arity k =
    placed d name arity (λ e. (kind_of (kept_at e k) ≡ kind_of (kept_at d k)) × (clauses_of (kept_at e k) ≡ clauses_of (kept_at d k))) (refl, refl)
    (wider_kept d name arity k (place_at d k) (is_key k.name k.arity (keys.key name arity)) refl (wider_place d name arity k))

other_key : (a b : Key) → same_key a b ≡ false → is_key b.name b.arity (keys.key a.name a.arity) ≡ false
other_key a b apart =
    let same = bytes_eq-Decides a.name b.name in
    let names = same_from_decides _ _ (bytes_eq-Decides b.name a.name) (λ e. sym (same.0 e), λ e. same.1 (sym e)) in
    rw (and_comm, names) apart

-- the place of another key
pub placed_other : {X : Type 0} (d : Database X) (k j : Key) → same_key k j ≡ false
    → place_at (with_procedure k.name k.arity d) j ≡ place_at d j
placed_other d k j apart =
    placed d k.name k.arity (λ e. place_at e j ≡ place_at d j) refl
    (wider_place d k.name k.arity j ∙ ap (λ b. option_or (place_at d j) (if b then Some (length d.procedures) else None)) (other_key k j apart) ∙ or_none (place_at d j))

-- a place that is had stays
pub placed_stays : {X : Type 0} (d new : Database X) (name : List ℕ) (arity : ℕ) → new ≡ with_procedure name arity d
    → (k : Key) (i : ℕ) → place_at d k ≡ Some i → place_at new k ≡ Some i
placed_stays d new name arity are k i had =
    subst (λ e. place_at e k ≡ Some i) (sym are) (placed d name arity (λ e. place_at e k ≡ Some i) had
    (wider_place d name arity k ∙ ap (λ o. option_or o (if is_key k.name k.arity (keys.key name arity) then Some (length d.procedures) else None)) had))

placed_added : {X : Type 0} (d : Database X) (name : List ℕ) (arity : ℕ) → (with_procedure name arity d).added ≡ d.added
placed_added d name arity = placed d name arity (λ e. e.added ≡ d.added) refl refl

pub database_placed : {C : Type 0} {keeps : Keeping C} {names : List (List ℕ)} (d : Database (Clause C))
    (m : databases.Database) (name : List ℕ) (arity : ℕ) → IsDatabase keeps names d m
    → IsDatabase keeps names (with_procedure name arity d) m
database_placed {C = C} {keeps = keeps} {names = names} d m name arity is = record {
  procedures = λ k. (let kept = placed_kept d name arity k in
      subst (λ (o : Option Kind). IsProcedure keeps names o (clauses_of (kept_at (with_procedure name arity d) k)) (procedure_with m.procedures k)) (sym kept.0)
      (subst (λ (ks : List (db.Clause (Clause C))). IsProcedure keeps names (kind_of (kept_at d k)) ks (procedure_with m.procedures k)) (sym kept.1) (is.procedures k)));
  numbers = λ k. subst (λ (n : ℕ). AreNumbered n (clauses_of (kept_at (with_procedure name arity d) k))) (sym (placed_added d name arity)) (subst (AreNumbered d.added) (sym (placed_kept d name arity k).1) (is.numbers k));
  added = placed_added d name arity ∙ is.added;
}

-- ---- a clause comes

clauses_push : {C : Type 0} {keeps : Keeping C} {names : List (List ℕ)} {ks : List
    (db.Clause (Clause C))} {cs : List databases.Clause} (k : db.Clause (Clause C)) (c : databases.Clause)
    → AreClauses keeps names ks cs → c.number ≡ k.number → IsClause keeps names k.value c
    → AreClauses keeps names (ks ++ k ∷ []) (cs ++ c ∷ [])
clauses_push k c no_clauses number i = more_clauses number i no_clauses
clauses_push k c (more_clauses n j rest) number i = more_clauses n j (clauses_push k c rest number i)

changed_here : {X : Type 0} (f : Procedure X → Procedure X) (ps : List (Procedure X)) (i : ℕ)
    → slice_get (at_place i f ps) i ≡ option_map f (slice_get ps i)
changed_here f (p ∷ ps) (suc i) = changed_here f ps i
changed_here f ps i = refl

changed_other : {X : Type 0} (f : Procedure X → Procedure X) (ps : List (Procedure X)) (i j : ℕ) → (j ≡ i → ⊥)
    → slice_get (at_place i f ps) j ≡ slice_get ps j
changed_other f (p ∷ ps) zero zero apart = absurd (apart refl)
changed_other f (p ∷ ps) (suc i) (suc j) apart = changed_other f ps i j (λ e. apart (ap suc e))
changed_other f ps i j apart = refl

keys_same : {X : Type 0} (f : Procedure X → Procedure X) → ((p : Procedure X) → (f p).key ≡ p.key)
    → (ps : List (Procedure X)) (i : ℕ) → map (λ (x : Procedure X). x.key) (at_place i f ps) ≡ map
    (λ (x : Procedure X). x.key) ps
keys_same f same [] i = refl
keys_same {X = X} f same (p ∷ ps) zero = ap (λ k. k ∷ map (λ (x : Procedure X). x.key) ps) (same p)
keys_same f same (p ∷ ps) (suc i) = ap (λ ks. p.key ∷ ks) (keys_same f same ps i)

-- the database with what is kept at a place changed, of so many clauses
abbrev pub changed : {X : Type 0} → (Procedure X → Procedure X) → ℕ → Database X → ℕ → Database X
changed f n d place = record { procedures = at_place place f d.procedures; added = n }

not_past : {X : Type 0} (ps : List X) (i : ℕ) → i < length ps → slice_get ps i ≡ None → ⊥
not_past ps i below none = elim ((slice_get_cases ps i).1) [
  | inl there ↦ cc (there.2, none)
  | inr past ↦ (let far = past.0 in omega (arith, far, below))
]

module _ {X : Type 0} (f : Procedure X → Procedure X) (same : (p : Procedure X) → (f p).key ≡ p.key) (n : ℕ)
    (d : Database X) (place : ℕ) where
  pub same_place : (k : Key) → place_at (changed f n d place) k ≡ place_at d k
  same_place k = ap (λ ks. place_of ks k.name k.arity) (keys_same f same d.procedures place)

  pub kept_here : (k : Key) → place_at d k ≡ Some place → kept_at (changed f n d place) k ≡ option_map f (kept_at d k)
  kept_here k at = kept_there (changed f n d place) k place (same_place k ∙ at) ∙ changed_here f d.procedures place ∙ ap (option_map f) (sym (kept_there d k place at))

  -- under another key
  pub kept_other : (k j : Key) → place_at d k ≡ Some place → same_key k j ≡ false
      → kept_at (changed f n d place) j ≡ kept_at d j
  kept_other k j at apart = by_place (place_at d j) refl where
    by_place : (o : Option ℕ) → place_at d j ≡ o → kept_at (changed f n d place) j ≡ kept_at d j
    by_place None h = rw (same_place j, h) refl
    by_place (Some i) h =
        let other : i ≡ place → ⊥ = λ e.
        (let one : k ≡ j = place_once (map (λ (x : Procedure X). x.key) d.procedures) k j place at (h ∙ ap Some e) in
        true≢false (sym (same_key_self k) ∙ ap (same_key k) one ∙ apart)) in
        kept_there (changed f n d place) j i (same_place j ∙ h) ∙ changed_other f d.procedures place i other ∙ sym (kept_there d j i h)

  -- what holds of each procedure, from what held of it
  each_changed : (P Q : Key → Option (Procedure X) → Type 0) (k : Key) → place_at d k ≡ Some place
      → ((j : Key) (o : Option (Procedure X)) → same_key k j ≡ false → P j o → Q j o)
      → ((p : Procedure X) → P k (Some p) → Q k (Some (f p)))
      → ((j : Key) → P j (kept_at d j)) → (j : Key) → Q j (kept_at (changed f n d place) j)
  each_changed P Q k at others here is j =
      by_key (λ x b. Q x (kept_at (changed f n d place) x)) k j (of_kept (kept_at d k) refl)
      (λ other. subst (Q j) (sym (kept_other k j at other)) (others j (kept_at d j) other (is j))) where
        of_kept : (o : Option (Procedure X)) → kept_at d k ≡ o → Q k (kept_at (changed f n d place) k)
        of_kept None h = absurd (not_past d.procedures place (place_within d k place at) (sym (kept_there d k place at) ∙ h))
        of_kept (Some p) h = subst (Q k) (sym (kept_here k at ∙ ap (option_map f) h)) (here p (subst (P k) h (is k)))

module _ {C : Type 0} {keeps : Keeping C} (f : Procedure (Clause C) → Procedure (Clause C))
    (same : (p : Procedure (Clause C)) → (f p).key ≡ p.key) (n : ℕ) (d : Database (Clause C)) (place : ℕ) where
  -- Where the procedure with the key of the place becomes what is kept there, and the others are what they were, that is the database.
  pub database_changed : {names : List (List ℕ)} (k : Key) (m new : databases.Database) → place_at d k ≡ Some place
      → d.added ≤ n → n ≡ new.added
      → ((j : Key) → same_key k j ≡ false → procedure_with new.procedures j ≡ procedure_with m.procedures j)
      → ((p : Procedure (Clause C)) → AreNumbered d.added p.clauses → AreNumbered n (f p).clauses)
      → ((p : Procedure (Clause C)) → IsProcedure keeps names p.kind p.clauses (procedure_with m.procedures k)
      → IsProcedure keeps names (f p).kind (f p).clauses (procedure_with new.procedures k))
      → IsDatabase keeps names d m → IsDatabase keeps names (changed f n d place) new
  database_changed {names = names} k m new at more added others numbers here is = record {
    procedures = each_changed f same n d place (λ j o. IsProcedure keeps names (kind_of o) (clauses_of o) (procedure_with m.procedures j)) (λ j o. IsProcedure keeps names (kind_of o) (clauses_of o) (procedure_with new.procedures j)) k at
        (λ j o apart h. subst (λ (q : Option databases.Procedure). IsProcedure keeps names (kind_of o) (clauses_of o) q) (sym (others j apart)) h) here is.procedures;
    numbers = each_changed f same n d place (λ j o. AreNumbered d.added (clauses_of o)) (λ j o. AreNumbered n (clauses_of o)) k at (λ j o apart h. numbered_more (clauses_of o) more h) numbers is.numbers;
    added = added;
  }

-- how a clause is put among the others, and the kind of a procedure that was absent
abbrev pub Put : Type 0 → Type 0
Put X = db.Clause X → List (db.Clause X) → List (db.Clause X)

abbrev pub new : {X : Type 0} → Database X → X → db.Clause X
new d value = record { number = d.added; value = value }

-- The ways to put a clause among others are the same.
abbrev SamePut : {C : Type 0} → Keeping C → List (List ℕ) → Put (Clause C) → Place → Type 0
SamePut {C = C} keeps names put own = (ks : List (db.Clause (Clause C))) (cs : List databases.Clause) (k : db.Clause (Clause C)) (c : databases.Clause) → AreClauses keeps names ks cs → c.number ≡ k.number → IsClause keeps names k.value c → AreClauses keeps names (put k ks) (own c cs)

-- So a clause that comes has a number of its own.
abbrev StayNumbered : {X : Type 0} → Put X → Type 0
StayNumbered {X = X} put = (n : ℕ) (k : db.Clause X) (ks : List (db.Clause X)) → k.number ≡ n → AreNumbered n ks → AreNumbered (n + 1) (put k ks)

module _ {C : Type 0} {keeps : Keeping C} {names : List (List ℕ)} (put : Put (Clause C)) (own : Place) (kd : Kind)
    (is_kind : databases.Kind) (puts : SamePut keeps names put own) (numbered : StayNumbered put)
    (kinds : IsKind kd is_kind) where
  one_comes : (k : Key) (p : Procedure (Clause C)) (o : Option databases.Procedure) (n : db.Clause (Clause C))
      (c : databases.Clause) → c.number ≡ n.number → IsClause keeps names n.value c
      → IsProcedure keeps names p.kind p.clauses o
      → IsProcedure keeps names (one_more put kd n p).kind (one_more put kd n p).clauses
      (Some (grown (own c) is_kind k o))
  one_comes k p o n c number clause is = by_kind p.kind p.clauses o is where
    by_kind : (x : Option Kind) (ks : List (db.Clause (Clause C))) (q : Option databases.Procedure)
        → IsProcedure keeps names x ks q → IsProcedure keeps names (Some (unwrap_or x kd)) (put n ks)
        (Some (grown (own c) is_kind k q))
    by_kind None ks None is = (kinds, subst (λ (xs : List (db.Clause (Clause C))). AreClauses keeps names (put n xs) (own c [])) (sym is) (puts [] [] n c no_clauses number clause))
    by_kind (Some x) ks (Some q) is = (is.0, puts ks q.clauses n c is.1 number clause)
    by_kind x ks q is = absurd is

  comes : (d : Database (Clause C)) (m : databases.Database) (k : Key) (place : ℕ) (value : Clause C)
      (c : databases.Clause) → place_at d k ≡ Some place → IsDatabase keeps names d m
      → IsClause keeps names value c → c.number ≡ m.added
      → IsDatabase keeps names (db.with_clause put kd place value d)
      (record { procedures = with_clause own is_kind m.procedures k c; added = m.added + 1 })
  comes d m k place value c at is clause number =
      database_changed (one_more put kd (new d value)) (λ p. refl) (d.added + 1) d place k m (record { procedures = with_clause own is_kind m.procedures k c; added = m.added + 1 }) at (omega arith) (ap (λ n. n + 1) is.added)
      (λ j apart. with_other (own c) is_kind m.procedures k j apart) (λ p was. numbered d.added (new d value) p.clauses refl was)
      (λ p was. subst (λ (o : Option databases.Procedure). IsProcedure keeps names (one_more put kd (new d value) p).kind (one_more put kd (new d value) p).clauses o) (sym (with_same (own c) is_kind m.procedures k))
      (one_comes k p (procedure_with m.procedures k) (new d value) c (number ∙ sym is.added) clause was)) is

-- it comes in one of the ways
pub clause_comes : {C : Type 0} {keeps : Keeping C} {names : List (List ℕ)} (w : Way) (d : Database (Clause C))
    (m : databases.Database) (k : Key) (place : ℕ) (value : Clause C) (c : databases.Clause) → place_at d k ≡ Some place
    → IsDatabase keeps names d m
    → IsClause keeps names value c → c.number ≡ m.added
    → IsDatabase keeps names (came w place value d) (with_more w m k c)
clause_comes way.Consulted d m k place value c at is clause number = comes db.at_end at_end kind.Static Static (λ ks cs. clauses_push) numbered_end tt d m k place value c at is clause number
clause_comes way.First d m k place value c at is clause number =
    comes db.at_front at_front kind.Dynamic Dynamic (λ ks cs k c all number is. more_clauses number is all) numbered_front tt
    d m k place value c at is clause number
clause_comes way.Last d m k place value c at is clause number = comes db.at_end at_end kind.Dynamic Dynamic (λ ks cs. clauses_push) numbered_end tt d m k place value c at is clause number

-- the kind of what is at the place of a key
pub kind_there : {X : Type 0} (d : Database X) (k : Key) (i : ℕ) → place_at d k ≡ Some i
    → db.kind_at d i ≡ kind_of (kept_at d k)
kind_there d k i h = ap kind_of (sym (kept_there d k i h))
