-- A clause whose key doesn't fit the call's misses the call, and may be left out. The call may enter the others.
use Rattle.std.proofs.Common.{◌≡◌, ℕ, List, [], ◌∷◌, true, false, Option, Some, None, refl, sym, ap, ◌∙◌, inl, inr, true≢false}
use Rattle.std.specs.List.{filter}
use Rattle.std.specs.Prelude.{MatchOption}
use Rattle.std.proofs.lemmas.Bool.{cases_Bool}
use Rattle.iso_model.specs.Terms.Trees.{Tree}
use Rattle.iso_model.specs.Search.Clashes.{EachEnters}
use Rattle.iso_model.specs.Search.Databases as databases
use Rattle.iso_model.specs.Search.RunLaws.Thinness.{Misses, Skips, no_clause, tried_too, passed_over}
use Rattle.iso_store_core.specs.Arguments.{argument}
use Rattle.iso_store_core.specs.declared.patterns.Part.{Part}
use Rattle.iso_store_core.specs.declared.patterns.Part.TheVariants as part
use Rattle.iso_store_core.specs.declared.shapes.Shape.{Shape}
use Rattle.iso_store_core.specs.declared.shapes.Shape.TheVariants as shape
use Rattle.iso_db.specs.Databases as db
use Rattle.iso_db.specs.Fits.{fits, FirstKey, Atom, Compound}
use Rattle.iso_db.proofs.KeyLemmas.{key_itself}
use Rattle.iso_program.specs.declared.clauses.Clause.{Clause}
use Rattle.iso_program.specs.Firsts.{IsFirstOf, HasFirst, HasNoFirst, Differs}
use Rattle.iso_program.specs.FirstKeys.{key_of_integer, key_of_part, key_of_first, key_of_shape, ShowsKey}
use Rattle.iso_program.specs.Keying.{EachKeyed}
use Rattle.iso_program.specs.Kept.{Keeping}
use Rattle.iso_program.specs.Programs.{AreClauses, no_clauses, more_clauses}
use Rattle.iso_program.proofs.EnterLemmas.{key_enters}
use Rattle.iso_program.proofs.FirstLemmas.{never_shown, never_compound}

-- ---- outermost parts that differ

-- a clause with the call's key fits
not_itself : {A : Type 0} (k j : FirstKey) → k ≡ j → fits (Some k) (Some j) ≡ false → A
not_itself k j same other =
    let itself : fits (Some k) (Some k) ≡ true = rw (key_itself (Some k)) refl in
    absurd (true≢false (sym itself ∙ ap (λ (x : FirstKey). fits (Some k) (Some x)) same ∙ other))

-- the shape and the part of keys that don't fit
differ : (s : Shape) (p : Part) (k : FirstKey) → key_of_shape s ≡ Some k → fits (key_of_shape s) (key_of_part p) ≡ false
    → Differs s p
differ (shape.Var n) p k is other = absurd (cc is)
differ s (part.Variable j) k is other = absurd (true≢false other)
differ (shape.Int y) (part.Integer z) k is other = λ same. not_itself (key_of_integer y) (key_of_integer z) (ap key_of_integer same) other
differ (shape.Atom a) (part.Atom b) k is other = λ same. not_itself (Atom a) (Atom b) (ap Atom same) other
differ (shape.Compound f m) (part.Compound g n) k is other = λ name many. not_itself (Compound f m) (Compound g n) (λ i. Compound (name i) (many i)) other
differ s p k is other = tt

-- ---- clauses whose keys don't fit

module _ (names : List (List ℕ)) (call : Tree) where
  pub key_misses : (key : Option FirstKey) (first : Option Part) (c : databases.Clause) → ShowsKey names key call
      → IsFirstOf names first c.head → fits key (key_of_first first) ≡ false → Misses call c
  key_misses None first c shows is other = absurd (true≢false other)
  key_misses (Some k) first c shows is other = by_first first other is where
    by_first : (o : Option Part) → fits (Some k) (key_of_first o) ≡ false
        → MatchOption o (HasNoFirst c.head) (λ p. HasFirst names p c.head) → Misses call c
    by_first None other has = absurd (true≢false other)
    by_first (Some p) other has = λ r.
        (let first = shows.1 in
        let differs = differ shows.0 p k shows.2 (ap (λ (o : Option FirstKey). fits o (key_of_part p)) shows.2 ∙ other) in
        never_compound names p call (argument 0 call) c.head r has first.name first.arguments first.is first.some refl
        (λ u top. never_shown names shows.0 p (argument 0 call) u r first.once first.shows first.term top differs))

  -- Of the clauses those that fit are clauses, which the call may enter, and those that don't are left out.
  pub record Fitting {C : Type 0} (keeps : Keeping C) (ks : List (db.Clause (Clause C))) (cs : List databases.Clause)
      : Type 0 where
    pub clauses : List databases.Clause
    pub are : AreClauses keeps names ks clauses
    pub skips : Skips call clauses cs
    pub enter : EachEnters call clauses

  pub fitting : {C : Type 0} {keeps : Keeping C} (added : ℕ) (keys : ℕ → Option FirstKey)
      (key : Option FirstKey) {ks : List (db.Clause (Clause C))} {cs : List databases.Clause} → ShowsKey names key call
      → EachKeyed added keys ks → AreClauses keeps names ks cs
      → Fitting keeps (filter (λ k. fits key (keys k.number)) ks) cs
  fitting added keys key shows keyed no_clauses =
      record { clauses = []; are = no_clauses; skips = no_clause; enter = tt }
  fitting added keys key shows keyed (more_clauses {k = k} {c = c} number is others) =
      let more = fitting added keys key shows keyed.1 others in
      let of = keyed.0.key names c.head is.head in
      let same : fits key (keys k.number) ≡ fits key (key_of_first of.0) = ap (fits key) of.2 in
      elim (cases_Bool (fits key (keys k.number))) [
        | inl fit ↦ rw fit (record {
          clauses = c ∷ more.clauses;
          are = more_clauses number is more.are;
          skips = tried_too more.skips;
          enter = (key_enters names call key of.0 c shows of.1 (sym same ∙ fit), more.enter);
        })
        | inr other ↦ (let misses = key_misses key of.0 c shows of.1 (sym same ∙ other) in
            rw other (record {
              clauses = more.clauses;
              are = more.are;
              skips = passed_over misses more.skips;
              enter = more.enter;
            }))
      ]
