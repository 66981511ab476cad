-- The clauses that are left to be tried: the first of them, and those behind it.
use Rattle.std.proofs.Common.{◌≡◌, ◌<◌, ◌≤◌, ℕ, List, length, arith, [], ◌∷◌, Bool, Option, is_some, refl, sym, subst}
use Rattle.std.specs.Bool.{MatchBool}
use Rattle.iso_model.specs.Search.Databases as databases
use Rattle.iso_db.specs.Databases as db
use Rattle.iso_db.specs.Presents.{GivesKeyed, Stands, EachStands}
use Rattle.iso_db.specs.Keyed.{remaining_keyed}
use Rattle.iso_db.specs.Stepping.{first_number, behind}
use Rattle.iso_db.specs.declared.db.Db.{Db}
use Rattle.iso_db.specs.declared.keyed.KeyedView.{KeyedView}
use Rattle.iso_program.specs.declared.clauses.Clause.{Clause}
use Rattle.iso_program.specs.Keying.{Preserves}
use Rattle.iso_program.specs.Kept.{Keeping, IsClause}
use Rattle.iso_program.specs.Programs.{AreClauses, no_clauses, more_clauses}
use Rattle.iso_program.specs.Leaving.{most_left, AreLeft, NextLeft, KeepsLeft}

module _ {C : Type 0} (names : List (List ℕ)) (d : Db (Clause C)) where
  -- what a step of a view leaves
  pub next_is_left : {keeps : Keeping C} (later : KeyedView) (ks : List (db.Clause (Clause C)))
      (cs : List databases.Clause) (number : Option ℕ) → AreClauses keeps names ks cs → EachStands d ks
      → number ≡ first_number ks → GivesKeyed d later (behind ks)
      → remaining_keyed later ≤ most_left → NextLeft (AreLeft keeps names d) number later cs
  next_is_left {keeps = keeps} later ks cs number no_clauses each is gives few = subst (λ (o : Option ℕ). NextLeft (AreLeft keeps names d) o later []) (sym is) refl
  next_is_left {keeps = keeps} later ks cs number (more_clauses {k = k} {c = c} {ks = rest} {cs = others} numbered clause more) each is gives few =
      subst (λ (o : Option ℕ). NextLeft (AreLeft keeps names d) o later (c ∷ others)) (sym is)
      (record { first = c; others = others; is = refl; kept = k.value; stands = each 0 k refl; numbered = numbered; clause = clause; behind = rest; gives = gives; are = more; few = few })

  module _ {keeps : Keeping C} {number : ℕ} {later : KeyedView} {c : databases.Clause} {cs : List databases.Clause}
      (left : AreLeft keeps names d number later (c ∷ cs)) where
    same_first : left.first ≡ c
    same_first = (let e = left.is in cc e)

    same_others : left.others ≡ cs
    same_others = (let e = left.is in cc e)

    -- what is kept of the first
    pub left_clause : (value : Clause C) → ((kept : Clause C) → Stands d number kept → value ≡ kept)
        → IsClause keeps names value c
    left_clause value same =
        subst (λ (k : Clause C). IsClause keeps names k c) (sym (same left.kept left.stands)) (subst (λ (x : databases.Clause). IsClause keeps names left.kept x) same_first left.clause)

    -- the view gives those behind it
    pub left_behind : AreClauses keeps names left.behind cs
    left_behind = subst (λ (xs : List databases.Clause). AreClauses keeps names left.behind xs) same_others left.are

  -- there are some
  pub left_long : {keeps : Keeping C} {number : ℕ} {later : KeyedView} {cs : List databases.Clause}
      → AreLeft keeps names d number later cs → 0 < length cs
  left_long left = rw left.is (omega arith)

-- whether there are any
pub some_left : {C : Type 0} {keeps : Keeping C} (names : List (List ℕ)) (ks : List (db.Clause (Clause C)))
    (cs : List databases.Clause) (some : Bool) → AreClauses keeps names ks cs → some ≡ is_some (first_number ks)
    → MatchBool some (0 < length cs) (cs ≡ [])
some_left names ks cs some no_clauses is = let none : List databases.Clause = [] in subst (λ (b : Bool). MatchBool b (0 < length none) (none ≡ [])) (sym is) (refl {0} {A = List databases.Clause})
some_left names ks cs some (more_clauses {c = c} {cs = others} number clause are) is = subst (λ (b : Bool). MatchBool b (0 < length (c ∷ others)) (c ∷ others ≡ [])) (sym is) (omega arith)

-- where the database keeps its views and clauses
pub left_keeps : {C : Type 0} {keeps : Keeping C} (names : List (List ℕ)) (old new : Db (Clause C)) → Preserves old new
    → KeepsLeft (AreLeft keeps names old) (AreLeft keeps names new)
left_keeps names old new on = λ number later cs left. record {
  first = left.first;
  others = left.others;
  is = left.is;
  kept = left.kept;
  stands = on.clauses number left.kept left.stands;
  numbered = left.numbered;
  clause = left.clause;
  behind = left.behind;
  gives = on.index.views later left.behind left.gives;
  are = left.are;
  few = left.few;
}
