-- The clauses of a view, one after another, and the numbers of those whose heads unify.
use Rattle.std.proofs.Common.{◌≡◌, ◌≤◌, ◌+◌, max, arith, ℕ, inl, inr, List, [], ◌∷◌, ◌++◌, append_assoc, true, false, Option, None, is_some, refl, sym, ap, ◌∙◌}
use Rattle.iso_model.specs.Terms.Sizes.{size}
use Rattle.iso_model.specs.Terms.Trees.{Tree, Variable}
use Rattle.iso_model.specs.Terms.Copies.{renamed}
use Rattle.iso_model.specs.Terms.Unification.{unifier_of}
use Rattle.iso_model.proofs.OnTerms.UnifierLemmas.{unifier_of_none}
use Rattle.std.proofs.lemmas.Bool.{cases_Bool}
use Rattle.iso_model.specs.Search.RunLaws.Thinness.{Misses, Skips, no_clause, tried_too, passed_over}
use Rattle.iso_model.specs.Search.Databases as databases
use Rattle.iso_model.specs.Search.Storages.{head_unifies, largest_head}
use Rattle.iso_db.specs.Databases as db
use Rattle.iso_db.specs.Presents.{GivesKeyed}
use Rattle.iso_db.specs.Keyed.{remaining_keyed}
use Rattle.iso_db.specs.declared.db.Db.{Db}
use Rattle.iso_db.specs.declared.keyed.KeyedView.{KeyedView}
use Rattle.iso_program.specs.declared.clauses.Clause.{Clause}
use Rattle.iso_program.specs.Leaving.{most_left, AreLeft}
use Rattle.iso_program.specs.Programs.{AreClauses}
use Rattle.iso_storage.specs.Matching.{matching_numbers}
use Rattle.iso_program.specs.Kept.{Keeping}

-- Of these clauses the view gives the last ones still; the numbers are those of the ones before them whose heads unify.
pub record AreMatched {C : Type 0} (keeps : Keeping C) (names : List (List ℕ)) (d : Db (Clause C)) (h : Tree) (next : ℕ)
    (cs : List databases.Clause) (later : KeyedView) (numbers : List ℕ) : Type 0 where
  pub kept : List (db.Clause (Clause C))
  pub others : List databases.Clause
  pub gives : GivesKeyed d later kept
  pub are : AreClauses keeps names kept others
  pub few : remaining_keyed later ≤ most_left
  pub numbers_are : matching_numbers h next cs ≡ numbers ++ matching_numbers h next others
  pub heads : largest_head others ≤ largest_head cs

module _ {C : Type 0} {keeps : Keeping C} {names : List (List ℕ)} {d : Db (Clause C)} {h : Tree} {next : ℕ} {cs
    : List databases.Clause} {view later : KeyedView} {numbers : List ℕ} {number : ℕ}
    (m : AreMatched keeps names d h next cs view numbers) (left : AreLeft keeps names d number later m.others) where
  behind_first : (ns : List ℕ) → numbers ++ matching_numbers h next
      (left.first ∷ left.others) ≡ ns ++ matching_numbers h next left.others
      → AreMatched keeps names d h next cs later ns
  behind_first ns same = record {
    kept = left.behind;
    others = left.others;
    gives = left.gives;
    are = left.are;
    few = left.few;
    numbers_are = m.numbers_are ∙ ap (λ (xs : List databases.Clause). numbers ++ matching_numbers h next xs) left.is ∙ same;
    heads = (let all = ap largest_head left.is in let most = m.heads in omega (arith, all, most));
  }

  -- its head is no larger than the largest
  pub first_head : size left.first.head ≤ largest_head cs
  first_head = let all = ap largest_head left.is in let most = m.heads in omega (arith, all, most)

  -- one more clause was compared, whose head unifies
  pub one_matched : head_unifies h next left.first ≡ true
      → AreMatched keeps names d h next cs later (numbers ++ number ∷ [])
  one_matched unifies =
      behind_first (numbers ++ number ∷ []) (rw unifies (ap (λ (n : ℕ). numbers ++ n ∷ matching_numbers h next left.others) left.numbered ∙ sym (append_assoc numbers (number ∷ []) (matching_numbers h next left.others))))

  -- and one whose head doesn't
  pub one_passed : head_unifies h next left.first ≡ false → AreMatched keeps names d h next cs later numbers
  one_passed differs = behind_first numbers (rw differs refl)

-- ---- clauses that miss the term

-- a head that is never equal to it doesn't unify
missed : (h : Tree) (next : ℕ) (c : databases.Clause) → Misses h c → head_unifies h next c ≡ false
missed h next c miss = never_some (unifier_of h (renamed next c.head)) (unifier_of_none h (renamed next c.head) (miss (λ x. Variable (next + x)))) where
  never_some : {X : Type 0} (o : Option X) → o ≡ None → is_some o ≡ false
  never_some o none = ap is_some none

-- without them the numbers are the same
pub same_numbers : (h : Tree) (next : ℕ) {ds cs : List databases.Clause} → Skips h ds cs
    → matching_numbers h next ds ≡ matching_numbers h next cs
same_numbers h next no_clause = refl
same_numbers h next (tried_too {c = c} skips) =
    elim (cases_Bool (head_unifies h next c)) [
      | inl unifies ↦ rw unifies (ap (λ (ns : List ℕ). c.number ∷ ns) (same_numbers h next skips))
      | inr differs ↦ rw differs (same_numbers h next skips)
    ]
same_numbers h next (passed_over {c = c} miss skips) = rw (missed h next c miss) (same_numbers h next skips)

-- and the largest head is no larger
pub fewer_heads : {h : Tree} {ds cs : List databases.Clause} → Skips h ds cs → largest_head ds ≤ largest_head cs
fewer_heads no_clause = omega arith
fewer_heads (tried_too {c = c} {ds = ds} {cs = cs} skips) = (let less = fewer_heads skips in max_more (size c.head) (largest_head ds) (largest_head cs) less) where
  max_more : (k m n : ℕ) → m ≤ n → max k m ≤ max k n
  max_more k m n less = omega (arith, less)
fewer_heads (passed_over {c = c} {cs = cs} miss skips) = (let less = fewer_heads skips in omega (arith, less))
