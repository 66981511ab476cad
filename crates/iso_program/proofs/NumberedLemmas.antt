-- Clauses with numbers of their own.
use Rattle.std.proofs.Common.{◌≡◌, ◌≤◌, ◌+◌, ◌==◌, ℕ, List, [], ◌∷◌, ◌++◌, refl, sym, ap, ap₂, ◌∙◌, arith, Bool, false, ◌||◌}
use Rattle.std.specs.List.{filter, list_any}
use Rattle.std.proofs.lemmas.Bool.{ne_eqb}
use Rattle.iso_db.specs.Databases as db
use Rattle.iso_db.specs.Databases.{has_in}
use Rattle.iso_model.specs.Search.Databases as databases
use Rattle.iso_program.specs.declared.clauses.Clause.{Clause}
use Rattle.iso_program.specs.Programs.{AreClauses, no_clauses, more_clauses, AreNumbered}
use Rattle.iso_program.specs.Kept.{Keeping}

pub numbered_more : {X : Type 0} {a b : ℕ} (ks : List (db.Clause X)) → a ≤ b → AreNumbered a ks → AreNumbered b ks
numbered_more [] more h = tt
numbered_more (k ∷ ks) more h = (let less = h.0 in omega (arith, less, more), h.1, numbered_more ks more h.2)

-- none has the next number
none_next : {X : Type 0} (a : ℕ) (ks : List (db.Clause X)) → AreNumbered a ks → has_in ks a ≡ false
none_next a [] h = refl
none_next a (k ∷ ks) h = grind (arith, none_next a ks h.2)

pub numbered_front : {X : Type 0} (a : ℕ) (k : db.Clause X) (ks : List (db.Clause X)) → k.number ≡ a → AreNumbered a ks
    → AreNumbered (a + 1) (k ∷ ks)
numbered_front a k ks is h = (omega (arith, is), ap (has_in ks) is ∙ none_next a ks h, numbered_more ks (omega arith) h)

has_more : {X : Type 0} (ks : List (db.Clause X)) (k : db.Clause X) (n : ℕ) → has_in ks n ≡ false
    → (k.number == n) ≡ false → has_in (ks ++ k ∷ []) n ≡ false
has_more [] k n none other = rw other refl
has_more (j ∷ ks) k n none other = grind (arith, has_more ks k n)

pub numbered_end : {X : Type 0} (a : ℕ) (k : db.Clause X) (ks : List (db.Clause X)) → k.number ≡ a → AreNumbered a ks
    → AreNumbered (a + 1) (ks ++ k ∷ [])
numbered_end a k [] is h = (omega (arith, is), refl, tt)
numbered_end a k (j ∷ ks) is h = (let less = h.0 in (omega (arith, less), has_more ks k j.number h.1 (ne_eqb k.number j.number (λ e. omega (arith, less, e, is))), numbered_end a k ks is h.2))

-- ---- clauses are left out

less_has : {X : Type 0} (keep : db.Clause X → Bool) (ks : List (db.Clause X)) (n : ℕ) → has_in ks n ≡ false
    → has_in (filter keep ks) n ≡ false
less_has keep [] n none = refl
less_has keep (k ∷ ks) n none = grind (arith, less_has keep ks n)

pub numbered_less : {X : Type 0} (a : ℕ) (keep : db.Clause X → Bool) (ks : List (db.Clause X)) → AreNumbered a ks
    → AreNumbered a (filter keep ks)
numbered_less a keep [] h = tt
numbered_less a keep (k ∷ ks) h = grind (arith, less_has keep ks k.number h.1, numbered_less a keep ks h.2)

-- those whose numbers pass, on both sides
pub clauses_less : {C : Type 0} {keeps : Keeping C} {names : List (List ℕ)} (keep : ℕ
    → Bool) {ks : List (db.Clause (Clause C))} {cs : List databases.Clause} → AreClauses keeps names ks cs
    → AreClauses keeps names (filter (λ k. keep k.number) ks) (filter (λ c. keep c.number) cs)
clauses_less keep no_clauses = no_clauses
clauses_less keep (more_clauses number is others) = grind (arith, number, clauses_less keep others, more_clauses number is (clauses_less keep others))

-- the same numbers are there
pub has_same : {C : Type 0} {keeps : Keeping C} {names : List (List ℕ)}
    (n : ℕ) {ks : List (db.Clause (Clause C))} {cs : List databases.Clause} → AreClauses keeps names ks cs
    → has_in ks n ≡ list_any (λ c. c.number == n) cs
has_same n no_clauses = refl
has_same n (more_clauses {k = k} {c = c} number is others) = ap₂ (λ x y. (x == n) || y) (sym number) (has_same n others)
