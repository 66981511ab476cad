-- Which procedures a table has, each with a number.
use Rattle.std.specs.Prelude.{◌≡◌, ℕ, Bool, ◌&&◌, ◌==◌, List, Option, option_map, is_some}
use Rattle.std.specs.Str.{bytes_eq}
use Rattle.std.specs.List.{list_any}
use Rattle.indexmap.specs.IndexMap.{IndexMap, get_by}
use Rattle.iso_model.specs.Search.Keys as model
use Rattle.iso_lint_core.specs.declared.keys.Key.{Key}
use Rattle.iso_lint_core.specs.KeyViews.{key_view}
use Rattle.iso_lint.specs.Findings.{Clause, last_of, previous_of}

-- whether two keys are the same, as the table compares them
abbrev pub key_eq : Key → Key → Bool
key_eq j k = bytes_eq j.name.now k.name.now && j.arity == k.arity

-- the number that the table has for a procedure
abbrev pub number_of : {S : Type 0} → IndexMap Key ℕ S → Key → Option ℕ
number_of table k = get_by (key_eq k) table

-- the table has of each procedure where its last clause begins
pub record StandsFor {S : Type 0} (table : IndexMap Key ℕ S) (seen : List Clause) : Type 0 where
  pub has : (k : Key) → number_of table k ≡ option_map (λ c. c.start) (last_of (key_view k) seen)

-- the table has these procedures
pub record Knows {S : Type 0} (table : IndexMap Key ℕ S) (known : List model.Key) : Type 0 where
  pub has : (k : Key) → is_some (number_of table k) ≡ list_any (λ j. model.same_key j (key_view k)) known

-- The table has the procedures of these clauses, with where the last one of each begins, and this is the procedure
-- of the last of all.
pub record AreSeen {S : Type 0} (table : IndexMap Key ℕ S) (previous : Option Key) (seen : List Clause) : Type 0 where
  pub stands : StandsFor table seen
  pub last : option_map key_view previous ≡ previous_of seen
