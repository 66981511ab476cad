-- What calls leave as it was and how many cells they take, one behind the other.
use Rattle.std.proofs.Common.{◌≡◌, ◌∷◌, [], ◌++◌, ◌+◌, ◌≤◌, ℕ, ℤ, List, length, length-append, Bool, true, false, if◌then◌else◌, arith, refl, sym, ap, subst, ◌∙◌}
use Rattle.iso_atoms.specs.Texts.{KeepsTexts}
use Rattle.iso_model.specs.Terms.Trees.{Tree, Variable, Integer, Name, Apply, End, More}
use Rattle.iso_model.specs.Terms.Integers.{is_short}
use Rattle.iso_model.specs.Terms.Sizes.{size, integer_size}
use Rattle.iso_model.specs.Terms.Variables.{is_in, distinct_from, variable_count}
use Rattle.iso_store_core.specs.declared.stores.Store.{Ghosts}
use Rattle.iso_store_core.specs.Copying.{wide_cells}
use Rattle.iso_store_core.specs.Presents.{Present, Grows}
use Rattle.iso_store_core.specs.Retaining.{Retains, RetainsAll, Takes, CountsCells}

added : (seen : List ℕ) (n : ℕ) (b : Bool) → length (if b then seen else (seen ++ n ∷ [])) ≤ length seen + 1
added seen n true = omega arith
added seen n false = omega (arith, length-append seen (n ∷ []))

distinct_within : (seen : List ℕ) (t : Tree) → length (distinct_from seen t) ≤ length seen + size t
distinct_within seen (Variable n) = let one = added seen n (is_in n seen) in omega arith
distinct_within seen (Integer z) = omega arith
distinct_within seen (Name a) = omega arith
distinct_within seen (Apply f ts) = omega (arith, distinct_within seen ts)
distinct_within seen End = omega arith
distinct_within seen (More t ts) = omega (arith, distinct_within seen t, distinct_within (distinct_from seen t) ts)

-- a term has no more variables than parts
pub variables_within : (t : Tree) → variable_count t ≤ size t
variables_within t = let whole = distinct_within [] t in omega arith

-- an integer counts more than it takes
pub wide-within : (z : ℤ) → 1 + wide_cells z ≤ integer_size z
wide-within z = elim (is_short z) as (λ b. 1 + (if b then 0 else 1) ≤ (if b then 1 else 4)) [
  | true ↦ omega arith
  | false ↦ omega arith
]

-- nothing grows where nothing changed
pub grows_same : {W : Type 0} {p q : Present W} (a b : ℕ) → q ≡ p → Grows p q a b
grows_same {W} {p} a b same = subst (λ q. Grows p q a b) (sym same) (record {
  cells = omega arith;
  variables = omega arith;
  keeps = omega arith;
  keeps_variables = omega arith;
  limit = refl;
  within = λ h. h;
})

-- a first growth, and another one behind it
pub grows_on : {W : Type 0} {p m q : Present W} {a b c d : ℕ} → Grows p m a b → Grows m q c d → Grows p q (a + c) (b + d)
grows_on one other = record {
  cells = omega (arith, one.cells, other.cells);
  variables = omega (arith, one.variables, other.variables);
  keeps = omega (arith, one.keeps, other.keeps);
  keeps_variables = omega (arith, one.keeps_variables, other.keeps_variables);
  limit = other.limit ∙ one.limit;
  within = λ h. other.within (one.within h);
}

-- it is at most a larger one
pub grows_most : {W : Type 0} {p q : Present W} {a b : ℕ} (c d : ℕ) → a ≤ c → b ≤ d → Grows p q a b → Grows p q c d
grows_most c d most new one = record {
  cells = omega (arith, most, one.cells);
  variables = omega (arith, new, one.variables);
  keeps = one.keeps;
  keeps_variables = one.keeps_variables;
  limit = one.limit;
  within = one.within;
}

module _ {S W M : Type 0} {g : Ghosts S W M} where
  pub retains_on : {a b c : S} → Retains g a b → Retains g b c → Retains g a c
  retains_on one other = record { names = λ place text h. other.names place text (one.names place text h); marks = λ m p h. other.marks m p (one.marks m p h) }

  pub retains_all_on : {a b c : S} → RetainsAll g a b → RetainsAll g b c → RetainsAll g a c
  retains_all_on one other = record { names = other.names ∙ one.names; marks = λ m p h. other.marks m p (one.marks m p h) }

  -- where no atom came, atoms keep their names
  pub retains_less : {a b : S} → RetainsAll g a b → Retains g a b
  retains_less {a} {b} one = record { names = subst (KeepsTexts (g.names a)) (sym one.names) (λ place text h. h); marks = one.marks }

  -- a call, and another one behind it
  pub takes_on : {a b c : S} {m n : ℕ} → Takes g a b m → Takes g b c n → Takes g a c (m + n)
  takes_on one other = record { grows = λ counts. grows_on (one.grows counts) (other.grows counts) }

  -- it takes at most a larger number
  pub takes_most : {a b : S} {m : ℕ} (n : ℕ) → m ≤ n → Takes g a b m → Takes g a b n
  takes_most n most one = record { grows = λ counts. grows_most n n most most (one.grows counts) }

  -- a call after which the store is as it was
  pub takes_same : {a b : S} (n : ℕ) → g.present b ≡ g.present a → Takes g a b n
  takes_same n same = record { grows = λ counts. grows_same n n same }

  -- a call behind one after which the store is as it was
  pub takes_after : {a b c : S} {n : ℕ} → g.present b ≡ g.present a → Takes g b c n → Takes g a c n
  takes_after {c = c} {n = n} same one = record { grows = λ counts. subst (λ p. Grows p (g.present c) n n) same (one.grows counts) }

  -- a call that takes no cell
  pub takes_none : {a b : S} (n : ℕ) → Grows (g.present a) (g.present b) 0 0 → Takes g a b n
  takes_none n one = record { grows = λ counts. grows_most n n (omega arith) (omega arith) one }

  -- a call before one that takes no cell
  pub takes_then : {a b c : S} {n : ℕ} → Takes g a b n → Grows (g.present b) (g.present c) 0 0 → Takes g a c n
  takes_then {n = n} one other = takes_most n (omega arith) (takes_on one (takes_none 0 other))

  -- a call that makes an atom, or an integer of 64 bits
  pub takes_atomic : {a b : S} (n : ℕ) → Grows (g.present a) (g.present b) g.atomic_cells 0 → Takes g a b n
  takes_atomic n one = record { grows = λ counts. grows_most n n (let none = counts.atomic in omega arith) (omega arith) one }

  -- a call that makes an integer
  pub takes_integer : {a b : S} (z : ℤ) (n : ℕ) → wide_cells z ≤ n → Grows (g.present a) (g.present b) (g.atomic_cells + wide_cells z) 0 → Takes g a b n
  takes_integer z n most one = record { grows = λ counts. grows_most n n (let none = counts.atomic in omega arith) (omega arith) one }

  -- a call that makes so many cells, and of them so many variables
  pub takes_some : {a b : S} {m k : ℕ} (n : ℕ) → m ≤ n → k ≤ n → Grows (g.present a) (g.present b) m k → Takes g a b n
  takes_some n most new one = record { grows = λ counts. grows_most n n most new one }

  -- a call that makes the copy of a term
  pub takes_copy : {a b : S} (n : ℕ) (t : Tree) → size t ≤ n → Grows (g.present a) (g.present b) (g.built_cells t) (variable_count t) → Takes g a b n
  takes_copy n t most one = record { grows = λ counts. grows_most n n (let built = counts.built t in omega arith) (let few = variables_within t in omega arith) one }
