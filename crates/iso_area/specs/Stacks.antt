-- What a contract sees of an `Area`: two stacks and how many values they may hold together.
use Rattle.std.specs.Prelude.{ℕ, List, refl}
use Rattle.std.specs.Coded.{Coded, code_by, coded×, coded_list, coded_ℕ}

-- Each list goes from the bottom of its stack to the top.
pub record Stacks (X : Type 0) : Type 0 where
  pub low : List X
  pub high : List X
  pub capacity : ℕ

module _ {X : Type 0} where
  abbrev pub stacks : List X → List X → ℕ → Stacks X
  stacks low high n = record { low = low; high = high; capacity = n }

  abbrev pub stacks_code : Coded X → Coded (Stacks X)
  stacks_code c = code_by (List X × (List X × ℕ)) (coded× (coded_list c) (coded× (coded_list c) coded_ℕ)) (λ s. (s.low, (s.high, s.capacity)))
      (λ p. stacks p.0 p.1.0 p.1.1) (λ _. refl)
