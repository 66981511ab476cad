-- Clauses: each has a number of its own, and what is kept of it.
use Rattle.std.specs.Prelude.{ℕ}

pub record Clause (C : Type 0) : Type 0 where
  pub number : ℕ
  pub value : C
