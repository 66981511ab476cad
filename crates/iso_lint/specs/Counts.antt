-- Which variables occur, and which of them more than once.
use Rattle.std.specs.Prelude.{◌≡◌, ℕ, zero, suc, Bool, true, false, List, Option, Some, None}
use Rattle.std.specs.Borrow.{Bor}
use Rattle.std.specs.Ordering.{nat_cmp}
use Rattle.std.specs.Cmp.Lexicographic.{slice_cmp}
use Rattle.std.specs.BTreeMap.{get_by}
use Rattle.std.specs.declared.collections.BTreeMap.{BTreeMap}
use Rattle.std.specs.declared.alloc.Global.{Global}
use Rattle.iso_model.specs.Syntax.Token.{Shown}
use Rattle.iso_lint.specs.Once.{occurrences}

abbrev pub is_positive : ℕ → Bool
is_positive zero = false
is_positive (suc n) = true

-- what is kept of a variable that occurs so often: whether it does again, if at all
abbrev pub again : ℕ → Option Bool
again zero = None
again (suc n) = Some (is_positive n)

-- this is kept of each variable of these tokens
pub record AreCounted (counts : BTreeMap (Bor (List ℕ)) Bool Global) (ts : List Shown) : Type 0 where
  pub kept : (name : List ℕ) → get_by (λ k. slice_cmp nat_cmp name k.now) counts ≡ again (occurrences name ts)
