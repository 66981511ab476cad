-- What the blocks of compounds come to.
use Rattle.std.specs.Prelude.{◌≡◌, ℕ, ◌<◌, zero, List, Option, Some, None}
use Rattle.iso_model.specs.Terms.Substitutions.{Subst}
use Rattle.iso_compile.specs.Heads.{Good}
use Rattle.iso_compile.specs.Table.{Registers, Block, run}

-- It failed where there is no solution; else what is behind the blocks is run under the solution, with registers that
-- are the same below m.
abbrev pub Comes : {X : Type 0} → ℕ → ℕ → Registers → List Block → (Subst → Registers → Option X) → Option Subst → Option X → Type 0
Comes next m rs bs go None x = x ≡ None
Comes next m rs bs go (Some u) x = (us : Registers) × ((k : ℕ) → k < m → us k ≡ rs k) × Good u us × (x ≡ run next bs zero u us go)
