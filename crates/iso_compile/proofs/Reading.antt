-- What reading the arguments of a compound asks for.
use Rattle.std.specs.Prelude.{ℕ, ◌+◌, List, [], ◌∷◌, ◌++◌}
use Rattle.iso_model.specs.Terms.Trees.{Tree, Apply, More}
use Rattle.iso_model.specs.Terms.Copies.{renamed}
use Rattle.iso_compile.specs.Table.{Registers, assign}
use Rattle.iso_compile.specs.TermCode.{tops}
use Rattle.iso_compile.proofs.Solving.{Pair}

abbrev pub pair : Tree → Tree → Pair
pair a b = record { left = a; right = b }

-- the register has the term's partner where it is a compound
abbrev pub given_one : ℕ → Tree → Tree → Registers → Registers
given_one r w (Apply f ts) rs = assign rs r w
given_one r w t rs = rs

-- the registers behind the reading of these arguments for these terms
abbrev pub given : ℕ → Tree → Tree → Registers → Registers
given r (More w ws) (More t ts) rs = given (r + tops t) ws ts (given_one r w t rs)
given r ws ts rs = rs

module _ (next : ℕ) where
  abbrev pub direct_one : Tree → Tree → List Pair
  direct_one w (Apply f ts) = []
  direct_one w t = pair w (renamed next t) ∷ []

  -- what is unified while they are read: all but the compounds
  abbrev pub direct : Tree → Tree → List Pair
  direct (More w ws) (More t ts) = direct_one w t ++ direct ws ts
  direct ws ts = []

  abbrev pub inner_one : Tree → Tree → List Pair
  inner_one w (Apply f ts) = pair w (renamed next (Apply f ts)) ∷ []
  inner_one w t = []

  -- the compounds, with their partners
  abbrev pub inners : Tree → Tree → List Pair
  inners (More w ws) (More t ts) = inner_one w t ++ inners ws ts
  inners ws ts = []

  -- the compounds, with what the registers from r on have
  abbrev pub pairs : Registers → ℕ → Tree → List Pair
  pairs rs r (Apply f ts) = pair (rs r) (renamed next (Apply f ts)) ∷ []
  pairs rs r (More t ts) = pairs rs r t ++ pairs rs (r + tops t) ts
  pairs rs r t = []
