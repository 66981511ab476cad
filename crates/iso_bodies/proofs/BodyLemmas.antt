-- Instructions of a body, one by one.
use Rattle.std.proofs.Common.{◌≡◌, ◌<◌, ℕ, zero, suc, List, [], ◌∷◌, length, get_or, subst, sym, arith}
use Rattle.iso_compile.specs.declared.control.Instruction.{Instruction}
use Rattle.iso_compile.specs.Control.{IsBehind, AreBehind}

-- what the compounds of all calls are, those of the one at a place are
pub behind_there : (low : ℕ) (body : List Instruction) (a : ℕ) (i : Instruction) → AreBehind low body → a < length body → i ≡ get_or body a i → IsBehind low i
behind_there low [] a i h inside is = absurd (omega (arith, inside))
behind_there low (j ∷ body) zero i h inside is = subst (IsBehind low) (sym is) h.0
behind_there low (j ∷ body) (suc a) i h inside is = behind_there low body a i h.1 (omega (arith, inside)) is
