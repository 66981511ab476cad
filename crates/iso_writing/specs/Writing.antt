-- What making compounds comes to, by the table of instructions.
use Rattle.std.specs.Prelude.{◌≡◌, ◌+◌, ◌⊎◌, ℕ, List, ◌∷◌, map, Bool, true, false}
use Rattle.std.specs.List.{All}
use Rattle.std.specs.Option.{option_and_then}
use Rattle.iso_model.specs.Terms.Trees.{Tree}
use Rattle.iso_model.specs.Terms.Substitutions.{Subst}
use Rattle.iso_model.specs.Terms.Unification.{unify_under}
use Rattle.iso_store_core.specs.Presents.{Present, KeepsWords, KeepsNumbers}
use Rattle.iso_compile.specs.Table.{Registers, filled, made}
use Rattle.iso_compile.specs.CodeLaws.{State, left}
use Rattle.iso_code.specs.Loaded.{block_at, all_operands, AreMarked, met_behind, IsMet, NewAreNext}
use Rattle.iso_code.specs.Standing.{Known, At, Steps, Setting, Stands, Ready, Ends, files}
use Rattle.iso_code.specs.declared.operands.Block.{Block}
use Rattle.iso_code.specs.declared.operands.Operand.{Operand}

-- Words came, and no binding changed, and no number was used.
pub record Adds {W : Type 0} (p q : Present W) : Type 0 where
  pub words : KeepsWords p q
  pub substitution : q.substitution ≡ p.substitution
  pub numbers : KeepsNumbers p q

-- Words came, and no binding changed; variables may have come, but none of those reserved hereafter.
pub record Widens {W : Type 0} (p q : Present W) : Type 0 where
  pub words : KeepsWords p q
  pub substitution : q.substitution ≡ p.substitution
  pub next : q.next ≡ p.next

-- The blocks were made, the last one first, and their words are among these compounds.
abbrev pub MakesAll : {W : Type 0} → List (List ℕ) → List Block → Present W → Present W → List W → List W → List W → Type 0
MakesAll names bs p q environment compounds compounds' =
    (own by : Subst) (next low : ℕ) (met : ℕ → Bool) (rs : Registers) → Known p own by next low met environment compounds rs → All (IsMet met) (all_operands bs)
    → Known q own by next low met environment compounds' (filled next (map (block_at names low) bs) rs)

-- A number that is taken now was taken before, or is that of a variable that was met in between.
abbrev pub TakesMet : {W : Type 0} → Present W → Present W → ℕ → (ℕ → Bool) → (ℕ → Bool) → Type 0
TakesMet p q first met behind =
    (n : ℕ) → q.taken n ≡ true → (p.taken n ≡ true) ⊎ ((x : ℕ) × (n ≡ first + x) × (met x ≡ false) × (behind x ≡ true))

-- New variables came for these operands, and no others.
abbrev pub MakesVariables : {W : Type 0} → List Operand → ℕ → Present W → Present W → List W → List W → Type 0
MakesVariables {W} operands first p q environment environment' =
    (arguments compounds : List W) (t : Setting) (met : ℕ → Bool) (state : State) → Stands p (files environment arguments compounds) t met state → t.first ≡ first
    → AreMarked met operands
    → Stands q (files environment' arguments compounds) t (met_behind met operands) state × Steps p state.subst q state.subst
    × TakesMet p q first met (met_behind met operands)

-- The first block was met with an unbound variable, which is this term by the table; those behind it are made before it.
abbrev pub WritesBlock : {W : Type 0} → List (List ℕ) → Block → List Block → ℕ → Present W → Present W → W → List W → List W → List W → List W → Bool → Type 0
WritesBlock {W} names b bs first p q variable environment environment' compounds compounds' answer =
    (arguments : List W) (t : Setting) (met : ℕ → Bool) (state : State) (a : Tree) → Ready p (files environment arguments compounds) t met state → t.first ≡ first
    → At p state.subst variable a → AreMarked met (all_operands (b ∷ bs)) → NewAreNext met (met_behind met (all_operands (b ∷ bs)))
    → Ends p state.subst q (files environment' arguments compounds') t (met_behind met (all_operands (b ∷ bs))) answer
    (option_and_then (λ u. left u (filled first (map (block_at names t.low) bs) state.registers))
    (unify_under state.subst a (made first (filled first (map (block_at names t.low) bs) state.registers) (block_at names t.low b))))
