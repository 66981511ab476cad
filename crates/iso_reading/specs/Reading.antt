-- What reading arguments against operands comes to, by the table of instructions.
use Rattle.std.specs.Prelude.{◌≡◌, ℕ, List, [], ◌∷◌, length, map, Bool, true}
use Rattle.iso_model.specs.Terms.Trees.{Tree, Apply, End, More, count}
use Rattle.iso_model.specs.Terms.Sorts.{is_row}
use Rattle.iso_store_core.specs.Presents.{Present}
use Rattle.iso_compile.specs.Table.{read}
use Rattle.iso_compile.specs.CodeLaws.{State, left}
use Rattle.iso_code.specs.declared.operands.Operand.{Operand}
use Rattle.iso_code.specs.Loaded.{part_at, IsMarked, AreMarked, met_after, met_behind}
use Rattle.iso_code.specs.Standing.{At, Files, Setting, Ready, Ends}
use Rattle.iso_code.specs.Standing.{files}

-- There is a state of the table for which these stand, and by which the marks are right.
pub record StandsReady {W : Type 0} (p : Present W) (environment arguments compounds : List W) (operands : List Operand) : Type 0 where
  pub setting : Setting
  pub met : ℕ → Bool
  pub state : State
  pub ready : Ready p (files environment arguments compounds) setting met state
  pub marked : AreMarked met operands

-- The argument was read against the operand as the table says.
abbrev pub ReadsOne : {W : Type 0} → List (List ℕ) → Operand → Present W → Present W → W → List W → List W → List W → List W → Bool → Type 0
ReadsOne {W} names operand p q argument environment environment' compounds compounds' answer =
    (arguments : List W) (t : Setting) (met : ℕ → Bool) (state : State) (a : Tree) → Ready p (files environment arguments compounds) t met state
    → At p state.subst argument a → IsMarked met operand
    → Ends p state.subst q (files environment' arguments compounds') t (met_after met operand) answer (read t.first (part_at names t.low operand ∷ []) (More a End) state.subst state.registers left)

-- Before the arguments of a compound are read: what the store and the lists stand for, and the word.
pub record Begins {W : Type 0} (p : Present W) (f : Files W) (t : Setting) (met : ℕ → Bool) (state : State) (compound : W) (operands : List Operand) (g : List ℕ) (ws : Tree) : Type 0 where
  pub ready : Ready p f t met state
  pub at : At p state.subst compound (Apply g ws)
  pub row : is_row ws ≡ true
  pub many : count ws ≡ length operands
  pub marked : AreMarked met operands

-- The arguments were read against the operands as the table says.
abbrev pub Reads : {W : Type 0} → List (List ℕ) → List Operand → Present W → Present W → W → List W → List W → List W → List W → Bool → Type 0
Reads {W} names operands p q compound environment environment' compounds compounds' answer =
    (arguments : List W) (t : Setting) (met : ℕ → Bool) (state : State) (g : List ℕ) (ws : Tree) → Begins p (files environment arguments compounds) t met state compound operands g ws
    → Ends p state.subst q (files environment' arguments compounds') t (met_behind met operands) answer (read t.first (map (part_at names t.low) operands) ws state.subst state.registers left)
