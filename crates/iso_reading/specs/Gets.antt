-- What meeting arguments with variables and constants comes to, by the table of instructions.
use Rattle.std.specs.Prelude.{ℕ, List, map, Bool}
use Rattle.iso_store_core.specs.Presents.{Present}
use Rattle.iso_compile.specs.Heads.{get_all}
use Rattle.iso_compile.specs.CodeLaws.{State, left}
use Rattle.iso_code.specs.declared.operands.Get.{Get}
use Rattle.iso_code.specs.Loaded.{get_at, operand_got, AreMarked, met_behind}
use Rattle.iso_code.specs.Standing.{files, Setting, Ready, Ends}

-- The gets were done as the table says.
abbrev pub MeetsGets : {W : Type 0} → List (List ℕ) → List Get → Present W → Present W → List W → List W → List W → List W → Bool → Type 0
MeetsGets {W} names gets p q environment environment' arguments compounds answer =
    (t : Setting) (met : ℕ → Bool) (state : State) → Ready p (files environment arguments compounds) t met state → AreMarked met (map operand_got gets)
    → Ends p state.subst q (files environment' arguments compounds) t (met_behind met (map operand_got gets)) answer (get_all t.first (map (get_at names t.low) gets) state.subst state.registers left)
