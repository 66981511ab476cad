use Rattle.std.proofs.Common.{◌≡◌, ◌∙◌, List, [], ◌∷◌, Some, length, refl, sym}
use Rattle.std.specs.List.{slice_get}
use Rattle.iso_instructions.specs.Forms.{form_of}
use Rattle.iso_instructions.specs.declared.instructions.Form.TheVariants.{OneCall}
use Rattle.iso_instructions.specs.declared.instructions.Goal as instruction
use Rattle.iso_instructions.specs.declared.instructions.Instruction.{Instruction}
use Rattle.iso_instructions.specs.declared.instructions.Instruction.TheVariants.{Execute, Proceed}
use Rattle.iso_machine.proofs.entering.is_one_call.Goals as goal

-- a body of this form is one call
calls_one : (code : List Instruction) → form_of code ≡ OneCall
    → (g : instruction.Goal) × (slice_get code 1 ≡ Some (Execute g)) × (length code ≡ 2)
calls_one [] is = absurd (cc)
calls_one (Proceed ∷ []) is = absurd (cc)
calls_one (i ∷ []) is = absurd (cc)
calls_one (i ∷ Execute g ∷ []) is = (g, refl, refl)
calls_one (i ∷ Execute g ∷ j ∷ code) is = absurd (cc)
calls_one (i ∷ j ∷ code) is = absurd (cc)

pub returns-in-OneCall-clause-alone : goal.returns-in-OneCall-clause-alone
returns-in-OneCall-clause-alone c = λ is.
    (let code = c.args.code.now in
    let one = calls_one code.body.items (sym code.formed ∙ c.in-OneCall.is) in
    record { goal = one.0; called = one.1; two = one.2 })
