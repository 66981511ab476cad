-- What a clause does behind its head, as far as it matters whether it has a frame.
use Rattle.std.specs.Prelude.{List, [], ◌∷◌, Bool, true, false, not}
use Rattle.iso_instructions.specs.declared.instructions.Form.{Form}
use Rattle.iso_instructions.specs.declared.instructions.Form.TheVariants.{Fact, OneCall, Other}
use Rattle.iso_instructions.specs.declared.instructions.Instruction.{Instruction}
use Rattle.iso_instructions.specs.declared.instructions.Instruction.TheVariants.{Proceed, Execute}

-- one instruction alone
abbrev pub alone : Instruction → Form
alone Proceed = Fact
alone i = Other

-- the code of a body, its last instruction first
abbrev pub form_of : List Instruction → Form
form_of (i ∷ []) = alone i
form_of (i ∷ Execute g ∷ []) = OneCall
form_of code = Other

-- whether a clause of this form is a fact
abbrev pub is_fact : Form → Bool
is_fact Fact = true
is_fact form = false

-- whether its body is one goal of a procedure
abbrev pub is_one_call : Form → Bool
is_one_call OneCall = true
is_one_call form = false

-- whether it has a frame when it is entered, where its one goal may go without
abbrev pub makes_frame : Form → Bool → Bool
makes_frame Fact last = false
makes_frame OneCall last = not last
makes_frame Other last = true
