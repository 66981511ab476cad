-- Loaded code stays what it is where names come.
use Rattle.std.proofs.Common.{◌+◌, ◌≤◌, ℕ, max, List, [], ◌∷◌, None, Some, Option, MatchOption, arith}
use Rattle.std.specs.List.{All, AllZip}
use Rattle.std.specs.String.{string_bytes}
use Rattle.std.proofs.lemmas.List.Elements.{All-nil, All-cons, All-weaker}
use Rattle.iso_atoms.specs.Texts.{KeepsTexts}
use Rattle.iso_model.specs.Terms.Trees.{Tree}
use Rattle.iso_model.specs.Search.Arithmetic.{among, operations_of_one, operations_of_two}
use Rattle.iso_compile.specs.declared.clauses.Code as compiled_code
use Rattle.iso_compile.specs.declared.goals.Arguments as compiled_arguments
use Rattle.iso_compile.specs.declared.goals.Call as called
use Rattle.iso_compile.specs.declared.control.Instruction as compiled_instruction
use Rattle.iso_compile.specs.declared.control.Instruction.TheVariants as control
use Rattle.iso_compile.specs.declared.expressions.Step as compiled_step
use Rattle.iso_compile.specs.declared.expressions.Step.TheVariants as compiled
use Rattle.iso_compile.specs.declared.instructions.Block as compiled_block
use Rattle.iso_compile.specs.declared.instructions.Get as compiled_get
use Rattle.iso_compile.specs.declared.instructions.Part.{Part}
use Rattle.iso_compile.specs.declared.instructions.Part.TheVariants as part
use Rattle.iso_compile.specs.Emitted.{all_parts}
use Rattle.iso_code.specs.declared.operands.Arguments.{Arguments}
use Rattle.iso_code.specs.declared.operands.Head.{Head}
use Rattle.iso_code.specs.Loading.{IsBelow, IsLoadedArguments, IsLoadedHead, parts_met}
use Rattle.iso_code.proofs.LoadLemmas.{zip_weaker, body_part_kept}
use Rattle.iso_code.proofs.KeptLemmas.{head_kept, arguments_kept}
use Rattle.iso_instructions.specs.declared.instructions.Code.{Code}
use Rattle.iso_instructions.specs.declared.instructions.Goal.{Goal}
use Rattle.iso_instructions.specs.declared.instructions.Instruction.{Instruction}
use Rattle.iso_instructions.specs.declared.instructions.Step.{Step}
use Rattle.iso_instructions.specs.Steps.{IsUnknown}
use Rattle.iso_bodies.specs.Steps.{IsLoadedStep}
use Rattle.iso_bodies.specs.Instructions.{IsLoadedGoal, IsLoadedInstruction}
use Rattle.iso_bodies.specs.Clauses.{IsLoadedCode, IsNameOf}

-- ---- some count is above all variables

-- one more than the number of the part's variable; 0 where it is none
count_of : Part → ℕ
count_of (part.New x place) = x + 1
count_of (part.Old x place) = x + 1
count_of (part.Void x) = x + 1
count_of p = 0

below_count : (p : Part) (count : ℕ) → count_of p ≤ count → IsBelow count p
unfolding count_of
below_count (part.New x place) count h = omega (arith, h)
below_count (part.Old x place) count h = omega (arith, h)
below_count (part.Void x) count h = omega (arith, h)
below_count (part.Integer z) count h = tt
below_count (part.Atom a) count h = tt
below_count (part.Inner r) count h = tt

below_more : (count more : ℕ) → count ≤ more → (p : Part) → IsBelow count p → IsBelow more p
below_more count more h (part.New x place) below = omega (arith, h, below)
below_more count more h (part.Old x place) below = omega (arith, h, below)
below_more count more h (part.Void x) below = omega (arith, h, below)
below_more count more h (part.Integer z) below = tt
below_more count more h (part.Atom a) below = tt
below_more count more h (part.Inner r) below = tt

pub all_below : (ps : List Part) → (count : ℕ) × All (IsBelow count) ps
all_below [] = (0, All-nil (IsBelow 0))
all_below (p ∷ ps) =
    let rest = all_below ps in
    let count = max (count_of p) rest.0 in
    (count, All-cons (IsBelow count) p ps (below_count p count (omega arith)) (All-weaker (IsBelow rest.0) (IsBelow count) (below_more rest.0 count (omega arith)) ps rest.1))

module _ (old new : List (List ℕ)) (keeps : KeepsTexts old new) where
  -- ---- steps

  unknown_kept : (f : List ℕ) (many : ℕ) (s : Step) → IsUnknown old f many s → IsUnknown new f many s
  unknown_kept f many s h = (h.0, h.1, keeps h.0 f h.2)

  -- where there is an operation, it is no matter of names
  operation_kept : {A : Type 0} (found : Option A) (f : List ℕ) (many : ℕ) (s : Step) (Does : A → Type 0) → MatchOption found (IsUnknown old f many s) Does → MatchOption found (IsUnknown new f many s) Does
  operation_kept None f many s Does h = unknown_kept f many s h
  operation_kept (Some does) f many s Does h = h

  pub step_kept : (k : compiled_step.Step) (s : Step) → IsLoadedStep old k s → IsLoadedStep new k s
  step_kept (compiled.Value p) s h = (h.0, h.1, body_part_kept old new keeps 0 p h.0 h.2)
  step_kept (compiled.One f) s h = operation_kept (among operations_of_one (string_bytes f)) (string_bytes f) 1 s _ h
  step_kept (compiled.Two f) s h = operation_kept (among operations_of_two (string_bytes f)) (string_bytes f) 2 s _ h

  pub steps_kept : (ks : List compiled_step.Step) (ss : List Step) → AllZip (IsLoadedStep old) ks ss → AllZip (IsLoadedStep new) ks ss
  steps_kept = zip_weaker (IsLoadedStep old) (IsLoadedStep new) step_kept

  -- ---- instructions

  pub arguments_stay : (low : ℕ) (c : compiled_arguments.Arguments) (a : Arguments) → IsLoadedArguments old low c a → IsLoadedArguments new low c a
  arguments_stay low c a h =
      let parts = all_below c.parts.items in
      let inner = all_below (all_parts c.blocks.items) in
      let count = max parts.0 inner.0 in
      arguments_kept old new keeps low count c a (All-weaker (IsBelow parts.0) (IsBelow count) (below_more parts.0 count (omega arith)) c.parts.items parts.1)
      (All-weaker (IsBelow inner.0) (IsBelow count) (below_more inner.0 count (omega arith)) (all_parts c.blocks.items) inner.1) h

  pub goal_kept : (low : ℕ) (c : called.Call) (g : Goal) → IsLoadedGoal old low c g → IsLoadedGoal new low c g
  goal_kept low c g h = record {
    name = keeps g.name (string_bytes c.name) h.name;
    arguments = λ above full. arguments_stay low c.arguments g.arguments (h.arguments above full);
  }

  pub instruction_kept : (low : ℕ) (c : compiled_instruction.Instruction) (i : Instruction) → IsLoadedInstruction old low c i → IsLoadedInstruction new low c i
  instruction_kept low (control.Call c) i h = (h.0, h.1, goal_kept low c h.0 h.2)
  instruction_kept low (control.Execute c) i h = (h.0, h.1, goal_kept low c h.0 h.2)
  instruction_kept low (control.Is p ks) i h = (h.0, h.1, h.2, body_part_kept old new keeps 0 p h.0 h.3, steps_kept ks.items h.1.items h.4)
  instruction_kept low (control.Compare c ks) i h = (h.0, h.1, steps_kept ks.items h.0.items h.2)
  instruction_kept low control.Proceed i h = h
  instruction_kept low (control.Cut m) i h = h
  instruction_kept low (control.GetLevel k) i h = h
  instruction_kept low (control.TryElse l) i h = h
  instruction_kept low (control.Jump l) i h = h

  pub body_kept : (low : ℕ) (cs : List compiled_instruction.Instruction) (is : List Instruction) → AllZip (IsLoadedInstruction old low) cs is → AllZip (IsLoadedInstruction new low) cs is
  body_kept low = zip_weaker (IsLoadedInstruction old low) (IsLoadedInstruction new low) (instruction_kept low)

  -- ---- clauses

  pub head_stays : (low arity : ℕ) (gs : List compiled_get.Get) (bs : List compiled_block.Block) (h : Head) → IsLoadedHead old low arity gs bs h → IsLoadedHead new low arity gs bs h
  head_stays low arity gs bs h was = let parts = all_below (parts_met gs bs) in head_kept old new keeps low arity parts.0 gs bs h parts.1 was

  -- The code of a clause that was loaded is so where names came since.
  pub code_kept : (low arity count : ℕ) (c : compiled_code.Code) (l : Code) → IsLoadedCode old low arity count c l → IsLoadedCode new low arity count c l
  code_kept low arity count c l h = record {
    head = head_stays low arity c.gets.items c.blocks.items l.head h.head;
    variables = h.variables;
    fresh = h.fresh;
    body = body_kept low c.body.items l.body.items h.body;
  }

  -- the atom of a head's name is so where names came since
  pub name_kept : (name : ℕ) (head : Tree) → IsNameOf old name head → IsNameOf new name head
  name_kept name head h = record { text = h.text; named = keeps name h.text h.named; key = h.key }
