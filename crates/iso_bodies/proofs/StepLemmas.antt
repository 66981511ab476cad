-- Loaded steps are those of the table, and all that they name is there.
use Rattle.std.proofs.Common.{◌<◌, ℕ, List, [], ◌∷◌, length, map, None, Some, Option, MatchOption, arith}
use Rattle.std.specs.List.{All, AllZip}
use Rattle.std.specs.String.{string_bytes}
use Rattle.std.proofs.lemmas.List.Elements.{All-nil, All-cons, All-head, All-tail}
use Rattle.std.proofs.lemmas.Option.{slice_get_within}
use Rattle.iso_model.specs.Search.Arithmetic.{among, operations_of_one, operations_of_two}
use Rattle.iso_compile.specs.Expressions.{step_of, step_parts}
use Rattle.iso_compile.specs.declared.expressions.Step as compiled_step
use Rattle.iso_compile.specs.declared.expressions.Step.TheVariants as compiled
use Rattle.iso_compile.specs.declared.instructions.Part.{Part}
use Rattle.iso_compile.specs.declared.instructions.Part.TheVariants as part
use Rattle.iso_code.specs.declared.operands.Operand.{Operand}
use Rattle.iso_code.specs.Loading.{IsBelow, IsLoadedPart}
use Rattle.iso_code.proofs.LoadedLemmas.{body_part_same}
use Rattle.iso_instructions.specs.declared.instructions.Step.{Step}
use Rattle.iso_instructions.specs.Steps.{IsUnknown, IsStep, IsThere, IsStepThere}
use Rattle.iso_bodies.specs.Steps.{IsLoadedStep}

module _ (names : List (List ℕ)) where
  -- a loaded step is that of the table
  pub step_is : (k : compiled_step.Step) (s : Step) → IsLoadedStep names k s → IsStep names (step_of k) s
  step_is (compiled.Value p) s h = (h.0, h.1, body_part_same names 0 p h.0 h.2)
  step_is (compiled.One f) s h = h
  step_is (compiled.Two f) s h = h

  pub steps_are : (ks : List compiled_step.Step) (ss : List Step) → AllZip (IsLoadedStep names) ks ss → AllZip (IsStep names) (map step_of ks) ss
  steps_are [] [] h = tt
  steps_are [] (s ∷ ss) h = absurd h
  steps_are (k ∷ ks) [] h = absurd h
  steps_are (k ∷ ks) (s ∷ ss) h = (step_is k s h.0, steps_are ks ss h.1)

  module _ (count : ℕ) where
    -- what a loaded part of a body names is there
    pub part_there : (p : Part) (o : Operand) → IsLoadedPart names 0 p o → IsBelow count p → IsThere (length names) count o
    part_there (part.New x place) o h below = rw h below
    part_there (part.Old x place) o h below = rw h below
    part_there (part.Void x) o h below = rw h below
    part_there (part.Integer z) o h below = rw h tt
    part_there (part.Atom a) o h below = rw h.1 (slice_get_within names h.0 (string_bytes a) h.2)
    part_there (part.Inner r) o h below = rw h.1 tt

    unknown_there : (f : List ℕ) (many : ℕ) (s : Step) → many < 256 → IsUnknown names f many s → IsStepThere (length names) count s
    unknown_there f many s few h = rw h.1 (slice_get_within names h.0 f h.2, few)

    -- an operation names nothing
    operation_there : {A : Type 0} (found : Option A) (f : List ℕ) (many : ℕ) (s : Step) (Does : A → Type 0) → many < 256 → ((does : A) → Does does → IsStepThere (length names) count s)
        → MatchOption found (IsUnknown names f many s) Does → IsStepThere (length names) count s
    operation_there None f many s Does few known h = unknown_there f many s few h
    operation_there (Some does) f many s Does few known h = known does h

    -- all that a loaded step names is there
    step_there : (k : compiled_step.Step) (s : Step) → IsLoadedStep names k s → All (IsBelow count) (step_parts (k ∷ [])) → IsStepThere (length names) count s
    step_there (compiled.Value p) s h below = rw h.1 (part_there p h.0 h.2 (All-head (IsBelow count) p [] below))
    step_there (compiled.One f) s h below = operation_there (among operations_of_one (string_bytes f)) (string_bytes f) 1 s _ (omega arith) (λ does d. rw d.1 tt) h
    step_there (compiled.Two f) s h below = operation_there (among operations_of_two (string_bytes f)) (string_bytes f) 2 s _ (omega arith) (λ does d. rw d.1 tt) h

    first_below : (k : compiled_step.Step) (ks : List compiled_step.Step) → All (IsBelow count) (step_parts (k ∷ ks)) → All (IsBelow count) (step_parts (k ∷ []))
    first_below (compiled.Value p) ks h = All-cons (IsBelow count) p [] (All-head (IsBelow count) p (step_parts ks) h) (All-nil (IsBelow count))
    first_below (compiled.One f) ks h = All-nil (IsBelow count)
    first_below (compiled.Two f) ks h = All-nil (IsBelow count)

    rest_below : (k : compiled_step.Step) (ks : List compiled_step.Step) → All (IsBelow count) (step_parts (k ∷ ks)) → All (IsBelow count) (step_parts ks)
    rest_below (compiled.Value p) ks h = All-tail (IsBelow count) p (step_parts ks) h
    rest_below (compiled.One f) ks h = h
    rest_below (compiled.Two f) ks h = h

    -- So it is with all steps, where their variables are below this count.
    pub steps_there : (ks : List compiled_step.Step) (ss : List Step) → AllZip (IsLoadedStep names) ks ss → All (IsBelow count) (step_parts ks) → All (IsStepThere (length names) count) ss
    steps_there [] [] h below = All-nil (IsStepThere (length names) count)
    steps_there [] (s ∷ ss) h below = absurd h
    steps_there (k ∷ ks) [] h below = absurd h
    steps_there (k ∷ ks) (s ∷ ss) h below =
        All-cons (IsStepThere (length names) count) s ss (step_there k s h.0 (first_below k ks below)) (steps_there ks ss h.1 (rest_below k ks below))
