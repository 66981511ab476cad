-- Arithmetic of short integers.
use Rattle.std.proofs.Common.{◌≡◌, ◌<◌, ◌≤◌, ℕ, ℤ, pos, negsuc, zero, suc, List, [], ◌∷◌, length, get_or, drop, Bool, Option, Some, None, Ok, sym, ap, subst, ◌∙◌, arith}
use Rattle.std.specs.Prelude.{FitsSigned, IfSome, Result}
use Rattle.std.specs.List.{All, AllZip}
use Rattle.std.specs.Option.{SomeIff}
use Rattle.std.specs.Int.{w64, w128}
use Rattle.std.proofs.lemmas.List.Elements.{All-head, All-tail}
use Rattle.std.proofs.lemmas.Option.{get_or_from_slice_get}
use Rattle.iso_model.specs.Terms.Trees.{Tree}
use Rattle.iso_model.specs.Terms.Substitutions.{Subst}
use Rattle.iso_model.specs.Search.Arithmetic.{Value, in_range}
use Rattle.iso_model.specs.Search.Library.{compares, tested}
use Rattle.iso_model.specs.declared.kinds.Comparison.{Comparison}
use Rattle.iso_arith.specs.declared.operations.Binary.{Binary}
use Rattle.iso_arith.specs.Operations.{does_binary}
use Rattle.iso_arith.proofs.RangeLemmas.{in_range_yes}
use Rattle.iso_compile.specs.Evaluations.{with_two}
use Rattle.iso_compile.specs.Expressions as expressions
use Rattle.iso_compile.specs.Expressions.{done, on_value}
use Rattle.iso_code.specs.declared.operands.Operand.{Operand}
use Rattle.iso_instructions.specs.declared.instructions.Step.{Step}
use Rattle.iso_instructions.specs.declared.instructions.Step.TheVariants as step
use Rattle.iso_instructions.specs.Steps.{IsStep, IsStepThere, IsThere}
use Rattle.iso_evaluation.specs.Running.{AreValueAndOperation, HoldsOfTwo, operand_value}
use Rattle.iso_evaluation.proofs.StepLemmas.{and_then, step_first, two_step, zip_at, zip_end}
use Rattle.iso_evaluation.proofs.ValueLemmas.{value_then}

-- ---- values in range

wider : (z : ℤ) → FitsSigned w64 z → FitsSigned w128 z
wider (pos n) h = let b = h.sfits in record { sfits = omega arith }
wider (negsuc n) h = let b = h.sfits in record { sfits = omega arith }

pub short_in_range : (z : ℤ) → FitsSigned w64 z → in_range z ≡ Ok z
short_in_range z h = in_range_yes z (wider z h)

-- what an operation gives that is checked
pub checked_gives : (r : Option ℤ) (z : ℤ) → SomeIff r (FitsSigned w64 z) z → IfSome r (λ x. in_range z ≡ Ok x)
checked_gives None z h = tt
checked_gives (Some x) z h = short_in_range z h.0 ∙ ap (λ (n : ℤ). let v : Value = Ok n in v) (sym h.1)

-- ---- steps

module _ (names : List (List ℕ)) (next : ℕ) (s : Subst) where
  -- an operand with a value
  value_goes : (k : expressions.Step) (o : Operand) (ks : List expressions.Step) (zs : List ℤ) (x : ℤ) → IsStep names k (step.Value o)
      → operand_value names next s o ≡ Ok x → done next s (k ∷ ks) zs ≡ done next s ks (x ∷ zs)
  value_goes k o ks zs x h is = value_then names next s k o ks zs h ∙ ap (λ v. on_value v (λ z. done next s ks (z ∷ zs))) is

  -- an operation that has a value
  operation_goes : (k : expressions.Step) (b : Binary) (ks : List expressions.Step) (zs : List ℤ) (x y z : ℤ) → IsStep names k (step.Two b)
      → does_binary b x y ≡ Ok z → done next s (k ∷ ks) (y ∷ x ∷ zs) ≡ done next s ks (z ∷ zs)
  operation_goes k b ks zs x y z h is =
      step_first next s k ks (y ∷ x ∷ zs)
      ∙ ap (λ r. and_then r (done next s ks)) (two_step names next s k b (y ∷ x ∷ zs) h ∙ ap (λ v. on_value v (λ w. Ok (w ∷ zs))) is)

  module _ (ks : List expressions.Step) (steps : List Step) (zip : AllZip (IsStep names) ks steps) where
    -- the first operand
    pub first_goes : (i : ℕ) (o : Operand) (zs : List ℤ) (x : ℤ) → i < length steps → step.Value o ≡ get_or steps i (step.Value o)
        → operand_value names next s o ≡ Ok x → done next s (drop i ks) zs ≡ done next s (drop (suc i) ks) (x ∷ zs)
    first_goes i o zs x inside is value =
        let at = zip_at (IsStep names) ks steps i (step.Value o) zip inside is in
        ap (λ js. done next s js zs) at.1 ∙ value_goes at.0 o (drop (suc i) ks) zs x at.2 value

    -- an operation on it and another one
    pub both_go : (i : ℕ) (o : Operand) (b : Binary) (zs : List ℤ) (x y z : ℤ) → AreValueAndOperation steps i o b
        → operand_value names next s o ≡ Ok y → does_binary b x y ≡ Ok z
        → done next s (drop i ks) (x ∷ zs) ≡ done next s (drop (suc (suc i)) ks) (z ∷ zs)
    both_go i o b zs x y z are value is =
        let at = zip_at (IsStep names) ks steps (suc i) (step.Two b) zip are.0 (sym (get_or_from_slice_get steps (suc i) (step.Two b) (step.Two b) are.2)) in
        first_goes i o (x ∷ zs) y (omega (arith, are.0)) (sym (get_or_from_slice_get steps i (step.Value o) (step.Value o) are.1)) value
        ∙ ap (λ js. done next s js (y ∷ x ∷ zs)) at.1
        ∙ operation_goes at.0 b (drop (suc (suc i)) ks) zs x y z at.2 is

    -- behind all steps
    pub all_done : (i : ℕ) (zs : List ℤ) → length steps ≤ i → done next s (drop i ks) zs ≡ Ok zs
    all_done i zs past = ap (λ js. done next s js zs) (zip_end (IsStep names) ks steps i zip past)

-- what holds of each step holds of that at a place
all_at : {X : Type 0} (P : X → Type 0) (xs : List X) (i : ℕ) (x : X) → All P xs → i < length xs → x ≡ get_or xs i x → P x
all_at P [] i x h inside is = absurd (omega (arith, inside))
all_at P (y ∷ ys) zero x h inside is = subst P (sym is) (All-head P y ys h)
all_at P (y ∷ ys) (suc i) x h inside is = all_at P ys i x (All-tail P y ys h) (omega (arith, inside)) is

-- the operand of an operation is there
pub operand_there : (many count : ℕ) (steps : List Step) (i : ℕ) (o : Operand) (b : Binary) → All (IsStepThere many count) steps
    → AreValueAndOperation steps i o b → IsThere many count o
operand_there many count steps i o b all are =
    all_at (IsStepThere many count) steps i (step.Value o) all (omega (arith, are.0)) (sym (get_or_from_slice_get steps i (step.Value o) (step.Value o) are.1))

-- what four steps speak of is there
pub four_there : (many count : ℕ) (steps : List Step) (a b c d : Step) → steps ≡ a ∷ b ∷ c ∷ d ∷ [] → All (IsStepThere many count) steps
    → IsStepThere many count a × IsStepThere many count b × IsStepThere many count c × IsStepThere many count d
four_there many count steps a b c d is h =
    let P = IsStepThere many count in
    let all = subst (All P) is h in
    let behind = All-tail P a (b ∷ c ∷ d ∷ []) all in
    let last = All-tail P b (c ∷ d ∷ []) behind in
    (All-head P a (b ∷ c ∷ d ∷ []) all, All-head P b (c ∷ d ∷ []) behind, All-head P c (d ∷ []) last, All-head P d [] (All-tail P c (d ∷ []) last))

-- ---- a comparison

-- it is one of the two values that were left
pub shorts_hold : (names : List (List ℕ)) (c : Comparison) (outcome : Result (List ℤ) Tree) (x y : ℤ) (answer : Bool) → outcome ≡ Ok (y ∷ x ∷ [])
    → answer ≡ compares c x y → HoldsOfTwo names c (Ok answer) outcome
shorts_hold names c outcome x y answer left is k = ap (λ o. with_two o k (λ a b. tested (compares c a b))) left ∙ ap tested (sym is)
