-- What steps leave: where no stack is needed for it, and from the values on the stack.
use Rattle.std.proofs.Common.{◌≡◌, ℕ, ℤ, List, [], ◌∷◌, length, reverse, Bool, false, Option, Some, None, Ok, Err, refl, sym, ap, subst, ◌∙◌}
use Rattle.std.specs.Prelude.{Result, IsErrAnd, IfErr, IfSome}
use Rattle.std.specs.List.{AllZip}
use Rattle.std.proofs.lemmas.List.{length-reverse}
use Rattle.iso_model.specs.Terms.Trees.{Tree}
use Rattle.iso_model.specs.Terms.Substitutions.{Subst}
use Rattle.iso_model.specs.Search.Arithmetic.{Value}
use Rattle.iso_model.specs.Search.Library.{compares, tested}
use Rattle.iso_model.specs.declared.kinds.Comparison.{Comparison}
use Rattle.iso_arith.specs.declared.faults.EvalFault.{EvalFault}
use Rattle.iso_arith.specs.declared.faults.EvalFault.TheVariants.{Refused}
use Rattle.iso_arith.specs.declared.faults.Refusal.{Refusal}
use Rattle.iso_arith.specs.declared.operations.Binary.{Binary}
use Rattle.iso_arith.specs.Faults.{IsFault, error_of}
use Rattle.iso_arith.specs.Operations.{does_binary}
use Rattle.iso_compile.specs.Evaluations.{with_two}
use Rattle.iso_compile.specs.Expressions as expressions
use Rattle.iso_compile.specs.Expressions.{done, on_value}
use Rattle.iso_code.specs.declared.operands.Operand.{Operand}
use Rattle.iso_instructions.specs.declared.instructions.Step.TheVariants as step
use Rattle.iso_instructions.specs.Steps.{IsStep}
use Rattle.iso_evaluation.specs.Running.{CanBeRaised, HoldsOfTwo, Leaves, LeavesOne, on_both, operand_value, values_of_both}
use Rattle.iso_evaluation.proofs.StepLemmas.{all_left, and_then, step_first, two_step, value_fails, value_first, value_step}
use Rattle.iso_evaluation.proofs.GoalLemmas.{other_than_two, two_values}

-- that an operation has no value can be raised
pub operation_can : {T : Type 0} (names : List (List ℕ)) (result : Result T EvalFault) (r : Refusal) → IsErrAnd result (λ e. e ≡ Refused r)
    → IfErr result (CanBeRaised names)
operation_can names (Ok t) r is = tt
operation_can names (Err e) r is = subst (CanBeRaised names) (sym is) (Err (error_of r), refl)

-- ---- what the steps come to

on_equal : (v : Value) (f g : ℤ → Result (List ℤ) Tree) → ((z : ℤ) → f z ≡ g z) → on_value v f ≡ on_value v g
on_equal (Ok z) f g same = same z
on_equal (Err error) f g same = refl

on_twice : (v w : Value) (does : ℤ → ℤ → Value) (f : ℤ → Result (List ℤ) Tree)
    → on_value v (λ x. on_value w (λ y. on_value (does x y) f)) ≡ on_value (on_both v w does) f
on_twice (Ok x) (Ok y) does f = refl
on_twice (Ok x) (Err error) does f = refl
on_twice (Err error) w does f = refl

module _ (names : List (List ℕ)) (next : ℕ) (s : Subst) where
  -- a value, and others behind it
  pub value_then : (k : expressions.Step) (o : Operand) (ks : List expressions.Step) (zs : List ℤ) → IsStep names k (step.Value o)
      → done next s (k ∷ ks) zs ≡ on_value (operand_value names next s o) (λ z. done next s ks (z ∷ zs))
  value_then k o ks zs h =
      step_first next s k ks zs ∙ ap (λ r. and_then r (done next s ks)) (value_step names next s k o zs h)
      ∙ sym (value_first next s (operand_value names next s o) ks zs)

  -- the values of two operands
  pub two_done : (ks : List expressions.Step) (l r : Operand) → AllZip (IsStep names) ks (step.Value l ∷ step.Value r ∷ [])
      → done next s ks [] ≡ values_of_both (operand_value names next s l) (operand_value names next s r)
  two_done [] l r h = absurd h
  two_done (j ∷ []) l r h = absurd h.1
  two_done (j ∷ k ∷ m ∷ ks) l r h = absurd h.1.1
  two_done (j ∷ k ∷ []) l r h =
      value_then j l (k ∷ []) [] h.0
      ∙ on_equal (operand_value names next s l) _ _ (λ x. value_then k r [] (x ∷ []) h.1.0)

  -- an operation on them
  pub operation_done : (ks : List expressions.Step) (l r : Operand) (b : Binary)
      → AllZip (IsStep names) ks (step.Value l ∷ step.Value r ∷ step.Two b ∷ [])
      → done next s ks [] ≡ on_value (on_both (operand_value names next s l) (operand_value names next s r) (does_binary b)) (λ z. Ok (z ∷ []))
  operation_done [] l r b h = absurd h
  operation_done (j ∷ []) l r b h = absurd h.1
  operation_done (j ∷ k ∷ []) l r b h = absurd h.1.1
  operation_done (j ∷ k ∷ m ∷ n ∷ ks) l r b h = absurd h.1.1.1
  operation_done (j ∷ k ∷ m ∷ []) l r b h =
      value_then j l (k ∷ m ∷ []) [] h.0
      ∙ on_equal (operand_value names next s l) _ _
      (λ x. value_then k r (m ∷ []) (x ∷ []) h.1.0
      ∙ on_equal (operand_value names next s r) _ _ (λ y. two_step names next s m b (y ∷ x ∷ []) h.1.1.0))
      ∙ on_twice (operand_value names next s l) (operand_value names next s r) (does_binary b) (λ z. Ok (z ∷ []))

  -- its value, where it has one
  pub operation_leaves : (ks : List expressions.Step) (l r : Operand) (b : Binary)
      → AllZip (IsStep names) ks (step.Value l ∷ step.Value r ∷ step.Two b ∷ []) → (found : Option ℤ)
      → IfSome found (λ z. on_both (operand_value names next s l) (operand_value names next s r) (does_binary b) ≡ Ok z)
      → IfSome found (λ z. done next s ks [] ≡ Ok (z ∷ []))
  operation_leaves ks l r b h None is = tt
  operation_leaves ks l r b h (Some z) is = operation_done ks l r b h ∙ ap (λ v. on_value v (λ y. Ok (y ∷ []))) is

  -- an operation on the values of two operands, and others behind it
  operation_then : (j k m : expressions.Step) (l r : Operand) (b : Binary) (ks : List expressions.Step) (zs : List ℤ)
      → IsStep names j (step.Value l) → IsStep names k (step.Value r) → IsStep names m (step.Two b)
      → done next s (j ∷ k ∷ m ∷ ks) zs
      ≡ on_value (on_both (operand_value names next s l) (operand_value names next s r) (does_binary b)) (λ z. done next s ks (z ∷ zs))
  operation_then j k m l r b ks zs first second third =
      value_then j l (k ∷ m ∷ ks) zs first
      ∙ on_equal (operand_value names next s l) _ _
      (λ x. value_then k r (m ∷ ks) (x ∷ zs) second
      ∙ on_equal (operand_value names next s r) _ _
      (λ y. step_first next s m ks (y ∷ x ∷ zs)
      ∙ ap (λ o. and_then o (done next s ks)) (two_step names next s m b (y ∷ x ∷ zs) third)
      ∙ sym (value_first next s (does_binary b x y) ks zs)))
      ∙ on_twice (operand_value names next s l) (operand_value names next s r) (does_binary b) (λ z. done next s ks (z ∷ zs))

  -- the value of an operand, and an operation
  pub operand_and_operation : (ks : List expressions.Step) (o l r : Operand) (b : Binary)
      → AllZip (IsStep names) ks (step.Value o ∷ step.Value l ∷ step.Value r ∷ step.Two b ∷ [])
      → done next s ks []
      ≡ values_of_both (operand_value names next s o) (on_both (operand_value names next s l) (operand_value names next s r) (does_binary b))
  operand_and_operation [] o l r b h = absurd h
  operand_and_operation (i ∷ []) o l r b h = absurd h.1
  operand_and_operation (i ∷ j ∷ []) o l r b h = absurd h.1.1
  operand_and_operation (i ∷ j ∷ k ∷ []) o l r b h = absurd h.1.1.1
  operand_and_operation (i ∷ j ∷ k ∷ m ∷ n ∷ ks) o l r b h = absurd h.1.1.1.1
  operand_and_operation (i ∷ j ∷ k ∷ m ∷ []) o l r b h =
      value_then i o (j ∷ k ∷ m ∷ []) [] h.0
      ∙ on_equal (operand_value names next s o) _ _ (λ x. operation_then j k m l r b [] (x ∷ []) h.1.0 h.1.1.0 h.1.1.1.0)

  -- an operation, and the value of an operand
  pub operation_and_operand : (ks : List expressions.Step) (l r : Operand) (b : Binary) (o : Operand)
      → AllZip (IsStep names) ks (step.Value l ∷ step.Value r ∷ step.Two b ∷ step.Value o ∷ [])
      → done next s ks []
      ≡ values_of_both (on_both (operand_value names next s l) (operand_value names next s r) (does_binary b)) (operand_value names next s o)
  operation_and_operand [] l r b o h = absurd h
  operation_and_operand (i ∷ []) l r b o h = absurd h.1
  operation_and_operand (i ∷ j ∷ []) l r b o h = absurd h.1.1
  operation_and_operand (i ∷ j ∷ k ∷ []) l r b o h = absurd h.1.1.1
  operation_and_operand (i ∷ j ∷ k ∷ m ∷ n ∷ ks) l r b o h = absurd h.1.1.1.1
  operation_and_operand (i ∷ j ∷ k ∷ m ∷ []) l r b o h =
      operation_then i j k l r b (m ∷ []) [] h.0 h.1.0 h.1.1.0
      ∙ on_equal (on_both (operand_value names next s l) (operand_value names next s r) (does_binary b)) _ _
      (λ z. value_step names next s m o (z ∷ []) h.1.1.1.0)

-- ---- one value

module _ (names : List (List ℕ)) (outcome : Result (List ℤ) Tree) where
  -- the fault is the answer
  pub one_stays : (r : Result (Option ℤ) EvalFault) (e : EvalFault) → IsErrAnd r (λ x. x ≡ e) → LeavesOne names (Err e) outcome
      → LeavesOne names r outcome
  one_stays (Ok z) e is left = absurd is
  one_stays (Err x) e is left = subst (λ y. LeavesOne names (Err y) outcome) (sym is) left

  -- the operation has no value
  pub one_fails : (e : EvalFault) (v : Value) → outcome ≡ on_value v (λ z. Ok (z ∷ [])) → IsFault names e v
      → LeavesOne names (Err e) outcome
  one_fails e v is fault = subst (Leaves names (Err e) []) (sym is) (value_fails names [] [] e v fault)

  -- another number of values
  pub not_one_left : (u : Unit {0}) (values : List ℤ) → Leaves names (Ok u) values outcome → (length values ≡ 1 → ⊥)
      → LeavesOne names (Ok None) outcome
  not_one_left u values left many =
      (reverse values, all_left names u values outcome left, λ is. many (sym (length-reverse values) ∙ is))

  -- one value
  pub one_left : (u : Unit {0}) (values : List ℤ) (z : ℤ) → Leaves names (Ok u) values outcome → values ≡ z ∷ []
      → LeavesOne names (Ok (Some z)) outcome
  one_left u values z left is = all_left names u values outcome left ∙ ap (λ zs. Ok (reverse zs)) is

-- ---- a comparison

module _ (names : List (List ℕ)) (c : Comparison) where
  -- it is one of two values
  pub both_hold : (v w : Value) (x y : ℤ) (answer : Bool) → v ≡ Ok x → w ≡ Ok y → answer ≡ compares c x y
      → HoldsOfTwo names c (Ok answer) (values_of_both v w)
  both_hold v w x y answer first second is k =
      ap (λ a. with_two (values_of_both a w) k (λ x y. tested (compares c x y))) first
      ∙ ap (λ a. with_two (values_of_both (Ok x) a) k (λ x y. tested (compares c x y))) second
      ∙ ap tested (sym is)

  module _ (outcome : Result (List ℤ) Tree) where
    -- another number of values
    pub not_two_hold : (u : Unit {0}) (values : List ℤ) → Leaves names (Ok u) values outcome → (length values ≡ 2 → ⊥)
        → HoldsOfTwo names c (Ok false) outcome
    not_two_hold u values left many k = other_than_two names u values outcome k (λ x y. tested (compares c x y)) left many

    -- two values
    pub two_hold : (u : Unit {0}) (values : List ℤ) (x y : ℤ) (answer : Bool) → Leaves names (Ok u) values outcome
        → values ≡ x ∷ y ∷ [] → answer ≡ compares c x y → HoldsOfTwo names c (Ok answer) outcome
    two_hold u values x y answer left are is k =
        two_values names u values outcome k (λ a b. tested (compares c a b)) x y left are ∙ ap tested (sym is)
