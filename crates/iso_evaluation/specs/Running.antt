-- What running the steps of an expression comes to, by the table of instructions.
use Rattle.std.specs.Prelude.{◌≡◌, ◌≢◌, ◌<◌, ◌+◌, ℕ, suc, ℤ, List, [], ◌∷◌, length, nat_lt, Bool, Option, Some, None, Result, Ok, Err, reverse, if◌then◌else◌}
use Rattle.std.specs.List.{slice_get}
use Rattle.iso_model.specs.Terms.Trees.{Tree, Variable, End}
use Rattle.iso_model.specs.Terms.Substitutions.{Subst, apply}
use Rattle.iso_model.specs.Search.Arithmetic.{Value, value, unbound}
use Rattle.iso_model.specs.Search.Errors.{Key}
use Rattle.iso_model.specs.Search.Library.{compares, tested}
use Rattle.iso_model.specs.declared.kinds.Comparison.{Comparison}
use Rattle.iso_store_core.specs.Presents.{Present, meaning}
use Rattle.iso_arith.specs.declared.faults.EvalFault.{EvalFault}
use Rattle.iso_arith.specs.declared.faults.EvalFault.TheVariants as fault
use Rattle.iso_arith.specs.Faults.{IsFault}
use Rattle.iso_compile.specs.Table.{part_term}
use Rattle.iso_compile.specs.Expressions.{on_value}
use Rattle.iso_compile.specs.Evaluations.{with_two}
use Rattle.iso_code.specs.declared.operands.Operand.{Operand}
use Rattle.iso_code.specs.Loaded.{part_at}
use Rattle.iso_arith.specs.declared.operations.Binary.{Binary}
use Rattle.iso_instructions.specs.declared.instructions.Step.{Step}
use Rattle.iso_instructions.specs.declared.instructions.Step.TheVariants as step

-- The words stand for the variables of a clause, which are numbered from next on, under this substitution.
abbrev pub StandFor : {W : Type 0} → Present W → List W → ℕ → Subst → Type 0
StandFor {W} p environment next s = (x : ℕ) (w : W) → slice_get environment x ≡ Some w → meaning p w ≡ apply s (Variable (next + x))

-- The steps left these values, the last one last; or the fault is the error that ended them, or that memory was
-- refused.
abbrev pub Leaves : List (List ℕ) → Result Unit EvalFault → List ℤ → Result (List ℤ) Tree → Type 0
Leaves names (Ok u) values (Ok zs) = reverse values ≡ zs
Leaves names (Ok u) values (Err error) = ⊥
Leaves names (Err fault.NoMemory) values outcome = Unit {0}
Leaves names (Err e) values (Ok zs) = ⊥
Leaves names (Err e) values (Err error) = IsFault names e (Err error)

-- The fault can be raised: it is the error of some expression, or that memory was refused.
abbrev pub CanBeRaised : List (List ℕ) → EvalFault → Type 0
CanBeRaised names e = (v : Value) × IsFault names e v

-- the value of the expression that an operand stands for
abbrev pub operand_value : List (List ℕ) → ℕ → Subst → Operand → Value
operand_value names next s o = value (apply s (part_term next (λ r. End) (part_at names 0 o)))

-- what an operation leaves of values, of which the last one stands first
abbrev pub with_last : (ℤ → Value) → List ℤ → Result (List ℤ) Tree
with_last does (z ∷ zs) = on_value (does z) (λ v. Ok (v ∷ zs))
with_last does [] = Err unbound

-- what an operation of two leaves
abbrev pub with_last_two : (ℤ → ℤ → Value) → List ℤ → Result (List ℤ) Tree
with_last_two does (y ∷ x ∷ zs) = on_value (does x y) (λ v. Ok (v ∷ zs))
with_last_two does zs = Err unbound

-- what ends the steps at a functor that is no evaluable: it isn't looked at where it has too few values
abbrev pub missed : ℕ → ℕ → List ℤ → EvalFault
missed name count values = if nat_lt (length values) count then fault.Unbound else fault.NotEvaluable name count

-- what an operation makes of two values; the first error stays
abbrev pub on_both : Value → Value → (ℤ → ℤ → Value) → Value
on_both (Ok x) (Ok y) does = does x y
on_both (Ok x) (Err error) does = Err error
on_both (Err error) v does = Err error

-- two values as steps leave them, the last one first; or the first error
abbrev pub values_of_both : Value → Value → Result (List ℤ) Tree
values_of_both v w = on_value v (λ x. on_value w (λ y. Ok (y ∷ x ∷ [])))

-- The steps left this value alone, or another number of values; or the fault is the error that ended them, or that
-- memory was refused.
abbrev pub LeavesOne : List (List ℕ) → Result (Option ℤ) EvalFault → Result (List ℤ) Tree → Type 0
LeavesOne names (Ok (Some z)) outcome = outcome ≡ Ok (z ∷ [])
LeavesOne names (Ok None) outcome = (zs : List ℤ) × (outcome ≡ Ok zs) × (length zs ≢ 1)
LeavesOne names (Err e) outcome = Leaves names (Err e) [] outcome

-- Whether the comparison holds of the two values that the steps left, of which the last one stands first: it doesn't
-- where they left another number of values. Or the fault is as above.
abbrev pub HoldsOfTwo : List (List ℕ) → Comparison → Result Bool EvalFault → Result (List ℤ) Tree → Type 0
HoldsOfTwo names c (Ok answer) outcome = (k : Key) → with_two outcome k (λ x y. tested (compares c x y)) ≡ tested answer
HoldsOfTwo names c (Err e) outcome = Leaves names (Err e) [] outcome

-- the steps from this place on begin with the value of this operand, and this operation of two
abbrev pub AreValueAndOperation : List Step → ℕ → Operand → Binary → Type 0
AreValueAndOperation steps i o b = (suc i < length steps) × (slice_get steps i ≡ Some (step.Value o)) × (slice_get steps (suc i) ≡ Some (step.Two b))
