-- Steps that are run one after the other.
use Rattle.std.proofs.Common.{◌≡◌, ◌<◌, ◌≤◌, ◌⊎◌, inl, inr, ℕ, zero, suc, ℤ, pos, List, [], ◌∷◌, ◌++◌, length, reverse, drop, get_or, true, false, if◌then◌else◌, nat_lt, Option, Some, None, Ok, Err, refl, sym, ap, subst, ◌∙◌, arith}
use Rattle.std.specs.Prelude.{Result, IsErrAnd, IfErr, MatchOption}
use Rattle.std.specs.List.{AllZip}
use Rattle.std.proofs.lemmas.Bool.{le-ltb}
use Rattle.std.proofs.lemmas.List.{reverse-append, length-reverse, drop_all}
use Rattle.std.proofs.lemmas.Option.{get_or_from_slice_get}
use Rattle.iso_atoms.specs.Texts.{text_at}
use Rattle.iso_model.specs.Terms.Trees.{Tree, End}
use Rattle.iso_model.specs.Terms.Substitutions.{Subst, apply}
use Rattle.iso_model.specs.Search.Errors.{key}
use Rattle.iso_model.specs.Search.Arithmetic.{Value, value, among, operations_of_one, operations_of_two, applied_one, applied_two, unbound, not_evaluable}
use Rattle.iso_arith.specs.declared.faults.EvalFault.{EvalFault}
use Rattle.iso_arith.specs.declared.faults.EvalFault.TheVariants.{Unbound, NotEvaluable, Refused, NoMemory}
use Rattle.iso_arith.specs.Faults.{IsFault}
use Rattle.iso_arith.specs.declared.operations.Unary.{Unary}
use Rattle.iso_arith.specs.declared.operations.Binary.{Binary}
use Rattle.iso_arith.specs.Operations.{does_unary, does_binary}
use Rattle.iso_compile.specs.Table as table
use Rattle.iso_compile.specs.Expressions as expressions
use Rattle.iso_compile.specs.Expressions.{done, on_value}
use Rattle.iso_code.specs.declared.operands.Operand.{Operand}
use Rattle.iso_code.specs.Loaded.{part_at}
use Rattle.iso_instructions.specs.declared.instructions.Step.{Step}
use Rattle.iso_instructions.specs.declared.instructions.Step.TheVariants as step
use Rattle.iso_instructions.specs.Steps.{IsUnknown, IsStep}
use Rattle.iso_evaluation.specs.Running.{Leaves, CanBeRaised, operand_value, with_last, with_last_two, missed}

-- what steps leave, and others behind them
abbrev pub and_then : Result (List ℤ) Tree → (List ℤ → Result (List ℤ) Tree) → Result (List ℤ) Tree
and_then (Ok zs) go = go zs
and_then (Err error) go = Err error

module _ (next : ℕ) (s : Subst) where
  pub value_first : (v : Value) (ks : List expressions.Step) (zs : List ℤ) → on_value v (λ z. done next s ks (z ∷ zs)) ≡ and_then (on_value v (λ z. Ok (z ∷ zs))) (done next s ks)
  value_first (Ok z) ks zs = refl
  value_first (Err error) ks zs = refl

  -- a step, and others behind it
  pub step_first : (k : expressions.Step) (ks : List expressions.Step) (zs : List ℤ) → done next s (k ∷ ks) zs ≡ and_then (done next s (k ∷ []) zs) (done next s ks)
  step_first (expressions.Take p) ks zs = value_first (value (apply s (table.part_term next (λ r. End) p))) ks zs
  step_first (expressions.One f) ks [] = refl
  step_first (expressions.One f) ks (z ∷ zs) = value_first (applied_one (among operations_of_one f) (Ok z) (key f 1)) ks zs
  step_first (expressions.Two f) ks [] = refl
  step_first (expressions.Two f) ks (y ∷ []) = refl
  step_first (expressions.Two f) ks (y ∷ x ∷ zs) = value_first (applied_two (among operations_of_two f) (Ok x) (Ok y) (key f 2)) ks zs

-- ---- values

pub reverse_push : (zs : List ℤ) (z : ℤ) → reverse (zs ++ z ∷ []) ≡ z ∷ reverse zs
reverse_push zs z = reverse-append zs (z ∷ [])

-- what was left
pub all_left : (names : List (List ℕ)) (u : Unit {0}) (values : List ℤ) (outcome : Result (List ℤ) Tree) → Leaves names (Ok u) values outcome → outcome ≡ Ok (reverse values)
all_left names u values (Ok zs) h = ap Ok (sym h)
all_left names u values (Err error) h = absurd h

-- a value was pushed
pub pushed_left : (names : List (List ℕ)) (u : Unit {0}) (old new : List ℤ) (z : ℤ) (outcome : Result (List ℤ) Tree) → new ≡ old ++ z ∷ [] → outcome ≡ Ok (z ∷ reverse old) → Leaves names (Ok u) new outcome
pushed_left names u old new z outcome more is = subst (Leaves names (Ok u) new) (sym is) (ap reverse more ∙ reverse_push old z)

-- two values were taken
pub two_taken : (old mid new : List ℤ) (x y : ℤ) → old ≡ mid ++ y ∷ [] → mid ≡ new ++ x ∷ [] → reverse old ≡ y ∷ x ∷ reverse new
two_taken old mid new x y last before = ap reverse last ∙ reverse_push mid y ∙ ap (λ zs. y ∷ reverse zs) before ∙ ap (λ zs. y ∷ zs) (reverse_push new x)

-- ---- faults

pub none_left : (names : List (List ℕ)) (values : List ℤ) (outcome : Result (List ℤ) Tree) → Leaves names (Err NoMemory) values outcome
none_left names values (Ok zs) = tt
none_left names values (Err error) = tt

-- A fault that ended the steps is that memory was refused, or the error that they come to.
pub error_left : (names : List (List ℕ)) (values : List ℤ) (e : EvalFault) (outcome : Result (List ℤ) Tree) → Leaves names (Err e) values outcome
    → (e ≡ NoMemory) ⊎ ((error : Tree) × (outcome ≡ Err error) × IsFault names e (Err error))
error_left names values NoMemory outcome h = inl refl
error_left names values Unbound (Err error) h = inr (error, refl, h)
error_left names values (NotEvaluable a n) (Err error) h = inr (error, refl, h)
error_left names values (Refused r) (Err error) h = inr (error, refl, h)
error_left names values Unbound (Ok zs) h = absurd h
error_left names values (NotEvaluable a n) (Ok zs) h = absurd h
error_left names values (Refused r) (Ok zs) h = absurd h

-- an error ends the steps
pub error_ends : (names : List (List ℕ)) (values : List ℤ) (e : EvalFault) (error : Tree) → IsFault names e (Err error) → Leaves names (Err e) values (Err error)
error_ends names values NoMemory error h = tt
error_ends names values Unbound error h = h
error_ends names values (NotEvaluable a n) error h = h
error_ends names values (Refused r) error h = h

pub error_left_by : (names : List (List ℕ)) (values : List ℤ) (e : EvalFault) (outcome : Result (List ℤ) Tree) (error : Tree) → outcome ≡ Err error → IsFault names e (Err error) → Leaves names (Err e) values outcome
error_left_by names values e outcome error is fault = subst (Leaves names (Err e) values) (sym is) (error_ends names values e error fault)

memory_can : (names : List (List ℕ)) → CanBeRaised names NoMemory
memory_can names = (Ok (pos 0), tt)

-- it can be raised
pub fault_can : (names : List (List ℕ)) (r : Result Unit EvalFault) (values : List ℤ) (outcome : Result (List ℤ) Tree) → Leaves names r values outcome → IfErr r (CanBeRaised names)
fault_can names (Ok u) values outcome h = tt
fault_can names (Err e) values outcome h = elim (error_left names values e outcome h) [
  | inl is ↦ subst (CanBeRaised names) (sym is) (memory_can names)
  | inr w ↦ (Err w.0, w.2)
]

-- so can that memory was refused
pub refused_can : (names : List (List ℕ)) (r : Result Unit EvalFault) → IsErrAnd r (λ e. e ≡ NoMemory) → IfErr r (CanBeRaised names)
refused_can names (Ok u) h = tt
refused_can names (Err e) h = subst (CanBeRaised names) (sym h) (memory_can names)

-- an operand without a value ends the steps
pub value_fails : (names : List (List ℕ)) (values zs : List ℤ) (e : EvalFault) (v : Value) → IsFault names e v → Leaves names (Err e) values (on_value v (λ z. Ok (z ∷ zs)))
value_fails names values zs NoMemory v h = none_left names values (on_value v (λ z. Ok (z ∷ zs)))
value_fails names values zs Unbound v h = rw h refl
value_fails names values zs (NotEvaluable a n) v h = rw h.2 (h.0, h.1, refl)
value_fails names values zs (Refused r) v h = rw h refl

-- a fault ends the steps, whatever stands behind them
pub fault_ends : (names : List (List ℕ)) (e : EvalFault) (old new : List ℤ) (outcome : Result (List ℤ) Tree) (go : List ℤ → Result (List ℤ) Tree)
    → Leaves names (Err e) old outcome → Leaves names (Err e) new (and_then outcome go)
fault_ends names NoMemory old new outcome go h = none_left names new (and_then outcome go)
fault_ends names Unbound old new (Err error) go h = h
fault_ends names (NotEvaluable a n) old new (Err error) go h = h
fault_ends names (Refused r) old new (Err error) go h = h
fault_ends names Unbound old new (Ok zs) go h = absurd h
fault_ends names (NotEvaluable a n) old new (Ok zs) go h = absurd h
fault_ends names (Refused r) old new (Ok zs) go h = absurd h

-- the fault of a step is the answer
pub fault_stays : (names : List (List ℕ)) (r : Result Unit EvalFault) (e : EvalFault) (values : List ℤ) (outcome : Result (List ℤ) Tree) → IsErrAnd r (λ x. x ≡ e) → Leaves names (Err e) values outcome → Leaves names r values outcome
fault_stays names (Ok u) e values outcome h left = absurd h
fault_stays names (Err x) e values outcome h left = subst (λ y. Leaves names (Err y) values outcome) (sym h) left

-- ---- steps by their forms

module _ (names : List (List ℕ)) (next : ℕ) (s : Subst) where
  no_one : (d : Option (ℤ → Value)) (f : List ℕ) (k : Step) → ((n : ℕ) → k ≡ step.Unknown n 1 → ⊥) → ((u : Unary) → k ≡ step.One u → ⊥)
      → MatchOption d (IsUnknown names f 1 k) (λ does. (u : Unary) × (k ≡ step.One u) × (does_unary u ≡ does)) → ⊥
  no_one None f k unknown one h = unknown h.0 h.1
  no_one (Some does) f k unknown one h = one h.0 h.1

  no_two : (d : Option (ℤ → ℤ → Value)) (f : List ℕ) (k : Step) → ((n : ℕ) → k ≡ step.Unknown n 2 → ⊥) → ((b : Binary) → k ≡ step.Two b → ⊥)
      → MatchOption d (IsUnknown names f 2 k) (λ does. (b : Binary) × (k ≡ step.Two b) × (does_binary b ≡ does)) → ⊥
  no_two None f k unknown two h = unknown h.0 h.1
  no_two (Some does) f k unknown two h = two h.0 h.1

  -- a value
  pub value_step : (k : expressions.Step) (o : Operand) (zs : List ℤ) → IsStep names k (step.Value o) → done next s (k ∷ []) zs ≡ on_value (operand_value names next s o) (λ z. Ok (z ∷ zs))
  value_step (expressions.Take p) o zs h =
      let same : h.0 ≡ o = cc in
      ap (λ q. on_value (value (apply s (table.part_term next (λ r. End) q))) (λ z. Ok (z ∷ zs))) (sym h.2 ∙ ap (part_at names 0) same)
  value_step (expressions.One f) o zs h = absurd (no_one (among operations_of_one f) f (step.Value o) (λ n e. cc) (λ u e. cc) h)
  value_step (expressions.Two f) o zs h = absurd (no_two (among operations_of_two f) f (step.Value o) (λ n e. cc) (λ b e. cc) h)

  -- an operation of one value
  one_of : (d : Option (ℤ → Value)) (f : List ℕ) (u : Unary) (z : ℤ) → MatchOption d (IsUnknown names f 1 (step.One u)) (λ does. (v : Unary) × (step.One u ≡ step.One v) × (does_unary v ≡ does))
      → applied_one d (Ok z) (key f 1) ≡ does_unary u z
  one_of None f u z h = absurd (let none : ⊥ = cc h.1 in none)
  one_of (Some does) f u z h = let same : h.0 ≡ u = cc in ap (λ g. g z) (sym h.2 ∙ ap does_unary same)

  pub one_step : (k : expressions.Step) (u : Unary) (zs : List ℤ) → IsStep names k (step.One u) → done next s (k ∷ []) zs ≡ with_last (does_unary u) zs
  one_step (expressions.Take p) u zs h = absurd (let none : ⊥ = cc h.1 in none)
  one_step (expressions.One f) u [] h = refl
  one_step (expressions.One f) u (z ∷ zs) h = ap (λ v. on_value v (λ x. Ok (x ∷ zs))) (one_of (among operations_of_one f) f u z h)
  one_step (expressions.Two f) u zs h = absurd (no_two (among operations_of_two f) f (step.One u) (λ n e. cc) (λ b e. cc) h)

  -- an operation of two
  two_of : (d : Option (ℤ → ℤ → Value)) (f : List ℕ) (b : Binary) (x y : ℤ) → MatchOption d (IsUnknown names f 2 (step.Two b)) (λ does. (c : Binary) × (step.Two b ≡ step.Two c) × (does_binary c ≡ does))
      → applied_two d (Ok x) (Ok y) (key f 2) ≡ does_binary b x y
  two_of None f b x y h = absurd (let none : ⊥ = cc h.1 in none)
  two_of (Some does) f b x y h = let same : h.0 ≡ b = cc in ap (λ g. g x y) (sym h.2 ∙ ap does_binary same)

  pub two_step : (k : expressions.Step) (b : Binary) (zs : List ℤ) → IsStep names k (step.Two b) → done next s (k ∷ []) zs ≡ with_last_two (does_binary b) zs
  two_step (expressions.Take p) b zs h = absurd (let none : ⊥ = cc h.1 in none)
  two_step (expressions.One f) b zs h = absurd (no_one (among operations_of_one f) f (step.Two b) (λ n e. cc) (λ u e. cc) h)
  two_step (expressions.Two f) b [] h = refl
  two_step (expressions.Two f) b (y ∷ []) h = refl
  two_step (expressions.Two f) b (y ∷ x ∷ zs) h = ap (λ v. on_value v (λ z. Ok (z ∷ zs))) (two_of (among operations_of_two f) f b x y h)

  -- a functor that is no evaluable
  unknown_one : (d : Option (ℤ → Value)) (f : List ℕ) (n many : ℕ)
      → MatchOption d (IsUnknown names f 1 (step.Unknown n many)) (λ does. (u : Unary) × (step.Unknown n many ≡ step.One u) × (does_unary u ≡ does))
      → (many ≡ 1) × (d ≡ None) × (text_at names n ≡ f)
  unknown_one None f n many h = let same : n ≡ h.0 = cc in (cc, refl, ap (text_at names) same ∙ get_or_from_slice_get names h.0 f [] h.2)
  unknown_one (Some does) f n many h = absurd (let none : ⊥ = cc h.1 in none)

  unknown_two : (d : Option (ℤ → ℤ → Value)) (f : List ℕ) (n many : ℕ)
      → MatchOption d (IsUnknown names f 2 (step.Unknown n many)) (λ does. (b : Binary) × (step.Unknown n many ≡ step.Two b) × (does_binary b ≡ does))
      → (many ≡ 2) × (d ≡ None) × (text_at names n ≡ f)
  unknown_two None f n many h = let same : n ≡ h.0 = cc in (cc, refl, ap (text_at names) same ∙ get_or_from_slice_get names h.0 f [] h.2)
  unknown_two (Some does) f n many h = absurd (let none : ⊥ = cc h.1 in none)

  module _ (values : List ℤ) (f : List ℕ) (n : ℕ) (here : n < length names) (text : text_at names n ≡ f) where
    -- it is looked at
    looked_at : (many : ℕ) (zs : List ℤ) (outcome : Result (List ℤ) Tree) → many ≤ length zs → many < 256 → outcome ≡ Err (not_evaluable (key f many)) → Leaves names (Err (missed n many zs)) values outcome
    looked_at many zs outcome some few is =
        subst (λ b. Leaves names (Err (if b then Unbound else NotEvaluable n many)) values outcome) (sym (le-ltb (length zs) many some))
        (error_left_by names values (NotEvaluable n many) outcome (not_evaluable (key f many)) is (here, few, ap (λ g. Err (not_evaluable (key g many))) (sym text)))

    one_missed : (zs : List ℤ) → among operations_of_one f ≡ None → Leaves names (Err (missed n 1 zs)) values (done next s (expressions.One f ∷ []) zs)
    one_missed [] none = refl
    one_missed (z ∷ zs) none = looked_at 1 (z ∷ zs) _ (omega arith) (omega arith) (ap (λ d. on_value (applied_one d (Ok z) (key f 1)) (λ v. Ok (v ∷ zs))) none)

    two_missed : (zs : List ℤ) → among operations_of_two f ≡ None → Leaves names (Err (missed n 2 zs)) values (done next s (expressions.Two f ∷ []) zs)
    two_missed [] none = refl
    two_missed (y ∷ []) none = refl
    two_missed (y ∷ x ∷ zs) none = looked_at 2 (y ∷ x ∷ zs) _ (omega arith) (omega arith) (ap (λ d. on_value (applied_two d (Ok x) (Ok y) (key f 2)) (λ v. Ok (v ∷ zs))) none)

  missed_step : (k : expressions.Step) (n many : ℕ) (values zs : List ℤ) → n < length names → IsStep names k (step.Unknown n many) → Leaves names (Err (missed n many zs)) values (done next s (k ∷ []) zs)
  missed_step (expressions.Take p) n many values zs here h = absurd (let none : ⊥ = cc h.1 in none)
  missed_step (expressions.One f) n many values zs here h =
      let w = unknown_one (among operations_of_one f) f n many h in
      subst (λ m. Leaves names (Err (missed n m zs)) values (done next s (expressions.One f ∷ []) zs)) (sym w.0) (one_missed values f n here w.2 zs w.1)
  missed_step (expressions.Two f) n many values zs here h =
      let w = unknown_two (among operations_of_two f) f n many h in
      subst (λ m. Leaves names (Err (missed n m zs)) values (done next s (expressions.Two f ∷ []) zs)) (sym w.0) (two_missed values f n here w.2 zs w.1)

  pub unknown_step : (k : expressions.Step) (n many : ℕ) (values : List ℤ) (e : EvalFault) → e ≡ missed n many values → n < length names → IsStep names k (step.Unknown n many)
      → Leaves names (Err e) values (done next s (k ∷ []) (reverse values))
  unknown_step k n many values e is here h =
      let same : missed n many (reverse values) ≡ e = ap (λ m. if nat_lt m many then Unbound else NotEvaluable n many) (length-reverse values) ∙ sym is in
      subst (λ x. Leaves names (Err x) values (done next s (k ∷ []) (reverse values))) same (missed_step k n many values (reverse values) here h)

-- it can be raised
pub missed_can : (names : List (List ℕ)) (n many : ℕ) (values : List ℤ) (e : EvalFault) → e ≡ missed n many values → n < length names → many < 256 → CanBeRaised names e
missed_can names n many values e is here few = subst (CanBeRaised names) (sym is) (elim (nat_lt (length values) many) as (λ b. CanBeRaised names (if b then Unbound else NotEvaluable n many)) [
  | true ↦ (Err unbound, refl)
  | false ↦ (Err (not_evaluable (key (text_at names n) many)), (here, few, refl))
])

-- ---- places

-- what stands at a place of two lists that go together
pub zip_at : {X Y : Type 0} (R : X → Y → Type 0) (xs : List X) (ys : List Y) (i : ℕ) (y : Y) → AllZip R xs ys → i < length ys → y ≡ get_or ys i y
    → (x : X) × (drop i xs ≡ x ∷ drop (suc i) xs) × R x y
zip_at R [] [] i y h inside is = absurd (omega (arith, inside))
zip_at R [] (w ∷ ys) i y h inside is = absurd h
zip_at R (x ∷ xs) [] i y h inside is = absurd h
zip_at R (x ∷ xs) (w ∷ ys) zero y h inside is = (x, refl, subst (R x) (sym is) h.0)
zip_at R (x ∷ xs) (w ∷ ys) (suc i) y h inside is = zip_at R xs ys i y h.1 (omega (arith, inside)) is

-- and behind the last one
pub zip_end : {X Y : Type 0} (R : X → Y → Type 0) (xs : List X) (ys : List Y) (i : ℕ) → AllZip R xs ys → length ys ≤ i → drop i xs ≡ []
zip_end R [] [] i h past = drop_all i [] (omega arith)
zip_end R [] (w ∷ ys) i h past = absurd h
zip_end R (x ∷ xs) [] i h past = absurd h
zip_end R (x ∷ xs) (w ∷ ys) zero h past = absurd (omega (arith, past))
zip_end R (x ∷ xs) (w ∷ ys) (suc i) h past = zip_end R xs ys i h.1 (omega (arith, past))
