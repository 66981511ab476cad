-- Values of expressions (ISO/IEC 13211-1:1995, 7.9, 9.1, 9.3 and 9.4; `div`, `sign`, `min`, `max` and the whole
-- powers are those of the second corrigendum). Numbers are unbounded here: each operation says by itself which of its
-- results are in range.
use Rattle.std.specs.Prelude.{ℕ, suc, ℤ, pos, negsuc, neg_ℤ, ◌+ℤ◌, ◌-ℤ◌, ◌*ℤ◌, ◌/◌, ◌^◌, nat_lt, unsigned_abs, int_div, ◌&&◌, List, [], ◌∷◌, Bool, Option, Some, None, Result, Ok, Err, codes, if◌then◌else◌}
use Rattle.std.specs.Int.{w128, int_min, int_max, int_signum, int_pow, int_bit_and, int_bit_or}
use Rattle.std.specs.Ordering.{int_eq}
use Rattle.std.specs.Str.{bytes_eq}
use Rattle.iso_model.specs.Terms.Integers.{fits}
use Rattle.iso_model.specs.Terms.Trees.{Tree, Variable, Integer, Name, Apply, End, More, count}
use Rattle.iso_model.specs.Search.Bodies.{one, two}
use Rattle.iso_model.specs.Search.Errors.{Key, key, indicator}

-- ---- the errors (7.9.2), without the procedure that raises them: `raised` of Errors adds it

abbrev pub unbound : Tree
unbound = Name (codes "instantiation_error")

abbrev pub not_evaluable : Key → Tree
not_evaluable k = two (codes "type_error") (Name (codes "evaluable")) (indicator k)

-- there are no floats, so that a number which is to be one is a wrong one (own)
abbrev pub not_float : ℤ → Tree
not_float z = two (codes "type_error") (Name (codes "float")) (Integer z)

abbrev pub overflow : Tree
overflow = one (codes "evaluation_error") (Name (codes "int_overflow"))

abbrev pub zero_divisor : Tree
zero_divisor = one (codes "evaluation_error") (Name (codes "zero_divisor"))

abbrev pub undefined : Tree
undefined = one (codes "evaluation_error") (Name (codes "undefined"))

-- ---- values

-- a value, or else the error
abbrev pub Value : Type 0
Value = Result ℤ Tree

-- goes on with a value; an error stays
abbrev pub with_value : Value → (ℤ → Value) → Value
with_value (Ok z) f = f z
with_value (Err e) f = Err e

-- the number, where it is in range
abbrev pub in_range : ℤ → Value
in_range z = if fits z then Ok z else Err overflow

-- this value for a divisor that is not 0
abbrev pub unless_zero : ℤ → Value → Value
unless_zero y v = if int_eq y (pos 0) then Err zero_divisor else v

-- ---- quotients

-- x / n, rounded down
abbrev pub floored_by : ℤ → ℕ → ℤ
floored_by (pos a) n = pos (a / n)
floored_by (negsuc a) n = negsuc (a / n)

-- x / y, rounded down
abbrev pub floored : ℤ → ℤ → ℤ
floored x (pos n) = floored_by x n
floored x (negsuc n) = floored_by (neg_ℤ x) (suc n)

-- what a quotient q leaves of x
abbrev pub rest : ℤ → ℤ → ℤ → ℤ
rest x y q = x -ℤ (q *ℤ y)

-- the quotient where it is whole (own)
abbrev pub whole : ℤ → ℤ → Value
whole x y = if int_eq (rest x y (int_div x y)) (pos 0) then in_range (int_div x y) else Err undefined

-- ---- powers (9.3.10)

-- whether the number is 1 or -1
abbrev pub is_unit : ℤ → Bool
is_unit x = nat_lt (unsigned_abs x) 2 && nat_lt 0 (unsigned_abs x)

-- x to the power y: where y is negative, x is to be 1 or -1
abbrev pub power : ℤ → ℤ → Value
power x (pos n) = in_range (int_pow x n)
power x (negsuc n) = if is_unit x then in_range (int_pow x (suc n)) else Err (not_float x)

-- ---- shifts (9.4.1, 9.4.2), by 0 to 127

abbrev pub shifted : (ℕ → ℤ) → ℤ → Value
shifted by (pos n) = if nat_lt n 128 then in_range (by n) else Err undefined
shifted by (negsuc n) = Err undefined

-- ---- the operations, by their names

-- those of one argument (9.1.7, 9.4.5); in two's complement a number with each bit turned is -x - 1
abbrev pub operations_of_one : List (List ℕ × (ℤ → Value))
operations_of_one =
    (codes "-", λ x. in_range (neg_ℤ x)) ∷ (codes "abs", λ x. in_range (pos (unsigned_abs x))) ∷ (codes "sign", λ x. in_range (int_signum x))
    ∷ (codes "\\", λ x. in_range (neg_ℤ x -ℤ pos 1)) ∷ []

-- those of two (9.1.7, 9.3.8 to 9.3.10, 9.4.1 to 9.4.4); bits are those of 128 in two's complement
abbrev pub operations_of_two : List (List ℕ × (ℤ → ℤ → Value))
operations_of_two =
    (codes "+", λ x y. in_range (x +ℤ y)) ∷ (codes "-", λ x y. in_range (x -ℤ y)) ∷ (codes "*", λ x y. in_range (x *ℤ y))
    ∷ (codes "//", λ x y. unless_zero y (in_range (int_div x y))) ∷ (codes "rem", λ x y. unless_zero y (in_range (rest x y (int_div x y))))
    ∷ (codes "div", λ x y. unless_zero y (in_range (floored x y))) ∷ (codes "mod", λ x y. unless_zero y (in_range (rest x y (floored x y))))
    ∷ (codes "/", λ x y. unless_zero y (whole x y)) ∷ (codes "min", λ x y. in_range (int_min x y)) ∷ (codes "max", λ x y. in_range (int_max x y))
    ∷ (codes "^", power) ∷ (codes "/\\", λ x y. in_range (int_bit_and w128 x y)) ∷ (codes "\\/", λ x y. in_range (int_bit_or w128 x y))
    ∷ (codes "<<", λ x y. shifted (λ n. x *ℤ pos (2 ^ n)) y) ∷ (codes ">>", λ x y. shifted (λ n. floored_by x (2 ^ n)) y) ∷ []

-- the operation of this name, where there is one
abbrev pub among : {A : Type 0} → List (List ℕ × A) → List ℕ → Option A
among [] f = None
among (e ∷ es) f = if bytes_eq e.0 f then Some e.1 else among es f

-- ---- expressions

-- an operation on its argument's value
abbrev pub applied_one : Option (ℤ → Value) → Value → Key → Value
applied_one None x k = Err (not_evaluable k)
applied_one (Some f) x k = with_value x f

-- an operation on its arguments' values, where the left one's error comes first
abbrev pub applied_two : Option (ℤ → ℤ → Value) → Value → Value → Key → Value
applied_two None x y k = Err (not_evaluable k)
applied_two (Some f) x y k = with_value x (λ a. with_value y (f a))

-- The value of an expression (7.9.1), or the first error: an integer is itself, and of a compound the functor is
-- looked at before its arguments are evaluated, from the left.
abbrev pub value : Tree → Value
value (Variable n) = Err unbound
value (Integer z) = Ok z
value (Name a) = Err (not_evaluable (key a 0))
value (Apply f (More x End)) = applied_one (among operations_of_one f) (value x) (key f 1)
value (Apply f (More x (More y End))) = applied_two (among operations_of_two f) (value x) (value y) (key f 2)
value (Apply f ts) = Err (not_evaluable (key f (count ts)))
value End = Err unbound
value (More t ts) = Err unbound
