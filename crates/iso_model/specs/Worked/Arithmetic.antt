-- Worked values of expressions (ISO/IEC 13211-1:1995, 9.1 to 9.4).
use Rattle.std.specs.Prelude.{◌≡◌, ℕ, ℤ, pos, negsuc, List, Ok, Err, codes}
use Rattle.iso_model.specs.Terms.Trees.{Tree, Variable, Integer, Name}
use Rattle.iso_model.specs.Search.Bodies.{one, two}
use Rattle.iso_model.specs.Search.Keys.{key}
use Rattle.iso_model.specs.Search.Arithmetic.{value, unbound, not_evaluable, not_float, overflow, zero_divisor, undefined}

-- the expression with this name and these two integers
abbrev pub of_two : List ℕ → ℤ → ℤ → Tree
of_two f x y = two f (Integer x) (Integer y)

-- an expression has this value
abbrev pub Has : Tree → ℤ → Type 0
Has t z = value t ≡ Ok z

-- an expression raises this error
abbrev pub Raises : Tree → Tree → Type 0
Raises t e = value t ≡ Err e

-- `7 // -2` is -3, `7 rem -2` is 1, `7 div -2` is -4, `7 mod -2` is -1, and `7 / -2` is undefined.
abbrev pub QuotientsAreRounded : Type 0
QuotientsAreRounded =
    Has (of_two (codes "//") (pos 7) (negsuc 1)) (negsuc 2) × Has (of_two (codes "rem") (pos 7) (negsuc 1)) (pos 1) × Has (of_two (codes "div") (pos 7) (negsuc 1)) (negsuc 3)
    × Has (of_two (codes "mod") (pos 7) (negsuc 1)) (negsuc 0) × Raises (of_two (codes "/") (pos 7) (negsuc 1)) undefined

-- the least integer is -2^127
abbrev pub least : ℤ
least = negsuc 170141183460469231731687303715884105727

-- Of the least integer and -1 the quotient is out of range, and what the quotient leaves is 0.
abbrev pub LeastIsDivided : Type 0
LeastIsDivided = Raises (of_two (codes "//") least (negsuc 0)) overflow × Has (of_two (codes "rem") least (negsuc 0)) (pos 0) × Has (of_two (codes "mod") least (negsuc 0)) (pos 0)

-- `2 ^ 126` is in range and `2 ^ 127` isn't; `0 ^ 0` is 1; `-1 ^ -3` is -1; `2 ^ -1` and `0 ^ -1` are no whole numbers.
abbrev pub PowersAreWhole : Type 0
PowersAreWhole =
    Has (of_two (codes "^") (pos 2) (pos 126)) (pos 85070591730234615865843651857942052864) × Raises (of_two (codes "^") (pos 2) (pos 127)) overflow
    × Has (of_two (codes "^") (pos 0) (pos 0)) (pos 1)
    × Has (of_two (codes "^") (negsuc 0) (negsuc 2)) (negsuc 0) × Raises (of_two (codes "^") (pos 2) (negsuc 0)) (not_float (pos 2)) × Raises (of_two (codes "^") (pos 0) (negsuc 0)) (not_float (pos 0))

-- `-1 << 127` is the least integer, `1 << 127` is out of range, `-5 >> 1` is -3, and `1 << 128` is undefined.
abbrev pub ShiftsAreProducts : Type 0
ShiftsAreProducts =
    Has (of_two (codes "<<") (negsuc 0) (pos 127)) least × Raises (of_two (codes "<<") (pos 1) (pos 127)) overflow × Has (of_two (codes ">>") (negsuc 4) (pos 1)) (negsuc 2)
    × Raises (of_two (codes "<<") (pos 1) (pos 128)) undefined

-- `foo(X, 1 / 0)` is no evaluable whatever its arguments are; of `X + 1 / 0` the left argument's error comes, of `1 /
-- 0 + X` too.
abbrev pub FirstErrorComes : Type 0
FirstErrorComes =
    Raises (two (codes "foo") (Variable 0) (of_two (codes "/") (pos 1) (pos 0))) (not_evaluable (key (codes "foo") 2))
    × Raises (two (codes "+") (Variable 0) (of_two (codes "/") (pos 1) (pos 0))) unbound
    × Raises (two (codes "+") (of_two (codes "/") (pos 1) (pos 0)) (Variable 0)) zero_divisor
    × Raises (one (codes "-") (Name (codes "[]"))) (not_evaluable (key (codes "[]") 0))
