-- How much is to be done of bodies before a goal takes a step, and in all: numbers that fall at each move of an engine.
use Rattle.std.specs.Prelude.{ℕ, zero, suc, ◌+◌}

-- The most that is to be done of a body at a place before a goal takes a step, whatever the body is,
-- where this is to be done behind it. Its parts are at lower places: two of them one behind the other, and a third,
-- take less.
unfoldable pub body_cost : ℕ → ℕ → ℕ
body_cost zero rest = suc rest
body_cost (suc k) rest = body_cost k (body_cost k rest + 2) + (body_cost k rest + 2)

-- more than the places of any body, than the clauses of any procedure and than the parts of any atom
unfoldable pub most : ℕ
most = 340282366920938463463374607431768211456

-- so many clauses that are left to be tried, where this is to be done behind the call
unfoldable pub left_cost : ℕ → ℕ → ℕ
left_cost zero rest = 0
left_cost (suc n) rest = suc (body_cost most rest) + left_cost n rest

-- what so many steps, and this much before the next of them, come to
unfoldable pub whole_cost : ℕ → ℕ → ℕ
whole_cost zero w = w
whole_cost (suc n) w = suc (whole_cost n (w + left_cost (suc most) w))
