-- How many cells operands take.
use Rattle.std.proofs.Common.{◌≡◌, ◌+◌, ◌≤◌, ℕ, zero, suc, List, [], ◌∷◌, map, take, drop, arith}
use Rattle.iso_compile.specs.Table.{Part}
use Rattle.iso_compile.specs.Orders.{part_cells, parts_cells}
use Rattle.iso_code.specs.declared.operands.Operand.{Operand}
use Rattle.iso_code.specs.declared.operands.Get.{Get}
use Rattle.iso_code.specs.Loaded.{operand_got}

-- the first of them take no more than all
pub taken_most : {X : Type 0} (f : X → Part) (xs : List X) (i : ℕ) → parts_cells (map f (take i xs)) ≤ parts_cells (map f xs)
taken_most f xs zero = omega arith
taken_most f [] (suc i) = omega arith
taken_most f (x ∷ xs) (suc i) = (let h = taken_most f xs i in omega (arith, h))

-- with one more they take what it takes
pub taken_one : {X : Type 0} (f : X → Part) (xs : List X) (i : ℕ) (x : X) → drop i xs ≡ x ∷ drop (i + 1) xs → parts_cells (map f (take (i + 1) xs)) ≡ parts_cells (map f (take i xs)) + part_cells (f x)
taken_one f [] zero x h = grind (arith, h)
taken_one f [] (suc i) x h = grind (arith, h)
taken_one f (y ∷ xs) zero x h = grind (arith, h)
taken_one f (y ∷ xs) (suc i) x h = (let e : suc i + 1 ≡ suc (i + 1) = omega arith in rw e (let k = taken_one f xs i x (rw e at h) in omega (arith, k)))

-- the same of gets
pub got_most : (f : Operand → Part) (gs : List Get) (i : ℕ) → parts_cells (map f (map operand_got (take i gs))) ≤ parts_cells (map f (map operand_got gs))
got_most f gs zero = omega arith
got_most f [] (suc i) = omega arith
got_most f (g ∷ gs) (suc i) = (let h = got_most f gs i in omega (arith, h))

pub got_taken : (f : Operand → Part) (gs : List Get) (i : ℕ) (g : Get) → drop i gs ≡ g ∷ drop (i + 1) gs
    → parts_cells (map f (map operand_got (take (i + 1) gs))) ≡ parts_cells (map f (map operand_got (take i gs))) + part_cells (f g.operand)
got_taken f [] zero g h = grind (arith, h)
got_taken f [] (suc i) g h = grind (arith, h)
got_taken f (y ∷ gs) zero g h = grind (arith, h)
got_taken f (y ∷ gs) (suc i) g h = (let e : suc i + 1 ≡ suc (i + 1) = omega arith in rw e (let k = got_taken f gs i g (rw e at h) in omega (arith, k)))
