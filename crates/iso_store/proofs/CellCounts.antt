-- How many cells a copy takes: no more nodes than the size of its term, and a cell for each number that it uses.
use Rattle.std.proofs.Common.{ℕ, ◌+◌, ◌<◌, ◌≤◌, List, [], ◌∷◌, ◌++◌, length, Bool, true, false, arith, length-append, if◌then◌else◌, OnOk, Result, Ok, Err}
use Rattle.iso_model.specs.Terms.Trees.{Tree, Variable, Integer, Name, Apply, End, More}
use Rattle.iso_model.specs.Terms.Sizes.{size}
use Rattle.iso_model.specs.Terms.Variables.{is_in, distinct_from, variable_count}
use Rattle.iso_store_core.specs.Copying.{cells_of}
use Rattle.iso_store_core.proofs.RetainLemmas.{wide-within}
use Rattle.iso_store_core.specs.Presents.{Present, KeepsNumbers, TakesNumber, TakesFrom, MovesOn, Grows, NumbersHaveCells}

pub added : (seen : List ℕ) (n : ℕ) (b : Bool) → length (if b then seen else (seen ++ n ∷ [])) ≤ length seen + 1
added seen n true = omega arith
added seen n false = omega (arith, length-append seen (n ∷ []))

counted-from : (seen : List ℕ) (t : Tree) → length (distinct_from seen t) + cells_of 1 (λ n. 1) t ≤ length seen + size t
counted-from seen (Variable n) = let one = added seen n (is_in n seen) in omega arith
counted-from seen (Integer z) = let some = wide-within z in omega arith
counted-from seen (Name a) = omega arith
counted-from seen (Apply f ts) = omega (arith, counted-from seen ts)
counted-from seen End = omega arith
counted-from seen (More t ts) = omega (arith, counted-from seen t, counted-from (distinct_from seen t) ts)

-- a node for each variable, and one for each other part
pub nodes-within : (t : Tree) → variable_count t + cells_of 1 (λ n. 1) t ≤ size t
nodes-within t = let whole = counted-from [] t in omega arith

-- no more where wider compounds take more
pub nodes-no-wider : (t : Tree) → cells_of 1 (λ n. 1) t ≤ cells_of 1 (λ n. n + 1) t
nodes-no-wider (Variable n) = omega arith
nodes-no-wider (Integer z) = omega arith
nodes-no-wider (Name a) = omega arith
nodes-no-wider (Apply f ts) = omega (arith, nodes-no-wider ts)
nodes-no-wider End = omega arith
nodes-no-wider (More t ts) = omega (arith, nodes-no-wider t, nodes-no-wider ts)

-- what building comes to: numbers reserved, a variable made for each, and then the term, which uses no number
pub built-counted : {W E : Type 0} {p q r : Present W} {first count more : ℕ} (u : Present W) (result : Result W E) → MovesOn p q count → Grows p q 0 0 → TakesFrom q r first → q.cells + count ≤ r.cells → Grows r u more 0 → OnOk result (KeepsNumbers r u) → OnOk result (NumbersHaveCells p u)
built-counted u (Ok w) moved reserved taken each grows numbers =
    let next = moved.next in
    let kept = reserved.keeps in
    let same = taken.next in
    let on = grows.keeps in
    let end = numbers.next in
    omega arith
built-counted u (Err e) moved reserved taken each grows numbers = numbers

-- a number reserved, and its variable made
pub variable-counted : {W E : Type 0} {p q : Present W} (r : Present W) (number : ℕ) (result : Result W E) → MovesOn p q 1 → Grows p q 0 0 → OnOk result (TakesNumber q r number) → OnOk result (q.cells < r.cells) → OnOk result (NumbersHaveCells p r)
variable-counted r number (Ok w) moved reserved taken more =
    let next = moved.next in
    let kept = reserved.keeps in
    let same = taken.next in
    omega arith
variable-counted r number (Err e) moved reserved taken more = taken
