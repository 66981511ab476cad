-- Which body stands at a place.
use Rattle.std.proofs.Common.{◌≡◌, ◌+◌, ◌<◌, ◌≤◌, ◌-◌, ℕ, List, Some, refl, sym, ◌∙◌, subst, arith}
use Rattle.std.specs.List.{slice_get}
use Rattle.iso_model.specs.Terms.Trees.{Tree}
use Rattle.iso_model.specs.Search.Bodies.{Body, Cut, Run, And, Or, If, Choose}
use Rattle.iso_prep.specs.declared.bodies.Node.{Node}
use Rattle.iso_prep.specs.declared.bodies.Node.TheVariants as node
use Rattle.iso_prep.specs.Trees.{IsTree, runs, cuts, joins, branches, commits, chooses}

some_same : {X : Type 0} {x y : X} → Some x ≡ Some y → x ≡ y
some_same h = cc

-- two bodies at these places
pub record Pair {G : Type 0} (Stands : G → Tree → Type 0) (parts : List (Node G)) (join : Body → Body → Body) (i j : ℕ) (b : Body) : Type 0 where
  pub first : Body
  pub second : Body
  pub is : b ≡ join first second
  pub first_body : IsTree Stands parts i first
  pub second_body : IsTree Stands parts j second

-- three bodies at these places
pub record Triple {G : Type 0} (Stands : G → Tree → Type 0) (parts : List (Node G)) (h i j : ℕ) (b : Body) : Type 0 where
  pub first : Body
  pub second : Body
  pub third : Body
  pub is : b ≡ Choose first second third
  pub first_body : IsTree Stands parts h first
  pub second_body : IsTree Stands parts i second
  pub third_body : IsTree Stands parts j third

-- what this part is at a place, where it is a body's own
abbrev pub PartIs : {G : Type 0} → (G → Tree → Type 0) → List (Node G) → ℕ → Node G → Body → Type 0
PartIs Stands parts k (node.Run g) b = (t : Tree) × (b ≡ Run t) × Stands g t
PartIs Stands parts k node.Cut b = b ≡ Cut
PartIs Stands parts k (node.And d) b = (d ≤ k) × (0 < d) × (0 < k) × Pair Stands parts And (k - d) (k - 1) b
PartIs Stands parts k (node.Or d) b = (d ≤ k) × (0 < d) × (0 < k) × Pair Stands parts Or (k - d) (k - 1) b
PartIs Stands parts k (node.If d) b = (d ≤ k) × (0 < d) × (0 < k) × Pair Stands parts If (k - d) (k - 1) b
PartIs Stands parts k (node.Choose c d) b = (c ≤ k) × (d ≤ k) × (0 < c) × (0 < d) × (0 < k) × Triple Stands parts (k - c) (k - d) (k - 1) b

two_places : {G : Type 0} {Stands : G → Tree → Type 0} {parts : List (Node G)} {i j k d : ℕ} {a b : Body} (join : Body → Body → Body) → k ≡ i + d → k ≡ j + 1 → 0 < d → IsTree Stands parts i a → IsTree Stands parts j b
    → (d ≤ k) × (0 < d) × (0 < k) × Pair Stands parts join (k - d) (k - 1) (join a b)
two_places {Stands = Stands} {parts = parts} {i} {j} {k} {d} {a} {b} join first second some x y =
    let front : i ≡ k - d = omega (arith, first) in
    let back : j ≡ k - 1 = omega (arith, second) in (
      omega (arith, first),
      some,
      omega (arith, second),
      record {
        first = a;
        second = b;
        is = refl;
        first_body = subst (λ (m : ℕ). IsTree Stands parts m a) front x;
        second_body = subst (λ (m : ℕ). IsTree Stands parts m b) back y;
      },
    )

-- the part at a body's place is the body's own
pub part_is : {G : Type 0} {Stands : G → Tree → Type 0} {parts : List (Node G)} {k : ℕ} {b : Body} (part : Node G) → slice_get parts k ≡ Some part → IsTree Stands parts k b → PartIs Stands parts k part b
part_is {Stands = Stands} {parts = parts} {k} part there (runs {g = g} {t = t} at stands) = subst (λ (n : Node _). PartIs Stands parts k n (Run t)) (some_same (sym at.is ∙ there)) (t, refl, stands)
part_is {Stands = Stands} {parts = parts} {k} part there (cuts at) = subst (λ (n : Node _). PartIs Stands parts k n Cut) (some_same (sym at.is ∙ there)) refl
part_is {Stands = Stands} {parts = parts} {k} part there (joins {a = a} {b = b} at first second some x y) =
    subst (λ (n : Node _). PartIs Stands parts k n (And a b)) (some_same (sym at.is ∙ there)) (two_places And first second some x y)
part_is {Stands = Stands} {parts = parts} {k} part there (branches {a = a} {b = b} at first second some x y) =
    subst (λ (n : Node _). PartIs Stands parts k n (Or a b)) (some_same (sym at.is ∙ there)) (two_places Or first second some x y)
part_is {Stands = Stands} {parts = parts} {k} part there (commits {a = a} {b = b} at first second some x y) =
    subst (λ (n : Node _). PartIs Stands parts k n (If a b)) (some_same (sym at.is ∙ there)) (two_places If first second some x y)
part_is {Stands = Stands} {parts = parts} {k} part there (chooses {h = h} {i = i} {j = j} {condition = c} {next = d} {a = x} {b = y} {c = z} at first second third some also ix iy iz) =
    let front : h ≡ k - c = omega (arith, first) in
    let middle : i ≡ k - d = omega (arith, second) in
    let back : j ≡ k - 1 = omega (arith, third) in
    subst (λ (n : Node _). PartIs Stands parts k n (Choose x y z)) (some_same (sym at.is ∙ there)) (
      omega (arith, first),
      omega (arith, second),
      some,
      also,
      omega (arith, third),
      record {
        first = x;
        second = y;
        third = z;
        is = refl;
        first_body = subst (λ (m : ℕ). IsTree Stands parts m x) front ix;
        second_body = subst (λ (m : ℕ). IsTree Stands parts m y) middle iy;
        third_body = subst (λ (m : ℕ). IsTree Stands parts m z) back iz;
      },
    )
