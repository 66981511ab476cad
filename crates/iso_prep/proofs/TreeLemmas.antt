-- Parts of a body stand where more parts come, and join to larger ones.
use Rattle.std.proofs.Common.{◌≡◌, ℕ, zero, suc, ◌+◌, ◌-◌, ◌<◌, List, [], ◌∷◌, ◌++◌, length, refl, sym, subst, arith, length-append}
use Rattle.std.specs.Borrow.{Bor}
use Rattle.iso_model.specs.declared.terms.Term.{Term}
use Rattle.iso_model.specs.Terms.Trees.{Tree}
use Rattle.iso_model.specs.Search.Bodies as bodies
use Rattle.iso_model.specs.Search.Bodies.{Body}
use Rattle.iso_prep.specs.declared.bodies.Node.{Node}
use Rattle.iso_prep.specs.declared.bodies.Node.TheVariants.{Cut, Run, And, Or, If, Choose}
use Rattle.iso_prep.specs.declared.connectives.Connective.{Connective}
use Rattle.iso_prep.specs.declared.connectives.Connective.TheVariants as connective
use Rattle.iso_prep.specs.Trees.{At, IsTree, cuts, runs, joins, branches, commits, chooses, EndsWith, IsBorrowed, borrowed, joint}
use Rattle.iso_prep.specs.Readings.{plain_join, IsLeaf}

pub at_more : {X : Type 0} (xs ys : List X) (i : ℕ) (x : X) → At xs i x → At (xs ++ ys) i x
at_more [] ys i x h = absurd (cc (h.is))
at_more (y ∷ xs) ys zero x h = record { is = h.is }
at_more (y ∷ xs) ys (suc i) x h = record { is = (at_more xs ys i x (record { is = h.is })).is }

pub at_last : {X : Type 0} (xs : List X) (x : X) → At (xs ++ x ∷ []) (length xs) x
at_last [] x = record { is = refl }
at_last (y ∷ xs) x = record { is = (at_last xs x).is }

pub at_within : {X : Type 0} (xs : List X) (i : ℕ) (x : X) → At xs i x → i < length xs
at_within [] i x h = absurd (cc (h.is))
at_within (y ∷ xs) zero x h = omega arith
at_within (y ∷ xs) (suc i) x h = omega (arith, at_within xs i x (record { is = h.is }))

module _ {G : Type 0} {Stands : G → Tree → Type 0} where
  pub tree_within : {parts : List (Node G)} {k : ℕ} {b : Body} → IsTree Stands parts k b → k < length parts
  tree_within {parts} {k} (runs {g = g} at stands) = at_within parts k (Run g) at
  tree_within {parts} {k} (cuts at) = at_within parts k Cut at
  tree_within {parts} {k} (joins {distance = d} at e f p first second) = at_within parts k (And d) at
  tree_within {parts} {k} (branches {distance = d} at e f p first second) = at_within parts k (Or d) at
  tree_within {parts} {k} (commits {distance = d} at e f p first second) = at_within parts k (If d) at
  tree_within {parts} {k} (chooses {condition = m} {next = n} at e f g p q first second third) = at_within parts k (Choose m n) at

  pub tree_more : {parts : List (Node G)} (ys : List (Node G)) {k : ℕ} {b : Body} → IsTree Stands parts k b → IsTree Stands (parts ++ ys) k b
  tree_more {parts} ys {k} (runs {g = g} at stands) = runs (at_more parts ys k (Run g) at) stands
  tree_more {parts} ys {k} (cuts at) = cuts (at_more parts ys k Cut at)
  tree_more {parts} ys {k} (joins {distance = d} at e f p first second) = joins (at_more parts ys k (And d) at) e f p (tree_more ys first) (tree_more ys second)
  tree_more {parts} ys {k} (branches {distance = d} at e f p first second) = branches (at_more parts ys k (Or d) at) e f p (tree_more ys first) (tree_more ys second)
  tree_more {parts} ys {k} (commits {distance = d} at e f p first second) = commits (at_more parts ys k (If d) at) e f p (tree_more ys first) (tree_more ys second)
  tree_more {parts} ys {k} (chooses {condition = m} {next = n} at e f g p q first second third) =
      chooses (at_more parts ys k (Choose m n) at) e f g p q (tree_more ys first) (tree_more ys second) (tree_more ys third)

  -- the last part is the body whose tree ends there
  pub ends_with : (parts : List (Node G)) (x : Node G) (b : Body) → IsTree Stands (parts ++ x ∷ []) (length parts) b → EndsWith Stands (parts ++ x ∷ []) b
  ends_with parts x b tree =
      let n : length (parts ++ x ∷ []) ≡ length parts + 1 = length-append parts (x ∷ []) in
      let k : length parts ≡ length (parts ++ x ∷ []) - 1 = omega arith in
      record { some = omega arith; last = subst (λ i. IsTree Stands (parts ++ x ∷ []) i b) k tree }

  -- two parts join to one
  module _ (parts : List (Node G)) (i d : ℕ) (a b : Body) (first : IsTree Stands parts i a) (second : EndsWith Stands parts b) (back : d ≡ length parts - i) where
    stands : length parts ≡ i + d
    stands = let below = tree_within first in omega arith

    before : length parts ≡ length parts - 1 + 1
    before = omega (arith, second.some)

    apart : 0 < d
    apart = let below = tree_within first in omega arith

    pub joint_ends : (k : Connective) → EndsWith Stands (parts ++ joint k d ∷ []) (plain_join k a b)
    joint_ends connective.And =
        ends_with parts (And d) (bodies.And a b) (joins (at_last parts (And d)) stands before apart (tree_more (And d ∷ []) first) (tree_more (And d ∷ []) second.last))
    joint_ends connective.Or =
        ends_with parts (Or d) (bodies.Or a b) (branches (at_last parts (Or d)) stands before apart (tree_more (Or d ∷ []) first) (tree_more (Or d ∷ []) second.last))
    joint_ends connective.If =
        ends_with parts (If d) (bodies.If a b) (commits (at_last parts (If d)) stands before apart (tree_more (If d ∷ []) first) (tree_more (If d ∷ []) second.last))

    -- and three
    pub choice_ends : (j e : ℕ) (c : Body) → IsTree Stands parts j c → e ≡ length parts - j → EndsWith Stands (parts ++ Choose d e ∷ []) (bodies.Choose a c b)
    choice_ends j e c next behind =
        let below = tree_within next in
        let place : length parts ≡ j + e = omega arith in
        let some : 0 < e = omega arith in
        ends_with parts (Choose d e) (bodies.Choose a c b)
        (chooses (at_last parts (Choose d e)) stands place before apart some (tree_more (Choose d e ∷ []) first) (tree_more (Choose d e ∷ []) next) (tree_more (Choose d e ∷ []) second.last))

-- a part without parts
pub leaf_ends : (parts : List (Node (Bor Term))) (x : Node (Bor Term)) (b : Body) → IsLeaf x b → EndsWith IsBorrowed (parts ++ x ∷ []) b
leaf_ends parts Cut b h = subst (EndsWith IsBorrowed (parts ++ Cut ∷ [])) (sym h) (ends_with parts Cut bodies.Cut (cuts (at_last parts Cut)))
leaf_ends parts (Run g) b h = subst (EndsWith IsBorrowed (parts ++ Run g ∷ [])) (sym h) (ends_with parts (Run g) (bodies.Run (borrowed g)) (runs (at_last parts (Run g)) refl))
leaf_ends parts x b h = absurd h
