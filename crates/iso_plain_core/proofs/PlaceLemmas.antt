-- Which body stands at a node.
use Rattle.std.proofs.Common.{◌≡◌, ◌<◌, ◌≤◌, ◌-◌, ℕ, List, Some}
use Rattle.std.specs.List.{slice_get}
use Rattle.iso_model.specs.Terms.Trees.{Tree}
use Rattle.iso_model.specs.Search.Bodies.{Body, Cut, Run, And, Or, If, Choose}
use Rattle.iso_store_core.specs.Presents.{Present}
use Rattle.iso_prep.specs.declared.bodies.Node.{Node}
use Rattle.iso_prep.specs.declared.bodies.Node.TheVariants as node
pub use Rattle.iso_prep.proofs.PartLemmas.{Pair, Triple, PartIs, part_is}
use Rattle.iso_plain_core.specs.Standing.{IsBody, IsGoalWord}

pub goal_at : {W : Type 0} (p : Present W) {nodes : List (Node W)} {i : ℕ} {b : Body} (w : W) → slice_get nodes i ≡ Some (node.Run w) → IsBody p nodes i b → (t : Tree) × (b ≡ Run t) × IsGoalWord p w t
goal_at p w there body = part_is (node.Run w) there body

pub cut_at : {W : Type 0} (p : Present W) {nodes : List (Node W)} {i : ℕ} {b : Body} → slice_get nodes i ≡ Some node.Cut → IsBody p nodes i b → b ≡ Cut
cut_at p there body = part_is node.Cut there body

pub and_at : {W : Type 0} (p : Present W) {nodes : List (Node W)} {k : ℕ} {b : Body} (d : ℕ) → slice_get nodes k ≡ Some (node.And d) → IsBody p nodes k b
    → (d ≤ k) × (0 < d) × (0 < k) × Pair (IsGoalWord p) nodes And (k - d) (k - 1) b
and_at p d there body = part_is (node.And d) there body

pub or_at : {W : Type 0} (p : Present W) {nodes : List (Node W)} {k : ℕ} {b : Body} (d : ℕ) → slice_get nodes k ≡ Some (node.Or d) → IsBody p nodes k b
    → (d ≤ k) × (0 < d) × (0 < k) × Pair (IsGoalWord p) nodes Or (k - d) (k - 1) b
or_at p d there body = part_is (node.Or d) there body

pub if_at : {W : Type 0} (p : Present W) {nodes : List (Node W)} {k : ℕ} {b : Body} (d : ℕ) → slice_get nodes k ≡ Some (node.If d) → IsBody p nodes k b
    → (d ≤ k) × (0 < d) × (0 < k) × Pair (IsGoalWord p) nodes If (k - d) (k - 1) b
if_at p d there body = part_is (node.If d) there body

pub choose_at : {W : Type 0} (p : Present W) {nodes : List (Node W)} {k : ℕ} {b : Body} (c d : ℕ) → slice_get nodes k ≡ Some (node.Choose c d) → IsBody p nodes k b
    → (c ≤ k) × (d ≤ k) × (0 < c) × (0 < d) × (0 < k) × Triple (IsGoalWord p) nodes (k - c) (k - d) (k - 1) b
choose_at p c d there body = part_is (node.Choose c d) there body
