-- What goals of bagof/3 and setof/3 ask for, in a store (ISO/IEC 13211-1:1995, 8.10.2, 8.10.3).
use Rattle.std.specs.Prelude.{◌≡◌, ℕ, ◌+◌, Bool}
use Rattle.iso_model.specs.Terms.Trees.{Tree}
use Rattle.iso_model.specs.Terms.Sizes.{size}
use Rattle.iso_model.specs.Terms.Arguments.{argument}
use Rattle.iso_model.specs.Search.Groups.{stripped, witness_of, pair}
use Rattle.iso_model.specs.Search.Replies.{Grouping}
use Rattle.iso_model.specs.Search.BuiltIns.{grouping}
use Rattle.iso_store_core.specs.Presents.{Present, Holds, meaning}
use Rattle.iso_lib_core.specs.Replies.{IsUnbound}
use Rattle.iso_search_core.specs.Standing.{grouping_of}
use Rattle.iso_search_core.specs.declared.asking.Asked.{Asked}

-- the witness of a goal of bagof/3 or setof/3
abbrev pub goal_witness : Tree → Tree
goal_witness t = witness_of (argument 0 t) (argument 1 t)

-- how its groups come
abbrev pub goal_grouping : Bool → Tree → Grouping
goal_grouping sorts t = grouping sorts (argument 0 t) (argument 1 t) (argument 2 t)

-- how many cells its template counts
abbrev pub template_cells : Tree → ℕ
template_cells t = 3 + size (goal_witness t)

-- Nothing was bound, and the words have these values, where t is the goal's.
pub record AsksFor {W : Type 0} (p q : Present W) (t : Tree) (sorts : Bool) (a : Asked W) : Type 0 where
  pub unbound : IsUnbound p q
  pub goal_holds : Holds q a.goal
  pub template_holds : Holds q a.template
  pub witness_holds : Holds q a.by.witness
  pub result_holds : Holds q a.by.result
  pub goal_is : meaning q a.goal ≡ stripped (argument 1 t)
  pub template_is : meaning q a.template ≡ pair (goal_witness t) (argument 0 t)
  pub grouping_is : grouping_of q a.by ≡ goal_grouping sorts t
