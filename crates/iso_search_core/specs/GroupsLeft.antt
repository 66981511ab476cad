-- Choices at which groups of solutions are left to be met (ISO/IEC 13211-1:1995, 8.10.2, 8.10.3).
use Rattle.std.specs.Prelude.{◌≡◌, List}
use Rattle.std.specs.List.{All}
use Rattle.iso_model.specs.Search.Groups.{groups_of}
use Rattle.iso_lib_core.specs.declared.collecting.Meeting.{Meeting}
use Rattle.iso_lib_core.specs.declared.groups.Group.{Group}
use Rattle.iso_lib_core.specs.Groupings.{IsWhole}
use Rattle.iso_search_core.specs.declared.choices.Left.{Left}
use Rattle.iso_search_core.specs.declared.choices.Left.TheVariants as left
use Rattle.iso_search_core.specs.Solutions.{pairs_of}
use Rattle.iso_search_core.specs.Standing.{groups_in}

-- Groups are left: of what was gathered, or those that are still to come.
abbrev pub LeavesGroups : {W C : Type 0} → Left W C → Type 0
LeavesGroups (left.Grouping by pairs) = Unit {0}
LeavesGroups (left.Groups by groups) = Unit {0}
LeavesGroups l = ⊥

-- They are these, and come so.
abbrev pub AreGroupsLeft : {W C : Type 0} → Left W C → Meeting W → List Group → Type 0
AreGroupsLeft (left.Grouping by pairs) x groups =
    (x ≡ by) × (groups_in groups ≡ groups_of (pairs_of pairs)) × All IsWhole groups
AreGroupsLeft (left.Groups by gs) x groups = (x ≡ by) × (groups ≡ gs.items)
AreGroupsLeft l x groups = ⊥
