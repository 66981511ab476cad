-- How many cells running a goal of a built-in makes at most (own).
use Rattle.std.specs.Prelude.{ℕ, ◌+◌}
use Rattle.iso_model.specs.Terms.Trees.{Tree, Integer, Name}
use Rattle.iso_model.specs.Terms.Sizes.{size}
use Rattle.iso_store_core.specs.Copying.{wide_cells}
use Rattle.iso_model.specs.Search.Replies.{Answer, Fail, Succeed, Equate, EquateCopy, Raise}

-- what the answer counts: what it makes for the equation, or the copy and what it is unified with
abbrev pub made_for : Answer → ℕ
made_for Fail = 0
made_for Succeed = 0
made_for (Equate made a b) = made
made_for (EquateCopy a b) = 1 + size b
made_for (Raise error) = 0

-- so many cells the copy of this term makes
abbrev pub copy_cells : Tree → ℕ
copy_cells (Integer z) = wide_cells z
copy_cells (Name a) = 0
copy_cells t = size t
