-- The member that comes first, as the moves have it.
use Rattle.std.specs.Prelude.{◌≡◌, ℕ}
use Rattle.iso_plain_core.specs.declared.members.Link.{Link}
use Rattle.iso_plain_core.specs.declared.members.Todo.{Todo}
use Rattle.iso_search_core.specs.declared.nows.Now.{Now}
use Rattle.iso_search_core.specs.declared.nows.Now.TheVariants as now
use Rattle.iso_control.specs.declared.control.First.{First}
use Rattle.iso_control.specs.Members.{plain_link}

-- its link
abbrev pub link_of : {P : Type 0} → First P → Link
link_of f = plain_link f.todo f.height

-- It is what comes next, before the list.
abbrev pub Begins : {N P : Type 0} → (N → Todo → ℕ → P → Type 0) → Now N P → First P → Type 0
Begins {N = N} leads next f = (n : N) × (next ≡ now.Running n) × leads n f.todo f.height f.behind
