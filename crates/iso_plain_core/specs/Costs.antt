-- What is to be done at most of members before a goal takes a step.
use Rattle.std.specs.Prelude.{ℕ, suc, List, [], ◌∷◌, ◌++◌, Option, Some, None}
use Rattle.std.specs.List.{slice_index_or}
use Rattle.iso_plain_core.specs.declared.members.Todo.{Todo}
use Rattle.iso_plain_core.specs.declared.members.Todo.TheVariants as todo
use Rattle.iso_plain_core.specs.declared.members.Link.{Link}
use Rattle.iso_search_core.specs.Bodies.{body_cost}

-- what is to be done from a place of members on, by what is to be done from each; an answer where there is none
abbrev pub rest_cost : List ℕ → Option ℕ → ℕ
rest_cost costs None = 1
rest_cost costs (Some i) = slice_index_or costs i 0

abbrev pub todo_cost : Todo → ℕ → ℕ
todo_cost (todo.Body k) rest = body_cost k rest
todo_cost todo.CutTo rest = suc rest
todo_cost todo.Fail rest = suc rest
todo_cost todo.Leave rest = suc rest
todo_cost (todo.Gather place) rest = suc rest

abbrev pub member_cost : List ℕ → Link → ℕ
member_cost costs f = todo_cost f.todo (rest_cost costs f.next)

-- what is to be done from each of these members on, behind members with these costs
abbrev pub costs_behind : List ℕ → List Link → List ℕ
costs_behind costs [] = []
costs_behind costs (f ∷ fs) = member_cost costs f ∷ costs_behind (costs ++ member_cost costs f ∷ []) fs

abbrev pub member_costs : List Link → List ℕ
member_costs fs = costs_behind [] fs

-- what is to be done from a place of members on
abbrev pub place_cost : List Link → Option ℕ → ℕ
place_cost fs place = rest_cost (member_costs fs) place
