-- Goals of findall/3, as the engine comes to them (ISO/IEC 13211-1:1995, 8.10.1).
use Rattle.std.specs.Prelude.{◌≡◌, suc, ◌+◌, ◌*◌, ◌≤◌, List, [], ◌∷◌, length, true}
use Rattle.iso_model.specs.Terms.Trees.{Tree}
use Rattle.iso_model.specs.Terms.Arguments.{arity, argument}
use Rattle.iso_model.specs.Terms.Substitutions.{apply}
use Rattle.iso_model.specs.Terms.Sizes.{size}
use Rattle.iso_model.specs.Terms.Lists.{list_of}
use Rattle.iso_model.specs.Search.Bodies.{Body, body_term, map_body}
use Rattle.iso_model.specs.Search.Replies.{AsList}
use Rattle.iso_model.specs.Search.Walker.{State, Goal, Gather, Gathering, pushed, equated_copy}
use Rattle.iso_store_core.specs.Presents.{Present, meaning}
use Rattle.iso_store_core.specs.declared.stores.Store.{Ghosts}
use Rattle.iso_search_core.specs.declared.lists.Lists as lists
use Rattle.iso_search.specs.declared.search.Move.{Move}
use Rattle.iso_search.specs.declared.search.Move.TheVariants as move
use Rattle.iso_search.specs.declared.search.Search.{Search}
use Rattle.iso_search_core.specs.Standing.{most_numbers, numbers_a_step}
use Rattle.iso_search.specs.EngineStates.{IsAhead, WasCalled}

-- the template, the goal and the result of a goal of findall/3
abbrev pub template_of : {W : Type 0} → Present W → W → Tree
template_of p goal = argument 0 (meaning p goal)

abbrev pub solved_of : {W : Type 0} → Present W → W → Tree
solved_of p goal = argument 1 (meaning p goal)

abbrev pub result_of : {W : Type 0} → Present W → W → Tree
result_of p goal = argument 2 (meaning p goal)

-- this body is run for all of its solutions, before the list
abbrev pub finding : Body → Tree → Tree → State → State
finding b template result s =
    record (pushed s.list (Gathering (AsList result) [] 0) s) { list = Goal b (suc (length s.stack)) ∷ Gather (length s.stack) template ∷ s.list }

-- the result is unified with the list of these copies
abbrev pub found : Tree → List Tree → State → State
found result copies s = equated_copy (size (list_of copies)) result (list_of copies) s.list s

module _ {S L W M K P C N B O : Type 0} (g : Ghosts S W M) (l : lists.Ghosts L S K P C N B O W M) where
  -- The engine, in this state, is about to run this goal of findall/3, with its members from this place of the
  -- members on behind it.
  pub record EntersFindall (e : Search S L W M K P C N B O) (goal : W) (s : State) (place : P) : Type 0 where
    pub ahead : IsAhead g l e s place
    pub space : s.next + numbers_a_step * (e.steps + 1) ≤ most_numbers
    pub holds : (g.present e.store).holds goal ≡ true
    pub three : arity (meaning (g.present e.store) goal) ≡ 3

  -- The goal with this body is run for all of its solutions: the engine has a template and a body of the same values.
  -- Or no choice may be made any more.
  abbrev pub FindsAll : Move → Search S L W M K P C N B O → Tree → Tree → Body → State → Type 0
  FindsAll move.Goes e template result b s =
      (t : Tree) × (own : Body) × (apply s.subst t ≡ template) × (map_body s.subst own ≡ b) × WasCalled g l move.Goes e s (record (finding own t result s) { built = s.built + size (body_term b) })
  FindsAll (move.Pauses p) e template result b s = WasCalled g l (move.Pauses p) e s s
