-- The member that comes first of the engine's list, where it is no goal.
use Rattle.std.specs.Prelude.{◌≡◌, ℕ, ◌<◌, ◌∷◌, true, List, ◌⊎◌}
use Rattle.iso_model.specs.Terms.Trees.{Tree}
use Rattle.iso_model.specs.Terms.Substitutions.{apply}
use Rattle.iso_model.specs.Search.Bodies.{Cut}
use Rattle.iso_model.specs.Search.Walker.{State, Member, Goal, CutTo, Fail, Leave, Gather}
use Rattle.iso_store_core.specs.Presents.{meaning}
use Rattle.iso_store_core.specs.declared.stores.Store.{Ghosts}
use Rattle.iso_search_core.specs.declared.lists.Lists as lists
use Rattle.iso_search_core.specs.declared.nows.Now.TheVariants as now
use Rattle.iso_search.specs.declared.search.Search.{Search}
use Rattle.iso_search.specs.EngineStates.{IsEngine, IsAtMember}

-- a cut back to so many choices
abbrev pub IsCut : ℕ → Member → Type 0
IsCut height m = (m ≡ CutTo height) ⊎ (m ≡ Goal Cut height)

-- the end of a catch
abbrev pub IsLeave : Member → Type 0
IsLeave m = (height : ℕ) × (m ≡ Leave height)

module _ {S L W M K P C N B O : Type 0} (g : Ghosts S W M) (l : lists.Ghosts L S K P C N B O W M) where
  -- The engine, in each state that it is, has such a member first, and the list from the place on behind it; less is to
  -- be done there.
  pub record IsFirst (e : Search S L W M K P C N B O) (Is : Member → Type 0) (rest : P) : Type 0 where
    pub first : N
    pub running : e.now ≡ now.Running first
    pub at : (s : State) → IsEngine g l e s → (m : Member) × Is m × IsAtMember g l e s m rest
    pub less : l.cost e.lists rest < l.first_cost e.lists first

  -- It fails next.
  pub record FailsFirst (e : Search S L W M K P C N B O) : Type 0 where
    pub first : N
    pub running : e.now ≡ now.Running first
    pub at : (s : State) → IsEngine g l e s → (behind : List Member) × (s.list ≡ Fail ∷ behind)
    pub less : 0 < l.first_cost e.lists first

  -- It gathers a copy of this template at the choice of this height.
  pub record GathersFirst (e : Search S L W M K P C N B O) (height : ℕ) (template : W) : Type 0 where
    pub first : N
    pub running : e.now ≡ now.Running first
    pub at : (s : State) → IsEngine g l e s → (t : Tree) × (behind : List Member) × (s.list ≡ Gather height t ∷ behind) × (apply s.subst t ≡ meaning (g.present e.store) template)
    pub holds : (g.present e.store).holds template ≡ true
    pub less : 0 < l.first_cost e.lists first
