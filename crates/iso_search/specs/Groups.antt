-- Goals of bagof/3 and setof/3, as the engine comes to them, and the groups of their solutions (ISO/IEC 13211-1:1995,
-- 8.10.2, 8.10.3).
use Rattle.std.specs.Prelude.{◌≡◌, suc, ◌+◌, ◌*◌, ◌≤◌, ◌<◌, List, [], ◌∷◌, length, Bool, true}
use Rattle.std.specs.List.{All}
use Rattle.iso_model.specs.Terms.Trees.{Tree, arities_fit}
use Rattle.iso_model.specs.Terms.Lists.{list_of}
use Rattle.iso_model.specs.Terms.Substitutions.{apply}
use Rattle.iso_model.specs.Terms.Sizes.{size}
use Rattle.iso_model.specs.Search.Bodies.{Body, body_term, map_body}
use Rattle.iso_model.specs.Search.RunLaws.Sameness.{IsTwice}
use Rattle.iso_model.specs.Search.Groups.{groups_of}
use Rattle.iso_model.specs.Search.Replies.{Grouping, InGroups}
use Rattle.iso_model.specs.Search.Walker.{State, Left, Goal, Gather, Gathering, Groups, pushed, with_template, grouped}
use Rattle.iso_atoms.specs.Texts.{KeepsTexts}
use Rattle.iso_store_core.specs.Presents.{Present, meaning}
use Rattle.iso_store_core.specs.declared.stores.Store.{Ghosts}
use Rattle.iso_lib_core.specs.declared.collecting.Meeting.{Meeting}
use Rattle.iso_lib_core.specs.declared.groups.Group.{Group}
use Rattle.iso_search_core.specs.declared.lists.Lists as lists
use Rattle.iso_search_core.specs.declared.choices.Left as engine
use Rattle.iso_search_core.specs.declared.choices.Left.TheVariants as left
use Rattle.iso_search_core.specs.Solutions.{pairs_of}
use Rattle.iso_search_core.specs.Fitting.{FitsState}
use Rattle.iso_search_core.specs.Standing.{IsGroup, grouping_of, groups_in, most_numbers, numbers_a_step}
use Rattle.iso_search.specs.declared.search.Move.{Move}
use Rattle.iso_search.specs.declared.search.Move.TheVariants as move
use Rattle.iso_search.specs.declared.search.Search.{Search}
use Rattle.iso_search.specs.Worlds.{IsWorld}
use Rattle.iso_search.specs.EngineStates.{IsAhead, IsBase, WasCalled}

-- behind the template that was made for this: what is to be gathered comes in groups
abbrev pub gathering_groups : Grouping → State → State
gathering_groups by s = pushed s.list (Gathering (InGroups by) [] 0) (with_template (InGroups by) s)

-- at an alternative these groups are left, which come so
abbrev pub AreGroups : Left → Grouping → List (List Tree) → Type 0
AreGroups (Gathering (InGroups by) copies count) x gs = (x ≡ by) × (gs ≡ groups_of copies)
AreGroups (Groups by groups) x gs = (x ≡ by) × (gs ≡ groups)
AreGroups l x gs = ⊥

-- this body is run for all of its solutions, before the list
abbrev pub finding_groups : Body → Tree → Grouping → State → State
finding_groups b template by s =
    record (gathering_groups by s) { list = Goal b (suc (length s.stack)) ∷ Gather (length s.stack) template ∷ s.list }

-- These groups are left at an alternative, where a store can hold them.
abbrev pub IsLeftFor : {W C : Type 0} → Present W → engine.Left W C → Left → Type 0
IsLeftFor p (left.Grouping by pairs) x =
    (p.holds by.witness ≡ true) × (p.holds by.result ≡ true)
    × (x ≡ Gathering (InGroups (grouping_of p by)) (pairs_of pairs) pairs.variables)
    × (arities_fit (list_of (pairs_of pairs)) ≡ true)
IsLeftFor p (left.Groups by groups) x =
    (p.holds by.witness ≡ true) × (p.holds by.result ≡ true)
    × (x ≡ Groups (grouping_of p by) (groups_in groups.items)) × All IsGroup groups.items × (0 < length groups.items)
IsLeftFor p l x = ⊥

module _ {S L W M K P C N B O : Type 0} (g : Ghosts S W M) (l : lists.Ghosts L S K P C N B O W M) where
  -- The goal with this body is run for all of its solutions: the engine has a template and a body of the same values.
  -- Or no choice may be made any more.
  abbrev pub FindsGroups : Move → Search S L W M K P C N B O → Tree → Grouping → Body → State → Type 0
  FindsGroups move.Goes e template by b s =
      (t : Tree) × (own : Body) × (apply s.subst t ≡ template) × (map_body s.subst own ≡ b)
      × WasCalled g l move.Goes e s (record (finding_groups own t by s) {
        built = (with_template (InGroups by) s).built + size (body_term b);
      })
  FindsGroups (move.Pauses p) e template by b s = WasCalled g l (move.Pauses p) e s s

  -- The engine, in this state, is about to meet the first of these groups, with its members from this place on behind
  -- it.
  pub record MeetsGroups (e : Search S L W M K P C N B O) (by : Meeting W) (groups : List Group) (s : State) (place : P) : Type 0 where
    pub ahead : IsAhead g l e s place
    pub space : s.next + numbers_a_step * (e.steps + 1) ≤ most_numbers
    pub witness : (g.present e.store).holds by.witness ≡ true
    pub result : (g.present e.store).holds by.result ≡ true
    pub each : All IsGroup groups
    pub twice : IsTwice s.subst

  -- It is about to meet the first of the groups that this leaves, which was left at an alternative.
  pub record MeetsLeft (e : Search S L W M K P C N B O) (left : engine.Left W C) (s : State) (x : Left) (place : P) : Type 0 where
    pub ahead : IsAhead g l e s place
    pub space : s.next + numbers_a_step * (e.steps + 1) ≤ most_numbers
    pub left_is : IsLeftFor (g.present e.store) left x
    pub twice : IsTwice s.subst

  -- what this comes to
  abbrev pub met_groups : Search S L W M K P C N B O → Meeting W → List Group → State → State
  met_groups e by groups s = grouped (grouping_of (g.present e.store) by) (groups_in groups) s.list s

  -- Of an engine that was stopped at a group its world is left, and its store fits what that came to.
  pub record StoppedAt (e : Search S L W M K P C N B O) (s t : State) : Type 0 where
    pub world : IsWorld g l e s.world
    pub base : IsBase g e.store e.base
    pub fits : FitsState g (g.present e.store) 0 t

-- What moves at groups leave as it was, where a choice may come in the place of one that went.
pub record KeepsRest {S L W M K P C N B O : Type 0} (g : Ghosts S W M) (old new : Search S L W M K P C N B O) : Type 0 where
  pub limit : new.limit ≡ old.limit
  pub vocabulary : new.vocabulary ≡ old.vocabulary
  pub names_kept : KeepsTexts (g.names old.store) (g.names new.store)
  pub base : (p : Present W) → g.stands old.store old.base p → g.stands new.store new.base p
  pub more : length new.choices.items ≤ length old.choices.items + 1
