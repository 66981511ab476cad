-- Goals whose arguments are unified with rows, as the engine comes to them (ISO/IEC 13211-1:1995, 8.14.3, 8.14.4,
-- 8.16.2, 8.16.3, 8.17.1, 8.17.2).
use Rattle.std.specs.Prelude.{◌≡◌, ◌+◌, ◌*◌, ◌≤◌, ℕ, List, ◌∷◌, true, ◌⊎◌}
use Rattle.iso_model.specs.Terms.Arguments.{arity}
use Rattle.iso_model.specs.Search.Settings.{setting_arity}
use Rattle.iso_model.specs.Search.Walker.{State, Alternative, Offered, with_rights}
use Rattle.iso_model.specs.declared.kinds.Setting.{Setting}
use Rattle.iso_model.specs.Search.AtomParts.{part_arity}
use Rattle.iso_model.specs.declared.kinds.AtomPart.{AtomPart}
use Rattle.iso_store_core.specs.Presents.{meaning}
use Rattle.iso_store_core.specs.declared.stores.Store.{Ghosts}
use Rattle.iso_search_core.specs.declared.lists.Lists as lists
use Rattle.iso_search_core.specs.declared.offers.OfferedRow.{OfferedRow}
use Rattle.iso_model.specs.Search.Settlements as walker
use Rattle.iso_search_core.specs.Offers.{goal_arguments, row_offer, IsRow}
use Rattle.iso_search_core.specs.Fitting.{FitsState}
use Rattle.iso_search_core.specs.Standing.{most_numbers, numbers_a_step}
use Rattle.iso_search.specs.declared.search.Search.{Search}
use Rattle.iso_search.specs.EngineStates.{IsAhead, Remains, Keeps, went_back}

module _ {S L W M K P C N B O : Type 0} (g : Ghosts S W M) (l : lists.Ghosts L S K P C N B O W M) where
  -- The engine, in this state, is about to unify the arguments of this goal with a row, before its members from this
  -- place of the members on.
  pub record MeetsRow (e : Search S L W M K P C N B O) (goal : W) (s : State) (place : P) : Type 0 where
    pub ahead : IsAhead g l e s place
    pub space : s.next + numbers_a_step * (e.steps + 1) ≤ most_numbers
    pub holds : (g.present e.store).holds goal ≡ true

  -- The engine, in this state, is about to run this goal of this row, with its members from this place of the members
  -- on behind it.
  pub record AsksAt (e : Search S L W M K P C N B O) (row : Setting) (goal : W) (s : State) (place : P) : Type 0 where
    pub meets : MeetsRow e goal s place
    pub arity_is : arity (meaning (g.present e.store) goal) ≡ setting_arity row

  -- so where it is a goal of this row, which takes atoms apart
  pub record PartsAt (e : Search S L W M K P C N B O) (row : AtomPart) (goal : W) (s : State) (place : P) : Type 0 where
    pub meets : MeetsRow e goal s place
    pub arity_is : arity (meaning (g.present e.store) goal) ≡ part_arity row

  -- The engine, in this state, is about to unify the arguments of this goal with the first row that was left at its
  -- newest alternative.
  pub record MeetsNext (e : Search S L W M K P C N B O) (goal : W) (place : P) (s : State) (a : Alternative) (below : List Alternative) (row : OfferedRow) : Type 0 where
    pub made : ℕ
    pub others : List walker.Offer
    pub left : a.left ≡ Offered (goal_arguments (meaning (g.present e.store) goal)) (row_offer made (meaning (g.present e.store) goal) row ∷ others)
    pub of : IsRow (meaning (g.present e.store) goal) row
    pub meets : MeetsRow e goal (with_rights (goal_arguments (meaning (g.present e.store) goal)) others a.list (went_back a below s)) place

  -- The goal was refused: before it came to anything, or with the rows behind the first as an alternative; then the
  -- store fits what it came to.
  abbrev pub WasStopped : Search S L W M K P C N B O → State → State → Type 0
  WasStopped e s t = Remains g l e s ⊎ ((t.world ≡ s.world) × Keeps g l e s.world t.stack × FitsState g (g.present e.store) 0 t)
