-- What is left of an engine that stops.
use Rattle.std.proofs.Common.{◌≡◌, List, [], refl, inr, arith, Vec, Global}
use Rattle.iso_model.specs.Search.Walker.{Alternative, State, World}
use Rattle.iso_store_core.specs.declared.stores.Store.{Ghosts}
use Rattle.iso_model.specs.Search.Runs.{here}
use Rattle.iso_store_core.specs.Presents.{KeepsMarks}
use Rattle.iso_atoms.specs.Texts.{KeepsTexts}
use Rattle.iso_search_core.specs.Standing.{none_kept}
use Rattle.iso_search.specs.declared.search.Search.{Search}
use Rattle.iso_model.specs.Terms.Trees.{Variable}
use Rattle.iso_search_core.specs.declared.lists.Lists as lists
use Rattle.iso_search_core.specs.declared.choices.Choice as kept
use Rattle.iso_search_core.specs.Standing as standing
use Rattle.iso_search_core.proofs.FittingLemmas.{fits_fewer}
use Rattle.iso_search.specs.Starts.{IsFresh}
use Rattle.iso_search.specs.EngineStates.{Remains, IsBase, IsEngine, Keeps, Stopped}
use Rattle.iso_search.proofs.WorldLemmas.{world_on, choices_kept, choices_grown}

-- the mark for the empty store behind calls that keep marks
pub base_kept : {S W M : Type 0} (g : Ghosts S W M) (old new : S) (base : M) → KeepsMarks (g.stands old) (g.stands new) → IsBase g old base → IsBase g new base
base_kept g old new base keeps b = record { present = b.present; stands_for = keeps base b.present b.stands_for; substitution = b.substitution; next = b.next; cells = b.cells; variables = b.variables }

module _ {S L W M K P C N B O : Type 0} (g : Ghosts S W M) (l : lists.Ghosts L S K P C N B O W M) where
  -- the parts of an engine that is awake
  pub keeps_all : (e : Search S L W M K P C N B O) (s : State) → IsEngine g l e s → Keeps g l e s.world s.stack
  keeps_all e s is = (is.world, is.base, (s.query, is.choices))

  -- and its store
  pub remains_all : (e : Search S L W M K P C N B O) (s : State) → IsEngine g l e s → Remains g l e s
  remains_all e s is = (keeps_all e s is, fits_fewer g (g.present e.store) s (omega arith) is.fits)

  -- those of one that was cleared
  pub keeps_none : (e : Search S L W M K P C N B O) (w : World) → IsFresh g l e w → Keeps g l e w []
  keeps_none e w fresh = (fresh.world, fresh.base, (Variable 0, rw fresh.choices none_kept))

  -- a store that keeps its marks, and lists that keep what they have
  pub keeps_more : (e : Search S L W M K P C N B O) (store : S) (more : L) (w : World) (ks : List Alternative) → Keeps g l e w ks → KeepsMarks (g.stands e.store) (g.stands store) → KeepsTexts (g.names e.store) (g.names store)
      → standing.Keeps l e.lists more → Keeps g l (record e { store = store; lists = more }) w ks
  keeps_more e store more w ks k keeps texts grows =
      (world_on l texts k.0, base_kept g e.store store e.base keeps k.1, (k.2.0, choices_grown l texts grows (λ d p among stood. keeps d.mark p stood) k.2.1))

  pub keeps_store : (e : Search S L W M K P C N B O) (store : S) (w : World) (ks : List Alternative) → Keeps g l e w ks → KeepsMarks (g.stands e.store) (g.stands store) → KeepsTexts (g.names e.store) (g.names store)
      → Keeps g l (record e { store = store }) w ks
  keeps_store e store w ks k keeps texts =
      (world_on l texts k.0, base_kept g e.store store e.base keeps k.1, (k.2.0, choices_kept l texts (λ d p among stood. keeps d.mark p stood) k.2.1))

  pub keeps_lists : (e : Search S L W M K P C N B O) (more : L) (w : World) (ks : List Alternative) → Keeps g l e w ks → standing.Keeps l e.lists more → Keeps g l (record e { lists = more }) w ks
  keeps_lists e more w ks k grows = keeps_more e e.store more w ks k (λ m p h. h) (λ place text h. h) grows

  -- no choice came
  pub keeps_choices : (e : Search S L W M K P C N B O) (choices : Vec (kept.Choice W M K P C) Global) (w : World) (ks : List Alternative) → choices.items ≡ e.choices.items → Keeps g l e w ks → Keeps g l (record e { choices = choices }) w ks
  keeps_choices e choices w ks same k = (k.0, k.1, (k.2.0, rw same k.2.1))

  -- the choices were dropped
  pub keeps_bare : (e : Search S L W M K P C N B O) (choices : Vec (kept.Choice W M K P C) Global) (w : World) (ks : List Alternative) → choices.items ≡ [] → Keeps g l e w ks → Keeps g l (record e { choices = choices }) w []
  keeps_bare e choices w ks none k = (k.0, k.1, (Variable 0, rw none none_kept))

  -- no goal was started
  pub stopped_before : (e : Search S L W M K P C N B O) (s : State) → Keeps g l e s.world [] → Stopped g l e s
  stopped_before e s keeps = record { at = s; quiet = here; stack = []; keeps = keeps; alternatives = inr refl }
