-- Words that are read for a goal's arguments: of the engine nothing else changes.
use Rattle.std.proofs.Common.{◌≡◌, List, sym, subst, Vec, Global}
use Rattle.iso_store_core.specs.declared.stores.Store.{Ghosts}
use Rattle.iso_search.specs.EngineStates.{IsAhead, IsEngine, Represents}
use Rattle.iso_store_core.specs.Presents.{meaning, Present}
use Rattle.iso_search.specs.Settles.{MeetsRow}
use Rattle.iso_search.specs.declared.search.Search.{Search}
use Rattle.iso_model.specs.Search.Walker.{State}
use Rattle.iso_model.specs.Terms.Trees.{Tree}
use Rattle.iso_store_core.specs.ArgumentWords.{AreArguments}
use Rattle.iso_search_core.specs.declared.lists.Lists as lists

-- the same words
pub slice_are : {W : Type 0} {p : Present W} {slice words : List W} {t : Tree} → slice ≡ words → AreArguments p words t → AreArguments p slice t
slice_are {p = p} {t = t} same are = subst (λ (ws : List _). AreArguments p ws t) (sym same) are

-- the store is as it was
pub arguments_still : {W : Type 0} (p q : Present W) (words : List W) (goal : W) → q ≡ p → AreArguments p words (meaning p goal) → AreArguments q words (meaning q goal)
arguments_still p q words goal same are = subst (λ (x : Present _). AreArguments x words (meaning x goal)) (sym same) are

-- the engine with other words
abbrev pub worded : {S L W M K P C N B O : Type 0} → Search S L W M K P C N B O → Vec W Global → Search S L W M K P C N B O
worded e words = record e { words = words }

module _ {S L W M K P C N B O : Type 0} (g : Ghosts S W M) (l : lists.Ghosts L S K P C N B O W M) where
  pub engine_worded : (e : Search S L W M K P C N B O) (words : Vec W Global) {s : State} → IsEngine g l e s → IsEngine g l (worded e words) s
  engine_worded e words h = record { world = h.world; steps = h.steps; base = h.base; choices = h.choices; room = h.room; fits = h.fits; next = h.next }

  pub ahead_worded : (e : Search S L W M K P C N B O) (words : Vec W Global) {s : State} {place : P} → IsAhead g l e s place → IsAhead g l (worded e words) s place
  ahead_worded e words h = record { world = h.world; steps = h.steps; base = h.base; choices = h.choices; room = h.room; fits = h.fits; goes = h.goes; chain = h.chain }

  pub represents_worded : (e : Search S L W M K P C N B O) (words : Vec W Global) {s : State} → Represents g l e s → Represents g l (worded e words) s
  represents_worded e words r = record { own = r.own; engine = engine_worded e words r.engine; same = r.same }

  pub meets_worded : (e : Search S L W M K P C N B O) (words : Vec W Global) {goal : W} {s : State} {place : P} → MeetsRow g l e goal s place → MeetsRow g l (worded e words) goal s place
  meets_worded e words h =
      record { ahead = ahead_worded e words h.ahead; space = h.space; holds = h.holds }
