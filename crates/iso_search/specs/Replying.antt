-- What the step of a built-in's goal took.
use Rattle.std.specs.Prelude.{◌≡◌, ◌≢◌, ◌-◌, List}
use Rattle.iso_atoms.specs.Texts.{KeepsTexts}
use Rattle.iso_model.specs.Search.BuiltIns.{reply}
use Rattle.iso_model.specs.Search.Walker.{Member}
use Rattle.iso_model.specs.declared.built_ins.BuiltIn.{BuiltIn}
use Rattle.iso_store_core.specs.ArgumentWords.{AreArguments}
use Rattle.iso_store_core.specs.Presents.{KeepsMarks, KeepsWords, meaning}
use Rattle.iso_store_core.specs.Retaining.{Takes}
use Rattle.iso_store_core.specs.declared.stores.Store.{Ghosts}
use Rattle.iso_search_core.specs.Cells.{reply_cells}
use Rattle.iso_search_core.specs.GoalKinds.{IsBuiltIn}
use Rattle.iso_search_core.specs.declared.lists.Lists as lists
use Rattle.iso_search_core.specs.declared.replies.Replied.{Replied}
use Rattle.iso_search_core.specs.Replies.{IsReply, Asks}
use Rattle.iso_search_core.specs.Standing as standing
use Rattle.iso_search.specs.declared.search.Search.{Search}
use Rattle.iso_search.specs.Nexts.{IsGoalFirst}

module _ {S L W M K P C N B O : Type 0} (g : Ghosts S W M) (l : lists.Ghosts L S K P C N B O W M) where
  -- The goal that comes first is one of this built-in, and took its step: store and lists are what the reply made of
  -- them, and a list that stood before still stands where words have their terms.
  pub record TookStep (e new : Search S L W M K P C N B O) (goal : W) (rest : P) (b : BuiltIn) : Type 0 where
    pub first : IsGoalFirst g l e goal rest
    pub more : e.steps ≢ 0
    pub is_own : IsBuiltIn (meaning (g.present e.store) goal) b
    pub same : new ≡ record e { store = new.store; lists = new.lists; steps = e.steps - 1; words = new.words }
    pub keeps : KeepsMarks (g.stands e.store) (g.stands new.store)
    pub texts : KeepsTexts (g.names e.store) (g.names new.store)
    pub grows : standing.Keeps l e.lists new.lists
    pub cost : l.cost new.lists rest ≡ l.cost e.lists rest
    pub pending : l.pending new.lists rest ≡ l.pending e.lists rest
    pub cells : Takes g e.store new.store (reply_cells (reply b (meaning (g.present e.store) goal)))
    pub behind : (ms : List Member) → KeepsWords (g.present e.store) (g.present new.store) → l.list (g.present e.store) e.lists (l.whole e.lists) rest ms → l.list (g.present new.store) new.lists (l.whole new.lists) rest ms

  -- The reply is this, and its arguments were read.
  pub record HasReplied (e new : Search S L W M K P C N B O) (goal : W) (rest : P) (b : BuiltIn) (answer : Replied B) : Type 0 where
    pub took : TookStep e new goal rest b
    pub replies : IsReply l (g.present e.store) (g.present new.store) e.lists new.lists (reply b (meaning (g.present e.store) goal)) answer
    pub asks : Asks b answer
    pub arguments : AreArguments (g.present e.store) new.words.items (meaning (g.present e.store) goal)
