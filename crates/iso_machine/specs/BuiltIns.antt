-- What running a goal of a built-in came to, of which the machine has the name and words for the arguments.
use Rattle.std.specs.Prelude.{◌≡◌, ◌≢◌, ◌-◌, ℕ, Option, Result, Err}
use Rattle.iso_model.specs.Search.BuiltIns.{answered, reply}
use Rattle.iso_model.specs.Search.Replies.{Answer}
use Rattle.iso_model.specs.declared.built_ins.BuiltIn.{BuiltIn}
use Rattle.iso_store_core.specs.Retaining.{Retains, Takes}
use Rattle.iso_store_core.specs.declared.stores.Store.{Ghosts}
use Rattle.iso_lib_core.specs.Cells.{made_for}
use Rattle.iso_lib_core.specs.Replies.{IsReply}
use Rattle.iso_lib_core.specs.declared.outcomes.Fault.{Fault}
use Rattle.iso_lib_core.specs.declared.outcomes.Fault.TheVariants as fault
use Rattle.iso_lib_core.specs.declared.outcomes.Reply.{Reply}
use Rattle.iso_search_core.specs.GoalKinds.{IsBuiltIn}
use Rattle.iso_frames.specs.declared.frames.Rest.{Rest}
use Rattle.iso_machine.specs.Engines.{Engine}
use Rattle.iso_machine.specs.GoalCalls.{IsCallPut, goal_put}

module _ {S W M : Type 0} (g : Ghosts S W M) (atom_word : ℕ → W) where
  -- The goal of this name whose arguments were put is one of a built-in. It took its step, and was answered as the
  -- table says: of the engine the store alone is another, which the answer made.
  pub record HasRun (old e mid : Engine S W M) (name : ℕ) (behind : Option Rest) (room : ℕ)
      (answer : Result Reply Fault) : Type 0 where
    pub put : IsCallPut g atom_word old e name behind room
    pub more : e.steps ≢ 0
    pub built_in : BuiltIn
    pub is_own : IsBuiltIn (goal_put g atom_word e name) built_in
    pub table : Answer
    pub says : reply built_in (goal_put g atom_word e name) ≡ answered table
    pub same : mid ≡ record e { store = mid.store; steps = e.steps - 1 }
    pub retains : Retains g e.store mid.store
    pub replies : IsReply (g.present e.store) (g.present mid.store) table answer
    pub cells : Takes g e.store mid.store (made_for table)
    pub full : answer ≡ Err fault.Full → g.full mid.store
