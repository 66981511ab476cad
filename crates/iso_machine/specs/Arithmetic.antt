-- What the step of arithmetic took that the code of a frame has.
use Rattle.std.specs.Prelude.{◌≡◌, ◌≢◌, ◌≤◌, ℕ, ◌-◌, List, ◌∷◌, Some, Err, Result}
use Rattle.iso_model.specs.Terms.Trees.{Tree}
use Rattle.iso_model.specs.Terms.Substitutions.{apply}
use Rattle.iso_model.specs.Search.Bodies.{Run}
use Rattle.iso_model.specs.Search.Library.{library_answer}
use Rattle.iso_model.specs.Search.Walker.{Member, Goal}
use Rattle.iso_model.specs.Search.RunLaws.Sameness.{open_list}
use Rattle.iso_model.specs.declared.kinds.Library.{Library}
use Rattle.iso_model.specs.declared.built_ins.BuiltIn.TheVariants as built_in
use Rattle.iso_store_core.specs.Retaining.{RetainsAll, Takes}
use Rattle.iso_store_core.specs.declared.stores.Store.{Ghosts}
use Rattle.iso_lib_core.specs.Cells.{made_for}
use Rattle.iso_lib_core.specs.declared.outcomes.Reply.{Reply}
use Rattle.iso_lib_core.specs.declared.outcomes.Fault.{Fault}
use Rattle.iso_lib_core.specs.declared.outcomes.Fault.TheVariants as fault
use Rattle.iso_search_core.specs.GoalKinds.{IsBuiltIn}
use Rattle.iso_search_core.specs.declared.nows.Now.TheVariants as now
use Rattle.iso_frames.specs.declared.frames.Rest.{Rest}
use Rattle.iso_frames.specs.declared.frames.Next.TheVariants as next
use Rattle.iso_frames.specs.declared.frames.Next.{Next}
use Rattle.iso_frames.specs.declared.frames.Work.{Work}
use Rattle.iso_frames.specs.declared.frames.Work.TheVariants.{Clause, Member as OneMember}
use Rattle.iso_frames.specs.Costs.{first_cost}
use Rattle.iso_frames.specs.Frames.{Chain}
use Rattle.iso_frames.specs.Running.{Stops}
use Rattle.iso_model.specs.Search.Engines.{IsAwake}
use Rattle.iso_search.specs.EngineStates.{IsBehind, phase_of}
use Rattle.iso_search_core.specs.Costs.{now_cost}
use Rattle.iso_environments.specs.Answering.{IsArithmeticThere, HasAnswered}
use Rattle.iso_machine.specs.Lists.{IsList, cost_at, extent_of, stack_of}
use Rattle.iso_machine.specs.Engines.{Engine, framed}

-- The arithmetic that comes first took its step and was answered: the store is what the answer made of it, and of the
-- lists the list of values alone is another.
pub record HasComputed {S W M : Type 0} (g : Ghosts S W M) (atom_word : ℕ → W) (e mid : Engine S W M) (r : Rest)
    (answer : Result Reply Fault) : Type 0 where
  pub doing : e.now ≡ now.Running (next.Code r)
  pub there : IsArithmeticThere e.lists.frames.items r
  pub more : e.steps ≢ 0
  pub same : mid ≡ record e { store = mid.store; lists = mid.lists; steps = e.steps - 1 }
  pub lists : mid.lists ≡ record e.lists { values = mid.lists.values }
  pub retains : RetainsAll g e.store mid.store
  pub answers : (all : List Member) → Chain atom_word (g.present e.store) (stack_of e.lists) (Some r) all
      → HasAnswered atom_word (g.present e.store) (g.present mid.store) (stack_of e.lists) r all answer
  pub cells : (all : List Member) (term : Tree) (mark : ℕ) (behind : List Member) (row : Library)
      → Chain atom_word (g.present e.store) (stack_of e.lists) (Some r) all
      → open_list all ≡ Goal (Run term) mark ∷ behind
      → IsBuiltIn (apply (g.present e.store).substitution term) (built_in.Library row)
      → Takes g e.store mid.store (made_for (library_answer row (apply (g.present e.store).substitution term)))
  pub full : answer ≡ Err fault.Full → g.full mid.store

-- an instruction of a clause stands there that does something
abbrev pub StopsThere : Work → ℕ → Type 0
StopsThere (Clause code level) address = Stops code.value address
StopsThere (OneMember todo) address = ⊥

-- The engine went on at the list from this place on, and nothing else changed.
pub record HasGone {S W M : Type 0} (g : Ghosts S W M) (atom_word : ℕ → W) (old : Engine S W M) (place : Rest) (new : Engine S W M) : Type 0 where
  pub behind : (ms : List Member) → IsList atom_word (g.present old.store) old.lists (extent_of old.lists) (Some place) ms
      → IsBehind (framed atom_word) (g.present old.store) old.lists (Some place) new.now ms
  pub cost : now_cost (λ (n : Next W). first_cost old.lists.frames.items n) new.now ≤ cost_at old.lists (Some place)
  pub awake : IsAwake (phase_of new.now)
  pub same : new ≡ record old { now = new.now }
