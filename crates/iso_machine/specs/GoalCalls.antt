-- A goal of which the machine has the name and words for the arguments, as it is called.
use Rattle.std.specs.Prelude.{◌≡◌, ◌≢◌, ◌≤◌, ◌<◌, ◌+◌, ◌*◌, ℕ, List, ◌∷◌, length, map, Option}
use Rattle.std.specs.List.{All}
use Rattle.iso_atoms.specs.Texts.{text_at}
use Rattle.iso_model.specs.Terms.Trees.{Tree}
use Rattle.iso_model.specs.Terms.Substitutions.{apply}
use Rattle.iso_model.specs.Search.Bodies.{Run}
use Rattle.iso_model.specs.Search.Clashes.{EachEnters}
use Rattle.iso_model.specs.Search.Databases as databases
use Rattle.iso_model.specs.Search.Walker.{State, World, Goal, Member}
use Rattle.iso_model.proofs.Search.RunLaws.Likeness.{Alike}
use Rattle.iso_db.specs.declared.keyed.KeyedView.{KeyedView}
use Rattle.iso_store_core.specs.Presents.{Holds, meaning}
use Rattle.iso_store_core.specs.declared.stores.Store.{Ghosts}
use Rattle.iso_search_core.specs.Fitting.{FitsState}
use Rattle.iso_search_core.specs.Standing.{most_numbers, numbers_a_step}
use Rattle.iso_frames.specs.declared.frames.Rest.{Rest}
use Rattle.iso_environments.specs.Goals.{goal_of}
use Rattle.iso_search.specs.Called.{CallsAt}
use Rattle.iso_search.specs.EngineStates.{IsAhead, IsAtMember, Represents, cost, cost_from, leaves_of, weight}
use Rattle.iso_search.specs.Nexts.{IsGoalFirst}
use Rattle.iso_search.specs.Stays.{Stays}
use Rattle.iso_search.specs.Worlds.{IsWorld}
use Rattle.iso_machine.specs.Engines.{Engine, framed}
use Rattle.iso_machine.specs.Lists.{IsPut, pending_at}

module _ {S W M : Type 0} (g : Ghosts S W M) (atom_word : ℕ → W) where
  -- the goal of this name whose arguments were put
  abbrev pub goal_put : Engine S W M → ℕ → Tree
  goal_put e name = goal_of (text_at (g.names e.store) name) (map (meaning (g.present e.store)) e.lists.arguments.items)

  -- The engine, in this state, is about to try the first of these clauses for the goal whose arguments were put, before
  -- the list from the place on. The goal may enter each of them, as first arguments show.
  pub record CallsPut (e : Engine S W M) (clause : ℕ) (later : KeyedView) (name : ℕ) (rest : Option Rest) (s : State)
      (goal : Tree) (c : databases.Clause) (cs : List databases.Clause) (behind : List Member) : Type 0 where
    pub ahead : IsAhead g (framed atom_word) e (record s { list = behind }) rest
    pub space : s.next + numbers_a_step * (e.steps + 1) ≤ most_numbers
    pub put : IsPut atom_word (g.present e.store) e.lists name goal
    pub clauses : leaves_of g (framed atom_word) e clause later (c ∷ cs)
    pub enter : EachEnters goal (c ∷ cs)

  -- In a state of its own, which is alike this one, the engine has a goal of this value first, and the list from the
  -- place on behind it. So many cells may still come for the goal, beside those that the list is to take.
  pub record AtCall (e : Engine S W M) (call : Tree) (behind : Option Rest) (room : ℕ) (s : State) : Type 0 where
    pub own : State
    pub same : Alike own s
    pub term : Tree
    pub mark : ℕ
    pub at : IsAtMember g (framed atom_word) e own (Goal (Run term) mark) behind
    pub value : apply own.subst term ≡ call
    pub fits : FitsState g (g.present e.store) (room + pending_at e.lists behind) own

  -- The arguments of the goal that came first of the old engine were put, or read: it has this name, and the list from
  -- the place on is behind it, where less is to be done. No step was taken.
  pub record IsCallPut (old e : Engine S W M) (name : ℕ) (behind : Option Rest) (room : ℕ) : Type 0 where
    pub at : (s : State) → Represents g (framed atom_word) old s → AtCall e (goal_put e name) behind room s
    pub there : name < length (g.names e.store)
    pub few : length e.lists.arguments.items < 256
    pub hold : All (Holds (g.present e.store)) e.lists.arguments.items
    pub steps : e.steps ≡ old.steps
    pub less : cost_from (framed atom_word) e behind < cost (framed atom_word) old
    pub stays : Stays g old e

  -- So it is, and a step is left; the goal calls a procedure of which this clause comes next, and then those that the
  -- view gives.
  pub record IsToCall (old e : Engine S W M) (clause : ℕ) (later : KeyedView) (name : ℕ) (behind : Option Rest)
      : Type 0 where
    pub put : IsCallPut old e name behind 0
    pub more : e.steps ≢ 0
    pub calls : (w : World) → IsWorld g (framed atom_word) e w
        → CallsAt (leaves_of g (framed atom_word) e) w (goal_put e name) clause later

  -- The word for the goal comes first of the engine, and it stands for all that the old one did.
  pub record IsShown (old e : Engine S W M) (word : W) (behind : Option Rest) (call : Tree) : Type 0 where
    pub stands : (s : State) → Represents g (framed atom_word) old s → Represents g (framed atom_word) e s
    pub first : IsGoalFirst g (framed atom_word) e word behind
    pub means : meaning (g.present e.store) word ≡ call
    pub less : weight (framed atom_word) e ≤ weight (framed atom_word) old
    pub stays : Stays g old e
