-- Where no frame and no choice may come any more, the search comes to a state that spans more than there may be.
use Rattle.std.proofs.Common.{◌≡◌, ◌≤◌, ℕ, List, ◌∷◌, length, Option, sym, ap, ◌∙◌, arith}
use Rattle.iso_model.specs.Search.Bodies.{Body}
use Rattle.iso_model.specs.Search.Clashes.{may_enter}
use Rattle.iso_model.specs.Search.Runs.{Quiet}
use Rattle.iso_model.specs.Search.RunLaws.Sameness.{open_list}
use Rattle.iso_model.specs.Search.RunLaws.Spans.{ComesBeyond, stack_span}
use Rattle.iso_model.specs.Search.Walker.{State, Member, Goal, Fail}
use Rattle.iso_model.proofs.Search.RunLaws.AlikeSpans.{Runs, alike_span}
use Rattle.iso_model.proofs.Search.RunLaws.Likeness.{Alike}
use Rattle.iso_model.proofs.Search.RunLaws.Quiets.{quiet_trans}
use Rattle.iso_store_core.specs.declared.stores.Store.{Ghosts}
use Rattle.iso_frames.specs.declared.frames.Rest.{Rest}
use Rattle.iso_search.specs.EngineStates.{IsAhead}
use Rattle.iso_machine.specs.Engines.{Engine, IsBeyond, framed}

-- a state that has a goal first runs goals
pub goal_runs : (s : State) (b : Body) (mark : ℕ) (ms : List Member) → s.list ≡ Goal b mark ∷ ms → Runs s
goal_runs s b mark ms is ns fails = (let both : Goal b mark ∷ ms ≡ Fail ∷ ns = sym is ∙ fails in cc)

-- so where it has one with conjunctions in front taken apart
pub open_runs : (s : State) (b : Body) (mark : ℕ) (ms : List Member) → open_list s.list ≡ Goal b mark ∷ ms → Runs s
open_runs s b mark ms is ns fails =
    (let both : Goal b mark ∷ ms ≡ Fail ∷ ns = sym is ∙ ap open_list fails in cc)

-- The engine has the list from the place on, behind which more members and alternatives stand in a state of its own; it
-- is alike one to which the search comes.
pub comes_beyond : {S W M : Type 0} (g : Ghosts S W M) (atom_word : ℕ → W) (e : Engine S W M) (place : Option Rest)
    (behind own s at : State) → IsBeyond g atom_word e place → IsAhead g (framed atom_word) e behind place → Quiet s at
    → Alike own at → Runs own → length behind.list ≤ length own.list
    → stack_span may_enter behind.stack ≤ stack_span may_enter own.stack → ComesBeyond e.limit s
comes_beyond g atom_word e place behind own s at beyond ahead quiet same runs longer more =
    let few = beyond behind.query behind.stack behind.list ahead.choices ahead.chain in
    let on = alike_span may_enter own at same runs in
    let spans = on.2 in
    record { at = on.0; quiet = quiet_trans quiet on.1; holds = omega (arith, few, spans, longer, more) }
