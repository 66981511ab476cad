-- A call of `resume` is moves up to an event.
use Rattle.std.proofs.Common.{◌≡◌, ◌⊎◌, inl, inr, refl, subst, Result, Ok, Err}
use Rattle.iso_model.specs.declared.pauses.AddFault.{AddFault}
use Rattle.iso_model.specs.Search.Additions.{Addition, Adds, Refuses}
use Rattle.iso_search.specs.Starts.{Comes}
use Rattle.iso_store_core.specs.declared.stores.Store.{Ghosts}
use Rattle.iso_model.specs.Search.Walker.{idle, State, World}
use Rattle.iso_search.specs.Worlds.{IsWorld}
use Rattle.iso_search_core.specs.declared.nows.Now.{Now}
use Rattle.iso_model.specs.declared.pauses.Pause.{Pause}
use Rattle.iso_model.specs.Search.Runs.{Quiet}
use Rattle.iso_search.specs.declared.search.Search.{Search}
use Rattle.iso_model.specs.declared.pauses.AddFault.TheVariants as add
use Rattle.iso_model.proofs.Search.RunLaws.Quiets.{comes_behind, finishes_behind}
use Rattle.iso_model.specs.Search.Engines as engines
use Rattle.iso_model.specs.declared.limit.Limit.{Limit}
use Rattle.iso_model.specs.declared.pauses.Pause.TheVariants as pause
use Rattle.iso_search_core.specs.declared.lists.Lists as lists
use Rattle.iso_search.specs.EngineStates.{IsBase, IsEngine, Represents, Stopped, StandsBy, StandsFor, phase_of}
use Rattle.iso_search_core.specs.declared.nows.Now.TheVariants as now
use Rattle.iso_model.proofs.Search.RunLaws.Likeness.{alike_world}
use Rattle.iso_search.proofs.StoppedLemmas.{keeps_all}
use Rattle.iso_search.proofs.Moves.Search.{alike_idle, stops_here, stopped_behind}

module _ {S L W M K P C N B O : Type 0} (g : Ghosts S W M) (l : lists.Ghosts L S K P C N B O W M) where
  -- an engine that is awake stands for what it represents
  pub awake_stands : (n : Now N P) (e : Search S L W M K P C N B O) (s : State) → engines.IsAwake (phase_of n) → StandsBy g l n e s → Represents g l e s
  awake_stands (now.Spent limit) e s awake r = absurd awake
  awake_stands n e s awake r = r

  pub ready_stands : (n : Now N P) (e : Search S L W M K P C N B O) (s : State) → phase_of n ≡ engines.Ready → StandsBy g l n e s → Represents g l e s
  ready_stands (now.Spent limit) e s ready r = absurd (cc)
  ready_stands n e s ready r = r

  -- the mark of the empty store stands
  pub stands_base : (n : Now N P) (e : Search S L W M K P C N B O) (s : State) → StandsBy g l n e s → IsBase g e.store e.base
  stands_base (now.Spent limit) e s r = r.keeps.1
  stands_base n e s r = r.engine.base

  -- an engine that a goal may be started on fails, where it is not idle
  pub ready_now : (n : Now N P) → phase_of n ≡ engines.Ready → (n ≡ now.Idle) ⊎ (n ≡ now.Failing)
  ready_now now.Idle ready = inl refl
  ready_now now.Failing ready = inr refl
  ready_now n ready = absurd (cc ready)

  represents_world : (e : Search S L W M K P C N B O) (s : State) → Represents g l e s → IsWorld g l e s.world
  represents_world e s r = subst (λ (w : World). IsWorld g l e w) (alike_world r.own s r.same) r.engine.world

  -- what holds of the worlds that the engine has
  pub stands_where : (Fact : World → Type 0) → (n : Now N P) (e : Search S L W M K P C N B O) (s : State) → ((w : World) → IsWorld g l e w → Fact w) → StandsBy g l n e s → engines.HoldsWhereItIs (phase_of n) s (λ t. Fact t.world)
  stands_where Fact (now.Spent limit) e s has r = record { at = r.at; quiet = r.quiet; holds = has r.at.world r.keeps.0 }
  stands_where Fact n e s has r = has s.world (represents_world e s r)

  pub represents_stands : (n : Now N P) (e : Search S L W M K P C N B O) (s : State) → Represents g l e s → StandsBy g l n e s
  represents_stands (now.Spent limit) e s r = stops_here g l e r.own s r.same (keeps_all g l e r.own r.engine)
  represents_stands n e s r = r

  -- a spent engine
  pub spent_stands : (limit : Limit) (n : Now N P) (e : Search S L W M K P C N B O) (s : State) → phase_of n ≡ engines.Spent limit → Stopped g l e s → StandsBy g l n e s
  spent_stands limit (now.Spent k) e s h stopped = stopped
  spent_stands limit n e s h stopped = absurd (cc h)

  spent_behind : (limit : Limit) (n : Now N P) (e : Search S L W M K P C N B O) (s t : State) → phase_of n ≡ engines.Spent limit → Quiet s t → StandsBy g l n e t → StandsBy g l n e s
  spent_behind limit (now.Spent k) e s t h q stopped = stopped_behind g l e s t q stopped
  spent_behind limit n e s t h q stopped = absurd (cc h)

  -- what comes behind steps without an event
  pub pauses_behind : (e : Search S L W M K P C N B O) (s t : State) (p : Pause) → Quiet s t → engines.Pauses t p (StandsFor g l e) (phase_of e.now)
      → engines.Pauses s p (StandsFor g l e) (phase_of e.now)
  pauses_behind e s t (pause.Answer values) q h = (comes_behind q h.0, h.1)
  pauses_behind e s t (pause.Output bytes) q h = (comes_behind q h.0, h.1)
  pauses_behind e s t pause.HeapFull q h = (spent_behind _ e.now e s t h.1 q h.0, h.1)
  pauses_behind e s t pause.FramesFull q h = (spent_behind _ e.now e s t h.1 q h.0, h.1)
  pauses_behind e s t pause.NoMemory q h = (spent_behind _ e.now e s t h.1 q h.0, h.1)
  pauses_behind e s t pause.Spent q h = absurd h
  pauses_behind e s t p q h = (finishes_behind q h.0, h.1)

  idle_stands : (e : Search S L W M K P C N B O) (w : World) → IsEngine g l e (idle w) → StandsFor g l e (idle w)
  idle_stands e w is = represents_stands e.now e (idle w) (record { own = idle w; engine = is; same = alike_idle w })

  -- what adding a clause comes to
  pub consults_stand : (a : Addition) (s : State) (result : Result Unit AddFault) (e : Search S L W M K P C N B O) → Comes g l a s.world result e
      → engines.Consults a s result (StandsFor g l e)
  consults_stand (Adds db) s (Ok u) e comes = idle_stands e (record s.world { database = db }) comes
  consults_stand (Refuses error) s (Err (add.Refused ball)) e comes = (comes.0, idle_stands e s.world comes.1)
  consults_stand (Adds db) s (Err add.NoMemory) e comes = idle_stands e s.world comes
  consults_stand (Refuses error) s (Err add.NoMemory) e comes = idle_stands e s.world comes
  consults_stand a s result e comes = absurd comes
