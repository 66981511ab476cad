-- A move of the engine's own state is some steps of each state that is the same.
use Rattle.std.proofs.Common.{◌≡◌, ◌≤◌, ◌⊎◌, ℕ, suc, List, [], length, refl, sym, subst, inl, inr, arith}
use Rattle.iso_model.specs.Search.RunLaws.Sameness.{failing, no_alternative, Same, SameStack}
use Rattle.iso_store_core.specs.declared.stores.Store.{Ghosts}
use Rattle.iso_model.specs.Search.Engines.{IsAwake}
use Rattle.iso_search_core.specs.declared.nows.Now.{Now}
use Rattle.iso_search.specs.declared.search.Search.{Search}
use Rattle.iso_model.specs.Terms.Trees.{Tree}
use Rattle.iso_model.specs.Terms.Variables.{variables}
use Rattle.iso_model.specs.Search.Walker.{State, World, Alternative, Event, Ending, Goes, Gives, Ends, idle, step}
use Rattle.iso_model.specs.Search.Runs.{Quiet, here, Comes, Finishes}
use Rattle.iso_model.proofs.Search.RunLaws.Quiets.{quiet_trans}
use Rattle.iso_model.specs.Search.RunLaws.Thinness.{Thin}
use Rattle.iso_model.proofs.Search.RunLaws.SameLaws.{same_beside, same_self}
use Rattle.iso_model.proofs.Search.RunLaws.ThinRuns.{thin_around, idle_thin}
use Rattle.iso_model.proofs.Search.RunLaws.Likeness.{Alike, onward_alike, comes_alike, finishes_alike, alike_on, alike_world, alike_fewer}
use Rattle.iso_search_core.specs.Fitting.{FitsState}
use Rattle.iso_search_core.proofs.FittingLemmas.{fits_here, fits_on, fits_there}
use Rattle.iso_search_core.specs.declared.lists.Lists as lists
use Rattle.iso_search_core.specs.declared.nows.Now.TheVariants as now
use Rattle.iso_search.specs.declared.search.Move.TheVariants as move
use Rattle.iso_search.specs.Limits.{ComesFull}
use Rattle.iso_search.proofs.OverLemmas.{comes_beyond}
use Rattle.iso_search.specs.EngineStates.{AlikeStack, IsEngine, StandsAs, Represents, Remains, Keeps, Refused, Stopped, StandsBy, StandsFor, Moves, phase_of}

-- a state in which no goal was started is the same as itself
pub same_idle : (w : World) → Same (idle w) (idle w)
same_idle w = failing [] [] refl refl (record { stack = no_alternative; world = refl; steps = refl; query = omega arith; built = omega arith })

-- a state that is the same as itself, and thin beside itself, is alike itself
pub alike_itself : (s : State) → Same s s → Thin s s → Alike s s
alike_itself s same thin = record { middle = s; same = same; thin = thin }

pub alike_idle : (w : World) → Alike (idle w) (idle w)
alike_idle w = alike_itself (idle w) (same_idle w) (idle_thin w)

-- a state that is alike another is the same as itself
pub own_same : (o s : State) → Alike o s → Same o o
own_same o s h = same_self o h.middle h.same

-- the alternatives of a state that is alike another
pub alike_left : (o s : State) (stack : List Alternative) → Alike o s → o.stack ≡ stack → AlikeStack stack (variables s.query) s.stack ⊎ (stack ≡ [])
alike_left o s stack h is =
    let beside = same_beside o h.middle h.same in
    let around = thin_around h.thin in
    let shown = subst (λ (q : Tree). SameStack (variables o.query) (variables q) o.stack (h.middle).stack) around.query beside.stack in
    inl (record {
      named = variables o.query;
      middle = (h.middle).stack;
      keeps = around.keeps;
      same = subst (λ (xs : List Alternative). SameStack (variables o.query) (variables s.query) xs (h.middle).stack) is shown;
      thin = around.stack;
    })

module _ {S L W M K P C N B O : Type 0} (g : Ghosts S W M) (l : lists.Ghosts L S K P C N B O W M) where
  -- the engine is the state itself
  pub stands_itself : (e : Search S L W M K P C N B O) (s : State) → IsEngine g l e s → StandsAs g l e s
  stands_itself e s is = record { own = s; engine = is; same = λ same. same }

  -- the search comes to a state, and the engine is one that is alike it, or the same as that one
  pub goes_to : (new : Search S L W M K P C N B O) (s v u : State) → Quiet s u → Alike v u → StandsAs g l new v → IsAwake (phase_of new.now) → Moves g l move.Goes s new
  goes_to new s v u quiet h is awake = (u, quiet, record { own = is.own; engine = is.engine; same = alike_on is.own v u (is.same (own_same v u h)) h }, awake)

  -- a move of a state that is alike goes on to a state that is the same
  pub goes_from : (new : Search S L W M K P C N B O) (o s v : State) → Alike o s → step o ≡ Goes v → StandsAs g l new v → IsAwake (phase_of new.now)
      → Moves g l move.Goes s new
  goes_from new o s v same h is awake =
      let k = onward_alike o v s h same in
      goes_to new s v k.0 k.1 k.2 is awake

  -- so of the engine's own state
  pub goes_alike : (e new : Search S L W M K P C N B O) (s : State) (r : Represents g l e s) (v : State) → step r.own ≡ Goes v → StandsAs g l new v → IsAwake (phase_of new.now)
      → Moves g l move.Goes s new
  goes_alike e new s r v h is awake = goes_from new r.own s v r.same h is awake

  -- a move goes on
  pub goes : (e new : Search S L W M K P C N B O) (s : State) (r : Represents g l e s) (v : State) → step r.own ≡ Goes v → IsEngine g l new v → IsAwake (phase_of new.now)
      → Moves g l move.Goes s new
  goes e new s r v h is awake = goes_alike e new s r v h (stands_itself new v is) awake

  -- the engine's own goals have the values of those that the step goes to
  pub goes_as : (e new : Search S L W M K P C N B O) (s : State) (r : Represents g l e s) (v u : State) → step r.own ≡ Goes v → Same u v → IsEngine g l new u → IsAwake (phase_of new.now)
      → Moves g l move.Goes s new
  goes_as e new s r v u h same is awake = goes_alike e new s r v h (record { own = u; engine = is; same = λ itself. same }) awake

  -- where the step goes to a state with one alternative more, and there may be none more, the search comes to more
  -- than there may be, and spans more
  pub comes_over : (e : Search S L W M K P C N B O) (s : State) (r : Represents g l e s) (v : State) (limit : ℕ) → step r.own ≡ Goes v → length v.stack ≡ suc (length (r.own).stack) → limit ≤ length (r.own).stack → ComesFull limit s
  comes_over e s r v limit h longer full =
      let k = onward_alike r.own v s h r.same in
      let fewer = alike_fewer v k.0 k.2 in (
        record { at = k.0; quiet = k.1; holds = omega (arith, fewer, longer, full) },
        comes_beyond g l e r.own s limit r.engine.choices r.same full,
      )

  stands_by : (n m : Now N P) (e : Search S L W M K P C N B O) (s : State) → n ≡ m → StandsBy g l m e s → StandsBy g l n e s
  stands_by n m e s is r = subst (λ (x : Now N P). StandsBy g l x e s) (sym is) r

  -- an engine that is idle
  pub idle_stands : (e : Search S L W M K P C N B O) (w : World) → e.now ≡ now.Idle → IsEngine g l e (idle w) → StandsFor g l e (idle w)
  idle_stands e w rests is = stands_by e.now now.Idle e (idle w) rests (record { own = idle w; engine = is; same = alike_idle w })

  -- the run ends, and the engine is idle
  pub ends : (new : Search S L W M K P C N B O) (o s : State) (ending : Ending) → Alike o s → step o ≡ Ends ending o.world → new.now ≡ now.Idle → IsEngine g l new (idle o.world)
      → Finishes s ending (StandsFor g l new)
  ends new o s ending same h rests is = finishes_alike o s ending o.world (StandsFor g l new) h (idle_stands new o.world rests is) same

  -- an event, behind which the engine fails
  pub gives : (new : Search S L W M K P C N B O) (o v s : State) (event : Event) → Alike o s → step o ≡ Gives event v → new.now ≡ now.Failing → IsEngine g l new v
      → Comes s event (StandsFor g l new)
  gives new o v s event same h doing is =
      comes_alike o v s event (StandsFor g l new) h (λ t k. stands_by new.now now.Failing new t doing (record { own = v; engine = is; same = k })) same

  -- ---- the engine stopped

  -- it stopped where it was
  pub stops_here : (new : Search S L W M K P C N B O) (o s : State) → Alike o s → Keeps g l new o.world o.stack → Stopped g l new s
  stops_here new o s same keeps =
      record {
        at = s;
        quiet = here;
        stack = o.stack;
        keeps = subst (λ (w : World). Keeps g l new w o.stack) (alike_world o s same) keeps;
        alternatives = alike_left o s o.stack same refl;
      }

  -- so without alternatives
  pub stops_bare : (new : Search S L W M K P C N B O) (o s : State) → Alike o s → Keeps g l new o.world [] → Stopped g l new s
  stops_bare new o s same keeps =
      record {
        at = s;
        quiet = here;
        stack = [];
        keeps = subst (λ (w : World). Keeps g l new w []) (alike_world o s same) keeps;
        alternatives = inr refl;
      }

  -- it stopped within a move, with the alternatives of a state that is alike one to which the search comes
  pub stops_at : (new : Search S L W M K P C N B O) (s v u : State) (stack : List Alternative) → Quiet s u → Alike v u → v.stack ≡ stack → Keeps g l new v.world stack → Stopped g l new s
  stops_at new s v u stack quiet h stacked keeps = record {
    at = u;
    quiet = quiet;
    stack = stack;
    keeps = subst (λ (w : World). Keeps g l new w stack) (alike_world v u h) keeps;
    alternatives = alike_left v u stack h stacked;
  }

  -- it stopped within a move, with the alternatives that the move goes to
  pub stops : (new : Search S L W M K P C N B O) (o v s : State) (stack : List Alternative) → Alike o s → step o ≡ Goes v → v.stack ≡ stack → v.world ≡ o.world → Keeps g l new o.world stack → Stopped g l new s
  stops new o v s stack same h stacked world keeps =
      let k = onward_alike o v s h same in
      stops_at new s v k.0 stack k.1 k.2 stacked (subst (λ (w : World). Keeps g l new w stack) (sym world) keeps)

  -- ---- a move was refused

  -- before it came to anything
  pub refuses_here : (new : Search S L W M K P C N B O) (o s : State) → Alike o s → Remains g l new o → Refused g l new s
  refuses_here new o s same remains = record { stopped = stops_here new o s same remains.0; fits = fits_here g (g.present new.store) o s same remains.1 }

  -- so where what it came to is counted
  pub refuses_before : (new : Search S L W M K P C N B O) (o v s : State) → Alike o s → step o ≡ Goes v → Keeps g l new o.world o.stack → FitsState g (g.present new.store) 0 v → Refused g l new s
  refuses_before new o v s same h keeps fits = record { stopped = stops_here new o s same keeps; fits = fits_on g (g.present new.store) o v s h same fits }

  -- in a state that is alike one to which the search comes
  pub refuses_at : (new : Search S L W M K P C N B O) (s v u : State) → Quiet s u → Alike v u → Remains g l new v → Refused g l new s
  refuses_at new s v u quiet h remains = record { stopped = stops_at new s v u v.stack quiet h refl remains.0; fits = fits_there g (g.present new.store) v s u quiet h remains.1 }

  -- in the state that the move goes to
  pub refuses : (new : Search S L W M K P C N B O) (o v s : State) → Alike o s → step o ≡ Goes v → Remains g l new v → Refused g l new s
  refuses new o v s same h remains =
      let k = onward_alike o v s h same in
      refuses_at new s v k.0 k.1 k.2 remains

  -- behind steps without an event
  pub stopped_behind : (e : Search S L W M K P C N B O) (s t : State) → Quiet s t → Stopped g l e t → Stopped g l e s
  stopped_behind e s t q h = record {
    at = h.at;
    quiet = quiet_trans q h.quiet;
    stack = h.stack;
    keeps = h.keeps;
    alternatives = h.alternatives;
  }
