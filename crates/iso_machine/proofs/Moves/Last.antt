-- Moves of an engine that made no frame of the clause that it entered: they are those of one that has the frame.
use Rattle.std.proofs.Common.{◌≡◌, ◌≤◌, ℕ, List, length, take, max, Option, Some, refl, sym, ap, ap₂, ◌∙◌, subst, arith, Vec, Global}
use Rattle.std.proofs.lemmas.List.{take_all}
use Rattle.iso_model.specs.Search.Walker.{State, World, Member, Alternative}
use Rattle.iso_store_core.specs.declared.stores.Store.{Ghosts}
use Rattle.iso_search.specs.EngineStates.{HasChoices, IsAhead, Keeps, Refused, Represents, kept_cost}
use Rattle.iso_search_core.proofs.FittingLemmas.{fits_fewer}
use Rattle.iso_machine.specs.GoalCalls.{IsCallPut}
use Rattle.iso_search_core.specs.declared.choices.Choice as kept
use Rattle.iso_search_core.specs.Standing.{Among}
use Rattle.iso_search_core.proofs.StandingLemmas.{choices_on}
use Rattle.std.specs.Prelude.{Result, Ok, Err, IfOk, OnOk}
use Rattle.iso_model.specs.Terms.Trees.{Tree}
use Rattle.iso_store_core.specs.declared.shapes.StoreFault.{StoreFault}
use Rattle.iso_store_core.specs.Presents.{Grows}
use Rattle.iso_store_core.specs.Retaining.{CountsCells, RetainsAll}
use Rattle.iso_writing.specs.Writing.{Adds}
use Rattle.iso_instructions.specs.declared.instructions.Goal as instruction
use Rattle.iso_frames.specs.Frames.{Chain}
use Rattle.iso_frames.specs.Costs.{compound_cells}
use Rattle.iso_environments.specs.Stacked.{Stacked}
use Rattle.iso_environments.specs.Putting.{HasPut, IsBehind, IsGoalThere, arguments_cells}
use Rattle.iso_search.specs.Stays.{Stays}
use Rattle.iso_search.proofs.Moves.Search.{refuses_here}
use Rattle.iso_search.proofs.StoppedLemmas.{keeps_all}
use Rattle.iso_machine.specs.Lists.{stack_of}
use Rattle.iso_machine.proofs.AddedLemmas.{IsGrown, remains_grown}
use Rattle.iso_machine.proofs.Moves.Goal.{at_code, put_call, put_grown, put_refused, same_keeps}
use Rattle.iso_machine.proofs.Moves.Instruction.{code_ahead}
use Rattle.iso_environments.specs.declared.putting.Put.{Put}
use Rattle.iso_search_core.specs.declared.nows.Now.{Now}
use Rattle.iso_search_core.specs.declared.nows.Now.TheVariants as now
use Rattle.iso_frames.specs.declared.frames.Next.{Next}
use Rattle.iso_frames.specs.declared.frames.Next.TheVariants as next
use Rattle.iso_machine.specs.declared.goal_places.GoalPlace.{GoalPlace}
use Rattle.iso_machine.specs.declared.goal_places.GoalPlace.TheVariants as standing
use Rattle.iso_machine.specs.GoalPlaces.{IsGoalAt}
use Rattle.iso_frames.specs.declared.frames.Rest.{Rest}
use Rattle.iso_frames.specs.declared.frames.Frame.{Frame}
use Rattle.iso_frames.specs.Frames.{IsBefore}
use Rattle.iso_frames.specs.Costs.{cost_of, pending_of}
use Rattle.iso_frames.proofs.ChainLemmas.{chain_place, chain_top}
use Rattle.iso_frames.proofs.CodeCosts.{cost_taken_frames, pending_taken_frames}
use Rattle.iso_environments.proofs.GivenLemmas.{given_list}
use Rattle.iso_machine.specs.declared.framed.Extent.{Extent}
use Rattle.iso_machine.specs.declared.framed.KeptCall.{KeptCall}
use Rattle.iso_machine.specs.declared.framed.Framed.{Framed}
use Rattle.iso_machine.specs.Engines.{Engine, framed}
use Rattle.iso_machine.specs.LastCalls.{IsUnframed, with_frame}
use Rattle.iso_machine.specs.Lists.{IsList, KeepsFrames, cost_at, extent_of, pending_at}
use Rattle.iso_machine.specs.Wholes.{whole_chain, whole_list}
use Rattle.iso_machine.proofs.PlaceLemmas.{EndsAt}
use Rattle.iso_machine.proofs.Moves.Given.{KeepsFew, given_ahead, given_cost, given_keeps, newest_most}

module _ {S W M : Type 0} (g : Ghosts S W M) (atom_word : ℕ → W) (e : Engine S W M) {frames : Vec Frame Global}
    {rest : Rest} {clause : ℕ} {behind : Option Rest} (h : IsUnframed e frames rest clause behind) where
  abbrev more : Engine S W M
  more = with_frame e frames rest

  keeps : KeepsFrames atom_word (KeepsFew h.kept_frames h.kept_words) more.lists e.lists
  keeps =
      let ws = e.lists.words.items in
      let m = max h.kept_words (length ws) in
      given_keeps atom_word more.lists e.lists h.kept_frames h.kept_words (length e.lists.frames.items) m refl h.front
      (sym (take_all m ws (omega arith))) h.few (omega arith)

  -- choices stand without the frame, too
  unframed_choices : (query : Tree) (ks : List Alternative) → HasChoices g (framed atom_word) more query ks
      → HasChoices g (framed atom_word) e query ks
  unframed_choices query ks choices =
      choices_on (framed atom_word) keeps (newest_most atom_word h.kept_frames h.kept_words h.newest choices)
      (λ d p among stood. stood) (λ number later cs left. left) choices

  pub unframed_keeps : (w : World) (ks : List Alternative) → Keeps g (framed atom_word) more w ks
      → Keeps g (framed atom_word) e w ks
  unframed_keeps w ks k = (k.0, k.1, (k.2.0, unframed_choices k.2.0 ks k.2.1))

  module _ (s : State) (ahead : IsAhead g (framed atom_word) more s behind) where
    each : (d : kept.Choice W M Extent (Option Rest) KeptCall) → Among d e.choices.items
        → KeepsFew h.kept_frames h.kept_words d.kept
    each = newest_most atom_word h.kept_frames h.kept_words h.newest ahead.choices

    list : IsList atom_word (g.present e.store) e.lists (extent_of e.lists) behind s.list
    list =
        let ws = e.lists.words.items in
        let chain = whole_chain atom_word more.lists ahead.chain in
        whole_list atom_word e.lists (given_list atom_word e.lists.nodes.items (length e.lists.frames.items)
        (length ws) frames.items e.lists.frames.items ws ws h.front (sym (take_all (length ws) ws (omega arith)))
        h.before (chain_top atom_word chain) chain)

    before : IsBefore behind (length (take (length e.lists.frames.items) frames.items))
    before =
        subst (λ (fs : List Frame). IsBefore behind (length fs)) h.front
        (chain_place atom_word (whole_chain atom_word e.lists list))

    -- what is to be done behind the goal
    pub unframed_cost : cost_at e.lists behind ≡ cost_at more.lists behind
    unframed_cost =
        ap (λ (fs : List Frame). cost_of fs behind) h.front
        ∙ cost_taken_frames (length e.lists.frames.items) frames.items behind before

    pub unframed_pending : pending_at e.lists behind ≡ pending_at more.lists behind
    unframed_pending =
        ap (λ (fs : List Frame). pending_of fs behind) h.front
        ∙ pending_taken_frames (length e.lists.frames.items) frames.items behind before

    pub unframed_kept : kept_cost (framed atom_word) e ≡ kept_cost (framed atom_word) more
    unframed_kept =
        given_cost atom_word g more s behind e.lists ahead h.kept_frames h.kept_words keeps each

    -- the list behind the goal
    pub unframed_ahead : IsAhead g (framed atom_word) e s behind
    unframed_ahead =
        let a = given_ahead atom_word g more s behind e.lists ahead h.kept_frames h.kept_words keeps each list
        unframed_pending in
        record {
          world = a.world;
          steps = a.steps;
          base = a.base;
          choices = a.choices;
          room = a.room;
          fits = a.fits;
          goes = a.goes;
          chain = a.chain;
        }

  -- the goal whose arguments were put comes first without the frame, too
  pub unframed_put : {old : Engine S W M} {name room : ℕ} → (s : State) → Represents g (framed atom_word) old s
      → IsCallPut g atom_word old more name behind room → IsCallPut g atom_word old e name behind room
  unframed_put s r put =
      let first = put.at s r in
      let there : State = record first.own { list = first.at.behind } in
      let costs = unframed_cost there first.at.ahead in
      let kept = unframed_kept there first.at.ahead in
      record {
        at = λ t k.
            (let a = put.at t k in
            let at : State = record a.own { list = a.at.behind } in
            let pending = unframed_pending at a.at.ahead in
            record {
              own = a.own;
              same = a.same;
              term = a.term;
              mark = a.mark;
              at = record {
                behind = a.at.behind;
                list = a.at.list;
                ahead = unframed_ahead at a.at.ahead;
              };
              value = a.value;
              fits = fits_fewer g (g.present e.store) a.own (omega (arith, pending)) a.fits;
            });
        there = put.there;
        few = put.few;
        hold = put.hold;
        steps = put.steps;
        less = (let less = put.less in omega (arith, less, costs, kept));
        stays = record {
          limit = put.stays.limit;
          vocabulary = put.stays.vocabulary;
          names_kept = put.stays.names_kept;
          base = put.stays.base;
          within = put.stays.within;
        };
      }

-- the frame is no matter of what stays
pub stays_framed : {S W M : Type 0} (g : Ghosts S W M) {old e : Engine S W M} {frames : Vec Frame Global} {rest : Rest}
    → Stays g old e → Stays g old (with_frame e frames rest)
stays_framed g stays = record {
  limit = stays.limit;
  vocabulary = stays.vocabulary;
  names_kept = stays.names_kept;
  base = stays.base;
  within = stays.within;
}

pub framed_stays : {S W M : Type 0} (g : Ghosts S W M) {e new : Engine S W M} {frames : Vec Frame Global} {rest : Rest}
    → Stays g e new → Stays g (with_frame e frames rest) new
framed_stays g stays = record {
  limit = stays.limit;
  vocabulary = stays.vocabulary;
  names_kept = stays.names_kept;
  base = stays.base;
  within = stays.within;
}

-- with the frames that stand, where its instruction comes first, the engine is itself
pub same_engine : {S W M : Type 0} (e : Engine S W M) {frames : Vec Frame Global} {rest : Rest} → frames ≡ e.lists.frames
    → e.now ≡ now.Running (next.Code rest) → with_frame e frames rest ≡ e
same_engine e same doing =
    ap₂ (λ (v : Vec Frame Global) (n : Now (Next _) (Option Rest)). record e {
      lists = record e.lists { frames = v };
      now = n;
    }) same (sym doing)

module _ {S W M : Type 0} (g : Ghosts S W M) (atom_word : ℕ → W) (e : Engine S W M) (frames : Vec Frame Global)
    (rest : Rest) (store : S) (compounds : Vec W Global) (arguments : Stacked W)
    (made : Vec W Global) where
  abbrev whole : Engine S W M
  whole = with_frame e frames rest

  abbrev held : Framed S W M
  held = record e.lists { compounds = compounds; arguments = arguments; made = made }

  abbrev with_store : Engine S W M
  with_store = record e { store = store; lists = held }

  still : {clause : ℕ} {behind : Option Rest} → IsUnframed e frames rest clause behind
      → IsUnframed with_store frames rest clause behind
  still h = record {
    goal = h.goal;
    value = h.value;
    stands = h.stands;
    place = h.place;
    last = h.last;
    front = h.front;
    kept_frames = h.kept_frames;
    kept_words = h.kept_words;
    newest = h.newest;
    few = h.few;
    before = h.before;
  }

  -- the engine goes on at the instruction
  doing : (r : Rest) → rest ≡ r → e.now ≡ now.Running (next.Code r) → e.now ≡ now.Running (next.Code rest)
  doing r same is = is ∙ ap (λ (s : Rest). now.Running (next.Code s)) (sym same)

  module _ (goal : instruction.Goal) (there : IsGoalThere frames.items rest goal) (retains : RetainsAll g e.store store)
      (cells : CountsCells g → Grows (g.present e.store) (g.present store) (arguments_cells goal) 0) where
    -- the store refused the arguments
    pub next_refused : (at : GoalPlace) → IsGoalAt e at frames rest → (s : State)
        → Represents g (framed atom_word) whole s → arguments_cells goal ≤ pending_at whole.lists (Some rest)
        → Refused g (framed atom_word) with_store s
    next_refused (standing.There r) at s h room =
        subst (λ (x : Engine S W M). Refused g (framed atom_word) x s)
        (same_engine with_store at.0 (doing r (at.1) (at.2)))
        (put_refused g atom_word whole rest refl (goal, there) store compounds arguments made
        (put_grown g atom_word whole rest refl (goal, there) store compounds arguments made retains cells) s h room)
    next_refused (standing.Last clause behind) at s h room =
        let ahead = code_ahead g atom_word whole h.own rest refl h.engine in
        let grown : IsGrown g (framed atom_word) e store held (arguments_cells goal) = record {
          names = retains.names;
          marks = retains.marks;
          lists = same_keeps g atom_word e.lists held refl refl refl;
          cells = cells;
        } in
        refuses_here g (framed atom_word) with_store h.own s h.same
        (remains_grown g (framed atom_word) grown h.own
        (unframed_keeps g atom_word e at (h.own).world (h.own).stack
        (keeps_all g (framed atom_word) whole h.own h.engine))
        (fits_fewer g (g.present e.store) h.own room ahead.fits))

    -- they were put
    pub next_put : (at : GoalPlace) → IsGoalAt e at frames rest → (result : Result Put StoreFault)
        → OnOk result (Adds (g.present e.store) (g.present store))
        → ((all : List Member) → Chain atom_word (g.present e.store) (stack_of whole.lists) (Some rest) all
        → IfOk result (λ put. HasPut atom_word (g.names e.store) (g.present store) (stack_of whole.lists) put
        arguments.items all))
        → ((all : List Member) → Chain atom_word (g.present e.store) (stack_of whole.lists) (Some rest) all
        → IfOk result (λ put. IsBehind frames.items rest goal (length arguments.items) put.behind))
        → IfOk result (λ put. EndsAt at put.behind) → (s : State) → Represents g (framed atom_word) whole s
        → IfOk result (λ put. IsCallPut g atom_word whole with_store put.name put.behind
        (compound_cells (length arguments.items)))
    next_put at is (Err x) adds puts places ends s h = tt
    next_put (standing.There r) at (Ok put) adds puts places ends s h =
        subst (λ (x : Engine S W M). IsCallPut g atom_word whole x put.name put.behind
        (compound_cells (length arguments.items))) (same_engine with_store at.0 (doing r (at.1) (at.2)))
        (put_call g atom_word whole rest refl (goal, there) store compounds arguments made
        (put_grown g atom_word whole rest refl (goal, there) store compounds arguments made retains cells) put adds puts
        (places (h.own).list (at_code g atom_word whole rest refl h)) s h)
    next_put (standing.Last clause behind) at (Ok put) adds puts places ends s h =
        subst (λ (b : Option Rest). IsCallPut g atom_word whole with_store put.name b
        (compound_cells (length arguments.items))) (sym ends)
        (unframed_put g atom_word with_store (still at) s h
        (subst (λ (b : Option Rest). IsCallPut g atom_word whole (with_frame with_store frames rest) put.name b
        (compound_cells (length arguments.items))) ends
        (put_call g atom_word whole rest refl (goal, there) store compounds arguments made
        (put_grown g atom_word whole rest refl (goal, there) store compounds arguments made retains cells) put adds puts
        (places (h.own).list (at_code g atom_word whole rest refl h)) s h)))
