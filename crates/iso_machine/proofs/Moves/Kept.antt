-- The arguments of a call that was put are kept, before its later clauses become a choice.
use Rattle.std.proofs.Common.{◌≡◌, ℕ, List, [], ◌∷◌, map, Option, refl, ap, sym, ◌∙◌, subst, arith, Vec, Global}
use Rattle.std.specs.List.{All}
use Rattle.iso_model.specs.Terms.Trees.{Tree}
use Rattle.iso_model.specs.Search.Databases as databases
use Rattle.iso_model.specs.Search.Walker.{State, Member, tried_clause, with_others}
use Rattle.iso_db.specs.declared.keyed.KeyedView.{KeyedView}
use Rattle.iso_store_core.specs.Presents.{Present, Holds, meaning}
use Rattle.iso_store_core.specs.declared.stores.Store.{Ghosts}
use Rattle.iso_plain_core.specs.Entering as entering
use Rattle.iso_search_core.specs.Costs.{choices_cost}
use Rattle.iso_frames.specs.declared.frames.Rest.{Rest}
use Rattle.iso_frames.specs.declared.frames.Frame.{Frame}
use Rattle.iso_frames.specs.Costs.{cost_of}
use Rattle.iso_environments.specs.Goals.{goal_of}
use Rattle.iso_search.specs.EngineStates.{Calls, IsAhead, Remains, kept_cost}
use Rattle.iso_search.specs.Stays.{Stays}
use Rattle.iso_search.proofs.AheadLemmas.{ahead_grown, keeps_ahead}
use Rattle.iso_store_core.proofs.RetainLemmas.{grows_most, grows_same}
use Rattle.iso_machine.specs.declared.framed.Framed.{Framed}
use Rattle.iso_machine.specs.declared.framed.KeptCall.{KeptCall}
use Rattle.iso_machine.specs.Engines.{Engine, framed}
use Rattle.iso_machine.specs.GoalCalls.{CallsPut}
use Rattle.iso_machine.specs.Lists.{IsFor, IsPut, arguments_at, cost_at, extent_of, pending_at}
use Rattle.iso_machine.proofs.FrameLemmas.{adds_keeps, adds_same, cost_same, list_on, pending_same}
use Rattle.iso_machine.proofs.Moves.Entered.{remains_tried}

-- the same arguments, in a store that has the same words
pub put_on : {S W M : Type 0} (atom_word : ℕ → W) (p q : Present W) (l m : Framed S W M) (atom : ℕ) (goal : Tree)
    → q ≡ p → m.arguments ≡ l.arguments → IsPut atom_word p l atom goal → IsPut atom_word q m atom goal
put_on atom_word p q l m atom goal same arguments put =
    let words = ap (λ (v : _). v.items) arguments in
    subst (λ (x : Present _). IsPut atom_word x m atom goal) (sym same)
    (record {
      hold = subst (λ (ws : List _). All (Holds p) ws) (sym words) put.hold;
      known = put.known;
      name = put.name;
      named = put.named;
      is = put.is ∙ ap (λ (ws : List _). goal_of put.name (map (meaning p) ws)) (sym words);
    })

module _ {S W M : Type 0} (g : Ghosts S W M) (atom_word : ℕ → W) where
  -- no clause comes behind the first
  pub put_last : (e : Engine S W M) (clause : ℕ) (later : KeyedView) (name : ℕ) (rest : Option Rest) (s : State)
      (goal : Tree) (c : databases.Clause) (cs : List databases.Clause) (behind : List Member)
      → CallsPut g atom_word e clause later name rest s goal c cs behind → cs ≡ []
      → CallsPut g atom_word e clause later name rest (with_others goal cs behind s) goal c cs behind
  put_last e clause later name rest s goal c [] behind t none = t
  put_last e clause later name rest s goal c (d ∷ cs) behind t none = absurd (cc none)

  -- a call of which the arguments are put as well
  pub calls_put : (e : Engine S W M) (clause : ℕ) (later : KeyedView) (call : KeptCall) (name : ℕ) (rest : Option Rest)
      (s : State) (goal : Tree) (c : databases.Clause) (cs : List databases.Clause) (behind : List Member)
      → Calls g (framed atom_word) e (record { clause = clause; later = later; call = call }) rest s goal c cs behind
      → IsPut atom_word (g.present e.store) e.lists name goal
      → CallsPut g atom_word e clause later name rest s goal c cs behind
  calls_put e clause later call name rest s goal c cs behind t put = record {
    ahead = t.ahead;
    space = t.space;
    put = put;
    clauses = t.clauses;
    enter = t.enter;
  }

  -- ---- other lists, with the same nodes and frames, and no word less

  module _ (e : Engine S W M) (lists : Framed S W M) (nodes : lists.nodes ≡ e.lists.nodes)
      (frames : lists.frames ≡ e.lists.frames) (words : entering.Adds e.lists.words.items lists.words.items) where
    abbrev with_lists : Engine S W M
    with_lists = record e { lists = lists }

    pub kept_ahead : (rest : Option Rest) (s : State) → IsAhead g (framed atom_word) e s rest
        → IsAhead g (framed atom_word) with_lists s rest
    kept_ahead rest s ahead =
        let pending = pending_same e.lists lists rest frames in
        ahead_grown g (framed atom_word) e s rest rest lists s.list ahead
        (adds_keeps atom_word e.lists lists (adds_same nodes) (adds_same frames) words)
        (list_on atom_word e.lists lists (adds_same nodes) (adds_same frames) words ahead.chain)
        (omega (arith, pending))

    pub kept_costs : kept_cost (framed atom_word) with_lists ≡ kept_cost (framed atom_word) e
    kept_costs = ap (λ (v : Vec Frame Global). choices_cost (cost_of v.items) e.choices.items) frames

    pub kept_behind : (rest : Option Rest) → cost_at lists rest ≡ cost_at e.lists rest
    kept_behind rest = cost_same e.lists lists rest frames

    pub kept_stays : Stays g e with_lists
    kept_stays = record {
      limit = refl;
      vocabulary = refl;
      names_kept = λ place text there. there;
      base = λ p stood. stood;
      within = λ within. within;
    }

    -- the call that is kept
    pub kept_calls : (clause : ℕ) (later : KeyedView) (name : ℕ) (rest : Option Rest) (s : State) (goal : Tree)
        (c : databases.Clause) (cs : List databases.Clause) (behind : List Member) (call : KeptCall)
        → (t : CallsPut g atom_word e clause later name rest s goal c cs behind)
        → IsFor atom_word (g.present e.store) lists (extent_of lists) call
        (goal_of (t.put).name (map (meaning (g.present e.store)) e.lists.arguments.items))
        → Calls g (framed atom_word) with_lists (record { clause = clause; later = later; call = call }) rest s goal c cs
        behind
    kept_calls clause later name rest s goal c cs behind call t is_for = record {
      ahead = kept_ahead rest (record s { list = behind }) t.ahead;
      space = t.space;
      is_for = subst (IsFor atom_word (g.present e.store) lists (extent_of lists) call) (sym (t.put).is) is_for;
      clauses = t.clauses;
      enter = t.enter;
    }

    -- the arguments of a call that was kept came back
    pub calls_again : (clause : ℕ) (later : KeyedView) (rest : Option Rest) (s : State) (goal : Tree)
        (c : databases.Clause) (cs : List databases.Clause) (behind : List Member) (call : KeptCall)
        → Calls g (framed atom_word) e (record { clause = clause; later = later; call = call }) rest s goal c cs behind
        → lists.arguments.items ≡ arguments_at e.lists call
        → CallsPut g atom_word with_lists clause later call.name rest s goal c cs behind
    calls_again clause later rest s goal c cs behind call t arguments =
        let is = t.is_for in
        let p = g.present e.store in
        record {
          ahead = kept_ahead rest (record s { list = behind }) t.ahead;
          space = t.space;
          put = record {
            hold = subst (λ (ws : List W). All (Holds p) ws) (sym arguments) is.hold;
            known = is.known;
            name = is.name;
            named = is.named;
            is = is.is ∙ ap (λ (ws : List W). goal_of is.name (map (meaning p) ws)) (sym arguments);
          };
          clauses = t.clauses;
          enter = t.enter;
        }

    -- they were refused, and the clause is not tried
    pub again_refused : (rest : Option Rest) (s : State) (goal : Tree) (c : databases.Clause) (behind : List Member)
        (mark : ℕ) → IsAhead g (framed atom_word) e (record s { list = behind }) rest
        → Remains g (framed atom_word) with_lists (tried_clause goal c mark behind s)
    again_refused rest s goal c behind mark ahead =
        let kept = kept_ahead rest (record s { list = behind }) ahead in
        remains_tried g (framed atom_word) with_lists (g.present e.store) s goal c mark behind (pending_at lists rest)
        (keeps_ahead g (framed atom_word) with_lists (record s { list = behind }) rest kept)
        (λ counts. grows_most _ _ (omega arith) (omega arith) (grows_same 0 0 refl)) kept.fits
