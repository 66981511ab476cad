-- A goal of bagof/3 or setof/3: the engine's move is a step.
use Rattle.std.proofs.Common.{◌≡◌, ◌+◌, ◌-◌, ◌≤◌, ℕ, suc, Bool, true, false, [], ◌∷◌, length, refl, ap, sym, ◌∙◌, subst, inl, inr, Some, arith}
use Rattle.iso_model.specs.Terms.Arguments.{argument, arity}
use Rattle.iso_model.specs.Terms.Sizes.{size}
use Rattle.iso_model.specs.Terms.Substitutions.{apply}
use Rattle.iso_model.specs.Terms.Trees.{Tree}
use Rattle.iso_model.specs.Search.Bodies.{Body, body_term, converted}
use Rattle.iso_model.specs.Search.BuiltIns.{Gathers, reply}
use Rattle.iso_model.specs.Search.Groups.{stripped, pair}
use Rattle.iso_model.specs.Search.Replies.{Grouping, InGroups}
use Rattle.iso_search.specs.Limits.{ComesFull}
use Rattle.iso_model.specs.Search.Walker.{State, Goal, Gather, Gathering, Goes, pushed, step, with_goal, with_template}
use Rattle.iso_model.specs.declared.built_ins.BuiltIn.{BuiltIn}
use Rattle.iso_store_core.specs.Presents.{meaning, Present}
use Rattle.iso_store_core.specs.declared.stores.Store.{Ghosts}
use Rattle.iso_search_core.specs.Asking.{goal_witness, goal_grouping}
use Rattle.iso_search_core.specs.Cells.{conversion_cells}
use Rattle.iso_search_core.specs.Replies.{CanBeRun}
use Rattle.iso_search_core.specs.declared.lists.Lists as lists
use Rattle.iso_search_core.proofs.ArityLemmas.{HasArity}
use Rattle.iso_search_core.proofs.CellLemmas.{converted_cells}
use Rattle.iso_search_core.proofs.FittingLemmas.{fits_more}
use Rattle.iso_search.specs.declared.search.Move.{Move}
use Rattle.iso_search.specs.declared.search.Move.TheVariants as move
use Rattle.iso_search.specs.declared.search.Search.{Search}
use Rattle.iso_search.specs.EngineStates.{IsEngine, Represents, Refused, WasRefused, Moves}
use Rattle.iso_search.specs.Gathers.{EntersFindall, template_of, solved_of}
use Rattle.iso_search.specs.Groups.{FindsGroups, finding_groups, gathering_groups}
use Rattle.iso_search.specs.Nexts.{IsAtGoal}
use Rattle.iso_search.specs.Replying.{TookStep}
use Rattle.iso_search.proofs.GroupReplies.{AreParts, grouper, group_parts}
use Rattle.iso_search.proofs.RunCosts.{steps_same}
use Rattle.iso_search.proofs.RunLemmas.{one_less}
use Rattle.iso_search.proofs.SameBodies.{around_steps, same_finding}
use Rattle.iso_search.proofs.SearchSteps.{own_goal}
use Rattle.iso_search.proofs.Moves.Reply.{behind, same_behind, goal_same, arity_same, full_now, over_by, around, own_reply}
use Rattle.iso_search.proofs.Moves.Run.{at, runs_to}
use Rattle.iso_search.proofs.Moves.Search.{goes_as, refuses, refuses_before}

-- it has three arguments
three_of : (sorts : Bool) (n : ℕ) → HasArity (grouper sorts) n → n ≡ 3
three_of true n h = h
three_of false n h = h

module _ {S L W M K P C N B O : Type 0} (g : Ghosts S W M) (l : lists.Ghosts L S K P C N B O W M) where
  module _ {e mid : Search S L W M K P C N B O} {w : W} {rest : P} {b : BuiltIn} (took : TookStep g l e mid w rest b)
      (s : State) (r : Represents g l e s) where
    abbrev n : ℕ
    n = e.steps - 1

    abbrev o : State
    o = r.own

    abbrev a : IsAtGoal g l e w rest o
    a = at g l e s w rest took.first r

    abbrev t : Tree
    t = meaning (g.present e.store) w

    module _ (template : Tree) (c : Body) (by : Grouping) (sorts : Bool) (is : reply b t ≡ Gathers template c (InGroups by))
        (kind : by.sorts ≡ sorts) (same : g.present mid.store ≡ g.present e.store) where
      -- the goal, as it stands behind the step, and what is run of it
      abbrev goal : Tree
      goal = meaning (g.present mid.store) w

      abbrev solved : Tree
      solved = stripped (solved_of (g.present mid.store) w)

      -- the state behind it
      abbrev pub behind_groups : State
      behind_groups = behind g l took s r o.built

      parts : (b ≡ grouper sorts) × AreParts sorts t template c by
      parts = group_parts b t template c by sorts is kind

      still : goal ≡ t
      still = goal_same g l took s r same

      template_same : pair (goal_witness goal) (template_of (g.present mid.store) w) ≡ template
      template_same = ap (λ (x : Tree). pair (goal_witness x) (argument 0 x)) still ∙ sym parts.1.0

      grouping_same : goal_grouping sorts goal ≡ by
      grouping_same = ap (goal_grouping sorts) still ∙ sym parts.1.1

      pub stripped_can : CanBeRun solved
      stripped_can = subst (λ (x : Tree). CanBeRun (stripped (argument 1 x))) (sym still) parts.1.2

      pub stripped_converted : converted solved ≡ Some c
      stripped_converted = ap (λ (x : Tree). converted (stripped (argument 1 x))) still ∙ parts.1.3

      pub enters_groups : EntersFindall g l mid w behind_groups rest
      enters_groups = record {
        ahead = same_behind g l took s r same;
        space =
            (let room = a.at.ahead.goes.room in
            let all = a.at.ahead.steps in
            let one = one_less e.steps took.more in
            let less = steps_same g l took s r in
            omega (arith, room, all, one, less));
        holds = subst (λ (q : Present W). q.holds w ≡ true) (sym same) a.holds;
        three = three_of sorts (arity goal) (arity_same g l took s r same parts.0);
      }

      -- the state that the walker comes to
      abbrev pub walker_groups : State
      walker_groups = record (gathering_groups by behind_groups) {
        list = Goal c (suc (length o.stack)) ∷ Gather (length o.stack) template ∷ a.at.behind;
        built = (with_template (InGroups by) o).built + size (body_term c);
      }

      groups_to : step o ≡ Goes walker_groups
      groups_to =
          let asked = pushed a.at.behind (Gathering (InGroups by) [] 0) (with_template (InGroups by) o) in
          let list = Goal c (suc (length o.stack)) ∷ Gather (length o.stack) template ∷ a.at.behind in
          runs_to g l e s w rest took.first r (record (with_goal c asked) { list = list }) took.more
          (own_goal t a.at.behind o b (Gathers template c (InGroups by)) took.is_own is)

      pub groups_now : (new : Search S L W M K P C N B O) (m : Move)
          → FindsGroups g l m new (pair (goal_witness goal) (template_of (g.present mid.store) w))
          (goal_grouping sorts goal) c behind_groups → Moves g l m s new
      groups_now new move.Goes was =
          let own = own_reply g l took s r (Gathers template c (InGroups by)) is in
          let body = was.1 in
          let value : apply o.subst was.0 ≡ apply o.subst template = was.2 ∙ (template_same ∙ sym own.0) in
          let found : Grouping → State = λ x. record (finding_groups body was.0 x behind_groups) {
            built = (with_template (InGroups x) behind_groups).built + size (body_term c);
          } in
          let engine = subst (λ (x : Grouping). IsEngine g l new (found x)) grouping_same (was.4).0 in
          goes_as g l e new s r walker_groups (found by) groups_to
          (same_finding (with_template (InGroups by) behind_groups) body c was.0 template (InGroups by)
          (suc (length o.stack)) (length o.stack) walker_groups.built a.at.behind (was.3 ∙ sym own.1) value own.2
          (around_steps o a.at.behind (with_template (InGroups by) o).built n (around g l took s r))) engine (was.4).1
      groups_now new (move.Pauses p) was = full_now g l took s r new p was

      -- it was refused: before its choice stood, or behind that
      abbrev RefusedBy : Search S L W M K P C N B O → Grouping → Type 0
      RefusedBy new x =
          WasRefused g l new (with_template (InGroups x) behind_groups)
          (record (gathering_groups x behind_groups) {
            built = (with_template (InGroups x) behind_groups).built + conversion_cells solved;
          })

      stops_by : (new : Search S L W M K P C N B O) → RefusedBy new by → Refused g l new s
      stops_by new (inl remains) =
          refuses_before g l new o walker_groups s r.same groups_to remains.0
          (fits_more g (g.present new.store) 0 (with_template (InGroups by) behind_groups) walker_groups refl
          (omega arith) remains.1)
      stops_by new (inr remains) =
          let made = (with_template (InGroups by) o).built + conversion_cells solved in
          let few = converted_cells solved c stripped_converted in
          refuses g l new o walker_groups s r.same groups_to (
            remains.0,
            fits_more g (g.present new.store) 0 (record o { built = made }) walker_groups refl (omega (arith, few))
                remains.1,
          )

      pub groups_stop : (new : Search S L W M K P C N B O) → RefusedBy new (goal_grouping sorts goal) → Refused g l new s
      groups_stop new was = stops_by new (subst (λ (x : Grouping). RefusedBy new x) grouping_same was)

      pub groups_over : mid.limit ≤ length mid.choices.items → ComesFull e.limit s
      groups_over full = over_by g l took s r walker_groups groups_to refl full
