-- The engine's parts behind a clause that was tried.
use Rattle.std.proofs.Common.{◌≡◌, ◌<◌, ◌≤◌, ℕ, ◌+◌, ◌*◌, List, [], ◌∷◌, Option, true, false, inl, inr, length, refl, ap, ◌∙◌, sym, subst, arith, Vec, Global}
use Rattle.std.specs.Prelude.{option_map}
use Rattle.std.proofs.lemmas.Bool.{cases_Bool}
use Rattle.iso_atoms.specs.Texts.{KeepsTexts}
use Rattle.iso_model.specs.Terms.Trees.{Tree, Variable, Integer, Name, Apply, End, More}
use Rattle.iso_model.specs.Terms.TermOf.{term_of}
use Rattle.iso_model.specs.Terms.Substitutions.{Subst, apply, compose}
use Rattle.iso_model.specs.Terms.Unifiers.{Unifier, NeverEqual}
use Rattle.iso_model.specs.Terms.Copies.{renamed}
use Rattle.iso_model.specs.Search.Bodies.{Body, Cut, Run, And, Or, If, Choose, map_body, is_true}
use Rattle.iso_model.specs.Search.Databases as databases
use Rattle.iso_model.specs.Search.Walker.{State, World, Alternative, Member, Goal, Fail, tried_clause, before, arguments_size, body_size, clause_size, query_size}
use Rattle.iso_model.specs.Search.RunLaws.Sameness.{SameList}
use Rattle.iso_model.proofs.Search.CallLemmas.{clause_found, clause_keeps, clause_missed}
use Rattle.iso_store_core.specs.Presents.{Grows, Present, KeepsMarks}
use Rattle.iso_store_core.specs.Retaining.{CountsCells}
use Rattle.iso_store_core.proofs.RetainLemmas.{grows_most}
use Rattle.iso_store_core.specs.declared.stores.Store.{Ghosts}
use Rattle.iso_plain_core.specs.Nodes.{EndsWith, ArePartsOf}
use Rattle.iso_program.specs.Heads.{head_parts, head_term}
use Rattle.iso_program.specs.Written.{IsPatternOf}
use Rattle.iso_prep.specs.declared.bodies.Node.{Node}
use Rattle.iso_search_core.specs.Costs.{now_pending}
use Rattle.iso_search_core.specs.Fitting.{FitsState}
use Rattle.iso_search_core.specs.Own.{own_of}
use Rattle.iso_search_core.proofs.FittingLemmas.{fits_fewer}
use Rattle.iso_search_core.specs.declared.choices.Attempt.{Attempt}
use Rattle.iso_plain_core.specs.declared.members.Link.{Link}
use Rattle.iso_plain_core.specs.declared.members.Todo.TheVariants as todo
use Rattle.iso_search_core.specs.declared.nows.Now.{Now}
use Rattle.iso_search_core.specs.declared.nows.Now.TheVariants as now
use Rattle.iso_plain_core.specs.Standing.{Chain, First, IsBody, a_body}
use Rattle.iso_search_core.specs.Standing.{GoesOn, DoesNext}
use Rattle.iso_program.specs.Kept.{IsClause}
use Rattle.iso_plain_core.specs.Entering.{Meets, Brings, Adds, renaming_from}
use Rattle.iso_program.specs.Values.{HasValues}
use Rattle.iso_search.specs.EngineStates.{IsAhead, IsBehind, IsEngine, Keeps, Remains, StandsAs, SameUnder, Calls}
use Rattle.iso_plain.specs.declared.linked.Linked.{Linked}
use Rattle.iso_plain.specs.Links.{IsList, KeepsLinks, extent_of, links_of}
use Rattle.iso_plain.specs.Engines.{EngineClause, Engine, linked}
use Rattle.iso_plain_core.proofs.StandingLemmas.{AddsLinks, chain_more}
use Rattle.iso_search_core.proofs.WordLemmas.{variables_more}
use Rattle.iso_plain_core.specs.Cells.{entry_cells}
use Rattle.iso_plain_core.proofs.EnteringLemmas.{adds_none, placed_body}
use Rattle.iso_plain_core.proofs.EntryLemmas.{entry_within}
use Rattle.iso_search.proofs.StoppedLemmas.{base_kept}
use Rattle.iso_search.proofs.WorldLemmas.{world_on, choices_grown}
use Rattle.iso_program.proofs.WrittenLemmas.{head_is}
use Rattle.iso_search.proofs.AheadLemmas.{engine_place}
use Rattle.iso_search.proofs.CountedLemmas.{clause_counts}
use Rattle.iso_search.proofs.Moves.Search.{stands_itself}
use Rattle.iso_plain.proofs.LinkLemmas.{adds_keeps, whole_chain, whole_list}
use Rattle.iso_search.proofs.UnderLemmas.{same_values, same_under, same_in_front, body_under}
use Rattle.iso_plain.specs.LinkValues.{members_value}

-- the members that a clause brings: its body where it isn't `true`
before_fact : (b : Body) (mark : ℕ) (rest : List Member) → is_true b ≡ true → before b mark rest ≡ rest
before_fact b mark rest is = rw is refl

before_body : (b : Body) (mark : ℕ) (rest : List Member) → is_true b ≡ false → before b mark rest ≡ Goal b mark ∷ rest
before_body b mark rest is = rw is refl

-- ---- whether a clause has a body

true_renamed : (n : ℕ) (b : Body) → is_true (map_body (renaming_from n) b) ≡ is_true b
true_renamed n (Run (Variable k)) = refl
true_renamed n (Run (Integer z)) = refl
true_renamed n (Run (Name a)) = refl
true_renamed n (Run (Apply f ts)) = refl
true_renamed n (Run End) = refl
true_renamed n (Run (More t ts)) = refl
true_renamed n Cut = refl
true_renamed n (And a b) = refl
true_renamed n (Or a b) = refl
true_renamed n (If a b) = refl
true_renamed n (Choose a b c) = refl

-- a clause without parts has the body `true`, also with its variables renamed
fact_true : {G : Type 0} (Stands : G → Tree → Type 0) (n : ℕ) (parts : List (Node G)) (b : Body) → ArePartsOf Stands parts b → parts ≡ [] → is_true (map_body (renaming_from n) b) ≡ true
fact_true Stands n parts b h none =
    elim (cases_Bool (is_true b)) [
      | inl fact ↦ true_renamed n b ∙ fact
      | inr other ↦ absurd (let ends : EndsWith Stands parts b = rw other at h in let some = ends.some in let many = ap length none in omega (arith, some, many))
    ]

-- one with parts has another
body_untrue : {G : Type 0} (Stands : G → Tree → Type 0) (n : ℕ) (parts : List (Node G)) (b : Body) → ArePartsOf Stands parts b → 0 < length parts → (is_true (map_body (renaming_from n) b) ≡ false) × EndsWith Stands parts b
body_untrue Stands n parts b h some =
    elim (cases_Bool (is_true b)) [
      | inl fact ↦ absurd (let none : parts ≡ [] = rw fact at h in let many = ap length none in omega (arith, some, many))
      | inr other ↦ (true_renamed n b ∙ other, rw other at h)
    ]

-- linked members take no cells later
pub none_pending : (n : Now Link (Option ℕ)) (k : ℕ) → now_pending (λ (link : Link). 0) n ≤ k
none_pending now.Idle k = omega arith
none_pending n k = omega arith

-- with other nodes
abbrev pub with_nodes : {S W M : Type 0} → Linked S W M → Vec (Node W) Global → Linked S W M
with_nodes l nodes = record l { nodes = nodes }

module _ {S W M : Type 0} (g : Ghosts S W M) where
  -- entering a clause takes its variables, and at most twice what its arguments count
  pub entered_cells : (old new : S) (k : EngineClause S W M) (c : databases.Clause) → IsClause (own_of linked) (g.names old) k c → (CountsCells g → Grows (g.present old) (g.present new) (entry_cells (g.names old) k k.own.kept.parts.items) k.variables)
      → CountsCells g → Grows (g.present old) (g.present new) (c.variables + 2 * (arguments_size c.head + body_size c.body)) c.variables
  entered_cells old new k c is cells counts =
      let same = is.variables in
      grows_most (c.variables + 2 * (arguments_size c.head + body_size c.body)) c.variables (entry_within (g.names old) k k.own.kept c is is.own) (omega (arith, same)) (cells counts)

  -- they are within what the state counts for the clause
  clause_fits : (p q : Present W) (s v : State) (c : databases.Clause) {few many : ℕ} → (CountsCells g → Grows p q (c.variables + 2 * (arguments_size c.head + body_size c.body)) c.variables) → few ≤ many → v.query ≡ s.query → v.built ≡ s.built + clause_size c
      → FitsState g p many s → FitsState g q few v
  clause_fits p q s v c grows less same built fits counts =
      (let all = fits counts in let cells = (grows counts).cells in let variables = (grows counts).variables in let query = ap query_size same in omega (arith, less, all, cells, variables, query, built))

  -- an engine that keeps what it had, and took no more than the clause counts
  pub remains_tried : (e : Engine S W M) (p : Present W) (s : State) (call : Tree) (c : databases.Clause) (mark : ℕ) (behind : List Member) (many : ℕ) → Keeps g linked e s.world s.stack
      → (CountsCells g → Grows p (g.present e.store) (c.variables + 2 * (arguments_size c.head + body_size c.body)) c.variables) → FitsState g p many s → Remains g linked e (tried_clause call c mark behind s)
  remains_tried e p s call c mark behind many keeps grows fits =
      let kept = clause_keeps call c mark behind s in
      let v = tried_clause call c mark behind s in
      let counted = clause_counts call c mark behind s in (
        subst (λ (ks : List Alternative). Keeps g linked e v.world ks) (sym kept.0) (subst (λ (w : World). Keeps g linked e w s.stack) (sym kept.1) keeps),
        clause_fits p (g.present e.store) s v c grows (omega arith) kept.2 counted fits,
      )

  -- the engine with another store, other nodes and words, and something else to do next
  abbrev pub onward : Engine S W M → S → Vec (Node W) Global → Vec W Global → Now Link (Option ℕ) → Engine S W M
  onward e store nodes words doing = record e { store = store; lists = with_nodes e.lists nodes; words = words; now = doing }

  -- The engine tried the clause, and these are the store and the nodes now.
  pub record Tried (e : Engine S W M) (attempt : Attempt W) (rest : Option ℕ) (s : State) (call : Tree) (c : databases.Clause) (cs : List databases.Clause) (behind : List Member) (store : S) (nodes : Vec (Node W) Global) (k : EngineClause S W M) : Type 0 where
    pub calls : Calls g linked e attempt rest s call c cs behind
    pub keeps : KeepsMarks (g.stands e.store) (g.stands store)
    pub texts : KeepsTexts (g.names e.store) (g.names store)
    pub adds : Adds e.lists.nodes.items nodes.items
    pub cells : CountsCells g → Grows (g.present e.store) (g.present store) (c.variables + 2 * (arguments_size c.head + body_size c.body)) c.variables
    pub is : IsClause (own_of linked) (g.names e.store) k c

  module _ (e : Engine S W M) (attempt : Attempt W) (rest : Option ℕ) (s : State) (call : Tree) (c : databases.Clause) (cs : List databases.Clause) (behind : List Member) (store : S) (nodes : Vec (Node W) Global) (words : Vec W Global) (k : EngineClause S W M) (mark : ℕ)
      (t : Tried e attempt rest s call c cs behind store nodes k) where
    abbrev p : Present W
    p = g.present e.store

    abbrev q : Present W
    q = g.present store

    abbrev lists : Linked S W M
    lists = with_nodes e.lists nodes

    abbrev value : call ≡ apply p.substitution (p.term attempt.call)
    value = (t.calls).is_for.1

    abbrev subst_is : p.substitution ≡ s.subst
    subst_is = (t.calls).ahead.goes.subst

    abbrev next_was : p.next ≡ s.next
    next_was = (t.calls).ahead.goes.next

    chain : Chain p (links_of e.lists) rest behind
    chain = whole_chain e.lists (t.calls).ahead.chain

    head_same : head_term (g.names e.store) k ≡ c.head
    head_same = head_is (g.names e.store) (head_parts k) c.head t.is.head

    -- the parts that don't depend on what comes next
    with_next : (doing : Now Link (Option ℕ)) (v : State) → v.world ≡ s.world → v.steps ≡ s.steps → v.stack ≡ s.stack → v.query ≡ s.query → v.built ≡ s.built + clause_size c
        → DoesNext linked q lists e.query.items doing (option_map (λ b. term_of b.term.value) e.raised) v → IsEngine g linked (onward e store nodes words doing) v
    with_next doing v world steps stack query built next =
        let h = (t.calls).ahead in
        let w = h.world in
        let grows : KeepsLinks (λ j. Unit {0}) e.lists lists = adds_keeps e.lists lists t.adds (adds_none e.lists.members.items) in
        record {
          world = rw world (world_on linked t.texts w);
          steps = steps ∙ h.steps;
          base = base_kept g e.store store e.base t.keeps h.base;
          choices = rw (stack, query) (choices_grown linked t.texts grows (λ d p among stood. t.keeps d.mark p stood) h.choices);
          room = rw stack h.room;
          fits = clause_fits p q s v c t.cells (none_pending doing 0) query built h.fits;
          next = next;
        }

    pub missed_engine : NeverEqual (apply p.substitution (p.term attempt.call)) (apply p.substitution (renamed p.next (head_term (g.names e.store) k)))
        → StandsAs g linked (onward e store nodes words now.Failing) (tried_clause call c mark behind s)
    missed_engine never =
        let P : Tree → Subst → ℕ → Tree → Type 0 = λ a r n h. NeverEqual a (apply r (renamed n h)) in
        let none : P call s.subst s.next c.head = rw (value, ← subst_is, ← next_was, ← head_same) never in
        let is = clause_missed call c mark behind s none in
        subst (λ (v : State). StandsAs g linked (onward e store nodes words now.Failing) v) (sym is)
        (stands_itself g linked (onward e store nodes words now.Failing) _ (with_next now.Failing _ refl refl refl refl refl ([], refl)))

    unifies : (m : Meets p q (p.term attempt.call) (head_term (g.names e.store) k) k.variables) → Unifier call (apply s.subst (renamed s.next c.head)) m.unifier
    unifies m =
        let P : Tree → Subst → ℕ → Tree → Type 0 = λ a r n h. Unifier a (apply r (renamed n h)) m.unifier in
        let here : P call s.subst s.next c.head = rw (value, ← subst_is, ← next_was, ← head_same) m.is in
        here

    links_add : AddsLinks (links_of e.lists) (links_of lists)
    links_add = record { nodes = t.adds; members = adds_none e.lists.members.items }

    -- the head was unified with the call
    module _ (m : Meets p q (p.term attempt.call) (head_term (g.names e.store) k) k.variables) where
      abbrev new_body : Body
      new_body = map_body (renaming_from s.next) c.body

      -- the state of the search
      abbrev there : State
      there = record s { list = before new_body mark behind; subst = compose s.subst m.unifier; next = s.next + c.variables; built = s.built + clause_size c }

      found : tried_clause call c mark behind s ≡ there
      found = clause_found call c mark behind s m.unifier (unifies m)

      next_is : q.next ≡ s.next + c.variables
      next_is = (let a = next_was in let b = t.is.variables in let d = m.next in omega (arith, a, b, d))

      bound : compose p.substitution m.unifier ≡ compose s.subst m.unifier
      bound = ap (λ (r : Subst). compose r m.unifier) subst_is

      on : Chain q (links_of lists) rest behind
      on = chain_more (links_of lists) links_add m.values.words chain

      -- what is behind has its values
      behind_values : SameUnder q.substitution (compose s.subst m.unifier) (record there { list = behind })
      behind_values =
          let values = subst (λ (r : Subst). HasValues p q r) bound m.values in
          same_values values e.query.items (record there { list = behind }) next_is (members_value values (links_of e.lists) rest behind chain) (t.calls).ahead.goes.words

      -- the engine's own state, where members are still to be run
      goes_on : (list : List Member) → GoesOn q e.query.items (record there { list = list; subst = q.substitution })
      goes_on list = record {
        subst = refl;
        next = next_is;
        room = (let few = t.is.few in let space = (t.calls).space in let steps = (t.calls).ahead.steps in omega (arith, few, space, steps));
        words = variables_more m.values.words (t.calls).ahead.goes.words;
      }

      pub list_behind : IsList q lists (extent_of lists) rest behind
      list_behind = whole_list lists on

      -- the list behind comes next
      behind_engine : (n : Now Link (Option ℕ)) → IsBehind linked q lists rest n behind → IsEngine g linked (onward e store nodes words n) (record there { list = behind; subst = q.substitution })
      behind_engine n is =
          let own : State = record there { list = behind; subst = q.substitution } in
          let h = with_next now.Failing (record own { list = Fail ∷ [] }) refl refl refl refl refl ([], refl) in
          let ahead : IsAhead g linked (onward e store nodes words now.Failing) own rest = record {
            world = h.world;
            steps = h.steps;
            base = h.base;
            choices = h.choices;
            room = h.room;
            fits = fits_fewer g q own {few = 0} (omega arith) h.fits;
            goes = goes_on behind;
            chain = list_behind;
          } in
          engine_place g linked (onward e store nodes words now.Failing) own rest n ahead is

      pub fact_engine : (n : Now Link (Option ℕ)) → IsBehind linked q lists rest n behind → k.own.kept.parts.items ≡ [] → StandsAs g linked (onward e store nodes words n) (tried_clause call c mark behind s)
      fact_engine n is none =
          let fact = before_fact new_body mark behind (fact_true (IsPatternOf (g.names e.store)) s.next k.own.kept.parts.items c.body t.is.own.parts none) in
          let own : State = record there { subst = q.substitution } in
          let engine = subst (λ (ms : List Member). IsEngine g linked (onward e store nodes words n) (record own { list = ms })) (sym fact) (behind_engine n is) in
          let h = behind_values in
          let under : SameUnder q.substitution there.subst there = record {
            goals = subst (λ (ms : List Member). SameList q.substitution there.subst ms ms) (sym fact) h.goals;
            shown = h.shown;
            beyond = h.beyond;
            twice = h.twice;
          } in
          subst (λ (x : State). StandsAs g linked (onward e store nodes words n) x) (sym found)
          (record { own = own; engine = engine; same = same_under q.substitution there under })

    pub body_engine : (place : ℕ) → Brings (g.names e.store) p q e.lists.nodes.items nodes.items (p.term attempt.call) k k.own.kept.parts.items place
        → StandsAs g linked (onward e store nodes words (now.Running (record { todo = todo.Body place; height = mark; next = rest }))) (tried_clause call c mark behind s)
    body_engine place h =
        let m = h.meets in
        let v = there m in
        let b = map_body h.terms c.body in
        let f : Link = record { todo = todo.Body place; height = mark; next = rest } in
        let body = body_untrue (IsPatternOf (g.names e.store)) s.next k.own.kept.parts.items c.body t.is.own.parts h.some in
        let at : IsBody q nodes.items place b = placed_body (g.names e.store) q h.terms c.variables e.lists.nodes.items nodes.items k.own.kept.parts.items c.body place body.1 t.is.own.goal_templates h.copies h.last in
        let own : State = record v { list = Goal b mark ∷ behind; subst = q.substitution } in
        let first : First q (links_of lists) f own.list = record { member = Goal b mark; behind = behind; is = refl; stands = a_body refl at; chain = on m } in
        let engine = with_next (now.Running f) own refl refl refl refl refl (first, goes_on m own.list) in
        let values : (n : ℕ) → apply q.substitution (h.terms n) ≡ apply v.subst (renaming_from s.next n) = λ n.
        h.values n ∙ ap (λ (i : ℕ). compose p.substitution m.unifier (i + n)) next_was ∙ ap (λ (r : Subst). r (s.next + n)) (bound m) in
        let value = body_under q.substitution h.terms v.subst (renaming_from s.next) values c.body in
        subst (λ (x : State). StandsAs g linked (onward e store nodes words (now.Running f)) x) (sym (found m))
        (record { own = own; engine = engine; same = same_in_front q.substitution v b (new_body m) mark behind (before_body (new_body m) mark behind body.0) value (behind_values m) })
