-- What trying a clause comes to, in an engine: its head was met, or never equals the call.
use Rattle.std.proofs.Common.{◌≡◌, ◌<◌, ◌≤◌, ℕ, ◌+◌, ◌*◌, List, [], ◌∷◌, ◌++◌, true, false, refl, ap, ap₂, ◌∙◌, sym, subst, arith}
use Rattle.std.specs.Prelude.{Result, Ok, Err, OnErr}
use Rattle.iso_atoms.specs.Texts.{KeepsTexts}
use Rattle.iso_model.specs.Terms.Trees.{Tree, Variable, Integer, Name, Apply, End, More}
use Rattle.iso_model.specs.Terms.Substitutions.{Subst, apply, compose}
use Rattle.iso_model.specs.Terms.Unification.Applied.{apply_apply, apply_same}
use Rattle.iso_model.specs.Terms.Unifiers.{Unifier, NeverEqual}
use Rattle.iso_model.specs.Terms.Copies.{renamed}
use Rattle.iso_model.specs.Search.Additions.{most_variables}
use Rattle.iso_model.specs.Search.Bodies.{Body, Cut, Run, And, Or, If, Choose, map_body, is_true}
use Rattle.iso_model.specs.Search.Databases as databases
use Rattle.iso_model.specs.Search.Walker.{State, World, Alternative, Member, Goal, Fail, tried_clause, before, arguments_size, body_size, clause_size, query_size}
use Rattle.iso_model.specs.Search.RunLaws.Sameness.{SameList}
use Rattle.iso_model.proofs.Search.CallLemmas.{clause_found, clause_keeps, clause_missed}
use Rattle.iso_prep.specs.Classes.{goals_of}
use Rattle.iso_store_core.specs.Heads.{new_head}
use Rattle.iso_store_core.specs.Presents.{Grows, Present, KeepsMarks}
use Rattle.iso_store_core.specs.Retaining.{CountsCells}
use Rattle.iso_store_core.specs.declared.stores.Store.{Ghosts}
use Rattle.iso_program.specs.Kept.{AreTemplates}
use Rattle.iso_program.specs.Values.{HasValues}
use Rattle.iso_program.proofs.ClauseLemmas.{templates-parts}
use Rattle.iso_search_core.specs.declared.lists.Lists as lists
use Rattle.iso_search_core.specs.declared.nows.Now.{Now}
use Rattle.iso_search_core.specs.declared.nows.Now.TheVariants as now
use Rattle.iso_search_core.specs.Fitting.{FitsState}
use Rattle.iso_search_core.specs.Standing as standing
use Rattle.iso_search_core.specs.Standing.{GoesOn, DoesNext, most_numbers, numbers_a_step}
use Rattle.iso_search_core.proofs.WordLemmas.{variables_more}
use Rattle.iso_search.specs.declared.search.Search.{Search}
use Rattle.iso_search.specs.EngineStates.{IsAhead, IsBehind, IsEngine, Keeps, Remains, StandsAs, SameUnder}
use Rattle.iso_search.proofs.AheadLemmas.{engine_place}
use Rattle.iso_search.proofs.CountedLemmas.{clause_counts}
use Rattle.iso_search.proofs.Moves.Search.{stands_itself}
use Rattle.iso_search.proofs.StoppedLemmas.{base_kept}
use Rattle.iso_search.proofs.UnderLemmas.{same_values, same_under, same_in_front}
use Rattle.iso_search.proofs.WorldLemmas.{world_on, choices_grown}

-- what follows from what an error leaves is left by it
pub error_weaker : {T E : Type 0} (result : Result T E) {P Q : Type 0} → (P → Q) → OnErr result P → OnErr result Q
error_weaker (Ok t) weaker h = tt
error_weaker (Err e) weaker h = weaker h

-- ---- bodies

-- each variable by its new one
abbrev renaming : ℕ → Subst
renaming n x = Variable (n + x)

-- whether a body is `true` is no matter of its variables
true_renamed : (n : ℕ) (b : Body) → is_true (map_body (renaming n) b) ≡ is_true b
true_renamed n (Run (Variable k)) = refl
true_renamed n (Run (Integer z)) = refl
true_renamed n (Run (Name a)) = refl
true_renamed n (Run (Apply f ts)) = refl
true_renamed n (Run End) = refl
true_renamed n (Run (More t ts)) = refl
true_renamed n Cut = refl
true_renamed n (And a b) = refl
true_renamed n (Or a b) = refl
true_renamed n (If a b) = refl
true_renamed n (Choose a b c) = refl

-- the members that a clause brings: its body where it isn't `true`
before_fact : (b : Body) (mark : ℕ) (rest : List Member) → is_true b ≡ true → before b mark rest ≡ rest
before_fact b mark rest is = rw is refl

before_body : (b : Body) (mark : ℕ) (rest : List Member) → is_true b ≡ false → before b mark rest ≡ Goal b mark ∷ rest
before_body b mark rest is = rw is refl

-- a body whose variables, of so many, have terms of the same values
module _ (own terms u new : Subst) (n : ℕ) (values : (k : ℕ) → k < n → apply own (terms k) ≡ apply u (new k)) where
  pub body_fitting : (b : Body) → AreTemplates n (goals_of b)
      → map_body own (map_body terms b) ≡ map_body u (map_body new b)
  body_fitting Cut goals = refl
  body_fitting (Run t) goals =
      ap Run (apply_apply terms own t
      ∙ (apply_same (compose terms own) (compose new u) t (λ x occurs. values x ((goals.0).below x occurs))
      ∙ sym (apply_apply new u t)))
  body_fitting (And a b) goals =
      let both = templates-parts n (goals_of a) (goals_of b) goals in
      ap₂ And (body_fitting a both.0) (body_fitting b both.1)
  body_fitting (Or a b) goals =
      let both = templates-parts n (goals_of a) (goals_of b) goals in
      ap₂ Or (body_fitting a both.0) (body_fitting b both.1)
  body_fitting (If a b) goals =
      let both = templates-parts n (goals_of a) (goals_of b) goals in
      ap₂ If (body_fitting a both.0) (body_fitting b both.1)
  body_fitting (Choose a b c) goals =
      let all = templates-parts n (goals_of a) (goals_of b ++ goals_of c) goals in
      let both = templates-parts n (goals_of b) (goals_of c) all.1 in
      let first = body_fitting a all.0 in
      let second = body_fitting b both.0 in
      let third = body_fitting c both.1 in
      λ i. Choose (first i) (second i) (third i)

-- ---- states

module _ {S L W M K P C N B O : Type 0} (g : Ghosts S W M) (l : lists.Ghosts L S K P C N B O W M) where
  -- what entering a clause takes, and what its goals are still to take, are within what the state counts for the clause
  clause_fits : (p q : Present W) (s v : State) (c : databases.Clause) (few many : ℕ)
      → (CountsCells g → Grows p q (c.variables + arguments_size c.head) c.variables)
      → few ≤ 2 * body_size c.body + many → v.query ≡ s.query → v.built ≡ s.built + clause_size c
      → FitsState g p many s → FitsState g q few v
  clause_fits p q s v c few many grows less same built fits counts =
      let all = fits counts in
      let cells = (grows counts).cells in
      let variables = (grows counts).variables in
      let query = ap query_size same in
      omega (arith, less, all, cells, variables, query, built)

  -- an engine that keeps what it had, and took no more than the clause counts
  pub remains_tried : (e : Search S L W M K P C N B O) (p : Present W) (s : State) (call : Tree) (c : databases.Clause)
      (mark : ℕ) (behind : List Member) (many : ℕ) → Keeps g l e s.world s.stack
      → (CountsCells g → Grows p (g.present e.store) (c.variables + arguments_size c.head) c.variables)
      → FitsState g p many s → Remains g l e (tried_clause call c mark behind s)
  remains_tried e p s call c mark behind many keeps grows fits =
      let kept = clause_keeps call c mark behind s in
      let v = tried_clause call c mark behind s in
      let counted = clause_counts call c mark behind s in (
        subst (λ (ks : List Alternative). Keeps g l e v.world ks) (sym kept.0)
            (subst (λ (w : World). Keeps g l e w s.stack) (sym kept.1) keeps),
        clause_fits p (g.present e.store) s v c 0 many grows (omega arith) kept.2 counted fits,
      )

  -- the engine with another store and other lists, and something else to do next
  abbrev pub onward : Search S L W M K P C N B O → S → L → Now N P → Search S L W M K P C N B O
  onward e store held doing = record e { store = store; lists = held; now = doing }

  -- The engine tried the clause, and these are the store and the lists now.
  pub record Tried (e : Search S L W M K P C N B O) (rest : P) (s : State) (c : databases.Clause)
      (behind : List Member) (store : S) (held : L) : Type 0 where
    pub ahead : IsAhead g l e (record s { list = behind }) rest
    pub space : s.next + numbers_a_step * (e.steps + 1) ≤ most_numbers
    pub keeps : KeepsMarks (g.stands e.store) (g.stands store)
    pub texts : KeepsTexts (g.names e.store) (g.names store)
    pub grows : standing.Keeps l e.lists held
    pub cells : CountsCells g
        → Grows (g.present e.store) (g.present store) (c.variables + arguments_size c.head) c.variables
    pub few : c.variables ≤ most_variables
    pub goals : AreTemplates c.variables (goals_of c.body)

  module _ (e : Search S L W M K P C N B O) (rest : P) (s : State) (call : Tree) (c : databases.Clause)
      (behind : List Member) (store : S) (held : L) (mark : ℕ) (t : Tried e rest s c behind store held) where
    abbrev p : Present W
    p = g.present e.store

    abbrev q : Present W
    q = g.present store

    abbrev subst_is : p.substitution ≡ s.subst
    subst_is = t.ahead.goes.subst

    abbrev next_was : p.next ≡ s.next
    next_was = (t.ahead).goes.next

    -- nothing makes the head and the call equal
    pub missed_engine : NeverEqual call (new_head p c.head)
        → StandsAs g l (onward e store held now.Failing) (tried_clause call c mark behind s)
    missed_engine never =
        let none : NeverEqual call (apply s.subst (renamed s.next c.head)) =
        subst (λ (r : Subst). NeverEqual call (apply r (renamed s.next c.head))) subst_is
        (subst (λ (n : ℕ). NeverEqual call (apply p.substitution (renamed n c.head))) next_was never) in
        let is = clause_missed call c mark behind s none in
        let h = (t.ahead) in
        let v : State = record s {
          list = Fail ∷ [];
          next = s.next + c.variables;
          built = s.built + clause_size c;
        } in
        let engine : IsEngine g l (onward e store held now.Failing) v = record {
          world = world_on l t.texts h.world;
          steps = h.steps;
          base = base_kept g e.store store e.base t.keeps h.base;
          choices = choices_grown l t.texts t.grows (λ d p among stood. t.keeps d.mark p stood) h.choices;
          room = h.room;
          fits = clause_fits p q s v c 0 (l.pending e.lists rest) t.cells (omega arith) refl refl h.fits;
          next = ([], refl);
        } in
        subst (λ (v : State). StandsAs g l (onward e store held now.Failing) v) (sym is)
        (stands_itself g l (onward e store held now.Failing) v engine)

    -- The head was unified with the call, and these members come first from this place on, which are behind it and
    -- this body for the clause's.
    module _ (u : Subst) (is : Unifier call (new_head p c.head) u) (values : HasValues p q (compose p.substitution u))
        (next : q.next ≡ p.next + c.variables) (place : P) (ms : List Member)
        (list : l.list q held (l.whole held) place ms)
        (pending : l.pending held place ≤ 2 * body_size c.body + l.pending e.lists rest) where
      abbrev new_body : Body
      new_body = map_body (renaming s.next) c.body

      -- the state of the search
      abbrev there : State
      there = record s {
        list = before new_body mark behind;
        subst = compose s.subst u;
        next = s.next + c.variables;
        built = s.built + clause_size c;
      }

      unifies : Unifier call (apply s.subst (renamed s.next c.head)) u
      unifies =
          subst (λ (r : Subst). Unifier call (apply r (renamed s.next c.head)) u) subst_is
          (subst (λ (n : ℕ). Unifier call (apply p.substitution (renamed n c.head)) u) next_was is)

      found : tried_clause call c mark behind s ≡ there
      found = clause_found call c mark behind s u unifies

      next_is : q.next ≡ s.next + c.variables
      next_is = (let a = next_was in omega (arith, a, next))

      bound : compose p.substitution u ≡ compose s.subst u
      bound = ap (λ (r : Subst). compose r u) subst_is

      -- what is behind has its values
      behind_values : SameList q.substitution (compose s.subst u) behind behind
          → SameUnder q.substitution (compose s.subst u) (record there { list = behind })
      behind_values goals =
          let own = subst (λ (r : Subst). HasValues p q r) bound values in
          same_values own e.query.items (record there { list = behind }) next_is goals (t.ahead).goes.words

      -- the engine's own state
      abbrev own_state : State
      own_state = record there { list = ms; subst = q.substitution }

      own_engine : (n : Now N P) → IsBehind l q held place n ms → IsEngine g l (onward e store held n) own_state
      own_engine n comes =
          let h = (t.ahead) in
          let ahead : IsAhead g l (onward e store held n) own_state place = record {
            world = world_on l t.texts h.world;
            steps = h.steps;
            base = base_kept g e.store store e.base t.keeps h.base;
            choices = choices_grown l t.texts t.grows (λ d p among stood. t.keeps d.mark p stood) h.choices;
            room = h.room;
            fits =
                clause_fits p q s own_state c (l.pending held place) (l.pending e.lists rest) t.cells pending refl refl
                h.fits;
            goes = record {
              subst = refl;
              next = next_is;
              room =
                  (let few = t.few in let space = t.space in let steps = h.steps in
                  omega (arith, few, space, steps));
              words = variables_more values.words h.goes.words;
            };
            chain = list;
          } in
          engine_place g l (onward e store held n) own_state place n ahead comes

      -- the clause has no body
      pub fact_engine : (n : Now N P) → IsBehind l q held place n ms → is_true c.body ≡ true → ms ≡ behind
          → SameList q.substitution (compose s.subst u) behind behind
          → StandsAs g l (onward e store held n) (tried_clause call c mark behind s)
      fact_engine n comes fact same goals =
          let alone = before_fact new_body mark behind (true_renamed s.next c.body ∙ fact) in
          let h = behind_values goals in
          let under : SameUnder q.substitution there.subst there = record {
            goals =
                subst (λ (xs : List Member). SameList q.substitution there.subst xs xs) (sym alone)
                h.goals;
            shown = h.shown;
            beyond = h.beyond;
            twice = h.twice;
          } in
          let own : State = record there { subst = q.substitution } in
          let engine : IsEngine g l (onward e store held n) own =
          subst (λ (xs : List Member). IsEngine g l (onward e store held n) (record own { list = xs }))
          (same ∙ sym alone) (own_engine n comes) in
          subst (λ (v : State). StandsAs g l (onward e store held n) v) (sym found)
          (record { own = own; engine = engine; same = same_under q.substitution there under })

      -- it has one, of the same value
      pub body_engine : (n : Now N P) → IsBehind l q held place n ms → (b : Body) → is_true c.body ≡ false
          → map_body q.substitution b ≡ map_body (compose s.subst u) new_body
          → ms ≡ Goal b mark ∷ behind → SameList q.substitution (compose s.subst u) behind behind
          → StandsAs g l (onward e store held n) (tried_clause call c mark behind s)
      body_engine n comes b other value are goals =
          let alone = before_body new_body mark behind (true_renamed s.next c.body ∙ other) in
          let front : State = record there { list = Goal b mark ∷ behind; subst = q.substitution } in
          let engine : IsEngine g l (onward e store held n) front =
          subst (λ (xs : List Member). IsEngine g l (onward e store held n) (record own_state { list = xs })) are
          (own_engine n comes) in
          subst (λ (v : State). StandsAs g l (onward e store held n) v) (sym found)
          (record {
            own = front;
            engine = engine;
            same = λ itself. same_in_front q.substitution there b new_body mark behind alone value
                (behind_values goals) itself;
          })
