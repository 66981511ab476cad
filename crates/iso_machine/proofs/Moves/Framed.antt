-- What trying a clause comes to, in the machine.
use Rattle.std.proofs.Common.{◌≡◌, ◌<◌, ◌≤◌, ℕ, ◌+◌, ◌*◌, List, [], ◌∷◌, ◌++◌, Bool, true, false, Option, inl, inr, ap, ◌∙◌, subst, if◌then◌else◌}
use Rattle.std.proofs.lemmas.Bool.{cases_Bool}
use Rattle.iso_model.specs.Terms.Trees.{Tree, Variable}
use Rattle.iso_model.specs.Terms.Substitutions.{Subst, apply, compose}
use Rattle.iso_model.specs.Search.Bodies.{Body, map_body, is_true}
use Rattle.iso_model.specs.Search.Databases as databases
use Rattle.iso_model.specs.Search.Walker.{State, Member, Goal, tried_clause, body_size}
use Rattle.iso_store_core.specs.Presents.{Present}
use Rattle.iso_store_core.specs.declared.stores.Store.{Ghosts}
use Rattle.iso_program.specs.Values.{HasValues}
use Rattle.iso_search_core.specs.declared.nows.Now.{Now}
use Rattle.iso_search_core.specs.Words.{word_terms}
use Rattle.iso_search.specs.EngineStates.{IsBehind, StandsAs}
use Rattle.iso_compile.specs.Control as compiled
use Rattle.iso_compile.specs.declared.control.Mark.TheVariants as mark
use Rattle.iso_frames.specs.declared.frames.Rest.{Rest}
use Rattle.iso_frames.specs.declared.frames.Next.{Next}
use Rattle.iso_frames.specs.Running.{placed}
use Rattle.iso_environments.specs.Entered.{clause_members}
use Rattle.iso_machine.specs.declared.framed.Framed.{Framed}
use Rattle.iso_machine.specs.Engines.{Engine, framed}
use Rattle.iso_machine.specs.Entered.{Begins}
use Rattle.iso_machine.specs.Lists.{extent_of, list_values, pending_at}
use Rattle.iso_machine.proofs.Moves.Entered.{Tried, body_engine, body_fitting, fact_engine, onward}

-- the members that a body is: none where it is `true`, or one
members_if : {W : Type 0} (q : Present W) (words : List W) (height : ℕ) (b : Body) (alone : Bool) → List Member
members_if q words height b alone =
    placed (word_terms q words) height (λ slot. 0) (if alone then [] else compiled.Goal b mark.Clause ∷ [])

members_true : {W : Type 0} (q : Present W) (words : List W) (height : ℕ) (c : databases.Clause)
    → is_true c.body ≡ true → clause_members q words height c ≡ []
unfolding members_if
members_true q words height c is = ap (members_if q words height c.body) is

members_false : {W : Type 0} (q : Present W) (words : List W) (height : ℕ) (c : databases.Clause)
    → is_true c.body ≡ false
    → clause_members q words height c ≡ Goal (map_body (word_terms q words) c.body) height ∷ []
unfolding members_if
members_false q words height c is = ap (members_if q words height c.body) is

module _ {S W M : Type 0} (g : Ghosts S W M) (atom_word : ℕ → W) where
  pub begun_engine : (e : Engine S W M) (rest : Option Rest) (s : State) (call : Tree) (c : databases.Clause)
      (behind : List Member) (store : S) (held : Framed S W M)
      (mark : ℕ) → (t : Tried g (framed atom_word) e rest s c behind store held) → (place : Option Rest)
      → (b : Begins atom_word (g.present e.store) (g.present store) call c mark behind held place)
      → pending_at held place ≤ 2 * body_size c.body + pending_at e.lists rest → (n : Now (Next W) (Option Rest))
      → IsBehind (framed atom_word) (g.present store) held place n
      (clause_members (g.present store) b.words mark c ++ behind)
      → StandsAs g (framed atom_word) (onward g (framed atom_word) e store held n) (tried_clause call c mark behind s)
  begun_engine e rest s call c behind store held mark t place b pending n comes =
      let p = g.present e.store in
      let q = g.present store in
      let ms = clause_members q b.words mark c ++ behind in
      let ahead = t.ahead in
      let bound : compose p.substitution b.unifier ≡ compose s.subst b.unifier =
      ap (λ (r : Subst). compose r b.unifier) ahead.goes.subst in
      let values : HasValues p q (compose s.subst b.unifier) =
      subst (λ (r : Subst). HasValues p q r) bound b.values in
      let goals = list_values atom_word p q (compose s.subst b.unifier) e.lists (extent_of e.lists) rest behind values
      ahead.chain in
      elim (cases_Bool (is_true c.body)) [
        | inl fact ↦
            fact_engine g (framed atom_word) e rest s call c behind store held mark t b.unifier b.is b.values
            b.next place ms b.list pending n comes fact
            (ap (λ (xs : List Member). xs ++ behind) (members_true q b.words mark c fact)) goals
        | inr other ↦ (
            let terms = word_terms q b.words in
            let new : Subst = λ x. Variable (s.next + x) in
            let each : (x : ℕ) → x < c.variables
            → apply q.substitution (terms x) ≡ apply (compose s.subst b.unifier) (new x) =
            λ x below. b.variables x below ∙ ap (λ (m : ℕ). apply b.unifier (p.substitution (m + x))) ahead.goes.next
            ∙ ap (λ (r : Subst). apply b.unifier (r (s.next + x))) ahead.goes.subst in
            body_engine g (framed atom_word) e rest s call c behind store held mark t b.unifier b.is b.values
            b.next place ms b.list pending n comes (map_body terms c.body) other
            (body_fitting q.substitution terms (compose s.subst b.unifier) new c.variables each c.body t.goals)
            (ap (λ (xs : List Member). xs ++ behind) (members_false q b.words mark c other)) goals)
      ]
