-- Engines that have other choices, as the store and the lists change.
use Rattle.std.proofs.Common.{◌≡◌, ◌<◌, ◌∙◌, ℕ, List, [], ◌∷◌, length, Bool, true, false, Option, Result, inr, refl, sym, subst, arith}
use Rattle.std.specs.Bool.{MatchBool}
use Rattle.iso_model.specs.Terms.Trees.{Tree}
use Rattle.iso_model.specs.Search.Databases as databases
use Rattle.iso_model.specs.Search.Walker.{State, Member, tried, tried_clause, with_others}
use Rattle.iso_db.specs.Databases as held
use Rattle.iso_db.specs.Presents.{GivesKeyed}
use Rattle.iso_db.specs.declared.keyed.KeyedView.{KeyedView}
use Rattle.iso_program.specs.Programs.{AreClauses}
use Rattle.iso_program.proofs.LeavingLemmas.{left_behind}
use Rattle.iso_store_core.specs.declared.shapes.StoreFault.{StoreFault}
use Rattle.iso_store_core.specs.declared.stores.Store.{Ghosts}
use Rattle.iso_search_core.specs.Own.{own_of}
use Rattle.iso_search_core.proofs.StandingLemmas.{choices_length}
use Rattle.iso_search_core.specs.declared.choices.Attempt.{Attempt}
use Rattle.iso_environments.specs.declared.words.Words.{Words}
use Rattle.iso_frames.specs.declared.frames.Rest.{Rest}
use Rattle.iso_search.specs.EngineStates.{Remains, StandsAs, WasRefused}
use Rattle.iso_search.specs.Stays.{Stays}
use Rattle.iso_search.specs.declared.calls.Next.{Next}
use Rattle.iso_machine.specs.declared.framed.Framed.{Framed}
use Rattle.iso_machine.specs.declared.framed.KeptCall.{KeptCall}
use Rattle.iso_machine.specs.declared.calling.Gone.{Gone}
use Rattle.iso_machine.specs.Came.{CameLast, CameTo}
use Rattle.iso_machine.specs.Engines.{Engine, EngineClause, framed}
use Rattle.iso_machine.specs.GoalCalls.{CallsPut}
use Rattle.iso_machine.specs.Unpushed.{Again, Choices, IsBack, with_choices}
use Rattle.iso_machine.proofs.FrameLemmas.{stacked_same}
use Rattle.iso_machine.proofs.Moves.Kept.{kept_ahead, put_last}

-- what stays as it was doesn't hang on the choices
pub stays_over : {S W M : Type 0} (g : Ghosts S W M) {old new : Engine S W M} (choices : Choices W M) → Stays g old new
    → Stays g (with_choices old choices) (with_choices new choices)
stays_over g choices stays = record {
  limit = stays.limit;
  vocabulary = stays.vocabulary;
  names_kept = stays.names_kept;
  base = stays.base;
  within = λ within. (let limit = stays.limit in omega (arith, within, limit));
}

-- the engine with its own choices is itself
pub chosen : {S W M : Type 0} (g : Ghosts S W M) (atom_word : ℕ → W) {first new : Engine S W M}
    {result : Result Next StoreFault} {choices : Choices W M} → new.choices ≡ choices
    → CameTo g atom_word first result (with_choices new choices) → CameTo g atom_word first result new
chosen {S = S} {W = W} {M = M} g atom_word {first = first} {new = new} {result = result} {choices = choices} same came =
    subst (λ (v : Choices W M). CameTo g atom_word first result (with_choices new v)) (sym same) came

pub chosen_last : {S W M : Type 0} (g : Ghosts S W M) (atom_word : ℕ → W) (first new : Engine S W M)
    (result : Result Gone StoreFault) (choices : Choices W M) (clause : ℕ) (behind : Option Rest)
    → new.choices ≡ choices → CameLast g atom_word first result (with_choices new choices) clause behind
    → CameLast g atom_word first result new clause behind
chosen_last {S = S} {W = W} {M = M} g atom_word first new result choices clause behind same came =
    subst (λ (v : Choices W M). CameLast g atom_word first result (with_choices new v) clause behind) (sym same) came

-- ---- no clause is left behind the first

module _ {S W M : Type 0} (g : Ghosts S W M) (atom_word : ℕ → W) (e : Engine S W M) {clause : ℕ} {later : KeyedView}
    {name : ℕ} {rest : Option Rest} {s : State} {goal : Tree} {c : databases.Clause} {cs : List databases.Clause}
    {behind : List Member} (t : CallsPut g atom_word e clause later name rest s goal c cs behind) where
  pub left_none : (more : Bool) → ((names : List (List ℕ)) (ks : List (held.Clause (EngineClause S W M)))
      (ds : List databases.Clause) → GivesKeyed e.db later ks
      → AreClauses (own_of (framed {S = S} {M = M} atom_word)) names ks ds
      → MatchBool more (0 < length ds) (ds ≡ [])) → more ≡ false → cs ≡ []
  left_none more says none =
      let names = g.names e.store in
      subst (λ b. MatchBool b (0 < length cs) (cs ≡ [])) none
      (says names t.clauses.behind cs t.clauses.gives (left_behind names e.db t.clauses))

  pub left_some : (more : Bool) → ((names : List (List ℕ)) (ks : List (held.Clause (EngineClause S W M)))
      (ds : List databases.Clause) → GivesKeyed e.db later ks
      → AreClauses (own_of (framed {S = S} {M = M} atom_word)) names ks ds
      → MatchBool more (0 < length ds) (ds ≡ [])) → more ≡ true → 0 < length cs
  left_some more says some =
      let names = g.names e.store in
      subst (λ b. MatchBool b (0 < length cs) (cs ≡ [])) some
      (says names t.clauses.behind cs t.clauses.gives (left_behind names e.db t.clauses))

  module _ (none : cs ≡ []) (new : Engine S W M) (mark : ℕ) (many : mark ≡ length e.choices.items) where
    others : CallsPut g atom_word e clause later name rest (with_others goal cs behind s) goal c cs behind
    others = put_last g atom_word e clause later name rest s goal c cs behind t none

    height : mark ≡ length s.stack
    height = many ∙ choices_length (framed atom_word) t.ahead.choices

    pub was_tried : ((u : State) (k : databases.Clause) (ks : List databases.Clause) (gs : List Member)
        → CallsPut g atom_word e clause later name rest u goal k ks gs
        → StandsAs g (framed atom_word) new (tried_clause goal k mark gs u))
        → StandsAs g (framed atom_word) new (tried goal (c ∷ cs) behind s)
    was_tried tries =
        subst (λ (n : ℕ). StandsAs g (framed atom_word) new (tried_clause goal c n behind (with_others goal cs behind s)))
        height (tries (with_others goal cs behind s) c cs behind others)

    pub was_refused : ((u : State) (k : databases.Clause) (ks : List databases.Clause) (gs : List Member)
        → CallsPut g atom_word e clause later name rest u goal k ks gs
        → Remains g (framed atom_word) new (tried_clause goal k mark gs u))
        → WasRefused g (framed atom_word) new s (tried goal (c ∷ cs) behind s)
    was_refused remains =
        inr (subst (λ (n : ℕ). Remains g (framed atom_word) new
        (tried_clause goal c n behind (with_others goal cs behind s))) height
        (remains (with_others goal cs behind s) c cs behind others))

-- ---- the arguments of a call that was kept came back

module _ {S W M : Type 0} (g : Ghosts S W M) (atom_word : ℕ → W) where
  taken_again : (mid : Engine S W M) (arguments : Words W) (attempt : Attempt KeptCall) (rest : Option Rest) (count : ℕ)
      (own : State) → Again g atom_word mid attempt rest count own
      → Again g atom_word (record mid { lists = record mid.lists { arguments = arguments } }) attempt rest count own
  taken_again mid arguments attempt rest count own x =
      let t = x.retries in
      let is = t.calls.is_for in
      record {
        alternative = x.alternative;
        below = x.below;
        stack = x.stack;
        retries = record {
          call = t.call;
          clause = t.clause;
          others = t.others;
          left = t.left;
          calls = record {
            ahead =
                kept_ahead g atom_word mid (record mid.lists { arguments = arguments }) refl refl (stacked_same refl) rest
                _ t.calls.ahead;
            space = t.calls.space;
            is_for = record {
              within = is.within;
              hold = is.hold;
              known = is.known;
              name = is.name;
              named = is.named;
              is = is.is;
            };
            clauses = t.calls.clauses;
            enter = t.calls.enter;
          };
        };
        height = x.height;
      }

  pub back_taken : (old mid : Engine S W M) (lists : Framed S W M) (attempt : Attempt KeptCall) (rest : Option Rest)
      (count : ℕ) → lists ≡ record mid.lists { arguments = lists.arguments }
      → IsBack g atom_word old mid attempt rest count
      → IsBack g atom_word old (record mid { lists = lists }) attempt rest count
  back_taken old mid lists attempt rest count taken b =
      subst (λ (l : Framed S W M). IsBack g atom_word old (record mid { lists = l }) attempt rest count) (sym taken)
      (record {
        failing = b.failing;
        again = λ s r. taken_again mid lists.arguments attempt rest count r.own (b.again s r);
        steps = b.steps;
        less = b.less;
        stays = record {
          limit = b.stays.limit;
          vocabulary = b.stays.vocabulary;
          names_kept = b.stays.names_kept;
          base = b.stays.base;
          within = b.stays.within;
        };
      })
