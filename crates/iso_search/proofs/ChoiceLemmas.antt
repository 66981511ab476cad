-- The newest choice is left at its next clause, or is taken away with its last one.
use Rattle.std.proofs.Common.{◌≡◌, ℕ, suc, ◌+◌, ◌*◌, ◌-◌, ◌<◌, ◌≤◌, List, [], ◌∷◌, ◌++◌, length, take, Bool, true, false, true≢false, Option, Some, None, refl, ap, sym, ◌∙◌, subst, arith, Vec, Global}
use Rattle.std.specs.Option.{MatchOption}
use Rattle.iso_program.specs.Leaving.{AreLeft}
use Rattle.iso_search_core.specs.Bodies.{body_cost, left_cost, most}
use Rattle.iso_search_core.specs.Costs.{choices_cost, tried_cost}
use Rattle.iso_program.specs.declared.clauses.Clause.{Clause}
use Rattle.iso_db.specs.declared.db.Db.{Db}
use Rattle.iso_store_core.specs.declared.stores.Store.{Ghosts}
use Rattle.iso_program.specs.Kept.{Keeping}
use Rattle.iso_atoms.specs.Texts.{KeepsTexts}
use Rattle.iso_db.specs.declared.keyed.KeyedView.{KeyedView}
use Rattle.iso_search_core.specs.declared.choices.Left.{Left}
use Rattle.iso_search_core.specs.Own.{own_of}
use Rattle.iso_store_core.specs.Presents.{Present}
use Rattle.iso_db.specs.Keyed.{remaining_keyed}
use Rattle.iso_search.specs.declared.search.Search.{Search}
use Rattle.iso_model.specs.Search.Clashes.{EachEnters}
use Rattle.iso_model.specs.Search.Databases as databases
use Rattle.iso_model.specs.Search.Walker.{State, Alternative, Clauses, with_others}
use Rattle.iso_search_core.specs.declared.lists.Lists as lists
use Rattle.iso_search_core.specs.declared.choices.Choice as kept
use Rattle.iso_search_core.specs.declared.choices.Left.TheVariants as left
use Rattle.iso_search_core.specs.declared.choices.Attempt.{Attempt}
use Rattle.iso_search.specs.Retrying.{Advances}
use Rattle.iso_search_core.specs.Standing.{HasClauses, numbers_a_step, most_numbers, entered_at}
use Rattle.iso_search.specs.EngineStates.{Calls, WentBack, Retries, went_back}
use Rattle.iso_search.proofs.BackLemmas.{has_left, dropped}
use Rattle.iso_search.proofs.NewestLemmas.{with_left, ahead_changed}
use Rattle.iso_search_core.proofs.BodyCosts.{left_step, left_higher}
use Rattle.iso_search_core.proofs.CostLemmas.{choices_last}
use Rattle.iso_search.proofs.WorldLemmas.{left_on}

-- the attempt at this clause, before those of the view
abbrev pub next_of : {C : Type 0} → Attempt C → ℕ → KeyedView → Attempt C
next_of a clause later = record { clause = clause; later = later; call = a.call }

-- ---- the next clause of an attempt

more_of : {C : Type 0} (o : Option ℕ) (old new : Attempt C) (more : Bool) → MatchOption o (more ≡ false) (λ id. (more ≡ true) × (new ≡ next_of old id new.later)) → more ≡ true
    → (id : ℕ) × (o ≡ Some id) × (new ≡ next_of old id new.later)
more_of None old new more is there = absurd (true≢false (sym there ∙ is))
more_of (Some id) old new more is there = (id, refl, is.1)

none_of : {C : Type 0} (o : Option ℕ) (old new : Attempt C) (more : Bool) → MatchOption o (more ≡ false) (λ id. (more ≡ true) × (new ≡ next_of old id new.later)) → more ≡ false → o ≡ None
none_of None old new more is gone = refl
none_of (Some id) old new more is gone = absurd (true≢false (sym is.0 ∙ gone))

-- where there is one the attempt goes on with it
pub next_there : {E C : Type 0} {keeps : Keeping E} {d : Db (Clause E)} {old new : Attempt C} {more : Bool} (on : Advances keeps d old new more) → more ≡ true → (id : ℕ) × (on.next ≡ Some id) × (new ≡ next_of old id new.later)
next_there {old = old} {new = new} {more = more} on there = more_of on.next old new more on.is there

-- where there is none, none is left
pub next_absent : {E C : Type 0} {keeps : Keeping E} {d : Db (Clause E)} {old new : Attempt C} {more : Bool} (on : Advances keeps d old new more) → more ≡ false → on.next ≡ None
next_absent {old = old} {new = new} {more = more} on gone = none_of on.next old new more on.is gone

-- ---- what is left to be done

module _ {W M K P C : Type 0} (cost : P → ℕ) (before : List (kept.Choice W M K P C)) (c : kept.Choice W M K P C) (attempt : Attempt C) (is : c.left ≡ left.Clauses attempt) where
  here : tried_cost c.left (cost c.rest) ≡ left_cost (suc (remaining_keyed attempt.later)) (cost c.rest)
  here = ap (λ (x : Left W C). tried_cost x (cost c.rest)) is

  -- the newest choice is at its next clause
  pub fewer_next : (clause : ℕ) (later : KeyedView) → remaining_keyed later < remaining_keyed attempt.later
      → choices_cost cost (before ++ with_left c (left.Clauses (next_of attempt clause later)) ∷ []) + (body_cost most (cost c.rest) + 1) ≤ choices_cost cost (before ++ c ∷ [])
  fewer_next clause later less =
      let new = choices_last cost before (with_left c (left.Clauses (next_of attempt clause later))) in
      let old = choices_last cost before c in
      let now = here in
      let step = left_step (remaining_keyed attempt.later) (cost c.rest) in
      let fewer = left_higher (remaining_keyed attempt.later) (suc (remaining_keyed later)) (cost c.rest) less in
      omega (arith, new, old, now, step, fewer)

  -- the newest choice is gone
  pub fewer_choices : choices_cost cost before + (body_cost most (cost c.rest) + 1) ≤ choices_cost cost (before ++ c ∷ [])
  fewer_choices =
      let old = choices_last cost before c in
      let now = here in
      let step = left_step (remaining_keyed attempt.later) (cost c.rest) in
      omega (arith, old, now, step)

module _ {S L W M K P C N B O : Type 0} (g : Ghosts S W M) (l : lists.Ghosts L S K P C N B O W M) where
  module _ (e : Search S L W M K P C N B O) (c : kept.Choice W M K P C) (attempt : Attempt C) (s : State) (a : Alternative) (below : List Alternative) (w : WentBack g l e c s a below) (tries : c.left ≡ left.Clauses attempt) where
    -- the call whose clauses are left
    abbrev pub has : HasClauses (AreLeft (own_of l) (g.names e.store) e.db) (l.call (g.present e.store) e.lists c.kept) (g.present e.store) attempt a
    has = has_left g l e c s a below w (left.Clauses attempt) tries

    -- room for the numbers of a clause
    space : a.next + numbers_a_step * (e.steps + 1) ≤ most_numbers
    space = subst (λ (n : ℕ). a.next + numbers_a_step * (e.steps + n) ≤ most_numbers) (ap entered_at has.left) w.room.0

    is_for : l.call (g.present e.store) e.lists (l.whole e.lists) attempt.call has.call
    is_for = subst (λ (k : K). l.call (g.present e.store) e.lists k attempt.call has.call) w.all_kept has.is_for

    first_left : AreLeft (own_of l) (g.names e.store) e.db attempt.clause attempt.later (has.are.first ∷ has.are.others)
    first_left = subst (λ (cs : List databases.Clause). AreLeft (own_of l) (g.names e.store) e.db attempt.clause attempt.later cs) has.are.is has.are

    first_enter : EachEnters has.call (has.are.first ∷ has.are.others)
    first_enter = subst (EachEnters has.call) has.are.is has.enter

    next_calls : (xs : List databases.Clause) → EachEnters has.call (has.are.first ∷ xs) → (clause : ℕ) (later : KeyedView) (choices : Vec (kept.Choice W M K P C) Global) → ((k : K) → l.within e.lists k → l.below k (l.whole e.lists))
        → AreLeft (own_of l) (g.names e.store) e.db attempt.clause attempt.later (has.are.first ∷ xs) → AreLeft (own_of l) (g.names e.store) e.db clause later xs
        → choices.items ≡ take (length e.choices.items - 1) e.choices.items ++ with_left c (left.Clauses (next_of attempt clause later)) ∷ []
        → Calls g l (record e { choices = choices }) attempt c.rest (with_others has.call xs a.list (went_back a below s)) has.call has.are.first xs a.list
    next_calls [] enter clause later choices top is next made = absurd (cc next.is)
    next_calls (y ∷ ys) enter clause later choices top is next made = record {
      ahead = ahead_changed g l e c s a below w (left.Clauses (next_of attempt clause later)) (Clauses has.call (y ∷ ys)) choices top (ap entered_at has.left)
          (record { call = has.call; clauses = y ∷ ys; is_for = has.is_for; left = refl; are = next; enter = enter.1 }) made;
      space = space;
      is_for = is_for;
      clauses = is;
      enter = enter;
    }

    -- the newest choice was left at its next clause
    pub retries_next : (clause : ℕ) (later : KeyedView) (choices : Vec (kept.Choice W M K P C) Global) → ((k : K) → l.within e.lists k → l.below k (l.whole e.lists)) → AreLeft (own_of l) (g.names e.store) e.db clause later has.are.others
        → choices.items ≡ take (length e.choices.items - 1) e.choices.items ++ with_left c (left.Clauses (next_of attempt clause later)) ∷ [] → Retries g l (record e { choices = choices }) attempt c.rest s a below
    retries_next clause later choices top next made = record {
      call = has.call;
      clause = has.are.first;
      others = has.are.others;
      left = has.left ∙ ap (Clauses has.call) has.are.is;
      calls = next_calls has.are.others first_enter clause later choices top first_left next made;
    }

    last_calls : (xs : List databases.Clause) → EachEnters has.call (has.are.first ∷ xs) → (store : S) (choices : Vec (kept.Choice W M K P C) Global) → AreLeft (own_of l) (g.names e.store) e.db attempt.clause attempt.later (has.are.first ∷ xs) → xs ≡ []
        → g.present store ≡ g.present e.store → ((m : M) (p : Present W) → g.older m c.mark → g.stands e.store m p → g.stands store m p) → KeepsTexts (g.names e.store) (g.names store)
        → choices.items ≡ take (length e.choices.items - 1) e.choices.items
        → Calls g l (record e { store = store; choices = choices }) attempt c.rest (with_others has.call xs a.list (went_back a below s)) has.call has.are.first xs a.list
    last_calls (y ∷ ys) enter store choices is none same marks texts made = absurd (cc none)
    last_calls [] enter store choices is none same marks texts made = record {
      ahead = dropped g l e c s a below w store choices same marks texts made;
      space = space;
      is_for = subst (λ (p : Present W). l.call p e.lists (l.whole e.lists) attempt.call has.call) (sym same) is_for;
      clauses = left_on l texts {d = e.db} attempt.clause attempt.later (has.are.first ∷ []) is;
      enter = enter;
    }

    -- the newest choice was taken away with its last clause
    pub retries_last : (store : S) (choices : Vec (kept.Choice W M K P C) Global) → has.are.others ≡ []
        → g.present store ≡ g.present e.store → ((m : M) (p : Present W) → g.older m c.mark → g.stands e.store m p → g.stands store m p) → KeepsTexts (g.names e.store) (g.names store)
        → choices.items ≡ take (length e.choices.items - 1) e.choices.items → Retries g l (record e { store = store; choices = choices }) attempt c.rest s a below
    retries_last store choices none same marks texts made = record {
      call = has.call;
      clause = has.are.first;
      others = has.are.others;
      left = has.left ∙ ap (Clauses has.call) has.are.is;
      calls = last_calls has.are.others first_enter store choices first_left none same marks texts made;
    }
