-- A choice comes; the newest one stays, with other rows or clauses left at it; and what is to be done behind these.
use Rattle.std.proofs.Common.{◌≡◌, ℕ, zero, suc, ◌+◌, ◌*◌, ◌-◌, ◌<◌, ◌≤◌, ◌++◌, List, [], ◌∷◌, length, take, get_or, slice_set, Some, Bool, true, false, Result, Ok, Err, ap, sym, ◌∙◌, subst, refl, arith, Vec, Global}
use Rattle.std.specs.Prelude.{OnErr}
use Rattle.std.specs.List.{slice_get}
use Rattle.iso_model.specs.Search.Walker.{Alternative, pushed, query_size, State}
use Rattle.iso_program.specs.Leaving.{AreLeft}
use Rattle.iso_search_core.specs.Bodies.{body_cost, left_cost, most, whole_cost}
use Rattle.iso_search_core.specs.Costs.{choices_cost, now_cost, tried_cost}
use Rattle.iso_search_core.specs.Fitting.{FitsLeft}
use Rattle.iso_search.specs.EngineStates.{cost, cost_from, IsAhead, Keeps, kept_cost, WasCalled, weight, went_back, WentBack}
use Rattle.iso_search_core.specs.Standing.{entered_at, GainsChoice, HasLeft, most_numbers, numbers_a_step, StandsForChoices}
use Rattle.iso_store_core.specs.declared.stores.Store.{Ghosts}
use Rattle.iso_search_core.specs.declared.choices.Left.{Left}
use Rattle.iso_search.specs.declared.search.Move.{Move}
use Rattle.iso_search_core.specs.Own.{own_of}
use Rattle.iso_store_core.specs.Presents.{Present}
use Rattle.iso_search.specs.declared.search.Search.{Search}
use Rattle.iso_search.specs.Stays.{Stays}
use Rattle.iso_model.specs.Terms.Variables.{variables}
use Rattle.iso_model.specs.Search.Walker as walker
use Rattle.iso_model.specs.declared.limit.Limit.TheVariants as limit
use Rattle.iso_model.specs.declared.pauses.Pause.TheVariants as pause
use Rattle.iso_search_core.specs.declared.lists.Lists as lists
use Rattle.iso_search_core.specs.declared.choices.Choice as kept
use Rattle.iso_search_core.specs.declared.nows.Now.TheVariants as now
use Rattle.iso_search_core.proofs.CostLemmas.{choices_last}
use Rattle.iso_search_core.proofs.BodyCosts.{cost_above}
use Rattle.iso_search_core.proofs.StandingLemmas.{choices_push, item_is}
use Rattle.iso_search.specs.declared.search.Move.TheVariants as move
use Rattle.iso_search.proofs.BackLemmas.{chain_left, choices_are}
use Rattle.iso_search.proofs.WeightLemmas.{gained_cost, falls_called}

-- ---- the last item

pub last_set : {X : Type 0} (xs : List X) (i : ℕ) (d : X) → i + 1 ≡ length xs → slice_set xs i d ≡ take i xs ++ d ∷ []
last_set (x ∷ []) zero d all = refl
last_set (x ∷ xs) (suc i) d all = ap (λ (ys : List _). x ∷ ys) (last_set xs i d (omega arith))
last_set xs i d all = absurd (omega arith)

-- the choice with this left to be tried
abbrev pub with_left : {W M K P C : Type 0} → kept.Choice W M K P C → Left W C → kept.Choice W M K P C
with_left c x = record c { left = x }

pub set_left : {W M K P C : Type 0} (choices : List (kept.Choice W M K P C)) (n : ℕ) (c d : kept.Choice W M K P C) (x : Left W C) → n ≡ length choices → 0 < length choices → slice_get choices (length choices - 1) ≡ Some c
    → d ≡ get_or choices (n - 1) d → slice_set choices (n - 1) (with_left d x) ≡ take (length choices - 1) choices ++ with_left c x ∷ []
set_left {W = W} {M = M} {K = K} {P = P} {C = C} choices n c d x many some last is =
    let at : d ≡ get_or choices (length choices - 1) d = is ∙ ap (λ (k : ℕ). get_or choices (k - 1) d) many in
    let same = item_is choices (length choices - 1) c d last at in
    ap (λ (k : ℕ). slice_set choices (k - 1) (with_left d x)) many
    ∙ (ap (λ (y : kept.Choice W M K P C). slice_set choices (length choices - 1) (with_left y x)) same
    ∙ last_set choices (length choices - 1) (with_left c x) (omega (arith, some)))

-- what is to be done where a choice was to come
pub pushed_cost : {S L W M K P C N B O E : Type 0} (l : lists.Ghosts L S K P C N B O W M) {older : M → M → Type 0} {stood stands : M → Present W → Type 0} {p : Present W} {k : K} {Full : Type 0} (e new : Search S L W M K P C N B O) (x : Left W C) (rest : P) (result : Result Bool E)
    → new.lists ≡ e.lists → (result ≡ Ok true → GainsChoice stood stands older p k rest x e.choices.items new.choices.items) → (result ≡ Ok false → (new ≡ e) × Full) → OnErr result (new.choices.items ≡ e.choices.items)
    → kept_cost l new ≤ kept_cost l e + tried_cost x (l.cost e.lists rest)
pushed_cost {L = L} l e new x rest (Ok true) lists gains full kept =
    let more = gained_cost (l.cost e.lists) (gains refl) in
    let over : kept_cost l new ≡ choices_cost (l.cost e.lists) new.choices.items = ap (λ (y : L). choices_cost (l.cost y) new.choices.items) lists in
    omega (arith, over, more)
pushed_cost {S = S} {L = L} {W = W} {M = M} {K = K} {P = P} {C = C} {N = N} {B = B} {O = O} l e new x rest (Ok false) lists gains full kept =
    let same = ap (λ (y : Search S L W M K P C N B O). kept_cost l y) (full refl).0 in
    omega (arith, same)
pushed_cost {L = L} l e new x rest (Err f) lists gains full kept =
    let same = ap (choices_cost (l.cost e.lists)) kept in
    let over : kept_cost l new ≡ choices_cost (l.cost e.lists) new.choices.items = ap (λ (y : L). choices_cost (l.cost y) new.choices.items) lists in
    omega (arith, over, same)

-- ---- parts that two engines share

module _ {S L W M K P C N B O : Type 0} {e new : Search S L W M K P C N B O} (same : new ≡ e) where
  pub lists_same : new.lists ≡ e.lists
  lists_same = ap (λ (x : Search S L W M K P C N B O). x.lists) same

  pub choices_same : new.choices ≡ e.choices
  choices_same = ap (λ (x : Search S L W M K P C N B O). x.choices) same

  pub steps_same : new.steps ≡ e.steps
  steps_same = ap (λ (x : Search S L W M K P C N B O). x.steps) same

-- ---- a choice came or went, and then the list from a place on is gone on with, or not

module _ {S L W M K P C N B O : Type 0} (l : lists.Ghosts L S K P C N B O W M) (e mid new : Search S L W M K P C N B O) (rest : P) (between : mid.lists ≡ e.lists) (lists : new.lists ≡ mid.lists) (choices : new.choices ≡ mid.choices)
    (less : now_cost (l.first_cost mid.lists) new.now ≤ l.cost mid.lists rest) where
  tried_costs : cost l new ≤ kept_cost l mid + l.cost e.lists rest
  tried_costs =
      let all : kept_cost l new ≡ kept_cost l mid = λ i. choices_cost (l.cost (lists i)) ((choices i).items) in
      let here : now_cost (l.first_cost new.lists) new.now ≡ now_cost (l.first_cost mid.lists) new.now = ap (λ (x : _). now_cost (l.first_cost x) new.now) lists in
      let there : l.cost mid.lists rest ≡ l.cost e.lists rest = ap (λ (x : _). l.cost x rest) between in
      omega (arith, all, here, there, less)

  -- it came, behind a goal, which took the step
  pub tried_falls : new.steps ≡ e.steps → kept_cost l mid ≤ kept_cost l e + left_cost most (l.cost e.lists rest) → (w : ℕ) → cost_from l e rest ≤ w → weight l new < whole_cost (suc e.steps) w
  tried_falls steps kept w from =
      let all = tried_costs in
      let up = cost_above most (l.cost e.lists rest) in
      rw steps (falls_called e.steps (kept_cost l e) (l.cost e.lists rest) w (cost l new) from (omega (arith, all, kept, up)))

  -- it went, or less is left at it
  pub tried_less : (place : P) → place ≡ rest → kept_cost l mid + (body_cost most (l.cost e.lists place) + 1) ≤ kept_cost l e → cost l new < kept_cost l e
  tried_less place is fewer =
      let all = tried_costs in
      let same = ap (λ (p : P). body_cost most (l.cost e.lists p)) is in
      let up = cost_above most (l.cost e.lists rest) in
      omega (arith, all, fewer, same, up)

module _ {S L W M K P C N B O : Type 0} (g : Ghosts S W M) (l : lists.Ghosts L S K P C N B O W M) where
  -- none may come any more, and the engine is spent
  module _ {e mid new : Search S L W M K P C N B O} {m : Move} (is : m ≡ move.Pauses pause.FramesFull) (same : mid ≡ e) (spent : new ≡ record mid { now = now.Spent limit.Frames }) where
    spent_is : new ≡ record e { now = now.Spent limit.Frames }
    spent_is = spent ∙ ap (λ (x : Search S L W M K P C N B O). record x { now = now.Spent limit.Frames }) same

    pub called_full : (s t : State) → Keeps g l e s.world s.stack → WasCalled g l (move.Pauses pause.FramesFull) new s t
    called_full s t k = (refl, ap (λ (x : Search S L W M K P C N B O). x.now) spent, subst (λ (x : Search S L W M K P C N B O). Keeps g l x s.world s.stack) (sym spent_is) k)

    pub stays_full : Stays g e new
    stays_full = subst (λ (x : Search S L W M K P C N B O). Stays g e x) (sym spent_is) (record { limit = refl; vocabulary = refl; names_kept = λ place text h. h; base = λ p h. h; within = λ h. h })

  module _ (e : Search S L W M K P C N B O) (c : kept.Choice W M K P C) (s : State) (a : Alternative) (below : List Alternative) (w : WentBack g l e c s a below) (x : Left W C) where
    -- with this left to be tried it is this alternative
    pub ahead_changed : (y : walker.Left) (choices : Vec (kept.Choice W M K P C) Global) → ((k : K) → l.within e.lists k → l.below k (l.whole e.lists)) → entered_at a.left ≡ entered_at y
        → HasLeft (AreLeft (own_of l) (g.names e.store) e.db) (l.call (g.present e.store) e.lists c.kept) (g.present e.store) x (record { list = a.list; subst = a.subst; next = a.next; built = a.built; left = y })
        → choices.items ≡ take (length e.choices.items - 1) e.choices.items ++ with_left c x ∷ [] → IsAhead g l (record e { choices = choices }) (pushed a.list y (went_back a below s)) c.rest
    ahead_changed y choices top enters has made =
        let o = w.on in
        let b : Alternative = record { list = a.list; subst = a.subst; next = a.next; built = a.built; left = y } in
        let newest : (k : K) → l.within e.lists k → l.below k c.kept = λ k stood. rw w.all_kept (top k stood) in
        let room : a.next + numbers_a_step * (e.steps + entered_at y) ≤ most_numbers = subst (λ (n : ℕ). a.next + numbers_a_step * (e.steps + n) ≤ most_numbers) enters w.room.0 in
        record {
          world = w.world;
          steps = w.steps;
          base = w.base;
          choices = subst (λ (ds : List (kept.Choice W M K P C)). StandsForChoices l (g.stands e.store) g.older e.base (AreLeft (own_of l) (g.names e.store) e.db) e.query.items (variables s.query) (FitsLeft g (query_size s.query)) e.lists ds (b ∷ below)) (sym made)
              (choices_push l (with_left c x) b w.within newest
              (record { present = g.present e.store; mark = w.mark; newer = w.newer_base; on = record { subst_is = o.subst_is; next_is = o.next_is; chain = o.chain; words = o.words }; has = has; fits = w.fits }) (λ d among. (w.newer d among).0) w.stands_below);
          room = (room, w.room.1);
          fits = w.fits;
          goes = record { subst = o.subst_is; next = o.next_is; room = (let all = w.steps in omega (arith, room, all)); words = o.words };
          chain = chain_left g l e c s a below w;
        }

    -- what is to be done then
    pub changed_cost : (choices : List (kept.Choice W M K P C)) → 0 < length e.choices.items → choices ≡ take (length e.choices.items - 1) e.choices.items ++ with_left c x ∷ []
        → choices_cost (l.cost e.lists) choices + tried_cost c.left (l.cost e.lists c.rest) ≡ kept_cost l e + tried_cost x (l.cost e.lists c.rest)
    changed_cost choices some made =
        let before = take (length e.choices.items - 1) e.choices.items in
        let new = ap (choices_cost (l.cost e.lists)) made ∙ choices_last (l.cost e.lists) before (with_left c x) in
        let old = ap (choices_cost (l.cost e.lists)) (choices_are g l e c s a below w some) ∙ choices_last (l.cost e.lists) before c in
        omega (arith, new, old)
