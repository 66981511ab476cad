-- The engine goes back to its newest choice, and goes on with its list: the choice goes, or stays.
use Rattle.iso_model.specs.Search.Walker.{Again, Alternative, pushed, query_size, State}
use Rattle.iso_program.specs.Leaving.{AreLeft}
use Rattle.iso_search_core.specs.Costs.{choices_cost, tried_cost}
use Rattle.iso_search_core.specs.Fitting.{FitsLeft, FitsState}
use Rattle.iso_search.specs.EngineStates.{cost, IsAhead, IsBehind, IsEngine, kept_cost, went_back, WentBack}
use Rattle.iso_store_core.specs.declared.stores.Store.{Ghosts}
use Rattle.iso_atoms.specs.Texts.{KeepsTexts}
use Rattle.iso_search_core.specs.declared.choices.Left.{Left}
use Rattle.iso_search_core.specs.declared.nows.Now.{Now}
use Rattle.iso_search_core.specs.Own.{own_of}
use Rattle.iso_store_core.specs.Presents.{Present}
use Rattle.iso_search.specs.declared.search.Search.{Search}
use Rattle.iso_model.specs.Terms.Variables.{variables}
use Rattle.std.proofs.Common.{◌≡◌, ℕ, suc, ◌+◌, ◌-◌, ◌<◌, ◌++◌, List, [], ◌∷◌, length, take, get_or, Some, refl, ap, ap₂, sym, ◌∙◌, subst, arith, Vec, Global, vec_len}
use Rattle.std.specs.List.{slice_get}
use Rattle.iso_search_core.specs.declared.lists.Lists as lists
use Rattle.iso_search_core.specs.declared.choices.Left.TheVariants as left
use Rattle.iso_search_core.specs.declared.choices.Choice as kept
use Rattle.iso_search_core.specs.Standing.{HasLeft, OnList, StandsForChoices, BringsBack, HaveRoom, GoesOn}
use Rattle.iso_search_core.proofs.CostLemmas.{choices_last, choices_cost_on}
use Rattle.iso_search_core.proofs.StandingLemmas.{newest, on_list, left_on as left_stays, choices_on, choices_push, item_is, last_split, last_is, length_last, front_is, some_same}
use Rattle.iso_search.specs.declared.retries.Retry.{Retry}
use Rattle.iso_search.specs.Retrying.{TriesNext, attempt_of}
use Rattle.iso_search.proofs.AheadLemmas.{engine_place}
use Rattle.iso_search.proofs.WorldLemmas.{world_on, left_on, choices_kept}

-- fewer steps need less room
pub room_less : (steps : ℕ) (ks : List Alternative) → HaveRoom (suc steps) ks → HaveRoom steps ks
room_less steps [] h = tt
room_less steps (k ∷ ks) h = (let more = h.0 in omega (arith, more), room_less steps ks h.1)

-- marks that are older than this one stand on
pub marks_of : {W M : Type 0} (older : M → M → Type 0) {old new : M → Present W → Type 0} (mark other : M) → other ≡ mark → ((m : M) (p : Present W) → older m mark → old m p → new m p) → (m : M) (p : Present W) → older m other → old m p → new m p
marks_of older mark other same h m p less stood = h m p (subst (λ (x : _). older m x) same less) stood

-- as much is to be done
pub tried_same : {W C P : Type 0} (cost : P → ℕ) (x y : Left W C) (p q : P) → x ≡ y → p ≡ q → tried_cost x (cost p) ≡ tried_cost y (cost q)
tried_same {W = W} {C = C} {P = P} cost x y p q same place = ap₂ (λ (z : Left W C) (r : P). tried_cost z (cost r)) same place

module _ {S L W M K P C N B O : Type 0} (l : lists.Ghosts L S K P C N B O W M) where
  -- the newest choice costs what the others don't
  pub newest_costs : (e : Search S L W M K P C N B O) (c : kept.Choice W M K P C) (choices : List (kept.Choice W M K P C)) → 0 < length e.choices.items → slice_get e.choices.items (length e.choices.items - 1) ≡ Some c
      → choices ≡ take (length e.choices.items - 1) e.choices.items → kept_cost l e ≡ choices_cost (l.cost e.lists) choices + tried_cost c.left (l.cost e.lists c.rest)
  newest_costs e c choices some last made =
      let split = ap (choices_cost (l.cost e.lists)) (last_split e.choices.items (length e.choices.items - 1) c last (omega (arith, some))) in
      let sum = choices_last (l.cost e.lists) (take (length e.choices.items - 1) e.choices.items) c in
      let same = ap (choices_cost (l.cost e.lists)) made in
      omega (arith, split, sum, same)

module _ {S L W M K P C N B O : Type 0} (g : Ghosts S W M) (l : lists.Ghosts L S K P C N B O W M) where
  -- what going back makes of the engine
  pub record GoesBack (e : Search S L W M K P C N B O) (store : S) (back : L) (c : kept.Choice W M K P C) (s : State) : Type 0 where
    pub alternative : Alternative
    pub below : List Alternative
    pub is : s.stack ≡ alternative ∷ below
    pub went : WentBack g l (record e { store = store; lists = back }) c s alternative below
    pub costs : choices_cost (l.cost back) e.choices.items ≡ kept_cost l e

  pub goes_back : (e : Search S L W M K P C N B O) (store : S) (back : L) (c : kept.Choice W M K P C) (s : State) → IsEngine g l e s → slice_get e.choices.items (length e.choices.items - 1) ≡ Some c → 0 < length e.choices.items
      → ((p : Present W) → g.stands e.store c.mark p → g.present store ≡ p) → ((p : Present W) → g.stands e.store c.mark p → g.stands store c.mark p)
      → ((m : M) (p : Present W) → g.older m c.mark → g.stands e.store m p → g.stands store m p) → KeepsTexts (g.names e.store) (g.names store)
      → BringsBack l c.kept e.lists back → l.whole back ≡ c.kept → l.below c.kept c.kept → GoesBack e store back c s
  goes_back e store back c s is last some present same marks texts brings whole itself =
      let n = newest l c last is.choices in
      let a = n.alternative in
      let before = take (length e.choices.items - 1) e.choices.items in
      let on = on_list l brings itself n.within n.here.on in
      let has = left_stays n.here.present a (left_on l texts {d = e.db}) (λ x t is. brings.calls n.here.present c.kept x t itself n.within is) c.left n.here.has in
      let at : n.here.present ≡ g.present store = sym (present n.here.present n.here.mark) in
      let below = choices_on l brings (λ d among. (n.newer d among).1) (λ d p among stood. marks d.mark p (n.newer d among).0 stood) (left_on l texts {d = e.db}) n.stands_below in
      let b = is.base in
      let split = last_split e.choices.items (length e.choices.items - 1) c last (omega (arith, some)) in
      let one = choices_cost_on l brings (λ d among. (n.newer d among).1) n.stands_below in
      let other = ap (tried_cost c.left) (brings.costs n.here.present c.kept c.rest a.list itself n.within n.here.on.chain) in
      let old_cost = ap (choices_cost (l.cost e.lists)) split ∙ choices_last (l.cost e.lists) before c in
      let new_cost = ap (choices_cost (l.cost back)) split ∙ choices_last (l.cost back) before c in
      record {
        alternative = a;
        below = n.others;
        is = n.is;
        went = record {
          world = world_on l texts is.world;
          steps = is.steps;
          base = record { present = b.present; stands_for = marks e.base b.present n.here.newer b.stands_for; substitution = b.substitution; next = b.next; cells = b.cells; variables = b.variables };
          mark = subst (λ (p : Present W). g.stands store c.mark p) at (same n.here.present n.here.mark);
          newest = last;
          all_kept = sym whole;
          on = subst (λ (p : Present W). OnList l p back c.kept e.query.items (variables s.query) c.rest a.list a.subst a.next) at on;
          has = subst (λ (p : Present W). HasLeft (AreLeft (own_of l) (g.names store) e.db) (l.call p back c.kept) p c.left a) at has;
          newer_base = n.here.newer;
          within = brings.stands c.kept itself n.within;
          newer = n.newer;
          fits = subst (λ (p : Present W). FitsLeft g (query_size s.query) p (l.pending back c.rest) a) at
              (subst (λ (m : ℕ). FitsLeft g (query_size s.query) n.here.present m a) (sym (brings.pendings n.here.present c.kept c.rest a.list itself n.within n.here.on.chain)) n.here.fits);
          stands_below = below;
          room = subst (λ (ks : List Alternative). HaveRoom e.steps ks) n.is is.room;
        };
        costs = omega (arith, one, other, old_cost, new_cost);
      }

  -- The engine went back to its newest choice, which has this mark, and at which this is left.
  pub record IsNewest (e : Search S L W M K P C N B O) (mark : M) (rest : P) (left : Left W C) (s : State) : Type 0 where
    pub choice : kept.Choice W M K P C
    pub alternative : Alternative
    pub below : List Alternative
    pub stack : s.stack ≡ alternative ∷ below
    pub mark_is : choice.mark ≡ mark
    pub rest_is : choice.rest ≡ rest
    pub left_is : choice.left ≡ left
    pub back : WentBack g l e choice s alternative below
    pub has : HasLeft (AreLeft (own_of l) (g.names e.store) e.db) (l.call (g.present e.store) e.lists choice.kept) (g.present e.store) left alternative

  newest_as : (e : Search S L W M K P C N B O) (mark : M) (rest : P) (s : State) (x : Left W C)
      → (b : (c : kept.Choice W M K P C) × (a : Alternative) × (below : List Alternative) × (s.stack ≡ a ∷ below) × (c.mark ≡ mark) × (c.rest ≡ rest) × WentBack g l e c s a below) → (b.0).left ≡ x → IsNewest e mark rest x s
  newest_as e mark rest s x b is = record {
    choice = b.0;
    alternative = b.1;
    below = b.2;
    stack = b.3;
    mark_is = b.4;
    rest_is = b.5;
    left_is = is;
    back = b.6;
    has = subst (λ (y : Left W C). HasLeft (AreLeft (own_of l) (g.names e.store) e.db) (l.call (g.present e.store) e.lists (b.0).kept) (g.present e.store) y b.1) is b.6.has;
  }

  -- The engine that went back to the newest choice of this one, which tries this next.
  pub newest_tries : (old e : Search S L W M K P C N B O) (mark : M) (rest : P) (retry : Retry C P) (s : State) (t : TriesNext old retry) → e.choices ≡ old.choices
      → (c : kept.Choice W M K P C) × (a : Alternative) × (below : List Alternative) × (s.stack ≡ a ∷ below) × (c.mark ≡ mark) × (c.rest ≡ rest) × WentBack g l e c s a below
      → IsNewest e mark rest (left.Clauses (attempt_of retry t.later)) s
  newest_tries old e mark rest retry s t same b =
      let newest : slice_get old.choices.items (length old.choices.items - 1) ≡ Some b.0 = subst (λ (cs : Vec (kept.Choice W M K P C) Global). slice_get cs.items (length cs.items - 1) ≡ Some b.0) same b.6.newest in
      let is : b.0 ≡ t.choice = some_same (sym newest ∙ t.newest) in
      newest_as e mark rest s (left.Clauses (attempt_of retry t.later)) b (ap (λ (x : kept.Choice W M K P C). x.left) is ∙ t.left)

  module _ (e : Search S L W M K P C N B O) (c : kept.Choice W M K P C) (s : State) (a : Alternative) (below : List Alternative) (w : WentBack g l e c s a below) where
    -- it is the newest one
    pub newest_is : (n : ℕ) (x : kept.Choice W M K P C) → n ≡ length e.choices.items → x ≡ get_or e.choices.items (n - 1) x → x ≡ c
    newest_is n x many at = item_is e.choices.items (length e.choices.items - 1) c x w.newest (at ∙ ap (λ (k : ℕ). get_or e.choices.items (k - 1) x) many)

    -- what is left to be tried at it is what is left at the one that is looked at
    pub newest_left : (n : ℕ) (x : kept.Choice W M K P C) → n ≡ vec_len e.choices → x ≡ get_or e.choices.items (n - 1) x → (y : Left W C) → x.left ≡ y → c.left ≡ y
    newest_left n x many at y is = ap (λ (z : kept.Choice W M K P C). z.left) (sym (newest_is n x (many ∙ e.choices.ok.0) at)) ∙ is

    pub newest_at : (i : ℕ) (x : kept.Choice W M K P C) → i + 1 ≡ length e.choices.items → x ≡ get_or e.choices.items i x → x ≡ c
    newest_at i x many at =
        let place : length e.choices.items - 1 ≡ i = omega (arith, many) in
        item_is e.choices.items i c x (subst (λ (k : ℕ). slice_get e.choices.items k ≡ Some c) place w.newest) at

    -- so the last one is
    pub popped_is : (xs : List (kept.Choice W M K P C)) (x : kept.Choice W M K P C) → e.choices.items ≡ xs ++ x ∷ [] → (x ≡ c) × (xs ≡ take (length e.choices.items - 1) e.choices.items)
    popped_is xs x split =
        let many : length e.choices.items - 1 ≡ length xs = (let n = ap length split in let m = length_last xs x in omega (arith, n, m)) in
        let there : slice_get e.choices.items (length xs) ≡ Some c = subst (λ (k : ℕ). slice_get e.choices.items k ≡ Some c) many w.newest in
        let here : slice_get e.choices.items (length xs) ≡ Some x = ap (λ (ys : List (kept.Choice W M K P C)). slice_get ys (length xs)) split ∙ last_is xs x in
        let front : take (length e.choices.items - 1) e.choices.items ≡ xs = ap (λ (k : ℕ). take k e.choices.items) many ∙ (ap (take (length xs)) split ∙ front_is xs x) in
        (some_same (sym here ∙ there), sym front)

    -- what is left
    pub has_left : (x : Left W C) → c.left ≡ x → HasLeft (AreLeft (own_of l) (g.names e.store) e.db) (l.call (g.present e.store) e.lists c.kept) (g.present e.store) x a
    has_left x is = subst (λ (y : Left W C). HasLeft (AreLeft (own_of l) (g.names e.store) e.db) (l.call (g.present e.store) e.lists c.kept) (g.present e.store) y a) is w.has

    -- its list, among all that stands
    pub chain_left : l.list (g.present e.store) e.lists (l.whole e.lists) c.rest a.list
    chain_left = subst (λ (k : K). l.list (g.present e.store) e.lists k c.rest a.list) w.all_kept w.on.chain

    pub choices_are : 0 < length e.choices.items → e.choices.items ≡ take (length e.choices.items - 1) e.choices.items ++ c ∷ []
    choices_are some = last_split e.choices.items (length e.choices.items - 1) c w.newest (omega (arith, some))

    -- the choice is gone
    pub dropped : (store : S) (choices : Vec (kept.Choice W M K P C) Global) → g.present store ≡ g.present e.store → ((m : M) (p : Present W) → g.older m c.mark → g.stands e.store m p → g.stands store m p) → KeepsTexts (g.names e.store) (g.names store)
        → choices.items ≡ take (length e.choices.items - 1) e.choices.items → IsAhead g l (record e { store = store; choices = choices }) (went_back a below s) c.rest
    dropped store choices same marks texts made =
        let b = w.base in
        let o = w.on in
        let on : GoesOn (g.present e.store) e.query.items (went_back a below s) = record { subst = o.subst_is; next = o.next_is; room = (let room = w.room.0 in let all = w.steps in omega (arith, room, all)); words = o.words } in
        record {
          world = world_on l texts w.world;
          steps = w.steps;
          base = record { present = b.present; stands_for = marks e.base b.present w.newer_base b.stands_for; substitution = b.substitution; next = b.next; cells = b.cells; variables = b.variables };
          choices = subst (λ (ds : List (kept.Choice W M K P C)). StandsForChoices l (g.stands store) g.older e.base (AreLeft (own_of l) (g.names store) e.db) e.query.items (variables s.query) (FitsLeft g (query_size s.query)) e.lists ds below) (sym made)
              (choices_kept l texts (λ d p among stood. marks d.mark p (w.newer d among).0 stood) w.stands_below);
          room = w.room.1;
          fits = subst (λ (p : Present W). FitsState g p (l.pending e.lists c.rest) (went_back a below s)) (sym same) w.fits;
          goes = subst (λ (p : Present W). GoesOn p e.query.items (went_back a below s)) (sym same) on;
          chain = subst (λ (p : Present W). l.list p e.lists (l.whole e.lists) c.rest a.list) (sym same) chain_left;
        }

    -- the choice stays, and a step was taken
    pub repeated : (rest : P) (next : Now N P) (n : ℕ) → 0 < length e.choices.items → c.rest ≡ rest → c.left ≡ left.Again → n + 1 ≡ e.steps → l.within e.lists c.kept → ((k : K) → l.within e.lists k → l.below k c.kept) → IsBehind l (g.present e.store) e.lists c.rest next a.list
        → IsEngine g l (record e { steps = n; now = next }) (record (pushed a.list Again (went_back a below s)) { steps = n })
    repeated rest next n some rest_is tries more within top comes =
        let again : Alternative = record { list = a.list; subst = a.subst; next = a.next; built = a.built; left = Again } in
        let all : e.steps ≡ suc n = omega (arith, more) in
        let o = w.on in
        let has : HasLeft (AreLeft (own_of l) (g.names e.store) e.db) (l.call (g.present e.store) e.lists c.kept) (g.present e.store) c.left again =
        subst (λ (x : Left W C). HasLeft (AreLeft (own_of l) (g.names e.store) e.db) (l.call (g.present e.store) e.lists c.kept) (g.present e.store) x again) (sym tries) refl in
        let stood : StandsForChoices l (g.stands e.store) g.older e.base (AreLeft (own_of l) (g.names e.store) e.db) e.query.items (variables s.query) (FitsLeft g (query_size s.query)) e.lists (take (length e.choices.items - 1) e.choices.items ++ c ∷ []) (again ∷ below) =
        choices_push l c again within top (record { present = g.present e.store; mark = w.mark; newer = w.newer_base; on = record { subst_is = o.subst_is; next_is = o.next_is; chain = o.chain; words = o.words }; has = has; fits = w.fits }) (λ d among. (w.newer d among).0) w.stands_below in
        let room = w.room.0 in
        let ahead : IsAhead g l (record e { steps = n }) (record (pushed a.list Again (went_back a below s)) { steps = n }) c.rest = record {
          world = w.world;
          steps = refl;
          base = w.base;
          choices = subst (λ (ds : List (kept.Choice W M K P C)). StandsForChoices l (g.stands e.store) g.older e.base (AreLeft (own_of l) (g.names e.store) e.db) e.query.items (variables s.query) (FitsLeft g (query_size s.query)) e.lists ds (again ∷ below)) (sym (choices_are some)) stood;
          room = (omega (arith, room, all), room_less n below (subst (λ (k : ℕ). HaveRoom k below) all w.room.1));
          fits = w.fits;
          goes = record { subst = o.subst_is; next = o.next_is; room = omega (arith, room, more); words = o.words };
          chain = chain_left;
        } in
        engine_place g l (record e { steps = n }) (record (pushed a.list Again (went_back a below s)) { steps = n }) c.rest next ahead comes

  -- what going back gave, with what the newest choice shows
  pub newest_shows : {e : Search S L W M K P C N B O} {s : State} {mark : M} {rest : P}
      → (c : kept.Choice W M K P C) × (a : Alternative) × (below : List Alternative) × (s.stack ≡ a ∷ below) × (c.mark ≡ mark) × (c.rest ≡ rest) × WentBack g l e c s a below
      → {n : ℕ} {x : kept.Choice W M K P C} → n ≡ vec_len e.choices → x ≡ get_or e.choices.items (n - 1) x → {y : Left W C} → x.left ≡ y → IsNewest e mark rest y s
  newest_shows {e = e} {s = s} {mark = mark} {rest = rest} b {n = n} {x = x} many at {y = y} is = newest_as e mark rest s y b (newest_left e b.0 s b.1 b.2 b.6 n x many at y is)
