-- Clauses that are shown, one after another.
use Rattle.std.proofs.Common.{◌≡◌, ℕ, suc, ◌+◌, ◌*◌, ◌-◌, ◌<◌, ◌≤◌, ◌++◌, List, [], ◌∷◌, length, take, Some, true, refl, ap, ap₂, sym, ◌∙◌, subst, arith, Vec, Global}
use Rattle.iso_model.specs.Search.Walker.{Alternative, Member, Offered, offered, pushed, State, tried_right, with_rights}
use Rattle.iso_search_core.specs.Bodies.{body_cost, left_cost, most}
use Rattle.iso_search_core.specs.Costs.{choices_cost, tried_cost}
use Rattle.iso_program.specs.ClauseOffers.{clause_offer}
use Rattle.iso_store_core.specs.declared.stores.Store.{Ghosts}
use Rattle.iso_search.specs.EngineStates.{IsAhead, kept_cost, went_back, WentBack}
use Rattle.iso_store_core.specs.Presents.{KeepsMarks, meaning, Present}
use Rattle.iso_atoms.specs.Texts.{KeepsTexts}
use Rattle.iso_model.specs.Search.Databases.{Key, key_of}
use Rattle.iso_db.specs.declared.keyed.KeyedView.{KeyedView}
use Rattle.iso_search_core.specs.declared.choices.Left.{Left}
use Rattle.iso_search_core.specs.Own.{own_of}
use Rattle.iso_db.specs.Keyed.{remaining_keyed}
use Rattle.iso_search.specs.declared.search.Search.{Search}
use Rattle.iso_program.specs.declared.showing.Showing.{Showing}
use Rattle.iso_model.specs.Terms.Trees.{Tree}
use Rattle.iso_model.specs.Search.Databases as databases
use Rattle.iso_model.specs.Search.Settlements as walker
use Rattle.iso_program.specs.Leaving.{Leaving, KeepsLeft, AreLeft}
use Rattle.iso_program.proofs.LeavingLemmas.{left_long}
use Rattle.iso_search_core.specs.declared.lists.Lists as lists
use Rattle.iso_search_core.specs.declared.choices.Choice as kept
use Rattle.iso_search_core.specs.declared.choices.Left.TheVariants as left
use Rattle.iso_search_core.specs.Standing.{HasLeft, HasShown, StandsForChoices, GainsChoice, entered_at, most_numbers, numbers_a_step}
use Rattle.iso_search_core.proofs.BodyCosts.{left_step, left_higher}
use Rattle.iso_search_core.proofs.StandingLemmas.{keeps_none, choices_on}
use Rattle.iso_search.specs.Shows.{Shows, ShowsNext, shown_row, offers_of}
use Rattle.iso_search.proofs.AheadLemmas.{ahead_left}
use Rattle.iso_search.proofs.BackLemmas.{has_left}
use Rattle.iso_search.proofs.NewestLemmas.{with_left, ahead_changed, changed_cost}
use Rattle.iso_search.proofs.Moves.Offer.{rights_some, rights_none, rights_keep}
use Rattle.iso_search.proofs.WorldLemmas.{left_on}

-- ---- rows of clauses

pub offers_many : {W : Type 0} (shown : Showing W) (k : Key) (cs : List databases.Clause) → length (offers_of shown k cs) ≡ length cs
offers_many shown k [] = refl
offers_many shown k (c ∷ cs) = ap suc (offers_many shown k cs)

-- what is shown from this clause on, and then those of the view
abbrev pub shown_from : {W : Type 0} → Showing W → ℕ → KeyedView → Showing W
shown_from shown clause later = record shown { clause = clause; later = later }

-- choices stand on where clauses that are left are left still
pub choices_stay : {S L W M K P C N B O : Type 0} (l : lists.Ghosts L S K P C N B O W M) {stands : M → Present W → Type 0} {older : M → M → Type 0} {base : M} {leaves leaves' : Leaving} {query : List W} {named : List ℕ} {fitting : Present W → ℕ → Alternative → Type 0} {held : L}
    {cs : List (kept.Choice W M K P C)} {ks : List Alternative} → KeepsLeft leaves leaves' → StandsForChoices l stands older base leaves query named fitting held cs ks → StandsForChoices l stands older base leaves' query named fitting held cs ks
choices_stay l {held = held} stays are = choices_on l (keeps_none l held) (λ d among. tt) (λ d p among stood. stood) stays are

module _ {S L W M K P C N B O : Type 0} (g : Ghosts S W M) (l : lists.Ghosts L S K P C N B O W M) where
  -- ---- the clauses behind the first are kept

  module _ (e : Search S L W M K P C N B O) (shown : Showing W) (place : P) (s : State) (k : Key) (c : databases.Clause) (cs : List databases.Clause) (t : Shows g l e shown place s k c cs) where
    abbrev here_row : Tree
    here_row = shown_row (g.present e.store) shown

    -- there are none
    pub shows_last : cs ≡ [] → Shows g l e shown place (with_rights here_row (offers_of shown k cs) s.list s) k c cs
    shows_last none =
        let many : length (offers_of shown k cs) ≡ 0 = offers_many shown k cs ∙ ap length none in
        subst (λ (x : State). Shows g l e shown place x k c cs) (sym (rights_none here_row (offers_of shown k cs) s.list s many)) t

    pub shows_later : (store : S) (choices : Vec (kept.Choice W M K P C) Global) (clause : ℕ) (later : KeyedView) → l.within e.lists (l.whole e.lists) → ((j : K) → l.within e.lists j → l.below j (l.whole e.lists))
        → AreLeft (own_of l) (g.names e.store) e.db clause later cs → g.present store ≡ g.present e.store → KeepsMarks (g.stands e.store) (g.stands store) → KeepsTexts (g.names e.store) (g.names store)
        → GainsChoice (g.stands e.store) (g.stands store) g.older (g.present e.store) (l.whole e.lists) place (left.Shown (shown_from shown clause later)) e.choices.items choices.items
        → Shows g l (record e { store = store; choices = choices }) shown place (with_rights here_row (offers_of shown k cs) s.list s) k c cs
    shows_later store choices clause later all top next same keeps texts gains =
        let x = Offered here_row (offers_of shown k cs) in
        let has : HasLeft (AreLeft (own_of l) (g.names e.store) e.db) (l.call (g.present e.store) e.lists (l.whole e.lists)) (g.present e.store) (left.Shown (shown_from shown clause later)) (record { list = s.list; subst = s.subst; next = s.next; built = s.built; left = x }) =
        record { head = t.head; body = t.body; key = k; key_is = t.key_is; user = t.user; clauses = cs; is = refl; are = next } in
        let many = offers_many shown k cs in
        let some = left_long (g.names e.store) e.db next in
        let one : Shows g l (record e { store = store; choices = choices }) shown place (pushed s.list x s) k c cs = record {
          ahead = ahead_left g l e s place store choices (left.Shown (shown_from shown clause later)) x all top t.ahead has t.space same keeps texts gains;
          space = t.space;
          head = subst (λ (p : Present W). p.holds shown.head ≡ true) (sym same) t.head;
          body = subst (λ (p : Present W). p.holds shown.body ≡ true) (sym same) t.body;
          key_is = subst (λ (p : Present W). key_of (meaning p shown.head) ≡ Some k) (sym same) t.key_is;
          user = t.user;
          clauses = left_on l texts {d = e.db} shown.clause shown.later (c ∷ cs) t.clauses;
        } in
        subst (λ (y : State). Shows g l (record e { store = store; choices = choices }) shown place y k c cs)
        (sym (rights_some here_row (offers_of shown k cs) s.list s (omega (arith, many, some)))) one

  -- ---- the newest choice is left at its next clause

  module _ (e : Search S L W M K P C N B O) (c : kept.Choice W M K P C) (shown : Showing W) (s : State) (a : Alternative) (below : List Alternative) (w : WentBack g l e c s a below) (tries : c.left ≡ left.Shown shown) where
    abbrev pub has : HasShown (AreLeft (own_of l) (g.names e.store) e.db) (l.call (g.present e.store) e.lists c.kept) (g.present e.store) shown a
    has = has_left g l e c s a below w (left.Shown shown) tries

    -- room for the numbers of a clause
    space : a.next + numbers_a_step * (e.steps + 1) ≤ most_numbers
    space = subst (λ (n : ℕ). a.next + numbers_a_step * (e.steps + n) ≤ most_numbers) (ap entered_at has.is) w.room.0

    first_left : AreLeft (own_of l) (g.names e.store) e.db shown.clause shown.later (has.are.first ∷ has.are.others)
    first_left = subst (λ (cs : List databases.Clause). AreLeft (own_of l) (g.names e.store) e.db shown.clause shown.later cs) has.are.is has.are

    left_is : a.left ≡ Offered (shown_row (g.present e.store) shown) (offers_of shown has.key (has.are.first ∷ has.are.others))
    left_is = has.is ∙ ap (λ (cs : List databases.Clause). Offered (shown_row (g.present e.store) shown) (offers_of shown has.key cs)) has.are.is

    -- others are left
    pub next_some : (clause : ℕ) (later : KeyedView) (choices : Vec (kept.Choice W M K P C) Global) → ((j : K) → l.within e.lists j → l.below j (l.whole e.lists)) → AreLeft (own_of l) (g.names e.store) e.db clause later has.are.others
        → choices.items ≡ take (length e.choices.items - 1) e.choices.items ++ with_left c (left.Shown (shown_from shown clause later)) ∷ []
        → ShowsNext g l (record e { choices = choices }) shown c.rest s a below
    next_some clause later choices top next made =
        let h = has in
        let back = went_back a below s in
        let here = shown_row (g.present e.store) shown in
        let os = offers_of shown h.key h.are.others in
        let many = offers_many shown h.key h.are.others in
        let some = left_long (g.names e.store) e.db next in
        let one : Shows g l (record e { choices = choices }) shown c.rest (pushed a.list (Offered here os) back) h.key h.are.first h.are.others = record {
          ahead = ahead_changed g l e c s a below w (left.Shown (shown_from shown clause later)) (Offered here os) choices top (ap entered_at h.is)
              (record { head = h.head; body = h.body; key = h.key; key_is = h.key_is; user = h.user; clauses = h.are.others; is = refl; are = next }) made;
          space = space;
          head = h.head;
          body = h.body;
          key_is = h.key_is;
          user = h.user;
          clauses = first_left;
        } in
        record {
          key = h.key;
          clause = h.are.first;
          others = h.are.others;
          left = left_is;
          shows = subst (λ (x : State). Shows g l (record e { choices = choices }) shown c.rest x h.key h.are.first h.are.others)
              (sym (rights_some here os a.list back (omega (arith, many, some)))) one;
        }

    -- it was the last one, and the choice is gone
    pub next_last : (new : Search S L W M K P C N B O) → new ≡ record e { store = new.store; choices = new.choices } → has.are.others ≡ [] → g.present new.store ≡ g.present e.store → KeepsTexts (g.names e.store) (g.names new.store)
        → IsAhead g l new (went_back a below s) c.rest → ShowsNext g l new shown c.rest s a below
    next_last new is none same texts ahead =
        let h = has in
        let back = went_back a below s in
        let row_same : shown_row (g.present e.store) shown ≡ shown_row (g.present new.store) shown = ap (λ (p : Present W). shown_row p shown) (sym same) in
        let os = offers_of shown h.key h.are.others in
        let many : length os ≡ 0 = offers_many shown h.key h.are.others ∙ ap length none in
        let db : new.db ≡ e.db = ap (λ (x : Search S L W M K P C N B O). x.db) is in
        let steps : new.steps ≡ e.steps = ap (λ (x : Search S L W M K P C N B O). x.steps) is in
        let one : Shows g l new shown c.rest back h.key h.are.first h.are.others = record {
          ahead = ahead;
          space = rw steps space;
          head = subst (λ (p : Present W). p.holds shown.head ≡ true) (sym same) h.head;
          body = subst (λ (p : Present W). p.holds shown.body ≡ true) (sym same) h.body;
          key_is = subst (λ (p : Present W). key_of (meaning p shown.head) ≡ Some h.key) (sym same) h.key_is;
          user = h.user;
          clauses = rw db (left_on l texts {d = e.db} shown.clause shown.later (h.are.first ∷ h.are.others) first_left);
        } in
        record {
          key = h.key;
          clause = h.are.first;
          others = h.are.others;
          left = left_is ∙ ap (λ (t : Tree). Offered t (offers_of shown h.key (h.are.first ∷ h.are.others))) row_same;
          shows = subst (λ (x : State). Shows g l new shown c.rest x h.key h.are.first h.are.others)
              (sym (rights_none (shown_row (g.present new.store) shown) os a.list back many)) one;
        }

    -- ---- what falls

    -- what the first clause cost, and those behind it
    pub shown_cost : tried_cost c.left (l.cost e.lists c.rest) ≡ suc (body_cost most (l.cost e.lists c.rest)) + left_cost (remaining_keyed shown.later) (l.cost e.lists c.rest)
    shown_cost = ap (λ (x : Left W C). tried_cost x (l.cost e.lists c.rest)) tries ∙ left_step (remaining_keyed shown.later) (l.cost e.lists c.rest)

    -- the newest choice is at its next clause
    pub fewer_shown : (choices : List (kept.Choice W M K P C)) (clause : ℕ) (later : KeyedView) → 0 < length e.choices.items → choices ≡ take (length e.choices.items - 1) e.choices.items ++ with_left c (left.Shown (shown_from shown clause later)) ∷ []
        → remaining_keyed later < remaining_keyed shown.later → choices_cost (l.cost e.lists) choices + (body_cost most (l.cost e.lists c.rest) + 1) ≤ kept_cost l e
    fewer_shown choices clause later some made less =
        let all = changed_cost g l e c s a below w (left.Shown (shown_from shown clause later)) choices some made in
        let one = shown_cost in
        let fewer = left_higher (remaining_keyed shown.later) (suc (remaining_keyed later)) (l.cost e.lists c.rest) less in
        omega (arith, all, one, fewer)

  -- ---- what the first clause that was left comes to

  module _ (e : Search S L W M K P C N B O) (shown : Showing W) (place : P) (s : State) (a : Alternative) (below : List Alternative) (n : ShowsNext g l e shown place s a below) where
    abbrev pub left_state : State
    left_state = with_rights (shown_row (g.present e.store) shown) (offers_of shown n.key n.others) a.list (went_back a below s)

    -- the clauses that were left
    pub left_tried : (first : Tree) (rights : List walker.Offer) → a.left ≡ Offered first rights
        → tried_right (shown_row (g.present e.store) shown) (clause_offer shown.removes n.key n.clause) left_state.list left_state ≡ offered first rights a.list (went_back a below s)
    left_tried first rights left =
        let both : Offered (shown_row (g.present e.store) shown) (offers_of shown n.key (n.clause ∷ n.others)) ≡ Offered first rights = sym n.left ∙ left in
        let lefts : shown_row (g.present e.store) shown ≡ first = cc in
        let rows : offers_of shown n.key (n.clause ∷ n.others) ≡ rights = cc in
        let keep = rights_keep (shown_row (g.present e.store) shown) (offers_of shown n.key n.others) (went_back a below s) in
        ap (λ (ms : List Member). tried_right (shown_row (g.present e.store) shown) (clause_offer shown.removes n.key n.clause) ms left_state) keep.0 ∙ (λ i. offered (lefts i) (rows i) a.list (went_back a below s))

-- the first clause was tried, where those behind it are an alternative
pub first_tried : {W : Type 0} (shown : Showing W) (left other : Tree) (k : Key) (c : databases.Clause) (cs : List databases.Clause) (s : State) → other ≡ left
    → tried_right other (clause_offer shown.removes k c) (with_rights left (offers_of shown k cs) s.list s).list (with_rights left (offers_of shown k cs) s.list s) ≡ offered left (offers_of shown k (c ∷ cs)) s.list s
first_tried shown left other k c cs s same =
    let mid = with_rights left (offers_of shown k cs) s.list s in
    ap₂ (λ (t : Tree) (ms : List Member). tried_right t (clause_offer shown.removes k c) ms mid) same (rights_keep left (offers_of shown k cs) s).0
