-- The groups of bagof/3 and setof/3 come one after another.
use Rattle.std.proofs.Common.{◌≡◌, ℕ, zero, suc, ◌&&◌, if◌then◌else◌, false, ◌+◌, ◌*◌, ◌-◌, ◌≤◌, ◌<◌, ◌++◌, List, [], ◌∷◌, length, map, reverse, Option, Some, true, refl, ap, ap₂, sym, ◌∙◌, subst, arith, Vec, Global, Bool, Result, Ok, Err}
use Rattle.std.specs.Prelude.{OnOk}
use Rattle.std.proofs.lemmas.List.{length-map, length-reverse, reverse-append, reverse-reverse}
use Rattle.std.proofs.lemmas.List.Elements.{All-nil, All-cons, All-head, All-tail}
use Rattle.std.specs.List.{All, filter}
use Rattle.std.specs.Cmp.Derive.{both_true}
use Rattle.std.proofs.lemmas.Bool.{and_parts}
use Rattle.iso_model.specs.Terms.Trees.{Tree, arities_fit}
use Rattle.iso_model.specs.Terms.Lists.{list_of}
use Rattle.iso_model.specs.Search.Groups.{groups_of, firsts, is_with}
use Rattle.iso_model.specs.Search.Replies.{Grouping, InGroups}
use Rattle.iso_model.specs.Search.RunLaws.Sameness.{IsTwice}
use Rattle.iso_model.specs.Search.Walker.{State, World, Member, Alternative, Goes, Gathering, Groups, grouped, step, with_groups, tried_group}
use Rattle.iso_model.specs.Search.Walker as walker
use Rattle.iso_store_core.specs.Presents.{Present, meaning}
use Rattle.iso_store_core.specs.declared.stores.Store.{Ghosts}
use Rattle.iso_lib_core.specs.declared.collecting.Meeting.{Meeting}
use Rattle.iso_lib_core.specs.declared.groups.Group.{Group}
use Rattle.iso_lib_core.specs.Groupings.{IsWhole, solutions_of}
use Rattle.iso_search_core.specs.declared.lists.Lists as lists
use Rattle.iso_search_core.specs.declared.choices.Choice as kept
use Rattle.iso_search_core.specs.declared.choices.Left.{Left}
use Rattle.iso_search_core.specs.declared.choices.Left.TheVariants as left
use Rattle.iso_search_core.specs.declared.nows.Now.TheVariants as now
use Rattle.iso_text.proofs.SubLemmas.{all_reversed}
use Rattle.iso_search_core.specs.Bodies.{left_cost, most}
use Rattle.iso_search_core.specs.Costs.{choices_cost, now_cost, tried_cost}
use Rattle.iso_search_core.specs.Fitting.{FitsState}
use Rattle.iso_search_core.specs.GroupsLeft.{AreGroupsLeft, LeavesGroups}
use Rattle.iso_search_core.specs.Solutions.{pairs_of}
use Rattle.iso_search_core.specs.Standing.{none_kept, HasLeft, IsGroup, entered_at, grouping_of, groups_in, most_numbers, numbers_a_step}
use Rattle.iso_search_core.proofs.BodyCosts.{cost_above, left_higher, left_step, some_most}
use Rattle.iso_search_core.proofs.FittingLemmas.{fits_on}
use Rattle.iso_program.specs.Leaving.{Leaving}
use Rattle.iso_search.specs.declared.search.Search.{Search}
use Rattle.iso_search.specs.declared.search.Move.TheVariants as move
use Rattle.iso_model.specs.Search.Engines.{IsAwake}
use Rattle.iso_search.specs.EngineStates.{cost, kept_cost, IsAhead, IsEngine, Keeps, Moves, Refused, Represents, WentBack, phase_of, went_back}
use Rattle.iso_search.specs.Worlds.{IsWorld}
use Rattle.iso_search.specs.Groups.{AreGroups, IsLeftFor, StoppedAt, MeetsGroups, MeetsLeft, met_groups}
use Rattle.iso_search.proofs.EndLemmas.{next_is}
use Rattle.iso_search.proofs.GroupSteps.{KeptWith, kept_with}
use Rattle.iso_search.proofs.Moves.Search.{goes, stops_bare}
use Rattle.iso_search.proofs.SearchSteps.{back_step}

-- ---- lists of groups

pub all_front : {X : Type 0} (P : X → Type 0) (xs : List X) (y : X) → All P (xs ++ y ∷ []) → All P xs
all_front P [] y h = All-nil P
all_front P (x ∷ xs) y h =
    All-cons P x xs (All-head P x (xs ++ y ∷ []) h) (all_front P xs y (All-tail P x (xs ++ y ∷ []) h))

pub all_last : {X : Type 0} (P : X → Type 0) (xs : List X) (y : X) → All P (xs ++ y ∷ []) → P y
all_last P [] y h = All-head P y [] h
all_last P (x ∷ xs) y h = all_last P xs y (All-tail P x (xs ++ y ∷ []) h)

-- the last one comes first
pub groups_last : (others : List Group) (first : Group)
    → groups_in (others ++ first ∷ []) ≡ solutions_of first ∷ groups_in others
groups_last others first = ap (map solutions_of) (reverse-append others (first ∷ []))

pub groups_count : (groups : List Group) → length (groups_in groups) ≡ length groups
groups_count groups = length-map (reverse groups) solutions_of ∙ length-reverse groups

-- ---- what an alternative leaves

-- its groups are numbered as one clause is
pub groups_enter : (x : walker.Left) (by : Grouping) (gs : List (List Tree)) → AreGroups x by gs → entered_at x ≡ 1
groups_enter (Gathering (InGroups how) copies count) by gs is = refl
groups_enter (Groups how groups) by gs is = refl
groups_enter x by gs is = absurd is

-- they come next
groups_tried : (x : walker.Left) (by : Grouping) (gs : List (List Tree)) (s : State) → AreGroups x by gs
    → walker.retried x s ≡ Goes (grouped by gs s.list s)
groups_tried (Gathering (InGroups how) copies count) by gs s is =
    ap₂ (λ (b : Grouping) (xs : List (List Tree)). Goes (grouped b xs s.list s)) (sym is.0) (sym is.1)
groups_tried (Groups how groups) by gs s is =
    ap₂ (λ (b : Grouping) (xs : List (List Tree)). Goes (grouped b xs s.list s)) (sym is.0) (sym is.1)
groups_tried x by gs s is = absurd is

-- what is left at a choice is left for an alternative
pub left_for : {W C : Type 0} (leaves : Leaving) (calls : C → Tree → Type 0) (p : Present W) (x : Left W C) (a : Alternative)
    → LeavesGroups x → HasLeft leaves calls p x a → IsLeftFor p x a.left
left_for at calls p (left.Grouping by pairs) a leaves has = (has.witness, has.result, has.is, has.fits)
left_for at calls p (left.Groups by groups) a leaves has = (has.witness, has.result, has.is, has.each, has.some)
left_for at calls p x a leaves has = absurd leaves

pub left_leaves : {W C : Type 0} (p : Present W) (x : Left W C) (y : walker.Left) → IsLeftFor p x y → LeavesGroups x
left_leaves p (left.Grouping by pairs) y is = tt
left_leaves p (left.Groups by groups) y is = tt
left_leaves p x y is = absurd is

-- groups that are kept are left
pub groups_there : {W C : Type 0} (leaves : Leaving) (calls : C → Tree → Type 0) (p : Present W) (by : Meeting W)
    (groups : Vec Group Global) (a : Alternative) → p.holds by.witness ≡ true → p.holds by.result ≡ true
    → All IsGroup groups.items → 0 < length groups.items → a.left ≡ Groups (grouping_of p by) (groups_in groups.items)
    → HasLeft leaves calls p (left.Groups by groups) a
groups_there leaves calls p by groups a witness result each some is =
    record { witness = witness; result = result; is = is; each = each; some = some }

-- ---- a store can hold each group of what it can hold

abbrev Fits : List Tree → Type 0
Fits ts = arities_fit (list_of ts) ≡ true

some_fit : (f : Tree → Bool) (ps : List Tree) → Fits ps → Fits (filter f ps)
some_fit f [] fits = fits
some_fit f (p ∷ ps) fits =
    let both = and_parts (arities_fit p) (arities_fit (list_of ps) && true) fits in
    let more = some_fit f ps (and_parts (arities_fit (list_of ps)) true both.1).0 in
    elim (f p) as (λ (b : Bool). Fits (if b then p ∷ filter f ps else filter f ps)) [
      | true ↦ both_true both.0 (both_true more refl)
      | false ↦ more
    ]

each_fits : (ps qs : List Tree) → Fits ps → All Fits (map (λ (p : Tree). filter (is_with p) ps) qs)
each_fits ps [] fits = All-nil Fits
each_fits ps (q ∷ qs) fits =
    All-cons Fits (filter (is_with q) ps) (map (λ (p : Tree). filter (is_with p) ps) qs)
    (some_fit (is_with q) ps fits) (each_fits ps qs fits)

both_all : (groups : List Group) → All IsWhole groups → All (λ (g : Group). Fits (solutions_of g)) groups
    → All IsGroup groups
both_all [] whole fit = All-nil IsGroup
both_all (g ∷ gs) whole fit =
    All-cons IsGroup g gs (All-head IsWhole g gs whole, All-head (λ (x : Group). Fits (solutions_of x)) g gs fit)
    (both_all gs (All-tail IsWhole g gs whole) (All-tail (λ (x : Group). Fits (solutions_of x)) g gs fit))

unmapped : (groups : List Group) → All Fits (map solutions_of groups) → All (λ (g : Group). Fits (solutions_of g)) groups
unmapped [] fit = All-nil (λ (x : Group). Fits (solutions_of x))
unmapped (g ∷ gs) fit =
    All-cons (λ (x : Group). Fits (solutions_of x)) g gs (All-head Fits (solutions_of g) (map solutions_of gs) fit)
    (unmapped gs (All-tail Fits (solutions_of g) (map solutions_of gs) fit))

groups_fit : (groups : List Group) (ps : List Tree) → All IsWhole groups → groups_in groups ≡ groups_of ps → Fits ps
    → All IsGroup groups
groups_fit groups ps whole are fits =
    let P : Group → Type 0 = λ (g : Group). Fits (solutions_of g) in
    let turned = unmapped (reverse groups) (subst (All Fits) (sym are) (each_fits ps (firsts ps) fits)) in
    both_all groups whole (subst (All P) (reverse-reverse groups) (all_reversed P (reverse groups) turned))

-- ---- the groups that a choice leaves

module _ {S L W M K P C N B O : Type 0} (g : Ghosts S W M) (l : lists.Ghosts L S K P C N B O W M) where
  module _ (e : Search S L W M K P C N B O) (x : Left W C) (s : State) (y : walker.Left) (place : P) (h : MeetsLeft g l e x s y place) (by : Meeting W) (groups : List Group) where
    parts : (z : Left W C) → IsLeftFor (g.present e.store) z y → AreGroupsLeft z by groups
        → ((g.present e.store).holds by.witness ≡ true) × ((g.present e.store).holds by.result ≡ true) × All IsGroup groups
    parts (left.Grouping how pairs) is are =
        (ap (λ (m : Meeting W). (g.present e.store).holds m.witness) are.0 ∙ is.0, ap (λ (m : Meeting W). (g.present e.store).holds m.result) are.0 ∙ is.1, groups_fit groups (pairs_of pairs) are.2 are.1 is.3)
    parts (left.Groups how gs) is are =
        (ap (λ (m : Meeting W). (g.present e.store).holds m.witness) are.0 ∙ is.0, ap (λ (m : Meeting W). (g.present e.store).holds m.result) are.0 ∙ is.1, subst (All IsGroup) (sym are.1) is.3)
    parts z is are = absurd is

    pub meets_left : AreGroupsLeft x by groups → MeetsGroups g l e by groups s place
    meets_left are =
        let k = parts x h.left_is are in
        record { ahead = h.ahead; space = h.space; witness = k.0; result = k.1; each = k.2; twice = h.twice }

    targets : (z : Left W C) → IsLeftFor (g.present e.store) z y → AreGroupsLeft z by groups → (b : Grouping) (gs : List (List Tree)) → AreGroups y b gs
        → met_groups g l e by groups s ≡ grouped b gs s.list s
    targets (left.Grouping how pairs) is are b gs left =
        let k = subst (λ (v : walker.Left). AreGroups v b gs) is.2 left in
        ap₂ (λ (c : Grouping) (xs : List (List Tree)). grouped c xs s.list s) (ap (grouping_of (g.present e.store)) are.0 ∙ sym k.0) (are.1 ∙ sym k.1)
    targets (left.Groups how held) is are b gs left =
        let k = subst (λ (v : walker.Left). AreGroups v b gs) is.2 left in
        ap₂ (λ (c : Grouping) (xs : List (List Tree)). grouped c xs s.list s) (ap (grouping_of (g.present e.store)) are.0 ∙ sym k.0) (ap groups_in are.1 ∙ sym k.1)
    targets z is are b gs left = absurd is

    pub left_target : AreGroupsLeft x by groups → (b : Grouping) (gs : List (List Tree)) → AreGroups y b gs → met_groups g l e by groups s ≡ grouped b gs s.list s
    left_target are = targets x h.left_is are

    -- what they cost
    costs : (z : Left W C) → IsLeftFor (g.present e.store) z y → AreGroupsLeft z by groups → (cost kept r : ℕ) → length groups ≤ most
        → (length groups ≡ 0 → cost ≤ kept) → (0 < length groups → cost < kept + left_cost (length groups) r) → cost < kept + tried_cost z r
    costs (left.Grouping how pairs) is are cost kept r few none some = by_count (length groups) refl where
      by_count : (n : ℕ) → n ≡ length groups → cost < kept + left_cost most r
      by_count zero same =
          let all = left_higher most 1 r some_most in
          let one = left_step 0 r in
          let less = none (sym same) in
          omega (arith, all, one, less)
      by_count (suc n) same =
          let all = left_higher most (length groups) r few in
          let less = some (omega (arith, same)) in
          omega (arith, all, less)
    costs (left.Groups how gs) is are cost kept r few none some =
        let many : length groups ≡ length gs.items = ap length are.1 in
        let all = is.4 in
        let less = some (omega (arith, many, all)) in
        let same = ap (λ (n : ℕ). left_cost n r) many in
        omega (arith, less, same)
    costs z is are cost kept r few none some = absurd is

    pub left_pays : AreGroupsLeft x by groups → (cost kept r : ℕ) → length groups ≤ most → (length groups ≡ 0 → cost ≤ kept)
        → (0 < length groups → cost < kept + left_cost (length groups) r) → cost < kept + tried_cost x r
    left_pays are = costs x h.left_is are

  -- ---- the engine's move there

  module _ (e new : Search S L W M K P C N B O) (s : State) (r : Represents g l e s) (a : Alternative) (below : List Alternative) (doing : e.now ≡ now.Failing) (stack : r.own.stack ≡ a ∷ below) (by : Grouping) (gs : List (List Tree)) (are : AreGroups a.left by gs) where
    groups_to : step r.own ≡ Goes (grouped by gs a.list (went_back a below r.own))
    groups_to =
        let first = next_is g l e r.own now.Failing doing r.engine in
        back_step r.own first.0 a below a.left first.1 stack refl ∙ groups_tried a.left by gs (went_back a below r.own) are

    pub groups_on : IsEngine g l new (grouped by gs a.list (went_back a below r.own)) → IsAwake (phase_of new.now) → Moves g l move.Goes s new
    groups_on engine awake = goes g l e new s r (grouped by gs a.list (went_back a below r.own)) groups_to engine awake

    pub groups_stop : Keeps g l new r.own.world [] × FitsState g (g.present new.store) 0 (grouped by gs a.list (went_back a below r.own)) → Refused g l new s
    groups_stop kept = record {
      stopped = stops_bare g l new r.own s r.same kept.0;
      fits = fits_on g (g.present new.store) r.own (grouped by gs a.list (went_back a below r.own)) s groups_to r.same kept.1;
    }

-- ---- the first of them, and those behind it

pub ok_both : {T E : Type 0} (A B : Type 0) (r : Result T E) → OnOk r A → OnOk r B → OnOk r (A × B)
ok_both A B (Ok t) a b = (a, b)
ok_both A B (Err e) a b = tt

module _ {S L W M K P C N B O : Type 0} (g : Ghosts S W M) (l : lists.Ghosts L S K P C N B O W M) (e : Search S L W M K P C N B O) (by : Meeting W) (groups others : List Group) (first : Group) (split : groups ≡ others ++ first ∷ []) (s : State) (place : P) (h : MeetsGroups g l e by groups s place) where
  each : All IsGroup (others ++ first ∷ [])
  each = subst (All IsGroup) split h.each

  pub meets_others : MeetsGroups g l e by others s place
  meets_others = record {
    ahead = h.ahead;
    space = h.space;
    witness = h.witness;
    result = h.result;
    each = all_front IsGroup others first each;
    twice = h.twice;
  }

  -- the state in which the first one is met
  abbrev pub behind_others : State
  behind_others = with_groups (grouping_of (g.present e.store) by) (groups_in others) s.list s

  same : KeptWith behind_others s
  same = kept_with (grouping_of (g.present e.store) by) (groups_in others) s.list s

  pub meets_one : (mid : Search S L W M K P C N B O) → mid.steps ≡ e.steps → g.present mid.store ≡ g.present e.store → IsAhead g l mid behind_others place → MeetsGroups g l mid by (first ∷ []) behind_others place
  meets_one mid steps present ahead = record {
    ahead = ahead;
    space = (let room = h.space in let next = same.next in omega (arith, room, next, steps));
    witness = ap (λ (p : Present W). p.holds by.witness) present ∙ h.witness;
    result = ap (λ (p : Present W). p.holds by.result) present ∙ h.result;
    each = All-cons IsGroup first [] (all_last IsGroup others first each) (All-nil IsGroup);
    twice = subst IsTwice (sym same.subst_is) h.twice;
  }

  pub first_target : (p : Present W) → p ≡ g.present e.store
      → tried_group (grouping_of p by) (solutions_of first) behind_others.list behind_others ≡ met_groups g l e by groups s
  first_target p present =
      ap₂ (λ (q : Present W) (ms : List Member). tried_group (grouping_of q by) (solutions_of first) ms behind_others) present same.list
      ∙ sym (ap (λ (gs : List Group). grouped (grouping_of (g.present e.store) by) (groups_in gs) s.list s) split
      ∙ ap (λ (xs : List (List Tree)). grouped (grouping_of (g.present e.store) by) xs s.list s) (groups_last others first))

  pub first_stops : (new : Search S L W M K P C N B O) (t : State) → t ≡ met_groups g l e by groups s → StoppedAt g l new behind_others t → StoppedAt g l new s (met_groups g l e by groups s)
  first_stops new t is k = record {
    world = subst (λ (v : World). IsWorld g l new v) same.world k.world;
    base = k.base;
    fits = subst (λ (v : State). FitsState g (g.present new.store) 0 v) is k.fits;
  }

-- so much less is to be done then
pub met_pays : {S L W M K P C N B O : Type 0} (l : lists.Ghosts L S K P C N B O W M) (e mid new : Search S L W M K P C N B O) (rest : P) (n k : ℕ) → mid.lists ≡ e.lists → new.lists ≡ mid.lists → new.choices ≡ mid.choices → k ≡ suc n
    → kept_cost l mid ≤ kept_cost l e + left_cost n (l.cost e.lists rest) → now_cost (l.first_cost mid.lists) new.now ≤ l.cost mid.lists rest → cost l new < kept_cost l e + left_cost k (l.cost e.lists rest)
met_pays {L = L} {W = W} {M = M} {K = K} {P = P} {C = C} l e mid new rest n k lists_mid lists_new choices is within less =
    let r = l.cost e.lists rest in
    let stay : kept_cost l new ≡ kept_cost l mid = ap₂ (λ (x : L) (cs : Vec (kept.Choice W M K P C) Global). choices_cost (l.cost x) cs.items) lists_new choices in
    let now_same : now_cost (l.first_cost new.lists) new.now ≡ now_cost (l.first_cost mid.lists) new.now = ap (λ (x : L). now_cost (l.first_cost x) new.now) lists_new in
    let rest_same : l.cost mid.lists rest ≡ r = ap (λ (x : L). l.cost x rest) lists_mid in
    let many : left_cost k r ≡ left_cost (suc n) r = ap (λ (m : ℕ). left_cost m r) is in
    let step = left_step n r in
    let above = cost_above most r in
    omega (arith, stay, now_same, rest_same, many, step, above, within, less)

-- ---- what is left at the newest choice

left_enters : {W C : Type 0} (p : Present W) (x : Left W C) (y : walker.Left) → IsLeftFor p x y → entered_at y ≡ 1
left_enters p (left.Grouping by pairs) y is = ap entered_at is.2
left_enters p (left.Groups by groups) y is = ap entered_at is.2
left_enters p x y is = absurd is

module _ {S L W M K P C N B O : Type 0} (g : Ghosts S W M) (l : lists.Ghosts L S K P C N B O W M) where
  -- the choice was taken away
  pub left_there : (e mid : Search S L W M K P C N B O) (c : kept.Choice W M K P C) (s : State) (a : Alternative) (below : List Alternative) (w : WentBack g l e c s a below) (x : Left W C) (place : P) → x ≡ c.left → LeavesGroups c.left → IsTwice a.subst
      → g.present mid.store ≡ g.present e.store → mid.steps ≡ e.steps → IsAhead g l mid (went_back a below s) place → MeetsLeft g l mid x (went_back a below s) a.left place
  left_there e mid c s a below w x place is leaves twice present steps ahead =
      let there = left_for _ _ (g.present e.store) c.left a leaves w.has in
      record {
        ahead = ahead;
        space = (let room = w.room.0 in let one = left_enters (g.present e.store) c.left a.left there in omega (arith, room, one, steps));
        left_is = subst (λ (p : Present W). IsLeftFor p x a.left) (sym present) (subst (λ (z : Left W C). IsLeftFor (g.present e.store) z a.left) (sym is) there);
        twice = twice;
      }

  -- no choice is left
  pub bare_stopped : (e : Search S L W M K P C N B O) (choices : Vec (kept.Choice W M K P C) Global) (s t : State) → choices.items ≡ [] → StoppedAt g l e s t → Keeps g l (record e { choices = choices }) s.world []
  bare_stopped e choices s t empty k = (k.world, k.base, (s.query, rw empty none_kept))

-- groups are left at an alternative that gathered, or that has some
pub are_gathered : (x : walker.Left) (by : Grouping) (copies : List Tree) (count : ℕ) → x ≡ Gathering (InGroups by) copies count
    → AreGroups x by (groups_of copies)
are_gathered x by copies count is = subst (λ (y : walker.Left). AreGroups y by (groups_of copies)) (sym is) (refl, refl)

pub are_kept : (x : walker.Left) (by : Grouping) (gs : List (List Tree)) → x ≡ Groups by gs → AreGroups x by gs
are_kept x by gs is = subst (λ (y : walker.Left). AreGroups y by gs) (sym is) (refl, refl)
