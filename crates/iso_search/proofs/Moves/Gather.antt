-- findall/3: its goal is run, and its result is unified with the list of what was gathered.
use Rattle.std.proofs.Common.{◌≡◌, ℕ, suc, ◌+◌, ◌*◌, ◌≤◌, List, [], ◌∷◌, length, Option, Bool, true, false, refl, ap, ap₂, sym, ◌∙◌, subst, arith}
use Rattle.iso_model.specs.Terms.Substitutions.{apply, compose, Subst}
use Rattle.iso_program.specs.Leaving.{AreLeft}
use Rattle.iso_model.specs.Terms.Trees.{arities_fit, Tree}
use Rattle.iso_model.specs.Search.Bodies.{Body}
use Rattle.iso_search_core.specs.Solutions.{copies_of}
use Rattle.iso_model.specs.Terms.Copies.{copy_from}
use Rattle.iso_store_core.specs.declared.stores.Store.{Ghosts}
use Rattle.iso_search.specs.EngineStates.{Remains, IsAhead, IsBehind, IsEngine, Moves, phase_of, Refused, Represents, went_back, WentBack}
use Rattle.iso_model.specs.Search.Engines.{IsAwake}
use Rattle.iso_store_core.specs.Presents.{KeepsMarks, KeepsWords, meaning, Present}
use Rattle.iso_store_core.specs.Retaining.{Takes}
use Rattle.iso_search_core.proofs.FittingLemmas.{fits_more, fits_on, fits_taken}
use Rattle.iso_atoms.specs.Texts.{KeepsTexts}
use Rattle.iso_model.specs.Terms.Unifiers.{NeverEqual, Unifier}
use Rattle.iso_search_core.specs.declared.nows.Now.{Now}
use Rattle.iso_search_core.specs.Own.{own_of}
use Rattle.iso_search.specs.declared.search.Search.{Search}
use Rattle.iso_model.specs.Terms.Sizes.{size}
use Rattle.iso_model.specs.Terms.Unification.{unifier_of}
use Rattle.iso_model.specs.Terms.Variables.{variable_count}
use Rattle.iso_model.specs.Terms.Lists.{list_of}
use Rattle.iso_model.specs.Search.Replies.{AsList}
use Rattle.iso_model.specs.Search.Walker.{State, Member, Goal, Gather, Alternative, Gathering, pushed, equated, with_copy, under, step, Goes}
use Rattle.iso_model.proofs.Search.CallLemmas.{unify_found, unify_none}
use Rattle.iso_lib_core.specs.Replies.{UnifiesCopy, MeetsCopy}
use Rattle.iso_search_core.specs.declared.solutions.Gathered.{Gathered}
use Rattle.iso_search_core.specs.declared.lists.Lists as lists
use Rattle.iso_search_core.specs.declared.choices.Left.TheVariants as left
use Rattle.iso_search_core.specs.declared.choices.Choice as kept
use Rattle.iso_search_core.specs.declared.nows.Now.TheVariants as now
use Rattle.iso_search_core.specs.Standing.{HasLeft, HasGathered, entered_at, most_numbers, numbers_a_step}
use Rattle.iso_search_core.proofs.StandingLemmas.{keeps_none}
use Rattle.iso_search.specs.declared.search.Move.TheVariants as move
use Rattle.iso_search.specs.Gathers.{EntersFindall, finding, found, result_of}
use Rattle.iso_search.proofs.AheadLemmas.{engine_place}
use Rattle.iso_search.proofs.BackLemmas.{has_left}
use Rattle.iso_search.proofs.BoundLemmas.{ahead_bound}
use Rattle.iso_search.proofs.CountedLemmas.{equated_counts, equated_query}
use Rattle.iso_search.proofs.EndLemmas.{keeps_fails, next_is}
use Rattle.iso_search.proofs.Moves.Local.{height_is}
use Rattle.iso_search.proofs.Moves.Offer.{equated_keeps}
use Rattle.iso_search.proofs.Moves.Search.{goes, stops}
use Rattle.iso_search.proofs.SearchSteps.{back_step}

-- the result and the list were unified, or can't be
pub met_unified : {W : Type 0} (p q : Present W) (a b : Tree) (answer : Bool) → answer ≡ true → MeetsCopy p q a b answer → UnifiesCopy p q a b
met_unified p q a b answer is h = rw is at h

pub met_never : {W : Type 0} (p q : Present W) (a b : Tree) (answer : Bool) → answer ≡ false → MeetsCopy p q a b answer → NeverEqual a (apply p.substitution (copy_from b p.next))
met_never p q a b answer is h = rw is at h

-- the same of terms that are equal to them
pub meets_as : {W : Type 0} (p q : Present W) {a b x y : Tree} (answer : Bool) → a ≡ x → b ≡ y → MeetsCopy p q a b answer → MeetsCopy p q x y answer
meets_as p q {b = b} {x = x} answer first second h = subst (λ (z : Tree). MeetsCopy p q x z answer) second (subst (λ (z : Tree). MeetsCopy p q z b answer) first h)

module _ {S L W M K P C N B O : Type 0} (g : Ghosts S W M) (l : lists.Ghosts L S K P C N B O W M) where
  -- ---- the goal is run

  module _ (e : Search S L W M K P C N B O) (goal : W) (s : State) (place : P) (h : EntersFindall g l e goal s place) where
    abbrev result : Tree
    result = result_of (g.present e.store) goal

    -- nothing was gathered yet
    pub nothing_gathered : (w : W) (got : Gathered) → (g.present e.store).holds w ≡ true → meaning (g.present e.store) w ≡ result → copies_of got ≡ [] → got.variables ≡ 0
        → HasLeft (AreLeft (own_of l) (g.names e.store) e.db) (l.call (g.present e.store) e.lists (l.whole e.lists)) (g.present e.store) (left.Gathering w got) (record { list = s.list; subst = s.subst; next = s.next; built = s.built; left = Gathering (AsList result) [] 0 })
    nothing_gathered w got holds value none count = record {
      holds = holds;
      is = (λ i. Gathering (AsList (sym value i)) (sym none i) (sym count i));
      fits = ap (λ (ts : List Tree). arities_fit (list_of ts)) none;
    }

    pub finds_as : (new : Search S L W M K P C N B O) (n built : ℕ) (b : Body) (t : Tree) → n ≡ length e.choices.items → IsEngine g l new (record (pushed s.list (Gathering (AsList result) [] 0) s) { list = Goal b (n + 1) ∷ Gather n t ∷ s.list; built = built })
        → IsEngine g l new (record (finding b t result s) { built = built })
    finds_as new n built b t many is =
        let next : n + 1 ≡ suc n = omega arith in
        subst (λ (k : ℕ). IsEngine g l new (record (pushed s.list (Gathering (AsList result) [] 0) s) { list = Goal b (suc k) ∷ Gather k t ∷ s.list; built = built })) (height_is g l e s place n h.ahead many)
        (subst (λ (k : ℕ). IsEngine g l new (record (pushed s.list (Gathering (AsList result) [] 0) s) { list = Goal b k ∷ Gather n t ∷ s.list; built = built })) next is)

  -- ---- no further solution

  module _ (e : Search S L W M K P C N B O) (c : kept.Choice W M K P C) (s : State) (a : Alternative) (below : List Alternative) (w : WentBack g l e c s a below) (wd : W) (got : Gathered) (is : c.left ≡ left.Gathering wd got) where
    pub gathered_there : HasGathered (AreLeft (own_of l) (g.names e.store) e.db) (l.call (g.present e.store) e.lists c.kept) (g.present e.store) wd got a
    gathered_there = has_left g l e c s a below w (left.Gathering wd got) is

    abbrev value : Tree
    value = meaning (g.present e.store) wd

    abbrev copies : List Tree
    copies = copies_of got

    abbrev pub back : State
    back = went_back a below s

    space : a.next + numbers_a_step * (e.steps + 1) ≤ most_numbers
    space = subst (λ (n : ℕ). a.next + numbers_a_step * (e.steps + n) ≤ most_numbers) (ap entered_at gathered_there.is) w.room.0

    module _ (mid : Search S L W M K P C N B O) (ahead : IsAhead g l mid back c.rest) (steps : mid.steps ≡ e.steps) (last : S) (keeps : KeepsMarks (g.stands mid.store) (g.stands last)) (texts : KeepsTexts (g.names mid.store) (g.names last)) (takes : Takes g mid.store last (size (list_of copies))) where
      -- the result was unified with the list
      pub found_ahead : ((p q : Present W) (x : L) (k : K) (i : P) (ms : List Member) → KeepsWords p q → l.list p x k i ms → l.list q x k i ms) → (u : UnifiesCopy (g.present mid.store) (g.present last) value (list_of copies))
          → IsAhead g l (record mid { store = last }) (found value copies back) c.rest
      found_ahead words u =
          let list = list_of copies in
          let room = space in
          let few = u.few in
          let at = ahead.goes in
          let copy : apply (g.present mid.store).substitution (copy_from list (g.present mid.store).next) ≡ apply a.subst (copy_from list a.next) = ap₂ (λ (v : Subst) (m : ℕ). apply v (copy_from list m)) at.subst at.next in
          let unifier : Unifier value (apply a.subst (copy_from list a.next)) u.unifier = subst (λ (z : Tree). Unifier value z u.unifier) copy u.is in
          let is_found = ap (λ (o : Option Subst). equated o a.list (with_copy (size list) list back)) (unify_found a.subst value (apply a.subst (copy_from list a.next)) unifier) in
          let there = words (g.present mid.store) (g.present last) mid.lists (l.whole mid.lists) c.rest a.list u.words ahead.chain in
          let on = ahead_bound g l mid last mid.lists back c.rest (variable_count list) (a.built + size list) (compose a.subst u.unifier) ahead keeps texts (keeps_none l mid.lists)
          (fits_taken g back (record back { built = a.built + size list }) takes (omega arith) refl (omega arith) ahead.fits) there u.words
          (u.substitution ∙ ap (λ (q : Subst). compose q u.unifier) at.subst) u.next (omega (arith, room, few, steps)) in
          subst (λ (y : State). IsAhead g l (record mid { store = last }) y c.rest) (sym is_found) on

      pub found_engine : (next : Now N P) → ((p q : Present W) (x : L) (k : K) (i : P) (ms : List Member) → KeepsWords p q → l.list p x k i ms → l.list q x k i ms) → (u : UnifiesCopy (g.present mid.store) (g.present last) value (list_of copies))
          → ((ms : List Member) → l.list (g.present last) mid.lists (l.whole mid.lists) c.rest ms → IsBehind l (g.present last) mid.lists c.rest next ms) → IsEngine g l (record mid { store = last; now = next }) (found value copies back)
      found_engine next words u comes =
          let on = found_ahead words u in
          engine_place g l (record mid { store = last }) (found value copies back) c.rest next on (comes (found value copies back).list on.chain)

      -- they can't be
      pub missed_engine : NeverEqual value (apply (g.present mid.store).substitution (copy_from (list_of copies) (g.present mid.store).next)) → IsEngine g l (record mid { store = last; now = now.Failing }) (found value copies back)
      missed_engine never =
          let list = list_of copies in
          let at = ahead.goes in
          let copy : apply (g.present mid.store).substitution (copy_from list (g.present mid.store).next) ≡ apply a.subst (copy_from list a.next) = ap₂ (λ (v : Subst) (m : ℕ). apply v (copy_from list m)) at.subst at.next in
          let none = ap (λ (o : Option Subst). equated o a.list (with_copy (size list) list back)) (unify_none a.subst value (apply a.subst (copy_from list a.next)) (subst (λ (z : Tree). NeverEqual value z) copy never)) in
          let failed = keeps_fails g l mid last back c.rest (size list) (omega arith) ahead keeps texts takes in
          subst (λ (x : State). IsEngine g l (record mid { store = last; now = now.Failing }) x) (sym none)
          (record { world = failed.world; steps = failed.steps; base = failed.base; choices = failed.choices; room = failed.room; fits = failed.fits; next = ([], refl) })

  -- ---- the engine's move there

  module _ (e new : Search S L W M K P C N B O) (s : State) (r : Represents g l e s) (a : Alternative) (below : List Alternative) (doing : e.now ≡ now.Failing) (stack : r.own.stack ≡ a ∷ below) (value : Tree) (copies : List Tree) (count : ℕ)
      (left : a.left ≡ Gathering (AsList value) copies count) where
    found_to : step r.own ≡ Goes (found value copies (went_back a below r.own))
    found_to =
        let first = next_is g l e r.own now.Failing doing r.engine in
        back_step r.own first.0 a below (Gathering (AsList value) copies count) first.1 stack left

    pub found_on : IsEngine g l new (found value copies (went_back a below r.own)) → IsAwake (phase_of new.now) → Moves g l move.Goes s new
    found_on engine awake = goes g l e new s r (found value copies (went_back a below r.own)) found_to engine awake

    pub found_stops : Remains g l new (record (went_back a below r.own) { built = a.built + size (list_of copies) }) → Refused g l new s
    found_stops remains =
        let v = went_back a below r.own in
        let list = list_of copies in
        let o = under v.subst (unifier_of value (apply v.subst (copy_from list v.next))) in
        let same = equated_keeps o v.list (with_copy (size list) list v) in
        let counted = equated_counts o v.list (with_copy (size list) list v) in
        record {
          stopped = stops g l new r.own (found value copies v) s below r.same found_to same.0 same.1 remains.0;
          fits = fits_on g (g.present new.store) r.own (found value copies v) s found_to r.same
              (fits_more g (g.present new.store) 0 (record v { built = a.built + size list }) (found value copies v) (equated_query o v.list (with_copy (size list) list v)) (omega (arith, counted)) remains.1);
        }
