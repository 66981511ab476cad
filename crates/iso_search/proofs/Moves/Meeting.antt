-- A group of bagof/3 or setof/3 is met.
use Rattle.std.proofs.Common.{◌≡◌, ℕ, ◌+◌, ◌*◌, ◌≤◌, List, [], ◌∷◌, length, Option, Some, None, refl, ap, ap₂, sym, ◌∙◌, subst, arith}
use Rattle.iso_model.specs.Terms.Trees.{Tree, row}
use Rattle.iso_model.specs.Terms.Sizes.{size}
use Rattle.iso_model.specs.Terms.Lists.{list_of}
use Rattle.iso_model.specs.Terms.Substitutions.{Subst, apply, compose}
use Rattle.iso_model.specs.Terms.Copies.{copy_from}
use Rattle.iso_model.specs.Terms.Variables.{variable_count}
use Rattle.iso_model.specs.Terms.Unifiers.{Unifier, NeverEqual, IsUnifierOf}
use Rattle.iso_model.specs.Terms.Unification.{unifier_of, unifier_of_is}
use Rattle.iso_model.specs.Search.Groups.{witnesses}
use Rattle.iso_model.specs.Search.Library.{list_made}
use Rattle.iso_model.specs.Search.Replies.{Grouping}
use Rattle.iso_model.specs.Search.RunLaws.Sameness.{IsValue}
use Rattle.iso_model.specs.Search.Walker.{State, Member, equated, fails, repeated, tried_group, under}
use Rattle.iso_model.proofs.Search.RunLaws.TermValues.{value_is}
use Rattle.iso_atoms.specs.Texts.{KeepsTexts}
use Rattle.iso_store_core.specs.Presents.{KeepsMarks, KeepsWords, Present, meaning}
use Rattle.iso_store_core.specs.Retaining.{Takes}
use Rattle.iso_store_core.specs.declared.stores.Store.{Ghosts}
use Rattle.iso_lib_core.specs.declared.collecting.Meeting.{Meeting}
use Rattle.iso_lib_core.specs.declared.groups.Group.{Group}
use Rattle.iso_lib_core.specs.Groupings.{solutions_of}
use Rattle.iso_lib_core.specs.Collecting.{MeetsGroup, copy_in, group_list, group_made}
use Rattle.iso_search_core.specs.declared.lists.Lists as lists
use Rattle.iso_search_core.specs.declared.nows.Now.{Now}
use Rattle.iso_search_core.specs.declared.nows.Now.TheVariants as now
use Rattle.iso_search_core.specs.Fitting.{FitsState}
use Rattle.iso_search_core.specs.Standing.{grouping_of, most_numbers, numbers_a_step}
use Rattle.iso_search_core.proofs.FittingLemmas.{fits_more, fits_taken}
use Rattle.iso_search_core.proofs.StandingLemmas.{keeps_none}
use Rattle.iso_search.specs.declared.search.Search.{Search}
use Rattle.iso_search.specs.EngineStates.{IsAhead, IsBehind, IsEngine}
use Rattle.iso_search.specs.Groups.{StoppedAt, MeetsGroups}
use Rattle.iso_search.proofs.AheadLemmas.{engine_place}
use Rattle.iso_search.proofs.BoundLemmas.{ahead_bound}
use Rattle.iso_search.proofs.CountedLemmas.{equated_counts, equated_query}
use Rattle.iso_search.proofs.EndLemmas.{keeps_fails}
use Rattle.iso_search.proofs.GroupSteps.{copied, counted, asked, given, listed, opened, group_opens, group_missed, group_found, group_closed}
use Rattle.iso_search.proofs.StoppedLemmas.{base_kept}
use Rattle.iso_search.proofs.WorldLemmas.{world_on}

module _ {S L W M K P C N B O : Type 0} (g : Ghosts S W M) (l : lists.Ghosts L S K P C N B O W M) (e : Search S L W M K P C N B O) (by : Meeting W) (group : Group) (s : State) (place : P) (h : MeetsGroups g l e by (group ∷ []) s place) where
  abbrev how : Grouping
  how = grouping_of (g.present e.store) by

  abbrev ts : List Tree
  ts = solutions_of group

  abbrev pub target : State
  target = tried_group how ts s.list s

  -- the result is a value
  value : IsValue s.subst how.result
  value =
      subst (λ (q : Subst). IsValue s.subst (apply q ((g.present e.store).term by.result))) (sym h.ahead.goes.subst)
      (value_is s.subst ((g.present e.store).term by.result) h.twice)

  -- the copy in the store is that of the search
  copy : copy_in (g.present e.store) (list_of ts) ≡ copied s ts
  copy = ap₂ (λ (v : Subst) (n : ℕ). apply v (copy_from (list_of ts) n)) h.ahead.goes.subst h.ahead.goes.next

  -- the two terms that the store unifies first
  abbrev asked_there : Tree
  asked_there = repeated how.witness (witnesses (copy_in (g.present e.store) (list_of ts)))

  abbrev given_there : Tree
  given_there = row (witnesses (copy_in (g.present e.store) (list_of ts)))

  as_copied : {u : Subst} → Unifier asked_there given_there u
      → Unifier (asked how s ts) (given s ts) u
  as_copied {u} is = subst (λ (c : Tree). Unifier (repeated how.witness (witnesses c)) (row (witnesses c)) u) copy is

  never_copied : NeverEqual asked_there given_there
      → NeverEqual (asked how s ts) (given s ts)
  never_copied never = subst (λ (c : Tree). NeverEqual (repeated how.witness (witnesses c)) (row (witnesses c))) copy never

  module _ (last : S) (keeps : KeepsMarks (g.stands e.store) (g.stands last)) (texts : KeepsTexts (g.names e.store) (g.names last)) where
    -- ---- the two were unified

    module _ (met : MeetsGroup (g.present e.store) (g.present last) how.witness how.result by.sorts (list_of ts)) (takes : Takes g e.store last (group_made (g.present e.store) by.sorts (list_of ts) met.unifier)) where
      pub group_ahead : ((p q : Present W) (x : L) (k : K) (i : P) (ms : List Member) → KeepsWords p q → l.list p x k i ms → l.list q x k i ms)
          → IsAhead g l (record e { store = last }) target place
      group_ahead words =
          let u = met.unifier in
          let second : Unifier (apply u how.result) (list_of (listed how u s ts)) met.other = subst (λ (c : Tree). Unifier (apply u how.result) (list_of (group_list by.sorts c u)) met.other) copy met.is_other in
          let is = group_found how ts s.list s h.twice value (as_copied met.is) second in
          let many = ap (λ (c : Tree). length (group_list by.sorts c u)) copy in
          let made = s.built + size (list_of ts) + (1 + list_made (length (listed how u s ts))) in
          let there = words (g.present e.store) (g.present last) e.lists (l.whole e.lists) place s.list met.words h.ahead.chain in
          let room = h.space in
          let few = met.few in
          let steps = h.ahead.steps in
          let on = ahead_bound g l e last e.lists s place (variable_count (list_of ts)) made (compose (compose s.subst u) met.other) h.ahead keeps texts (keeps_none l e.lists)
          (fits_taken g s (record s { built = made }) takes (omega arith) refl (omega (arith, many)) h.ahead.fits) there met.words
          (met.substitution ∙ ap (λ (r : Subst). compose (compose r u) met.other) h.ahead.goes.subst) met.next (omega (arith, room, few, steps)) in
          subst (λ (y : State). IsAhead g l (record e { store = last }) y place) (sym is) on

      pub group_engine : (next : Now N P) → ((p q : Present W) (x : L) (k : K) (i : P) (ms : List Member) → KeepsWords p q → l.list p x k i ms → l.list q x k i ms)
          → ((ms : List Member) → l.list (g.present last) e.lists (l.whole e.lists) place ms → IsBehind l (g.present last) e.lists place next ms)
          → IsEngine g l (record e { store = last; now = next }) target
      group_engine next words comes =
          let on = group_ahead words in
          engine_place g l (record e { store = last }) target place next on (comes target.list on.chain)

    -- ---- they can't be

    fails_with : (q : Subst) (next built n : ℕ) → Takes g e.store last n → s.built + n ≤ built
        → IsEngine g l (record e { store = last; now = now.Failing }) (fails (record s { subst = q; next = next; built = built }))
    fails_with q next built n takes less =
        let failed = keeps_fails g l e last s place n (omega arith) h.ahead keeps texts takes in
        record {
          world = failed.world;
          steps = failed.steps;
          base = failed.base;
          choices = failed.choices;
          room = failed.room;
          fits = fits_more g (g.present last) 0 (fails (record s { built = s.built + n })) (fails (record s { subst = q; next = next; built = built })) refl less failed.fits;
          next = ([], refl);
        }

    pub witness_missed : NeverEqual asked_there given_there
        → Takes g e.store last (size (list_of ts)) → IsEngine g l (record e { store = last; now = now.Failing }) target
    witness_missed never takes =
        subst (λ (y : State). IsEngine g l (record e { store = last; now = now.Failing }) y) (sym (group_missed how ts s.list s (never_copied never)))
        (fails_with s.subst (s.next + variable_count (list_of ts)) (s.built + size (list_of ts)) (size (list_of ts)) takes (omega arith))

    pub result_missed : (u : Subst) → Unifier asked_there given_there u
        → NeverEqual (apply u how.result) (list_of (group_list by.sorts (copy_in (g.present e.store) (list_of ts)) u))
        → Takes g e.store last (group_made (g.present e.store) by.sorts (list_of ts) u) → IsEngine g l (record e { store = last; now = now.Failing }) target
    result_missed u is never takes =
        let other = subst (λ (c : Tree). NeverEqual (apply u how.result) (list_of (group_list by.sorts c u))) copy never in
        let many = ap (λ (c : Tree). length (group_list by.sorts c u)) copy in
        subst (λ (y : State). IsEngine g l (record e { store = last; now = now.Failing }) y) (sym (group_closed how ts s.list s h.twice value (as_copied is) other))
        (fails_with (compose s.subst u) (s.next + variable_count (list_of ts)) (s.built + size (list_of ts) + (1 + list_made (length (listed how u s ts))))
        (group_made (g.present e.store) by.sorts (list_of ts) u) takes (omega (arith, many)))

    -- ---- it was refused

    pub group_fits : ((u : Subst) → Unifier asked_there given_there u → Takes g e.store last (group_made (g.present e.store) by.sorts (list_of ts) u))
        → (NeverEqual asked_there given_there → Takes g e.store last (size (list_of ts)))
        → FitsState g (g.present last) 0 target
    group_fits cells unmet =
        by_answer (unifier_of asked_there given_there) (unifier_of_is asked_there given_there) where
          by_answer : (o : Option Subst) → IsUnifierOf asked_there given_there o → FitsState g (g.present last) 0 target
          by_answer (Some u) is =
              let many = ap (λ (c : Tree). length (group_list by.sorts c u)) copy in
              let o = under (compose s.subst u) (unifier_of (apply u how.result) (list_of (listed how u s ts))) in
              let counts = equated_counts o s.list (opened how u ts s) in
              subst (λ (y : State). FitsState g (g.present last) 0 y) (sym (group_opens how ts s.list s h.twice value (as_copied is)))
              (fits_taken g s (equated o s.list (opened how u ts s)) (cells u is) (omega arith) (equated_query o s.list (opened how u ts s)) (omega (arith, counts, many)) h.ahead.fits)
          by_answer None never =
              subst (λ (y : State). FitsState g (g.present last) 0 y) (sym (group_missed how ts s.list s (never_copied never)))
              (fits_taken g s (fails (counted s ts)) (unmet never) (omega arith) refl (omega arith) h.ahead.fits)

    pub group_stops : FitsState g (g.present last) 0 target → StoppedAt g l (record e { store = last }) s target
    group_stops fits = record {
      world = world_on l texts h.ahead.world;
      base = base_kept g e.store last e.base keeps h.ahead.base;
      fits = fits;
    }
