-- bagof/3 and setof/3: what their goal asks for is made, and it is run.
use Rattle.std.proofs.Common.{◌≡◌, ℕ, suc, ◌+◌, List, [], ◌∷◌, Bool, length, refl, ap, sym, subst, arith}
use Rattle.iso_model.specs.Terms.Lists.{list_of}
use Rattle.iso_model.specs.Terms.Trees.{arities_fit, Tree}
use Rattle.iso_model.specs.Search.Bodies.{Body}
use Rattle.iso_model.specs.Search.Replies.{Grouping, InGroups}
use Rattle.iso_model.specs.Search.Walker.{State, Member, Goal, Gather, Gathering, with_template}
use Rattle.iso_program.specs.Leaving.{AreLeft}
use Rattle.iso_store_core.specs.Presents.{KeepsWords, meaning, Present}
use Rattle.iso_store_core.specs.Retaining.{Retains, Takes}
use Rattle.iso_store_core.specs.declared.stores.Store.{Ghosts}
use Rattle.iso_search_core.specs.Asking.{AsksFor, goal_grouping, template_cells}
use Rattle.iso_search_core.specs.Own.{own_of}
use Rattle.iso_search_core.specs.Solutions.{pairs_of}
use Rattle.iso_search_core.specs.Standing.{HasLeft}
use Rattle.iso_search_core.specs.declared.asking.Asked.{Asked}
use Rattle.iso_search_core.specs.declared.choices.Left.TheVariants as left
use Rattle.iso_search_core.specs.declared.lists.Lists as lists
use Rattle.iso_search_core.specs.declared.pairs.Pairs.{Pairs}
use Rattle.iso_search_core.proofs.FittingLemmas.{fits_taken}
use Rattle.iso_search_core.proofs.StandingLemmas.{keeps_none}
use Rattle.iso_search.specs.declared.search.Search.{Search}
use Rattle.iso_search.specs.EngineStates.{IsAhead, IsEngine, Remains}
use Rattle.iso_search.specs.Gathers.{EntersFindall}
use Rattle.iso_search.specs.Groups.{gathering_groups, finding_groups}
use Rattle.iso_search.proofs.AheadLemmas.{keeps_ahead}
use Rattle.iso_search.proofs.BoundLemmas.{ahead_unbound}
use Rattle.iso_search.proofs.Moves.Local.{height_is}
use Rattle.iso_search.proofs.StoppedLemmas.{keeps_store}

module _ {S L W M K P C N B O : Type 0} (g : Ghosts S W M) (l : lists.Ghosts L S K P C N B O W M) where
  module _ (e : Search S L W M K P C N B O) (goal : W) (sorts : Bool) (s : State) (place : P)
      (h : EntersFindall g l e goal s place) (store : S) (retains : Retains g e.store store)
      (takes : Takes g e.store store (template_cells (meaning (g.present e.store) goal))) where
    -- how the groups come
    abbrev by : Grouping
    by = goal_grouping sorts (meaning (g.present e.store) goal)

    -- the engine behind it
    abbrev asker : Search S L W M K P C N B O
    asker = record e { store = store }

    -- no more was made than the template counts
    pub asked_remains : Remains g l asker (with_template (InGroups by) s)
    asked_remains = (
      keeps_store g l e store s.world s.stack (keeps_ahead g l e s place h.ahead) retains.marks retains.names,
      fits_taken g s (with_template (InGroups by) s) takes (omega arith) refl (omega arith) h.ahead.fits,
    )

    module _ (asked : Asked W)
        (asks : AsksFor (g.present e.store) (g.present store) (meaning (g.present e.store) goal) sorts asked) where
      pub asked_ahead : ((p q : Present W) (x : L) (k : K) (i : P) (ms : List Member) → KeepsWords p q
          → l.list p x k i ms → l.list q x k i ms) → IsAhead g l asker (with_template (InGroups by) s) place
      asked_ahead words =
          let p = g.present e.store in
          let q = g.present store in
          ahead_unbound g l e store e.lists s place (with_template (InGroups by) s).built h.ahead retains.marks
          retains.names (keeps_none l e.lists)
          (fits_taken g s (with_template (InGroups by) s) takes (omega arith) refl (omega arith) h.ahead.fits)
          (words p q e.lists (l.whole e.lists) place s.list asks.unbound.words h.ahead.chain) asks.unbound

      -- nothing was gathered yet
      pub nothing_grouped : (pairs : Pairs) → pairs_of pairs ≡ [] → pairs.variables ≡ 0
          → HasLeft (AreLeft (own_of l) (g.names store) e.db) (l.call (g.present store) e.lists (l.whole e.lists))
          (g.present store) (left.Grouping asked.by pairs) (record {
            list = s.list;
            subst = s.subst;
            next = s.next;
            built = (with_template (InGroups by) s).built;
            left = Gathering (InGroups by) [] 0;
          })
      nothing_grouped pairs none count = record {
        witness = asks.witness_holds;
        result = asks.result_holds;
        is = (λ i. Gathering (InGroups (sym asks.grouping_is i)) (sym none i) (sym count i));
        fits = ap (λ (ts : List Tree). arities_fit (list_of ts)) none;
      }

    pub groups_as : (new : Search S L W M K P C N B O) (n built : ℕ) (b : Body) (t : Tree)
        → n ≡ length e.choices.items
        → IsEngine g l new
        (record (gathering_groups by s) { list = Goal b (n + 1) ∷ Gather n t ∷ s.list; built = built })
        → IsEngine g l new (record (finding_groups b t by s) { built = built })
    groups_as new n built b t many is =
        let next : n + 1 ≡ suc n = omega arith in
        let runs : ℕ → ℕ → Type 0 = λ k m. IsEngine g l new
        (record (gathering_groups by s) { list = Goal b k ∷ Gather m t ∷ s.list; built = built }) in
        subst (λ (k : ℕ). runs (suc k) k) (height_is g l e s place n h.ahead many)
        (subst (λ (k : ℕ). runs k n) next is)
