-- A ball that goes to a catch: its catcher meets it, and its recovery is called, or the ball is thrown on.
use Rattle.std.proofs.Common.{◌≡◌, ℕ, suc, ◌+◌, List, ◌∷◌, length, codes, Option, refl, ap, sym, ◌∙◌, subst, inl, inr, arith}
use Rattle.iso_model.specs.Terms.Substitutions.{apply, compose, Subst}
use Rattle.iso_model.specs.Terms.Unification.Applied.{apply_apply}
use Rattle.iso_model.specs.Terms.Copies.{copy_from}
use Rattle.iso_store_core.specs.declared.stores.Store.{Ghosts}
use Rattle.iso_model.specs.Search.Engines.{IsAwake}
use Rattle.iso_search.specs.EngineStates.{Remains, IsEngine, Moves, phase_of, Refused, Represents, went_back}
use Rattle.iso_model.specs.Terms.Unifiers.{NeverEqual, Unifier}
use Rattle.iso_store_core.specs.Presents.{Present}
use Rattle.iso_search.specs.declared.search.Search.{Search}
use Rattle.iso_model.specs.Terms.Sizes.{size}
use Rattle.iso_model.specs.Terms.Trees.{Tree}
use Rattle.iso_model.specs.Terms.Variables.{variable_count}
use Rattle.iso_model.specs.Search.Bodies.{Run, one}
use Rattle.iso_model.specs.Search.Walker.{State, Member, Goal, Raise, Alternative, Left, Goes, met, meets, step, Meet}
use Rattle.iso_model.proofs.Search.RunLaws.Quiets.{quiet_trans}
use Rattle.iso_model.specs.Search.RunLaws.Sameness.{same_goal, Same, SameStack, no_alternative, same_alternative, Around, IsOwnLeft, IsValue}
use Rattle.iso_model.proofs.Search.RunLaws.SameSteps.{shortened_same, list_same, same_lists}
use Rattle.iso_model.proofs.Search.RunLaws.SameLaws.{same_beside}
use Rattle.iso_model.proofs.Search.RunLaws.Likeness.{onward_alike, alike_on}
use Rattle.iso_model.proofs.Search.CallLemmas.{unify_found, unify_none}
use Rattle.iso_model.proofs.Search.RunLaws.CountLemmas.{meets_built}
use Rattle.iso_search_core.proofs.FittingLemmas.{fits_more, fits_there}
use Rattle.iso_search_core.specs.declared.lists.Lists as lists
use Rattle.iso_search.specs.declared.search.Move.TheVariants as move
use Rattle.iso_search.specs.Catches.{GoesTo, IsCaught, HasThrown, Calling, caught_by, throwing, catcher_of, recovery_of}
use Rattle.iso_search.proofs.SameBodies.{around_itself}
use Rattle.iso_search.proofs.CountedLemmas.{meets_query}
use Rattle.iso_search.proofs.Moves.Search.{own_same, stops}
use Rattle.iso_search.proofs.SearchSteps.{step_is}

-- what is left at an alternative that is the same as itself is for values
left_own : {vs ws : List ℕ} {xs ys : List Alternative} (a : Alternative) (below : List Alternative) → SameStack vs ws xs ys → xs ≡ a ∷ below → IsOwnLeft a.subst a.left
left_own a below no_alternative e = absurd (cc)
left_own a below (same_alternative {a = d} agree next built list left own other others) e =
    let first : d ≡ a = cc in
    subst (λ (x : Alternative). IsOwnLeft x.subst x.left) first own

-- a goal of the same value comes first
same_value : (s : State) (a b : Tree) (m n : ℕ) (rest : List Member) → Around s s → apply s.subst a ≡ apply s.subst b → Same (record s { list = Goal (Run a) m ∷ rest }) (record s { list = Goal (Run b) n ∷ rest })
same_value s a b m n rest at value =
    same_lists (record { agree = at.agree; next = at.next; beside = record { stack = at.beside.stack; world = refl; steps = refl; query = omega arith; built = omega arith } }) (same_goal value (list_same rest))

module _ {S L W M K P C N B O : Type 0} (g : Ghosts S W M) (l : lists.Ghosts L S K P C N B O W M) where
  module _ (e : Search S L W M K P C N B O) (s : State) (r : Represents g l e s) (ball : Tree) (behind : List Member) (list : (r.own).list ≡ Raise ball ∷ behind) (height : ℕ) (way : GoesTo ball behind r.own height) where
    abbrev pub o : State
    o = r.own

    -- the state at the entry of the catch
    abbrev pub entry : State
    entry = went_back way.alternative way.below o

    abbrev pub first : State
    first = caught_by ball way.catcher way.recovery way.alternative way.below o

    first_step : step o ≡ Goes first
    first_step = step_is o (Raise ball ∷ behind) list ∙ way.goes

    own_left : IsValue way.alternative.subst way.catcher × IsValue way.alternative.subst way.recovery
    own_left =
        let beside = same_beside o (r.same).middle (r.same).same in
        let own = left_own way.alternative way.below (shortened_same (suc height) beside.stack) way.stack in
        subst (λ (l : Left). IsOwnLeft way.alternative.subst l) way.left own

    -- the ball was thrown, and the engine stopped before it came further
    pub stops_there : (new : Search S L W M K P C N B O) → Remains g l new (record entry { built = entry.built + size ball }) → Refused g l new s
    stops_there new remains =
        let v = meets ball way.catcher way.recovery way.alternative.list first in
        let k = onward_alike o first s first_step r.same in
        let second : step first ≡ Goes v = step_is first (Meet ball way.catcher way.recovery ∷ way.alternative.list) refl in
        let on = onward_alike first v k.0 second k.2 in
        let counted = meets_built ball way.catcher way.recovery way.alternative.list first in
        let queried = meets_query ball way.catcher way.recovery way.alternative.list first in
        record {
          stopped = stops g l new o first s way.below r.same first_step refl refl remains.0;
          fits = fits_there g (g.present new.store) v s on.0 (quiet_trans k.1 on.1) on.2
              (fits_more g (g.present new.store) 0 (record entry { built = entry.built + size ball }) v queried (omega (arith, counted)) remains.1);
        }

    -- the engine is behind the meeting, by its own goals
    behind_meeting : (v u : State) (new : Search S L W M K P C N B O) → meets ball way.catcher way.recovery way.alternative.list first ≡ v → (Same v v → Same u v) → IsEngine g l new u → IsAwake (phase_of new.now) → Moves g l move.Goes s new
    behind_meeting v u new is alike engine awake =
        let k = onward_alike o first s first_step r.same in
        let second : step first ≡ Goes v = step_is first (Meet ball way.catcher way.recovery ∷ way.alternative.list) refl ∙ ap Goes is in
        let l = onward_alike first v k.0 second k.2 in
        (l.0, quiet_trans k.1 l.1, record { own = u; engine = engine; same = alike_on u v l.0 (alike (own_same v l.0 l.2)) l.2 }, awake)

    module _ (two : Search S L W M K P C N B O) (goal : W) (place : P) (caught : IsCaught g l two goal ball way.catcher way.recovery entry place) where
      abbrev pub p : Present W
      p = g.present two.store

      -- the two terms that meet
      terms_are : (P : Tree → Tree → Type 0) → P (catcher_of p goal) (apply p.substitution (copy_from ball p.next)) → P (apply entry.subst way.catcher) (apply entry.subst (copy_from ball entry.next))
      terms_are P h =
          let goes = caught.meets.ahead.goes in
          let left : catcher_of p goal ≡ apply entry.subst way.catcher = sym caught.catcher_is ∙ sym own_left.0 in
          let right : apply p.substitution (copy_from ball p.next) ≡ apply entry.subst (copy_from ball entry.next) = ap (λ (q : Subst). apply q (copy_from ball p.next)) goes.subst ∙ ap (λ (n : ℕ). apply entry.subst (copy_from ball n)) goes.next in
          subst (λ (x : Tree). P x (apply entry.subst (copy_from ball entry.next))) left (subst (λ (y : Tree). P (catcher_of p goal) y) right h)

      -- the recovery is called
      recovered : (new : Search S L W M K P C N B O) (u : Subst) → Unifier (catcher_of p goal) (apply p.substitution (copy_from ball p.next)) u
          → Calling g l new (one (codes "call") (apply u (recovery_of p goal))) (record entry { subst = compose entry.subst u; next = entry.next + variable_count ball; built = entry.built + size ball }) → IsAwake (phase_of new.now) → Moves g l move.Goes s new
      recovered new u unifies c awake =
          let h = terms_are (λ x y. Unifier x y u) unifies in
          let call = one (codes "call") way.recovery in
          let below : ℕ = length way.below in
          let v : State = record entry { list = Goal (Run call) below ∷ way.alternative.list; subst = compose entry.subst u; next = entry.next + variable_count ball; built = entry.built + size ball } in
          let is : meets ball way.catcher way.recovery way.alternative.list first ≡ v =
          ap (λ (x : Option Subst). met x ball way.recovery way.alternative.list (record first { built = first.built + size ball })) (unify_found entry.subst (apply entry.subst way.catcher) (apply entry.subst (copy_from ball entry.next)) h) in
          let value : apply (compose entry.subst u) c.term ≡ apply (compose entry.subst u) call =
          c.value ∙ ap (λ (t : Tree). one (codes "call") (apply u t)) (sym caught.recovery_is) ∙ ap (λ (t : Tree). one (codes "call") (apply u t)) (sym own_left.1) ∙ ap (one (codes "call")) (apply_apply entry.subst u way.recovery) in
          behind_meeting v (record v { list = Goal (Run c.term) below ∷ way.alternative.list }) new is
          (λ own. same_value v c.term call below below way.alternative.list (around_itself v (Run call) below way.alternative.list refl own) value)
          c.engine awake

      -- the ball is thrown on
      thrown_further : (new : Search S L W M K P C N B O) → NeverEqual (catcher_of p goal) (apply p.substitution (copy_from ball p.next)) → IsEngine g l new (throwing ball (record entry { built = entry.built + size ball })) → IsAwake (phase_of new.now) → Moves g l move.Goes s new
      thrown_further new never engine awake =
          let h = terms_are (λ x y. NeverEqual x y) never in
          let v : State = record entry { list = Raise ball ∷ way.alternative.list; built = entry.built + size ball } in
          let is : meets ball way.catcher way.recovery way.alternative.list first ≡ v =
          ap (λ (x : Option Subst). met x ball way.recovery way.alternative.list (record first { built = first.built + size ball })) (unify_none entry.subst (apply entry.subst way.catcher) (apply entry.subst (copy_from ball entry.next)) h) in
          behind_meeting v v new is (λ own. own) engine awake

      pub meets_on : (new : Search S L W M K P C N B O) → HasThrown g l new p goal ball entry → IsAwake (phase_of new.now) → Moves g l move.Goes s new
      meets_on new (inl h) awake = recovered new h.0 h.1 h.2 awake
      meets_on new (inr h) awake = thrown_further new h.0 h.1 awake
