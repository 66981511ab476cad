-- A thrown ball goes back to the catch that it goes to.
use Rattle.iso_model.specs.Search.Walker.{Alternative, Catching, fails, Member, Raise, shortened, State}
use Rattle.iso_program.specs.Leaving.{AreLeft}
use Rattle.iso_model.specs.Terms.Trees.{arities_fit, Tree}
use Rattle.iso_model.specs.declared.pauses.Ball.{Ball}
use Rattle.iso_store_core.specs.declared.stores.Store.{Ghosts}
use Rattle.iso_search.specs.EngineStates.{IsAhead, IsEngine, went_back, WentBack}
use Rattle.iso_search_core.specs.declared.choices.Left.{Left}
use Rattle.iso_search_core.specs.Own.{own_of}
use Rattle.iso_store_core.specs.Presents.{Present}
use Rattle.iso_search.specs.declared.search.Search.{Search}
use Rattle.iso_model.specs.Terms.TermOf.{term_of}
use Rattle.std.proofs.Common.{◌≡◌, ℕ, suc, ◌+◌, ◌*◌, ◌≤◌, List, ◌∷◌, length, Option, Some, None, true, refl, ap, sym, ◌∙◌, subst, arith, Vec, Global}
use Rattle.std.specs.Prelude.{option_map}
use Rattle.iso_search_core.specs.declared.lists.Lists as lists
use Rattle.iso_search_core.specs.declared.choices.Left.TheVariants as left
use Rattle.iso_search_core.specs.declared.choices.Choice as kept
use Rattle.iso_search_core.specs.declared.nows.Now.TheVariants as now
use Rattle.iso_search_core.specs.Standing.{HasCatch, HasLeft, entered_at, most_numbers, numbers_a_step}
use Rattle.iso_search_core.proofs.StandingLemmas.{choices_length}
use Rattle.iso_search.specs.Catches.{GoesTo, IsCatchGoal, IsCaught, catcher_of, recovery_of}
use Rattle.iso_search.proofs.BackLemmas.{has_left}
use Rattle.iso_search.proofs.EndLemmas.{next_is, failing_engine}

module _ {S L W M K P C N B O : Type 0} (g : Ghosts S W M) (l : lists.Ghosts L S K P C N B O W M) where
  module _ (e : Search S L W M K P C N B O) (c : kept.Choice W M K P C) (s : State) (a : Alternative) (below : List Alternative) (w : WentBack g l e c s a below) (catcher recovery : Tree) (catches : a.left ≡ Catching catcher recovery) where
    -- the choice is the entry of a catch
    pub entry_is : (x : Left W C) → c.left ≡ x → (goal : W) × (x ≡ left.Catching goal)
    entry_is x is = by_left x (has_left g l e c s a below w x is) where
      by_left : (x : Left W C) → HasLeft (AreLeft (own_of l) (g.names e.store) e.db) (l.call (g.present e.store) e.lists c.kept) (g.present e.store) x a → (goal : W) × (x ≡ left.Catching goal)
      by_left (left.Catching goal) has = (goal, refl)
      by_left left.AsIs has = absurd (let other = sym has ∙ catches in cc)
      by_left left.Again has = absurd (let other = sym has ∙ catches in cc)
      by_left (left.Gathering result gathered) has = absurd (let other = sym has.is ∙ catches in cc)
      by_left (left.Grouping by pairs) has = absurd (let other = sym has.is ∙ catches in cc)
      by_left (left.Groups by groups) has = absurd (let other = sym has.is ∙ catches in cc)
      by_left (left.Offered goal offers) has = absurd (let other = sym has.is ∙ catches in cc)
      by_left (left.Shown shown) has = absurd (let other = sym has.is ∙ catches in cc)
      by_left (left.Clauses attempt) has = absurd (let other = sym has.left ∙ catches in cc)

    -- the choice is gone, and its catcher is to meet the ball
    pub caught_there : (new : Search S L W M K P C N B O) (goal : W) (rest : P) (ball : Ball) → c.left ≡ left.Catching goal → IsAhead g l new (went_back a below s) rest
        → g.present new.store ≡ g.present e.store → new ≡ record e { store = new.store; choices = new.choices } → e.raised ≡ Some ball → arities_fit (term_of ball.term.value) ≡ true
        → IsCaught g l new goal (term_of ball.term.value) catcher recovery (went_back a below s) rest
    caught_there new goal rest ball is ahead same dropped raised fits =
        let h : HasCatch (AreLeft (own_of l) (g.names e.store) e.db) (l.call (g.present e.store) e.lists c.kept) (g.present e.store) goal a = has_left g l e c s a below w (left.Catching goal) is in
        let room = w.room.0 in
        let both = sym catches ∙ h.is in
        let one : a.next + numbers_a_step * (e.steps + 1) ≤ most_numbers = subst (λ (n : ℕ). a.next + numbers_a_step * (e.steps + n) ≤ most_numbers) (ap entered_at catches) room in
        record {
          meets = record {
            ahead = ahead;
            space = rw (ap (λ (x : Search S L W M K P C N B O). x.steps) dropped) one;
            catches = subst (λ (p : Present W). IsCatchGoal p goal) (sym same) (record { holds = h.holds; three = h.three });
            fits = fits;
            kept = (ball, ap (λ (x : Search S L W M K P C N B O). x.raised) dropped ∙ raised, refl);
          };
          catcher_is = subst (λ (p : Present W). catcher ≡ catcher_of p goal) (sym same) (cc both);
          recovery_is = subst (λ (p : Present W). recovery ≡ recovery_of p goal) (sym same) (cc both);
        }

  -- ---- going back to a catch

  -- The engine went back to the choice that is the catch's entry.
  pub record BackAt (e : Search S L W M K P C N B O) (mark : M) (rest : P) (s : State) (ball : Tree) (behind : List Member) (height : ℕ) (way : GoesTo ball behind s height) : Type 0 where
    pub choice : kept.Choice W M K P C
    pub mark_is : choice.mark ≡ mark
    pub rest_is : choice.rest ≡ rest
    pub went : WentBack g l e choice (record (fails s) { stack = shortened (height + 1) s.stack }) way.alternative way.below
    pub many : height + 1 ≡ length e.choices.items

  module _ {s : State} {ball : Tree} {behind : List Member} {height : ℕ} (way : GoesTo ball behind s height) where
    stack_is : shortened (height + 1) s.stack ≡ way.alternative ∷ way.below
    stack_is = (let plus : height + 1 ≡ suc height = omega arith in ap (λ (n : ℕ). shortened n s.stack) plus) ∙ way.stack

    module _ (e one : Search S L W M K P C N B O) (is : IsEngine g l e s)
        (cut : (t : State) → IsEngine g l (record e { now = now.Failing }) t → IsEngine g l one (record t { stack = shortened (height + 1) t.stack })) where
      abbrev failing : State
      failing = record (fails s) { stack = shortened (height + 1) s.stack }

      -- the choices above it were taken away
      pub cut_fails : IsEngine g l one failing
      cut_fails = cut (fails s) (failing_engine g l e s is)

      pub still_stand : height + 1 ≡ length one.choices.items
      still_stand =
          let all = choices_length l cut_fails.choices in
          let height_is = way.height_is in
          let count : length (shortened (height + 1) s.stack) ≡ suc (length way.below) = ap length stack_is in
          omega (arith, all, count, height_is)

      pub back_at : (two : Search S L W M K P C N B O) (mark : M) (rest : P) → two.choices ≡ one.choices
          → ((t : State) → IsEngine g l one t → (c : kept.Choice W M K P C) × (a : Alternative) × (below : List Alternative) × (t.stack ≡ a ∷ below) × (c.mark ≡ mark) × (c.rest ≡ rest) × WentBack g l two c t a below)
          → BackAt two mark rest s ball behind height way
      back_at two mark rest same back =
          let b = back failing cut_fails in
          let both : b.1 ∷ b.2 ≡ way.alternative ∷ way.below = sym b.3 ∙ stack_is in
          let first : b.1 ≡ way.alternative = cc in
          let others : b.2 ≡ way.below = cc in
          record {
            choice = b.0;
            mark_is = b.4;
            rest_is = b.5;
            went = subst (λ (x : Alternative). WentBack g l two b.0 failing x way.below) first (subst (λ (ys : List Alternative). WentBack g l two b.0 failing b.1 ys) others b.6);
            many = still_stand ∙ sym (ap (λ (v : Vec (kept.Choice W M K P C) Global). length v.items) same);
          }

  -- the ball is still kept
  pub still_raised : (e one two : Search S L W M K P C N B O) → one ≡ record e { store = one.store; choices = one.choices; now = now.Failing } → two.raised ≡ one.raised → two.raised ≡ e.raised
  still_raised e one two cut same = same ∙ ap (λ (x : Search S L W M K P C N B O). x.raised) cut

  -- the ball that is thrown was kept, and a store can hold it
  pub kept_ball : (e : Search S L W M K P C N B O) (s : State) (ball : Tree) (behind : List Member) (place : P) → e.now ≡ now.Raising place → IsEngine g l e s → s.list ≡ Raise ball ∷ behind
      → (b : Ball) × (e.raised ≡ Some b) × (term_of b.term.value ≡ ball) × (arities_fit (term_of b.term.value) ≡ true)
  kept_ball e s ball behind place doing is list =
      let next = next_is g l e s (now.Raising place) doing is in
      let both : Raise next.0 ∷ next.1 ≡ Raise ball ∷ behind = sym next.2 ∙ list in
      let same : next.0 ≡ ball = cc in
      by_raised e.raised refl (next.4 ∙ ap Some same) (subst (λ (t : Tree). arities_fit t ≡ true) same next.5) where
        by_raised : (o : Option Ball) → e.raised ≡ o → option_map (λ b. term_of b.term.value) o ≡ Some ball → arities_fit ball ≡ true → (b : Ball) × (e.raised ≡ Some b) × (term_of b.term.value ≡ ball) × (arities_fit (term_of b.term.value) ≡ true)
        by_raised (Some b) e h fits = let is : term_of b.term.value ≡ ball = cc in (b, e, is, subst (λ (t : Tree). arities_fit t ≡ true) (sym is) fits)
        by_raised None e h fits = absurd (cc)
