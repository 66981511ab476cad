-- Goals that run a goal, or that succeed again and again.
use Rattle.std.proofs.Common.{◌≡◌, ℕ, suc, ◌+◌, ◌*◌, ◌≤◌, ◌∷◌, length, refl, ap, sym, ◌∙◌, subst, arith}
use Rattle.iso_model.specs.Search.Walker.{AsIs, CutTo, Fail, Goal, pushed, State}
use Rattle.iso_model.specs.Search.Bodies.{Body}
use Rattle.iso_store_core.specs.declared.stores.Store.{Ghosts}
use Rattle.iso_search_core.specs.Standing.{most_numbers, numbers_a_step}
use Rattle.iso_search.specs.declared.search.Move.{Move}
use Rattle.iso_store_core.specs.Presents.{meaning, Present}
use Rattle.iso_model.specs.Terms.Trees.{Tree}
use Rattle.iso_search.specs.declared.search.Search.{Search}
use Rattle.iso_search_core.specs.declared.lists.Lists as lists
use Rattle.iso_search_core.proofs.StandingLemmas.{choices_length}
use Rattle.iso_search_core.specs.declared.nows.Now.TheVariants as now
use Rattle.iso_model.specs.declared.limit.Limit.TheVariants as limit
use Rattle.iso_model.specs.declared.pauses.Pause.TheVariants as pause
use Rattle.iso_search.specs.declared.search.Move.TheVariants as move
use Rattle.iso_search.specs.EngineStates.{IsAhead, IsEngine, Keeps, WasCalled, calling_body, calling_once, refuting}
use Rattle.iso_search.proofs.AheadLemmas.{keeps_ahead}

module _ {S L W M K P C N B O : Type 0} (g : Ghosts S W M) (l : lists.Ghosts L S K P C N B O W M) where
  -- as many choices as alternatives
  pub height_is : (e : Search S L W M K P C N B O) (s : State) (place : P) (n : ℕ) → IsAhead g l e s place → n ≡ length e.choices.items → n ≡ length s.stack
  height_is e s place n h many = many ∙ choices_length l h.choices

  pub called_as : (e new : Search S L W M K P C N B O) (s : State) (place : P) (n : ℕ) (b : Body) → IsAhead g l e s place → n ≡ length e.choices.items → IsEngine g l new (record s { list = Goal b n ∷ s.list }) → IsEngine g l new (calling_body b s)
  called_as e new s place n b h many is = subst (λ (k : ℕ). IsEngine g l new (record s { list = Goal b k ∷ s.list })) (height_is e s place n h many) is

  pub once_as : (e new : Search S L W M K P C N B O) (s : State) (place : P) (n : ℕ) (b : Body) → IsAhead g l e s place → n ≡ length e.choices.items → IsEngine g l new (record s { list = Goal b n ∷ CutTo n ∷ s.list }) → IsEngine g l new (calling_once b s)
  once_as e new s place n b h many is = subst (λ (k : ℕ). IsEngine g l new (record s { list = Goal b k ∷ CutTo k ∷ s.list })) (height_is e s place n h many) is

  pub refute_as : (e new : Search S L W M K P C N B O) (s : State) (place : P) (n : ℕ) (b : Body) → IsAhead g l e s place → n ≡ length e.choices.items → IsEngine g l new (record (pushed s.list AsIs s) { list = Goal b (n + 1) ∷ CutTo n ∷ Fail ∷ s.list })
      → IsEngine g l new (refuting b s)
  refute_as e new s place n b h many is =
      let next : n + 1 ≡ suc n = omega arith in
      subst (λ (k : ℕ). IsEngine g l new (record (pushed s.list AsIs s) { list = Goal b (suc k) ∷ CutTo k ∷ Fail ∷ s.list })) (height_is e s place n h many)
      (subst (λ (k : ℕ). IsEngine g l new (record (pushed s.list AsIs s) { list = Goal b k ∷ CutTo n ∷ Fail ∷ s.list })) next is)

-- as many steps are left
pub same_steps : {S L W M K P C N B O : Type 0} (e new : Search S L W M K P C N B O) → new ≡ record e { lists = new.lists; now = new.now } → new.steps ≡ e.steps
same_steps e new is = ap (λ (x : Search _ _ _ _ _ _ _ _ _ _). x.steps) is

-- so behind a choice that came
pub steps_both : {S L W M K P C N B O : Type 0} (e mid new : Search S L W M K P C N B O) → mid ≡ record e { store = mid.store; choices = mid.choices } → new ≡ record mid { lists = new.lists; now = new.now } → new.steps ≡ e.steps
steps_both e mid new first second = same_steps mid new second ∙ ap (λ (x : Search _ _ _ _ _ _ _ _ _ _). x.steps) first

pub lists_same : {S L W M K P C N B O : Type 0} (e mid : Search S L W M K P C N B O) → mid ≡ record e { store = mid.store; choices = mid.choices } → mid.lists ≡ e.lists
lists_same e mid is = ap (λ (x : Search _ _ _ _ _ _ _ _ _ _). x.lists) is

-- what a word means in a store that is as it was
pub meaning_on : {W : Type 0} {p q : Present W} (w : W) {t : Tree} → q ≡ p → meaning p w ≡ t → meaning q w ≡ t
meaning_on w same value = ap (λ (x : Present _). meaning x w) same ∙ value

module _ {S L W M K P C N B O : Type 0} (g : Ghosts S W M) (l : lists.Ghosts L S K P C N B O W M) where
  -- no choice may be made any more
  pub full_called : (e mid new : Search S L W M K P C N B O) (result : Move) (s t : State) (place : P) → IsAhead g l e s place → mid ≡ e → result ≡ move.Pauses pause.FramesFull → new ≡ record mid { now = now.Spent limit.Frames } → WasCalled g l result new s t
  full_called e mid new result s t place h same is spent =
      let kept = subst (λ (x : Search S L W M K P C N B O). Keeps g l (record x { now = now.Spent limit.Frames }) s.world s.stack) (sym same) (keeps_ahead g l e s place h) in
      subst (λ (m : Move). WasCalled g l m new s t) (sym is) (refl, ap (λ (x : Search S L W M K P C N B O). x.now) spent, subst (λ (x : Search S L W M K P C N B O). Keeps g l x s.world s.stack) (sym spent) kept)

  -- there is room where no clause is entered
  pub space_none : (e : Search S L W M K P C N B O) (s : State) (place : P) → IsAhead g l e s place → s.next + numbers_a_step * (e.steps + 0) ≤ most_numbers
  space_none e s place h = let room = h.goes.room in let steps = h.steps in omega (arith, room, steps)

  -- a body that stands behind a choice that came
  pub body_on : (e mid : Search S L W M K P C N B O) (body : B) (b : Body) → mid ≡ record e { store = mid.store; choices = mid.choices } → g.present mid.store ≡ g.present e.store → l.body (g.present e.store) e.lists body b → l.body (g.present mid.store) mid.lists body b
  body_on e mid body b same present h =
      subst (λ (p : Present W). l.body p mid.lists body b) (sym present) (subst (λ (x : L). l.body (g.present e.store) x body b) (sym (lists_same e mid same)) h)
