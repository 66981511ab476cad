-- What a reply is, by what the goal of a built-in came to.
use Rattle.std.proofs.Common.{◌≡◌, ◌≢◌, ◌-◌, List, ℕ, refl, ap, sym, subst, true}
use Rattle.iso_model.specs.Terms.Substitutions.{apply, Subst}
use Rattle.iso_model.specs.Terms.Trees.{arities_fit, Tree}
use Rattle.iso_model.specs.Search.Bodies.{Body}
use Rattle.iso_model.specs.declared.built_ins.BuiltIn.{BuiltIn}
use Rattle.iso_model.specs.Terms.Copies.{copy_from}
use Rattle.iso_store_core.specs.declared.stores.Store.{Ghosts}
use Rattle.iso_search_core.specs.GoalKinds.{IsBuiltIn}
use Rattle.iso_search.specs.Nexts.{IsGoalFirst}
use Rattle.iso_lib_core.specs.Replies.{IsDone, IsFailed, IsRaised, IsUnbound, UnifiesCopy}
use Rattle.iso_model.specs.Search.Replies.{Answer, Fail, Succeed, Equate, EquateCopy, Raise, Grouping, AsList, InGroups}
use Rattle.iso_model.specs.declared.pauses.Ball.{Ball}
use Rattle.iso_atoms.specs.Texts.{KeepsTexts}
use Rattle.iso_model.specs.Search.Walker.{Member, State}
use Rattle.iso_model.specs.Terms.Unifiers.{NeverEqual, Unifier}
use Rattle.iso_search.specs.EngineStates.{Represents}
use Rattle.iso_search.specs.declared.search.Search.{Search}
use Rattle.iso_model.specs.Terms.TermOf.{term_of}
use Rattle.iso_model.specs.Search.BuiltIns.{reply, Reply, Fails, Succeeds, Equates, EquatesCopy, Raises, Calls, CallsOnce, Refutes, Repeats, Catches, Gathers, Halts, AsksWorld, Writes, answered}
use Rattle.iso_search_core.specs.Standing as standing
use Rattle.iso_search.proofs.BoundLemmas.{list_on}
use Rattle.iso_store_core.specs.ArgumentWords.{AreArguments}
use Rattle.iso_store_core.specs.Presents.{Present, Binds, KeepsMarks, KeepsWords, meaning}
use Rattle.iso_store_core.specs.Retaining.{Takes}
use Rattle.iso_search_core.specs.Cells.{reply_cells}
use Rattle.iso_search_core.specs.declared.lists.Lists as lists
use Rattle.iso_search_core.specs.declared.replies.Replied.{Replied}
use Rattle.iso_search_core.specs.declared.replies.Replied.TheVariants as replied
use Rattle.iso_search_core.specs.Replies.{IsReply, Places, Asks}
use Rattle.iso_search.specs.Replying.{HasReplied}

-- The goal went on: with the bindings that there were, or with a unifier more.
pub data WentOn {W : Type 0} (p q : Present W) : Reply → Type 0 where
  as_before : q ≡ p → WentOn p q Succeeds
  unified : {made : ℕ} {a b : Tree} (s : Subst) → Unifier a b s → Binds p q s → WentOn p q (Equates made a b)
  unified_copy : {a b : Tree} → UnifiesCopy p q a b → WentOn p q (EquatesCopy a b)

-- words have their terms then
pub went_words : {W : Type 0} {p q : Present W} {x : Reply} → WentOn p q x → KeepsWords p q
went_words {p = p} (as_before same) = subst (λ (q : Present _). KeepsWords p q) (sym same) (record { stand = λ w h. h; terms = λ w h. refl })
went_words (unified s unifier binds) = binds.words
went_words (unified_copy u) = u.words

-- The goal failed.
pub data Failed {W : Type 0} (p : Present W) : Reply → Type 0 where
  at_once : Failed p Fails
  never_equal : {made : ℕ} {a b : Tree} → NeverEqual a b → Failed p (Equates made a b)
  never_copy : {a b : Tree} → NeverEqual a (apply p.substitution (copy_from b p.next)) → Failed p (EquatesCopy a b)

-- ---- what a goal came to that is answered without the lists

pub went_as : {W : Type 0} {p q : Present W} (x : Answer) → IsDone p q x → WentOn p q (answered x)
went_as Succeed h = as_before h
went_as (Equate made a b) h = unified h.0 h.1 h.2
went_as (EquateCopy a b) h = unified_copy h
went_as x h = absurd h

pub failed_as : {W : Type 0} {p : Present W} (x : Answer) → IsFailed p x → Failed p (answered x)
failed_as Fail h = at_once
failed_as (Equate made a b) h = never_equal h
failed_as (EquateCopy a b) h = never_copy h
failed_as x h = absurd h

pub raised_as : {W : Type 0} {p q : Present W} (x : Answer) (ball : Ball) → IsRaised p q x ball → (answered x ≡ Raises (term_of ball.term.value)) × (arities_fit (term_of ball.term.value) ≡ true) × IsUnbound p q
raised_as (Raise error) ball h = (ap Raises (sym h.0.0), h.0.1, h.1)
raised_as x ball h = absurd h

module _ {S L W M K P C N B O : Type 0} (l : lists.Ghosts L S K P C N B O W M) (p q : Present W) (old new : L) where
  -- what a reply is that came to this answer
  abbrev pub Told : Reply → Replied B → Type 0
  Told x replied.GoesOn = WentOn p q x
  Told x replied.Fails = Failed p x
  Told x (replied.Raises ball) = (x ≡ Raises (term_of ball.term.value)) × (arities_fit (term_of ball.term.value) ≡ true) × IsUnbound p q
  Told x (replied.Calls place) = (b : Body) × (x ≡ Calls b) × Places l p q old new b place
  Told x (replied.CallsOnce place) = (b : Body) × (x ≡ CallsOnce b) × Places l p q old new b place
  Told x (replied.Refutes place) = (b : Body) × (x ≡ Refutes b) × Places l p q old new b place
  Told x replied.Repeats = (x ≡ Repeats) × (q ≡ p)
  Told x replied.Catches = (b : Body) × (catcher : Tree) × (recovery : Tree) × (x ≡ Catches (Calls b) catcher recovery) × (q ≡ p)
  Told x (replied.RaisesInside ball) = (catcher : Tree) × (recovery : Tree) × (x ≡ Catches (Raises (term_of ball.term.value)) catcher recovery) × (arities_fit (term_of ball.term.value) ≡ true) × IsUnbound p q
  Told x replied.Gathers = (template : Tree) × (b : Body) × (result : Tree) × (x ≡ Gathers template b (AsList result)) × (q ≡ p)
  Told x (replied.Groups sorts) = (template : Tree) × (b : Body) × (by : Grouping) × (x ≡ Gathers template b (InGroups by)) × (q ≡ p) × (by.sorts ≡ sorts)
  Told x (replied.Halts status) = x ≡ Halts status
  Told x answer = q ≡ p

  pub told : (x : Reply) (answer : Replied B) → IsReply l p q old new x answer → Told x answer
  told Succeeds replied.GoesOn h = as_before h.0
  told (Equates made a b) replied.GoesOn h = unified h.0.0 h.0.1 h.0.2
  told (EquatesCopy a b) replied.GoesOn h = unified_copy h.0
  told Fails replied.Fails h = at_once
  told (Equates made a b) replied.Fails h = never_equal h.0
  told (EquatesCopy a b) replied.Fails h = never_copy h.0
  told (Raises error) (replied.Raises ball) h = (ap Raises (sym h.is), h.fits, h.unbound)
  told (Calls b) (replied.Calls place) h = (b, refl, h)
  told (CallsOnce b) (replied.CallsOnce place) h = (b, refl, h)
  told (Refutes b) (replied.Refutes place) h = (b, refl, h)
  told Repeats replied.Repeats h = (refl, h.0)
  told (Catches (Calls b) catcher recovery) replied.Catches h = (b, catcher, recovery, refl, h.0)
  told (Catches (Raises error) catcher recovery) (replied.RaisesInside ball) h = (catcher, recovery, ap (λ (y : Tree). Catches (Raises y) catcher recovery) (sym h.is), h.fits, h.unbound)
  told (Halts n) (replied.Halts status) h = ap Halts (sym h)
  told (Gathers template b (AsList result)) replied.Gathers h = (template, b, result, refl, h.0)
  told (Gathers template b (InGroups by)) (replied.Groups sorts) h = (template, b, by, refl, h.0, h.2)
  told (AsksWorld settles) (replied.AsksSettings row) h = h.0
  told (AsksWorld settles) (replied.AsksDatabase row) h = h.0
  told (AsksWorld settles) (replied.TakesApart row) h = h.0
  told (Writes bytes) (replied.Writes row) h = h.0
  told (Raises error) (replied.Writes row) h = h.0
  told x answer h = absurd h

-- nothing changed, so nothing was bound
pub unbound_same : {W : Type 0} {p q : Present W} → q ≡ p → IsUnbound p q
unbound_same {p = p} same = subst (λ (q : Present _). IsUnbound p q) (sym same) (record { words = record { stand = λ w h. h; terms = λ w h. refl }; substitution = refl; next = refl })

-- ---- of a goal that has replied

module _ {S L W M K P C N B O : Type 0} (g : Ghosts S W M) (l : lists.Ghosts L S K P C N B O W M) {e mid : Search S L W M K P C N B O} {w : W} {rest : P} {b : BuiltIn} {answer : Replied B} (has : HasReplied g l e mid w rest b answer) where
  abbrev p : Present W
  p = g.present e.store

  abbrev q : Present W
  q = g.present mid.store

  abbrev x : Reply
  x = reply b (meaning p w)

  -- what it is, where it came to this
  pub replied_as : (other : Replied B) → answer ≡ other → Told l p q e.lists mid.lists x other
  replied_as other is = subst (λ (a : Replied B). Told l p q e.lists mid.lists x a) is (told l p q e.lists mid.lists x answer has.replies)

  -- and of which built-in
  pub asks_as : (other : Replied B) → answer ≡ other → Told l p q e.lists mid.lists x other × Asks b other
  asks_as other is = (replied_as other is, subst (λ (a : Replied B). Asks b a) is has.asks)

-- the reply was made over the engine's own store and lists
module _ {S L W M K P C N B O : Type 0} (g : Ghosts S W M) (l : lists.Ghosts L S K P C N B O W M) where
  pub has_replied : ((x : L) → l.within x (l.whole x)) → ((x : L) (k : K) → l.within x k → l.below k (l.whole x))
      → ((p : Present W) (x : L) (j k : K) (i : P) (ms : List Member) → l.below j k → l.list p x j i ms → l.list p x k i ms)
      → ((p q : Present W) (x : L) (k : K) (i : P) (ms : List Member) → KeepsWords p q → l.list p x k i ms → l.list q x k i ms)
      → (e mid : Search S L W M K P C N B O) (goal : W) (rest : P) (b : BuiltIn) (answer : Replied B) (s : State) → Represents g l e s → IsGoalFirst g l e goal rest → e.steps ≢ 0
      → IsBuiltIn (meaning (g.present e.store) goal) b → mid ≡ record e { store = mid.store; lists = mid.lists; steps = e.steps - 1; words = mid.words }
      → KeepsMarks (g.stands e.store) (g.stands mid.store) → KeepsTexts (g.names e.store) (g.names mid.store) → standing.Keeps l e.lists mid.lists
      → Takes g e.store mid.store (reply_cells (reply b (meaning (g.present e.store) goal))) → IsReply l (g.present e.store) (g.present mid.store) e.lists mid.lists (reply b (meaning (g.present e.store) goal)) answer → Asks b answer
      → AreArguments (g.present e.store) mid.words.items (meaning (g.present e.store) goal) → HasReplied g l e mid goal rest b answer
  has_replied all top more words e mid goal rest b answer s r first some own same keeps texts grows cells replies asks arguments = record {
    took = record {
      first = first;
      more = some;
      is_own = own;
      same = same;
      keeps = keeps;
      texts = texts;
      grows = grows;
      cost = (let a = (first.at r.own r.engine).at in grows.costs (g.present e.store) (l.whole e.lists) rest a.behind tt (all e.lists) a.ahead.chain);
      pending = (let a = (first.at r.own r.engine).at in grows.pendings (g.present e.store) (l.whole e.lists) rest a.behind tt (all e.lists) a.ahead.chain);
      cells = cells;
      behind = λ ms same_words list. list_on l all top more words (g.present e.store) (g.present mid.store) e.lists mid.lists rest ms same_words grows list;
    };
    replies = replies;
    asks = asks;
    arguments = arguments;
  }
