-- A procedure is called: the clauses behind the first are kept as a choice.
use Rattle.std.proofs.Common.{◌≡◌, ℕ, List, [], ◌∷◌, refl, subst, sym, Vec, Global}
use Rattle.iso_atoms.specs.Texts.{KeepsTexts}
use Rattle.iso_model.specs.Terms.Trees.{Tree}
use Rattle.iso_model.specs.Search.Databases as databases
use Rattle.iso_model.specs.Search.Walker.{State, Member, Clauses, with_others}
use Rattle.iso_store_core.specs.Presents.{Present, KeepsMarks}
use Rattle.iso_store_core.specs.declared.stores.Store.{Ghosts}
use Rattle.iso_db.specs.declared.keyed.KeyedView.{KeyedView}
use Rattle.iso_search_core.specs.Own.{own_of}
use Rattle.iso_program.specs.Leaving.{AreLeft}
use Rattle.iso_search_core.specs.declared.lists.Lists as lists
use Rattle.iso_search_core.specs.declared.choices.Attempt.{Attempt}
use Rattle.iso_search_core.specs.declared.choices.Choice as kept
use Rattle.iso_search_core.specs.declared.choices.Left.TheVariants as left
use Rattle.iso_search_core.specs.Standing.{GainsChoice}
use Rattle.iso_search.specs.declared.search.Search.{Search}
use Rattle.iso_search.specs.EngineStates.{Calls}
use Rattle.iso_search.proofs.AheadLemmas.{ahead_left}
use Rattle.iso_search.proofs.WorldLemmas.{left_on}

module _ {S L W M K P C N B O : Type 0} (g : Ghosts S W M) (l : lists.Ghosts L S K P C N B O W M) where
  -- no clause behind the attempt's
  pub calls_last : (e : Search S L W M K P C N B O) (attempt : Attempt C) (rest : P) (s : State) (call : Tree) (c : databases.Clause) (cs : List databases.Clause) (behind : List Member)
      → Calls g l e attempt rest s call c cs behind → cs ≡ [] → Calls g l e attempt rest (with_others call cs behind s) call c cs behind
  calls_last e attempt rest s call c [] behind t many = t
  calls_last e attempt rest s call c (d ∷ cs) behind t many = absurd (cc many)

  pub calls_later : (e : Search S L W M K P C N B O) (attempt : Attempt C) (rest : P) (s : State) (call : Tree) (c : databases.Clause) (cs : List databases.Clause) (behind : List Member) (store : S) (choices : Vec (kept.Choice W M K P C) Global) (clause : ℕ) (later : KeyedView)
      → l.within e.lists (l.whole e.lists) → ((k : K) → l.within e.lists k → l.below k (l.whole e.lists))
      → Calls g l e attempt rest s call c cs behind → AreLeft (own_of l) (g.names e.store) e.db clause later cs → g.present store ≡ g.present e.store → KeepsMarks (g.stands e.store) (g.stands store) → KeepsTexts (g.names e.store) (g.names store)
      → GainsChoice (g.stands e.store) (g.stands store) g.older (g.present e.store) (l.whole e.lists) rest (left.Clauses (record attempt { clause = clause; later = later })) e.choices.items choices.items
      → Calls g l (record e { store = store; choices = choices }) attempt rest (with_others call cs behind s) call c cs behind
  calls_later e attempt rest s call c [] behind store choices clause later all top t next same keeps texts gains = absurd (cc next.is)
  calls_later e attempt rest s call c (d ∷ cs) behind store choices clause later all top t next same keeps texts gains = record {
    ahead = ahead_left g l e (record s { list = behind }) rest store choices (left.Clauses (record attempt { clause = clause; later = later })) (Clauses call (d ∷ cs)) all top t.ahead
        (record { call = call; clauses = d ∷ cs; is_for = t.is_for; left = refl; are = next; enter = t.enter.1 }) t.space same keeps texts gains;
    space = t.space;
    is_for = subst (λ (p : Present W). l.call p e.lists (l.whole e.lists) attempt.call call) (sym same) t.is_for;
    clauses = left_on l texts {d = e.db} attempt.clause attempt.later (c ∷ d ∷ cs) t.clauses;
    enter = t.enter;
  }
