-- Goals that write: their bytes are an event of the search, or it goes on.
use Rattle.std.proofs.Common.{◌≡◌, ◌≢◌, ℕ, List, [], ◌∷◌, length, true, refl, ap, sym, ◌∙◌, subst, arith, Result, Ok, Err, Vec, Global}
use Rattle.iso_model.specs.Terms.Arguments.{argument}
use Rattle.iso_model.specs.Terms.Trees.{arities_fit, Tree}
use Rattle.iso_model.specs.declared.pauses.Ball.{Ball}
use Rattle.iso_lib_core.specs.declared.outcomes.Fault.{Fault}
use Rattle.iso_store_core.specs.declared.stores.Store.{Ghosts}
use Rattle.iso_search.specs.EngineStates.{IsBehind, IsEngine, Moves, phase_of, Represents, StandsFor}
use Rattle.iso_store_core.specs.Presents.{meaning}
use Rattle.iso_search.specs.declared.search.Move.{Move}
use Rattle.iso_search_core.specs.declared.nows.Now.{Now}
use Rattle.iso_ops.specs.Operators.{Operator}
use Rattle.iso_model.specs.declared.kinds.Output.{Output}
use Rattle.iso_search.specs.declared.search.Search.{Search}
use Rattle.iso_model.specs.Terms.TermOf.{term_of}
use Rattle.iso_search.specs.Catches.{throwing}
use Rattle.iso_model.specs.Search.AtomTexts.{Characters, element_code}
use Rattle.iso_model.specs.Search.BuiltIns.{Reply, Raises, Writes}
use Rattle.iso_model.specs.Search.Outputs.{put_code, put_char_key, output_reply}
use Rattle.iso_model.specs.Search.Walker.{State, Member, Outcome, Goes, Gives, Wrote, charged, written, replied, step}
use Rattle.iso_model.specs.Search.Engines.{Midway, IsAwake}
use Rattle.iso_model.proofs.Search.RunLaws.Likeness.{comes_alike}
use Rattle.iso_model.specs.declared.kinds.Output.TheVariants.{PutChar, NewLine}
use Rattle.iso_model.specs.declared.pauses.Pause.TheVariants as pause
use Rattle.iso_lib_core.specs.declared.outcomes.Fault.TheVariants as fault
use Rattle.iso_text.specs.Written.{IsWritten}
use Rattle.iso_search_core.specs.declared.lists.Lists as lists
use Rattle.iso_search_core.specs.declared.nows.Now.TheVariants as now
use Rattle.iso_search.specs.declared.search.Move.TheVariants as move
use Rattle.iso_search.specs.Outputs.{WritesAt, HasWritten}
use Rattle.iso_search.proofs.AheadLemmas.{engine_place}
use Rattle.iso_search.proofs.Moves.Engine.{represents_stands}
use Rattle.iso_search.proofs.Moves.Search.{goes}

-- ---- what goals that write come to

-- the row's bytes by these operators
pub written_is : (row : Output) (t : Tree) (table : List Operator) (bytes : Vec ℕ Global) → IsWritten (output_reply row t) table (Ok bytes) → (text : List Operator → List ℕ) × (output_reply row t ≡ Writes text) × (bytes.items ≡ text table)
written_is PutChar t table bytes h = by_code (element_code Characters (argument 0 t) put_char_key) h where
  by_code : (code : Result ℕ Tree) → IsWritten (put_code code) table (Ok bytes) → (text : List Operator → List ℕ) × (put_code code ≡ Writes text) × (bytes.items ≡ text table)
  by_code (Ok code) i = (_, refl, i)
  by_code (Err error) i = absurd i
written_is row t table bytes h = (_, refl, h)

-- or its error
raised_by : (row : Output) (t : Tree) (table : List Operator) (ball : Ball) → IsWritten (output_reply row t) table (Err (fault.Raise ball)) → (output_reply row t ≡ Raises (term_of ball.term.value)) × (arities_fit (term_of ball.term.value) ≡ true)
raised_by PutChar t table ball h = by_code (element_code Characters (argument 0 t) put_char_key) h where
  by_code : (code : Result ℕ Tree) → IsWritten (put_code code) table (Err (fault.Raise ball)) → (put_code code ≡ Raises (term_of ball.term.value)) × (arities_fit (term_of ball.term.value) ≡ true)
  by_code (Ok code) i = absurd i
  by_code (Err error) i = (ap Raises (sym i.0), i.1)
raised_by x t table ball h = absurd h

pub raised_is : (row : Output) (t : Tree) (table : List Operator) (f : Fault) → IsWritten (output_reply row t) table (Err f) → (ball : Ball) → f ≡ fault.Raise ball
    → (output_reply row t ≡ Raises (term_of ball.term.value)) × (arities_fit (term_of ball.term.value) ≡ true)
raised_is row t table f h ball is = raised_by row t table ball (subst (λ (x : Fault). IsWritten (output_reply row t) table (Err x)) is h)

-- a step that writes, with the steps that are left
text_steps : (text : List ℕ) (rest : List Member) (n : ℕ) (s : State) → charged n (written text rest s) ≡ written text rest (record s { list = rest; steps = n })
text_steps [] rest n s = refl
text_steps (b ∷ bytes) rest n s = refl

pub output_steps : (row : Output) (t : Tree) (rest : List Member) (n : ℕ) (s : State) → charged n (replied (output_reply row t) rest s) ≡ replied (output_reply row t) rest (record s { list = rest; steps = n })
output_steps PutChar t rest n s = by_code (element_code Characters (argument 0 t) put_char_key) where
  by_code : (code : Result ℕ Tree) → charged n (replied (put_code code) rest s) ≡ replied (put_code code) rest (record s { list = rest; steps = n })
  by_code (Ok code) = text_steps _ rest n s
  by_code (Err error) = refl
output_steps NewLine t rest n s = refl
output_steps row t rest n s = text_steps _ rest n s

-- no bytes are no event
written_none : (text : List ℕ) (s : State) → length text ≡ 0 → written text s.list s ≡ Goes s
written_none [] s h = refl
written_none (b ∷ bytes) s h = absurd (omega (arith, h))

written_some : (text : List ℕ) (s : State) → length text ≢ 0 → written text s.list s ≡ Gives (Wrote text) s
written_some [] s h = absurd (h refl)
written_some (b ∷ bytes) s h = refl

module _ {S L W M K P C N B O : Type 0} (g : Ghosts S W M) (l : lists.Ghosts L S K P C N B O W M) where
  -- ---- the engine's move

  -- within a list, or where nothing is left of it
  midway_behind : (e : Search S L W M K P C N B O) (place : P) (ms : List Member) (n : Now N P) → IsBehind l (g.present e.store) e.lists place n ms → phase_of n ≡ Midway
  midway_behind e place ms now.Answering is = refl
  midway_behind e place ms (now.Running first) is = refl
  midway_behind e place ms n is = absurd is

  module _ (e : Search S L W M K P C N B O) (row : Output) (goal : W) (s : State) (place : P) (h : WritesAt g l e row goal s place) where
    abbrev t : Tree
    t = meaning (g.present e.store) goal

    outcome : (bytes : Vec ℕ Global) → IsWritten (output_reply row t) e.ops (Ok bytes) → replied (output_reply row t) s.list s ≡ written bytes.items s.list s
    outcome bytes is =
        let text = written_is row t e.ops bytes is in
        ap (λ (x : Reply). replied x s.list s) text.1 ∙ ap (λ (x : List ℕ). written x s.list s) (ap text.0 (sym h.ahead.world.operators_are) ∙ sym text.2)

    module _ (next : Now N P) (comes : IsBehind l (g.present e.store) e.lists place next s.list) (bytes : Vec ℕ Global) (is : IsWritten (output_reply row t) e.ops (Ok bytes)) where
      pub wrote_none : length bytes.items ≡ 0 → IsAwake (phase_of next) → HasWritten g l move.Goes (record e { now = next }) (replied (output_reply row t) s.list s)
      wrote_none none awake = (s, outcome bytes is ∙ written_none bytes.items s none, engine_place g l e s place next h.ahead comes, awake)

      pub wrote_some : length bytes.items ≢ 0 → HasWritten g l (move.Pauses (pause.Output bytes)) (record e { now = next }) (replied (output_reply row t) s.list s)
      wrote_some some = (bytes, s, refl, outcome bytes is ∙ written_some bytes.items s some, engine_place g l e s place next h.ahead comes, midway_behind e place s.list next comes)

    pub raised_now : (new : Search S L W M K P C N B O) (ball : Ball) → output_reply row t ≡ Raises (term_of ball.term.value) → IsEngine g l new (throwing (term_of ball.term.value) s) → IsAwake (phase_of new.now)
        → HasWritten g l move.Goes new (replied (output_reply row t) s.list s)
    raised_now new ball is engine awake = (throwing (term_of ball.term.value) s, ap (λ (x : Reply). replied x s.list s) is, engine, awake)

  -- what was written is the walker's event
  pub wrote : (e new : Search S L W M K P C N B O) (s : State) (r : Represents g l e s) (m : Move) (o : Outcome) → step r.own ≡ o → HasWritten g l m new o → Moves g l m s new
  wrote e new s r move.Goes o h was = goes g l e new s r was.0 (h ∙ was.1) was.2 was.3
  wrote e new s r (move.Pauses p) o h was =
      rw was.2 (
        comes_alike r.own was.1 s (Wrote (was.0).items) (StandsFor g l new) (h ∙ was.3)
            (λ v k. represents_stands g l new.now new v (record { own = was.1; engine = was.4; same = k })) r.same,
        was.5,
      )
