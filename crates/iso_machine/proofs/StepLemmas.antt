-- The instruction that comes first, where it calls no goal.
use Rattle.std.proofs.Common.{◌≡◌, ◌≢◌, ℕ, List, Some, None, Option, Result, Ok, Err, inl, inr, refl, sym, ◌∙◌, ap, subst}
use Rattle.std.specs.Prelude.{IfOk, ◌⊎◌}
use Rattle.std.specs.Global.{Global}
use Rattle.std.specs.List.{slice_get}
use Rattle.std.specs.declared.rc.Rc.{Rc}
use Rattle.iso_model.specs.Search.Walker.{State}
use Rattle.iso_store_core.specs.declared.stores.Store.{Ghosts}
use Rattle.iso_compile.specs.declared.control.Mark.{Mark}
use Rattle.iso_instructions.specs.declared.instructions.Code.{Code}
use Rattle.iso_instructions.specs.declared.instructions.Goal as loaded
use Rattle.iso_instructions.specs.declared.instructions.Instruction.{Instruction}
use Rattle.iso_instructions.specs.declared.instructions.Instruction.TheVariants.{Call, Execute, Is, Compare, Proceed, Cut, GetLevel, TryElse, Jump}
use Rattle.iso_frames.specs.declared.frames.Rest.{Rest}
use Rattle.iso_frames.specs.declared.frames.Frame.{Frame}
use Rattle.iso_frames.specs.declared.frames.Work.TheVariants.{Clause}
use Rattle.iso_frames.specs.declared.frames.Next.TheVariants as next
use Rattle.iso_frames.specs.Running.{Stops}
use Rattle.iso_frames.specs.Frames.{StopsAt}
use Rattle.iso_environments.specs.Answering.{IsArithmetic, IsArithmeticThere}
use Rattle.iso_environments.specs.Putting.{IsCallThere}
use Rattle.iso_search_core.specs.declared.nows.Now.TheVariants as now
use Rattle.iso_search_core.specs.declared.lists.Lists as lists
use Rattle.iso_store_core.specs.declared.shapes.StoreFault.{StoreFault}
use Rattle.iso_search.specs.declared.calls.Next as called
use Rattle.iso_search.specs.declared.calls.Next.TheVariants as comes
use Rattle.iso_search.specs.declared.search.Search.{Search}
use Rattle.iso_search.specs.EngineStates.{Represents}
use Rattle.iso_search.specs.Nexts.{ComesNext, WentOrFull}
use Rattle.iso_search.proofs.EndLemmas.{next_is}
use Rattle.iso_machine.specs.Lists.{stack_of}
use Rattle.iso_machine.specs.Engines.{Engine, framed}
use Rattle.iso_machine.specs.declared.goal_places.Act.{Act}
use Rattle.iso_machine.specs.declared.goal_places.Act.TheVariants as act
use Rattle.iso_machine.specs.Instructions.{IsInstructionThere, IsStep, IsStepThere}
use Rattle.iso_machine.specs.Steps.{ActsThere, IsNoCall, IsOtherThere, IsNeitherThere}
use Rattle.iso_machine.proofs.Moves.Level.{instruction_there}

-- one that goes on is a step
step_of : (i : Instruction) → IsNoCall i → (IsArithmetic i → ⊥) → i ≢ Proceed → ((l : ℕ) → i ≢ Jump l) → IsStep i
step_of (Call g) other none ends jumps = absurd other
step_of (Execute g) other none ends jumps = absurd other
step_of (Is left steps) other none ends jumps = absurd (none tt)
step_of (Compare comparison steps) other none ends jumps = absurd (none tt)
step_of Proceed other none ends jumps = absurd (ends refl)
step_of (Cut mark) other none ends jumps = tt
step_of (GetLevel slot) other none ends jumps = tt
step_of (TryElse other_one) other none ends jumps = tt
step_of (Jump l) other none ends jumps = absurd (jumps l refl)

-- one that does none of the two is no arithmetic
pub no_arithmetic : (i : Instruction) → ((x : _) (y : _) → i ≢ Is x y) → ((x : _) (y : _) → i ≢ Compare x y)
    → IsArithmetic i → ⊥
no_arithmetic (Is left steps) sets compares is = sets left steps refl
no_arithmetic (Compare comparison steps) sets compares is = compares comparison steps refl
no_arithmetic i sets compares is = is

-- arithmetic calls no goal
calls_none : (i : Instruction) → IsArithmetic i → IsNoCall i
calls_none (Is left steps) is = tt
calls_none (Compare comparison steps) is = tt
calls_none i is = absurd is

-- the instruction there is arithmetic
pub computed_there : (frames : List Frame) (r : Rest) (i : Instruction) → IsInstructionThere frames r i
    → IsArithmetic i → IsArithmeticThere frames r
computed_there frames r i there is = record {
  frame = there.frame;
  code = there.code;
  level = there.level;
  clause = there.clause;
  arithmetic = (i, there.item, is);
}

-- where it does arithmetic, or does something else, it calls no goal
pub arithmetic_other : (frames : List Frame) (r : Rest) → IsArithmeticThere frames r → IsOtherThere frames r
arithmetic_other frames r h = record {
  instruction = (h.arithmetic).0;
  there = record {
    frame = h.frame;
    code = h.code;
    level = h.level;
    clause = h.clause;
    item = (h.arithmetic).1;
  };
  other = calls_none (h.arithmetic).0 (h.arithmetic).2;
}

neither_other : (frames : List Frame) (r : Rest) → IsNeitherThere frames r → IsOtherThere frames r
neither_other frames r h = record { instruction = h.instruction; there = h.there; other = h.other }

pub acts_other : (frames : List Frame) (r : Rest) (a : Act) → ActsThere frames r a → a ≢ act.Calls
    → ((mark : Mark) → a ≢ act.Cuts mark) → IsOtherThere frames r
acts_other frames r act.Calls h calls cuts = absurd (calls refl)
acts_other frames r act.Computes h calls cuts = arithmetic_other frames r h
acts_other frames r (act.Cuts mark) h calls cuts = absurd (cuts mark refl)
acts_other frames r act.Other h calls cuts = neither_other frames r h

-- one that calls no goal calls none
not_called : (i : Instruction) (found : Option Instruction) (x : loaded.Goal) → found ≡ Some i → IsNoCall i
    → (found ≡ Some (Call x)) ⊎ (found ≡ Some (Execute x)) → ⊥
not_called i found x is other (inl calls) =
    let both : Some i ≡ Some (Call x) = sym is ∙ calls in
    let same : i ≡ Call x = cc in
    subst IsNoCall same other
not_called i found x is other (inr executes) =
    let both : Some i ≡ Some (Execute x) = sym is ∙ executes in
    let same : i ≡ Execute x = cc in
    subst IsNoCall same other

not_both : (frames : List Frame) (r : Rest) → IsCallThere frames r → IsOtherThere frames r → ⊥
not_both frames r call h =
    let there = call.1 in
    not_called h.instruction (slice_get (there.code).value.body.items r.address) call.0
    (instruction_there frames r h.instruction there.frame there.code there.level there.clause h.there) h.other
    there.called

module _ {S W M : Type 0} (g : Ghosts S W M) (atom_word : ℕ → W) where
  -- where it comes first it is one that does something
  pub step_there : (e : Engine S W M) (r : Rest) → e.now ≡ now.Running (next.Code r) → (s : State)
      → Represents g (framed atom_word) e s → IsNeitherThere e.lists.frames.items r → IsStepThere e.lists.frames.items r
  step_there e r doing s is h =
      let t = h.there in
      let stops : StopsAt atom_word (stack_of e.lists) r =
      (next_is g (framed atom_word) e is.own (now.Running (next.Code r)) doing is.engine).0.1 in
      let whole : Some stops.frame ≡ Some t.frame = sym stops.at.is ∙ t.clause.at in
      let frames : stops.frame ≡ t.frame = cc in
      let works : Clause stops.code stops.level ≡ Clause t.code t.level =
      sym stops.work ∙ ap (λ (f : Frame). f.work) frames ∙ t.clause.work in
      let codes : stops.code ≡ t.code = cc in
      let on : Stops t.code.value r.address =
      subst (λ (c : Rc Code Global). Stops c.value r.address) codes stops.stops in
      record {
        instruction = h.instruction;
        step = step_of h.instruction h.other h.none (λ is. on.proceed (t.item ∙ ap Some is))
            (λ l is. on.jump l (t.item ∙ ap Some is));
        there = t;
      }

  -- so where it calls no goal and does no arithmetic, whatever it does
  pub step_left : (e : Engine S W M) (r : Rest) → e.now ≡ now.Running (next.Code r) → (s : State)
      → Represents g (framed atom_word) e s → IsOtherThere e.lists.frames.items r → (a : Act)
      → ActsThere e.lists.frames.items r a → a ≢ act.Computes → IsStepThere e.lists.frames.items r
  step_left e r doing s is other act.Calls acts none = absurd (not_both e.lists.frames.items r acts other)
  step_left e r doing s is other act.Computes acts none = absurd (none refl)
  step_left e r doing s is other (act.Cuts mark) acts none = record {
    instruction = Cut mark;
    step = tt;
    there = acts;
  }
  step_left e r doing s is other act.Other acts none = step_there e r doing s is acts

-- what an engine comes to that leaves nothing as it is doesn't depend on what is left to a step
pub by_any_step : {S L W M K P C N B O : Type 0} (g : Ghosts S W M) (l : lists.Ghosts L S K P C N B O W M)
    (Over : ℕ → State → Type 0) (These Others : L → N → Type 0) (s : State) (e : Search S L W M K P C N B O)
    (r : Result called.Next StoreFault) → IfOk r WentOrFull
    → IfOk r (λ n. ComesNext g l Over These n None s e) → IfOk r (λ n. ComesNext g l Over Others n None s e)
by_any_step g l Over These Others s e (Ok comes.Went) went h = h
by_any_step g l Over These Others s e (Ok comes.Full) went h = h
by_any_step g l Over These Others s e (Ok comes.Other) went h = absurd went
by_any_step g l Over These Others s e (Err fault) went h = tt
