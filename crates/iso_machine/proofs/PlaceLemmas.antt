-- The goal that is called next, read from the code of its clause and its environment.
use Rattle.std.proofs.Common.{◌≡◌, ◌≤◌, ◌<◌, ◌-◌, ℕ, List, length, take, drop, get_or, Option, Some, None, inl, inr, refl, sym, ap, ◌∙◌, subst, arith, Vec, Global}
use Rattle.std.specs.List.{slice_get}
use Rattle.std.proofs.lemmas.Option.{get_or_from_slice_get}
use Rattle.iso_model.specs.Search.Walker.{State, Member}
use Rattle.iso_store_core.specs.Presents.{Present}
use Rattle.iso_store_core.specs.declared.stores.Store.{Ghosts}
use Rattle.iso_prep.specs.declared.bodies.Node.{Node}
use Rattle.iso_instructions.specs.declared.instructions.Goal as instruction
use Rattle.iso_instructions.specs.declared.instructions.Code.{Code}
use Rattle.iso_instructions.specs.declared.instructions.Instruction.{Instruction}
use Rattle.iso_instructions.specs.declared.instructions.Instruction.TheVariants.{Call, Execute}
use Rattle.iso_frames.specs.declared.frames.Rest.{Rest}
use Rattle.iso_frames.specs.declared.frames.Frame.{Frame}
use Rattle.iso_frames.specs.Frames.{Chain}
use Rattle.iso_environments.specs.Stacks.{stack}
use Rattle.iso_environments.specs.Putting.{GoesBehind, IsCallThere, IsCalledAt, IsGoalThere}
use Rattle.iso_environments.proofs.PutLemmas.{IsRead, call_low, call_read, goal_read, words_low, words_within}
use Rattle.iso_machine.specs.declared.goal_places.GoalPlace.{GoalPlace}
use Rattle.iso_machine.specs.declared.goal_places.GoalPlace.TheVariants as standing
use Rattle.iso_search.specs.EngineStates.{Represents}
use Rattle.iso_machine.specs.Engines.{Engine, framed}
use Rattle.iso_machine.specs.GoalPlaces.{IsCodeAt, IsCodeThere, IsGoalAt, IsReadable}
use Rattle.iso_machine.specs.LastCalls.{IsLastFrame, with_frame}
use Rattle.iso_machine.specs.Lists.{stack_of}
use Rattle.iso_machine.proofs.Moves.Goal.{at_code}

-- the instruction calls the goal
goes_called : (code : List Instruction) (r : Rest) (behind : Option Rest) (g : instruction.Goal) (place : Option Rest)
    → GoesBehind code r behind g place → IsCalledAt code r.address g
goes_called code r behind g place (inl call) = inl call.0
goes_called code r behind g place (inr call) = inr call.0

-- the one goal of a clause is called by its frame, where it has one
one_there : {frames : List Frame} {r : Rest} {code : Code} {many : ℕ} {behind : Option Rest} {g : instruction.Goal}
    → IsLastFrame frames r code many behind g → IsGoalThere frames r g
one_there h = record {
  frame = h.frame;
  code = h.copy;
  level = None;
  clause = h.at;
  called =
      inr (ap (λ (c : Code). slice_get c.body.items _) h.same
      ∙ (ap (slice_get _) h.address ∙ h.called));
}

-- ---- the code that was read

module _ {S W M : Type 0} (e : Engine S W M) (frames : Vec Frame Global) (rest : Rest) where
  -- a goal is called there
  goal_there : (place : GoalPlace) → IsGoalAt e place frames rest → IsCallThere frames.items rest
  goal_there (standing.There r) at =
      subst (λ (s : Rest). IsCallThere frames.items s) (sym (at.1))
      (subst (λ (v : Vec Frame Global). IsCallThere v.items r) (sym (at.0)) at.3)
  goal_there (standing.Last clause behind) at = (at.goal, one_there at.last)

  pub next_readable : (place : GoalPlace) → IsGoalAt e place frames rest → IsReadable e.lists.frames.items e.db place
  next_readable (standing.There r) at = at.3
  next_readable (standing.Last clause behind) at = (at.value, at.stands)

  -- its clause has this code
  pub code_there : (place : GoalPlace) → IsGoalAt e place frames rest → (many : ℕ)
      → many ≡ length e.lists.words.items → (code : Code) (here : Rest) (top : ℕ) (behind : Option Rest)
      → IsCodeAt e.lists.frames.items many e.db place code here top behind
      → (here ≡ rest) × IsCodeThere frames.items rest code top behind
  code_there (standing.There r) at many is code here top behind read = (
    read.0 ∙ sym (at.1),
    subst (λ (s : Rest). IsCodeThere frames.items s code top behind) (sym (at.1))
        (subst (λ (v : Vec Frame Global). IsCodeThere v.items r code top behind) (sym (at.0)) read.1),
  )
  code_there (standing.Last clause last) at many is code here top behind read =
      let l = at.last in (
        read.0 ∙ sym at.place,
        record {
          frame = l.frame;
          copy = l.copy;
          level = None;
          at = l.at;
          same = l.same ∙ sym (read.3 at.value at.stands);
          top_is = l.top ∙ sym (read.1 ∙ is);
          behind_is = l.behind_is ∙ sym read.2;
        },
      )

-- the list behind the one goal of a clause is that before which it was entered
abbrev pub EndsAt : GoalPlace → Option Rest → Type 0
EndsAt (standing.There r) place = Unit {0}
EndsAt (standing.Last clause behind) place = place ≡ behind

ends_at : {S W M : Type 0} (e : Engine S W M) (frames : Vec Frame Global) (rest : Rest) (at : GoalPlace)
    → IsGoalAt e at frames rest → (many : ℕ) (code : Code) (here : Rest) (top : ℕ) (behind : Option Rest)
    → IsCodeAt e.lists.frames.items many e.db at code here top behind → (goal : instruction.Goal) (place : Option Rest)
    → GoesBehind code.body.items here behind goal place → EndsAt at place
ends_at e frames rest (standing.There r) at many code here top behind read goal place goes = tt
ends_at e frames rest (standing.Last clause last) at many code here top behind read goal place (inl call) =
    absurd (
    let first : here.address ≡ 1 = ap (λ (r : Rest). r.address) read.0 in
    let called = at.last.called in
    let kept : slice_get code.body.items here.address ≡ Some (Execute at.goal) =
    ap (slice_get code.body.items) first
    ∙ (ap (λ (c : Code). slice_get c.body.items 1) (read.3 at.value at.stands) ∙ called) in
    let other : Some (Call goal) ≡ Some (Execute at.goal) = sym call.0 ∙ kept in
    cc)
ends_at e frames rest (standing.Last clause last) at many code here top behind read goal place (inr call) =
    call.1 ∙ read.2

-- ---- the goal that comes first

module _ {W : Type 0} (atom_word : ℕ → W) {p : Present W} {nodes : List (Node W)} {frames : List Frame} {words : List W}
    {r : Rest} {all : List Member} (list : Chain atom_word p (stack nodes frames words) (Some r) all) {code : Code}
    {top : ℕ} {behind : Option Rest} (t : IsCodeThere frames r code top behind) where
  frame_is : t.frame ≡ get_or frames r.frame t.frame
  frame_is = sym (get_or_from_slice_get frames r.frame t.frame t.frame t.at.at)

  -- there are as many words as its clause has variables
  code_low : code.variables ≤ top
  code_low =
      let low =
      words_low atom_word list t.frame t.copy t.level code frame_is t.at.work (sym t.same) code (sym t.same) in
      let is = t.top_is in
      omega (arith, low, is)

  code_within : top ≤ length words
  code_within =
      let within = words_within atom_word list t.frame t.copy t.level code frame_is t.at.work (sym t.same) in
      let is = t.top_is in
      omega (arith, within, is)

  code_called : (some : IsCallThere frames r) → IsCalledAt code.body.items r.address some.0
  code_called some = call_read atom_word list t.frame t.copy t.level code frame_is t.at.work (sym t.same) some

  code_above : (g : instruction.Goal) → slice_get code.body.items r.address ≡ Some (Call g) → 0 < r.address
  code_above g call = call_low atom_word list t.frame t.copy t.level code frame_is t.at.work (sym t.same) g call

  code_read : (g : instruction.Goal) (place : Option Rest) → GoesBehind code.body.items r behind g place
      → IsRead atom_word p nodes frames words r t.frame t.copy t.level g place
      (take (top - (top - code.variables)) (drop (top - code.variables) words)) all
  code_read g place goes =
      subst (λ (n : ℕ). IsRead atom_word p nodes frames words r t.frame t.copy t.level g place
      (take (n - (n - code.variables)) (drop (n - code.variables) words)) all) t.top_is
      (goal_read atom_word list t.frame t.copy t.level code frame_is t.at.work (sym t.same) code (sym t.same) g place
      (subst (λ (b : Option Rest). GoesBehind code.body.items r b g place) (sym t.behind_is) goes))

module _ {S W M : Type 0} (g : Ghosts S W M) (atom_word : ℕ → W) (e : Engine S W M) (frames : Vec Frame Global)
    (rest : Rest) (at : GoalPlace) (is : IsGoalAt e at frames rest) (many : ℕ)
    (count : many ≡ length e.lists.words.items) (code : Code) (here : Rest) (top : ℕ) (behind : Option Rest)
    (read : IsCodeAt e.lists.frames.items many e.db at code here top behind) where
  abbrev pub there : IsCodeThere frames.items rest code top behind
  there = (code_there e frames rest at is many count code here top behind read).1

  same : here ≡ rest
  same = (code_there e frames rest at is many count code here top behind read).0

  -- the goal of the instruction is there
  module _ (goal : instruction.Goal) (place : Option Rest) (goes : GoesBehind code.body.items here behind goal place)
    where
      next_goes : GoesBehind code.body.items rest behind goal place
      next_goes = subst (λ (r : Rest). GoesBehind code.body.items r behind goal place) same goes

      pub next_there : IsGoalThere frames.items rest goal
      next_there = record {
        frame = there.frame;
        code = there.copy;
        level = there.level;
        clause = there.at;
        called =
            subst (λ (c : Code). IsCalledAt c.body.items rest.address goal) (sym there.same)
            (goes_called code.body.items rest behind goal place next_goes);
      }

      pub next_ends : EndsAt at place
      next_ends = ends_at e frames rest at is many code here top behind read goal place goes

      -- it comes first of each list that begins there
      pub next_read : (all : List Member)
          → Chain atom_word (g.present e.store) (stack_of (with_frame e frames rest).lists) (Some rest) all
          → IsRead atom_word (g.present e.store) e.lists.nodes.items frames.items e.lists.words.items rest there.frame
          there.copy there.level goal place
          (take (top - (top - code.variables)) (drop (top - code.variables) e.lists.words.items)) all
      next_read all list = code_read atom_word list there goal place next_goes

  module _ (s : State) (h : Represents g (framed atom_word) (with_frame e frames rest) s) where
    abbrev list : Chain atom_word (g.present e.store) (stack_of (with_frame e frames rest).lists) (Some rest)
        (h.own).list
    list = at_code g atom_word (with_frame e frames rest) rest refl h

    -- there are as many words as the clause has variables
    pub next_low : code.variables ≤ top
    next_low = code_low atom_word list there

    pub next_within : top ≤ length e.lists.words.items
    next_within = code_within atom_word list there

    -- the instruction calls a goal
    pub next_called : (x : instruction.Goal) × IsCalledAt code.body.items here.address x
    next_called =
        let some = goal_there e frames rest at is in (
          some.0,
          subst (λ (r : Rest). IsCalledAt code.body.items r.address some.0) (sym same)
              (code_called atom_word list there some),
        )

    pub next_above : (x : instruction.Goal) → slice_get code.body.items here.address ≡ Some (Call x)
        → 0 < here.address
    next_above x call =
        subst (λ (r : Rest). 0 < r.address) (sym same)
        (code_above atom_word list there x
        (subst (λ (r : Rest). slice_get code.body.items r.address ≡ Some (Call x)) same call))
