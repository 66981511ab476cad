-- The moves at instructions that call no goal.
use Rattle.std.proofs.Common.{◌≡◌, ℕ, ◌≤◌, ◌<◌, ◌-◌, List, ◌∷◌, ◌++◌, Option, Some, ◌⊎◌, inl, inr, refl, sym, ap, ◌∙◌, subst, arith, Global}
use Rattle.std.specs.List.{slice_get}
use Rattle.std.specs.declared.rc.Rc.{Rc}
use Rattle.std.proofs.lemmas.Option.{slice_get_within}
use Rattle.std.proofs.Math.Nat.{le-max_left, le-max_right}
use Rattle.iso_model.specs.Search.Bodies.{Cut, Or}
use Rattle.iso_model.specs.Search.Runs.{Quiet, here}
use Rattle.iso_model.specs.Search.Walker.{State, Member, Goal, CutTo, AsIs, Goes, pushed, cut_back, step}
use Rattle.iso_model.specs.Search.RunLaws.Sameness.{open_list}
use Rattle.iso_model.proofs.Search.RunLaws.Opening.{opened, begins_before}
use Rattle.iso_model.proofs.Search.RunLaws.Likeness.{Alike, onward_alike, opened_alike}
use Rattle.iso_model.proofs.Search.RunLaws.Quiets.{quiet_trans}
use Rattle.iso_store_core.specs.declared.stores.Store.{Ghosts}
use Rattle.iso_compile.specs.Control.{height}
use Rattle.iso_compile.specs.declared.control.Mark.{Mark}
use Rattle.iso_instructions.specs.declared.instructions.Code.{Code}
use Rattle.iso_instructions.specs.declared.instructions.Instruction.{Instruction}
use Rattle.iso_instructions.specs.declared.instructions.Instruction.TheVariants as instruction
use Rattle.iso_search_core.specs.declared.nows.Now.TheVariants as now
use Rattle.iso_search_core.specs.Costs.{now_cost, now_pending}
use Rattle.iso_search_core.proofs.FittingLemmas.{fits_fewer}
use Rattle.iso_search_core.proofs.StandingLemmas.{keeps_none}
use Rattle.iso_frames.specs.declared.frames.Rest.{Rest}
use Rattle.iso_frames.specs.declared.frames.Next.{Next}
use Rattle.iso_frames.specs.declared.frames.Next.TheVariants as next
use Rattle.iso_frames.specs.declared.frames.Level.{Level}
use Rattle.iso_frames.specs.declared.frames.Frame.{Frame}
use Rattle.iso_frames.specs.Running.{Left, Stops}
use Rattle.iso_frames.specs.Frames.{Levels, environment}
use Rattle.iso_frames.specs.Costs.{first_cost, first_pending, cells_from}
use Rattle.iso_frames.proofs.LeftLemmas.{LeftActs, CutLeft, TryLeft, left_acts}
use Rattle.iso_frames.proofs.ChainLemmas.{chain_clause}
use Rattle.iso_frames.proofs.CodeCosts.{cells_on, cells_try, cost_two}
use Rattle.iso_search.specs.EngineStates.{IsAhead, IsEngine, Represents}
use Rattle.iso_search.proofs.AheadLemmas.{ahead_grown}
use Rattle.iso_search.proofs.EndLemmas.{next_is}
use Rattle.iso_search.proofs.SearchSteps.{step_is}
use Rattle.iso_machine.specs.declared.framed.Framed.{Framed}
use Rattle.iso_machine.specs.Lists.{KeepsFrames, cost_at, pending_at, stack_of}
use Rattle.iso_machine.specs.Engines.{Engine, framed}
use Rattle.iso_machine.specs.Instructions.{IsInstructionThere, IsStep, Splits, IsSplit, at_address}
use Rattle.iso_machine.specs.Wholes.{whole_chain, whole_list}
use Rattle.iso_machine.proofs.BeyondLemmas.{goal_runs}
use Rattle.iso_machine.proofs.InstructionLemmas.{IsFrame, clause_frame, address_list, address_pending}

-- ---- the instruction there

-- it does something
pub stops_there : (code : Code) (a : ℕ) (i : Instruction) → IsStep i → slice_get code.body.items a ≡ Some i
    → Stops code a
stops_there code a i step there = record {
  inside = slice_get_within code.body.items a i there;
  proceed = λ is. (let same : i ≡ instruction.Proceed = cc (sym there ∙ is) in subst IsStep same step);
  jump = λ l is. (let same : i ≡ instruction.Jump l = cc (sym there ∙ is) in subst IsStep same step);
}

module _ {S W M : Type 0} (g : Ghosts S W M) (atom_word : ℕ → W) where
  -- the engine, in this state, goes on with its list at the code there
  pub code_ahead : (e : Engine S W M) (s : State) (r : Rest) → e.now ≡ now.Running (next.Code r)
      → IsEngine g (framed atom_word) e s → IsAhead g (framed atom_word) e s (Some r)
  code_ahead e s r doing is =
      let first = next_is g (framed atom_word) e s (now.Running (next.Code r)) doing is in
      let pending = ap (now_pending (λ (n : Next W). first_pending e.lists.frames.items n)) doing in
      record {
        world = is.world;
        steps = is.steps;
        base = is.base;
        choices = is.choices;
        room = is.room;
        fits = fits_fewer g (g.present e.store) s {few = pending_at e.lists (Some r)} (omega (arith, pending)) is.fits;
        goes = first.1;
        chain = whole_list atom_word e.lists first.0.0;
      }

  -- The engine, in this state, has its list from this instruction on: what is left of the frame's clause, and then the
  -- members behind it.
  pub record AtInstruction (e : Engine S W M) (s : State) (r : Rest) (i : Instruction) (f : Frame)
      (code : Rc Code Global) (level : Option Level) : Type 0 where
    pub kept : ℕ → ℕ
    pub ms : List Member
    pub behind : List Member
    pub list : s.list ≡ ms ++ behind
    pub frame : IsFrame atom_word (g.present e.store) (stack_of e.lists) r.frame f code level kept behind
    pub acts : LeftActs atom_word (g.present e.store) code.value
        (environment e.lists.words.items f.top code.value) f.height kept r.address ms i

  pub at_instruction : (e : Engine S W M) (s : State) (r : Rest) (i : Instruction)
      (there : IsInstructionThere e.lists.frames.items r i) → IsStep i → IsAhead g (framed atom_word) e s (Some r)
      → AtInstruction e s r i there.frame there.code there.level
  at_instruction e s r i there step ahead =
      let p = g.present e.store in
      let list = whole_chain atom_word e.lists ahead.chain in
      let h = chain_clause atom_word there.clause.at there.code there.level there.clause.work list in
      record {
        kept = h.kept;
        ms = h.ms;
        behind = h.behind;
        list = h.is;
        frame = clause_frame atom_word p (stack_of e.lists) r there.frame there.code there.level there.clause list h;
        acts = left_acts atom_word p (there.code).value
            (environment e.lists.words.items (there.frame).top (there.code).value) (there.frame).height h.left
            (stops_there (there.code).value r.address i step there.item) i there.item;
      }

  -- a list that begins at a frame of more lists, where no more cells are still to be taken
  pub frame_ahead : (e : Engine S W M) (s : State) (r : Rest) (more : Framed S W M)
      → IsAhead g (framed atom_word) e s (Some r) → KeepsFrames atom_word (λ j. Unit {0}) e.lists more
      → (i : ℕ) (f : Frame) (code : Rc Code Global) (level : Option Level) (kept : ℕ → ℕ) (behind : List Member)
      → IsFrame atom_word (g.present e.store) (stack_of more) i f code level kept behind → (a : ℕ) (ms : List Member)
      → Left atom_word (g.present e.store) code.value (environment more.words.items f.top code.value) f.height kept a ms
      → pending_at more (Some (record { frame = i; address = a })) ≤ pending_at e.lists (Some r)
      → IsAhead g (framed atom_word) (record e { lists = more }) (record s { list = ms ++ behind })
      (Some (record { frame = i; address = a }))
  frame_ahead e s r more ahead keeps i f code level kept behind frame a ms left fewer =
      let place : Rest = record { frame = i; address = a } in
      ahead_grown g (framed atom_word) e s (Some r) (Some place) more (ms ++ behind) ahead keeps
      (whole_list atom_word more (address_list atom_word (g.present e.store) (stack_of more) frame a ms left)) fewer

  -- so at another address of the same frame
  pub code_on : (e : Engine S W M) (s : State) (r : Rest) (i : Instruction) (f : Frame) (code : Rc Code Global)
      (level : Option Level) → IsAhead g (framed atom_word) e s (Some r)
      → (at : AtInstruction e s r i f code level) (a : ℕ) (ms : List Member)
      → Left atom_word (g.present e.store) code.value (environment e.lists.words.items f.top code.value) f.height
      at.kept a ms → cells_from code.value a ≤ cells_from code.value r.address
      → IsAhead g (framed atom_word) e (record s { list = ms ++ at.behind }) (Some (at_address r a))
  code_on e s r i f code level ahead at a ms left fewer =
      let p = g.present e.store in
      let k = stack_of e.lists in
      let one = address_pending atom_word p k at.frame a in
      let other = address_pending atom_word p k at.frame r.address in
      frame_ahead e s r e.lists ahead (keeps_none (framed atom_word) e.lists) r.frame f code level at.kept at.behind
      at.frame a ms left (omega (arith, one, other, fewer))

  -- ---- a cut

  -- The engine, in this state, cuts back to the mark, and goes on at the address below.
  pub record CutsThere (e : Engine S W M) (s : State) (r : Rest) (f : Frame) (level : Option Level) (mark : Mark)
      : Type 0 where
    pub kept : ℕ → ℕ
    pub levels : Levels e.lists.frames.items r.frame level kept
    pub behind : List Member
    pub is : step (opened s) ≡ Goes (cut_back (height f.height kept mark) behind (opened s))
    pub ahead : IsAhead g (framed atom_word) e (record s { list = behind }) (Some (at_address r (r.address - 1)))
    pub some : 0 < r.address

  pub cut_there : (e : Engine S W M) (s : State) (r : Rest) (mark : Mark)
      (there : IsInstructionThere e.lists.frames.items r (instruction.Cut mark))
      → IsAhead g (framed atom_word) e s (Some r) → CutsThere e s r there.frame there.level mark
  cut_there e s r mark there ahead =
      let f = there.frame in
      let code = there.code in
      let at = at_instruction e s r (instruction.Cut mark) there tt ahead in
      let cut : CutLeft atom_word (g.present e.store) code.value
      (environment e.lists.words.items f.top code.value) f.height at.kept r.address at.ms mark = at.acts in
      let below = cut.below in
      let address : r.address - 1 ≡ below = (let is = cut.is in omega (arith, is)) in
      let item = subst (λ (n : ℕ). slice_get code.value.body.items n ≡ Some (instruction.Cut mark)) cut.is there.item in
      let cells = cells_on code.value below (instruction.Cut mark) item (λ cells. refl) in
      let here = ap (cells_from code.value) cut.is in
      let on = code_on e s r (instruction.Cut mark) f code there.level ahead at below cut.behind cut.left
      (omega (arith, cells, here)) in
      record {
        kept = at.kept;
        levels = at.frame.levels;
        behind = cut.behind ++ at.behind;
        is = steps at.ms at.behind (height f.height at.kept mark) cut.behind at.list cut.are;
        ahead = subst (λ (n : ℕ). IsAhead g (framed atom_word) e (record s { list = cut.behind ++ at.behind })
            (Some (at_address r n))) (sym address) on;
        some = (let is = cut.is in omega (arith, is));
      }
    where
      steps : (ms behind : List Member) (n : ℕ) (rest : List Member) → s.list ≡ ms ++ behind
          → (open_list ms ≡ Goal Cut n ∷ rest) ⊎ (open_list ms ≡ CutTo n ∷ rest)
          → step (opened s) ≡ Goes (cut_back n (rest ++ behind) (opened s))
      steps ms behind n rest list (inl is) =
          step_is (opened s) (Goal Cut n ∷ rest ++ behind)
          (ap open_list list ∙ begins_before ms (Goal Cut n) rest behind is)
      steps ms behind n rest list (inr is) =
          step_is (opened s) (CutTo n ∷ rest ++ behind)
          (ap open_list list ∙ begins_before ms (CutTo n) rest behind is)

  -- ---- a disjunction

  -- from a state that is alike one to which the search comes
  pub try_splits : (e : Engine S W M) (s o t : State) (r : Rest) (other : ℕ)
      (there : IsInstructionThere e.lists.frames.items r (instruction.TryElse other))
      → IsAhead g (framed atom_word) e o (Some r) → Quiet s t → Alike o t
      → Splits g atom_word e s (at_address r (r.address - 1)) (at_address r other)
  try_splits e s o t r other there ahead quiet alike =
      let f = there.frame in
      let code = there.code in
      let at = at_instruction e o r (instruction.TryElse other) there tt ahead in
      let try : TryLeft atom_word (g.present e.store) code.value
      (environment e.lists.words.items f.top code.value) f.height at.kept r.address at.ms other = at.acts in
      let below = try.below in
      let address : r.address - 1 ≡ below = (let is = try.is in omega (arith, is)) in
      let item = subst (λ (n : ℕ). slice_get code.value.body.items n ≡ Some (instruction.TryElse other)) try.is
      there.item in
      let cells = cells_try code.value below other item try.low in
      let here = ap (cells_from code.value) try.is in
      let left = le-max_left (cells_from code.value below) (cells_from code.value other) in
      let right = le-max_right (cells_from code.value below) (cells_from code.value other) in
      let rest = try.behind ++ at.behind in
      let list = ap open_list at.list
      ∙ begins_before at.ms (Goal (Or try.first try.other) try.mark) try.behind at.behind try.are in
      let v : State = record (pushed (Goal try.other try.mark ∷ rest) AsIs o)
      { list = Goal try.first try.mark ∷ rest } in
      let goes : step (opened o) ≡ Goes v =
      step_is (opened o) (Goal (Or try.first try.other) try.mark ∷ rest) list in
      let on = onward_alike (opened o) v t goes (opened_alike o t alike) in
      record {
        own = o;
        list = Goal try.first try.mark ∷ rest;
        others = Goal try.other try.mark ∷ rest;
        at = on.0;
        quiet = quiet_trans {u = on.0} quiet on.1;
        same = on.2;
        runs = goal_runs (record o { list = Goal try.first try.mark ∷ rest }) try.first try.mark rest refl;
        ahead = subst
            (λ (n : ℕ). IsAhead g (framed atom_word) e (record o { list = Goal try.first try.mark ∷ rest })
            (Some (at_address r n))) (sym address)
            (code_on e o r (instruction.TryElse other) f code there.level ahead at below
            (Goal try.first try.mark ∷ try.behind) try.here (omega (arith, cells, here, left)));
        left = code_on e o r (instruction.TryElse other) f code there.level ahead at other
            (Goal try.other try.mark ∷ try.behind) try.there (omega (arith, cells, here, right));
      }

  -- ---- where the engine runs it

  module _ (e : Engine S W M) (r : Rest) (doing : e.now ≡ now.Running (next.Code r)) where
    -- what is to be done there
    pub code_cost : now_cost (λ (n : Next W). first_cost e.lists.frames.items n) e.now ≡ cost_at e.lists (Some r)
    code_cost = ap (now_cost (λ (n : Next W). first_cost e.lists.frames.items n)) doing

    pub cut_run : (mark : Mark) (there : IsInstructionThere e.lists.frames.items r (instruction.Cut mark)) (s : State)
        → (h : Represents g (framed atom_word) e s) → CutsThere e h.own r there.frame there.level mark
    cut_run mark there s h = cut_there e h.own r mark there (code_ahead e h.own r doing h.engine)

    -- ---- a disjunction

    module _ (other : ℕ) (there : IsInstructionThere e.lists.frames.items r (instruction.TryElse other)) (s : State)
        (h : Represents g (framed atom_word) e s) where
      at : AtInstruction e h.own r (instruction.TryElse other) there.frame there.code there.level
      at = at_instruction e h.own r (instruction.TryElse other) there tt (code_ahead e h.own r doing h.engine)

      try : TryLeft atom_word (g.present e.store) (there.code).value
          (environment e.lists.words.items (there.frame).top (there.code).value) (there.frame).height at.kept r.address
          at.ms other
      try = at.acts

      pub try_some : 0 < r.address
      try_some = (let is = try.is in omega (arith, is))

      pub try_split : IsSplit g atom_word e e (at_address r (r.address - 1)) (at_address r other)
      try_split =
          let is = try.is in
          let low = try.low in
          let two = cost_two e.lists.frames.items r there.frame at.frame.at at.frame.before there.code there.level
          (r.address - 1) other at.frame.work (omega (arith, is)) (omega (arith, is, low)) in
          let whole = code_cost in
          record {
            is = refl;
            keeps = keeps_none (framed atom_word) e.lists;
            splits = λ t again.
                try_splits e t again.own t r other there (code_ahead e again.own r doing again.engine) here again.same;
            less = omega (arith, two, whole);
          }
