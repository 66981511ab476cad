-- The moves at an instruction whose slot keeps how many choices stand: an if-then, and an if-then-else.
use Rattle.std.proofs.Common.{◌≡◌, ℕ, suc, ◌≤◌, ◌<◌, ◌-◌, ◌+◌, List, ◌∷◌, ◌++◌, length, get_or, Option, Some, Ok, inl, inr, refl, sym, ap, ◌∙◌, subst, arith, Vec, Global}
use Rattle.std.specs.List.{slice_get}
use Rattle.std.specs.declared.rc.Rc.{Rc}
use Rattle.std.proofs.lemmas.Option.{slice_get_within}
use Rattle.std.proofs.Math.Nat.{le-max_left, le-max_right}
use Rattle.iso_model.specs.Search.Bodies.{If, Choose}
use Rattle.iso_model.specs.Search.Engines.{IsAwake}
use Rattle.iso_model.specs.Search.Runs.{Quiet, here}
use Rattle.iso_model.specs.Search.Walker.{State, Member, Goal, CutTo, AsIs, Goes, pushed, step}
use Rattle.iso_model.specs.Search.RunLaws.Sameness.{open_list}
use Rattle.iso_model.specs.Search.RunLaws.Spans.{ComesBeyond}
use Rattle.iso_model.proofs.Search.RunLaws.Opening.{opened, begins_before}
use Rattle.iso_model.proofs.Search.RunLaws.AlikeSpans.{Runs}
use Rattle.iso_model.proofs.Search.RunLaws.Likeness.{Alike, onward_alike, opened_alike}
use Rattle.iso_store_core.specs.declared.stores.Store.{Ghosts}
use Rattle.iso_plain_core.specs.Entering.{Adds}
use Rattle.iso_compile.specs.ControlLaws.{with_level}
use Rattle.iso_instructions.specs.declared.instructions.Code.{Code}
use Rattle.iso_instructions.specs.declared.instructions.Instruction.{Instruction}
use Rattle.iso_instructions.specs.declared.instructions.Instruction.TheVariants as instruction
use Rattle.iso_search_core.specs.declared.nows.Now.{Now}
use Rattle.iso_search_core.specs.declared.nows.Now.TheVariants as now
use Rattle.iso_search_core.specs.Bodies.{body_cost}
use Rattle.iso_search_core.specs.Costs.{now_cost}
use Rattle.iso_search_core.proofs.StandingLemmas.{choices_length, item_there as item_is, some_same}
use Rattle.iso_frames.specs.declared.frames.Rest.{Rest}
use Rattle.iso_frames.specs.declared.frames.Next.{Next}
use Rattle.iso_frames.specs.declared.frames.Next.TheVariants as next
use Rattle.iso_frames.specs.declared.frames.Level.{Level}
use Rattle.iso_frames.specs.declared.frames.Frame.{Frame}
use Rattle.iso_frames.specs.declared.frames.Work.TheVariants.{Clause}
use Rattle.iso_frames.specs.Running.{Left}
use Rattle.iso_frames.specs.Frames.{environment}
use Rattle.iso_frames.specs.Costs.{first_cost, cells_from}
use Rattle.iso_frames.proofs.LeftLemmas.{TryLeft, CommitLeft, ChooseLeft}
use Rattle.iso_frames.proofs.CodeCosts.{cells_on, cells_try, cost_two}
use Rattle.iso_environments.specs.Leveled.{IsAtClause, level_at, HasLeveled}
use Rattle.iso_environments.proofs.LeveledLemmas.{frame_read, leveled}
use Rattle.iso_search.specs.declared.search.Move.TheVariants as move
use Rattle.iso_search.specs.EngineStates.{IsAhead, IsBehind, Represents, phase_of}
use Rattle.iso_search.specs.Moved.{Moved}
use Rattle.iso_search.proofs.AheadLemmas.{engine_place}
use Rattle.iso_search.proofs.Moves.Body.{grown_cost}
use Rattle.iso_search.proofs.Moves.Search.{goes_to, stands_itself}
use Rattle.iso_search.proofs.MovedLemmas.{moved_on}
use Rattle.iso_search.proofs.SearchSteps.{step_is}
use Rattle.iso_search.proofs.WeightLemmas.{falls_less}
use Rattle.iso_search.proofs.WorldLemmas.{all_texts}
use Rattle.iso_machine.specs.declared.framed.Framed.{Framed}
use Rattle.iso_machine.specs.Lists.{IsList, KeepsFrames, cost_at, extent_of, stack_of}
use Rattle.iso_machine.specs.Engines.{Engine, IsBeyond, framed}
use Rattle.iso_machine.specs.Instructions.{IsInstructionThere, Splits, IsSplit, at_address}
use Rattle.iso_machine.proofs.BeyondLemmas.{comes_beyond, goal_runs, open_runs}
use Rattle.iso_machine.proofs.FrameLemmas.{adds_keeps, adds_same, stacked_same}
use Rattle.iso_machine.proofs.InstructionLemmas.{IsFrame, address_cost, address_pending, leveled_frame, leveled_left, leveled_cost, leveled_pending}
use Rattle.iso_machine.proofs.Moves.Instruction.{AtInstruction, at_instruction, code_ahead, frame_ahead, try_splits}

-- the instruction there, by the frame's own code
pub instruction_there : (frames : List Frame) (r : Rest) (i : Instruction) (f : Frame) (code : Rc Code Global)
    (level : Option Level) → IsAtClause frames r f code level → IsInstructionThere frames r i
    → slice_get code.value.body.items r.address ≡ Some i
instruction_there frames r i f code level is there =
    let same : f ≡ there.frame = some_same (sym is.at ∙ there.clause.at) in
    let works : Clause code level ≡ Clause there.code there.level =
    sym is.work ∙ (ap (λ (x : Frame). x.work) same ∙ there.clause.work) in
    let codes : there.code ≡ code = cc in
    subst (λ (c : Rc Code Global). slice_get c.value.body.items r.address ≡ Some i) codes there.item

-- the instruction that was read there
pub instruction_read : (frames : List Frame) (r : Rest) (f : Frame) (code : Rc Code Global) (level : Option Level)
    → IsAtClause frames r f code level → r.address < length code.value.body.items → (read : Frame)
    → read ≡ get_or frames r.frame read → (other : Rc Code Global) (older : Option Level)
    → read.work ≡ Clause other older → (body : Code) → body ≡ other.value → (i : Instruction)
    → i ≡ get_or body.body.items r.address i
    → IsInstructionThere frames r i
instruction_read frames r f code level is inside read item other older works body value i there =
    let same : read ≡ f = frame_read frames r.frame f read is.at item in
    let both : Clause other older ≡ Clause code level =
    sym works ∙ (ap (λ (x : Frame). x.work) same ∙ is.work) in
    let codes : other ≡ code = cc in
    let bodies : body ≡ code.value = value ∙ ap (λ (c : Rc Code Global). c.value) codes in
    record {
      frame = f;
      code = code;
      level = level;
      clause = is;
      item =
          item_is code.value.body.items r.address i inside
          (subst (λ (c : Code). i ≡ get_or c.body.items r.address i) bodies there);
    }

module _ {S W M : Type 0} (g : Ghosts S W M) (atom_word : ℕ → W) where
  -- an instruction is below it
  pub level_some : (e : Engine S W M) (r : Rest) (slot : ℕ) → e.now ≡ now.Running (next.Code r)
      → IsInstructionThere e.lists.frames.items r (instruction.GetLevel slot) → (s : State)
      → Represents g (framed atom_word) e s → 0 < r.address
  level_some e r slot doing there s stands =
      let at = at_instruction g atom_word e stands.own r (instruction.GetLevel slot) there tt
      (code_ahead g atom_word e stands.own r doing stands.engine) in
      elim at.acts [
        | inl c ↦ (let is = c.is in omega (arith, is))
        | inr c ↦ (let is = c.is in omega (arith, is))
      ]

  -- where no frame and no choice may come, the search comes to a state that spans more
  pub level_beyond : (e : Engine S W M) (r : Rest) (slot : ℕ) → e.now ≡ now.Running (next.Code r)
      → IsInstructionThere e.lists.frames.items r (instruction.GetLevel slot) → IsBeyond g atom_word e (Some r)
      → (s : State) → Represents g (framed atom_word) e s → ComesBeyond e.limit s
  level_beyond e r slot doing there beyond s stands =
      let own = stands.own in
      let ahead = code_ahead g atom_word e own r doing stands.engine in
      let at = at_instruction g atom_word e own r (instruction.GetLevel slot) there tt ahead in
      let runs : Runs own = elim at.acts [
        | inl c ↦ open_runs own (If c.condition c.next) c.mark (c.behind ++ at.behind)
            (ap open_list at.list ∙ begins_before at.ms (Goal (If c.condition c.next) c.mark) c.behind at.behind c.are)
        | inr c ↦ open_runs own (Choose c.condition c.next c.other) c.mark (c.behind ++ at.behind)
            (ap open_list at.list
            ∙ begins_before at.ms (Goal (Choose c.condition c.next c.other) c.mark) c.behind at.behind c.are)
      ] in
      comes_beyond g atom_word e (Some r) own own s s beyond ahead here stands.same runs (omega arith) (omega arith)

  -- From this state the search comes, without an event, to one that is alike the engine's own, which goes on there.
  pub record GoesTo (e : Engine S W M) (s : State) (place : Rest) : Type 0 where
    pub own : State
    pub at : State
    pub quiet : Quiet s at
    pub same : Alike own at
    pub ahead : IsAhead g (framed atom_word) e own (Some place)

  module _ (e : Engine S W M) (r : Rest) (slot height : ℕ) (doing : e.now ≡ now.Running (next.Code r))
      (there : IsInstructionThere e.lists.frames.items r (instruction.GetLevel slot))
      (many : height ≡ length e.choices.items) (fs : Vec Frame Global) (made : Rest)
      (has : HasLeveled e.lists.frames.items r slot height there.frame there.code fs.items made)
      (stand : Adds e.lists.frames.items fs.items) where
    abbrev more : Framed S W M
    more = record e.lists { frames = fs }

    abbrev mid : Engine S W M
    mid = record e { lists = more }

    abbrev code : Code
    code = (there.code).value

    abbrev words : List W
    words = environment e.lists.words.items (there.frame).top code

    pub level_keeps : KeepsFrames atom_word (λ j. Unit {0}) e.lists more
    level_keeps =
        adds_keeps atom_word e.lists more (adds_same {old = e.lists.nodes} refl) stand
        (stacked_same {old = e.lists.words} refl)

    module _ (s : State) (stands : Represents g (framed atom_word) e s) where
      abbrev own : State
      own = stands.own

      old_ahead : IsAhead g (framed atom_word) e own (Some r)
      old_ahead = code_ahead g atom_word e own r doing stands.engine

      at : AtInstruction g atom_word e own r (instruction.GetLevel slot) there.frame there.code there.level
      at = at_instruction g atom_word e own r (instruction.GetLevel slot) there tt old_ahead

      abbrev LeftAt : ℕ → List Member → Type 0
      LeftAt a ms =
          Left atom_word (g.present e.store) code words (there.frame).height (with_level slot height at.kept) a ms

      frame : IsFrame atom_word (g.present e.store) (stack_of more) made.frame
          (leveled r slot height there.frame has.copy) has.copy (Some (level_at r slot height))
          (with_level slot height at.kept) at.behind
      frame = leveled_frame atom_word e.lists.nodes.items e.lists.words.items e.lists.frames.items fs.items r made slot
          height there.frame there.code there.level at.kept at.behind has at.frame

      -- at an address of the frame that came
      made_ahead : (a : ℕ) (ms : List Member) → LeftAt a ms → cells_from code a ≤ cells_from code r.address
          → IsAhead g (framed atom_word) mid (record own { list = ms ++ at.behind }) (Some (at_address made a))
      made_ahead a ms left fewer =
          let p = g.present e.store in
          let here = address_pending atom_word p (stack_of more) frame a in
          let old = address_pending atom_word p (stack_of e.lists) at.frame r.address in
          let behind = leveled_pending atom_word e.lists.nodes.items e.lists.words.items e.lists.frames.items fs.items r
          made slot height there.frame there.code there.level at.kept at.behind has at.frame in
          let same = ap (λ (c : Code). cells_from c a) has.same in
          frame_ahead g atom_word e own r more old_ahead level_keeps made.frame
          (leveled r slot height there.frame has.copy) has.copy (Some (level_at r slot height))
          (with_level slot height at.kept) at.behind frame a ms
          (leveled_left atom_word e.lists.nodes.items e.lists.words.items e.lists.frames.items fs.items r made slot
          height there.frame there.code there.level at.kept at.behind has at.frame a ms left)
          (omega (arith, here, old, behind, same, fewer))

      height_is : height ≡ length own.stack
      height_is = many ∙ choices_length (framed atom_word) stands.engine.choices

      -- less is to be done at two addresses of the frame that came
      pub level_two : (i j : ℕ) → i < r.address → j < r.address
          → cost_at more (Some (at_address made i)) + cost_at more (Some (at_address made j)) + 2
          ≤ now_cost (λ (n : Next W). first_cost e.lists.frames.items n) e.now
      level_two i j first second =
          let p = g.present e.store in
          let two = cost_two fs.items (at_address made r.address) (leveled r slot height there.frame has.copy) frame.at
          frame.before has.copy (Some (level_at r slot height)) i j refl first second in
          let whole = address_cost atom_word p (stack_of more) frame r.address in
          let old = address_cost atom_word p (stack_of e.lists) at.frame r.address in
          let behind = leveled_cost atom_word e.lists.nodes.items e.lists.words.items e.lists.frames.items fs.items r
          made slot height there.frame there.code there.level at.kept at.behind has at.frame in
          let same = ap (body_cost r.address) behind in
          let running = ap (now_cost (λ (n : Next W). first_cost e.lists.frames.items n)) doing in
          omega (arith, two, whole, old, same, running)

      -- the frame that came is the clause's, and has an instruction there
      pub made_clause : IsAtClause fs.items made (leveled r slot height there.frame has.copy) has.copy
          (Some (level_at r slot height))
      made_clause = record { at = frame.at; work = refl }

      pub made_inside : made.address < length has.copy.value.body.items
      made_inside =
          let inside = slice_get_within code.body.items r.address (instruction.GetLevel slot) there.item in
          let same = ap (λ (x : Code). length x.body.items) has.same in
          let address = has.address in
          omega (arith, inside, same, address)

      -- ---- an if-then

      commit_goes :
          CommitLeft atom_word (g.present e.store) code words (there.frame).height at.kept r.address at.ms slot
          → GoesTo mid s made
      commit_goes c =
          let rest = c.behind ++ at.behind in
          let list = ap open_list at.list
          ∙ begins_before at.ms (Goal (If c.condition c.next) c.mark) c.behind at.behind c.are in
          let n = length own.stack in
          let v : State = record own { list = Goal c.condition n ∷ CutTo n ∷ Goal c.next c.mark ∷ rest } in
          let goes : step (opened own) ≡ Goes v =
          step_is (opened own) (Goal (If c.condition c.next) c.mark ∷ rest) list in
          let on = onward_alike (opened own) v s goes (opened_alike own s stands.same) in
          let first = Goal c.condition height ∷ CutTo height ∷ Goal c.next c.mark ∷ c.behind in
          let u : State = record own { list = first ++ at.behind } in
          let same : Alike u on.0 =
          subst (λ (m : ℕ). Alike (record own { list = Goal c.condition m ∷ CutTo m ∷ Goal c.next c.mark ∷ rest }) on.0)
          (sym height_is) on.2 in
          let address : made.address ≡ c.below = (let a = has.address in let b = c.is in omega (arith, a, b)) in
          let item = subst (λ (m : ℕ). slice_get code.body.items m ≡ Some (instruction.GetLevel slot)) c.is
          there.item in
          let cells = cells_on code c.below (instruction.GetLevel slot) item (λ cells. refl) in
          let old = ap (cells_from code) c.is in
          record {
            own = u;
            at = on.0;
            quiet = on.1;
            same = same;
            ahead = subst (λ (m : ℕ). IsAhead g (framed atom_word) mid u (Some (at_address made m))) (sym address)
                (made_ahead c.below first (c.here height) (omega (arith, cells, old)));
          }

      -- ---- an if-then-else

      module _
          (c : ChooseLeft atom_word (g.present e.store) code words (there.frame).height at.kept r.address at.ms slot)
        where
          choose_address : made.address ≡ suc c.below
          choose_address = (let a = has.address in let b = c.is in omega (arith, a, b))

          choose_item : slice_get has.copy.value.body.items made.address ≡ Some (instruction.TryElse c.alternative)
          choose_item =
              subst (λ (x : Code). slice_get x.body.items made.address ≡ Some (instruction.TryElse c.alternative))
              (sym has.same)
              (subst (λ (m : ℕ). slice_get code.body.items m ≡ Some (instruction.TryElse c.alternative))
              (sym choose_address) c.try)

          choose_there : IsInstructionThere fs.items made (instruction.TryElse c.alternative)
          choose_there = record {
            frame = leveled r slot height there.frame has.copy;
            code = has.copy;
            level = Some (level_at r slot height);
            clause = made_clause;
            item = choose_item;
          }

          choose_splits : Splits g atom_word mid s (at_address made (made.address - 1)) (at_address made c.alternative)
          choose_splits =
              let rest = c.behind ++ at.behind in
              let list = ap open_list at.list
              ∙ begins_before at.ms (Goal (Choose c.condition c.next c.other) c.mark) c.behind at.behind c.are in
              let n = length own.stack in
              let ns : List Member = Goal c.condition (suc n) ∷ CutTo n ∷ Goal c.next c.mark ∷ rest in
              let others = Goal c.other c.mark ∷ rest in
              let v : State = record (pushed others AsIs own) { list = ns } in
              let goes : step (opened own) ≡ Goes v =
              step_is (opened own) (Goal (Choose c.condition c.next c.other) c.mark ∷ rest) list in
              let on = onward_alike (opened own) v s goes (opened_alike own s stands.same) in
              let first = Goal c.condition (suc height) ∷ CutTo height ∷ Goal c.next c.mark ∷ c.behind in
              let ms = first ++ at.behind in
              let same : Alike (record (pushed others AsIs own) { list = ms }) on.0 =
              subst
              (λ (m : ℕ). Alike (record (pushed others AsIs own)
              { list = Goal c.condition (suc m) ∷ CutTo m ∷ Goal c.next c.mark ∷ rest }) on.0) (sym height_is) on.2 in
              let address : made.address - 1 ≡ c.below = (let a = choose_address in omega (arith, a)) in
              let item = subst (λ (m : ℕ). slice_get code.body.items m ≡ Some (instruction.GetLevel slot)) c.is
              there.item in
              let cells = cells_on code (suc c.below) (instruction.GetLevel slot) item (λ cells. refl) in
              let tries = cells_try code c.below c.alternative c.try c.low in
              let old = ap (cells_from code) c.is in
              let one = le-max_left (cells_from code c.below) (cells_from code c.alternative) in
              let two = le-max_right (cells_from code c.below) (cells_from code c.alternative) in
              record {
                own = own;
                list = ms;
                others = others;
                at = on.0;
                quiet = on.1;
                same = same;
                runs =
                    goal_runs (record own { list = ms }) c.condition (suc height)
                    (CutTo height ∷ Goal c.next c.mark ∷ rest) refl;
                ahead = subst
                    (λ (m : ℕ). IsAhead g (framed atom_word) mid (record own { list = ms }) (Some (at_address made m)))
                    (sym address)
                    (made_ahead c.below first (c.here height) (omega (arith, cells, tries, old, one)));
                left = made_ahead c.alternative (Goal c.other c.mark ∷ c.behind) (c.there height)
                    (omega (arith, cells, tries, old, two));
              }

      -- ---- by what follows

      -- the alternative of the instruction that follows is at a lower address
      pub record IsLow (other : ℕ) : Type 0 where
        pub some : 0 < made.address
        pub here : made.address - 1 < r.address
        pub other_low : other < r.address

      module _ (other : ℕ) (follows : IsInstructionThere fs.items made (instruction.TryElse other)) where
        same_other :
            (c : ChooseLeft atom_word (g.present e.store) code words (there.frame).height at.kept r.address at.ms slot)
            → c.alternative ≡ other
        same_other c =
            let found = instruction_there fs.items made (instruction.TryElse other)
            (leveled r slot height there.frame has.copy) has.copy (Some (level_at r slot height)) made_clause follows in
            let both : Some (instruction.TryElse c.alternative) ≡ Some (instruction.TryElse other) =
            sym (choose_item c) ∙ found in
            cc

        pub level_low : IsLow other
        level_low = elim at.acts [
          | inl c ↦
              let to = commit_goes c in
              let next = at_instruction g atom_word mid to.own made (instruction.TryElse other) follows tt to.ahead in
              let try : TryLeft atom_word (g.present e.store) (follows.code).value
              (environment e.lists.words.items (follows.frame).top (follows.code).value) (follows.frame).height
              next.kept made.address next.ms other = next.acts in
              let a = has.address in
              let b = c.is in
              let d = try.is in
              let low = try.low in
              record {
                some = omega (arith, d);
                here = omega (arith, a, b, d);
                other_low = omega (arith, a, b, d, low);
              }
          | inr c ↦
              let a = choose_address c in
              let b = c.is in
              let same = same_other c in
              let low = c.low in
              record {
                some = omega (arith, a);
                here = omega (arith, a, b);
                other_low = omega (arith, b, same, low);
              }
        ]

        pub level_splits : Splits g atom_word mid s (at_address made (made.address - 1)) (at_address made other)
        level_splits = elim at.acts [
          | inl c ↦
              let to = commit_goes c in
              try_splits g atom_word mid s to.own to.at made other follows to.ahead to.quiet to.same
          | inr c ↦
              subst
              (λ (m : ℕ). Splits g atom_word mid s (at_address made (made.address - 1)) (at_address made m))
              (same_other c) (choose_splits c)
        ]

      -- no alternative follows
      pub level_goes : ((other : ℕ) → ¬ IsInstructionThere fs.items made (instruction.TryElse other))
          → GoesTo mid s made
      level_goes none = elim at.acts [
        | inl c ↦ commit_goes c
        | inr c ↦ absurd (none c.alternative (choose_there c))
      ]

    -- an alternative follows
    pub level_split : (s : State) → Represents g (framed atom_word) e s → (other : ℕ)
        → IsInstructionThere fs.items made (instruction.TryElse other)
        → IsSplit g atom_word e mid (at_address made (made.address - 1)) (at_address made other)
    level_split s stands other follows =
        let low = level_low s stands other follows in
        record {
          is = refl;
          keeps = level_keeps;
          splits = λ t again. level_splits t again other follows;
          less = level_two s stands (made.address - 1) other low.here low.other_low;
        }

    -- none follows
    pub level_moved : ((other : ℕ) → ¬ IsInstructionThere fs.items made (instruction.TryElse other))
        → (n : Now (Next W) (Option Rest))
        → ((ms : List Member) → IsList atom_word (g.present e.store) more (extent_of more) (Some made) ms
        → IsBehind (framed atom_word) (g.present e.store) more (Some made) n ms)
        → now_cost (λ (x : Next W). first_cost fs.items x) n ≤ cost_at more (Some made) → IsAwake (phase_of n)
        → (s : State) → Represents g (framed atom_word) e s
        → Moved g (framed atom_word) (ComesBeyond e.limit) e (Ok move.Goes) (record mid { now = n })
    level_moved none n comes fewer awake s stands =
        moved_on g (framed atom_word)
        (λ t h.
        (let to = level_goes t h none in
        goes_to g (framed atom_word) (record mid { now = n }) t to.own to.at to.quiet to.same
        (stands_itself g (framed atom_word) (record mid { now = n }) to.own
        (engine_place g (framed atom_word) mid to.own (Some made) n to.ahead (comes to.own.list to.ahead.chain)))
        awake))
        (let to = level_goes s stands none in
        let own = stands.own in
        let some = level_some e r slot doing there s stands in
        let address = has.address in
        let less = level_two s stands made.address made.address (omega (arith, some, address))
        (omega (arith, some, address)) in
        let kept_all = grown_cost g (framed atom_word) e own (Some r)
        more (code_ahead g atom_word e own r doing stands.engine) level_keeps in
        falls_less (framed atom_word) e (record mid { now = n }) refl (omega (arith, less, kept_all, fewer)))
        (record {
          limit = refl;
          vocabulary = refl;
          names_kept = all_texts (g.names e.store);
          base = λ p x. x;
          within = λ x. x;
        })
