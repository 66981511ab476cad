-- The goal that the code of a frame calls: it comes first of the list, and so do its words where they were put.
use Rattle.std.proofs.Common.{◌≡◌, ◌<◌, ◌≤◌, ◌+◌, ◌-◌, ℕ, suc, List, [], ◌∷◌, ◌++◌, length, map, take, drop, get_or, true, Option, Some, inl, inr, sym, ap, ◌∙◌, subst, arith}
use Rattle.std.specs.Global.{Global}
use Rattle.std.specs.List.{All, slice_get}
use Rattle.std.specs.declared.rc.Rc.{Rc}
use Rattle.std.specs.String.{string_bytes}
use Rattle.std.proofs.lemmas.List.{length-map}
use Rattle.std.proofs.lemmas.Option.{slice_get_within}
use Rattle.iso_atoms.specs.Texts.{text_at}
use Rattle.iso_model.specs.Terms.Trees.{Tree, Variable, Name}
use Rattle.iso_model.specs.Terms.Substitutions.{apply}
use Rattle.iso_model.specs.Terms.Unification.Applied.{apply_none}
use Rattle.iso_model.specs.Search.Bodies.{Run}
use Rattle.iso_model.specs.Search.Walker.{Member, Goal}
use Rattle.iso_model.specs.Search.RunLaws.Sameness.{open_list}
use Rattle.iso_model.proofs.Search.RunLaws.Opening.{begins_before}
use Rattle.iso_store_core.specs.Presents.{Present, Holds, KeepsWords, meaning}
use Rattle.iso_store_core.proofs.AtomLemmas.{text-is}
use Rattle.iso_search_core.specs.Words.{word_terms}
use Rattle.iso_prep.specs.declared.bodies.Node.{Node}
use Rattle.iso_program.specs.Kept.{IsTemplate}
use Rattle.iso_compile.specs.Table.{Block, Part}
use Rattle.iso_compile.specs.CodeLaws.{Calls}
use Rattle.iso_compile.specs.Control.{IsCall}
use Rattle.iso_compile.specs.Emitted.{block_of}
use Rattle.iso_compile.specs.declared.goals.Call as called
use Rattle.iso_code.specs.declared.operands.Operand.TheVariants as operand
use Rattle.iso_code.specs.Loaded.{IsInside, IsSound, IsOfCompound, part_at, block_at, all_operands}
use Rattle.iso_code.specs.declared.operands.Arguments.{Arguments}
use Rattle.iso_writing.specs.Pushing.{IsHeld}
use Rattle.iso_writing.specs.Writing.{Adds}
use Rattle.iso_writing.proofs.KnownLemmas.{for_on}
use Rattle.iso_machine_core.specs.Goals.{Puts}
use Rattle.iso_instructions.specs.declared.instructions.Goal as instruction
use Rattle.iso_instructions.specs.declared.instructions.Code.{Code}
use Rattle.iso_instructions.specs.declared.instructions.Instruction.TheVariants.{Call, Execute, Proceed, Jump}
use Rattle.iso_bodies.specs.Instructions.{IsLoadedGoal}
use Rattle.iso_bodies.proofs.KeptLemmas.{goal_kept}
use Rattle.iso_frames.specs.declared.frames.Rest.{Rest}
use Rattle.iso_frames.specs.declared.frames.Level.{Level}
use Rattle.iso_frames.specs.declared.frames.Frame.{Frame}
use Rattle.iso_frames.specs.declared.frames.Work.TheVariants.{Clause}
use Rattle.iso_frames.specs.Running.{Knows, Stops}
use Rattle.iso_frames.specs.Frames.{Chain, environment}
use Rattle.iso_frames.specs.Costs.{cost_of, pending_of, cells_from, goal_cells, compound_cells}
use Rattle.iso_frames.proofs.ChainLemmas.{AtClause, chain_words}
use Rattle.iso_frames.proofs.LeftLemmas.{CallLeft, ExecuteLeft, left_acts}
use Rattle.iso_frames.proofs.CodeCosts.{cost_less, cost_behind, pending_clause, cells_call, cells_execute}
use Rattle.iso_search_core.proofs.StandingLemmas.{some_same}
use Rattle.iso_environments.specs.Stacks.{stack}
use Rattle.iso_environments.specs.Leveled.{IsAtClause}
use Rattle.iso_environments.specs.Goals.{goal_of}
use Rattle.iso_environments.specs.Putting.{IsCalledAt, IsGoalThere, IsCallThere, GoesBehind, arguments_cells, IsBehind, HasPut}
use Rattle.iso_environments.proofs.GoalLemmas.{names_kept, arguments_loaded, operands_there, blocks_there, operands_many, word_held, word_at, all_met, goal_made, goal_means}
use Rattle.iso_environments.proofs.ThereLemmas.{environment_low, environment_read, clause_read, clause_there, clause_before, clause_on}

-- ---- the instruction

-- it does something
call_stops : (code : Code) (a : ℕ) (g : instruction.Goal) → IsCalledAt code.body.items a g → Stops code a
call_stops code a g (inl call) = record {
  inside = slice_get_within code.body.items a (Call g) call;
  proceed = λ is. (let same : Some (Call g) ≡ Some Proceed = sym call ∙ is in absurd (cc));
  jump = λ l is. (let same : Some (Call g) ≡ Some (Jump l) = sym call ∙ is in absurd (cc));
}
call_stops code a g (inr call) = record {
  inside = slice_get_within code.body.items a (Execute g) call;
  proceed = λ is. (let same : Some (Execute g) ≡ Some Proceed = sym call ∙ is in absurd (cc));
  jump = λ l is. (let same : Some (Execute g) ≡ Some (Jump l) = sym call ∙ is in absurd (cc));
}

-- the goal is that of the clause whose frame is there
goal_here : {frames : List Frame} {r : Rest} {f : Frame} {code : Rc Code Global} {level : Option Level}
    {g : instruction.Goal} → IsAtClause frames r f code level → IsGoalThere frames r g
    → IsCalledAt code.value.body.items r.address g
goal_here {r = r} {code = code} {level = level} {g = g} at t =
    let frames_same = some_same (sym t.clause.at ∙ at.at) in
    let works : Clause t.code t.level ≡ Clause code level =
    sym t.clause.work ∙ (ap (λ (h : Frame). h.work) frames_same ∙ at.work) in
    let codes : t.code ≡ code = cc in
    subst (λ (c : Rc Code Global). IsCalledAt c.value.body.items r.address g) codes t.called

-- ---- the goal comes first

module _ {W : Type 0} (atom_word : ℕ → W) (p : Present W) (nodes : List (Node W)) (frames : List Frame) (words : List W)
    (r : Rest) (f : Frame) (code : Rc Code Global) (level : Option Level) (g : instruction.Goal) (place : Option Rest)
  where
    -- the words of the clause's variables
    abbrev own : List W
    own = environment words f.top code.value

    -- A goal comes first, whose code this is; behind it the list begins at this place.
    pub record IsFirst (all : List Member) : Type 0 where
      pub names : List (List ℕ)
      pub low : ℕ
      pub known : Knows atom_word p names
      pub compiled_call : called.Call
      pub loads : IsLoadedGoal names low compiled_call g
      pub goal : Tree
      pub call : IsCall low compiled_call goal
      pub template : IsTemplate code.value.variables goal
      pub many : length own ≡ code.value.variables
      pub hold : All (Holds p) own
      pub mark : ℕ
      pub behind : List Member
      pub is : open_list all ≡ Goal (Run (apply (word_terms p own) goal)) mark ∷ behind
      pub list : Chain atom_word p (stack nodes frames words) place behind

    -- and these are the words of its clause's variables
    pub record IsRead (part : List W) (all : List Member) : Type 0 where
      pub at : IsAtClause frames r f code level
      pub goes : GoesBehind code.value.body.items r f.behind g place
      pub whole : Chain atom_word p (stack nodes frames words) (Some r) all
      pub first : IsFirst all
      pub read : part ≡ own

module _ {W : Type 0} (atom_word : ℕ → W) {p : Present W} {nodes : List (Node W)} {frames : List Frame} {words : List W}
    {r : Rest} {all : List Member} (list : Chain atom_word p (stack nodes frames words) (Some r) all) {f : Frame}
    {code : Rc Code Global} {level : Option Level} (at : IsAtClause frames r f code level) (g : instruction.Goal) where
  call_first : (h : AtClause atom_word p (stack nodes frames words) r f code level all)
      → CallLeft atom_word p code.value (environment words f.top code.value) f.height h.kept r.address h.ms g
      → IsFirst atom_word p nodes frames words r f code level g
      (Some (record { frame = r.frame; address = r.address - 1 })) all
  call_first h t =
      let address : t.below ≡ r.address - 1 = (let is = t.is in omega (arith, is)) in
      record {
        names = t.body.names;
        low = t.body.plan.registers;
        known = t.known;
        compiled_call = t.compiled_call;
        loads = t.loads;
        goal = t.goal;
        call = t.call;
        template = t.template;
        many = h.left.many;
        hold = h.left.hold;
        mark = t.mark;
        behind = t.behind ++ h.behind;
        is = ap open_list h.is
            ∙ begins_before h.ms (Goal (Run (apply (word_terms p (environment words f.top code.value)) t.goal)) t.mark)
            t.behind h.behind t.are;
        list =
            subst (λ (a : ℕ). Chain atom_word p (stack nodes frames words)
            (Some (record { frame = r.frame; address = a })) (t.behind ++ h.behind)) address
            (clause_on atom_word list at h t.below t.left);
      }

  execute_first : (h : AtClause atom_word p (stack nodes frames words) r f code level all)
      → ExecuteLeft atom_word p code.value (environment words f.top code.value) f.height h.kept r.address h.ms g
      → IsFirst atom_word p nodes frames words r f code level g f.behind all
  execute_first h t = record {
    names = t.body.names;
    low = t.body.plan.registers;
    known = t.known;
    compiled_call = t.compiled_call;
    loads = t.loads;
    goal = t.goal;
    call = t.call;
    template = t.template;
    many = h.left.many;
    hold = h.left.hold;
    mark = t.mark;
    behind = h.behind;
    is = ap open_list h.is
        ∙ begins_before h.ms (Goal (Run (apply (word_terms p (environment words f.top code.value)) t.goal)) t.mark)
        [] h.behind t.are;
    list = h.chain;
  }

  -- what is left where the goal isn't the last one
  call_left : slice_get code.value.body.items r.address ≡ Some (Call g)
      → (h : AtClause atom_word p (stack nodes frames words) r f code level all)
      → CallLeft atom_word p code.value (environment words f.top code.value) f.height h.kept r.address h.ms g
  call_left call h =
      let stops = call_stops code.value r.address g (inl call) in
      left_acts atom_word p code.value (environment words f.top code.value) f.height h.left stops (Call g) call

  goal_first : (place : Option Rest) → GoesBehind code.value.body.items r f.behind g place
      → IsFirst atom_word p nodes frames words r f code level g place all
  goal_first place (inl call) =
      let h = clause_there atom_word list at in
      subst (λ (x : Option Rest). IsFirst atom_word p nodes frames words r f code level g x all) (sym call.1)
      (call_first h (call_left call.0 h))
  goal_first place (inr call) =
      let h = clause_there atom_word list at in
      let stops = call_stops code.value r.address g (inr call.0) in
      subst (λ (x : Option Rest). IsFirst atom_word p nodes frames words r f code level g x all) (sym call.1)
      (execute_first h (left_acts atom_word p code.value (environment words f.top code.value) f.height h.left stops
      (Execute g) call.0))

  -- a goal that isn't the last one has an instruction below it
  call_above : slice_get code.value.body.items r.address ≡ Some (Call g) → 0 < r.address
  call_above call = (let is = (call_left call (clause_there atom_word list at)).is in omega (arith, is))

  -- what is to be done behind the goal, and how many cells goals are still to take
  goal_cost : (place : Option Rest) → GoesBehind code.value.body.items r f.behind g place
      → cost_of frames place < cost_of frames (Some r)
  goal_cost place (inl call) =
      let above = call_above call.0 in
      subst (λ (x : Option Rest). cost_of frames x < cost_of frames (Some r)) (sym call.1)
      (cost_less frames r f at.at (clause_before atom_word list at) code level (r.address - 1) at.work
      (omega (arith, above)))
  goal_cost place (inr call) =
      subst (λ (x : Option Rest). cost_of frames x < cost_of frames (Some r)) (sym call.1)
      (cost_behind frames r f at.at (clause_before atom_word list at) code level at.work)

  goal_pending : (place : Option Rest) → GoesBehind code.value.body.items r f.behind g place
      → goal_cells g + pending_of frames place ≡ pending_of frames (Some r)
  goal_pending place (inl call) =
      let before = clause_before atom_word list at in
      let above = call_above call.0 in
      let a = r.address - 1 in
      let address : r.address ≡ suc a = omega (arith, above) in
      let lower : Rest = record { frame = r.frame; address = a } in
      let whole = pending_clause frames r f at.at before code level at.work in
      let below = pending_clause frames lower f at.at before code level at.work in
      let cells = ap (cells_from code.value) address ∙ cells_call code.value a g
      (subst (λ (n : ℕ). slice_get code.value.body.items n ≡ Some (Call g)) address call.0) in
      let place_is = ap (pending_of frames) call.1 in
      omega (arith, whole, below, cells, place_is)
  goal_pending place (inr call) =
      let whole = pending_clause frames r f at.at (clause_before atom_word list at) code level at.work in
      let cells = cells_execute code.value r.address g call.0 in
      let place_is = ap (pending_of frames) call.1 in
      omega (arith, whole, cells, place_is)

-- the frame was read, and its clause's code
module _ {W : Type 0} (atom_word : ℕ → W) {p : Present W} {nodes : List (Node W)} {frames : List Frame} {words : List W}
    {r : Rest} {all : List Member} (list : Chain atom_word p (stack nodes frames words) (Some r) all) (f : Frame)
    (code : Rc Code Global) (level : Option Level) (one : Code) (frame_is : f ≡ get_or frames r.frame f)
    (work : f.work ≡ Clause code level) (one_is : one ≡ code.value) where
  -- the instruction there calls a goal
  pub call_read : (some : IsCallThere frames r) → IsCalledAt one.body.items r.address some.0
  call_read some =
      subst (λ (c : Code). IsCalledAt c.body.items r.address some.0) (sym one_is)
      (goal_here (clause_read atom_word list f code level frame_is work) some.1)

  pub call_low : (g : instruction.Goal) → slice_get one.body.items r.address ≡ Some (Call g) → 0 < r.address
  call_low g call =
      call_above atom_word list (clause_read atom_word list f code level frame_is work) g
      (subst (λ (c : Code). slice_get c.body.items r.address ≡ Some (Call g)) one_is call)

  -- there are as many words as its clause has variables
  pub words_low : (two : Code) → two ≡ code.value → two.variables ≤ f.top
  words_low two two_is =
      let h = clause_there atom_word list (clause_read atom_word list f code level frame_is work) in
      let low = environment_low words f.top code.value h.left.many in
      let same = ap (λ (c : Code). c.variables) two_is in
      omega (arith, low, same)

  pub words_within : f.top ≤ length words
  words_within = (clause_there atom_word list (clause_read atom_word list f code level frame_is work)).within

  -- the goal comes first
  pub goal_read : (two : Code) → two ≡ code.value → (g : instruction.Goal) (place : Option Rest)
      → GoesBehind one.body.items r f.behind g place → IsRead atom_word p nodes frames words r f code level g place
      (take (f.top - (f.top - two.variables)) (drop (f.top - two.variables) words)) all
  goal_read two two_is g place goes =
      let at = clause_read atom_word list f code level frame_is work in
      let low = environment_low words f.top code.value (clause_there atom_word list at).left.many in
      let there = subst (λ (c : Code). GoesBehind c.body.items r f.behind g place) one_is goes in
      record {
        at = at;
        goes = there;
        whole = list;
        first = goal_first atom_word list at g place there;
        read = environment_read words f.top code.value two low two_is;
      }

-- ---- arguments that are put

module _ {W : Type 0} {atom_word : ℕ → W} {p : Present W} {nodes : List (Node W)} {frames : List Frame} {words : List W}
    {r : Rest} {f : Frame} {code : Rc Code Global} {level : Option Level} {g : instruction.Goal} {place : Option Rest}
    {part : List W} {all : List Member}
    (h : IsRead atom_word p nodes frames words r f code level g place part all) where
  -- less is left behind the goal, where it has so many arguments
  pub goal_behind : (many : ℕ) → many ≡ length g.arguments.operands.items → IsBehind frames r g many place
  goal_behind many same =
      let whole = goal_pending atom_word h.whole h.at g place h.goes in
      let cells = ap compound_cells same in
      record { cost = goal_cost atom_word h.whole h.at g place h.goes; pending = omega (arith, whole, cells) }

  -- its arguments take no more cells than are still to be taken
  pub goal_room : arguments_cells g ≤ pending_of frames (Some r)
  goal_room = (let whole = goal_pending atom_word h.whole h.at g place h.goes in omega (arith, whole))

  module _ (names : List (List ℕ)) (named : (n : ℕ) → Holds p (atom_word n)
      → (n < length names) × (p.term (atom_word n) ≡ Name (text_at names n))) where
    -- the goal is that of the store's names
    loads_now : IsLoadedGoal names h.first.low h.first.compiled_call g
    loads_now =
        goal_kept h.first.names names (names_kept atom_word p h.first.names names h.first.known named) h.first.low
        h.first.compiled_call g h.first.loads

    part_many : length part ≡ code.value.variables
    part_many = ap length h.read ∙ h.first.many

    part_hold : All (Holds p) part
    part_hold = subst (All (Holds p)) (sym h.read) h.first.hold

    -- ---- what putting them needs

    pub put_blocks : All (IsSound (length names) (length part) g.arguments.compounds) g.arguments.blocks.items
    put_blocks =
        subst (λ (n : ℕ). All (IsSound (length names) n g.arguments.compounds) g.arguments.blocks.items)
        (sym part_many) (blocks_there loads_now h.first.call h.first.template)

    pub put_compounds : All (IsOfCompound g.arguments.compounds) g.arguments.blocks.items
    put_compounds = (arguments_loaded loads_now h.first.call h.first.template).of_compounds

    pub put_inside : All (IsInside (length names) (length part) g.arguments.compounds) g.arguments.operands.items
    put_inside =
        subst (λ (n : ℕ). All (IsInside (length names) n g.arguments.compounds) g.arguments.operands.items)
        (sym part_many) (operands_there loads_now h.first.call h.first.template)

    pub put_held : All (IsHeld p part []) (g.arguments.operands.items ++ all_operands g.arguments.blocks.items)
    put_held k d within =
        word_held p part part_hold
        (get_or (g.arguments.operands.items ++ all_operands g.arguments.blocks.items) k d)

    -- ---- what it comes to

    module _ {q : Present W} (arguments : List W) (puts : Puts names g.arguments p q part arguments) where
      put_calls : Calls (text_at names g.name) (map (block_at names h.first.low) g.arguments.blocks.items)
          (map (part_at names h.first.low) g.arguments.operands.items) h.first.goal
      put_calls =
          let loaded = arguments_loaded loads_now h.first.call h.first.template in
          let c = h.first.compiled_call in
          let name = text-is names g.name (string_bytes c.name) loads_now.name in
          subst (λ (text : List ℕ). Calls text (map (block_at names h.first.low) g.arguments.blocks.items)
          (map (part_at names h.first.low) g.arguments.operands.items) h.first.goal) (sym name)
          (subst (λ (bs : List Block). Calls (string_bytes c.name) bs
          (map (part_at names h.first.low) g.arguments.operands.items) h.first.goal) (sym loaded.blocks_are)
          (subst (λ (ps : List Part). Calls (string_bytes c.name) (map block_of c.arguments.blocks.items) ps
          h.first.goal) (sym loaded.parts_are) h.first.call.calls))

      put_value : apply q.substitution (apply (word_terms p part) h.first.goal)
          ≡ goal_of (text_at names g.name) (map (meaning q) arguments)
      put_value =
          let os = g.arguments.operands.items ++ all_operands g.arguments.blocks.items in
          let many = length-map arguments q.term
          ∙ (puts.many ∙ operands_many loads_now h.first.call h.first.template) in
          let are = puts.are Variable (word_terms p part) 0 h.first.low (λ x. true)
          (λ x w met is. record {
            holds = word_held p part part_hold (operand.Old x) w is;
            same = apply_none (p.term w) ∙ sym (word_at p part x w is);
          }) (λ k d within. all_met (get_or os k d)) in
          ap (apply q.substitution)
          (goal_made h.first.goal (text_at names g.name) (map (block_at names h.first.low) g.arguments.blocks.items)
          (map (part_at names h.first.low) g.arguments.operands.items) (map q.term arguments) (word_terms p part)
          h.first.template put_calls many are)
          ∙ goal_means q (text_at names g.name) arguments

      pub has_put : KeepsWords p q → HasPut atom_word names q (stack nodes frames words)
          (record { name = g.name; behind = place }) arguments all
      has_put keeps = record {
        term = apply (word_terms p part) h.first.goal;
        mark = h.first.mark;
        behind = h.first.behind;
        is =
            h.first.is ∙ ap (λ (ws : List W).
            Goal (Run (apply (word_terms p ws) h.first.goal)) h.first.mark ∷ h.first.behind) (sym h.read);
        name = slice_get_within names g.name (string_bytes h.first.compiled_call.name) loads_now.name;
        value = put_value;
        hold = puts.hold;
        list = chain_words atom_word keeps h.first.list;
      }

-- ---- arguments that are put as words that stand

-- They were put behind a word that came, and are the words that stand now.
pub puts_here : {W : Type 0} (names others : List (List ℕ)) (code : Arguments) (p q s : Present W)
    (part words stand : List W) → Adds p q → others ≡ names → stand ≡ words → Puts others code q s part words
    → Puts names code p s part stand
puts_here {W = W} names others code p q s part words stand adds same is puts =
    subst (λ (ws : List W). Puts names code p s part ws) (sym is)
    (subst (λ (ns : List (List ℕ)). Puts ns code p s part words) same (record {
      many = puts.many;
      hold = puts.hold;
      are = λ own by next low met known are_met.
          puts.are own by next low met (λ x w met_there there. for_on adds.words (known x w met_there there)) are_met;
    }))
