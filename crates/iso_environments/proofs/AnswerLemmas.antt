-- The arithmetic that the code of a frame has: its goal comes first of the list.
use Rattle.std.proofs.Common.{◌≡◌, ◌<◌, ◌-◌, ℕ, suc, List, ◌∷◌, ◌++◌, length, get_or, take, drop, Option, Some, refl, sym, ap, ◌∙◌, subst, arith, Result}
use Rattle.std.specs.Prelude.{Vec}
use Rattle.std.specs.Global.{Global}
use Rattle.std.specs.List.{All, AllZip, slice_get}
use Rattle.std.specs.declared.rc.Rc.{Rc}
use Rattle.std.proofs.lemmas.Option.{slice_get_within, slice_get_read}
use Rattle.iso_atoms.specs.Texts.{text_at}
use Rattle.iso_model.specs.Terms.Trees.{Tree, Name}
use Rattle.iso_model.specs.Terms.Substitutions.{Subst, apply}
use Rattle.iso_model.specs.Search.Bodies.{Run}
use Rattle.iso_model.specs.Search.Library.{library_answer}
use Rattle.iso_model.specs.Search.Replies.{Answer}
use Rattle.iso_model.specs.Search.Walker.{Member, Goal}
use Rattle.iso_model.specs.Search.RunLaws.Sameness.{open_list}
use Rattle.iso_model.proofs.Search.RunLaws.Opening.{begins_before}
use Rattle.iso_model.specs.declared.built_ins.BuiltIn.TheVariants.{Library}
use Rattle.iso_model.specs.declared.kinds.Library as row
use Rattle.iso_model.specs.declared.kinds.Library.TheVariants as library
use Rattle.iso_model.specs.declared.kinds.Comparison.{Comparison}
use Rattle.iso_store_core.specs.Presents.{Present, Holds}
use Rattle.iso_lib_core.specs.declared.outcomes.Reply.{Reply}
use Rattle.iso_lib_core.specs.declared.outcomes.Fault.{Fault}
use Rattle.iso_lib_core.specs.Replies.{IsReply}
use Rattle.iso_search_core.specs.GoalKinds.{IsBuiltIn}
use Rattle.iso_search_core.specs.Words.{word_terms}
use Rattle.iso_search_core.proofs.StandingLemmas.{some_same}
use Rattle.iso_prep.specs.declared.bodies.Node.{Node}
use Rattle.iso_program.specs.Kept.{IsTemplate}
use Rattle.iso_compile.specs.Expressions as expressions
use Rattle.iso_compile.specs.Evaluations.{ComesTo, evaluated, compared}
use Rattle.iso_compile.specs.declared.control.Instruction as compiled
use Rattle.iso_code.specs.declared.operands.Operand.{Operand}
use Rattle.iso_code.specs.Loaded.{part_at}
use Rattle.iso_instructions.specs.declared.instructions.Code.{Code}
use Rattle.iso_instructions.specs.declared.instructions.Step.{Step}
use Rattle.iso_instructions.specs.declared.instructions.Instruction.{Instruction}
use Rattle.iso_instructions.specs.declared.instructions.Instruction.TheVariants.{Call, Execute, Is, Compare, Proceed, Cut, GetLevel, TryElse, Jump}
use Rattle.iso_instructions.specs.Steps.{IsStep}
use Rattle.iso_bodies.specs.Instructions.{IsLoadedInstruction}
use Rattle.iso_bodies.proofs.KeptLemmas.{instruction_kept}
use Rattle.iso_frames.specs.declared.frames.Rest.{Rest}
use Rattle.iso_frames.specs.declared.frames.Level.{Level}
use Rattle.iso_frames.specs.declared.frames.Frame.{Frame}
use Rattle.iso_frames.specs.declared.frames.Work.TheVariants.{Clause}
use Rattle.iso_frames.specs.Running.{Knows, Stops}
use Rattle.iso_frames.specs.Frames.{Chain, environment}
use Rattle.iso_frames.specs.Costs.{cells_from}
use Rattle.iso_frames.proofs.ChainLemmas.{AtClause, chain_words}
use Rattle.iso_frames.proofs.LeftLemmas.{AnswerLeft, LeftActs, left_acts}
use Rattle.iso_frames.proofs.CodeCosts.{GoesOn, cost_less, pending_clause, cells_on}
use Rattle.iso_environments.specs.Stacks.{stack}
use Rattle.iso_environments.specs.Leveled.{IsAtClause}
use Rattle.iso_environments.specs.Answering.{IsArithmetic, IsArithmeticAt, IsArithmeticThere, below, IsBelow, HasAnswered}
use Rattle.iso_environments.proofs.GoalLemmas.{names_kept}
use Rattle.iso_evaluation.specs.Running.{StandFor}
use Rattle.iso_environments.proofs.ThereLemmas.{environment_low, environment_read, clause_read, clause_there, clause_before, clause_on}
use Rattle.iso_environments.proofs.ArithmeticLemmas.{IsReady, CompareIsReady, is_ready, compare_ready, values, words_stand, goal_value, is_built_in, compare_built_in, row_same}

-- ---- the instruction

-- it goes on, and takes no cells of its own
arithmetic_goes : (i : Instruction) → IsArithmetic i → GoesOn i
arithmetic_goes (Is left steps) h = λ cells. refl
arithmetic_goes (Compare c steps) h = λ cells. refl
arithmetic_goes (Call g) h = absurd h
arithmetic_goes (Execute g) h = absurd h
arithmetic_goes Proceed h = absurd h
arithmetic_goes (Cut m) h = absurd h
arithmetic_goes (GetLevel k) h = absurd h
arithmetic_goes (TryElse l) h = absurd h
arithmetic_goes (Jump l) h = absurd h

arithmetic_stops : (code : Code) (a : ℕ) (i : Instruction) → slice_get code.body.items a ≡ Some i → IsArithmetic i
    → Stops code a
arithmetic_stops code a i there h = record {
  inside = slice_get_within code.body.items a i there;
  proceed = λ is. (let same : i ≡ Proceed = some_same (sym there ∙ is) in subst IsArithmetic same h);
  jump = λ l is. (let same : i ≡ Jump l = some_same (sym there ∙ is) in subst IsArithmetic same h);
}

-- the instruction there is that of the clause whose frame is there
arithmetic_here : {frames : List Frame} {r : Rest} {f : Frame} {code : Rc Code Global} {level : Option Level}
    → IsAtClause frames r f code level → IsArithmeticThere frames r → IsArithmeticAt code.value.body.items r.address
arithmetic_here {r = r} {code = code} {level = level} at t =
    let frames_same = some_same (sym t.clause.at ∙ at.at) in
    let works : Clause t.code t.level ≡ Clause code level =
    sym t.clause.work ∙ (ap (λ (h : Frame). h.work) frames_same ∙ at.work) in
    let codes : t.code ≡ code = cc in
    subst (λ (c : Rc Code Global). IsArithmeticAt c.value.body.items r.address) codes t.arithmetic

-- another instruction is none
none_arithmetic : (code : List Instruction) (a : ℕ) (i : Instruction) → IsArithmeticAt code a
    → slice_get code a ≡ Some i → IsArithmetic i
none_arithmetic code a i h there = subst IsArithmetic (some_same (sym h.1 ∙ there)) h.2

-- it was read
instruction_read : (code read : Code) (a : ℕ) (i : Instruction) → read ≡ code → IsArithmeticAt code.body.items a
    → i ≡ get_or read.body.items a i → slice_get code.body.items a ≡ Some i
instruction_read code read a i same h is =
    let inside = slice_get_within code.body.items a h.0 h.1 in
    let there = is ∙ ap (λ (c : Code). get_or c.body.items a i) same in
    slice_get_read code.body.items (length code.body.items) a i refl inside there

-- it is `is/2` or a comparison
pub no_other : (i : Instruction) → IsArithmetic i
    → ((left : Operand) (steps : Vec Step Global) → i ≡ Is left steps → ⊥)
    → ((c : Comparison) (steps : Vec Step Global) → i ≡ Compare c steps → ⊥) → ⊥
no_other (Is left steps) h none other = none left steps refl
no_other (Compare c steps) h none other = other c steps refl
no_other (Call g) h none other = h
no_other (Execute g) h none other = h
no_other Proceed h none other = h
no_other (Cut m) h none other = h
no_other (GetLevel k) h none other = h
no_other (TryElse l) h none other = h
no_other (Jump l) h none other = h

-- ---- its goal comes first

module _ {W : Type 0} (atom_word : ℕ → W) (p : Present W) (nodes : List (Node W)) (frames : List Frame) (words : List W)
    (r : Rest) (f : Frame) (code : Rc Code Global) (level : Option Level) (i : Instruction) where
  -- the words of the clause's variables
  abbrev own : List W
  own = environment words f.top code.value

  -- A goal comes first, whose code the instruction is; behind it the list begins one address below.
  pub record IsFirst (all : List Member) : Type 0 where
    pub at : IsAtClause frames r f code level
    pub there : slice_get code.value.body.items r.address ≡ Some i
    pub arithmetic : IsArithmetic i
    pub names : List (List ℕ)
    pub low : ℕ
    pub known : Knows atom_word p names
    pub compiled_instruction : compiled.Instruction
    pub loads : IsLoadedInstruction names low compiled_instruction i
    pub goal : Tree
    pub comes : ComesTo compiled_instruction goal
    pub template : IsTemplate code.value.variables goal
    pub many : length own ≡ code.value.variables
    pub hold : All (Holds p) own
    pub above : 0 < r.address
    pub mark : ℕ
    pub behind : List Member
    pub is : open_list all ≡ Goal (Run (apply (word_terms p own) goal)) mark ∷ behind
    pub list : Chain atom_word p (stack nodes frames words) (Some (below r)) behind

  -- and these are the words of its clause's variables
  pub record IsRead (part : List W) (all : List Member) : Type 0 where
    pub first : IsFirst all
    pub read : part ≡ own

module _ {W : Type 0} (atom_word : ℕ → W) {p : Present W} {nodes : List (Node W)} {frames : List Frame} {words : List W}
    {r : Rest} {all : List Member} (list : Chain atom_word p (stack nodes frames words) (Some r) all) {f : Frame}
    {code : Rc Code Global} {level : Option Level} (at : IsAtClause frames r f code level) (i : Instruction)
    (there : slice_get code.value.body.items r.address ≡ Some i) (arithmetic : IsArithmetic i) where
  answer_first : (h : AtClause atom_word p (stack nodes frames words) r f code level all)
      → AnswerLeft atom_word p code.value (environment words f.top code.value) f.height h.kept r.address h.ms i
      → IsFirst atom_word p nodes frames words r f code level i all
  answer_first h t =
      let address : t.below ≡ r.address - 1 = (let is = t.is in omega (arith, is)) in
      record {
        at = at;
        there = there;
        arithmetic = arithmetic;
        names = t.body.names;
        low = t.body.plan.registers;
        known = t.known;
        compiled_instruction = t.compiled_instruction;
        loads = t.loads;
        goal = t.goal;
        comes = t.comes;
        template = t.template;
        many = h.left.many;
        hold = h.left.hold;
        above = (let is = t.is in omega (arith, is));
        mark = t.mark;
        behind = t.behind ++ h.behind;
        is = ap open_list h.is
            ∙ begins_before h.ms (Goal (Run (apply (word_terms p (environment words f.top code.value)) t.goal)) t.mark)
            t.behind h.behind t.are;
        list =
            subst (λ (a : ℕ). Chain atom_word p (stack nodes frames words)
            (Some (record { frame = r.frame; address = a })) (t.behind ++ h.behind)) address
            (clause_on atom_word list at h t.below t.left);
      }

  arithmetic_first : IsFirst atom_word p nodes frames words r f code level i all
  arithmetic_first =
      let h = clause_there atom_word list at in
      let stops = arithmetic_stops code.value r.address i there arithmetic in
      let acts = left_acts atom_word p code.value (environment words f.top code.value) f.height h.left stops i there in
      answer_first h (by_instruction h i arithmetic acts)
    where
      by_instruction : (h : AtClause atom_word p (stack nodes frames words) r f code level all) (j : Instruction)
          → IsArithmetic j
          → LeftActs atom_word p code.value (environment words f.top code.value) f.height h.kept r.address h.ms j
          → AnswerLeft atom_word p code.value (environment words f.top code.value) f.height h.kept r.address h.ms j
      by_instruction h (Is left steps) is t = t
      by_instruction h (Compare c steps) is t = t
      by_instruction h (Call g) is t = absurd is
      by_instruction h (Execute g) is t = absurd is
      by_instruction h Proceed is t = absurd is
      by_instruction h (Cut m) is t = absurd is
      by_instruction h (GetLevel k) is t = absurd is
      by_instruction h (TryElse l) is t = absurd is
      by_instruction h (Jump l) is t = absurd is

  -- what is to be done below it, and how many cells goals are still to take
  arithmetic_below : IsBelow frames r
  arithmetic_below =
      let before = clause_before atom_word list at in
      let first = arithmetic_first in
      let above = first.above in
      let a = r.address - 1 in
      let address : r.address ≡ suc a = omega (arith, above) in
      let whole = pending_clause frames r f at.at before code level at.work in
      let under = pending_clause frames (below r) f at.at before code level at.work in
      let cells = ap (cells_from code.value) address ∙ cells_on code.value a i
      (subst (λ (n : ℕ). slice_get code.value.body.items n ≡ Some i) address there) (arithmetic_goes i arithmetic) in
      record {
        cost = cost_less frames r f at.at before code level a at.work (omega (arith, above));
        pending = omega (arith, whole, under, cells);
      }

-- the frame was read, its clause's code (twice) and the instruction there
module _ {W : Type 0} (atom_word : ℕ → W) {p : Present W} {nodes : List (Node W)} {frames : List Frame} {words : List W}
    {r : Rest} {all : List Member} (list : Chain atom_word p (stack nodes frames words) (Some r) all)
    (some : IsArithmeticThere frames r) (f : Frame) (code : Rc Code Global) (level : Option Level) (one two : Code)
    (i : Instruction) (frame_is : f ≡ get_or frames r.frame f) (work : f.work ≡ Clause code level)
    (one_is : one ≡ code.value) (two_is : two ≡ code.value) (is : i ≡ get_or two.body.items r.address i) where
  instruction_there : slice_get code.value.body.items r.address ≡ Some i
  instruction_there =
      instruction_read code.value two r.address i two_is
      (arithmetic_here (clause_read atom_word list f code level frame_is work) some) is

  pub is_arithmetic : IsArithmetic i
  is_arithmetic =
      none_arithmetic code.value.body.items r.address i
      (arithmetic_here (clause_read atom_word list f code level frame_is work) some) instruction_there

  pub is_first : IsRead atom_word p nodes frames words r f code level i
      (take (f.top - (f.top - one.variables)) (drop (f.top - one.variables) words)) all
  is_first =
      let at = clause_read atom_word list f code level frame_is work in
      let low = environment_low words f.top code.value (clause_there atom_word list at).left.many in
      record {
        first = arithmetic_first atom_word list at i instruction_there is_arithmetic;
        read = environment_read words f.top code.value one low one_is;
      }

  pub is_below : IsBelow frames r
  is_below =
      arithmetic_below atom_word list (clause_read atom_word list f code level frame_is work) i instruction_there
      is_arithmetic

-- ---- what it comes to

module _ {W : Type 0} {atom_word : ℕ → W} {p : Present W} {nodes : List (Node W)} {frames : List Frame} {words : List W}
    {r : Rest} {f : Frame} {code : Rc Code Global} {level : Option Level} {i : Instruction} {part : List W}
    {all : List Member} (h : IsRead atom_word p nodes frames words r f code level i part all) (names : List (List ℕ))
    (named : (n : ℕ) → Holds p (atom_word n)
    → (n < length names) × (p.term (atom_word n) ≡ Name (text_at names n))) where
  -- the instruction is that of the store's names
  loads_now : IsLoadedInstruction names h.first.low h.first.compiled_instruction i
  loads_now =
      instruction_kept h.first.names names (names_kept atom_word p h.first.names names h.first.known named) h.first.low
      h.first.compiled_instruction i h.first.loads

  pub part_hold : All (Holds p) part
  part_hold = subst (All (Holds p)) (sym h.read) h.first.hold

  template_now : IsTemplate (length part) h.first.goal
  template_now = subst (λ (n : ℕ). IsTemplate n h.first.goal) (sym (ap length h.read ∙ h.first.many)) h.first.template

  -- what the goal stands for
  abbrev value : Tree
  value = apply p.substitution (apply (word_terms p part) h.first.goal)

  -- the code of the goal
  pub is_now : (left : Operand) (steps : Vec Step Global) → i ≡ Is left steps
      → IsReady names (length part) left steps.items h.first.goal
  is_now left steps same =
      is_ready names h.first.low template_now h.first.compiled_instruction left steps
      (subst (IsLoadedInstruction names h.first.low h.first.compiled_instruction) same loads_now) h.first.comes

  pub compare_now : (c : Comparison) (steps : Vec Step Global) → i ≡ Compare c steps
      → CompareIsReady names (length part) c steps.items h.first.goal
  compare_now c steps same =
      compare_ready names h.first.low template_now h.first.compiled_instruction c steps
      (subst (IsLoadedInstruction names h.first.low h.first.compiled_instruction) same loads_now) h.first.comes

  -- a goal that comes first of the list is this one
  first_value : (t : Tree) (mark : ℕ) (behind : List Member) → open_list all ≡ Goal (Run t) mark ∷ behind
      → apply p.substitution t ≡ value
  first_value t mark behind is =
      let there : List W = environment words f.top code.value in
      let goal : Tree = apply (word_terms p there) h.first.goal in
      let both : Goal (Run t) mark ∷ behind ≡ Goal (Run goal) h.first.mark ∷ h.first.behind = sym is ∙ h.first.is in
      let members : Goal (Run t) mark ≡ Goal (Run goal) h.first.mark = cc in
      let bodies : Run t ≡ Run goal = cc in
      let goals : t ≡ goal = cc in
      ap (apply p.substitution) (goals ∙ ap (λ (ws : List W). apply (word_terms p ws) h.first.goal) (sym h.read))

  module _ {q : Present W} where
    -- what is answered is what its row answers
    has_answered : (x : row.Library) (result : Result Reply Fault) → IsBuiltIn value (Library x)
        → IsReply p q (library_answer x value) result
        → HasAnswered atom_word p q (stack nodes frames words) r all result
    has_answered x result of_row replies = record {
      term = apply (word_terms p part) h.first.goal;
      mark = h.first.mark;
      behind = h.first.behind;
      is =
          h.first.is ∙ ap (λ (ws : List W).
          Goal (Run (apply (word_terms p ws) h.first.goal)) h.first.mark ∷ h.first.behind) (sym h.read);
      row = x;
      of_row = of_row;
      replies = replies;
      list = λ keeps. chain_words atom_word keeps h.first.list;
    }

    module _ (c : Comparison) (steps : Vec Step Global) (same : i ≡ Compare c steps) (slice : List Step)
        (slice_is : slice ≡ steps.items) where
      -- where the steps are answered as the table says, the goal is
      pub compare_answered : (result : Result Reply Fault)
          → ((next : ℕ) (s : Subst) (ks : List expressions.Step) → StandFor p part next s
          → AllZip (IsStep names) ks slice → IsReply p q (compared c next s ks) result)
          → HasAnswered atom_word p q (stack nodes frames words) r all result
      compare_answered result replies =
          let ready = compare_now c steps same in
          let ks = ready.ks in
          let steps_are = subst (AllZip (IsStep names) ks) (sym slice_is) ready.ready.are in
          let answer = ready.comes 0 (values p part)
          ∙ ap (library_answer (library.Compare c)) (goal_value p part h.first.goal) in
          has_answered (library.Compare c) result
          (compare_built_in (word_terms p part) p.substitution template_now c ready.named)
          (subst (λ (a : Answer). IsReply p q a result) answer
          (replies 0 (values p part) ks (words_stand p part) steps_are))

  module _ (left : Operand) (steps : Vec Step Global) (same : i ≡ Is left steps) (slice : List Step)
      (slice_is : slice ≡ steps.items) where
    steps_now : AllZip (IsStep names) (is_now left steps same).ks slice
    steps_now =
        subst (AllZip (IsStep names) (is_now left steps same).ks) (sym slice_is)
        (is_now left steps same).ready.are

    is_answer : evaluated 0 (values p part) (part_at names 0 left) (is_now left steps same).ks
        ≡ library_answer library.Is value
    is_answer =
        (is_now left steps same).comes 0 (values p part)
        ∙ ap (library_answer library.Is) (goal_value p part h.first.goal)

    is_row : IsBuiltIn value (Library library.Is)
    is_row = is_built_in (word_terms p part) p.substitution template_now (is_now left steps same).named

    pub is_answered : {q : Present W} (result : Result Reply Fault)
        → ((next : ℕ) (s : Subst) (ks : List expressions.Step) → StandFor p part next s
        → AllZip (IsStep names) ks slice → IsReply p q (evaluated next s (part_at names 0 left) ks) result)
        → HasAnswered atom_word p q (stack nodes frames words) r all result
    is_answered {q = q} result replies =
        has_answered library.Is result is_row (subst (λ (a : Answer). IsReply p q a result) is_answer
        (replies 0 (values p part) (is_now left steps same).ks (words_stand p part) steps_now))

    -- what is said of the answer to the steps is said of the answer to the goal
    pub is_said : (Says : Answer → Type 0)
        → ((next : ℕ) (s : Subst) (ks : List expressions.Step) → StandFor p part next s
        → AllZip (IsStep names) ks slice → Says (evaluated next s (part_at names 0 left) ks))
        → (t : Tree) (mark : ℕ) (behind : List Member) (x : row.Library) → open_list all ≡ Goal (Run t) mark ∷ behind
        → IsBuiltIn (apply p.substitution t) (Library x) → Says (library_answer x (apply p.substitution t))
    is_said Says said t mark behind x first of_row =
        let same_value = first_value t mark behind first in
        let rows = row_same value x library.Is
        (subst (λ (u : Tree). IsBuiltIn u (Library x)) same_value of_row) is_row in
        let one = subst Says is_answer
        (said 0 (values p part) (is_now left steps same).ks (words_stand p part) steps_now) in
        let two = subst (λ (u : Tree). Says (library_answer library.Is u)) (sym same_value) one in
        subst (λ (y : row.Library). Says (library_answer y (apply p.substitution t))) (sym rows) two
