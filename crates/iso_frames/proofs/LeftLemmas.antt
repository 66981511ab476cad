-- What is left of a clause's body, and what its instruction does with it: as members of the search's list.
use Rattle.std.proofs.Common.{◌≡◌, ℕ, zero, suc, ◌≤◌, List, [], ◌∷◌, ◌++◌, ◌⊎◌, inl, inr, Some, refl, sym, ap, ap₂, ◌∙◌, subst, arith}
use Rattle.std.specs.List.{AllZip, slice_get}
use Rattle.iso_model.specs.Terms.Trees.{Tree}
use Rattle.iso_model.specs.Terms.Substitutions.{Subst, apply}
use Rattle.iso_model.specs.Search.Bodies as bodies
use Rattle.iso_model.specs.Search.Bodies.{Body, Run, And, Or, If, Choose, map_body}
use Rattle.iso_model.specs.Search.Walker as walker
use Rattle.iso_model.specs.Search.RunLaws.Sameness.{open_list}
use Rattle.iso_store_core.specs.Presents.{Present}
use Rattle.iso_prep.specs.Classes.{goals_of}
use Rattle.iso_compile.specs.Control.{Member, Goal, CutTo, IsOlder, AreOlder, IsCall, Continues, height}
use Rattle.iso_compile.specs.ControlLaws.{with_level}
use Rattle.iso_compile.specs.Evaluations.{ComesTo}
use Rattle.iso_compile.specs.declared.control.Mark.{Mark}
use Rattle.iso_compile.specs.declared.control.Mark.TheVariants.{Clause, Level, AboveLevel}
use Rattle.iso_compile.specs.declared.control.Instruction as compiled
use Rattle.iso_compile.specs.declared.control.Instruction.TheVariants as control
use Rattle.iso_compile.specs.declared.goals.Call as called_goal
use Rattle.iso_program.specs.Kept.{IsTemplate}
use Rattle.iso_program.proofs.ClauseLemmas.{templates-parts}
use Rattle.iso_search_core.specs.Words.{word_terms}
use Rattle.iso_instructions.specs.declared.instructions.Goal as loaded
use Rattle.iso_instructions.specs.declared.instructions.Code.{Code}
use Rattle.iso_instructions.specs.declared.instructions.Instruction.{Instruction}
use Rattle.iso_instructions.specs.declared.instructions.Instruction.TheVariants.{Call, Execute, Is, Compare, Cut, GetLevel, TryElse, Jump}
use Rattle.iso_bodies.specs.Instructions.{IsLoadedGoal, IsLoadedInstruction}
use Rattle.iso_frames.specs.Running.{IsBody, Knows, FitMembers, Stops, Left, placed}
use Rattle.iso_frames.proofs.ActionLemmas.{opened, acts, Acts, CallsThere, ExecutesThere, AnswersThere, CutsThere, TriesThere, CommitsThere, ChoosesThere}
use Rattle.iso_frames.proofs.GoingLemmas.{zip_at}
use Rattle.iso_frames.proofs.LevelLemmas.{with_same, with_other}

zip_there : {A B : Type 0} (R : A → B → Type 0) (xs : List A) (ys : List B) (i : ℕ) (x : A) → AllZip R xs ys
    → slice_get xs i ≡ Some x → (y : B) × (slice_get ys i ≡ Some y) × R x y
zip_there R [] [] i x h is = absurd (cc)
zip_there R [] (z ∷ ys) i x h is = absurd h
zip_there R (z ∷ xs) [] i x h is = absurd h
zip_there R (z ∷ xs) (y ∷ ys) zero x h is = (let same : z ≡ x = cc in (y, refl, subst (λ (w : _). R w y) same h.0))
zip_there R (z ∷ xs) (y ∷ ys) (suc i) x h is = zip_there R xs ys i x h.1 is

-- ---- a slot that takes another level

older_height : (k n called : ℕ) (kept : ℕ → ℕ) (m : Mark) → IsOlder k m
    → height called (with_level k n kept) m ≡ height called kept m
older_height k n called kept Clause older = refl
older_height k n called kept (Level j) older = with_other k n j kept (λ e. omega (arith, e, older))
older_height k n called kept (AboveLevel j) older = ap suc (with_other k n j kept (λ e. omega (arith, e, older)))

-- members that need none of its levels
placed_older : (s : Subst) (k n called : ℕ) (kept : ℕ → ℕ) (ms : List Member) → AreOlder k ms
    → placed s called (with_level k n kept) ms ≡ placed s called kept ms
placed_older s k n called kept [] older = refl
placed_older s k n called kept (Goal b m ∷ ms) older =
    ap₂ (λ (h : ℕ) (xs : List walker.Member). walker.Goal (map_body s b) h ∷ xs)
    (older_height k n called kept m older.0) (placed_older s k n called kept ms older.1)
placed_older s k n called kept (CutTo m ∷ ms) older =
    ap₂ (λ (h : ℕ) (xs : List walker.Member). walker.CutTo h ∷ xs) (older_height k n called kept m older.0)
    (placed_older s k n called kept ms older.1)

module _ {W : Type 0} (atom_word : ℕ → W) (p : Present W) (code : Code) (ws : List W) (called : ℕ) where
  -- the body is left at this address
  abbrev pub LeftAt : (ℕ → ℕ) → ℕ → List walker.Member → Type 0
  LeftAt kept a ms = Left atom_word p code ws called kept a ms

  module _ (kept : ℕ → ℕ) (a : ℕ) (ms : List walker.Member) where
    -- a goal is called, and then code goes on at the address below
    pub record CallLeft (g : loaded.Goal) : Type 0 where
      pub below : ℕ
      pub is : a ≡ suc below
      pub body : IsBody
      pub known : Knows atom_word p body.names
      pub compiled_call : called_goal.Call
      pub loads : IsLoadedGoal body.names body.plan.registers compiled_call g
      pub goal : Tree
      pub call : IsCall body.plan.registers compiled_call goal
      pub template : IsTemplate code.variables goal
      pub mark : ℕ
      pub behind : List walker.Member
      pub are : open_list ms ≡ walker.Goal (Run (apply (word_terms p ws) goal)) mark ∷ behind
      pub left : LeftAt kept below behind

    -- the last goal is called
    pub record ExecuteLeft (g : loaded.Goal) : Type 0 where
      pub body : IsBody
      pub known : Knows atom_word p body.names
      pub compiled_call : called_goal.Call
      pub loads : IsLoadedGoal body.names body.plan.registers compiled_call g
      pub goal : Tree
      pub call : IsCall body.plan.registers compiled_call goal
      pub template : IsTemplate code.variables goal
      pub mark : ℕ
      pub are : open_list ms ≡ walker.Goal (Run (apply (word_terms p ws) goal)) mark ∷ []

    -- arithmetic is done
    pub record AnswerLeft (i : Instruction) : Type 0 where
      pub below : ℕ
      pub is : a ≡ suc below
      pub body : IsBody
      pub known : Knows atom_word p body.names
      pub compiled_instruction : compiled.Instruction
      pub loads : IsLoadedInstruction body.names body.plan.registers compiled_instruction i
      pub goal : Tree
      pub comes : ComesTo compiled_instruction goal
      pub template : IsTemplate code.variables goal
      pub mark : ℕ
      pub behind : List walker.Member
      pub are : open_list ms ≡ walker.Goal (Run (apply (word_terms p ws) goal)) mark ∷ behind
      pub left : LeftAt kept below behind

    -- a cut is done
    pub record CutLeft (m : Mark) : Type 0 where
      pub below : ℕ
      pub is : a ≡ suc below
      pub behind : List walker.Member
      pub are : (open_list ms ≡ walker.Goal bodies.Cut (height called kept m) ∷ behind)
          ⊎ (open_list ms ≡ walker.CutTo (height called kept m) ∷ behind)
      pub left : LeftAt kept below behind

    -- a disjunction
    pub record TryLeft (l : ℕ) : Type 0 where
      pub below : ℕ
      pub is : a ≡ suc below
      pub low : l ≤ below
      pub first : Body
      pub other : Body
      pub mark : ℕ
      pub behind : List walker.Member
      pub are : open_list ms ≡ walker.Goal (Or first other) mark ∷ behind
      pub here : LeftAt kept below (walker.Goal first mark ∷ behind)
      pub there : LeftAt kept l (walker.Goal other mark ∷ behind)

    -- an if-then, where the slot keeps a height
    pub record CommitLeft (k : ℕ) : Type 0 where
      pub below : ℕ
      pub is : a ≡ suc below
      pub condition : Body
      pub next : Body
      pub mark : ℕ
      pub behind : List walker.Member
      pub are : open_list ms ≡ walker.Goal (If condition next) mark ∷ behind
      pub here : (n : ℕ) → LeftAt (with_level k n kept) below
          (walker.Goal condition n ∷ walker.CutTo n ∷ walker.Goal next mark ∷ behind)

    -- an if-then-else, where the slot keeps a height: an alternative is kept at the address below
    pub record ChooseLeft (k : ℕ) : Type 0 where
      pub below : ℕ
      pub is : a ≡ suc (suc below)
      pub alternative : ℕ
      pub try : slice_get code.body.items (suc below) ≡ Some (TryElse alternative)
      pub low : alternative ≤ below
      pub condition : Body
      pub next : Body
      pub other : Body
      pub mark : ℕ
      pub behind : List walker.Member
      pub are : open_list ms ≡ walker.Goal (Choose condition next other) mark ∷ behind
      pub here : (n : ℕ) → LeftAt (with_level k n kept) below
          (walker.Goal condition (suc n) ∷ walker.CutTo n ∷ walker.Goal next mark ∷ behind)
      pub there : (n : ℕ) → LeftAt (with_level k n kept) alternative (walker.Goal other mark ∷ behind)

    -- what is left where this instruction is, which does something
    abbrev pub LeftActs : Instruction → Type 0
    LeftActs (Call g) = CallLeft g
    LeftActs (Execute g) = ExecuteLeft g
    LeftActs (Is o js) = AnswerLeft (Is o js)
    LeftActs (Compare c js) = AnswerLeft (Compare c js)
    LeftActs (Cut m) = CutLeft m
    LeftActs (GetLevel k) = CommitLeft k ⊎ ChooseLeft k
    LeftActs (TryElse l) = TryLeft l
    LeftActs i = Unit {0}

  module _ {kept : ℕ → ℕ} {a : ℕ} {ms : List walker.Member} (h : LeftAt kept a ms) where
    abbrev terms : Subst
    terms = word_terms p ws

    -- the same body at another address
    on : (levels : ℕ → ℕ) (b : ℕ) (rest : List Member) → Continues h.body.plan h.body.body b rest
        → FitMembers code.variables rest → LeftAt levels b (placed terms called levels rest)
    on levels b rest continues fit = record {
      body = h.body;
      left = rest;
      known = h.known;
      remains = record { loaded = h.remains.loaded; continues = continues; fit = fit };
      many = h.many;
      hold = h.hold;
      are = refl;
    }

    -- the members that the instruction is for
    module _ (xs : List Member) (fit : FitMembers code.variables xs)
        (members : open_list ms ≡ placed terms called kept xs) where
      they_are : (ys : List Member) → xs ≡ ys → open_list ms ≡ placed terms called kept ys
      they_are ys same = members ∙ ap (λ (zs : List Member). placed terms called kept zs) same

      fit_there : (ys : List Member) → xs ≡ ys → FitMembers code.variables ys
      fit_there ys same = subst (FitMembers code.variables) same fit

      call_acts : (c : called_goal.Call) (g : loaded.Goal) → IsLoadedGoal h.body.names h.body.plan.registers c g
          → CallsThere h.body.plan h.body.body a xs c → CallLeft kept a ms g
      call_acts c g loads t =
          let fits : FitMembers code.variables (Goal (Run t.goal) t.mark ∷ t.rest) =
          fit_there (Goal (Run t.goal) t.mark ∷ t.rest) t.are in
          record {
            below = t.below;
            is = t.is;
            body = h.body;
            known = h.known;
            compiled_call = c;
            loads = loads;
            goal = t.goal;
            call = t.call;
            template = (fits.0).0;
            mark = height called kept t.mark;
            behind = placed terms called kept t.rest;
            are = they_are (Goal (Run t.goal) t.mark ∷ t.rest) t.are;
            left = on kept t.below t.rest t.on fits.1;
          }

      execute_acts : (c : called_goal.Call) (g : loaded.Goal) → IsLoadedGoal h.body.names h.body.plan.registers c g
          → ExecutesThere h.body.plan h.body.body a xs c → ExecuteLeft kept a ms g
      execute_acts c g loads t =
          let fits : FitMembers code.variables (Goal (Run t.goal) t.mark ∷ []) =
          fit_there (Goal (Run t.goal) t.mark ∷ []) t.are in
          record {
            body = h.body;
            known = h.known;
            compiled_call = c;
            loads = loads;
            goal = t.goal;
            call = t.call;
            template = (fits.0).0;
            mark = height called kept t.mark;
            are = they_are (Goal (Run t.goal) t.mark ∷ []) t.are;
          }

      answer_acts : (c : compiled.Instruction) (i : Instruction)
          → IsLoadedInstruction h.body.names h.body.plan.registers c i → AnswersThere h.body.plan h.body.body a xs c
          → AnswerLeft kept a ms i
      answer_acts c i loads t =
          let fits : FitMembers code.variables (Goal (Run t.goal) t.mark ∷ t.rest) =
          fit_there (Goal (Run t.goal) t.mark ∷ t.rest) t.are in
          record {
            below = t.below;
            is = t.is;
            body = h.body;
            known = h.known;
            compiled_instruction = c;
            loads = loads;
            goal = t.goal;
            comes = t.comes;
            template = (fits.0).0;
            mark = height called kept t.mark;
            behind = placed terms called kept t.rest;
            are = they_are (Goal (Run t.goal) t.mark ∷ t.rest) t.are;
            left = on kept t.below t.rest t.on fits.1;
          }

      cut_acts : (m : Mark) → CutsThere h.body.plan h.body.body a xs m → CutLeft kept a ms m
      cut_acts m t =
          elim t.are [
            | inl same ↦ record {
              below = t.below;
              is = t.is;
              behind = placed terms called kept t.rest;
              are = inl (they_are (Goal bodies.Cut m ∷ t.rest) same);
              left = on kept t.below t.rest t.on (fit_there (Goal bodies.Cut m ∷ t.rest) same).1;
            }
            | inr same ↦ record {
              below = t.below;
              is = t.is;
              behind = placed terms called kept t.rest;
              are = inr (they_are (CutTo m ∷ t.rest) same);
              left = on kept t.below t.rest t.on (fit_there (CutTo m ∷ t.rest) same);
            }
          ]

      try_acts : (l : ℕ) → TriesThere h.body.plan h.body.body a xs l → TryLeft kept a ms l
      try_acts l t =
          let fits : FitMembers code.variables (Goal (Or t.first t.other) t.mark ∷ t.rest) =
          fit_there (Goal (Or t.first t.other) t.mark ∷ t.rest) t.are in
          let both = templates-parts code.variables (goals_of t.first) (goals_of t.other) fits.0 in
          record {
            below = t.below;
            is = t.is;
            low = t.low;
            first = map_body terms t.first;
            other = map_body terms t.other;
            mark = height called kept t.mark;
            behind = placed terms called kept t.rest;
            are = they_are (Goal (Or t.first t.other) t.mark ∷ t.rest) t.are;
            here = on kept t.below (Goal t.first t.mark ∷ t.rest) t.here (both.0, fits.1);
            there = on kept l (Goal t.other t.mark ∷ t.rest) t.there (both.1, fits.1);
          }

      commit_acts : (k : ℕ) → CommitsThere h.body.plan h.body.body a xs k → CommitLeft kept a ms k
      commit_acts k t =
          let fits : FitMembers code.variables (Goal (If t.condition t.next) t.mark ∷ t.rest) =
          fit_there (Goal (If t.condition t.next) t.mark ∷ t.rest) t.are in
          let both = templates-parts code.variables (goals_of t.condition) (goals_of t.next) fits.0 in
          record {
            below = t.below;
            is = t.is;
            condition = map_body terms t.condition;
            next = map_body terms t.next;
            mark = height called kept t.mark;
            behind = placed terms called kept t.rest;
            are = they_are (Goal (If t.condition t.next) t.mark ∷ t.rest) t.are;
            here = λ n. subst (LeftAt (with_level k n kept) t.below)
                (ap₂ (λ (v : ℕ) (ys : List walker.Member). walker.Goal (map_body terms t.condition) v
                ∷ walker.CutTo v ∷ ys) (with_same k n kept)
                (placed_older terms k n called kept (Goal t.next t.mark ∷ t.rest) t.older))
                (on (with_level k n kept) t.below
                (Goal t.condition (Level k) ∷ CutTo (Level k) ∷ Goal t.next t.mark ∷ t.rest) t.here
                (both.0, (both.1, fits.1)));
          }

      choose_acts : (k : ℕ) → ChoosesThere h.body.plan h.body.body a xs k → ChooseLeft kept a ms k
      choose_acts k t =
          let fits : FitMembers code.variables (Goal (Choose t.condition t.next t.other) t.mark ∷ t.rest) =
          fit_there (Goal (Choose t.condition t.next t.other) t.mark ∷ t.rest) t.are in
          let all = templates-parts code.variables (goals_of t.condition)
          (goals_of t.next ++ goals_of t.other) fits.0 in
          let both = templates-parts code.variables (goals_of t.next) (goals_of t.other) all.1 in
          let next = zip_there (IsLoadedInstruction h.body.names h.body.plan.registers) h.body.body code.body.items
          (suc t.below) (control.TryElse t.alternative) h.remains.loaded t.try in
          record {
            below = t.below;
            is = t.is;
            alternative = t.alternative;
            try = next.1 ∙ ap Some next.2;
            low = t.low;
            condition = map_body terms t.condition;
            next = map_body terms t.next;
            other = map_body terms t.other;
            mark = height called kept t.mark;
            behind = placed terms called kept t.rest;
            are = they_are (Goal (Choose t.condition t.next t.other) t.mark ∷ t.rest) t.are;
            here = λ n. subst (LeftAt (with_level k n kept) t.below)
                (ap₂ (λ (v : ℕ) (ys : List walker.Member). walker.Goal (map_body terms t.condition) (suc v)
                ∷ walker.CutTo v ∷ ys) (with_same k n kept)
                (placed_older terms k n called kept (Goal t.next t.mark ∷ t.rest) t.older))
                (on (with_level k n kept) t.below
                (Goal t.condition (AboveLevel k) ∷ CutTo (Level k) ∷ Goal t.next t.mark ∷ t.rest) t.here
                (all.0, (both.0, fits.1)));
            there = λ n. subst (LeftAt (with_level k n kept) t.alternative)
                (placed_older terms k n called kept (Goal t.other t.mark ∷ t.rest) t.older)
                (on (with_level k n kept) t.alternative (Goal t.other t.mark ∷ t.rest) t.there (both.1, fits.1));
          }

      by_instruction : (c : compiled.Instruction) (i : Instruction)
          → IsLoadedInstruction h.body.names h.body.plan.registers c i → Acts h.body.plan h.body.body a xs c
          → LeftActs kept a ms i
      by_instruction (control.Call c) i e t = subst (LeftActs kept a ms) (sym e.1) (call_acts c e.0 e.2 t)
      by_instruction (control.Execute c) i e t = subst (LeftActs kept a ms) (sym e.1) (execute_acts c e.0 e.2 t)
      by_instruction (control.Is q ks) i e t =
          subst (LeftActs kept a ms) (sym e.2) (answer_acts (control.Is q ks) (Is e.0 e.1) (e.0, e.1, refl, e.3, e.4) t)
      by_instruction (control.Compare c ks) i e t =
          subst (LeftActs kept a ms) (sym e.1) (answer_acts (control.Compare c ks) (Compare c e.0) (e.0, refl, e.2) t)
      by_instruction control.Proceed i e t = subst (LeftActs kept a ms) (sym e) tt
      by_instruction (control.Cut m) i e t = subst (LeftActs kept a ms) (sym e) (cut_acts m t)
      by_instruction (control.GetLevel k) i e t =
          subst (LeftActs kept a ms) (sym e) (elim t [ inl c ↦ inl (commit_acts k c) | inr c ↦ inr (choose_acts k c) ])
      by_instruction (control.TryElse l) i e t = subst (LeftActs kept a ms) (sym e) (try_acts l t)
      by_instruction (control.Jump l) i e t = subst (LeftActs kept a ms) (sym e) tt

    -- where the instruction there does something, it does what the first member of the list is
    pub left_acts : Stops code a → (i : Instruction) → slice_get code.body.items a ≡ Some i → LeftActs kept a ms i
    left_acts stops i there =
        let c = zip_at (IsLoadedInstruction h.body.names h.body.plan.registers) h.body.body code.body.items a i
        h.remains.loaded there in
        let one = opened (λ l e. stops.jump l (there ∙ ap Some (is_jump c.0 l c.1 e c.2))) h.remains.continues in
        by_instruction one.members (one.fits code.variables h.remains.fit)
        (ap open_list h.are ∙ one.same terms called kept) c.0 i c.2
        (acts h.body.plan h.body.body c.0 c.1 one.apart one.continues)
      where
        is_jump : (c : compiled.Instruction) (l : ℕ) → slice_get h.body.body a ≡ Some c
            → slice_get h.body.body a ≡ Some (control.Jump l)
            → IsLoadedInstruction h.body.names h.body.plan.registers c i → i ≡ Jump l
        is_jump c l at e loads =
            let whole : Some c ≡ Some (control.Jump l) = sym at ∙ e in
            let same : c ≡ control.Jump l = cc in
            subst (λ (d : compiled.Instruction). IsLoadedInstruction h.body.names h.body.plan.registers d i) same loads
