-- The code of a clause's body, and the list that begins at its frame.
use Rattle.std.proofs.Common.{◌≡◌, ◌<◌, ◌-◌, ◌+◌, ℕ, List, [], ◌∷◌, ◌++◌, length, Bool, true, false, Option, Some, None, refl, sym, ap, ◌∙◌, subst, arith, length-append, if◌then◌else◌}
use Rattle.std.specs.Global.{Global}
use Rattle.std.specs.List.{slice_get}
use Rattle.std.specs.declared.rc.Rc.{Rc}
use Rattle.std.proofs.lemmas.Bool.{false≢true}
use Rattle.iso_model.specs.Search.Bodies.{Body, is_true}
use Rattle.iso_model.specs.Search.Databases as databases
use Rattle.iso_model.specs.Search.Walker as walker
use Rattle.iso_store_core.specs.Presents.{Present}
use Rattle.iso_prep.specs.Classes.{goals_of}
use Rattle.iso_prep.specs.declared.bodies.Node.{Node}
use Rattle.iso_compile.specs.Clauses.{body_members}
use Rattle.iso_compile.specs.Control.{Goal, Continues}
use Rattle.iso_compile.specs.declared.control.Mark.TheVariants as mark
use Rattle.iso_code.proofs.LoadedLemmas.{zip_many}
use Rattle.iso_program.specs.Kept.{AreTemplates}
use Rattle.iso_search_core.specs.Bodies.{body_cost}
use Rattle.iso_instructions.specs.declared.instructions.Code.{Code}
use Rattle.iso_instructions.specs.declared.instructions.Instruction.{Instruction}
use Rattle.iso_instructions.specs.declared.instructions.Instruction.TheVariants.{Execute, Proceed}
use Rattle.iso_instructions.specs.Forms.{form_of, is_fact}
use Rattle.iso_bodies.specs.Instructions.{IsLoadedInstruction}
use Rattle.iso_clause_code.specs.Keeping.{KeepsCode}
use Rattle.iso_frames.specs.declared.frames.Rest.{Rest}
use Rattle.iso_frames.specs.declared.frames.Frame.{Frame}
use Rattle.iso_frames.specs.declared.frames.Work.TheVariants.{Clause}
use Rattle.iso_frames.specs.Running.{FitMembers, IsBody, Remains, Left}
use Rattle.iso_frames.specs.Frames.{no_level, Chain}
use Rattle.iso_frames.specs.Costs.{cost_of, pending_of, cells_from, work_cost, work_cells}
use Rattle.iso_frames.proofs.GoingLemmas.{remains_end}
use Rattle.iso_frames.proofs.PushLemmas.{clause_entered}
use Rattle.iso_frames.proofs.CostLemmas.{newest_count}
use Rattle.iso_environments.specs.Stacks.{stack}
use Rattle.iso_environments.specs.Entered.{HasEnvironment, clause_members}

members_fit : (n : ℕ) (b : Body) (alone : Bool) → AreTemplates n (goals_of b)
    → FitMembers n (if alone then [] else Goal b mark.Clause ∷ [])
members_fit n b true goals = tt
members_fit n b false goals = (goals, tt)

alone_end : (code : List Instruction) → is_fact (form_of code) ≡ true → slice_get code (length code - 1) ≡ Some Proceed
alone_end [] alone = absurd (false≢true alone)
alone_end (Proceed ∷ []) alone = refl
alone_end (i ∷ []) alone = absurd (false≢true alone)
alone_end (i ∷ Execute g ∷ []) alone = absurd (false≢true alone)
alone_end (i ∷ Execute g ∷ j ∷ code) alone = absurd (false≢true alone)
alone_end (i ∷ j ∷ code) alone = absurd (false≢true alone)

module _ {names : List (List ℕ)} {code : Code} {c : databases.Clause} (k : KeepsCode names code c) where
  abbrev pub body_kept : IsBody
  body_kept = record { names = names; plan = k.plan; body = k.compiled.body.items }

  body_many : length k.compiled.body.items ≡ length code.body.items
  body_many = sym (zip_many (IsLoadedInstruction names k.plan.registers) k.compiled.body.items code.body.items k.loaded.body)

  -- there is an instruction
  pub body_some : 0 < length code.body.items
  body_some = (let many = body_many in let some = k.is.does.some in omega (arith, many, some))

  -- where the code begins, the whole body is left
  pub body_remains : Remains body_kept code (length code.body.items - 1) (body_members true c.body)
  body_remains = record {
    loaded = k.loaded.body;
    continues = subst (λ (n : ℕ). Continues k.plan k.compiled.body.items (n - 1) (body_members true c.body)) body_many
        k.is.does.goes;
    fit = subst (λ (n : ℕ). FitMembers n (body_members true c.body)) (sym k.loaded.variables)
        (members_fit c.variables c.body (is_true c.body) k.goals);
  }

  -- where the code only ends, the body is no goal
  pub fact_body : is_fact code.form ≡ true → body_members true c.body ≡ []
  fact_body alone = remains_end body_remains (alone_end code.body.items (ap is_fact (sym code.formed) ∙ alone))

-- the frame of a clause that was entered
abbrev pub entered : Rc Code Global → ℕ → ℕ → Option Rest → Frame
entered code height top behind = record { work = Clause code None; height = height; top = top; behind = behind }

module _ {W : Type 0} (atom_word : ℕ → W) {p : Present W} where
  pub body_left : {names : List (List ℕ)} {code : Code} {c : databases.Clause} {words : List W} (height : ℕ)
      → HasEnvironment atom_word p names code c words
      → Left atom_word p code words height (λ slot. 0) (length code.body.items - 1) (clause_members p words height c)
  body_left {c = c} height h = record {
    body = body_kept h.keeps;
    left = body_members true c.body;
    known = h.known;
    remains = body_remains h.keeps;
    many = h.many;
    hold = h.hold;
    are = refl;
  }

  -- the list that begins at a frame that was entered, whose code is a copy
  pub entered_list : (nodes : List (Node W)) {names : List (List ℕ)} {c : databases.Clause} (below words : List W)
      {ms : List walker.Member} (copy : Rc Code Global) (code : Code) (height : ℕ) (behind : Option Rest)
      (old new : List Frame) (all : List W) (frame address : ℕ) → copy.value ≡ code → all ≡ below ++ words
      → HasEnvironment atom_word p names code c words → Chain atom_word p (stack nodes old below) behind ms
      → new ≡ old ++ entered copy height (length all) behind ∷ [] → frame ≡ length old
      → address ≡ length code.body.items - 1
      → Chain atom_word p (stack nodes new all) (Some (record { frame = frame; address = address }))
      (clause_members p words height c ++ ms)
  entered_list nodes {names = names} {c = c} below words {ms = ms} copy code height behind old new all frame address same alls h list news frames addresses =
      let f = entered copy height (length all) behind in
      let last = length copy.value.body.items - 1 in
      let long = ap length alls ∙ length-append below words in
      let mine : HasEnvironment atom_word p names copy.value c words =
      subst (λ (v : Code). HasEnvironment atom_word p names v c words) (sym same) h in
      let there = clause_entered atom_word (stack nodes old below) f words copy None (λ slot. 0) last refl long no_level
      (body_left height mine) list in
      let address_is : address ≡ last = addresses ∙ ap (λ (v : Code). length v.body.items - 1) (sym same) in
      let leads = λ (gs : List Frame) (ws : List W) (n a : ℕ).
      Chain atom_word p (stack nodes gs ws) (Some (record { frame = n; address = a }))
      (clause_members p words height c ++ ms) in
      subst (λ (n : ℕ). leads new all n address) (sym frames)
      (subst (λ (a : ℕ). leads new all (length old) a) (sym address_is)
      (subst (λ (gs : List Frame). leads gs all (length old) last) (sym news)
      (subst (λ (ws : List W). leads (old ++ f ∷ []) ws (length old) last) (sym alls) there)))

-- what is to be done from the new frame on, and how many cells its goals are still to take
module _ (copy : Rc Code Global) (code : Code) (height top : ℕ) (behind : Option Rest) (old new : List Frame)
    (frame address : ℕ) (same : copy.value ≡ code) (news : new ≡ old ++ entered copy height top behind ∷ [])
    (frames : frame ≡ length old) (addresses : address ≡ length code.body.items - 1) where
  abbrev last : ℕ
  last = length code.body.items - 1

  pub entered_cost : cost_of new (Some (record { frame = frame; address = address }))
      ≡ body_cost last (cost_of old behind)
  entered_cost =
      ap (λ (fs : List Frame). cost_of fs (Some (record { frame = frame; address = address }))) news
      ∙ (ap (λ (n : ℕ). cost_of (old ++ entered copy height top behind ∷ [])
      (Some (record { frame = n; address = address }))) frames
      ∙ (newest_count work_cost 1 old (entered copy height top behind) address
      ∙ ap (λ (n : ℕ). body_cost n (cost_of old behind)) addresses))

  pub entered_pending : pending_of new (Some (record { frame = frame; address = address }))
      ≡ cells_from code last + pending_of old behind
  entered_pending =
      ap (λ (fs : List Frame). pending_of fs (Some (record { frame = frame; address = address }))) news
      ∙ (ap (λ (n : ℕ). pending_of (old ++ entered copy height top behind ∷ [])
      (Some (record { frame = n; address = address }))) frames
      ∙ (newest_count work_cells 0 old (entered copy height top behind) address
      ∙ (ap (λ (v : Code). cells_from v address + pending_of old behind) same
      ∙ ap (λ (n : ℕ). cells_from code n + pending_of old behind) addresses)))
