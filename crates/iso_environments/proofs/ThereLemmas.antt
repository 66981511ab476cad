-- The clause whose frame is at a place: its words, and the list that begins at an address of its code.
use Rattle.std.proofs.Common.{◌≡◌, ◌≤◌, ◌+◌, ◌-◌, ℕ, List, ◌++◌, length, take, drop, get_or, Option, Some, refl, sym, ap, ◌∙◌, arith}
use Rattle.std.specs.Global.{Global}
use Rattle.std.specs.declared.rc.Rc.{Rc}
use Rattle.std.proofs.lemmas.List.{length-drop, length-take, drop-take}
use Rattle.std.proofs.lemmas.Option.{slice_get_read}
use Rattle.iso_model.specs.Search.Walker.{Member}
use Rattle.iso_store_core.specs.Presents.{Present}
use Rattle.iso_prep.specs.declared.bodies.Node.{Node}
use Rattle.iso_instructions.specs.declared.instructions.Code.{Code}
use Rattle.iso_frames.specs.declared.frames.Rest.{Rest}
use Rattle.iso_frames.specs.declared.frames.Level.{Level}
use Rattle.iso_frames.specs.declared.frames.Frame.{Frame}
use Rattle.iso_frames.specs.declared.frames.Work.TheVariants.{Clause}
use Rattle.iso_frames.specs.Running.{Left}
use Rattle.iso_frames.specs.Frames.{Chain, a_clause, environment, IsBefore}
use Rattle.iso_frames.proofs.ChainLemmas.{AtClause, chain_place, chain_before, chain_clause}
use Rattle.iso_environments.specs.Stacks.{stack}
use Rattle.iso_environments.specs.Leveled.{IsAtClause}

-- ---- the words of the clause's variables

-- they are as many as the clause has variables, so the top is no lower
pub environment_low : {W : Type 0} (words : List W) (top : ℕ) (code : Code)
    → length (environment words top code) ≡ code.variables → code.variables ≤ top
environment_low words top code many =
    let long = length-drop (top - code.variables) (take top words) in
    let front = length-take top words in
    omega (arith, many, long, front)

-- they are read so, where the code was read
pub environment_read : {W : Type 0} (words : List W) (top : ℕ) (code read : Code) → code.variables ≤ top → read ≡ code
    → take (top - (top - read.variables)) (drop (top - read.variables) words) ≡ environment words top code
environment_read {W = W} words top code read low same =
    let base = top - code.variables in
    let whole : base + (top - base) ≡ top = omega (arith, low) in
    ap (λ (c : Code). take (top - (top - c.variables)) (drop (top - c.variables) words)) same
    ∙ (sym (drop-take base (top - base) words) ∙ ap (λ (n : ℕ). drop base (take n words)) whole)

-- ---- the list

module _ {W : Type 0} (atom_word : ℕ → W) {p : Present W} {nodes : List (Node W)} {frames : List Frame} {words : List W}
    {r : Rest} {all : List Member} (list : Chain atom_word p (stack nodes frames words) (Some r) all) where
  -- there is a frame, and this one was read
  pub clause_read : (f : Frame) (code : Rc Code Global) (level : Option Level) → f ≡ get_or frames r.frame f
      → f.work ≡ Clause code level → IsAtClause frames r f code level
  clause_read f code level is work = record {
    at = slice_get_read frames (length frames) r.frame f refl (chain_place atom_word list) is;
    work = work;
  }

  module _ {f : Frame} {code : Rc Code Global} {level : Option Level} (at : IsAtClause frames r f code level) where
    pub clause_there : AtClause atom_word p (stack nodes frames words) r f code level all
    clause_there = chain_clause atom_word at.at code level at.work list

    pub clause_before : IsBefore f.behind r.frame
    clause_before = chain_before atom_word at.at list

    -- where the clause goes on at another address, the list begins there
    pub clause_on : (h : AtClause atom_word p (stack nodes frames words) r f code level all) (address : ℕ)
        {ms : List Member}
        → Left atom_word p code.value (environment words f.top code.value) f.height h.kept address ms
        → Chain atom_word p (stack nodes frames words) (Some (record { frame = r.frame; address = address }))
        (ms ++ h.behind)
    clause_on h address left =
        a_clause (record { is = at.at }) clause_before at.work h.levels left h.under h.within h.chain refl
