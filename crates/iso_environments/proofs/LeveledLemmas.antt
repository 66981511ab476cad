-- The frame of a clause whose slot keeps another height.
use Rattle.std.proofs.Common.{◌≡◌, ◌-◌, ℕ, List, [], ◌∷◌, ◌++◌, length, get_or, Option, Some, sym, ap, ◌∙◌, subst, arith, append-nil, refl}
use Rattle.std.specs.Global.{Global}
use Rattle.std.specs.List.{slice_get}
use Rattle.std.specs.declared.rc.Rc.{Rc}
use Rattle.std.proofs.lemmas.Option.{slice_get_within, get_or_from_slice_get}
use Rattle.iso_compile.specs.ControlLaws.{with_level}
use Rattle.iso_instructions.specs.declared.instructions.Code.{Code}
use Rattle.iso_frames.specs.declared.frames.Rest.{Rest}
use Rattle.iso_frames.specs.declared.frames.Level.{Level}
use Rattle.iso_frames.specs.declared.frames.Frame.{Frame}
use Rattle.iso_frames.specs.declared.frames.Work.TheVariants.{Clause}
use Rattle.iso_frames.specs.Frames.{Stack, Levels, a_level, Chain, environment}
use Rattle.iso_frames.specs.Running.{Left}
use Rattle.iso_frames.proofs.ChainLemmas.{AtClause}
use Rattle.iso_frames.proofs.PushLemmas.{levels_pushed, clause_pushed, without_words}
use Rattle.iso_model.specs.Search.Walker.{Member}
use Rattle.iso_store_core.specs.Presents.{Present}
use Rattle.iso_prep.specs.declared.bodies.Node.{Node}
use Rattle.iso_environments.specs.Stacks.{stack}
use Rattle.iso_environments.specs.Leveled.{IsAtClause, level_at, HasLeveled}

-- the same clause, whose slot keeps this height
abbrev pub leveled : Rest → ℕ → ℕ → Frame → Rc Code Global → Frame
leveled r slot height f code = record {
  work = Clause code (Some (level_at r slot height));
  height = f.height;
  top = f.top;
  behind = f.behind;
}

module _ (old new : List Frame) (r made : Rest) (slot height : ℕ) (f : Frame) (code copy : Rc Code Global)
    (at : slice_get old r.frame ≡ Some f) (same : copy.value ≡ code.value)
    (news : new ≡ old ++ leveled r slot height f copy ∷ []) (frames : made.frame ≡ length old)
    (addresses : made.address ≡ r.address - 1) where
  levels_kept : {level : Option Level} {kept : ℕ → ℕ} → f.work ≡ Clause code level
      → Levels old r.frame level kept
      → Levels new made.frame (Some (level_at r slot height)) (with_level slot height kept)
  levels_kept {kept = kept} work levels =
      let v = level_at r slot height in
      let s : Stack ℕ = record { nodes = []; frames = old; words = [] } in
      let inside = slice_get_within old r.frame f at in
      let here : Levels old (length old) (Some v) (with_level slot height kept) =
      a_level inside (record { is = at }) work levels in
      let there = levels_pushed s (leveled r slot height f copy) [] (omega arith) here in
      subst (λ (fs : List Frame). Levels fs made.frame (Some v) (with_level slot height kept)) (sym news)
      (subst (λ (n : ℕ). Levels (old ++ leveled r slot height f copy ∷ []) n (Some v) (with_level slot height kept))
      (sym frames) there)

  pub has_leveled : HasLeveled old r slot height f code new made
  has_leveled = record {
    copy = copy;
    same = same;
    frames = news;
    frame = frames;
    address = addresses;
    levels = λ level kept work levels. levels_kept work levels;
  }

-- the frame that was read, whose work is this clause
pub frame_read : (old : List Frame) (i : ℕ) (f read : Frame) → slice_get old i ≡ Some f → read ≡ get_or old i read
    → read ≡ f
frame_read old i f read at is = is ∙ get_or_from_slice_get old i f read at

-- so the frame that came is one of it
pub leveled_frames : (old new : List Frame) (r : Rest) (slot height : ℕ) (f read : Frame) (code other copy : Rc Code Global)
    (level older : Option Level) → read ≡ f → f.work ≡ Clause code level → read.work ≡ Clause other older
    → copy.value ≡ other.value → new ≡ old ++ leveled r slot height read copy ∷ []
    → (copy.value ≡ code.value) × (new ≡ old ++ leveled r slot height f copy ∷ [])
leveled_frames old new r slot height f read code other copy level older same work works values news =
    let clauses : Clause other older ≡ Clause code level = sym works ∙ (ap (λ (g : Frame). g.work) same ∙ work) in
    let codes : other ≡ code = cc in (
      values ∙ ap (λ (c : Rc Code Global). c.value) codes,
      news ∙ ap (λ (g : Frame). old ++ leveled r slot height g copy ∷ []) same,
    )

-- the list that begins at such a frame, whose code is a copy
module _ {W : Type 0} (atom_word : ℕ → W) {p : Present W} where
  pub leveled_list : (nodes : List (Node W)) (words : List W) (r : Rest) (f : Frame) (code : Rc Code Global)
      (level : Option Level) (slot height : ℕ) (old new : List Frame) (made : Rest) {all ms : List Member}
      → IsAtClause old r f code level → HasLeveled old r slot height f code new made
      → (h : AtClause atom_word p (stack nodes old words) r f code level all)
      → Left atom_word p code.value (environment words f.top code.value) f.height (with_level slot height h.kept)
      made.address ms → Chain atom_word p (stack nodes new words) (Some made) (ms ++ h.behind)
  leveled_list nodes words r f code level slot height old new made {ms = ms} at has h left =
      let v = level_at r slot height in
      let kept = with_level slot height h.kept in
      let s : Stack W = stack nodes old words in
      let g = leveled r slot height f has.copy in
      let levels : Levels old (length old) (Some v) kept =
      a_level (slice_get_within old r.frame f at.at) (record { is = at.at }) at.work h.levels in
      let copied = subst (λ (c : Code). Left atom_word p c (environment words f.top c) f.height kept made.address ms)
      (sym has.same) left in
      let own = subst (λ (ws : List W).
      Left atom_word p has.copy.value (environment ws f.top has.copy.value) f.height kept made.address ms)
      (sym (append-nil words)) copied in
      let variables = ap (λ (c : Code). c.variables) has.same in
      let under = h.under in
      let within = h.within in
      let there = without_words atom_word s g
      (clause_pushed atom_word s g [] has.copy (Some v) kept made.address refl levels own
      (omega (arith, under, variables)) (omega (arith, within)) h.chain) in
      subst (λ (n : ℕ). Chain atom_word p (stack nodes new words)
      (Some (record { frame = n; address = made.address })) (ms ++ h.behind)) (sym has.frame)
      (subst (λ (fs : List Frame). Chain atom_word p (stack nodes fs words)
      (Some (record { frame = length old; address = made.address })) (ms ++ h.behind)) (sym has.frames) there)
