-- Frames of clauses that stand, whose code goes on at any of its addresses.
use Rattle.std.proofs.Common.{◌≡◌, ℕ, ◌≤◌, ◌-◌, ◌+◌, List, [], ◌∷◌, ◌++◌, length, Option, Some, refl, sym, ap, ◌∙◌, subst, arith}
use Rattle.std.specs.Global.{Global}
use Rattle.std.specs.List.{slice_get}
use Rattle.std.specs.declared.rc.Rc.{Rc}
use Rattle.iso_model.specs.Search.Walker.{Member}
use Rattle.iso_store_core.specs.Presents.{Present}
use Rattle.iso_prep.specs.Trees.{At}
use Rattle.iso_prep.specs.declared.bodies.Node.{Node}
use Rattle.iso_prep.proofs.TreeLemmas.{at_last}
use Rattle.iso_compile.specs.ControlLaws.{with_level}
use Rattle.iso_search_core.specs.Bodies.{body_cost}
use Rattle.iso_instructions.specs.declared.instructions.Code.{Code}
use Rattle.iso_frames.specs.declared.frames.Rest.{Rest}
use Rattle.iso_frames.specs.declared.frames.Level.{Level}
use Rattle.iso_frames.specs.declared.frames.Frame.{Frame}
use Rattle.iso_frames.specs.declared.frames.Work.TheVariants.{Clause}
use Rattle.iso_frames.specs.Running.{Left}
use Rattle.iso_frames.specs.Frames.{Stack, IsBefore, top_of, Levels, Chain, a_clause, environment}
use Rattle.iso_frames.specs.Costs.{cost_of, pending_of, cells_from}
use Rattle.iso_frames.proofs.StackLemmas.{AddsAll, adds_none, adds_agree, top_on}
use Rattle.iso_frames.proofs.ChainLemmas.{AtClause, chain_place, chain_before, chain_pushed}
use Rattle.iso_frames.proofs.CodeCosts.{cost_clause, pending_clause, cost_more_frames, pending_more_frames}
use Rattle.iso_environments.specs.Stacks.{stack}
use Rattle.iso_environments.specs.Leveled.{IsAtClause, level_at, HasLeveled}
use Rattle.iso_environments.proofs.LeveledLemmas.{leveled}

-- ---- frames of clauses

module _ {W : Type 0} (atom_word : ℕ → W) (p : Present W) (k : Stack W) where
  -- The frame at this place is a clause's, its slots keep these heights, and these members are behind it.
  pub record IsFrame (i : ℕ) (f : Frame) (code : Rc Code Global) (level : Option Level) (kept : ℕ → ℕ)
      (behind : List Member) : Type 0 where
    pub at : slice_get k.frames i ≡ Some f
    pub work : f.work ≡ Clause code level
    pub before : IsBefore f.behind i
    pub levels : Levels k.frames i level kept
    pub under : top_of k.frames f.behind ≤ f.top - code.value.variables
    pub within : f.top ≤ length k.words
    pub chain : Chain atom_word p k f.behind behind

  -- a list that begins there
  pub clause_frame : (r : Rest) (f : Frame) (code : Rc Code Global) (level : Option Level) {all : List Member}
      → IsAtClause k.frames r f code level → Chain atom_word p k (Some r) all
      → (h : AtClause atom_word p k r f code level all) → IsFrame r.frame f code level h.kept h.behind
  clause_frame r f code level is list h = record {
    at = is.at;
    work = is.work;
    before = chain_before atom_word is.at list;
    levels = h.levels;
    under = h.under;
    within = h.within;
    chain = h.chain;
  }

  module _ {i : ℕ} {f : Frame} {code : Rc Code Global} {level : Option Level} {kept : ℕ → ℕ} {behind : List Member}
      (h : IsFrame i f code level kept behind) where
    -- the list that begins at an address of its code
    pub address_list : (a : ℕ) (ms : List Member)
        → Left atom_word p code.value (environment k.words f.top code.value) f.height kept a ms
        → Chain atom_word p k (Some (record { frame = i; address = a })) (ms ++ behind)
    address_list a ms left =
        a_clause (record { is = h.at }) h.before h.work h.levels left h.under h.within h.chain refl

    -- what is to be done from there on, and how many cells are still to be taken
    pub address_cost : (a : ℕ)
        → cost_of k.frames (Some (record { frame = i; address = a })) ≡ body_cost a (cost_of k.frames f.behind)
    address_cost a = cost_clause k.frames (record { frame = i; address = a }) f h.at h.before code level h.work

    pub address_pending : (a : ℕ) → pending_of k.frames (Some (record { frame = i; address = a }))
        ≡ cells_from code.value a + pending_of k.frames f.behind
    address_pending a = pending_clause k.frames (record { frame = i; address = a }) f h.at h.before code level h.work

-- ---- a frame whose slot keeps another height

module _ {W : Type 0} (atom_word : ℕ → W) {p : Present W} (nodes : List (Node W)) (words : List W)
    (old new : List Frame) (r made : Rest) (slot height : ℕ) (f : Frame) (code : Rc Code Global)
    (level : Option Level) (kept : ℕ → ℕ)
    (behind : List Member) (has : HasLeveled old r slot height f code new made)
    (h : IsFrame atom_word p (stack nodes old words) r.frame f code level kept behind) where
  abbrev made_frame : Frame
  made_frame = leveled r slot height f has.copy

  came : AddsAll (stack nodes old words) (stack nodes new words)
  came = record { nodes = adds_none nodes; frames = (made_frame ∷ [], has.frames); words = adds_none words }

  pub leveled_frame : IsFrame atom_word p (stack nodes new words) made.frame made_frame has.copy
      (Some (level_at r slot height)) (with_level slot height kept) behind
  leveled_frame =
      let place = chain_place atom_word h.chain in
      let same = top_on (adds_agree (stack nodes old words) (stack nodes new words) came) f.behind place in
      let under = h.under in
      let variables = ap (λ (c : Code). c.variables) has.same in
      let there : At new made.frame made_frame =
      subst (λ (n : ℕ). At new n made_frame) (sym has.frame)
      (subst (λ (fs : List Frame). At fs (length old) made_frame) (sym has.frames) (at_last old made_frame)) in
      record {
        at = there.is;
        work = refl;
        before = subst (λ (n : ℕ). IsBefore f.behind n) (sym has.frame) place;
        levels = has.levels level kept h.work h.levels;
        under = omega (arith, same, under, variables);
        within = h.within;
        chain = chain_pushed atom_word came (record { stand = λ w x. x; terms = λ w x. refl }) h.chain;
      }

  -- what is left of the clause is left there too
  pub leveled_left : (a : ℕ) (ms : List Member)
      → Left atom_word p code.value (environment words f.top code.value) f.height (with_level slot height kept) a ms
      → Left atom_word p has.copy.value (environment words f.top has.copy.value) f.height
      (with_level slot height kept) a ms
  leveled_left a ms left =
      subst
      (λ (c : Code). Left atom_word p c (environment words f.top c) f.height (with_level slot height kept) a ms)
      (sym has.same) left

  -- as much is to be done behind it, and as many cells are still to be taken
  pub leveled_cost : cost_of new f.behind ≡ cost_of old f.behind
  leveled_cost =
      ap (λ (fs : List Frame). cost_of fs f.behind) has.frames
      ∙ cost_more_frames old (made_frame ∷ []) f.behind (chain_place atom_word h.chain)

  pub leveled_pending : pending_of new f.behind ≡ pending_of old f.behind
  leveled_pending =
      ap (λ (fs : List Frame). pending_of fs f.behind) has.frames
      ∙ pending_more_frames old (made_frame ∷ []) f.behind (chain_place atom_word h.chain)
