-- Frames, words and placed bodies, as they come and go.
use Rattle.std.proofs.Common.{◌≡◌, ℕ, zero, suc, ◌≤◌, ◌<◌, ◌+◌, List, [], ◌∷◌, ◌++◌, length, map, take, drop, get_or, Option, Some, None, refl, sym, ap, ◌∙◌, subst, arith, le_refl, take-take, length-take-le, length-append, append-nil, append_assoc}
use Rattle.std.specs.Global.{Global}
use Rattle.std.specs.Prelude.{Vec, true}
use Rattle.std.specs.List.{All, slice_get}
use Rattle.std.proofs.lemmas.List.{take_all, take-append-le}
use Rattle.std.proofs.lemmas.Option.{slice_get_read}
use Rattle.iso_model.specs.Terms.Trees.{Tree}
use Rattle.iso_model.specs.Search.Bodies.{Body, Run}
use Rattle.iso_model.specs.Search.Walker.{Member}
use Rattle.iso_store_core.specs.Presents.{Present, Holds, meaning}
use Rattle.iso_prep.specs.declared.bodies.Node.{Node}
use Rattle.iso_prep.specs.declared.bodies.Node.TheVariants as node
use Rattle.iso_plain_core.specs.declared.members.Todo.{Todo}
use Rattle.iso_plain_core.specs.Costs.{todo_cost}
use Rattle.iso_plain_core.specs.Entering.{Adds}
use Rattle.iso_plain_core.specs.Nodes.{At, runs}
use Rattle.iso_plain_core.specs.Standing.{IsBody, IsMember}
use Rattle.iso_plain_core.proofs.StandingLemmas.{at_last, tree_more}
use Rattle.iso_search_core.specs.Keeping.{Passes}
use Rattle.iso_frames.specs.declared.frames.Rest.{Rest}
use Rattle.iso_frames.specs.declared.frames.Next.{Next}
use Rattle.iso_frames.specs.declared.frames.Frame.{Frame}
use Rattle.iso_frames.specs.declared.frames.Work.{Work}
use Rattle.iso_frames.specs.declared.frames.Work.TheVariants.{Member as OneMember}
use Rattle.iso_frames.specs.Frames.{Stack, IsBefore, Chain, depth_of, plain_link}
use Rattle.iso_frames.specs.Costs.{cost_of, first_cost, pending_of, first_pending, work_cost, work_cells}
use Rattle.iso_frames.proofs.ChainLemmas.{chain_place, chain_top, chain_pushed, chain_before, falls_behind}
use Rattle.iso_frames.proofs.PushLemmas.{member_pushed}
use Rattle.iso_frames.proofs.CodeCosts.{cost_pushed, pending_pushed}
use Rattle.iso_frames.proofs.ListCosts.{cost_added, pending_added, cost_given, pending_given}
use Rattle.iso_environments.specs.Stacked.{Stacked}
use Rattle.iso_machine.specs.declared.framed.Extent.{Extent}
use Rattle.iso_machine.specs.declared.framed.KeptCall.{KeptCall}
use Rattle.iso_machine.specs.declared.framed.Framed.{Framed}
use Rattle.iso_machine.specs.Firsts.{GoesOn, IsFirstOf, catch_of}
use Rattle.iso_machine.proofs.FirstLemmas.{list_goes, list_comes, list_behind, list_longer, first_costs, first_pendings, behind_costs, behind_pendings, chain_passes}
use Rattle.iso_machine.specs.Wholes.{ap₃, whole_stack, whole_chain, whole_list}
use Rattle.iso_machine.specs.Lists.{IsNoMore, IsList, IsFor, IsFirst, KeepsFrames, extent_of, stack_of, arguments_at, cost_at, pending_at}
use Rattle.iso_environments.specs.Goals.{goal_of}

-- ---- what is added

pub adds_same : {X : Type 0} {old new : Vec X Global} → new ≡ old → Adds old.items new.items
adds_same {X = X} {old = old} same = ([], ap (λ (v : Vec X Global). v.items) same ∙ sym (append-nil old.items))

pub stacked_same : {W : Type 0} {old new : Stacked W} → new ≡ old → Adds old.items new.items
stacked_same {W = W} {old = old} same = ([], ap (λ (v : Stacked W). v.items) same ∙ sym (append-nil old.items))

pub adds_both : {X : Type 0} (old : List X) {middle new : List X} → Adds old middle → Adds middle new → Adds old new
adds_both {X = X} old first second =
    (first.0 ++ second.0, second.1 ∙ (ap (λ (xs : List X). xs ++ second.0) first.1 ∙ append_assoc old first.0 second.0))

pub body_on : {W : Type 0} (p : Present W) (old : List (Node W)) {new : List (Node W)} {i : ℕ} {b : Body} → Adds old new
    → IsBody p old i b → IsBody p new i b
body_on {W = W} p old {i = i} {b = b} adds body =
    subst (λ (ns : List (Node W)). IsBody p ns i b) (sym adds.1) (tree_more adds.0 body)

-- a goal at the end of the nodes
pub run_pushed : {W : Type 0} (p : Present W) (goal : W) (old new : List (Node W)) (place : ℕ)
    → new ≡ old ++ node.Run goal ∷ [] → place ≡ length old → p.holds goal ≡ true
    → IsBody p new place (Run (p.term goal))
run_pushed {W = W} p goal old new place are last holds =
    runs (subst (λ (ns : List (Node W)). At ns place (node.Run goal)) (sym are)
    (subst (λ (n : ℕ). At (old ++ node.Run goal ∷ []) n (node.Run goal)) (sym last) (at_last old (node.Run goal))))
    (holds, refl)

-- ---- words of a call, where others come and go

pub part_taken : {X : Type 0} (m n k : ℕ) (xs : List X) → m + n ≤ k → take n (drop m (take k xs)) ≡ take n (drop m xs)
part_taken zero n k xs less = take-take n k xs (omega (arith, less))
part_taken (suc m) n zero xs less = absurd (omega (arith, less))
part_taken (suc m) n (suc k) [] less = refl
part_taken (suc m) n (suc k) (x ∷ xs) less = part_taken m n k xs (omega (arith, less))

pub part_front : {X : Type 0} (m n : ℕ) (xs ys : List X) → m + n ≤ length xs
    → take n (drop m (xs ++ ys)) ≡ take n (drop m xs)
part_front {X = X} m n xs ys less =
    sym (part_taken m n (length xs) (xs ++ ys) less)
    ∙ ap (λ (zs : List X). take n (drop m zs))
    (take-append-le (length xs) xs ys (le_refl (length xs)) ∙ take_all (length xs) xs (le_refl (length xs)))

abbrev stack : {W : Type 0} → List (Node W) → List Frame → List W → Stack W
stack ns fs ws = record { nodes = ns; frames = fs; words = ws }

module _ {S W M : Type 0} where
  module _ (atom_word : ℕ → W) where
    -- a call stands where its words stand
    call_same : {p : Present W} (old new : Framed S W M) (j : Extent) (c : KeptCall) (goal : Tree)
        → arguments_at new c ≡ arguments_at old c → IsFor atom_word p old j c goal → IsFor atom_word p new j c goal
    call_same {p = p} old new j c goal same is = record {
      within = is.within;
      hold = subst (All (Holds p)) (sym same) is.hold;
      known = is.known;
      name = is.name;
      named = is.named;
      is = is.is ∙ ap (λ (ws : List W). goal_of is.name (map (meaning p) ws)) (sym same);
    }

    -- ---- what is added

    pub adds_keeps : (old new : Framed S W M) → Adds old.nodes.items new.nodes.items
        → Adds old.frames.items new.frames.items → Adds old.words.items new.words.items
        → KeepsFrames atom_word (λ j. Unit {0}) old new
    adds_keeps old new nodes frames words = record {
      stands = λ j meant on. record {
        nodes =
            (let a = on.nodes in let b = ap length nodes.1 in
            let d = length-append old.nodes.items nodes.0 in omega (arith, a, b, d));
        frames =
            (let a = on.frames in let b = ap length frames.1 in
            let d = length-append old.frames.items frames.0 in omega (arith, a, b, d));
        words =
            (let a = on.words in let b = ap length words.1 in
            let d = length-append old.words.items words.0 in omega (arith, a, b, d));
      };
      lists = λ p j i ms meant on list. subst (λ (s : Stack W). Chain atom_word p s i ms)
          (sym (ap₃ stack (ap (take j.nodes) nodes.1 ∙ take-append-le j.nodes old.nodes.items nodes.0 on.nodes)
          (ap (take j.frames) frames.1 ∙ take-append-le j.frames old.frames.items frames.0 on.frames)
          (ap (take j.words) words.1 ∙ take-append-le j.words old.words.items words.0 on.words))) list;
      calls = λ p j c t meant on is.
          let a = is.within in
          let b = on.words in
          call_same old new j c t (ap (λ (ws : List W). take c.count (drop c.start ws)) words.1
          ∙ part_front c.start c.count old.words.items words.0 (omega (arith, a, b))) is;
      costs =
          λ p j i ms meant on list. cost_added atom_word (stack_of old) j.nodes j.frames j.words list new.frames.items
          frames;
      pendings =
          λ p j i ms meant on list. pending_added atom_word (stack_of old) j.nodes j.frames j.words list
          new.frames.items frames;
    }

    -- the list from a place on, over all that stands
    pub list_on : {p : Present W} (old new : Framed S W M) {place : Option Rest} {ms : List Member}
        → Adds old.nodes.items new.nodes.items → Adds old.frames.items new.frames.items
        → Adds old.words.items new.words.items
        → IsList atom_word p old (extent_of old) place ms → IsList atom_word p new (extent_of new) place ms
    list_on old new nodes frames words list =
        whole_list atom_word new (chain_pushed atom_word (record { nodes = nodes; frames = frames; words = words })
        (record { stand = λ w h. h; terms = λ w h. refl }) (whole_chain atom_word old list))

    -- ---- what is taken away

    pub taken_keeps : (old new : Framed S W M) (kept : Extent) → IsNoMore kept (extent_of old)
        → new.nodes.items ≡ take kept.nodes old.nodes.items → new.frames.items ≡ take kept.frames old.frames.items
        → new.words.items ≡ take kept.words old.words.items
        → KeepsFrames atom_word (λ j. IsNoMore j kept) old new
    taken_keeps old new kept within nodes frames words = record {
      stands = λ j less on. record {
        nodes =
            (let a = less.nodes in
            let b = ap length nodes ∙ length-take-le kept.nodes old.nodes.items within.nodes in
            omega (arith, a, b));
        frames =
            (let a = less.frames in
            let b = ap length frames ∙ length-take-le kept.frames old.frames.items within.frames in
            omega (arith, a, b));
        words =
            (let a = less.words in
            let b = ap length words ∙ length-take-le kept.words old.words.items within.words in
            omega (arith, a, b));
      };
      lists = λ p j i ms less on list. subst (λ (s : Stack W). Chain atom_word p s i ms)
          (sym (ap₃ stack (ap (take j.nodes) nodes ∙ take-take j.nodes kept.nodes old.nodes.items less.nodes)
          (ap (take j.frames) frames ∙ take-take j.frames kept.frames old.frames.items less.frames)
          (ap (take j.words) words ∙ take-take j.words kept.words old.words.items less.words))) list;
      calls = λ p j c t less on is.
          let a = is.within in
          let b = less.words in
          call_same old new j c t (ap (λ (ws : List W). take c.count (drop c.start ws)) words
          ∙ part_taken c.start c.count kept.words old.words.items (omega (arith, a, b))) is;
      costs =
          λ p j i ms less on list. ap (λ (fs : List Frame). cost_of fs i) frames
          ∙ cost_given atom_word (stack_of old) j.nodes j.frames j.words list kept.frames less.frames;
      pendings =
          λ p j i ms less on list. ap (λ (fs : List Frame). pending_of fs i) frames
          ∙ pending_given atom_word (stack_of old) j.nodes j.frames j.words list kept.frames less.frames;
    }

    -- ---- a member that comes

    pub pushed_list : {p : Present W} (old new : Framed S W M) (f : Frame) (todo : Todo) {m : Member} {ms : List Member}
        (place : ℕ) → new.nodes ≡ old.nodes → new.frames.items ≡ old.frames.items ++ f ∷ [] → new.words ≡ old.words
        → place ≡ length old.frames.items
        → f.work ≡ OneMember todo → f.top ≡ length old.words.items
        → IsMember p old.nodes.items (plain_link todo f.height) m → IsList atom_word p old (extent_of old) f.behind ms
        → IsList atom_word p new (extent_of new) (Some (record { frame = place; address = 0 })) (m ∷ ms)
    pushed_list {p = p} old new f todo {m = m} {ms = ms} place nodes frames words last work top member list =
        let chain = whole_chain atom_word old list in
        let below = chain_top atom_word chain in
        let long = length-append old.words.items [] in
        let is : stack_of new ≡ record {
          nodes = old.nodes.items;
          frames = old.frames.items ++ f ∷ [];
          words = old.words.items ++ [];
        } =
        ap₃ stack (ap (λ (v : Vec (Node W) Global). v.items) nodes) frames (ap (λ (v : Stacked W). v.items) words
        ∙ sym (append-nil old.words.items)) in
        let there = member_pushed atom_word (stack_of old) f [] todo 0 work member (omega (arith, below, top))
        (omega (arith, top, long)) chain in
        whole_list atom_word new (subst (λ (s : Stack W). Chain atom_word p s (Some (record { frame = place; address = 0 }))
        (m ∷ ms)) (sym is)
        (subst (λ (n : ℕ). Chain atom_word p
        (record { nodes = old.nodes.items; frames = old.frames.items ++ f ∷ []; words = old.words.items ++ [] })
        (Some (record { frame = n; address = 0 })) (m ∷ ms)) (sym last) there))

  pub pushed_cost : (old new : Framed S W M) (f : Frame) (todo : Todo) (place : ℕ)
      → new.frames.items ≡ old.frames.items ++ f ∷ [] → place ≡ length old.frames.items → f.work ≡ OneMember todo
      → cost_at new (Some (record { frame = place; address = 0 })) ≡ todo_cost todo (cost_at old f.behind)
  pushed_cost old new f todo place frames last work =
      ap (λ (fs : List Frame). cost_of fs (Some (record { frame = place; address = 0 }))) frames
      ∙ (ap (λ (n : ℕ). cost_of (old.frames.items ++ f ∷ []) (Some (record { frame = n; address = 0 }))) last
      ∙ (cost_pushed old.frames.items f 0 ∙ ap (λ (w : Work). work_cost w (cost_at old f.behind) 0) work))

  pub pushed_pending : (old new : Framed S W M) (f : Frame) (todo : Todo) (place : ℕ)
      → new.frames.items ≡ old.frames.items ++ f ∷ [] → place ≡ length old.frames.items → f.work ≡ OneMember todo
      → pending_at new (Some (record { frame = place; address = 0 })) ≡ pending_at old f.behind
  pushed_pending old new f todo place frames last work =
      ap (λ (fs : List Frame). pending_of fs (Some (record { frame = place; address = 0 }))) frames
      ∙ (ap (λ (n : ℕ). pending_of (old.frames.items ++ f ∷ []) (Some (record { frame = n; address = 0 }))) last
      ∙ (pending_pushed old.frames.items f 0 ∙ ap (λ (w : Work). work_cells w (pending_at old f.behind) 0) work))

  pub cost_same : (old new : Framed S W M) (place : Option Rest) → new.frames ≡ old.frames
      → cost_at new place ≡ cost_at old place
  cost_same old new place same = ap (λ (v : Vec Frame Global). cost_of v.items place) same

  pub pending_same : (old new : Framed S W M) (place : Option Rest) → new.frames ≡ old.frames
      → pending_at new place ≡ pending_at old place
  pending_same old new place same = ap (λ (v : Vec Frame Global). pending_of v.items place) same

  module _ (atom_word : ℕ → W) {p : Present W} (l : Framed S W M) {r : Rest} {ms : List Member}
      (list : IsList atom_word p l (extent_of l) (Some r) ms) where
    -- the frame at the place that a list begins at
    pub list_within : r.frame < length l.frames.items
    list_within = chain_place atom_word (whole_chain atom_word l list)

    module _ (f : Frame) (same : f ≡ get_or l.frames.items r.frame f) where
      pub frame_there : slice_get l.frames.items r.frame ≡ Some f
      frame_there = slice_get_read l.frames.items (length l.frames.items) r.frame f refl list_within same

      pub frame_before : IsBefore f.behind r.frame
      frame_before = chain_before atom_word frame_there (whole_chain atom_word l list)

      pub frame_falls : depth_of f.behind < depth_of (Some r)
      frame_falls = falls_behind atom_word f.behind r frame_before

      -- what is passed of it
      pub list_passes : Passes (IsList atom_word p l (extent_of l)) ms
          (record { leave = catch_of f.work f.height; behind = f.behind })
      list_passes =
          subst (λ (s : Stack W). Passes (Chain atom_word p s) ms
          (record { leave = catch_of f.work f.height; behind = f.behind })) (sym (whole_stack l))
          (chain_passes atom_word f frame_there (whole_chain atom_word l list))

      -- what comes first of it
      pub frame_goes : GoesOn f.work r.address
      frame_goes = list_goes atom_word f frame_there (whole_chain atom_word l list)

      pub frame_first : (n : Next W) → IsFirstOf f r f.work (Some n) → IsFirst atom_word p l n ms
      frame_first n first = list_comes atom_word f frame_there n first (whole_chain atom_word l list)

      pub frame_behind : IsFirstOf {W = W} f r f.work None → IsList atom_word p l (extent_of l) f.behind ms
      frame_behind first =
          whole_list atom_word l (list_behind atom_word f frame_there first (whole_chain atom_word l list))

      -- where something comes first of it, the list behind it has fewer members
      pub frame_longer : (n : Next W) → IsFirstOf f r f.work (Some n)
          → (ns : List Member) × IsList atom_word p l (extent_of l) f.behind ns × (1 + length ns ≤ length ms)
      frame_longer n first =
          let on = list_longer atom_word f frame_there n first (whole_chain atom_word l list) in
          (on.behind, whole_list atom_word l on.chain, on.fewer)

      -- no more is to be done where this comes first
      pub frame_cost : (n : Next W) → IsFirstOf f r f.work (Some n) → first_cost l.frames.items n ≤ cost_at l (Some r)
      frame_cost n first = first_costs l.frames.items r f frame_there frame_before n frame_goes first

      pub frame_pending : (n : Next W) → IsFirstOf f r f.work (Some n)
          → first_pending l.frames.items n ≤ pending_at l (Some r)
      frame_pending n first = first_pendings l.frames.items r f frame_there frame_before n frame_goes first

      -- nor behind a clause that ends
      pub frame_behind_cost : IsFirstOf {W = W} f r f.work None → cost_at l f.behind ≤ cost_at l (Some r)
      frame_behind_cost first = behind_costs W l.frames.items r f frame_there frame_before first

      pub frame_behind_pending : IsFirstOf {W = W} f r f.work None → pending_at l f.behind ≤ pending_at l (Some r)
      frame_behind_pending first = behind_pendings W l.frames.items r f frame_there frame_before first

  -- The list from the second place on is that from the first, and no more is to be done of it.
  pub record Same (atom_word : ℕ → W) (l : Framed S W M) (start place : Option Rest) : Type 0 where
    pub lists : (p : Present W) (ms : List Member) → IsList atom_word p l (extent_of l) start ms
        → IsList atom_word p l (extent_of l) place ms
    pub cost : cost_at l place ≤ cost_at l start
    pub pending : pending_at l place ≤ pending_at l start

  -- from the place that the list begins at on, past clauses that end, to this frame
  module _ (atom_word : ℕ → W) (l : Framed S W M) {start place : Option Rest} (r : Rest) (is : place ≡ Some r)
      (so : Same atom_word l start place) where
    pub reached : (p : Present W) (ms : List Member) → IsList atom_word p l (extent_of l) start ms
        → IsList atom_word p l (extent_of l) (Some r) ms
    reached p ms list = subst (λ (i : Option Rest). IsList atom_word p l (extent_of l) i ms) is (so.lists p ms list)

    module _ (p : Present W) (ms : List Member) (list : IsList atom_word p l (extent_of l) start ms) (f : Frame)
        (same : f ≡ get_or l.frames.items r.frame f) where
      pub reached_cost : (n : Next W) → IsFirstOf f r f.work (Some n) → first_cost l.frames.items n ≤ cost_at l start
      reached_cost n first =
          let one = frame_cost atom_word l (reached p ms list) f same n first in
          let here = ap (cost_at l) is in
          let before = so.cost in
          omega (arith, one, here, before)

      pub reached_pending : (n : Next W) → IsFirstOf f r f.work (Some n)
          → first_pending l.frames.items n ≤ pending_at l start
      reached_pending n first =
          let one = frame_pending atom_word l (reached p ms list) f same n first in
          let here = ap (pending_at l) is in
          let before = so.pending in
          omega (arith, one, here, before)

      pub reached_behind : IsFirstOf {W = W} f r f.work None → Same atom_word l start f.behind
      reached_behind first = record {
        lists = λ q ls other. frame_behind atom_word l (reached q ls other) f same first;
        cost =
            let one = frame_behind_cost atom_word l (reached p ms list) f same first in
            let here = ap (cost_at l) is in
            let before = so.cost in
            omega (arith, one, here, before);
        pending =
            let one = frame_behind_pending atom_word l (reached p ms list) f same first in
            let here = ap (pending_at l) is in
            let before = so.pending in
            omega (arith, one, here, before);
      }
