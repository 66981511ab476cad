-- Lists of goals in frames, as the store and the stack change.
use Rattle.std.proofs.Common.{◌≡◌, ℕ, ◌≤◌, ◌<◌, ◌-◌, List, [], ◌++◌, length, Option, Some, None, refl, sym, ap, ◌∙◌, subst, arith, length-take}
use Rattle.std.specs.List.{slice_get}
use Rattle.std.proofs.lemmas.Option.{slice_get_within}
use Rattle.std.specs.Global.{Global}
use Rattle.std.specs.declared.rc.Rc.{Rc}
use Rattle.iso_model.specs.Search.Walker as walker
use Rattle.iso_store_core.specs.Presents.{Present, KeepsWords}
use Rattle.iso_store_core.specs.Patterns.{at_places}
use Rattle.iso_prep.specs.declared.bodies.Node.{Node}
use Rattle.iso_plain_core.specs.declared.members.Todo.{Todo}
use Rattle.iso_plain_core.specs.Standing.{IsMember}
use Rattle.iso_plain_core.proofs.StandingLemmas.{member_more}
use Rattle.iso_search_core.specs.Words.{word_terms}
use Rattle.iso_search_core.proofs.StandingLemmas.{some_same}
use Rattle.iso_search_core.proofs.WordLemmas.{words_hold, words_kept}
use Rattle.iso_instructions.specs.declared.instructions.Code.{Code}
use Rattle.iso_frames.specs.declared.frames.Rest.{Rest}
use Rattle.iso_frames.specs.declared.frames.Frame.{Frame}
use Rattle.iso_compile.specs.Control.{Member}
use Rattle.iso_frames.specs.Running.{Knows, Remains, Left, placed}
use Rattle.iso_frames.specs.declared.frames.Level.{Level}
use Rattle.iso_frames.specs.declared.frames.Work.TheVariants.{Clause, Member as OneMember}
use Rattle.iso_frames.specs.Frames.{Stack, IsBefore, top_of, depth_of, Levels, Chain, ends, a_member, a_clause, Leads, plain_link, environment}
use Rattle.iso_frames.proofs.StackLemmas.{Agree, frame_on, top_on, levels_on, environment_on, before_more, top_there, AddsAll, adds_agree, same_adds, taken, taken_adds, given_up, given_agree}

module _ {W : Type 0} (atom_word : ℕ → W) where
  pub knows_on : {p q : Present W} (names : List (List ℕ)) → KeepsWords p q → Knows atom_word p names
      → Knows atom_word q names
  knows_on names keeps knows n below =
      (let one = knows n below in (keeps.stand (atom_word n) one.0, keeps.terms (atom_word n) one.0 ∙ one.1))

  -- a body that is left, where words stand on
  pub left_on : {p q : Present W} {code : Code} {words : List W} {called : ℕ} {kept : ℕ → ℕ} {address : ℕ}
      {ms : List walker.Member} → KeepsWords p q
      → Left atom_word p code words called kept address ms → Left atom_word q code words called kept address ms
  left_on {p = p} {q = q} {words = words} {called = called} {kept = kept} keeps h = record {
    body = h.body;
    left = h.left;
    known = knows_on h.body.names keeps h.known;
    remains = h.remains;
    many = h.many;
    hold = words_hold words keeps h.hold;
    are = h.are ∙ ap (λ ts. placed (at_places ts) called kept h.left) (sym (words_kept words keeps h.hold));
  }

  -- what stands below the bounds of a list is all that it has
  pub chain_on : {p q : Present W} {frames words : ℕ} {old new : Stack W} {place : Option Rest}
      {ms : List walker.Member} → Agree frames words old new → KeepsWords p q
      → IsBefore place frames → top_of old.frames place ≤ words → Chain atom_word p old place ms
      → Chain atom_word q new place ms
  chain_on agree keeps before less ends = ends
  chain_on {q = q} {old = old} {new = new} agree keeps before less
      (a_member {r = r} {f = f} {todo = todo} {m = m} at below work member under within behind) =
      let top = top_there old.frames r.frame f at.is in
      let same = top_on agree f.behind (before_more f.behind r.frame _ below (omega (arith, before))) in
      let enough = agree.enough in
      a_member (frame_on agree r.frame f before at) below work
      (subst (λ (ns : List (Node W)). IsMember q ns (plain_link todo f.height) m) (sym agree.nodes_are.1)
      (member_more agree.nodes_are.0 keeps member))
      (omega (arith, same, under)) (omega (arith, top, less, enough))
      (chain_on agree keeps (before_more f.behind r.frame _ below (omega (arith, before)))
      (omega (arith, under, top, less)) behind)
  chain_on {q = q} {old = old} {new = new} agree keeps before less
      (a_clause {r = r} {f = f} {code = code} {kept = kept}
      {ms = ms} at below work levels left under within behind is) =
      let top = top_there old.frames r.frame f at.is in
      let same = top_on agree f.behind (before_more f.behind r.frame _ below (omega (arith, before))) in
      let enough = agree.enough in
      a_clause (frame_on agree r.frame f before at) below work (levels_on agree (omega (arith, before)) levels)
      (subst (λ ws. Left atom_word q code.value ws f.height kept r.address ms)
      (sym (environment_on agree f.top code.value (omega (arith, top, less)))) (left_on keeps left))
      (omega (arith, same, under)) (omega (arith, top, less, enough))
      (chain_on agree keeps (before_more f.behind r.frame _ below (omega (arith, before)))
      (omega (arith, under, top, less)) behind) is

  -- a list begins at a frame
  pub chain_place : {p : Present W} {k : Stack W} {place : Option Rest} {ms : List walker.Member}
      → Chain atom_word p k place ms → IsBefore place (length k.frames)
  chain_place ends = tt
  chain_place {k = k} (a_member {r = r} {f = f} at below work member under within behind) =
      slice_get_within k.frames r.frame f at.is
  chain_place {k = k} (a_clause {r = r} {f = f} at below work levels left under within behind is) =
      slice_get_within k.frames r.frame f at.is

  pub chain_top : {p : Present W} {k : Stack W} {place : Option Rest} {ms : List walker.Member}
      → Chain atom_word p k place ms → top_of k.frames place ≤ length k.words
  chain_top ends = omega arith
  chain_top {k = k} (a_member {r = r} {f = f} at below work member under within behind) =
      (let top = top_there k.frames r.frame f at.is in omega (arith, top, within))
  chain_top {k = k} (a_clause {r = r} {f = f} at below work levels left under within behind is) =
      (let top = top_there k.frames r.frame f at.is in omega (arith, top, within))

  -- ---- a list, as words, nodes and frames come and go

  -- it stands where nodes, frames and words are added
  pub chain_pushed : {p q : Present W} {old new : Stack W} {place : Option Rest} {ms : List walker.Member}
      → AddsAll old new → KeepsWords p q → Chain atom_word p old place ms → Chain atom_word q new place ms
  chain_pushed {old = old} {new = new} adds keeps list =
      chain_on (adds_agree old new adds) keeps (chain_place list) (chain_top list) list

  -- and in a store that keeps its words
  pub chain_words : {p q : Present W} {k : Stack W} {place : Option Rest} {ms : List walker.Member} → KeepsWords p q
      → Chain atom_word p k place ms → Chain atom_word q k place ms
  chain_words {k = k} keeps list = chain_pushed (same_adds k) keeps list

  -- among what was kept of less, it is among what was kept of more
  pub chain_taken : {p : Present W} (s : Stack W) (i j k l m n : ℕ) {place : Option Rest} {ms : List walker.Member}
      → i ≤ l → j ≤ m → k ≤ n → Chain atom_word p (taken i j k s) place ms → Chain atom_word p (taken l m n s) place ms
  chain_taken s i j k l m n nodes frames words list =
      chain_pushed (taken_adds s i j k l m n nodes frames words) (record { stand = λ w h. h; terms = λ w h. refl }) list

  -- it stands where frames above its first and words above its top are given up
  pub chain_given : {p : Present W} (s : Stack W) (frames words : ℕ) {place : Option Rest} {ms : List walker.Member}
      → IsBefore place frames → top_of s.frames place ≤ words → Chain atom_word p s place ms
      → Chain atom_word p (given_up frames words s) place ms
  chain_given s frames words before less list =
      let top = chain_top list in
      let long = length-take words s.words in
      chain_on (given_agree frames words s) (record { stand = λ w h. h; terms = λ w h. refl }) before
      (omega (arith, less, top, long)) list

  -- ---- what a place leads to

  -- the list is at the code of a clause, and goes on behind it
  pub record AtClause (p : Present W) (k : Stack W) (r : Rest) (f : Frame) (code : Rc Code Global)
      (level : Option Level) (all : List walker.Member) : Type 0 where
    pub kept : ℕ → ℕ
    pub levels : Levels k.frames r.frame level kept
    pub ms : List walker.Member
    pub left : Left atom_word p code.value (environment k.words f.top code.value) f.height kept r.address ms
    pub under : top_of k.frames f.behind ≤ f.top - code.value.variables
    pub within : f.top ≤ length k.words
    pub behind : List walker.Member
    pub chain : Chain atom_word p k f.behind behind
    pub is : all ≡ ms ++ behind

  module _ {p : Present W} {k : Stack W} {r : Rest} {f : Frame} (there : slice_get k.frames r.frame ≡ Some f) where
    -- the frame behind it is before it
    pub chain_before : {all : List walker.Member} → Chain atom_word p k (Some r) all → IsBefore f.behind r.frame
    chain_before (a_member {f = g} at below work member under within behind) =
        (let same : g ≡ f = some_same (sym at.is ∙ there) in
        subst (λ (h : Frame). IsBefore h.behind r.frame) same below)
    chain_before (a_clause {f = g} at below work levels left under within behind is) =
        (let same : g ≡ f = some_same (sym at.is ∙ there) in
        subst (λ (h : Frame). IsBefore h.behind r.frame) same below)

    -- at a frame of one member it comes first
    pub chain_member : {all : List walker.Member} (todo : Todo) → f.work ≡ OneMember todo
        → Chain atom_word p k (Some r) all
        → Leads atom_word p k (record { todo = todo; height = f.height; behind = f.behind }) all
    chain_member todo is (a_member {f = g} {todo = other} {m = m} {ms = ms} at below work member under within behind) =
        let same : g ≡ f = some_same (sym at.is ∙ there) in
        let works : OneMember other ≡ OneMember todo = sym work ∙ (ap (λ (h : Frame). h.work) same ∙ is) in
        let todos : other ≡ todo = cc in
        record {
          member = m;
          behind = ms;
          is = refl;
          stands =
              subst (λ (t : Todo). IsMember p k.nodes (plain_link t f.height) m) todos
              (subst (λ (h : Frame). IsMember p k.nodes (plain_link other h.height) m) same member);
          chain = subst (λ (h : Frame). Chain atom_word p k h.behind ms) same behind;
        }
    chain_member todo is (a_clause {f = g} {code = code}
        {level = level} at below work levels left under within behind all) =
        let same : g ≡ f = some_same (sym at.is ∙ there) in
        let works : Clause code level ≡ OneMember todo = sym work ∙ (ap (λ (h : Frame). h.work) same ∙ is) in
        absurd (cc)

    -- at a clause's frame what is left of its body comes first
    pub chain_clause : {all : List walker.Member} (code : Rc Code Global) (level : Option Level)
        → f.work ≡ Clause code level → Chain atom_word p k (Some r) all → AtClause p k r f code level all
    chain_clause code level is (a_member {f = g} {todo = todo} at below work member under within behind) =
        let same : g ≡ f = some_same (sym at.is ∙ there) in
        let works : OneMember todo ≡ Clause code level = sym work ∙ (ap (λ (h : Frame). h.work) same ∙ is) in
        absurd (cc)
    chain_clause {all = all} code level is
        (a_clause {f = g} {code = other} {level = newest} {kept = kept} {ms = ms}
        {behind = others} at below work levels left under within behind are) =
        let same : g ≡ f = some_same (sym at.is ∙ there) in
        let works : Clause other newest ≡ Clause code level = sym work ∙ (ap (λ (h : Frame). h.work) same ∙ is) in
        let codes : other ≡ code = cc in
        let newests : newest ≡ level = cc in
        let one : AtClause p k r g other newest all =
        record {
          kept = kept;
          levels = levels;
          ms = ms;
          left = left;
          under = under;
          within = within;
          behind =
              others;
          chain = behind;
          is = are;
        } in
        subst (λ (v : Option Level). AtClause p k r f code v all) newests
        (subst (λ (c : Rc Code Global). AtClause p k r f c newest all) codes
        (subst (λ (h : Frame). AtClause p k r h other newest all) same one))

    -- code that goes on at another address, where the same is left
    pub chain_moved : {all : List walker.Member} (code : Rc Code Global) (level : Option Level) (a : ℕ)
        → f.work ≡ Clause code level → IsBefore f.behind r.frame → (h : AtClause p k r f code level all)
        → Remains h.left.body code.value a h.left.left
        → Chain atom_word p k (Some (record { frame = r.frame; address = a })) all
    chain_moved code level a is before h remains =
        a_clause (record { is = there }) before is h.levels
        (record {
          body = h.left.body;
          left = h.left.left;
          known = h.left.known;
          remains = remains;
          many =
              h.left.many;
          hold = h.left.hold;
          are = h.left.are;
        })
        h.under h.within h.chain h.is

    -- where nothing is left of the body, the list goes on behind it
    pub chain_ended : {all : List walker.Member} (code : Rc Code Global) (level : Option Level)
        (h : AtClause p k r f code level all) → h.left.left ≡ [] → Chain atom_word p k f.behind all
    chain_ended code level h none =
        subst (Chain atom_word p k f.behind)
        (sym (h.is ∙ ap (λ (ms : List walker.Member). ms ++ h.behind)
        (h.left.are ∙ ap (λ (ms : List Member). placed (word_terms p (environment k.words f.top code.value)) f.height
        h.kept ms) none))) h.chain

  -- what ends a thrown ball passes fall
  pub falls_behind : (place : Option Rest) (r : Rest) → IsBefore place r.frame → depth_of place < depth_of (Some r)
  falls_behind None r before = omega arith
  falls_behind (Some s) r before = omega (arith, before)

  -- no place leads to no member
  pub chain_none : {p : Present W} {k : Stack W} {ms : List walker.Member} → Chain atom_word p k None ms → ms ≡ []
  chain_none ends = refl
