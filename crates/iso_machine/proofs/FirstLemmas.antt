-- What comes first of a list, by the frame at its place.
use Rattle.std.proofs.Common.{◌≡◌, ◌≢◌, ℕ, ◌≤◌, ◌<◌, ◌+◌, List, [], ◌∷◌, ◌++◌, length, get_or, Option, Some, None, inl, inr, refl, sym, ap, ◌∙◌, subst, arith, length-append}
use Rattle.std.specs.Global.{Global}
use Rattle.std.specs.Prelude.{MatchOption}
use Rattle.std.specs.List.{slice_get}
use Rattle.std.specs.declared.rc.Rc.{Rc}
use Rattle.std.proofs.lemmas.Option.{slice_get-get_or}
use Rattle.iso_model.specs.Search.RunLaws.Sameness.{open_list}
use Rattle.iso_model.specs.Search.Walker as walker
use Rattle.iso_store_core.specs.Presents.{Present}
use Rattle.iso_plain_core.specs.declared.members.Todo.{Todo}
use Rattle.iso_plain_core.specs.Standing.{IsMember, a_body, a_cut, a_failure, an_end, a_template}
use Rattle.iso_search_core.specs.Keeping.{Passes, NoLeave}
use Rattle.iso_instructions.specs.declared.instructions.Code.{Code}
use Rattle.iso_instructions.specs.declared.instructions.Instruction.{Instruction}
use Rattle.iso_instructions.specs.declared.instructions.Instruction.TheVariants.{Call, Execute, Is, Compare, Proceed, Cut, GetLevel, TryElse, Jump}
use Rattle.iso_frames.specs.declared.frames.Rest.{Rest}
use Rattle.iso_frames.specs.declared.frames.Level.{Level}
use Rattle.iso_frames.specs.declared.frames.Link.{Link}
use Rattle.iso_frames.specs.declared.frames.Frame.{Frame}
use Rattle.iso_frames.specs.declared.frames.Work.{Work}
use Rattle.iso_frames.specs.declared.frames.Work.TheVariants.{Clause, Member as OneMember}
use Rattle.iso_frames.specs.declared.frames.Next.{Next}
use Rattle.iso_frames.specs.declared.frames.Next.TheVariants as next
use Rattle.iso_frames.specs.Frames.{Stack, IsBefore, Chain, First, environment, plain_link}
use Rattle.iso_frames.specs.Running.{Left, Stops}
use Rattle.iso_frames.specs.Costs.{cost_of, first_cost, pending_of, first_pending, work_cells}
use Rattle.iso_frames.proofs.CostLemmas.{there_count}
use Rattle.iso_frames.proofs.LeftLemmas.{LeftActs, left_acts}
use Rattle.iso_frames.proofs.ChainLemmas.{AtClause, chain_before, chain_member, chain_clause, chain_moved, chain_ended}
use Rattle.iso_frames.proofs.CodeCosts.{cost_member, cost_lower, cost_behind, pending_member, pending_clause, pending_behind}
use Rattle.iso_frames.proofs.PassLemmas.{clause_passes}
use Rattle.iso_machine.specs.Firsts.{GoesOn, IsFirstOf, ComesTo, catch_of}

-- ---- where code stops at an instruction that does something, some member is left

-- so where it is left with conjunctions in front taken apart
some_opened : (ms : List walker.Member) (m : walker.Member) (rest : List walker.Member) → open_list ms ≡ m ∷ rest
    → 0 < length ms
some_opened [] m rest is = absurd (cc)
some_opened (first ∷ ms) m rest is = omega arith

module _ {W : Type 0} (atom_word : ℕ → W) (p : Present W) (code : Code) (ws : List W) (called : ℕ) (kept : ℕ → ℕ)
    (a : ℕ) (ms : List walker.Member) where
  some_acts : (i : Instruction) → i ≢ Proceed → ((l : ℕ) → i ≢ Jump l)
      → LeftActs atom_word p code ws called kept a ms i → 0 < length ms
  some_acts (Call g) ends jumps h = some_opened ms _ h.behind h.are
  some_acts (Execute g) ends jumps h = some_opened ms _ [] h.are
  some_acts (Is o js) ends jumps h = some_opened ms _ h.behind h.are
  some_acts (Compare c js) ends jumps h = some_opened ms _ h.behind h.are
  some_acts Proceed ends jumps h = absurd (ends refl)
  some_acts (Cut m) ends jumps h =
      elim h.are [ inl is ↦ some_opened ms _ h.behind is | inr is ↦ some_opened ms _ h.behind is ]
  some_acts (GetLevel k) ends jumps h =
      elim h [ inl c ↦ some_opened ms _ c.behind c.are | inr c ↦ some_opened ms _ c.behind c.are ]
  some_acts (TryElse l) ends jumps h = some_opened ms _ h.behind h.are
  some_acts (Jump l) ends jumps h = absurd (jumps l refl)

  some_left : Left atom_word p code ws called kept a ms → Stops code a → 0 < length ms
  some_left h stops =
      let i = get_or code.body.items a Proceed in
      let there = slice_get-get_or code.body.items a Proceed stops.inside in
      some_acts i (λ is. stops.proceed (there ∙ ap Some is)) (λ l is. stops.jump l (there ∙ ap Some is))
      (left_acts atom_word p code ws called h stops i there)

-- The list goes on behind the frame, with fewer members.
pub record IsLonger {W : Type 0} (atom_word : ℕ → W) (p : Present W) (k : Stack W) (f : Frame)
    (all : List walker.Member) : Type 0 where
  pub behind : List walker.Member
  pub chain : Chain atom_word p k f.behind behind
  pub fewer : 1 + length behind ≤ length all

module _ {W : Type 0} (atom_word : ℕ → W) {p : Present W} {k : Stack W} {r : Rest} (f : Frame)
    (there : slice_get k.frames r.frame ≡ Some f) where
  -- some of a clause's body is left, or the frame is one member
  goes_by : {all : List walker.Member} (w : Work) → f.work ≡ w → Chain atom_word p k (Some r) all → GoesOn w r.address
  goes_by (OneMember todo) is list = tt
  goes_by (Clause code level) is list = (let h = chain_clause atom_word there code level is list in
      (h.left.body, h.left.left, h.left.remains))

  pub list_goes : {all : List walker.Member} → Chain atom_word p k (Some r) all → GoesOn f.work r.address
  list_goes list = goes_by f.work refl list

  -- ---- what comes first of the frame comes first of the list

  first_come : {all : List walker.Member} (code : Rc Code Global) (level : Option Level) (n : Next W)
      → f.work ≡ Clause code level → Chain atom_word p k (Some r) all → (h : AtClause atom_word p k r f code level all)
      → ComesTo code.value r h.left.body h.left.left n → First atom_word p k n all
  first_come {all = all} code level n is list h comes =
      subst (λ (m : Next W). First atom_word p k m all) (sym comes.is) (
        chain_moved atom_word there code level comes.address is (chain_before atom_word there list) h comes.remains,
        record { frame = f; at = record { is = there }; code = code; level = level; work = is; stops = comes.stops },
      )

  first_by : {all : List walker.Member} (w : Work) (n : Next W) → f.work ≡ w → IsFirstOf f r w (Some n)
      → Chain atom_word p k (Some r) all → First atom_word p k n all
  first_by {all = all} (OneMember todo) n is first list =
      let link : Link = record { todo = todo; height = f.height; behind = f.behind } in
      let same : n ≡ next.Member link = cc in
      subst (λ (m : Next W). First atom_word p k m all) (sym same) (chain_member atom_word there todo is list)
  first_by (Clause code level) n is first list =
      let h = chain_clause atom_word there code level is list in
      first_come code level n is list h (first h.left.body h.left.left h.left.remains)

  pub list_comes : {all : List walker.Member} (n : Next W) → IsFirstOf f r f.work (Some n)
      → Chain atom_word p k (Some r) all → First atom_word p k n all
  list_comes n first list = first_by f.work n refl first list

  -- where nothing comes first of the frame, the list goes on behind it
  behind_by : {all : List walker.Member} (w : Work) → f.work ≡ w → IsFirstOf {W = W} f r w None
      → Chain atom_word p k (Some r) all → Chain atom_word p k f.behind all
  behind_by (OneMember todo) is first list = absurd (cc)
  behind_by (Clause code level) is first list =
      let h = chain_clause atom_word there code level is list in
      chain_ended atom_word there code level h (first h.left.body h.left.left h.left.remains)

  pub list_behind : {all : List walker.Member} → IsFirstOf {W = W} f r f.work None → Chain atom_word p k (Some r) all
      → Chain atom_word p k f.behind all
  list_behind first list = behind_by f.work refl first list

  -- ---- where something comes first of the frame, the list is longer than that behind it

  clause_longer : {all : List walker.Member} (code : Rc Code Global) (level : Option Level) (n : Next W)
      → (h : AtClause atom_word p k r f code level all) → ComesTo code.value r h.left.body h.left.left n
      → IsLonger atom_word p k f all
  clause_longer code level n h comes =
      let ws = environment k.words f.top code.value in
      let left : Left atom_word p code.value ws f.height h.kept comes.address h.ms = record {
        body = h.left.body;
        left = h.left.left;
        known = h.left.known;
        remains = comes.remains;
        many = h.left.many;
        hold = h.left.hold;
        are = h.left.are;
      } in
      let some = some_left atom_word p code.value ws f.height h.kept comes.address h.ms left comes.stops in
      let long = ap length h.is in
      let both = length-append h.ms h.behind in
      record { behind = h.behind; chain = h.chain; fewer = omega (arith, some, long, both) }

  longer_by : {all : List walker.Member} (w : Work) (n : Next W) → f.work ≡ w → IsFirstOf f r w (Some n)
      → Chain atom_word p k (Some r) all → IsLonger atom_word p k f all
  longer_by (OneMember todo) n is first list =
      let leads = chain_member atom_word there todo is list in
      let long = ap length leads.is in
      record { behind = leads.behind; chain = leads.chain; fewer = omega (arith, long) }
  longer_by (Clause code level) n is first list =
      let h = chain_clause atom_word there code level is list in
      clause_longer code level n h (first h.left.body h.left.left h.left.remains)

  pub list_longer : {all : List walker.Member} (n : Next W) → IsFirstOf f r f.work (Some n)
      → Chain atom_word p k (Some r) all → IsLonger atom_word p k f all
  list_longer n first list = longer_by f.work n refl first list

-- ---- costs

module _ {W : Type 0} (fs : List Frame) (r : Rest) (f : Frame) (there : slice_get fs r.frame ≡ Some f)
    (below : IsBefore f.behind r.frame) where
  -- no more is to be done where this comes first, and no more cells are still to be taken
  first_cost_by : (w : Work) (n : Next W) → f.work ≡ w → GoesOn w r.address → IsFirstOf f r w (Some n)
      → first_cost fs n ≤ cost_of fs (Some r)
  first_cost_by (OneMember todo) n is goes first =
      let link : Link = record { todo = todo; height = f.height; behind = f.behind } in
      let same : n ≡ next.Member link = cc in
      let here = cost_member fs r f there below todo is in
      let this = ap (first_cost fs) same in
      omega (arith, here, this)
  first_cost_by (Clause code level) n is goes first =
      let comes = first goes.0 goes.1 goes.2 in
      let this = ap (first_cost fs) comes.is in
      let lower = cost_lower fs r f there below code level comes.address is comes.below in
      omega (arith, this, lower)

  pub first_costs : (n : Next W) → GoesOn f.work r.address → IsFirstOf f r f.work (Some n)
      → first_cost fs n ≤ cost_of fs (Some r)
  first_costs n goes first = first_cost_by f.work n refl goes first

  first_pending_by : (w : Work) (n : Next W) → f.work ≡ w → GoesOn w r.address → IsFirstOf f r w (Some n)
      → first_pending fs n ≤ pending_of fs (Some r)
  first_pending_by (OneMember todo) n is goes first =
      let link : Link = record { todo = todo; height = f.height; behind = f.behind } in
      let same : n ≡ next.Member link = cc in
      let here = pending_member fs r f there below todo is in
      let this = ap (first_pending fs) same in
      omega (arith, here, this)
  first_pending_by (Clause code level) n is goes first =
      let comes = first goes.0 goes.1 goes.2 in
      let lower : Rest = record { frame = r.frame; address = comes.address } in
      let this = ap (first_pending fs) comes.is in
      let here = pending_clause fs r f there below code level is in
      let to = there_count work_cells 0 fs lower f there below
      ∙ ap (λ (w : Work). work_cells w (pending_of fs f.behind) comes.address) is in
      let same = comes.cells in
      omega (arith, this, here, to, same)

  pub first_pendings : (n : Next W) → GoesOn f.work r.address → IsFirstOf f r f.work (Some n)
      → first_pending fs n ≤ pending_of fs (Some r)
  first_pendings n goes first = first_pending_by f.work n refl goes first

-- for words of this type
module _ (W : Type 0) (fs : List Frame) (r : Rest) (f : Frame) (there : slice_get fs r.frame ≡ Some f)
    (below : IsBefore f.behind r.frame) where
  -- where nothing comes first of the frame, no more is to be done behind it
  behind_cost_by : (w : Work) → f.work ≡ w → IsFirstOf {W = W} f r w None → cost_of fs f.behind ≤ cost_of fs (Some r)
  behind_cost_by (OneMember todo) is first = absurd (cc)
  behind_cost_by (Clause code level) is first = (let less = cost_behind fs r f there below code level is in omega
      (arith, less))

  pub behind_costs : IsFirstOf {W = W} f r f.work None → cost_of fs f.behind ≤ cost_of fs (Some r)
  behind_costs first = behind_cost_by f.work refl first

  behind_pending_by : (w : Work) → f.work ≡ w → IsFirstOf {W = W} f r w None
      → pending_of fs f.behind ≤ pending_of fs (Some r)
  behind_pending_by (OneMember todo) is first = absurd (cc)
  behind_pending_by (Clause code level) is first = pending_behind fs r f there below code level is

  pub behind_pendings : IsFirstOf {W = W} f r f.work None → pending_of fs f.behind ≤ pending_of fs (Some r)
  behind_pendings first = behind_pending_by f.work refl first

-- ---- what a thrown ball passes

module _ {W : Type 0} (atom_word : ℕ → W) {p : Present W} {k : Stack W} (f : Frame) where
  -- a member that is no end
  passes_other : (todo : Todo) (m : walker.Member) (ms behind : List walker.Member)
      → catch_of (OneMember todo) f.height ≡ None → NoLeave (m ∷ []) → ms ≡ m ∷ behind
      → Chain atom_word p k f.behind behind
      → Passes (Chain atom_word p k) ms (record { leave = catch_of (OneMember todo) f.height; behind = f.behind })
  passes_other todo m ms behind no_catch none same list = record {
    front = m ∷ [];
    rest = behind;
    none = none;
    are = list;
    is =
        subst (λ (o : Option ℕ). MatchOption o (ms ≡ (m ∷ []) ++ behind)
        (λ height. ms ≡ (m ∷ []) ++ walker.Leave height ∷ behind)) (sym no_catch) same;
  }

  passes_member : (todo : Todo) (m : walker.Member) (ms behind : List walker.Member)
      → IsMember p k.nodes (plain_link todo f.height) m → ms ≡ m ∷ behind → Chain atom_word p k f.behind behind
      → Passes (Chain atom_word p k) ms (record { leave = catch_of (OneMember todo) f.height; behind = f.behind })
  passes_member todo m ms behind (an_end is) same list = record {
    front = [];
    rest = behind;
    none = tt;
    are = list;
    is =
        subst (λ (t : Todo). MatchOption (catch_of (OneMember t) f.height) (ms ≡ [] ++ behind)
        (λ height. ms ≡ [] ++ walker.Leave height ∷ behind)) (sym is) same;
  }
  passes_member todo m ms behind (a_body is body) same list =
      passes_other todo m ms behind (ap (λ (t : Todo). catch_of (OneMember t) f.height) is) tt same list
  passes_member todo m ms behind (a_cut is) same list =
      passes_other todo m ms behind (ap (λ (t : Todo). catch_of (OneMember t) f.height) is) tt same list
  passes_member todo m ms behind (a_failure is) same list =
      passes_other todo m ms behind (ap (λ (t : Todo). catch_of (OneMember t) f.height) is) tt same list
  passes_member todo m ms behind (a_template is body) same list =
      passes_other todo m ms behind (ap (λ (t : Todo). catch_of (OneMember t) f.height) is) tt same list

module _ {W : Type 0} (atom_word : ℕ → W) {p : Present W} {k : Stack W} {r : Rest} (f : Frame)
    (there : slice_get k.frames r.frame ≡ Some f) where
  passes_by : {all : List walker.Member} (w : Work) → f.work ≡ w → Chain atom_word p k (Some r) all
      → Passes (Chain atom_word p k) all (record { leave = catch_of w f.height; behind = f.behind })
  passes_by {all = all} (OneMember todo) is list =
      let leads = chain_member atom_word there todo is list in
      passes_member atom_word f todo leads.member all leads.behind leads.stands leads.is leads.chain
  passes_by (Clause code level) is list = clause_passes atom_word code level
      (chain_clause atom_word there code level is list)

  pub chain_passes : {all : List walker.Member} → Chain atom_word p k (Some r) all
      → Passes (Chain atom_word p k) all (record { leave = catch_of f.work f.height; behind = f.behind })
  chain_passes list = passes_by f.work refl list
