-- Where a compound of a head is made, its new variables are older than all that are still to come.
use Rattle.std.proofs.Common.{◌≡◌, ◌≢◌, ◌⊎◌, ◌<◌, ◌≤◌, ◌+◌, ◌==◌, ℕ, Bool, true, false, List, [], ◌∷◌, ◌++◌, map, take, Option, Some, None, option_and_then, inl, inr, refl, sym, ap, subst, ◌∙◌, arith, nat_lt}
use Rattle.std.proofs.lemmas.Bool.{false≢true, true≢false, cases_Bool, eqb-true, eq-eqb, ltb-true, ltb-false, and_parts}
use Rattle.iso_model.specs.Terms.Trees.{Tree, Variable, Integer, Name, Apply, End, More}
use Rattle.iso_model.specs.Terms.Sorts.{is_term, is_row}
use Rattle.iso_model.specs.Terms.Numbering.{next_number}
use Rattle.iso_compile.specs.Table.{Block, Part, Place, Number, Atom, Inner}
use Rattle.iso_compile.specs.TermCode.{tops, deep, parts, blocks}
use Rattle.iso_compile.specs.Heads.{gets, part_got, head_blocks}
use Rattle.iso_compile.proofs.FillLemmas.{row_of_arguments}
use Rattle.iso_compile.specs.Orders.{with_part, with_parts, with_blocks, IsNextGroup, GroupsAreNext}
use Rattle.iso_compile.proofs.RunLemmas.{append_append, length_blocks, take_whole}

abbrev AllBelow : ℕ → (ℕ → Bool) → Type 0
AllBelow k met = (y : ℕ) → y < k → met y ≡ true

-- the variables among these terms themselves were met
abbrev Direct : Tree → (ℕ → Bool) → Type 0
Direct (More (Variable v) ts) met = (met v ≡ true) × Direct ts met
Direct (More t ts) met = Direct ts met
Direct ts met = Unit {0}

some_same : (a b : ℕ) → Some a ≡ Some b → a ≡ b
some_same a b e = ap got e
  where
    got : Option ℕ → ℕ
    got (Some n) = n
    got None = a

none_some : (b : ℕ) → None ≡ Some b → ⊥
none_some b e = false≢true (ap is e)
  where
    is : Option ℕ → Bool
    is (Some n) = true
    is None = false

-- ---- numbers

variable_next : (v k i : ℕ) → next_number (Variable v) k ≡ Some i → ((v < k) × (i ≡ k)) ⊎ ((v ≡ k) × (i ≡ k + 1))
variable_next v k i h = elim (cases_Bool (nat_lt v k)) [
  | inl old ↦ inl (ltb-true v k old, sym (some_same k i (sym (rw old refl) ∙ h)))
  | inr other ↦ elim (cases_Bool (v == k)) [
    | inl new ↦ inr (eqb-true v k new, sym (some_same (k + 1) i (sym (rw (other, new) refl) ∙ h)))
    | inr none ↦ absurd (none_some i (sym (rw (other, none) refl) ∙ h))
  ]
]

then_next : (ts : Tree) (j : ℕ) (o : Option ℕ) → option_and_then (next_number ts) o ≡ Some j → (i : ℕ) × (o ≡ Some i) × (next_number ts i ≡ Some j)
then_next ts j (Some i) h = (i, refl, h)
then_next ts j None h = absurd (none_some j h)

-- ---- what was met stays met

place_kept : (met : ℕ → Bool) (x y : ℕ) → met y ≡ true → with_part met (Place x) y ≡ true
place_kept met x y h = elim (cases_Bool (y == x)) [
  | inl same ↦ rw same refl
  | inr other ↦ rw other h
]

place_met : (met : ℕ → Bool) (x : ℕ) → with_part met (Place x) x ≡ true
place_met met x = let e = eq-eqb x x refl in rw e refl

part_kept : (met : ℕ → Bool) (p : Part) (y : ℕ) → met y ≡ true → with_part met p y ≡ true
part_kept met (Place x) y h = place_kept met x y h
part_kept met (Number z) y h = h
part_kept met (Atom a) y h = h
part_kept met (Inner r) y h = h

parts_kept : (met : ℕ → Bool) (ps : List Part) (y : ℕ) → met y ≡ true → with_parts met ps y ≡ true
parts_kept met [] y h = h
parts_kept met (p ∷ ps) y h = parts_kept (with_part met p) ps y (part_kept met p y h)

blocks_kept : (met : ℕ → Bool) (bs : List Block) (y : ℕ) → met y ≡ true → with_blocks met bs y ≡ true
blocks_kept met [] y h = h
blocks_kept met (b ∷ bs) y h = blocks_kept (with_parts met b.parts) bs y (parts_kept met b.parts y h)

direct_kept : (ts : Tree) (met other : ℕ → Bool) → ((y : ℕ) → met y ≡ true → other y ≡ true) → Direct ts met → Direct ts other
direct_kept (More (Variable v) ts) met other more h = (more v h.0, direct_kept ts met other more h.1)
direct_kept (More (Integer z) ts) met other more h = direct_kept ts met other more h
direct_kept (More (Name a) ts) met other more h = direct_kept ts met other more h
direct_kept (More (Apply f us) ts) met other more h = direct_kept ts met other more h
direct_kept (More End ts) met other more h = direct_kept ts met other more h
direct_kept (More (More u us) ts) met other more h = direct_kept ts met other more h
direct_kept (Variable v) met other more h = tt
direct_kept (Integer z) met other more h = tt
direct_kept (Name a) met other more h = tt
direct_kept (Apply f us) met other more h = tt
direct_kept End met other more h = tt

-- the parts of a block meet them
direct_parts : (m : ℕ) (ts : Tree) (met : ℕ → Bool) → Direct ts (with_parts met (parts m ts))
direct_parts m (More (Variable v) ts) met = (parts_kept (with_part met (Place v)) (parts (m + 0) ts) v (place_met met v), direct_parts (m + 0) ts (with_part met (Place v)))
direct_parts m (More (Integer z) ts) met = direct_parts (m + 0) ts met
direct_parts m (More (Name a) ts) met = direct_parts (m + 0) ts met
direct_parts m (More (Apply f us) ts) met = direct_parts (m + 1) ts met
direct_parts m (More End ts) met = direct_parts (m + 0) ts met
direct_parts m (More (More u us) ts) met = direct_parts (m + (tops u + tops us)) ts met
direct_parts m (Variable v) met = tt
direct_parts m (Integer z) met = tt
direct_parts m (Name a) met = tt
direct_parts m (Apply f us) met = tt
direct_parts m End met = tt

-- ---- a variable more

below_variable : (v k i : ℕ) (met : ℕ → Bool) → next_number (Variable v) k ≡ Some i → AllBelow k met → met v ≡ true → AllBelow i met
below_variable v k i met h below here y low = elim (variable_next v k i h) [
  | inl old ↦ below y (let e = old.1 in omega (arith, e, low))
  | inr new ↦ elim (cases_Bool (y == v)) [
    | inl same ↦ ap met (eqb-true y v same) ∙ here
    | inr other ↦ below y (let a = new.0 in let b = new.1 in
        let apart : y ≢ v = λ e. true≢false (sym (eq-eqb y v e) ∙ other) in omega (arith, a, b, low, apart))
  ]
]

-- ---- what a term has is below the next number behind it

next_up : (t : Tree) (k j : ℕ) → next_number t k ≡ Some j → k ≤ j
next_up (Variable v) k j h = elim (variable_next v k j h) [
  | inl old ↦ (let e = old.1 in omega (arith, e))
  | inr new ↦ (let e = new.1 in omega (arith, e))
]
next_up (Integer z) k j h = let e = some_same k j h in omega (arith, e)
next_up (Name a) k j h = let e = some_same k j h in omega (arith, e)
next_up (Apply f ts) k j h = next_up ts k j h
next_up End k j h = let e = some_same k j h in omega (arith, e)
next_up (More t ts) k j h =
    let both = then_next ts j (next_number t k) h in
    let first = next_up t k both.0 both.1 in
    let rest = next_up ts both.0 j both.2 in
    omega (arith, first, rest)

-- what the first one of these terms has, and what the others have
first_below : (t ts : Tree) (k j x : ℕ) → next_number (More t ts) k ≡ Some j → ((i : ℕ) → next_number t k ≡ Some i → x < i) → x < j
first_below t ts k j x h first =
    let both = then_next ts j (next_number t k) h in
    let low = first both.0 both.1 in
    let up = next_up ts both.0 j both.2 in
    omega (arith, low, up)

rest_below : (t ts : Tree) (k j x : ℕ) → next_number (More t ts) k ≡ Some j → ((i : ℕ) → next_number ts i ≡ Some j → x < j) → x < j
rest_below t ts k j x h rest = let both = then_next ts j (next_number t k) h in rest both.0 both.2

-- a variable that is met among the parts
parts_below : (m k j : ℕ) (ts : Tree) (met : ℕ → Bool) (x : ℕ) → next_number ts k ≡ Some j → met x ≡ false → with_parts met (parts m ts) x ≡ true → x < j
parts_below m k j (More (Variable v) ts) met x h none here = elim (cases_Bool (x == v)) [
  | inl same ↦ first_below (Variable v) ts k j x h (λ i e. elim (variable_next v k i e) [
    | inl old ↦ (let is = eqb-true x v same in let a = old.0 in let b = old.1 in omega (arith, is, a, b))
    | inr new ↦ (let is = eqb-true x v same in let a = new.0 in let b = new.1 in omega (arith, is, a, b))
  ])
  | inr other ↦ rest_below (Variable v) ts k j x h (λ i e. parts_below (m + 0) i j ts (with_part met (Place v)) x e (rw other none) here)
]
parts_below m k j (More (Integer z) ts) met x h none here = parts_below (m + 0) k j ts met x h none here
parts_below m k j (More (Name a) ts) met x h none here = parts_below (m + 0) k j ts met x h none here
parts_below m k j (More (Apply f us) ts) met x h none here = rest_below (Apply f us) ts k j x h (λ i e. parts_below (m + 1) i j ts met x e none here)
parts_below m k j (More End ts) met x h none here = parts_below (m + 0) k j ts met x h none here
parts_below m k j (More (More u us) ts) met x h none here = rest_below (More u us) ts k j x h (λ i e. parts_below (m + (tops u + tops us)) i j ts met x e none here)
parts_below m k j (Variable v) met x h none here = absurd (true≢false (sym here ∙ none))
parts_below m k j (Integer z) met x h none here = absurd (true≢false (sym here ∙ none))
parts_below m k j (Name a) met x h none here = absurd (true≢false (sym here ∙ none))
parts_below m k j (Apply f us) met x h none here = absurd (true≢false (sym here ∙ none))
parts_below m k j End met x h none here = absurd (true≢false (sym here ∙ none))

blocks_append : (met : ℕ → Bool) (xs ys : List Block) → with_blocks met (xs ++ ys) ≡ with_blocks (with_blocks met xs) ys
blocks_append met [] ys = refl
blocks_append met (x ∷ xs) ys = blocks_append (with_parts met x.parts) xs ys

-- a variable that is met in the blocks
blocks_below : (r m k j : ℕ) (t : Tree) (met : ℕ → Bool) (x : ℕ) → next_number t k ≡ Some j → met x ≡ false → with_blocks met (blocks r m t) x ≡ true → x < j
blocks_below r m k j (Apply f us) met x h none here = elim (cases_Bool (with_parts met (parts m us) x)) [
  | inl at ↦ parts_below m k j us met x h none at
  | inr later ↦ blocks_below m (m + tops us) k j us (with_parts met (parts m us)) x h later here
]
blocks_below r m k j (More t ts) met x h none here = elim (cases_Bool (with_blocks met (blocks r m t) x)) [
  | inl at ↦ first_below t ts k j x h (λ i e. blocks_below r m k i t met x e none at)
  | inr later ↦ rest_below t ts k j x h (λ i e. blocks_below (r + tops t) (m + deep t) i j ts (with_blocks met (blocks r m t)) x e later
      (sym (ap (λ g. g x) (blocks_append met (blocks r m t) (blocks (r + tops t) (m + deep t) ts))) ∙ here))
]
blocks_below r m k j (Variable v) met x h none here = absurd (true≢false (sym here ∙ none))
blocks_below r m k j (Integer z) met x h none here = absurd (true≢false (sym here ∙ none))
blocks_below r m k j (Name a) met x h none here = absurd (true≢false (sym here ∙ none))
blocks_below r m k j End met x h none here = absurd (true≢false (sym here ∙ none))

-- ---- all below the next number is met

-- behind the parts of a block, as before them
parts_met : (m : ℕ) (us : Tree) (k : ℕ) (met : ℕ → Bool) → AllBelow k met → AllBelow k (with_parts met (parts m us))
parts_met m us k met below y low = parts_kept met (parts m us) y (below y low)

-- behind the blocks of a row of terms, of which the variables themselves were met
row_met : (r m k j : ℕ) (ts : Tree) (met : ℕ → Bool) → is_row ts ≡ true → next_number ts k ≡ Some j → AllBelow k met → Direct ts met → AllBelow j (with_blocks met (blocks r m ts))
row_met r m k j (More (Variable v) ts) met form numbered below direct =
    let both = then_next ts j (next_number (Variable v) k) numbered in
    row_met (r + 0) (m + 0) both.0 j ts met form both.2 (below_variable v k both.0 met both.1 below direct.0) direct.1
row_met r m k j (More (Integer z) ts) met form numbered below direct = row_met (r + 0) (m + 0) k j ts met form numbered below direct
row_met r m k j (More (Name a) ts) met form numbered below direct = row_met (r + 0) (m + 0) k j ts met form numbered below direct
row_met r m k j (More (Apply f us) ts) met form numbered below direct =
    let both = then_next ts j (next_number us k) numbered in
    let forms = and_parts (is_term (Apply f us)) (is_row ts) form in
    let first : List Block = blocks r m (Apply f us) in
    subst (AllBelow j) (sym (blocks_append met first (blocks (r + 1) (m + (tops us + deep us)) ts)))
    (row_met (r + 1) (m + (tops us + deep us)) both.0 j ts (with_blocks met first) forms.1 both.2
    (row_met m (m + tops us) k both.0 us (with_parts met (parts m us)) (row_of_arguments f us forms.0) both.1 (parts_met m us k met below) (direct_parts m us met))
    (direct_kept ts met (with_blocks met first) (λ y h. blocks_kept met first y h) direct))
row_met r m k j (More End ts) met form numbered below direct = absurd (false≢true form)
row_met r m k j (More (More u us) ts) met form numbered below direct = absurd (false≢true form)
row_met r m k j End met form numbered below direct = λ y low. below y (let e = some_same k j numbered in omega (arith, e, low))
row_met r m k j (Variable v) met form numbered below direct = absurd (false≢true form)
row_met r m k j (Integer z) met form numbered below direct = absurd (false≢true form)
row_met r m k j (Name a) met form numbered below direct = absurd (false≢true form)
row_met r m k j (Apply f us) met form numbered below direct = absurd (false≢true form)

-- and behind those of a compound
compound_met : (r m k j : ℕ) (f : List ℕ) (us : Tree) (met : ℕ → Bool) → is_row us ≡ true → next_number us k ≡ Some j → AllBelow k met → AllBelow j (with_blocks met (blocks r m (Apply f us)))
compound_met r m k j f us met form numbered below =
    row_met m (m + tops us) k j us (with_parts met (parts m us)) form numbered (parts_met m us k met below) (direct_parts m us met)

-- ---- groups

-- a compound's block with those that are in it, whatever comes behind them
group_next : (r m k j : ℕ) (f : List ℕ) (us : Tree) (met : ℕ → Bool) (bs : List Block) → is_row us ≡ true → next_number us k ≡ Some j → AllBelow k met
    → IsNextGroup met (record { register = r; name = f; parts = parts m us; inner = tops us + deep us }) (blocks m (m + tops us) us ++ bs)
group_next r m k j f us met bs form numbered below x y none here apart =
    let inner : List Block = blocks m (m + tops us) us in
    let taken : take (tops us + deep us) (inner ++ bs) ≡ inner = ap (λ n. take n (inner ++ bs)) (sym (length_blocks m (m + tops us) us)) ∙ take_whole inner bs in
    let same : with_blocks (with_parts met (parts m us)) (take (tops us + deep us) (inner ++ bs)) ≡ with_blocks met (blocks r m (Apply f us)) = ap (with_blocks (with_parts met (parts m us))) taken in
    let low : x < j = blocks_below r m k j (Apply f us) met x numbered none (sym (ap (λ g. g x) same) ∙ here) in
    elim (cases_Bool (nat_lt y j)) [
      | inl before ↦ absurd (true≢false (sym (compound_met r m k j f us met form numbered below y (ltb-true y j before)) ∙ sym (ap (λ g. g y) same) ∙ apart))
      | inr behind ↦ (let high = ltb-false y j behind in omega (arith, low, high))
    ]

-- the blocks of a row of terms, of which the variables themselves were met, and what comes behind them
row_groups : (r m k j : ℕ) (ts : Tree) (met : ℕ → Bool) (bs : List Block) → is_row ts ≡ true → next_number ts k ≡ Some j → AllBelow k met → Direct ts met
    → GroupsAreNext (with_blocks met (blocks r m ts)) bs → GroupsAreNext met (blocks r m ts ++ bs)
row_groups r m k j (More (Variable v) ts) met bs form numbered below direct rest =
    let both = then_next ts j (next_number (Variable v) k) numbered in
    row_groups (r + 0) (m + 0) both.0 j ts met bs form both.2 (below_variable v k both.0 met both.1 below direct.0) direct.1 rest
row_groups r m k j (More (Integer z) ts) met bs form numbered below direct rest = row_groups (r + 0) (m + 0) k j ts met bs form numbered below direct rest
row_groups r m k j (More (Name a) ts) met bs form numbered below direct rest = row_groups (r + 0) (m + 0) k j ts met bs form numbered below direct rest
row_groups r m k j (More (Apply f us) ts) met bs form numbered below direct rest =
    let both = then_next ts j (next_number us k) numbered in
    let forms = and_parts (is_term (Apply f us)) (is_row ts) form in
    let inside = row_of_arguments f us forms.0 in
    let first : List Block = blocks r m (Apply f us) in
    let others : List Block = blocks (r + 1) (m + (tops us + deep us)) ts in
    subst (GroupsAreNext met) (sym (append_append first others bs)) (
      group_next r m k both.0 f us met (others ++ bs) inside both.1 below,
      row_groups m (m + tops us) k both.0 us (with_parts met (parts m us)) (others ++ bs) inside both.1 (parts_met m us k met below) (direct_parts m us met)
          (row_groups (r + 1) (m + (tops us + deep us)) both.0 j ts (with_blocks met first) bs forms.1 both.2 (compound_met r m k both.0 f us met inside both.1 below)
          (direct_kept ts met (with_blocks met first) (λ y h. blocks_kept met first y h) direct) (subst (λ g. GroupsAreNext g bs) (blocks_append met first others) rest)),
    )
row_groups r m k j (More End ts) met bs form numbered below direct rest = absurd (false≢true form)
row_groups r m k j (More (More u us) ts) met bs form numbered below direct rest = absurd (false≢true form)
row_groups r m k j End met bs form numbered below direct rest = rest
row_groups r m k j (Variable v) met bs form numbered below direct rest = absurd (false≢true form)
row_groups r m k j (Integer z) met bs form numbered below direct rest = absurd (false≢true form)
row_groups r m k j (Name a) met bs form numbered below direct rest = absurd (false≢true form)
row_groups r m k j (Apply f us) met bs form numbered below direct rest = absurd (false≢true form)

-- those of a compound
compound_groups : (r m k j : ℕ) (f : List ℕ) (us : Tree) (met : ℕ → Bool) (bs : List Block) → is_row us ≡ true → next_number us k ≡ Some j → AllBelow k met
    → GroupsAreNext (with_blocks met (blocks r m (Apply f us))) bs → GroupsAreNext met (blocks r m (Apply f us) ++ bs)
compound_groups r m k j f us met bs form numbered below rest = (
  group_next r m k j f us met bs form numbered below,
  row_groups m (m + tops us) k j us (with_parts met (parts m us)) bs form numbered (parts_met m us k met below) (direct_parts m us met) rest,
)

-- those of the arguments of a head
arguments_groups : (r m k j : ℕ) (ts : Tree) (met : ℕ → Bool) → is_row ts ≡ true → next_number ts k ≡ Some j → AllBelow k met → Direct ts met → GroupsAreNext met (head_blocks r m ts)
arguments_groups r m k j (More (Variable v) ts) met form numbered below direct =
    let both = then_next ts j (next_number (Variable v) k) numbered in
    arguments_groups (r + 1) (m + 0) both.0 j ts met form both.2 (below_variable v k both.0 met both.1 below direct.0) direct.1
arguments_groups r m k j (More (Integer z) ts) met form numbered below direct = arguments_groups (r + 1) (m + 0) k j ts met form numbered below direct
arguments_groups r m k j (More (Name a) ts) met form numbered below direct = arguments_groups (r + 1) (m + 0) k j ts met form numbered below direct
arguments_groups r m k j (More (Apply f us) ts) met form numbered below direct =
    let both = then_next ts j (next_number us k) numbered in
    let forms = and_parts (is_term (Apply f us)) (is_row ts) form in
    let inside = row_of_arguments f us forms.0 in
    let first : List Block = blocks r m (Apply f us) in
    compound_groups r m k both.0 f us met (head_blocks (r + 1) (m + (tops us + deep us)) ts) inside both.1 below
    (arguments_groups (r + 1) (m + (tops us + deep us)) both.0 j ts (with_blocks met first) forms.1 both.2 (compound_met r m k both.0 f us met inside both.1 below)
    (direct_kept ts met (with_blocks met first) (λ y h. blocks_kept met first y h) direct))
arguments_groups r m k j (More End ts) met form numbered below direct = absurd (false≢true form)
arguments_groups r m k j (More (More u us) ts) met form numbered below direct = absurd (false≢true form)
arguments_groups r m k j End met form numbered below direct = tt
arguments_groups r m k j (Variable v) met form numbered below direct = tt
arguments_groups r m k j (Integer z) met form numbered below direct = tt
arguments_groups r m k j (Name a) met form numbered below direct = tt
arguments_groups r m k j (Apply f us) met form numbered below direct = tt

-- what is met with first meets the arguments that are variables
got_direct : (i : ℕ) (ts : Tree) (met : ℕ → Bool) → Direct ts (with_parts met (map part_got (gets i ts)))
got_direct i (More (Variable v) ts) met =
    (parts_kept (with_part met (Place v)) (map part_got (gets (i + 1) ts)) v (place_met met v), got_direct (i + 1) ts (with_part met (Place v)))
got_direct i (More (Integer z) ts) met = got_direct (i + 1) ts met
got_direct i (More (Name a) ts) met = got_direct (i + 1) ts met
got_direct i (More (Apply f us) ts) met = got_direct (i + 1) ts met
got_direct i (More End ts) met = got_direct (i + 1) ts met
got_direct i (More (More u us) ts) met = got_direct (i + 1) ts met
got_direct i (Variable v) met = tt
got_direct i (Integer z) met = tt
got_direct i (Name a) met = tt
got_direct i (Apply f us) met = tt
got_direct i End met = tt

-- those of a whole head, whatever was met before it
pub head_next : (met : ℕ → Bool) (m j : ℕ) (ts : Tree) → is_row ts ≡ true → next_number ts 0 ≡ Some j → GroupsAreNext (with_parts met (map part_got (gets 0 ts))) (head_blocks 0 m ts)
head_next met m j ts form numbered =
    arguments_groups 0 m 0 j ts (with_parts met (map part_got (gets 0 ts))) form numbered (λ y low. absurd (omega (arith, low))) (got_direct 0 ts met)
