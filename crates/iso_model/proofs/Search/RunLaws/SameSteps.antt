-- What steps of states that are the same come to.
use Rattle.std.proofs.Common.{codes, ◌≡◌, ℕ, zero, suc, ◌+◌, ◌≤◌, ◌-◌, List, [], ◌∷◌, ◌++◌, Bool, true, false, Option, Some, None, map, length, drop, refl, sym, ap, ap₂, ◌∙◌, subst, arith, ◌==◌, if◌then◌else◌}
use Rattle.iso_ops.specs.declared.settings.Unknown.{Unknown}
use Rattle.iso_ops.specs.declared.settings.Unknown.TheVariants as on_unknown
use Rattle.iso_model.specs.Terms.Trees.{Tree, Variable, More, row}
use Rattle.iso_model.specs.Terms.Variables.{variables, variable_count}
use Rattle.iso_model.specs.Terms.Sizes.{size}
use Rattle.iso_model.specs.Terms.Substitutions.{Subst, apply, compose}
use Rattle.iso_model.specs.Terms.Unifiers.{Unifier, IsUnifierOf}
use Rattle.iso_model.specs.Terms.Unification.{unifier_of, unifier_of_is}
use Rattle.iso_model.specs.Terms.Unification.Applied.{apply_apply, apply_same}
use Rattle.iso_model.specs.Terms.Copies.{copy_from, renamed, place_of}
use Rattle.iso_model.specs.Terms.Lists.{list_of}
use Rattle.iso_model.specs.Search.Bodies.{Body, Cut, Run, And, Or, If, Choose, one, map_body, is_true, body_term}
use Rattle.iso_model.specs.Search.Databases.{Clause, Key, key_of, clauses_at}
use Rattle.iso_model.specs.Search.BuiltIns.{Reply, Fails, Succeeds, Equates, EquatesCopy, Raises, Calls, CallsOnce, Refutes, Repeats, Catches, Gathers, Halts, AsksWorld, Writes, built_in, reply, Grouping, Collecting, AsList, InGroups}
use Rattle.iso_model.specs.Search.Groups.{groups_of, is_solution, witnesses, items, collection}
use Rattle.iso_model.specs.Search.Library.{list_made}
use Rattle.iso_model.specs.Search.Settlements.{Settled, Refuses, Changes, Offers, Offer}
use Rattle.iso_model.specs.declared.built_ins.BuiltIn.{BuiltIn}
use Rattle.iso_model.specs.Search.Walker.{query_size, State, World, Member, Goal, CutTo, Fail, Leave, Raise, Meet, Gather, Left, AsIs, Again, Clauses, Catching, Gathering, Offered, Groups, Alternative, Event, Ending, Outcome, Goes, Gives, Ends, Answered, NoMore, Budget, Uncaught, Halted, charged, paid, before, entered, under, tried_clause, with_others, tried, retried, backtracked, unknown_called, written, called, equated, with_rights, without_removed, taken, met_right, tried_right, is_there, offered, settled, with_goal, replied, selected, run_goal, run_value, caught_at, caught, thrown, met, meets, gathered, gathered_at, fails, values, clause_size, shortened, cut_back, pushed, step_goal, step_list, step, with_copy, equated_copy, built_with, with_template, list_met, witnessed, repeated, met_group, tried_group, with_groups, grouped, collected}
use Rattle.iso_model.specs.Search.Runs.{Quiet, here, onward}
use Rattle.iso_model.proofs.Search.RunLaws.SettingValues.{IsOwnSettled}
use Rattle.iso_model.proofs.Search.RunLaws.Values.{IsOwnBody, IsOwnReply, reply_own}
use Rattle.iso_model.proofs.Search.RunLaws.TermValues.{value_is, twice_on, row_value, list_value}
use Rattle.iso_model.proofs.Search.RunLaws.GroupValues.{witnesses_values, collection_values}
use Rattle.iso_model.specs.Search.RunLaws.Sameness.{SameList, no_member, same_goal, same_construct, same_cut, same_failure, same_leave, same_ball, same_meeting, same_gathering, Agree, SameStack, no_alternative, same_alternative, Beside, Around, open_body, open_list, Same, going, failing, IsOwnLeft, IsOwnCollecting, IsValue}

-- ---- what was built

-- as much more in both
grown : {m n : ℕ} (k : ℕ) → m ≤ n → m + k ≤ n + k
grown {m} {n} k less = omega (arith, less)

-- ---- substitutions

value_on : (r q u : Subst) (a b : Tree) → apply r a ≡ apply q b → apply (compose r u) a ≡ apply (compose q u) b
value_on r q u a b same = sym (apply_apply r u a) ∙ ap (apply u) same ∙ apply_apply q u b

-- a body under one substitution and then another
map_body_map : (r u : Subst) (b : Body) → map_body u (map_body r b) ≡ map_body (compose r u) b
map_body_map r u Cut = refl
map_body_map r u (Run t) = ap Run (apply_apply r u t)
map_body_map r u (And a b) = ap₂ And (map_body_map r u a) (map_body_map r u b)
map_body_map r u (Or a b) = ap₂ Or (map_body_map r u a) (map_body_map r u b)
map_body_map r u (If a b) = ap₂ If (map_body_map r u a) (map_body_map r u b)
map_body_map r u (Choose a b c) =
    let first = map_body_map r u a in
    let second = map_body_map r u b in
    let third = map_body_map r u c in
    λ i. Choose (first i) (second i) (third i)

body_on : (r q u : Subst) (a b : Body) → map_body r a ≡ map_body q b → map_body (compose r u) a ≡ map_body (compose q u) b
body_on r q u a b same = sym (map_body_map r u a) ∙ ap (map_body u) same ∙ map_body_map q u b

list_on : {r q : Subst} {ms ns : List Member} (u : Subst) → SameList r q ms ns → SameList (compose r u) (compose q u) ms ns
list_on u no_member = no_member
list_on {r} {q} u (same_goal {t = a} {u = b} same others) = same_goal (value_on r q u a b same) (list_on u others)
list_on {r} {q} u (same_construct {b = a} {c = b} same others) = same_construct (body_on r q u a b same) (list_on u others)
list_on u (same_cut others) = same_cut (list_on u others)
list_on u (same_failure others) = same_failure (list_on u others)
list_on u (same_leave others) = same_leave (list_on u others)
list_on u (same_ball others) = same_ball (list_on u others)
list_on {r} {q} u (same_meeting {c = c} {d = d} {x = x} {y = y} catcher recovery others) = same_meeting (value_on r q u c d catcher) (value_on r q u x y recovery) (list_on u others)
list_on {r} {q} u (same_gathering {c = c} {d = d} value others) = same_gathering (value_on r q u c d value) (list_on u others)

map_on : (r u : Subst) (vs : List ℕ) → map (compose r u) vs ≡ map (apply u) (map r vs)
map_on r u [] = refl
map_on r u (v ∷ vs) = ap (λ (ts : List Tree). apply u (r v) ∷ ts) (map_on r u vs)

-- terms that both substitutions leave as they are
record AreValues (r q : Subst) (a b : Tree) : Type 0 where
  first : IsValue r a
  second : IsValue r b
  third : IsValue q a
  fourth : IsValue q b

agree_on : {r q : Subst} {vs ws : List ℕ} {n : ℕ} (u : Subst) (a b : Tree) → AreValues r q a b → Unifier a b u → Agree r q vs ws n → Agree (compose r u) (compose q u) vs ws n
agree_on {r} {q} {vs} {ws} u a b are unifies h = record {
  shown = map_on r u vs ∙ (ap (map (apply u)) h.shown ∙ sym (map_on q u ws));
  beyond = λ x more. ap (apply u) (h.beyond x more);
  twice = twice_on r u a b h.twice are.first are.second unifies;
  other = twice_on q u a b h.other are.third are.fourth unifies;
}

agree_more : {r q : Subst} {vs ws : List ℕ} {n : ℕ} (k : ℕ) → Agree r q vs ws n → Agree r q vs ws (n + k)
agree_more {n = n} k h = record { shown = h.shown; beyond = λ x more. h.beyond x (omega (arith, more)); twice = h.twice; other = h.other }

-- a term whose variables are not used yet
renamed_same : (r q : Subst) (n : ℕ) (t : Tree) → ((x : ℕ) → n ≤ x → r x ≡ q x) → apply r (renamed n t) ≡ apply q (renamed n t)
renamed_same r q n t beyond =
    let new : Subst = λ k. Variable (n + k) in
    apply_apply new r t ∙ (apply_same (compose new r) (compose new q) t (λ x o. beyond (n + x) (omega arith)) ∙ sym (apply_apply new q t))

-- ---- conjunctions that come first

abbrev pub is_conjunction : Body → Bool
is_conjunction (And a b) = true
is_conjunction Cut = false
is_conjunction (Run t) = false
is_conjunction (Or a b) = false
is_conjunction (If c t) = false
is_conjunction (Choose c t e) = false

abbrev pub is_goal : Member → Bool
is_goal (Goal b mark) = true
is_goal (CutTo height) = false
is_goal Fail = false
is_goal (Leave height) = false
is_goal (Raise ball) = false
is_goal (Meet ball catcher recovery) = false
is_goal (Gather height template) = false

-- the list's first member is no conjunction
pub data Open : List Member → Type 0 where
  open_end : Open []
  open_goal : {b : Body} {mark : ℕ} {ms : List Member} → is_conjunction b ≡ false → Open (Goal b mark ∷ ms)
  open_other : {m : Member} {ms : List Member} → is_goal m ≡ false → Open (m ∷ ms)

open_alone : (b : Body) (mark : ℕ) (ms : List Member) → is_conjunction b ≡ false → open_body b mark ms ≡ Goal b mark ∷ ms
open_alone (And a b) mark ms alone = absurd (cc)
open_alone Cut mark ms alone = refl
open_alone (Run t) mark ms alone = refl
open_alone (Or a b) mark ms alone = refl
open_alone (If c t) mark ms alone = refl
open_alone (Choose c t e) mark ms alone = refl

-- a list whose first member is no goal is its own
open_member : (m : Member) (ms : List Member) → is_goal m ≡ false → open_list (m ∷ ms) ≡ m ∷ ms
open_member (Goal b mark) ms other = absurd (cc)
open_member (CutTo height) ms other = refl
open_member Fail ms other = refl
open_member (Leave height) ms other = refl
open_member (Raise ball) ms other = refl
open_member (Meet ball catcher recovery) ms other = refl
open_member (Gather height template) ms other = refl

-- so is one whose first member is no conjunction
pub open_is : {ms : List Member} → Open ms → open_list ms ≡ ms
open_is open_end = refl
open_is (open_goal {b = b} {mark = mark} {ms = ms} alone) = open_alone b mark ms alone
open_is (open_other {m = m} {ms = ms} other) = open_member m ms other

body_is_open : (b : Body) (mark : ℕ) (ms : List Member) → Open (open_body b mark ms)
body_is_open (And a b) mark ms = body_is_open a mark (Goal b mark ∷ ms)
body_is_open Cut mark ms = open_goal refl
body_is_open (Run t) mark ms = open_goal refl
body_is_open (Or a b) mark ms = open_goal refl
body_is_open (If c t) mark ms = open_goal refl
body_is_open (Choose c t e) mark ms = open_goal refl

pub list_is_open : (ms : List Member) → Open (open_list ms)
list_is_open [] = open_end
list_is_open (Goal b mark ∷ ms) = body_is_open b mark ms
list_is_open (CutTo height ∷ ms) = open_other refl
list_is_open (Fail ∷ ms) = open_other refl
list_is_open (Leave height ∷ ms) = open_other refl
list_is_open (Raise ball ∷ ms) = open_other refl
list_is_open (Meet ball catcher recovery ∷ ms) = open_other refl
list_is_open (Gather height template ∷ ms) = open_other refl

pub open_twice : (ms : List Member) → open_list (open_list ms) ≡ open_list ms
open_twice ms = open_is (list_is_open ms)

-- ---- lists

-- a body whose variables are not used yet
body_new : (r q : Subst) (n : ℕ) (b : Body) → ((x : ℕ) → n ≤ x → r x ≡ q x) → map_body r (map_body (λ k. Variable (n + k)) b) ≡ map_body q (map_body (λ k. Variable (n + k)) b)
body_new r q n Cut beyond = refl
body_new r q n (Run t) beyond = ap Run (renamed_same r q n t beyond)
body_new r q n (And a b) beyond = ap₂ And (body_new r q n a beyond) (body_new r q n b beyond)
body_new r q n (Or a b) beyond = ap₂ Or (body_new r q n a beyond) (body_new r q n b beyond)
body_new r q n (If a b) beyond = ap₂ If (body_new r q n a beyond) (body_new r q n b beyond)
body_new r q n (Choose a b c) beyond =
    let first = body_new r q n a beyond in
    let second = body_new r q n b beyond in
    let third = body_new r q n c beyond in
    λ i. Choose (first i) (second i) (third i)

-- what a body is that is equal under a substitution
parts_of_and : (q : Subst) (x y c : Body) → And x y ≡ map_body q c → (a : Body) × (b : Body) × (c ≡ And a b) × (x ≡ map_body q a) × (y ≡ map_body q b)
parts_of_and q x y (And a b) e = (a, b, refl, cc, cc)
parts_of_and q x y Cut e = absurd (cc)
parts_of_and q x y (Run t) e = absurd (cc)
parts_of_and q x y (Or a b) e = absurd (cc)
parts_of_and q x y (If a b) e = absurd (cc)
parts_of_and q x y (Choose a b c) e = absurd (cc)

parts_of_or : (q : Subst) (x y c : Body) → Or x y ≡ map_body q c → (a : Body) × (b : Body) × (c ≡ Or a b) × (x ≡ map_body q a) × (y ≡ map_body q b)
parts_of_or q x y (Or a b) e = (a, b, refl, cc, cc)
parts_of_or q x y Cut e = absurd (cc)
parts_of_or q x y (Run t) e = absurd (cc)
parts_of_or q x y (And a b) e = absurd (cc)
parts_of_or q x y (If a b) e = absurd (cc)
parts_of_or q x y (Choose a b c) e = absurd (cc)

parts_of_if : (q : Subst) (x y c : Body) → If x y ≡ map_body q c → (a : Body) × (b : Body) × (c ≡ If a b) × (x ≡ map_body q a) × (y ≡ map_body q b)
parts_of_if q x y (If a b) e = (a, b, refl, cc, cc)
parts_of_if q x y Cut e = absurd (cc)
parts_of_if q x y (Run t) e = absurd (cc)
parts_of_if q x y (And a b) e = absurd (cc)
parts_of_if q x y (Or a b) e = absurd (cc)
parts_of_if q x y (Choose a b c) e = absurd (cc)

parts_of_choose : (q : Subst) (x y z d : Body) → Choose x y z ≡ map_body q d → (a : Body) × (b : Body) × (c : Body) × (d ≡ Choose a b c) × (x ≡ map_body q a) × (y ≡ map_body q b) × (z ≡ map_body q c)
parts_of_choose q x y z (Choose a b c) e = (a, b, c, refl, cc, cc, cc)
parts_of_choose q x y z Cut e = absurd (cc)
parts_of_choose q x y z (Run t) e = absurd (cc)
parts_of_choose q x y z (And a b) e = absurd (cc)
parts_of_choose q x y z (Or a b) e = absurd (cc)
parts_of_choose q x y z (If a b) e = absurd (cc)

is_cut : (q : Subst) (c : Body) → Cut ≡ map_body q c → c ≡ Cut
is_cut q Cut e = refl
is_cut q (Run t) e = absurd (cc)
is_cut q (And a b) e = absurd (cc)
is_cut q (Or a b) e = absurd (cc)
is_cut q (If a b) e = absurd (cc)
is_cut q (Choose a b c) e = absurd (cc)

pub is_run : (q : Subst) (v : Tree) (c : Body) → Run v ≡ map_body q c → (u : Tree) × (c ≡ Run u) × (v ≡ apply q u)
is_run q v (Run u) e = (u, refl, cc)
is_run q v Cut e = absurd (cc)
is_run q v (And a b) e = absurd (cc)
is_run q v (Or a b) e = absurd (cc)
is_run q v (If a b) e = absurd (cc)
is_run q v (Choose a b c) e = absurd (cc)

-- bodies that are equal, before lists that are the same
pub put_alike : (r q : Subst) (ms ns : List Member) (b c : Body) (mark : ℕ) → map_body r b ≡ map_body q c → SameList r q ms ns → SameList r q (Goal b mark ∷ ms) (Goal c mark ∷ ns)
put_alike r q ms ns b c mark same others = same_construct same others

-- so with conjunctions in front taken apart
body_opened : (r q : Subst) (ms ns : List Member) (b c : Body) (mark : ℕ) → map_body r b ≡ map_body q c → SameList r q ms ns
    → SameList r q (open_body b mark ms) (open_body c mark ns)
body_opened r q ms ns (And x y) c mark same others =
    let p = parts_of_and q (map_body r x) (map_body r y) c same in
    subst (λ (d : Body). SameList r q (open_body x mark (Goal y mark ∷ ms)) (open_body d mark ns)) (sym p.2)
    (body_opened r q (Goal y mark ∷ ms) (Goal p.1 mark ∷ ns) x p.0 mark p.3 (put_alike r q ms ns y p.1 mark p.4 others))
body_opened r q ms ns Cut c mark same others =
    subst (λ (d : Body). SameList r q (Goal Cut mark ∷ ms) (open_body d mark ns)) (sym (is_cut q c same)) (same_construct refl others)
body_opened r q ms ns (Run t) c mark same others =
    let p = is_run q (apply r t) c same in
    subst (λ (d : Body). SameList r q (Goal (Run t) mark ∷ ms) (open_body d mark ns)) (sym p.1) (same_goal p.2 others)
body_opened r q ms ns (Or x y) c mark same others =
    let p = parts_of_or q (map_body r x) (map_body r y) c same in
    subst (λ (d : Body). SameList r q (Goal (Or x y) mark ∷ ms) (open_body d mark ns)) (sym p.2) (same_construct (ap₂ Or p.3 p.4) others)
body_opened r q ms ns (If x y) c mark same others =
    let p = parts_of_if q (map_body r x) (map_body r y) c same in
    subst (λ (d : Body). SameList r q (Goal (If x y) mark ∷ ms) (open_body d mark ns)) (sym p.2) (same_construct (ap₂ If p.3 p.4) others)
body_opened r q ms ns (Choose x y z) c mark same others =
    let p = parts_of_choose q (map_body r x) (map_body r y) (map_body r z) c same in
    let first = p.4 in
    let second = p.5 in
    let third = p.6 in
    subst (λ (d : Body). SameList r q (Goal (Choose x y z) mark ∷ ms) (open_body d mark ns)) (sym p.3) (same_construct (λ i. Choose (first i) (second i) (third i)) others)

pub list_opened : {r q : Subst} {ms ns : List Member} → SameList r q ms ns → SameList r q (open_list ms) (open_list ns)
list_opened no_member = no_member
list_opened (same_goal value others) = same_goal value others
list_opened {r} {q} (same_construct {b = b} {c = c} {m = m} {ms = ms} {ns = ns} same others) = body_opened r q ms ns b c m same others
list_opened (same_cut others) = same_cut others
list_opened (same_failure others) = same_failure others
list_opened (same_leave others) = same_leave others
list_opened (same_ball others) = same_ball others
list_opened (same_meeting catcher recovery others) = same_meeting catcher recovery others
list_opened (same_gathering value others) = same_gathering value others

-- states whose lists are the same
pub same_lists : {s t : State} → Around s t → SameList s.subst t.subst s.list t.list → Same s t
same_lists at list = going at (list_opened list)

before_same : (r q : Subst) (ms ns : List Member) (n : ℕ) (b : Body) (mark : ℕ) → ((x : ℕ) → n ≤ x → r x ≡ q x) → SameList r q ms ns
    → SameList r q ((before (map_body (λ k. Variable (n + k)) b) mark ms)) ((before (map_body (λ k. Variable (n + k)) b) mark ns))
before_same r q ms ns n b mark beyond others =
    let c = map_body (λ k. Variable (n + k)) b in
    elim (is_true c) as (λ fact. SameList r q ((if fact then ms else Goal c mark ∷ ms)) ((if fact then ns else Goal c mark ∷ ns))) [
      | true ↦ others
      | false ↦ put_alike r q ms ns c c mark (body_new r q n b beyond) others
    ]

pub list_same : {r : Subst} (ms : List Member) → SameList r r ms ms
list_same [] = no_member
list_same {r} (Goal b mark ∷ ms) = put_alike r r ms ms b b mark refl (list_same ms)
list_same (CutTo height ∷ ms) = same_cut (list_same ms)
list_same (Fail ∷ ms) = same_failure (list_same ms)
list_same (Leave height ∷ ms) = same_leave (list_same ms)
list_same (Raise ball ∷ ms) = same_ball (list_same ms)
list_same (Meet ball catcher recovery ∷ ms) = same_meeting refl refl (list_same ms)
list_same (Gather height template ∷ ms) = same_gathering refl (list_same ms)

pub stack_length : {vs ws : List ℕ} {xs ys : List Alternative} → SameStack vs ws xs ys → length xs ≡ length ys
stack_length no_alternative = refl
stack_length (same_alternative agree next built list left own other others) = ap suc (stack_length others)

dropped_same : {vs ws : List ℕ} {xs ys : List Alternative} (n : ℕ) → SameStack vs ws xs ys → SameStack vs ws (drop n xs) (drop n ys)
dropped_same zero others = others
dropped_same (suc n) no_alternative = no_alternative
dropped_same (suc n) (same_alternative agree next built list left own other others) = dropped_same n others

pub shortened_same : {vs ws : List ℕ} {xs ys : List Alternative} (height : ℕ) → SameStack vs ws xs ys → SameStack vs ws (shortened height xs) (shortened height ys)
shortened_same {vs} {ws} {xs} {ys} height same =
    subst (λ (n : ℕ). SameStack vs ws (shortened height xs) (drop (n - height) ys)) (stack_length same) (dropped_same (length xs - height) same)

-- what is gathered leaves values
gathered_own : (r : Subst) (l : Left) (v : Tree) → IsOwnLeft r l → IsOwnLeft r (gathered l v)
gathered_own r (Gathering (AsList result) copies count) v own = own
gathered_own r (Gathering (InGroups by) copies count) v own =
    elim (is_solution v) as (λ b. IsOwnLeft r (if b then Gathering (InGroups by) (copies ++ copy_from v count ∷ []) (count + variable_count v) else Gathering (InGroups by) copies count)) [
      | true ↦ own
      | false ↦ own
    ]
gathered_own r AsIs v own = own
gathered_own r Again v own = own
gathered_own r (Clauses call cs) v own = own
gathered_own r (Catching catcher recovery) v own = own
gathered_own r (Offered left rights) v own = own
gathered_own r (Groups by groups) v own = own

-- the same copy comes to both
gathered_first : {vs ws : List ℕ} (a b : Alternative) {xs ys : List Alternative} (v : Tree) (here : Bool) → Agree a.subst b.subst vs ws a.next → a.next ≡ b.next → a.built ≤ b.built → SameList a.subst b.subst a.list b.list → a.left ≡ b.left
    → IsOwnLeft a.subst a.left → IsOwnLeft b.subst b.left → SameStack vs ws xs ys
    → SameStack vs ws ((if here then record a { left = gathered a.left v } else a) ∷ xs) ((if here then record b { left = gathered b.left v } else b) ∷ ys)
gathered_first a b v true agree next built list left own other others =
    same_alternative agree next built list (ap (λ (l : Left). gathered l v) left) (gathered_own a.subst a.left v own) (gathered_own b.subst b.left v other) others
gathered_first a b v false agree next built list left own other others = same_alternative agree next built list left own other others

gathered_same : {vs ws : List ℕ} {xs ys : List Alternative} (height : ℕ) (v : Tree) → SameStack vs ws xs ys → SameStack vs ws (gathered_at height v xs) (gathered_at height v ys)
gathered_same height v no_alternative = no_alternative
gathered_same {vs} {ws} height v (same_alternative {a = a} {b = b} {xs = xs} {ys = ys} agree next built list left own other others) =
    subst (λ (n : ℕ). SameStack vs ws (gathered_at height v (a ∷ xs)) ((if n == height then record b { left = gathered b.left v } else b) ∷ gathered_at height v ys)) (stack_length others)
    (gathered_first a b v (length xs == height) agree next built list left own other (gathered_same height v others))

-- ---- what steps come to

pub data SameOut : Outcome → Outcome → Type 0 where
  both_go : {s t : State} → Same s t → SameOut (Goes s) (Goes t)
  both_give : {e : Event} {s t : State} → Same s t → SameOut (Gives e s) (Gives e t)
  both_end : {e : Ending} {w : World} → SameOut (Ends e w) (Ends e w)

fails_same : {s t : State} → Beside s t → Same (fails s) (fails t)
fails_same h = failing [] [] refl refl (record { stack = h.stack; world = h.world; steps = h.steps; query = h.query; built = h.built })

-- a clause was met, with the same unifier of the two calls with its head
entered_same : (s t : State) (ms ns : List Member) (o : Option Subst) (a b : Tree) (c : Clause) (mark : ℕ) → AreValues s.subst t.subst a b → IsUnifierOf a b o → Around s t → SameList s.subst t.subst ms ns
    → Same (entered (under s.subst o) c s.next mark ms (record s { next = s.next + c.variables; built = s.built + clause_size c }))
    (entered (under t.subst o) c t.next mark ns (record t { next = t.next + c.variables; built = t.built + clause_size c }))
entered_same s t ms ns None a b c mark are is at list = failing [] [] refl refl (record { stack = at.beside.stack; world = at.beside.world; steps = at.beside.steps; query = at.beside.query; built = grown (clause_size c) at.beside.built })
entered_same s t ms ns (Some u) a b c mark are is at list =
    let r = compose s.subst u in
    let q = compose t.subst u in
    let agree = agree_on u a b are is at.agree in
    let lists : SameList r q ((before (map_body (λ k. Variable (s.next + k)) c.body) mark ms)) ((before (map_body (λ k. Variable (t.next + k)) c.body) mark ns)) =
    subst (λ (n : ℕ). SameList r q ((before (map_body (λ k. Variable (s.next + k)) c.body) mark ms)) ((before (map_body (λ k. Variable (n + k)) c.body) mark ns))) at.next
    (before_same r q ms ns s.next c.body mark agree.beyond (list_on u list)) in
    same_lists (record { agree = agree_more c.variables agree; next = ap (λ (n : ℕ). n + c.variables) at.next; beside = record { stack = at.beside.stack; world = at.beside.world; steps = at.beside.steps; query = at.beside.query; built = grown (clause_size c) at.beside.built } }) lists

others_same : (s t : State) (ms ns : List Member) (call : Tree) (cs : List Clause) → IsValue s.subst call → IsValue t.subst call → Around s t → SameList s.subst t.subst ms ns → Around (with_others call cs ms s) (with_others call cs ns t)
others_same s t ms ns call [] own other at list = at
others_same s t ms ns call (c ∷ cs) own other at list = record {
  agree = at.agree;
  next = at.next;
  beside = record { stack = same_alternative at.agree at.next at.beside.built list refl own other at.beside.stack; world = at.beside.world; steps = at.beside.steps; query = at.beside.query; built = at.beside.built };
}

-- what is left to be tried changes no substitution
others_value : (v call : Tree) (cs : List Clause) (ms : List Member) (s : State) → IsValue s.subst v → IsValue (with_others call cs ms s).subst v
others_value v call [] ms s own = own
others_value v call (c ∷ cs) ms s own = own

clause_same : (s t : State) (ms ns : List Member) (call : Tree) (c : Clause) (mark : ℕ) → IsValue s.subst call → IsValue t.subst call → Around s t → SameList s.subst t.subst ms ns
    → Same (tried_clause call c mark ms s) (tried_clause call c mark ns t)
clause_same s t ms ns call c mark own other at list =
    let head = apply s.subst (renamed s.next c.head) in
    let o = unifier_of call head in
    let one = renamed_same s.subst t.subst s.next c.head at.agree.beyond ∙ ap (λ (n : ℕ). apply t.subst (renamed n c.head)) at.next in
    let same : o ≡ unifier_of call (apply t.subst (renamed t.next c.head)) = ap (unifier_of call) one in
    let are : AreValues s.subst t.subst call head = record {
      first = own;
      second = value_is s.subst (renamed s.next c.head) at.agree.twice;
      third = other;
      fourth = subst (λ (x : Tree). IsValue t.subst x) (sym one) (value_is t.subst (renamed t.next c.head) at.agree.other);
    } in
    subst (λ (p : Option Subst). Same (tried_clause call c mark ms s) (entered (under t.subst p) c t.next mark ns (record t { next = t.next + c.variables; built = t.built + clause_size c }))) same
    (entered_same s t ms ns o call head c mark are (unifier_of_is call head) at list)

others_list : (s t : State) (ms ns : List Member) (call : Tree) (cs : List Clause) → SameList s.subst t.subst ms ns
    → SameList (with_others call cs ms s).subst (with_others call cs ns t).subst ms ns
others_list s t ms ns call [] list = list
others_list s t ms ns call (c ∷ cs) list = list

pub tried_same : (s t : State) (ms ns : List Member) (call : Tree) (cs : List Clause) → IsValue s.subst call → IsValue t.subst call → Around s t → SameList s.subst t.subst ms ns → Same (tried call cs ms s) (tried call cs ns t)
tried_same s t ms ns call [] own other at list = fails_same at.beside
tried_same s t ms ns call (c ∷ cs) own other at list =
    let one = clause_same (with_others call cs ms s) (with_others call cs ns t) ms ns call c (length s.stack) (others_value call call cs ms s own) (others_value call call cs ns t other) (others_same s t ms ns call cs own other at list) (others_list s t ms ns call cs list) in
    subst (λ (h : ℕ). Same (tried call (c ∷ cs) ms s) (tried_clause call c h ns (with_others call cs ns t))) (stack_length at.beside.stack) one

unknown_same : (s t : State) (ms ns : List Member) (u : Unknown) (k : Key) → Around s t → SameList s.subst t.subst ms ns → Same (unknown_called u k ms s) (unknown_called u k ns t)
unknown_same s t ms ns on_unknown.Error k at list =
    same_lists (record { agree = at.agree; next = at.next; beside = record { stack = at.beside.stack; world = at.beside.world; steps = at.beside.steps; query = at.beside.query; built = at.beside.built } }) (same_ball list)
unknown_same s t ms ns on_unknown.Fail k at list = fails_same at.beside

called_same : (s t : State) (ms ns : List Member) (cs : Option (List Clause)) (k : Key) (v : Tree) → IsValue s.subst v → IsValue t.subst v → Around s t → SameList s.subst t.subst ms ns → Same (called cs k v ms s) (called cs k v ns t)
called_same s t ms ns (Some cs) k v own other at list = tried_same s t ms ns v cs own other at list
called_same s t ms ns None k v own other at list =
    subst (λ (w : World). Same (unknown_called s.world.flags.unknown k ms s) (unknown_called w.flags.unknown k ns t)) at.beside.world (unknown_same s t ms ns s.world.flags.unknown k at list)

equated_same : (s t : State) (ms ns : List Member) (made : ℕ) (o : Option Subst) (a b : Tree) → AreValues s.subst t.subst a b → IsUnifierOf a b o → Around s t → SameList s.subst t.subst ms ns
    → Same (equated (under s.subst o) ms (record s { built = s.built + made })) (equated (under t.subst o) ns (record t { built = t.built + made }))
equated_same s t ms ns made None a b are is at list = failing [] [] refl refl (record { stack = at.beside.stack; world = at.beside.world; steps = at.beside.steps; query = at.beside.query; built = grown made at.beside.built })
equated_same s t ms ns made (Some u) a b are is at list = same_lists (record { agree = agree_on u a b are is at.agree; next = at.next; beside = record { stack = at.beside.stack; world = at.beside.world; steps = at.beside.steps; query = at.beside.query; built = grown made at.beside.built } }) (list_on u list)

-- a term with other variables, none of which is used yet
copied_same : (r q : Subst) (n : ℕ) (t : Tree) → ((x : ℕ) → n ≤ x → r x ≡ q x) → apply r (copy_from t n) ≡ apply q (copy_from t n)
copied_same r q n t beyond =
    let new : Subst = λ x. Variable (n + place_of x (variables t)) in
    apply_apply new r t ∙ (apply_same (compose new r) (compose new q) t (λ x o. beyond (n + place_of x (variables t)) (omega arith)) ∙ sym (apply_apply new q t))

-- a term was unified with a copy, or not
copy_equated_same : (s t : State) (ms ns : List Member) (made : ℕ) (o : Option Subst) (a b c : Tree) → AreValues s.subst t.subst a c → IsUnifierOf a c o → Around s t → SameList s.subst t.subst ms ns
    → Same (equated (under s.subst o) ms (with_copy made b s)) (equated (under t.subst o) ns (with_copy made b t))
copy_equated_same s t ms ns made None a b c are is at list = failing [] [] refl refl (record { stack = at.beside.stack; world = at.beside.world; steps = at.beside.steps; query = at.beside.query; built = grown made at.beside.built })
copy_equated_same s t ms ns made (Some u) a b c are is at list = same_lists (record {
  agree = agree_more (variable_count b) (agree_on u a c are is at.agree);
  next = ap (λ (n : ℕ). n + variable_count b) at.next;
  beside = record { stack = at.beside.stack; world = at.beside.world; steps = at.beside.steps; query = at.beside.query; built = grown made at.beside.built };
}) (list_on u list)

copies_same : (s t : State) (ms ns : List Member) (made : ℕ) (a b : Tree) → IsValue s.subst a → IsValue t.subst a → Around s t → SameList s.subst t.subst ms ns
    → SameOut (Goes (equated_copy made a b ms s)) (Goes (equated_copy made a b ns t))
copies_same s t ms ns made a b own other at list =
    let c = apply s.subst (copy_from b s.next) in
    let same : c ≡ apply t.subst (copy_from b t.next) = copied_same s.subst t.subst s.next b at.agree.beyond ∙ ap (λ (n : ℕ). apply t.subst (copy_from b n)) at.next in
    let are : AreValues s.subst t.subst a c = record {
      first = own;
      second = value_is s.subst (copy_from b s.next) at.agree.twice;
      third = other;
      fourth = subst (λ (z : Tree). IsValue t.subst z) (sym same) (value_is t.subst (copy_from b t.next) at.agree.other);
    } in
    subst (λ (z : Tree). SameOut (Goes (equated_copy made a b ms s)) (Goes (equated (under t.subst (unifier_of a z)) ns (with_copy made b t)))) same
    (both_go (copy_equated_same s t ms ns made (unifier_of a c) a b c are (unifier_of_is a c) at list))

-- an alternative before the stack, and then these lists
pushed_same : (s t : State) (left : Left) (xs ys ms ns : List Member) → IsOwnLeft s.subst left → IsOwnLeft t.subst left → Around s t → SameList s.subst t.subst xs ys → SameList s.subst t.subst ms ns
    → Same (record (pushed xs left s) { list = ms }) (record (pushed ys left t) { list = ns })
pushed_same s t left xs ys ms ns own other at kept list =
    same_lists (record {
      agree = at.agree;
      next = at.next;
      beside = record { stack = same_alternative at.agree at.next at.beside.built kept refl own other at.beside.stack; world = at.beside.world; steps = at.beside.steps; query = at.beside.query; built = at.beside.built };
    }) list

-- so where the goal that is run is counted behind it
pushed_goal_same : (s t : State) (left : Left) (b : Body) (xs ys ms ns : List Member) → IsOwnLeft s.subst left → IsOwnLeft t.subst left → Around s t → SameList s.subst t.subst xs ys → SameList s.subst t.subst ms ns
    → Same (record (with_goal b (pushed xs left s)) { list = ms }) (record (with_goal b (pushed ys left t)) { list = ns })
pushed_goal_same s t left b xs ys ms ns own other at kept list =
    same_lists (record {
      agree = at.agree;
      next = at.next;
      beside = record { stack = same_alternative at.agree at.next at.beside.built kept refl own other at.beside.stack; world = at.beside.world; steps = at.beside.steps; query = at.beside.query; built = grown (size (body_term b)) at.beside.built };
    }) list

-- the states with other lists, and whatever was built
listed_same : (s t : State) (ms ns : List Member) (m n : ℕ) → m ≤ n → Around s t → SameList s.subst t.subst ms ns → Same (record s { list = ms; built = m }) (record t { list = ns; built = n })
listed_same s t ms ns m n more at list = same_lists (record { agree = at.agree; next = at.next; beside = record { stack = at.beside.stack; world = at.beside.world; steps = at.beside.steps; query = at.beside.query; built = more } }) list

-- the template of a goal that gathers is made in both
more_with : (c : Collecting) {m n : ℕ} → m ≤ n → built_with c m ≤ built_with c n
more_with (AsList result) less = less
more_with (InGroups by) less = grown (3 + size by.witness) less

template_same : (s t : State) (c : Collecting) → Around s t → Around (with_template c s) (with_template c t)
template_same s t c at = record {
  agree = at.agree;
  next = at.next;
  beside = record { stack = at.beside.stack; world = at.beside.world; steps = at.beside.steps; query = at.beside.query; built = more_with c at.beside.built };
}

-- ---- groups of solutions

-- the result is unified with the list of the items
witnessed_same : (s t : State) (ms ns : List Member) (o : Option Subst) (by : Grouping) (a solutions : Tree) (g : Tree) (made : ℕ)
    → AreValues s.subst t.subst by.result by.result → AreValues s.subst t.subst a (row (witnesses solutions)) → IsUnifierOf a (row (witnesses solutions)) o
    → IsValue s.subst solutions → IsValue t.subst solutions → Around s t → SameList s.subst t.subst ms ns
    → Same (witnessed (under s.subst o) by solutions ms (with_copy made g s)) (witnessed (under t.subst o) by solutions ns (with_copy made g t))
witnessed_same s t ms ns None by a solutions g made own are is first second at list =
    failing [] [] refl refl (record { stack = at.beside.stack; world = at.beside.world; steps = at.beside.steps; query = at.beside.query; built = grown made at.beside.built })
witnessed_same s t ms ns (Some u) by a solutions g made own are is first second at list =
    let r = compose s.subst u in
    let q = compose t.subst u in
    let y : State = record (with_copy made g s) { subst = r } in
    let z : State = record (with_copy made g t) { subst = q } in
    let agree = agree_more (variable_count g) (agree_on u a (row (witnesses solutions)) are is at.agree) in
    let around : Around y z = record {
      agree = agree;
      next = ap (λ (n : ℕ). n + variable_count g) at.next;
      beside = record { stack = at.beside.stack; world = at.beside.world; steps = at.beside.steps; query = at.beside.query; built = grown made at.beside.built };
    } in
    let result : apply r by.result ≡ apply q by.result = value_on s.subst t.subst u by.result by.result (own.first ∙ sym own.third) in
    let here : apply r solutions ≡ apply q solutions = value_on s.subst t.subst u solutions solutions (first ∙ sym second) in
    let ts = collection by.sorts (items (apply r solutions)) in
    let values = list_value r ts (collection_values r by.sorts (apply r solutions) (value_is r solutions agree.twice)) in
    let others = list_value q ts (collection_values q by.sorts (apply r solutions) (subst (λ (x : Tree). IsValue q x) (sym here) (value_is q solutions agree.other))) in
    let both : AreValues r q (apply r by.result) (list_of ts) = record {
      first = value_is r by.result agree.twice;
      second = values;
      third = subst (λ (x : Tree). IsValue q x) (sym result) (value_is q by.result agree.other);
      fourth = others;
    } in
    let one = equated_same y z ms ns (1 + list_made (length ts)) (unifier_of (apply r by.result) (list_of ts)) (apply r by.result) (list_of ts) both (unifier_of_is (apply r by.result) (list_of ts)) around (list_on u list) in
    subst (λ (x : Tree). Same (witnessed (Some r) by solutions ms (with_copy made g s)) (list_met by.result (collection by.sorts (items x)) ns z)) here
    (subst (λ (x : Tree). Same (witnessed (Some r) by solutions ms (with_copy made g s)) (equated (under q (unifier_of x (list_of ts))) ns (record z { built = z.built + (1 + list_made (length ts)) }))) result one)

repeated_value : (r : Subst) (w : Tree) (ts : List Tree) → IsValue r w → IsValue r (repeated w ts)
repeated_value r w [] own = refl
repeated_value r w (t ∷ ts) own = ap₂ More own (repeated_value r w ts own)

group_same : (s t : State) (ms ns : List Member) (by : Grouping) (g : List Tree) → IsValue s.subst by.witness × IsValue s.subst by.result → IsValue t.subst by.witness × IsValue t.subst by.result
    → Around s t → SameList s.subst t.subst ms ns → Same (tried_group by g ms s) (tried_group by g ns t)
group_same s t ms ns by g own other at list =
    let l = list_of g in
    let c = apply s.subst (copy_from l s.next) in
    let same : c ≡ apply t.subst (copy_from l t.next) = copied_same s.subst t.subst s.next l at.agree.beyond ∙ ap (λ (n : ℕ). apply t.subst (copy_from l n)) at.next in
    let first : IsValue s.subst c = value_is s.subst (copy_from l s.next) at.agree.twice in
    let second : IsValue t.subst c = subst (λ (z : Tree). IsValue t.subst z) (sym same) (value_is t.subst (copy_from l t.next) at.agree.other) in
    let left = repeated by.witness (witnesses c) in
    let are : AreValues s.subst t.subst left (row (witnesses c)) = record {
      first = repeated_value s.subst by.witness (witnesses c) own.0;
      second = row_value s.subst (witnesses c) (witnesses_values s.subst c first);
      third = repeated_value t.subst by.witness (witnesses c) other.0;
      fourth = row_value t.subst (witnesses c) (witnesses_values t.subst c second);
    } in
    subst (λ (z : Tree). Same (tried_group by g ms s) (met_group by z ns (with_copy (size l) l t))) same
    (witnessed_same s t ms ns (unifier_of left (row (witnesses c))) by left c l (size l) (record { first = own.1; second = own.1; third = other.1; fourth = other.1 }) are
    (unifier_of_is left (row (witnesses c))) first second at list)

-- the groups that are left come to both
groups_same : (s t : State) (ms ns : List Member) (by : Grouping) (gs : List (List Tree)) → IsValue s.subst by.witness × IsValue s.subst by.result → IsValue t.subst by.witness × IsValue t.subst by.result
    → Around s t → SameList s.subst t.subst ms ns → Around (with_groups by gs ms s) (with_groups by gs ns t)
groups_same s t ms ns by [] own other at list = at
groups_same s t ms ns by (g ∷ gs) own other at list = record {
  agree = at.agree;
  next = at.next;
  beside = record { stack = same_alternative at.agree at.next at.beside.built list refl own other at.beside.stack; world = at.beside.world; steps = at.beside.steps; query = at.beside.query; built = at.beside.built };
}

grouped_same : (s t : State) (ms ns : List Member) (by : Grouping) (gs : List (List Tree)) → IsValue s.subst by.witness × IsValue s.subst by.result → IsValue t.subst by.witness × IsValue t.subst by.result
    → Around s t → SameList s.subst t.subst ms ns → Same (grouped by gs ms s) (grouped by gs ns t)
grouped_same s t ms ns by [] own other at list = fails_same at.beside
grouped_same s t ms ns by (g ∷ []) own other at list = group_same s t ms ns by g own other at list
grouped_same s t ms ns by (g ∷ h ∷ gs) own other at list =
    group_same (with_groups by (h ∷ gs) ms s) (with_groups by (h ∷ gs) ns t) ms ns by g own other (groups_same s t ms ns by (h ∷ gs) own other at list) list

collected_same : (s t : State) (ms ns : List Member) (c : Collecting) (copies : List Tree) → IsOwnCollecting s.subst c → IsOwnCollecting t.subst c → Around s t
    → SameList s.subst t.subst ms ns → SameOut (Goes (collected c copies ms s)) (Goes (collected c copies ns t))
collected_same s t ms ns (AsList result) copies own other at list = copies_same s t ms ns (size (list_of copies)) result (list_of copies) own other at list
collected_same s t ms ns (InGroups by) copies own other at list = both_go (grouped_same s t ms ns by (groups_of copies) own other at list)

-- a goal's converted body, which both substitutions leave as it is
own_put : (r q : Subst) (b : Body) (mark : ℕ) (ms ns : List Member) → IsOwnBody r b → IsOwnBody q b → SameList r q ms ns → SameList r q (Goal b mark ∷ ms) (Goal b mark ∷ ns)
own_put r q b mark ms ns own other list = put_alike r q ms ns b b mark (own ∙ sym other) list

-- the rows that are left come to both
rights_same : (s t : State) (ms ns : List Member) (left : Tree) (os : List Offer) → IsValue s.subst left → IsValue t.subst left → Around s t
    → SameList s.subst t.subst ms ns → Around (with_rights left os ms s) (with_rights left os ns t)
rights_same s t ms ns left [] own other at list = at
rights_same s t ms ns left (u ∷ us) own other at list = record {
  agree = at.agree;
  next = at.next;
  beside = record { stack = same_alternative at.agree at.next at.beside.built list refl own other at.beside.stack; world = at.beside.world; steps = at.beside.steps; query = at.beside.query; built = at.beside.built };
}

-- they change no substitution
rights_subst : (left : Tree) (os : List Offer) (ms : List Member) (s : State) → (with_rights left os ms s).subst ≡ s.subst
rights_subst left [] ms s = refl
rights_subst left (u ∷ us) ms s = refl

-- a row was met, with the same unifier of the left one with it
taken_same : (s t : State) (ms ns : List Member) (o : Option Subst) (a b : Tree) (offer : Offer) → AreValues s.subst t.subst a b → IsUnifierOf a b o → Around s t → SameList s.subst t.subst ms ns
    → Same (taken (under s.subst o) offer.removes ms (record s { next = s.next + offer.variables; built = s.built + offer.made }))
    (taken (under t.subst o) offer.removes ns (record t { next = t.next + offer.variables; built = t.built + offer.made }))
taken_same s t ms ns None a b offer are is at list = failing [] [] refl refl (record { stack = at.beside.stack; world = at.beside.world; steps = at.beside.steps; query = at.beside.query; built = grown offer.made at.beside.built })
taken_same s t ms ns (Some u) a b offer are is at list = same_lists (record {
  agree = agree_more offer.variables (agree_on u a b are is at.agree);
  next = ap (λ (n : ℕ). n + offer.variables) at.next;
  beside = record { stack = at.beside.stack; world = ap (without_removed offer.removes) at.beside.world; steps = at.beside.steps; query = at.beside.query; built = grown offer.made at.beside.built };
}) (list_on u list)

met_same_right : (s t : State) (ms ns : List Member) (left : Tree) (offer : Offer) → IsValue s.subst left → IsValue t.subst left → Around s t → SameList s.subst t.subst ms ns
    → Same (met_right left offer ms s) (met_right left offer ns t)
met_same_right s t ms ns left offer own other at list =
    let right = apply s.subst (renamed s.next offer.right) in
    let o = unifier_of left right in
    let one = renamed_same s.subst t.subst s.next offer.right at.agree.beyond ∙ ap (λ (n : ℕ). apply t.subst (renamed n offer.right)) at.next in
    let same : o ≡ unifier_of left (apply t.subst (renamed t.next offer.right)) = ap (unifier_of left) one in
    let are : AreValues s.subst t.subst left right = record {
      first = own;
      second = value_is s.subst (renamed s.next offer.right) at.agree.twice;
      third = other;
      fourth = subst (λ (x : Tree). IsValue t.subst x) (sym one) (value_is t.subst (renamed t.next offer.right) at.agree.other);
    } in
    subst (λ (p : Option Subst). Same (met_right left offer ms s) (taken (under t.subst p) offer.removes ns (record t { next = t.next + offer.variables; built = t.built + offer.made }))) same
    (taken_same s t ms ns o left right offer are (unifier_of_is left right) at list)

right_same : (s t : State) (ms ns : List Member) (left : Tree) (o : Offer) → IsValue s.subst left → IsValue t.subst left → Around s t → SameList s.subst t.subst ms ns
    → Same (tried_right left o ms s) (tried_right left o ns t)
right_same s t ms ns left o own other at list =
    subst (λ (w : World). Same (tried_right left o ms s) (if is_there o.removes w then met_right left o ns t else fails t)) at.beside.world
    (elim (is_there o.removes s.world) as (λ x. Same (if x then met_right left o ms s else fails s) (if x then met_right left o ns t else fails t)) [
      | true ↦ met_same_right s t ms ns left o own other at list
      | false ↦ fails_same at.beside
    ])

first_same : (s t : State) (ms ns : List Member) (left : Tree) (o : Offer) (os : List Offer) → IsValue s.subst left → IsValue t.subst left → Around s t
    → SameList s.subst t.subst ms ns → Same (tried_right left o ms (with_rights left os ms s)) (tried_right left o ns (with_rights left os ns t))
first_same s t ms ns left o os own other at list =
    let p = with_rights left os ms s in
    let q = with_rights left os ns t in
    let first : p.subst ≡ s.subst = rights_subst left os ms s in
    let second : q.subst ≡ t.subst = rights_subst left os ns t in
    right_same p q ms ns left o (rw first own) (rw second other) (rights_same s t ms ns left os own other at list) (rw (first, second) list)

pub offered_same : (s t : State) (ms ns : List Member) (left : Tree) (os : List Offer) → IsValue s.subst left → IsValue t.subst left → Around s t
    → SameList s.subst t.subst ms ns → Same (offered left os ms s) (offered left os ns t)
offered_same s t ms ns left [] own other at list = fails_same at.beside
offered_same s t ms ns left (o ∷ os) own other at list = first_same s t ms ns left o os own other at list

settled_same : (s t : State) (ms ns : List Member) (x : Settled) → IsOwnSettled s.subst x → IsOwnSettled t.subst x → Around s t → SameList s.subst t.subst ms ns → Same (settled x ms s) (settled x ns t)
settled_same s t ms ns (Refuses error) own other at list = listed_same s t (Raise error ∷ ms) (Raise error ∷ ns) s.built t.built at.beside.built at (same_ball list)
settled_same s t ms ns (Changes made w) own other at list =
    same_lists (record { agree = at.agree; next = at.next; beside = record { stack = at.beside.stack; world = refl; steps = at.beside.steps; query = at.beside.query; built = grown made at.beside.built } }) list
settled_same s t ms ns (Offers left rights) own other at list = offered_same s t ms ns left rights own other at list

-- the same bytes are written
written_same : (s t : State) (ms ns : List Member) (bytes : List ℕ) → Around s t → SameList s.subst t.subst ms ns → SameOut (written bytes ms s) (written bytes ns t)
written_same s t ms ns [] at list = both_go (listed_same s t ms ns s.built t.built at.beside.built at list)
written_same s t ms ns (b ∷ bytes) at list = both_give (listed_same s t ms ns s.built t.built at.beside.built at list)

replied_same : (s t : State) (ms ns : List Member) (r : Reply) → IsOwnReply s.subst r → IsOwnReply t.subst r → Around s t → SameList s.subst t.subst ms ns → SameOut (replied r ms s) (replied r ns t)
replied_same s t ms ns Fails own other at list = both_go (fails_same at.beside)
replied_same s t ms ns Succeeds own other at list = both_go (listed_same s t ms ns s.built t.built at.beside.built at list)
replied_same s t ms ns (EquatesCopy a b) own other at list = copies_same s t ms ns (1 + size b) a b own other at list
replied_same s t ms ns (Equates made a b) own other at list =
    both_go (equated_same s t ms ns made (unifier_of a b) a b (record { first = own.0; second = own.1; third = other.0; fourth = other.1 }) (unifier_of_is a b) at list)
replied_same s t ms ns (Raises error) own other at list = both_go (listed_same s t (Raise error ∷ ms) (Raise error ∷ ns) s.built t.built at.beside.built at (same_ball list))
replied_same s t ms ns (Calls b) own other at list =
    let h = length s.stack in
    subst (λ (k : ℕ). SameOut (replied (Calls b) ms s) (Goes (record (with_goal b t) { list = Goal b k ∷ ns }))) (stack_length at.beside.stack)
    (both_go (listed_same s t (Goal b h ∷ ms) (Goal b h ∷ ns) (with_goal b s).built (with_goal b t).built (grown (size (body_term b)) at.beside.built) at (own_put s.subst t.subst b h ms ns own other list)))
replied_same s t ms ns (CallsOnce b) own other at list =
    let h = length s.stack in
    subst (λ (k : ℕ). SameOut (replied (CallsOnce b) ms s) (Goes (record (with_goal b t) { list = Goal b k ∷ CutTo k ∷ ns }))) (stack_length at.beside.stack)
    (both_go (listed_same s t (Goal b h ∷ CutTo h ∷ ms) (Goal b h ∷ CutTo h ∷ ns) (with_goal b s).built (with_goal b t).built (grown (size (body_term b)) at.beside.built) at (own_put s.subst t.subst b h (CutTo h ∷ ms) (CutTo h ∷ ns) own other (same_cut list))))
replied_same s t ms ns (Refutes b) own other at list =
    let h = length s.stack in
    let u = with_goal b s in
    let v = with_goal b t in
    let around : Around u v = record { agree = at.agree; next = at.next; beside = record { stack = at.beside.stack; world = at.beside.world; steps = at.beside.steps; query = at.beside.query; built = grown (size (body_term b)) at.beside.built } } in
    subst (λ (k : ℕ). SameOut (replied (Refutes b) ms s) (Goes (record (pushed ns AsIs v) { list = Goal b (suc k) ∷ CutTo k ∷ Fail ∷ ns }))) (stack_length at.beside.stack)
    (both_go (pushed_same u v AsIs ms ns (Goal b (suc h) ∷ CutTo h ∷ Fail ∷ ms) (Goal b (suc h) ∷ CutTo h ∷ Fail ∷ ns) tt tt around list
    (own_put s.subst t.subst b (suc h) (CutTo h ∷ Fail ∷ ms) (CutTo h ∷ Fail ∷ ns) own other (same_cut (same_failure list)))))
replied_same s t ms ns (Catches inside catcher recovery) own other at list =
    let h = length s.stack in
    let left = Catching catcher recovery in
    let u = pushed ms left s in
    let v = pushed ns left t in
    let around : Around u v = record {
      agree = at.agree;
      next = at.next;
      beside = record { stack = same_alternative at.agree at.next at.beside.built list refl (own.1, own.2) (other.1, other.2) at.beside.stack; world = at.beside.world; steps = at.beside.steps; query = at.beside.query; built = at.beside.built };
    } in
    subst (λ (k : ℕ). SameOut (replied inside (Leave h ∷ ms) u) (replied inside (Leave k ∷ ns) v)) (stack_length at.beside.stack)
    (replied_same u v (Leave h ∷ ms) (Leave h ∷ ns) inside own.0 other.0 around (same_leave list))
replied_same s t ms ns (Gathers template b result) own other at list =
    let h = length s.stack in
    let left = Gathering result [] 0 in
    subst (λ (k : ℕ). SameOut (replied (Gathers template b result) ms s) (Goes (record (with_goal b (pushed ns left (with_template result t))) { list = Goal b (suc k) ∷ Gather k template ∷ ns }))) (stack_length at.beside.stack)
    (both_go (pushed_goal_same (with_template result s) (with_template result t) left b ms ns (Goal b (suc h) ∷ Gather h template ∷ ms) (Goal b (suc h) ∷ Gather h template ∷ ns) own.2 other.2 (template_same s t result at) list
    (own_put s.subst t.subst b (suc h) (Gather h template ∷ ms) (Gather h template ∷ ns) own.1 other.1 (same_gathering (own.0 ∙ sym other.0) list))))
replied_same s t ms ns (Halts status) own other at list =
    subst (λ (w : World). SameOut (Ends (Halted status) s.world) (Ends (Halted status) w)) at.beside.world both_end
replied_same s t ms ns Repeats own other at list = both_go (pushed_same s t Again ms ns ms ns tt tt at list list)
replied_same s t ms ns (Writes bytes) own other at list =
    subst (λ (w : World). SameOut (written (bytes s.world.operators) ms s) (written (bytes w.operators) ns t)) at.beside.world (written_same s t ms ns (bytes s.world.operators) at list)
replied_same s t ms ns (AsksWorld settles) own other at list =
    let x = settles s.next s.world in
    let same : settles s.next s.world ≡ settles t.next t.world = ap₂ settles at.next at.beside.world in
    subst (λ (y : Settled). SameOut (Goes (settled x ms s)) (Goes (settled y ns t))) same
    (both_go (settled_same s t ms ns x (own s.next s.world) (other s.next s.world) at list))

selected_same : (s t : State) (ms ns : List Member) (b : Option BuiltIn) (k : Key) (v : Tree) → IsValue s.subst v → IsValue t.subst v → Around s t → SameList s.subst t.subst ms ns → SameOut (selected b k v ms s) (selected b k v ns t)
selected_same s t ms ns (Some b) k v own other at list = replied_same s t ms ns (reply b v) (reply_own s.subst b v own) (reply_own t.subst b v other) at list
selected_same s t ms ns None k v own other at list =
    both_go (subst (λ (w : World). Same (called (clauses_at s.world.database.procedures k) k v ms s) (called (clauses_at w.database.procedures k) k v ns t)) at.beside.world (called_same s t ms ns (clauses_at s.world.database.procedures k) k v own other at list))

run_same : (s t : State) (ms ns : List Member) (k : Option Key) (v : Tree) → IsValue s.subst v → IsValue t.subst v → Around s t → SameList s.subst t.subst ms ns → SameOut (run_goal k v ms s) (run_goal k v ns t)
run_same s t ms ns (Some k) v own other at list = selected_same s t ms ns (built_in k) k v own other at list
run_same s t ms ns None v own other at list = both_go (fails_same at.beside)

-- with as many steps left
pub steps_same : {s t : State} (n : ℕ) → Same s t → Same (record s { steps = n }) (record t { steps = n })
steps_same n (going at list) = going (record { agree = at.agree; next = at.next; beside = record { stack = at.beside.stack; world = at.beside.world; steps = refl; query = at.beside.query; built = at.beside.built } }) list
steps_same n (failing ms ns first second h) = failing ms ns first second (record { stack = h.stack; world = h.world; steps = refl; query = h.query; built = h.built })

charged_same : {o p : Outcome} (n : ℕ) → SameOut o p → SameOut (charged n o) (charged n p)
charged_same n (both_go h) = both_go (steps_same n h)
charged_same n (both_give h) = both_give (steps_same n h)
charged_same n both_end = both_end

paid_same : (s t : State) {o p : Outcome} (n m : ℕ) → n ≡ m → s.world ≡ t.world → SameOut o p → SameOut (paid n s o) (paid m t p)
paid_same s t {o} {p} zero m steps world out =
    let ended : SameOut (paid zero s o) (paid zero t p) = subst (λ (w : World). SameOut (paid zero s o) (Ends Budget w)) world both_end in
    subst (λ (k : ℕ). SameOut (paid zero s o) (paid k t p)) steps ended
paid_same s t {o} {p} (suc n) m steps world out = subst (λ (k : ℕ). SameOut (paid (suc n) s o) (paid k t p)) steps (charged_same n out)

retried_same : (s t : State) (ms ns : List Member) (l : Left) → IsOwnLeft s.subst l → IsOwnLeft t.subst l → s.list ≡ ms → t.list ≡ ns → Around s t → SameList s.subst t.subst ms ns → SameOut (retried l s) (retried l t)
retried_same s t ms ns AsIs own other first second at list =
    let here : SameList s.subst t.subst s.list t.list = rw (first, second) list in
    both_go (same_lists at here)
retried_same s t ms ns Again own other first second at list =
    let here : SameList s.subst t.subst s.list t.list = rw (first, second) list in
    paid_same s t s.steps t.steps at.beside.steps at.beside.world (both_go (pushed_same s t Again s.list t.list s.list t.list tt tt at here here))
retried_same s t ms ns (Clauses call cs) own other first second at list =
    let here : SameList s.subst t.subst s.list t.list = rw (first, second) list in
    both_go (tried_same s t s.list t.list call cs own other at here)
retried_same s t ms ns (Catching catcher recovery) own other first second at list = both_go (fails_same at.beside)
retried_same s t ms ns (Gathering result copies count) own other first second at list =
    let here : SameList s.subst t.subst s.list t.list = rw (first, second) list in
    collected_same s t s.list t.list result copies own other at here
retried_same s t ms ns (Groups by groups) own other first second at list =
    let here : SameList s.subst t.subst s.list t.list = rw (first, second) list in
    both_go (grouped_same s t s.list t.list by groups own other at here)
retried_same s t ms ns (Offered left rights) own other first second at list =
    let here : SameList s.subst t.subst s.list t.list = rw (first, second) list in
    both_go (offered_same s t s.list t.list left rights own other at here)

backtracked_same : {vs ws : List ℕ} {xs ys : List Alternative} (s t : State) → variables s.query ≡ vs → variables t.query ≡ ws → s.world ≡ t.world → s.steps ≡ t.steps → query_size s.query ≤ query_size t.query → SameStack vs ws xs ys
    → SameOut (backtracked xs s) (backtracked ys t)
backtracked_same s t first second world steps query no_alternative = subst (λ (w : World). SameOut (Ends NoMore s.world) (Ends NoMore w)) world both_end
backtracked_same {vs} {ws} s t first second world steps query (same_alternative {a = a} {b = b} {xs = xs} {ys = ys} agree next built list left own other others) =
    let s' : State = record s { list = a.list; subst = a.subst; next = a.next; built = a.built; stack = xs } in
    let t' : State = record t { list = b.list; subst = b.subst; next = b.next; built = b.built; stack = ys } in
    let other_left : IsOwnLeft b.subst a.left = subst (λ (l : Left). IsOwnLeft b.subst l) (sym left) other in
    let known : Agree a.subst b.subst (variables s.query) (variables t.query) a.next = rw (first, second) agree in
    let stack : SameStack (variables s.query) (variables t.query) xs ys = rw (first, second) others in
    subst (λ (l : Left). SameOut (retried a.left s') (retried l t')) left
    (retried_same s' t' a.list b.list a.left own other_left refl refl (record { agree = known; next = next; beside = record { stack = stack; world = world; steps = steps; query = query; built = built } }) list)

failing_same : (s t : State) → Beside s t → SameOut (backtracked s.stack s) (backtracked t.stack t)
failing_same s t h = backtracked_same s t refl refl h.world h.steps h.query h.stack

-- ---- balls

-- the entry of a catch, in both stacks
caught_at_same : {vs ws : List ℕ} (s t : State) (l : Left) (a b : Alternative) (xs ys : List Alternative) (ball : Tree) (o p : Outcome) → variables s.query ≡ vs → variables t.query ≡ ws → Beside s t
    → Agree a.subst b.subst vs ws a.next → a.next ≡ b.next → a.built ≤ b.built → SameList a.subst b.subst a.list b.list → IsOwnLeft a.subst l → IsOwnLeft b.subst l → SameStack vs ws xs ys → SameOut o p
    → SameOut (caught_at l a xs ball s o) (caught_at l b ys ball t p)
caught_at_same {vs} {ws} s t (Catching catcher recovery) a b xs ys ball o p first second h agree next built list own other others out =
    let known : Agree a.subst b.subst (variables s.query) (variables t.query) a.next = rw (first, second) agree in
    let stack : SameStack (variables s.query) (variables t.query) xs ys = rw (first, second) others in
    both_go (same_lists (record { agree = known; next = next; beside = record { stack = stack; world = h.world; steps = h.steps; query = h.query; built = built } })
    (same_meeting (own.0 ∙ sym other.0) (own.1 ∙ sym other.1) list))
caught_at_same s t AsIs a b xs ys ball o p first second h agree next built list own other others out = out
caught_at_same s t Again a b xs ys ball o p first second h agree next built list own other others out = out
caught_at_same s t (Clauses call cs) a b xs ys ball o p first second h agree next built list own other others out = out
caught_at_same s t (Gathering result copies count) a b xs ys ball o p first second h agree next built list own other others out = out
caught_at_same s t (Offered left rights) a b xs ys ball o p first second h agree next built list own other others out = out
caught_at_same s t (Groups by groups) a b xs ys ball o p first second h agree next built list own other others out = out

caught_same : {vs ws : List ℕ} {xs ys : List Alternative} (s t : State) (height : ℕ) (ball : Tree) (o p : Outcome) → variables s.query ≡ vs → variables t.query ≡ ws → Beside s t → SameStack vs ws xs ys → SameOut o p
    → SameOut (caught height xs ball s o) (caught height ys ball t p)
caught_same s t height ball o p first second h no_alternative out = out
caught_same s t height ball o p first second h (same_alternative {a = a} {b = b} {xs = xs} {ys = ys} agree next built list left own other others) out =
    let other_left : IsOwnLeft b.subst a.left = subst (λ (l : Left). IsOwnLeft b.subst l) (sym left) other in
    let here : SameOut (caught_at a.left a xs ball s o) (caught_at b.left b ys ball t p) =
    subst (λ (l : Left). SameOut (caught_at a.left a xs ball s o) (caught_at l b ys ball t p)) left
    (caught_at_same s t a.left a b xs ys ball o p first second h agree next built list own other_left others out) in
    let below = caught_same s t height ball o p first second h others out in
    subst (λ (n : ℕ). SameOut (caught height (a ∷ xs) ball s o) (if n == height then caught_at b.left b ys ball t p else caught height ys ball t p)) (stack_length others)
    (elim (length xs == height) as (λ x. SameOut (if x then caught_at a.left a xs ball s o else caught height xs ball s o) (if x then caught_at b.left b ys ball t p else caught height ys ball t p)) [
      | true ↦ here
      | false ↦ below
    ])

-- goals are passed over
thrown_same : {r q : Subst} {ms ns : List Member} (s t : State) (ball : Tree) → Beside s t → SameList r q ms ns → SameOut (thrown ball ms s) (thrown ball ns t)
thrown_same s t ball h no_member = subst (λ (w : World). SameOut (Ends (Uncaught ball) s.world) (Ends (Uncaught ball) w)) h.world both_end
thrown_same s t ball h (same_goal value list) = thrown_same s t ball h list
thrown_same s t ball h (same_construct same list) = thrown_same s t ball h list
thrown_same s t ball h (same_cut list) = thrown_same s t ball h list
thrown_same s t ball h (same_failure list) = thrown_same s t ball h list
thrown_same s t ball h (same_leave {height = height} {ms = ms} {ns = ns} list) =
    caught_same s t height ball (thrown ball ms s) (thrown ball ns t) refl refl h h.stack (thrown_same s t ball h list)
thrown_same s t ball h (same_ball list) = thrown_same s t ball h list
thrown_same s t ball h (same_meeting catcher recovery list) = thrown_same s t ball h list
thrown_same s t ball h (same_gathering value list) = thrown_same s t ball h list

-- the catcher met the ball, or not
met_same : (s t : State) (ms ns : List Member) (o : Option Subst) (a b ball x y : Tree) → AreValues s.subst t.subst a b → IsUnifierOf a b o → apply s.subst x ≡ apply t.subst y → Around s t → SameList s.subst t.subst ms ns
    → Same (met (under s.subst o) ball x ms (record s { built = s.built + size ball })) (met (under t.subst o) ball y ns (record t { built = t.built + size ball }))
met_same s t ms ns None a b ball x y are is recovery at list =
    listed_same s t (Raise ball ∷ ms) (Raise ball ∷ ns) (s.built + size ball) (t.built + size ball) (grown (size ball) at.beside.built) at (same_ball list)
met_same s t ms ns (Some u) a b ball x y are is recovery at list =
    let r = compose s.subst u in
    let q = compose t.subst u in
    let h = length s.stack in
    let again : apply r x ≡ apply q y = value_on s.subst t.subst u x y recovery in
    let call : apply r (one (codes "call") x) ≡ apply q (one (codes "call") y) = ap (λ (z : Tree). one (codes "call") z) again in
    same_lists (record {
      agree = agree_more (variable_count ball) (agree_on u a b are is at.agree);
      next = ap (λ (n : ℕ). n + variable_count ball) at.next;
      beside = record { stack = at.beside.stack; world = at.beside.world; steps = at.beside.steps; query = at.beside.query; built = grown (size ball) at.beside.built };
    }) (same_goal call (list_on u list))

meets_same : (s t : State) (ball c d x y : Tree) (ms ns : List Member) → apply s.subst c ≡ apply t.subst d → apply s.subst x ≡ apply t.subst y → Around s t → SameList s.subst t.subst ms ns
    → Same (meets ball c x ms s) (meets ball d y ns t)
meets_same s t ball c d x y ms ns catcher recovery at list =
    let a = apply s.subst c in
    let b = apply s.subst (copy_from ball s.next) in
    let o = unifier_of a b in
    let ball_same : b ≡ apply t.subst (copy_from ball t.next) = copied_same s.subst t.subst s.next ball at.agree.beyond ∙ ap (λ (n : ℕ). apply t.subst (copy_from ball n)) at.next in
    let same : o ≡ unifier_of (apply t.subst d) (apply t.subst (copy_from ball t.next)) = ap₂ unifier_of catcher ball_same in
    let are : AreValues s.subst t.subst a b = record {
      first = value_is s.subst c at.agree.twice;
      second = value_is s.subst (copy_from ball s.next) at.agree.twice;
      third = subst (λ (z : Tree). IsValue t.subst z) (sym catcher) (value_is t.subst d at.agree.other);
      fourth = subst (λ (z : Tree). IsValue t.subst z) (sym ball_same) (value_is t.subst (copy_from ball t.next) at.agree.other);
    } in
    subst (λ (p : Option Subst). Same (meets ball c x ms s) (met (under t.subst p) ball y ns (record t { built = t.built + size ball }))) same
    (met_same s t ms ns o a b ball x y are (unifier_of_is a b) recovery at list)

answered_same : (s t : State) → Around s t → SameOut (Gives (Answered (values s)) (fails s)) (Gives (Answered (values t)) (fails t))
answered_same s t at = subst (λ (vs : List Tree). SameOut (Gives (Answered (values s)) (fails s)) (Gives (Answered vs) (fails t))) at.agree.shown (both_give (fails_same at.beside))

-- ---- steps of open states

goal_same : (s t : State) (a b : Tree) (ms ns : List Member) → apply s.subst a ≡ apply t.subst b → Around s t → SameList s.subst t.subst ms ns
    → SameOut (paid s.steps s (run_value (apply s.subst a) ms s)) (paid t.steps t (run_value (apply t.subst b) ns t))
goal_same s t a b ms ns value at list =
    let v = apply s.subst a in
    let own = value_is s.subst a at.agree.twice in
    let other = subst (λ (x : Tree). IsValue t.subst x) (sym value) (value_is t.subst b at.agree.other) in
    let out = subst (λ (x : Tree). SameOut (run_value v ms s) (run_value x ns t)) value (run_same s t ms ns (key_of v) v own other at list) in
    paid_same s t s.steps t.steps at.beside.steps at.beside.world out

-- the same cut
cut_same : (s t : State) (height : ℕ) (ms ns : List Member) → Around s t → SameList s.subst t.subst ms ns → SameOut (Goes (cut_back height ms s)) (Goes (cut_back height ns t))
cut_same s t height ms ns at list =
    both_go (same_lists (record { agree = at.agree; next = at.next; beside = record { stack = shortened_same height at.beside.stack; world = at.beside.world; steps = at.beside.steps; query = at.beside.query; built = at.beside.built } }) list)

-- a condition, the cut behind it, and the next goal
condition_same : (r q : Subst) (c d x y : Body) (inner height mark : ℕ) (ms ns : List Member) → map_body r c ≡ map_body q d → map_body r x ≡ map_body q y → SameList r q ms ns
    → SameList r q ((Goal c inner ∷ CutTo height ∷ Goal x mark ∷ ms)) ((Goal d inner ∷ CutTo height ∷ Goal y mark ∷ ns))
condition_same r q c d x y inner height mark ms ns first second others =
    put_alike r q (CutTo height ∷ Goal x mark ∷ ms) (CutTo height ∷ Goal y mark ∷ ns) c d inner first (same_cut (put_alike r q ms ns x y mark second others))

-- the steps of control constructs that are equal
construct_same : (s t : State) (b c : Body) (mark : ℕ) (ms ns : List Member) → map_body s.subst b ≡ map_body t.subst c → Around s t → SameList s.subst t.subst ms ns
    → SameOut (step_goal b mark ms s) (step_goal c mark ns t)
construct_same s t (And x y) c mark ms ns same at list =
    let p = parts_of_and t.subst (map_body s.subst x) (map_body s.subst y) c same in
    subst (λ (d : Body). SameOut (step_goal (And x y) mark ms s) (step_goal d mark ns t)) (sym p.2)
    (both_go (listed_same s t (Goal x mark ∷ Goal y mark ∷ ms) (Goal p.0 mark ∷ Goal p.1 mark ∷ ns) s.built t.built at.beside.built at
    (put_alike s.subst t.subst (Goal y mark ∷ ms) (Goal p.1 mark ∷ ns) x p.0 mark p.3 (put_alike s.subst t.subst ms ns y p.1 mark p.4 list))))
construct_same s t Cut c mark ms ns same at list =
    subst (λ (d : Body). SameOut (step_goal Cut mark ms s) (step_goal d mark ns t)) (sym (is_cut t.subst c same)) (cut_same s t mark ms ns at list)
construct_same s t (Run a) c mark ms ns same at list =
    let p = is_run t.subst (apply s.subst a) c same in
    subst (λ (d : Body). SameOut (step_goal (Run a) mark ms s) (step_goal d mark ns t)) (sym p.1) (goal_same s t a p.0 ms ns p.2 at list)
construct_same s t (Or x y) c mark ms ns same at list =
    let p = parts_of_or t.subst (map_body s.subst x) (map_body s.subst y) c same in
    subst (λ (d : Body). SameOut (step_goal (Or x y) mark ms s) (step_goal d mark ns t)) (sym p.2)
    (both_go (pushed_same s t AsIs (Goal y mark ∷ ms) (Goal p.1 mark ∷ ns) (Goal x mark ∷ ms) (Goal p.0 mark ∷ ns) tt tt at
    (put_alike s.subst t.subst ms ns y p.1 mark p.4 list) (put_alike s.subst t.subst ms ns x p.0 mark p.3 list)))
construct_same s t (If x y) c mark ms ns same at list =
    let p = parts_of_if t.subst (map_body s.subst x) (map_body s.subst y) c same in
    let h = length s.stack in
    let lists = condition_same s.subst t.subst x p.0 y p.1 h h mark ms ns p.3 p.4 list in
    let one : SameOut (step_goal (If x y) mark ms s) (Goes (record t { list = Goal p.0 h ∷ CutTo h ∷ Goal p.1 mark ∷ ns })) = both_go (same_lists (record { agree = at.agree; next = at.next; beside = record { stack = at.beside.stack; world = at.beside.world; steps = at.beside.steps; query = at.beside.query; built = at.beside.built } }) lists) in
    subst (λ (d : Body). SameOut (step_goal (If x y) mark ms s) (step_goal d mark ns t)) (sym p.2)
    (subst (λ (k : ℕ). SameOut (step_goal (If x y) mark ms s) (Goes (record t { list = Goal p.0 k ∷ CutTo k ∷ Goal p.1 mark ∷ ns }))) (stack_length at.beside.stack) one)
construct_same s t (Choose x y z) c mark ms ns same at list =
    let p = parts_of_choose t.subst (map_body s.subst x) (map_body s.subst y) (map_body s.subst z) c same in
    let h = length s.stack in
    let lists = condition_same s.subst t.subst x p.0 y p.1 (suc h) h mark ms ns p.4 p.5 list in
    let one = pushed_same s t AsIs (Goal z mark ∷ ms) (Goal p.2 mark ∷ ns) (Goal x (suc h) ∷ CutTo h ∷ Goal y mark ∷ ms) (Goal p.0 (suc h) ∷ CutTo h ∷ Goal p.1 mark ∷ ns) tt tt at
    (put_alike s.subst t.subst ms ns z p.2 mark p.6 list) lists in
    subst (λ (d : Body). SameOut (step_goal (Choose x y z) mark ms s) (step_goal d mark ns t)) (sym p.3)
    (subst (λ (k : ℕ). SameOut (step_goal (Choose x y z) mark ms s) (Goes (record (pushed (Goal p.2 mark ∷ ns) AsIs t) { list = Goal p.0 (suc k) ∷ CutTo k ∷ Goal p.1 mark ∷ ns }))) (stack_length at.beside.stack) (both_go one))

-- a solution is gathered in both
gathers_same : (s t : State) (height : ℕ) (c d : Tree) → apply s.subst c ≡ apply t.subst d → Around s t
    → Same (fails (record s { stack = gathered_at height (apply s.subst c) s.stack })) (fails (record t { stack = gathered_at height (apply t.subst d) t.stack }))
gathers_same s t height c d value at =
    subst (λ (v : Tree). Same (fails (record s { stack = gathered_at height (apply s.subst c) s.stack })) (fails (record t { stack = gathered_at height v t.stack }))) value
    (fails_same {s = record s { stack = gathered_at height (apply s.subst c) s.stack }} {t = record t { stack = gathered_at height (apply s.subst c) t.stack }} (record { stack = gathered_same height (apply s.subst c) at.beside.stack; world = at.beside.world; steps = at.beside.steps; query = at.beside.query; built = at.beside.built }))

lists_same : (s t : State) {ms ns : List Member} → Around s t → SameList s.subst t.subst ms ns → SameOut (step_list ms s) (step_list ns t)
lists_same s t at no_member = answered_same s t at
lists_same s t at (same_goal {t = a} {u = b} {ms = ms} {ns = ns} value list) = goal_same s t a b ms ns value at list
lists_same s t at (same_construct {b = b} {c = c} {m = m} {ms = ms} {ns = ns} same list) = construct_same s t b c m ms ns same at list
lists_same s t at (same_cut {height = h} {ms = ms} {ns = ns} list) = cut_same s t h ms ns at list
lists_same s t at (same_failure list) = failing_same s t at.beside
lists_same s t at (same_leave {ms = ms} {ns = ns} list) = both_go (listed_same s t ms ns s.built t.built at.beside.built at list)
lists_same s t at (same_ball {ball = ball} {ms = ms} {ns = ns} list) = thrown_same s t ball at.beside list
lists_same s t at (same_meeting {ball = ball} {c = c} {d = d} {x = x} {y = y} {ms = ms} {ns = ns} catcher recovery list) =
    both_go (meets_same s t ball c d x y ms ns catcher recovery at list)
lists_same s t at (same_gathering {height = h} {c = c} {d = d} value list) = both_go (gathers_same s t h c d value at)

-- the steps of states that are the same, neither of which begins with a conjunction
pub steps_alike : (s t : State) → Open s.list → Open t.list → Same s t → SameOut (step s) (step t)
unfolding step
steps_alike s t first second (going at list) = lists_same s t at (rw (open_is first, open_is second) at list)
steps_alike s t first second (failing ms ns is are h) =
    let one : step_list s.list s ≡ backtracked s.stack s = ap (λ (xs : List Member). step_list xs s) is in
    let other : step_list t.list t ≡ backtracked t.stack t = ap (λ (xs : List Member). step_list xs t) are in
    subst (λ (o : Outcome). SameOut o (step_list t.list t)) (sym one) (subst (λ (o : Outcome). SameOut (backtracked s.stack s) o) (sym other) (failing_same s t h))
