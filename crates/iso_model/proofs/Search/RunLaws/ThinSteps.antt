-- What steps of a thin state come to: the other state comes to the same behind some steps without an event, in which it
-- tries what the thin one left out.
use Rattle.std.proofs.Common.{◌≡◌, ℕ, zero, suc, ◌+◌, ◌≤◌, ◌<◌, ◌-◌, List, [], ◌∷◌, Bool, true, false, Option, Some, None, length, drop, refl, sym, ap, ◌∙◌, subst, arith, ◌==◌, if◌then◌else◌, inl, inr}
use Rattle.std.specs.List.{filter}
use Rattle.std.proofs.lemmas.Bool.{eqb-true, cases_Bool}
use Rattle.std.proofs.lemmas.Bool.Decides.{Decides-eqb}
use Rattle.iso_ops.specs.declared.settings.Unknown.{Unknown}
use Rattle.iso_ops.specs.declared.settings.Unknown.TheVariants as on_unknown
use Rattle.iso_model.specs.Terms.Trees.{Tree, Variable, row}
use Rattle.iso_model.specs.Terms.Variables.{variable_count}
use Rattle.iso_model.specs.Terms.Sizes.{size}
use Rattle.iso_model.specs.Terms.Substitutions.{Subst, apply, compose}
use Rattle.iso_model.specs.Terms.Unifiers.{NeverEqual}
use Rattle.iso_model.specs.Terms.Unification.{unifier_of}
use Rattle.iso_model.specs.Terms.Unification.Applied.{apply_apply}
use Rattle.iso_model.specs.Terms.Copies.{copy_from, renamed}
use Rattle.iso_model.specs.Terms.Lists.{list_of}
use Rattle.iso_model.specs.Search.Bodies.{Body, Cut, Run, And, Or, If, Choose, map_body, is_true}
use Rattle.iso_model.specs.Search.Databases.{Clause, Key, key_of, clauses_at}
use Rattle.iso_model.specs.Search.BuiltIns.{Reply, Fails, Succeeds, Equates, EquatesCopy, Raises, Calls, CallsOnce, Refutes, Repeats, Catches, Gathers, Halts, AsksWorld, Writes, built_in, reply, Grouping, Collecting, AsList, InGroups}
use Rattle.iso_model.specs.Search.Groups.{groups_of, witnesses, items, collection}
use Rattle.iso_model.specs.Search.Library.{list_made}
use Rattle.iso_model.specs.Search.Settlements.{Settled, Refuses, Changes, Offers, Offer, Reference}
use Rattle.iso_model.specs.declared.built_ins.BuiltIn.{BuiltIn}
use Rattle.iso_model.specs.Search.Walker.{with_template, witnessed, repeated, tried_group, grouped, collected, Groups, with_rights, State, World, Member, Goal, CutTo, Fail, Leave, Raise, Meet, Gather, Left, AsIs, Again, Clauses, Catching, Gathering, Offered, Alternative, Event, Ending, Outcome, Goes, Gives, Ends, NoMore, Uncaught, charged, paid, before, entered, under, tried_clause, with_others, tried, retried, backtracked, unknown_called, written, called, equated, equated_copy, without_removed, taken, met_right, tried_right, is_there, offered, settled, with_goal, replied, selected, run_goal, caught_at, caught, thrown, met, gathered, gathered_at, fails, clause_size, shortened, step_goal, step_list, step, with_copy}
use Rattle.iso_model.specs.Search.Runs.{Quiet, here, Comes}
use Rattle.iso_model.proofs.Search.CallLemmas.{counted, unify_none}
use Rattle.iso_model.proofs.Search.RunLaws.Quiets.{quiet_one, quiet_trans}
use Rattle.iso_model.specs.Search.RunLaws.Thinness.{RowMisses, SkipsRows, no_row, met_too, row_passed_over, IsDead, fewer_rows, Misses, Skips, no_clause, tried_too, passed_over, kept_count, Low, all, above, ThinList, no_member, thin_goal, thin_cut, thin_failure, thin_leave, thin_ball, thin_meeting, thin_gathering, ThinLeft, same_left, fewer_clauses, ThinStack, no_alternative, kept, left_out, Around, Thin, going, failing}

-- ---- clauses that are left out

-- all clauses are a part of themselves
pub skips_none : {call : Tree} (cs : List Clause) → Skips call cs cs
skips_none [] = no_clause
skips_none (c ∷ cs) = tried_too (skips_none cs)

pub skips_on : {call : Tree} {es ds cs : List Clause} → Skips call es ds → Skips call ds cs → Skips call es cs
skips_on h no_clause = h
skips_on h (passed_over miss k) = passed_over miss (skips_on h k)
skips_on (tried_too h) (tried_too k) = tried_too (skips_on h k)
skips_on (passed_over miss h) (tried_too k) = passed_over miss (skips_on h k)

-- those that a test keeps, where each that it doesn't keep misses the call: what a table of switches gives
pub skips_filtered : {call : Tree} (keeps : Clause → Bool) → ((c : Clause) → keeps c ≡ false → Misses call c) → (cs : List Clause)
    → Skips call (filter keeps cs) cs
skips_filtered keeps misses [] = no_clause
skips_filtered {call = call} keeps misses (c ∷ cs) =
    elim (cases_Bool (keeps c)) [
      | inl held ↦ rw held (tried_too (skips_filtered keeps misses cs))
      | inr not_held ↦ rw not_held (passed_over (misses c not_held) (skips_filtered keeps misses cs))
    ]

-- ---- heights

equal_heights : (m n : ℕ) → m ≡ n → (m == n) ≡ true
equal_heights m n same = (Decides-eqb m n).1 same

other_heights : (m n : ℕ) → (m ≡ n → ⊥) → (m == n) ≡ false
other_heights m n other = elim (cases_Bool (m == n)) [
  | inl same ↦ absurd (other (eqb-true m n same))
  | inr wrong ↦ wrong
]

pub low_on : {low middle ks : List Bool} → Low low middle → Low middle ks → Low low ks
low_on h all = h
low_on h (above k) = above (low_on h k)

pub low_below : {k : Bool} {low ks : List Bool} → Low (k ∷ low) ks → Low low ks
low_below all = above all
low_below (above h) = above (low_below h)

count_more : (k : Bool) (ks : List Bool) → kept_count ks ≤ kept_count (k ∷ ks)
count_more true ks = omega arith
count_more false ks = omega arith

low_count : {low ks : List Bool} → Low low ks → kept_count low ≤ kept_count ks
low_count all = omega arith
low_count (above {ks = ks} {k = k} h) =
    let less = low_count h in
    let more = count_more k ks in
    omega arith

low_length : {low ks : List Bool} → Low low ks → length low ≤ length ks
low_length all = omega arith
low_length (above h) = let less = low_length h in omega arith

-- ---- lists and stacks

pub list_above : {low ks : List Bool} {ms ns : List Member} → Low low ks → ThinList low ms ns → ThinList ks ms ns
list_above h no_member = no_member
list_above h (thin_goal k e f list) = thin_goal (low_on k h) e f list
list_above h (thin_cut k e f list) = thin_cut (low_on k h) e f list
list_above h (thin_failure k list) = thin_failure (low_on k h) list
list_above h (thin_leave k e f list) = thin_leave (low_on k h) e f list
list_above h (thin_ball k list) = thin_ball (low_on k h) list
list_above h (thin_meeting k list) = thin_meeting (low_on k h) list
list_above h (thin_gathering k e f list) = thin_gathering (low_on k h) e f list

pub stack_count : {ks : List Bool} {xs ys : List Alternative} → ThinStack ks xs ys → length xs ≡ kept_count ks
stack_count no_alternative = refl
stack_count (kept p q r list left others) = ap suc (stack_count others)
stack_count (left_out dead others) = stack_count others

pub stack_whole : {ks : List Bool} {xs ys : List Alternative} → ThinStack ks xs ys → length ys ≡ length ks
stack_whole no_alternative = refl
stack_whole (kept p q r list left others) = ap suc (stack_whole others)
stack_whole (left_out dead others) = ap suc (stack_whole others)

both_stacks : {ks : List Bool} {xs ys xs' ys' : List Alternative} → xs' ≡ xs → ys' ≡ ys → ThinStack ks xs ys → ThinStack ks xs' ys'
both_stacks {ks} {xs} {ys} {xs'} {ys'} p q h =
    subst (λ (zs : List Alternative). ThinStack ks zs ys') (sym p) (subst (λ (zs : List Alternative). ThinStack ks xs zs) (sym q) h)

shortened_all : (m : ℕ) (xs : List Alternative) → length xs ≡ m → shortened m xs ≡ xs
shortened_all m xs e = let none : length xs - m ≡ 0 = omega (arith, e) in ap (λ n. drop n xs) none

shortened_one : (m : ℕ) (a : Alternative) (xs : List Alternative) → m ≤ length xs → shortened m (a ∷ xs) ≡ shortened m xs
shortened_one m a xs less =
    let one : suc (length xs) - m ≡ suc (length xs - m) = omega (arith, less) in
    ap (λ n. drop n (a ∷ xs)) one

-- a cut in both
shortened_thin : {low ks : List Bool} {xs ys : List Alternative} (m n : ℕ) → Low low ks → m ≡ kept_count low → n ≡ length low → ThinStack ks xs ys
    → ThinStack low (shortened m xs) (shortened n ys)
shortened_thin {xs = xs} {ys = ys} m n all e f stack =
    both_stacks (shortened_all m xs (stack_count stack ∙ sym e)) (shortened_all n ys (stack_whole stack ∙ sym f)) stack
shortened_thin m n (above h) e f (kept {a = a} {b = b} {xs = xs} {ys = ys} p q r list left others) =
    let count = stack_count others in
    let whole = stack_whole others in
    let less = low_count h in
    let shorter = low_length h in
    both_stacks (shortened_one m a xs (omega (arith, e, count, less))) (shortened_one n b ys (omega (arith, f, whole, shorter)))
    (shortened_thin m n h e f others)
shortened_thin m n (above h) e f (left_out {b = b} {xs = xs} {ys = ys} dead others) =
    let whole = stack_whole others in
    let shorter = low_length h in
    both_stacks refl (shortened_one n b ys (omega (arith, f, whole, shorter))) (shortened_thin m n h e f others)

-- ---- what is gathered

gathered_low : (h : ℕ) (v : Tree) (xs : List Alternative) → length xs ≤ h → gathered_at h v xs ≡ xs
gathered_low h v [] less = refl
gathered_low h v (a ∷ xs) less =
    let other : (length xs == h) ≡ false = other_heights (length xs) h (λ e. omega (arith, e, less)) in
    rw other (ap (λ (zs : List Alternative). a ∷ zs) (gathered_low h v xs (omega (arith, less))))

gathered_here : (h : ℕ) (v : Tree) (a : Alternative) (xs : List Alternative) → length xs ≡ h
    → gathered_at h v (a ∷ xs) ≡ record a { left = gathered a.left v } ∷ xs
gathered_here h v a xs e =
    let same : (length xs == h) ≡ true = equal_heights (length xs) h e in
    rw same (ap (λ (zs : List Alternative). record a { left = gathered a.left v } ∷ zs) (gathered_low h v xs (omega (arith, e))))

gathered_past : (h : ℕ) (v : Tree) (a : Alternative) (xs : List Alternative) → h < length xs → gathered_at h v (a ∷ xs) ≡ a ∷ gathered_at h v xs
gathered_past h v a xs more =
    let other : (length xs == h) ≡ false = other_heights (length xs) h (λ e. omega (arith, e, more)) in
    rw other refl

left_gathered : {l k : Left} (v : Tree) → ThinLeft l k → ThinLeft (gathered l v) (gathered k v)
left_gathered v same_left = same_left
left_gathered v (fewer_clauses skips) = fewer_clauses skips
left_gathered v (fewer_rows skips) = fewer_rows skips

-- a solution comes to the alternative that gathers in both
gathered_thin : {low ks : List Bool} {xs ys : List Alternative} (m n : ℕ) (v : Tree) → Low (true ∷ low) ks → m ≡ kept_count low → n ≡ length low
    → ThinStack ks xs ys → ThinStack ks (gathered_at m v xs) (gathered_at n v ys)
gathered_thin m n v all e f (kept {a = a} {b = b} {xs = xs} {ys = ys} p q r list left others) =
    both_stacks (gathered_here m v a xs (stack_count others ∙ sym e)) (gathered_here n v b ys (stack_whole others ∙ sym f))
    (kept p q r list (left_gathered v left) others)
gathered_thin m n v (above h) e f (kept {a = a} {b = b} {xs = xs} {ys = ys} p q r list left others) =
    let count = stack_count others in
    let whole = stack_whole others in
    let less = low_count h in
    let shorter = low_length h in
    both_stacks (gathered_past m v a xs (omega (arith, e, count, less))) (gathered_past n v b ys (omega (arith, f, whole, shorter)))
    (kept p q r list left (gathered_thin m n v h e f others))
gathered_thin m n v (above h) e f (left_out {b = b} {xs = xs} {ys = ys} dead others) =
    let whole = stack_whole others in
    let shorter = low_length h in
    both_stacks refl (gathered_past n v b ys (omega (arith, f, whole, shorter))) (left_out dead (gathered_thin m n v h e f others))

-- ---- what steps come to

-- the states are the same but for their goals and alternatives
pub record Apart (t s : State) : Type 0 where
  pub query : t.query ≡ s.query
  pub world : t.world ≡ s.world
  pub steps : t.steps ≡ s.steps

pub apart_of : {t s : State} → Around t s → Apart t s
apart_of h = record { query = h.query; world = h.world; steps = h.steps }

-- step by step
data ThinOut : Outcome → Outcome → Type 0 where
  both_go : {t s : State} → Thin t s → ThinOut (Goes t) (Goes s)
  both_give : {e : Event} {t s : State} → Thin t s → ThinOut (Gives e t) (Gives e s)
  both_end : {e : Ending} {w : World} → ThinOut (Ends e w) (Ends e w)

both_outs : {o p o' p' : Outcome} → o' ≡ o → p' ≡ p → ThinOut o p → ThinOut o' p'
both_outs {o} {p} {o'} {p'} a b h = subst (λ (x : Outcome). ThinOut x p') (sym a) (subst (λ (x : Outcome). ThinOut o x) (sym b) h)

ended : (t s : State) (e : Ending) → Apart t s → ThinOut (Ends e t.world) (Ends e s.world)
ended t s e h = subst (λ (w : World). ThinOut (Ends e t.world) (Ends e w)) h.world both_end

-- ---- balls

caught_here : (h : ℕ) (a : Alternative) (xs : List Alternative) (ball : Tree) (s : State) (o : Outcome) → length xs ≡ h
    → caught h (a ∷ xs) ball s o ≡ caught_at a.left a xs ball s o
caught_here h a xs ball s o e =
    let same : (length xs == h) ≡ true = equal_heights (length xs) h e in
    rw same refl

caught_past : (h : ℕ) (a : Alternative) (xs : List Alternative) (ball : Tree) (s : State) (o : Outcome) → h < length xs
    → caught h (a ∷ xs) ball s o ≡ caught h xs ball s o
caught_past h a xs ball s o more =
    let other : (length xs == h) ≡ false = other_heights (length xs) h (λ e. omega (arith, e, more)) in
    rw other refl

-- the entry of a catch, in both
entry_thin : {ks : List Bool} (t s : State) (l : Left) (a b : Alternative) (xs ys : List Alternative) (ball : Tree) (o p : Outcome) → Apart t s
    → a.subst ≡ b.subst → a.next ≡ b.next → a.built ≡ b.built → ThinList ks a.list b.list → ThinStack ks xs ys → ThinOut o p
    → ThinOut (caught_at l a xs ball t o) (caught_at l b ys ball s p)
entry_thin {ks} t s (Catching catcher recovery) a b xs ys ball o p h e f g list stack out =
    both_go (going (record { keeps = ks; stack = stack; query = h.query; world = h.world; steps = h.steps }) e f g (thin_meeting all list))
entry_thin t s AsIs a b xs ys ball o p h e f g list stack out = out
entry_thin t s Again a b xs ys ball o p h e f g list stack out = out
entry_thin t s (Clauses call cs) a b xs ys ball o p h e f g list stack out = out
entry_thin t s (Gathering result copies count) a b xs ys ball o p h e f g list stack out = out
entry_thin t s (Offered left rights) a b xs ys ball o p h e f g list stack out = out
entry_thin t s (Groups by groups) a b xs ys ball o p h e f g list stack out = out

caught_at_thin : {ks : List Bool} {l k : Left} (t s : State) (a b : Alternative) (xs ys : List Alternative) (ball : Tree) (o p : Outcome) → Apart t s
    → a.subst ≡ b.subst → a.next ≡ b.next → a.built ≡ b.built → ThinList ks a.list b.list → ThinLeft l k → ThinStack ks xs ys → ThinOut o p
    → ThinOut (caught_at l a xs ball t o) (caught_at k b ys ball s p)
caught_at_thin t s a b xs ys ball o p h e f g list (same_left {l = l}) stack out = entry_thin t s l a b xs ys ball o p h e f g list stack out
caught_at_thin t s a b xs ys ball o p h e f g list (fewer_clauses skips) stack out = out
caught_at_thin t s a b xs ys ball o p h e f g list (fewer_rows skips) stack out = out

caught_thin : {low ks : List Bool} {xs ys : List Alternative} (t s : State) (m n : ℕ) (ball : Tree) (o p : Outcome) → Apart t s → Low (true ∷ low) ks
    → m ≡ kept_count low → n ≡ length low → ThinStack ks xs ys → ThinOut o p → ThinOut (caught m xs ball t o) (caught n ys ball s p)
caught_thin t s m n ball o p h all e f (kept {a = a} {b = b} {xs = xs} {ys = ys} i j k list left others) out =
    both_outs (caught_here m a xs ball t o (stack_count others ∙ sym e)) (caught_here n b ys ball s p (stack_whole others ∙ sym f))
    (caught_at_thin t s a b xs ys ball o p h i j k list left others out)
caught_thin t s m n ball o p h (above low) e f (kept {a = a} {b = b} {xs = xs} {ys = ys} i j k list left others) out =
    let count = stack_count others in
    let whole = stack_whole others in
    let less = low_count low in
    let shorter = low_length low in
    both_outs (caught_past m a xs ball t o (omega (arith, e, count, less))) (caught_past n b ys ball s p (omega (arith, f, whole, shorter)))
    (caught_thin t s m n ball o p h low e f others out)
caught_thin t s m n ball o p h (above low) e f (left_out {b = b} {xs = xs} {ys = ys} dead others) out =
    let whole = stack_whole others in
    let shorter = low_length low in
    both_outs refl (caught_past n b ys ball s p (omega (arith, f, whole, shorter))) (caught_thin t s m n ball o p h low e f others out)

thrown_thin : {low ks : List Bool} {ms ns : List Member} (t s : State) (ball : Tree) → Apart t s → ThinStack ks t.stack s.stack → Low low ks
    → ThinList low ms ns → ThinOut (thrown ball ms t) (thrown ball ns s)
thrown_thin t s ball h stack low no_member = ended t s (Uncaught ball) h
thrown_thin t s ball h stack low (thin_goal k e f list) = thrown_thin t s ball h stack (low_on k low) list
thrown_thin t s ball h stack low (thin_cut k e f list) = thrown_thin t s ball h stack (low_on k low) list
thrown_thin t s ball h stack low (thin_failure k list) = thrown_thin t s ball h stack (low_on k low) list
thrown_thin t s ball h stack low (thin_leave {m = m} {n = n} {ms = ms} {ns = ns} k e f list) =
    caught_thin t s m n ball (thrown ball ms t) (thrown ball ns s) h (low_on k low) e f stack (thrown_thin t s ball h stack (low_on (low_below k) low) list)
thrown_thin t s ball h stack low (thin_ball k list) = thrown_thin t s ball h stack (low_on k low) list
thrown_thin t s ball h stack low (thin_meeting k list) = thrown_thin t s ball h stack (low_on k low) list
thrown_thin t s ball h stack low (thin_gathering k e f list) = thrown_thin t s ball h stack (low_on (low_below k) low) list

-- ---- states with the same substitution

-- the state with these goals and alternatives
abbrev pub over : State → List Member → List Alternative → State
over s ms xs = record s { list = ms; stack = xs }

-- with these lists over these stacks
over_thin : {ks : List Bool} {ms ns : List Member} {xs ys : List Alternative} (s : State) → ThinList ks ms ns → ThinStack ks xs ys
    → Thin (over s ms xs) (over s ns ys)
over_thin {ks} s list stack = going (record { keeps = ks; stack = stack; query = refl; world = refl; steps = refl }) refl refl refl list

fail_thin : {ks : List Bool} {xs ys : List Alternative} (s : State) → ThinStack ks xs ys → Thin (over s (Fail ∷ []) xs) (over s (Fail ∷ []) ys)
fail_thin s stack = over_thin s (thin_failure all no_member) stack

equated_thin : {ks : List Bool} (o : Option Subst) (s : State) (l k ms ns : List Member) (xs ys : List Alternative) → ThinList ks ms ns → ThinStack ks xs ys
    → Thin (equated o ms (over s l xs)) (equated o ns (over s k ys))
equated_thin None s l k ms ns xs ys list stack = fail_thin s stack
equated_thin (Some u) s l k ms ns xs ys list stack = over_thin (record s { subst = u }) list stack

before_thin : {low ks : List Bool} (b : Body) (m n : ℕ) (ms ns : List Member) → Low low ks → m ≡ kept_count low → n ≡ length low → ThinList low ms ns
    → ThinList ks (before b m ms) (before b n ns)
before_thin {low} {ks} b m n ms ns h e f list =
    elim (is_true b) as (λ fact. ThinList ks (if fact then ms else Goal b m ∷ ms) (if fact then ns else Goal b n ∷ ns)) [
      | true ↦ list_above h list
      | false ↦ thin_goal h e f list
    ]

entered_thin : {low ks : List Bool} (o : Option Subst) (c : Clause) (i m n : ℕ) (s : State) (l k ms ns : List Member) (xs ys : List Alternative) → Low low ks
    → m ≡ kept_count low → n ≡ length low → ThinList low ms ns → ThinStack ks xs ys → Thin (entered o c i m ms (over s l xs)) (entered o c i n ns (over s k ys))
entered_thin None c i m n s l k ms ns xs ys h e f list stack = fail_thin s stack
entered_thin (Some u) c i m n s l k ms ns xs ys h e f list stack =
    over_thin (record s { subst = u }) (before_thin (map_body (λ x. Variable (i + x)) c.body) m n ms ns h e f list) stack

-- the substitution, under the unifier of the call and the head
abbrev head_met : Tree → Clause → State → Option Subst
head_met call c s = under s.subst (unifier_of call (apply s.subst (renamed s.next c.head)))

-- no clauses are a part of none alone
none_of_none : {call : Tree} {d : Clause} {ds : List Clause} → Skips call (d ∷ ds) [] → ⊥
none_of_none h = elim h [ ]

-- the first clause is tried in both
clause_thin : {ks : List Bool} (call : Tree) (c : Clause) (ds cs : List Clause) (s : State) (l k ms ns : List Member) (xs ys : List Alternative)
    → Skips call ds cs → ThinList ks ms ns → ThinStack ks xs ys → Thin (tried call (c ∷ ds) ms (over s l xs)) (tried call (c ∷ cs) ns (over s k ys))
clause_thin call c [] [] s l k ms ns xs ys skips list stack =
    entered_thin (head_met call c s) c s.next (length xs) (length ys) (counted c s) l k ms ns xs ys
    all (stack_count stack) (stack_whole stack) list stack
clause_thin call c [] (d ∷ cs) s l k ms ns xs ys skips list stack =
    let b : Alternative = record { list = ns; subst = s.subst; next = s.next; built = s.built; left = Clauses call (d ∷ cs) } in
    entered_thin (head_met call c s) c s.next (length xs) (length ys) (counted c s) l k ms ns xs (b ∷ ys)
    (above all) (stack_count stack) (stack_whole stack) list (left_out skips stack)
clause_thin call c (e ∷ ds) (d ∷ cs) s l k ms ns xs ys skips list stack =
    let a : Alternative = record { list = ms; subst = s.subst; next = s.next; built = s.built; left = Clauses call (e ∷ ds) } in
    let b : Alternative = record { list = ns; subst = s.subst; next = s.next; built = s.built; left = Clauses call (d ∷ cs) } in
    entered_thin (head_met call c s) c s.next (length xs) (length ys) (counted c s) l k ms ns (a ∷ xs) (b ∷ ys)
    (above all) (stack_count stack) (stack_whole stack) list (kept refl refl refl list (fewer_clauses skips) stack)
clause_thin call c (e ∷ ds) [] s l k ms ns xs ys skips list stack = absurd (none_of_none skips)

-- the same clauses are tried in both
tried_thin : {ks : List Bool} (call : Tree) (cs : List Clause) (s : State) (l k ms ns : List Member) (xs ys : List Alternative) → ThinList ks ms ns
    → ThinStack ks xs ys → Thin (tried call cs ms (over s l xs)) (tried call cs ns (over s k ys))
tried_thin call [] s l k ms ns xs ys list stack = fail_thin s stack
tried_thin call (c ∷ cs) s l k ms ns xs ys list stack = clause_thin call c cs cs s l k ms ns xs ys (skips_none cs) list stack

-- ---- rows

-- so where a row is tried
abbrev right_met : Tree → Offer → State → Option Subst
right_met left o s = under s.subst (unifier_of left (apply s.subst (renamed s.next o.right)))

abbrev row_counted : Offer → State → State
row_counted o s = record s { next = s.next + o.variables; built = s.built + o.made }

taken_thin : {ks : List Bool} (o : Option Subst) (removes : Option Reference) (s : State) (l k ms ns : List Member) (xs ys : List Alternative)
    → ThinList ks ms ns → ThinStack ks xs ys → Thin (taken o removes ms (over s l xs)) (taken o removes ns (over s k ys))
taken_thin None removes s l k ms ns xs ys list stack = fail_thin s stack
taken_thin (Some u) removes s l k ms ns xs ys list stack = over_thin (record s { subst = u; world = without_removed removes s.world }) list stack

right_thin : {ks : List Bool} (left : Tree) (o : Offer) (s : State) (l k ms ns : List Member) (xs ys : List Alternative) → ThinList ks ms ns
    → ThinStack ks xs ys → Thin (tried_right left o ms (over s l xs)) (tried_right left o ns (over s k ys))
right_thin left o s l k ms ns xs ys list stack =
    elim (is_there o.removes s.world) as
    (λ x. Thin (if x then met_right left o ms (over s l xs) else fails (over s l xs)) (if x then met_right left o ns (over s k ys) else fails (over s k ys))) [
      | true ↦ taken_thin (right_met left o s) o.removes (row_counted o s) l k ms ns xs ys list stack
      | false ↦ fail_thin s stack
    ]

offered_thin : {ks : List Bool} (left : Tree) (os : List Offer) (s : State) (l k ms ns : List Member) (xs ys : List Alternative) → ThinList ks ms ns
    → ThinStack ks xs ys → Thin (offered left os ms (over s l xs)) (offered left os ns (over s k ys))
offered_thin left [] s l k ms ns xs ys list stack = fail_thin s stack
offered_thin left (o ∷ []) s l k ms ns xs ys list stack = right_thin left o s l k ms ns xs ys list stack
offered_thin left (o ∷ i ∷ os) s l k ms ns xs ys list stack =
    let a : Alternative = record { list = ms; subst = s.subst; next = s.next; built = s.built; left = Offered left (i ∷ os) } in
    let b : Alternative = record { list = ns; subst = s.subst; next = s.next; built = s.built; left = Offered left (i ∷ os) } in
    right_thin left o s l k ms ns (a ∷ xs) (b ∷ ys) (list_above (above all) list) (kept refl refl refl list same_left stack)

settled_thin : {ks : List Bool} (x : Settled) (s : State) (l k ms ns : List Member) (xs ys : List Alternative) → ThinList ks ms ns → ThinStack ks xs ys
    → Thin (settled x ms (over s l xs)) (settled x ns (over s k ys))
settled_thin (Refuses error) s l k ms ns xs ys list stack = over_thin s (thin_ball all list) stack
settled_thin (Changes made w) s l k ms ns xs ys list stack = over_thin (record s { built = s.built + made; world = w }) list stack
settled_thin (Offers left rights) s l k ms ns xs ys list stack = offered_thin left rights s l k ms ns xs ys list stack

-- ---- goals of built-ins

written_thin : {ks : List Bool} (bytes : List ℕ) (s : State) (l k ms ns : List Member) (xs ys : List Alternative) → ThinList ks ms ns → ThinStack ks xs ys
    → ThinOut (written bytes ms (over s l xs)) (written bytes ns (over s k ys))
written_thin [] s l k ms ns xs ys list stack = both_go (over_thin s list stack)
written_thin (b ∷ bytes) s l k ms ns xs ys list stack = both_give (over_thin s list stack)

-- so much was built
abbrev made_more : ℕ → State → State
made_more n s = record s { built = s.built + n }

-- the copy of a term is equated in both
copies_thin : {ks : List Bool} (made : ℕ) (a b : Tree) (s : State) (l k ms ns : List Member) (xs ys : List Alternative) → ThinList ks ms ns → ThinStack ks xs ys
    → Thin (equated_copy made a b ms (over s l xs)) (equated_copy made a b ns (over s k ys))
copies_thin made a b s l k ms ns xs ys list stack =
    equated_thin (under s.subst (unifier_of a (apply s.subst (copy_from b s.next)))) (with_copy made b s) l k ms ns xs ys list stack

-- ---- groups of solutions

witnessed_thin : {ks : List Bool} (u : Option Subst) (by : Grouping) (solutions : Tree) (s : State) (l k ms ns : List Member) (xs ys : List Alternative) → ThinList ks ms ns → ThinStack ks xs ys
    → Thin (witnessed u by solutions ms (over s l xs)) (witnessed u by solutions ns (over s k ys))
witnessed_thin None by solutions s l k ms ns xs ys list stack = fail_thin s stack
witnessed_thin (Some u) by solutions s l k ms ns xs ys list stack =
    let ts = collection by.sorts (items (apply u solutions)) in
    equated_thin (under u (unifier_of (apply u by.result) (list_of ts))) (made_more (1 + list_made (length ts)) (record s { subst = u })) l k ms ns xs ys list stack

group_thin : {ks : List Bool} (by : Grouping) (g : List Tree) (s : State) (l k ms ns : List Member) (xs ys : List Alternative) → ThinList ks ms ns → ThinStack ks xs ys
    → Thin (tried_group by g ms (over s l xs)) (tried_group by g ns (over s k ys))
group_thin by g s l k ms ns xs ys list stack =
    let solutions = apply s.subst (copy_from (list_of g) s.next) in
    witnessed_thin (under s.subst (unifier_of (repeated by.witness (witnesses solutions)) (row (witnesses solutions)))) by solutions (with_copy (size (list_of g)) (list_of g) s) l k ms ns xs ys
    list stack

grouped_thin : {ks : List Bool} (by : Grouping) (gs : List (List Tree)) (s : State) (l k ms ns : List Member) (xs ys : List Alternative) → ThinList ks ms ns → ThinStack ks xs ys
    → Thin (grouped by gs ms (over s l xs)) (grouped by gs ns (over s k ys))
grouped_thin by [] s l k ms ns xs ys list stack = fail_thin s stack
grouped_thin by (g ∷ []) s l k ms ns xs ys list stack = group_thin by g s l k ms ns xs ys list stack
grouped_thin by (g ∷ h ∷ gs) s l k ms ns xs ys list stack =
    let a : Alternative = record { list = ms; subst = s.subst; next = s.next; built = s.built; left = Groups by (h ∷ gs) } in
    let b : Alternative = record { list = ns; subst = s.subst; next = s.next; built = s.built; left = Groups by (h ∷ gs) } in
    group_thin by g s l k ms ns (a ∷ xs) (b ∷ ys) (list_above (above all) list) (kept refl refl refl list same_left stack)

collected_thin : {ks : List Bool} (c : Collecting) (copies : List Tree) (s : State) (l k ms ns : List Member) (xs ys : List Alternative) → ThinList ks ms ns → ThinStack ks xs ys
    → Thin (collected c copies ms (over s l xs)) (collected c copies ns (over s k ys))
collected_thin (AsList result) copies s l k ms ns xs ys list stack = copies_thin (size (list_of copies)) result (list_of copies) s l k ms ns xs ys list stack
collected_thin (InGroups by) copies s l k ms ns xs ys list stack = grouped_thin by (groups_of copies) s l k ms ns xs ys list stack

replied_thin : {ks : List Bool} (r : Reply) (s : State) (l k ms ns : List Member) (xs ys : List Alternative) → ThinList ks ms ns → ThinStack ks xs ys
    → ThinOut (replied r ms (over s l xs)) (replied r ns (over s k ys))
replied_thin Fails s l k ms ns xs ys list stack = both_go (fail_thin s stack)
replied_thin Succeeds s l k ms ns xs ys list stack = both_go (over_thin s list stack)
replied_thin (Equates made a b) s l k ms ns xs ys list stack =
    both_go (equated_thin (under s.subst (unifier_of a b)) (made_more made s) l k ms ns xs ys list stack)
replied_thin (EquatesCopy a b) s l k ms ns xs ys list stack = both_go (copies_thin (1 + size b) a b s l k ms ns xs ys list stack)
replied_thin (Raises error) s l k ms ns xs ys list stack = both_go (over_thin s (thin_ball all list) stack)
replied_thin (Calls b) s l k ms ns xs ys list stack = both_go (over_thin (with_goal b s) (thin_goal all (stack_count stack) (stack_whole stack) list) stack)
replied_thin (CallsOnce b) s l k ms ns xs ys list stack =
    let count = stack_count stack in
    let whole = stack_whole stack in
    both_go (over_thin (with_goal b s) (thin_goal all count whole (thin_cut all count whole list)) stack)
replied_thin (Refutes b) s l k ms ns xs ys list stack =
    let count = stack_count stack in
    let whole = stack_whole stack in
    both_go (over_thin (with_goal b s) (thin_goal all (ap suc count) (ap suc whole) (thin_cut (above all) count whole (thin_failure all list)))
    (kept refl refl refl list same_left stack))
replied_thin Repeats s l k ms ns xs ys list stack = both_go (over_thin s (list_above (above all) list) (kept refl refl refl list same_left stack))
replied_thin (Catches inside catcher recovery) s l k ms ns xs ys list stack =
    let a : Alternative = record { list = ms; subst = s.subst; next = s.next; built = s.built; left = Catching catcher recovery } in
    let b : Alternative = record { list = ns; subst = s.subst; next = s.next; built = s.built; left = Catching catcher recovery } in
    replied_thin inside s l k (Leave (length xs) ∷ ms) (Leave (length ys) ∷ ns) (a ∷ xs) (b ∷ ys) (thin_leave all (stack_count stack) (stack_whole stack) list)
    (kept refl refl refl list same_left stack)
replied_thin (Gathers template b result) s l k ms ns xs ys list stack =
    let count = stack_count stack in
    let whole = stack_whole stack in
    both_go (over_thin (with_goal b (with_template result s)) (thin_goal all (ap suc count) (ap suc whole) (thin_gathering all count whole list))
    (kept refl refl refl list same_left stack))
replied_thin (Halts status) s l k ms ns xs ys list stack = both_end
replied_thin (AsksWorld settles) s l k ms ns xs ys list stack = both_go (settled_thin (settles s.next s.world) s l k ms ns xs ys list stack)
replied_thin (Writes bytes) s l k ms ns xs ys list stack = written_thin (bytes s.world.operators) s l k ms ns xs ys list stack

-- ---- goals

unknown_thin : {ks : List Bool} (u : Unknown) (key : Key) (s : State) (l k ms ns : List Member) (xs ys : List Alternative) → ThinList ks ms ns
    → ThinStack ks xs ys → Thin (unknown_called u key ms (over s l xs)) (unknown_called u key ns (over s k ys))
unknown_thin on_unknown.Error key s l k ms ns xs ys list stack = over_thin s (thin_ball all list) stack
unknown_thin on_unknown.Fail key s l k ms ns xs ys list stack = fail_thin s stack

called_thin : {ks : List Bool} (cs : Option (List Clause)) (key : Key) (v : Tree) (s : State) (l k ms ns : List Member) (xs ys : List Alternative)
    → ThinList ks ms ns → ThinStack ks xs ys → Thin (called cs key v ms (over s l xs)) (called cs key v ns (over s k ys))
called_thin (Some cs) key v s l k ms ns xs ys list stack = tried_thin v cs s l k ms ns xs ys list stack
called_thin None key v s l k ms ns xs ys list stack = unknown_thin s.world.flags.unknown key s l k ms ns xs ys list stack

selected_thin : {ks : List Bool} (b : Option BuiltIn) (key : Key) (v : Tree) (s : State) (l k ms ns : List Member) (xs ys : List Alternative)
    → ThinList ks ms ns → ThinStack ks xs ys → ThinOut (selected b key v ms (over s l xs)) (selected b key v ns (over s k ys))
selected_thin (Some b) key v s l k ms ns xs ys list stack = replied_thin (reply b v) s l k ms ns xs ys list stack
selected_thin None key v s l k ms ns xs ys list stack = both_go (called_thin (clauses_at s.world.database.procedures key) key v s l k ms ns xs ys list stack)

run_thin : {ks : List Bool} (key : Option Key) (v : Tree) (s : State) (l k ms ns : List Member) (xs ys : List Alternative) → ThinList ks ms ns
    → ThinStack ks xs ys → ThinOut (run_goal key v ms (over s l xs)) (run_goal key v ns (over s k ys))
run_thin (Some key) v s l k ms ns xs ys list stack = selected_thin (built_in key) key v s l k ms ns xs ys list stack
run_thin None v s l k ms ns xs ys list stack = both_go (fail_thin s stack)

-- with as many steps left
pub steps_thin : {t s : State} (n : ℕ) → Thin t s → Thin (record t { steps = n }) (record s { steps = n })
steps_thin n (going at p q r list) = going (record { keeps = at.keeps; stack = at.stack; query = at.query; world = at.world; steps = refl }) p q r list
steps_thin n (failing ms ns is are less at) = failing ms ns is are less (record { keeps = at.keeps; stack = at.stack; query = at.query; world = at.world; steps = refl })

charged_thin : {o p : Outcome} (n : ℕ) → ThinOut o p → ThinOut (charged n o) (charged n p)
charged_thin n (both_go h) = both_go (steps_thin n h)
charged_thin n (both_give h) = both_give (steps_thin n h)
charged_thin n both_end = both_end

paid_thin : {o p : Outcome} (n : ℕ) (s : State) (l k : List Member) (xs ys : List Alternative) → ThinOut o p
    → ThinOut (paid n (over s l xs) o) (paid n (over s k ys) p)
paid_thin zero s l k xs ys out = both_end
paid_thin (suc n) s l k xs ys out = charged_thin n out

goal_thin : {low ks : List Bool} (b : Body) (m n : ℕ) (s : State) (l k ms ns : List Member) (xs ys : List Alternative) → Low low ks → m ≡ kept_count low
    → n ≡ length low → ThinList low ms ns → ThinStack ks xs ys → ThinOut (step_goal b m ms (over s l xs)) (step_goal b n ns (over s k ys))
goal_thin Cut m n s l k ms ns xs ys h e f list stack = both_go (over_thin s list (shortened_thin m n h e f stack))
goal_thin (Run t) m n s l k ms ns xs ys h e f list stack =
    let v = apply s.subst t in
    paid_thin s.steps s l k xs ys (run_thin (key_of v) v s l k ms ns xs ys (list_above h list) stack)
goal_thin (And a b) m n s l k ms ns xs ys h e f list stack = both_go (over_thin s (thin_goal h e f (thin_goal all e f list)) stack)
goal_thin (Or a b) m n s l k ms ns xs ys h e f list stack =
    both_go (over_thin s (thin_goal (above h) e f list) (kept refl refl refl (thin_goal h e f list) same_left stack))
goal_thin (If c t) m n s l k ms ns xs ys h e f list stack =
    let count = stack_count stack in
    let whole = stack_whole stack in
    both_go (over_thin s (thin_goal all count whole (thin_cut all count whole (thin_goal h e f list))) stack)
goal_thin (Choose c t x) m n s l k ms ns xs ys h e f list stack =
    let count = stack_count stack in
    let whole = stack_whole stack in
    both_go (over_thin s (thin_goal all (ap suc count) (ap suc whole) (thin_cut (above all) count whole (thin_goal h e f list)))
    (kept refl refl refl (thin_goal h e f list) same_left stack))

met_thin : {low ks : List Bool} (o : Option Subst) (ball recovery : Tree) (s : State) (l k ms ns : List Member) (xs ys : List Alternative) → Low low ks
    → ThinList low ms ns → ThinStack ks xs ys → Thin (met o ball recovery ms (over s l xs)) (met o ball recovery ns (over s k ys))
met_thin None ball recovery s l k ms ns xs ys h list stack = over_thin s (thin_ball h list) stack
met_thin (Some u) ball recovery s l k ms ns xs ys h list stack =
    over_thin (record s { subst = u; next = s.next + variable_count ball }) (thin_goal all (stack_count stack) (stack_whole stack) (list_above h list)) stack

-- ---- clauses that are passed over

-- the head's variables are numbered, and it is under a substitution
pub misses_renamed : (call : Tree) (c : Clause) (r : Subst) (n : ℕ) → Misses call c → NeverEqual call (apply r (renamed n c.head))
misses_renamed call c r n miss =
    subst (λ (t : Tree). NeverEqual call t) (sym (apply_apply (λ k. Variable (n + k)) r c.head)) (miss (compose (λ k. Variable (n + k)) r))

-- the state behind a clause that wasn't entered
abbrev missed : Clause → State → State
missed c s = record s { list = Fail ∷ []; next = s.next + c.variables; built = s.built + clause_size c }

clause_missed : (call : Tree) (c : Clause) (mark : ℕ) (rest : List Member) (s : State) → Misses call c → tried_clause call c mark rest s ≡ missed c s
clause_missed call c mark rest s miss =
    ap (λ o. entered o c s.next mark rest (counted c s))
    (unify_none s.subst call (apply s.subst (renamed s.next c.head)) (misses_renamed call c s.subst s.next miss))

entered_list : (o : Option Subst) (c : Clause) (n mark : ℕ) (rest : List Member) (s : State) (ms : List Member)
    → entered o c n mark rest (record s { list = ms }) ≡ entered o c n mark rest s
entered_list None c n mark rest s ms = refl
entered_list (Some u) c n mark rest s ms = refl

-- whatever the list was
tried_list : (call : Tree) (cs : List Clause) (rest : List Member) (s : State) (ms : List Member)
    → tried call cs rest (record s { list = ms }) ≡ tried call cs rest s
tried_list call [] rest s ms = refl
tried_list call (c ∷ []) rest s ms =
    entered_list (head_met call c s) c s.next (length s.stack) rest (counted c s) ms
tried_list call (c ∷ d ∷ ds) rest s ms =
    let p = with_others call (d ∷ ds) rest s in
    entered_list (head_met call c p) c p.next (length s.stack) rest (counted c p) ms

entered_steps : (o : Option Subst) (c : Clause) (n mark : ℕ) (rest : List Member) (s : State) (k : ℕ)
    → record (entered o c n mark rest s) { steps = k } ≡ entered o c n mark rest (record s { steps = k })
entered_steps None c n mark rest s k = refl
entered_steps (Some u) c n mark rest s k = refl

-- with other steps
pub tried_steps : (call : Tree) (cs : List Clause) (rest : List Member) (s : State) (k : ℕ)
    → record (tried call cs rest s) { steps = k } ≡ tried call cs rest (record s { steps = k })
tried_steps call [] rest s k = refl
tried_steps call (c ∷ []) rest s k =
    entered_steps (head_met call c s) c s.next (length s.stack) rest (counted c s) k
tried_steps call (c ∷ d ∷ ds) rest s k =
    let p = with_others call (d ∷ ds) rest s in
    entered_steps (head_met call c p) c p.next (length s.stack) rest (counted c p) k

-- a state that fails goes back to its newest alternative
pub back_step : (s : State) (a : Alternative) (below : List Alternative) (ms : List Member)
    → step (record s { list = Fail ∷ ms; stack = a ∷ below }) ≡
    retried a.left (record s { list = a.list; subst = a.subst; next = a.next; built = a.built; stack = below })
unfolding step
back_step s a below ms = refl

-- where the first clause misses the call the others are tried, as they were without it
miss_step : (call : Tree) (c d : Clause) (ds : List Clause) (rest : List Member) (s : State) → Misses call c
    → step (tried call (c ∷ d ∷ ds) rest s) ≡ Goes (tried call (d ∷ ds) rest s)
miss_step call c d ds rest s miss =
    let p = with_others call (d ∷ ds) rest s in
    let a : Alternative = record { list = rest; subst = s.subst; next = s.next; built = s.built; left = Clauses call (d ∷ ds) } in
    ap step (clause_missed call c (length s.stack) rest p miss) ∙ (back_step (missed c s) a s.stack [] ∙ ap Goes (tried_list call (d ∷ ds) rest s rest))

-- the clauses that are left out are tried, and those behind them
pub tried_follows : {ks : List Bool} {call : Tree} {ds cs : List Clause} (s : State) (l k ms ns : List Member) (xs ys : List Alternative) → Skips call ds cs
    → ThinList ks ms ns → ThinStack ks xs ys → (u : State) × Quiet (tried call cs ns (over s k ys)) u × Thin (tried call ds ms (over s l xs)) u
tried_follows {call = call} s l k ms ns xs ys no_clause list stack = (fails (over s k ys), here, fail_thin s stack)
tried_follows {call = call} s l k ms ns xs ys (tried_too {c = c} {ds = ds} {cs = cs} skips) list stack =
    (tried call (c ∷ cs) ns (over s k ys), here, clause_thin call c ds cs s l k ms ns xs ys skips list stack)
tried_follows {ks} {call} s l k ms ns xs ys (passed_over {c = c} {ds = []} {cs = []} miss skips) list stack =
    let at : Around (fails (over s l xs)) (missed c (over s k ys)) = record { keeps = ks; stack = stack; query = refl; world = refl; steps = refl } in
    let is = clause_missed call c (length ys) ns (over s k ys) miss in
    (tried_clause call c (length ys) ns (over s k ys), here, subst (λ (u : State). Thin (fails (over s l xs)) u) (sym is) (failing [] [] refl refl (omega arith) at))
tried_follows {call = call} s l k ms ns xs ys (passed_over {c = c} {ds = d ∷ ds} {cs = []} miss skips) list stack = absurd (none_of_none skips)
tried_follows {call = call} s l k ms ns xs ys (passed_over {c = c} {cs = d ∷ cs} miss skips) list stack =
    let on = tried_follows s l k ms ns xs ys skips list stack in
    (on.0, quiet_trans (quiet_one (miss_step call c d cs ns (over s k ys) miss)) on.1, on.2)

-- clauses that all miss the call are tried, and then the state fails
pub all_missed : {call : Tree} {cs : List Clause} (s : State) (ns : List Member) → Skips call [] cs
    → (n b : ℕ) × Quiet (tried call cs ns s) (record s { list = Fail ∷ []; next = n; built = b })
all_missed {call = call} s ns no_clause = (s.next, s.built, here)
all_missed {call = call} s ns (passed_over {c = c} {cs = []} miss skips) =
    let is = clause_missed call c (length s.stack) ns s miss in
    (s.next + c.variables, s.built + clause_size c, subst (λ (u : State). Quiet (tried call (c ∷ []) ns s) u) is here)
all_missed {call = call} s ns (passed_over {c = c} {cs = d ∷ cs} miss skips) =
    let on = all_missed s ns skips in
    (on.0, on.1, quiet_trans (quiet_one (miss_step call c d cs ns s miss)) on.2)

-- ---- rows that are passed over

-- no rows are a part of none alone
no_row_of_none : {left : Tree} {o : Offer} {os : List Offer} → SkipsRows left (o ∷ os) [] → ⊥
no_row_of_none h = elim h [ ]

pub rows_none : {left : Tree} (os : List Offer) → SkipsRows left os os
rows_none [] = no_row
rows_none (o ∷ os) = met_too (rows_none os)

pub rows_on : {left : Tree} {qs ps os : List Offer} → SkipsRows left qs ps → SkipsRows left ps os → SkipsRows left qs os
rows_on h no_row = h
rows_on h (row_passed_over miss k) = row_passed_over miss (rows_on h k)
rows_on (met_too h) (met_too k) = met_too (rows_on h k)
rows_on (row_passed_over miss h) (met_too k) = row_passed_over miss (rows_on h k)

row_renamed : (left : Tree) (o : Offer) (r : Subst) (n : ℕ) → RowMisses left o → NeverEqual left (apply r (renamed n o.right))
row_renamed left o r n miss =
    subst (λ (t : Tree). NeverEqual left t) (sym (apply_apply (λ k. Variable (n + k)) r o.right)) (miss (compose (λ k. Variable (n + k)) r))

-- a row that isn't met, or isn't there
row_missed : (left : Tree) (o : Offer) (rest : List Member) (s : State) → RowMisses left o
    → (n b : ℕ) × (s.built ≤ b) × (tried_right left o rest s ≡ record s { list = Fail ∷ []; next = n; built = b })
row_missed left o rest s miss =
    elim (is_there o.removes s.world) as
    (λ x. (n b : ℕ) × (s.built ≤ b) × ((if x then met_right left o rest s else fails s) ≡ record s { list = Fail ∷ []; next = n; built = b })) [
      | true ↦ (
        s.next + o.variables,
        s.built + o.made,
        omega arith,
        ap (λ u. taken u o.removes rest (row_counted o s))
            (unify_none s.subst left (apply s.subst (renamed s.next o.right)) (row_renamed left o s.subst s.next miss)),
      )
      | false ↦ (s.next, s.built, omega arith, refl)
    ]

taken_list : (u : Option Subst) (removes : Option Reference) (rest : List Member) (s : State) (ms : List Member)
    → taken u removes rest (record s { list = ms }) ≡ taken u removes rest s
taken_list None removes rest s ms = refl
taken_list (Some u) removes rest s ms = refl

right_list : (left : Tree) (o : Offer) (rest : List Member) (s : State) (ms : List Member)
    → tried_right left o rest (record s { list = ms }) ≡ tried_right left o rest s
right_list left o rest s ms =
    elim (is_there o.removes s.world) as
    (λ x. (if x then met_right left o rest (record s { list = ms }) else fails (record s { list = ms })) ≡ (if x then met_right left o rest s else fails s)) [
      | true ↦ taken_list (right_met left o s) o.removes rest (row_counted o s) ms
      | false ↦ refl
    ]

offered_list : (left : Tree) (os : List Offer) (rest : List Member) (s : State) (ms : List Member)
    → offered left os rest (record s { list = ms }) ≡ offered left os rest s
offered_list left [] rest s ms = refl
offered_list left (o ∷ []) rest s ms = right_list left o rest s ms
offered_list left (o ∷ i ∷ os) rest s ms = right_list left o rest (with_rights left (i ∷ os) rest s) ms

taken_steps : (u : Option Subst) (removes : Option Reference) (rest : List Member) (s : State) (k : ℕ)
    → record (taken u removes rest s) { steps = k } ≡ taken u removes rest (record s { steps = k })
taken_steps None removes rest s k = refl
taken_steps (Some u) removes rest s k = refl

right_steps : (left : Tree) (o : Offer) (rest : List Member) (s : State) (k : ℕ)
    → record (tried_right left o rest s) { steps = k } ≡ tried_right left o rest (record s { steps = k })
right_steps left o rest s k =
    elim (is_there o.removes s.world) as
    (λ x. record (if x then met_right left o rest s else fails s) { steps = k }
    ≡ (if x then met_right left o rest (record s { steps = k }) else fails (record s { steps = k }))) [
      | true ↦ taken_steps (right_met left o s) o.removes rest (row_counted o s) k
      | false ↦ refl
    ]

-- with other steps
pub offered_steps : (left : Tree) (os : List Offer) (rest : List Member) (s : State) (k : ℕ)
    → record (offered left os rest s) { steps = k } ≡ offered left os rest (record s { steps = k })
offered_steps left [] rest s k = refl
offered_steps left (o ∷ []) rest s k = right_steps left o rest s k
offered_steps left (o ∷ i ∷ os) rest s k = right_steps left o rest (with_rights left (i ∷ os) rest s) k

row_miss_step : (left : Tree) (o i : Offer) (os : List Offer) (rest : List Member) (s : State) → RowMisses left o
    → step (offered left (o ∷ i ∷ os) rest s) ≡ Goes (offered left (i ∷ os) rest s)
row_miss_step left o i os rest s miss =
    let p = with_rights left (i ∷ os) rest s in
    let a : Alternative = record { list = rest; subst = s.subst; next = s.next; built = s.built; left = Offered left (i ∷ os) } in
    let is = row_missed left o rest p miss in
    ap step is.3 ∙ (back_step (record s { next = is.0; built = is.1 }) a s.stack [] ∙ ap Goes (offered_list left (i ∷ os) rest s rest))

-- the first row is tried in both
row_thin : {ks : List Bool} (left : Tree) (o : Offer) (ps os : List Offer) (s : State) (l k ms ns : List Member) (xs ys : List Alternative)
    → SkipsRows left ps os → ThinList ks ms ns → ThinStack ks xs ys → Thin (offered left (o ∷ ps) ms (over s l xs)) (offered left (o ∷ os) ns (over s k ys))
row_thin left o [] [] s l k ms ns xs ys skips list stack = right_thin left o s l k ms ns xs ys list stack
row_thin left o [] (i ∷ os) s l k ms ns xs ys skips list stack =
    let b : Alternative = record { list = ns; subst = s.subst; next = s.next; built = s.built; left = Offered left (i ∷ os) } in
    right_thin left o s l k ms ns xs (b ∷ ys) (list_above (above all) list) (left_out skips stack)
row_thin left o (j ∷ ps) (i ∷ os) s l k ms ns xs ys skips list stack =
    let a : Alternative = record { list = ms; subst = s.subst; next = s.next; built = s.built; left = Offered left (j ∷ ps) } in
    let b : Alternative = record { list = ns; subst = s.subst; next = s.next; built = s.built; left = Offered left (i ∷ os) } in
    right_thin left o s l k ms ns (a ∷ xs) (b ∷ ys) (list_above (above all) list) (kept refl refl refl list (fewer_rows skips) stack)
row_thin left o (j ∷ ps) [] s l k ms ns xs ys skips list stack = absurd (no_row_of_none skips)

-- the rows that are left out are tried, and those behind them
pub offered_follows : {ks : List Bool} {left : Tree} {ps os : List Offer} (s : State) (l k ms ns : List Member) (xs ys : List Alternative)
    → SkipsRows left ps os → ThinList ks ms ns → ThinStack ks xs ys
    → (u : State) × Quiet (offered left os ns (over s k ys)) u × Thin (offered left ps ms (over s l xs)) u
offered_follows s l k ms ns xs ys no_row list stack = (fails (over s k ys), here, fail_thin s stack)
offered_follows {left = left} s l k ms ns xs ys (met_too {o = o} {ps = ps} {os = os} skips) list stack =
    (offered left (o ∷ os) ns (over s k ys), here, row_thin left o ps os s l k ms ns xs ys skips list stack)
offered_follows {ks} {left} s l k ms ns xs ys (row_passed_over {o = o} {ps = []} {os = []} miss skips) list stack =
    let is = row_missed left o ns (over s k ys) miss in
    let at : Around (fails (over s l xs)) (record (over s k ys) { list = Fail ∷ []; next = is.0; built = is.1 }) =
    record { keeps = ks; stack = stack; query = refl; world = refl; steps = refl } in
    (tried_right left o ns (over s k ys), here, subst (λ (u : State). Thin (fails (over s l xs)) u) (sym is.3) (failing [] [] refl refl is.2 at))
offered_follows s l k ms ns xs ys (row_passed_over {ps = j ∷ ps} {os = []} miss skips) list stack = absurd (no_row_of_none skips)
offered_follows {left = left} s l k ms ns xs ys (row_passed_over {o = o} {os = i ∷ os} miss skips) list stack =
    let on = offered_follows s l k ms ns xs ys skips list stack in
    (on.0, quiet_trans (quiet_one (row_miss_step left o i os ns (over s k ys) miss)) on.1, on.2)

-- rows that all miss the left one are tried, and then the state fails
rows_missed : {left : Tree} {os : List Offer} (s : State) (ns : List Member) → SkipsRows left [] os
    → (n b : ℕ) × Quiet (offered left os ns s) (record s { list = Fail ∷ []; next = n; built = b })
rows_missed s ns no_row = (s.next, s.built, here)
rows_missed {left = left} s ns (row_passed_over {o = o} {os = []} miss skips) =
    let is = row_missed left o ns s miss in
    (is.0, is.1, subst (λ (u : State). Quiet (tried_right left o ns s) u) is.3 here)
rows_missed {left = left} s ns (row_passed_over {o = o} {os = i ∷ os} miss skips) =
    let on = rows_missed s ns skips in
    (on.0, on.1, quiet_trans (quiet_one (row_miss_step left o i os ns s miss)) on.2)

-- at an alternative that is left out nothing comes of what is left
pub dead_missed : (left : Left) (z s : State) → step z ≡ retried left s → IsDead left → (n b : ℕ) × Quiet z (record s { list = Fail ∷ []; next = n; built = b })
dead_missed (Clauses call cs) z s is dead = let on = all_missed s s.list dead in (on.0, on.1, quiet_trans (quiet_one is) on.2)
dead_missed (Offered left os) z s is dead = let on = rows_missed s s.list dead in (on.0, on.1, quiet_trans (quiet_one is) on.2)
dead_missed AsIs z s is dead = absurd dead
dead_missed Again z s is dead = absurd dead
dead_missed (Catching catcher recovery) z s is dead = absurd dead
dead_missed (Gathering result copies count) z s is dead = absurd dead
dead_missed (Groups by groups) z s is dead = absurd dead

-- ---- failure

-- the state comes to this outcome behind some steps without an event
abbrev pub Follows : Outcome → State → Type 0
Follows (Goes v) s = (u : State) × Quiet s u × Thin v u
Follows (Gives e v) s = Comes s e (λ u. Thin v u)
Follows (Ends e w) s = (u : State) × Quiet s u × (step u ≡ Ends e w)

-- by one step
at_once : {o p : Outcome} (s : State) → step s ≡ p → ThinOut o p → Follows o s
at_once s is (both_go {s = u} h) = (u, quiet_one is, h)
at_once s is (both_give {s = u} h) = record { at = s; new = u; quiet = here; last = is; stands = h }
at_once s is both_end = (s, here, is)

-- behind some steps more
pub later : (o : Outcome) (s t : State) → Quiet s t → Follows o t → Follows o s
later (Goes v) s t q h = (h.0, quiet_trans q h.1, h.2)
later (Gives e v) s t q h = record { at = h.at; new = h.new; quiet = quiet_trans q h.quiet; last = h.last; stands = h.stands }
later (Ends e w) s t q h = (h.0, quiet_trans q h.1, h.2)

-- the same is left in both
same_retried : {ks : List Bool} (left : Left) (s : State) (ms ns : List Member) (xs ys : List Alternative) → ThinList ks ms ns → ThinStack ks xs ys
    → ThinOut (retried left (over s ms xs)) (retried left (over s ns ys))
same_retried AsIs s ms ns xs ys list stack = both_go (over_thin s list stack)
same_retried Again s ms ns xs ys list stack =
    paid_thin s.steps s ms ns xs ys (both_go (over_thin s (list_above (above all) list) (kept refl refl refl list same_left stack)))
same_retried (Clauses call cs) s ms ns xs ys list stack = both_go (tried_thin call cs s ms ns ms ns xs ys list stack)
same_retried (Catching catcher recovery) s ms ns xs ys list stack = both_go (fail_thin s stack)
same_retried (Gathering collecting copies count) s ms ns xs ys list stack = both_go (collected_thin collecting copies s ms ns ms ns xs ys list stack)
same_retried (Groups by groups) s ms ns xs ys list stack = both_go (grouped_thin by groups s ms ns ms ns xs ys list stack)
same_retried (Offered left rights) s ms ns xs ys list stack = both_go (offered_thin left rights s ms ns ms ns xs ys list stack)

-- what is left is tried in both
retried_follows : {ks : List Bool} {left right : Left} (s z : State) (ms ns : List Member) (xs ys : List Alternative) → step z ≡ retried right (over s ns ys)
    → ThinLeft left right → ThinList ks ms ns → ThinStack ks xs ys → Follows (retried left (over s ms xs)) z
retried_follows s z ms ns xs ys is (same_left {l = left}) list stack = at_once z is (same_retried left s ms ns xs ys list stack)
retried_follows s z ms ns xs ys is (fewer_clauses skips) list stack =
    let on = tried_follows s ms ns ms ns xs ys skips list stack in
    (on.0, quiet_trans (quiet_one is) on.1, on.2)
retried_follows s z ms ns xs ys is (fewer_rows skips) list stack =
    let on = offered_follows s ms ns ms ns xs ys skips list stack in
    (on.0, quiet_trans (quiet_one is) on.1, on.2)

-- both go back to the newest alternative that is kept
back_follows : {ks : List Bool} {xs ys : List Alternative} (t s : State) (ns : List Member) → Apart t s → ThinStack ks xs ys
    → Follows (backtracked xs t) (record s { list = Fail ∷ ns; stack = ys })
unfolding step
back_follows t s ns h no_alternative = at_once (record s { list = Fail ∷ ns; stack = [] }) refl (ended t s NoMore h)
back_follows t s ns h (kept {a = a} {b = b} {xs = xs} {ys = ys} p q r list left others) =
    let first = h.query in
    let second = h.world in
    let third = h.steps in
    let base : State = record s { subst = b.subst; next = b.next; built = b.built } in
    let same : record t { list = a.list; subst = a.subst; next = a.next; built = a.built; stack = xs } ≡ over base a.list xs =
    λ i. record { list = a.list; subst = p i; next = q i; built = r i; query = first i; stack = xs; world = second i; steps = third i } in
    subst (λ (u : State). Follows (retried a.left u) (record s { list = Fail ∷ ns; stack = b ∷ ys })) (sym same)
    (retried_follows base (record s { list = Fail ∷ ns; stack = b ∷ ys }) a.list b.list xs ys (back_step s b ys ns) left list others)
back_follows t s ns h (left_out {b = b} {xs = xs} {ys = ys} dead others) =
    let y : State = record s { list = Fail ∷ ns; stack = b ∷ ys } in
    let z : State = record s { list = b.list; subst = b.subst; next = b.next; built = b.built; stack = ys } in
    let on = dead_missed b.left y z (back_step s b ys ns) dead in
    later (backtracked xs t) y (record z { list = Fail ∷ []; next = on.0; built = on.1 }) on.2
    (back_follows t (record z { next = on.0; built = on.1 }) [] (record { query = h.query; world = h.world; steps = h.steps }) others)

-- ---- steps

list_follows : {ks : List Bool} {ms ns : List Member} (s : State) (xs ys : List Alternative) → ThinList ks ms ns → ThinStack ks xs ys
    → Follows (step_list ms (over s ms xs)) (over s ns ys)
unfolding step
list_follows s xs ys no_member stack = at_once (over s [] ys) refl (both_give (fail_thin s stack))
list_follows s xs ys (thin_goal {b = b} {m = m} {n = n} {ms = ms} {ns = ns} h e f list) stack =
    at_once (over s (Goal b n ∷ ns) ys) refl (goal_thin b m n s (Goal b m ∷ ms) (Goal b n ∷ ns) ms ns xs ys h e f list stack)
list_follows s xs ys (thin_cut {m = m} {n = n} {ms = ms} {ns = ns} h e f list) stack =
    at_once (over s (CutTo n ∷ ns) ys) refl (both_go (over_thin s list (shortened_thin m n h e f stack)))
list_follows s xs ys (thin_failure {ms = ms} {ns = ns} h list) stack =
    back_follows (over s (Fail ∷ ms) xs) s ns (record { query = refl; world = refl; steps = refl }) stack
list_follows s xs ys (thin_leave {n = n} {ns = ns} h e f list) stack =
    at_once (over s (Leave n ∷ ns) ys) refl (both_go (over_thin s (list_above (low_below h) list) stack))
list_follows s xs ys (thin_ball {ball = ball} {ms = ms} {ns = ns} h list) stack =
    at_once (over s (Raise ball ∷ ns) ys) refl
    (thrown_thin (over s (Raise ball ∷ ms) xs) (over s (Raise ball ∷ ns) ys) ball (record { query = refl; world = refl; steps = refl }) stack h list)
list_follows s xs ys (thin_meeting {ball = ball} {catcher = catcher} {recovery = recovery} {ms = ms} {ns = ns} h list) stack =
    at_once (over s (Meet ball catcher recovery ∷ ns) ys) refl
    (both_go (met_thin (under s.subst (unifier_of (apply s.subst catcher) (apply s.subst (copy_from ball s.next)))) ball recovery (made_more (size ball) s)
    (Meet ball catcher recovery ∷ ms) (Meet ball catcher recovery ∷ ns) ms ns xs ys h list stack))
list_follows s xs ys (thin_gathering {m = m} {n = n} {template = template} {ns = ns} h e f list) stack =
    at_once (over s (Gather n template ∷ ns) ys) refl (both_go (fail_thin s (gathered_thin m n (apply s.subst template) h e f stack)))

-- the first state, but for its goals and alternatives, is the second
over_is : (t s : State) → Apart t s → t.subst ≡ s.subst → t.next ≡ s.next → t.built ≡ s.built → t ≡ over s t.list t.stack
over_is t s h p q r =
    let first = h.query in
    let second = h.world in
    let third = h.steps in
    λ i. record { list = t.list; subst = p i; next = q i; built = r i; query = first i; stack = t.stack; world = second i; steps = third i }

-- What a step of a thin state comes to, the other comes to behind some steps without an event.
pub step_follows : (t s : State) → Thin t s → Follows (step t) s
unfolding step
step_follows t s (going at p q r list) =
    subst (λ (u : State). Follows (step u) s) (sym (over_is t s (apart_of at) p q r)) (list_follows s t.stack s.stack list at.stack)
step_follows t s (failing ms ns is are less at) =
    let one : step t ≡ backtracked t.stack t = ap (λ (xs : List Member). step_list xs t) is in
    let here : s ≡ record s { list = Fail ∷ ns } = ap (λ (xs : List Member). record s { list = xs }) are in
    subst (λ (o : Outcome). Follows o s) (sym one)
    (subst (λ (u : State). Follows (backtracked t.stack t) u) (sym here) (back_follows t s ns (apart_of at) at.stack))
