-- A thin state has the other's run; and an engine that is a thin state may leave out clauses that miss the call.
use Rattle.std.proofs.Common.{◌≡◌, ◌≤◌, ℕ, suc, List, [], ◌∷◌, Bool, true, false, length, Option, Some, None, refl, sym, ap, ◌∙◌, subst, arith}
use Rattle.iso_model.specs.Terms.Trees.{Tree}
use Rattle.iso_model.specs.Terms.Substitutions.{apply}
use Rattle.iso_model.specs.Search.Bodies.{Body, Run, converted}
use Rattle.iso_model.specs.Search.Databases.{Clause, Key, key_of, clauses_at}
use Rattle.iso_model.specs.Search.BuiltIns.{Reply, AsksWorld, built_in, reply}
use Rattle.iso_model.specs.Search.Settlements.{Settled, Offers, Offer}
use Rattle.iso_model.specs.declared.built_ins.BuiltIn.{BuiltIn}
use Rattle.iso_model.specs.Search.Walker.{Offered, offered, settled, replied, State, World, Member, Goal, Fail, Left, Clauses, Alternative, Event, Ending, Outcome, Goes, Gives, Ends, charged, paid, tried, retried, called, selected, run_goal, run_value, opening, started, idle, alternative_count, step}
use Rattle.iso_model.specs.Search.Runs.{Trace, Then, goes, gives, ends, Quiet, here, onward, Comes, Finishes}
use Rattle.iso_model.specs.Search.Runs as runs
use Rattle.iso_model.specs.Search.RunLaws.Named.{run_of, run_of_is, run_of_only}
use Rattle.iso_model.proofs.Search.RunLaws.Quiets.{quiet_one, quiet_trans}
use Rattle.iso_model.proofs.Search.RunLaws.SameRuns.{run_from}
use Rattle.iso_model.specs.Search.RunLaws.Thinness.{SkipsRows, Skips, kept_count, all, ThinList, no_member, thin_goal, thin_failure, thin_ball, ThinLeft, same_left, fewer_clauses, fewer_rows, ThinStack, no_alternative, kept, left_out, Around, Thin, going, failing}
use Rattle.iso_model.proofs.Search.RunLaws.ThinSteps.{offered_follows, offered_steps, rows_none, rows_on, dead_missed, Follows, step_follows, tried_follows, back_step, tried_steps, over, Apart, apart_of, skips_none, skips_on, list_above, stack_count, stack_whole}

-- ---- steps

pub onward_thin : (t v s : State) → step t ≡ Goes v → Thin t s → (u : State) × Quiet s u × Thin v u
onward_thin t v s is h = subst (λ (o : Outcome). Follows o s) is (step_follows t s h)

pub comes_thin : (t v s : State) (e : Event) (P : State → Type 0) → step t ≡ Gives e v → ((u : State) → Thin v u → P u) → Thin t s → Comes s e P
comes_thin t v s e P is stands h =
    let c = subst (λ (o : Outcome). Follows o s) is (step_follows t s h) in
    record { at = c.at; new = c.new; quiet = c.quiet; last = c.last; stands = stands c.new c.stands }

pub finishes_thin : (t s : State) (e : Ending) (w : World) (P : State → Type 0) → step t ≡ Ends e w → P (idle w) → Thin t s → Finishes s e P
finishes_thin t s e w P is stands h =
    let c = subst (λ (o : Outcome). Follows o s) is (step_follows t s h) in
    record { at = c.0; world = w; quiet = c.1; last = c.2; stands = stands }

pub quiet_thin : (t v s : State) → Quiet t v → Thin t s → (u : State) × Quiet s u × Thin v u
quiet_thin t v s here h = (s, here, h)
quiet_thin t v s (onward {t = m} q is) h =
    let k = quiet_thin t m s q h in
    let j = onward_thin m v k.0 is k.2 in
    (j.0, quiet_trans k.1 j.1, j.2)

-- ---- runs

pub thin_around : {t s : State} → Thin t s → Around t s
thin_around (going at p q r list) = at
thin_around (failing ms ns is are less at) = at

-- the run of a thin state is a run of the other
pub run_follows : {t s : State} {r : Trace} → runs.Run t r → Thin t s → runs.Run s r
run_follows {t} {s} (goes {t = v} is run) h =
    let k = onward_thin t v s is h in
    run_from k.1 (run_follows run k.2)
run_follows {t} {s} (gives {t = v} {e = e} {r = r} is run) h =
    let c = subst (λ (o : Outcome). Follows o s) is (step_follows t s h) in
    let same = (thin_around c.stands).world in
    subst (λ (w : World). runs.Run s (Then e w r)) (sym same) (run_from c.quiet (gives c.last (run_follows run c.stands)))
run_follows {t} {s} (ends is) h =
    let c = subst (λ (o : Outcome). Follows o s) is (step_follows t s h) in
    run_from c.1 (ends c.2)

-- they have one run
pub thin_run : (t s : State) → Thin t s → run_of t ≡ run_of s
thin_run t s h = sym (run_of_only (run_follows (run_of_is t) h))

-- ---- where it begins

pub idle_thin : (w : World) → Thin (idle w) (idle w)
idle_thin w = failing [] [] refl refl (omega arith) (record { keeps = []; stack = no_alternative; query = refl; world = refl; steps = refl })

opening_thin : (t : Tree) (o : Option Body) → ThinList [] (opening t o) (opening t o)
opening_thin t None = thin_ball all no_member
opening_thin t (Some b) = thin_goal all refl refl no_member

pub started_thin : (t : Tree) (budget : ℕ) (w : World) → Thin (started t budget w) (started t budget w)
started_thin t budget w =
    going (record { keeps = []; stack = no_alternative; query = refl; world = refl; steps = refl }) refl refl refl (opening_thin t (converted t))

-- ---- how many alternatives there are

count_within : (ks : List Bool) → kept_count ks ≤ length ks
count_within [] = omega arith
count_within (true ∷ ks) = let less = count_within ks in omega arith
count_within (false ∷ ks) = let less = count_within ks in omega arith

-- a thin state has no more alternatives
pub thin_fewer : (t s : State) → Thin t s → alternative_count t ≤ alternative_count s
thin_fewer t s h =
    let at = thin_around h in
    let count = stack_count at.stack in
    let whole = stack_whole at.stack in
    let less = count_within at.keeps in
    omega arith

-- ---- an engine that leaves out more

-- the second, but for its goals and alternatives, is the first
abbrev seen : State → State → State
seen t s = over t s.list s.stack

seen_is : (t s : State) → Around t s → t.subst ≡ s.subst → t.next ≡ s.next → t.built ≡ s.built → s ≡ seen t s
seen_is t s h p q r =
    let first = sym h.query in
    let second = sym h.world in
    let third = sym h.steps in
    let p' = sym p in
    let q' = sym q in
    let r' = sym r in
    λ i. record { list = s.list; subst = p' i; next = q' i; built = r' i; query = first i; stack = s.stack; world = second i; steps = third i }

call_over : {ks : List Bool} {all : List Member} (s : State) (l : List Member) (a : Tree) (m : ℕ) (ms : List Member) (xs ys : List Alternative) (n : ℕ)
    (key : Key) (cs ds : List Clause)
    → ThinList ks (Goal (Run a) m ∷ ms) all → ThinStack ks xs ys → s.steps ≡ suc n → key_of (apply s.subst a) ≡ Some key → built_in key ≡ None
    → clauses_at s.world.database.procedures key ≡ Some cs → Skips (apply s.subst a) ds cs
    → (u : State) × Quiet (over s all ys) u × Thin (record (tried (apply s.subst a) ds ms (over s l xs)) { steps = n }) u
unfolding step
call_over s l a m ms xs ys n key cs ds (thin_goal {n = mark} {ns = ns} h e f list) stack left named none found skips =
    let v = apply s.subst a in
    let z : State = over s (Goal (Run a) mark ∷ ns) ys in
    let value : run_value v ns z ≡ Goes (tried v cs ns z) =
    ap (λ (x : Option Key). run_goal x v ns z) named ∙
    (ap (λ (x : Option BuiltIn). selected x key v ns z) none ∙ ap (λ (x : Option (List Clause)). Goes (called x key v ns z)) found) in
    let is : step z ≡ Goes (record (tried v cs ns z) { steps = n }) =
    ap (λ (i : ℕ). paid i z (run_value v ns z)) left ∙ ap (λ (x : Outcome). charged n x) value in
    let on = tried_follows (record s { steps = n }) l (Goal (Run a) mark ∷ ns) ms ns xs ys skips (list_above h list) stack in (
      on.0,
      quiet_trans (quiet_one (is ∙ ap Goes (tried_steps v cs ns z n))) on.1,
      subst (λ (x : State). Thin x on.0) (sym (tried_steps v ds ms (over s l xs) n)) on.2,
    )

pub no_failing_goal : {b : Body} {m : ℕ} {ms ns xs : List Member} → xs ≡ Fail ∷ ns → xs ≡ Goal b m ∷ ms → ⊥
no_failing_goal is are = cc

-- A thin state calls a user procedure, and passes over clauses that miss the call: also those that are left become an
-- alternative only where there are any.
pub call_follows : (t s : State) (a : Tree) (m : ℕ) (ms : List Member) (n : ℕ) (key : Key) (cs ds : List Clause) → Thin t s → t.list ≡ Goal (Run a) m ∷ ms
    → t.steps ≡ suc n → key_of (apply t.subst a) ≡ Some key → built_in key ≡ None → clauses_at t.world.database.procedures key ≡ Some cs
    → Skips (apply t.subst a) ds cs → (u : State) × Quiet s u × Thin (record (tried (apply t.subst a) ds ms t) { steps = n }) u
call_follows t s a m ms n key cs ds (going at p q r list) first left named none found skips =
    let known = subst (λ (xs : List Member). ThinList at.keeps xs s.list) first list in
    subst (λ (z : State). (u : State) × Quiet z u × Thin (record (tried (apply t.subst a) ds ms t) { steps = n }) u) (sym (seen_is t s at p q r))
    (call_over t t.list a m ms t.stack s.stack n key cs ds known at.stack left named none found skips)
call_follows t s a m ms n key cs ds (failing xs ys is are less at) first left named none found skips = absurd (no_failing_goal is first)

left_clauses : {l r : Left} {call : Tree} {ds : List Clause} → ThinLeft l r → l ≡ Clauses call ds
    → (cs : List Clause) × (r ≡ Clauses call cs) × Skips call ds cs
left_clauses {ds = ds} same_left e = (ds, e, skips_none ds)
left_clauses {call = call} {ds = ds} (fewer_clauses {call = c} {ds = es} {cs = cs} skips) e =
    let first : c ≡ call = cc in
    let second : es ≡ ds = cc in
    (cs, ap (λ (x : Tree). Clauses x cs) first, subst (λ (x : Tree). Skips x ds cs) first (subst (λ (xs : List Clause). Skips c xs cs) second skips))
left_clauses (fewer_rows skips) e = absurd (cc)

-- the state behind failure, at which this alternative is tried
abbrev pub went_back : Alternative → List Alternative → State → State
went_back a below s = record s { list = a.list; subst = a.subst; next = a.next; built = a.built; stack = below }

back_over : {ks : List Bool} {below ys : List Alternative} {a : Alternative} (t s : State) (ns : List Member) (call : Tree) (ds es : List Clause) → Apart t s
    → ThinStack ks (a ∷ below) ys → a.left ≡ Clauses call ds → Skips call es ds
    → (u : State) × Quiet (record s { list = Fail ∷ ns; stack = ys }) u × Thin (tried call es a.list (went_back a below t)) u
back_over t s ns call ds es h (kept {a = a} {b = b} {xs = xs} {ys = ys} p q r list left others) is skips =
    let first = h.query in
    let second = h.world in
    let third = h.steps in
    let base : State = record s { subst = b.subst; next = b.next; built = b.built } in
    let same : went_back a xs t ≡ over base a.list xs =
    λ i. record { list = a.list; subst = p i; next = q i; built = r i; query = first i; stack = xs; world = second i; steps = third i } in
    let both = left_clauses left is in
    let z : State = record s { list = Fail ∷ ns; stack = b ∷ ys } in
    let on = tried_follows base a.list b.list a.list b.list xs ys (skips_on skips both.2) list others in
    let back : step z ≡ Goes (tried call both.0 b.list (over base b.list ys)) =
    back_step s b ys ns ∙ ap (λ (l : Left). retried l (over base b.list ys)) both.1 in
    (on.0, quiet_trans (quiet_one back) on.1, subst (λ (x : State). Thin (tried call es a.list x) on.0) (sym same) on.2)
back_over t s ns call ds es h (left_out {b = b} {ys = ys} dead others) is skips =
    let y : State = record s { list = Fail ∷ ns; stack = b ∷ ys } in
    let z : State = record s { list = b.list; subst = b.subst; next = b.next; built = b.built; stack = ys } in
    let on = dead_missed b.left y z (back_step s b ys ns) dead in
    let more = back_over t (record z { next = on.0; built = on.1 }) [] call ds es
    (record { query = h.query; world = h.world; steps = h.steps }) others is skips in
    (more.0, quiet_trans on.2 more.1, more.2)

fails_too : {ks : List Bool} {ms ns : List Member} → ThinList ks (Fail ∷ ms) ns → (os : List Member) × (ns ≡ Fail ∷ os)
fails_too (thin_failure {ns = ns} h list) = (ns, refl)

other_fails : (t s : State) (ms : List Member) → Thin t s → t.list ≡ Fail ∷ ms → (os : List Member) × (s.list ≡ Fail ∷ os)
other_fails t s ms (going at p q r list) first = fails_too (subst (λ (xs : List Member). ThinList at.keeps xs s.list) first list)
other_fails t s ms (failing xs ys is are less at) first = (ys, are)

-- so where it goes back to clauses that are left
pub back_passes : (t s : State) (ms : List Member) (a : Alternative) (below : List Alternative) (call : Tree) (ds es : List Clause) → Thin t s
    → t.list ≡ Fail ∷ ms → t.stack ≡ a ∷ below → a.left ≡ Clauses call ds → Skips call es ds
    → (u : State) × Quiet s u × Thin (tried call es a.list (went_back a below t)) u
back_passes t s ms a below call ds es h first stack is skips =
    let at = thin_around h in
    let fails = other_fails t s ms h first in
    let here : record s { list = Fail ∷ fails.0 } ≡ s = ap (λ (xs : List Member). record s { list = xs }) (sym fails.1) in
    subst (λ (z : State). (u : State) × Quiet z u × Thin (tried call es a.list (went_back a below t)) u) here
    (back_over t s fails.0 call ds es (apart_of at) (subst (λ (xs : List Alternative). ThinStack at.keeps xs s.stack) stack at.stack) is skips)

-- ---- rows

offers_over : {ks : List Bool} {all : List Member} (s : State) (l : List Member) (a : Tree) (m : ℕ) (ms : List Member) (xs ys : List Alternative) (n : ℕ)
    (key : Key) (b : BuiltIn) (settles : ℕ → World → Settled) (left : Tree) (os ps : List Offer)
    → ThinList ks (Goal (Run a) m ∷ ms) all → ThinStack ks xs ys → s.steps ≡ suc n → key_of (apply s.subst a) ≡ Some key → built_in key ≡ Some b
    → reply b (apply s.subst a) ≡ AsksWorld settles → settles s.next s.world ≡ Offers left os → SkipsRows left ps os
    → (u : State) × Quiet (over s all ys) u × Thin (record (offered left ps ms (over s l xs)) { steps = n }) u
unfolding step
offers_over s l a m ms xs ys n key b settles left os ps (thin_goal {n = mark} {ns = ns} h e f list) stack more named found is offers skips =
    let v = apply s.subst a in
    let z : State = over s (Goal (Run a) mark ∷ ns) ys in
    let value : run_value v ns z ≡ Goes (offered left os ns z) =
    ap (λ (x : Option Key). run_goal x v ns z) named ∙
    (ap (λ (x : Option BuiltIn). selected x key v ns z) found ∙ (ap (λ (x : Reply). replied x ns z) is ∙ ap (λ (x : Settled). Goes (settled x ns z)) offers)) in
    let goes : step z ≡ Goes (record (offered left os ns z) { steps = n }) =
    ap (λ (i : ℕ). paid i z (run_value v ns z)) more ∙ ap (λ (x : Outcome). charged n x) value in
    let on = offered_follows (record s { steps = n }) l (Goal (Run a) mark ∷ ns) ms ns xs ys skips (list_above h list) stack in (
      on.0,
      quiet_trans (quiet_one (goes ∙ ap Goes (offered_steps left os ns z n))) on.1,
      subst (λ (x : State). Thin x on.0) (sym (offered_steps left ps ms (over s l xs) n)) on.2,
    )

-- A thin state's goal offers rows, and it passes over those that miss.
pub offers_follow : (t s : State) (a : Tree) (m : ℕ) (ms : List Member) (n : ℕ) (key : Key) (b : BuiltIn) (settles : ℕ → World → Settled) (left : Tree)
    (os ps : List Offer)
    → Thin t s → t.list ≡ Goal (Run a) m ∷ ms → t.steps ≡ suc n → key_of (apply t.subst a) ≡ Some key → built_in key ≡ Some b
    → reply b (apply t.subst a) ≡ AsksWorld settles → settles t.next t.world ≡ Offers left os → SkipsRows left ps os
    → (u : State) × Quiet s u × Thin (record (offered left ps ms t) { steps = n }) u
offers_follow t s a m ms n key b settles left os ps (going at p q r list) first more named found is offers skips =
    let known = subst (λ (xs : List Member). ThinList at.keeps xs s.list) first list in
    subst (λ (z : State). (u : State) × Quiet z u × Thin (record (offered left ps ms t) { steps = n }) u) (sym (seen_is t s at p q r))
    (offers_over t t.list a m ms t.stack s.stack n key b settles left os ps known at.stack more named found is offers skips)
offers_follow t s a m ms n key b settles left os ps (failing xs ys is are less at) first more named found replies offers skips = absurd (no_failing_goal is first)

left_rows : {l r : Left} {left : Tree} {ps : List Offer} → ThinLeft l r → l ≡ Offered left ps → (os : List Offer) × (r ≡ Offered left os) × SkipsRows left ps os
left_rows {ps = ps} same_left e = (ps, e, rows_none ps)
left_rows {left = left} {ps = ps} (fewer_rows {left = t} {ps = qs} {os = os} skips) e =
    let first : t ≡ left = cc in
    let second : qs ≡ ps = cc in
    (os, ap (λ (x : Tree). Offered x os) first, subst (λ (x : Tree). SkipsRows x ps os) first (subst (λ (xs : List Offer). SkipsRows t xs os) second skips))
left_rows (fewer_clauses skips) e = absurd (cc)

back_rows_over : {ks : List Bool} {below ys : List Alternative} {a : Alternative} (t s : State) (ns : List Member) (left : Tree) (ps qs : List Offer)
    → Apart t s → ThinStack ks (a ∷ below) ys → a.left ≡ Offered left ps → SkipsRows left qs ps
    → (u : State) × Quiet (record s { list = Fail ∷ ns; stack = ys }) u × Thin (offered left qs a.list (went_back a below t)) u
back_rows_over t s ns left ps qs h (kept {a = a} {b = b} {xs = xs} {ys = ys} p q r list both others) is skips =
    let first = h.query in
    let second = h.world in
    let third = h.steps in
    let base : State = record s { subst = b.subst; next = b.next; built = b.built } in
    let same : went_back a xs t ≡ over base a.list xs =
    λ i. record { list = a.list; subst = p i; next = q i; built = r i; query = first i; stack = xs; world = second i; steps = third i } in
    let other = left_rows both is in
    let z : State = record s { list = Fail ∷ ns; stack = b ∷ ys } in
    let on = offered_follows base a.list b.list a.list b.list xs ys (rows_on skips other.2) list others in
    let back : step z ≡ Goes (offered left other.0 b.list (over base b.list ys)) =
    back_step s b ys ns ∙ ap (λ (l : Left). retried l (over base b.list ys)) other.1 in
    (on.0, quiet_trans (quiet_one back) on.1, subst (λ (x : State). Thin (offered left qs a.list x) on.0) (sym same) on.2)
back_rows_over t s ns left ps qs h (left_out {b = b} {ys = ys} dead others) is skips =
    let y : State = record s { list = Fail ∷ ns; stack = b ∷ ys } in
    let z : State = record s { list = b.list; subst = b.subst; next = b.next; built = b.built; stack = ys } in
    let on = dead_missed b.left y z (back_step s b ys ns) dead in
    let more = back_rows_over t (record z { next = on.0; built = on.1 }) [] left ps qs
    (record { query = h.query; world = h.world; steps = h.steps }) others is skips in
    (more.0, quiet_trans on.2 more.1, more.2)

-- it goes back to rows that are left
pub back_rows : (t s : State) (ms : List Member) (a : Alternative) (below : List Alternative) (left : Tree) (ps qs : List Offer) → Thin t s → t.list ≡ Fail ∷ ms
    → t.stack ≡ a ∷ below → a.left ≡ Offered left ps → SkipsRows left qs ps → (u : State) × Quiet s u × Thin (offered left qs a.list (went_back a below t)) u
back_rows t s ms a below left ps qs h first stack is skips =
    let at = thin_around h in
    let fails = other_fails t s ms h first in
    let here : record s { list = Fail ∷ fails.0 } ≡ s = ap (λ (xs : List Member). record s { list = xs }) (sym fails.1) in
    subst (λ (z : State). (u : State) × Quiet z u × Thin (offered left qs a.list (went_back a below t)) u) here
    (back_rows_over t s fails.0 left ps qs (apart_of at) (subst (λ (xs : List Alternative). ThinStack at.keeps xs s.stack) stack at.stack) is skips)
