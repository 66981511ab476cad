-- The code of a body, emitted from its end on.
use Rattle.std.proofs.Common.{◌≡◌, ℕ, zero, suc, ◌+◌, ◌-◌, ◌*◌, ◌<◌, ◌≤◌, List, [], ◌∷◌, ◌++◌, length, Option, Some, None, refl, sym, ap, ◌∙◌, subst, arith, length-append}
use Rattle.std.proofs.lemmas.List.{append_assoc}
use Rattle.std.specs.List.{slice_get}
use Rattle.std.specs.Borrow.{Bor}
use Rattle.iso_model.specs.declared.terms.Term.{Term}
use Rattle.iso_model.specs.Terms.Trees.{Tree}
use Rattle.iso_model.specs.Search.Bodies.{Body, Run}
use Rattle.iso_model.specs.Search.Bodies as bodies
use Rattle.iso_prep.specs.declared.bodies.Node.{Node}
use Rattle.iso_prep.specs.declared.bodies.Node.TheVariants as node
use Rattle.iso_prep.specs.Trees.{At, IsTree, EndsWith, IsBorrowed, borrowed}
use Rattle.iso_prep.proofs.TreeLemmas.{at_more, at_last, at_within}
use Rattle.iso_prep.proofs.PartLemmas.{part_is}
use Rattle.iso_alloc.specs.Plans.{Layout}
use Rattle.iso_compile.specs.declared.control.Mark.{Mark}
use Rattle.iso_compile.specs.declared.control.Mark.TheVariants.{Clause, Level, AboveLevel}
use Rattle.iso_compile.specs.declared.control.Instruction.{Instruction}
use Rattle.iso_compile.specs.declared.control.Instruction.TheVariants.{Call, Execute, Proceed, Cut, GetLevel, TryElse, Jump}
use Rattle.iso_compile.specs.declared.goals.Call as called
use Rattle.iso_compile.specs.declared.bodies.Next.{Next}
use Rattle.iso_compile.specs.declared.bodies.Task.{Task}
use Rattle.iso_compile.specs.declared.bodies.Task.TheVariants.{And, Or, Try, Condition, Commit, Then, Choose}
use Rattle.iso_compile.specs.Control.{Member, Goal, CutTo, IsRight, AreRight, IsOlder, AreOlder, IsCall, Continues, proceeds, executes, calls, answers, cuts, cuts_back, joins, tries, commits, chooses, jumps, Does}
use Rattle.iso_compile.specs.Evaluations.{ComesTo}
use Rattle.iso_compile.specs.BodyTasks.{IsFree, Becomes, Turns, Leads, Works, Grown, Adds, Ends, load, task_load, tasks_load, next_load}

-- ---- more code comes behind

module _ {plan : Layout} {code : List Instruction} (more : List Instruction) where
  pub continues_more : {a : ℕ} {ms : List Member} → Continues plan code a ms → Continues plan (code ++ more) a ms
  continues_more (proceeds {a = a} at) = proceeds (at_more code more a Proceed at)
  continues_more (executes {a = a} {c = c} at is) = executes (at_more code more a (Execute c) at) is
  continues_more (calls {a = a} {c = c} at is rest) = calls (at_more code more (suc a) (Call c) at) is (continues_more rest)
  continues_more (answers {a = a} {i = i} at is rest) = answers (at_more code more (suc a) i at) is (continues_more rest)
  continues_more (cuts {a = a} {m = m} at rest) = cuts (at_more code more (suc a) (Cut m) at) (continues_more rest)
  continues_more (cuts_back {a = a} {m = m} at rest) = cuts_back (at_more code more (suc a) (Cut m) at) (continues_more rest)
  continues_more (joins inner) = joins (continues_more inner)
  continues_more (tries {a = a} {l = l} at low here there) = tries (at_more code more (suc a) (TryElse l) at) low (continues_more here) (continues_more there)
  continues_more (commits {a = a} {k = k} at above older here) = commits (at_more code more (suc a) (GetLevel k) at) above older (continues_more here)
  continues_more (chooses {a = a} {k = k} {l = l} at next low above older here there) =
      chooses (at_more code more (suc (suc a)) (GetLevel k) at) (at_more code more (suc a) (TryElse l) next) low above older (continues_more here) (continues_more there)
  continues_more (jumps {a = a} {l = l} at low there) = jumps (at_more code more a (Jump l) at) low (continues_more there)

pub continues_grown : {plan : Layout} {old new : List Instruction} → Grown old new → {a : ℕ} {ms : List Member} → Continues plan old a ms → Continues plan new a ms
continues_grown {plan} grown {a} {ms} h = subst (λ code. Continues plan code a ms) (sym grown.is) (continues_more grown.more h)

pub ends_grown : {old new : List Instruction} → Grown old new → Ends old → Ends new
ends_grown {old} grown h = subst (λ code. At code 0 Proceed) (sym grown.is) (at_more old grown.more 0 Proceed h)

pub grown_one : {old new : List Instruction} (i : Instruction) → new ≡ old ++ i ∷ [] → Grown old new
grown_one i is = record { more = i ∷ []; is = is }

pub grown_two : {old mid new : List Instruction} (i j : Instruction) → mid ≡ old ++ i ∷ [] → new ≡ mid ++ j ∷ [] → Grown old new
grown_two {old} i j before is = record { more = i ∷ j ∷ []; is = is ∙ ap (λ xs. xs ++ j ∷ []) before ∙ append_assoc old (i ∷ []) (j ∷ []) }

module _ (plan : Layout) (parts : List (Node (Bor Term))) {old new : List Instruction} (grown : Grown old new) where
  turns_grown : (t : Task) (ms ns : List Member) → Turns plan parts old t ms ns → Turns plan parts new t ms ns
  turns_grown (And p m level) ms ns h = h
  turns_grown (Or n) ms ns h = (h.0, h.1, h.2, h.3, h.4, continues_grown grown h.5, h.6, h.7)
  turns_grown (Try l) ms ns h = (h.0, h.1, h.2, h.3, continues_grown grown h.4, h.5, h.6)
  turns_grown (Condition p m k) ms ns h = h
  turns_grown (Commit k) ms ns h = h
  turns_grown (Then p n) ms ns h = (h.0, h.1, h.2, h.3, h.4, h.5, h.6, continues_grown grown h.7, h.8, h.9)
  turns_grown (Choose l k) ms ns h = (h.0, h.1, h.2, h.3, h.4, h.5, continues_grown grown h.6, h.7, h.8)

  pub leads_grown : (ts : List Task) (ms whole : List Member) → Leads plan parts old ts ms whole → Leads plan parts new ts ms whole
  leads_grown [] ms whole h = h
  leads_grown (t ∷ ts) ms whole h = (h.0, leads_grown ts ms h.0 h.1, turns_grown t h.0 whole h.2)

-- ---- tasks

module _ (plan : Layout) (parts : List (Node (Bor Term))) (code : List Instruction) where
  pub leads_push : (ts : List Task) (t : Task) (ms ns whole : List Member) → Turns plan parts code t ms ns → Leads plan parts code ts ns whole → Leads plan parts code (ts ++ t ∷ []) ms whole
  leads_push [] t ms ns whole turns leads = (ms, refl, subst (Turns plan parts code t ms) leads turns)
  leads_push (u ∷ ts) t ms ns whole turns leads = (leads.0, leads_push ts t ms ns leads.0 turns leads.1, leads.2)

  pub leads_popped : (ts : List Task) (t : Task) (ms whole : List Member) → Leads plan parts code (ts ++ t ∷ []) ms whole → (ns : List Member) × Turns plan parts code t ms ns × Leads plan parts code ts ns whole
  leads_popped [] t ms whole h = (whole, subst (λ ns. Turns plan parts code t ns whole) (sym h.1) h.2, refl)
  leads_popped (u ∷ ts) t ms whole h = let inner = leads_popped ts t ms h.0 h.1 in (inner.0, inner.1, (h.0, inner.2, h.2))

tasks_load-push : (ts : List Task) (t : Task) → tasks_load (ts ++ t ∷ []) ≡ task_load t + tasks_load ts
tasks_load-push [] t = refl
tasks_load-push (u ∷ ts) t = omega (arith, tasks_load-push ts t)

pub tasks_load-more : (ts us : List Task) (t : Task) → us ≡ ts ++ t ∷ [] → tasks_load us ≡ task_load t + tasks_load ts
tasks_load-more ts us t more = ap tasks_load more ∙ tasks_load-push ts t

pub load_some : (k : ℕ) → 8 ≤ load k
load_some zero = omega arith
load_some (suc k) = let inner = load_some k in omega (arith, inner)

pub load_up : (i k : ℕ) → i ≤ k → load i ≤ load k
load_up i zero low = let none : i ≡ zero = omega (arith, low) in subst (λ j. load j ≤ load zero) (sym none) (omega arith)
load_up zero (suc k) low = let inner = load_some k in omega (arith, inner)
load_up (suc i) (suc k) low = let inner = load_up i k (omega (arith, low)) in omega (arith, inner)

-- a part that ends before another has an eighth of its load
pub load_before : (k d : ℕ) → 0 < d → 0 < k → 8 * load (k - d) ≤ load k
load_before zero d some low = absurd (omega (arith, low))
load_before (suc k) d some low = let inner = load_up (suc k - d) k (omega (arith, some)) in omega (arith, inner)

-- ---- an instruction is added

pub continues_within : {plan : Layout} {code : List Instruction} {a : ℕ} {ms : List Member} → Continues plan code a ms → a < length code
continues_within {plan} {code} (proceeds {a = a} at) = at_within code a Proceed at
continues_within {plan} {code} (executes {a = a} {c = c} at is) = at_within code a (Execute c) at
continues_within {plan} {code} (calls {a = a} {c = c} at is rest) = at_within code (suc a) (Call c) at
continues_within {plan} {code} (answers {a = a} {i = i} at is rest) = at_within code (suc a) i at
continues_within {plan} {code} (cuts {a = a} {m = m} at rest) = at_within code (suc a) (Cut m) at
continues_within {plan} {code} (cuts_back {a = a} {m = m} at rest) = at_within code (suc a) (Cut m) at
continues_within (joins inner) = continues_within inner
continues_within {plan} {code} (tries {a = a} {l = l} at low here there) = at_within code (suc a) (TryElse l) at
continues_within {plan} {code} (commits {a = a} {k = k} at above older here) = at_within code (suc a) (GetLevel k) at
continues_within {plan} {code} (chooses {a = a} {k = k} at next low above older here there) = at_within code (suc (suc a)) (GetLevel k) at
continues_within {plan} {code} (jumps {a = a} {l = l} at low there) = at_within code a (Jump l) at

-- where code ends, nothing is left
pub ends_nothing : {plan : Layout} {code : List Instruction} {a : ℕ} {ms : List Member} → Ends code → a ≡ 0 → Continues plan code a ms → ms ≡ []
ends_nothing ends is (proceeds at) = refl
ends_nothing {plan} {code} ends is (executes {a = a} {c = c} at call) = absurd (cc (sym ends.is ∙ ap (slice_get code) (sym is) ∙ at.is))
ends_nothing ends is (calls at call rest) = absurd (omega (arith, is))
ends_nothing ends is (answers at comes rest) = absurd (omega (arith, is))
ends_nothing ends is (cuts at rest) = absurd (omega (arith, is))
ends_nothing ends is (cuts_back at rest) = absurd (omega (arith, is))
ends_nothing ends is (joins inner) = absurd (cc (ends_nothing ends is inner))
ends_nothing ends is (tries at low here there) = absurd (omega (arith, is))
ends_nothing ends is (commits at above older here) = absurd (omega (arith, is))
ends_nothing ends is (chooses at next low above older here there) = absurd (omega (arith, is))
ends_nothing {plan} {code} ends is (jumps {a = a} {l = l} at low there) = absurd (cc (sym ends.is ∙ ap (slice_get code) (sym is) ∙ at.is))

one_longer : {X : Type 0} (xs ys : List X) (x : X) → ys ≡ xs ++ x ∷ [] → length ys ≡ suc (length xs)
one_longer xs ys x is = ap length is ∙ (let more = length-append xs (x ∷ []) in omega (arith, more))

at_end : {X : Type 0} (xs ys : List X) (x : X) → ys ≡ xs ++ x ∷ [] → At ys (length xs) x
at_end xs ys x is = subst (λ zs. At zs (length xs) x) (sym is) (at_last xs x)

-- it goes on at the last instruction
pub adds_here : {plan : Layout} {old new : List Instruction} (i : Instruction) (behind : ℕ) → behind < length old → length old - 1 ≡ behind → new ≡ old ++ i ∷ [] → Adds plan old new i behind
adds_here {plan} {old} {new} i behind within top is =
    let place : length old ≡ suc behind = omega (arith, within, top) in
    record {
      top = behind;
      long = one_longer old new i is ∙ ap suc place;
      at = subst (λ a. At new a i) place (at_end old new i is);
      goes = λ ms h. continues_grown (grown_one i is) h;
    }

-- it jumps
pub adds_jump : {plan : Layout} {old mid new : List Instruction} (i : Instruction) (behind : ℕ) → mid ≡ old ++ Jump behind ∷ [] → new ≡ mid ++ i ∷ [] → Adds plan old new i behind
adds_jump {plan} {old} {mid} {new} i behind before is =
    let one = one_longer old mid (Jump behind) before in
    record {
      top = length old;
      long = one_longer mid new i is ∙ ap suc one;
      at = subst (λ a. At new a i) one (at_end mid new i is);
      goes = λ ms h. continues_grown (grown_one i is) (jumps (at_end old mid (Jump behind) before) (continues_within h) (continues_grown (grown_one (Jump behind) before) h));
    }

does_at : {plan : Layout} {code : List Instruction} {ms : List Member} (a : ℕ) → length code ≡ suc a → Continues plan code a ms → Does plan code ms
does_at {plan} {code} {ms} a long h =
    let place : a ≡ length code - 1 = omega (arith, long) in
    record { some = omega (arith, long); goes = subst (λ b. Continues plan code b ms) place h }

pub does_call : {plan : Layout} {old new : List Instruction} (c : called.Call) (behind : ℕ) (t : Tree) (m : Mark) (rest : List Member) → Adds plan old new (Call c) behind → IsCall plan.registers c t → Continues plan old behind rest → Does plan new (Goal (Run t) m ∷ rest)
does_call c behind t m rest adds is h = does_at (suc adds.top) adds.long (calls adds.at is (adds.goes rest h))

pub does_answer : {plan : Layout} {old new : List Instruction} (i : Instruction) (behind : ℕ) (t : Tree) (m : Mark) (rest : List Member) → Adds plan old new i behind → ComesTo i t → Continues plan old behind rest → Does plan new (Goal (Run t) m ∷ rest)
does_answer i behind t m rest adds comes h = does_at (suc adds.top) adds.long (answers adds.at comes (adds.goes rest h))

pub does_cut : {plan : Layout} {old new : List Instruction} (behind : ℕ) (m : Mark) (rest : List Member) → Adds plan old new (Cut m) behind → Continues plan old behind rest → Does plan new (Goal bodies.Cut m ∷ rest)
does_cut behind m rest adds h = does_at (suc adds.top) adds.long (cuts adds.at (adds.goes rest h))

pub does_execute : {plan : Layout} (old : List Instruction) {new : List Instruction} (c : called.Call) (t : Tree) (m : Mark) (rest : List Member) → new ≡ old ++ Execute c ∷ [] → IsCall plan.registers c t → rest ≡ [] → Does plan new (Goal (Run t) m ∷ rest)
does_execute {plan} old {new} c t m rest is call none =
    subst (λ ms. Does plan new (Goal (Run t) m ∷ ms)) (sym none) (does_at (length old) (one_longer old new (Execute c) is) (executes (at_end old new (Execute c) is) call))

-- an instruction behind the last one, whose place is the one before its own
before_top : {plan : Layout} {old new : List Instruction} {ms : List Member} (i : Instruction) → new ≡ old ++ i ∷ [] → Does plan old ms → At new (suc (length old - 1)) i × Continues plan new (length old - 1) ms × (length new ≡ suc (suc (length old - 1)))
before_top {plan} {old} {new} {ms} i is does =
    let place : length old ≡ suc (length old - 1) = omega (arith, does.some) in
    (subst (λ a. At new a i) place (at_end old new i is), continues_grown (grown_one i is) does.goes, one_longer old new i is ∙ ap suc place)

-- ---- a part without others in it was emitted

module _ (plan : Layout) (parts : List (Node (Bor Term))) (old new : List Instruction) (ts : List Task) (n : Next) where
  pub leaf_works : (whole : List Member) → Grown old new → (h : Works plan parts old ts (Some n) whole) → Does plan new (Goal h.0 n.mark ∷ h.1) → Works plan parts new ts None whole
  leaf_works whole grown h does = (h.2, record { some = does.some; goes = h.6 new (length new - 1) does.goes }, leads_grown plan parts grown ts h.2 whole h.7)

  pub call_works : (g : Bor Term) → slice_get parts n.part ≡ Some (node.Run g) → Grown old new → ((m : Mark) (rest : List Member) → Continues plan old n.behind rest → Does plan new (Goal (Run (borrowed g)) m ∷ rest))
      → (whole : List Member) → Works plan parts old ts (Some n) whole → Works plan parts new ts None whole
  call_works g there grown call whole h =
      let is = part_is (node.Run g) there h.3 in
      leaf_works whole grown h (subst (λ b. Does plan new (Goal b n.mark ∷ h.1)) (ap Run (sym is.2) ∙ sym is.1) (call n.mark h.1 h.5))

  pub cut_works : slice_get parts n.part ≡ Some node.Cut → Grown old new → Adds plan old new (Cut n.mark) n.behind → (whole : List Member) → Works plan parts old ts (Some n) whole → Works plan parts new ts None whole
  cut_works there grown adds whole h =
      let is = part_is node.Cut there h.3 in
      leaf_works whole grown h (subst (λ b. Does plan new (Goal b n.mark ∷ h.1)) (sym is) (does_cut n.behind n.mark h.1 adds h.5))

-- ---- the last of a part's own is emitted next

free_same : {plan : Layout} {k : ℕ} {b c : Body} {m : Mark} {ms : List Member} → IsFree plan k (Goal b m ∷ ms) → IsFree plan k (Goal c m ∷ ms)
free_same free = record { above = free.above; older = free.older }

mark_up : (k : ℕ) (m : Mark) → IsOlder k m → IsOlder (k + 1) m
mark_up k Clause h = tt
mark_up k (Level j) h = omega (arith, h)
mark_up k (AboveLevel j) h = omega (arith, h)

older_up : (k : ℕ) (ms : List Member) → AreOlder k ms → AreOlder (k + 1) ms
older_up k [] h = tt
older_up k (Goal b m ∷ ms) h = (mark_up k m h.0, older_up k ms h.1)
older_up k (CutTo m ∷ ms) h = (mark_up k m h.0, older_up k ms h.1)

free_up : {plan : Layout} {k : ℕ} {b : Body} {mark : Mark} (ms : List Member) → IsOlder (k + 1) mark → IsFree plan k ms → IsFree plan (k + 1) (Goal b mark ∷ CutTo (Level k) ∷ ms)
free_up {plan} {k} ms own free = record { above = omega (arith, free.above); older = (own, (omega arith, older_up k ms free.older)) }

module _ (plan : Layout) (parts : List (Node (Bor Term))) (code : List Instruction) (ts us : List Task) (n : Next) where
  abbrev last : Next
  last = record { part = n.part - 1; mark = n.mark; level = n.level; behind = n.behind }

  abbrev earlier : ℕ → Next
  earlier d = record { part = n.part - d; mark = n.mark; level = n.level; behind = n.behind }

  pub and_works : (d : ℕ) → slice_get parts n.part ≡ Some (node.And d) → us ≡ ts ++ And (n.part - d) n.mark n.level ∷ [] → (whole : List Member) → Works plan parts code ts (Some n) whole → Works plan parts code us (Some last) whole
  and_works d there more whole h =
      let is = part_is (node.And d) there h.3 in
      let two = is.3 in
      let becomes = subst (λ b. Becomes plan (Goal b n.mark ∷ h.1) h.2) two.is h.6 in
      let ms : List Member = Goal two.second n.mark ∷ h.1 in
      rw more (
        two.second,
        h.1,
        ms,
        two.second_body,
        free_same h.4,
        h.5,
        (λ c a x. x),
        leads_push plan parts code ts (And (n.part - d) n.mark n.level) ms h.2 whole (two.first, two.second, h.1, two.first_body, free_same h.4, refl, becomes) h.7,
      )

  pub or_works : (d : ℕ) → slice_get parts n.part ≡ Some (node.Or d) → us ≡ ts ++ Or (earlier d) ∷ [] → (whole : List Member) → Works plan parts code ts (Some n) whole → Works plan parts code us (Some last) whole
  or_works d there more whole h =
      let is = part_is (node.Or d) there h.3 in
      let two = is.3 in
      let becomes = subst (λ b. Becomes plan (Goal b n.mark ∷ h.1) h.2) two.is h.6 in
      let ms : List Member = Goal two.second n.mark ∷ h.1 in
      rw more (
        two.second,
        h.1,
        ms,
        two.second_body,
        free_same h.4,
        h.5,
        (λ c a x. x),
        leads_push plan parts code ts (Or (earlier d)) ms h.2 whole (two.first, two.second, h.1, two.first_body, free_same h.4, h.5, refl, becomes) h.7,
      )

  pub if_works : (d : ℕ) (mid : List Task) → slice_get parts n.part ≡ Some (node.If d) → mid ≡ ts ++ Commit n.level ∷ [] → us ≡ mid ++ Condition (n.part - d) (Level n.level) n.level ∷ [] → (whole : List Member)
      → Works plan parts code ts (Some n) whole → Works plan parts code us (Some last) whole
  if_works d mid there before more whole h =
      let is = part_is (node.If d) there h.3 in
      let two = is.3 in
      let becomes = subst (λ b. Becomes plan (Goal b n.mark ∷ h.1) h.2) two.is h.6 in
      let ms : List Member = Goal two.second n.mark ∷ h.1 in
      let ns : List Member = Goal two.first (Level n.level) ∷ CutTo (Level n.level) ∷ ms in
      let free = free_same h.4 in
      let one = subst (λ xs. Leads plan parts code xs ns whole) (sym before) (leads_push plan parts code ts (Commit n.level) ns h.2 whole (two.first, two.second, n.mark, h.1, free, refl, becomes) h.7) in
      rw more (
        two.second,
        h.1,
        ms,
        two.second_body,
        free,
        h.5,
        (λ c a x. x),
        leads_push plan parts code mid (Condition (n.part - d) (Level n.level) n.level) ms ns whole (two.first, ms, two.first_body, free_up ms (omega arith) free, refl, (λ c a x. x)) one,
      )

  pub choose_works : (c d : ℕ) → slice_get parts n.part ≡ Some (node.Choose c d) → us ≡ ts ++ Then (n.part - c) (earlier d) ∷ [] → (whole : List Member) → Works plan parts code ts (Some n) whole → Works plan parts code us (Some last) whole
  choose_works c d there more whole h =
      let is = part_is (node.Choose c d) there h.3 in
      let three = is.5 in
      let becomes = subst (λ b. Becomes plan (Goal b n.mark ∷ h.1) h.2) three.is h.6 in
      let ms : List Member = Goal three.third n.mark ∷ h.1 in
      rw more (
        three.third,
        h.1,
        ms,
        three.third_body,
        free_same h.4,
        h.5,
        (λ c a x. x),
        leads_push plan parts code ts (Then (n.part - c) (earlier d)) ms h.2 whole (three.first, three.second, three.third, h.1, three.first_body, three.second_body, free_same h.4, h.5, refl, becomes) h.7,
      )

  -- how much is left then
  module _ (whole : List Member) (h : Works plan parts code ts (Some n) whole) where
    pub and_load : (d : ℕ) → slice_get parts n.part ≡ Some (node.And d) → us ≡ ts ++ And (n.part - d) n.mark n.level ∷ [] → load (n.part - 1) + tasks_load us < load n.part + tasks_load ts
    and_load d there more =
        let is = part_is (node.And d) there h.3 in
        let all = tasks_load-more ts us (And (n.part - d) n.mark n.level) more in
        let one = load_before n.part d is.1 is.2 in
        let two = load_before n.part 1 (omega arith) is.2 in
        let some = load_some n.part in
        omega (arith, all, one, two, some)

    pub or_load : (d : ℕ) → slice_get parts n.part ≡ Some (node.Or d) → us ≡ ts ++ Or (earlier d) ∷ [] → load (n.part - 1) + tasks_load us < load n.part + tasks_load ts
    or_load d there more =
        let is = part_is (node.Or d) there h.3 in
        let all = tasks_load-more ts us (Or (earlier d)) more in
        let one = load_before n.part d is.1 is.2 in
        let two = load_before n.part 1 (omega arith) is.2 in
        let some = load_some n.part in
        omega (arith, all, one, two, some)

    pub if_load : (d : ℕ) (mid : List Task) → slice_get parts n.part ≡ Some (node.If d) → mid ≡ ts ++ Commit n.level ∷ [] → us ≡ mid ++ Condition (n.part - d) (Level n.level) n.level ∷ [] → load (n.part - 1) + tasks_load us < load n.part + tasks_load ts
    if_load d mid there before more =
        let is = part_is (node.If d) there h.3 in
        let few = tasks_load-more ts mid (Commit n.level) before in
        let all = tasks_load-more mid us (Condition (n.part - d) (Level n.level) n.level) more in
        let one = load_before n.part d is.1 is.2 in
        let two = load_before n.part 1 (omega arith) is.2 in
        let some = load_some n.part in
        omega (arith, few, all, one, two, some)

    pub choose_load : (c d : ℕ) → slice_get parts n.part ≡ Some (node.Choose c d) → us ≡ ts ++ Then (n.part - c) (earlier d) ∷ [] → load (n.part - 1) + tasks_load us < load n.part + tasks_load ts
    choose_load c d there more =
        let is = part_is (node.Choose c d) there h.3 in
        let all = tasks_load-more ts us (Then (n.part - c) (earlier d)) more in
        let one = load_before n.part c is.2 is.4 in
        let two = load_before n.part d is.3 is.4 in
        let three = load_before n.part 1 (omega arith) is.4 in
        let some = load_some n.part in
        omega (arith, all, one, two, three, some)

-- ---- what is left before a part

module _ (plan : Layout) (parts : List (Node (Bor Term))) (old new : List Instruction) (ts us : List Task) (ms ns whole : List Member) (does : Does plan old ms) where
  pub after_and : (p : ℕ) (m : Mark) (level : ℕ) → Turns plan parts old (And p m level) ms ns → Leads plan parts old ts ns whole
      → Works plan parts old ts (Some (record { part = p; mark = m; level = level; behind = length old - 1 })) whole
  after_and p m level h leads =
      (h.0, Goal h.1 m ∷ h.2, ns, h.3, record { above = h.4.above; older = (h.4.older.0, h.4.older) }, subst (Continues plan old (length old - 1)) h.5 does.goes, (λ c a x. h.6 c a (joins x)), leads)

  pub after_or : (n : Next) → Turns plan parts old (Or n) ms ns → us ≡ ts ++ Try (length old - 1) ∷ [] → Leads plan parts old ts ns whole → Works plan parts old us (Some n) whole
  after_or n h more leads =
      let here : List Member = Goal h.0 n.mark ∷ h.2 in
      rw more (
        h.0,
        h.2,
        here,
        h.3,
        free_same h.4,
        h.5,
        (λ c a x. x),
        leads_push plan parts old ts (Try (length old - 1)) here ns whole (h.0, h.1, n.mark, h.2, subst (Continues plan old (length old - 1)) h.6 does.goes, refl, h.7) leads,
      )

  pub after_try : (l : ℕ) → Turns plan parts old (Try l) ms ns → new ≡ old ++ TryElse l ∷ [] → Leads plan parts old ts ns whole → Works plan parts new ts None whole
  after_try l h is leads =
      let grown = grown_one (TryElse l) is in
      let top = before_top (TryElse l) is (subst (Does plan old) h.5 does) in
      let all = does_at (suc (length old - 1)) top.2 (tries top.0 (let within = continues_within h.4 in omega (arith, within)) top.1 (continues_grown grown h.4)) in
      (ns, record { some = all.some; goes = h.6 new (length new - 1) all.goes }, leads_grown plan parts grown ts ns whole leads)

  pub after_condition : (p : ℕ) (m : Mark) (k level : ℕ) → level ≡ k + 1 → Turns plan parts old (Condition p m k) ms ns → new ≡ old ++ Cut (Level k) ∷ [] → Leads plan parts old ts ns whole
      → Works plan parts new ts (Some (record { part = p; mark = m; level = level; behind = length new - 1 })) whole
  after_condition p m k level next h is leads =
      let grown = grown_one (Cut (Level k)) is in
      let top = before_top (Cut (Level k)) is (subst (Does plan old) h.4 does) in
      let all = does_at (suc (length old - 1)) top.2 (cuts_back top.0 top.1) in
      (h.0, CutTo (Level k) ∷ h.1, ns, h.2, subst (λ j. IsFree plan j (Goal h.0 m ∷ CutTo (Level k) ∷ h.1)) (sym next) h.3, all.goes, h.5, leads_grown plan parts grown ts ns whole leads)

  pub after_commit : (k : ℕ) → Turns plan parts old (Commit k) ms ns → new ≡ old ++ GetLevel k ∷ [] → Leads plan parts old ts ns whole → Works plan parts new ts None whole
  after_commit k h is leads =
      let grown = grown_one (GetLevel k) is in
      let top = before_top (GetLevel k) is (subst (Does plan old) h.5 does) in
      let all = does_at (suc (length old - 1)) top.2 (commits top.0 h.4.above h.4.older top.1) in
      (ns, record { some = all.some; goes = h.6 new (length new - 1) all.goes }, leads_grown plan parts grown ts ns whole leads)

  pub after_then : (p : ℕ) (n : Next) (mid : List Task) → Turns plan parts old (Then p n) ms ns → mid ≡ ts ++ Choose (length old - 1) n.level ∷ [] → us ≡ mid ++ Condition p (AboveLevel n.level) n.level ∷ []
      → Leads plan parts old ts ns whole → Works plan parts old us (Some n) whole
  after_then p n mid h before more leads =
      let here : List Member = Goal h.1 n.mark ∷ h.3 in
      let all : List Member = Goal h.0 (AboveLevel n.level) ∷ CutTo (Level n.level) ∷ here in
      let free = free_same h.6 in
      let one = subst (λ xs. Leads plan parts old xs all whole) (sym before)
      (leads_push plan parts old ts (Choose (length old - 1) n.level) all ns whole (h.0, h.1, h.2, n.mark, h.3, free, subst (Continues plan old (length old - 1)) h.8 does.goes, refl, h.9) leads) in
      rw more (
        h.1,
        h.3,
        here,
        h.5,
        free,
        h.7,
        (λ c a x. x),
        leads_push plan parts old mid (Condition p (AboveLevel n.level) n.level) here all whole (h.0, here, h.4, free_up here (omega arith) free, refl, (λ c a x. x)) one,
      )

  pub after_choose : (l k : ℕ) (mid : List Instruction) → Turns plan parts old (Choose l k) ms ns → mid ≡ old ++ TryElse l ∷ [] → new ≡ mid ++ GetLevel k ∷ [] → Leads plan parts old ts ns whole → Works plan parts new ts None whole
  after_choose l k mid h before is leads =
      let grown = grown_two (TryElse l) (GetLevel k) before is in
      let there = grown_one (GetLevel k) is in
      let top = before_top (TryElse l) before (subst (Does plan old) h.7 does) in
      let at = subst (λ a. At new a (GetLevel k)) top.2 (at_end mid new (GetLevel k) is) in
      let next = subst (λ xs. At xs (suc (length old - 1)) (TryElse l)) (sym is) (at_more mid (GetLevel k ∷ []) (suc (length old - 1)) (TryElse l) top.0) in
      let all = does_at (suc (suc (length old - 1))) (one_longer mid new (GetLevel k) is ∙ ap suc top.2) (chooses at next (let within = continues_within h.6 in omega (arith, within)) h.5.above h.5.older (continues_grown there top.1) (continues_grown grown h.6)) in
      (ns, record { some = all.some; goes = h.8 new (length new - 1) all.goes }, leads_grown plan parts grown ts ns whole leads)

-- ---- the loop

pub popped_works : (plan : Layout) (parts : List (Node (Bor Term))) (code : List Instruction) (ts us : List Task) (t : Task) (next : Option Next) (whole : List Member) → next ≡ None → us ≡ ts ++ t ∷ [] → Works plan parts code us next whole
    → (ms : List Member) × (ns : List Member) × Does plan code ms × Turns plan parts code t ms ns × Leads plan parts code ts ns whole
popped_works plan parts code ts us t next whole none more works =
    let h = rw none at works in
    let popped = leads_popped plan parts code ts t h.0 whole (rw more at h.2) in
    (h.0, popped.0, h.1, popped.1, popped.2)

pub popped_load : (ts us : List Task) (t : Task) (next : Option Next) → next ≡ None → us ≡ ts ++ t ∷ [] → next_load next + tasks_load us ≡ task_load t + tasks_load ts
popped_load ts us t next none more = let all = tasks_load-more ts us t more in let nothing = ap next_load none in omega (arith, all, nothing)

pub done_works : (plan : Layout) (parts : List (Node (Bor Term))) (code : List Instruction) (ts : List Task) (next : Option Next) (whole : List Member) → next ≡ None → ts ≡ [] → Works plan parts code ts next whole → Does plan code whole
done_works plan parts code ts next whole none done works =
    let h = rw none at works in
    let leads = rw done at h.2 in
    subst (Does plan code) leads h.1

-- the code begins with its end
pub first_works : (plan : Layout) (parts : List (Node (Bor Term))) (none code : List Instruction) (ts : List Task) (part level : ℕ) → none ≡ [] → code ≡ none ++ Proceed ∷ [] → ts ≡ [] → part ≡ length parts - 1 → level ≡ plan.slots
    → Ends code × ((b : Body) → EndsWith IsBorrowed parts b → Works plan parts code ts (Some (record { part = part; mark = Clause; level = level; behind = 0 })) (Goal b Clause ∷ []))
first_works plan parts none code ts part level nothing is done place low =
    let all : code ≡ Proceed ∷ [] = is ∙ ap (λ xs. xs ++ Proceed ∷ []) nothing in
    let ends = subst (λ xs. At xs 0 Proceed) (sym all) (record { is = refl }) in (
      ends,
      λ b whole. (
        b,
        [],
        Goal b Clause ∷ [],
        subst (λ k. IsTree IsBorrowed parts k b) (sym place) whole.last,
        record { above = omega (arith, low); older = (tt, tt) },
        proceeds ends,
        (λ c a x. x),
        subst (λ xs. Leads plan parts code xs (Goal b Clause ∷ []) (Goal b Clause ∷ [])) (sym done) refl,
      ),
    )

-- ---- marks of goals

right_push : (plan : Layout) (code : List Instruction) (i : Instruction) → AreRight plan code → IsRight plan i → AreRight plan (code ++ i ∷ [])
right_push plan [] i before right = (right, tt)
right_push plan (j ∷ code) i before right = (before.0, right_push plan code i before.1 right)

pub right_more : (plan : Layout) (old : List Instruction) (i : Instruction) {new : List Instruction} → new ≡ old ++ i ∷ [] → AreRight plan old → IsRight plan i → AreRight plan new
right_more plan old i {new} is before right = subst (AreRight plan) (sym is) (right_push plan old i before right)
