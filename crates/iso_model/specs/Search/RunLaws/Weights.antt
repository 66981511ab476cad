-- A number that falls at each step that takes none of the budget: it counts the control constructs, the clauses and the
-- groups of solutions that are left. A substitution doesn't change it.
use Rattle.std.proofs.Common.{◌≡◌, ◌<◌, ◌≤◌, ◌+◌, ℕ, zero, suc, List, [], ◌∷◌, ◌++◌, map, not, Bool, true, false, Option, Some, None, ◌⊎◌, inl, inr, refl, sym, ap, ap₂, ◌∙◌, subst, arith, length, drop, ◌-◌, ◌==◌, if◌then◌else◌}
use Rattle.iso_model.specs.Terms.Trees.{Tree, Variable, row}
use Rattle.iso_model.specs.Terms.Sizes.{size}
use Rattle.iso_model.specs.Terms.Substitutions.{Subst, apply}
use Rattle.iso_model.specs.Terms.Unification.{unifier_of}
use Rattle.iso_model.specs.Terms.Copies.{copy_from, renamed}
use Rattle.iso_model.specs.Terms.Variables.{variable_count}
use Rattle.iso_model.specs.Terms.Lists.{list_of}
use Rattle.iso_model.specs.Search.Bodies.{Body, Cut, Run, And, Or, If, Choose, map_body, is_true}
use Rattle.iso_model.specs.Search.Databases.{Clause}
use Rattle.iso_model.specs.Search.Walker.{State, Member, Goal, CutTo, Fail, Leave, Raise, Meet, Gather, Left, AsIs, Again, Clauses, Catching, Gathering, Offered, Groups, Alternative, Outcome, Goes, Gives, Ends, charged, paid, before, entered, pushed, with_others, tried, retried, backtracked, caught_at, caught, thrown, met, gathered, gathered_at, step_goal, step_list, step, run_value, under, clause_size, equated, with_rights, taken, met_right, tried_right, is_there, offered, fails, with_copy, witnessed, repeated, tried_group, with_groups, grouped, collected}
use Rattle.iso_model.specs.Search.Replies.{Grouping, Collecting, AsList, InGroups}
use Rattle.iso_model.specs.Search.Groups.{is_solution, is_with, firsts, groups_of, witnesses, items, collection}
use Rattle.iso_model.specs.Search.Library.{list_made}
use Rattle.std.specs.List.{filter}
use Rattle.iso_model.specs.Search.Settlements.{Offer, Reference}

-- a body, before what weighs r
abbrev pub body_weight : Body → ℕ → ℕ
body_weight Cut r = suc r
body_weight (Run t) r = suc r
body_weight (And a b) r = suc (body_weight a (body_weight b r))
body_weight (Or a b) r = 2 + (body_weight a r + body_weight b r)
body_weight (If c t) r = suc (body_weight c (suc (body_weight t r)))
body_weight (Choose c t e) r = 2 + (body_weight c (suc (body_weight t r)) + body_weight e r)

-- Failure drops what follows it, and so does a solution that is gathered, and a thrown ball: the list that it goes on
-- with is that of a catch's alternative.
abbrev pub list_weight : List Member → ℕ
list_weight [] = 1
list_weight (CutTo height ∷ rest) = suc (list_weight rest)
list_weight (Fail ∷ rest) = 0
list_weight (Leave height ∷ rest) = suc (list_weight rest)
list_weight (Raise ball ∷ rest) = 1
list_weight (Meet ball catcher recovery ∷ rest) = 2 + list_weight rest
list_weight (Gather height template ∷ rest) = 1
list_weight (Goal b mark ∷ rest) = body_weight b (list_weight rest)

-- clauses, each before what weighs r
abbrev pub clauses_weight : List Clause → ℕ → ℕ
clauses_weight [] r = 1
clauses_weight (c ∷ cs) r = suc (body_weight c.body r) + clauses_weight cs r

-- right rows, each before what weighs r
abbrev pub rights_weight : List Offer → ℕ → ℕ
rights_weight [] r = 1
rights_weight (o ∷ os) r = suc r + rights_weight os r

-- so many groups, each before what weighs r
abbrev pub groups_weight : ℕ → ℕ → ℕ
groups_weight zero r = 1
groups_weight (suc n) r = suc r + groups_weight n r

-- What solutions are gathered for. Each solution that was gathered, or is still to come, may be a group of its own.
abbrev pub collecting_weight : ℕ → Collecting → ℕ → ℕ
collecting_weight n (AsList result) r = suc r
collecting_weight n (InGroups by) r = groups_weight n r

-- What is left at an alternative, before what weighs r, where so much is to be done first. That many solutions at most
-- come to it then.
abbrev pub left_weight : ℕ → Left → ℕ → ℕ
left_weight c AsIs r = suc r
left_weight c Again r = 1
left_weight c (Clauses call cs) r = clauses_weight cs r
left_weight c (Catching catcher recovery) r = 2 + r
left_weight c (Gathering collecting copies count) r = collecting_weight (length copies + c) collecting r
left_weight c (Offered left rights) r = rights_weight rights r
left_weight c (Groups by groups) r = groups_weight (length groups) r

-- all that is to be done: so much, and then what the alternatives weigh
abbrev pub total : ℕ → List Alternative → ℕ
total c [] = c
total c (a ∷ below) = total (c + left_weight c a.left (list_weight a.list)) below

abbrev pub weight : State → ℕ
weight s = total (list_weight s.list) s.stack

-- as many steps, and less weight
pub record Lighter (n w : ℕ) (t : State) : Type 0 where
  pub steps : t.steps ≡ n
  pub lighter : weight t < w

-- the budget got smaller, or it stayed and the weight fell
abbrev pub Smaller : ℕ → ℕ → State → Type 0
Smaller n w t = (t.steps < n) ⊎ Lighter n w t

-- each state that a step leads to is smaller
abbrev pub Progress : ℕ → ℕ → Outcome → Type 0
Progress n w (Goes t) = Smaller n w t
Progress n w (Gives e t) = Smaller n w t
Progress n w (Ends e world) = Unit {0}

body_weight-map : (u : Subst) (b : Body) (r : ℕ) → body_weight (map_body u b) r ≡ body_weight b r
body_weight-map u Cut r = refl
body_weight-map u (Run t) r = refl
body_weight-map u (And a b) r = ap suc (body_weight-map u a (body_weight (map_body u b) r) ∙ ap (body_weight a) (body_weight-map u b r))
body_weight-map u (Or a b) r = ap₂ (λ m n. 2 + (m + n)) (body_weight-map u a r) (body_weight-map u b r)
body_weight-map u (If c t) r = ap suc (body_weight-map u c (suc (body_weight (map_body u t) r)) ∙ ap (λ n. body_weight c (suc n)) (body_weight-map u t r))
body_weight-map u (Choose c t e) r =
    ap₂ (λ m n. 2 + (m + n)) (body_weight-map u c (suc (body_weight (map_body u t) r)) ∙ ap (λ n. body_weight c (suc n)) (body_weight-map u t r)) (body_weight-map u e r)

body_weight-more : (b : Body) (r : ℕ) → r ≤ body_weight b r
body_weight-more Cut r = omega arith
body_weight-more (Run t) r = omega arith
body_weight-more (And a b) r =
    let first = body_weight-more a (body_weight b r) in
    let second = body_weight-more b r in
    omega arith
body_weight-more (Or a b) r = let first = body_weight-more a r in omega arith
body_weight-more (If c t) r =
    let first = body_weight-more c (suc (body_weight t r)) in
    let second = body_weight-more t r in
    omega arith
body_weight-more (Choose c t e) r = let last = body_weight-more e r in omega arith

groups_weight-more : (m n r : ℕ) → m ≤ n → groups_weight m r ≤ groups_weight n r
groups_weight-more zero zero r less = omega arith
groups_weight-more zero (suc n) r less = omega arith
groups_weight-more (suc m) zero r less = absurd (omega (arith, less))
groups_weight-more (suc m) (suc n) r less = let others = groups_weight-more m n r (omega (arith, less)) in omega arith

collecting_more : (m n : ℕ) (c : Collecting) (r : ℕ) → m ≤ n → collecting_weight m c r ≤ collecting_weight n c r
collecting_more m n (AsList result) r less = omega arith
collecting_more m n (InGroups by) r less = groups_weight-more m n r less

left_more : (c d : ℕ) (l : Left) (r : ℕ) → c ≤ d → left_weight c l r ≤ left_weight d l r
left_more c d (Gathering collecting copies count) r less = collecting_more (length copies + c) (length copies + d) collecting r (omega (arith, less))
left_more c d AsIs r less = omega arith
left_more c d Again r less = omega arith
left_more c d (Clauses call cs) r less = omega arith
left_more c d (Catching catcher recovery) r less = omega arith
left_more c d (Offered left rights) r less = omega arith
left_more c d (Groups by groups) r less = omega arith

-- more to do first weighs more
total_more : (c d : ℕ) (stack : List Alternative) → c ≤ d → total c stack ≤ total d stack
total_more c d [] less = less
total_more c d (a ∷ below) less =
    let here = left_more c d a.left (list_weight a.list) less in
    total_more (c + left_weight c a.left (list_weight a.list)) (d + left_weight d a.left (list_weight a.list)) below (omega (arith, less))

total_less : (c d : ℕ) (stack : List Alternative) → c < d → total c stack < total d stack
total_less c d [] less = less
total_less c d (a ∷ below) less =
    let here = left_more c d a.left (list_weight a.list) (omega (arith, less)) in
    total_less (c + left_weight c a.left (list_weight a.list)) (d + left_weight d a.left (list_weight a.list)) below (omega (arith, less))

-- fewer alternatives weigh no more
dropped_weight : (n c : ℕ) (stack : List Alternative) → total c (drop n stack) ≤ total c stack
dropped_weight zero c stack = omega arith
dropped_weight (suc n) c [] = omega arith
dropped_weight (suc n) c (a ∷ below) =
    let fewer = dropped_weight n c below in
    let more = total_more c (c + left_weight c a.left (list_weight a.list)) below (omega arith) in
    omega arith

before_weight : (b : Body) (mark : ℕ) (rest : List Member) → list_weight (before b mark rest) ≤ body_weight b (list_weight rest)
before_weight b mark rest =
    elim (is_true b) as (λ fact. list_weight (if fact then rest else Goal b mark ∷ rest) ≤ body_weight b (list_weight rest)) [
      | true ↦ body_weight-more b (list_weight rest)
      | false ↦ omega arith
    ]

-- where so much is to be done first, it takes as many steps and weighs less than this
abbrev pub Falls : ℕ → ℕ → List Alternative → State → Type 0
Falls n w stack t = (t.steps ≡ n) × (t.stack ≡ stack) × (list_weight t.list < w)

falls_lighter : {n w : ℕ} {stack : List Alternative} (t : State) → Falls n w stack t → Lighter n (total w stack) t
falls_lighter {n} {w} {stack} t falls =
    let light : total (list_weight t.list) stack < total w stack = total_less (list_weight t.list) w stack falls.2 in
    record { steps = falls.0; lighter = subst (λ (low : List Alternative). total (list_weight t.list) low < total w stack) (sym falls.1) light }

-- the weight is at most this
lighter_under : {n v w : ℕ} {t : State} → Lighter n v t → v ≤ w → Lighter n w t
lighter_under light more = let lighter = light.lighter in record { steps = light.steps; lighter = omega (arith, more) }

entered_falls : (u : Option Subst) (c : Clause) (n mark : ℕ) (rest : List Member) (s : State)
    → Falls s.steps (suc (body_weight c.body (list_weight rest))) s.stack (entered u c n mark rest s)
entered_falls None c n mark rest s = (refl, refl, omega arith)
entered_falls (Some u) c n mark rest s =
    let body = map_body (λ k. Variable (n + k)) c.body in
    let first = before_weight body mark rest in
    let same = body_weight-map (λ k. Variable (n + k)) c.body (list_weight rest) in
    (refl, refl, omega arith)

-- the alternative of the clauses that are left
others_weight : (w : ℕ) (call : Tree) (cs : List Clause) (rest : List Member) (s : State)
    → ((with_others call cs rest s).steps ≡ s.steps) × (total w (with_others call cs rest s).stack ≤ total (w + clauses_weight cs (list_weight rest)) s.stack)
others_weight w call [] rest s = (refl, total_more w (w + 1) s.stack (omega arith))
others_weight w call (c ∷ cs) rest s = (refl, omega arith)

tried_lighter : (call : Tree) (cs : List Clause) (rest : List Member) (s : State)
    → Lighter s.steps (total (clauses_weight cs (list_weight rest)) s.stack) (tried call cs rest s)
tried_lighter call [] rest s = record { steps = refl; lighter = total_less 0 1 s.stack (omega arith) }
tried_lighter call (c ∷ cs) rest s =
    let p = with_others call cs rest s in
    let w = suc (body_weight c.body (list_weight rest)) in
    let others = others_weight w call cs rest s in
    let q : State = record p { next = p.next + c.variables; built = p.built + clause_size c } in
    let o = under p.subst (unifier_of call (apply p.subst (renamed p.next c.head))) in
    let t = falls_lighter (entered o c p.next (length s.stack) rest q) (entered_falls o c p.next (length s.stack) rest q) in
    let light = lighter_under t others.1 in
    record { steps = light.steps ∙ others.0; lighter = light.lighter }

length_pushed : {X : Type 0} (xs : List X) (x : X) → length (xs ++ x ∷ []) ≡ suc (length xs)
length_pushed [] x = refl
length_pushed (y ∷ ys) x = ap suc (length_pushed ys x)

-- a solution that is gathered was still to come
left_gathered_weight : (c : ℕ) (l : Left) (t : Tree) (r : ℕ) → left_weight c (gathered l t) r ≤ left_weight (suc c) l r
left_gathered_weight c (Gathering (AsList result) copies count) t r = omega arith
left_gathered_weight c (Gathering (InGroups by) copies count) t r =
    let one = length_pushed copies (copy_from t count) in
    let more = groups_weight-more (length (copies ++ copy_from t count ∷ []) + c) (length copies + suc c) r (omega arith) in
    let same = groups_weight-more (length copies + c) (length copies + suc c) r (omega arith) in
    elim (is_solution t)
    as (λ b. left_weight c (if b then Gathering (InGroups by) (copies ++ copy_from t count ∷ []) (count + variable_count t) else Gathering (InGroups by) copies count) r ≤ left_weight (suc c) (Gathering (InGroups by) copies count) r) [
      | true ↦ more
      | false ↦ same
    ]
left_gathered_weight c AsIs t r = omega arith
left_gathered_weight c Again t r = omega arith
left_gathered_weight c (Clauses call cs) t r = omega arith
left_gathered_weight c (Catching catcher recovery) t r = omega arith
left_gathered_weight c (Offered left rights) t r = omega arith
left_gathered_weight c (Groups by groups) t r = omega arith

gathered_weight : (c height : ℕ) (t : Tree) (stack : List Alternative) → total c (gathered_at height t stack) < total (suc c) stack
gathered_weight c height t [] = omega arith
gathered_weight c height t (a ∷ below) =
    let r = list_weight a.list in
    let w = left_weight (suc c) a.left r in
    elim (length below == height) as (λ here. total c ((if here then record a { left = gathered a.left t } else a) ∷ gathered_at height t below) < total (suc c) (a ∷ below)) [
      | true ↦ (
          let here = left_gathered_weight c a.left t r in
          let v = left_weight c (gathered a.left t) r in
          let others = gathered_weight (c + v) height t below in
          let more = total_more (suc (c + v)) (suc c + w) below (omega arith) in
          omega arith
          )
      | false ↦ (
          let here = left_more c (suc c) a.left r (omega arith) in
          let v = left_weight c a.left r in
          let others = gathered_weight (c + v) height t below in
          let more = total_more (suc (c + v)) (suc c + w) below (omega arith) in
          omega arith
          )
    ]

charged_progress : (n k w : ℕ) (o : Outcome) → k < n → Progress n w (charged k o)
charged_progress n k w (Goes t) h = inl h
charged_progress n k w (Gives e t) h = inl h
charged_progress n k w (Ends e world) h = tt

-- what takes one of the budget makes progress, whatever it comes to
paid_progress : (n w : ℕ) (s : State) (o : Outcome) → Progress n w (paid n s o)
paid_progress zero w s o = tt
paid_progress (suc n) w s o = charged_progress (suc n) n w o (omega arith)

equated_falls : (u : Option Subst) (rest : List Member) (s : State) → Falls s.steps (suc (list_weight rest)) s.stack (equated u rest s)
equated_falls None rest s = (refl, refl, omega arith)
equated_falls (Some u) rest s = (refl, refl, omega arith)

taken_falls : (u : Option Subst) (removes : Option Reference) (rest : List Member) (s : State) → Falls s.steps (suc (list_weight rest)) s.stack (taken u removes rest s)
taken_falls None removes rest s = (refl, refl, omega arith)
taken_falls (Some u) removes rest s = (refl, refl, omega arith)

-- the alternative of the rows that are left
rights_behind : (w : ℕ) (left : Tree) (os : List Offer) (rest : List Member) (s : State)
    → ((with_rights left os rest s).steps ≡ s.steps) × (total w (with_rights left os rest s).stack ≤ total (w + rights_weight os (list_weight rest)) s.stack)
rights_behind w left [] rest s = (refl, total_more w (w + 1) s.stack (omega arith))
rights_behind w left (o ∷ os) rest s = (refl, omega arith)

right_falls : (left : Tree) (o : Offer) (rest : List Member) (s : State) → Falls s.steps (suc (list_weight rest)) s.stack (tried_right left o rest s)
right_falls left o rest s =
    elim (is_there o.removes s.world) as (λ x. Falls s.steps (suc (list_weight rest)) s.stack (if x then met_right left o rest s else fails s)) [
      | true ↦ taken_falls (under s.subst (unifier_of left (apply s.subst (renamed s.next o.right)))) o.removes rest (record s { next = s.next + o.variables; built = s.built + o.made })
      | false ↦ (refl, refl, omega arith)
    ]

offered_lighter : (left : Tree) (os : List Offer) (rest : List Member) (s : State) → Lighter s.steps (total (rights_weight os (list_weight rest)) s.stack) (offered left os rest s)
offered_lighter left [] rest s = record { steps = refl; lighter = total_less 0 1 s.stack (omega arith) }
offered_lighter left (o ∷ os) rest s =
    let p = with_rights left os rest s in
    let others = rights_behind (suc (list_weight rest)) left os rest s in
    let light = lighter_under (falls_lighter (tried_right left o rest p) (right_falls left o rest p)) others.1 in
    record { steps = light.steps ∙ others.0; lighter = light.lighter }

-- ---- groups of solutions

filter_length : {X : Type 0} (p : X → Bool) (xs : List X) → length (filter p xs) ≤ length xs
filter_length p [] = omega arith
filter_length p (x ∷ xs) =
    let others = filter_length p xs in
    elim (p x) as (λ passes. length (if passes then x ∷ filter p xs else filter p xs) ≤ suc (length xs)) [
      | true ↦ omega arith
      | false ↦ omega arith
    ]

firsts_length : (ps : List Tree) → length (firsts ps) ≤ length ps
firsts_length [] = omega arith
firsts_length (p ∷ ps) =
    let others = firsts_length ps in
    let fewer = filter_length (λ q. not (is_with p q)) (firsts ps) in
    omega arith

map_length : {X Y : Type 0} (f : X → Y) (xs : List X) → length (map f xs) ≡ length xs
map_length f [] = refl
map_length f (x ∷ xs) = ap suc (map_length f xs)

-- there are no more groups than solutions
groups_length : (ps : List Tree) → length (groups_of ps) ≤ length ps
groups_length ps =
    let same = map_length (λ p. filter (is_with p) ps) (firsts ps) in
    let fewer = firsts_length ps in
    omega arith

witnessed_falls : (u : Option Subst) (by : Grouping) (solutions : Tree) (rest : List Member) (s : State) → Falls s.steps (suc (list_weight rest)) s.stack (witnessed u by solutions rest s)
witnessed_falls None by solutions rest s = (refl, refl, omega arith)
witnessed_falls (Some u) by solutions rest s =
    let ts = collection by.sorts (items (apply u solutions)) in
    equated_falls (under u (unifier_of (apply u by.result) (list_of ts))) rest (record s { subst = u; built = s.built + (1 + list_made (length ts)) })

group_falls : (by : Grouping) (g : List Tree) (rest : List Member) (s : State) → Falls s.steps (suc (list_weight rest)) s.stack (tried_group by g rest s)
group_falls by g rest s =
    let solutions = apply s.subst (copy_from (list_of g) s.next) in
    witnessed_falls (under s.subst (unifier_of (repeated by.witness (witnesses solutions)) (row (witnesses solutions)))) by solutions rest (with_copy (size (list_of g)) (list_of g) s)

-- the alternative of the groups that are left
groups_behind : (w : ℕ) (by : Grouping) (gs : List (List Tree)) (rest : List Member) (s : State)
    → ((with_groups by gs rest s).steps ≡ s.steps) × (total w (with_groups by gs rest s).stack ≤ total (w + groups_weight (length gs) (list_weight rest)) s.stack)
groups_behind w by [] rest s = (refl, total_more w (w + 1) s.stack (omega arith))
groups_behind w by (g ∷ gs) rest s = (refl, omega arith)

grouped_lighter : (by : Grouping) (gs : List (List Tree)) (rest : List Member) (s : State) → Lighter s.steps (total (groups_weight (length gs) (list_weight rest)) s.stack) (grouped by gs rest s)
grouped_lighter by [] rest s = record { steps = refl; lighter = total_less 0 1 s.stack (omega arith) }
grouped_lighter by (g ∷ gs) rest s =
    let p = with_groups by gs rest s in
    let others = groups_behind (suc (list_weight rest)) by gs rest s in
    let light = lighter_under (falls_lighter (tried_group by g rest p) (group_falls by g rest p)) others.1 in
    record { steps = light.steps ∙ others.0; lighter = light.lighter }

collected_lighter : (c : Collecting) (copies : List Tree) (rest : List Member) (s : State)
    → Lighter s.steps (total (collecting_weight (length copies + 0) c (list_weight rest)) s.stack) (collected c copies rest s)
collected_lighter (AsList result) copies rest s =
    let l = list_of copies in
    let z = with_copy (size l) l s in
    let o = under s.subst (unifier_of result (apply s.subst (copy_from l s.next))) in
    falls_lighter (equated o rest z) (equated_falls o rest z)
collected_lighter (InGroups by) copies rest s =
    let gs = groups_of copies in
    let fewer = groups_length copies in
    let r = list_weight rest in
    let less = groups_weight-more (length gs) (length copies + 0) r (omega arith) in
    lighter_under (grouped_lighter by gs rest s) (total_more (groups_weight (length gs) r) (groups_weight (length copies + 0) r) s.stack less)

retried_progress : (l : Left) (s : State) → Progress s.steps (total (left_weight 0 l (list_weight s.list)) s.stack) (retried l s)
retried_progress AsIs s = inr (record { steps = refl; lighter = total_less (list_weight s.list) (suc (list_weight s.list)) s.stack (omega arith) })
retried_progress Again s = paid_progress s.steps (total 1 s.stack) s (Goes (pushed s.list Again s))
retried_progress (Clauses call cs) s = inr (tried_lighter call cs s.list s)
retried_progress (Catching catcher recovery) s = inr (record { steps = refl; lighter = total_less 0 (2 + list_weight s.list) s.stack (omega arith) })
retried_progress (Gathering collecting copies count) s = inr (collected_lighter collecting copies s.list s)
retried_progress (Offered left rights) s = inr (offered_lighter left rights s.list s)
retried_progress (Groups by groups) s = inr (grouped_lighter by groups s.list s)

backtracked_progress : (stack : List Alternative) (s : State) → Progress s.steps (total 0 stack) (backtracked stack s)
backtracked_progress [] s = tt
backtracked_progress (a ∷ below) s =
    let t : State = record s { list = a.list; subst = a.subst; next = a.next; built = a.built; stack = below } in
    let w = left_weight 0 a.left (list_weight a.list) in
    let same : w ≡ 0 + w = omega arith in
    subst (λ n. Progress s.steps (total n below) (retried a.left t)) same (retried_progress a.left t)

-- a ball may come to the alternative, if it has less weight
caught_at_progress : (l : Left) (a : Alternative) (below : List Alternative) (ball : Tree) (s : State) (o : Outcome) (w : ℕ) → total (1 + left_weight 1 l (list_weight a.list)) below ≤ w
    → Progress s.steps w o → Progress s.steps w (caught_at l a below ball s o)
caught_at_progress (Catching catcher recovery) a below ball s o w less other =
    let r = list_weight a.list in
    let light = total_less (2 + r) (1 + (2 + r)) below (omega arith) in
    inr (record { steps = refl; lighter = omega (arith, less) })
caught_at_progress AsIs a below ball s o w less other = other
caught_at_progress Again a below ball s o w less other = other
caught_at_progress (Clauses call cs) a below ball s o w less other = other
caught_at_progress (Gathering collecting copies count) a below ball s o w less other = other
caught_at_progress (Offered left rights) a below ball s o w less other = other
caught_at_progress (Groups by groups) a below ball s o w less other = other

caught_progress : (height : ℕ) (stack : List Alternative) (ball : Tree) (s : State) (o : Outcome) (w : ℕ) → total 1 stack ≤ w → Progress s.steps w o → Progress s.steps w (caught height stack ball s o)
caught_progress height [] ball s o w less other = other
caught_progress height (a ∷ below) ball s o w less other =
    let more = total_more 1 (1 + left_weight 1 a.left (list_weight a.list)) below (omega arith) in
    elim (length below == height) as (λ here. Progress s.steps w (if here then caught_at a.left a below ball s o else caught height below ball s o)) [
      | true ↦ caught_at_progress a.left a below ball s o w less other
      | false ↦ caught_progress height below ball s o w (omega (arith, less)) other
    ]

thrown_progress : (ball : Tree) (rest : List Member) (w : ℕ) (s : State) → total 1 s.stack ≤ w → Progress s.steps w (thrown ball rest s)
thrown_progress ball [] w s less = tt
thrown_progress ball (Leave height ∷ rest) w s less =
    caught_progress height s.stack ball s (thrown ball rest s) w less (thrown_progress ball rest w s less)
thrown_progress ball (Goal b mark ∷ rest) w s less = thrown_progress ball rest w s less
thrown_progress ball (CutTo height ∷ rest) w s less = thrown_progress ball rest w s less
thrown_progress ball (Fail ∷ rest) w s less = thrown_progress ball rest w s less
thrown_progress ball (Raise other ∷ rest) w s less = thrown_progress ball rest w s less
thrown_progress ball (Meet other catcher recovery ∷ rest) w s less = thrown_progress ball rest w s less
thrown_progress ball (Gather height template ∷ rest) w s less = thrown_progress ball rest w s less

met_falls : (u : Option Subst) (ball recovery : Tree) (rest : List Member) (s : State) → Falls s.steps (2 + list_weight rest) s.stack (met u ball recovery rest s)
met_falls None ball recovery rest s = (refl, refl, omega arith)
met_falls (Some u) ball recovery rest s = (refl, refl, omega arith)

-- the cut's list goes on over fewer alternatives
cut_progress : (n w : ℕ) (rest : List Member) (s : State) → list_weight rest < w → total (list_weight rest) (drop n s.stack) < total w s.stack
cut_progress n w rest s less =
    let fewer = dropped_weight n (list_weight rest) s.stack in
    let light = total_less (list_weight rest) w s.stack less in
    omega arith

goal_progress : (b : Body) (mark : ℕ) (rest : List Member) (s : State)
    → Progress s.steps (total (body_weight b (list_weight rest)) s.stack) (step_goal b mark rest s)
goal_progress Cut mark rest s =
    inr (record { steps = refl; lighter = cut_progress (length s.stack - mark) (suc (list_weight rest)) rest s (omega arith) })
goal_progress (And a b) mark rest s =
    let r = list_weight rest in
    inr (record { steps = refl; lighter = total_less (body_weight a (body_weight b r)) (suc (body_weight a (body_weight b r))) s.stack (omega arith) })
goal_progress (Or a b) mark rest s =
    let r = list_weight rest in
    let v = body_weight a r in
    let w = body_weight b r in
    inr (record { steps = refl; lighter = total_less (v + suc w) (2 + (v + w)) s.stack (omega arith) })
goal_progress (If c t) mark rest s =
    let v = body_weight c (suc (body_weight t (list_weight rest))) in
    inr (record { steps = refl; lighter = total_less v (suc v) s.stack (omega arith) })
goal_progress (Choose c t e) mark rest s =
    let r = list_weight rest in
    let v = body_weight c (suc (body_weight t r)) in
    let w = body_weight e r in
    inr (record { steps = refl; lighter = total_less (v + suc w) (2 + (v + w)) s.stack (omega arith) })
goal_progress (Run t) mark rest s =
    paid_progress s.steps (total (body_weight (Run t) (list_weight rest)) s.stack) s (run_value (apply s.subst t) rest s)

list_progress : (list : List Member) (s : State) → Progress s.steps (total (list_weight list) s.stack) (step_list list s)
list_progress [] s = inr (record { steps = refl; lighter = total_less 0 1 s.stack (omega arith) })
list_progress (CutTo height ∷ rest) s =
    inr (record { steps = refl; lighter = cut_progress (length s.stack - height) (suc (list_weight rest)) rest s (omega arith) })
list_progress (Fail ∷ rest) s = backtracked_progress s.stack s
list_progress (Leave height ∷ rest) s = inr (record { steps = refl; lighter = total_less (list_weight rest) (suc (list_weight rest)) s.stack (omega arith) })
list_progress (Raise ball ∷ rest) s = thrown_progress ball rest (total 1 s.stack) s (omega arith)
list_progress (Meet ball catcher recovery ∷ rest) s =
    let z : State = record s { built = s.built + size ball } in
    let o = under s.subst (unifier_of (apply s.subst catcher) (apply s.subst (copy_from ball s.next))) in
    inr (falls_lighter (met o ball recovery rest z) (met_falls o ball recovery rest z))
list_progress (Gather height template ∷ rest) s =
    inr (record { steps = refl; lighter = gathered_weight 0 height (apply s.subst template) s.stack })
list_progress (Goal b mark ∷ rest) s = goal_progress b mark rest s

pub step_progress : (s : State) → Progress s.steps (weight s) (step s)
unfolding step
step_progress s = list_progress s.list s
