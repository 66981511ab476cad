-- Lists that are the same in both directions, the first state the same as itself, and states one after the other.
use Rattle.std.proofs.Common.{◌≡◌, ℕ, List, [], ◌∷◌, refl, sym, ap, ◌∙◌, subst, arith}
use Rattle.iso_model.specs.Terms.Substitutions.{Subst, apply}
use Rattle.iso_model.specs.Search.Bodies.{Body, Cut, Run, And, Or, If, Choose}
use Rattle.iso_model.specs.Search.Walker.{State, Member, Goal, CutTo, Fail, Leave, Raise, Meet, Gather, Alternative}
use Rattle.iso_model.proofs.Search.RunLaws.SameSteps.{is_run, list_same}
use Rattle.iso_model.specs.Search.RunLaws.Sameness.{SameList, no_member, same_goal, same_construct, same_cut, same_failure, same_leave, same_ball, same_meeting, same_gathering, Agree, SameStack, no_alternative, same_alternative, Beside, open_body, open_list, Same, going, failing}

pub list_back : {r q : Subst} {ms ns : List Member} → SameList r q ms ns → SameList q r ns ms
list_back no_member = no_member
list_back (same_goal same others) = same_goal (sym same) (list_back others)
list_back (same_construct same others) = same_construct (sym same) (list_back others)
list_back (same_cut others) = same_cut (list_back others)
list_back (same_failure others) = same_failure (list_back others)
list_back (same_leave others) = same_leave (list_back others)
list_back (same_ball others) = same_ball (list_back others)
list_back (same_meeting catcher recovery others) = same_meeting (sym catcher) (sym recovery) (list_back others)
list_back (same_gathering value others) = same_gathering (sym value) (list_back others)

-- the first is the same as itself
agree_self : {r q : Subst} {vs ws : List ℕ} {n : ℕ} → Agree r q vs ws n → Agree r r vs vs n
agree_self h = record { shown = refl; beyond = λ x more. refl; twice = h.twice; other = h.twice }

stack_self : {vs ws : List ℕ} {xs ys : List Alternative} → SameStack vs ws xs ys → SameStack vs vs xs xs
stack_self no_alternative = no_alternative
stack_self (same_alternative {a = a} agree next built list left own other others) = same_alternative (agree_self agree) refl (omega arith) (list_same a.list) refl own own (stack_self others)

beside_self : {s t : State} → Beside s t → Beside s s
beside_self h = record { stack = stack_self h.stack; world = refl; steps = refl; query = omega arith; built = omega arith }

pub same_self : (s t : State) → Same s t → Same s s
same_self s t (going at list) = going (record { agree = agree_self at.agree; next = refl; beside = beside_self at.beside }) (list_same (open_list s.list))
same_self s t (failing ms ns is are h) = failing ms ms is is (beside_self h)

list_on_list : {r q p : Subst} {ms ns os : List Member} → SameList r q ms ns → SameList q p ns os → SameList r p ms os
list_on_list no_member no_member = no_member
list_on_list (same_goal same others) (same_goal again more) = same_goal (same ∙ again) (list_on_list others more)
list_on_list (same_construct same others) (same_construct again more) = same_construct (same ∙ again) (list_on_list others more)
list_on_list {r} {q} {p} (same_goal {t = t} {u = u} {m = m} {ms = ms} same others) (same_construct {c = c} {m = k} {ns = os} again more) =
    let run = is_run p (apply q u) c again in
    subst (λ (d : Body). SameList r p (Goal (Run t) m ∷ ms) (Goal d k ∷ os)) (sym run.1) (same_goal (same ∙ run.2) (list_on_list others more))
list_on_list {r} {q} {p} (same_construct {b = b} {m = m} {ms = ms} same others) (same_goal {t = u} {u = w} {n = k} {ns = os} again more) =
    let run = is_run r (apply q u) b (sym same) in
    subst (λ (d : Body). SameList r p (Goal d m ∷ ms) (Goal (Run w) k ∷ os)) (sym run.1) (same_goal (sym run.2 ∙ again) (list_on_list others more))
list_on_list (same_cut others) (same_cut more) = same_cut (list_on_list others more)
list_on_list (same_failure others) (same_failure more) = same_failure (list_on_list others more)
list_on_list (same_leave others) (same_leave more) = same_leave (list_on_list others more)
list_on_list (same_ball others) (same_ball more) = same_ball (list_on_list others more)
list_on_list (same_meeting catcher recovery others) (same_meeting catcher' recovery' more) = same_meeting (catcher ∙ catcher') (recovery ∙ recovery') (list_on_list others more)
list_on_list (same_gathering value others) (same_gathering again more) = same_gathering (value ∙ again) (list_on_list others more)

agree_on_agree : {r q p : Subst} {us vs ws : List ℕ} (n m : ℕ) → n ≡ m → Agree r q us vs n → Agree q p vs ws m → Agree r p us ws n
agree_on_agree n m e h k = record { shown = h.shown ∙ k.shown; beyond = λ x more. h.beyond x more ∙ k.beyond x (omega (arith, e, more)); twice = h.twice; other = k.other }

stack_on_stack : {us vs ws : List ℕ} {xs ys zs : List Alternative} → SameStack us vs xs ys → SameStack vs ws ys zs → SameStack us ws xs zs
stack_on_stack no_alternative no_alternative = no_alternative
stack_on_stack (same_alternative {a = a} {b = b} agree next built list left own other others) (same_alternative agree' next' built' list' left' own' other' others') =
    same_alternative (agree_on_agree a.next b.next next agree agree') (next ∙ next') (omega (arith, built, built')) (list_on_list list list') (left ∙ left') own other' (stack_on_stack others others')

beside_on : {s t u : State} → Beside s t → Beside t u → Beside s u
beside_on h k = record { stack = stack_on_stack h.stack k.stack; world = h.world ∙ k.world; steps = h.steps ∙ k.steps; query = let first = h.query in let second = k.query in omega (arith, first, second); built = let first = h.built in let second = k.built in omega (arith, first, second) }

-- a list that begins with failure once it is opened does so itself
body_no_failure : (b : Body) (mark : ℕ) (ms ns : List Member) → open_body b mark ms ≡ Fail ∷ ns → ⊥
body_no_failure Cut mark ms ns e = cc
body_no_failure (Run t) mark ms ns e = cc
body_no_failure (Or a b) mark ms ns e = cc
body_no_failure (If c t) mark ms ns e = cc
body_no_failure (Choose c t e) mark ms ns is = cc
body_no_failure (And a b) mark ms ns e = body_no_failure a mark (Goal b mark ∷ ms) ns e

failure_first : (ms ns : List Member) → open_list ms ≡ Fail ∷ ns → (others : List Member) × (ms ≡ Fail ∷ others)
failure_first [] ns e = absurd (cc)
failure_first (Goal b mark ∷ ms) ns e = absurd (body_no_failure b mark ms ns e)
failure_first (CutTo height ∷ ms) ns e = absurd (cc)
failure_first (Fail ∷ ms) ns e = (ms, refl)
failure_first (Leave height ∷ ms) ns e = absurd (cc)
failure_first (Raise ball ∷ ms) ns e = absurd (cc)
failure_first (Meet ball catcher recovery ∷ ms) ns e = absurd (cc)
failure_first (Gather height template ∷ ms) ns e = absurd (cc)

fails_left : {r q : Subst} {ms ns : List Member} (others : List Member) → SameList r q ms ns → ns ≡ Fail ∷ others → (front : List Member) × (ms ≡ Fail ∷ front)
fails_left others no_member e = absurd (cc)
fails_left others (same_goal same more) e = absurd (cc)
fails_left others (same_construct same more) e = absurd (cc)
fails_left others (same_cut more) e = absurd (cc)
fails_left others (same_failure {ms = ms} more) e = (ms, refl)
fails_left others (same_leave more) e = absurd (cc)
fails_left others (same_ball more) e = absurd (cc)
fails_left others (same_meeting catcher recovery more) e = absurd (cc)
fails_left others (same_gathering value more) e = absurd (cc)

pub failing_left : (s t : State) (ns : List Member) → SameList s.subst t.subst (open_list s.list) (open_list t.list) → t.list ≡ Fail ∷ ns → (ms : List Member) × (s.list ≡ Fail ∷ ms)
failing_left s t ns list is =
    let first = fails_left ns list (ap open_list is) in
    failure_first s.list first.0 first.1

pub same_on : (s t u : State) → Same s t → Same t u → Same s u
same_on s t u (going at list) (going at' list') =
    going (record { agree = agree_on_agree s.next t.next at.next at.agree at'.agree; next = at.next ∙ at'.next; beside = beside_on at.beside at'.beside }) (list_on_list list list')
same_on s t u (going at list) (failing ms ns is are h) = let first = failing_left s t ms list is in failing first.0 ns first.1 are (beside_on at.beside h)
same_on s t u (failing ms ns is are h) (going at list) = let last = failing_left u t ns (list_back list) are in failing ms last.0 is last.1 (beside_on h at.beside)
same_on s t u (failing ms ns is are h) (failing ms' ns' is' are' h') = failing ms ns' is are' (beside_on h h')

-- ---- what the same states have in common

pub same_beside : (s t : State) → Same s t → Beside s t
same_beside s t (going at list) = at.beside
same_beside s t (failing ms ns is are h) = h
