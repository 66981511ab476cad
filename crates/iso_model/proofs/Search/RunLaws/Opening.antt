-- Conjunctions that come first are taken apart, step by step: without an event, and beside states that are the same.
use Rattle.std.proofs.Common.{◌≡◌, ℕ, List, [], ◌∷◌, ◌++◌, refl, ap, ◌∙◌}
use Rattle.iso_model.specs.Search.Bodies.{Body, Cut, Run, And, Or, If, Choose}
use Rattle.iso_model.specs.Search.Walker.{State, Member, Goal, CutTo, Fail, Leave, Raise, Meet, Gather, Goes, step}
use Rattle.iso_model.specs.Search.Runs.{Quiet, here, onward}
use Rattle.iso_model.specs.Search.RunLaws.Sameness.{open_body, open_list, Same, going, failing}
use Rattle.iso_model.proofs.Search.RunLaws.SameSteps.{open_twice}

-- the state whose first member is no conjunction
abbrev pub opened : State → State
opened s = record s { list = open_list s.list }

parts_step : (s : State) (a b : Body) (mark : ℕ) (ms : List Member) → step (record s { list = Goal (And a b) mark ∷ ms }) ≡ Goes (record s { list = Goal a mark ∷ Goal b mark ∷ ms })
unfolding step
parts_step s a b mark ms = refl

before_quiet : {s t u : State} → step s ≡ Goes t → Quiet t u → Quiet s u
before_quiet h here = onward here h
before_quiet h (onward q k) = onward (before_quiet h q) k

body_quiet : (s : State) (b : Body) (mark : ℕ) (ms : List Member) → Quiet (record s { list = Goal b mark ∷ ms }) (record s { list = open_body b mark ms })
body_quiet s Cut mark ms = here
body_quiet s (Run t) mark ms = here
body_quiet s (Or a b) mark ms = here
body_quiet s (If c t) mark ms = here
body_quiet s (Choose c t e) mark ms = here
body_quiet s (And a b) mark ms = before_quiet (parts_step s a b mark ms) (body_quiet s a mark (Goal b mark ∷ ms))

list_quiet : (s : State) (ms : List Member) → Quiet (record s { list = ms }) (record s { list = open_list ms })
list_quiet s [] = here
list_quiet s (Goal b mark ∷ ms) = body_quiet s b mark ms
list_quiet s (CutTo height ∷ ms) = here
list_quiet s (Fail ∷ ms) = here
list_quiet s (Leave height ∷ ms) = here
list_quiet s (Raise ball ∷ ms) = here
list_quiet s (Meet ball catcher recovery ∷ ms) = here
list_quiet s (Gather height template ∷ ms) = here

-- a state comes quietly to the one whose first member is no conjunction
pub opens : (s : State) → Quiet s (opened s)
opens s = list_quiet s s.list

-- states with other lists of the same members
pub with_lists : (s t : State) (ms ns : List Member) → open_list ms ≡ open_list s.list → open_list ns ≡ open_list t.list → ((xs : List Member) → s.list ≡ Fail ∷ xs → ms ≡ Fail ∷ xs) → ((xs : List Member) → t.list ≡ Fail ∷ xs → ns ≡ Fail ∷ xs)
    → Same s t → Same (record s { list = ms }) (record t { list = ns })
with_lists s t ms ns first second fail other (going at list) =
    going (record { agree = at.agree; next = at.next; beside = record { stack = at.beside.stack; world = at.beside.world; steps = at.beside.steps; query = at.beside.query; built = at.beside.built } }) (rw (first, second) list)
with_lists s t ms ns first second fail other (failing xs ys is are h) = failing xs ys (fail xs is) (other ys are) (record { stack = h.stack; world = h.world; steps = h.steps; query = h.query; built = h.built })

-- the second one opened
pub same_opened : (s t : State) → Same s t → Same s (opened t)
same_opened s t h = with_lists s t s.list (open_list t.list) refl (open_twice t.list) (λ xs e. e) (λ xs e. ap open_list e) h

-- the first one opened
pub opened_same : (s t : State) → Same s t → Same (opened s) t
opened_same s t h = with_lists s t (open_list s.list) t.list (open_twice s.list) refl (λ xs e. ap open_list e) (λ xs e. e) h

-- ---- before another list

body_front : (b : Body) (mark : ℕ) (xs ms : List Member) → open_body b mark (xs ++ ms) ≡ open_body b mark xs ++ ms
body_front (And a b) mark xs ms = body_front a mark (Goal b mark ∷ xs) ms
body_front Cut mark xs ms = refl
body_front (Run t) mark xs ms = refl
body_front (Or a b) mark xs ms = refl
body_front (If c t) mark xs ms = refl
body_front (Choose c t e) mark xs ms = refl

-- so before another list
pub open_front : (x : Member) (xs ms : List Member) → open_list ((x ∷ xs) ++ ms) ≡ open_list (x ∷ xs) ++ ms
open_front (Goal b mark) xs ms = body_front b mark xs ms
open_front (CutTo height) xs ms = refl
open_front Fail xs ms = refl
open_front (Leave height) xs ms = refl
open_front (Raise ball) xs ms = refl
open_front (Meet ball catcher recovery) xs ms = refl
open_front (Gather height template) xs ms = refl

-- a list that begins so, before another
pub begins_before : (xs : List Member) (m : Member) (behind ms : List Member) → open_list xs ≡ m ∷ behind
    → open_list (xs ++ ms) ≡ m ∷ (behind ++ ms)
begins_before [] m behind ms e = absurd (cc)
begins_before (x ∷ xs) m behind ms e = open_front x xs ms ∙ ap (λ (ys : List Member). ys ++ ms) e
