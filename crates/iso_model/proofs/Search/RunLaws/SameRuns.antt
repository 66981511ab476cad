-- States that are the same have one run.
use Rattle.std.proofs.Common.{◌≡◌, ℕ, List, [], ◌∷◌, refl, sym, ap, ◌∙◌, subst, ◌⊎◌, inl, inr}
use Rattle.iso_model.specs.Search.Bodies.{Body, Cut, Run, And, Or, If, Choose}
use Rattle.iso_model.specs.Search.Walker.{State, World, Member, Goal, CutTo, Fail, Leave, Raise, Meet, Gather, Event, Ending, Outcome, Goes, Gives, Ends, idle, step_list, step}
use Rattle.iso_model.specs.Search.Runs.{Trace, Then, goes, gives, ends, Quiet, here, onward, Comes, Finishes}
use Rattle.iso_model.specs.Search.Runs as runs
use Rattle.iso_model.specs.Search.RunLaws.Named.{run_of, run_of_is, run_of_only}
use Rattle.iso_model.specs.Search.RunLaws.Sameness.{open_list, Same, going, failing}
use Rattle.iso_model.proofs.Search.RunLaws.SameSteps.{SameOut, both_go, both_give, both_end, Open, open_end, open_goal, open_other, list_is_open, steps_alike}
use Rattle.iso_model.proofs.Search.RunLaws.Opening.{opened, opens, with_lists, same_opened}

-- what a step goes to, gives or ends with is what the other's does
pub after_go : {s : State} {o : Outcome} → SameOut (Goes s) o → (t : State) × (o ≡ Goes t) × Same s t
after_go (both_go {t = t} h) = (t, refl, h)

pub after_give : {s : State} {e : Event} {o : Outcome} → SameOut (Gives e s) o → (t : State) × (o ≡ Gives e t) × Same s t
after_give (both_give {t = t} h) = (t, refl, h)

pub after_end : {e : Ending} {w : World} {o : Outcome} → SameOut (Ends e w) o → o ≡ Ends e w
after_end both_end = refl

pub same_world : {s t : State} → Same s t → s.world ≡ t.world
same_world (going at list) = at.beside.world
same_world (failing ms ns is are h) = h.world

pub run_from : {s t : State} {r : Trace} → Quiet s t → runs.Run t r → runs.Run s r
run_from here run = run
run_from (onward q h) run = run_from q (goes h run)

-- a list begins with a conjunction, or with none
begins : (ms : List Member) → ((a b : Body) × (mark : ℕ) × (others : List Member) × (ms ≡ Goal (And a b) mark ∷ others)) ⊎ Open ms
begins [] = inr open_end
begins (Goal Cut mark ∷ ms) = inr (open_goal refl)
begins (Goal (Run t) mark ∷ ms) = inr (open_goal refl)
begins (Goal (Or a b) mark ∷ ms) = inr (open_goal refl)
begins (Goal (If c t) mark ∷ ms) = inr (open_goal refl)
begins (Goal (Choose c t e) mark ∷ ms) = inr (open_goal refl)
begins (CutTo height ∷ ms) = inr (open_other refl)
begins (Goal (And a b) mark ∷ ms) = inl (a, b, mark, ms, refl)
begins (Fail ∷ ms) = inr (open_other refl)
begins (Leave height ∷ ms) = inr (open_other refl)
begins (Raise ball ∷ ms) = inr (open_other refl)
begins (Meet ball catcher recovery ∷ ms) = inr (open_other refl)
begins (Gather height template ∷ ms) = inr (open_other refl)

-- a conjunction is taken apart
taken_apart : (s : State) (a b : Body) (mark : ℕ) (others : List Member) → s.list ≡ Goal (And a b) mark ∷ others → step s ≡ Goes (record s { list = Goal a mark ∷ Goal b mark ∷ others })
unfolding step
taken_apart s a b mark others is = ap (λ (ms : List Member). step_list ms s) is

-- the first one's conjunction taken apart
same_apart : (s t : State) (a b : Body) (mark : ℕ) (others : List Member) → s.list ≡ Goal (And a b) mark ∷ others → Same s t → Same (record s { list = Goal a mark ∷ Goal b mark ∷ others }) t
same_apart s t a b mark others is h =
    with_lists s t (Goal a mark ∷ Goal b mark ∷ others) t.list (ap open_list (sym is)) refl
    (λ xs e. absurd (no_conjunction (sym is ∙ e))) (λ xs e. e) h
  where
    no_conjunction : {a b : Body} {mark : ℕ} {ms ns : List Member} → Goal (And a b) mark ∷ ms ≡ Fail ∷ ns → ⊥
    no_conjunction e = cc

same_out : (s t : State) → Open s.list → Same s t → SameOut (step s) (step (opened t))
same_out s t first h = steps_alike s (opened t) first (list_is_open t.list) (same_opened s t h)

-- the run of the one is a run of the other
pub run_alike : {s t : State} {r : Trace} → runs.Run s r → Same s t → runs.Run t r
run_alike {s} {t} (goes {t = u} h run) same =
    elim (begins s.list) [
      | inl parts ↦ (let there = taken_apart s parts.0 parts.1 parts.2 parts.3 parts.4 in
          let both : Goes u ≡ Goes (record s { list = Goal parts.0 parts.2 ∷ Goal parts.1 parts.2 ∷ parts.3 }) = sym h ∙ there in
          let is : u ≡ record s { list = Goal parts.0 parts.2 ∷ Goal parts.1 parts.2 ∷ parts.3 } = cc in
          run_alike run (subst (λ (x : State). Same x t) (sym is) (same_apart s t parts.0 parts.1 parts.2 parts.3 parts.4 same)))
      | inr first ↦ (let k = after_go (subst (λ (o : Outcome). SameOut o (step (opened t))) h (same_out s t first same)) in
          run_from (opens t) (goes k.1 (run_alike run k.2)))
    ]
run_alike {s} {t} (gives {t = u} {e = e} {r = r} h run) same =
    elim (begins s.list) [
      | inl parts ↦ (let there = taken_apart s parts.0 parts.1 parts.2 parts.3 parts.4 in
          let both : Gives e u ≡ Goes (record s { list = Goal parts.0 parts.2 ∷ Goal parts.1 parts.2 ∷ parts.3 }) = sym h ∙ there in
          absurd (cc))
      | inr first ↦ (let k = after_give (subst (λ (o : Outcome). SameOut o (step (opened t))) h (same_out s t first same)) in
          subst (λ (w : World). runs.Run t (Then e w r)) (sym (same_world k.2)) (run_from (opens t) (gives k.1 (run_alike run k.2))))
    ]
run_alike {s} {t} (ends {e = e} {w = w} h) same =
    elim (begins s.list) [
      | inl parts ↦ (let there = taken_apart s parts.0 parts.1 parts.2 parts.3 parts.4 in
          let both : Ends e w ≡ Goes (record s { list = Goal parts.0 parts.2 ∷ Goal parts.1 parts.2 ∷ parts.3 }) = sym h ∙ there in
          absurd (cc))
      | inr first ↦ run_from (opens t) (ends (after_end (subst (λ (o : Outcome). SameOut o (step (opened t))) h (same_out s t first same))))
    ]

-- states that are the same have one run
pub same_run : (s t : State) → Same s t → run_of s ≡ run_of t
same_run s t same = sym (run_of_only (run_alike (run_of_is s) same))

-- ---- for engines: what a step of a state comes to, the others that are the same come to behind some steps without
-- an event

pub same_goes : (u v s : State) → Open u.list → step u ≡ Goes v → Same u s → (t : State) × Quiet s t × Same v t
same_goes u v s first h same =
    let k = after_go (subst (λ (o : Outcome). SameOut o (step (opened s))) h (same_out u s first same)) in
    (k.0, onward (opens s) k.1, k.2)

pub same_gives : (u v s : State) (e : Event) (P : State → Type 0) → Open u.list → step u ≡ Gives e v → ((t : State) → Same v t → P t) → Same u s → Comes s e P
same_gives u v s e P first h stands same =
    let k = after_give (subst (λ (o : Outcome). SameOut o (step (opened s))) h (same_out u s first same)) in
    record { at = opened s; new = k.0; quiet = opens s; last = k.1; stands = stands k.0 k.2 }

pub same_ends : (u s : State) (e : Ending) (w : World) (P : State → Type 0) → Open u.list → step u ≡ Ends e w → P (idle w) → Same u s → Finishes s e P
same_ends u s e w P first h stands same =
    let k = after_end (subst (λ (o : Outcome). SameOut o (step (opened s))) h (same_out u s first same)) in
    record { at = opened s; world = w; quiet = opens s; last = k; stands = stands }

-- the same with no question of what comes first

pub onward_same : (u v s : State) → step u ≡ Goes v → Same u s → (t : State) × Quiet s t × Same v t
onward_same u v s h same =
    elim (begins u.list) [
      | inl parts ↦ (let there = taken_apart u parts.0 parts.1 parts.2 parts.3 parts.4 in
          let both : Goes v ≡ Goes (record u { list = Goal parts.0 parts.2 ∷ Goal parts.1 parts.2 ∷ parts.3 }) = sym h ∙ there in
          let is : v ≡ record u { list = Goal parts.0 parts.2 ∷ Goal parts.1 parts.2 ∷ parts.3 } = cc in
          (s, here, subst (λ (x : State). Same x s) (sym is) (same_apart u s parts.0 parts.1 parts.2 parts.3 parts.4 same)))
      | inr first ↦ same_goes u v s first h same
    ]

pub comes_same : (u v s : State) (e : Event) (P : State → Type 0) → step u ≡ Gives e v → ((t : State) → Same v t → P t) → Same u s → Comes s e P
comes_same u v s e P h stands same =
    elim (begins u.list) [
      | inl parts ↦ (let both : Gives e v ≡ Goes (record u { list = Goal parts.0 parts.2 ∷ Goal parts.1 parts.2 ∷ parts.3 }) = sym h ∙ taken_apart u parts.0 parts.1 parts.2 parts.3 parts.4 in absurd (cc))
      | inr first ↦ same_gives u v s e P first h stands same
    ]

pub finishes_same : (u s : State) (e : Ending) (w : World) (P : State → Type 0) → step u ≡ Ends e w → P (idle w) → Same u s → Finishes s e P
finishes_same u s e w P h stands same =
    elim (begins u.list) [
      | inl parts ↦ (let both : Ends e w ≡ Goes (record u { list = Goal parts.0 parts.2 ∷ Goal parts.1 parts.2 ∷ parts.3 }) = sym h ∙ taken_apart u parts.0 parts.1 parts.2 parts.3 parts.4 in absurd (cc))
      | inr first ↦ same_ends u s e w P first h stands same
    ]
