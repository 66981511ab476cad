-- The greatest load of a run, step by step, or by computing the steps.
use Rattle.std.proofs.Common.{◌≡◌, ◌≤◌, ℕ, zero, suc, Bool, true, false, ◌&&◌, ◌||◌, nat_le, inl, inr, refl, sym, ◌∙◌, subst, leb-true, eqb-true, ◌==◌}
use Rattle.std.proofs.lemmas.Bool.{and_parts, or_cases}
use Rattle.iso_model.specs.Search.Walker.{State, World, Event, Ending, Outcome, Goes, Gives, Ends, step, load}
use Rattle.iso_model.specs.Worked.Loads.{Leads, here, goes, gives, LoadsAtMost}

-- no state has a greater load
abbrev pub Bounded : State → ℕ → Type 0
Bounded s most = (t : State) → Leads s t → load t ≤ most

-- one has this one
abbrev pub Attained : State → ℕ → Type 0
Attained s most = (t : State) × Leads s t × (load t ≡ most)

same_next : (t u : State) → Goes t ≡ Goes u → t ≡ u
same_next t u h = cc h

same_given : (t u : State) (e f : Event) → Gives e t ≡ Gives f u → t ≡ u
same_given t u e f h = cc h

-- ---- by a step

pub bounded_goes : {s t : State} (most : ℕ) → step s ≡ Goes t → load s ≤ most → Bounded t most → Bounded s most
bounded_goes {s} {t} most is first later u here = first
bounded_goes {s} {t} most is first later u (goes {t = v} h l) = later u (subst (λ (x : State). Leads x u) (same_next v t (sym h ∙ is)) l)
bounded_goes {s} {t} most is first later u (gives h l) = absurd (cc)

pub bounded_gives : {s t : State} {e : Event} (most : ℕ) → step s ≡ Gives e t → load s ≤ most → Bounded t most → Bounded s most
bounded_gives {s} {t} {e} most is first later u here = first
bounded_gives {s} {t} {e} most is first later u (goes h l) = absurd (cc)
bounded_gives {s} {t} {e} most is first later u (gives {t = v} {e = f} h l) = later u (subst (λ (x : State). Leads x u) (same_given v t f e (sym h ∙ is)) l)

pub bounded_ends : {s : State} {e : Ending} {w : World} (most : ℕ) → step s ≡ Ends e w → load s ≤ most → Bounded s most
bounded_ends most is first u here = first
bounded_ends most is first u (goes h l) = absurd (cc)
bounded_ends most is first u (gives h l) = absurd (cc)

pub attained_goes : {s t : State} (most : ℕ) → step s ≡ Goes t → Attained t most → Attained s most
attained_goes most is a = (a.0, goes is a.1, a.2)

pub attained_gives : {s t : State} {e : Event} (most : ℕ) → step s ≡ Gives e t → Attained t most → Attained s most
attained_gives most is a = (a.0, gives is a.1, a.2)

pub both_goes : {s t : State} (most : ℕ) → step s ≡ Goes t → load s ≤ most → LoadsAtMost t most → LoadsAtMost s most
both_goes most is first later = (bounded_goes most is first later.0, attained_goes most is later.1)

pub both_gives : {s t : State} {e : Event} (most : ℕ) → step s ≡ Gives e t → load s ≤ most → LoadsAtMost t most → LoadsAtMost s most
both_gives most is first later = (bounded_gives most is first later.0, attained_gives most is later.1)

-- ---- by computing

abbrev all_on : (State → Bool) → Outcome → Bool
all_on on (Goes t) = on t
all_on on (Gives e t) = on t
all_on on (Ends e w) = true

-- the run ends within so many steps, and no state has a greater load
unfoldable pub stays_within : ℕ → ℕ → State → Bool
stays_within zero most s = false
stays_within (suc n) most s = nat_le (load s) most && all_on (stays_within n most) (step s)

abbrev some_on : (State → Bool) → Outcome → Bool
some_on on (Goes t) = on t
some_on on (Gives e t) = on t
some_on on (Ends e w) = false

-- so many steps, or fewer, lead to this load
unfoldable pub comes_to : ℕ → ℕ → State → Bool
comes_to zero most s = load s == most
comes_to (suc n) most s = load s == most || some_on (comes_to n most) (step s)

behind : (n most : ℕ) (s : State) (o : Outcome) → step s ≡ o → load s ≤ most → ((t : State) → stays_within n most t ≡ true → Bounded t most) → all_on (stays_within n most) o ≡ true → Bounded s most
behind n most s (Goes t) is first on h = bounded_goes most is first (on t h)
behind n most s (Gives e t) is first on h = bounded_gives most is first (on t h)
behind n most s (Ends e w) is first on h = bounded_ends most is first

pub bounded_by : (n most : ℕ) (s : State) → stays_within n most s ≡ true → Bounded s most
unfolding stays_within
bounded_by zero most s h = absurd (cc)
bounded_by (suc n) most s h =
    let both = and_parts (nat_le (load s) most) (all_on (stays_within n most) (step s)) h in
    behind n most s (step s) refl (leb-true (load s) most both.0) (bounded_by n most) both.1

later : (n most : ℕ) (s : State) (o : Outcome) → step s ≡ o → ((t : State) → comes_to n most t ≡ true → Attained t most) → some_on (comes_to n most) o ≡ true → Attained s most
later n most s (Goes t) is on h = attained_goes most is (on t h)
later n most s (Gives e t) is on h = attained_gives most is (on t h)
later n most s (Ends e w) is on h = absurd (cc)

pub attained_by : (n most : ℕ) (s : State) → comes_to n most s ≡ true → Attained s most
unfolding comes_to
attained_by zero most s h = (s, here, eqb-true (load s) most h)
attained_by (suc n) most s h =
    elim (or_cases (load s == most) (some_on (comes_to n most) (step s)) h) [
      | inl now ↦ (s, here, eqb-true (load s) most now)
      | inr then ↦ later n most s (step s) refl (attained_by n most) then
    ]

pub both_by : (n most : ℕ) (s : State) → stays_within n most s ≡ true → comes_to n most s ≡ true → LoadsAtMost s most
both_by n most s h k = (bounded_by n most s h, attained_by n most s k)
