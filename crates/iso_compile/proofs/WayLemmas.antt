-- The ways through code of which some variables get their value from `is/2`.
use Rattle.std.proofs.Common.{◌≡◌, ◌⊎◌, ◌<◌, ◌≤◌, ◌-◌, ◌==◌, ℕ, zero, suc, List, [], ◌∷◌, ◌++◌, length, get_or, nat_lt, Bool, true, false, Some, inl, inr, refl, sym, ap, ◌∙◌, subst, arith, if◌then◌else◌}
use Rattle.std.proofs.lemmas.Bool.{cases_Bool, eqb-true, eq-eqb, ltb-true, ltb-false, true≢false}
use Rattle.std.proofs.lemmas.Option.{slice_get-get_or, slice_get_within}
use Rattle.std.specs.List.{slice_get}
use Rattle.iso_model.specs.Terms.Trees.{Tree}
use Rattle.iso_prep.specs.Trees.{At}
use Rattle.iso_prep.proofs.TreeLemmas.{at_within}
use Rattle.iso_alloc.specs.declared.places.Place.{Place}
use Rattle.iso_alloc.specs.Plans.{Layout}
use Rattle.iso_compile.specs.declared.instructions.Part.{Part}
use Rattle.iso_compile.specs.declared.instructions.Part.TheVariants.{New, Old, Void, Integer, Atom, Inner}
use Rattle.iso_compile.specs.declared.control.Instruction.{Instruction}
use Rattle.iso_compile.specs.declared.control.Instruction.TheVariants.{Call, Execute, Is, Compare, Proceed, Cut, GetLevel, TryElse, Jump}
use Rattle.iso_compile.specs.declared.births.Span.{Span}
use Rattle.iso_compile.specs.Emitted.{IsMarked, met_after, AreMarked, met_behind, is_met}
use Rattle.iso_compile.specs.Emitting.{is_placed, all_placed}
use Rattle.iso_compile.specs.Expressions.{step_parts}
use Rattle.iso_compile.specs.Evaluations.{ComesTo}
use Rattle.iso_compile.specs.Control.{Member, own_parts, IsRight, AreRight, IsBehind, AreBehind, NoneNew, IsOld, AreOld, Does, Continues, proceeds, executes, calls, answers, cuts, cuts_back, joins, tries, commits, chooses, jumps}
use Rattle.iso_compile.specs.Ways.{kept_behind, IsStraight, Ways}
use Rattle.iso_compile.specs.Ways as way
use Rattle.iso_compile.specs.Births.{has, span_at, AreSpans, target, AreSources, AreBarriers, BornAt, Births, BeginsWith}
use Rattle.iso_compile.proofs.VoidLemmas.{placed_at, some_place}
use Rattle.iso_compile.proofs.BirthLemmas.{same_at, has_append}

-- ---- marks of parts

has_itself : (x : ℕ) (b : Bool) → (if x == x then true else b) ≡ true
has_itself x b = rw (eq-eqb x x refl) refl

has_rest : (c b : Bool) → b ≡ true → (if c then true else b) ≡ true
has_rest true b h = refl
has_rest false b h = h

module _ (places : List Place) where
  -- the marks are right where the same of their variables are met
  same_marks : (ps : List Part) (met other : ℕ → Bool) → ((x : ℕ) → has x ps ≡ true → met x ≡ other x) → AreMarked places other ps → AreMarked places met ps
  same_marks [] met other same h = tt
  same_marks (New x place ∷ ps) met other same h = (
    (same x (has_itself x (has x ps)) ∙ h.0.0, h.0.1, h.0.2),
    same_marks ps (met_after met (New x place)) (met_after other (New x place)) (λ y is. ap (λ b. if y == x then true else b) (same y (has_rest (x == y) (has y ps) is))) h.1,
  )
  same_marks (Old x place ∷ ps) met other same h = (
    (same x (has_itself x (has x ps)) ∙ h.0.0, h.0.1),
    same_marks ps met other (λ y is. same y (has_rest (x == y) (has y ps) is)) h.1,
  )
  same_marks (Void x ∷ ps) met other same h = (
    (same x (has_itself x (has x ps)) ∙ h.0.0, h.0.1),
    same_marks ps (met_after met (Void x)) (met_after other (Void x)) (λ y is. ap (λ b. if y == x then true else b) (same y (has_rest (x == y) (has y ps) is))) h.1,
  )
  same_marks (Integer z ∷ ps) met other same h = (tt, same_marks ps met other same h.1)
  same_marks (Atom a ∷ ps) met other same h = (tt, same_marks ps met other same h.1)
  same_marks (Inner r ∷ ps) met other same h = (tt, same_marks ps met other same h.1)

  -- where all variables that have a place are met, no part is new
  abbrev AllMet : (ℕ → Bool) → Type 0
  AllMet met = (x : ℕ) → all_placed places x ≡ true → met x ≡ true

  none_new : (met : ℕ → Bool) (x : ℕ) (place : Place) → AllMet met → IsMarked places met (New x place) → ⊥
  none_new met x place all h = true≢false (sym (all x (placed_at places x place h.1 ∙ some_place place h.2)) ∙ h.0)

  after_met : (met : ℕ → Bool) (p : Part) → AllMet met → AllMet (met_after met p)
  after_met met (New y place) all x h = has_rest (x == y) (met x) (all x h)
  after_met met (Old y place) all x h = all x h
  after_met met (Void y) all x h = has_rest (x == y) (met x) (all x h)
  after_met met (Integer z) all x h = all x h
  after_met met (Atom a) all x h = all x h
  after_met met (Inner r) all x h = all x h

  -- not one of several
  none_are_new : (ps : List Part) (met : ℕ → Bool) → AllMet met → AreMarked places met ps → NoneNew ps
  none_are_new [] met all h = tt
  none_are_new (New x place ∷ ps) met all h = absurd (none_new met x place all h.0)
  none_are_new (Old x place ∷ ps) met all h = none_are_new ps met all h.1
  none_are_new (Void x ∷ ps) met all h = none_are_new ps (met_after met (Void x)) (after_met met (Void x) all) h.1
  none_are_new (Integer z ∷ ps) met all h = none_are_new ps met all h.1
  none_are_new (Atom a ∷ ps) met all h = none_are_new ps met all h.1
  none_are_new (Inner r ∷ ps) met all h = none_are_new ps met all h.1

  -- so nothing gets a value
  kept_same : (ps : List Part) (other met : ℕ → Bool) → AllMet other → AreMarked places other ps → (x : ℕ) → kept_behind met ps x ≡ met x
  kept_same [] other met all h x = refl
  kept_same (New y place ∷ ps) other met all h x = absurd (none_new other y place all h.0)
  kept_same (Old y place ∷ ps) other met all h x = kept_same ps other met all h.1 x
  kept_same (Void y ∷ ps) other met all h x = kept_same ps (met_after other (Void y)) met (after_met other (Void y) all) h.1 x
  kept_same (Integer z ∷ ps) other met all h x = kept_same ps other met all h.1 x
  kept_same (Atom a ∷ ps) other met all h x = kept_same ps other met all h.1 x
  kept_same (Inner r ∷ ps) other met all h x = kept_same ps other met all h.1 x

  -- the last part
  marks_first : (ps : List Part) (p : Part) (met : ℕ → Bool) → AreMarked places met (ps ++ p ∷ []) → AreMarked places met ps × IsMarked places (met_behind met ps) p
  marks_first [] p met h = (tt, h.0)
  marks_first (q ∷ ps) p met h = let rest = marks_first ps p (met_after met q) h.1 in ((h.0, rest.0), rest.1)

  marks_last : (ps : List Part) (p : Part) (met : ℕ → Bool) → AreMarked places met ps → IsMarked places (met_behind met ps) p → AreMarked places met (ps ++ p ∷ [])
  marks_last [] p met h k = (k, tt)
  marks_last (q ∷ ps) p met h k = (h.0, marks_last ps p (met_after met q) h.1 k)

  behind_met : (ps : List Part) (met : ℕ → Bool) → AllMet met → AllMet (met_behind met ps)
  behind_met [] met all = all
  behind_met (p ∷ ps) met all = behind_met ps (met_after met p) (after_met met p all)

-- a variable that is none of the parts is met behind them as before
behind_same : (ps : List Part) (met : ℕ → Bool) (x : ℕ) → has x ps ≡ false → met_behind met ps x ≡ met x
behind_same [] met x none = refl
behind_same (New y place ∷ ps) met x none = elim (cases_Bool (y == x)) [
  | inl same ↦ absurd (true≢false (sym (rw same refl) ∙ none))
  | inr other ↦ behind_same ps (met_after met (New y place)) x (sym (rw other refl) ∙ none) ∙ apart y other
]
  where
    apart : (z : ℕ) → (z == x) ≡ false → met_after met (New z place) x ≡ met x
    apart z other = elim (cases_Bool (x == z)) [
      | inl same ↦ absurd (true≢false (sym (eq-eqb z x (sym (eqb-true x z same))) ∙ other))
      | inr none ↦ rw none refl
    ]
behind_same (Old y place ∷ ps) met x none = elim (cases_Bool (y == x)) [
  | inl same ↦ absurd (true≢false (sym (rw same refl) ∙ none))
  | inr other ↦ behind_same ps met x (sym (rw other refl) ∙ none)
]
behind_same (Void y ∷ ps) met x none = elim (cases_Bool (y == x)) [
  | inl same ↦ absurd (true≢false (sym (rw same refl) ∙ none))
  | inr other ↦ behind_same ps (met_after met (Void y)) x (sym (rw other refl) ∙ none) ∙ apart y other
]
  where
    apart : (z : ℕ) → (z == x) ≡ false → met_after met (Void z) x ≡ met x
    apart z other = elim (cases_Bool (x == z)) [
      | inl same ↦ absurd (true≢false (sym (eq-eqb z x (sym (eqb-true x z same))) ∙ other))
      | inr none ↦ rw none refl
    ]
behind_same (Integer z ∷ ps) met x none = behind_same ps met x none
behind_same (Atom a ∷ ps) met x none = behind_same ps met x none
behind_same (Inner r ∷ ps) met x none = behind_same ps met x none

kept_last : (ps : List Part) (met : ℕ → Bool) (y : ℕ) (place : Place) (x : ℕ) → kept_behind met (ps ++ New y place ∷ []) x ≡ (if x == y then true else kept_behind met ps x)
kept_last [] met y place x = refl
kept_last (New z q ∷ ps) met y place x = kept_last ps (λ k. if k == z then true else met k) y place x
kept_last (Old z q ∷ ps) met y place x = kept_last ps met y place x
kept_last (Void z ∷ ps) met y place x = kept_last ps met y place x
kept_last (Integer z ∷ ps) met y place x = kept_last ps met y place x
kept_last (Atom a ∷ ps) met y place x = kept_last ps met y place x
kept_last (Inner r ∷ ps) met y place x = kept_last ps met y place x

has_first : (x : ℕ) (ps : List Part) (p : Part) → has x ps ≡ true → has x (ps ++ p ∷ []) ≡ true
has_first x ps p h = has_append x ps (p ∷ []) ∙ ap (λ b. if b then true else has x (p ∷ [])) h

-- ---- code of which some variables are born

abbrev is_arithmetic : Instruction → Bool
is_arithmetic (Is p ks) = true
is_arithmetic i = false

abbrev new_variable : Instruction → ℕ
new_variable (Is (New x place) ks) = x
new_variable i = 0

right_at : (plan : Layout) (code : List Instruction) (a : ℕ) (i : Instruction) → AreRight plan code → slice_get code a ≡ Some i → IsRight plan i
right_at plan [] a i right at = absurd (cc at)
right_at plan (j ∷ code) zero i right at = subst (IsRight plan) (cc at) right.0
right_at plan (j ∷ code) (suc a) i right at = right_at plan code a i right.1 at

span_past : (us : List Span) (x : ℕ) → length us ≤ x → (span_at us x).low ≡ 0
span_past [] x far = refl
span_past (u ∷ us) zero far = absurd (omega (arith, far))
span_past (u ∷ us) (suc x) far = span_past us x (omega (arith, far))

all_behind : (low : ℕ) (code : List Instruction) → ((a : ℕ) (i : Instruction) → slice_get code a ≡ Some i → IsBehind low i) → AreBehind low code
all_behind low [] each = tt
all_behind low (i ∷ code) each = (each 0 i refl, all_behind low code (λ a j at. each (suc a) j at))

all_old : (code : List Instruction) → ((a : ℕ) (i : Instruction) → slice_get code a ≡ Some i → IsOld i) → AreOld code
all_old [] each = tt
all_old (i ∷ code) each = (each 0 i refl, all_old code (λ a j at. each (suc a) j at))

-- a call that is right has no new variable
is_old : (places : List Place) (i : Instruction) → AreMarked places (all_placed places) (own_parts i) → IsOld i
is_old places (Call c) marked = none_are_new places (own_parts (Call c)) (all_placed places) (λ x placed. placed) marked
is_old places (Execute c) marked = none_are_new places (own_parts (Execute c)) (all_placed places) (λ x placed. placed) marked
is_old places (Is p ks) marked = tt
is_old places (Compare c ks) marked = tt
is_old places Proceed marked = tt
is_old places (Cut m) marked = tt
is_old places (GetLevel k) marked = tt
is_old places (TryElse l) marked = tt
is_old places (Jump l) marked = tt

straight : (i : Instruction) (t : Tree) → ComesTo i t → IsStraight i
straight (Is p ks) t comes = tt
straight (Compare c ks) t comes = tt
straight (Call c) t comes = tt
straight (Execute c) t comes = absurd comes
straight Proceed t comes = absurd comes
straight (Cut m) t comes = tt
straight (GetLevel k) t comes = tt
straight (TryElse l) t comes = absurd comes
straight (Jump l) t comes = absurd comes

module _ (spans : List Span) (barriers : List ℕ) (met : List Bool) (old new : List Instruction) (born : List Bool) (h : Births spans barriers met old new born) where
  -- what isn't `is/2` stays
  stays : (a : ℕ) (i : Instruction) → At old a i → is_arithmetic i ≡ false → At new a i
  stays a i at other = elim (h.still a i at) [
    | inl same ↦ same
    | inr there ↦ absurd (true≢false (sym (ap is_arithmetic there.was) ∙ other))
  ]

  pub continues_born : {plan : Layout} {a : ℕ} {ms : List Member} → Continues plan old a ms → Continues plan new a ms
  continues_born (proceeds {a = a} at) = proceeds (stays a Proceed at refl)
  continues_born (executes {a = a} {c = c} at is) = executes (stays a (Execute c) at refl) is
  continues_born (calls {a = a} {c = c} at is rest) = calls (stays (suc a) (Call c) at refl) is (continues_born rest)
  continues_born (answers {a = a} {i = i} {t = t} at is rest) = elim (h.still (suc a) i at) [
    | inl same ↦ answers same is (continues_born rest)
    | inr there ↦ answers there.is (subst (λ j. ComesTo j t) there.was is) (continues_born rest)
  ]
  continues_born (cuts {a = a} {m = m} at rest) = cuts (stays (suc a) (Cut m) at refl) (continues_born rest)
  continues_born (cuts_back {a = a} {m = m} at rest) = cuts_back (stays (suc a) (Cut m) at refl) (continues_born rest)
  continues_born (joins inner) = joins (continues_born inner)
  continues_born (tries {a = a} {l = l} at low here there) = tries (stays (suc a) (TryElse l) at refl) low (continues_born here) (continues_born there)
  continues_born (commits {a = a} {k = k} at above older here) = commits (stays (suc a) (GetLevel k) at refl) above older (continues_born here)
  continues_born (chooses {a = a} {k = k} {l = l} at next low above older here there) =
      chooses (stays (suc (suc a)) (GetLevel k) at refl) (stays (suc a) (TryElse l) next refl) low above older (continues_born here) (continues_born there)
  continues_born (jumps {a = a} {l = l} at low there) = jumps (stays a (Jump l) at refl) low (continues_born there)

  module _ (plan : Layout) (sources : List ℕ) (right : AreRight plan old) (are_spans : AreSpans old spans) (are_sources : AreSources old sources) (are_barriers : AreBarriers sources barriers) (many : length spans ≡ length plan.places) (long : length sources ≡ length old) where
    abbrev places : List Place
    places = plan.places

    abbrev low : ℕ → ℕ
    low x = (span_at spans x).low

    abbrev high : ℕ → ℕ
    high x = (span_at spans x).high

    -- which variables have a value at this address: none that is born here or behind it; else each that is still to come
    abbrev Fit : ℕ → (ℕ → Bool) → Type 0
    Fit a has_value = (x : ℕ) → (get_or born x false ≡ true → high x ≤ a → has_value x ≡ false) × ((get_or born x false ≡ false) ⊎ (a < high x) → low x ≤ a → has_value x ≡ all_placed places x)

    occurs_within : (a : ℕ) (i : Instruction) (x : ℕ) → At old a i → has x (own_parts i) ≡ true → (low x ≤ a) × (get_or born x false ≡ true → a ≤ high x)
    occurs_within a i x at occurs = elim (cases_Bool (nat_lt x (length spans))) [
      | inl inside ↦ (let both = are_spans a i x at occurs (ltb-true x (length spans) inside) in (both.0, λ is. both.1))
      | inr outside ↦ (
          let far = ltb-false x (length spans) outside in
          let none = span_past spans x far in
          (omega (arith, none), λ is. absurd (let within = (h.at x is).3.within in omega (arith, within, far))))
    ]

    -- an instruction that is right in the old code gives no variable its value
    none_here : (a : ℕ) (i : Instruction) → At new a i → AreMarked places (all_placed places) (own_parts i) → (x : ℕ) → get_or born x false ≡ true → high x ≡ a → ⊥
    none_here a i at marked x is here =
        let there = h.at x is in
        let same : i ≡ Is (New x there.0) there.1 = same_at new a i (Is (New x there.0) there.1) at.is (ap (slice_get new) (sym here) ∙ there.2.is) in
        let marks = subst (λ j. AreMarked places (all_placed places) (own_parts j)) same marked in
        none_new places (met_behind (all_placed places) (step_parts there.1.items)) x there.0 (behind_met places (step_parts there.1.items) (all_placed places) (λ y placed. placed))
        (marks_first places (step_parts there.1.items) (New x there.0) (all_placed places) marks).1

    fit_same : (a : ℕ) (one other : ℕ → Bool) → ((x : ℕ) → other x ≡ one x) → Fit a one → Fit a other
    fit_same a one other same fit x = ((λ is below. same x ∙ (fit x).0 is below), (λ before above. same x ∙ (fit x).1 before above))

    -- the same variables are met where none of the instruction's own is born
    met_there : (a : ℕ) (i : Instruction) (has_value : ℕ → Bool) → At old a i → Fit a has_value → (x : ℕ) → has x (own_parts i) ≡ true → (get_or born x false ≡ true → high x ≡ a → ⊥) → has_value x ≡ all_placed places x
    met_there a i has_value at fit x occurs apart =
        let both = occurs_within a i x at occurs in elim (cases_Bool (get_or born x false)) [
          | inl is ↦ (fit x).1 (inr (let e = apart is in let up = both.1 is in omega (arith, e, up))) both.0
          | inr none ↦ (fit x).1 (inl none) both.0
        ]

    fit_next : (a : ℕ) (has_value : ℕ → Bool) → Fit (suc a) has_value → ((x : ℕ) → get_or born x false ≡ true → high x ≡ suc a → ⊥) → Fit a has_value
    fit_next a has_value fit apart x = (
      (λ is below. (fit x).0 is (omega (arith, below))),
      (λ before above. elim (cases_Bool (get_or born x false)) [
        | inl is ↦ (fit x).1 (inr (elim before [
          | inl none ↦ absurd (true≢false (sym is ∙ none))
          | inr up ↦ (let e = apart x is in omega (arith, e, up))
        ])) (omega (arith, above))
        | inr none ↦ (fit x).1 (inl none) (omega (arith, above))
      ]),
    )

    -- the code goes on elsewhere
    fit_there : (a l : ℕ) (i : Instruction) (has_value : ℕ → Bool) → At old a i → At new a i → AreMarked places (all_placed places) (own_parts i) → target i ≡ Some l → l < a → Fit a has_value → Fit l has_value
    fit_there a l i has_value at there marked goes down fit x = (
      (λ is below. (fit x).0 is (omega (arith, below, down))),
      (λ before above. elim (cases_Bool (get_or born x false)) [
        | inr none ↦ (fit x).1 (inl none) (omega (arith, above, down))
        | inl is ↦ elim before [
          | inl none ↦ absurd (true≢false (sym is ∙ none))
          | inr up ↦ (fit x).1 (inr (passed x is up above)) (omega (arith, above, down))
        ]
      ]),
    )
      where
        passed : (x : ℕ) → get_or born x false ≡ true → l < high x → low x ≤ l → a < high x
        passed x is up above =
            let b = (h.at x is).3 in
            let inside = at_within old a i at in
            let source : slice_get sources l ≡ Some (get_or sources l 0) = slice_get-get_or sources l 0 (omega (arith, down, inside, long)) in
            let from = are_sources a i l (get_or sources l 0) at goes source in
            let barrier = are_barriers (high x) (get_or barriers (high x) 0) (slice_get-get_or barriers (high x) 0 b.inside) in
            let stop = b.barrier in
            elim (cases_Bool (nat_lt (high x) a)) [
              | inl over ↦ absurd (let below = barrier.1 l (get_or sources l 0) up source (let o = ltb-true (high x) a over in omega (arith, o, from)) in omega (arith, below, stop, above))
              | inr not ↦ (let e = none_here a i there marked x is in let n = ltb-false (high x) a not in omega (arith, e, n))
            ]

    -- an instruction behind which the next one is done
    step : (a : ℕ) (i : Instruction) → At old (suc a) i → IsStraight i → ((has_value : ℕ → Bool) → Fit a has_value → Ways places new a has_value) → (has_value : ℕ → Bool) → Fit (suc a) has_value → Ways places new (suc a) has_value
    step a i at is rest has_value fit = elim (h.still (suc a) i at) [
      | inl same ↦ (
          let none = none_here (suc a) i same marked in
          way.goes_on same is (same_marks places (own_parts i) has_value (all_placed places) (λ x occurs. met_there (suc a) i has_value at fit x occurs (none x)) marked)
          (rest (kept_behind has_value (own_parts i)) (fit_same a has_value (kept_behind has_value (own_parts i)) (kept_same places (own_parts i) (all_placed places) has_value (λ x placed. placed) marked) (fit_next a has_value fit none))))
      | inr b ↦ gives b
    ]
      where
        marked : AreMarked places (all_placed places) (own_parts i)
        marked = (right_at plan old (suc a) i right at.is).marked

        gives : BornAt spans barriers met new born (suc a) i → Ways places new (suc a) has_value
        gives b =
            let ps = step_parts b.steps.items in
            let marks = marks_first places ps (Old b.variable b.place) (all_placed places) (subst (λ j. AreMarked places (all_placed places) (own_parts j)) b.was marked) in
            let within : b.variable < length places = (let w = b.birth.within in omega (arith, w, many)) in
            let place_is : slice_get places b.variable ≡ Some b.place = marks.1.1 within in
            let placed : all_placed places b.variable ≡ true = placed_at places b.variable b.place place_is ∙ b.birth.placed in
            let alone : (x : ℕ) → get_or born x false ≡ true → high x ≡ suc a → x ≡ b.variable = (λ x is here. (let there = h.at x is in
            ap new_variable (same_at new (suc a) (Is (New x there.0) there.1) (Is (New b.variable b.place) b.steps) (ap (slice_get new) (sym here) ∙ there.2.is) b.is.is))) in
            let own : (x : ℕ) → has x ps ≡ true → has_value x ≡ all_placed places x = (λ x occurs. met_there (suc a) i has_value at fit x (ap (λ j. has x (own_parts j)) b.was ∙ has_first x ps (Old b.variable b.place) occurs)
            (λ is here. true≢false (sym occurs ∙ ap (λ y. has y ps) (alone x is here) ∙ b.birth.apart))) in
            let unmet : has_value b.variable ≡ false = (fit b.variable).0 b.known (let e = b.birth.high in omega (arith, e)) in
            way.goes_on b.is tt
            (marks_last places ps (New b.variable b.place) has_value (same_marks places ps has_value (all_placed places) own marks.0)
            (behind_same ps has_value b.variable b.birth.apart ∙ unmet, place_is, λ e. true≢false (sym b.birth.placed ∙ ap is_placed e)))
            (rest (kept_behind has_value (ps ++ New b.variable b.place ∷ []))
            (fit_same a (λ x. if x == b.variable then true else has_value x) (kept_behind has_value (ps ++ New b.variable b.place ∷ []))
            (λ x. kept_last ps has_value b.variable b.place x ∙ ap (λ c. if x == b.variable then true else c) (kept_same places ps (all_placed places) has_value (λ y is. is) marks.0 x))
            (fit_given b placed alone)))
          where
            fit_given : (b : BornAt spans barriers met new born (suc a) i) → all_placed places b.variable ≡ true → ((x : ℕ) → get_or born x false ≡ true → high x ≡ suc a → x ≡ b.variable) → Fit a (λ x. if x == b.variable then true else has_value x)
            fit_given b placed alone x = elim (cases_Bool (x == b.variable)) [
              | inl same ↦ (
                  let e = eqb-true x b.variable same in
                  let up : high x ≡ suc a = ap high e ∙ b.birth.high in
                  ((λ is below. absurd (omega (arith, up, below))), (λ before above. rw same (sym (ap (all_placed places) e ∙ placed)))))
              | inr other ↦ (
                  let apart : get_or born x false ≡ true → high x ≡ suc a → ⊥ = (λ is here. true≢false (sym (eq-eqb x b.variable (alone x is here)) ∙ other)) in (
                    (λ is below. rw other ((fit x).0 is (omega (arith, below)))),
                    (λ before above. rw other (elim (cases_Bool (get_or born x false)) [
                      | inl is ↦ (fit x).1 (inr (elim before [
                        | inl none ↦ absurd (true≢false (sym is ∙ none))
                        | inr up ↦ (let e = apart is in omega (arith, e, up))
                      ])) (omega (arith, above))
                      | inr none ↦ (fit x).1 (inl none) (omega (arith, above))
                    ])),
                  ))
            ]

    pub ways_born : {a : ℕ} {ms : List Member} → Continues plan old a ms → (has_value : ℕ → Bool) → Fit a has_value → Ways places new a has_value
    ways_born (proceeds {a = a} at) has_value fit = way.ends (stays a Proceed at refl)
    ways_born (executes {a = a} {c = c} at is) has_value fit =
        let marked = (right_at plan old a (Execute c) right at.is).marked in
        let there = stays a (Execute c) at refl in
        way.executes there (same_marks places (own_parts (Execute c)) has_value (all_placed places) (λ x occurs. met_there a (Execute c) has_value at fit x occurs (none_here a (Execute c) there marked x)) marked)
    ways_born (calls {a = a} {c = c} at is rest) has_value fit = step a (Call c) at tt (λ more fits. ways_born rest more fits) has_value fit
    ways_born (answers {a = a} {i = i} {t = t} at is rest) has_value fit = step a i at (straight i t is) (λ more fits. ways_born rest more fits) has_value fit
    ways_born (cuts {a = a} {m = m} at rest) has_value fit = step a (Cut m) at tt (λ more fits. ways_born rest more fits) has_value fit
    ways_born (cuts_back {a = a} {m = m} at rest) has_value fit = step a (Cut m) at tt (λ more fits. ways_born rest more fits) has_value fit
    ways_born (joins inner) has_value fit = ways_born inner has_value fit
    ways_born (tries {a = a} {l = l} at down here there) has_value fit =
        let new_at = stays (suc a) (TryElse l) at refl in
        way.tries new_at (ways_born here has_value (fit_next a has_value fit (none_here (suc a) (TryElse l) new_at tt))) (ways_born there has_value (fit_there (suc a) l (TryElse l) has_value at new_at tt refl (omega (arith, down)) fit))
    ways_born (commits {a = a} {k = k} at above older here) has_value fit = step a (GetLevel k) at tt (λ more fits. ways_born here more fits) has_value fit
    ways_born (chooses {a = a} {k = k} {l = l} at next down above older here there) has_value fit =
        step (suc a) (GetLevel k) at tt (λ more fits. (
        let new_at = stays (suc a) (TryElse l) next refl in
        way.tries new_at (ways_born here more (fit_next a more fits (none_here (suc a) (TryElse l) new_at tt))) (ways_born there more (fit_there (suc a) l (TryElse l) more next new_at tt refl (omega (arith, down)) fits)))) has_value fit
    ways_born (jumps {a = a} {l = l} at down there) has_value fit =
        let new_at = stays a (Jump l) at refl in
        way.jumps new_at (ways_born there has_value (fit_there a l (Jump l) has_value at new_at tt refl down fit))

    pub does_ways : (ms : List Member) (entry : ℕ → Bool) → Does plan old ms → BeginsWith places born entry → Ways places new (length new - 1) entry
    does_ways ms entry does begins =
        let start : length old - 1 ≡ length new - 1 = ap (λ n. n - 1) (sym h.long) in
        subst (λ a. Ways places new a entry) start (ways_born does.goes entry fit)
      where
        fit : Fit (length old - 1) entry
        fit x = (
          (λ is below. begins x ∙ rw is refl),
          (λ before above. elim (cases_Bool (get_or born x false)) [
            | inr none ↦ begins x ∙ rw none refl
            | inl is ↦ absurd (elim before [
              | inl none ↦ true≢false (sym is ∙ none)
              | inr up ↦ (let inside = slice_get_within new (high x) (Is (New x (h.at x is).0) (h.at x is).1) (h.at x is).2.is in let same = h.long in omega (arith, up, inside, same))
            ])
          ]),
        )

  pub does_born : (plan : Layout) (ms : List Member) → Does plan old ms → Does plan new ms
  does_born plan ms does =
      let long : length new ≡ length old = h.long in
      let some = does.some in
      record { some = omega (arith, long, some); goes = subst (λ n. Continues plan new (n - 1) ms) (sym long) (continues_born does.goes) }

  pub unmet_born : (x : ℕ) → get_or born x false ≡ true → is_met met x ≡ false
  unmet_born x is = (h.at x is).3.unmet

  -- what holds of each instruction that is right, and of each `is/2`
  each_born : (layout : Layout) (P : Instruction → Type 0) → ((i : Instruction) → IsRight layout i → P i) → ((p : Part) (ks : _) → P (Is p ks)) → AreRight layout old → (a : ℕ) (i : Instruction) → slice_get new a ≡ Some i → P i
  each_born layout P of_right of_is right a i at =
      let long : length new ≡ length old = h.long in
      let inside = slice_get_within new a i at in
      let was = slice_get-get_or old a Proceed (omega (arith, inside, long)) in
      elim (h.still a (get_or old a Proceed) (record { is = was })) [
        | inl same ↦ subst P (same_at new a (get_or old a Proceed) i same.is at) (of_right (get_or old a Proceed) (right_at layout old a (get_or old a Proceed) right was))
        | inr b ↦ subst P (same_at new a (Is (New b.variable b.place) b.steps) i b.is.is at) (of_is (New b.variable b.place) b.steps)
      ]

  pub behind_born : (layout : Layout) → AreRight layout old → AreBehind layout.registers new
  behind_born layout right = all_behind layout.registers new (each_born layout (IsBehind layout.registers) (λ i r. r.behind) (λ p ks. tt) right)

  pub old_born : (layout : Layout) → AreRight layout old → AreOld new
  old_born layout right = all_old new (each_born layout IsOld (λ i r. is_old layout.places i r.marked) (λ p ks. tt) right)
