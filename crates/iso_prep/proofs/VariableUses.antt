-- What is noted of each variable is how the definitions say that it is used.
use Rattle.std.proofs.Common.{◌≡◌, ℕ, zero, suc, ◌+◌, ◌<◌, min, List, [], ◌∷◌, ◌++◌, length, get_or, Bool, true, false, ◌||◌, ◌==◌, nat_lt, refl, sym, ap, ap₂, ◌∙◌, arith, inl, inr, Some, replicate, if◌then◌else◌, append_assoc, length-append}
use Rattle.std.proofs.lemmas.Bool.{cases_Bool, true≢false, eqb-true, eq-eqb, lt-ltb}
use Rattle.std.proofs.lemmas.List.{length-set, get_or-set_same, get_or-set_other, get_or-replicate, append-nil, length-replicate}
use Rattle.std.proofs.lemmas.Option.{slice_get-get_or}
use Rattle.iso_model.specs.Terms.Trees.{Tree, Variable, Integer, Name, Apply, End, More, row}
use Rattle.iso_model.specs.Terms.Variables.{occurs}
use Rattle.iso_prep.specs.declared.uses.Use.{Use}
use Rattle.iso_prep.specs.Classes.{occurrences, last_from, last_goal}
use Rattle.iso_prep.specs.Uses.{unused, noted, with_use, with_term, with_goals, first_from, use_of, AreUses}

-- ---- one variable's use behind so many occurrences in one goal

abbrev again : ℕ → ℕ → Use → Use
again zero place u = u
again (suc k) place u = again k place (noted place u)

again_add : (m n place : ℕ) (u : Use) → again (m + n) place u ≡ again n place (again m place u)
again_add zero n place u =
    let e : zero + n ≡ n = omega arith in
    ap (λ k. again k place u) e
again_add (suc m) n place u =
    let e : suc m + n ≡ suc (m + n) = omega arith in
    ap (λ k. again k place u) e ∙ again_add m n place (noted place u)

-- ---- the list of uses at one place

length-use : (place x : ℕ) (us : List Use) → length (with_use place x us) ≡ length us
length-use place x us = length-set us x (noted place (get_or us x unused))

pub length-term : (place : ℕ) (t : Tree) (us : List Use) → length (with_term place t us) ≡ length us
length-term place (Variable n) us = length-use place n us
length-term place (Integer z) us = refl
length-term place (Name a) us = refl
length-term place (Apply f ts) us = length-term place ts us
length-term place End us = refl
length-term place (More t ts) us = length-term place ts (with_term place t us) ∙ length-term place t us

pub length-goals : (number : ℕ) (gs : List Tree) (us : List Use) → length (with_goals number gs us) ≡ length us
length-goals number [] us = refl
length-goals number (g ∷ gs) us = length-goals (number + 1) gs (with_term number g us) ∙ length-term number g us

at_variable : (place n x : ℕ) (us : List Use) → x < length us → get_or (with_use place n us) x unused ≡ again (occurrences x (Variable n)) place (get_or us x unused)
at_variable place n x us h =
    elim (cases_Bool (n == x)) [
      | inl same ↦ rw same (ap (λ m. get_or (with_use place m us) x unused) (eqb-true n x same) ∙ get_or-set_same us x (noted place (get_or us x unused)) unused h)
      | inr other ↦ rw other (get_or-set_other us n x (noted place (get_or us n unused)) unused (λ e. true≢false (sym (eq-eqb n x (sym e)) ∙ other)))
    ]

at_term : (place : ℕ) (t : Tree) (x : ℕ) (us : List Use) → x < length us → get_or (with_term place t us) x unused ≡ again (occurrences x t) place (get_or us x unused)
at_term place (Variable n) x us h = at_variable place n x us h
at_term place (Integer z) x us h = refl
at_term place (Name a) x us h = refl
at_term place (Apply f ts) x us h = at_term place ts x us h
at_term place End x us h = refl
at_term place (More t ts) x us h =
    let long = length-term place t us in
    at_term place ts x (with_term place t us) (omega arith) ∙ ap (again (occurrences x ts) place) (at_term place t x us h) ∙ sym (again_add (occurrences x t) (occurrences x ts) place (get_or us x unused))

-- ---- an occurrence and more in one goal

or_twice : (a b : Bool) → (a || b) || b ≡ a || b
or_twice true b = refl
or_twice false true = refl
or_twice false false = refl

kept_first : ℕ → ℕ → ℕ
kept_first place f = if f == 0 then place else f

first_twice : (place f : ℕ) → kept_first place (kept_first place f) ≡ kept_first place f
unfolding kept_first
first_twice place f =
    elim (cases_Bool (f == 0)) [
      | inl none ↦ rw none (same_either (place == 0) place)
      | inr some ↦ rw (some, some) refl
    ]
  where
    same_either : (b : Bool) (n : ℕ) → (if b then n else n) ≡ n
    same_either true n = refl
    same_either false n = refl

use_with : ℕ → Bool → ℕ → ℕ → Use
use_with t h f l = record { times = t; in_head = h; first = f; last = l }

uses_same : (t s : ℕ) (h g : Bool) (f e l : ℕ) → t ≡ s → h ≡ g → f ≡ e → use_with t h f l ≡ use_with s g e l
uses_same t s h g f e l p q r = ap₂ (λ a b. use_with a b f l) p q ∙ ap (λ c. use_with s g c l) r

again_suc : (k place : ℕ) (u : Use) → again (suc k) place u ≡ use_with (min 2 (u.times + suc k)) (u.in_head || place == 0) (kept_first place u.first) place
unfolding use_with kept_first
again_suc zero place u = refl
again_suc (suc k) place u =
    let next : Use = noted place u in
    let count : min 2 (min 2 (u.times + 1) + suc k) ≡ min 2 (u.times + suc (suc k)) = omega arith in
    again_suc k place (noted place u)
    ∙ uses_same (min 2 (min 2 (u.times + 1) + suc k)) (min 2 (u.times + suc (suc k))) ((u.in_head || place == 0) || place == 0) (u.in_head || place == 0) (kept_first place (kept_first place u.first)) (kept_first place u.first) place
    count (or_twice u.in_head (place == 0)) (first_twice place u.first)

-- ---- occurrences in terms and in goals

some_of_sum : (a b : ℕ) → nat_lt 0 a || nat_lt 0 b ≡ nat_lt 0 (a + b)
some_of_sum zero b = let e : zero + b ≡ b = omega arith in ap (nat_lt 0) (sym e)
some_of_sum (suc a) b = ap (λ c. c || nat_lt 0 b) (lt-ltb 0 (suc a) (omega arith)) ∙ sym (lt-ltb 0 (suc a + b) (omega arith))

pub occurs_count : (x : ℕ) (t : Tree) → occurs x t ≡ nat_lt 0 (occurrences x t)
occurs_count x (Variable n) = elim (cases_Bool (n == x)) [ inl same ↦ rw same refl | inr other ↦ rw other refl ]
occurs_count x (Integer z) = refl
occurs_count x (Name a) = refl
occurs_count x (Apply f ts) = occurs_count x ts
occurs_count x End = refl
occurs_count x (More t ts) = ap₂ ◌||◌ (occurs_count x t) (occurs_count x ts) ∙ some_of_sum (occurrences x t) (occurrences x ts)

occurrences_push : (x : ℕ) (gs : List Tree) (g : Tree) → occurrences x (row (gs ++ g ∷ [])) ≡ occurrences x (row gs) + occurrences x g
occurrences_push x [] g = omega arith
occurrences_push x (y ∷ gs) g = omega (arith, occurrences_push x gs g)

last_push : (x n l : ℕ) (gs : List Tree) (g : Tree) → last_from x n l (gs ++ g ∷ []) ≡ (if occurs x g then n + length gs else last_from x n l gs)
last_push x n l [] g = let e : n ≡ n + 0 = omega arith in ap (λ m. if occurs x g then m else l) e
last_push x n l (y ∷ gs) g =
    let e : n + 1 + length gs ≡ n + length (y ∷ gs) = omega arith in
    last_push x (n + 1) (if occurs x y then n else l) gs g ∙ ap (λ m. if occurs x g then m else last_from x (n + 1) (if occurs x y then n else l) gs) e

not_zero : (n : ℕ) → 0 < n → n == 0 ≡ false
not_zero n h =
    elim (cases_Bool (n == 0)) [
      | inl none ↦ (let e = eqb-true n 0 none in absurd (omega arith))
      | inr some ↦ some
    ]

first_push : (x n : ℕ) (gs : List Tree) (g : Tree) → 0 < n → first_from x n (gs ++ g ∷ []) ≡ kept_first (if occurs x g then n + length gs else 0) (first_from x n gs)
unfolding kept_first
first_push x n [] g h = let e : n ≡ n + 0 = omega arith in ap (λ m. if occurs x g then m else 0) e
first_push x n (y ∷ gs) g h =
    elim (cases_Bool (occurs x y)) [
      | inl here ↦ rw (here, not_zero n h) refl
      | inr other ↦ (let e : n + 1 + length gs ≡ n + length (y ∷ gs) = omega arith in
          rw other (first_push x (n + 1) gs g (omega arith) ∙ ap (λ m. kept_first (if occurs x g then m else 0) (first_from x (n + 1) gs)) e))
    ]

-- ---- one goal more

or_false : (b : Bool) → b || false ≡ b
or_false true = refl
or_false false = refl

occurs_none : (x : ℕ) (t : Tree) → occurrences x t ≡ 0 → occurs x t ≡ false
occurs_none x t e = occurs_count x t ∙ ap (nat_lt 0) e

occurs_some : (x k : ℕ) (t : Tree) → occurrences x t ≡ suc k → occurs x t ≡ true
occurs_some x k t e = occurs_count x t ∙ ap (nat_lt 0) e ∙ lt-ltb 0 (suc k) (omega arith)

kept_none : (f : ℕ) → kept_first 0 f ≡ f
unfolding kept_first
kept_none f = elim (cases_Bool (f == 0)) [ inl none ↦ rw none (sym (eqb-true f 0 none)) | inr some ↦ rw some refl ]

module _ (x : ℕ) (head : Tree) where
  start : (k : ℕ) → occurrences x head ≡ k → again k 0 unused ≡ use_of x head []
  unfolding use_with
  start zero e =
      let count : 0 ≡ min 2 (occurrences x head + 0) = omega arith in
      uses_same 0 (min 2 (occurrences x head + 0)) false (occurs x head) 0 0 0 count (sym (occurs_none x head e)) refl
  start (suc k) e =
      let count : min 2 (0 + suc k) ≡ min 2 (occurrences x head + 0) = omega arith in
      again_suc k 0 unused ∙ uses_same (min 2 (0 + suc k)) (min 2 (occurrences x head + 0)) (false || 0 == 0) (occurs x head) (kept_first 0 0) 0 0 count (sym (occurs_some x k head e)) (kept_none 0)

  module _ (gs : List Tree) (g : Tree) where
    total : min 2 (occurrences x head + occurrences x (row (gs ++ g ∷ []))) ≡ min 2 (min 2 (occurrences x head + occurrences x (row gs)) + occurrences x g)
    total = let e = occurrences_push x gs g in omega arith

    goal_step : (k : ℕ) → occurrences x g ≡ k → again k (length gs + 1) (use_of x head gs) ≡ use_of x head (gs ++ g ∷ [])
    unfolding use_with
    goal_step zero e =
        let none = occurs_none x g e in
        let count : min 2 (occurrences x head + occurrences x (row gs)) ≡ min 2 (occurrences x head + occurrences x (row (gs ++ g ∷ []))) = (let all = total in omega arith) in
        let first : first_from x 1 (gs ++ g ∷ []) ≡ first_from x 1 gs = first_push x 1 gs g (omega arith) ∙ ap (λ b. kept_first (if b then 1 + length gs else 0) (first_from x 1 gs)) none ∙ kept_none (first_from x 1 gs) in
        let last : last_goal x (gs ++ g ∷ []) ≡ last_goal x gs = last_push x 1 0 gs g ∙ ap (λ b. if b then 1 + length gs else last_from x 1 0 gs) none in
        uses_same (min 2 (occurrences x head + occurrences x (row gs))) (min 2 (occurrences x head + occurrences x (row (gs ++ g ∷ [])))) (occurs x head) (occurs x head) (first_from x 1 gs) (first_from x 1 (gs ++ g ∷ [])) (last_goal x gs)
        count refl (sym first) ∙ ap (λ l. use_with (min 2 (occurrences x head + occurrences x (row (gs ++ g ∷ [])))) (occurs x head) (first_from x 1 (gs ++ g ∷ [])) l) (sym last)
    goal_step (suc k) e =
        let some = occurs_some x k g e in
        let here : 1 + length gs ≡ length gs + 1 = omega arith in
        let count : min 2 (min 2 (occurrences x head + occurrences x (row gs)) + suc k) ≡ min 2 (occurrences x head + occurrences x (row (gs ++ g ∷ []))) = (let all = total in omega arith) in
        let in_head : occurs x head || (length gs + 1) == 0 ≡ occurs x head = ap (λ b. occurs x head || b) (not_zero (length gs + 1) (omega arith)) ∙ or_false (occurs x head) in
        let first : first_from x 1 (gs ++ g ∷ []) ≡ kept_first (length gs + 1) (first_from x 1 gs) =
        first_push x 1 gs g (omega arith) ∙ ap (λ b. kept_first (if b then 1 + length gs else 0) (first_from x 1 gs)) some ∙ ap (λ n. kept_first n (first_from x 1 gs)) here in
        let last : last_goal x (gs ++ g ∷ []) ≡ length gs + 1 = last_push x 1 0 gs g ∙ ap (λ b. if b then 1 + length gs else last_from x 1 0 gs) some ∙ here in
        again_suc k (length gs + 1) (use_of x head gs)
        ∙ uses_same (min 2 (min 2 (occurrences x head + occurrences x (row gs)) + suc k)) (min 2 (occurrences x head + occurrences x (row (gs ++ g ∷ [])))) (occurs x head || (length gs + 1) == 0) (occurs x head)
        (kept_first (length gs + 1) (first_from x 1 gs)) (first_from x 1 (gs ++ g ∷ [])) (length gs + 1) count in_head (sym first)
        ∙ ap (λ l. use_with (min 2 (occurrences x head + occurrences x (row (gs ++ g ∷ [])))) (occurs x head) (first_from x 1 (gs ++ g ∷ [])) l) (sym last)

  goals_at : (gs done : List Tree) (n : ℕ) (us : List Use) → x < length us → get_or us x unused ≡ use_of x head done → n ≡ length done + 1 → get_or (with_goals n gs us) x unused ≡ use_of x head (done ++ gs)
  goals_at [] done n us h e place = e ∙ ap (use_of x head) (sym (append-nil done))
  goals_at (g ∷ gs) done n us h e place =
      let long = length-term n g us in
      let next : get_or (with_term n g us) x unused ≡ use_of x head (done ++ g ∷ []) =
      at_term n g x us h ∙ ap₂ (λ m u. again (occurrences x g) m u) place e ∙ goal_step done g (occurrences x g) refl in
      let count : n + 1 ≡ length (done ++ g ∷ []) + 1 = (let l = length-append done (g ∷ []) in omega arith) in
      goals_at gs (done ++ g ∷ []) (n + 1) (with_term n g us) (omega arith) next count ∙ ap (use_of x head) (append_assoc done (g ∷ []) gs)

  pub use_at : (gs : List Tree) (count : ℕ) → x < count → get_or (with_goals 1 gs (with_term 0 head (replicate count unused))) x unused ≡ use_of x head gs
  use_at gs count h =
      let many = length-replicate count unused in
      let long = length-term 0 head (replicate count unused) in
      goals_at gs [] 1 (with_term 0 head (replicate count unused)) (omega arith)
      (at_term 0 head x (replicate count unused) (omega arith) ∙ ap (again (occurrences x head) 0) (get_or-replicate count x unused unused h) ∙ start (occurrences x head) refl) refl

-- all uses are found
pub are_uses : (head : Tree) (gs : List Tree) (count : ℕ) (us : List Use) → us ≡ with_goals 1 gs (with_term 0 head (replicate count unused)) → AreUses us count head gs
are_uses head gs count us is =
    let many : length us ≡ count = ap length is ∙ length-goals 1 gs (with_term 0 head (replicate count unused)) ∙ length-term 0 head (replicate count unused) ∙ length-replicate count unused in
    record { many = many; each = λ x h. slice_get-get_or us x unused (omega arith) ∙ ap Some (ap (λ vs. get_or vs x unused) is ∙ use_at x head gs count h) }
