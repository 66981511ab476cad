-- Where variables occur in code, and which get their value from `is/2`.
use Rattle.std.proofs.Common.{◌≡◌, ◌⊎◌, ◌<◌, ◌≤◌, ◌+◌, ◌==◌, ℕ, zero, suc, List, [], ◌∷◌, ◌++◌, length, drop, get_or, Bool, true, false, Some, inl, inr, refl, sym, ap, ◌∙◌, subst, arith, if◌then◌else◌}
use Rattle.std.proofs.lemmas.Bool.{cases_Bool, cases_eq, eqb-true, true≢false, false≢true}
use Rattle.std.proofs.lemmas.List.{get_or-set_same, get_or-set_other, length-set}
use Rattle.std.proofs.lemmas.Option.{slice_get_within}
use Rattle.std.specs.List.{slice_get, slice_set}
use Rattle.iso_prep.specs.Trees.{At}
use Rattle.iso_alloc.specs.declared.places.Place.{Place}
use Rattle.iso_compile.specs.declared.instructions.Block.{Block}
use Rattle.iso_compile.specs.declared.instructions.Part.{Part}
use Rattle.iso_compile.specs.declared.instructions.Part.TheVariants.{New, Old, Void, Integer, Atom, Inner}
use Rattle.iso_compile.specs.declared.control.Instruction.{Instruction}
use Rattle.iso_compile.specs.declared.control.Instruction.TheVariants.{Is}
use Rattle.iso_compile.specs.declared.births.Span.{Span}
use Rattle.iso_compile.specs.declared.expressions.Step.{Step}
use Rattle.iso_compile.specs.Emitted.{all_parts}
use Rattle.iso_compile.specs.Expressions.{step_parts}
use Rattle.iso_compile.specs.Control.{own_parts}
use Rattle.iso_compile.specs.Births.{has, widened, span_at, with_variable, with_parts, with_code, AreSpans, target, IsBirth, BornAt, Births}
use Rattle.iso_compile.proofs.GoalLemmas.{one_left}
use Rattle.iso_compile.proofs.VoidLemmas.{step_first}

-- ---- an item is set

pub get_set : {X : Type 0} (xs : List X) (i : ℕ) (x : X) → i < length xs → slice_get (slice_set xs i x) i ≡ Some x
get_set [] i x low = absurd (omega (arith, low))
get_set (y ∷ xs) zero x low = refl
get_set (y ∷ xs) (suc i) x low = get_set xs i x (omega (arith, low))

pub get_other : {X : Type 0} (xs : List X) (i j : ℕ) (x : X) → (j ≡ i → ⊥) → slice_get (slice_set xs i x) j ≡ slice_get xs j
get_other [] i j x apart = refl
get_other (y ∷ xs) zero zero x apart = absurd (apart refl)
get_other (y ∷ xs) zero (suc j) x apart = refl
get_other (y ∷ xs) (suc i) zero x apart = refl
get_other (y ∷ xs) (suc i) (suc j) x apart = get_other xs i j x (λ e. apart (ap suc e))

-- ---- parts are gone through

parts_append : (a : ℕ) (ps qs : List Part) (us : List Span) → with_parts a (ps ++ qs) us ≡ with_parts a qs (with_parts a ps us)
parts_append a [] qs us = refl
parts_append a (New x place ∷ ps) qs us = parts_append a ps qs (with_variable a x us)
parts_append a (Old x place ∷ ps) qs us = parts_append a ps qs (with_variable a x us)
parts_append a (Void x ∷ ps) qs us = parts_append a ps qs (with_variable a x us)
parts_append a (Integer z ∷ ps) qs us = parts_append a ps qs us
parts_append a (Atom n ∷ ps) qs us = parts_append a ps qs us
parts_append a (Inner r ∷ ps) qs us = parts_append a ps qs us

module _ (a i : ℕ) (old new : List Span) where
  pub part_noted : (ps : List Part) (p : Part) → slice_get ps i ≡ Some p → new ≡ with_parts a (p ∷ []) old → with_parts a (drop (i + 1) ps) new ≡ with_parts a (drop i ps) old
  part_noted ps p is one = ap (with_parts a (drop (i + 1) ps)) one ∙ sym (parts_append a (p ∷ []) (drop (i + 1) ps) old) ∙ ap (λ qs. with_parts a qs old) (sym (one_left ps i p is))

  pub block_noted : (bs : List Block) (b : Block) → slice_get bs i ≡ Some b → new ≡ with_parts a b.parts.items old → with_parts a (all_parts (drop (i + 1) bs)) new ≡ with_parts a (all_parts (drop i bs)) old
  block_noted bs b is one =
      ap (with_parts a (all_parts (drop (i + 1) bs))) one ∙ sym (parts_append a b.parts.items (all_parts (drop (i + 1) bs)) old) ∙ ap (λ cs. with_parts a (all_parts cs) old) (sym (one_left bs i b is))

  pub step_noted : (ks : List Step) (k : Step) → slice_get ks i ≡ Some k → new ≡ with_parts a (step_parts (k ∷ [])) old → with_parts a (step_parts (drop (i + 1) ks)) new ≡ with_parts a (step_parts (drop i ks)) old
  step_noted ks k is one =
      ap (with_parts a (step_parts (drop (i + 1) ks))) one ∙ sym (parts_append a (step_parts (k ∷ [])) (step_parts (drop (i + 1) ks)) old)
      ∙ ap (λ qs. with_parts a qs old) (sym (ap step_parts (one_left ks i k is) ∙ step_first k (drop (i + 1) ks)))

-- two lists of parts, one after the other
pub twice_noted : (a : ℕ) (ps qs : List Part) (old mid new : List Span) → mid ≡ with_parts a ps old → new ≡ with_parts a qs mid → new ≡ with_parts a (ps ++ qs) old
twice_noted a ps qs old mid new first second = second ∙ ap (with_parts a qs) first ∙ sym (parts_append a ps qs old)

one_of : (b c d e : Bool) → c ≡ (if d then true else e) → (if b then true else c) ≡ (if (if b then true else d) then true else e)
one_of true c d e is = refl
one_of false c d e is = is

pub has_append : (x : ℕ) (ps qs : List Part) → has x (ps ++ qs) ≡ (if has x ps then true else has x qs)
has_append x [] qs = refl
has_append x (New y place ∷ ps) qs = one_of (y == x) (has x (ps ++ qs)) (has x ps) (has x qs) (has_append x ps qs)
has_append x (Old y place ∷ ps) qs = one_of (y == x) (has x (ps ++ qs)) (has x ps) (has x qs) (has_append x ps qs)
has_append x (Void y ∷ ps) qs = one_of (y == x) (has x (ps ++ qs)) (has x ps) (has x qs) (has_append x ps qs)
has_append x (Integer z ∷ ps) qs = has_append x ps qs
has_append x (Atom n ∷ ps) qs = has_append x ps qs
has_append x (Inner r ∷ ps) qs = has_append x ps qs

-- ---- spans

abbrev Within : List Span → ℕ → ℕ → Type 0
Within us x b = ((span_at us x).low ≤ b) × (b ≤ (span_at us x).high)

variable_long : (a x : ℕ) (us : List Span) → length (with_variable a x us) ≡ length us
variable_long a x us = length-set us x (widened a (span_at us x))

variable_keeps : (a x : ℕ) (us : List Span) (y b : ℕ) → y < length us → Within us y b → Within (with_variable a x us) y b
variable_keeps a x us y b low h = elim (cases_eq y x) [
  | inl same ↦ (
      let is : span_at (with_variable a x us) y ≡ widened a (span_at us y) =
      ap (span_at (with_variable a x us)) same ∙ get_or-set_same us x (widened a (span_at us x)) (record { low = 0; high = 0 }) (subst (λ k. k < length us) same low) ∙ ap (λ k. widened a (span_at us k)) (sym same) in
      let l = ap (λ u. u.low) is in
      let g = ap (λ u. u.high) is in
      let first = h.0 in
      let last = h.1 in
      (omega (arith, l, first), omega (arith, g, last)))
  | inr other ↦ subst (λ u. (u.low ≤ b) × (b ≤ u.high)) (sym (get_or-set_other us x y (widened a (span_at us x)) (record { low = 0; high = 0 }) other)) h
]

variable_noted : (a x : ℕ) (us : List Span) → x < length us → Within (with_variable a x us) x a
variable_noted a x us low =
    let is = get_or-set_same us x (widened a (span_at us x)) (record { low = 0; high = 0 }) low in
    let l = ap (λ u. u.low) is in
    let g = ap (λ u. u.high) is in
    (omega (arith, l), omega (arith, g))

parts_long : (a : ℕ) (ps : List Part) (us : List Span) → length (with_parts a ps us) ≡ length us
parts_long a [] us = refl
parts_long a (New x place ∷ ps) us = parts_long a ps (with_variable a x us) ∙ variable_long a x us
parts_long a (Old x place ∷ ps) us = parts_long a ps (with_variable a x us) ∙ variable_long a x us
parts_long a (Void x ∷ ps) us = parts_long a ps (with_variable a x us) ∙ variable_long a x us
parts_long a (Integer z ∷ ps) us = parts_long a ps us
parts_long a (Atom n ∷ ps) us = parts_long a ps us
parts_long a (Inner r ∷ ps) us = parts_long a ps us

parts_keep : (a : ℕ) (ps : List Part) (us : List Span) (y b : ℕ) → y < length us → Within us y b → Within (with_parts a ps us) y b
parts_keep a [] us y b low h = h
parts_keep a (New x place ∷ ps) us y b low h = parts_keep a ps (with_variable a x us) y b (let n = variable_long a x us in omega (arith, low, n)) (variable_keeps a x us y b low h)
parts_keep a (Old x place ∷ ps) us y b low h = parts_keep a ps (with_variable a x us) y b (let n = variable_long a x us in omega (arith, low, n)) (variable_keeps a x us y b low h)
parts_keep a (Void x ∷ ps) us y b low h = parts_keep a ps (with_variable a x us) y b (let n = variable_long a x us in omega (arith, low, n)) (variable_keeps a x us y b low h)
parts_keep a (Integer z ∷ ps) us y b low h = parts_keep a ps us y b low h
parts_keep a (Atom n ∷ ps) us y b low h = parts_keep a ps us y b low h
parts_keep a (Inner r ∷ ps) us y b low h = parts_keep a ps us y b low h

module _ (a y : ℕ) where
  -- a variable, and then parts
  first_noted : (x : ℕ) (ps : List Part) (us : List Span) → y < length us → ((us : List Span) → has y ps ≡ true → y < length us → Within (with_parts a ps us) y a) → (if x == y then true else has y ps) ≡ true → Within (with_parts a ps (with_variable a x us)) y a
  first_noted x ps us low rest is =
      let low1 : y < length (with_variable a x us) = (let n = variable_long a x us in omega (arith, low, n)) in
      elim (cases_Bool (x == y)) [
        | inl same ↦ parts_keep a ps (with_variable a x us) y a low1 (subst (λ k. Within (with_variable a x us) k a) (eqb-true x y same) (variable_noted a x us (subst (λ k. k < length us) (sym (eqb-true x y same)) low)))
        | inr other ↦ rest (with_variable a x us) (sym (rw other refl) ∙ is) low1
      ]

  parts_noted : (ps : List Part) (us : List Span) → has y ps ≡ true → y < length us → Within (with_parts a ps us) y a
  parts_noted [] us is low = absurd (false≢true is)
  parts_noted (New x place ∷ ps) us is low = first_noted x ps us low (parts_noted ps) is
  parts_noted (Old x place ∷ ps) us is low = first_noted x ps us low (parts_noted ps) is
  parts_noted (Void x ∷ ps) us is low = first_noted x ps us low (parts_noted ps) is
  parts_noted (Integer z ∷ ps) us is low = parts_noted ps us is low
  parts_noted (Atom n ∷ ps) us is low = parts_noted ps us is low
  parts_noted (Inner r ∷ ps) us is low = parts_noted ps us is low

code_keeps : (a : ℕ) (code : List Instruction) (us : List Span) (y b : ℕ) → y < length us → Within us y b → Within (with_code a code us) y b
code_keeps a [] us y b low h = h
code_keeps a (i ∷ code) us y b low h = code_keeps (a + 1) code (with_parts a (own_parts i) us) y b (let n = parts_long a (own_parts i) us in omega (arith, low, n)) (parts_keep a (own_parts i) us y b low h)

code_noted : (first : ℕ) (code : List Instruction) (us : List Span) (k : ℕ) (i : Instruction) (y : ℕ) → slice_get code k ≡ Some i → has y (own_parts i) ≡ true → y < length us → Within (with_code first code us) y (first + k)
code_noted first [] us k i y at is low = absurd (cc at)
code_noted first (j ∷ code) us zero i y at is low =
    let here : first + 0 ≡ first = omega arith in
    let same : j ≡ i = cc at in
    let mid = with_parts first (own_parts j) us in
    code_keeps (first + 1) code mid y (first + 0) (let n = parts_long first (own_parts j) us in omega (arith, low, n))
    (subst (λ b. Within mid y b) (sym here) (parts_noted first y (own_parts j) us (ap (λ l. has y (own_parts l)) same ∙ is) low))
code_noted first (j ∷ code) us (suc k) i y at is low =
    let there : (first + 1) + k ≡ first + suc k = omega arith in
    let mid = with_parts first (own_parts j) us in
    subst (λ b. Within (with_code first (j ∷ code) us) y b) there (code_noted (first + 1) code mid k i y at is (let n = parts_long first (own_parts j) us in omega (arith, low, n)))

code_long : (a : ℕ) (code : List Instruction) (us : List Span) → length (with_code a code us) ≡ length us
code_long a [] us = refl
code_long a (i ∷ code) us = code_long (a + 1) code (with_parts a (own_parts i) us) ∙ parts_long a (own_parts i) us

pub code_spans : (code : List Instruction) (us new : List Span) → new ≡ with_code 0 code us → AreSpans code new × (length new ≡ length us)
code_spans code us new is = (
  (λ a i x at occurs low.
      (let place : 0 + a ≡ a = omega arith in
      let inside : x < length us = (let n = ap length is in let m = code_long 0 code us in omega (arith, low, n, m)) in
      subst (λ vs. Within vs x a) (sym is) (subst (λ b. Within (with_code 0 code us) x b) place (code_noted 0 code us a i x at.is occurs inside)))),
  ap length is ∙ code_long 0 code us,
)

-- ---- sources

pub same_at : {X : Type 0} (xs : List X) (i : ℕ) (x y : X) → slice_get xs i ≡ Some x → slice_get xs i ≡ Some y → x ≡ y
same_at xs i x y a b = cc (sym a ∙ b)

pub sources_more : (code : List Instruction) (old new : List ℕ) (a : ℕ) (j : Instruction) → slice_get code a ≡ Some j → ((l t : ℕ) → target j ≡ Some l → slice_get new l ≡ Some t → a ≤ t)
    → ((s l : ℕ) → s ≤ a → ((t : ℕ) → slice_get old l ≡ Some t → s ≤ t) → (t : ℕ) → slice_get new l ≡ Some t → s ≤ t)
    → ((s : ℕ) (i : Instruction) (l t : ℕ) → s < a → At code s i → target i ≡ Some l → slice_get old l ≡ Some t → s ≤ t)
    → (s : ℕ) (i : Instruction) (l t : ℕ) → s < a + 1 → At code s i → target i ≡ Some l → slice_get new l ≡ Some t → s ≤ t
sources_more code old new a j there noted kept before s i l t low at goes got = elim (cases_eq s a) [
  | inl same ↦ subst (λ k. k ≤ t) (sym same) (noted l t (ap target (sym (same_at code a i j (ap (slice_get code) (sym same) ∙ at.is) there)) ∙ goes) got)
  | inr other ↦ kept s l (omega (arith, low)) (λ u h. before s i l u (omega (arith, low, other)) at goes h) t got
]

-- ---- births

abbrev is_new : Instruction → Bool
is_new (Is (New x place) ks) = true
is_new i = false

module _ (spans : List Span) (barriers : List ℕ) (met : List Bool) (old : List Instruction) where
  pub born_more : (code more : List Instruction) (born after : List Bool) (a x : ℕ) (place : Place) (ks : _) → Births spans barriers met old code born → x < length born → slice_get code a ≡ Some (Is (Old x place) ks) → IsBirth spans barriers met a x place ks.items
      → more ≡ slice_set code a (Is (New x place) ks) → after ≡ slice_set born x true → Births spans barriers met old more after
  born_more code more born after a x place ks h low was birth is marked = record {
    long = ap length is ∙ length-set code a (Is (New x place) ks) ∙ h.long;
    still = still;
    at = at;
  }
    where
      within : a < length code
      within = slice_get_within code a (Is (Old x place) ks) was

      here : At more a (Is (New x place) ks)
      here = record { is = ap (λ is. slice_get is a) is ∙ get_set code a (Is (New x place) ks) within }

      kept : (b : ℕ) (i : Instruction) → (b ≡ a → ⊥) → At code b i → At more b i
      kept b i apart at = record { is = ap (λ is. slice_get is b) is ∙ get_other code a b (Is (New x place) ks) apart ∙ at.is }

      apart_of : (b y : ℕ) (q : Place) (js : _) → At code b (Is (New y q) js) → b ≡ a → ⊥
      apart_of b y q js at e = true≢false (ap is_new (same_at code a (Is (New y q) js) (Is (Old x place) ks) (ap (slice_get code) (sym e) ∙ at.is) was))

      itself : get_or after x false ≡ true
      itself = ap (λ bs. get_or bs x false) marked ∙ get_or-set_same born x true false low

      still_born : (y : ℕ) → get_or born y false ≡ true → get_or after y false ≡ true
      still_born y is = elim (cases_eq y x) [
        | inl e ↦ ap (λ z. get_or after z false) e ∙ itself
        | inr other ↦ ap (λ bs. get_or bs y false) marked ∙ get_or-set_other born x y true false other ∙ is
      ]

      moved : (b : ℕ) (i : Instruction) → BornAt spans barriers met code born b i → BornAt spans barriers met more after b i
      moved b i h = record {
        variable = h.variable;
        place = h.place;
        steps = h.steps;
        was = h.was;
        is = kept b (Is (New h.variable h.place) h.steps) (apart_of b h.variable h.place h.steps h.is) h.is;
        birth = h.birth;
        known = still_born h.variable h.known;
      }

      own : (i : Instruction) → i ≡ Is (Old x place) ks → BornAt spans barriers met more after a i
      own i e = record { variable = x; place = place; steps = ks; was = e; is = here; birth = birth; known = itself }

      still : (b : ℕ) (i : Instruction) → At old b i → At more b i ⊎ BornAt spans barriers met more after b i
      still b i at = elim (h.still b i at) [
        | inl same ↦ elim (cases_eq b a) [
          | inl e ↦ inr (subst (λ k. BornAt spans barriers met more after k i) (sym e) (own i (same_at code a i (Is (Old x place) ks) (ap (slice_get code) (sym e) ∙ same.is) was)))
          | inr other ↦ inl (kept b i other same)
        ]
        | inr there ↦ inr (moved b i there)
      ]

      at : (y : ℕ) → get_or after y false ≡ true → (q : Place) × (js : _) × At more (span_at spans y).high (Is (New y q) js) × IsBirth spans barriers met (span_at spans y).high y q js.items
      at y is = elim (cases_eq y x) [
        | inl e ↦ (
            let high : (span_at spans y).high ≡ a = ap (λ z. (span_at spans z).high) e ∙ birth.high in (
              place,
              ks,
              subst (λ k. At more k (Is (New y place) ks)) (sym high) (subst (λ z. At more a (Is (New z place) ks)) (sym e) here),
              subst (λ k. IsBirth spans barriers met k y place ks.items) (sym high) (subst (λ z. IsBirth spans barriers met a z place ks.items) (sym e) birth),
            ))
        | inr other ↦ (
            let before = h.at y (sym (ap (λ bs. get_or bs y false) marked ∙ get_or-set_other born x y true false other) ∙ is) in
            (before.0, before.1, kept (span_at spans y).high (Is (New y before.0) before.1) (apart_of (span_at spans y).high y before.0 before.1 before.2) before.2, before.3))
      ]
