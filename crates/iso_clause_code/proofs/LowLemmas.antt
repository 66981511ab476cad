-- Operands whose variables are below a number: how many of them are new.
use Rattle.std.proofs.Common.{◌≡◌, ◌≢◌, ◌<◌, ◌≤◌, ◌+◌, ◌==◌, ℕ, zero, suc, Bool, true, false, List, [], ◌∷◌, map, inl, inr, refl, ap, ◌∙◌, sym, arith, if◌then◌else◌}
use Rattle.std.specs.List.{All}
use Rattle.std.proofs.lemmas.Bool.{cases_Bool, cases_eq, eq-eqb, ne_eqb}
use Rattle.std.proofs.lemmas.List.Elements.{All-nil, All-head, All-tail, All-append, All-map, All-weaker}
use Rattle.iso_code.specs.declared.operands.Operand.{Operand}
use Rattle.iso_code.specs.declared.operands.Operand.TheVariants.{New, Old, Integer, Atom, Inner}
use Rattle.iso_code.specs.declared.operands.Block.{Block}
use Rattle.iso_code.specs.declared.operands.Get.{Get}
use Rattle.iso_code.specs.Loaded.{IsInside, AreSound, IsSoundGet, AreMarked, IsMarked, met_after, met_behind, operand_got, all_operands}
use Rattle.iso_writing.specs.Pushing.{news}

-- its variable is one of so many
abbrev pub IsLow : ℕ → Operand → Type 0
IsLow count (New x) = x < count
IsLow count (Old x) = x < count
IsLow count o = Unit {0}

-- ---- the operands of a head

pub inside_low : (names count compounds : ℕ) (o : Operand) → IsInside names count compounds o → IsLow count o
inside_low names count compounds (New x) h = h
inside_low names count compounds (Old x) h = h
inside_low names count compounds (Integer z) h = tt
inside_low names count compounds (Atom a) h = tt
inside_low names count compounds (Inner k) h = tt

pub gets_low : (names arity count : ℕ) (gs : List Get) → All (IsSoundGet names arity count) gs → All (IsLow count) (map operand_got gs)
gets_low names arity count gs h =
    All-map (IsLow count) operand_got gs
    (All-weaker (IsSoundGet names arity count) (λ g. IsLow count g.operand) (λ g is. inside_low names count 0 g.operand is.inside) gs h)

pub blocks_low : (names arity count compounds : ℕ) (bs : List Block) → AreSound names arity count compounds bs → All (IsLow count) (all_operands bs)
blocks_low names arity count compounds [] h = All-nil (IsLow count)
blocks_low names arity count compounds (b ∷ bs) h =
    All-append (IsLow count) b.operands.items (all_operands bs)
    (All-weaker (IsInside names count compounds) (IsLow count) (inside_low names count compounds) b.operands.items h.0.inside)
    (blocks_low names arity count compounds bs h.4)

-- ---- marks are right where the same of so many variables were met

mark_low : (count : ℕ) (met also : ℕ → Bool) (o : Operand) → IsLow count o → ((x : ℕ) → x < count → met x ≡ also x) → IsMarked met o → IsMarked also o
mark_low count met also (New x) low same h = sym (same x low) ∙ h
mark_low count met also (Old x) low same h = sym (same x low) ∙ h
mark_low count met also (Integer z) low same h = tt
mark_low count met also (Atom a) low same h = tt
mark_low count met also (Inner k) low same h = tt

after_low : (count : ℕ) (met also : ℕ → Bool) (o : Operand) → ((x : ℕ) → x < count → met x ≡ also x) → (x : ℕ) → x < count → met_after met o x ≡ met_after also o x
after_low count met also (New v) same x low = ap (λ b. if x == v then true else b) (same x low)
after_low count met also (Old v) same x low = same x low
after_low count met also (Integer z) same x low = same x low
after_low count met also (Atom a) same x low = same x low
after_low count met also (Inner k) same x low = same x low

pub marks_low : (count : ℕ) (met also : ℕ → Bool) (os : List Operand) → All (IsLow count) os → ((x : ℕ) → x < count → met x ≡ also x) → AreMarked met os → AreMarked also os
marks_low count met also [] low same h = tt
marks_low count met also (o ∷ os) low same h = (
  mark_low count met also o (All-head (IsLow count) o os low) same h.0,
  marks_low count (met_after met o) (met_after also o) os (All-tail (IsLow count) o os low) (after_low count met also o same) h.1,
)

-- ---- each variable is new once

-- how many of so many variables were met
met_count : (ℕ → Bool) → ℕ → ℕ
met_count met zero = 0
met_count met (suc n) = (if met n then 1 else 0) + met_count met n

count_most : (met : ℕ → Bool) (n : ℕ) → met_count met n ≤ n
unfolding met_count
count_most met zero = omega arith
count_most met (suc n) = let few = count_most met n in elim (cases_Bool (met n)) [
  | inl is ↦ rw is (omega (arith, few))
  | inr not ↦ rw not (omega (arith, few))
]

count_same : (met also : ℕ → Bool) (n : ℕ) → ((x : ℕ) → x < n → met x ≡ also x) → met_count met n ≡ met_count also n
unfolding met_count
count_same met also zero same = refl
count_same met also (suc n) same =
    let rest = count_same met also n (λ x low. same x (omega (arith, low))) in
    rw (same n (omega arith)) (omega (arith, rest))

after_new : (met : ℕ → Bool) (v : ℕ) → met_after met (New v) v ≡ true
after_new met v = rw (eq-eqb v v refl) refl

after_other : (met : ℕ → Bool) (v x : ℕ) → x ≢ v → met_after met (New v) x ≡ met x
after_other met v x other = rw (ne_eqb x v other) refl

-- a new one is one more
count_new : (met : ℕ → Bool) (v n : ℕ) → v < n → met v ≡ false → met_count (met_after met (New v)) n ≡ met_count met n + 1
unfolding met_count
count_new met v zero low none = absurd (omega (arith, low))
count_new met v (suc n) low none = elim (cases_eq n v) [
  | inl same ↦ (let rest = count_same (met_after met (New v)) met n (λ x below. after_other met v x (λ e. omega (arith, below, e, same))) in
      let here : met_after met (New v) n ≡ true = ap (met_after met (New v)) same ∙ after_new met v in
      let before : met n ≡ false = ap met same ∙ none in
      rw (here, before) (omega (arith, rest)))
  | inr other ↦ (let rest = count_new met v n (omega (arith, low, other)) none in
      rw (after_other met v n other) (omega (arith, rest)))
]

count_behind : (count : ℕ) (met : ℕ → Bool) (os : List Operand) → All (IsLow count) os → AreMarked met os → met_count (met_behind met os) count ≡ met_count met count + news os
count_behind count met [] low h = omega arith
count_behind count met (New v ∷ os) low h =
    let one = count_new met v count (All-head (IsLow count) (New v) os low) h.0 in
    let rest = count_behind count (met_after met (New v)) os (All-tail (IsLow count) (New v) os low) h.1 in
    omega (arith, one, rest)
count_behind count met (Old v ∷ os) low h = count_behind count (met_after met (Old v)) os (All-tail (IsLow count) (Old v) os low) h.1
count_behind count met (Integer z ∷ os) low h = count_behind count (met_after met (Integer z)) os (All-tail (IsLow count) (Integer z) os low) h.1
count_behind count met (Atom a ∷ os) low h = count_behind count (met_after met (Atom a)) os (All-tail (IsLow count) (Atom a) os low) h.1
count_behind count met (Inner k ∷ os) low h = count_behind count (met_after met (Inner k)) os (All-tail (IsLow count) (Inner k) os low) h.1

-- Where marks are right, at most so many operands are new.
pub news_most : (count : ℕ) (met : ℕ → Bool) (os : List Operand) → All (IsLow count) os → AreMarked met os → news os ≤ count
news_most count met os low h =
    let is = count_behind count met os low h in
    let few = count_most (met_behind met os) count in
    omega (arith, is, few)
