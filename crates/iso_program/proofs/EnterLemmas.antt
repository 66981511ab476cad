-- A clause whose key fits the call's may be entered, as first arguments show.
use Rattle.std.proofs.Common.{◌≡◌, ◌-◌, ◌/◌, ◌%◌, ◌^◌, ◌<◌, ◌==◌, ◌&&◌, ◌||◌, ℕ, suc, ℤ, pos, negsuc}
use Rattle.std.proofs.Common.{List, [], ◌∷◌, length, Bool, true, false, not, Option, Some, None}
use Rattle.std.proofs.Common.{refl, sym, subst, ap, ap₂, ◌∙◌, arith}
use Rattle.std.specs.Prelude.{◌-ℤ◌, ◌*ℤ◌, unsigned_abs, MatchOption, if◌then◌else◌}
use Rattle.std.specs.Int.{int_shr}
use Rattle.std.specs.Int.Signed.{shr_z}
use Rattle.std.specs.Ordering.{int_eq}
use Rattle.std.specs.Str.{bytes_eq}
use Rattle.std.proofs.lemmas.Bool.{and_parts, eqb-true, eq-eqb, false≢true}
use Rattle.std.proofs.lemmas.Bool.Decides.{Decides-int_eq}
use Rattle.std.proofs.lemmas.Int.{ints}
use Rattle.std.proofs.lemmas.Slice.Eq.{bytes_eq-Decides}
use Rattle.iso_atoms.specs.Texts.{text_at}
use Rattle.iso_model.specs.Terms.Integers.{is_short}
use Rattle.iso_model.specs.Terms.Trees.{Tree, Variable, Integer, Name, Apply, More, row, count}
use Rattle.iso_model.specs.Search.Clashes.{clash, firsts_clash, may_enter}
use Rattle.iso_model.specs.Search.Databases as databases
use Rattle.iso_store_core.specs.Arguments.{argument}
use Rattle.iso_store_core.specs.Shapes.{IsShape}
use Rattle.iso_store_core.specs.declared.patterns.Part.{Part}
use Rattle.iso_store_core.specs.declared.patterns.Part.TheVariants.{Variable as Place, Integer as Number, Atom, Compound}
use Rattle.iso_store_core.specs.declared.shapes.Shape.{Shape}
use Rattle.iso_store_core.specs.declared.shapes.Shape.TheVariants as shape
use Rattle.iso_db.specs.Fits as keys
use Rattle.iso_db.specs.Fits.{fits, same_key, FirstKey}
use Rattle.iso_program.specs.Firsts.{IsFirstOf, IsTop, HasFirst, HasNoFirst}
use Rattle.iso_program.specs.FirstKeys.{key_of_integer, key_of_part, key_of_first, key_of_shape, ShowsKey}

-- ---- first arguments that don't clash

-- a variable clashes with nothing
free_right : (a : Tree) (n : ℕ) → clash a (Variable n) ≡ false
free_right (Integer y) n = refl
free_right (Name b) n = refl
free_right (Apply f ts) n = refl
free_right a n = refl

-- the first arguments, where both have one, don't clash
no_clash : (t u : Tree)
    → ((f : List ℕ) (a ts : Tree) (g : List ℕ) (b us : Tree) → t ≡ Apply f (More a ts) → u ≡ Apply g (More b us)
    → clash a b ≡ false)
    → firsts_clash t u ≡ false
no_clash (Apply f (More a ts)) (Apply g (More b us)) none = none f a ts g b us refl refl
no_clash t u none = refl

-- ---- keys that are the same

or_first : {b : Bool} → b || false ≡ true → b ≡ true
or_first {b = true} h = refl
or_first {b = false} h = absurd (false≢true h)

int_itself : (y : ℤ) → int_eq y y ≡ true
int_itself y = (Decides-int_eq y y).1 refl

text_itself : (a : List ℕ) → bytes_eq a a ≡ true
text_itself a = (bytes_eq-Decides a a).1 refl

count_row : (ts : List Tree) → count (row ts) ≡ length ts
count_row [] = refl
count_row (t ∷ ts) = (let rest = count_row ts in omega (arith, rest))

-- the lower half of an integer is not negative
not_below : (z : ℤ) (m : ℕ) → 0 < m → z -ℤ shr_z z m *ℤ pos m ≡ pos (unsigned_abs (z -ℤ shr_z z m *ℤ pos m))
not_below (pos a) m some =
    let low : pos a -ℤ pos (a / m) *ℤ pos m ≡ pos (a % m) = omega (arith, ints) in
    low ∙ ap (λ (z : ℤ). pos (unsigned_abs z)) (sym low)
not_below (negsuc a) m some =
    let low : negsuc a -ℤ negsuc (a / m) *ℤ pos m ≡ pos (m - suc (a % m)) = omega (arith, ints) in
    low ∙ ap (λ (z : ℤ). pos (unsigned_abs z)) (sym low)

less_same : (y z w : ℤ) → y -ℤ w ≡ z -ℤ w → y ≡ z
less_same y z w same = omega (arith, ints)

-- the halves say which integer it is
halves_same : (y z : ℤ) (m : ℕ) → 0 < m → shr_z y m ≡ shr_z z m
    → unsigned_abs (y -ℤ shr_z y m *ℤ pos m) ≡ unsigned_abs (z -ℤ shr_z z m *ℤ pos m) → y ≡ z
halves_same y z m some high low =
    less_same y z (shr_z y m *ℤ pos m)
    (not_below y m some ∙ ap pos low ∙ sym (not_below z m some) ∙ ap (λ (h : ℤ). z -ℤ h *ℤ pos m) (sym high))

-- the key of a wide integer
abbrev wide : ℤ → FirstKey
wide z = keys.Wide (int_shr z 64) (unsigned_abs (z -ℤ int_shr z 64 *ℤ pos (2 ^ 64)))

-- integers of the same key are the same
integers_same : (y z : ℤ) → same_key (key_of_integer y) (key_of_integer z) ≡ true → y ≡ z
integers_same y z same = by_width (is_short y) (is_short z) same where
  by_width : (p q : Bool)
      → same_key (if p then keys.Integer y else wide y) (if q then keys.Integer z else wide z) ≡ true → y ≡ z
  by_width true true h = (Decides-int_eq y z).0 h
  by_width false false h =
      let both = and_parts (int_eq (int_shr y 64) (int_shr z 64)) _ h in
      let high = (Decides-int_eq (int_shr y 64) (int_shr z 64)).0 both.0 in
      halves_same y z (2 ^ 64) (omega arith) high (eqb-true _ _ both.1)
  by_width p q h = absurd (false≢true h)

-- a test that fails for a short integer and for a wide one fails for each
either_width : (test : FirstKey → Bool) (z : ℤ) → test (keys.Integer z) ≡ false → test (wide z) ≡ false
    → test (key_of_integer z) ≡ false
either_width test z short long =
    elim (is_short z) as (λ p. test (if p then keys.Integer z else wide z) ≡ false) [ true ↦ short | false ↦ long ]

-- so the key of an integer is that of no other term
not_of_integer : {A : Type 0} (test : FirstKey → Bool) (z : ℤ) → test (keys.Integer z) ≡ false
    → test (wide z) ≡ false → test (key_of_integer z) || false ≡ true → A
not_of_integer test z short long same =
    absurd (false≢true (sym (either_width test z short long) ∙ or_first same))

-- ---- outermost parts that don't clash

-- by the keys of a shape and a part
tops_meet : (names : List (List ℕ)) (s : Shape) (p : Part) (a u : Tree) → IsShape names s a → IsTop names p u
    → fits (key_of_shape s) (key_of_part p) ≡ true → clash a u ≡ false
tops_meet names (shape.Var n) p a u shows top fit = ap (λ (t : Tree). clash t u) shows
tops_meet names s (Place j) a u shows top fit = ap (clash a) top ∙ free_right a j
tops_meet names (shape.Int y) (Number z) a u shows top fit =
    let same = integers_same y z (or_first fit) in
    ap₂ clash shows top ∙ ap (λ (x : ℤ). not (int_eq y x)) (sym same) ∙ ap not (int_itself y)
tops_meet names (shape.Atom b) (Atom c) a u shows top fit =
    let same = eqb-true b c (or_first fit) in
    ap₂ clash shows.1 top.1 ∙ ap (λ (k : ℕ). not (bytes_eq (text_at names b) (text_at names k))) (sym same)
    ∙ ap not (text_itself (text_at names b))
tops_meet names (shape.Compound f m) (Compound g n) a u shows top fit =
    let both = and_parts (f == g) (m == n) (or_first fit) in
    let name = eqb-true f g both.0 in
    let taken = count (row top.1) in
    let many : count shows.1 ≡ taken = shows.3 ∙ eqb-true m n both.1 ∙ sym top.3 ∙ sym (count_row top.1) in
    ap₂ clash shows.2 top.2
    ∙ ap (λ (k : ℕ). not (k == taken && bytes_eq (text_at names f) (text_at names g))) many
    ∙ ap (λ (k : ℕ). not (taken == taken && bytes_eq (text_at names f) (text_at names k))) (sym name)
    ∙ ap₂ (λ (x y : Bool). not (x && y)) (eq-eqb taken taken refl) (text_itself (text_at names f))
tops_meet names (shape.Int y) (Atom c) a u shows top fit =
    not_of_integer (λ (k : FirstKey). same_key k (keys.Atom c)) y refl refl fit
tops_meet names (shape.Int y) (Compound g n) a u shows top fit =
    not_of_integer (λ (k : FirstKey). same_key k (keys.Compound g n)) y refl refl fit
tops_meet names (shape.Atom b) (Number z) a u shows top fit =
    not_of_integer (same_key (keys.Atom b)) z refl refl fit
tops_meet names (shape.Compound f m) (Number z) a u shows top fit =
    not_of_integer (same_key (keys.Compound f m)) z refl refl fit
tops_meet names s p a u shows top fit = absurd (false≢true fit)

-- ---- clauses whose keys fit

module _ (names : List (List ℕ)) (call : Tree) where
  -- the call may enter a clause whose key fits
  pub key_enters : (key : Option FirstKey) (first : Option Part) (c : databases.Clause) → ShowsKey names key call
      → IsFirstOf names first c.head → fits key (key_of_first first) ≡ true → may_enter call c ≡ true
  key_enters None part c shows is fit =
      ap not (no_clash call c.head (λ f a ts g b us first other.
      (let free = shows f a ts first in ap (λ (t : Tree). clash t b) free.1)))
  key_enters (Some k) part c shows is fit = by_first part fit is where
    by_first : (o : Option Part) → fits (Some k) (key_of_first o) ≡ true
        → MatchOption o (HasNoFirst c.head) (λ p. HasFirst names p c.head) → may_enter call c ≡ true
    by_first None fit has =
        ap not (no_clash call c.head (λ f a ts g b us first other. absurd (has g b us other)))
    by_first (Some p) fit has =
        ap not (no_clash call c.head (λ f a ts g b us first other.
        (let at : argument 0 call ≡ a = ap (argument 0) first in
        let shown = subst (λ (t : Tree). IsShape names shows.0 t) at shows.1.shows in
        let both : Apply has.name (More has.first has.others) ≡ Apply g (More b us) = sym has.is ∙ other in
        let head : has.first ≡ b = cc both in
        let top = subst (λ (t : Tree). IsTop names p t) head has.top in
        tops_meet names shows.0 p a b shown top (ap (λ (x : Option FirstKey). fits x (key_of_part p)) shows.2 ∙ fit))))
