-- The words of the variables of a clause: their values, and variables that come.
use Rattle.std.proofs.Common.{◌≡◌, ◌≢◌, ℕ, zero, suc, ◌+◌, ◌-◌, ◌<◌, ◌≤◌, ◌⊎◌, List, [], ◌∷◌, ◌++◌, length, take, get_or, Option, Some, None, slice_get, slice_index_or, refl, ap, sym, ◌∙◌, arith, inl, inr, add-one, length-append}
use Rattle.std.proofs.Math.Seq.{take-suc}
use Rattle.std.proofs.lemmas.Bool.{cases_eq, false≢true}
use Rattle.std.proofs.lemmas.Bool.Decides.{leb_tells}
use Rattle.std.proofs.lemmas.Option.{slice_get_within}
use Rattle.std.proofs.lemmas.List.Elements.{All-push}
use Rattle.iso_model.specs.Terms.Trees.{Variable}
use Rattle.iso_model.specs.Terms.Substitutions.{Subst, apply, compose}
use Rattle.iso_model.specs.Terms.Unification.Applied.{apply_alone, apply_none, apply_single_absent, single_at, single_other}
use Rattle.iso_store_core.specs.Presents.{Present, Holds, Makes, TakesNumber, Untouched, meaning}
use Rattle.iso_store.specs.Reading.{GetsWord, HasWords, AreValues, value_bound}
use Rattle.iso_store.proofs.Gathering.{keeps-none, keeps-then}

get-before : {X : Type 0} (xs : List X) (y : X) (i : ℕ) → i < length xs → slice_get (xs ++ y ∷ []) i ≡ slice_get xs i
get-before [] y i below = elim below [ ]
get-before (x ∷ xs) y zero below = refl
get-before (x ∷ xs) y (suc i) below = get-before xs y i (omega arith)

get-last : {X : Type 0} (xs : List X) (y : X) (i : ℕ) → i ≡ length xs → slice_get (xs ++ y ∷ []) i ≡ Some y
get-last [] y zero last = refl
get-last [] y (suc i) last = absurd (omega arith)
get-last (x ∷ xs) y zero last = absurd (omega arith)
get-last (x ∷ xs) y (suc i) last = get-last xs y i (omega arith)

or-before : {X : Type 0} (xs : List X) (y : X) (i : ℕ) (d : X) → i < length xs → get_or (xs ++ y ∷ []) i d ≡ get_or xs i d
or-before [] y i d below = elim below [ ]
or-before (x ∷ xs) y zero d below = refl
or-before (x ∷ xs) y (suc i) d below = or-before xs y i d (omega arith)

or-last : {X : Type 0} (xs : List X) (y : X) (i : ℕ) (d : X) → i ≡ length xs → get_or (xs ++ y ∷ []) i d ≡ y
or-last [] y zero d last = refl
or-last [] y (suc i) d last = absurd (omega arith)
or-last (x ∷ xs) y zero d last = absurd (omega arith)
or-last (x ∷ xs) y (suc i) d last = or-last xs y i d (omega arith)

-- ---- the word of one variable

-- a variable that comes, of a number that is untouched
module _ {W : Type 0} {p q : Present W} (number : ℕ) (variable : W) (made : Makes p q variable (Variable number)) (bare : (n : ℕ) → number ≤ n → Untouched p n) where
  -- it stands for itself
  pub variable-itself : meaning q variable ≡ Variable number
  variable-itself = ap (apply q.substitution) made.term ∙ ap (λ s. s number) made.substitution ∙ (bare number (omega arith)).substitution

  pub gets-fresh : TakesNumber p q number → GetsWord p q number None variable
  gets-fresh takes = record {
    keeps = made.words;
    substitution = made.substitution;
    next = takes.next;
    taken = takes.others;
    holds = made.holds;
    means = variable-itself;
  }

-- a value is the word itself
pub gets-valued : {W : Type 0} (p : Present W) (number : ℕ) (w : W) → Holds p w → GetsWord p p number (Some w) w
gets-valued p number w held = record {
  keeps = keeps-none p;
  substitution = refl;
  next = refl;
  taken = λ n other. refl;
  holds = held;
  means = sym (single_at number number (meaning p w) refl);
}

-- ---- the words of all variables

-- a variable of a clause has a value, or it is not bound
pub value-or-itself : {W : Type 0} (p : Present W) (first : ℕ) (values : List (Option W)) (v : Subst) → AreValues p first values v → (n : ℕ)
    → ((x : ℕ) × (w : W) × (slice_get values x ≡ Some (Some w)) × (n ≡ first + x)) ⊎ (v n ≡ Variable n)
value-or-itself {W} p first values v are n = elim (leb_tells first n) [ inl above ↦ found (slice_get values (n - first)) refl above.1 | inr below ↦ inr (are.others n (λ x w is here. let less = below.1 in absurd (omega arith))) ]
  where
    found : (o : Option (Option W)) → slice_get values (n - first) ≡ o → first ≤ n → ((x : ℕ) × (w : W) × (slice_get values x ≡ Some (Some w)) × (n ≡ first + x)) ⊎ (v n ≡ Variable n)
    found (Some (Some w)) is above = inl (n - first, w, is, omega arith)
    found (Some None) is above = inr (are.others n (λ x w some here. (let same : n - first ≡ x = omega arith in let both : Some None ≡ Some (Some w) = sym is ∙ ap (slice_get values) same ∙ some in absurd (cc))))
    found None is above = inr (are.others n (λ x w some here. (let same : n - first ≡ x = omega arith in let both : None ≡ Some (Some w) = sym is ∙ ap (slice_get values) same ∙ some in absurd (cc))))

-- the values stand for no variable that comes
pub values-leave : {W : Type 0} (p : Present W) (first : ℕ) (values : List (Option W)) (v : Subst) → AreValues p first values v → ((n : ℕ) → first ≤ n → Untouched p n) → (w : W) → Holds p w → apply v (meaning p w) ≡ meaning p w
values-leave p first values v are bare w held =
    apply_alone v (meaning p w) (λ x inside. elim (value-or-itself p first values v are x) [
      | inl valued ↦
          let above : first ≤ x = (let here = valued.3 in omega arith) in
          absurd (false≢true (sym ((bare x above).meanings w held) ∙ inside))
      | inr itself ↦ itself
    ])

pub no-words : {W : Type 0} (p : Present W) (first : ℕ) → HasWords p p first [] []
no-words p first = record {
  values_bound = Variable;
  are = record { valued = λ x w is. (let below = slice_get_within [] x (Some w) is in absurd (omega arith)); others = λ n none. refl };
  keeps = keeps-none p;
  substitution = refl;
  taken = record { next = refl; others = λ n below. refl };
  many = refl;
  hold = λ k d below. elim below [ ];
  means = λ x d below. elim below [ ];
}

module _ {W : Type 0} {p q r : Present W} (first : ℕ) (vs : List (Option W)) (ws : List W) (value : Option W) (w : W) (so : HasWords p q first vs ws) (gets : GetsWord q r (first + length vs) value w)
    (bare : (n : ℕ) → first ≤ n → Untouched p n) (held : (x : ℕ) (u : W) → slice_get (vs ++ value ∷ []) x ≡ Some (Some u) → Holds p u) where
  abbrev pub number : ℕ
  number = first + length vs

  abbrev pub bound : Subst
  bound = value_bound q number value

  before-now : (x : ℕ) (u : W) → slice_get vs x ≡ Some (Some u) → slice_get (vs ++ value ∷ []) x ≡ Some (Some u)
  before-now x u is = get-before vs value x (slice_get_within vs x (Some u) is) ∙ is

  -- a held word stands in q for what it stood for in p
  stays : (u : W) → Holds p u → meaning q u ≡ meaning p u
  stays u h = ap (apply q.substitution) (so.keeps.terms u h) ∙ ap (λ s. apply s (p.term u)) so.substitution

  -- the last binding leaves what a held word stands for
  bound-leaves : (o : Option W) → (u : W) → Holds p u → apply (value_bound q number o) (meaning p u) ≡ meaning p u
  bound-leaves None u h = apply_none (meaning p u)
  bound-leaves (Some v) u h =
      let above : first ≤ first + length vs = omega arith in
      apply_single_absent number (meaning q v) (meaning p u) ((bare number above).meanings u h)

  bound-here : (o : Option W) (u : W) → o ≡ Some u → Holds p u → value_bound q number o number ≡ meaning p u
  bound-here o u is h = ap (λ k. value_bound q number k number) is ∙ single_at number number (meaning q u) refl ∙ stays u h

  bound-other : (o : Option W) (n : ℕ) → ((u : W) → o ≡ Some u → n ≢ number) → value_bound q number o n ≡ Variable n
  bound-other None n other = refl
  bound-other (Some u) n other = single_other number n (meaning q u) (other u refl)

  last-itself : so.values_bound number ≡ Variable number
  last-itself = so.are.others number (λ x u is here.
      let below = slice_get_within vs x (Some u) is in
      let same : first + length vs ≡ first + x = here in
      absurd (omega (arith, below, same)))

  abbrev pub now : Subst
  now = compose so.values_bound bound

  now-valued : (x : ℕ) (u : W) → slice_get (vs ++ value ∷ []) x ≡ Some (Some u) → now (first + x) ≡ meaning p u
  now-valued x u is =
      elim (cases_eq x (length vs)) [
        | inl here ↦
            let both : Some value ≡ Some (Some u) = sym (get-last vs value x here) ∙ is in
            let same : value ≡ Some u = cc in
            ap (λ k. apply bound (so.values_bound (first + k))) here ∙ ap (apply bound) last-itself ∙ bound-here value u same (held x u is)
        | inr other ↦
            let within = slice_get_within (vs ++ value ∷ []) x (Some u) is in
            let below : x < length vs = omega (arith, length-append vs (value ∷ [])) in
            ap (apply bound) (so.are.valued x u (sym (get-before vs value x below) ∙ is)) ∙ bound-leaves value u (held x u is)
      ]

  now-others : (n : ℕ) → ((x : ℕ) (u : W) → slice_get (vs ++ value ∷ []) x ≡ Some (Some u) → n ≢ first + x) → now n ≡ Variable n
  now-others n none =
      ap (apply bound) (so.are.others n (λ x u is. none x u (before-now x u is)))
      ∙ bound-other value n (λ u is here. none (length vs) u (get-last vs value (length vs) refl ∙ ap Some is) here)

  -- what the variables before the last one stand for is as it was
  before-leaves : (x : ℕ) → x < length vs → now (first + x) ≡ so.values_bound (first + x)
  before-leaves x below =
      elim (value-or-itself p first vs so.values_bound so.are (first + x)) [
        | inl valued ↦
            let is = ap so.values_bound valued.3 ∙ so.are.valued valued.0 valued.1 valued.2 in
            ap (apply bound) is ∙ bound-leaves value valued.1 (held valued.0 valued.1 (before-now valued.0 valued.1 valued.2)) ∙ sym is
        | inr itself ↦ ap (apply bound) itself ∙ bound-other value (first + x) (λ u is here. absurd (omega (arith, below, here))) ∙ sym itself
      ]

  pub words-more : HasWords p r first (vs ++ value ∷ []) (ws ++ w ∷ [])
  words-more = record {
    values_bound = now;
    are = record { valued = now-valued; others = now-others };
    keeps = keeps-then so.keeps gets.keeps;
    substitution = gets.substitution ∙ so.substitution;
    taken = record { next = gets.next ∙ so.taken.next; others = λ n below. gets.taken n (λ e. omega arith) ∙ so.taken.others n below };
    many = omega (arith, length-append ws (w ∷ []), length-append vs (value ∷ []), so.many);
    hold = All-push (Holds r) ws w (λ k d below. gets.keeps.stand _ (so.hold k d below)) gets.holds;
    means = λ x d within.
        elim (cases_eq x (length ws)) [
          | inl here ↦
              let at : x ≡ length vs = here ∙ so.many in
              ap (meaning r) (or-last ws w x d here) ∙ gets.means ∙ sym (ap (apply bound) last-itself) ∙ ap (λ k. now (first + k)) (sym at)
          | inr other ↦
              let below : x < length ws = omega (arith, length-append ws (w ∷ [])) in
              let held_before = so.hold x d below in
              ap (meaning r) (or-before ws w x d below)
              ∙ (ap (apply r.substitution) (gets.keeps.terms _ held_before) ∙ ap (λ s. apply s (q.term (slice_index_or ws x d))) gets.substitution)
              ∙ so.means x d below ∙ sym (before-leaves x (omega (arith, below, so.many)))
        ];
  }

pub take-more : {X : Type 0} (xs : List X) (i : ℕ) (x : X) → i < length xs → x ≡ get_or xs i x → take (i + 1) xs ≡ take i xs ++ x ∷ []
take-more xs i x below is = ap (λ k. take k xs) (add-one i) ∙ take-suc xs i x below ∙ ap (λ y. take i xs ++ y ∷ []) (sym is)

-- what is found among the first ones is found
pub get-taken : {X : Type 0} (xs : List X) (i x : ℕ) (y : X) → slice_get (take i xs) x ≡ Some y → slice_get xs x ≡ Some y
get-taken xs zero x y is = (let below = slice_get_within [] x y is in absurd (omega arith))
get-taken [] (suc i) x y is = is
get-taken (z ∷ xs) (suc i) zero y is = is
get-taken (z ∷ xs) (suc i) (suc x) y is = get-taken xs i x y is

pub get-at : {X : Type 0} (xs : List X) (i : ℕ) (x : X) → i < length xs → x ≡ get_or xs i x → slice_get xs i ≡ Some x
get-at [] i x below is = elim below [ ]
get-at (y ∷ ys) zero x below is = ap Some (sym is)
get-at (y ∷ ys) (suc i) x below is = get-at ys i x (omega arith) is
