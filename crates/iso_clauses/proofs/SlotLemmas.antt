-- What a removal makes of the slots.
use Rattle.std.proofs.Common.{◌≡◌, ℕ, zero, suc, ◌<◌, ◌+◌, true, false, cond, List, [], ◌∷◌, length, get_or, set, Option, Some, None, is_some, option_map, ⊎_elim, refl, sym, ap, ◌∙◌, subst, true≢false, arith, lt-ltb, le-leb, ltb-true, leb-true, if◌then◌else◌, nat_le}
use Rattle.std.specs.List.{slice_get, count_by}
use Rattle.std.specs.Option.{option_and_then, is_none}
use Rattle.std.proofs.lemmas.Option.{same_Some, get_or_from_slice_get}
use Rattle.std.proofs.lemmas.Bool.Decides.{eqb_tells, leb_tells}
use Rattle.std.proofs.lemmas.List.Sums.{sum_by-set}
use Rattle.std.proofs.lemmas.List.{length-set}
use Rattle.iso_clauses.specs.Clauses.{Clause}
use Rattle.iso_clauses.specs.declared.slots.Slot.{Slot}
use Rattle.iso_clauses.specs.Slots.{lives, before, given_by, clause_at, IsCounted, Removes}
use Rattle.iso_clauses.proofs.ListLemmas.{slice_get-set_same, slice_get-set_other}

-- what did not die before, and gives a clause now, did not die
alive_none : (r : ℕ) (d : Option ℕ) → lives r d ≡ true → before r d ≡ true → d ≡ None
alive_none r None l b = refl
alive_none r (Some d) l b = absurd (omega (arith, leb-true r d l, ltb-true d r b))

-- a removal that came before stays so, and one more changes nothing
before_more : (r : ℕ) (d : Option ℕ) → before r d ≡ true → before (r + 1) d ≡ true
before_more r None b = refl
before_more r (Some d) b = lt-ltb d (r + 1) (omega (arith, ltb-true d r b))

lives_more : (r : ℕ) (d : Option ℕ) → before r d ≡ true → lives (r + 1) d ≡ lives r d
lives_more r None b = refl
lives_more r (Some d) b =
    let early : d < r = ltb-true d r b in
    ⊎_elim
    (λ p. absurd (omega (arith, p.1)))
    (λ p. ⊎_elim (λ q. absurd (omega (arith, q.1))) (λ q. p.0 ∙ sym q.0) (leb_tells r d))
    (leb_tells (r + 1) d)

module _ {C : Type 0} where
  -- the slot of a clause that was removed at this removal
  abbrev pub killed : ℕ → Slot C → Slot C
  killed r s = record s { died = Some r }

  given_none : (r n : ℕ) (s : Slot C) → lives r s.died ≡ false → given_by r n s ≡ None
  given_none r n s h = ap (λ b. if b then option_map (λ value. let c : Clause C = record { number = n; value = value } in c) s.value else None) h

  given_same : (q r n : ℕ) (s t : Slot C) → lives q t.died ≡ lives r s.died → t.value ≡ s.value → given_by q n t ≡ given_by r n s
  given_same q r n s t l v =
      ap (λ b. if b then option_map (λ value. let c : Clause C = record { number = n; value = value } in c) t.value else None) l
      ∙ ap (λ w. if lives r s.died then option_map (λ value. let c : Clause C = record { number = n; value = value } in c) w else None) v

  -- a slot that gives a clause now is there, and did not die
  pub given_there : (slots : List (Slot C)) (r n : ℕ) → is_some (clause_at slots r n) ≡ true → n < length slots
  given_there [] r n h = absurd (true≢false (sym h))
  given_there (s ∷ ss) r zero h = omega arith
  given_there (s ∷ ss) r (suc n) h = omega (arith, shorter ss n h)
    where
      shorter : (ss : List (Slot C)) (m : ℕ) → is_some (option_and_then (given_by r (suc n)) (slice_get ss m)) ≡ true → m < length ss
      shorter [] m h = absurd (true≢false (sym h))
      shorter (t ∷ ts) zero h = omega arith
      shorter (t ∷ ts) (suc m) h = omega (arith, shorter ts m h)

  pub given_alive : (slots : List (Slot C)) (r n : ℕ) (s : Slot C) → IsCounted slots r → slice_get slots n ≡ Some s → is_some (clause_at slots r n) ≡ true → s.died ≡ None
  given_alive slots r n s counted at given =
      let here : is_some (given_by r n s) ≡ true = ap (λ o. is_some (option_and_then (given_by r n) o)) (sym at) ∙ given in
      alive_none r s.died (living s here) (counted.deaths n s at)
    where
      living : (t : Slot C) → is_some (given_by r n t) ≡ true → lives r t.died ≡ true
      living t here =
          elim (lives r t.died) as (λ b. lives r t.died ≡ b → lives r t.died ≡ true) [
            | true ↦ λ e. e
            | false ↦ λ e. absurd (true≢false (sym here ∙ ap is_some (given_none r n t e)))
          ] refl

  -- a removal
  pub Removes-killed : (slots : List (Slot C)) (r k : ℕ) (s : Slot C) → slice_get slots k ≡ Some s → k < length slots → IsCounted slots r → s.died ≡ None → Removes k slots r (set slots k (killed r s)) (r + 1)
  Removes-killed slots r k s at within counted alive = record {
    size = length-set slots k (killed r s);
    later = omega arith;
    labels = λ n. by_place (λ o. option_map (λ (t : Slot C). t.label) o) n refl;
    values = λ n. by_place (λ o. option_and_then (λ (t : Slot C). t.value) o) n refl;
    views = λ made n h. by_place (option_and_then (given_by made n)) n (given_same made made n s (killed r s) (le-leb made r h ∙ sym (ap (lives made) alive)) refl);
    others = λ n other. ap (option_and_then (given_by (r + 1) n)) (slice_get-set_other slots k n (killed r s) other) ∙ later n (slice_get slots n) refl;
    gone = ap (option_and_then (given_by (r + 1) k)) (slice_get-set_same slots k (killed r s) within) ∙ given_none (r + 1) k (killed r s) dead;
  }
    where
      by_place : {X : Type 0} (f : Option (Slot C) → X) (n : ℕ) → f (Some (killed r s)) ≡ f (Some s) → f (slice_get (set slots k (killed r s)) n) ≡ f (slice_get slots n)
      by_place f n same =
          ⊎_elim
          (λ e. subst (λ m. f (slice_get (set slots k (killed r s)) m) ≡ f (slice_get slots m)) (sym e.1) (ap f (slice_get-set_same slots k (killed r s) within) ∙ same ∙ ap f (sym at)))
          (λ e. ap f (slice_get-set_other slots k n (killed r s) e.1))
          (eqb_tells n k)

      later : (n : ℕ) (o : Option (Slot C)) → slice_get slots n ≡ o → option_and_then (given_by (r + 1) n) o ≡ option_and_then (given_by r n) o
      later n None h = refl
      later n (Some t) h = given_same (r + 1) r n t t (lives_more r t.died (counted.deaths n t h)) refl

      dead : nat_le (r + 1) r ≡ false
      dead = ⊎_elim (λ p. absurd (omega (arith, p.1))) (λ p. p.0) (leb_tells (r + 1) r)

  pub IsCounted-killed : (slots : List (Slot C)) (r k : ℕ) (s : Slot C) → slice_get slots k ≡ Some s → k < length slots → IsCounted slots r → s.died ≡ None → IsCounted (set slots k (killed r s)) (r + 1)
  IsCounted-killed slots r k s at within counted alive = record {
    deaths = λ n t h.
        ⊎_elim
        (λ e. let same : killed r s ≡ t = same_Some (killed r s) t (sym (slice_get-set_same slots k (killed r s) within) ∙ subst (λ m. slice_get (set slots k (killed r s)) m ≡ Some t) e.1 h) in
        subst (λ (u : Slot C). before (r + 1) u.died ≡ true) same (lt-ltb r (r + 1) (omega arith)))
        (λ e. before_more r t.died (counted.deaths n t (sym (slice_get-set_other slots k n (killed r s) e.1) ∙ h)))
        (eqb_tells n k);
    count = omega (arith, fewer, length-set slots k (killed r s), counted.count);
  }
    where
      alone : Option ℕ → ℕ
      alone d = cond (is_none d) 1 0

      was : ◌≡◌ {A = ℕ} (cond (is_none (get_or slots k s).died) 1 0) 1
      was = ap (λ (t : Slot C). alone t.died) (get_or_from_slice_get slots k s s at) ∙ ap alone alive

      fewer : count_by (λ (t : Slot C). is_none t.died) (set slots k (killed r s)) + 1 ≡ count_by (λ (t : Slot C). is_none t.died) slots
      fewer = omega (arith, sum_by-set (λ (t : Slot C). cond (is_none t.died) 1 0) slots k (killed r s) s within, was)
