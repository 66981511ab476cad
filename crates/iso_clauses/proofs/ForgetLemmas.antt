-- What is left when views are forgotten.
use Rattle.std.proofs.Common.{◌≡◌, ℕ, zero, suc, ◌<◌, ◌≤◌, ◌+◌, Bool, true, false, cond, List, [], ◌∷◌, ◌++◌, take, drop, length, get_or, set, map, Option, Some, None, is_some, option_map, ⊎_elim, refl, sym, ap, ◌∙◌, subst, true≢false, arith, ltb-true, if◌then◌else◌}
use Rattle.std.specs.List.{slice_get, count_by}
use Rattle.std.specs.Option.{option_and_then, is_none}
use Rattle.std.proofs.lemmas.Option.{none-some, same_Some, get_or_from_slice_get}
use Rattle.std.proofs.lemmas.Bool.Decides.{eqb_tells, leb_tells}
use Rattle.std.proofs.lemmas.List.{length-set, length-map, set-get_or, map-set, map-append, take_more_set, take_at, take_all}
use Rattle.std.proofs.lemmas.List.Sums.{sum_by-set}
use Rattle.iso_clauses.specs.Clauses.{Clause}
use Rattle.iso_clauses.specs.Blocks.{Kept, ids, block_of, forgotten}
use Rattle.iso_clauses.specs.declared.slots.Label.{Label}
use Rattle.iso_clauses.specs.declared.slots.Slot.{Slot}
use Rattle.iso_clauses.specs.Orders.{are_in_order}
use Rattle.iso_clauses.specs.Slots.{is_front, lives, before, given_by, IsCounted, Cleans, cleaned}
use Rattle.iso_clauses.specs.Kept.{lists, Owns, Trimmed, IsKept}
use Rattle.iso_clauses.proofs.ListLemmas.{slice_get-set_same, slice_get-set_other}
use Rattle.iso_clauses.proofs.LabelLemmas.{order_stays, owned_now, Owns-more, Trimmed-more}
use Rattle.iso_clauses.proofs.AddLemmas.{block_of-last}

-- an entry of the forgotten ones
forgotten-at : (entries : List Kept) (p : ℕ) (e : Kept) → slice_get (map forgotten entries) p ≡ Some e → (x : Kept) × (slice_get entries p ≡ Some x) × (forgotten x ≡ e)
forgotten-at [] p e h = absurd (none-some e h)
forgotten-at (x ∷ xs) zero e h = (x, refl, same_Some (forgotten x) e h)
forgotten-at (x ∷ xs) (suc p) e h = forgotten-at xs p e h

lists-forgotten : (entries : List Kept) (p n : ℕ) → lists (slice_get (map forgotten entries) p) n ≡ lists (slice_get entries p) n
lists-forgotten [] p n = refl
lists-forgotten (x ∷ xs) zero n = refl
lists-forgotten (x ∷ xs) (suc p) n = lists-forgotten xs p n

module _ {C : Type 0} where
  pub IsKept-forgotten : (of : Label → ℕ) (slots : List (Slot C)) (r size : ℕ) (entries : List Kept) → IsKept of slots r size entries → IsKept of slots r size (map forgotten entries)
  IsKept-forgotten of slots r size entries kept = record {
    same = kept.same ∙ sym (length-map entries forgotten);
    counted = kept.counted;
    owned = λ p e at block h.
        (let x = forgotten-at entries p e at in
        subst (λ (y : Kept). block ≤ length y.older → Owns of slots p (block_of y block)) x.2 (λ l. own p x.0 x.1) h);
    trimmed = λ p e at.
        (let x = forgotten-at entries p e at in
        let was : Trimmed slots r x.0 = kept.trimmed p x.0 x.1 in
        subst (Trimmed slots r) x.2 (record { within = was.within; dead = was.dead }));
    ordered = λ p e at.
        (let x = forgotten-at entries p e at in
        subst (λ (y : Kept). are_in_order (is_front slots) (ids y.current) ≡ true) x.2 (kept.ordered p x.0 x.1));
    listed = λ n p there at. lists-forgotten entries p n ∙ kept.listed n p there at;
  }
    where
      own : (p : ℕ) (x : Kept) → slice_get entries p ≡ Some x → Owns of slots p x.current
      own p x at = subst (Owns of slots p) (block_of-last x (length x.older) refl) (kept.owned p x at (length x.older) (omega arith))

  pub IsKept-cleaned : (of : Label → ℕ) (slots more : List (Slot C)) (r size : ℕ) (entries : List Kept) → IsKept of slots r size entries → Cleans slots more r → IsKept of more r size entries
  IsKept-cleaned of slots more r size entries kept cleans = record {
    same = kept.same;
    counted = cleans.counted;
    owned = λ p e at block h. Owns-more of slots more p (block_of e block) (λ n h. cleans.labels n) (kept.owned p e at block h);
    trimmed = λ p e at. Trimmed-more slots more r r e (λ k d h gone. ap is_some (cleans.now (get_or (ids e.current) k d)) ∙ gone) (kept.trimmed p e at);
    ordered = λ p e at. order_stays of slots more p (ids e.current) (λ n h. cleans.labels n) (owned_now of slots r size entries kept p e at) (kept.ordered p e at);
    listed = λ n p there at. kept.listed n p (ap is_some (sym (cleans.now n)) ∙ there) (ap (option_map of) (sym (cleans.labels n)) ∙ at);
  }

  pub Cleans-nothing : (slots : List (Slot C)) (r : ℕ) → IsCounted slots r → Cleans slots slots r
  Cleans-nothing slots r counted = record { size = refl; labels = λ n. refl; now = λ n. refl; counted = counted }

  -- the slot of a removed clause without its value
  abbrev pub emptied : Slot C → Slot C
  emptied s = record s { value = None }

  pub Cleans-more : (old slots : List (Slot C)) (r k : ℕ) (s : Slot C) → slice_get slots k ≡ Some s → k < length slots → is_some s.died ≡ true → Cleans old slots r → Cleans old (set slots k (emptied s)) r
  Cleans-more old slots r k s at within dead cleans = record {
    size = length-set slots k (emptied s) ∙ cleans.size;
    labels = λ n. by_place (λ o. option_map (λ (t : Slot C). t.label) o) n refl ∙ cleans.labels n;
    now = λ n. by_place (option_and_then (given_by r n)) n (nothing n (emptied s) gone ∙ sym (nothing n s gone)) ∙ cleans.now n;
    counted = record {
      deaths = λ n t h.
          ⊎_elim
          (λ e. let same : emptied s ≡ t = same_Some (emptied s) t (sym (slice_get-set_same slots k (emptied s) within) ∙ subst (λ m. slice_get (set slots k (emptied s)) m ≡ Some t) e.1 h) in
          subst (λ (u : Slot C). before r u.died ≡ true) same (cleans.counted.deaths k s at))
          (λ e. cleans.counted.deaths n t (sym (slice_get-set_other slots k n (emptied s) e.1) ∙ h))
          (eqb_tells n k);
      count = omega (arith, same_count, length-set slots k (emptied s), cleans.counted.count);
    };
  }
    where
      by_place : {X : Type 0} (f : Option (Slot C) → X) (n : ℕ) → f (Some (emptied s)) ≡ f (Some s) → f (slice_get (set slots k (emptied s)) n) ≡ f (slice_get slots n)
      by_place f n same =
          ⊎_elim
          (λ e. subst (λ m. f (slice_get (set slots k (emptied s)) m) ≡ f (slice_get slots m)) (sym e.1) (ap f (slice_get-set_same slots k (emptied s) within) ∙ same ∙ ap f (sym at)))
          (λ e. ap f (slice_get-set_other slots k n (emptied s) e.1))
          (eqb_tells n k)

      past : (d : Option ℕ) → is_some d ≡ true → before r d ≡ true → lives r d ≡ false
      past None h b = absurd (true≢false (sym h))
      past (Some d) h b = ⊎_elim (λ p. absurd (omega (arith, p.1, ltb-true d r b))) (λ p. p.0) (leb_tells r d)

      gone : lives r s.died ≡ false
      gone = past s.died dead (cleans.counted.deaths k s at)

      nothing : (n : ℕ) (t : Slot C) → lives r t.died ≡ false → given_by r n t ≡ None
      nothing n t h = ap (λ b. if b then option_map (λ value. let c : Clause C = record { number = n; value = value } in c) t.value else None) h

      alone : Option ℕ → ℕ
      alone d = cond (is_none d) 1 0

      was : ◌≡◌ {A = ℕ} (cond (is_none (get_or slots k s).died) 1 0) (cond (is_none s.died) 1 0)
      was = ap (λ (t : Slot C). alone t.died) (get_or_from_slice_get slots k s s at)

      same_count : count_by (λ (t : Slot C). is_none t.died) (set slots k (emptied s)) ≡ count_by (λ (t : Slot C). is_none t.died) slots
      same_count = omega (arith, sum_by-set (λ (t : Slot C). cond (is_none t.died) 1 0) slots k (emptied s) s within, was)

  pub Cleans-cleaned : (old slots : List (Slot C)) (r k : ℕ) (s : Slot C) → slice_get slots k ≡ Some s → k < length slots → s ≡ get_or slots k s → Cleans old slots r → Cleans old (set slots k (cleaned s)) r
  Cleans-cleaned old slots r k s at within is cleans = by (is_some s.died) refl
    where
      by : (b : Bool) → is_some s.died ≡ b → Cleans old (set slots k (if b then emptied s else s)) r
      by true e = Cleans-more old slots r k s at within e cleans
      by false e = subst (λ (ss : List (Slot C)). Cleans old ss r) (sym (ap (set slots k) is ∙ set-get_or slots k s)) cleans

-- the entries once one more is forgotten
pub forgotten-set : (entries : List Kept) (k : ℕ) (old new : Kept) → old ≡ get_or entries k old → new ≡ forgotten old → map forgotten (set entries k new) ≡ map forgotten entries
forgotten-set entries k old new was is =
    map-set forgotten entries k new ∙ ap (λ (e : Kept). set (map forgotten entries) k (forgotten e)) is ∙ sym (map-set forgotten entries k old)
    ∙ ap (map forgotten) (ap (set entries k) was ∙ set-get_or entries k old)

pub forgotten-more : (entries : List Kept) (k : ℕ) (old new : Kept) → k < length entries → new ≡ forgotten old → map forgotten (take k entries) ≡ take k entries → map forgotten (take (k + 1) (set entries k new)) ≡ take (k + 1) (set entries k new)
forgotten-more entries k old new within is done =
    ap (map forgotten) next ∙ map-append forgotten (take k entries) (new ∷ []) ∙ ap (λ es. es ++ forgotten new ∷ []) done ∙ ap (λ (e : Kept). take k entries ++ e ∷ []) (ap forgotten is ∙ sym is) ∙ sym next
  where
    next : take (k + 1) (set entries k new) ≡ take k entries ++ new ∷ []
    next = take_more_set entries k new within

pub forgotten-all : (entries now : List Kept) (n k : ℕ) → length now ≡ n → length now ≤ k → map forgotten now ≡ map forgotten entries → map forgotten (take k now) ≡ take k now → take n (now ++ drop (length now) entries) ≡ map forgotten entries
forgotten-all entries now n k size past same done =
    take_at now (drop (length now) entries) n size ∙ sym (take_all k now past) ∙ sym done ∙ ap (map forgotten) (take_all k now past) ∙ same
