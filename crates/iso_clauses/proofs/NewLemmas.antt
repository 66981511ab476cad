-- A list more, and no lists.
use Rattle.std.proofs.Common.{◌≡◌, ℕ, zero, suc, ◌<◌, ◌+◌, true, List, [], ◌∷◌, ◌++◌, length, Some, ⊎_elim, refl, sym, ap, ◌∙◌, subst, true≢false, arith}
use Rattle.std.specs.List.{slice_get}
use Rattle.std.proofs.lemmas.Option.{none-some, same_Some, slice_get_within}
use Rattle.std.proofs.lemmas.Bool.Decides.{eqb_tells}
use Rattle.std.proofs.lemmas.List.{length-append}
use Rattle.iso_clauses.specs.Clauses.{Clause}
use Rattle.iso_clauses.specs.Blocks.{Kept, ids, no_ids, block_of, nothing_kept}
use Rattle.iso_clauses.specs.declared.slots.Label.{Label}
use Rattle.iso_clauses.specs.declared.slots.Slot.{Slot}
use Rattle.iso_clauses.specs.Orders.{are_in_order}
use Rattle.iso_clauses.specs.Slots.{is_front}
use Rattle.iso_clauses.specs.Kept.{lists, Owns, Trimmed, IsKept, Giving}
use Rattle.iso_clauses.specs.declared.views.View.{View}
use Rattle.iso_clauses.proofs.ListLemmas.{slice_get-push_before, slice_get-push_last}
use Rattle.iso_clauses.proofs.GivingLemmas.{Grown, Longer-same, Remembers, Giving-kept}

pub Grown-new : (entries : List Kept) → Grown entries (entries ++ nothing_kept ∷ [])
Grown-new entries p e at = (e, slice_get-push_before entries nothing_kept p (slice_get_within entries p e at) ∙ at, record { blocks = omega arith; longer = λ block h. Longer-same (block_of e block) (block_of e block) refl })

module _ {C : Type 0} where
  pub IsKept-new : (of : Label → ℕ) (slots : List (Slot C)) (r size : ℕ) (entries : List Kept) → IsKept of slots r size entries → IsKept of slots r (size + 1) (entries ++ nothing_kept ∷ [])
  IsKept-new of slots r size entries kept = record {
    same = omega (arith, kept.same, length-append entries (nothing_kept ∷ []));
    counted = kept.counted;
    owned = λ p e at block h.
        ⊎_elim
        (λ q. let same : nothing_kept ≡ e = same_Some nothing_kept e (sym (slice_get-push_last entries nothing_kept) ∙ subst (λ x. slice_get (entries ++ nothing_kept ∷ []) x ≡ Some e) q.1 at) in
        subst (λ (x : Kept). Owns of slots p (block_of x block)) same nothing)
        (λ q. kept.owned p e (sym (slice_get-push_before entries nothing_kept p (inside p e at q.1)) ∙ at) block h)
        (eqb_tells p (length entries));
    trimmed = λ p e at.
        ⊎_elim
        (λ q. let same : nothing_kept ≡ e = same_Some nothing_kept e (sym (slice_get-push_last entries nothing_kept) ∙ subst (λ x. slice_get (entries ++ nothing_kept ∷ []) x ≡ Some e) q.1 at) in
        subst (Trimmed slots r) same (record { within = omega arith; dead = λ k d h. absurd (omega arith) }))
        (λ q. kept.trimmed p e (sym (slice_get-push_before entries nothing_kept p (inside p e at q.1)) ∙ at))
        (eqb_tells p (length entries));
    ordered = λ p e at.
        ⊎_elim
        (λ q. let same : nothing_kept ≡ e = same_Some nothing_kept e (sym (slice_get-push_last entries nothing_kept) ∙ subst (λ x. slice_get (entries ++ nothing_kept ∷ []) x ≡ Some e) q.1 at) in
        subst (λ (x : Kept). are_in_order (is_front slots) (ids x.current) ≡ true) same refl)
        (λ q. kept.ordered p e (sym (slice_get-push_before entries nothing_kept p (inside p e at q.1)) ∙ at))
        (eqb_tells p (length entries));
    listed = λ n p there at.
        let was : lists (slice_get entries p) n ≡ true = kept.listed n p there at in
        ap (λ o. lists o n) (slice_get-push_before entries nothing_kept p (lists_within entries p n was)) ∙ was;
  }
    where
      inside : (p : ℕ) (e : Kept) → slice_get (entries ++ nothing_kept ∷ []) p ≡ Some e → (p ≡ length entries → ⊥) → p < length entries
      inside p e at other = omega (arith, slice_get_within (entries ++ nothing_kept ∷ []) p e at, length-append entries (nothing_kept ∷ []), other)

      nothing : {p : ℕ} → Owns of slots p no_ids
      nothing = record { front = λ k d h. absurd (omega arith); back = λ k d h. absurd (omega arith) }

      lists_within : (es : List Kept) (p n : ℕ) → lists (slice_get es p) n ≡ true → p < length es
      lists_within [] p n h = absurd (true≢false (sym h))
      lists_within (e ∷ es) zero n h = omega arith
      lists_within (e ∷ es) (suc p) n h = omega (arith, lists_within es p n h)

  -- no lists
  pub kept_nothing : (of : Label → ℕ) (slots : List (Slot C)) (size : ℕ) (entries : List Kept) → slots ≡ [] → size ≡ 0 → entries ≡ [] → IsKept of slots 0 size entries
  kept_nothing of slots size entries none empty nothing =
      subst (λ (ss : List (Slot C)). IsKept of ss 0 size entries) (sym none) (subst (λ n. IsKept {C = C} of [] 0 n entries) (sym empty) (subst (IsKept {C = C} of [] 0 0) (sym nothing)
      record {
        same = refl;
        counted = record { deaths = λ n s h. absurd (none-some s h); count = omega arith };
        owned = λ p e at. absurd (none-some e at);
        trimmed = λ p e at. absurd (none-some e at);
        ordered = λ p e at. absurd (none-some e at);
        listed = λ n p there at. absurd (none-some p at);
      }))

  pub Remembers-itself : (slots : List (Slot C)) (r : ℕ) → Remembers slots r slots r
  Remembers-itself slots r = record { later = omega arith; views = λ made n h within. refl }

  -- views where a procedure came
  pub Giving-place : (of : Label → ℕ) (slots : List (Slot C)) (r size : ℕ) (entries : List Kept) → IsKept of slots r size entries
      → (v : View) (cs : List (Clause C)) → Giving slots r entries v cs → Giving slots r (entries ++ nothing_kept ∷ []) v cs
  Giving-place of slots r size entries kept = Giving-kept of slots r size entries slots r (entries ++ nothing_kept ∷ []) kept (Remembers-itself slots r) (Grown-new entries)
