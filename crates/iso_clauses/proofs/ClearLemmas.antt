-- The clauses of many numbers removed.
use Rattle.std.proofs.Common.{◌≡◌, ℕ, suc, ◌<◌, ◌+◌, Bool, true, false, ◌||◌, ◌==◌, List, [], ◌∷◌, ◌++◌, length, get_or, take, Some, None, is_some, option_map, ⊎_elim, refl, sym, ap, ◌∙◌, subst, true≢false, arith}
use Rattle.std.specs.List.{slice_get, cons_option, list_any, All}
use Rattle.std.proofs.lemmas.Bool.Decides.{eqb_tells}
use Rattle.std.proofs.lemmas.List.{take_more}
use Rattle.std.proofs.lemmas.List.Elements.{All-push}
use Rattle.std.proofs.lemmas.List.Folds.{list_any-append}
use Rattle.iso_clauses.specs.Blocks.{Kept, ids, block_of}
use Rattle.iso_clauses.specs.declared.slots.Label.{Label}
use Rattle.iso_clauses.specs.declared.slots.Slot.{Slot}
use Rattle.iso_clauses.specs.Slots.{clause_at, list_at, given, IsCounted, Removes, Clears}
use Rattle.iso_clauses.specs.Kept.{lists, IsKept}
use Rattle.iso_clauses.proofs.LabelLemmas.{order_stays, owned_now, Owns-more, Trimmed-more}
use Rattle.iso_clauses.proofs.GivingLemmas.{Remembers}

either_false : (a b : Bool) → a || b ≡ false → (a ≡ false) × (b ≡ false)
either_false true b h = absurd (true≢false h)
either_false false b h = (refl, h)

first_false : (a b : Bool) → a || b ≡ true → a ≡ false → b ≡ true
first_false true b h e = absurd (true≢false e)
first_false false b h e = h

-- what holds of each number holds of one that is among them
pub any-all : (P : ℕ → Type 0) (ns : List ℕ) (n : ℕ) → All P ns → list_any (λ m. m == n) ns ≡ true → P n
any-all P [] n all h = absurd (true≢false (sym h))
any-all P (m ∷ ms) n all h =
    ⊎_elim
    (λ e. subst P e.1 (all 0 m (omega arith)))
    (λ e. any-all P ms n (λ k d l. all (suc k) d (omega arith)) (first_false (m == n) (list_any (λ x. x == n) ms) h e.0))
    (eqb_tells m n)

module _ {C : Type 0} where
  pub Clears-more : (ns : List ℕ) (k x : ℕ) (old : List (Slot C)) (r : ℕ) (mid : List (Slot C)) (s : ℕ) (new : List (Slot C)) (t : ℕ) → k < length ns → x ≡ get_or ns k x → Clears (take k ns) old r mid s → Removes x mid s new t → Clears (take (k + 1) ns) old r new t
  Clears-more ns k x old r mid s new t within is clears removes = subst (λ ms. Clears ms old r new t) (sym more) record {
    size = removes.size ∙ clears.size;
    later = omega (arith, removes.later, clears.later);
    labels = λ n. removes.labels n ∙ clears.labels n;
    values = λ n. removes.values n ∙ clears.values n;
    views = λ made n h. removes.views made n (omega (arith, h, clears.later)) ∙ clears.views made n h;
    others = λ n h.
        (let parts = either_false (list_any (λ m. m == n) (take k ns)) ((x == n) || false) (sym (list_any-append (λ m. m == n) (take k ns) (x ∷ [])) ∙ h) in
        let other : (x == n) ≡ false = (either_false (x == n) false parts.1).0 in
        removes.others n (λ e. ⊎_elim (λ q. true≢false (sym q.0 ∙ other)) (λ q. q.1 (sym e)) (eqb_tells x n)) ∙ clears.others n parts.0);
    gone = All-push (λ n. clause_at new t n ≡ None) (take k ns) x (λ j d h. stays (get_or (take k ns) j d) (clears.gone j d h)) removes.gone;
  }
    where
      more : take (k + 1) ns ≡ take k ns ++ x ∷ []
      more = take_more ns k x within ∙ ap (λ y. take k ns ++ y ∷ []) (sym is)

      stays : (n : ℕ) → clause_at mid s n ≡ None → clause_at new t n ≡ None
      stays n h = ⊎_elim (λ e. ap (clause_at new t) e.1 ∙ removes.gone) (λ e. removes.others n e.1 ∙ h) (eqb_tells n x)

  pub Remembers-cleared : (ns : List ℕ) (slots : List (Slot C)) (r : ℕ) (more : List (Slot C)) (q : ℕ) → Clears ns slots r more q → Remembers slots r more q
  Remembers-cleared ns slots r more q clears = record { later = clears.later; views = λ made n h within. clears.views made n h }

  pub IsKept-cleared : (of : Label → ℕ) (ns : List ℕ) (slots : List (Slot C)) (r : ℕ) (more : List (Slot C)) (q size : ℕ) (entries : List Kept) → IsKept of slots r size entries → Clears ns slots r more q → IsCounted more q → IsKept of more q size entries
  IsKept-cleared of ns slots r more q size entries kept clears counted = record {
    same = kept.same;
    counted = counted;
    owned = λ p e at block h. Owns-more of slots more p (block_of e block) (λ n h. clears.labels n) (kept.owned p e at block h);
    trimmed = λ p e at. Trimmed-more slots more r q e (λ k d h gone. stays (get_or (ids e.current) k d) gone (list_any (λ m. m == get_or (ids e.current) k d) ns) refl) (kept.trimmed p e at);
    ordered = λ p e at. order_stays of slots more p (ids e.current) (λ n h. clears.labels n) (owned_now of slots r size entries kept p e at) (kept.ordered p e at);
    listed = λ n p there at. tested n p there at (list_any (λ m. m == n) ns) refl;
  }
    where
      stays : (n : ℕ) → is_some (clause_at slots r n) ≡ false → (t : Bool) → list_any (λ m. m == n) ns ≡ t → is_some (clause_at more q n) ≡ false
      stays n gone true h = ap is_some (any-all (λ m. clause_at more q m ≡ None) ns n clears.gone h)
      stays n gone false h = ap is_some (clears.others n h) ∙ gone

      tested : (n p : ℕ) → is_some (clause_at more q n) ≡ true → list_at of more n ≡ Some p → (t : Bool) → list_any (λ m. m == n) ns ≡ t → lists (slice_get entries p) n ≡ true
      tested n p there at true h = absurd (true≢false (sym there ∙ ap is_some (any-all (λ m. clause_at more q m ≡ None) ns n clears.gone h)))
      tested n p there at false h = kept.listed n p (ap is_some (sym (clears.others n h)) ∙ there) (ap (option_map of) (sym (clears.labels n)) ∙ at)

  -- the clauses of numbers that give none
  pub given-cleared : (slots : List (Slot C)) (r : ℕ) (ns : List ℕ) → All (λ n. clause_at slots r n ≡ None) ns → given slots r ns ≡ []
  given-cleared slots r [] all = refl
  given-cleared slots r (n ∷ ns) all = ap (λ o. cons_option o (given slots r ns)) (all 0 n (omega arith)) ∙ given-cleared slots r ns (λ k d h. all (suc k) d (omega arith))
