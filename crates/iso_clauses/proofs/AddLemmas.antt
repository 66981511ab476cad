-- One clause more.
use Rattle.std.proofs.Common.{◌≡◌, ℕ, ◌<◌, ◌≤◌, ◌+◌, Bool, true, false, ◌||◌, ◌==◌, List, [], ◌∷◌, ◌++◌, length, get_or, set, take, reverse, Option, Some, None, is_some, option_map, ⊎_elim, refl, sym, ap, ◌∙◌, subst, arith, eq-eqb, cond}
use Rattle.std.specs.List.{slice_get, cons_option, list_any, All}
use Rattle.std.specs.Option.{option_and_then, is_none}
use Rattle.std.proofs.lemmas.Option.{none-some, same_Some, slice_get_within, slice_get-get_or}
use Rattle.std.proofs.lemmas.Bool.Decides.{eqb_tells}
use Rattle.std.proofs.lemmas.List.{length-append, length-set, length-reverse, get_or_default, get_or_past, take-append-le}
use Rattle.std.proofs.lemmas.List.Elements.{filter_map-append, All-push}
use Rattle.std.proofs.lemmas.List.Folds.{list_any-append}
use Rattle.std.proofs.lemmas.List.Sums.{sum_by-append}
use Rattle.iso_clauses.specs.Clauses.{Clause}
use Rattle.iso_clauses.specs.Sides.{put_at_side}
use Rattle.iso_clauses.specs.Blocks.{Ids, Kept, ids, block_of, grown, pushed, nothing_kept}
use Rattle.iso_clauses.specs.declared.blocks.Side.{Side}
use Rattle.iso_clauses.specs.declared.blocks.Side.TheVariants.{First, Last}
use Rattle.iso_clauses.specs.declared.slots.Label.{Label}
use Rattle.iso_clauses.specs.declared.slots.Slot.{Slot}
use Rattle.iso_clauses.specs.Orders.{are_in_order}
use Rattle.iso_clauses.specs.Slots.{before, clause_at, is_first, is_of_front, is_front, label_at, list_at, value_at, given, IsCounted}
use Rattle.iso_clauses.specs.Kept.{lists, Owns, Trimmed, IsKept}
use Rattle.iso_clauses.proofs.OrderLemmas.{order_told, order_tells, order_first, order_last}
use Rattle.iso_clauses.proofs.ListLemmas.{slice_get-push_before, slice_get-push_last, slice_get-set_same, slice_get-set_other}
use Rattle.iso_clauses.proofs.LabelLemmas.{ids-first, ids-last, list_there, KeepsLabels, order_stays, Owns-ids, Owns-more, Trimmed-more}

-- a procedure that has a number has it still, and the new one
lists-grown : (side : Side) (n m : ℕ) (b : Ids) → list_any (λ k. k == m) (ids b) ≡ true → list_any (λ k. k == m) (ids (grown side n b)) ≡ true
lists-grown First n m b h = ap (list_any (λ k. k == m)) (ids-first n b) ∙ ap (λ t. (n == m) || t) h ∙ or_true (n == m)
  where
    or_true : (t : Bool) → t || true ≡ true
    or_true true = refl
    or_true false = refl
lists-grown Last n m b h = ap (list_any (λ k. k == m)) (ids-last n b) ∙ list_any-append (λ k. k == m) (ids b) (n ∷ []) ∙ ap (λ t. t || list_any (λ k. k == m) (n ∷ [])) h

lists-new : (side : Side) (n : ℕ) (b : Ids) → list_any (λ k. k == n) (ids (grown side n b)) ≡ true
lists-new First n b = ap (list_any (λ k. k == n)) (ids-first n b) ∙ ap (λ t. t || list_any (λ k. k == n) (ids b)) (eq-eqb n n refl)
lists-new Last n b = ap (list_any (λ k. k == n)) (ids-last n b) ∙ list_any-append (λ k. k == n) (ids b) (n ∷ []) ∙ ap (λ t. list_any (λ k. k == n) (ids b) || (t || false)) (eq-eqb n n refl) ∙ or_true (list_any (λ k. k == n) (ids b))
  where
    or_true : (t : Bool) → t || true ≡ true
    or_true true = refl
    or_true false = refl

-- the blocks of a procedure to which a number was added
pub block_of-before : (side : Side) (n : ℕ) (e : Kept) (block : ℕ) → block < length e.older → block_of (pushed side n e) block ≡ block_of e block
block_of-before side n e block h = get_or_default e.older block (grown side n e.current) e.current h

pub block_of-last : (e : Kept) (block : ℕ) → block ≡ length e.older → block_of e block ≡ e.current
block_of-last e block h = get_or_past e.older block e.current (omega (arith, h))

module _ {C : Type 0} where
  pub clause_at-before : (slots : List (Slot C)) (s : Slot C) (made n : ℕ) → n < length slots → clause_at (slots ++ s ∷ []) made n ≡ clause_at slots made n
  clause_at-before slots s made n h = ap (option_and_then _) (slice_get-push_before slots s n h)

  pub labels-before : (slots : List (Slot C)) (s : Slot C) → KeepsLabels slots (slots ++ s ∷ [])
  labels-before slots s n within = ap (option_map (λ (t : Slot C). t.label)) (slice_get-push_before slots s n within)

  -- the slot of a clause that is added
  abbrev pub new_slot : C → Label → Slot C
  new_slot value l = record { value = Some value; label = l; died = None }

  pub label-new : (slots : List (Slot C)) (value : C) (l : Label) → label_at (slots ++ new_slot value l ∷ []) (length slots) ≡ Some l
  label-new slots value l = ap (option_map (λ (t : Slot C). t.label)) (slice_get-push_last slots (new_slot value l))

  pub clause_at-new : (slots : List (Slot C)) (value : C) (l : Label) (r : ℕ) → clause_at (slots ++ new_slot value l ∷ []) r (length slots) ≡ Some (record { number = length slots; value = value })
  clause_at-new slots value l r = ap (option_and_then _) (slice_get-push_last slots (new_slot value l))

  pub given-grown : (side : Side) (slots : List (Slot C)) (r n : ℕ) (c : Clause C) (b : Ids) → clause_at slots r n ≡ Some c → given slots r (ids (grown side n b)) ≡ put_at_side side c (given slots r (ids b))
  given-grown First slots r n c b at = ap (given slots r) (ids-first n b) ∙ ap (λ o. cons_option o (given slots r (ids b))) at
  given-grown Last slots r n c b at = ap (given slots r) (ids-last n b) ∙ filter_map-append (clause_at slots r) (ids b) (n ∷ []) ∙ ap (λ o. given slots r (ids b) ++ cons_option o []) at

  IsCounted-add : (slots : List (Slot C)) (r : ℕ) (l : Label) (value : C) → IsCounted slots r → IsCounted (slots ++ new_slot value l ∷ []) r
  IsCounted-add slots r l value counted = record {
    deaths = λ n s h.
        ⊎_elim
        (λ e. let same : new_slot value l ≡ s = same_Some (new_slot value l) s (sym (slice_get-push_last slots (new_slot value l)) ∙ subst (λ m. slice_get (slots ++ new_slot value l ∷ []) m ≡ Some s) e.1 h) in
        subst (λ (u : Slot C). before r u.died ≡ true) same refl)
        (λ e. counted.deaths n s (sym (slice_get-push_before slots (new_slot value l) n (inside n s h e.1)) ∙ h))
        (eqb_tells n (length slots));
    count = omega (arith, counted.count, length-append slots (new_slot value l ∷ []), sum_by-append (λ (s : Slot C). cond (is_none s.died) 1 0) slots (new_slot value l ∷ []));
  }
    where
      inside : (n : ℕ) (s : Slot C) → slice_get (slots ++ new_slot value l ∷ []) n ≡ Some s → (n ≡ length slots → ⊥) → n < length slots
      inside n s h other = omega (arith, slice_get_within (slots ++ new_slot value l ∷ []) n s h, length-append slots (new_slot value l ∷ []), other)

  -- lists to one of which a clause was added
  pub IsKept-add : (of : Label → ℕ) (slots : List (Slot C)) (r size : ℕ) (entries : List Kept) (value : C) (l : Label) → IsKept of slots r size entries → of l < length entries
      → IsKept of (slots ++ new_slot value l ∷ []) r size (set entries (of l) (pushed l.side (length slots) (get_or entries (of l) nothing_kept)))
  IsKept-add of slots r size entries value l kept within = record {
    same = kept.same ∙ sym (length-set entries place e');
    counted = IsCounted-add slots r l value kept.counted;
    owned = λ p d at block h.
        ⊎_elim
        (λ q. here d (same_Some e' d (sym (slice_get-set_same entries place e' within) ∙ subst (λ m. slice_get (set entries place e') m ≡ Some d) q.1 at)) p q.1 block h)
        (λ q. Owns-more of slots more p (block_of d block) (labels-before slots (new_slot value l)) (kept.owned p d (sym (slice_get-set_other entries place p e' q.1) ∙ at) block h))
        (eqb_tells p place);
    trimmed = λ p d at.
        ⊎_elim
        (λ q. subst (Trimmed more r) (same_Some e' d (sym (slice_get-set_same entries place e' within) ∙ subst (λ m. slice_get (set entries place e') m ≡ Some d) q.1 at)) (trimmed_grown side))
        (λ q. was_trimmed p d (sym (slice_get-set_other entries place p e' q.1) ∙ at))
        (eqb_tells p place);
    ordered = λ p d at.
        ⊎_elim
        (λ q. subst (λ (x : Kept). are_in_order (is_front more) (ids x.current) ≡ true) (same_Some e' d (sym (slice_get-set_same entries place e' within) ∙ subst (λ m. slice_get (set entries place e') m ≡ Some d) q.1 at)) (order_grown side refl))
        (λ q. was_ordered p d (sym (slice_get-set_other entries place p e' q.1) ∙ at))
        (eqb_tells p place);
    listed = λ m p there proc.
        ⊎_elim
        (λ q. newest m q.1 p (subst (λ x. list_at of more x ≡ Some p) q.1 proc))
        (λ q. earlier m p (inside m p proc q.1) there proc)
        (eqb_tells m n);
  }
    where
      place : ℕ
      place = of l

      side : Side
      side = l.side

      n : ℕ
      n = length slots

      e : Kept
      e = get_or entries place nothing_kept

      e' : Kept
      e' = pushed side n e

      more : List (Slot C)
      more = slots ++ new_slot value l ∷ []

      at_e : slice_get entries place ≡ Some e
      at_e = slice_get-get_or entries place nothing_kept within

      proc_new : list_at of more n ≡ Some place
      proc_new = ap (option_map of) (label-new slots value l)

      owns_grown : (s : Side) → Owns of more place e.current → Owns of more place (grown s n e.current)
      owns_grown First owns = record { front = All-push (λ x. list_at of more x ≡ Some place) e.current.front n owns.front proc_new; back = owns.back }
      owns_grown Last owns = record { front = owns.front; back = All-push (λ x. list_at of more x ≡ Some place) e.current.back n owns.back proc_new }

      was : (block : ℕ) → block ≤ length e.older → Owns of more place (block_of e block)
      was block h = Owns-more of slots more place (block_of e block) (labels-before slots (new_slot value l)) (kept.owned place e at_e block h)

      of_e : (block : ℕ) → block ≤ length e.older → Owns of more place (block_of e' block)
      of_e block h =
          ⊎_elim
          (λ q. subst (Owns of more place) (sym (block_of-last e' block q.1)) (owns_grown side (subst (Owns of more place) (block_of-last e block q.1) (was block h))))
          (λ q. subst (Owns of more place) (sym (block_of-before side n e block (omega (arith, q.1)))) (was block h))
          (eqb_tells block (length e.older))

      here : (d : Kept) → e' ≡ d → (p : ℕ) → p ≡ place → (block : ℕ) → block ≤ length d.older → Owns of more p (block_of d block)
      here d same p q block h =
          subst (λ x. Owns of more x (block_of d block)) (sym q)
          (subst (λ (x : Kept). block ≤ length x.older → Owns of more place (block_of x block)) same (of_e block) h)

      owner : (p : ℕ) (d : Kept) → slice_get entries p ≡ Some d → All (λ m. list_at of slots m ≡ Some p) (ids d.current)
      owner p d at = Owns-ids of slots p d.current (subst (Owns of slots p) (block_of-last d (length d.older) refl) (kept.owned p d at (length d.older) (omega arith)))

      was_trimmed : (p : ℕ) (d : Kept) → slice_get entries p ≡ Some d → Trimmed more r d
      was_trimmed p d at =
          Trimmed-more slots more r r d
          (λ k x h gone. ap is_some (clause_at-before slots (new_slot value l) r (get_or (ids d.current) k x) (list_there of slots (get_or (ids d.current) k x) p (owner p d at k x h))) ∙ gone)
          (kept.trimmed p d at)

      was_ordered : (p : ℕ) (d : Kept) → slice_get entries p ≡ Some d → are_in_order (is_front more) (ids d.current) ≡ true
      was_ordered p d at = order_stays of slots more p (ids d.current) (labels-before slots (new_slot value l)) (owner p d at) (kept.ordered p d at)

      side_new : is_front more n ≡ is_first side
      side_new = ap is_of_front (label-new slots value l)

      below : All (λ m. m < n) (ids e.current)
      below k x h = list_there of slots (get_or (ids e.current) k x) place (owner place e at_e k x h)

      order_grown : (s : Side) → side ≡ s → are_in_order (is_front more) (ids (grown s n e.current)) ≡ true
      order_grown First is =
          ap (are_in_order (is_front more)) (ids-first n e.current)
          ∙ order_tells (is_front more) (n ∷ ids e.current)
          (order_first (is_front more) n (ids e.current) (side_new ∙ ap is_first is) below (order_told (is_front more) (ids e.current) (was_ordered place e at_e)))
      order_grown Last is =
          ap (are_in_order (is_front more)) (ids-last n e.current)
          ∙ order_tells (is_front more) (ids e.current ++ n ∷ [])
          (order_last (is_front more) n (ids e.current) (side_new ∙ ap is_first is) below (order_told (is_front more) (ids e.current) (was_ordered place e at_e)))

      extent : (b : Ids) → length (ids b) ≡ length b.front + length b.back
      extent b = omega (arith, length-append (reverse b.front) b.back, length-reverse b.front)

      trimmed_grown : (s : Side) → Trimmed more r (pushed s n e)
      trimmed_grown First = record { within = omega arith; dead = λ k d h. absurd (omega arith) }
      trimmed_grown Last =
          (let was : Trimmed more r e = was_trimmed place e at_e in
          record {
            within = omega (arith, was.within, length-append e.current.back (n ∷ []));
            dead = subst (All (λ m. is_some (clause_at more r m) ≡ false)) (sym (ap (take e.first) (ids-last n e.current) ∙ take-append-le e.first (ids e.current) (n ∷ []) (omega (arith, extent e.current, was.within)))) was.dead;
          })

      inside : (m p : ℕ) → list_at of more m ≡ Some p → (m ≡ n → ⊥) → m < length slots
      inside m p h other = omega (arith, list_there of more m p h, length-append slots (new_slot value l ∷ []), other)

      newest : (m : ℕ) → m ≡ n → (p : ℕ) → list_at of more n ≡ Some p → lists (slice_get (set entries place e') p) m ≡ true
      newest m q p proc =
          let same : place ≡ p = same_Some place p (sym proc_new ∙ proc) in
          subst (λ x. lists (slice_get (set entries place e') x) m ≡ true) same
          (ap (λ o. lists o m) (slice_get-set_same entries place e' within) ∙ subst (λ x. list_any (λ k. k == x) (ids (grown side n e.current)) ≡ true) (sym q) (lists-new side n e.current))

      earlier : (m p : ℕ) → m < length slots → is_some (clause_at more r m) ≡ true → list_at of more m ≡ Some p → lists (slice_get (set entries place e') p) m ≡ true
      earlier m p h there proc =
          let listed : lists (slice_get entries p) m ≡ true =
          kept.listed m p (ap is_some (sym (clause_at-before slots (new_slot value l) r m h)) ∙ there) (ap (option_map of) (sym (labels-before slots (new_slot value l) m h)) ∙ proc) in
          ⊎_elim
          (λ q. subst (λ x. lists (slice_get (set entries place e') x) m ≡ true) (sym q.1)
          (ap (λ o. lists o m) (slice_get-set_same entries place e' within)
          ∙ lists-grown side n m e.current (ap (λ o. lists o m) (sym at_e) ∙ subst (λ x. lists (slice_get entries x) m ≡ true) q.1 listed)))
          (λ q. ap (λ o. lists o m) (slice_get-set_other entries place p e' q.1) ∙ listed)
          (eqb_tells p place)

  pub value_at-before : (slots : List (Slot C)) (s : Slot C) (n : ℕ) (value : C) → value_at slots n ≡ Some value → value_at (slots ++ s ∷ []) n ≡ Some value
  value_at-before slots s n value h = of (slice_get slots n) refl h
    where
      of : (o : Option (Slot C)) → slice_get slots n ≡ o → option_and_then (λ (t : Slot C). t.value) o ≡ Some value → value_at (slots ++ s ∷ []) n ≡ Some value
      of None at e = absurd (none-some value e)
      of (Some t) at e = ap (option_and_then (λ (t : Slot C). t.value)) (slice_get-push_before slots s n (slice_get_within slots n t at) ∙ at) ∙ e

  pub value_at-new : (slots : List (Slot C)) (value : C) (l : Label) → value_at (slots ++ new_slot value l ∷ []) (length slots) ≡ Some value
  value_at-new slots value l = ap (option_and_then (λ (t : Slot C). t.value)) (slice_get-push_last slots (new_slot value l))

  -- what is kept of lists where nothing changed
  pub IsKept-same : (of : Label → ℕ) (slots more : List (Slot C)) (r size : ℕ) (entries others : List Kept) → more ≡ slots → others ≡ entries → IsKept of slots r size entries → IsKept of more r size others
  IsKept-same of slots more r size entries others s e kept = subst (λ ss. IsKept of ss r size others) (sym s) (subst (IsKept of slots r size) (sym e) kept)
