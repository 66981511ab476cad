-- Whose clauses the numbers of blocks are, and in which order.
use Rattle.std.proofs.Common.{◌≡◌, ℕ, suc, ◌<◌, ◌≤◌, ◌-◌, true, false, List, [], ◌∷◌, ◌++◌, length, get_or, take, reverse, Option, Some, None, is_some, option_map, refl, sym, ap, ◌∙◌, subst, arith}
use Rattle.std.specs.List.{slice_get, filter_map, cons_option, All}
use Rattle.std.proofs.lemmas.Option.{none-some, same_Some, slice_get_within}
use Rattle.std.proofs.lemmas.List.{get_or_past, append_assoc, reverse-append, length-reverse, get_or-reverse, length-take, get_or-take}
use Rattle.std.proofs.lemmas.List.Elements.{All-append, All-take}
use Rattle.iso_clauses.specs.Orders.{are_in_order}
use Rattle.iso_clauses.specs.Clauses.{Clause}
use Rattle.iso_clauses.specs.Blocks.{Ids, Kept, ids, ids_from, grown}
use Rattle.iso_clauses.specs.declared.blocks.Side.TheVariants.{First, Last}
use Rattle.iso_clauses.specs.declared.slots.Label.{Label}
use Rattle.iso_clauses.specs.declared.slots.Slot.{Slot}
use Rattle.iso_clauses.specs.Slots.{clause_at, list_at, label_at, is_of_front, is_front}
use Rattle.iso_clauses.specs.Kept.{Owns, Trimmed, IsKept}
use Rattle.iso_clauses.proofs.OrderLemmas.{order_told, order_tells, order_agree}

-- what holds of each number holds of each in the other order
pub All-reverse : (P : ℕ → Type 0) (ns : List ℕ) → All P ns → All P (reverse ns)
All-reverse P ns all k d h =
    let within : k < length ns = omega (arith, length-reverse ns) in
    subst P (sym (get_or-reverse ns k d within)) (all (length ns - 1 - k) d (omega arith))

-- the numbers with one more
pub ids-first : (n : ℕ) (b : Ids) → ids (grown First n b) ≡ n ∷ ids b
ids-first n b = ap (λ ns. ns ++ b.back) (reverse-append b.front (n ∷ []))

pub ids-last : (n : ℕ) (b : Ids) → ids (grown Last n b) ≡ ids b ++ n ∷ []
ids-last n b = sym (append_assoc (reverse b.front) b.back (n ∷ []))

module _ {C : Type 0} where
  -- two lists of numbers of which the clauses are the same
  pub filter_map-agree : (f g : ℕ → Option (Clause C)) (ns : List ℕ) → All (λ n. f n ≡ g n) ns → filter_map f ns ≡ filter_map g ns
  filter_map-agree f g [] all = refl
  filter_map-agree f g (n ∷ ns) all =
      ap (λ o. cons_option o (filter_map f ns)) (all 0 n (omega arith))
      ∙ ap (λ cs. cons_option (g n) cs) (filter_map-agree f g ns (λ k d h. all (suc k) d (omega arith)))

  -- the slot of a clause is there
  pub label_there : (slots : List (Slot C)) (n : ℕ) (l : Label) → label_at slots n ≡ Some l → n < length slots
  label_there slots n l h = of_slot (slice_get slots n) refl h
    where
      of_slot : (o : Option (Slot C)) → slice_get slots n ≡ o → option_map (λ (s : Slot C). s.label) o ≡ Some l → n < length slots
      of_slot None at e = absurd (none-some l e)
      of_slot (Some s) at e = slice_get_within slots n s at

  -- what stands in a list has a label
  pub label_of : (of : Label → ℕ) (slots : List (Slot C)) (n place : ℕ) → list_at of slots n ≡ Some place → (l : Label) × (label_at slots n ≡ Some l) × (of l ≡ place)
  label_of of slots n place h = by (label_at slots n) refl h
    where
      by : (o : Option Label) → label_at slots n ≡ o → option_map of o ≡ Some place → (l : Label) × (label_at slots n ≡ Some l) × (of l ≡ place)
      by None at e = absurd (none-some place e)
      by (Some l) at e = (l, at, same_Some (of l) place e)

  -- numbers of a list's clauses are those of slots
  pub list_there : (of : Label → ℕ) (slots : List (Slot C)) (n place : ℕ) → list_at of slots n ≡ Some place → n < length slots
  list_there of slots n place h = (let l = label_of of slots n place h in label_there slots n l.0 l.1)

  pub Owns-ids : (of : Label → ℕ) (slots : List (Slot C)) (place : ℕ) (b : Ids) → Owns of slots place b → All (λ n. list_at of slots n ≡ Some place) (ids b)
  Owns-ids of slots place b owns = All-append (λ n. list_at of slots n ≡ Some place) (reverse b.front) b.back (All-reverse (λ n. list_at of slots n ≡ Some place) b.front owns.front) owns.back

  pub owned_now : (of : Label → ℕ) (slots : List (Slot C)) (r size : ℕ) (entries : List Kept) → IsKept of slots r size entries → (place : ℕ) (e : Kept) → slice_get entries place ≡ Some e → All (λ n. list_at of slots n ≡ Some place) (ids e.current)
  owned_now of slots r size entries kept place e at =
      Owns-ids of slots place e.current (subst (Owns of slots place) (get_or_past e.older (length e.older) e.current (omega arith)) (kept.owned place e at (length e.older) (omega arith)))

  pub Owns-ids_from : (of : Label → ℕ) (slots : List (Slot C)) (place : ℕ) (b : Ids) (outer : ℕ) → Owns of slots place b → All (λ n. list_at of slots n ≡ Some place) (ids_from b outer)
  Owns-ids_from of slots place b outer owns =
      All-append (λ n. list_at of slots n ≡ Some place) (reverse (take outer b.front)) b.back
      (All-reverse (λ n. list_at of slots n ≡ Some place) (take outer b.front) (All-take (λ n. list_at of slots n ≡ Some place) outer b.front owns.front)) owns.back

  -- slots that are there stand where they stood
  abbrev pub KeepsLabels : List (Slot C) → List (Slot C) → Type 0
  KeepsLabels slots more = (n : ℕ) → n < length slots → label_at more n ≡ label_at slots n

  pub list_stays : (of : Label → ℕ) (slots more : List (Slot C)) → KeepsLabels slots more → (n place : ℕ) → list_at of slots n ≡ Some place → list_at of more n ≡ Some place
  list_stays of slots more stay n place h = ap (option_map of) (stay n (list_there of slots n place h)) ∙ h

  -- their order stays
  pub order_stays : (of : Label → ℕ) (slots more : List (Slot C)) (place : ℕ) (ns : List ℕ) → KeepsLabels slots more → All (λ n. list_at of slots n ≡ Some place) ns → are_in_order (is_front slots) ns ≡ true → are_in_order (is_front more) ns ≡ true
  order_stays of slots more place ns stay all h =
      order_tells (is_front more) ns
      (order_agree (is_front slots) (is_front more) ns (λ k d l. ap is_of_front (sym (stay (get_or ns k d) (list_there of slots (get_or ns k d) place (all k d l))))) (order_told (is_front slots) ns h))

  pub Owns-more : (of : Label → ℕ) (slots more : List (Slot C)) (place : ℕ) (b : Ids) → KeepsLabels slots more → Owns of slots place b → Owns of more place b
  Owns-more of slots more place b stay owns = record {
    front = λ k d h. list_stays of slots more stay (get_or b.front k d) place (owns.front k d h);
    back = λ k d h. list_stays of slots more stay (get_or b.back k d) place (owns.back k d h);
  }

  -- what was removed stays so where no clause comes back
  pub Trimmed-more : (slots more : List (Slot C)) (r q : ℕ) (e : Kept) → (All (λ n. is_some (clause_at slots r n) ≡ false → is_some (clause_at more q n) ≡ false) (ids e.current)) → Trimmed slots r e → Trimmed more q e
  Trimmed-more slots more r q e stays trimmed = record {
    within = trimmed.within;
    dead = λ k d h.
        (let size : length (take e.first (ids e.current)) ≤ length (ids e.current) = omega (arith, length-take e.first (ids e.current)) in
        let short : length (take e.first (ids e.current)) ≤ e.first = omega (arith, length-take e.first (ids e.current)) in
        let same : get_or (take e.first (ids e.current)) k d ≡ get_or (ids e.current) k d = get_or-take e.first (ids e.current) k d (omega arith) in
        let was : is_some (clause_at slots r (get_or (ids e.current) k d)) ≡ false = ap (λ n. is_some (clause_at slots r n)) (sym same) ∙ trimmed.dead k d h in
        ap (λ n. is_some (clause_at more q n)) same ∙ stays k d (omega arith) was);
  }
