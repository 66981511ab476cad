-- Going through the numbers of a view.
use Rattle.std.proofs.Common.{if◌then◌else◌, ◌≡◌, ℕ, zero, suc, ◌<◌, ◌≤◌, ◌+◌, Bool, true, false, List, [], ◌∷◌, ◌++◌, length, get_or, take, drop, reverse, Option, Some, None, is_some, option_map, refl, sym, ap, ◌∙◌, subst, true≢false, arith}
use Rattle.std.specs.List.{slice_get, cons_option, All}
use Rattle.std.specs.Option.{option_and_then, IfSome}
use Rattle.std.proofs.lemmas.Option.{none-some, same_Some}
use Rattle.std.proofs.lemmas.List.{drop_all, drop_more, length-take, length-append, length-reverse, take_all, get_or_past, take-append-drop}
use Rattle.std.proofs.lemmas.List.Elements.{filter_map-append}
use Rattle.iso_clauses.specs.Clauses.{Clause}
use Rattle.iso_clauses.specs.Blocks.{Ids, Kept, ids, ids_from, block_of}
use Rattle.iso_clauses.specs.Kept.{older_of, block_in, block_at, pending, view_now, Trimmed, Giving}
use Rattle.iso_clauses.specs.declared.slots.Slot.{Slot}
use Rattle.iso_clauses.specs.declared.views.View.{View}
use Rattle.iso_clauses.specs.Slots.{lives, given_by, clause_at, value_at, given}
use Rattle.iso_clauses.specs.Stepping.{Steps, first_number}

pub length-ids_from : (b : Ids) (outer : ℕ) → outer ≤ length b.front → length (ids_from b outer) ≡ outer + length b.back
length-ids_from b outer h = omega (arith, length-append (reverse (take outer b.front)) b.back, length-reverse (take outer b.front), length-take outer b.front)

-- where all were added at the end, a view of the block as it is has these numbers from a position on
pub at_end-pending : (entries : List Kept) (place : ℕ) (e : Kept) (made next : ℕ) → slice_get entries place ≡ Some e → e.current.front ≡ []
    → pending entries (record (view_now place made e) { next = next }) ≡ drop next e.current.back
at_end-pending entries place e made next at none =
    ap (λ x. drop next (take end (ids_from (block_in x (length e.older)) outer))) at
    ∙ ap (λ x. drop next (take end (ids_from x outer))) (get_or_past e.older (length e.older) e.current (omega arith))
    ∙ ap (λ ns. drop next (take end (reverse ns ++ e.current.back))) (take_all outer e.current.front (omega arith))
    ∙ ap (λ ns. drop next (take end (reverse ns ++ e.current.back))) none
    ∙ ap (drop next) (take_all end e.current.back (omega arith))
  where
    outer : ℕ
    outer = length e.current.front

    end : ℕ
    end = length e.current.front + length e.current.back

module _ {C : Type 0} where
  -- the clause of a number has that number
  pub clause_at-number : (slots : List (Slot C)) (made n : ℕ) (c : Clause C) → clause_at slots made n ≡ Some c → c.number ≡ n
  clause_at-number slots made n c h = of_slot (slice_get slots n) h
    where
      of_value : (v : Option C) → option_map (λ value. let d : Clause C = record { number = n; value = value } in d) v ≡ Some c → c.number ≡ n
      of_value None e = absurd (none-some c e)
      of_value (Some v) e = ap (λ (d : Clause C). d.number) (sym (same_Some (record { number = n; value = v }) c e))

      of_lives : (b : Bool) (v : Option C) → (if b then option_map (λ value. let d : Clause C = record { number = n; value = value } in d) v else None) ≡ Some c → c.number ≡ n
      of_lives true v e = of_value v e
      of_lives false v e = absurd (none-some c e)

      of_slot : (o : Option (Slot C)) → option_and_then (given_by made n) o ≡ Some c → c.number ≡ n
      of_slot None e = absurd (none-some c e)
      of_slot (Some s) e = of_lives (lives made s.died) s.value e

  given-cons : (slots : List (Slot C)) (made : ℕ) (numbers : List ℕ) (next x : ℕ) → next < length numbers → x ≡ get_or numbers next x → given slots made (drop next numbers) ≡ cons_option (clause_at slots made x) (given slots made (drop (next + 1) numbers))
  given-cons slots made numbers next x h is =
      ap (given slots made) (drop_more numbers next x h)
      ∙ ap (λ y. cons_option (clause_at slots made y) (given slots made (drop (next + 1) numbers))) (sym is)

  -- a number that gives none is passed over
  pub given-passes : (slots : List (Slot C)) (made : ℕ) (numbers : List ℕ) (next x : ℕ) → next < length numbers → x ≡ get_or numbers next x → is_some (clause_at slots made x) ≡ false
      → given slots made (drop (next + 1) numbers) ≡ given slots made (drop next numbers)
  given-passes slots made numbers next x h is none = sym (given-cons slots made numbers next x h is ∙ without (clause_at slots made x) none)
    where
      without : (o : Option (Clause C)) → is_some o ≡ false → cons_option o (given slots made (drop (next + 1) numbers)) ≡ given slots made (drop (next + 1) numbers)
      without None e = refl
      without (Some c) e = absurd (true≢false e)

  -- one that gives a clause is the next
  pub given-steps : (slots : List (Slot C)) (made : ℕ) (numbers : List ℕ) (next x : ℕ) → next < length numbers → x ≡ get_or numbers next x → is_some (clause_at slots made x) ≡ true
      → Steps (given slots made (drop next numbers)) (Some x) (given slots made (drop (next + 1) numbers))
  given-steps slots made numbers next x h is some = subst (λ cs. Steps cs (Some x) rest) (sym (given-cons slots made numbers next x h is)) (taken (clause_at slots made x) some refl)
    where
      rest : List (Clause C)
      rest = given slots made (drop (next + 1) numbers)

      taken : (o : Option (Clause C)) → is_some o ≡ true → clause_at slots made x ≡ o → Steps (cons_option o rest) (Some x) rest
      taken None e at = absurd (true≢false (sym e))
      taken (Some c) e at = (ap Some (sym (clause_at-number slots made x c at)), refl)

  -- what is kept of a clause that is given
  clause_at-value : (slots : List (Slot C)) (made n : ℕ) (c : Clause C) → clause_at slots made n ≡ Some c → value_at slots n ≡ Some c.value
  clause_at-value slots made n c h = of_slot (slice_get slots n) h
    where
      of_value : (v : Option C) → option_map (λ value. let d : Clause C = record { number = n; value = value } in d) v ≡ Some c → v ≡ Some c.value
      of_value None e = absurd (none-some c e)
      of_value (Some v) e = ap (λ (d : Clause C). Some d.value) (same_Some (record { number = n; value = v }) c e)

      of_lives : (b : Bool) (v : Option C) → (if b then option_map (λ value. let d : Clause C = record { number = n; value = value } in d) v else None) ≡ Some c → v ≡ Some c.value
      of_lives true v e = of_value v e
      of_lives false v e = absurd (none-some c e)

      of_slot : (o : Option (Slot C)) → option_and_then (given_by made n) o ≡ Some c → option_and_then (λ (s : Slot C). s.value) o ≡ Some c.value
      of_slot None e = absurd (none-some c e)
      of_slot (Some s) e = of_lives (lives made s.died) s.value e

  -- each clause that is given can be read by its number
  pub given-stand : (slots : List (Slot C)) (made : ℕ) (ns : List ℕ) (k : ℕ) (c : Clause C) → slice_get (given slots made ns) k ≡ Some c → value_at slots c.number ≡ Some c.value
  given-stand slots made [] k c h = absurd (none-some c h)
  given-stand slots made (n ∷ ns) k c h = of (clause_at slots made n) refl k h (λ j e. given-stand slots made ns j c e)
    where
      of : (o : Option (Clause C)) → clause_at slots made n ≡ o → (j : ℕ) → slice_get (cons_option o (given slots made ns)) j ≡ Some c → ((i : ℕ) → slice_get (given slots made ns) i ≡ Some c → value_at slots c.number ≡ Some c.value) → value_at slots c.number ≡ Some c.value
      of None at j e rest = rest j e
      of (Some d) at zero e rest = subst (λ (x : Clause C). value_at slots x.number ≡ Some x.value) (same_Some d c e) (ap (value_at slots) (clause_at-number slots made n d at) ∙ clause_at-value slots made n d at)
      of (Some d) at (suc j) e rest = rest j e

  given-dead : (slots : List (Slot C)) (r : ℕ) (ns : List ℕ) → All (λ n. is_some (clause_at slots r n) ≡ false) ns → given slots r ns ≡ []
  given-dead slots r [] all = refl
  given-dead slots r (n ∷ ns) all = none (clause_at slots r n) (all 0 n (omega arith)) ∙ given-dead slots r ns (λ k d h. all (suc k) d (omega arith))
    where
      none : (o : Option (Clause C)) → is_some o ≡ false → cons_option o (given slots r ns) ≡ given slots r ns
      none None e = refl
      none (Some c) e = absurd (true≢false e)

  -- a view of the block as it is gives what the procedure has
  pub Giving-new : (slots : List (Slot C)) (r : ℕ) (entries : List Kept) (place : ℕ) (e : Kept) (block outer end : ℕ) → slice_get entries place ≡ Some e → Trimmed slots r e → block ≡ length e.older → outer ≡ length e.current.front → end ≡ length e.current.front + length e.current.back
      → Giving slots r entries (record { procedure = place; block = block; outer = outer; next = e.first; end = end; made = r }) (given slots r (ids e.current))
  Giving-new slots r entries place e block outer end at trimmed b o n = record {
    procedure = ap is_some at;
    block = subst (λ x. block ≤ length (older_of x)) (sym at) (omega (arith, b));
    outer = subst (λ x. outer ≤ length (block_in x block).front) (sym at) (subst (λ (x : Ids). outer ≤ length x.front) (sym current) (omega (arith, o)));
    end = subst (λ x. end ≤ outer + length (block_in x block).back) (sym at) (subst (λ (x : Ids). end ≤ outer + length x.back) (sym current) (omega (arith, o, n)));
    made = omega arith;
    clauses = ap (λ x. given slots r (drop e.first (take end (ids_from (block_in x block) outer)))) at ∙ ap (λ x. given slots r (drop e.first (take end (ids_from x outer)))) current
        ∙ ap (λ ns. given slots r (drop e.first (take end (reverse ns ++ e.current.back)))) (take_all outer e.current.front (omega (arith, o)))
        ∙ ap (λ ns. given slots r (drop e.first ns)) (take_all end (ids e.current) (omega (arith, n, length-append (reverse e.current.front) e.current.back, length-reverse e.current.front)))
        ∙ sym behind_dead;
  }
    where
      current : block_of e block ≡ e.current
      current = get_or_past e.older block e.current (omega (arith, b))

      behind_dead : given slots r (ids e.current) ≡ given slots r (drop e.first (ids e.current))
      behind_dead = ap (given slots r) (sym (take-append-drop e.first (ids e.current))) ∙ filter_map-append (clause_at slots r) (take e.first (ids e.current)) (drop e.first (ids e.current))
          ∙ ap (λ cs. cs ++ given slots r (drop e.first (ids e.current))) (given-dead slots r (take e.first (ids e.current)) trimmed.dead)

  -- a view gives what is given from any position on
  pub Giving-at : (slots : List (Slot C)) (r : ℕ) (entries : List Kept) (v : View) (cs : List (Clause C)) (next : ℕ) → Giving slots r entries v cs
      → Giving slots r entries (record v { next = next }) (given slots v.made (pending entries (record v { next = next })))
  Giving-at slots r entries v cs next g = record { procedure = g.procedure; block = g.block; outer = g.outer; end = g.end; made = g.made; clauses = refl }

  -- a view that is at its end gives nothing
  pub Giving-ended : (slots : List (Slot C)) (r : ℕ) (entries : List Kept) (v : View) (cs : List (Clause C)) → v.end ≤ v.next → Giving slots r entries v cs → cs ≡ []
  Giving-ended slots r entries v cs h gives =
      sym gives.clauses ∙ ap (given slots v.made) (drop_all v.next (take v.end (ids_from (block_at entries v) v.outer)) (omega (arith, h, length-take v.end (ids_from (block_at entries v) v.outer))))

  -- the first of the clauses can be read
  pub first-stands : (slots : List (Slot C)) (cs : List (Clause C)) (number : Option ℕ) → number ≡ first_number cs → ((k : ℕ) (c : Clause C) → slice_get cs k ≡ Some c → value_at slots c.number ≡ Some c.value) → IfSome number (λ n. (value : C) × (value_at slots n ≡ Some value))
  first-stands slots [] number is each = subst (λ o. IfSome o (λ n. (value : C) × (value_at slots n ≡ Some value))) (sym is) tt
  first-stands slots (c ∷ cs) number is each = subst (λ o. IfSome o (λ n. (value : C) × (value_at slots n ≡ Some value))) (sym is) (c.value, each 0 c refl)
