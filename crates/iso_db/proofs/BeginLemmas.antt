-- How views by key begin.
use Rattle.std.proofs.Common.{◌≡◌, ◌+◌, ℕ, ◌<◌, true, false, List, [], length, get_or, drop, reverse, ◌++◌, filter, Option, Some, None, is_some, refl, sym, ap, ◌∙◌, subst, arith, true≢false}
use Rattle.std.specs.List.{slice_get, All}
use Rattle.std.proofs.lemmas.Option.{slice_get_within, slice_get-get_or}
use Rattle.std.proofs.lemmas.Bool.{false≢true}
use Rattle.iso_db.specs.Keys.{Heading}
use Rattle.iso_clauses.specs.Clauses.{Clause}
use Rattle.iso_db.specs.Databases.{clauses_of}
use Rattle.iso_clauses.specs.Blocks.{Kept, ids}
use Rattle.iso_clauses.specs.Slots.{procedure_of, list_at, is_front, given, key_at}
use Rattle.iso_db.specs.Shown.{shown}
use Rattle.iso_clauses.specs.Kept.{view_now, pending, IsKept, Giving}
use Rattle.iso_clauses.specs.Fits.{has_key, fits}
use Rattle.iso_clauses.specs.Stepping.{Steps, first_number, behind}
use Rattle.iso_db.specs.Parts.{IsIndexed}
use Rattle.iso_db.specs.Keyed.{Offers, Leads, GivingKeyed, usable}
use Rattle.iso_db.specs.declared.keyed.Ahead.{Ahead}
use Rattle.iso_db.specs.declared.keyed.KeyedView.{KeyedView}
use Rattle.iso_clauses.specs.declared.keys.FirstKey.{FirstKey}
use Rattle.iso_db.specs.declared.parts.Part.{Part}
use Rattle.iso_clauses.specs.declared.slots.Slot.{Slot}
use Rattle.iso_clauses.specs.declared.views.View.{View}
use Rattle.iso_db.proofs.PlaceLemmas.{clauses-there}
use Rattle.iso_clauses.proofs.LabelLemmas.{list_there, owned_now}
use Rattle.iso_clauses.proofs.ViewLemmas.{Giving-new, Giving-at, at_end-pending}
use Rattle.iso_clauses.proofs.OrderLemmas.{AreInOrder, numbers}
use Rattle.iso_db.proofs.PartLemmas.{part_clauses, no_clauses, given_order}
use Rattle.iso_db.proofs.KeyedLemmas.{parts_begun, whole_begun, all_usable, behind_stand, offers_stand}

-- a clause with a key isn't one without
keys_apart : (key other : Option FirstKey) → is_some key ≡ true → has_key key other ≡ true → has_key None other ≡ true → ⊥
keys_apart None other some one two = true≢false (sym some)
keys_apart (Some k) None some one two = false≢true one
keys_apart (Some k) (Some o) some one two = false≢true two

module _ {C : Type 0} where
  -- the clauses of the procedure at a place that have this key, or that have none
  abbrev pub clauses_with : List (Slot C) → ℕ → List Heading → List Kept → ℕ → Option FirstKey → List (Clause C)
  clauses_with slots r heads entries place key = filter (λ c. has_key key (key_at slots c.number)) (clauses_of (slice_get (shown slots r heads entries) place))

  -- a view of a part
  pub part_gives : (slots : List (Slot C)) (r : ℕ) (heads : List Heading) (entries : List Kept) (parts : List Part) (lists : List Kept) (place j : ℕ) (key : Option FirstKey) (d : Kept) → IsKept procedure_of slots r (length heads) entries → IsIndexed slots r parts lists
      → place < length entries → slice_get parts j ≡ Some (record { place = place; key = key }) → Offers slots r lists None (view_now j r (get_or lists j d)) (clauses_with slots r heads entries place key)
  part_gives slots r heads entries parts lists place j key d kept indexed within at =
      record {
        all = given slots r (ids f.current);
        gives = Giving-new slots r lists j f (length f.older) (length f.current.front) (length f.current.front + length f.current.back) at_f (indexed.kept.trimmed j f at_f) refl refl refl;
        are = all_usable slots (given slots r (ids f.current)) ∙ sym are;
      }
    where
      e : Kept
      e = get_or entries place d

      f : Kept
      f = get_or lists j d

      inside : j < length lists
      inside = omega (arith, slice_get_within parts j (record { place = place; key = key }) at, indexed.kept.same)

      at_e : slice_get entries place ≡ Some e
      at_e = slice_get-get_or entries place d within

      at_f : slice_get lists j ≡ Some f
      at_f = slice_get-get_or lists j d inside

      are : clauses_with slots r heads entries place key ≡ given slots r (ids f.current)
      are = ap (filter (λ (c : Clause C). has_key key (key_at slots c.number))) (clauses-there slots r heads entries place d kept.same within)
          ∙ sym (part_clauses slots r (length heads) entries parts lists kept indexed e f j (record { place = place; key = key }) at_e at_f at)

  -- there is no part, and no clause
  pub part_absent : (slots : List (Slot C)) (r : ℕ) (heads : List Heading) (entries : List Kept) (parts : List Part) (lists : List Kept) (place : ℕ) (key : Option FirstKey) (d : Kept) → IsKept procedure_of slots r (length heads) entries → IsIndexed slots r parts lists
      → place < length entries → ((j : ℕ) → slice_get parts j ≡ Some (record { place = place; key = key }) → ⊥) → clauses_with slots r heads entries place key ≡ []
  part_absent slots r heads entries parts lists place key d kept indexed within absent =
      ap (filter (λ (c : Clause C). has_key key (key_at slots c.number))) (clauses-there slots r heads entries place d kept.same within)
      ∙ no_clauses slots r (length heads) entries parts lists kept indexed (get_or entries place d) place key (slice_get-get_or entries place d within) absent

  -- the clauses that a call with a key may use
  pub keyed_begun : (slots : List (Slot C)) (r : ℕ) (heads : List Heading) (entries lists : List Kept) (place : ℕ) (key : Option FirstKey) (d : Kept) (v : KeyedView) → IsKept procedure_of slots r (length heads) entries → place < length entries
      → is_some key ≡ true → v.whole ≡ false → v.key ≡ None → Leads slots r lists None v.own (clauses_with slots r heads entries place key) → Leads slots r lists None v.any (clauses_with slots r heads entries place None)
      → GivingKeyed slots r entries lists v (filter (λ c. fits key (key_at slots c.number)) (clauses_of (slice_get (shown slots r heads entries) place)))
  keyed_begun slots r heads entries lists place None d v kept within some part none own any = absurd (true≢false (sym some))
  keyed_begun slots r heads entries lists place (Some k) d v kept within some part none own any =
      parts_begun slots r entries lists v (λ c. has_key (Some k) (key_at slots c.number)) (λ c. has_key None (key_at slots c.number)) (clauses_of (slice_get (shown slots r heads entries) place)) part none
      (λ c. keys_apart (Some k) (key_at slots c.number) refl)
      (subst (λ cs. AreInOrder (is_front slots) (numbers cs)) (sym (clauses-there slots r heads entries place d kept.same within))
      (given_order procedure_of slots r (length heads) entries place (get_or entries place d) kept (slice_get-get_or entries place d within)))
      own any

  -- a view of the procedure at a place gives its clauses
  pub procedure_gives : (slots : List (Slot C)) (r : ℕ) (heads : List Heading) (entries : List Kept) (place : ℕ) (d : Kept) → IsKept procedure_of slots r (length heads) entries → place < length entries
      → Giving slots r entries (view_now place r (get_or entries place d)) (clauses_of (slice_get (shown slots r heads entries) place))
  procedure_gives slots r heads entries place d kept within =
      subst (λ (cs : List (Clause C)). Giving slots r entries (view_now place r e) cs) (sym (clauses-there slots r heads entries place d kept.same within))
      (Giving-new slots r entries place e (length e.older) (length e.current.front) (length e.current.front + length e.current.back) at (kept.trimmed place e at) refl refl refl)
    where
      e : Kept
      e = get_or entries place d

      at : slice_get entries place ≡ Some e
      at = slice_get-get_or entries place d within

  -- where all clauses were added at the end, they are those of the numbers from the first on
  all_given : (slots : List (Slot C)) (r : ℕ) (entries : List Kept) (place : ℕ) (e : Kept) (all : List (Clause C)) → slice_get entries place ≡ Some e → e.current.front ≡ [] → Giving slots r entries (view_now place r e) all
      → given slots r (drop e.first e.current.back) ≡ all
  all_given slots r entries place e all at none gives = sym (ap (given slots r) (at_end-pending entries place e r e.first at none)) ∙ gives.clauses

  -- the first of them that a call may use, and those behind it
  pub short_taken : (slots : List (Slot C)) (r : ℕ) (entries : List Kept) (place : ℕ) (key : Option FirstKey) (e : Kept) (all : List (Clause C)) (first : Option ℕ) (start : ℕ) → slice_get entries place ≡ Some e → e.current.front ≡ [] → Giving slots r entries (view_now place r e) all
      → Steps (usable slots key (given slots r (drop e.first e.current.back))) first (usable slots key (given slots r (drop start e.current.back)))
      → Steps (usable slots key all) first (usable slots key (given slots r (drop start e.current.back)))
  short_taken slots r entries place key e all first start at none gives steps =
      subst (λ cs. Steps (usable slots key cs) first (usable slots key (given slots r (drop start e.current.back)))) (all_given slots r entries place e all at none gives) steps

  -- a view of the whole whose next clause was taken ahead gives those behind the first
  pub short_left : (slots : List (Slot C)) (r : ℕ) (entries lists : List Kept) (place : ℕ) (key : Option FirstKey) (e : Kept) (all : List (Clause C)) (first second : Option ℕ) (start next : ℕ) (v : KeyedView)
      → slice_get entries place ≡ Some e → e.current.front ≡ [] → Giving slots r entries (view_now place r e) all
      → Steps (usable slots key all) first (usable slots key (given slots r (drop start e.current.back)))
      → Steps (usable slots key (given slots r (drop start e.current.back))) second (usable slots key (given slots r (drop next e.current.back)))
      → v.whole ≡ true → v.key ≡ key → v.own ≡ record { next = second; rest = record (view_now place r e) { next = next } } → v.any.next ≡ None
      → GivingKeyed slots r entries lists v (behind (usable slots key all))
  short_left slots r entries lists place key e all first second start next v at none gives one two whole keyed own any =
      whole_begun slots r entries lists v (behind (usable slots key all)) whole (subst (λ (k : Option FirstKey). Leads slots r entries k v.own (behind (usable slots key all))) (sym keyed)
      (subst (λ (a : Ahead). Leads slots r entries key a (behind (usable slots key all))) (sym own) leads)) any
    where
      rest : View
      rest = record (view_now place r e) { next = next }

      numbers : List ℕ
      numbers = drop next e.current.back

      leads : Leads slots r entries key (record { next = second; rest = rest }) (behind (usable slots key all))
      leads = record {
        first = two.0 ∙ ap first_number one.1;
        rest = λ some. record {
          all = given slots r (pending entries rest);
          gives = Giving-at slots r entries (view_now place r e) all next gives;
          are = ap (λ ns. usable slots key (given slots r ns)) (at_end-pending entries place e r next at none) ∙ two.1 ∙ ap behind one.1;
        };
        stand = behind_stand slots (usable slots key all) (offers_stand slots r entries key (view_now place r e) (usable slots key all) (record { all = all; gives = gives; are = refl }));
      }

  -- each number of a procedure's list is that of a clause that was added
  pub numbers_within : (slots : List (Slot C)) (r size : ℕ) (entries : List Kept) (place : ℕ) (e : Kept) → IsKept procedure_of slots r size entries → slice_get entries place ≡ Some e → e.current.front ≡ []
      → (numbers : List ℕ) → numbers ≡ e.current.back → All (λ n. n < length slots) numbers
  numbers_within slots r size entries place e kept at none numbers is =
      subst (All (λ n. n < length slots)) (sym is) (λ k d h. list_there procedure_of slots _ place (all k d h))
    where
      all : All (λ n. list_at procedure_of slots n ≡ Some place) e.current.back
      all = subst (λ fs. All (λ n. list_at procedure_of slots n ≡ Some place) (reverse fs ++ e.current.back)) none (owned_now procedure_of slots r size entries kept place e at)
