-- The index stays that of the clauses, and views by key give what they gave, whatever comes or goes.
use Rattle.std.proofs.Common.{if◌then◌else◌, ◌≡◌, ◌≢◌, ◌++◌, ◌∷◌, [], ℕ, suc, ◌<◌, ◌≤◌, cond, Bool, true, false, List, length, map, set, get_or, Option, Some, None, Result, Ok, Err, refl, sym, ap, ◌∙◌, subst, arith, ⊎_elim}
use Rattle.std.specs.List.{slice_get}
use Rattle.std.specs.Option.{option_and_then}
use Rattle.std.specs.Result.{OnOk, OnErr}
use Rattle.std.proofs.lemmas.Option.{none-some, same_Some, slice_get_within}
use Rattle.std.proofs.lemmas.List.{length-append}
use Rattle.std.proofs.lemmas.Bool.Decides.{eqb_tells}
use Rattle.iso_clauses.specs.Clauses.{Clause}
use Rattle.iso_clauses.specs.Blocks.{Kept, nothing_kept, pushed, forgotten}
use Rattle.iso_clauses.specs.Slots.{label_at, key_at, value_at, part_of, procedure_of, is_of_front, IsCounted, Removes, Clears, Cleans}
use Rattle.iso_clauses.specs.Kept.{IsKept, Giving, Tidies}
use Rattle.iso_db.specs.Parts.{Opens, IsIndexed}
use Rattle.iso_clauses.specs.Fits.{fits}
use Rattle.iso_clauses.specs.Stepping.{behind}
use Rattle.iso_db.specs.Keyed.{usable, Offers, Leads, TellsSides, GivingKeyed}
use Rattle.iso_db.specs.Presents.{KeepsIndex}
use Rattle.iso_db.specs.declared.db.Db.{Db}
use Rattle.iso_db.specs.declared.keyed.Ahead.{Ahead}
use Rattle.iso_db.specs.declared.keyed.KeyedView.{KeyedView}
use Rattle.iso_clauses.specs.declared.keys.FirstKey.{FirstKey}
use Rattle.iso_db.specs.declared.parts.Part.{Part}
use Rattle.iso_clauses.specs.declared.slots.Label.{Label}
use Rattle.iso_clauses.specs.declared.slots.Slot.{Slot}
use Rattle.iso_clauses.specs.declared.views.View.{View}
use Rattle.iso_db.proofs.KeyedLemmas.{gives_stand}
use Rattle.iso_db.proofs.ListLemmas.{slice_get-push_before, slice_get-pushed_before, slice_get-pushed_last}
use Rattle.iso_clauses.proofs.LabelLemmas.{label_there, KeepsLabels}
use Rattle.iso_clauses.proofs.AddLemmas.{new_slot, label-new, labels-before, value_at-before, IsKept-add}
use Rattle.iso_db.proofs.PartLemmas.{part_named}
use Rattle.iso_clauses.proofs.NewLemmas.{kept_nothing, IsKept-new, Giving-place}
use Rattle.iso_clauses.proofs.GivingLemmas.{Giving-add, Giving-kept, Grown-same}
use Rattle.iso_clauses.proofs.RemoveLemmas.{IsKept-removed, Remembers-removed}
use Rattle.iso_clauses.proofs.ClearLemmas.{IsKept-cleared, Remembers-cleared}
use Rattle.iso_clauses.proofs.ForgetLemmas.{IsKept-forgotten, IsKept-cleaned}

module _ {C : Type 0} where
  -- From one way of keeping a database to another, clauses stay where they stood, and views give what they gave.
  pub record Carries (slots : List (Slot C)) (r : ℕ) (entries lists : List Kept) (more : List (Slot C)) (q : ℕ) (others longer : List Kept) : Type 0 where
    pub labels : KeepsLabels slots more
    pub values : (n : ℕ) (value : C) → value_at slots n ≡ Some value → value_at more n ≡ Some value
    pub whole : (v : View) (cs : List (Clause C)) → Giving slots r entries v cs → Giving more q others v cs
    pub partly : (v : View) (cs : List (Clause C)) → Giving slots r lists v cs → Giving more q longer v cs

  -- a clause that can be read has a slot
  value_there : (slots : List (Slot C)) (n : ℕ) (value : C) → value_at slots n ≡ Some value → n < length slots
  value_there slots n value h = by (slice_get slots n) refl h
    where
      by : (o : Option (Slot C)) → slice_get slots n ≡ o → option_and_then (λ (s : Slot C). s.value) o ≡ Some value → n < length slots
      by None at e = absurd (none-some value e)
      by (Some s) at e = slice_get_within slots n s at

  -- a clause keeps its key
  key_carried : (slots more : List (Slot C)) → KeepsLabels slots more → (n : ℕ) → n < length slots → key_at more n ≡ key_at slots n
  key_carried slots more labels n within = ap (option_and_then (λ (l : Label). l.key)) (labels n within)

  -- the same clauses may be used
  usable_carried : (slots more : List (Slot C)) (key : Option FirstKey) (cs : List (Clause C)) → ((k : ℕ) (c : Clause C) → slice_get cs k ≡ Some c → key_at more c.number ≡ key_at slots c.number)
      → usable more key cs ≡ usable slots key cs
  usable_carried slots more key [] same = refl
  usable_carried slots more key (c ∷ cs) same =
      ap (λ k. cond (fits key k) (c ∷ usable more key cs) (usable more key cs)) (same 0 c refl)
      ∙ ap (λ ds. cond (fits key (key_at slots c.number)) (c ∷ ds) ds) (usable_carried slots more key cs (λ k d. same (suc k) d))

  leads_carried : (slots more : List (Slot C)) (r q : ℕ) (lists longer : List Kept) (key : Option FirstKey) (a : Ahead) (cs : List (Clause C)) → ((n : ℕ) (value : C) → value_at slots n ≡ Some value → value_at more n ≡ Some value)
      → KeepsLabels slots more → ((v : View) (ds : List (Clause C)) → Giving slots r lists v ds → Giving more q longer v ds) → Leads slots r lists key a cs → Leads more q longer key a cs
  leads_carried slots more r q lists longer key a cs values labels gives leads = record {
    first = leads.first;
    rest = λ h. offers (leads.rest h);
    stand = λ k c at. values c.number c.value (leads.stand k c at);
  }
    where
      offers : Offers slots r lists key a.rest (behind cs) → Offers more q longer key a.rest (behind cs)
      offers was = record {
        all = was.all;
        gives = gives a.rest was.all was.gives;
        are = usable_carried slots more key was.all (λ k c at. key_carried slots more labels c.number (value_there slots c.number c.value (gives_stand slots r lists a.rest was.all was.gives k c at))) ∙ was.are;
      }

  sides_carried : (slots more : List (Slot C)) (front : ℕ → Bool) (cs : List (Clause C)) → KeepsLabels slots more → ((k : ℕ) (c : Clause C) → slice_get cs k ≡ Some c → value_at slots c.number ≡ Some c.value)
      → TellsSides slots front cs → TellsSides more front cs
  sides_carried slots more front cs labels stand tells k c at = ap is_of_front (labels c.number (value_there slots c.number c.value (stand k c at))) ∙ tells k c at

  either_carried : (slots more : List (Slot C)) (r q : ℕ) (entries others lists longer : List Kept) (b : Bool) → ((v : View) (cs : List (Clause C)) → Giving slots r entries v cs → Giving more q others v cs)
      → ((v : View) (cs : List (Clause C)) → Giving slots r lists v cs → Giving more q longer v cs) → (v : View) (cs : List (Clause C)) → Giving slots r (if b then entries else lists) v cs → Giving more q (if b then others else longer) v cs
  either_carried slots more r q entries others lists longer true whole partly = whole
  either_carried slots more r q entries others lists longer false whole partly = partly

  keyed_carried : (slots : List (Slot C)) (r : ℕ) (entries lists : List Kept) (more : List (Slot C)) (q : ℕ) (others longer : List Kept)
      → Carries slots r entries lists more q others longer → (v : KeyedView) (cs : List (Clause C)) → GivingKeyed slots r entries lists v cs → GivingKeyed more q others longer v cs
  keyed_carried slots r entries lists more q others longer carries v cs gives = record {
    own_clauses = gives.own_clauses;
    any_clauses = gives.any_clauses;
    front = gives.front;
    own = leads_carried slots more r q (if v.whole then entries else lists) (if v.whole then others else longer) v.key v.own gives.own_clauses carries.values carries.labels
        (either_carried slots more r q entries others lists longer v.whole carries.whole carries.partly) gives.own;
    any = leads_carried slots more r q lists longer None v.any gives.any_clauses carries.values carries.labels carries.partly gives.any;
    own_sides = sides_carried slots more gives.front gives.own_clauses carries.labels gives.own.stand gives.own_sides;
    any_sides = sides_carried slots more gives.front gives.any_clauses carries.labels gives.any.stand gives.any_sides;
    merges = gives.merges;
  }

  -- what a caller sees of it
  pub index_kept : (old new : Db C) → Carries old.slots.items old.removals old.entries.items old.lists.items new.slots.items new.removals new.entries.items new.lists.items → KeepsIndex old new
  index_kept old new carries = record {
    keys = key_carried old.slots.items new.slots.items carries.labels;
    views = keyed_carried old.slots.items old.removals old.entries.items old.lists.items new.slots.items new.removals new.entries.items new.lists.items carries;
  }

  pub Carries-both : {slots mid more : List (Slot C)} {r s q : ℕ} {entries middle others lists between longer : List Kept} → Carries slots r entries lists mid s middle between → Carries mid s middle between more q others longer
      → length slots ≤ length mid → Carries slots r entries lists more q others longer
  Carries-both first second size = record {
    labels = λ n h. second.labels n (omega (arith, h, size)) ∙ first.labels n h;
    values = λ n value h. second.values n value (first.values n value h);
    whole = λ v cs h. second.whole v cs (first.whole v cs h);
    partly = λ v cs h. second.partly v cs (first.partly v cs h);
  }

  -- where a part was opened
  pub Carries-opened : (slots : List (Slot C)) (r size : ℕ) (entries : List Kept) (part : Part) (parts : List Part) (lists : List Kept) (wider : List Part) (longer : List Kept) → IsIndexed slots r parts lists → Opens part parts lists wider longer
      → Carries slots r entries lists slots r entries longer
  Carries-opened slots r size entries part parts lists wider longer indexed opens =
      ⊎_elim
      (λ same. subst (Carries slots r entries lists slots r entries) (sym same.1)
      record { labels = λ n h. refl; values = λ n value h. h; whole = λ v cs h. h; partly = λ v cs h. h })
      (λ new. subst (Carries slots r entries lists slots r entries) (sym new.1)
      record {
        labels = λ n h. refl;
        values = λ n value h. h;
        whole = λ v cs h. h;
        partly = Giving-place part_of slots r (length parts) lists indexed.kept;
      })
      opens

  pub IsIndexed-opened : (slots : List (Slot C)) (r : ℕ) (part : Part) (parts : List Part) (lists : List Kept) (wider : List Part) (longer : List Kept) → IsIndexed slots r parts lists → Opens part parts lists wider longer → IsIndexed slots r wider longer
  IsIndexed-opened slots r part parts lists wider longer indexed opens =
      ⊎_elim
      (λ same. subst (λ ps. IsIndexed slots r ps longer) (sym same.0) (subst (IsIndexed slots r parts) (sym same.1) indexed))
      (λ new. subst (λ ps. IsIndexed slots r ps longer) (sym new.0) (subst (IsIndexed slots r (parts ++ part ∷ [])) (sym new.1)
      record {
        kept = subst (λ n. IsKept part_of slots r n (lists ++ nothing_kept ∷ [])) (sym (length-append parts (part ∷ []))) (IsKept-new part_of slots r (length parts) lists indexed.kept);
        inside = λ n l at. slice_get-push_before parts part l.part (slice_get_within parts l.part (part_named l) (indexed.inside n l at)) ∙ indexed.inside n l at;
        once = λ i j p at_i at_j. last new.2 i j p at_i at_j;
      }))
      opens
    where
      -- a part among these is the new one, or was there
      told : (i : ℕ) (p : Part) → slice_get (parts ++ part ∷ []) i ≡ Some p → (i ≡ length parts → ⊥) → slice_get parts i ≡ Some p
      told = slice_get-pushed_before parts part

      newest : (i : ℕ) (p : Part) → slice_get (parts ++ part ∷ []) i ≡ Some p → i ≡ length parts → part ≡ p
      newest = slice_get-pushed_last parts part

      last : ((n : ℕ) → slice_get parts n ≢ Some part) → (i j : ℕ) (p : Part) → slice_get (parts ++ part ∷ []) i ≡ Some p → slice_get (parts ++ part ∷ []) j ≡ Some p → i ≡ j
      last absent i j p at_i at_j =
          ⊎_elim
          (λ a. ⊎_elim (λ b. a.1 ∙ sym b.1) (λ b. absurd (absent j (told j p at_j b.1 ∙ ap Some (sym (newest i p at_i a.1))))) (eqb_tells j (length parts)))
          (λ a. ⊎_elim (λ b. absurd (absent i (told i p at_i a.1 ∙ ap Some (sym (newest j p at_j b.1))))) (λ b. indexed.once i j p (told i p at_i a.1) (told j p at_j b.1)) (eqb_tells j (length parts)))
          (eqb_tells i (length parts))

  -- where a clause was added
  pub IsIndexed-added : (slots : List (Slot C)) (r : ℕ) (parts : List Part) (lists : List Kept) (value : C) (l : Label) → IsIndexed slots r parts lists → l.part < length lists → slice_get parts l.part ≡ Some (part_named l)
      → IsIndexed (slots ++ new_slot value l ∷ []) r parts (set lists l.part (pushed l.side (length slots) (get_or lists l.part nothing_kept)))
  IsIndexed-added slots r parts lists value l indexed within here = record {
    kept = IsKept-add part_of slots r (length parts) lists value l indexed.kept within;
    inside = λ n m at.
        ⊎_elim
        (λ e. let same : l ≡ m = same_Some l m (sym (label-new slots value l) ∙ ap (label_at (slots ++ new_slot value l ∷ [])) (sym e.1) ∙ at) in
        subst (λ (x : Label). slice_get parts x.part ≡ Some (part_named x)) same here)
        (λ e. indexed.inside n m (sym (labels-before slots (new_slot value l) n (inside n m at e.1)) ∙ at))
        (eqb_tells n (length slots));
    once = indexed.once;
  }
    where
      inside : (n : ℕ) (m : Label) → label_at (slots ++ new_slot value l ∷ []) n ≡ Some m → (n ≡ length slots → ⊥) → n < length slots
      inside n m at other = omega (arith, label_there (slots ++ new_slot value l ∷ []) n m at, length-append slots (new_slot value l ∷ []), other)

  pub Carries-added : (slots : List (Slot C)) (r size : ℕ) (entries : List Kept) (parts : List Part) (lists : List Kept) (value : C) (l : Label) → IsKept procedure_of slots r size entries → IsIndexed slots r parts lists
      → l.procedure < length entries → l.part < length lists
      → Carries slots r entries lists (slots ++ new_slot value l ∷ []) r (set entries l.procedure (pushed l.side (length slots) (get_or entries l.procedure nothing_kept))) (set lists l.part (pushed l.side (length slots) (get_or lists l.part nothing_kept)))
  Carries-added slots r size entries parts lists value l kept indexed place within = record {
    labels = labels-before slots (new_slot value l);
    values = value_at-before slots (new_slot value l);
    whole = Giving-add procedure_of slots r size entries (slots ++ new_slot value l ∷ []) (set entries l.procedure (pushed l.side (length slots) (get_or entries l.procedure nothing_kept))) (new_slot value l) l.procedure l.side (length slots) kept place refl refl;
    partly = Giving-add part_of slots r (length parts) lists (slots ++ new_slot value l ∷ []) (set lists l.part (pushed l.side (length slots) (get_or lists l.part nothing_kept))) (new_slot value l) l.part l.side (length slots) indexed.kept within refl refl;
  }

  -- the key of a clause that was added
  pub key_added : (slots : List (Slot C)) (value : C) (l : Label) → key_at (slots ++ new_slot value l ∷ []) (length slots) ≡ l.key
  key_added slots value l = ap (option_and_then (λ (m : Label). m.key)) (label-new slots value l)

  -- where the slots keep their labels
  pub IsIndexed-with : (slots more : List (Slot C)) (r q : ℕ) (parts : List Part) (lists longer : List Kept) → IsIndexed slots r parts lists → ((n : ℕ) → label_at more n ≡ label_at slots n) → IsKept part_of more q (length parts) longer → IsIndexed more q parts longer
  IsIndexed-with slots more r q parts lists longer indexed labels kept = record {
    kept = kept;
    inside = λ n l at. indexed.inside n l (sym (labels n) ∙ at);
    once = indexed.once;
  }

  -- what is kept of a database in which a clause was added, or none
  pub record Grows (slots : List (Slot C)) (r size : ℕ) (entries : List Kept) (parts : List Part) (lists : List Kept) (more : List (Slot C)) (others : List Kept) (wider : List Part) (longer : List Kept) : Type 0 where
    pub kept : IsKept procedure_of more r size others
    pub indexed : IsIndexed more r wider longer
    pub carries : Carries slots r entries lists more r others longer

  pub inserted : (slots : List (Slot C)) (r size : ℕ) (entries : List Kept) (parts : List Part) (lists : List Kept) (wider : List Part) (opened : List Kept) (more : List (Slot C)) (others longer : List Kept) (value : C) (l : Label)
      → IsKept procedure_of slots r size entries → IsIndexed slots r parts lists → Opens (part_named l) parts lists wider opened → slice_get wider l.part ≡ Some (part_named l) → l.procedure < length entries
      → more ≡ slots ++ new_slot value l ∷ [] → others ≡ set entries l.procedure (pushed l.side (length slots) (get_or entries l.procedure nothing_kept)) → longer ≡ set opened l.part (pushed l.side (length slots) (get_or opened l.part nothing_kept))
      → Grows slots r size entries parts lists more others wider longer
  inserted slots r size entries parts lists wider opened more others longer value l kept indexed opens at within slots_are entries_are lists_are =
      subst (λ (ss : List (Slot C)). Grows slots r size entries parts lists ss others wider longer) (sym slots_are)
      (subst (λ es. Grows slots r size entries parts lists (slots ++ new_slot value l ∷ []) es wider longer) (sym entries_are)
      (subst (λ ls. Grows slots r size entries parts lists (slots ++ new_slot value l ∷ []) (set entries l.procedure (pushed l.side (length slots) (get_or entries l.procedure nothing_kept))) wider ls) (sym lists_are)
      record {
        kept = IsKept-add procedure_of slots r size entries value l kept within;
        indexed = IsIndexed-added slots r wider opened value l now inside at;
        carries = Carries-both (Carries-opened slots r size entries (part_named l) parts lists wider opened indexed opens) (Carries-added slots r size entries wider opened value l kept now within inside) (omega arith);
      }))
    where
      now : IsIndexed slots r wider opened
      now = IsIndexed-opened slots r (part_named l) parts lists wider opened indexed opens

      inside : l.part < length opened
      inside = omega (arith, slice_get_within wider l.part (part_named l) at, now.kept.same)

  -- no clause came, though a part may have come
  pub not_inserted : (slots : List (Slot C)) (r size : ℕ) (entries : List Kept) (parts : List Part) (lists : List Kept) (wider : List Part) (opened : List Kept) (more : List (Slot C)) (others longer : List Kept) (p : Part)
      → IsKept procedure_of slots r size entries → IsIndexed slots r parts lists → Opens p parts lists wider opened → more ≡ slots → others ≡ entries → longer ≡ opened
      → Grows slots r size entries parts lists more others wider longer
  not_inserted slots r size entries parts lists wider opened more others longer p kept indexed opens slots_are entries_are lists_are =
      subst (λ (ss : List (Slot C)). Grows slots r size entries parts lists ss others wider longer) (sym slots_are)
      (subst (λ es. Grows slots r size entries parts lists slots es wider longer) (sym entries_are)
      (subst (λ ls. Grows slots r size entries parts lists slots entries wider ls) (sym lists_are)
      record {
        kept = kept;
        indexed = IsIndexed-opened slots r p parts lists wider opened indexed opens;
        carries = Carries-opened slots r size entries p parts lists wider opened indexed opens;
      }))

  -- whichever it was
  pub either_inserted : {E : Type 0} (result : Result ℕ E) (slots : List (Slot C)) (r size : ℕ) (entries : List Kept) (parts : List Part) (lists : List Kept) (wider : List Part) (opened : List Kept) (more : List (Slot C)) (others longer : List Kept) (value : C) (l : Label)
      → IsKept procedure_of slots r size entries → IsIndexed slots r parts lists → Opens (part_named l) parts lists wider opened → slice_get wider l.part ≡ Some (part_named l) → l.procedure < length entries
      → OnOk result (more ≡ slots ++ new_slot value l ∷ []) → OnOk result (others ≡ set entries l.procedure (pushed l.side (length slots) (get_or entries l.procedure nothing_kept)))
      → OnOk result (longer ≡ set opened l.part (pushed l.side (length slots) (get_or opened l.part nothing_kept))) → OnErr result (more ≡ slots) → OnErr result (others ≡ entries) → OnErr result (longer ≡ opened)
      → Grows slots r size entries parts lists more others wider longer
  either_inserted (Ok n) slots r size entries parts lists wider opened more others longer value l kept indexed opens at within slots_are entries_are lists_are a b c =
      inserted slots r size entries parts lists wider opened more others longer value l kept indexed opens at within slots_are entries_are lists_are
  either_inserted (Err e) slots r size entries parts lists wider opened more others longer value l kept indexed opens at within a b c slots_are entries_are lists_are =
      not_inserted slots r size entries parts lists wider opened more others longer (part_named l) kept indexed opens slots_are entries_are lists_are

  -- the parts' lists where clauses were removed
  pub record ListsGo (slots : List (Slot C)) (r : ℕ) (parts : List Part) (lists : List Kept) (more : List (Slot C)) (q : ℕ) (longer : List Kept) : Type 0 where
    pub indexed : IsIndexed more q parts longer
    pub partly : (v : View) (cs : List (Clause C)) → Giving slots r lists v cs → Giving more q longer v cs

  pub lists_removed : {number : ℕ} {slots more : List (Slot C)} {r q : ℕ} {parts : List Part} {lists : List Kept} → IsIndexed slots r parts lists → Removes number slots r more q → IsCounted more q → ListsGo slots r parts lists more q lists
  lists_removed {number = number} {slots = slots} {more = more} {r = r} {q = q} {parts = parts} {lists = lists} indexed removes counted = record {
    indexed = IsIndexed-with slots more r q parts lists lists indexed removes.labels (IsKept-removed part_of number slots r more q (length parts) lists indexed.kept removes counted);
    partly = Giving-kept part_of slots r (length parts) lists more q lists indexed.kept (Remembers-removed number slots r more q removes) (Grown-same lists);
  }

  pub lists_cleared : {ns : List ℕ} {slots more : List (Slot C)} {r q : ℕ} {parts : List Part} {lists : List Kept} → IsIndexed slots r parts lists → Clears ns slots r more q → IsCounted more q → ListsGo slots r parts lists more q lists
  lists_cleared {ns = ns} {slots = slots} {more = more} {r = r} {q = q} {parts = parts} {lists = lists} indexed clears counted = record {
    indexed = IsIndexed-with slots more r q parts lists lists indexed clears.labels (IsKept-cleared part_of ns slots r more q (length parts) lists indexed.kept clears counted);
    partly = Giving-kept part_of slots r (length parts) lists more q lists indexed.kept (Remembers-cleared ns slots r more q clears) (Grown-same lists);
  }

  -- what tidying asks, over a slice of the slots
  pub lists_tidiable : {slots more slice : List (Slot C)} {r q : ℕ} {parts : List Part} {lists longer : List Kept} → ListsGo slots r parts lists more q longer → slice ≡ more → (of : Label → ℕ) × (size : ℕ) × IsKept of slice q size longer
  lists_tidiable {q = q} {parts = parts} {longer = longer} go is = (part_of, length parts, subst (λ (ss : List (Slot C)). IsKept part_of ss q (length parts) longer) (sym is) go.indexed.kept)

  pub lists_tidied : {slots more slice : List (Slot C)} {r q : ℕ} {parts : List Part} {lists longer tidy : List Kept} → ListsGo slots r parts lists more q longer → slice ≡ more → Tidies part_of slice q longer tidy → ListsGo slots r parts lists more q tidy
  lists_tidied {more = more} {q = q} {parts = parts} {longer = longer} {tidy = tidy} go is over =
      let tidies : Tidies part_of more q longer tidy = subst (λ (ss : List (Slot C)). Tidies part_of ss q longer tidy) is over in
      record {
        indexed = record { kept = tidies.kept (length parts) go.indexed.kept; inside = go.indexed.inside; once = go.indexed.once };
        partly = λ v cs gives. tidies.gives (length parts) go.indexed.kept v cs (go.partly v cs gives);
      }

  -- clauses were removed, and lists tidied
  pub removal_carries : {number : ℕ} {slots more : List (Slot C)} {r q : ℕ} {entries others : List Kept} {parts : List Part} {lists longer : List Kept} → Removes number slots r more q
      → ((v : View) (cs : List (Clause C)) → Giving slots r entries v cs → Giving more q others v cs) → ListsGo slots r parts lists more q longer → Carries slots r entries lists more q others longer
  removal_carries removes whole go = record { labels = λ n h. removes.labels n; values = λ n value h. removes.values n ∙ h; whole = whole; partly = go.partly }

  pub clearing_carries : {ns : List ℕ} {slots more : List (Slot C)} {r q : ℕ} {entries others : List Kept} {parts : List Part} {lists longer : List Kept} → Clears ns slots r more q
      → ((v : View) (cs : List (Clause C)) → Giving slots r entries v cs → Giving more q others v cs) → ListsGo slots r parts lists more q longer → Carries slots r entries lists more q others longer
  clearing_carries clears whole go = record { labels = λ n h. clears.labels n; values = λ n value h. clears.values n ∙ h; whole = whole; partly = go.partly }

  -- only what is kept of the procedures changed
  pub entries_carry : {slots : List (Slot C)} {r : ℕ} {entries others lists : List Kept} → ((v : View) (cs : List (Clause C)) → Giving slots r entries v cs → Giving slots r others v cs)
      → Carries slots r entries lists slots r others lists
  entries_carry whole = record { labels = λ n h. refl; values = λ n value h. h; whole = whole; partly = λ v cs h. h }

  -- the parts where views are forgotten
  pub IsIndexed-forgotten : (slots more : List (Slot C)) (r : ℕ) (parts : List Part) (lists : List Kept) → IsIndexed slots r parts lists → Cleans slots more r → IsIndexed more r parts (map forgotten lists)
  IsIndexed-forgotten slots more r parts lists indexed cleans =
      IsIndexed-with slots more r r parts lists (map forgotten lists) indexed cleans.labels
      (IsKept-cleaned part_of slots more r (length parts) (map forgotten lists) (IsKept-forgotten part_of slots r (length parts) lists indexed.kept) cleans)

  -- no parts
  pub indexed_nothing : (slots : List (Slot C)) (parts : List Part) (lists : List Kept) → slots ≡ [] → parts ≡ [] → lists ≡ [] → IsIndexed slots 0 parts lists
  indexed_nothing slots parts lists none nothing empty =
      subst (λ (ss : List (Slot C)). IsIndexed ss 0 parts lists) (sym none) (subst (λ ps. IsIndexed {C = C} [] 0 ps lists) (sym nothing)
      record { kept = kept_nothing part_of [] 0 lists refl refl empty; inside = λ n l at. absurd (none-some l at); once = λ i j p at_i at_j. absurd (none-some p at_i) })
