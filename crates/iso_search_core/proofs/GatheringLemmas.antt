-- A solution comes to a choice that gathers: the choices stand for the alternatives that the search has then.
use Rattle.std.proofs.Common.{◌≡◌, ℕ, zero, suc, ◌+◌, ◌*◌, ◌<◌, ◌≤◌, List, [], ◌∷◌, ◌++◌, length, get_or, slice_set, Bool, true, false, refl, ap, ap₂, sym, ◌∙◌, subst, arith, ◌⊎◌, inl, inr, ◌==◌, if◌then◌else◌}
use Rattle.std.proofs.lemmas.Bool.{eqb-true, cases_Bool, eq-eqb, ne_eqb}
use Rattle.iso_model.specs.Terms.Copies.{copy_from}
use Rattle.iso_model.specs.Terms.Trees.{Tree, Name, arities_fit}
use Rattle.iso_model.specs.Terms.Lists.{nil, list_of}
use Rattle.iso_model.specs.Search.Databases.{Clause}
use Rattle.iso_model.specs.Search.Settlements.{Offer}
use Rattle.iso_model.specs.Search.Walker.{Alternative, AsIs, Again, Clauses, Catching, Gathering, Offered, Groups, gathered, gathered_at}
use Rattle.iso_model.specs.Search.Walker as walker
use Rattle.iso_model.specs.Search.Replies.{Grouping, AsList, InGroups}
use Rattle.iso_model.specs.Search.Groups.{is_solution}
use Rattle.iso_model.specs.Terms.Variables.{variable_count}
use Rattle.iso_store_core.specs.Presents.{Present, meaning}
use Rattle.iso_program.specs.Leaving.{Leaving}
use Rattle.iso_search_core.specs.Solutions.{copies_of, pairs_of, Change, Gains}
use Rattle.iso_search_core.specs.Gathering.{SameCopies, LeftChanges, ChoiceChanges, ChangesAt, no_choice, this_choice, later_choice}
use Rattle.iso_search_core.specs.declared.solutions.Gathered.{Gathered}
use Rattle.iso_search_core.specs.declared.pairs.Pairs.{Pairs}
use Rattle.iso_lib_core.specs.declared.collecting.Meeting.{Meeting}
use Rattle.iso_search_core.specs.declared.choices.Left.{Left}
use Rattle.iso_search_core.specs.declared.choices.Left.TheVariants as left
use Rattle.iso_search_core.specs.declared.choices.Choice as kept
use Rattle.iso_search_core.specs.Costs.{tried_cost, choices_cost}
use Rattle.iso_search_core.specs.declared.lists.Lists.{Ghosts}
use Rattle.iso_search_core.specs.Standing.{grouping_of, Among, IsBelow, HasLeft, StandsForChoice, StandsForChoices, none_kept, one_kept, HaveRoom, entered_at, numbers_a_step, most_numbers}
use Rattle.iso_search_core.proofs.SolutionLemmas.{copy_fits, list_fits}
use Rattle.iso_search_core.proofs.StandingLemmas.{choices_length}

-- ---- the choice at a place

-- nothing is gathered there
pub not_gathering : {W C : Type 0} (R : Change) (l : Left W C) → ((result : W) (g : Gathered) → l ≡ left.Gathering result g → ⊥)
    → ((by : Meeting W) (g : Pairs) → l ≡ left.Grouping by g → ⊥) → LeftChanges R l l
not_gathering R (left.Gathering result g) none other = absurd (none result g refl)
not_gathering R (left.Grouping by g) none other = absurd (other by g refl)
not_gathering R l none other = refl

left_costs : {W C : Type 0} (R : Change) (n : ℕ) (l m : Left W C) → LeftChanges R l m → tried_cost m n ≡ tried_cost l n
left_costs {W = W} {C = C} R n (left.Gathering result g) m h = ap (λ (x : Left W C). tried_cost x n) h.1
left_costs {W = W} {C = C} R n (left.Grouping by g) m h = ap (λ (x : Left W C). tried_cost x n) h.1
left_costs {W = W} {C = C} R n l m h = ap (λ (x : Left W C). tried_cost x n) h

module _ {W M K P C : Type 0} (R : Change) where
  pub changes_none : (n : ℕ) (cs : List (kept.Choice W M K P C)) → length cs ≤ n → ChangesAt R n cs cs
  changes_none n [] less = no_choice
  changes_none zero (c ∷ cs) less = absurd (omega (arith, less))
  changes_none (suc n) (c ∷ cs) less = later_choice (changes_none n cs (omega (arith, less)))

  pub changes_one : (n : ℕ) (cs : List (kept.Choice W M K P C)) (c d : kept.Choice W M K P C) → n < length cs → c ≡ get_or cs n c → ChoiceChanges R c d → ChangesAt R n cs (slice_set cs n d)
  changes_one n [] c d less at h = absurd (omega (arith, less))
  changes_one zero (x ∷ cs) c d less at h = this_choice (subst (λ (y : kept.Choice W M K P C). ChoiceChanges R y d) at h)
  changes_one (suc n) (x ∷ cs) c d less at h = later_choice (changes_one n cs c d (omega (arith, less)) at h)

-- ---- what changes at the choice at a place

module _ {W M K P C : Type 0} (R : Change) where
  -- The last of the choices changes, or one before it.
  abbrev AtEnd : ℕ → List (kept.Choice W M K P C) → kept.Choice W M K P C → List (kept.Choice W M K P C) → Type 0
  AtEnd n before c ds =
      ((n ≡ length before) × ((d : kept.Choice W M K P C) × ChoiceChanges R c d × (ds ≡ before ++ d ∷ [])))
      ⊎ ((n ≡ length before → ⊥) × ((after : List (kept.Choice W M K P C)) × ChangesAt R n before after × (ds ≡ after ++ c ∷ [])))

  one_later : (n : ℕ) (b c : kept.Choice W M K P C) (before ds : List (kept.Choice W M K P C)) → AtEnd n before c ds → AtEnd (suc n) (b ∷ before) c (b ∷ ds)
  one_later n b c before ds (inl h) = inl (ap suc h.0, (h.1.0, h.1.1, ap (λ (xs : List _). b ∷ xs) h.1.2))
  one_later n b c before ds (inr h) = inr (λ e. h.0 (omega (arith, e)), (b ∷ h.1.0, later_choice h.1.1, ap (λ (xs : List _). b ∷ xs) h.1.2))

  pub at_end : (n : ℕ) (before : List (kept.Choice W M K P C)) (c : kept.Choice W M K P C) (ds : List (kept.Choice W M K P C)) → ChangesAt R n (before ++ c ∷ []) ds → AtEnd n before c ds
  at_end zero [] c _ (this_choice {d = d} h) = inl (refl, (d, h, refl))
  at_end (suc n) [] c _ (later_choice no_choice) = inr (λ e. omega (arith, e), ([], no_choice, refl))
  at_end zero (b ∷ before) c _ (this_choice {d = d} h) = inr (λ e. omega (arith, e), (d ∷ before, this_choice h, refl))
  at_end (suc n) (b ∷ before) c _ (later_choice {ds = ds} h) = one_later n b c before ds (at_end n before c ds h)

  -- as many stand
  pub changed_length : {n : ℕ} {cs ds : List (kept.Choice W M K P C)} → ChangesAt R n cs ds → length ds ≡ length cs
  changed_length no_choice = refl
  changed_length (this_choice h) = refl
  changed_length (later_choice h) = ap suc (changed_length h)

  -- as much is to be done at them
  pub changed_costs : {n : ℕ} {cs ds : List (kept.Choice W M K P C)} (costs : P → ℕ) → ChangesAt R n cs ds → choices_cost costs ds ≡ choices_cost costs cs
  changed_costs costs no_choice = refl
  changed_costs costs (this_choice {c = c} {d = d} {cs = cs} h) = ap (λ (k : ℕ). k + choices_cost costs cs) (left_costs R (costs d.rest) c.left d.left h.left ∙ ap (λ (r : P). tried_cost c.left (costs r)) h.rest)
  changed_costs costs (later_choice {c = c} h) = ap (λ (k : ℕ). tried_cost c.left (costs c.rest) + k) (changed_costs costs h)

-- ---- what is left at the alternative at a height changes so

abbrev changed_at : (walker.Left → walker.Left) → ℕ → List Alternative → List Alternative
changed_at f height [] = []
changed_at f height (a ∷ below) = (if length below == height then record a { left = f a.left } else a) ∷ changed_at f height below

above_all : (f : walker.Left → walker.Left) (n : ℕ) (ks : List Alternative) → length ks ≤ n → changed_at f n ks ≡ ks
above_all f n [] less = refl
above_all f n (a ∷ below) less =
    let here = above_all f n below (omega (arith, less)) in
    elim (cases_Bool (length below == n)) [
      | inl same ↦ absurd (let e = eqb-true (length below) n same in omega (arith, e, less))
      | inr other ↦ rw (other, here) refl
    ]

gathered_changed : (t : Tree) (n : ℕ) (ks : List Alternative) → gathered_at n t ks ≡ changed_at (λ l. gathered l t) n ks
gathered_changed t n [] = refl
gathered_changed t n (a ∷ below) = ap (λ (xs : List Alternative). (if length below == n then record a { left = gathered a.left t } else a) ∷ xs) (gathered_changed t n below)

same_alternative : (b : Bool) (a : Alternative) → (if b then record a { left = a.left } else a) ≡ a
same_alternative true a = refl
same_alternative false a = refl

unchanged : (n : ℕ) (ks : List Alternative) → changed_at (λ l. l) n ks ≡ ks
unchanged n [] = refl
unchanged n (a ∷ below) = ap₂ (λ (x : Alternative) (xs : List Alternative). x ∷ xs) (same_alternative (length below == n) a) (unchanged n below)

-- How what was gathered, and what is left at the alternative, change together.
pub record Together (f : walker.Left → walker.Left) (R : Change) : Type 0 where
  pub as_is : f AsIs ≡ AsIs
  pub again : f Again ≡ Again
  pub clauses : (call : Tree) (cs : List Clause) → f (Clauses call cs) ≡ Clauses call cs
  pub catching : (catcher recovery : Tree) → f (Catching catcher recovery) ≡ Catching catcher recovery
  pub offered : (left : Tree) (rights : List Offer) → f (Offered left rights) ≡ Offered left rights
  pub groups : (by : Grouping) (gs : List (List Tree)) → f (Groups by gs) ≡ Groups by gs
  pub gathering : (result : Tree) (g h : Gathered) → R.copies g h → f (Gathering (AsList result) (copies_of g) g.variables) ≡ Gathering (AsList result) (copies_of h) h.variables
  pub grouping : (by : Grouping) (g h : Pairs) → R.pairs g h
      → f (Gathering (InGroups by) (pairs_of g) g.variables) ≡ Gathering (InGroups by) (pairs_of h) h.variables
  pub pairs_fit : (g h : Pairs) → R.pairs g h → arities_fit (list_of (pairs_of g)) ≡ true
      → arities_fit (list_of (pairs_of h)) ≡ true
  pub fits : (g h : Gathered) → R.copies g h → arities_fit (list_of (copies_of g)) ≡ true → arities_fit (list_of (copies_of h)) ≡ true
  pub entered : (l : walker.Left) → entered_at (f l) ≡ entered_at l

module _ (f : walker.Left → walker.Left) (R : Change) (k : Together f R) where
  left_changed : {W C : Type 0} (leaves : Leaving) (calls : C → Tree → Type 0) (p : Present W) (a : Alternative) (x y : Left W C) → LeftChanges R x y → HasLeft leaves calls p x a → HasLeft leaves calls p y (record a { left = f a.left })
  left_changed {W = W} {C = C} leaves calls p a (left.Gathering result g) y h has =
      subst (λ (z : Left W C). HasLeft leaves calls p z (record a { left = f a.left })) (sym h.1)
      (record { holds = has.holds; is = ap f has.is ∙ k.gathering (meaning p result) g h.0 h.2; fits = k.fits g h.0 h.2 has.fits })
  left_changed {W = W} {C = C} leaves calls p a (left.Grouping by g) y h has =
      subst (λ (z : Left W C). HasLeft leaves calls p z (record a { left = f a.left })) (sym h.1) (record {
        witness = has.witness;
        result = has.result;
        is = ap f has.is ∙ k.grouping (grouping_of p by) g h.0 h.2;
        fits = k.pairs_fit g h.0 h.2 has.fits;
      })
  left_changed {W = W} {C = C} leaves calls p a (left.Groups by groups) y h has =
      subst (λ (z : Left W C). HasLeft leaves calls p z (record a { left = f a.left })) (sym h) (record {
        witness = has.witness;
        result = has.result;
        is = ap f has.is ∙ k.groups _ _;
        each = has.each;
        some = has.some;
      })
  left_changed {W = W} {C = C} leaves calls p a left.AsIs y h has = subst (λ (z : Left W C). HasLeft leaves calls p z (record a { left = f a.left })) (sym h) (ap f has ∙ k.as_is)
  left_changed {W = W} {C = C} leaves calls p a left.Again y h has = subst (λ (z : Left W C). HasLeft leaves calls p z (record a { left = f a.left })) (sym h) (ap f has ∙ k.again)
  left_changed {W = W} {C = C} leaves calls p a (left.Catching goal) y h has =
      subst (λ (z : Left W C). HasLeft leaves calls p z (record a { left = f a.left })) (sym h) (record { holds = has.holds; three = has.three; is = ap f has.is ∙ k.catching _ _ })
  left_changed {W = W} {C = C} leaves calls p a (left.Offered goal offers) y h has =
      subst (λ (z : Left W C). HasLeft leaves calls p z (record a { left = f a.left })) (sym h)
      (record { holds = has.holds; made = has.made; is = ap f has.is ∙ k.offered _ _; each = has.each; some = has.some })
  left_changed {W = W} {C = C} leaves calls p a (left.Shown shown) y h has =
      subst (λ (z : Left W C). HasLeft leaves calls p z (record a { left = f a.left })) (sym h)
      (record { head = has.head; body = has.body; key = has.key; key_is = has.key_is; user = has.user; clauses = has.clauses; is = ap f has.is ∙ k.offered _ _; are = has.are })
  left_changed {W = W} {C = C} leaves calls p a (left.Clauses attempt) y h has =
      subst (λ (z : Left W C). HasLeft leaves calls p z (record a { left = f a.left })) (sym h)
      (record { call = has.call; clauses = has.clauses; is_for = has.is_for; left = ap f has.left ∙ k.clauses _ _; are = has.are; enter = has.enter })

  module _ {S L W M K P C N B O : Type 0} (l : Ghosts L S K P C N B O W M) (older : M → M → Type 0) where
    below_changed : (x c d : kept.Choice W M K P C) → ChoiceChanges R c d → IsBelow l older x c → IsBelow l older x d
    below_changed x c d h newer = (subst (λ (m : M). older x.mark m) (sym h.mark) newer.0, subst (λ (m : K). l.below x.kept m) (sym h.kept) newer.1)

    same_below : {n : ℕ} {cs ds : List (kept.Choice W M K P C)} (c x : kept.Choice W M K P C) → ChangesAt R n cs ds → ((y : kept.Choice W M K P C) → Among y cs → IsBelow l older y c) → Among x ds
        → IsBelow l older x c
    same_below c x no_choice each among = absurd among
    same_below c x (this_choice {c = y} {d = d} h) each (inl is) =
        let old = each y (inl refl) in
        let new : IsBelow l older d c = (subst (λ (m : M). older m c.mark) (sym h.mark) old.0, subst (λ (m : K). l.below m c.kept) (sym h.kept) old.1) in
        subst (λ (z : kept.Choice W M K P C). IsBelow l older z c) (sym is) new
    same_below c x (this_choice h) each (inr among) = each x (inr among)
    same_below c x (later_choice {c = y} h) each (inl is) = subst (λ (z : kept.Choice W M K P C). IsBelow l older z c) (sym is) (each y (inl refl))
    same_below c x (later_choice h) each (inr among) = same_below c x h (λ y there. each y (inr there)) among

  module _ {S L W M K P C N B O : Type 0} (l : Ghosts L S K P C N B O W M) {stands : M → Present W → Type 0} {older : M → M → Type 0} {base : M} {leaves : Leaving} {query : List W} {named : List ℕ} {fitting : Present W → ℕ → Alternative → Type 0}
      (fits_left : (p : Present W) (n : ℕ) (a : Alternative) (x : walker.Left) → fitting p n a → fitting p n (record a { left = x })) where
    choice_changed : (lists : L) (c d : kept.Choice W M K P C) (a : Alternative) → ChoiceChanges R c d → StandsForChoice l stands older base leaves query named fitting lists c a
        → StandsForChoice l stands older base leaves query named fitting lists d (record a { left = f a.left })
    choice_changed lists c d a h here = record {
      present = here.present;
      mark = subst (λ (m : M). stands m here.present) (sym h.mark) here.mark;
      newer = subst (λ (m : M). older base m) (sym h.mark) here.newer;
      on = (let o = here.on in record {
        subst_is = o.subst_is;
        next_is = o.next_is;
        chain = subst (λ (m : K). l.list here.present lists m d.rest a.list) (sym h.kept) (subst (λ (r : P). l.list here.present lists c.kept r a.list) (sym h.rest) o.chain);
        words = o.words;
      });
      has = subst (λ (m : K). HasLeft leaves (l.call here.present lists m) here.present d.left (record a { left = f a.left })) (sym h.kept)
          (left_changed leaves (l.call here.present lists c.kept) here.present a c.left d.left h.left here.has);
      fits = fits_left here.present (l.pending lists d.rest) a (f a.left) (subst (λ (r : P). fitting here.present (l.pending lists r) a) (sym h.rest) here.fits);
    }

    pub choices_changed : {lists : L} {cs ds : List (kept.Choice W M K P C)} {ks : List Alternative} (n : ℕ) → ChangesAt R n cs ds
        → StandsForChoices l stands older base leaves query named fitting lists cs ks → StandsForChoices l stands older base leaves query named fitting lists ds (changed_at f n ks)
    choices_changed n no_choice none_kept = none_kept
    choices_changed {lists = lists} {cs = cs} {ds = ds} n change (one_kept {before = before} {c = c} {a = a} {ks = ks} is on here newer below) =
        let many = choices_length l below in
        elim (at_end R n before c ds (subst (λ (xs : List (kept.Choice W M K P C)). ChangesAt R n xs ds) is change)) [
          | inl last ↦ (let d = last.1.0 in
              let h = last.1.1 in
              let height : length ks ≡ n = omega (arith, many, last.0) in
              let first : (length ks == n) ≡ true = eq-eqb (length ks) n height in
              let others = above_all f n ks (omega (arith, height)) in
              let one : StandsForChoices l stands older base leaves query named fitting lists ds (record a { left = f a.left } ∷ ks) =
              one_kept last.1.2 (subst (λ (m : K). l.within lists m) (sym h.kept) on) (choice_changed lists c d a h here) (λ x among. below_changed l older x c d h (newer x among)) below in
              rw (first, others) one)
          | inr lower ↦ (let after = lower.1.0 in
              let other : (length ks == n) ≡ false = ne_eqb (length ks) n (λ e. lower.0 (omega (arith, many, e))) in
              let one : StandsForChoices l stands older base leaves query named fitting lists ds (a ∷ changed_at f n ks) =
              one_kept lower.1.2 on here (λ x among. same_below l older c x lower.1.1 newer among) (choices_changed n lower.1.1 below) in
              rw other one)
        ]

  pub room_changed : (steps n : ℕ) (ks : List Alternative) → HaveRoom steps ks → HaveRoom steps (changed_at f n ks)
  room_changed steps n [] room = tt
  room_changed steps n (a ∷ ks) room = (
    elim (length ks == n) as (λ (b : Bool). (if b then record a { left = f a.left } else a).next + numbers_a_step * (steps + entered_at (if b then record a { left = f a.left } else a).left) ≤ most_numbers) [
      | true ↦ subst (λ (m : ℕ). a.next + numbers_a_step * (steps + m) ≤ most_numbers) (sym (k.entered a.left)) room.0
      | false ↦ room.0
    ],
    room_changed steps n ks room.1,
  )

-- ---- a solution comes

entered_gathered : (t : Tree) (l : walker.Left) → entered_at (gathered l t) ≡ entered_at l
entered_gathered t AsIs = refl
entered_gathered t (Gathering (AsList result) copies count) = refl
entered_gathered t (Gathering (InGroups by) copies count) =
    elim (is_solution t) as (λ b. entered_at (if b then Gathering (InGroups by) (copies ++ copy_from t count ∷ []) (count + variable_count t) else Gathering (InGroups by) copies count) ≡ 1) [
      | true ↦ refl
      | false ↦ refl
    ]
entered_gathered t l = refl

-- a solution comes, or not
either : (b : Bool) (by : Grouping) (more less : List Tree) (m n : ℕ)
    → (if b then Gathering (InGroups by) more m else Gathering (InGroups by) less n)
    ≡ Gathering (InGroups by) (if b then more else less) (if b then m else n)
either true by more less m n = refl
either false by more less m n = refl

either_fits : (b : Bool) (more less : List Tree) → arities_fit (list_of more) ≡ true → arities_fit (list_of less) ≡ true
    → arities_fit (list_of (if b then more else less)) ≡ true
either_fits true more less one other = one
either_fits false more less one other = other

with_solution : (t : Tree) → arities_fit t ≡ true → Together (λ l. gathered l t) (Gains t)
with_solution t fits = record {
  as_is = refl;
  again = refl;
  clauses = λ call cs. refl;
  catching = λ catcher recovery. refl;
  offered = λ left rights. refl;
  groups = λ by gs. refl;
  gathering = λ result g h r. ap₂ (Gathering (AsList result)) (sym r.copies) (sym r.variables);
  grouping = λ by g h r.
      (either (is_solution t) by (pairs_of g ++ copy_from t g.variables ∷ []) (pairs_of g)
      (g.variables + variable_count t) g.variables
      ∙ ap₂ (Gathering (InGroups by)) (sym r.copies) (sym r.variables));
  pairs_fit = λ g h r all.
      (subst (λ (ts : List Tree). arities_fit (list_of ts) ≡ true) (sym r.copies)
      (either_fits (is_solution t) (pairs_of g ++ copy_from t g.variables ∷ []) (pairs_of g)
      (list_fits (pairs_of g) (copy_from t g.variables) (Name nil) all (copy_fits t g.variables fits)) all));
  fits = λ g h r all. subst (λ (ts : List Tree). arities_fit (list_of ts) ≡ true) (sym r.copies) (list_fits (copies_of g) (copy_from t g.variables) (Name nil) all (copy_fits t g.variables fits));
  entered = entered_gathered t;
}

with_none : Together (λ l. l) SameCopies
with_none = record {
  as_is = refl;
  again = refl;
  clauses = λ call cs. refl;
  catching = λ catcher recovery. refl;
  offered = λ left rights. refl;
  groups = λ by gs. refl;
  gathering = λ result g h r. ap₂ (Gathering (AsList result)) (sym r.0) (sym r.1);
  grouping = λ by g h r. ap₂ (Gathering (InGroups by)) (sym r.0) (sym r.1);
  pairs_fit = λ g h r all. subst (λ (ts : List Tree). arities_fit (list_of ts) ≡ true) (sym r.0) all;
  fits = λ g h r all. subst (λ (ts : List Tree). arities_fit (list_of ts) ≡ true) (sym r.0) all;
  entered = λ l. refl;
}

module _ {S L W M K P C N B O : Type 0} (l : Ghosts L S K P C N B O W M) {stands : M → Present W → Type 0} {older : M → M → Type 0} {base : M} {leaves : Leaving} {query : List W} {named : List ℕ} {fitting : Present W → ℕ → Alternative → Type 0}
    (fits_left : (p : Present W) (n : ℕ) (a : Alternative) (x : walker.Left) → fitting p n a → fitting p n (record a { left = x })) where
  pub choices_gain : {lists : L} {cs ds : List (kept.Choice W M K P C)} {ks : List Alternative} (n : ℕ) (t : Tree) → arities_fit t ≡ true → ChangesAt (Gains t) n cs ds
      → StandsForChoices l stands older base leaves query named fitting lists cs ks → StandsForChoices l stands older base leaves query named fitting lists ds (gathered_at n t ks)
  choices_gain {lists = lists} {ds = ds} {ks = ks} n t fits change are =
      subst (λ (xs : List Alternative). StandsForChoices l stands older base leaves query named fitting lists ds xs) (sym (gathered_changed t n ks)) (choices_changed (λ x. gathered x t) (Gains t) (with_solution t fits) l fits_left n change are)

  -- none came
  pub choices_same : {lists : L} {cs ds : List (kept.Choice W M K P C)} {ks : List Alternative} (n : ℕ) → ChangesAt SameCopies n cs ds
      → StandsForChoices l stands older base leaves query named fitting lists cs ks → StandsForChoices l stands older base leaves query named fitting lists ds ks
  choices_same {lists = lists} {ds = ds} {ks = ks} n change are =
      subst (λ (xs : List Alternative). StandsForChoices l stands older base leaves query named fitting lists ds xs) (unchanged n ks) (choices_changed (λ x. x) SameCopies with_none l fits_left n change are)

pub room_gathered : (steps n : ℕ) (t : Tree) (ks : List Alternative) → arities_fit t ≡ true → HaveRoom steps ks → HaveRoom steps (gathered_at n t ks)
room_gathered steps n t ks fits room = subst (HaveRoom steps) (sym (gathered_changed t n ks)) (room_changed (λ l. gathered l t) (Gains t) (with_solution t fits) steps n ks room)
