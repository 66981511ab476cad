-- A thrown ball finds the catch that it goes to.
use Rattle.iso_program.specs.ClauseOffers.{clause_offer}
use Rattle.iso_model.specs.Search.Replies.{AsList, InGroups}
use Rattle.iso_search_core.specs.Solutions.{copies_of, pairs_of}
use Rattle.iso_search_core.specs.Offers.{goal_arguments, rights_of}
use Rattle.iso_program.specs.Leaving.{Leaving}
use Rattle.iso_store_core.specs.Presents.{meaning, Present}
use Rattle.iso_model.specs.Terms.Trees.{row, Tree}
use Rattle.std.proofs.Common.{◌≡◌, ℕ, suc, ◌-◌, ◌≤◌, ◌<◌, ◌==◌, List, [], ◌∷◌, ◌++◌, length, map, drop, Some, Bool, refl, ap, sym, ◌∙◌, subst, arith, ◌⊎◌, inl, inr, if◌then◌else◌}
use Rattle.std.specs.List.{slice_get}
use Rattle.std.proofs.Math.Nat.{eq-or-lt_of_le}
use Rattle.std.proofs.lemmas.Bool.{eqb-true, cases_Bool, eq-eqb}
use Rattle.std.proofs.lemmas.Option.{slice_get_within}
use Rattle.iso_model.specs.Search.Walker.{State, Alternative, Left, AsIs, Again, Clauses, Catching, Gathering, Offered, Groups, Outcome, caught_at, caught, shortened}
use Rattle.iso_search_core.specs.declared.lists.Lists as lists
use Rattle.iso_search_core.specs.declared.choices.Left as engine
use Rattle.iso_search_core.specs.declared.choices.Left.TheVariants as left
use Rattle.iso_search_core.specs.declared.choices.Choice as kept
use Rattle.iso_search_core.specs.Standing.{grouping_of, groups_in, HasLeft, StandsForChoice, StandsForChoices, one_kept, none_kept}
use Rattle.iso_search.specs.Catches.{IsEntry, IsCatchAt}
use Rattle.iso_search_core.proofs.StandingLemmas.{choices_length, length_last, at_front, last_is, some_same}

-- an alternative at this height is looked for
caught_here : (height : ℕ) (a : Alternative) (below : List Alternative) (ball : Tree) (s : State) (o : Outcome) → length below ≡ height
    → caught height (a ∷ below) ball s o ≡ caught_at a.left a below ball s o
caught_here height a below ball s o e =
    ap (λ (x : Bool). if x then caught_at a.left a below ball s o else caught height below ball s o) (eq-eqb (length below) height e)

caught_below : (height : ℕ) (a : Alternative) (below : List Alternative) (ball : Tree) (s : State) (o : Outcome) → height < length below
    → caught height (a ∷ below) ball s o ≡ caught height below ball s o
caught_below height a below ball s o less =
    elim (cases_Bool (length below == height)) [
      | inl here ↦ absurd (let same = eqb-true (length below) height here in omega (arith, same, less))
      | inr other ↦ ap (λ (x : Bool). if x then caught_at a.left a below ball s o else caught height below ball s o) other
    ]

-- no alternative stands there
pub caught_above : (height : ℕ) (stack : List Alternative) (ball : Tree) (s : State) (o : Outcome) → length stack ≤ height
    → caught height stack ball s o ≡ o
caught_above height [] ball s o h = refl
caught_above height (a ∷ below) ball s o h =
    elim (cases_Bool (length below == height)) [
      | inl here ↦ absurd (let same = eqb-true (length below) height here in omega (arith, same, h))
      | inr other ↦ (let inner = caught_above height below ball s o (omega (arith, h)) in
          ap (λ (x : Bool). if x then caught_at a.left a below ball s o else caught height below ball s o) other ∙ inner)
    ]

module _ {S L W M K P C N B O : Type 0} (l : lists.Ghosts L S K P C N B O W M) (leaves : Leaving) (held : L) (height : ℕ) (left : engine.Left W C) where
  -- The choice at this height, at which this is left, is an alternative of the stack.
  pub record AtHeight (ks : List Alternative) : Type 0 where
    pub alternative : Alternative
    pub below : List Alternative
    pub stack : shortened (suc height) ks ≡ alternative ∷ below
    pub height_is : length below ≡ height
    pub within : height < length ks
    pub present : Present W
    pub stood : K
    pub has : HasLeft leaves (l.call present held stood) present left alternative
    pub caught_is : (ball : Tree) (s : State) (o : Outcome) → caught height ks ball s o ≡ caught_at alternative.left alternative below ball s o

module _ {S L W M K P C N B O : Type 0} (l : lists.Ghosts L S K P C N B O W M) {stands : M → Present W → Type 0} {older : M → M → Type 0} {base : M} {leaves : Leaving} {query : List W} {named : List ℕ} {fitting : Present W → ℕ → Alternative → Type 0} {held : L} where
  at_height_by : {before : List (kept.Choice W M K P C)} {ks : List Alternative} (height : ℕ) (c d : kept.Choice W M K P C) (a : Alternative)
      → StandsForChoice l stands older base leaves query named fitting held d a → StandsForChoices l stands older base leaves query named fitting held before ks
      → slice_get (before ++ d ∷ []) height ≡ Some c → (height < length before → AtHeight l leaves held height c.left ks)
      → (height ≡ length before) ⊎ (height < length before) → AtHeight l leaves held height c.left (a ∷ ks)
  at_height_by {before = before} {ks = ks} height c d a here below there inner (inr less) =
      let h = inner less in
      let many = choices_length l below in
      let back : suc (length ks - suc height) ≡ suc (length ks) - suc height = omega (arith, less, many) in
      record {
        alternative = h.alternative;
        below = h.below;
        stack = ap (λ (n : ℕ). drop n (a ∷ ks)) (sym back) ∙ h.stack;
        height_is = h.height_is;
        within = (let inside = h.within in omega (arith, inside));
        present = h.present;
        stood = h.stood;
        has = h.has;
        caught_is = λ ball s o. caught_below height a ks ball s o (omega (arith, less, many)) ∙ h.caught_is ball s o;
      }
  at_height_by {before = before} {ks = ks} height c d a here below there inner (inl same) =
      let many = choices_length l below in
      let none : suc (length ks) - suc height ≡ 0 = omega (arith, same, many) in
      let is : d ≡ c = some_same (sym (last_is before d) ∙ (ap (slice_get (before ++ d ∷ [])) (sym same) ∙ there)) in
      record {
        alternative = a;
        below = ks;
        stack = ap (λ (n : ℕ). drop n (a ∷ ks)) none;
        height_is = omega (arith, same, many);
        within = omega (arith, same, many);
        present = here.present;
        stood = d.kept;
        has = subst (λ (y : kept.Choice W M K P C). HasLeft leaves (l.call here.present held d.kept) here.present y.left a) is here.has;
        caught_is = λ ball s o. caught_here height a ks ball s o (omega (arith, same, many));
      }

  pub at_height : {cs : List (kept.Choice W M K P C)} {ks : List Alternative} (height : ℕ) (c : kept.Choice W M K P C) → slice_get cs height ≡ Some c
      → StandsForChoices l stands older base leaves query named fitting held cs ks → AtHeight l leaves held height c.left ks
  at_height height c at none_kept = absurd (cc)
  at_height height c at (one_kept {before = before} {c = d} {a = a} {ks = ks} is on here newer below) =
      let there : slice_get (before ++ d ∷ []) height ≡ Some c = subst (λ (ds : List (kept.Choice W M K P C)). slice_get ds height ≡ Some c) is at in
      let within = slice_get_within (before ++ d ∷ []) height c there in
      let long = length_last before d in
      let shorter : (height < length before) → slice_get before height ≡ Some c = λ less. sym (at_front before d height less) ∙ there in
      at_height_by height c d a here below there (λ less. at_height height c (shorter less) below) (eq-or-lt_of_le (omega (arith, within, long)))

module _ {S L W M K P C N B O : Type 0} {l : lists.Ghosts L S K P C N B O W M} {leaves : Leaving} {held : L} {ks : List Alternative} {height : ℕ} where
  -- one that is the entry of a catch, at which the ball is caught
  pub entry_catches : (x : engine.Left W C) (at : AtHeight l leaves held height x ks) → IsEntry x
      → (catcher : Tree) × (recovery : Tree) × (at.alternative.left ≡ Catching catcher recovery)
  entry_catches (left.Catching goal) at e = (_, _, at.has.is)
  entry_catches x at e = absurd e

  -- any other
  pub other_passes : (x : engine.Left W C) (at : AtHeight l leaves held height x ks) → (IsEntry x → ⊥) → (ball : Tree) (s : State) (o : Outcome)
      → caught_at at.alternative.left at.alternative at.below ball s o ≡ o
  other_passes x at none ball s o = by_left x none at.has where
    passes : (y : Left) → at.alternative.left ≡ y → caught_at y at.alternative at.below ball s o ≡ o → caught_at at.alternative.left at.alternative at.below ball s o ≡ o
    passes y e h = subst (λ (z : Left). caught_at z at.alternative at.below ball s o ≡ o) (sym e) h

    by_left : (x : engine.Left W C) → (IsEntry x → ⊥) → HasLeft leaves (l.call at.present held at.stood) at.present x at.alternative → caught_at at.alternative.left at.alternative at.below ball s o ≡ o
    by_left (left.Catching goal) e has = absurd (e tt)
    by_left left.AsIs e has = passes AsIs has refl
    by_left left.Again e has = passes Again has refl
    by_left (left.Grouping by pairs) e has =
        passes (Gathering (InGroups (grouping_of at.present by)) (pairs_of pairs) pairs.variables) has.is refl
    by_left (left.Groups by groups) e has = passes (Groups (grouping_of at.present by) (groups_in groups.items)) has.is refl
    by_left (left.Gathering result gathered) e has = passes (Gathering (AsList (meaning at.present result)) (copies_of gathered) gathered.variables) has.is refl
    by_left (left.Offered goal offers) e has = passes (Offered (goal_arguments (meaning at.present goal)) (rights_of has.made (meaning at.present goal) offers)) has.is refl
    by_left (left.Shown shown) e has = passes (Offered (row (meaning at.present shown.head ∷ meaning at.present shown.body ∷ [])) (map (clause_offer shown.removes has.key) has.clauses)) has.is refl
    by_left (left.Clauses attempt) e has = passes (Clauses has.call has.clauses) has.left refl

-- a choice that is no entry of a catch
pub no_entry : {W M K P C : Type 0} (choices : List (kept.Choice W M K P C)) (height : ℕ) (c : kept.Choice W M K P C) → slice_get choices height ≡ Some c
    → ((goal : W) → c.left ≡ left.Catching goal → ⊥) → IsCatchAt choices height → ⊥
no_entry {W} {M} {K} {P} {C} choices height c there none h =
    let same : h.choice ≡ c = some_same (sym h.stands ∙ there) in
    by_left c.left none (subst (λ (d : kept.Choice W M K P C). IsEntry d.left) same h.entry) where
      by_left : (x : engine.Left W C) → ((goal : W) → x ≡ left.Catching goal → ⊥) → IsEntry x → ⊥
      by_left (left.Catching goal) never e = never goal refl
      by_left x never e = e
