-- How a plan of a copy goes on.
use Rattle.std.proofs.Common.{◌≡◌, ℕ, zero, suc, ◌+◌, ◌-◌, ◌<◌, List, [], ◌∷◌, ◌++◌, length, map, drop, get_or, option_map, true, Some, None, IsSome, slice_get, Vec, Global, refl, ap, sym, ◌∙◌, subst, arith, inl, inr, length-append, ◌==◌, if◌then◌else◌, is_some}
use Rattle.std.specs.List.{All}
use Rattle.std.proofs.lemmas.Bool.{cases_eq, eq-eqb, eqb-true, ne_eqb, or_cases, or_left, or_right, false≢true}
use Rattle.std.proofs.lemmas.List.{append-nil, length-drop}
use Rattle.std.proofs.lemmas.Option.{slice_get_within, get_or_from_slice_get, slice_get_read, slice_get-map}
use Rattle.iso_atoms.specs.Texts.{text_at}
use Rattle.iso_model.specs.Terms.Trees.{Tree, Variable, Integer, Name, Apply, End, More, row, count}
use Rattle.iso_model.specs.Terms.Sorts.{is_term}
use Rattle.iso_model.specs.Terms.Variables.{occurs, is_in}
use Rattle.iso_model.specs.Terms.Building.{Give, Gather, with_step, with_steps}
use Rattle.iso_model.specs.Terms.Unification.Listed.{Covers}
use Rattle.iso_store_core.specs.declared.patterns.Part.{Part}
use Rattle.iso_store_core.specs.declared.patterns.Part.TheVariants.{Variable as Place, Compound}
use Rattle.iso_store_core.specs.Presents.{Present, Holds, meaning}
use Rattle.iso_store_core.specs.Arguments.{arguments, arity, argument, member}
use Rattle.iso_store_core.specs.Patterns.{IsNamed, part_step, at_places}
use Rattle.iso_store.specs.declared.notes.Notes.{Notes}
use Rattle.iso_store.specs.declared.plans.Task.{Task}
use Rattle.iso_store.specs.declared.plans.Task.TheVariants.{Plan}
use Rattle.iso_store.specs.declared.plans.Planning.{Planning}
use Rattle.iso_store.specs.Listing.{number_of}
use Rattle.iso_store.specs.Notes.{noted}
use Rattle.iso_store.specs.Writing.{IsReady}
use Rattle.iso_store.specs.Plans.{Sketch, start, made_known, with_part, after_plan}
use Rattle.iso_store.specs.Planning.{IsGathered, IsTask, AreDue, IsPlanning, numbers_of, numbers, planned, steps_of}
use Rattle.iso_store.proofs.ArgumentLemmas.{row_of_term}
use Rattle.iso_store.proofs.InstanceLemmas.{count-row}
use Rattle.iso_store.proofs.PlanLemmas.{got-before, got-last, after-push, ready-push}

-- variables of an argument are variables of its compound
occurs-member : (x i : ℕ) (ts : Tree) → i < count ts → occurs x (member i ts) ≡ true → occurs x ts ≡ true
occurs-member x zero (More t ts) below o = or_left (occurs x t) (occurs x ts) o
occurs-member x (suc i) (More t ts) below o = or_right (occurs x t) (occurs x ts) (occurs-member x i ts (omega arith) o)
occurs-member x i (Variable n) below o = absurd (omega arith)
occurs-member x i (Integer z) below o = absurd (omega arith)
occurs-member x i (Name a) below o = absurd (omega arith)
occurs-member x i (Apply f ts) below o = absurd (omega arith)
occurs-member x i End below o = absurd (omega arith)

occurs-arguments : (x : ℕ) (t : Tree) → occurs x (arguments t) ≡ true → occurs x t ≡ true
occurs-arguments x (Apply f ts) o = o
occurs-arguments x (Variable n) o = absurd (false≢true o)
occurs-arguments x (Integer z) o = absurd (false≢true o)
occurs-arguments x (Name a) o = absurd (false≢true o)
occurs-arguments x End o = absurd (false≢true o)
occurs-arguments x (More t ts) o = absurd (false≢true o)

pub covers-argument : (vs : List ℕ) (i n : ℕ) (m t : Tree) → i < n → arity m ≡ n → t ≡ argument i m → Covers vs m → Covers vs t
covers-argument vs i n m t below many is covers x o =
    covers x (occurs-arguments x m (occurs-member x i (arguments m) (omega arith) (ap (occurs x) (sym is) ∙ o)))

module _ {W : Type 0} (p : Present W) (names : List (List ℕ)) (at : ℕ → Tree) (place : ℕ → ℕ) (l : Planning W) where
  abbrev before : Sketch
  before = planned p names l

  -- other tasks
  pub other-tasks : (tasks : Vec (Task W) Global) (now next : List Tree) → All (IsTask p names (numbers p l)) tasks.items → AreDue p names at next tasks.items → IsPlanning p names at place now l
      → IsPlanning p names at place next (record { variables = l.variables; parts = l.parts; made = l.made; known = l.known; tasks = tasks })
  other-tasks tasks now next there due is = record {
    ready = is.ready;
    count = is.count;
    few = is.few;
    within = is.within;
    sound = is.sound;
    covered = is.covered;
    there = there;
    due = due;
  }

  -- one part more
  module _ (parts : Vec Part Global) (k : Part) (more : parts.items ≡ l.parts.items ++ k ∷ []) where
    sketch-more : (made : ℕ) (known : Notes ℕ) → planned p names (record { variables = l.variables; parts = parts; made = made; known = known; tasks = l.tasks }) ≡ with_part names k before
    sketch-more made known =
        ap (λ ks. after_plan names ks (start (map (meaning p) l.variables.items))) more ∙ after-push names l.parts.items k (start (map (meaning p) l.variables.items))

    -- a term comes that is no compound, or one that is known
    module _ (t : Tree) (gives : part_step names (at_places before.known) k ≡ Give (t ∷ [])) (none : made_known names k before.terms ≡ []) where
      abbrev with_leaf : Planning W
      with_leaf = record { variables = l.variables; parts = parts; made = l.made; known = l.known; tasks = l.tasks }

      terms-leaf : (planned p names with_leaf).terms ≡ before.terms ++ t ∷ []
      terms-leaf = ap (λ s. s.terms) (sketch-more l.made l.known) ∙ ap (λ j. with_step j before.terms) gives

      known-leaf : (planned p names with_leaf).known ≡ before.known
      known-leaf = ap (λ s. s.known) (sketch-more l.made l.known) ∙ ap (λ ts. before.known ++ ts) none ∙ append-nil before.known

      pub leaf-planned : IsNamed names k → IsReady (length before.known) (length before.terms) k → IsPlanning p names at place (before.terms ++ t ∷ []) l
          → IsPlanning p names at place (planned p names with_leaf).terms with_leaf × (with_steps (steps_of p names l.tasks.items) (planned p names with_leaf).terms ≡ with_steps (steps_of p names l.tasks.items) (before.terms ++ t ∷ []))
      leaf-planned named ready is = (
        record {
          ready = rw more (ready-push names l.parts.items k (start (map (meaning p) l.variables.items)) is.ready named ready);
          count = is.count ∙ ap length (sym known-leaf);
          few = is.few;
          within = let size = ap length more ∙ length-append l.parts.items (k ∷ []) in let before = is.within in omega arith;
          sound = λ j i h. ap (λ ts. slice_get ts i) known-leaf ∙ is.sound j i h;
          covered = is.covered;
          there = is.there;
          due = subst (λ ts. AreDue p names at ts l.tasks.items) (sym terms-leaf) is.due;
        },
        ap (with_steps (steps_of p names l.tasks.items)) terms-leaf,
      )

  -- a term that is known comes
  pub known-term : (k i : ℕ) (t : Tree) (now : List Tree) → IsPlanning p names at place now l → noted l.known k ≡ Some i → at k ≡ t → (part_step names (at_places before.known) (Place i) ≡ Give (t ∷ [])) × (i < length before.known)
  known-term k i t now is note here =
      let got = is.sound k i note ∙ ap Some here in
      (ap (λ u. Give (u ∷ [])) (get_or_from_slice_get before.known i t End got), slice_get_within before.known i t got)

  -- each variable is known
  pub known-variable : (n k : ℕ) (t : Tree) (now : List Tree) → t ≡ Variable n → Some k ≡ Some (place n) → noted l.known k ≡ None → Covers (numbers p l) t → IsPlanning p names at place now l → ⊥
  known-variable n k t now is same none covers so =
      let inside = covers n (ap (occurs n) is ∙ eq-eqb n n refl) in
      let here : k ≡ place n = cc in
      let lost : noted l.known (place n) ≡ None = ap (noted l.known) (sym here) ∙ none in
      false≢true (sym (ap is_some lost) ∙ so.covered n inside)

  -- a compound is made
  module _ (parts : Vec Part Global) (notes : Notes ℕ) (name n k : ℕ) (more : parts.items ≡ l.parts.items ++ Compound name n ∷ []) where
    abbrev with_made : Planning W
    with_made = record { variables = l.variables; parts = parts; made = l.made + 1; known = notes; tasks = l.tasks }

    abbrev compound : Tree
    compound = Apply (text_at names name) (row (drop (length before.terms - n) before.terms))

    pub made-terms : (planned p names with_made).terms ≡ with_step (Gather (text_at names name) n) before.terms
    made-terms = ap (λ s. s.terms) (sketch-more parts (Compound name n) more (l.made + 1) notes)

    made-all : (planned p names with_made).known ≡ before.known ++ compound ∷ []
    made-all = ap (λ s. s.known) (sketch-more parts (Compound name n) more (l.made + 1) notes)

    gathered-ready : IsGathered (text_at names name) n before.terms (at k) → IsReady (length before.known) (length before.terms) (Compound name n)
    gathered-ready due =
        let end = drop (length before.terms - n) before.terms in
        let sizes = row_of_term (text_at names name) (row end) (ap is_term (sym due.0) ∙ due.1) in
        let size = count-row end ∙ length-drop (length before.terms - n) before.terms in
        let low = sizes.0 in
        let high = sizes.1 in
        (omega arith, omega arith)

    pub made-planned : (index : ℕ) (now : List Tree) → index ≡ length l.variables.items + l.made → name < length names → IsGathered (text_at names name) n before.terms (at k)
        → ((j : ℕ) → noted notes j ≡ (if j == k then Some index else noted l.known j)) → now ≡ with_step (Gather (text_at names name) n) before.terms
        → IsPlanning p names at place now l → IsPlanning p names at place (planned p names with_made).terms with_made
    made-planned index now where_ named due note same is = record {
      ready = rw more (ready-push names l.parts.items (Compound name n) (start (map (meaning p) l.variables.items)) is.ready named (gathered-ready due));
      count = let size = ap length made-all ∙ length-append before.known (compound ∷ []) in let old = is.count in omega arith;
      few = is.few;
      within = let size = ap length more ∙ length-append l.parts.items (Compound name n ∷ []) in let before = is.within in omega arith;
      sound = λ j i h. elim (cases_eq j k) [
        | inl here ↦ (
            let found : Some index ≡ Some i = sym (note j ∙ rw (eq-eqb j k here) refl) ∙ h in
            let same : i ≡ index = sym (some-same index i found) in
            ap (λ ts. slice_get ts i) made-all ∙ got-last before.known compound i (same ∙ where_ ∙ is.count) ∙ ap Some (sym due.0 ∙ ap at (sym here)))
        | inr other ↦ (
            let old : noted l.known j ≡ Some i = sym (note j ∙ rw (ne_eqb j k other) refl) ∙ h in
            ap (λ ts. slice_get ts i) made-all ∙ got-before before.known (compound ∷ []) i (at j) (is.sound j i old))
      ];
      covered = λ x inside. elim (cases_eq (place x) k) [
        | inl here ↦ (let found : noted notes (place x) ≡ Some index = note (place x) ∙ rw (eq-eqb (place x) k here) refl in ap is_some found)
        | inr other ↦ (let found : noted notes (place x) ≡ noted l.known (place x) = note (place x) ∙ rw (ne_eqb (place x) k other) refl in ap is_some found ∙ is.covered x inside)
      ];
      there = is.there;
      due = subst (λ ts. AreDue p names at ts l.tasks.items) (same ∙ sym made-terms) is.due;
    }
      where
        some-same : (i j : ℕ) → Some i ≡ Some j → i ≡ j
        some-same i j e = cc

-- the arguments of a compound are there
pub task-there : {W : Type 0} (p : Present W) (names : List (List ℕ)) (vs : List ℕ) (word : W) (n : ℕ) (f : List ℕ) (ts : Tree) → Holds p word → meaning p word ≡ Apply f ts → count ts ≡ n → is_term (meaning p word) ≡ true → Covers vs (meaning p word)
    → IsTask p names vs (Plan word 0 n)
task-there p names vs word n f ts holds is many sort covers =
    let some = (row_of_term f ts (ap is_term (sym is) ∙ sort)).0 in
    (holds, omega arith, ap arity is ∙ many, covers)

-- the variables that words stand for
module _ {W : Type 0} (p : Present W) where
  numbers-pulled : (ws : List W) → numbers_of p ws ≡ map number_of (map (meaning p) ws)
  numbers-pulled [] = refl
  numbers-pulled (w ∷ ws) = ap (λ vs. number_of (meaning p w) ∷ vs) (numbers-pulled ws)

  numbers-again : (vs : List ℕ) → map number_of (map Variable vs) ≡ vs
  numbers-again [] = refl
  numbers-again (v ∷ vs) = ap (λ us. v ∷ us) (numbers-again vs)

  pub numbers-are : (ws : List W) (vs : List ℕ) → map (meaning p) ws ≡ map Variable vs → numbers_of p ws ≡ vs
  numbers-are ws vs are = numbers-pulled ws ∙ ap (map number_of) are ∙ numbers-again vs

  pub word-at : (ws : List W) (i : ℕ) (w : W) → i < length ws → w ≡ get_or ws i w → slice_get (map (meaning p) ws) i ≡ Some (meaning p w)
  word-at ws i w below is = slice_get-map (meaning p) ws i ∙ ap (option_map (meaning p)) (slice_get_read ws (length ws) i w refl below is)

  -- the word at a place stands for a variable
  pub variable-at : (ws : List W) (i : ℕ) (w : W) → map (meaning p) ws ≡ map Variable (numbers_of p ws) → i < length ws → w ≡ get_or ws i w → meaning p w ≡ Variable (number_of (meaning p w))
  variable-at ws i w are below is =
      let here = slice_get_read ws (length ws) i w refl below is in
      let number = slice_get-map (λ v. number_of (meaning p v)) ws i ∙ ap (option_map (λ v. number_of (meaning p v))) here in
      let other = slice_get-map Variable (numbers_of p ws) i ∙ ap (option_map Variable) number in
      let same : Some (meaning p w) ≡ Some (Variable (number_of (meaning p w))) = sym (word-at ws i w below is) ∙ ap (λ ts. slice_get ts i) are ∙ other in
      cc

-- a number that is in a list has a place there
pub number-found : (vs : List ℕ) (n : ℕ) → is_in n vs ≡ true → (j : ℕ) × (j < length vs) × (slice_get (map Variable vs) j ≡ Some (Variable n))
number-found [] n inside = absurd (false≢true inside)
number-found (v ∷ vs) n inside =
    elim (or_cases (v == n) (is_in n vs) inside) [
      | inl here ↦ (0, omega arith, ap (λ k. Some (Variable k)) (eqb-true v n here))
      | inr there ↦ (let rest = number-found vs n there in (suc rest.0, let below = rest.1 in omega arith, rest.2))
    ]

-- the places of variables, one more
module _ {W : Type 0} (p : Present W) (at : ℕ → Tree) (place : ℕ → ℕ) (ws : List W) (notes : Notes ℕ) (i : ℕ) (w : W) (below : i < length ws) (is : w ≡ get_or ws i w) (k : ℕ) (old : Notes ℕ) (here : at k ≡ meaning p w)
    (note : (j : ℕ) → noted notes j ≡ (if j == k then Some i else noted old j)) where
  pub places-sound : ((j e : ℕ) → noted old j ≡ Some e → slice_get (map (meaning p) ws) e ≡ Some (at j)) → (j e : ℕ) → noted notes j ≡ Some e → slice_get (map (meaning p) ws) e ≡ Some (at j)
  places-sound sound j e found =
      elim (cases_eq j k) [
        | inl same ↦ (
            let new : Some i ≡ Some e = sym (note j ∙ rw (eq-eqb j k same) refl) ∙ found in
            let index : e ≡ i = cc in
            ap (slice_get (map (meaning p) ws)) index ∙ word-at p ws i w below is ∙ ap Some (sym here ∙ ap at (sym same)))
        | inr other ↦ (let before : noted old j ≡ Some e = sym (note j ∙ rw (ne_eqb j k other) refl) ∙ found in sound j e before)
      ]

  pub places-known : ((n : ℕ) → meaning p w ≡ Variable n → Some k ≡ Some (place n)) → ((j n : ℕ) → j < i → slice_get (map (meaning p) ws) j ≡ Some (Variable n) → IsSome (noted old (place n)))
      → (j n : ℕ) → j < i + 1 → slice_get (map (meaning p) ws) j ≡ Some (Variable n) → IsSome (noted notes (place n))
  places-known same known j n low got =
      elim (cases_eq (place n) k) [
        | inl new ↦ (let found : noted notes (place n) ≡ Some i = note (place n) ∙ rw (eq-eqb (place n) k new) refl in ap is_some found)
        | inr other ↦ (
            let kept : noted notes (place n) ≡ noted old (place n) = note (place n) ∙ rw (ne_eqb (place n) k other) refl in
            ap is_some kept
            ∙ elim (cases_eq j i) [
              | inl last ↦ (
                  let this : Some (meaning p w) ≡ Some (Variable n) = sym (word-at p ws i w below is) ∙ ap (slice_get (map (meaning p) ws)) (sym last) ∙ got in
                  let is_n : meaning p w ≡ Variable n = cc in
                  let there : Some k ≡ Some (place n) = same n is_n in
                  absurd (other (sym (some-is k (place n) there))))
              | inr before ↦ known j n (omega arith) got
            ])
      ]
    where
      some-is : (a b : ℕ) → Some a ≡ Some b → a ≡ b
      some-is a b e = cc
