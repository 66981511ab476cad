-- The words at the places of variables.
use Rattle.std.proofs.Common.{◌≡◌, ℕ, zero, suc, ◌+◌, ◌-◌, ◌<◌, ◌≤◌, List, [], ◌∷◌, ◌++◌, length, map, take, drop, get_or, Option, Some, None, slice_get, refl, ap, sym, ◌∙◌, subst, arith, append_assoc, append-nil, length-append, length-take-le, get_or-take, true, add-one}
use Rattle.std.specs.List.{All}
use Rattle.std.proofs.Math.Seq.{take-suc}
use Rattle.std.proofs.lemmas.List.{length-map}
use Rattle.std.proofs.lemmas.List.Elements.{All-take, All-append}
use Rattle.std.proofs.lemmas.Option.{slice_get_within}
use Rattle.iso_atoms.specs.Texts.{text_at}
use Rattle.iso_model.specs.Terms.Trees.{Tree, Apply, row, arities_fit}
use Rattle.iso_model.specs.Terms.Substitutions.{Subst, apply}
use Rattle.iso_store_core.specs.declared.patterns.Part.{Part}
use Rattle.iso_store_core.specs.declared.patterns.Part.TheVariants.{Variable as Place, Integer as Number, Atom, Compound}
use Rattle.iso_store_core.specs.Patterns.{at_places, IsPattern, HasPlaces}
use Rattle.iso_store_core.specs.Copying.{cells_of}
use Rattle.iso_store_core.specs.Presents.{Present, Holds, Gathers}
use Rattle.iso_store.specs.Writing.{IsReady, IsPlace, IsVariable, IsFlat, word_there, picked, taken, MakesOne, part_cells}
use Rattle.iso_store.proofs.Gathering.{keeps-none}
use Rattle.iso_store.proofs.InstanceLemmas.{so_far, next-part, gathers-place, gathers-count, part-is-ready, last-makes, last-step, cells-more}

-- the word at a place
pub get-there : {X : Type 0} (xs : List X) (i : ℕ) (d : X) → i < length xs → slice_get xs i ≡ Some (get_or xs i d)
get-there [] i d less = elim less [ ]
get-there (x ∷ xs) zero d less = refl
get-there (x ∷ xs) (suc i) d less = get-there xs i d (omega arith)

-- a variable among places has one
pub place-below : (n : ℕ) (ks : List Part) (i x : ℕ) (k : Part) → All (IsPlace n) ks → i < length ks → k ≡ get_or ks i k → k ≡ Place x → x < n
place-below n ks i x k all less is place = subst (IsPlace n) (sym is ∙ place) (all i k less)

module _ {W : Type 0} (ws : List W) where
  pub picked-append : (xs ys : List Part) → picked ws (xs ++ ys) ≡ picked ws xs ++ picked ws ys
  picked-append [] ys = refl
  picked-append (Place k ∷ xs) ys = ap (λ us. word_there (slice_get ws k) ++ us) (picked-append xs ys) ∙ sym (append_assoc (word_there (slice_get ws k)) (picked ws xs) (picked ws ys))
  picked-append (Number z ∷ xs) ys = picked-append xs ys
  picked-append (Atom a ∷ xs) ys = picked-append xs ys
  picked-append (Compound a n ∷ xs) ys = picked-append xs ys

  -- one place more
  pub picked-more : (ks : List Part) (i x : ℕ) (k : Part) (w : W) → i < length ks → get_or ks i k ≡ k → k ≡ Place x → slice_get ws x ≡ Some w → picked ws (take (suc i) ks) ≡ picked ws (take i ks) ++ w ∷ []
  picked-more ks i x k w less is place there =
      ap (picked ws) (take-suc ks i k less) ∙ picked-append (take i ks) (get_or ks i k ∷ [])
      ∙ ap (λ us. picked ws (take i ks) ++ us) (ap (λ j. picked ws (j ∷ [])) (is ∙ place) ∙ append-nil (word_there (slice_get ws x)) ∙ ap word_there there)

  pub picked-next : (ks : List Part) (i x : ℕ) (k : Part) (w : W) → All (IsPlace (length ws)) ks → i < length ks → k ≡ get_or ks i k → k ≡ Place x → w ≡ get_or ws x w → picked ws (take (i + 1) ks) ≡ picked ws (take i ks) ++ w ∷ []
  picked-next ks i x k w all less is place here =
      let below = place-below (length ws) ks i x k all less is place in
      ap (λ j. picked ws (take j ks)) (add-one i) ∙ picked-more ks i x k w less (sym is) place (get-there ws x w below ∙ ap Some (sym here))

  -- as many as there are places
  pub picked-length : (ks : List Part) → All (IsPlace (length ws)) ks → length (picked ws ks) ≡ length ks
  picked-length [] all = refl
  picked-length (Place k ∷ ks) all =
      let below : k < length ws = all 0 (Place k) (omega arith) in
      let tail : All (IsPlace (length ws)) ks = λ j d less. all (suc j) d (omega arith) in
      let inner = picked-length ks tail in
      by (slice_get ws k) (present k below) inner
    where
      present : (j : ℕ) → j < length ws → length (word_there (slice_get ws j)) ≡ 1
      present j less = of ws j less where
        of : (xs : List W) (i : ℕ) → i < length xs → length (word_there (slice_get xs i)) ≡ 1
        of [] i h = elim h [ ]
        of (x ∷ xs) zero h = refl
        of (x ∷ xs) (suc i) h = of xs i (omega arith)

      by : (o : Option W) → length (word_there o) ≡ 1 → {n : ℕ} → length (picked ws ks) ≡ n → length (word_there o ++ picked ws ks) ≡ suc n
      by o one rest = let long = length-append (word_there o) (picked ws ks) in omega (arith, long, one, rest)
  picked-length (Number z ∷ ks) all = elim (all 0 (Number z) (omega arith)) [ ]
  picked-length (Atom a ∷ ks) all = elim (all 0 (Atom a) (omega arith)) [ ]
  picked-length (Compound a n ∷ ks) all = elim (all 0 (Compound a n) (omega arith)) [ ]

  pub picked-few : (ks : List Part) (i : ℕ) → All (IsPlace (length ws)) ks → i ≤ length ks → length (picked ws (take i ks)) ≡ i
  picked-few ks i all within = picked-length (take i ks) (All-take (IsPlace (length ws)) i ks all) ∙ length-take-le i ks within

  -- what holds of all words holds of these
  pub picked-all : (P : W → Type 0) (ks : List Part) → All P ws → All P (picked ws ks)
  picked-all P [] hold = λ j d less. elim less [ ]
  picked-all P (Place k ∷ ks) hold = All-append P (word_there (slice_get ws k)) (picked ws ks) (there (slice_get ws k) (λ w is. subst P (some-is w is) (hold k w (slice_get_within ws k w is)))) (picked-all P ks hold)
    where
      some-is : (w : W) → slice_get ws k ≡ Some w → get_or ws k w ≡ w
      some-is w is = let both : Some (get_or ws k w) ≡ Some w = sym (get-there ws k w (slice_get_within ws k w is)) ∙ is in cc

      there : (o : Option W) → ((w : W) → o ≡ Some w → P w) → All P (word_there o)
      there None h = λ j d less. elim less [ ]
      there (Some w) h = first where
        first : (j : ℕ) (d : W) → j < length (w ∷ []) → P (get_or (w ∷ []) j d)
        first zero d less = h w refl
        first (suc j) d less = absurd (omega arith)
  picked-all P (Number z ∷ ks) hold = picked-all P ks hold
  picked-all P (Atom a ∷ ks) hold = picked-all P ks hold
  picked-all P (Compound a n ∷ ks) hold = picked-all P ks hold

-- a compound that takes all terms before it has so many arguments
pub whole-step : (names : List (List ℕ)) (s : Subst) (a n : ℕ) (before : List Tree) (t : Tree) → MakesOne names s (Compound a n) before t → taken (length before) n ≡ length before
whole-step names s a n before t is =
    let front = take (length before - n) before in
    let last = Apply (text_at names a) (row (drop (length before - n) before)) in
    let long = ap length is in
    let one = length-append front (last ∷ []) in
    let few = length-take-le (length before - n) before (omega arith) in
    omega (arith, long, one, few)

-- and these are its arguments
pub whole-made : (names : List (List ℕ)) (s : Subst) (a n : ℕ) (before : List Tree) (t : Tree) → MakesOne names s (Compound a n) before t → Apply (text_at names a) (row before) ≡ t
whole-made names s a n before t is =
    let zero : length before - n ≡ 0 = omega (arith, whole-step names s a n before t is) in
    let both : Apply (text_at names a) (row before) ∷ [] ≡ t ∷ [] = subst (λ k. take k before ++ Apply (text_at names a) (row (drop k before)) ∷ [] ≡ t ∷ []) zero is in
    cc

-- so has one whose arguments are picked
pub picked-whole : {W : Type 0} (names : List (List ℕ)) (s : Subst) (a n : ℕ) (term : W → Tree) (ws : List W) (ks : List Part) (t : Tree) → All (IsPlace (length ws)) ks → MakesOne names s (Compound a n) (map term (picked ws ks)) t
    → taken (length ks) n ≡ length ks
picked-whole names s a n term ws ks t places is = subst (λ k. taken k n ≡ k) (length-map (picked ws ks) term ∙ picked-length ws ks places) (whole-step names s a n (map term (picked ws ks)) t is)

got : {X : Type 0} (xs : List X) (i : ℕ) → i < length xs → (x : X) × (slice_get xs i ≡ Some x)
got [] i less = elim less [ ]
got (x ∷ xs) zero less = (x, refl)
got (x ∷ xs) (suc i) less = got xs i (omega arith)

get-is : {X : Type 0} (xs : List X) (i : ℕ) (x : X) → slice_get xs i ≡ Some x → get_or xs i x ≡ x
get-is [] i x is = refl
get-is (y ∷ ys) zero x is = cc
get-is (y ∷ ys) (suc i) x is = get-is ys i x is

-- a part by its place, whatever stands for those that aren't there
get-any : {X : Type 0} (xs : List X) (i : ℕ) (d e : X) → i < length xs → get_or xs i d ≡ get_or xs i e
get-any [] i d e less = elim less [ ]
get-any (x ∷ xs) zero d e less = refl
get-any (x ∷ xs) (suc i) d e less = get-any xs i d e (omega arith)

-- ---- the words for the parts before the last one, where these are all variables
module _ (names : List (List ℕ)) (ks : List Part) (t : Tree) (whole : IsPattern names ks t) (last : ℕ) (within : last ≤ length ks) where
  pub are-places : (n : ℕ) → arities_fit t ≡ true → HasPlaces n t → All IsVariable (take last ks) → All (IsPlace n) (take last ks)
  are-places n fits places all i d less =
      let below : i < last = omega (arith, less, length-take-le last ks within) in
      let inside : i < length ks = omega (arith, below, within) in
      let k = get_or (take last ks) i d in
      let is : k ≡ get_or ks i k = get_or-take last ks i d below ∙ get-any ks i d k inside in
      by k (length (so_far names ks i)) (all i d less) (part-is-ready names ks t whole i k n inside is fits places)
    where
      by : (k : Part) (m : ℕ) → IsVariable k → IsReady n m k → IsPlace n k
      by (Place x) m variable ready = ready
      by (Number z) m variable ready = elim variable [ ]
      by (Atom a) m variable ready = elim variable [ ]
      by (Compound a j) m variable ready = elim variable [ ]

  module _ {W : Type 0} (p : Present W) (variables : List W) (hold : All (Holds p) variables) (places : All (IsPlace (length variables)) (take last ks)) where
    pub picked-gathers : (i : ℕ) → i ≤ last → Gathers p p (picked variables (take i ks)) (map (apply (at_places (map p.term variables))) (so_far names ks i))
    picked-gathers zero less = record { words = keeps-none p; substitution = refl; hold = λ k d below. elim below [ ]; terms = refl }
    picked-gathers (suc i) less =
        let below : i < last = omega arith in
        let inside : i < length ks = omega (arith, below, within) in
        let k = get_or ks i (Place 0) in
        let is : k ≡ get_or ks i k = get-any ks i (Place 0) k inside in
        let place : IsPlace (length variables) k = subst (IsPlace (length variables)) (get_or-take last ks i (Place 0) below) (places i (Place 0) (omega (arith, below, length-take-le last ks within))) in
        by k is place (picked-gathers i (omega (arith, less)))
      where
        by : (k : Part) → k ≡ get_or ks i k → IsPlace (length variables) k → Gathers p p (picked variables (take i ks)) (map (apply (at_places (map p.term variables))) (so_far names ks i)) → Gathers p p (picked variables (take (suc i) ks)) (map (apply (at_places (map p.term variables))) (so_far names ks (suc i)))
        by (Place x) is below before =
            let inside : i < length ks = omega (arith, less, within) in
            let found = got variables x below in
            let more = picked-more variables ks i x (Place x) found.0 inside (sym is) refl found.1 ∙ ap (λ w. picked variables (take i ks) ++ w ∷ []) (sym (get-is variables x found.0 found.1)) in
            subst (λ ts. Gathers p p (picked variables (take (suc i) ks)) (map (apply (at_places (map p.term variables))) ts)) (sym (next-part names ks i (Place x) inside is))
            (gathers-place names variables hold (so_far names ks i) (Place x) x found.0 refl below more before)
        by (Number z) is place before = elim place [ ]
        by (Atom a) is place before = elim place [ ]
        by (Compound a m) is place before = elim place [ ]

-- a pattern has parts
pub some-part : (names : List (List ℕ)) (ks : List Part) (t : Tree) → IsPattern names ks t → 0 < length ks
some-part names [] t whole = absurd (let long = ap length whole.term in omega arith)
some-part names (k ∷ ks) t whole = omega arith

-- ---- a compound of variables alone
module _ (names : List (List ℕ)) (ks : List Part) (t : Tree) (whole : IsPattern names ks t) (name : ℕ) (flat : IsFlat name ks) where
  abbrev pub leaves : List Part
  leaves = take (length ks - 1) ks

  last-below : length ks - 1 < length ks
  last-below = omega (arith, some-part names ks t whole)

  last-is : Compound name flat.0.0 ≡ get_or ks (length ks - 1) (Compound name flat.0.0)
  last-is = sym (get-is ks (length ks - 1) (Compound name flat.0.0) flat.0.1)

  pub flat-places : (n : ℕ) → arities_fit t ≡ true → HasPlaces n t → All (IsPlace n) leaves
  flat-places n fits places = are-places names ks t whole (length ks - 1) (omega arith) n fits places flat.1

  module _ {W : Type 0} (p : Present W) (variables : List W) (hold : All (Holds p) variables) (fits : arities_fit t ≡ true) (in-places : HasPlaces (length variables) t) where
    places : All (IsPlace (length variables)) leaves
    places = flat-places (length variables) fits in-places

    gathered : Gathers p p (picked variables leaves) (map (apply (at_places (map p.term variables))) (so_far names ks (length ks - 1)))
    gathered = picked-gathers names ks t whole (length ks - 1) (omega arith) p variables hold places (length ks - 1) (omega arith)

    count-is : length leaves ≡ length (so_far names ks (length ks - 1))
    count-is = sym (picked-length variables leaves places) ∙ gathers-count (at_places (map p.term variables)) (so_far names ks (length ks - 1)) gathered

    one : MakesOne names (at_places (map p.term variables)) (Compound name flat.0.0) (map p.term (picked variables leaves)) (apply (at_places (map p.term variables)) t)
    one = last-makes names variables hold (so_far names ks (length ks - 1)) (Compound name flat.0.0) t (last-step names ks t whole (length ks - 1) (Compound name flat.0.0) (omega (arith, last-below)) last-is) gathered

    ready : IsReady (length variables) (length leaves) (Compound name flat.0.0)
    ready = subst (λ m. IsReady (length variables) m (Compound name flat.0.0)) (sym count-is) (part-is-ready names ks t whole (length ks - 1) (Compound name flat.0.0) (length variables) last-below last-is fits in-places)

    all-taken : taken (length leaves) flat.0.0 ≡ length leaves
    all-taken = picked-whole names (at_places (map p.term variables)) name flat.0.0 p.term variables leaves (apply (at_places (map p.term variables)) t) places one

    pub flat-some : 0 < length leaves
    flat-some = omega (arith, ready.0, all-taken)

    pub flat-few : length leaves < 256
    flat-few = omega (arith, ready.1, all-taken)

    pub flat-made : Apply (text_at names name) (row (map p.term (picked variables leaves))) ≡ apply (at_places (map p.term variables)) t
    flat-made = whole-made names (at_places (map p.term variables)) name flat.0.0 (map p.term (picked variables leaves)) (apply (at_places (map p.term variables)) t) one

    pub flat-cells : (atomic : ℕ) (width : ℕ → ℕ) → width (length leaves) ≤ cells_of atomic width t
    flat-cells atomic width =
        let within = cells-more names ks t whole atomic width (length ks - 1) (Compound name flat.0.0) last-below last-is in
        let same = ap (λ m. part_cells atomic width m (Compound name flat.0.0)) count-is in
        let all = ap width all-taken in
        omega (arith, within, same, all)
