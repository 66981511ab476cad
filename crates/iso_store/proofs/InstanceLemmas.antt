-- Terms that are made of parts, with words for the variables.
use Rattle.std.proofs.Common.{◌≡◌, ℕ, zero, suc, ◌+◌, ◌-◌, ◌<◌, ◌≤◌, ◌&&◌, ◌||◌, nat_le, List, [], ◌∷◌, ◌++◌, length, map, take, drop, get_or, Bool, true, false, refl, ap, ap₂, sym, ◌∙◌, subst, arith, inl, inr, length-append, Result, Ok, Err, IfOk}
use Rattle.std.specs.List.{All}
use Rattle.std.proofs.lemmas.Bool.{false_from_ne_true, and_parts, or_left, or_right, or_cases, leb-true, eq-eqb, false≢true}
use Rattle.std.proofs.lemmas.List.{map-append, length-map, take-map, drop-map, take-append-drop, length-drop, length-take, take_all}
use Rattle.std.proofs.lemmas.List.Elements.{All-take}
use Rattle.std.proofs.Math.Seq.{take-suc}
use Rattle.iso_atoms.specs.Texts.{text_at}
use Rattle.iso_model.specs.Terms.Trees.{Tree, Variable, Integer, Name, Apply, row, count, arities_fit}
use Rattle.iso_model.specs.Terms.Variables.{occurs}
use Rattle.iso_model.specs.Terms.Substitutions.{Subst, apply}
use Rattle.iso_model.specs.Terms.Building.{Step, Give, Gather, with_step}
use Rattle.iso_model.proofs.OnTerms.CostOfRows.{apply-row}
use Rattle.iso_store_core.specs.declared.patterns.Part.{Part}
use Rattle.iso_store_core.specs.declared.patterns.Part.TheVariants.{Variable as Place, Integer as Number, Atom, Compound}
use Rattle.iso_store_core.specs.Presents.{Present, Holds, Makes, Gathers}
use Rattle.iso_store_core.specs.Copying.{cells_of}
use Rattle.iso_store_core.specs.Patterns.{IsPattern, HasPlaces, part_step, after_parts, at_places}
use Rattle.iso_store.specs.Writing.{IsReady, MakesOne, part_cells, taken}
use Rattle.iso_store.proofs.Gathering.{keeps-none, keeps-then, terms-kept, gathers-more, gathers-length}
use Rattle.iso_store.proofs.PatternLemmas.{after-append}

-- the term at a place
pub at-place : {W : Type 0} (f : W → Tree) (ws : List W) (x : ℕ) (d : W) → x < length ws → at_places (map f ws) x ≡ f (get_or ws x d)
at-place f [] x d below = elim below [ ]
at-place f (w ∷ ws) zero d below = refl
at-place f (w ∷ ws) (suc x) d below = at-place f ws x d (omega arith)

-- ---- one part
module _ {W : Type 0} {p q : Present W} (ws us : List W) (w : W) (hold : All (λ v. Holds p v) ws) where
  -- a word comes for a term without arguments
  pub made-leaf : (t : Tree) (j : Step) → Makes p q w t → us ≡ ws ++ w ∷ [] → j ≡ Give (t ∷ []) → Gathers p q us (with_step j (map p.term ws))
  made-leaf t j made more is =
      let before : Gathers p p ws (map p.term ws) = record { words = keeps-none p; substitution = refl; hold = hold; terms = refl } in
      rw (more, is) (gathers-more before made)

  -- a compound takes the place of the last words
  pub made-compound : (args : List W) (f : List ℕ) (n : ℕ) → args ≡ drop (length ws - n) ws → Makes p q w (Apply f (row (map p.term args))) → us ≡ take (length ws - n) ws ++ w ∷ [] → Gathers p q us (with_step (Gather f n) (map p.term ws))
  made-compound args f n last made more =
      let m = length ws - n in
      let before : Gathers p p (take m ws) (map p.term (take m ws)) = record { words = keeps-none p; substitution = refl; hold = All-take (λ v. Holds p v) m ws hold; terms = refl } in
      let long : length (map p.term ws) - n ≡ m = ap (λ k. k - n) (length-map ws p.term) in
      let front : map p.term (take m ws) ≡ take (length (map p.term ws) - n) (map p.term ws) = sym (take-map p.term m ws) ∙ ap (λ k. take k (map p.term ws)) (sym long) in
      let end : map p.term args ≡ drop (length (map p.term ws) - n) (map p.term ws) = ap (map p.term) last ∙ sym (drop-map p.term m ws) ∙ ap (λ k. drop k (map p.term ws)) (sym long) in
      let terms = ap₂ (λ ts vs. ts ++ Apply f (row vs) ∷ []) front end in
      rw more (subst (Gathers p q (take m ws ++ w ∷ [])) terms (gathers-more before made))

-- ---- what one part makes of the terms before it
pub arities-append : (ts us : List Tree) → arities_fit (row (ts ++ us)) ≡ (arities_fit (row ts) && arities_fit (row us))
arities-append [] us = refl
arities-append (t ∷ ts) us = ap (λ b. arities_fit t && b) (arities-append ts us) ∙ and-assoc (arities_fit t) (arities_fit (row ts)) (arities_fit (row us))
  where
    and-assoc : (a b c : Bool) → (a && (b && c)) ≡ ((a && b) && c)
    and-assoc true b c = refl
    and-assoc false b c = refl

pub occurs-append : (x : ℕ) (ts us : List Tree) → occurs x (row (ts ++ us)) ≡ (occurs x (row ts) || occurs x (row us))
occurs-append x [] us = refl
occurs-append x (t ∷ ts) us = ap (λ b. occurs x t || b) (occurs-append x ts us) ∙ or-assoc (occurs x t) (occurs x (row ts)) (occurs x (row us))
  where
    or-assoc : (a b c : Bool) → (a || (b || c)) ≡ ((a || b) || c)
    or-assoc true b c = refl
    or-assoc false b c = refl

pub cells-append : (atomic : ℕ) (width : ℕ → ℕ) (ts us : List Tree) → cells_of atomic width (row (ts ++ us)) ≡ cells_of atomic width (row ts) + cells_of atomic width (row us)
cells-append atomic width [] us = omega arith
cells-append atomic width (t ∷ ts) us = omega (arith, cells-append atomic width ts us)

pub count-row : (ts : List Tree) → count (row ts) ≡ length ts
count-row [] = refl
count-row (t ∷ ts) = omega (arith, count-row ts)

-- a compound of the last terms
module _ (f : List ℕ) (n : ℕ) (ts : List Tree) where
  abbrev front : List Tree
  front = take (length ts - n) ts

  abbrev end : List Tree
  end = drop (length ts - n) ts

  whole : front ++ end ≡ ts
  whole = take-append-drop (length ts - n) ts

  gathered-fits : arities_fit (row (with_step (Gather f n) ts)) ≡ true → (arities_fit (row ts) ≡ true) × (0 < taken (length ts) n) × (taken (length ts) n < 256)
  gathered-fits h =
      let parts = and_parts (arities_fit (row front)) (arities_fit (row (Apply f (row end) ∷ []))) (sym (arities-append front (Apply f (row end) ∷ [])) ∙ h) in
      let inner = and_parts (arities_fit (Apply f (row end))) true parts.1 in
      let some = and_parts (nat_le 1 (count (row end))) (nat_le (count (row end)) 255 && arities_fit (row end)) inner.0 in
      let most = and_parts (nat_le (count (row end)) 255) (arities_fit (row end)) some.1 in
      let low = leb-true 1 (count (row end)) some.0 in
      let high = leb-true (count (row end)) 255 most.0 in
      let size = count-row end ∙ length-drop (length ts - n) ts in
      let all = sym (ap (λ us. arities_fit (row us)) whole) ∙ arities-append front end ∙ ap₂ ◌&&◌ parts.0 most.1 in
      (all, omega arith, omega arith)

  gathered-occurs : (x : ℕ) → occurs x (row ts) ≡ true → occurs x (row (with_step (Gather f n) ts)) ≡ true
  gathered-occurs x o =
      let split = sym (occurs-append x front end) ∙ ap (λ us. occurs x (row us)) whole ∙ o in
      occurs-append x front (Apply f (row end) ∷ [])
      ∙ elim (or_cases (occurs x (row front)) (occurs x (row end)) split) [
        | inl here ↦ or_left (occurs x (row front)) (occurs x (row (Apply f (row end) ∷ []))) here
        | inr there ↦ or_right (occurs x (row front)) (occurs x (row (Apply f (row end) ∷ []))) (or_left (occurs x (row end)) false there)
      ]

  pub gathered-cells : (atomic : ℕ) (width : ℕ → ℕ) → cells_of atomic width (row (with_step (Gather f n) ts)) ≡ cells_of atomic width (row ts) + width (taken (length ts) n)
  gathered-cells atomic width =
      let new = cells-append atomic width front (Apply f (row end) ∷ []) in
      let old = sym (cells-append atomic width front end) ∙ ap (λ us. cells_of atomic width (row us)) whole in
      let many = ap width (count-row end ∙ length-drop (length ts - n) ts) in
      omega arith

  pub gathered-applied : (s : Subst) → map (apply s) (with_step (Gather f n) ts) ≡ with_step (Gather f n) (map (apply s) ts)
  gathered-applied s =
      let long : length (map (apply s) ts) - n ≡ length ts - n = ap (λ k. k - n) (length-map ts (apply s)) in
      let first : map (apply s) front ≡ take (length (map (apply s) ts) - n) (map (apply s) ts) = sym (take-map (apply s) (length ts - n) ts) ∙ ap (λ k. take k (map (apply s) ts)) (sym long) in
      let last : map (apply s) end ≡ drop (length (map (apply s) ts) - n) (map (apply s) ts) = sym (drop-map (apply s) (length ts - n) ts) ∙ ap (λ k. drop k (map (apply s) ts)) (sym long) in
      map-append (apply s) front (Apply f (row end) ∷ []) ∙ ap₂ (λ us v. us ++ Apply f v ∷ []) first (apply-row s end ∙ ap row last)

leaf-fits : (ts : List Tree) (u : Tree) → arities_fit (row (ts ++ u ∷ [])) ≡ true → arities_fit (row ts) ≡ true
leaf-fits ts u h = (and_parts (arities_fit (row ts)) (arities_fit (row (u ∷ []))) (sym (arities-append ts (u ∷ [])) ∙ h)).0

leaf-occurs : (ts : List Tree) (u : Tree) (x : ℕ) → occurs x (row ts) ≡ true → occurs x (row (ts ++ u ∷ [])) ≡ true
leaf-occurs ts u x o = occurs-append x ts (u ∷ []) ∙ or_left (occurs x (row ts)) (occurs x (row (u ∷ []))) o

pub leaf-cells : (atomic : ℕ) (width : ℕ → ℕ) (ts : List Tree) (u : Tree) → cells_of atomic width (row (ts ++ u ∷ [])) ≡ cells_of atomic width (row ts) + cells_of atomic width u
leaf-cells atomic width ts u = let all = cells-append atomic width ts (u ∷ []) in omega arith

module _ (names : List (List ℕ)) where
  part-fits : (k : Part) (ts : List Tree) → arities_fit (row (with_step (part_step names Variable k) ts)) ≡ true → arities_fit (row ts) ≡ true
  part-fits (Place j) ts h = leaf-fits ts (Variable j) h
  part-fits (Number z) ts h = leaf-fits ts (Integer z) h
  part-fits (Atom a) ts h = leaf-fits ts (Name (text_at names a)) h
  part-fits (Compound a n) ts h = (gathered-fits (text_at names a) n ts h).0

  part-occurs : (k : Part) (ts : List Tree) (x : ℕ) → occurs x (row ts) ≡ true → occurs x (row (with_step (part_step names Variable k) ts)) ≡ true
  part-occurs (Place j) ts x o = leaf-occurs ts (Variable j) x o
  part-occurs (Number z) ts x o = leaf-occurs ts (Integer z) x o
  part-occurs (Atom a) ts x o = leaf-occurs ts (Name (text_at names a)) x o
  part-occurs (Compound a n) ts x o = gathered-occurs (text_at names a) n ts x o

  pub part-grows : (atomic : ℕ) (width : ℕ → ℕ) (k : Part) (ts : List Tree) → cells_of atomic width (row (with_step (part_step names Variable k) ts)) ≡ cells_of atomic width (row ts) + part_cells atomic width (length ts) k
  part-grows atomic width (Place j) ts = leaf-cells atomic width ts (Variable j)
  part-grows atomic width (Number z) ts = leaf-cells atomic width ts (Integer z)
  part-grows atomic width (Atom a) ts = leaf-cells atomic width ts (Name (text_at names a))
  part-grows atomic width (Compound a n) ts = gathered-cells (text_at names a) n ts atomic width

  pub part-applied : (s : Subst) (k : Part) (ts : List Tree) → map (apply s) (with_step (part_step names Variable k) ts) ≡ with_step (part_step names s k) (map (apply s) ts)
  part-applied s (Place j) ts = map-append (apply s) ts (Variable j ∷ [])
  part-applied s (Number z) ts = map-append (apply s) ts (Integer z ∷ [])
  part-applied s (Atom a) ts = map-append (apply s) ts (Name (text_at names a) ∷ [])
  part-applied s (Compound a n) ts = gathered-applied (text_at names a) n ts s

  part-ready : (k : Part) (ts : List Tree) (count : ℕ) → arities_fit (row (with_step (part_step names Variable k) ts)) ≡ true → HasPlaces count (row (with_step (part_step names Variable k) ts)) → IsReady count (length ts) k
  part-ready (Place j) ts count h places =
      places j (occurs-append j ts (Variable j ∷ []) ∙ or_right (occurs j (row ts)) (occurs j (row (Variable j ∷ []))) (or_left (occurs j (Variable j)) false (eq-eqb j j refl)))
  part-ready (Number z) ts count h places = tt
  part-ready (Atom a) ts count h places = tt
  part-ready (Compound a n) ts count h places = let parts = gathered-fits (text_at names a) n ts h in (parts.1, parts.2)

  -- ---- and what several make of them
  pub after-fits : (ks : List Part) (ts : List Tree) → arities_fit (row (after_parts names ks ts)) ≡ true → arities_fit (row ts) ≡ true
  after-fits [] ts h = h
  after-fits (k ∷ ks) ts h = part-fits k ts (after-fits ks (with_step (part_step names Variable k) ts) h)

  after-occurs : (ks : List Part) (ts : List Tree) (x : ℕ) → occurs x (row ts) ≡ true → occurs x (row (after_parts names ks ts)) ≡ true
  after-occurs [] ts x o = o
  after-occurs (k ∷ ks) ts x o = after-occurs ks (with_step (part_step names Variable k) ts) x (part-occurs k ts x o)

  after-cells : (atomic : ℕ) (width : ℕ → ℕ) (ks : List Part) (ts : List Tree) → cells_of atomic width (row ts) ≤ cells_of atomic width (row (after_parts names ks ts))
  after-cells atomic width [] ts = omega arith
  after-cells atomic width (k ∷ ks) ts =
      let inner = after-cells atomic width ks (with_step (part_step names Variable k) ts) in
      let one = part-grows atomic width k ts in
      omega arith

  -- ---- the parts of a term, as far as the first ones
  module _ (ks : List Part) where
    abbrev pub so_far : ℕ → List Tree
    so_far i = after_parts names (take i ks) []

    pub next-part : (i : ℕ) (k : Part) → i < length ks → k ≡ get_or ks i k → so_far (suc i) ≡ with_step (part_step names Variable k) (so_far i)
    next-part i k below is =
        let more : take (suc i) ks ≡ take i ks ++ k ∷ [] = take-suc ks i k below ∙ ap (λ j. take i ks ++ j ∷ []) (sym is) in
        ap (λ js. after_parts names js []) more ∙ after-append names (take i ks) (k ∷ []) []

    module _ (t : Tree) (whole : IsPattern names ks t) where
      pub others : (i : ℕ) → after_parts names (drop i ks) (so_far i) ≡ t ∷ []
      others i = sym (after-append names (take i ks) (drop i ks) []) ∙ ap (λ js. after_parts names js []) (take-append-drop i ks) ∙ whole.term

      pub cells-so-far : (atomic : ℕ) (width : ℕ → ℕ) (i : ℕ) → cells_of atomic width (row (so_far i)) ≤ cells_of atomic width t
      cells-so-far atomic width i =
          let within = after-cells atomic width (drop i ks) (so_far i) in
          let all = ap (λ ts. cells_of atomic width (row ts)) (others i) in
          omega arith

      pub cells-more : (atomic : ℕ) (width : ℕ → ℕ) (i : ℕ) (k : Part) → i < length ks → k ≡ get_or ks i k → cells_of atomic width (row (so_far i)) + part_cells atomic width (length (so_far i)) k ≤ cells_of atomic width t
      cells-more atomic width i k below is =
          let one = part-grows atomic width k (so_far i) in
          let next = ap (λ ts. cells_of atomic width (row ts)) (next-part i k below is) in
          let within = cells-so-far atomic width (suc i) in
          omega arith

      pub all-parts : (i : ℕ) → length ks ≤ i → so_far i ≡ t ∷ []
      all-parts i past = ap (λ js. after_parts names js []) (take_all i ks past) ∙ whole.term

      pub fits-so-far : (i : ℕ) → arities_fit t ≡ true → arities_fit (row (so_far i)) ≡ true
      fits-so-far i fits = after-fits (drop i ks) (so_far i) (ap (λ ts. arities_fit (row ts)) (others i) ∙ ap (λ b. b && true) fits)

      pub places-so-far : (i count : ℕ) → HasPlaces count t → HasPlaces count (row (so_far i))
      places-so-far i count places x o =
          elim (or_cases (occurs x t) false (sym (ap (λ ts. occurs x (row ts)) (others i)) ∙ after-occurs (drop i ks) (so_far i) x o)) [
            | inl here ↦ places x here
            | inr never ↦ absurd (false≢true never)
          ]

      pub not-so-far : (i k : ℕ) → occurs k t ≡ false → occurs k (row (so_far i)) ≡ false
      not-so-far i k none =
          false_from_ne_true (occurs k (row (so_far i))) (λ o.
          elim (or_cases (occurs k t) false (sym (ap (λ ts. occurs k (row ts)) (others i)) ∙ after-occurs (drop i ks) (so_far i) k o)) [
            | inl here ↦ false≢true (sym none ∙ here)
            | inr never ↦ false≢true never
          ])

      -- the last part makes the term
      pub last-step : (i : ℕ) (k : Part) → suc i ≡ length ks → k ≡ get_or ks i k → with_step (part_step names Variable k) (so_far i) ≡ t ∷ []
      last-step i k last is = sym (next-part i k (omega arith) is) ∙ all-parts (suc i) (omega arith)

      pub part-is-ready : (i : ℕ) (k : Part) (count : ℕ) → i < length ks → k ≡ get_or ks i k → arities_fit t ≡ true → HasPlaces count t → IsReady count (length (so_far i)) k
      part-is-ready i k count below is fits places =
          let next = next-part i k below is in
          part-ready k (so_far i) count (ap (λ ts. arities_fit (row ts)) (sym next) ∙ fits-so-far (suc i) fits)
          (subst (λ ts. HasPlaces count (row ts)) next (places-so-far (suc i) count places))

pub some-parts : (names : List (List ℕ)) (ks : List Part) (t : Tree) → IsPattern names ks t → 0 < length ks
some-parts names [] t whole = let none : [] ≡ t ∷ [] = whole.term in absurd (omega (arith, ap length none))
some-parts names (k ∷ ks) t whole = omega arith

-- ---- the parts before the last one
taken-or : {X : Type 0} (xs : List X) (n i : ℕ) (d : X) → i < n → get_or (take n xs) i d ≡ get_or xs i d
taken-or xs zero i d below = absurd (omega arith)
taken-or [] (suc n) i d below = refl
taken-or (x ∷ xs) (suc n) zero d below = refl
taken-or (x ∷ xs) (suc n) (suc i) d below = taken-or xs n i d (omega arith)

pub before-last : (ks : List Part) (i : ℕ) (k : Part) → i < length (take (length ks - 1) ks) → k ≡ get_or (take (length ks - 1) ks) i k → (i < length ks) × (k ≡ get_or ks i k)
before-last ks i k below is =
    let long = length-take (length ks - 1) ks in
    let within : i < length ks - 1 = omega (arith, below, long) in
    (omega (arith, within), is ∙ taken-or ks (length ks - 1) i k within)

pub at-last : (names : List (List ℕ)) (ks : List Part) (t : Tree) → IsPattern names ks t → (i : ℕ) (k : Part) → length (take (length ks - 1) ks) ≤ i → i ≤ length (take (length ks - 1) ks) → k ≡ get_or ks (length ks - 1) k → (suc i ≡ length ks) × (k ≡ get_or ks i k)
at-last names ks t whole i k past within is =
    let long = length-take (length ks - 1) ks in
    let some = some-parts names ks t whole in
    let place : length ks - 1 ≡ i = omega (arith, past, within, long, some) in
    (omega (arith, place, some), is ∙ ap (λ j. get_or ks j k) place)

-- ---- words for the terms so far
module _ {W : Type 0} {p q r : Present W} (names : List (List ℕ)) (variables : List W) (hold : All (λ v. Holds p v) variables) {ws us : List W} (ts : List Tree) where
  pub gathers-part : (k : Part) → Gathers p q ws (map (apply (at_places (map p.term variables))) ts) → Gathers q r us (with_step (part_step names (at_places (map q.term variables)) k) (map q.term ws))
      → Gathers p r us (map (apply (at_places (map p.term variables))) (with_step (part_step names Variable k) ts))
  gathers-part k so part =
      let same = terms-kept so.words variables hold in
      record {
        words = keeps-then so.words part.words;
        substitution = part.substitution ∙ so.substitution;
        hold = part.hold;
        terms =
            part.terms ∙ ap₂ (λ vs xs. with_step (part_step names (at_places vs) k) xs) same so.terms
            ∙ sym (part-applied names (at_places (map p.term variables)) k ts);
      }

module _ {W : Type 0} {p q : Present W} (names : List (List ℕ)) (variables : List W) (hold : All (λ v. Holds p v) variables) {ws : List W} (ts : List Tree) where
  -- a variable has its word already
  pub gathers-place : {us : List W} (k : Part) (x : ℕ) (d : W) → k ≡ Place x → x < length variables → us ≡ ws ++ get_or variables x d ∷ [] → Gathers p q ws (map (apply (at_places (map p.term variables))) ts)
      → Gathers p q us (map (apply (at_places (map p.term variables))) (with_step (part_step names Variable k) ts))
  gathers-place k x d is below more so =
      let w = get_or variables x d in
      let stands = so.words.stand w (hold x d below) in
      let itself : Makes q q w (q.term w) = record { words = keeps-none q; substitution = refl; holds = stands; term = refl } in
      let term : q.term w ≡ at_places (map p.term variables) x = so.words.terms w (hold x d below) ∙ sym (at-place p.term variables x d below) in
      let terms = ap (λ u. map (apply (at_places (map p.term variables))) ts ++ u ∷ []) term ∙ sym (map-append (apply (at_places (map p.term variables))) ts (Variable x ∷ [])) in
      rw (more, is) (subst (Gathers p q (ws ++ w ∷ [])) terms (gathers-more so itself))

  -- what the last part makes
  pub last-makes : (k : Part) (t : Tree) → with_step (part_step names Variable k) ts ≡ t ∷ [] → Gathers p q ws (map (apply (at_places (map p.term variables))) ts)
      → MakesOne names (at_places (map q.term variables)) k (map q.term ws) (apply (at_places (map p.term variables)) t)
  last-makes k t is so =
      ap₂ (λ vs xs. with_step (part_step names (at_places vs) k) xs) (terms-kept so.words variables hold) so.terms
      ∙ sym (part-applied names (at_places (map p.term variables)) k ts) ∙ ap (map (apply (at_places (map p.term variables)))) is

-- a word made behind those that were gathered
pub made-behind : {W E : Type 0} {p q : Present W} {ws : List W} {ts : List Tree} (r : Present W) (t : Tree) (result : Result W E) → Gathers p q ws ts → IfOk result (λ w. Makes q r w t) → IfOk result (λ w. Makes p r w t)
made-behind r t (Ok w) so made = record { words = keeps-then so.words made.words; substitution = made.substitution ∙ so.substitution; holds = made.holds; term = made.term }
made-behind r t (Err e) so made = made

pub gathers-count : {W : Type 0} {p q : Present W} {ws : List W} (s : Subst) (ts : List Tree) → Gathers p q ws (map (apply s) ts) → length ws ≡ length ts
gathers-count s ts so = gathers-length so ∙ length-map ts (apply s)

-- the one word for a term
pub gathers-one : {W : Type 0} {p q : Present W} (ws : List W) (w : W) (t : Tree) → Gathers p q (ws ++ w ∷ []) (t ∷ []) → Makes p q w t
gathers-one {W} {p} {q} [] w t so = record {
  words = so.words;
  substitution = so.substitution;
  holds = so.hold 0 w (omega arith);
  term = let is : q.term w ∷ [] ≡ t ∷ [] = so.terms in cc;
}
gathers-one (v ∷ ws) w t so =
    let one = gathers-length so in
    let more = length-append ws (w ∷ []) in
    absurd (omega arith)
