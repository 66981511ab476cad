-- What a part of a head shows of its term.
use Rattle.std.proofs.Common.{◌≡◌, ℕ, ℤ, suc, ◌-◌, ◌<◌, ◌≤◌, ◌&&◌, nat_le, List, [], ◌∷◌, ◌++◌, length, take, drop, get_or, Bool, true, false, refl, ap, sym, ◌∙◌, subst, arith, append-nil}
use Rattle.std.proofs.lemmas.Bool.{and_parts, and_from}
use Rattle.std.proofs.lemmas.List.{length-drop, take-append-drop}
use Rattle.iso_atoms.specs.Texts.{text_at}
use Rattle.iso_model.specs.Terms.Trees.{Tree, Variable, Integer, Name, Apply, row, count, arities_fit}
use Rattle.iso_model.specs.Terms.Sorts.{is_term, is_row}
use Rattle.iso_model.specs.Terms.Building.{Gather, with_step}
use Rattle.iso_store_core.specs.declared.patterns.Part.{Part}
use Rattle.iso_store_core.specs.declared.patterns.Part.TheVariants.{Variable as Place, Integer as Number, Atom, Compound}
use Rattle.iso_store_core.specs.declared.shapes.Shape.TheVariants as shape
use Rattle.iso_store_core.specs.Exact.{are_exact}
use Rattle.iso_store_core.specs.Patterns.{IsNamed, IsPattern, HasPlaces, part_step, after_parts}
use Rattle.iso_store.specs.Writing.{IsReady}
use Rattle.iso_store.specs.Reading.{first_terms, Shows}
use Rattle.iso_store.proofs.InstanceLemmas.{arities-append, after-fits, fits-so-far, next-part, part-is-ready, count-row}
use Rattle.iso_store.proofs.ReadingLemmas.{listed-row}
use Rattle.iso_store.proofs.StartLemmas.{exact-at}

rows-append : (ts us : List Tree) → is_row (row (ts ++ us)) ≡ (is_row (row ts) && is_row (row us))
rows-append [] us = refl
rows-append (t ∷ ts) us = ap (λ b. is_term t && b) (rows-append ts us) ∙ and-assoc (is_term t) (is_row (row ts)) (is_row (row us))
  where
    and-assoc : (a b c : Bool) → (a && (b && c)) ≡ ((a && b) && c)
    and-assoc true b c = refl
    and-assoc false b c = refl

leaf-rows : (ts : List Tree) (u : Tree) → is_row (row ts) ≡ true → is_term u ≡ true → is_row (row (ts ++ u ∷ [])) ≡ true
leaf-rows ts u rows here = rows-append ts (u ∷ []) ∙ and_from (is_row (row ts)) (is_row (row (u ∷ []))) rows (and_from (is_term u) true here refl)

gathered-term : (f : List ℕ) (us : List Tree) → is_row (row us) ≡ true → arities_fit (Apply f (row us)) ≡ true → is_term (Apply f (row us)) ≡ true
gathered-term f us rows fits =
    let some = and_parts (nat_le 1 (count (row us))) (nat_le (count (row us)) 255 && arities_fit (row us)) fits in
    let most = and_parts (nat_le (count (row us)) 255) (arities_fit (row us)) some.1 in
    and_from (nat_le 1 (count (row us))) (nat_le (count (row us)) 255 && is_row (row us)) some.0 (and_from (nat_le (count (row us)) 255) (is_row (row us)) most.0 rows)

gathered-rows : (f : List ℕ) (n : ℕ) (ts : List Tree) → is_row (row ts) ≡ true → arities_fit (row (with_step (Gather f n) ts)) ≡ true → is_row (row (with_step (Gather f n) ts)) ≡ true
gathered-rows f n ts rows fits =
    let front = take (length ts - n) ts in
    let end = drop (length ts - n) ts in
    let both = and_parts (is_row (row front)) (is_row (row end)) (sym (rows-append front end) ∙ ap (λ us. is_row (row us)) (take-append-drop (length ts - n) ts) ∙ rows) in
    let last = (and_parts (arities_fit (row front)) (arities_fit (row (Apply f (row end) ∷ []))) (sym (arities-append front (Apply f (row end) ∷ [])) ∙ fits)).1 in
    leaf-rows front (Apply f (row end)) both.0 (gathered-term f end both.1 (and_parts (arities_fit (Apply f (row end))) true last).0)

module _ (names : List (List ℕ)) where
  step-rows : (k : Part) (ts : List Tree) → is_row (row ts) ≡ true → arities_fit (row (with_step (part_step names Variable k) ts)) ≡ true → is_row (row (with_step (part_step names Variable k) ts)) ≡ true
  step-rows (Place j) ts rows fits = leaf-rows ts (Variable j) rows refl
  step-rows (Number z) ts rows fits = leaf-rows ts (Integer z) rows refl
  step-rows (Atom a) ts rows fits = leaf-rows ts (Name (text_at names a)) rows refl
  step-rows (Compound a n) ts rows fits = gathered-rows (text_at names a) n ts rows fits

  after-rows : (ks : List Part) (ts : List Tree) → is_row (row ts) ≡ true → arities_fit (row (after_parts names ks ts)) ≡ true → is_row (row (after_parts names ks ts)) ≡ true
  after-rows [] ts rows fits = rows
  after-rows (k ∷ ks) ts rows fits =
      after-rows ks (with_step (part_step names Variable k) ts) (step-rows k ts rows (after-fits names ks (with_step (part_step names Variable k) ts) fits)) fits

  -- a pattern that is well formed is of a term
  pub pattern-term : (ks : List Part) (t : Tree) → IsPattern names ks t → arities_fit t ≡ true → is_term t ≡ true
  pattern-term ks t whole fits =
      let rows = after-rows ks [] refl (ap (λ ts. arities_fit (row ts)) whole.term ∙ ap (λ b. b && true) fits) in
      (and_parts (is_term t) true (sym (ap (λ ts. is_row (row ts)) whole.term) ∙ rows)).0

  module _ (ks : List Part) (exact : are_exact ks 0 ≡ true) (n : ℕ) (t : Tree) (whole : IsPattern names ks t) (fits : arities_fit t ≡ true) (places : HasPlaces n t) (at : ℕ) (some : 0 < at) (within : at ≤ length ks) (k : Part) (is : k ≡ get_or ks (at - 1) k) where
    step : first_terms names ks at ≡ with_step (part_step names Variable k) (first_terms names ks (at - 1))
    step =
        let next : at ≡ suc (at - 1) = omega arith in
        ap (first_terms names ks) next ∙ next-part names ks (at - 1) k (omega arith) is

    last-term : (us : List Tree) (a : Tree) → first_terms names ks at ≡ us ++ a ∷ [] → is_term a ≡ true
    last-term us a last =
        let rows = after-rows (take at ks) [] refl (fits-so-far names ks t whole at fits) in
        let both = and_parts (is_row (row us)) (is_row (row (a ∷ []))) (sym (rows-append us (a ∷ [])) ∙ ap (λ ts. is_row (row ts)) (sym last) ∙ rows) in
        (and_parts (is_term a) true both.1).0

    named : IsNamed names k
    named = rw is (whole.named (at - 1) k (omega arith))

    pub part-variable : (j : ℕ) → k ≡ Place j → (j < n) × (first_terms names ks at ≡ first_terms names ks (at - 1) ++ Variable j ∷ [])
    part-variable j so = (
      subst (λ l. IsReady n (length (first_terms names ks (at - 1))) l) so (part-is-ready names ks t whole (at - 1) k n (omega arith) is fits places),
      step ∙ ap (λ l. with_step (part_step names Variable l) (first_terms names ks (at - 1))) so,
    )

    pub part-integer : (z y : ℤ) → y ≡ z → k ≡ Number z → (us : List Tree) × (u : Tree) × Shows names ks at (shape.Int y) us u
    part-integer z y same so =
        let last = step ∙ ap (λ l. with_step (part_step names Variable l) (first_terms names ks (at - 1))) so in
        (first_terms names ks (at - 1), Integer z, record { whole = last; opened = sym (append-nil (first_terms names ks (at - 1))); shows = ap Integer (sym same); term = refl; bound = λ x e. cc })

    pub part-atom : (a : ℕ) → k ≡ Atom a → (us : List Tree) × (u : Tree) × Shows names ks at (shape.Atom a) us u
    part-atom a so =
        let last = step ∙ ap (λ l. with_step (part_step names Variable l) (first_terms names ks (at - 1))) so in
        (first_terms names ks (at - 1), Name (text_at names a), record { whole = last; opened = sym (append-nil (first_terms names ks (at - 1))); shows = (subst (IsNamed names) so named, refl); term = refl; bound = λ x e. cc })

    pub part-compound : (a m : ℕ) → k ≡ Compound a m → (us : List Tree) × (u : Tree) × Shows names ks at (shape.Compound a m) us u
    part-compound a m so =
        let ts = first_terms names ks (at - 1) in
        let front = take (length ts - m) ts in
        let end = drop (length ts - m) ts in
        let u = Apply (text_at names a) (row end) in
        let last = step ∙ ap (λ l. with_step (part_step names Variable l) ts) so in
        let enough = exact-at names ks (at - 1) a m exact (omega arith) (subst (λ l. l ≡ get_or ks (at - 1) l) so is) in (
          front,
          u,
          record {
            whole = last;
            opened = sym (take-append-drop (length ts - m) ts) ∙ ap (λ vs. front ++ vs) (sym (listed-row end));
            shows = (subst (IsNamed names) so named, row end, refl, count-row end ∙ omega (arith, length-drop (length ts - m) ts));
            term = last-term front u last;
            bound = λ x e. cc;
          },
        )
