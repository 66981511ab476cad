-- Plans of terms.
use Rattle.std.proofs.Common.{◌≡◌, ℕ, suc, zero, ◌+◌, ◌-◌, ◌<◌, ◌≤◌, List, [], ◌∷◌, ◌++◌, length, map, take, drop, get_or, Some, slice_get, refl, ap, ap₂, sym, ◌∙◌, subst, arith}
use Rattle.std.proofs.lemmas.List.{map-append, length-map, drop-map, take-append-drop, take_all}
use Rattle.std.proofs.Math.Seq.{take-suc}
use Rattle.std.proofs.lemmas.Option.{slice_get_within}
use Rattle.iso_atoms.specs.Texts.{text_at}
use Rattle.iso_model.specs.Terms.Trees.{Tree, Integer, Name, Apply, row}
use Rattle.iso_model.specs.Terms.Substitutions.{Subst, apply}
use Rattle.iso_model.specs.Terms.Building.{with_step}
use Rattle.iso_model.proofs.OnTerms.CostOfRows.{apply-row}
use Rattle.iso_store_core.specs.declared.patterns.Part.{Part}
use Rattle.iso_store_core.specs.declared.patterns.Part.TheVariants.{Variable as Place, Integer as Number, Atom, Compound}
use Rattle.iso_store_core.specs.Copying.{cells_of}
use Rattle.iso_store_core.specs.Patterns.{IsNamed, part_step, at_places}
use Rattle.iso_store.specs.Writing.{IsReady, part_cells}
use Rattle.iso_store.specs.Plans.{Sketch, IsPlan, start, made_known, with_part, after_plan, AreReady}
use Rattle.iso_store.proofs.InstanceLemmas.{cells-append, gathered-applied, gathered-cells}

pub got-before : {X : Type 0} (xs ys : List X) (i : ℕ) (x : X) → slice_get xs i ≡ Some x → slice_get (xs ++ ys) i ≡ Some x
got-before [] ys i x h = absurd (omega (arith, slice_get_within [] i x h))
got-before (v ∷ xs) ys zero x h = h
got-before (v ∷ xs) ys (suc i) x h = got-before xs ys i x h

pub got-last : {X : Type 0} (xs : List X) (x : X) (i : ℕ) → i ≡ length xs → slice_get (xs ++ x ∷ []) i ≡ Some x
got-last [] x zero e = refl
got-last [] x (suc i) e = absurd (omega arith)
got-last (y ∷ xs) x zero e = absurd (omega arith)
got-last (y ∷ xs) x (suc i) e = got-last xs x i (omega arith)

module _ (names : List (List ℕ)) where
  -- ---- one part more
  pub after-push : (ks : List Part) (k : Part) (s : Sketch) → after_plan names (ks ++ k ∷ []) s ≡ with_part names k (after_plan names ks s)
  after-push [] k s = refl
  after-push (j ∷ ks) k s = after-push ks k (with_part names j s)

  pub ready-push : (ks : List Part) (k : Part) (s : Sketch) → AreReady names ks s → IsNamed names k → IsReady (length (after_plan names ks s).known) (length (after_plan names ks s).terms) k → AreReady names (ks ++ k ∷ []) s
  ready-push [] k s all named ready = (named, ready, tt)
  ready-push (j ∷ ks) k s all named ready = (all.0, all.1, ready-push ks k (with_part names j s) all.2 named ready)

  -- ---- how many cells they take
  module _ (atomic : ℕ) (width : ℕ → ℕ) where
    abbrev pub cells_so : Sketch → ℕ
    cells_so s = cells_of atomic width (row s.terms)

    pub part-costs : (k : Part) (s : Sketch) → cells_so s + part_cells atomic width (length s.terms) k ≤ cells_so (with_part names k s)
    part-costs (Place j) s = let all = cells-append atomic width s.terms (at_places s.known j ∷ []) in omega arith
    part-costs (Number z) s = let all = cells-append atomic width s.terms (Integer z ∷ []) in omega arith
    part-costs (Atom a) s = let all = cells-append atomic width s.terms (Name (text_at names a) ∷ []) in omega arith
    part-costs (Compound a n) s = let all = gathered-cells (text_at names a) n s.terms atomic width in omega arith

    pub plan-costs : (ks : List Part) (s : Sketch) → cells_so s ≤ cells_so (after_plan names ks s)
    plan-costs [] s = omega arith
    plan-costs (k ∷ ks) s =
        let inner = plan-costs ks (with_part names k s) in
        let one = part-costs k s in
        omega arith

  -- ---- the first parts
  module _ (ks : List Part) (s : Sketch) where
    abbrev pub sketch_at : ℕ → Sketch
    sketch_at i = after_plan names (take i ks) s

    pub next-sketch : (i : ℕ) (k : Part) → i < length ks → k ≡ get_or ks i k → sketch_at (suc i) ≡ with_part names k (sketch_at i)
    next-sketch i k below is =
        let more : take (suc i) ks ≡ take i ks ++ k ∷ [] = take-suc ks i k below ∙ ap (λ j. take i ks ++ j ∷ []) (sym is) in
        ap (λ js. after_plan names js s) more ∙ after-push (take i ks) k s

    pub all-sketched : (i : ℕ) → length ks ≤ i → sketch_at i ≡ after_plan names ks s
    all-sketched i past = ap (λ js. after_plan names js s) (take_all i ks past)

  after-append : (xs ys : List Part) (s : Sketch) → after_plan names (xs ++ ys) s ≡ after_plan names ys (after_plan names xs s)
  after-append [] ys s = refl
  after-append (k ∷ xs) ys s = after-append xs ys (with_part names k s)

  pub ready-at : (ks : List Part) (s : Sketch) (i : ℕ) (k : Part) → AreReady names ks s → i < length ks → k ≡ get_or ks i k → IsNamed names k × IsReady (length (sketch_at ks s i).known) (length (sketch_at ks s i).terms) k
  ready-at [] s i k all below is = absurd (omega arith)
  ready-at (j ∷ ks) s zero k all below is = subst (λ h. IsNamed names h × IsReady (length s.known) (length s.terms) h) (sym is) (all.0, all.1)
  ready-at (j ∷ ks) s (suc i) k all below is = ready-at ks (with_part names j s) i k all.2 (omega arith) is

  pub costs-at : (atomic : ℕ) (width : ℕ → ℕ) (ks : List Part) (s : Sketch) (i : ℕ) → cells_so atomic width (sketch_at ks s i) ≤ cells_so atomic width (after_plan names ks s)
  costs-at atomic width ks s i =
      let within = plan-costs atomic width (drop i ks) (sketch_at ks s i) in
      let all = ap (cells_so atomic width) (sym (after-append (take i ks) (drop i ks) s) ∙ ap (λ js. after_plan names js s) (take-append-drop i ks)) in
      omega arith

  pub costs-more : (atomic : ℕ) (width : ℕ → ℕ) (ks : List Part) (known : List Tree) (i : ℕ) (k : Part) (t : Tree) → IsPlan names known ks t → i < length ks → k ≡ get_or ks i k
      → cells_so atomic width (sketch_at ks (start known) i) + part_cells atomic width (length (sketch_at ks (start known) i).terms) k ≤ cells_of atomic width t
  costs-more atomic width ks known i k t plan below is =
      let one = part-costs atomic width k (sketch_at ks (start known) i) in
      let next = ap (cells_so atomic width) (next-sketch ks (start known) i k below is) in
      let within = costs-at atomic width ks (start known) (suc i) in
      let all = ap (λ ts. cells_of atomic width (row ts)) plan.term in
      omega arith

  -- ---- with the variables of the terms replaced
  module _ (r : Subst) where
    abbrev pub applied : Sketch → Sketch
    applied s = record { terms = map (apply r) s.terms; known = map (apply r) s.known }

    placed-applied : (ts : List Tree) (j : ℕ) → at_places (map (apply r) ts) j ≡ apply r (at_places ts j)
    placed-applied [] zero = refl
    placed-applied [] (suc j) = refl
    placed-applied (t ∷ ts) zero = refl
    placed-applied (t ∷ ts) (suc j) = placed-applied ts j

    terms-applied : (k : Part) (s : Sketch) → with_step (part_step names (at_places (map (apply r) s.known)) k) (map (apply r) s.terms) ≡ map (apply r) (with_step (part_step names (at_places s.known) k) s.terms)
    terms-applied (Place j) s = ap (λ t. map (apply r) s.terms ++ t ∷ []) (placed-applied s.known j) ∙ sym (map-append (apply r) s.terms (at_places s.known j ∷ []))
    terms-applied (Number z) s = sym (map-append (apply r) s.terms (Integer z ∷ []))
    terms-applied (Atom a) s = sym (map-append (apply r) s.terms (Name (text_at names a) ∷ []))
    terms-applied (Compound a n) s = sym (gathered-applied (text_at names a) n s.terms r)

    known-applied : (k : Part) (ts : List Tree) → made_known names k (map (apply r) ts) ≡ map (apply r) (made_known names k ts)
    known-applied (Place j) ts = refl
    known-applied (Number z) ts = refl
    known-applied (Atom a) ts = refl
    known-applied (Compound a n) ts =
        let long : length (map (apply r) ts) - n ≡ length ts - n = ap (λ k. k - n) (length-map ts (apply r)) in
        let last : drop (length (map (apply r) ts) - n) (map (apply r) ts) ≡ map (apply r) (drop (length ts - n) ts) = ap (λ k. drop k (map (apply r) ts)) long ∙ drop-map (apply r) (length ts - n) ts in
        ap (λ us. Apply (text_at names a) (row us) ∷ []) last ∙ ap (λ t. Apply (text_at names a) t ∷ []) (sym (apply-row r (drop (length ts - n) ts)))

    part-applied : (k : Part) (s : Sketch) → with_part names k (applied s) ≡ applied (with_part names k s)
    part-applied k s =
        let known = ap (λ us. map (apply r) s.known ++ us) (known-applied k s.terms) ∙ sym (map-append (apply r) s.known (made_known names k s.terms)) in
        ap₂ (λ ts us. record { terms = ts; known = us }) (terms-applied k s) known

    pub plan-applied : (ks : List Part) (s : Sketch) → after_plan names ks (applied s) ≡ applied (after_plan names ks s)
    plan-applied [] s = refl
    plan-applied (k ∷ ks) s = ap (after_plan names ks) (part-applied k s) ∙ plan-applied ks (with_part names k s)

    pub ready-applied : (ks : List Part) (s : Sketch) → AreReady names ks s → AreReady names ks (applied s)
    ready-applied [] s all = tt
    ready-applied (k ∷ ks) s all =
        let known : length s.known ≡ length (map (apply r) s.known) = sym (length-map s.known (apply r)) in
        let terms : length s.terms ≡ length (map (apply r) s.terms) = sym (length-map s.terms (apply r)) in
        (all.0, subst (λ n. IsReady n (length (map (apply r) s.terms)) k) known (subst (λ n. IsReady (length s.known) n k) terms all.1), subst (AreReady names ks) (sym (part-applied k s)) (ready-applied ks (with_part names k s) all.2))

    pub is-plan-applied : (known : List Tree) (ks : List Part) (t : Tree) → IsPlan names known ks t → IsPlan names (map (apply r) known) ks (apply r t)
    is-plan-applied known ks t plan = record {
      ready = ready-applied ks (start known) plan.ready;
      term = ap (λ s. s.terms) (plan-applied ks (start known)) ∙ ap (map (apply r)) plan.term;
    }
