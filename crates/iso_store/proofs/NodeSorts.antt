-- The words of a store of nodes stand for terms, and its bindings are a substitution.
use Rattle.std.proofs.Common.{◌≡◌, ℕ, zero, suc, ◌<◌, ◌==◌, List, [], ◌∷◌, length, map, get_or, true, refl, ap, sym, ◌∙◌, arith, Some, inl, inr, Result, Ok, Err, IfOk}
use Rattle.std.specs.List.{slice_get}
use Rattle.iso_atoms.specs.Texts.{text_at}
use Rattle.std.proofs.lemmas.Bool.{and_from, or_left, or_right, eq-eqb, cases_eq}
use Rattle.std.proofs.lemmas.Option.{slice_get_cases}
use Rattle.iso_model.specs.declared.terms.Term.{Term}
use Rattle.iso_model.specs.Terms.Trees.{Tree, Variable, row, count, arities_fit}
use Rattle.iso_model.specs.Terms.TermOf.{term_of}
use Rattle.iso_model.proofs.OnTerms.MeaningLemmas.{meaning_is_term}
use Rattle.iso_model.specs.Terms.Sorts.{is_term, is_row}
use Rattle.iso_model.specs.Terms.Variables.{is_in}
use Rattle.iso_model.specs.Terms.Substitutions.{Subst, apply, compose, single, IsSubstitution}
use Rattle.iso_model.specs.Terms.Unification.Applied.{single_at, single_other}
use Rattle.iso_model.proofs.OnTerms.SortLemmas.{term_applied}
use Rattle.iso_store.specs.declared.nodes.Node.{Node}
use Rattle.iso_store.specs.declared.nodes.Node.TheVariants.{Var, Int, Atom, Compound}
use Rattle.iso_store.specs.NodeTerms.{term_at, binding_of, binding_at, bindings, bind_all, substitution_of}
use Rattle.iso_store.specs.NodeStores.{IsStore}
use Rattle.iso_store.specs.NodeLemmas.{term_at-variable, term_at-integer, term_at-atom, term_at-compound}
use Rattle.iso_store.specs.NodeNumbers.{trail_parts}
use Rattle.iso_store.specs.HeapSorted.{compound-sorted}
use Rattle.iso_store.proofs.NodeReads.{high_value}
use Rattle.iso_store.proofs.Trails.{twice-all, idempotent}

pub row-count : (f : ℕ → Tree) (ws : List ℕ) → count (row (map f ws)) ≡ length ws
row-count f [] = refl
row-count f (w ∷ ws) = let inner = row-count f ws in omega arith

pub row-sorted : (f : ℕ → Tree) (ws : List ℕ) → ((k : ℕ) → k < length ws → is_term (f (get_or ws k 0)) ≡ true) → is_row (row (map f ws)) ≡ true
row-sorted f [] sorted = refl
row-sorted f (w ∷ ws) sorted =
    and_from (is_term (f w)) (is_row (row (map f ws))) (sorted 0 (omega arith)) (row-sorted f ws (λ k h. sorted (suc k) (omega arith)))

-- a Rust term that is a term is well formed
pub sorted-out : {E : Type 0} (t : Tree) → is_term t ≡ true → (result : Result Term E) → IfOk result (λ u. term_of u ≡ t) → IfOk result (λ u. arities_fit (term_of u) ≡ true)
sorted-out t sorted (Ok u) is = sym (meaning_is_term u) ∙ ap is_term is ∙ sorted
sorted-out t sorted (Err e) is = is

-- where these are the names of the atoms
module _ (names : List (List ℕ)) (cs : List Node) (es : List ℕ) (next : ℕ) (store : IsStore names cs es next) where
  node-sorted : (w : ℕ) (c : Node) → slice_get cs w ≡ Some c → ((v : ℕ) → v < w → is_term (term_at names cs v) ≡ true) → is_term (term_at names cs w) ≡ true
  node-sorted w (Var n b) h before = ap is_term (term_at-variable names cs w n b h)
  node-sorted w (Int z) h before = ap is_term (term_at-integer names cs w z h)
  node-sorted w (Atom a) h before = ap is_term (term_at-atom names cs w a h)
  node-sorted w (Compound f ws) h before =
      let below = store.arguments w f ws h in
      let size = row-count (term_at names cs) ws.items in
      let fits = store.arity w f ws h in
      ap is_term (term_at-compound names cs w f ws h below)
      ∙ compound-sorted (text_at names f) (row (map (term_at names cs) ws.items)) (let a = fits.0 in omega arith) (let a = fits.1 in omega arith) (row-sorted (term_at names cs) ws.items (λ k less. before (get_or ws.items k 0) (below k less)))

  sorted-below : (k w : ℕ) → w < k → w < length cs → is_term (term_at names cs w) ≡ true
  sorted-below zero w h within = absurd (omega arith)
  sorted-below (suc k) w h within =
      elim ((slice_get_cases cs w).1) [
        | inl found ↦ node-sorted w found.0 found.2 (λ v less. sorted-below k v (omega arith) (omega arith))
        | inr past ↦ let beyond = past.0 in absurd (omega arith)
      ]

  pub term_at-sorted : (w : ℕ) → w < length cs → is_term (term_at names cs w) ≡ true
  term_at-sorted w within = sorted-below (suc w) w (omega arith) within

  single-sorted : (x : ℕ) (r : Tree) → is_term r ≡ true → (n : ℕ) → is_term (single x r n) ≡ true
  single-sorted x r h n =
      elim (cases_eq n x) [ inl same ↦ ap is_term (single_at x n r same) ∙ h | inr other ↦ ap is_term (single_other x n r other) ]

  all-sorted : (fs : List ℕ) (s : Subst) → ((n : ℕ) → is_term (s n) ≡ true) → ((w : ℕ) → is_in w fs ≡ true → is_term ((binding_at names cs w).1) ≡ true) → (n : ℕ) → is_term (bind_all s (bindings names cs fs) n) ≡ true
  all-sorted [] s sorted targets n = sorted n
  all-sorted (e ∷ fs) s sorted targets n =
      let b = binding_at names cs e in
      let target = targets e (or_left (e == e) (is_in e fs) (eq-eqb e e refl)) in
      let bound : is_term (apply s b.1) ≡ true = term_applied s b.1 target (λ m o. sorted m) in
      let t = single b.0 (apply s b.1) in
      all-sorted fs (compose s t) (λ m. term_applied t (s m) (sorted m) (λ k o. single-sorted b.0 (apply s b.1) bound k)) (λ w i. targets w (or_right (e == w) (is_in w fs) i)) n

  pub substitution-sorted : (n : ℕ) → is_term (substitution_of names cs es n) ≡ true
  substitution-sorted = all-sorted es Variable (λ n. refl) targets
    where
      targets : (w : ℕ) → is_in w es ≡ true → is_term ((binding_at names cs w).1) ≡ true
      targets w h =
          let p = trail_parts names cs es next store w h in
          ap (λ o. is_term ((binding_of names cs o).1)) p.2 ∙ term_at-sorted p.1 (store.target w p.0 p.1 p.2)

  pub meaning-sorted : (w : ℕ) → w < length cs → is_term (apply (substitution_of names cs es) (term_at names cs w)) ≡ true
  meaning-sorted w within = term_applied (substitution_of names cs es) (term_at names cs w) (term_at-sorted w within) (λ n o. substitution-sorted n)

  pub substitution-is : IsSubstitution (substitution_of names cs es)
  substitution-is = record {
    finite = (next, high_value names cs es next store);
    idempotent = idempotent (substitution_of names cs es) (twice-all Variable (bindings names cs es) (λ n. refl) store.may_bind);
  }
