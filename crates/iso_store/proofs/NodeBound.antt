-- A binding in a store of nodes: the variable and its target are at the ends of their bindings.
use Rattle.std.proofs.Common.{◌≡◌, ℕ, zero, suc, ◌<◌, ◌||◌, List, [], ◌∷◌, ◌++◌, length, set, false, refl, ap, sym, ◌∙◌, arith, length-set, Some, None}
use Rattle.std.specs.List.{slice_get, list_any}
use Rattle.std.proofs.lemmas.Bool.{lt-ltb, ltb-true}
use Rattle.iso_model.specs.Terms.Trees.{Variable}
use Rattle.iso_model.specs.Terms.Variables.{occurs}
use Rattle.iso_model.specs.Terms.Substitutions.{apply, compose, single}
use Rattle.iso_model.specs.Terms.Unification.Applied.{apply_apply}
use Rattle.iso_store.specs.declared.nodes.Node.{Node}
use Rattle.iso_store.specs.declared.nodes.Node.TheVariants.{Var, Int, Atom, Compound}
use Rattle.iso_store_core.specs.Presents.{Binds, Grows}
use Rattle.iso_store.specs.Meetings.{IsYounger}
use Rattle.iso_store.specs.NodeTerms.{term_at, substitution_of}
use Rattle.iso_store.specs.NodeStores.{is_bound, has_number, variable_nodes, IsStore, present_of, KeepsNodesMarks}
use Rattle.iso_store.proofs.NodeReads.{end_variable, end_is_variable}
use Rattle.iso_store.proofs.NodeChanges.{bound-substitution, bound-terms, store-bound}
use Rattle.iso_store.proofs.Marked.{bound-keeps}

-- the same numbers
numbers-same : (cs : List Node) (e n m : ℕ) (b d : _) → slice_get cs e ≡ Some (Var n d) → list_any (has_number m) (set cs e (Var n b)) ≡ list_any (has_number m) cs
numbers-same [] e n m b d h = refl
numbers-same (c ∷ cs) zero n m b d h =
    let is : Var n d ≡ c = cc in
    ap (λ x. list_any (has_number m) (x ∷ cs)) is
numbers-same (c ∷ cs) (suc e) n m b d h = ap (λ q. has_number m c || q) (numbers-same cs e n m b d h)

-- a variable that is bound is one still
variables-same : (cs : List Node) (e n : ℕ) (b d : _) → slice_get cs e ≡ Some (Var n d) → variable_nodes (set cs e (Var n b)) ≡ variable_nodes cs
variables-same [] e n b d h = refl
variables-same (c ∷ cs) zero n b d h =
    let is : Var n d ≡ c = cc in
    ap (λ x. variable_nodes (x ∷ cs)) is
variables-same (Var m a ∷ cs) (suc e) n b d h = ap suc (variables-same cs e n b d h)
variables-same (Int z ∷ cs) (suc e) n b d h = variables-same cs e n b d h
variables-same (Atom a ∷ cs) (suc e) n b d h = variables-same cs e n b d h
variables-same (Compound f ws ∷ cs) (suc e) n b d h = variables-same cs e n b d h

-- where these are the names of the atoms
module _ (names : List (List ℕ)) (cs : List Node) (es : List ℕ) (next limit : ℕ) (store : IsStore names cs es next) (v w e j n : ℕ)
    (place_within : e < length cs) (place_end : is_bound (slice_get cs e) ≡ false) (place_same : apply (substitution_of names cs es) (term_at names cs e) ≡ apply (substitution_of names cs es) (term_at names cs v))
    (target_within : j < length cs) (target_end : is_bound (slice_get cs j) ≡ false) (target_same : apply (substitution_of names cs es) (term_at names cs j) ≡ apply (substitution_of names cs es) (term_at names cs w))
    (is : apply (substitution_of names cs es) (term_at names cs v) ≡ Variable n) (absent : occurs n (apply (substitution_of names cs es) (term_at names cs w)) ≡ false) (younger : IsYounger n (apply (substitution_of names cs es) (term_at names cs w))) where
  free : slice_get cs e ≡ Some (Var n None)
  free = end_is_variable names cs es next store e place_end n place_within (place_same ∙ is)

  not-inside : occurs n (apply (substitution_of names cs es) (term_at names cs j)) ≡ false
  not-inside = ap (occurs n) target_same ∙ absent

  lower : (m : ℕ) (b : _) → slice_get cs j ≡ Some (Var m b) → m < n
  lower m b h = younger m (sym target_same ∙ end_variable names cs es next store j target_end m b h)

  pub binding-store : (fs : List ℕ) → fs ≡ es ++ e ∷ [] → IsStore names (set cs e (Var n (Some j))) fs next
  binding-store fs grown = rw grown (store-bound names cs es next store e n j free target_within not-inside lower)

  binding-variables : variable_nodes (set cs e (Var n (Some j))) ≡ variable_nodes cs
  binding-variables = variables-same cs e n (Some j) None free

  pub binding-grows : (fs : List ℕ) → Grows (present_of names cs es next limit) (present_of names (set cs e (Var n (Some j))) fs next limit) 0 0
  binding-grows fs =
      let size = length-set cs e (Var n (Some j)) in
      let same = binding-variables in
      record {
        cells = omega arith;
        variables = omega arith;
        keeps = omega arith;
        keeps_variables = omega arith;
        limit = refl;
        within = λ below. omega (arith, below);
      }

  pub binding-marks : (fs : List ℕ) → fs ≡ es ++ e ∷ [] → KeepsNodesMarks names limit cs es (set cs e (Var n (Some j))) fs
  binding-marks fs grown = rw grown (bound-keeps names limit cs es e n (Some j) free)

  pub binding-binds : (fs : List ℕ) → fs ≡ es ++ e ∷ [] → Binds (present_of names cs es next limit) (present_of names (set cs e (Var n (Some j))) fs next limit) (single n (apply (substitution_of names cs es) (term_at names cs w)))
  binding-binds fs grown = rw grown (record {
    words = record {
      stand = λ u h. let below = ltb-true u (length cs) h in lt-ltb u (length (set cs e (Var n (Some j)))) (omega (arith, length-set cs e (Var n (Some j))));
      terms = λ u h. ap (λ t. t u) (bound-terms names cs es next store e n j free target_within not-inside lower);
    };
    numbers = record { next = refl; taken = λ m. numbers-same cs e n m (Some j) None free };
    substitution = bound-substitution names cs es next store e n j free target_within not-inside lower ∙ ap (λ t. compose (substitution_of names cs es) (single n t)) target_same;
  })

  -- what stands at each place
  pub binding-places : (fs : List ℕ) → fs ≡ es ++ e ∷ [] → (k : ℕ) → apply (substitution_of names (set cs e (Var n (Some j))) fs) (term_at names (set cs e (Var n (Some j))) k)
      ≡ apply (single n (apply (substitution_of names cs es) (term_at names cs w))) (apply (substitution_of names cs es) (term_at names cs k))
  binding-places fs grown k =
      let r = single n (apply (substitution_of names cs es) (term_at names cs w)) in
      let bound = (binding-binds fs grown).substitution in
      ap (λ s. apply s (term_at names (set cs e (Var n (Some j))) k)) bound
      ∙ ap (λ t. apply (compose (substitution_of names cs es) r) (t k)) (bound-terms names cs es next store e n j free target_within not-inside lower)
      ∙ sym (apply_apply (substitution_of names cs es) r (term_at names cs k))
