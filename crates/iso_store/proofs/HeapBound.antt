-- A binding in a heap: the variable and its target are at the ends of their bindings.
use Rattle.std.proofs.Common.{◌≡◌, ℕ, suc, ◌<◌, ◌≤◌, List, [], ◌∷◌, ◌++◌, length, set, Bool, true, false, refl, ap, sym, ◌∙◌, subst, arith, length-append, length-set, Some, None, OnOk, OnErr, Result, Ok, Err, nat_lt, if◌then◌else◌, get_or}
use Rattle.std.specs.List.{slice_get}
use Rattle.iso_model.specs.Terms.Trees.{Variable, End}
use Rattle.iso_model.specs.Terms.Variables.{occurs}
use Rattle.iso_model.specs.Terms.Substitutions.{apply, compose, single}
use Rattle.iso_model.specs.Terms.Unification.Applied.{apply_apply}
use Rattle.iso_area.specs.Stacks.{Stacks}
use Rattle.iso_store.specs.declared.heap_cells.HeapWord.{HeapWord}
use Rattle.iso_store.specs.declared.heap_cells.HeapWord.TheVariants.{Var}
use Rattle.iso_store.specs.declared.heap_cells.Cell.{Cell}
use Rattle.iso_store.specs.declared.heap_cells.Cell.TheVariants.{Unbound, Bound, Entry}
use Rattle.iso_store_core.specs.Presents.{Binds, Grows}
use Rattle.iso_store.specs.Meetings.{IsYounger}
use Rattle.iso_store.specs.HeapTerms.{heap_substitution, bound_count, variable_cells}
use Rattle.iso_store.specs.HeapStores.{number_of, is_word, next_word, IsHeap, present_of_heap, KeepsHeapMarks, trailed}
use Rattle.iso_store.specs.HeapLemmas.{place_term, cell_terms-bound}
use Rattle.iso_store.proofs.HeapReads.{seen, end_is_variable, shows_variable, unbound_cell-is}
use Rattle.iso_store.proofs.HeapBinds.{heap-bound, made-bound, words-bound, taken-bound, substitution-bound, bound_count-bound}
use Rattle.iso_store.proofs.HeapMarked.{bound-keeps}
use Rattle.iso_store.proofs.VariableCells.{variables-bound}
use Rattle.iso_store.proofs.HeapAreas.{IsHeapArea}

trailed-within : (newest e : ℕ) (es : List Cell) (older : Bool) → length (if older then es ++ Entry e ∷ [] else es) ≤ suc (length es)
trailed-within newest e es true = omega (arith, length-append es (Entry e ∷ []))
trailed-within newest e es false = omega arith

-- where these are the names of the atoms
module _ (names : List (List ℕ)) (cs : List Cell) (next : ℕ) (heap : IsHeap names cs next) where
  -- the variable is not bound
  pub end_cell : (v : HeapWord) (e n : ℕ) → is_word names cs (Var e) ≡ true → next_word cs (Var e) ≡ None → seen names cs next heap (Var e) ≡ seen names cs next heap v → seen names cs next heap v ≡ Variable n → slice_get cs e ≡ Some (Unbound n)
  end_cell v e n holds end same is =
      let found = end_is_variable names cs next heap (Var e) n holds end (same ∙ is) in
      let place : e ≡ found.0 = cc in
      ap (slice_get cs) place ∙ found.2

  module _ (v w : HeapWord) (e n : ℕ) (target : HeapWord) (place_holds : is_word names cs (Var e) ≡ true) (place_end : next_word cs (Var e) ≡ None) (place_same : seen names cs next heap (Var e) ≡ seen names cs next heap v)
      (target_holds : is_word names cs target ≡ true) (target_end : next_word cs target ≡ None) (target_same : seen names cs next heap target ≡ seen names cs next heap w)
      (is : seen names cs next heap v ≡ Variable n) (absent : occurs n (seen names cs next heap w) ≡ false) (younger : IsYounger n (seen names cs next heap w)) where
    free : slice_get cs e ≡ Some (Unbound n)
    free = end_cell v e n place_holds place_end place_same is

    not-inside : occurs n (seen names cs next heap target) ≡ false
    not-inside = ap (occurs n) target_same ∙ absent

    lower : (b m : ℕ) → target ≡ Var b → number_of (slice_get cs b) ≡ Some m → m < n
    lower b m which number =
        let found = unbound_cell-is (slice_get cs b) (sym (ap (is_word names cs) which) ∙ target_holds) (sym (ap (next_word cs) which) ∙ target_end) in
        let same : Some found.0 ≡ Some m = sym (ap number_of found.1) ∙ number in
        let name : found.0 ≡ m = cc in
        let shown = shows_variable names cs next heap b found.0 found.1 in
        younger m (sym target_same ∙ ap (seen names cs next heap) which ∙ shown ∙ ap Variable name)

    pub binding-area : (newest : ℕ) (area new : Stacks Cell) → area.low ≡ cs → newest ≤ length cs → length area.high ≤ bound_count cs → {E : Type 0} (result : Result Unit E) → OnOk result (new.low ≡ set area.low e (Bound n target)) → OnOk result (new.high ≡ trailed newest e area.high) → OnErr result (new ≡ area) → IsHeapArea names next newest new
    binding-area newest area new here below within (Ok u) low high same =
        let now : new.low ≡ set cs e (Bound n target) = low ∙ ap (λ xs. set xs e (Bound n target)) here in
        let count = bound_count-bound cs e n target free in
        let trail = trailed-within newest e area.high (nat_lt e newest) in
        let size = ap length high in
        let bound = ap bound_count now in
        let long = ap length now in
        record {
          is_heap = subst (λ xs. IsHeap names xs next) (sym now) (heap-bound names cs next heap e n target free target_holds not-inside lower);
          newest_within = omega (arith, length-set cs e (Bound n target));
          trail_within = omega arith;
        }
    binding-area newest area new here below within (Err x) low high same =
        subst (IsHeapArea names next newest) (sym same) (record { is_heap = subst (λ xs. IsHeap names xs next) (sym here) heap; newest_within = (let size = ap length here in omega arith); trail_within = (let count = ap bound_count here in omega arith) })

    pub binding-grows : (limit room : ℕ) (ds : List Cell) → ds ≡ set cs e (Bound n target) → room ≡ limit → Grows (present_of_heap names cs next limit) (present_of_heap names ds next room) 0 0
    binding-grows limit room ds low same =
        let size = ap length low ∙ length-set cs e (Bound n target) in
        let variables = ap variable_cells low ∙ variables-bound cs e n target free in
        record {
          cells = omega arith;
          variables = omega arith;
          keeps = omega arith;
          keeps_variables = omega arith;
          limit = same;
          within = λ below. omega (arith, below);
        }

    pub binding-marks : (all : List (List ℕ)) (limit newest : ℕ) (es ds fs : List Cell) → ds ≡ set cs e (Bound n target) → fs ≡ trailed newest e es → KeepsHeapMarks all limit newest cs es newest ds fs
    binding-marks all limit newest es ds fs low high = rw (low, high) (bound-keeps all limit newest cs es e n target free)

    pub binding-binds : (limit : ℕ) (ds : List Cell) → ds ≡ set cs e (Bound n target) → Binds (present_of_heap names cs next limit) (present_of_heap names ds next limit) (single n (seen names cs next heap w))
    binding-binds limit ds low =
        let words = words-bound names cs next heap e n target free target_holds not-inside lower in
        rw low (record {
          words = record {
            stand = λ u h. ap (λ f. f u) words ∙ h;
            terms = λ u h. ap (λ f. f u) (made-bound names cs next heap e n target free target_holds not-inside lower);
          };
          numbers = record { next = refl; taken = taken-bound names cs next heap e n target free target_holds not-inside lower };
          substitution = substitution-bound names cs next heap e n target free target_holds not-inside lower ∙ ap (λ t. compose (heap_substitution names cs) (single n t)) target_same;
        })

    -- what stands at each place
    pub binding-places : (limit : ℕ) (ds : List Cell) → ds ≡ set cs e (Bound n target) → (k : ℕ) → apply (heap_substitution names ds) (place_term names ds k) ≡ apply (single n (seen names cs next heap w)) (apply (heap_substitution names cs) (place_term names cs k))
    binding-places limit ds low k =
        let r = single n (seen names cs next heap w) in
        let bound = (binding-binds limit ds low).substitution in
        let term : place_term names ds k ≡ place_term names cs k = ap (λ xs. place_term names xs k) low ∙ ap (λ ts. get_or ts k End) (cell_terms-bound names [] cs e n target free) in
        ap (λ s. apply s (place_term names ds k)) bound ∙ ap (apply (compose (heap_substitution names cs) r)) term ∙ sym (apply_apply (heap_substitution names cs) r (place_term names cs k))
