-- Lists by their places.
use Rattle.std.proofs.Common.{◌≡◌, ◌++◌, ◌∷◌, [], ℕ, List, Some, length, sym, ap, ◌∙◌, arith}
use Rattle.std.specs.List.{slice_get}
use Rattle.std.proofs.lemmas.Option.{same_Some, slice_get_within}
use Rattle.std.proofs.lemmas.List.{length-append}
use Rattle.iso_clauses.proofs.ListLemmas.{slice_get-push_before, slice_get-push_last}
pub use Rattle.iso_clauses.proofs.ListLemmas.{slice_get-set_same, slice_get-set_other, slice_get-push_before, slice_get-push_last}

-- what stands in a list to which one came is the new one, or was there
pub slice_get-pushed_before : {X : Type 0} (xs : List X) (y : X) (i : ℕ) (x : X) → slice_get (xs ++ y ∷ []) i ≡ Some x → (i ≡ length xs → ⊥) → slice_get xs i ≡ Some x
slice_get-pushed_before xs y i x at other = sym (slice_get-push_before xs y i (omega (arith, slice_get_within (xs ++ y ∷ []) i x at, length-append xs (y ∷ []), other))) ∙ at

pub slice_get-pushed_last : {X : Type 0} (xs : List X) (y : X) (i : ℕ) (x : X) → slice_get (xs ++ y ∷ []) i ≡ Some x → i ≡ length xs → y ≡ x
slice_get-pushed_last xs y i x at is = same_Some y x (sym (slice_get-push_last xs y) ∙ ap (slice_get (xs ++ y ∷ [])) (sym is) ∙ at)

-- and what was there stays
pub slice_get-pushed : {X : Type 0} (xs : List X) (y : X) (i : ℕ) (x : X) → slice_get xs i ≡ Some x → slice_get (xs ++ y ∷ []) i ≡ Some x
slice_get-pushed xs y i x at = slice_get-push_before xs y i (slice_get_within xs i x at) ∙ at
