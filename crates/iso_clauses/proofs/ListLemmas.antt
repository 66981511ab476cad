-- Lists by their places.
use Rattle.std.proofs.Common.{◌≡◌, ℕ, zero, suc, ◌<◌, true, false, List, [], ◌∷◌, ◌++◌, length, set, Option, Some, None, refl, sym, arith, true≢false, Result, Ok, Err}
use Rattle.std.specs.Result.{is_err, OnOk, OnErr}
use Rattle.std.specs.Option.{IsSome}
use Rattle.std.specs.List.{slice_get}
use Rattle.std.proofs.lemmas.Option.{none-some}

-- an element that was written over, and another
pub slice_get-set_same : {X : Type 0} (xs : List X) (i : ℕ) (y : X) → i < length xs → slice_get (set xs i y) i ≡ Some y
slice_get-set_same [] i y h = absurd (omega arith)
slice_get-set_same (x ∷ xs) zero y h = refl
slice_get-set_same (x ∷ xs) (suc i) y h = slice_get-set_same xs i y (omega arith)

pub slice_get-set_other : {X : Type 0} (xs : List X) (i j : ℕ) (y : X) → (j ≡ i → ⊥) → slice_get (set xs i y) j ≡ slice_get xs j
slice_get-set_other [] i j y h = refl
slice_get-set_other (x ∷ xs) zero zero y h = absurd (h refl)
slice_get-set_other (x ∷ xs) zero (suc j) y h = refl
slice_get-set_other (x ∷ xs) (suc i) zero y h = refl
slice_get-set_other (x ∷ xs) (suc i) (suc j) y h = slice_get-set_other xs i j y (omega arith)

-- an element before one that was put behind the others, and that one
pub slice_get-push_before : {X : Type 0} (xs : List X) (y : X) (i : ℕ) → i < length xs → slice_get (xs ++ y ∷ []) i ≡ slice_get xs i
slice_get-push_before [] y i h = absurd (omega arith)
slice_get-push_before (x ∷ xs) y zero h = refl
slice_get-push_before (x ∷ xs) y (suc i) h = slice_get-push_before xs y i (omega arith)

pub slice_get-push_last : {X : Type 0} (xs : List X) (y : X) → slice_get (xs ++ y ∷ []) (length xs) ≡ Some y
slice_get-push_last [] y = refl
slice_get-push_last (x ∷ xs) y = slice_get-push_last xs y

-- what holds behind a success, where there is one
pub ok_then : {T E P : Type 0} (r : Result T E) → is_err r ≡ false → OnOk r P → P
ok_then (Ok x) h p = p
ok_then (Err e) h p = absurd (true≢false h)

pub err_then : {T E P : Type 0} (r : Result T E) → is_err r ≡ true → OnErr r P → P
err_then (Ok x) h p = absurd (true≢false (sym h))
err_then (Err e) h p = p

-- what is there is not missing
pub not_none : {X : Type 0} {A : Type 0} (o : Option X) → o ≡ None → IsSome o → A
not_none None h p = absurd (true≢false (sym p))
not_none (Some x) h p = absurd (none-some x (sym h))
