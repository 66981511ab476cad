-- Arguments that are pushed one after the other, and the compound of them.
use Rattle.std.proofs.Common.{◌≡◌, ℕ, true, List, [], ◌∷◌, Some, Result, Ok, Err, OnOk, slice_get, ap, ◌∙◌}
use Rattle.iso_store_core.specs.Presents.{Present}
use Rattle.iso_code.specs.declared.operands.Operand.TheVariants.{Old, Inner}
use Rattle.iso_writing.proofs.VariableLemmas.{BeginsWith}

-- what holds anyway holds where there was no error
pub on_ok : {T E P : Type 0} (r : Result T E) → P → OnOk r P
on_ok (Ok v) h = h
on_ok (Err e) h = tt

-- ---- one argument

module _ {W : Type 0} {p : Present W} {environment compounds : List W} {first : ℕ} (w : W) where
  -- the word of a variable that was met stands
  pub old_holds : (x : ℕ) → BeginsWith p environment compounds first (Old x ∷ []) → slice_get environment x ≡ Some w → p.holds w ≡ true
  old_holds x h at = (h.4.known.variables x w h.8.0 (ap (λ e. slice_get e x) h.5 ∙ at)).holds

  -- and so does that of a compound
  pub inner_holds : (k : ℕ) → BeginsWith p environment compounds first (Inner k ∷ []) → slice_get compounds k ≡ Some w → p.holds w ≡ true
  inner_holds k h at = (h.4.known.compounds k w (ap (λ e. slice_get e k) h.6 ∙ at)).holds
