-- An argument is read against an operand as the table says.
use Rattle.std.proofs.Common.{◌≡◌, ◌<◌, ◌+◌, ℕ, ℤ, Bool, true, false, List, [], ◌∷◌, length, Result, Ok, Err, IfOk, Some, slice_get, slice_set, refl}
use Rattle.iso_atoms.specs.Texts.{text_at}
use Rattle.iso_model.specs.Terms.Trees.{Variable, Integer, Name}
use Rattle.iso_store_core.specs.Presents.{Present, meaning, IsUnification, Untouched}
use Rattle.iso_code.specs.declared.operands.Operand.TheVariants as operand
use Rattle.iso_code.specs.Standing.{files}
use Rattle.iso_code.proofs.StandLemmas.{unify_ends, constant_ends, new_ends, inner_ready}
use Rattle.iso_reading.specs.Reading.{ReadsOne, StandsReady}

-- what follows from a good result
pub if_ok_by : {T E : Type 0} {P Q : T → Type 0} (r : Result T E) → IfOk r P → ((v : T) → P v → Q v) → IfOk r Q
if_ok_by (Ok v) h f = f v h
if_ok_by (Err e) h f = tt

-- the word of a variable that was met stands
pub old_holds : {W : Type 0} (p : Present W) (es cs as_ : List W) (x : ℕ) (w : W) → StandsReady p es as_ cs (operand.Old x ∷ []) → slice_get es x ≡ Some w → p.holds w ≡ true
old_holds p es cs as_ x w h there = (h.ready.stands.known.variables x w h.marked.0 there).holds

module _ {W : Type 0} (names : List (List ℕ)) (p q : Present W) (clean : (n : ℕ) → p.taken n ≡ false → Untouched p n) (es cs : List W) (argument : W) where
  -- a variable that is met for the first time
  pub new_reads : (x : ℕ) → x < length es → ReadsOne names (operand.New x) p p argument es (slice_set es x argument) cs cs true
  new_reads x inside as_ t met state a r at mark = new_ends p clean es as_ cs t met state argument a x inside mark r at

  -- one that was met
  pub old_reads : (x : ℕ) (w : W) (answer : Bool) → slice_get es x ≡ Some w → IsUnification p q (meaning p argument) (meaning p w) answer → ReadsOne names (operand.Old x) p q argument es es cs cs answer
  old_reads x w answer there h as_ t met state a r at mark =
      unify_ends p q clean (files es as_ cs) t met state argument w a (Variable (t.first + x)) answer r at (r.stands.known.variables x w mark there) h

  -- constants
  pub integer_reads : (z : ℤ) (answer : Bool) → IsUnification p q (meaning p argument) (Integer z) answer → ReadsOne names (operand.Integer z) p q argument es es cs cs answer
  integer_reads z answer h as_ t met state a r at mark =
      constant_ends p q clean (files es as_ cs) t met state argument a (Integer z) answer (λ u. refl) (λ n. refl) r at h

  pub atom_reads : (a : ℕ) (answer : Bool) → IsUnification p q (meaning p argument) (Name (text_at names a)) answer → ReadsOne names (operand.Atom a) p q argument es es cs cs answer
  atom_reads n answer h as_ t met state a r at mark =
      constant_ends p q clean (files es as_ cs) t met state argument a (Name (text_at names n)) answer (λ u. refl) (λ n. refl) r at h

  -- a compound takes its word
  pub inner_reads : (k : ℕ) → k < length cs → ReadsOne names (operand.Inner k) p p argument es es cs (slice_set cs k argument) true
  inner_reads k inside as_ t met state a r at mark = (inner_ready p es as_ cs t met state argument a k inside r at, λ w c h. h)
