-- Where a text may be cut: behind a byte of ASCII, behind a run of such bytes, and behind one character.
use Rattle.std.proofs.Common.{◌≡◌, ℕ, zero, suc, ◌+◌, ◌-◌, ◌<◌, ◌≤◌, Bool, true, false, List, [], ◌∷◌, length, drop, slice_index, refl, add-one, sym, ap, ◌∙◌, subst, arith, Option, Some, None, option_map, IfSome, IsUtf8, IsCharBoundary}
use Rattle.std.proofs.lemmas.Bool.Decides.{nat_tests}
use Rattle.std.proofs.lemmas.List.Sums.{prefix_len_passes, prefix_len_stops, prefix_len-le-length}
use Rattle.std.proofs.lemmas.List.{get_or-drop, get_or_past, length-drop}
use Rattle.std.proofs.lemmas.Str.{IsCharBoundary-start, IsCharBoundary-after_ascii, IsCharBoundary-from_rest, IsUtf8-drop}
use Rattle.iso_model.specs.Syntax.Characters.{is_in_line, is_continuation, character_len, run}

-- so many bytes are in a text, and one at least; where it is of characters, they end with one
pub record Ends (z : List ℕ) (n : ℕ) : Type 0 where
  pub some : 1 ≤ n
  pub all : n ≤ length z
  pub cut : IsUtf8 z → IsCharBoundary z n

-- a byte that isn't 0 is in the text
pub byte_within : (z : List ℕ) (k c : ℕ) → slice_index z k ≡ c → 0 < c → k < length z
byte_within z k c is some = grind (arith, get_or_past z k 0)

-- what stands behind the first byte
pub behind_first : (b : ℕ) (z : List ℕ) (k : ℕ) → slice_index (b ∷ z) (1 + k) ≡ slice_index z k
behind_first b z k = let e : 1 + k ≡ suc k = omega arith in ap (slice_index (b ∷ z)) e

-- up to a byte of ASCII and with it
pub ascii-ends : (z : List ℕ) (n : ℕ) → n < length z → slice_index z n < 128 → Ends z (n + 1)
ascii-ends z n inside small = record { some = omega arith; all = omega arith; cut = λ utf8. IsCharBoundary-after_ascii z n utf8 inside small }

-- a run of bytes of ASCII ends behind one
run-cut_by : (class : ℕ → Bool) → ((b : ℕ) → class b ≡ true → b < 128) → (z : List ℕ) (n : ℕ) → IsUtf8 z → run class z ≡ n → IsCharBoundary z n
run-cut_by class small z zero utf8 is = IsCharBoundary-start z utf8
run-cut_by class small z (suc n) utf8 is =
    let inside : n < length z = omega (arith, prefix_len-le-length class z) in
    let last = small (slice_index z n) (prefix_len_passes class z n 0 (omega arith)) in
    rw (← add-one) (IsCharBoundary-after_ascii z n utf8 inside last)

pub run-ends : (class : ℕ → Bool) → ((b : ℕ) → class b ≡ true → b < 128) → (z : List ℕ) → 1 ≤ run class z → Ends z (run class z)
run-ends class small z some = record { some = some; all = prefix_len-le-length class z; cut = λ utf8. run-cut_by class small z (run class z) utf8 refl }

-- a run has a byte where the text begins with one of the class
pub run-some : (class : ℕ → Bool) (z : List ℕ) → 0 < length z → class (slice_index z 0) ≡ true → 1 ≤ run class z
run-some class [] some first = absurd (omega arith)
run-some class (b ∷ z) some first = rw first (omega arith)

line_end : (b : ℕ) → is_in_line b ≡ false → b ≡ 10
line_end b h = grind (arith, nat_tests)

-- a line's text ends before byte 10 or at the end
pub line-ends : (z : List ℕ) → 1 ≤ run is_in_line z → Ends z (run is_in_line z)
line-ends z some =
    let all = prefix_len-le-length is_in_line z in
    record { some = some; all = all; cut = λ utf8. (all, λ inside high. absurd (omega (arith, line_end _ (prefix_len_stops is_in_line z 0 inside)))) }

first_byte : (b : ℕ) → is_continuation b ≡ false → 128 ≤ b → 192 ≤ b
first_byte b h high = grind (arith, nat_tests)

-- a character ends before a byte that goes on with none
character-cut : (z : List ℕ) → 0 < length z → IsCharBoundary z (character_len z)
character-cut [] some = absurd (omega arith)
character-cut (b ∷ z) some =
    let at = behind_first b z (run is_continuation z) in (
      omega (arith, prefix_len-le-length is_continuation z),
      λ inside high. rw at (first_byte _ (prefix_len_stops is_continuation z 0 (omega arith)) (rw at at high)),
    )

pub character-ends : (z : List ℕ) → 0 < length z → Ends z (character_len z)
character-ends z some = record { some = omega arith; all = (character-cut z some).0; cut = λ utf8. character-cut z some }

-- what ends in what follows a byte of ASCII ends in the text
pub ends-behind : (z : List ℕ) (k n : ℕ) → Ends z k → Ends (drop k z) n → Ends z (k + n)
ends-behind z k n h g = record {
  some = omega (arith, h.some);
  all = omega (arith, h.all, g.all, length-drop k z);
  cut = λ utf8. IsCharBoundary-from_rest z k n h.all (g.cut (IsUtf8-drop z k utf8 (h.cut utf8)));
}

-- where there is such a length, so many bytes are in the text, and the last is this one
pub record EndsIn (last : ℕ) (z : List ℕ) (o : Option ℕ) : Type 0 where
  pub ends : IfSome o (λ n. (1 ≤ n) × (n ≤ length z) × (slice_index z (n - 1) ≡ last))

pub ends_later : (last b : ℕ) (z : List ℕ) (o : Option ℕ) → EndsIn last z o → EndsIn last (b ∷ z) (option_map suc o)
ends_later last b z None h = record { ends = tt }
ends_later last b z (Some n) h =
    let e : suc n - 1 ≡ 1 + (n - 1) = omega arith in record { ends = (omega (arith, h.ends), omega (arith, h.ends), rw e (behind_first b z (n - 1) ∙ h.ends.2)) }

-- what ends in this byte of ASCII behind so many bytes ends where a character does
pub last-ends : (k last : ℕ) (z : List ℕ) (n : ℕ) → 0 < last → last < 128 → EndsIn last (drop k z) (Some n) → Ends z (k + n)
last-ends k last z n some small h =
    let is : slice_index z (k + (n - 1)) ≡ last = sym (get_or-drop k z (n - 1) 0) ∙ h.ends.2 in
    let e : k + (n - 1) + 1 ≡ k + n = omega (arith, h.ends) in
    subst (Ends z) e (ascii-ends z (k + (n - 1)) (byte_within z _ last is some) (omega arith))
