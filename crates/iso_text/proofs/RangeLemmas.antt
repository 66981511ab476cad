-- Numbers in a row, of which those that pass a test are kept.
use Rattle.std.proofs.Common.{◌≡◌, ℕ, zero, suc, ◌+◌, ◌-◌, ◌<◌, ◌≤◌, List, [], ◌∷◌, ◌++◌, map, refl, ap, ap₂, ◌∙◌, Bool, true, false, cond, append-nil, arith}
use Rattle.std.proofs.lemmas.List.{map-append}
use Rattle.std.proofs.lemmas.List.Elements.{filter-append}
use Rattle.std.specs.List.{filter, range_with_len}
use Rattle.iso_text.specs.Bounds.{PassFrom}

pub range_split : (a m n k b : ℕ) → k ≡ m + n → b ≡ a + m → range_with_len a k ≡ range_with_len a m ++ range_with_len b n
range_split a zero n k b all here = let counts : k ≡ n = omega arith in let begins : a ≡ b = omega arith in ap₂ range_with_len begins counts
range_split a (suc m) n zero b all here = absurd (omega arith)
range_split a (suc m) n (suc k) b all here = ap (λ (ns : List ℕ). a ∷ ns) (range_split (a + 1) m n k b (omega arith) (omega arith))

none_kept : {X : Type 0} (f : X → Bool) (h : ℕ → X) (a n : ℕ) → ((k : ℕ) → a ≤ k → k < a + n → f (h k) ≡ false) → filter f (map h (range_with_len a n)) ≡ []
none_kept f h a zero fail = refl
none_kept f h a (suc n) fail =
    let others = filter f (map h (range_with_len (a + 1) n)) in
    ap (λ (b : Bool). cond b (h a ∷ others) others) (fail a (omega arith) (omega arith)) ∙ none_kept f h (a + 1) n (λ k from below. fail k (omega arith) (omega arith))

all_kept : {X : Type 0} (f : X → Bool) (h : ℕ → X) (a n : ℕ) → ((k : ℕ) → a ≤ k → k < a + n → f (h k) ≡ true) → filter f (map h (range_with_len a n)) ≡ map h (range_with_len a n)
all_kept f h a zero pass = refl
all_kept {X = X} f h a (suc n) pass =
    let others = filter f (map h (range_with_len (a + 1) n)) in
    ap (λ (b : Bool). cond b (h a ∷ others) others) (pass a (omega arith) (omega arith))
    ∙ ap (λ (xs : List X). h a ∷ xs) (all_kept f h (a + 1) n (λ k from below. pass k (omega arith) (omega arith)))

-- none of the numbers up to this one passes
pub none_pass : {X : Type 0} (f : X → Bool) (h : ℕ → X) (most : ℕ) → ((n : ℕ) → n ≤ most → f (h n) ≡ false) → filter f (map h (range_with_len 0 (suc most))) ≡ []
none_pass f h most fail = none_kept f h 0 (suc most) (λ k from below. fail k (omega arith))

-- those that pass stand in a row
pub row_passes : {X : Type 0} (f : X → Bool) (h : ℕ → X) (most least more : ℕ) → PassFrom (λ n. f (h n)) most least more → filter f (map h (range_with_len 0 (suc most))) ≡ map h (range_with_len least (suc more))
row_passes {X = X} f h most least more pass =
    let within = pass.within in
    let left = suc most - least in
    let behind = most - (least + more) in
    let here = least + suc more in
    let first = range_with_len 0 least in
    let middle = range_with_len least (suc more) in
    let last = range_with_len here behind in
    let split : range_with_len 0 (suc most) ≡ first ++ (middle ++ last) =
    range_split 0 least left (suc most) least (omega arith) (omega arith) ∙ ap (λ (ns : List ℕ). first ++ ns) (range_split least (suc more) behind left here (omega arith) refl) in
    let below = none_kept f h 0 least (λ k from under. pass.below k (omega arith)) in
    let mid = all_kept f h least (suc more) (λ k from under. pass.here k from (omega arith)) in
    let above = none_kept f h here behind (λ k from under. pass.above k (omega arith) (omega arith)) in
    ap (λ (ns : List ℕ). filter f (map h ns)) split
    ∙ ap (filter f) (map-append h first (middle ++ last)) ∙ filter-append f (map h first) (map h (middle ++ last))
    ∙ ap₂ (λ (xs ys : List X). xs ++ filter f ys) below (map-append h middle last)
    ∙ filter-append f (map h middle) (map h last)
    ∙ ap₂ (λ (xs ys : List X). xs ++ ys) mid above
    ∙ append-nil (map h middle)
