-- The words that stand, and those above them.
use Rattle.std.proofs.Common.{◌≡◌, ◌≤◌, ◌+◌, ◌++◌, ◌-◌, ℕ, List, length, take, drop, sym, ap, ◌∙◌, arith, take-take, take_at, append_assoc, length-append, length-take-le}
use Rattle.std.proofs.lemmas.List.{take-append-drop, take-append-le, length-drop}

module _ {X : Type 0} where
  -- where as many stand as before, more stand above them
  pub more_front : (n m : ℕ) (new old : List X) → n ≤ m → take n new ≡ old → (more : List X) × (take m new ≡ old ++ more)
  more_front n m new old less same = (
    drop n (take m new),
    sym (take-append-drop n (take m new)) ∙ ap (λ (xs : List X). xs ++ drop n (take m new)) (take-take n m new less ∙ same),
  )

  -- the lowest words of a file whose upper end changed
  pub front_grown : (n m : ℕ) (file new more : List X) → n ≤ length file → n ≤ m → new ≡ take m file ++ more
      → take n new ≡ take n file
  front_grown n m file new more inside less is =
      let kept = take m file in
      let same = take-take n m file less in
      let many = ap length same ∙ length-take-le n file inside in
      let whole = sym (length-append (take n kept) (drop n kept)) ∙ ap length (take-append-drop n kept) in
      ap (take n) is ∙ (take-append-le n kept more (omega (arith, many, whole)) ∙ same)

  -- words that were written above those that stood
  pub front_written : (n m k : ℕ) (file below words rest others : List X) → n ≤ length file → below ≡ take n file
      → m ≡ n + length words → m ≤ k
      → take m (take k ((below ++ (words ++ rest)) ++ others)) ≡ take n file ++ words
  front_written n m k file below words rest others inside is many less =
      let long = ap length is ∙ length-take-le n file inside in
      let whole = length-append below (words ++ rest) in
      let back = length-append words rest in
      let both = length-append below words in
      take-take m k ((below ++ (words ++ rest)) ++ others) less
      ∙ (take-append-le m (below ++ (words ++ rest)) others (omega (arith, whole, back, many, long))
      ∙ (ap (take m) (sym (append_assoc below words rest))
      ∙ (take_at (below ++ words) rest m (omega (arith, both, many, long)) ∙ ap (λ (xs : List X). xs ++ words) is)))

  -- the words that stood are the lowest ones of the file
  pub front_stood : (base count : ℕ) (old grown more file : List X) → base ≡ length old → grown ≡ old ++ more
      → take count file ≡ grown → base ≤ count → take base file ≡ old
  front_stood base count old grown more file is adds stand less =
      sym (take-take base count file less)
      ∙ (ap (take base) (stand ∙ adds) ∙ take_at old more base (sym is))

  -- as many stand as the words are
  pub count_is : (count n : ℕ) (grown file : List X) → count ≤ length file → take count file ≡ grown → length grown ≡ n
      → count ≡ n
  count_is count n grown file inside stand many = sym (length-take-le count file inside) ∙ (ap length stand ∙ many)

  -- words that were written above those that stood, which are still there
  pub all_written : (base count k : ℕ) (old file below own rest others : List X) → take base file ≡ old
      → base ≤ length file → below ≡ old → count ≡ base + length own → count ≤ k
      → take count (take k ((below ++ (own ++ rest)) ++ others)) ≡ old ++ own
  all_written base count k old file below own rest others stood inside is many less =
      front_written base count k file below own rest others inside (is ∙ sym stood) many less
      ∙ ap (λ (xs : List X). xs ++ own) stood

  -- how many words are between two places of the file
  pub part_many : (base n count : ℕ) (file part : List X) → count ≡ base + n → count ≤ length file → part ≡ file
      → length (take (base + n - base) (drop base part)) ≡ n
  part_many base n count file part is inside same =
      let size = length-drop base part in
      let whole = ap length same in
      let many : base + n - base ≡ n = omega arith in
      length-take-le (base + n - base) (drop base part) (omega (arith, size, whole, is, inside, many)) ∙ many
