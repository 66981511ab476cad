-- Patterns one behind the other, and the pattern of a compound of the two terms.
use Rattle.std.proofs.Common.{◌≡◌, ◌≤◌, ◌<◌, ℕ, zero, suc, ◌+◌, ◌-◌, List, [], ◌∷◌, ◌++◌, length, take, drop, true, refl, ap, ◌∙◌, sym, subst, arith, append_assoc, length-append, length-take, nat_le}
use Rattle.std.proofs.lemmas.Bool.{and_parts, leb-true, le-leb}
use Rattle.std.proofs.lemmas.List.Elements.{All-append, All-nil, All-cons}
use Rattle.iso_atoms.specs.Texts.{text_at}
use Rattle.iso_model.specs.Terms.Trees.{Tree, Variable, Apply, End, row}
use Rattle.iso_model.specs.Terms.Building.{Gather, with_step}
use Rattle.iso_model.specs.Search.Bodies.{two}
use Rattle.iso_store_core.specs.declared.patterns.Part.{Part}
use Rattle.iso_store_core.specs.declared.patterns.Part.TheVariants.{Compound}
use Rattle.iso_store_core.specs.Exact.{are_exact}
use Rattle.iso_store_core.specs.Patterns.{IsNamed, IsPattern, part_step, after_parts}

-- ---- how many terms there are

pub gathered_length : (f : List ℕ) (n : ℕ) (ts : List Tree) → n ≤ length ts → length (with_step (Gather f n) ts) ≡ length ts - n + 1
gathered_length f n ts few = simp (length-append, length-take) (omega (arith, few))

-- ---- the first of the parts

pub exact_first : (ks : List Part) (n m : ℕ) → are_exact ks m ≡ true → are_exact (take n ks) m ≡ true
exact_first ks zero m h = refl
exact_first [] (suc n) m h = refl
exact_first (Compound a k ∷ ks) (suc n) m h =
    let both = and_parts (nat_le k m) (are_exact ks (m - k + 1)) h in
    rw both.0 (exact_first ks n (m - k + 1) both.1)
exact_first (k ∷ ks) (suc n) m h = exact_first ks n (m + 1) h

-- ---- parts behind a term

exact_behind : (ks : List Part) (m : ℕ) → are_exact ks m ≡ true → are_exact ks (m + 1) ≡ true
exact_behind [] m h = refl
exact_behind (Compound a n ∷ ks) m h =
    let both = and_parts (nat_le n m) (are_exact ks (m - n + 1)) h in
    let few = leb-true n m both.0 in
    let more = le-leb n (m + 1) (omega (arith, few)) in
    let count : m - n + 1 + 1 ≡ m + 1 - n + 1 = omega (arith, few) in
    rw more (subst (λ k. are_exact ks k ≡ true) count (exact_behind ks (m - n + 1) both.1))
exact_behind (k ∷ ks) m h = exact_behind ks (m + 1) h

module _ (names : List (List ℕ)) where
  pub after_joined : (ks ls : List Part) (ts : List Tree) → after_parts names (ks ++ ls) ts ≡ after_parts names ls (after_parts names ks ts)
  after_joined [] ls ts = refl
  after_joined (k ∷ ks) ls ts = after_joined ks ls (with_step (part_step names Variable k) ts)

  after_behind : (t : Tree) (ks : List Part) (ts : List Tree) → are_exact ks (length ts) ≡ true → after_parts names ks (t ∷ ts) ≡ t ∷ after_parts names ks ts
  after_behind t [] ts h = refl
  after_behind t (Compound a n ∷ ks) ts h =
      let f = text_at names a in
      let both = and_parts (nat_le n (length ts)) (are_exact ks (length ts - n + 1)) h in
      let few = leb-true n (length ts) both.0 in
      let new = with_step (Gather f n) ts in
      let place : length (t ∷ ts) - n ≡ suc (length ts - n) = omega (arith, few) in
      let here : with_step (Gather f n) (t ∷ ts) ≡ t ∷ new = ap (λ m. take m (t ∷ ts) ++ Apply f (row (drop m (t ∷ ts))) ∷ []) place in
      ap (after_parts names ks) here ∙ after_behind t ks new (rw (gathered_length f n ts few) both.1)
  after_behind t (k ∷ ks) ts h = after_behind t ks _ (subst (λ m. are_exact ks m ≡ true) (sym (length-append ts _)) h)

  exact_joined : (ks ls : List Part) (ts : List Tree) → are_exact ks (length ts) ≡ true → are_exact ls (length (after_parts names ks ts)) ≡ true → are_exact (ks ++ ls) (length ts) ≡ true
  exact_joined [] ls ts h others = others
  exact_joined (Compound a n ∷ ks) ls ts h others =
      let both = and_parts (nat_le n (length ts)) (are_exact ks (length ts - n + 1)) h in
      let few = leb-true n (length ts) both.0 in
      let new = with_step (Gather (text_at names a) n) ts in
      let many : length new ≡ length ts - n + 1 = gathered_length (text_at names a) n ts few in
      rw both.0 (subst (λ m. are_exact (ks ++ ls) m ≡ true) many (exact_joined ks ls new (rw many both.1) others))
  exact_joined (k ∷ ks) ls ts h others =
      let new = with_step (part_step names Variable k) ts in
      let many = length-append ts _ in
      subst (λ m. are_exact (ks ++ ls) m ≡ true) many (exact_joined ks ls new (subst (λ m. are_exact ks m ≡ true) (sym many) h) others)

-- ---- a compound of two terms

pub pair_exact : (names others : List (List ℕ)) (ks ls : List Part) (t u : Tree) (a : ℕ) → are_exact ks 0 ≡ true → IsPattern names ks t → are_exact ls 0 ≡ true → IsPattern others ls u
    → are_exact ((ks ++ ls) ++ Compound a 2 ∷ []) 0 ≡ true
pair_exact names others ks ls t u a first is second also =
    let two_terms : after_parts others ls (End ∷ []) ≡ End ∷ u ∷ [] = after_behind others End ls [] second ∙ ap (λ ts. End ∷ ts) also.term in
    let behind : are_exact (ls ++ Compound a 2 ∷ []) 1 ≡ true = exact_joined others ls (Compound a 2 ∷ []) (End ∷ []) (exact_behind ls 0 second) (rw two_terms refl) in
    rw (append_assoc ks ls (Compound a 2 ∷ [])) (exact_joined names ks (ls ++ Compound a 2 ∷ []) [] first (rw is.term behind))

pub pair_pattern : (names : List (List ℕ)) (ks ls : List Part) (t u : Tree) (a : ℕ) → are_exact ls 0 ≡ true → a < length names → IsPattern names ks t → IsPattern names ls u
    → IsPattern names ((ks ++ ls) ++ Compound a 2 ∷ []) (two (text_at names a) t u)
pair_pattern names ks ls t u a exact named first second = record {
  named = All-append (IsNamed names) (ks ++ ls) (Compound a 2 ∷ []) (All-append (IsNamed names) ks ls first.named second.named) (All-cons (IsNamed names) (Compound a 2) [] named (All-nil (IsNamed names)));
  term =
      after_joined names (ks ++ ls) (Compound a 2 ∷ []) []
      ∙ ap (after_parts names (Compound a 2 ∷ [])) (after_joined names ks ls [] ∙ ap (after_parts names ls) first.term ∙ after_behind names t ls [] exact ∙ ap (λ ts. t ∷ ts) second.term);
}
