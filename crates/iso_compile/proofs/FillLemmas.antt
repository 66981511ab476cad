-- Blocks that make their compounds, inner ones first.
use Rattle.std.proofs.Common.{◌≡◌, ◌⊎◌, ◌<◌, ◌≤◌, ◌+◌, ◌&&◌, ℕ, true, List, [], ◌∷◌, ◌++◌, inl, inr, refl, ap, ap₂, ◌∙◌, arith}
use Rattle.std.proofs.lemmas.Bool.{false≢true, cases_eq, and_parts}
use Rattle.iso_model.specs.Terms.Trees.{Tree, Variable, Integer, Name, Apply, End, More, count}
use Rattle.iso_model.specs.Terms.Sorts.{is_term, is_row}
use Rattle.iso_model.specs.Terms.Copies.{renamed}
use Rattle.iso_model.proofs.OnTerms.SortLemmas.{term_applied}
use Rattle.std.specs.Prelude.{nat_le}
use Rattle.iso_compile.specs.Table.{Registers, Block, assign, made, filled, part_term, part_row}
use Rattle.iso_compile.specs.TermCode.{tops, deep, part, parts, blocks}
use Rattle.iso_compile.proofs.ReadLemmas.{assign_here, assign_other}

pub row_of_arguments : (f : List ℕ) (ts : Tree) → is_term (Apply f ts) ≡ true → is_row ts ≡ true
row_of_arguments f ts h = (and_parts (nat_le (count ts) 255) (is_row ts) (and_parts (nat_le 1 (count ts)) (nat_le (count ts) 255 && is_row ts) h).1).1

module _ (next : ℕ) where
  pub filled_append : (xs ys : List Block) (rs : Registers) → filled next (xs ++ ys) rs ≡ filled next xs (filled next ys rs)
  filled_append [] ys rs = refl
  filled_append (b ∷ xs) ys rs = ap (λ us. assign us b.register (made next us b)) (filled_append xs ys rs)

  pub filled_keeps : (r m : ℕ) (t : Tree) (rs : Registers) (k : ℕ) → r + tops t ≤ m → (k < r) ⊎ (r + tops t ≤ k) → k < m → filled next (blocks r m t) rs k ≡ rs k
  filled_keeps r m (Apply f ts) rs k room side low =
      let us : Registers = filled next (blocks m (m + tops ts) ts) rs in
      assign_other us r k (Apply f (part_row next us (parts m ts))) (λ e. elim side [
        | inl below ↦ absurd (omega (arith, below, e))
        | inr above ↦ absurd (omega (arith, above, e))
      ]) ∙ filled_keeps m (m + tops ts) ts rs k (omega arith) (inl low) (omega (arith, low))
  filled_keeps r m (More t ts) rs k room side low =
      ap (λ us. us k) (filled_append (blocks r m t) (blocks (r + tops t) (m + deep t) ts) rs)
      ∙ filled_keeps r m t (filled next (blocks (r + tops t) (m + deep t) ts) rs) k (omega (arith, room)) (elim side [
        | inl below ↦ inl below
        | inr above ↦ inr (omega (arith, above))
      ]) low
      ∙ filled_keeps (r + tops t) (m + deep t) ts rs k (omega (arith, room)) (elim side [
        | inl below ↦ inl (omega (arith, below))
        | inr above ↦ inr (omega (arith, above))
      ]) (omega (arith, low))
  filled_keeps r m (Variable n) rs k room side low = refl
  filled_keeps r m (Integer z) rs k room side low = refl
  filled_keeps r m (Name a) rs k room side low = refl
  filled_keeps r m End rs k room side low = refl

  part_same : (r : ℕ) (t : Tree) (rs us : Registers) → is_term t ≡ true → ((k : ℕ) → r ≤ k → k < r + tops t → rs k ≡ us k) → part_term next rs (part r t) ≡ part_term next us (part r t)
  part_same r (Variable n) rs us term same = refl
  part_same r (Integer z) rs us term same = refl
  part_same r (Name a) rs us term same = refl
  part_same r (Apply f ts) rs us term same = same r (omega arith) (omega arith)
  part_same r End rs us term same = absurd (false≢true term)
  part_same r (More t ts) rs us term same = absurd (false≢true term)

  parts_same : (r : ℕ) (ts : Tree) (rs us : Registers) → is_row ts ≡ true → ((k : ℕ) → r ≤ k → k < r + tops ts → rs k ≡ us k) → part_row next rs (parts r ts) ≡ part_row next us (parts r ts)
  parts_same r (More t ts) rs us form same =
      let both = and_parts (is_term t) (is_row ts) form in
      ap₂ More (part_same r t rs us both.0 (λ k a b. same k a (omega (arith, b))))
      (parts_same (r + tops t) ts rs us both.1 (λ k a b. same k (omega (arith, a)) (omega (arith, b))))
  parts_same r (Variable n) rs us form same = refl
  parts_same r (Integer z) rs us form same = refl
  parts_same r (Name a) rs us form same = refl
  parts_same r (Apply f ts) rs us form same = refl
  parts_same r End rs us form same = refl

  mutual
    pub term_made : (r m : ℕ) (t : Tree) (rs : Registers) → is_term t ≡ true → r + tops t ≤ m → part_term next (filled next (blocks r m t) rs) (part r t) ≡ renamed next t
    term_made r m (Variable n) rs term room = refl
    term_made r m (Integer z) rs term room = refl
    term_made r m (Name a) rs term room = refl
    term_made r m (Apply f ts) rs term room =
        let us : Registers = filled next (blocks m (m + tops ts) ts) rs in
        assign_here us r r (Apply f (part_row next us (parts m ts))) refl
        ∙ ap (Apply f) (row_made m (m + tops ts) ts rs (row_of_arguments f ts term) (omega arith))
    term_made r m End rs term room = absurd (false≢true term)
    term_made r m (More t ts) rs term room = absurd (false≢true term)

    pub row_made : (r m : ℕ) (ts : Tree) (rs : Registers) → is_row ts ≡ true → r + tops ts ≤ m → part_row next (filled next (blocks r m ts) rs) (parts r ts) ≡ renamed next ts
    row_made r m (More t ts) rs form room =
        let both = and_parts (is_term t) (is_row ts) form in
        let us : Registers = filled next (blocks (r + tops t) (m + deep t) ts) rs in
        ap (λ vs. part_row next vs (parts r (More t ts))) (filled_append (blocks r m t) (blocks (r + tops t) (m + deep t) ts) rs)
        ∙ ap₂ More (term_made r m t us both.0 (omega (arith, room)))
        (parts_same (r + tops t) ts (filled next (blocks r m t) us) us both.1
        (λ k a b. filled_keeps r m t us k (omega (arith, room)) (inr a) (omega (arith, room, b)))
        ∙ row_made (r + tops t) (m + deep t) ts rs both.1 (omega (arith, room)))
    row_made r m End rs form room = refl
    row_made r m (Variable n) rs form room = absurd (false≢true form)
    row_made r m (Integer z) rs form room = absurd (false≢true form)
    row_made r m (Name a) rs form room = absurd (false≢true form)
    row_made r m (Apply f ts) rs form room = absurd (false≢true form)

  mutual
    -- registers that have terms have terms behind blocks
    pub term_filled : (r m : ℕ) (t : Tree) (rs : Registers) → is_term t ≡ true → r + tops t ≤ m → ((k : ℕ) → is_term (rs k) ≡ true) → (k : ℕ) → is_term (filled next (blocks r m t) rs k) ≡ true
    term_filled r m (Variable n) rs term room terms k = terms k
    term_filled r m (Integer z) rs term room terms k = terms k
    term_filled r m (Name a) rs term room terms k = terms k
    term_filled r m (Apply f ts) rs term room terms k =
        let us : Registers = filled next (blocks m (m + tops ts) ts) rs in
        let row = row_of_arguments f ts term in
        elim (cases_eq k r) [
          | inl same ↦ ap is_term (assign_here us r k (Apply f (part_row next us (parts m ts))) same ∙ ap (Apply f) (row_made m (m + tops ts) ts rs row (omega arith)))
              ∙ term_applied (λ x. Variable (next + x)) (Apply f ts) term (λ n o. refl)
          | inr other ↦ ap is_term (assign_other us r k (Apply f (part_row next us (parts m ts))) other) ∙ row_filled m (m + tops ts) ts rs row (omega arith) terms k
        ]
    term_filled r m End rs term room terms k = absurd (false≢true term)
    term_filled r m (More t ts) rs term room terms k = absurd (false≢true term)

    pub row_filled : (r m : ℕ) (ts : Tree) (rs : Registers) → is_row ts ≡ true → r + tops ts ≤ m → ((k : ℕ) → is_term (rs k) ≡ true) → (k : ℕ) → is_term (filled next (blocks r m ts) rs k) ≡ true
    row_filled r m (More t ts) rs form room terms k =
        let both = and_parts (is_term t) (is_row ts) form in
        let us : Registers = filled next (blocks (r + tops t) (m + deep t) ts) rs in
        ap (λ vs. is_term (vs k)) (filled_append (blocks r m t) (blocks (r + tops t) (m + deep t) ts) rs)
        ∙ term_filled r m t us both.0 (omega (arith, room)) (row_filled (r + tops t) (m + deep t) ts rs both.1 (omega (arith, room)) terms) k
    row_filled r m End rs form room terms k = terms k
    row_filled r m (Variable n) rs form room terms k = absurd (false≢true form)
    row_filled r m (Integer z) rs form room terms k = absurd (false≢true form)
    row_filled r m (Name a) rs form room terms k = absurd (false≢true form)
    row_filled r m (Apply f ts) rs form room terms k = absurd (false≢true form)
