-- One clause less.
use Rattle.std.proofs.Common.{◌≡◌, ℕ, Bool, true, false, not, ◌||◌, ◌==◌, List, [], ◌∷◌, filter, cond, Option, Some, None, is_some, get_or, option_map, ⊎_elim, refl, sym, ap, ◌∙◌, true≢false, eq-eqb}
use Rattle.std.specs.List.{cons_option, list_any}
use Rattle.std.proofs.lemmas.Bool.Decides.{eqb_tells}
use Rattle.iso_clauses.specs.Clauses.{Clause}
use Rattle.iso_clauses.specs.Blocks.{Kept, ids, block_of}
use Rattle.iso_clauses.specs.declared.slots.Label.{Label}
use Rattle.iso_clauses.specs.declared.slots.Slot.{Slot}
use Rattle.iso_clauses.specs.Slots.{clause_at, given, IsCounted, Removes}
use Rattle.iso_clauses.specs.Kept.{IsKept}
use Rattle.iso_clauses.proofs.LabelLemmas.{order_stays, owned_now, Owns-more, Trimmed-more}
use Rattle.iso_clauses.proofs.ViewLemmas.{clause_at-number}
use Rattle.iso_clauses.proofs.GivingLemmas.{Remembers}

pub or_true : (t : Bool) → t || true ≡ true
or_true true = refl
or_true false = refl

module _ {C : Type 0} where
  -- whether a clause has another number
  abbrev pub other : ℕ → Clause C → Bool
  other number c = not (c.number == number)

  pub given-removed : (number : ℕ) (slots : List (Slot C)) (r : ℕ) (more : List (Slot C)) (q : ℕ) → Removes number slots r more q → (ns : List ℕ) → given more q ns ≡ filter (other number) (given slots r ns)
  given-removed number slots r more q removes [] = refl
  given-removed number slots r more q removes (n ∷ ns) =
      ⊎_elim
      (λ e. ap (λ o. cons_option o (given more q ns)) (ap (clause_at more q) e.1 ∙ removes.gone) ∙ given-removed number slots r more q removes ns ∙ gone (clause_at slots r n) refl e.1)
      (λ e. ap (λ o. cons_option o (given more q ns)) (removes.others n e.1) ∙ ap (cons_option (clause_at slots r n)) (given-removed number slots r more q removes ns) ∙ kept (clause_at slots r n) refl e.0)
      (eqb_tells n number)
    where
      rest : List (Clause C)
      rest = given slots r ns

      gone : (o : Option (Clause C)) → clause_at slots r n ≡ o → n ≡ number → filter (other number) rest ≡ filter (other number) (cons_option o rest)
      gone None at e = refl
      gone (Some c) at e = sym (ap (λ b. cond (not b) (c ∷ filter (other number) rest) (filter (other number) rest)) (eq-eqb c.number number (clause_at-number slots r n c at ∙ e)))

      kept : (o : Option (Clause C)) → clause_at slots r n ≡ o → (n == number) ≡ false → cons_option o (filter (other number) rest) ≡ filter (other number) (cons_option o rest)
      kept None at e = refl
      kept (Some c) at e = sym (ap (λ b. cond (not b) (c ∷ filter (other number) rest) (filter (other number) rest)) (ap (λ m. m == number) (clause_at-number slots r n c at) ∙ e))

  pub Remembers-removed : (number : ℕ) (slots : List (Slot C)) (r : ℕ) (more : List (Slot C)) (q : ℕ) → Removes number slots r more q → Remembers slots r more q
  Remembers-removed number slots r more q removes = record { later = removes.later; views = λ made n h within. removes.views made n h }

  pub IsKept-removed : (of : Label → ℕ) (number : ℕ) (slots : List (Slot C)) (r : ℕ) (more : List (Slot C)) (q size : ℕ) (entries : List Kept) → IsKept of slots r size entries → Removes number slots r more q → IsCounted more q → IsKept of more q size entries
  IsKept-removed of number slots r more q size entries kept removes counted = record {
    same = kept.same;
    counted = counted;
    owned = λ p e at block h. Owns-more of slots more p (block_of e block) (λ n h. removes.labels n) (kept.owned p e at block h);
    trimmed = λ p e at. Trimmed-more slots more r q e (λ k d h gone. stays (get_or (ids e.current) k d) gone) (kept.trimmed p e at);
    ordered = λ p e at. order_stays of slots more p (ids e.current) (λ n h. removes.labels n) (owned_now of slots r size entries kept p e at) (kept.ordered p e at);
    listed = λ n p there at.
        ⊎_elim
        (λ e. absurd (true≢false (sym there ∙ ap (λ m. is_some (clause_at more q m)) e.1 ∙ ap is_some removes.gone)))
        (λ e. kept.listed n p (ap is_some (sym (removes.others n e.1)) ∙ there) (ap (option_map of) (sym (removes.labels n)) ∙ at))
        (eqb_tells n number);
  }
    where
      stays : (n : ℕ) → is_some (clause_at slots r n) ≡ false → is_some (clause_at more q n) ≡ false
      stays n gone = ⊎_elim (λ e. ap (λ m. is_some (clause_at more q m)) e.1 ∙ ap is_some removes.gone) (λ e. ap is_some (removes.others n e.1) ∙ gone) (eqb_tells n number)

  -- whether a clause of this number is among these
  abbrev pub has_number : ℕ → List (Clause C) → Bool
  has_number number cs = list_any (λ c. c.number == number) cs

  pub any-given : (slots : List (Slot C)) (r number : ℕ) (ns : List ℕ) → is_some (clause_at slots r number) ≡ true → list_any (λ n. n == number) ns ≡ true → has_number number (given slots r ns) ≡ true
  any-given slots r number [] there h = h
  any-given slots r number (n ∷ ns) there h =
      ⊎_elim
      (λ e. here (clause_at slots r n) refl (ap (λ m. is_some (clause_at slots r m)) e.1 ∙ there) e.1)
      (λ e. later (clause_at slots r n) (any-given slots r number ns there (ap (λ b. b || list_any (λ m. m == number) ns) (sym e.0) ∙ h)))
      (eqb_tells n number)
    where
      here : (o : Option (Clause C)) → clause_at slots r n ≡ o → is_some o ≡ true → n ≡ number → has_number number (cons_option o (given slots r ns)) ≡ true
      here None at e q = absurd (true≢false (sym e))
      here (Some c) at e q = ap (λ b. b || has_number number (given slots r ns)) (eq-eqb c.number number (clause_at-number slots r n c at ∙ q))

      later : (o : Option (Clause C)) → has_number number (given slots r ns) ≡ true → has_number number (cons_option o (given slots r ns)) ≡ true
      later None e = e
      later (Some c) e = ap (λ b. (c.number == number) || b) e ∙ or_true (c.number == number)

  pub none-given : (slots : List (Slot C)) (r number : ℕ) (ns : List ℕ) → is_some (clause_at slots r number) ≡ false → has_number number (given slots r ns) ≡ false
  none-given slots r number [] gone = refl
  none-given slots r number (n ∷ ns) gone = at (clause_at slots r n) refl (none-given slots r number ns gone)
    where
      at : (o : Option (Clause C)) → clause_at slots r n ≡ o → has_number number (given slots r ns) ≡ false → has_number number (cons_option o (given slots r ns)) ≡ false
      at None is e = e
      at (Some c) is e =
          ⊎_elim
          (λ q. absurd (true≢false (ap (λ o. is_some o) (sym is) ∙ ap (λ m. is_some (clause_at slots r m)) (sym (clause_at-number slots r n c is) ∙ q.1) ∙ gone)))
          (λ q. ap (λ b. b || has_number number (given slots r ns)) q.0 ∙ e)
          (eqb_tells c.number number)
