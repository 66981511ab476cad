-- The variables that a head doesn't meet.
use Rattle.std.proofs.Common.{◌≡◌, ◌≢◌, ◌+◌, ◌++◌, ◌<◌, ◌≤◌, ℕ, Bool, true, false, List, [], ◌∷◌, inl, inr, refl, ap, ◌∙◌, arith}
use Rattle.std.specs.List.{All}
use Rattle.std.proofs.lemmas.Bool.{cases_eq, eq-eqb, ne_eqb}
use Rattle.std.proofs.lemmas.List.Elements.{All-nil, All-push}
use Rattle.iso_code.specs.declared.operands.Head.{Head}
use Rattle.iso_code.specs.declared.operands.Operand.{Operand}
use Rattle.iso_code.specs.declared.operands.Operand.TheVariants.{New}
use Rattle.iso_code.specs.Loaded.{AreMarked, met_after, met_behind}
use Rattle.iso_code.proofs.MarkLemmas.{behind_both, marked_append}
use Rattle.iso_bodies.specs.Clauses.{IsFresh, IsNewBelow, head_operands, none_met}

-- behind a new variable it was met, and others as before
met_new : (met : ℕ → Bool) (v : ℕ) → met_after met (New v) v ≡ true
met_new met v = rw (eq-eqb v v refl) refl

met_other : (met : ℕ → Bool) (v x : ℕ) → x ≢ v → met_after met (New v) x ≡ met x
met_other met v x other = rw (ne_eqb x v other) refl

-- These are the variables, of so many, that weren't met and have numbers below the next one.
pub record AreBegun (met : ℕ → Bool) (count next : ℕ) (fresh : List Operand) : Type 0 where
  pub new : All (IsNewBelow count) fresh
  pub marked : AreMarked met fresh
  pub whole : (x : ℕ) → x < next → met_behind met fresh x ≡ true
  pub rest : (x : ℕ) → next ≤ x → met_behind met fresh x ≡ met x

pub none_begun : (met : ℕ → Bool) (count : ℕ) → AreBegun met count 0 []
none_begun met count = record {
  new = All-nil (IsNewBelow count);
  marked = tt;
  whole = λ x below. absurd (omega (arith, below));
  rest = λ x above. refl;
}

-- the next one was met
pub met_begun : (met : ℕ → Bool) (count next : ℕ) (fresh : List Operand) → met next ≡ true → AreBegun met count next fresh → AreBegun met count (next + 1) fresh
met_begun met count next fresh is h = record {
  new = h.new;
  marked = h.marked;
  whole = λ x below. elim (cases_eq x next) [
    | inl same ↦ ap (met_behind met fresh) same ∙ h.rest next (omega arith) ∙ is
    | inr other ↦ h.whole x (omega (arith, below, other))
  ];
  rest = λ x above. h.rest x (omega (arith, above));
}

-- it wasn't
pub new_begun : (met : ℕ → Bool) (count next : ℕ) (fresh : List Operand) → next < count → met next ≡ false → AreBegun met count next fresh → AreBegun met count (next + 1) (fresh ++ New next ∷ [])
new_begun met count next fresh room is h =
    let behind = behind_both met fresh (New next ∷ []) in
    record {
      new = All-push (IsNewBelow count) fresh (New next) h.new room;
      marked = marked_append met fresh (New next ∷ []) h.marked (h.rest next (omega arith) ∙ is, tt);
      whole = λ x below. ap (λ f. f x) behind ∙ elim (cases_eq x next) [
        | inl same ↦ ap (λ k. met_behind (met_behind met fresh) (New next ∷ []) k) same ∙ met_new (met_behind met fresh) next
        | inr other ↦ met_other (met_behind met fresh) next x other ∙ h.whole x (omega (arith, below, other))
      ];
      rest = λ x above. ap (λ f. f x) behind ∙ met_other (met_behind met fresh) next x (λ same. omega (arith, above, same)) ∙ h.rest x (omega (arith, above));
    }

-- Where all numbers are seen, these are the variables that the head doesn't meet.
pub all_begun : (head : Head) (count next : ℕ) (fresh : List Operand) → count ≤ next → AreBegun (met_behind none_met (head_operands head)) count next fresh → IsFresh head count fresh
all_begun head count next fresh all h = record {
  new = h.new;
  marked = h.marked;
  whole = λ x below. ap (λ f. f x) (behind_both none_met (head_operands head) fresh) ∙ h.whole x (omega (arith, below, all));
}
