-- Names that come: a pattern stands for its term still.
use Rattle.std.proofs.Common.{◌≡◌, ℕ, ◌<◌, List, [], ◌∷◌, length, map, get_or, suc, refl, ap, ap₂, sym, ◌∙◌, arith}
use Rattle.std.specs.List.{All}
use Rattle.iso_atoms.specs.Texts.{KeepsTexts}
use Rattle.iso_model.specs.Terms.Trees.{Tree, Variable, Name}
use Rattle.iso_model.specs.Terms.Substitutions.{Subst}
use Rattle.iso_model.specs.Terms.Building.{Give, Gather, with_step}
use Rattle.iso_store_core.specs.declared.patterns.Part.{Part}
use Rattle.iso_store_core.specs.declared.patterns.Part.TheVariants.{Variable as Place, Integer as Number, Atom, Compound}
use Rattle.iso_store_core.specs.Patterns.{IsNamed, IsPattern, part_step, after_parts}
use Rattle.iso_store_core.proofs.AtomLemmas.{atom-kept, text-kept}

module _ (old new : List (List ℕ)) (keeps : KeepsTexts old new) where
  part-named : (k : Part) → IsNamed old k → IsNamed new k
  part-named (Place k) h = tt
  part-named (Number z) h = tt
  part-named (Atom a) h = atom-kept old new keeps a h
  part-named (Compound a n) h = atom-kept old new keeps a h

  pub parts-named : (ks : List Part) → All (IsNamed old) ks → All (IsNamed new) ks
  parts-named ks named i d below = part-named (get_or ks i d) (named i d below)

  step-kept : (s : Subst) (k : Part) → IsNamed old k → part_step new s k ≡ part_step old s k
  step-kept s (Place k) h = refl
  step-kept s (Number z) h = refl
  step-kept s (Atom a) h = ap (λ t. Give (Name t ∷ [])) (text-kept old new keeps a h)
  step-kept s (Compound a n) h = ap (λ t. Gather t n) (text-kept old new keeps a h)

  pub steps-kept : (s : Subst) (ks : List Part) → All (IsNamed old) ks → map (part_step new s) ks ≡ map (part_step old s) ks
  steps-kept s [] named = refl
  steps-kept s (k ∷ ks) named =
      ap₂ ◌∷◌ (step-kept s k (named 0 k (omega arith))) (steps-kept s ks (λ i d below. named (suc i) d (omega arith)))

  after-kept : (ks : List Part) → All (IsNamed old) ks → (ts : List Tree) → after_parts new ks ts ≡ after_parts old ks ts
  after-kept [] named ts = refl
  after-kept (k ∷ ks) named ts =
      ap (λ j. after_parts new ks (with_step j ts)) (step-kept Variable k (named 0 k (omega arith)))
      ∙ after-kept ks (λ i d below. named (suc i) d (omega arith)) (with_step (part_step old Variable k) ts)

  -- a pattern stands for its term still
  pub pattern-kept : (ks : List Part) (t : Tree) → IsPattern old ks t → IsPattern new ks t
  pattern-kept ks t is = record { named = parts-named ks is.named; term = after-kept ks is.named [] ∙ is.term }

-- a pattern is of one term
pub pattern-one : (names : List (List ℕ)) (ks : List Part) (t u : Tree) → IsPattern names ks t → IsPattern names ks u → t ≡ u
pattern-one names ks t u is other = (let same : t ∷ [] ≡ u ∷ [] = sym is.term ∙ other.term in cc same)
