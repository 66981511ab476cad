-- Terms are told by their parts: equal parts are those of one term.
use Rattle.std.proofs.Common.{◌≡◌, ℕ, List, [], ◌∷◌, ◌++◌, map, Bool, true, false, ◌&&◌, refl, sym, ap₂, subst, ◌∙◌, arith}
use Rattle.std.proofs.lemmas.Bool.{and_parts, false≢true}
use Rattle.std.proofs.lemmas.List.{append_assoc}
use Rattle.iso_model.specs.declared.terms.Term.{Term}
use Rattle.iso_model.specs.declared.terms.Term.TheOpen.{Term-F}
use Rattle.iso_model.specs.declared.terms.Term.TheViews.{roll-Term}
use Rattle.iso_model.specs.declared.terms.Term.TheFolds.{fold-roll-Term, ind-Term, map-Term}
use Rattle.iso_model.specs.Terms.Trees.{Tree, Variable, Integer, Name, Apply, End, More, count}
use Rattle.iso_model.specs.Terms.TermOf.{term_of, row_of, term_step}
use Rattle.iso_model.specs.Terms.Substitutions.{apply}
use Rattle.iso_lib_core.specs.Variants.{Sign, signs}

-- a term whose compounds have lists of terms as arguments
abbrev mutual
  pub is_built : Tree → Bool
  is_built (Variable n) = true
  is_built (Integer z) = true
  is_built (Name a) = true
  is_built (Apply f ts) = are_built ts
  is_built End = false
  is_built (More t ts) = false

  pub are_built : Tree → Bool
  are_built End = true
  are_built (More t ts) = is_built t && are_built ts
  are_built (Variable n) = false
  are_built (Integer z) = false
  are_built (Name a) = false
  are_built (Apply f ts) = false

mutual
  pub signs_one : (t u : Tree) (r q : List Sign) → is_built t ≡ true → is_built u ≡ true → signs t ++ r ≡ signs u ++ q → (t ≡ u) × (r ≡ q)
  signs_one (Variable m) (Variable n) r q h k e = (cc, cc)
  signs_one (Integer y) (Integer z) r q h k e = (cc, cc)
  signs_one (Name a) (Name b) r q h k e = (cc, cc)
  signs_one (Apply f ts) (Apply g us) r q h k e =
      let name : f ≡ g = cc in
      let many : count ts ≡ count us = cc in
      let behind : signs ts ++ r ≡ signs us ++ q = cc in
      let others = signs_all ts us r q h k many behind in
      (ap₂ Apply name others.0, others.1)
  signs_one (Variable m) (Integer z) r q h k e = absurd (cc)
  signs_one (Variable m) (Name b) r q h k e = absurd (cc)
  signs_one (Variable m) (Apply g us) r q h k e = absurd (cc)
  signs_one (Integer y) (Variable n) r q h k e = absurd (cc)
  signs_one (Integer y) (Name b) r q h k e = absurd (cc)
  signs_one (Integer y) (Apply g us) r q h k e = absurd (cc)
  signs_one (Name a) (Variable n) r q h k e = absurd (cc)
  signs_one (Name a) (Integer z) r q h k e = absurd (cc)
  signs_one (Name a) (Apply g us) r q h k e = absurd (cc)
  signs_one (Apply f ts) (Variable n) r q h k e = absurd (cc)
  signs_one (Apply f ts) (Integer z) r q h k e = absurd (cc)
  signs_one (Apply f ts) (Name b) r q h k e = absurd (cc)
  signs_one End u r q h k e = absurd (false≢true h)
  signs_one (More t ts) u r q h k e = absurd (false≢true h)
  signs_one (Variable m) End r q h k e = absurd (false≢true k)
  signs_one (Integer y) End r q h k e = absurd (false≢true k)
  signs_one (Name a) End r q h k e = absurd (false≢true k)
  signs_one (Apply f ts) End r q h k e = absurd (false≢true k)
  signs_one (Variable m) (More u us) r q h k e = absurd (false≢true k)
  signs_one (Integer y) (More u us) r q h k e = absurd (false≢true k)
  signs_one (Name a) (More u us) r q h k e = absurd (false≢true k)
  signs_one (Apply f ts) (More u us) r q h k e = absurd (false≢true k)

  signs_all : (ts us : Tree) (r q : List Sign) → are_built ts ≡ true → are_built us ≡ true → count ts ≡ count us → signs ts ++ r ≡ signs us ++ q → (ts ≡ us) × (r ≡ q)
  signs_all End End r q h k many e = (refl, e)
  signs_all (More t ts) (More u us) r q h k many e =
      let left = and_parts (is_built t) (are_built ts) h in
      let right = and_parts (is_built u) (are_built us) k in
      let whole = sym (append_assoc (signs t) (signs ts) r) ∙ e ∙ append_assoc (signs u) (signs us) q in
      let first = signs_one t u (signs ts ++ r) (signs us ++ q) left.0 right.0 whole in
      let others = signs_all ts us r q left.1 right.1 (omega (arith, many)) first.1 in
      (ap₂ More first.0 others.0, others.1)
  signs_all End (More u us) r q h k many e = absurd (omega (arith, many))
  signs_all (More t ts) End r q h k many e = absurd (omega (arith, many))
  signs_all (Variable n) us r q h k many e = absurd (false≢true h)
  signs_all (Integer z) us r q h k many e = absurd (false≢true h)
  signs_all (Name a) us r q h k many e = absurd (false≢true h)
  signs_all (Apply f ts) us r q h k many e = absurd (false≢true h)
  signs_all End (Variable n) r q h k many e = absurd (false≢true k)
  signs_all End (Integer z) r q h k many e = absurd (false≢true k)
  signs_all End (Name a) r q h k many e = absurd (false≢true k)
  signs_all End (Apply f us) r q h k many e = absurd (false≢true k)
  signs_all (More t ts) (Variable n) r q h k many e = absurd (false≢true k)
  signs_all (More t ts) (Integer z) r q h k many e = absurd (false≢true k)
  signs_all (More t ts) (Name a) r q h k many e = absurd (false≢true k)
  signs_all (More t ts) (Apply f us) r q h k many e = absurd (false≢true k)

-- ---- terms of Rust terms are built so

abbrev IsBuilt : Term → Type 0
IsBuilt t = is_built (term_of t) ≡ true

-- a term with that fact
abbrev Built : Type 0
Built = (t : Term) × IsBuilt t

members : (us : List Built) → are_built (row_of (map (λ u. u.0) us)) ≡ true
members [] = refl
members (u ∷ us) = ap₂ (λ a b. a && b) u.1 (members us)

from_parts : (y : Term-F Built) → IsBuilt (roll-Term (map-Term Built Term (λ u. u.0) y))
from_parts (Term-F.Var n) = rw (fold-roll-Term Tree term_step (Term-F.Var n)) refl
from_parts (Term-F.Int z) = rw (fold-roll-Term Tree term_step (Term-F.Int z)) refl
from_parts (Term-F.Atom a) = rw (fold-roll-Term Tree term_step (Term-F.Atom a)) refl
from_parts (Term-F.Compound f v) = rw (fold-roll-Term Tree term_step (map-Term Built Term (λ u. u.0) (Term-F.Compound f v))) (members v.items)

pub built_term : (t : Term) → is_built (term_of t) ≡ true
built_term t = ind-Term IsBuilt (λ x y e. subst (λ z. IsBuilt (roll-Term z)) e (from_parts y)) t

-- other variables change nothing of that
mutual
  pub renamed_built : (f : ℕ → ℕ) (t : Tree) → is_built (apply (λ x. Variable (f x)) t) ≡ is_built t
  renamed_built f (Variable n) = refl
  renamed_built f (Integer z) = refl
  renamed_built f (Name a) = refl
  renamed_built f (Apply g ts) = renamed_all f ts
  renamed_built f End = refl
  renamed_built f (More t ts) = refl

  renamed_all : (f : ℕ → ℕ) (ts : Tree) → are_built (apply (λ x. Variable (f x)) ts) ≡ are_built ts
  renamed_all f (Variable n) = refl
  renamed_all f (Integer z) = refl
  renamed_all f (Name a) = refl
  renamed_all f (Apply g ts) = refl
  renamed_all f End = refl
  renamed_all f (More t ts) = ap₂ (λ a b. a && b) (renamed_built f t) (renamed_all f ts)
