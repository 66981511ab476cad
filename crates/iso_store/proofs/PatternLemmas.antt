-- Terms that are written out part by part.
use Rattle.std.proofs.Common.{◌≡◌, ℕ, ◌+◌, ◌<◌, List, [], ◌∷◌, ◌++◌, length, map, reverse, refl, ap, sym, ◌∙◌, arith}
use Rattle.std.specs.Borrow.{Bor}
use Rattle.std.specs.List.{All}
use Rattle.std.proofs.lemmas.List.{map-append, length-map}
use Rattle.std.proofs.lemmas.List.Elements.{All-push}
use Rattle.std.proofs.lemmas.List.Sorted.{All-permutation, IsPermutation-reverse}
use Rattle.std.proofs.lemmas.Grind.{reverse_onto}
use Rattle.iso_atoms.specs.Texts.{KeepsTexts}
use Rattle.iso_model.specs.declared.terms.Term.{Term}
use Rattle.iso_model.specs.Terms.Trees.{Tree, Variable, Apply, row}
use Rattle.iso_model.specs.Terms.TermOf.{term_of}
use Rattle.iso_model.specs.Terms.Sizes.{size}
use Rattle.iso_model.specs.Terms.Substitutions.{Subst, apply}
use Rattle.iso_model.specs.Terms.Building.{Give, Gather, with_step, with_steps}
use Rattle.iso_model.proofs.OnTerms.BuildingLemmas.{with_steps-more, with_gathered}
use Rattle.iso_model.proofs.OnTerms.CostOfRows.{apply-row}
use Rattle.iso_store_core.specs.declared.patterns.Part.{Part}
use Rattle.iso_store_core.specs.Patterns.{IsNamed, IsPattern, part_step, after_parts}
use Rattle.iso_store.specs.Writing.{terms_left}
use Rattle.iso_store_core.proofs.PatternLemmas.{parts-named, steps-kept}

-- ---- writing
size-append : (ts us : List Tree) → size (row (ts ++ us)) ≡ size (row ts) + size (row us)
size-append [] us = omega arith
size-append (t ∷ ts) us = omega (arith, size-append ts us)

left-terms : (left : List (Bor Term)) → terms_left left ≡ map term_of (map (λ t. t.now) left)
left-terms [] = refl
left-terms (t ∷ left) = ap (λ ts. term_of t.now ∷ ts) (left-terms left)

pub left-more : (left more : List (Bor Term)) (us : List Term) → map (λ t. t.now) more ≡ map (λ t. t.now) left ++ us → terms_left more ≡ terms_left left ++ map term_of us
left-more left more us e =
    left-terms more ∙ ap (map term_of) e ∙ map-append term_of (map (λ t. t.now) left) us ∙ ap (λ ts. ts ++ map term_of us) (sym (left-terms left))

pub left-push : (left more : List (Bor Term)) (t : Bor Term) → more ≡ left ++ t ∷ [] → terms_left more ≡ terms_left left ++ term_of t.now ∷ []
left-push left more t e = ap terms_left e ∙ map-append (λ u. term_of u.now) left (t ∷ [])

-- a part more is written
module _ (old new : List (List ℕ)) (keeps : KeepsTexts old new) (ks js : List Part) (k : Part) (named : All (IsNamed old) ks) (more : js ≡ ks ++ k ∷ []) where
  pub named-more : IsNamed new k → All (IsNamed new) js
  named-more h = rw more (All-push (IsNamed new) ks k (parts-named old new keeps ks named) h)

  written-more : (ts : List Tree) → with_steps (map (part_step new Variable) js) ts ≡ with_steps (map (part_step old Variable) ks) (with_step (part_step new Variable k) ts)
  written-more ts =
      with_steps-more (part_step new Variable) ks js k more ts
      ∙ ap (λ us. with_steps us (with_step (part_step new Variable k) ts)) (steps-kept old new keeps Variable ks named)

  -- of a term without arguments
  pub written-leaf : (s : Subst) (ts : List Tree) (t : Tree) → part_step new Variable k ≡ Give (apply s t ∷ [])
      → with_steps (map (part_step new Variable) js) (map (apply s) ts) ≡ with_steps (map (part_step old Variable) ks) (map (apply s) (ts ++ t ∷ []))
  written-leaf s ts t is =
      written-more (map (apply s) ts) ∙ ap (λ j. with_steps (map (part_step old Variable) ks) (with_step j (map (apply s) ts))) is
      ∙ ap (with_steps (map (part_step old Variable) ks)) (sym (map-append (apply s) ts (t ∷ [])))

  -- of a compound, whose arguments are left to be written
  module _ (t : Tree) (f : List ℕ) (n : ℕ) (us : List Tree) (is : t ≡ Apply f (row us)) (step : part_step new Variable k ≡ Gather f n) (count : n ≡ length us) where
    pub written-compound : (s : Subst) (ts rs : List Tree) → rs ≡ ts ++ us → with_steps (map (part_step new Variable) js) (map (apply s) rs) ≡ with_steps (map (part_step old Variable) ks) (map (apply s) (ts ++ t ∷ []))
    written-compound s ts rs left =
        let many : n ≡ length (map (apply s) us) = count ∙ sym (length-map us (apply s)) in
        let whole : Apply f (row (map (apply s) us)) ≡ apply s t = ap (Apply f) (sym (apply-row s us)) ∙ ap (apply s) (sym is) in
        let before : map (apply s) rs ≡ map (apply s) ts ++ map (apply s) us = ap (map (apply s)) left ∙ map-append (apply s) ts us in
        let gathered : with_step (Gather f n) (map (apply s) rs) ≡ map (apply s) (ts ++ t ∷ []) =
        ap (with_step (Gather f n)) before ∙ with_gathered f n (map (apply s) ts) (map (apply s) us) many ∙ ap (λ u. map (apply s) ts ++ u ∷ []) whole ∙ sym (map-append (apply s) ts (t ∷ [])) in
        written-more (map (apply s) rs) ∙ ap (λ j. with_steps (map (part_step old Variable) ks) (with_step j (map (apply s) rs))) step ∙ ap (with_steps (map (part_step old Variable) ks)) gathered

    pub size-compound : (ts rs : List Tree) → rs ≡ ts ++ us → size (row rs) < size t + size (row ts)
    size-compound ts rs left =
        let whole = ap size is in
        let all = ap (λ vs. size (row vs)) left ∙ size-append ts us in
        omega arith

-- the last term is written next
pub size-popped : (left more : List (Bor Term)) (t : Bor Term) → more ≡ left ++ t ∷ [] → size (row (terms_left more)) ≡ size (term_of t.now) + size (row (terms_left left))
size-popped left more t e =
    let all = ap (λ ts. size (row ts)) (left-push left more t e) ∙ size-append (terms_left left) (term_of t.now ∷ []) in
    omega arith

pub after-append : (names : List (List ℕ)) (ks js : List Part) (ts : List Tree) → after_parts names (ks ++ js) ts ≡ after_parts names js (after_parts names ks ts)
after-append names [] js ts = refl
after-append names (k ∷ ks) js ts = after-append names ks js (with_step (part_step names Variable k) ts)

-- parts that were written from the end
after-reverse : (names : List (List ℕ)) (ks : List Part) (ts : List Tree) → after_parts names (reverse ks) ts ≡ with_steps (map (part_step names Variable) ks) ts
after-reverse names [] ts = refl
after-reverse names (k ∷ ks) ts =
    ap (λ js. after_parts names js ts) (reverse_onto ks k []) ∙ after-append names (reverse ks) (k ∷ []) ts ∙ ap (with_step (part_step names Variable k)) (after-reverse names ks ts)

pub pattern-written : (names : List (List ℕ)) (ks js : List Part) (t : Tree) → All (IsNamed names) ks → with_steps (map (part_step names Variable) ks) [] ≡ t ∷ [] → js ≡ reverse ks → IsPattern names js t
pattern-written names ks js t named is same = record {
  named = rw same (All-permutation (IsNamed names) ks (reverse ks) (IsPermutation-reverse ks) named);
  term = ap (λ ls. after_parts names ls []) same ∙ after-reverse names ks [] ∙ is;
}
