-- What is left of making lists of terms equal.
use Rattle.std.proofs.Common.{◌≡◌, ℕ, List, [], ◌∷◌, ◌++◌, length, map, refl, ap, ap₂, sym, subst, arith}
use Rattle.iso_model.specs.Terms.Trees.{Tree, Variable, Apply, End, More, row}
use Rattle.iso_model.specs.Terms.Substitutions.{Subst, apply, compose}
use Rattle.iso_model.specs.Terms.Unifiers.{Unifier, NeverEqual}
use Rattle.iso_model.specs.Terms.Unification.Applied.{apply_none}
use Rattle.iso_model.specs.Terms.Unification.Composed.{unifier_same, unifier_more, never_rest}
use Rattle.iso_model.proofs.OnTerms.UnifierLemmas.{compose_compose}
use Rattle.iso_model.proofs.OnTerms.Cost.{cost, cost_rest}
use Rattle.iso_model.proofs.OnTerms.CostOfRows.{apply-row, cost_opened}
use Rattle.iso_store.specs.Unifying.{MakesEqual, LeftBy, Measures}

-- ---- equal lists
pub equal-both : (s : Subst) (us vs cs ds : List Tree) → MakesEqual s us vs → MakesEqual s cs ds → MakesEqual s (us ++ cs) (vs ++ ds)
equal-both s [] [] cs ds first second = second
equal-both s [] (v ∷ vs) cs ds first second = absurd (cc)
equal-both s (u ∷ us) [] cs ds first second = absurd (cc)
equal-both s (u ∷ us) (v ∷ vs) cs ds first second =
    let head : apply s u ≡ apply s v = cc in
    let tail : apply s (row us) ≡ apply s (row vs) = cc in
    ap₂ More head (equal-both s us vs cs ds tail second)

pub equal-parts : (s : Subst) (us vs cs ds : List Tree) → length us ≡ length vs → MakesEqual s (us ++ cs) (vs ++ ds) → MakesEqual s us vs × MakesEqual s cs ds
equal-parts s [] [] cs ds same whole = (refl, whole)
equal-parts s [] (v ∷ vs) cs ds same whole = absurd (omega arith)
equal-parts s (u ∷ us) [] cs ds same whole = absurd (omega arith)
equal-parts s (u ∷ us) (v ∷ vs) cs ds same whole =
    let head : apply s u ≡ apply s v = cc in
    let tail : apply s (row (us ++ cs)) ≡ apply s (row (vs ++ ds)) = cc in
    let inner = equal-parts s us vs cs ds (omega arith) tail in
    (ap₂ More head inner.0, inner.1)

-- ---- what is left
pub left-none : (us vs : List Tree) → LeftBy us vs us vs Variable
left-none us vs = record { unifier = λ t u. u; never = λ h. h }

pub left-then : {us vs cs ds es fs : List Tree} {r s : Subst} → LeftBy us vs cs ds r → LeftBy cs ds es fs s → LeftBy us vs es fs (compose r s)
left-then {us} {vs} {cs} {ds} {es} {fs} {r} {s} first second = record {
  unifier = λ t u. subst (Unifier (row us) (row vs)) (sym (compose_compose r s t)) (first.unifier (compose s t) (second.unifier t u));
  never = λ h. first.never (second.never h);
}

-- lists that the same substitutions make equal
left-by : (us vs cs ds : List Tree) → ((s : Subst) → MakesEqual s cs ds → MakesEqual s us vs) → ((s : Subst) → MakesEqual s us vs → MakesEqual s cs ds) → LeftBy us vs cs ds Variable
left-by us vs cs ds back forth = record {
  unifier = λ t u. record { equal = back t u.equal; most_general = λ s e. u.most_general s (forth s e); least = u.least };
  never = λ h t e. h t (forth t e);
}

pub left-opened : (f : List ℕ) (us vs cs ds : List Tree) → length us ≡ length vs → LeftBy (Apply f (row us) ∷ cs) (Apply f (row vs) ∷ ds) (us ++ cs) (vs ++ ds) Variable
left-opened f us vs cs ds same =
    left-by (Apply f (row us) ∷ cs) (Apply f (row vs) ∷ ds) (us ++ cs) (vs ++ ds)
    (λ s e. let parts = equal-parts s us vs cs ds same e in ap₂ More (ap (Apply f) parts.0) parts.1)
    (λ s e.
    let inner : apply s (row us) ≡ apply s (row vs) = cc in
    let rest : apply s (row cs) ≡ apply s (row ds) = cc in
    equal-both s us vs cs ds inner rest)

pub left-solved : (a b : Tree) (cs ds : List Tree) (s : Subst) → Unifier a b s → LeftBy (a ∷ cs) (b ∷ ds) (map (apply s) cs) (map (apply s) ds) s
left-solved a b cs ds s solved = record {
  unifier = λ t u. unifier_more solved (rw (apply-row s cs, apply-row s ds) u);
  never = λ h. never_rest (row cs) (row ds) solved (rw (apply-row s cs, apply-row s ds) h);
}

-- ---- two terms, as lists of one
pub unifier-single : (a b : Tree) (s : Subst) → Unifier (row (a ∷ [])) (row (b ∷ [])) s → Unifier a b s
unifier-single a b s u = record {
  equal = let e = u.equal in cc;
  most_general = λ t e. u.most_general t (ap (λ x. More x End) e);
  least = u.least;
}

pub never-single : (a b : Tree) → NeverEqual (row (a ∷ [])) (row (b ∷ [])) → NeverEqual a b
never-single a b h t e = h t (ap (λ x. More x End) e)

-- nothing is left
pub left-nothing : (a b : Tree) (r : Subst) → LeftBy (a ∷ []) (b ∷ []) [] [] r → Unifier a b r
left-nothing a b r left =
    unifier-single a b r (subst (Unifier (row (a ∷ [])) (row (b ∷ []))) (λ i. λ n. apply_none (r n) i) (left.unifier Variable (unifier_same End)))

-- the measure falls at each step
pub cost-measures : Measures (λ us vs. cost (row us) (row vs))
cost-measures = record {
  solved = λ a b cs ds s u. rw (sym (apply-row s cs), sym (apply-row s ds)) (cost_rest a b (row cs) (row ds) s u);
  opened = λ f us vs cs ds same. cost_opened f us vs cs ds same;
}
