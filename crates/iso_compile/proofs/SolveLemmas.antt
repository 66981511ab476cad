-- Pairs that are solved in turn are the two lists of terms unified.
use Rattle.std.proofs.Common.{◌≡◌, ◌≢◌, ◌↔◌, List, [], ◌∷◌, ◌++◌, Option, Some, None, option_map, inl, inr, refl, sym, ap, ap₂, ◌∙◌}
use Rattle.std.specs.Option.{option_and_then}
use Rattle.std.proofs.lemmas.Bool.{false≢true}
use Rattle.iso_model.specs.Terms.Trees.{Tree, Variable, End, More}
use Rattle.iso_model.specs.Terms.Substitutions.{Subst, apply, compose, Extends, IsSubstitution}
use Rattle.iso_model.specs.Terms.Unifiers.{Unifier, NeverEqual, IsUnifierOf}
use Rattle.iso_model.proofs.OnTerms.UnifierLemmas.{unifying_in_turn}
use Rattle.iso_model.specs.Terms.Unification.{unifier_of, unifier_of_is, unify_under}
use Rattle.iso_model.specs.Terms.Unification.Applied.{apply_apply, apply_none, apply_alone}
use Rattle.iso_model.specs.Terms.Unification.Composed.{unifier_same}
use Rattle.iso_model.proofs.OnTerms.UniqueUnifiers.{unifier_unique}
use Rattle.iso_model.specs.Terms.Unification.Exists.{alone_or_not}
use Rattle.iso_compile.proofs.Solving.{Pair, solve, AreEqual, lefts, rights, AreAlike}

-- two answers for terms that are equal under the same substitutions are the same
same_answers : (a b c d : Tree) → ((t : Subst) → (apply t a ≡ apply t b) ↔ (apply t c ≡ apply t d)) → (o p : Option Subst) → IsUnifierOf a b o → IsUnifierOf c d p → o ≡ p
same_answers a b c d both (Some s) (Some u) h k =
    let moved : Unifier a b u = record { equal = (both u).1 k.equal; most_general = λ t e. k.most_general t ((both t).0 e); least = k.least } in
    ap Some (unifier_unique a b s u h moved)
same_answers a b c d both (Some s) None h k = absurd (k s ((both s).0 h.equal))
same_answers a b c d both None (Some u) h k = absurd (h u ((both u).1 k.equal))
same_answers a b c d both None None h k = refl

pub same_unifiers : (a b c d : Tree) → ((t : Subst) → (apply t a ≡ apply t b) ↔ (apply t c ≡ apply t d)) → unifier_of a b ≡ unifier_of c d
same_unifiers a b c d both = same_answers a b c d both (unifier_of a b) (unifier_of c d) (unifier_of_is a b) (unifier_of_is c d)

pub twice : {r : Subst} → IsSubstitution r → Extends r r
twice {r} h n =
    apply_alone r (r n) (λ x o. elim (alone_or_not r x (r x) refl) [
      | inl alone ↦ alone
      | inr binds ↦ absurd (false≢true (sym (h.idempotent x n binds) ∙ o))
    ])

-- and so under a substitution
pub same_under : (s : Subst) (a b c d : Tree) → IsSubstitution s → ((t : Subst) → Extends s t → (apply t a ≡ apply t b) ↔ (apply t c ≡ apply t d)) → unify_under s a b ≡ unify_under s c d
same_under s a b c d sub both =
    ap (option_map (compose s)) (same_unifiers (apply s a) (apply s b) (apply s c) (apply s d) (λ t.
    let on : Extends s (compose s t) = λ n. sym (apply_apply s t (s n)) ∙ ap (apply t) (twice sub n) in
    let e = both (compose s t) on in (
      λ h. apply_apply s t c ∙ e.0 (sym (apply_apply s t a) ∙ h ∙ apply_apply s t b) ∙ sym (apply_apply s t d),
      λ h. apply_apply s t a ∙ e.1 (sym (apply_apply s t c) ∙ h ∙ apply_apply s t d) ∙ sym (apply_apply s t b),
    )))

none_answer : (a b : Tree) → NeverEqual a b → (o : Option Subst) → IsUnifierOf a b o → o ≡ None
none_answer a b never (Some s) h = absurd (never s h.equal)
none_answer a b never None h = refl

pub never_under : (s : Subst) (a b : Tree) → IsSubstitution s → ((t : Subst) → Extends s t → apply t a ≢ apply t b) → unify_under s a b ≡ None
never_under s a b sub never =
    ap (option_map (compose s)) (none_answer (apply s a) (apply s b) (λ t h.
    let on : Extends s (compose s t) = λ n. sym (apply_apply s t (s n)) ∙ ap (apply t) (twice sub n) in
    never (compose s t) on (sym (apply_apply s t a) ∙ h ∙ apply_apply s t b)) (unifier_of (apply s a) (apply s b)) (unifier_of_is (apply s a) (apply s b)))

some_answer : (a : Tree) (o : Option Subst) → IsUnifierOf a a o → o ≡ Some Variable
some_answer a (Some s) h = ap Some (unifier_unique a a s Variable h (unifier_same a))
some_answer a None h = absurd (h Variable refl)

pub end_under : (s : Subst) → unify_under s End End ≡ Some s
end_under s = ap (option_map (compose s)) (some_answer End (unifier_of End End) (unifier_of_is End End)) ∙ ap Some (λ i. λ n. apply_none (s n) i)

then_same : {A B : Type 0} (f g : A → Option B) → ((a : A) → f a ≡ g a) → (o : Option A) → option_and_then f o ≡ option_and_then g o
then_same f g same (Some a) = same a
then_same f g same None = refl

pub solve_rows : (s : Subst) (ps : List Pair) → solve s ps ≡ unify_under s (lefts ps) (rights ps)
solve_rows s [] = sym (end_under s)
solve_rows s (p ∷ ps) =
    then_same (λ u. solve u ps) (λ u. unify_under u (lefts ps) (rights ps)) (λ u. solve_rows u ps) (unify_under s p.left p.right)
    ∙ sym (unifying_in_turn s p.left p.right (lefts ps) (rights ps))

pub rows_equal : (t : Subst) (ps : List Pair) → (AreEqual t ps) ↔ (apply t (lefts ps) ≡ apply t (rights ps))
rows_equal t [] = (λ h. refl, λ h. tt)
rows_equal t (p ∷ ps) =
    let rest = rows_equal t ps in
    (λ h. ap₂ More h.0 (rest.0 h.1), λ e. (ap first_of_row e, rest.1 (ap rest_of_row e)))
  where
    first_of_row : Tree → Tree
    first_of_row (More a b) = a
    first_of_row t = End

    rest_of_row : Tree → Tree
    rest_of_row (More a b) = b
    rest_of_row t = End

-- pairs that ask for the same have one solution
pub solve_same : (s : Subst) (ps qs : List Pair) → IsSubstitution s → AreAlike s ps qs → solve s ps ≡ solve s qs
solve_same s ps qs sub alike =
    solve_rows s ps
    ∙ same_under s (lefts ps) (rights ps) (lefts qs) (rights qs) sub (λ t on.
    let e = alike t on in
    let a = rows_equal t ps in
    let b = rows_equal t qs in
    (λ h. b.0 (e.0 (a.1 h)), λ h. a.0 (e.1 (b.1 h))))
    ∙ sym (solve_rows s qs)

pub then_then : {A B C : Type 0} (f : A → Option B) (g : B → Option C) (o : Option A) → option_and_then g (option_and_then f o) ≡ option_and_then (λ a. option_and_then g (f a)) o
then_then f g (Some a) = refl
then_then f g None = refl

pub solve_append : (s : Subst) (ps qs : List Pair) → solve s (ps ++ qs) ≡ option_and_then (λ u. solve u qs) (solve s ps)
solve_append s [] qs = refl
solve_append s (p ∷ ps) qs =
    then_same (λ u. solve u (ps ++ qs)) (λ u. option_and_then (λ v. solve v qs) (solve u ps)) (λ u. solve_append u ps qs) (unify_under s p.left p.right)
    ∙ sym (then_then (λ u. solve u ps) (λ v. solve v qs) (unify_under s p.left p.right))
