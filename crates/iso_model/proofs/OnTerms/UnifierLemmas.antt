-- What is known of the unifier that is found, and of unifying under a substitution.
use Rattle.std.proofs.Common.{IfSome, ◌<◌, ◌≡◌, ◌≢◌, ℕ, ◌+◌, ◌≤◌, ◌<◌, max, true, false, List, Option, Some, None, MatchOption, option_map, option_and_then, inl, inr, refl, sym, ap, ap₂, ◌∙◌, subst, arith}
use Rattle.std.proofs.lemmas.Bool.{or_cases, eqb-true, false≢true, false_from_ne_true, cases_lt}
use Rattle.iso_model.specs.Terms.Trees.{Tree, Variable, Integer, Name, Apply, End, More}
use Rattle.iso_model.specs.Terms.Variables.{occurs}
use Rattle.iso_model.specs.Terms.Substitutions.{Subst, apply, compose, Extends, BindsToOlder, IsSubstitution}
use Rattle.iso_model.specs.Terms.Unifiers.{Unifier, NeverEqual, IsUnifierOf}
use Rattle.iso_model.specs.Terms.UnifierLaws.{StaysBelow, AllBelow, Concerns, UnifiesUnder, NeverEqualUnder}
use Rattle.iso_model.specs.Terms.Unification.{unifier_of, unifier_of_is, unify_under}
use Rattle.iso_model.specs.Terms.Unification.Applied.{apply_apply, apply_none, apply_alone, apply_absorbs, occurs_from}
use Rattle.iso_model.specs.Terms.Unification.Composed.{variable_from, unifier_sym, unifier_apply, unifier_more, never_sym, never_apply, never_first, never_rest}
use Rattle.iso_model.specs.Terms.Unification.Bindings.{unifier_leaves, unifier_brings, unifier_fixes}
use Rattle.iso_model.proofs.OnTerms.UniqueUnifiers.{unifier_unique}
use Rattle.iso_model.specs.Terms.Unification.Exists.{alone_or_not}

-- two answers for the same terms are the same
pub answers_same : (a b : Tree) (o p : Option Subst) → IsUnifierOf a b o → IsUnifierOf a b p → o ≡ p
answers_same a b (Some s) (Some t) h k = ap Some (unifier_unique a b s t h k)
answers_same a b (Some s) None h k = absurd (k s h.equal)
answers_same a b None (Some t) h k = absurd (h t k.equal)
answers_same a b None None h k = refl

pub unifier_of_some : {a b : Tree} {s : Subst} → Unifier a b s → unifier_of a b ≡ Some s
unifier_of_some {a} {b} {s} h = answers_same a b (unifier_of a b) (Some s) (unifier_of_is a b) h

pub unifier_of_none : (a b : Tree) → NeverEqual a b → unifier_of a b ≡ None
unifier_of_none a b h = answers_same a b (unifier_of a b) None (unifier_of_is a b) h

-- above all variables of a term
above : Tree → ℕ
above (Variable n) = n + 1
above (Integer z) = 0
above (Name a) = 0
above (Apply f ts) = above ts
above End = 0
above (More t ts) = max (above t) (above ts)

occurs_below : (x : ℕ) (t : Tree) → occurs x t ≡ true → x < above t
unfolding above
occurs_below x (Variable n) o = let e = eqb-true n x o in omega arith
occurs_below x (Integer z) o = absurd (false≢true o)
occurs_below x (Name a) o = absurd (false≢true o)
occurs_below x (Apply f ts) o = occurs_below x ts o
occurs_below x End o = absurd (false≢true o)
occurs_below x (More t ts) o =
    elim (or_cases (occurs x t) (occurs x ts) o) [
      | inl here ↦ (let below = occurs_below x t here in omega arith)
      | inr there ↦ (let below = occurs_below x ts there in omega arith)
    ]

absent_above : (x : ℕ) (t : Tree) → above t ≤ x → occurs x t ≡ false
absent_above x t high = false_from_ne_true (occurs x t) (λ o. (let below = occurs_below x t o in absurd (omega arith)))

pub unifier_is_substitution : {a b : Tree} {s : Subst} → Unifier a b s → IsSubstitution s
unifier_is_substitution {a} {b} {s} h = record {
  finite = (max (above a) (above b), λ n high. unifier_leaves h n (absent_above n a (omega arith)) (absent_above n b (omega arith)));
  idempotent = λ n m binds. false_from_ne_true (occurs n (s m)) (λ o. binds (unifier_fixes h m n o));
}

pub unifier_concerns : {a b : Tree} {s : Subst} → Unifier a b s → Concerns a b s
unifier_concerns h = record { bound = unifier_leaves h; values = unifier_brings h }

pub most_general_composed : {a b : Tree} {s : Subst} (t : Subst) → Unifier a b s → apply t a ≡ apply t b → (u : Subst) × (t ≡ compose s u)
most_general_composed t h e = (t, λ i. λ n. sym (h.most_general t e n) i)

-- ---- under a substitution

pub compose_compose : (r s t : Subst) → compose (compose r s) t ≡ compose r (compose s t)
compose_compose r s t = λ i. λ n. apply_apply s t (r n) i

pub under_some : (r : Subst) (a b : Tree) {s : Subst} → Unifier (apply r a) (apply r b) s → unify_under r a b ≡ Some (compose r s)
under_some r a b h = ap (option_map (compose r)) (unifier_of_some h)

pub under_none : (r : Subst) (a b : Tree) → NeverEqual (apply r a) (apply r b) → unify_under r a b ≡ None
under_none r a b h = ap (option_map (compose r)) (unifier_of_none (apply r a) (apply r b) h)

pub substitution_twice : {r : Subst} → IsSubstitution r → Extends r r
substitution_twice {r} h n =
    apply_alone r (r n) (λ x o. elim (alone_or_not r x (r x) refl) [
      | inl alone ↦ alone
      | inr binds ↦ absurd (false≢true (sym (h.idempotent x n binds) ∙ o))
    ])

module _ (r : Subst) (a b : Tree) (s : Subst) (sub : IsSubstitution r) (h : Unifier (apply r a) (apply r b) s) where
  unbound_absent : (n : ℕ) → r n ≢ Variable n → (c : Tree) → occurs n (apply r c) ≡ false
  unbound_absent n binds c = false_from_ne_true (occurs n (apply r c)) (λ o.
      (let f = occurs_from r c n o in false≢true (sym (sub.idempotent n f.0 binds) ∙ f.2)))

  composed_fixes : (n m : ℕ) → occurs n (apply s (r m)) ≡ true → apply s (r n) ≡ Variable n
  composed_fixes n m o =
      let f = occurs_from s (r m) n o in
      let alone = unifier_fixes h f.0 n f.2 in
      elim (alone_or_not r n (r n) refl) [
        | inl free ↦ ap (apply s) free ∙ alone
        | inr binds ↦ (let here = unifier_brings h n f.0 (unbound_absent n binds a) (unbound_absent n binds b) f.2 in
            absurd (false≢true (sym (sub.idempotent n m binds) ∙ subst (λ k. occurs k (r m) ≡ true) here f.1)))
      ]

  pub composed_is_substitution : IsSubstitution (compose r s)
  composed_is_substitution =
      let own = unifier_is_substitution h in
      record {
        finite = (max sub.finite.0 own.finite.0, λ n high. ap (apply s) (sub.finite.1 n (omega arith)) ∙ own.finite.1 n (omega arith));
        idempotent = λ n m binds. false_from_ne_true (occurs n (apply s (r m))) (λ o. binds (composed_fixes n m o));
      }

  pub unifies_under : UnifiesUnder r a b (compose r s)
  unifies_under = record {
    substitution = composed_is_substitution;
    extends = λ n. sym (apply_apply r s (r n)) ∙ ap (apply s) (substitution_twice sub n);
    equal = sym (apply_apply r s a) ∙ h.equal ∙ apply_apply r s b;
    most_general = λ t goes_on e n.
        apply_absorbs s t (r n) (h.most_general t (apply_absorbs r t a goes_on ∙ e ∙ sym (apply_absorbs r t b goes_on))) ∙ goes_on n;
  }

pub never_under : (r : Subst) (a b : Tree) → NeverEqual (apply r a) (apply r b) → NeverEqualUnder r a b
never_under r a b never t goes_on e = never t (apply_absorbs r t a goes_on ∙ e ∙ sym (apply_absorbs r t b goes_on))

unifying_by : (r : Subst) (a b : Tree) → IsSubstitution r → (o : Option Subst) → IsUnifierOf (apply r a) (apply r b) o → MatchOption (option_map (compose r) o) (NeverEqualUnder r a b) (UnifiesUnder r a b)
unifying_by r a b sub (Some s) h = unifies_under r a b s sub h
unifying_by r a b sub None never = never_under r a b never

pub unifying_under : (r : Subst) (a b : Tree) → IsSubstitution r → MatchOption (unify_under r a b) (NeverEqualUnder r a b) (UnifiesUnder r a b)
unifying_under r a b sub = unifying_by r a b sub (unifier_of (apply r a) (apply r b)) (unifier_of_is (apply r a) (apply r b))

without_start : (o : Option Subst) → option_map (compose Variable) o ≡ o
without_start (Some s) = refl
without_start None = refl

pub unifying_under_nothing : (a b : Tree) → unify_under Variable a b ≡ unifier_of a b
unifying_under_nothing a b = without_start (unifier_of (apply Variable a) (apply Variable b)) ∙ ap₂ unifier_of (apply_none a) (apply_none b)

turned : (a b : Tree) (o : Option Subst) → IsUnifierOf a b o → IsUnifierOf b a o
turned a b (Some s) h = unifier_sym h
turned a b None h = never_sym a b h

pub unifying_either_way : (r : Subst) (a b : Tree) → unify_under r a b ≡ unify_under r b a
unifying_either_way r a b =
    let c = apply r a in
    let d = apply r b in
    ap (option_map (compose r)) (answers_same c d (unifier_of c d) (unifier_of d c) (unifier_of_is c d) (turned d c (unifier_of d c) (unifier_of_is d c)))

wrapped : (f : List ℕ) (a b : Tree) (o : Option Subst) → IsUnifierOf a b o → IsUnifierOf (Apply f a) (Apply f b) o
wrapped f a b (Some s) h = unifier_apply f h
wrapped f a b None h = never_apply a b f f h

pub unifying_arguments : (r : Subst) (f : List ℕ) (a b : Tree) → unify_under r (Apply f a) (Apply f b) ≡ unify_under r a b
unifying_arguments r f a b =
    let c = apply r a in
    let d = apply r b in
    ap (option_map (compose r)) (answers_same (Apply f c) (Apply f d) (unifier_of (Apply f c) (Apply f d)) (unifier_of c d) (unifier_of_is (Apply f c) (Apply f d)) (wrapped f c d (unifier_of c d) (unifier_of_is c d)))

module _ (r : Subst) (a b c d : Tree) where
  in_turn_others : (s : Subst) → Unifier (apply r a) (apply r b) s → (o : Option Subst) → IsUnifierOf (apply s (apply r c)) (apply s (apply r d)) o → unify_under r (More a c) (More b d) ≡ option_map (compose (compose r s)) o
  in_turn_others s h (Some t) k = under_some r (More a c) (More b d) (unifier_more h k) ∙ ap Some (sym (compose_compose r s t))
  in_turn_others s h None k = under_none r (More a c) (More b d) (never_rest (apply r c) (apply r d) h k)

  in_turn_first : (o : Option Subst) → IsUnifierOf (apply r a) (apply r b) o → unify_under r (More a c) (More b d) ≡ option_and_then (λ u. unify_under u c d) (option_map (compose r) o)
  in_turn_first (Some s) h =
      in_turn_others s h (unifier_of (apply s (apply r c)) (apply s (apply r d))) (unifier_of_is (apply s (apply r c)) (apply s (apply r d)))
      ∙ ap (option_map (compose (compose r s))) (ap₂ unifier_of (apply_apply r s c) (apply_apply r s d))
  in_turn_first None never = under_none r (More a c) (More b d) (never_first (apply r a) (apply r b) (apply r c) (apply r d) never)

  pub unifying_in_turn : unify_under r (More a c) (More b d) ≡ option_and_then (λ u. unify_under u c d) (unify_under r a b)
  unifying_in_turn = in_turn_first (unifier_of (apply r a) (apply r b)) (unifier_of_is (apply r a) (apply r b))

-- ---- what unifying under a substitution keeps

-- what holds of r composed with each unifier holds of what is found
pub kept : (r : Subst) (a b : Tree) (P : Subst → Type 0) → ((s : Subst) → Unifier (apply r a) (apply r b) s → P (compose r s)) → IfSome (unify_under r a b) P
kept r a b P each = go (unifier_of (apply r a) (apply r b)) (unifier_of_is (apply r a) (apply r b))
  where
    go : (o : Option Subst) → IsUnifierOf (apply r a) (apply r b) o → IfSome (option_map (compose r) o) P
    go (Some s) h = each s h
    go None h = tt

older_composed : (r s : Subst) → BindsToOlder r → BindsToOlder s → BindsToOlder (compose r s)
older_composed r s old older n m e =
    let v = variable_from s (r n) m e in
    let low = old n v.0 v.1 in
    let lower = older v.0 m (sym (ap (apply s) v.1) ∙ e) in
    omega arith

pub unifying_keeps_age : (r : Subst) (a b : Tree) → BindsToOlder r → IfSome (unify_under r a b) BindsToOlder
unifying_keeps_age r a b old = kept r a b BindsToOlder (λ s h. older_composed r s old h.least)

module _ (k : ℕ) (r : Subst) (below : StaysBelow k r) where
  image_below : (a : Tree) → AllBelow k a → AllBelow k (apply r a)
  image_below a h x o = let f = occurs_from r a x o in below.values f.0 x (h f.0 f.1) f.2

  absent_from : (a : Tree) → AllBelow k a → (x : ℕ) → k ≤ x → occurs x (apply r a) ≡ false
  absent_from a h x high = false_from_ne_true (occurs x (apply r a)) (λ o. (let low = image_below a h x o in absurd (omega arith)))

  composed_below : (a b : Tree) → AllBelow k a → AllBelow k b → (s : Subst) → Unifier (apply r a) (apply r b) s → StaysBelow k (compose r s)
  composed_below a b in_a in_b s h = record {
    bound = λ n high. ap (apply s) (below.bound n high) ∙ unifier_leaves h n (absent_from a in_a n high) (absent_from b in_b n high);
    values = λ n m low o.
        (let f = occurs_from s (r n) m o in
        let inner = below.values n f.0 low f.1 in
        elim (cases_lt m k) [
          | inl less ↦ less
          | inr high ↦ (let same = unifier_brings h m f.0 (absent_from a in_a m high) (absent_from b in_b m high) f.2 in absurd (omega arith))
        ]);
  }

pub unifying_stays_below : (k : ℕ) (r : Subst) (a b : Tree) → StaysBelow k r → AllBelow k a → AllBelow k b → IfSome (unify_under r a b) (StaysBelow k)
unifying_stays_below k r a b below in_a in_b = kept r a b (StaysBelow k) (composed_below k r below a b in_a in_b)
