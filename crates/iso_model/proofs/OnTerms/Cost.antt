-- A measure of unification: a number for each two terms that falls at each step of it, also where the other arguments
-- grow under the unifier of the first ones.
use Rattle.std.proofs.Common.{◌≡◌, ℕ, zero, suc, ◌+◌, ◌≤◌, ◌<◌, Bool, true, false, List, [], length, inl, inr, refl, sym, ap, ◌∙◌, subst, subst₂, arith}
use Rattle.std.proofs.lemmas.Bool.{or_left, or_right, false≢true}
use Rattle.iso_model.specs.Terms.Trees.{Tree, Apply, More}
use Rattle.iso_model.specs.Terms.Variables.{occurs, variables}
use Rattle.iso_model.specs.Terms.Substitutions.{Subst, apply}
use Rattle.iso_model.specs.Terms.Unifiers.{Unifier, NeverEqual}
use Rattle.iso_model.specs.Terms.Unification.Applied.{apply_alone}
use Rattle.iso_model.proofs.OnTerms.UniqueUnifiers.{unifier_unique}
use Rattle.iso_model.specs.Terms.Unification.Listed.{Covers, distinct_covers, without, length-without}
use Rattle.iso_model.specs.Terms.Unification.Exists.{Answer, solved_unifier, exists_or_not, binds_or_not, shrunk_covers}

-- from two terms to two that their unification goes on with
data Next : Tree → Tree → Tree → Tree → Type 0 where
  arguments : (f g : List ℕ) (a b : Tree) → Next (Apply f a) (Apply g b) a b
  first : (a b c d : Tree) → Next (More a c) (More b d) a b
  others : (a b c d : Tree) (s : Subst) → Unifier a b s → Next (More a c) (More b d) (apply s c) (apply s d)

-- two terms whose unification ends, however it goes on
data Ends : Tree → Tree → Type 0 where
  ends : {a b : Tree} → ((c d : Tree) → Next a b c d → Ends c d) → Ends a b

one_way : {a b : Tree} (p q : Ends a b) → p ≡ q
one_way (ends p) (ends q) = λ i. ends (λ c d n. one_way (p c d n) (q c d n) i)

goes_on : Tree → Tree → Bool
goes_on (Apply f a) (Apply g b) = true
goes_on (More a c) (More b d) = true
goes_on _ _ = false

next_goes_on : {a b c d : Tree} → Next a b c d → goes_on a b ≡ true
unfolding goes_on
next_goes_on (arguments f g a b) = refl
next_goes_on (first a b c d) = refl
next_goes_on (others a b c d s u) = refl

stops : (a b : Tree) → goes_on a b ≡ false → Ends a b
stops a b h = ends (λ c d n. absurd (false≢true (sym h ∙ next_goes_on n)))

after_arguments : {f g : List ℕ} {a b c d : Tree} → Ends a b → Next (Apply f a) (Apply g b) c d → Ends c d
after_arguments e (arguments f g a b) = e

after_members : {a b c d x y : Tree} → Ends a b → ((s : Subst) → Unifier a b s → Ends (apply s c) (apply s d)) → Next (More a c) (More b d) x y → Ends x y
after_members e k (first a b c d) = e
after_members e k (others a b c d s u) = k s u

-- the list of variables gets shorter, or the terms get smaller
module _ (vs : List ℕ) (fewer : (ws : List ℕ) → length ws < length vs → (a b : Tree) → Covers ws a → Covers ws b → Ends a b) where
  rest_ends : (a b c d : Tree) → Covers vs (More a c) → Covers vs (More b d) → Ends c d → (s : Subst) → Unifier a b s → Ends (apply s c) (apply s d)
  rest_ends a b c d left right e s u =
      let in_a : Covers vs a = λ x o. left x (or_left (occurs x a) (occurs x c) o) in
      let in_c : Covers vs c = λ x o. left x (or_right (occurs x a) (occurs x c) o) in
      let in_b : Covers vs b = λ x o. right x (or_left (occurs x b) (occurs x d) o) in
      let in_d : Covers vs d = λ x o. right x (or_right (occurs x b) (occurs x d) o) in
      elim (binds_or_not s vs) [
        | inl alone ↦ subst₂ Ends
            (sym (apply_alone s c (λ x o. alone x (in_c x o))))
            (sym (apply_alone s d (λ x o. alone x (in_d x o))))
            e
        | inr binds ↦ fewer (without binds.0 vs) (length-without binds.0 vs binds.1) (apply s c) (apply s d)
            (shrunk_covers u vs in_a in_b binds.0 binds.2 c in_c)
            (shrunk_covers u vs in_a in_b binds.0 binds.2 d in_d)
      ]

  end : (a b : Tree) → Covers vs a → Covers vs b → Ends a b
  unfolding goes_on
  end (Apply f a) (Apply g b) left right = let e = end a b left right in ends (λ c d n. after_arguments e n)
  end (More a c) (More b d) left right =
      let e = end a b (λ x o. left x (or_left (occurs x a) (occurs x c) o)) (λ x o. right x (or_left (occurs x b) (occurs x d) o)) in
      let k = end c d (λ x o. left x (or_right (occurs x a) (occurs x c) o)) (λ x o. right x (or_right (occurs x b) (occurs x d) o)) in
      ends (λ x y n. after_members e (rest_ends a b c d left right k) n)
  end a b left right = stops a b refl

end_within : (k : ℕ) (vs : List ℕ) → length vs < k → (a b : Tree) → Covers vs a → Covers vs b → Ends a b
end_within zero vs short = absurd (omega arith)
end_within (suc k) vs short = end vs (λ ws less. end_within k ws (omega arith))

all_end : (a b : Tree) → Ends a b
all_end a b =
    let vs = variables (More a b) in
    let covers = distinct_covers [] (More a b) in
    end_within (length vs + 1) vs (omega arith) a b
    (λ x o. covers x (or_left (occurs x a) (occurs x b) o))
    (λ x o. covers x (or_right (occurs x a) (occurs x b) o))

-- the sum over the ways to go on
module _ (a b c d : Tree) (h : (x y : Tree) → Next (More a c) (More b d) x y → ℕ) where
  of_others : Answer a b → ℕ
  of_others (inl found) = h (apply found.0 c) (apply found.0 d) (others a b c d found.0 (solved_unifier found.1))
  of_others (inr never) = 0

of_all : (a b : Tree) → ((c d : Tree) → Next a b c d → ℕ) → ℕ
of_all (Apply f a) (Apply g b) h = h a b (arguments f g a b)
of_all (More a c) (More b d) h = h a b (first a b c d) + of_others a b c d h (exists_or_not a b)
of_all _ _ h = 0

height : {a b : Tree} → Ends a b → ℕ
height (ends {a} {b} h) = of_all a b (λ c d n. height (h c d n)) + 1

-- how many steps the unification of the two terms may take
pub cost : Tree → Tree → ℕ
cost a b = height (all_end a b)

arguments_below : (f g : List ℕ) (a b : Tree) (e : Ends (Apply f a) (Apply g b)) → cost a b < height e
unfolding cost height of_all
arguments_below f g a b (ends h) =
    let same : cost a b ≡ height (h a b (arguments f g a b)) = ap height (one_way (all_end a b) (h a b (arguments f g a b))) in
    omega arith

pub cost_apply : (f g : List ℕ) (a b : Tree) → cost a b < cost (Apply f a) (Apply g b)
unfolding cost
cost_apply f g a b = arguments_below f g a b (all_end (Apply f a) (Apply g b))

first_below : (a b c d : Tree) (e : Ends (More a c) (More b d)) → cost a b < height e
unfolding cost height of_all
first_below a b c d (ends h) =
    let same : cost a b ≡ height (h a b (first a b c d)) = ap height (one_way (all_end a b) (h a b (first a b c d))) in
    omega arith

pub cost_first : (a b c d : Tree) → cost a b < cost (More a c) (More b d)
unfolding cost
cost_first a b c d = first_below a b c d (all_end (More a c) (More b d))

same_height : (s t : Subst) (c d : Tree) → s ≡ t → (p : Ends (apply s c) (apply s d)) (q : Ends (apply t c) (apply t d)) → height p ≡ height q
same_height s t c d e p =
    subst (λ u. (q : Ends (apply u c) (apply u d)) → height p ≡ height q) e (λ q. ap height (one_way p q))

others_within : (a b c d : Tree) (s : Subst) → Unifier a b s → (h : (x y : Tree) → Next (More a c) (More b d) x y → Ends x y) (o : Answer a b) → cost (apply s c) (apply s d) ≤ of_others a b c d (λ x y n. height (h x y n)) o
unfolding cost of_others
others_within a b c d s u h (inl found) =
    let k = solved_unifier found.1 in
    let same = same_height s found.0 c d (unifier_unique a b s found.0 u k) (all_end (apply s c) (apply s d)) (h (apply found.0 c) (apply found.0 d) (others a b c d found.0 k)) in
    omega arith
others_within a b c d s u h (inr never) = absurd (never s u.equal)

others_below : (a b c d : Tree) (s : Subst) → Unifier a b s → (e : Ends (More a c) (More b d)) → cost (apply s c) (apply s d) < height e
unfolding height of_all
others_below a b c d s u (ends h) = let low = others_within a b c d s u h (exists_or_not a b) in omega arith

pub cost_rest : (a b c d : Tree) (s : Subst) → Unifier a b s → cost (apply s c) (apply s d) < cost (More a c) (More b d)
unfolding cost
cost_rest a b c d s u = others_below a b c d s u (all_end (More a c) (More b d))

-- ---- the exact numbers
arguments_height : (f g : List ℕ) (a b : Tree) (e : Ends (Apply f a) (Apply g b)) → height e ≡ cost a b + 1
unfolding cost height of_all
arguments_height f g a b (ends h) =
    ap (λ n. n + 1) (ap height (one_way (h a b (arguments f g a b)) (all_end a b)))

pub cost_arguments : (f g : List ℕ) (a b : Tree) → cost (Apply f a) (Apply g b) ≡ cost a b + 1
unfolding cost
cost_arguments f g a b = arguments_height f g a b (all_end (Apply f a) (Apply g b))

others_height : (a b c d : Tree) (s : Subst) → Unifier a b s → (h : (x y : Tree) → Next (More a c) (More b d) x y → Ends x y) (o : Answer a b) → of_others a b c d (λ x y n. height (h x y n)) o ≡ cost (apply s c) (apply s d)
unfolding cost of_others
others_height a b c d s u h (inl found) =
    let k = solved_unifier found.1 in
    sym (same_height s found.0 c d (unifier_unique a b s found.0 u k) (all_end (apply s c) (apply s d)) (h (apply found.0 c) (apply found.0 d) (others a b c d found.0 k)))
others_height a b c d s u h (inr never) = absurd (never s u.equal)

more_height : (a b c d : Tree) (s : Subst) → Unifier a b s → (e : Ends (More a c) (More b d)) → height e ≡ cost a b + cost (apply s c) (apply s d) + 1
unfolding cost height of_all
more_height a b c d s u (ends h) =
    let here : height (h a b (first a b c d)) ≡ cost a b = ap height (one_way (h a b (first a b c d)) (all_end a b)) in
    let rest = others_height a b c d s u h (exists_or_not a b) in
    omega arith

pub cost_more : (a b c d : Tree) (s : Subst) → Unifier a b s → cost (More a c) (More b d) ≡ cost a b + cost (apply s c) (apply s d) + 1
unfolding cost
cost_more a b c d s u = more_height a b c d s u (all_end (More a c) (More b d))

nothing_height : (a b c d : Tree) → NeverEqual a b → (h : (x y : Tree) → Next (More a c) (More b d) x y → ℕ) (o : Answer a b) → of_others a b c d h o ≡ 0
unfolding of_others
nothing_height a b c d never h (inl found) = absurd (never found.0 (solved_unifier found.1).equal)
nothing_height a b c d never h (inr n) = refl

never_height : (a b c d : Tree) → NeverEqual a b → (e : Ends (More a c) (More b d)) → height e ≡ cost a b + 1
unfolding cost height of_all
never_height a b c d never (ends h) =
    let here : height (h a b (first a b c d)) ≡ cost a b = ap height (one_way (h a b (first a b c d)) (all_end a b)) in
    let rest = nothing_height a b c d never (λ x y n. height (h x y n)) (exists_or_not a b) in
    omega arith

pub cost_never : (a b c d : Tree) → NeverEqual a b → cost (More a c) (More b d) ≡ cost a b + 1
unfolding cost
cost_never a b c d never = never_height a b c d never (all_end (More a c) (More b d))
