-- Witnesses and items, one solution more.
use Rattle.std.proofs.Common.{◌≡◌, ◌<◌, ℕ, zero, suc, ◌+◌, List, [], ◌∷◌, ◌++◌, length, map, get_or, refl, sym, ap, ap₂, subst, ◌∙◌, arith, length-append}
use Rattle.std.specs.List.{All, AllByRecursion}
use Rattle.iso_model.specs.declared.terms.Term.{Term}
use Rattle.iso_model.specs.Terms.Trees.{Tree, Variable, Apply, row}
use Rattle.iso_model.specs.Terms.Arguments.{arity}
use Rattle.iso_model.specs.Terms.Copies.{copy_from, place_of}
use Rattle.iso_model.specs.Terms.Variables.{variables}
use Rattle.iso_model.specs.Terms.Substitutions.{Subst, apply, compose}
use Rattle.iso_model.specs.Terms.Unification.Applied.{apply_apply}
use Rattle.iso_model.specs.Terms.TermOf.{term_of}
use Rattle.iso_model.specs.Terms.Lists.{dot, list_before, list_of, elements}
use Rattle.iso_model.specs.Search.Groups.{pair, witness, item, items}
use Rattle.iso_store_core.specs.Presents.{Present, Holds, meaning}
use Rattle.iso_lib_core.specs.declared.groups.Group.{Group}
use Rattle.iso_lib_core.specs.Collecting.{HasArgument, copy_in}
use Rattle.iso_lib_core.specs.Groupings.{paired, solutions_of}

pub paired_more : (ws ts : List Term) (w t : Term) → length ws ≡ length ts → paired (ws ++ w ∷ []) (ts ++ t ∷ []) ≡ paired ws ts ++ pair (term_of w) (term_of t) ∷ []
paired_more [] [] w t same = refl
paired_more (v ∷ ws) (u ∷ ts) w t same = ap (λ ps. pair (term_of v) (term_of u) ∷ ps) (paired_more ws ts w t (omega (arith, same)))
paired_more [] (u ∷ ts) w t same = absurd (omega (arith, same))
paired_more (v ∷ ws) [] w t same = absurd (omega (arith, same))

-- the last element is the first of the tail
before_last : (ts : List Tree) (t tail : Tree) → list_before (ts ++ t ∷ []) tail ≡ list_before ts (Apply dot (row (t ∷ tail ∷ [])))
before_last [] t tail = refl
before_last (u ∷ ts) t tail = ap (λ x. Apply dot (row (u ∷ x ∷ []))) (before_last ts t tail)

-- the last solution came before the list
pub last_taken : (ws vs ts us : List Term) (w t : Term) (tail new : Tree) → ws ≡ vs ++ w ∷ [] → ts ≡ us ++ t ∷ [] → length vs ≡ length us
    → new ≡ Apply dot (row (pair (term_of w) (term_of t) ∷ tail ∷ [])) → list_before (paired vs us) new ≡ list_before (paired ws ts) tail
last_taken ws vs ts us w t tail new first second same is =
    ap (list_before (paired vs us)) is ∙ sym (before_last (paired vs us) (pair (term_of w) (term_of t)) tail)
    ∙ ap (λ ps. list_before ps tail) (sym (ap₂ paired first second ∙ paired_more vs us w t same))

-- as many are left of both
pub both_left : (ws vs ts us : List Term) (w t : Term) → ws ≡ vs ++ w ∷ [] → ts ≡ us ++ t ∷ [] → length ws ≡ length ts → length vs ≡ length us
both_left ws vs ts us w t first second same =
    let one = ap length first ∙ length-append vs (w ∷ []) in
    let other = ap length second ∙ length-append us (t ∷ []) in
    omega (arith, one, other, same)

-- ---- solutions in a store

-- the term is a pair of two terms
abbrev pub IsPair : Tree → Type 0
IsPair p = p ≡ pair (witness p) (item p)

paired_pairs : (ws ts : List Term) → AllByRecursion IsPair (paired ws ts)
paired_pairs [] ts = tt
paired_pairs (w ∷ ws) [] = tt
paired_pairs (w ∷ ws) (t ∷ ts) = (refl, paired_pairs ws ts)

-- a substitution leaves lists and pairs what they are
listed_under : (s : Subst) (ts : List Tree) → elements (apply s (list_of ts)) ≡ map (apply s) ts
listed_under s [] = refl
listed_under s (t ∷ ts) = ap (λ us. apply s t ∷ us) (listed_under s ts)

pair_under : (s : Subst) (p : Tree) → IsPair p → IsPair (apply s p)
pair_under s p is = subst (λ q. IsPair (apply s q)) (sym is) refl

pairs_under : (s : Subst) (ps : List Tree) → AllByRecursion IsPair ps → AllByRecursion IsPair (map (apply s) ps)
pairs_under s [] all = tt
pairs_under s (p ∷ ps) all = (pair_under s p all.0, pairs_under s ps all.1)

pair_arity : (p : Tree) → IsPair p → arity p ≡ 2
pair_arity p is = ap arity is

-- words for pairs have two arguments
pairs_have : {W : Type 0} (q : Present W) (i : ℕ) (words : List W) (ps : List Tree) → i < 2 → All (λ w. Holds q w) words → map (meaning q) words ≡ ps → AllByRecursion IsPair ps
    → All (λ w. HasArgument q i w) words
pairs_have q i [] ps few hold are all = λ k d within. absurd (omega (arith, within))
pairs_have q i (w ∷ words) [] few hold are all = absurd (cc)
pairs_have {W} q i (w ∷ words) (p ∷ ps) few hold are all =
    let first : meaning q w ≡ p = cc in
    let others : map (meaning q) words ≡ ps = cc in
    let two = ap arity first ∙ pair_arity p all.0 in
    let here : HasArgument q i w = (hold 0 w (omega arith), omega (arith, two, few)) in
    let there = pairs_have q i words ps few (λ k d within. hold (suc k) d (omega (arith, within))) others all.1 in
    λ k d within. at k d within here there where
      at : (k : ℕ) (d : W) → k < length (w ∷ words) → HasArgument q i w → All (λ v. HasArgument q i v) words → HasArgument q i (get_or (w ∷ words) k d)
      at zero d within here there = here
      at (suc k) d within here there = there k d (omega (arith, within))

-- words for the solutions of a group's copy
pub copied_have : {W : Type 0} (p q : Present W) (g : Group) (list : W) (l : Tree) (i : ℕ) (words : List W) → i < 2 → l ≡ list_of (solutions_of g) → q.substitution ≡ p.substitution
    → q.term list ≡ copy_from l p.next → All (λ w. Holds q w) words → map (meaning q) words ≡ elements (meaning q list) → All (λ w. HasArgument q i w) words
copied_have p q g list l i words few is bound made hold are =
    let named : Subst = λ x. Variable (p.next + place_of x (variables l)) in
    let s = compose named p.substitution in
    let ps = solutions_of g in
    let whole : meaning q list ≡ apply s (list_of ps) = ap₂ apply bound made ∙ apply_apply named p.substitution l ∙ ap (apply s) is in
    pairs_have q i words (map (apply s) ps) few hold (are ∙ ap elements whole ∙ listed_under s ps) (pairs_under s ps (paired_pairs g.witnesses.items g.items.items))

items_over : (u : Subst) (ps : List Tree) → AllByRecursion IsPair ps → map item (map (apply u) ps) ≡ map (apply u) (map item ps)
items_over u [] all = refl
items_over u (p ∷ ps) all =
    let here : item (apply u p) ≡ apply u (item p) = subst (λ q. item (apply u q) ≡ apply u (item q)) (sym all.0) refl in
    ap₂ (λ t ts. t ∷ ts) here (items_over u ps all.1)

-- the items of a copy of a group's solutions, under a substitution
pub items_under : {W : Type 0} (p : Present W) (g : Group) (u : Subst) → items (apply u (copy_in p (list_of (solutions_of g)))) ≡ map (apply u) (items (copy_in p (list_of (solutions_of g))))
items_under p g u =
    let ps = solutions_of g in
    let l = list_of ps in
    let named : Subst = λ x. Variable (p.next + place_of x (variables l)) in
    let s = compose named p.substitution in
    let c = copy_in p l in
    let qs = map (apply s) ps in
    let whole : c ≡ list_of qs = apply_apply named p.substitution l ∙ under_list s ps in
    let pairs = pairs_under s ps (paired_pairs g.witnesses.items g.items.items) in
    ap (λ t. items (apply u t)) whole ∙ ap (map item) (listed_under u qs) ∙ items_over u qs pairs
    ∙ ap (λ ts. map (apply u) (map item ts)) (sym (elements_of qs)) ∙ ap (λ t. map (apply u) (items t)) (sym whole) where
      under_list : (s : Subst) (ts : List Tree) → apply s (list_of ts) ≡ list_of (map (apply s) ts)
      under_list s [] = refl
      under_list s (t ∷ ts) = ap (λ x. Apply dot (row (apply s t ∷ x ∷ []))) (under_list s ts)

      elements_of : (ts : List Tree) → elements (list_of ts) ≡ ts
      elements_of [] = refl
      elements_of (t ∷ ts) = ap (λ us. t ∷ us) (elements_of ts)
