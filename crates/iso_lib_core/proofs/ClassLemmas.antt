-- Solutions are of one group where the parts of their witnesses are equal.
use Rattle.std.proofs.Common.{◌≡◌, List, [], ◌∷◌, map, Bool, true, false, not, ◌&&◌, ◌==◌, ◌+◌, refl, sym, ap, ap₂, subst, ◌∙◌, if◌then◌else◌}
use Rattle.std.specs.List.{filter, AllByRecursion}
use Rattle.std.specs.Bool.{Decides}
use Rattle.std.specs.Cmp.{both_ways}
use Rattle.std.specs.Cmp.Lexicographic.{pointwise}
use Rattle.std.specs.Str.{bytes_eq}
use Rattle.std.specs.Ordering.{int_eq, is_eq}
use Rattle.std.specs.declared.cmp.Ordering.{Ordering}
use Rattle.std.specs.declared.cmp.Ordering.TheVariants.{Less, Equal, Greater}
use Rattle.std.proofs.lemmas.Bool.{and_parts, and_from, false≢true}
use Rattle.std.proofs.lemmas.Bool.Decides.{Decides-int_eq, Decides-eqb}
use Rattle.std.proofs.lemmas.List.{append-nil}
use Rattle.std.proofs.lemmas.Slice.Eq.{slice_eq-Decides, bytes_eq-Decides}
use Rattle.iso_model.specs.declared.terms.Term.{Term}
use Rattle.iso_model.specs.Terms.Trees.{Tree}
use Rattle.iso_model.specs.Terms.Copies.{copy_from, place_of}
use Rattle.iso_model.specs.Terms.Variables.{variables}
use Rattle.iso_model.specs.Terms.Order.{term_cmp}
use Rattle.iso_model.specs.Search.Groups.{witness, are_variants, is_with, firsts, groups_of}
use Rattle.iso_model.proofs.OnTerms.OrderLemmas.{alike_identical}
use Rattle.iso_lib_core.specs.Variants.{Sign, OfVariable, OfInteger, OfAtom, OfCompound, signs, class_of}
use Rattle.iso_lib_core.specs.Groupings.{solution_of}
use Rattle.iso_lib_core.proofs.SignLemmas.{is_built, signs_one, built_term, renamed_built}
use Rattle.iso_lib_core.proofs.GroupLemmas.{firsts_by, groups_by}

-- ---- equal parts

abbrev pub sign_eq : Sign → Sign → Bool
sign_eq (OfVariable m) (OfVariable n) = m == n
sign_eq (OfInteger y) (OfInteger z) = int_eq y z
sign_eq (OfAtom a) (OfAtom b) = bytes_eq a b
sign_eq (OfCompound f m) (OfCompound g n) = bytes_eq f g && (m == n)
sign_eq s t = false

sign_told : (s t : Sign) → sign_eq s t ≡ true → s ≡ t
sign_told (OfVariable m) (OfVariable n) h = ap OfVariable ((Decides-eqb m n).0 h)
sign_told (OfInteger y) (OfInteger z) h = ap OfInteger ((Decides-int_eq y z).0 h)
sign_told (OfAtom a) (OfAtom b) h = ap OfAtom ((bytes_eq-Decides a b).0 h)
sign_told (OfCompound f m) (OfCompound g n) h =
    let both = and_parts (bytes_eq f g) (m == n) h in
    ap₂ OfCompound ((bytes_eq-Decides f g).0 both.0) ((Decides-eqb m n).0 both.1)
sign_told s t h = absurd (false≢true h)

sign_itself : (s : Sign) → sign_eq s s ≡ true
sign_itself (OfVariable n) = (Decides-eqb n n).1 refl
sign_itself (OfInteger z) = (Decides-int_eq z z).1 refl
sign_itself (OfAtom a) = (bytes_eq-Decides a a).1 refl
sign_itself (OfCompound f n) = and_from (bytes_eq f f) (n == n) ((bytes_eq-Decides f f).1 refl) ((Decides-eqb n n).1 refl)

sign_decides : (s t : Sign) → Decides (sign_eq s t) (s ≡ t)
sign_decides s t = (sign_told s t, λ e. subst (λ u. sign_eq s u ≡ true) e (sign_itself s))

abbrev pub parts_eq : List Sign → List Sign → Bool
parts_eq = pointwise sign_eq

pub parts_decide : (xs ys : List Sign) → Decides (parts_eq xs ys) (xs ≡ ys)
parts_decide xs ys = slice_eq-Decides sign_decides xs ys (parts_eq xs ys) refl

-- ---- equal up to a renaming

equal_order : (o : Ordering) → is_eq o ≡ true → o ≡ Equal
equal_order Equal h = refl
equal_order Less h = absurd (false≢true h)
equal_order Greater h = absurd (false≢true h)

numbered_built : (t : Tree) → is_built t ≡ true → is_built (copy_from t 0) ≡ true
numbered_built t h = renamed_built (λ x. 0 + place_of x (variables t)) t ∙ h

-- where the parts are equal
pub variants_by_parts : (t u : Tree) → is_built t ≡ true → is_built u ≡ true → are_variants t u ≡ parts_eq (class_of t) (class_of u)
variants_by_parts t u h k =
    let a = copy_from t 0 in
    let b = copy_from u 0 in
    both_ways (are_variants t u) (parts_eq (class_of t) (class_of u))
    (λ e. (parts_decide (class_of t) (class_of u)).1 (ap signs ((alike_identical a b).0 (equal_order (term_cmp a b) e))))
    (λ e. (
    let parts = (parts_decide (class_of t) (class_of u)).0 e in
    let whole = append-nil (signs a) ∙ parts ∙ sym (append-nil (signs b)) in
    let same = (signs_one a b [] [] (numbered_built t h) (numbered_built u k) whole).0 in
    ap is_eq ((alike_identical a b).1 same)
    ))

-- ---- groups by parts

abbrev pub class : Tree → List Sign
class p = class_of (witness p)

abbrev pub IsSolution : Tree → Type 0
IsSolution p = is_built (witness p) ≡ true

with_by_parts : (p q : Tree) → IsSolution p → IsSolution q → is_with p q ≡ parts_eq (class p) (class q)
with_by_parts p q h k = variants_by_parts (witness p) (witness q) h k

filter_agree : {X : Type 0} (P : X → Type 0) (f g : X → Bool) (xs : List X) → ((x : X) → P x → f x ≡ g x) → AllByRecursion P xs → filter f xs ≡ filter g xs
filter_agree P f g [] agree all = refl
filter_agree P f g (x ∷ xs) agree all = rw (agree x all.0, filter_agree P f g xs agree all.1) refl

map_agree : {X Y : Type 0} (P : X → Type 0) (f g : X → Y) (xs : List X) → ((x : X) → P x → f x ≡ g x) → AllByRecursion P xs → map f xs ≡ map g xs
map_agree P f g [] agree all = refl
map_agree P f g (x ∷ xs) agree all = ap₂ (λ y ys. y ∷ ys) (agree x all.0) (map_agree P f g xs agree all.1)

all_filtered : {X : Type 0} (P : X → Type 0) (r : X → Bool) (xs : List X) → AllByRecursion P xs → AllByRecursion P (filter r xs)
all_filtered P r [] all = tt
all_filtered P r (x ∷ xs) all =
    elim (r x) as (λ b. AllByRecursion P (if b then x ∷ filter r xs else filter r xs)) [ true ↦ (all.0, all_filtered P r xs all.1) | false ↦ all_filtered P r xs all.1 ]

abbrev pub class_firsts : List Tree → List Tree
class_firsts ps = firsts_by class parts_eq parts_decide ps

abbrev pub class_groups : List Tree → List (List Tree)
class_groups ps = groups_by class parts_eq parts_decide ps

firsts_are : (ps : List Tree) → AllByRecursion IsSolution ps → AllByRecursion IsSolution (class_firsts ps)
firsts_are [] all = tt
firsts_are (p ∷ ps) all = (all.0, all_filtered IsSolution (λ q. not (parts_eq (class p) (class q))) (class_firsts ps) (firsts_are ps all.1))

firsts_agree : (ps : List Tree) → AllByRecursion IsSolution ps → firsts ps ≡ class_firsts ps
firsts_agree [] all = refl
firsts_agree (p ∷ ps) all =
    ap (λ fs. p ∷ filter (λ q. not (is_with p q)) fs) (firsts_agree ps all.1)
    ∙ ap (λ fs. p ∷ fs) (filter_agree IsSolution (λ q. not (is_with p q)) (λ q. not (parts_eq (class p) (class q))) (class_firsts ps) (λ q k. ap not (with_by_parts p q all.0 k)) (firsts_are ps all.1))

groups_agree : (ps : List Tree) → AllByRecursion IsSolution ps → groups_of ps ≡ class_groups ps
groups_agree ps all =
    ap (map (λ p. filter (is_with p) ps)) (firsts_agree ps all)
    ∙ map_agree IsSolution (λ p. filter (is_with p) ps) (λ p. filter (λ q. parts_eq (class p) (class q)) ps) (class_firsts ps)
    (λ p h. filter_agree IsSolution (is_with p) (λ q. parts_eq (class p) (class q)) ps (λ q k. with_by_parts p q h k) all) (firsts_are ps all)

are_solutions : (xs : List (Term × Term)) → AllByRecursion IsSolution (map solution_of xs)
are_solutions [] = tt
are_solutions (x ∷ xs) = (built_term x.0, are_solutions xs)

-- the groups of solutions, by the parts of their witnesses
pub groups_are : (xs : List (Term × Term)) → class_groups (map solution_of xs) ≡ groups_of (map solution_of xs)
groups_are xs = sym (groups_agree (map solution_of xs) (are_solutions xs))
