-- Calls by their names and arguments, and heads of clauses.
use Rattle.std.proofs.Common.{◌≡◌, ◌≢◌, ◌+◌, ℕ, List, [], ◌∷◌, length, true, Some, refl, ap, ap₂, ◌∙◌, sym, subst, arith}
use Rattle.std.proofs.lemmas.Bool.{and_parts, leb-true}
use Rattle.iso_model.specs.Terms.Trees.{Tree, Variable, Integer, Name, Apply, End, More, row, count}
use Rattle.iso_model.specs.Terms.Sorts.{is_term, is_row}
use Rattle.iso_model.specs.Terms.Substitutions.{Subst, apply, compose}
use Rattle.iso_model.specs.Terms.Unification.Applied.{apply_apply}
use Rattle.iso_model.specs.Terms.Unifiers.{Unifier, NeverEqual}
use Rattle.iso_model.specs.Terms.Copies.{renamed}
use Rattle.iso_model.specs.Search.Keys.{Key, key, key_of}
use Rattle.iso_model.specs.Search.Walker.{arguments_size}
use Rattle.iso_model.specs.Terms.Sizes.{size}
use Rattle.iso_model.proofs.OnTerms.SortLemmas.{count-apply, row_of_arguments}
use Rattle.iso_alloc.specs.Plans.{arguments_of}
use Rattle.iso_environments.specs.Goals.{goal_of}

-- what the arguments of a head count
pub head_counts : (head : Tree) → size (arguments_of (Some head)) ≡ arguments_size head
head_counts (Apply f ts) = refl
head_counts (Variable x) = refl
head_counts (Integer z) = refl
head_counts (Name a) = refl
head_counts End = refl
head_counts (More t ts) = refl

key_is : {k l : Key} → Some k ≡ Some l → k ≡ l
key_is e = cc

pub name_is : {g f : List ℕ} {m n : ℕ} → Some (key g m) ≡ Some (key f n) → g ≡ f
name_is e = ap (λ (k : Key). k.name) (key_is e)

pub arity_is : {g f : List ℕ} {m n : ℕ} → Some (key g m) ≡ Some (key f n) → m ≡ n
arity_is e = ap (λ (k : Key). k.arity) (key_is e)

-- how many arguments it has, by its key
pub head_arity : (head : Tree) (f : List ℕ) (n : ℕ) → key_of head ≡ Some (key f n)
    → count (arguments_of (Some head)) ≡ n
head_arity (Apply g ts) f n is = arity_is is
head_arity (Name a) f n is = arity_is is
head_arity (Variable x) f n is = absurd (cc)
head_arity (Integer z) f n is = absurd (cc)
head_arity End f n is = absurd (cc)
head_arity (More t ts) f n is = absurd (cc)

count_applied : (s : Subst) (ts : List Tree) → count (apply s (row ts)) ≡ length ts
count_applied s [] = refl
count_applied s (t ∷ ts) = (let rest = count_applied s ts in omega (arith, rest))

none_long : {X : Type 0} (xs : List X) → length xs ≡ 0 → xs ≡ []
none_long [] is = refl
none_long (x ∷ xs) is = absurd (omega (arith, is))

-- ---- a head of the call's name, with as many arguments

module _ (f : List ℕ) (n : ℕ) (s : Subst) where
  -- the arguments of both as those of a compound
  abbrev Compounds : List Tree → Tree → (Tree → Tree → Type 0) → Type 0
  Compounds ts head P = P (Apply f (row ts)) (apply s (renamed n (Apply f (arguments_of (Some head)))))

  name_unified : {u : Subst} → Unifier (Apply f End) (Apply f End) u → Unifier (Name f) (Name f) u
  name_unified h = record { equal = refl; most_general = λ t same. h.most_general t refl; least = h.least }

  pub same_unified : (ts : List Tree) (head : Tree) (u : Subst) → is_term head ≡ true
      → key_of head ≡ Some (key f (length ts)) → Compounds ts head (λ a b. Unifier a b u)
      → Unifier (goal_of f ts) (apply s (renamed n head)) u
  same_unified ts (Name g) u is same h =
      let name : f ≡ g = sym (name_is same) in
      let none = none_long ts (sym (arity_is same)) in
      subst (λ (g : List ℕ). Unifier (goal_of f ts) (Name g) u) name
      (subst (λ (us : List Tree). Unifier (goal_of f us) (Name f) u) (sym none)
      (name_unified (subst (λ (us : List Tree). Unifier (Apply f (row us)) (Apply f End) u) none h)))
  same_unified [] (Apply g us) u is same h =
      let some = leb-true 1 (count us) (and_parts _ _ is).0 in
      let none : count us ≡ 0 = arity_is same in
      absurd (omega (arith, some, none))
  same_unified (t ∷ ts) (Apply g us) u is same h =
      let name : f ≡ g = sym (name_is same) in
      subst (λ (g : List ℕ). Unifier (Apply f (row (t ∷ ts))) (Apply g (apply s (renamed n us))) u) name h
  same_unified ts (Variable x) u is same h = absurd (cc)
  same_unified ts (Integer z) u is same h = absurd (cc)
  same_unified ts End u is same h = absurd (cc)
  same_unified ts (More t us) u is same h = absurd (cc)

  pub same_never : (ts : List Tree) (head : Tree) → is_term head ≡ true → key_of head ≡ Some (key f (length ts))
      → Compounds ts head NeverEqual → NeverEqual (goal_of f ts) (apply s (renamed n head))
  same_never ts (Name g) is same h t e =
      let none = none_long ts (sym (arity_is same)) in
      h t (ap (λ (us : List Tree). Apply f (apply t (row us))) none)
  same_never [] (Apply g us) is same h t e =
      let some = leb-true 1 (count us) (and_parts _ _ is).0 in
      let none : count us ≡ 0 = arity_is same in
      absurd (omega (arith, some, none))
  same_never (v ∷ ts) (Apply g us) is same h t e =
      let name : g ≡ f = name_is same in
      h t (e ∙ ap (λ (g : List ℕ). Apply g (apply t (apply s (renamed n us)))) name)
  same_never ts (Variable x) is same h t e = absurd (cc)
  same_never ts (Integer z) is same h t e = absurd (cc)
  same_never ts End is same h t e = absurd (cc)
  same_never ts (More v us) is same h t e = absurd (cc)

  -- ---- a head of another key

  head_row : (t : Subst) (us : Tree) → is_row us ≡ true → count (apply t (apply s (renamed n us))) ≡ count us
  head_row t us is =
      let r : Subst = λ x. Variable (n + x) in
      ap count (apply_apply s t (renamed n us) ∙ apply_apply r (compose s t) us)
      ∙ count-apply (compose r (compose s t)) us is

  pub other_never : (ts : List Tree) (head : Tree) → is_term head ≡ true → (k : Key) → key_of head ≡ Some k
      → key_of head ≢ Some (key f (length ts)) → NeverEqual (goal_of f ts) (apply s (renamed n head))
  other_never [] (Name g) is k has other t e =
      let name : g ≡ f = cc e in
      other (ap (λ (h : List ℕ). Some (key h 0)) name)
  other_never (v ∷ ts) (Name g) is k has other t e = absurd (cc e)
  other_never [] (Apply g us) is k has other t e = absurd (cc e)
  other_never (v ∷ ts) (Apply g us) is k has other t e =
      let name : g ≡ f = cc e in
      let rows : apply t (row (v ∷ ts)) ≡ apply t (apply s (renamed n us)) = cc e in
      let many : count us ≡ length (v ∷ ts) =
      sym (head_row t us (row_of_arguments g us is)) ∙ (ap count (sym rows) ∙ count_applied t (v ∷ ts)) in
      other (ap₂ (λ (h : List ℕ) (m : ℕ). Some (key h m)) name many)
  other_never ts (Variable x) is k has other t e = absurd (cc has)
  other_never ts (Integer z) is k has other t e = absurd (cc has)
  other_never ts End is k has other t e = absurd (cc has)
  other_never ts (More v us) is k has other t e = absurd (cc has)
