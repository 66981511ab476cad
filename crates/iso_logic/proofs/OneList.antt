-- There is at most one list of leaves, up to variables' numbers in each member.
use Rattle.std.proofs.Common.{◌≡◌, ℕ, ◌+◌, List, [], ◌∷◌, ◌++◌, Option, Some, None, refl, sym, ap, ap₂, ◌∙◌, subst}
use Rattle.std.specs.Prelude.{unwrap_or}
use Rattle.iso_model.specs.Terms.Trees.{Tree, Variable}
use Rattle.iso_model.specs.Terms.Substitutions.{Subst, apply, compose, Extends}
use Rattle.iso_model.specs.Terms.Unifiers.{Unifier, NeverEqual}
use Rattle.iso_model.specs.Terms.Unification.Applied.{apply_apply, apply_none}
use Rattle.iso_model.specs.Terms.Copies.{renamed}
use Rattle.iso_model.specs.Search.Databases.{Clause, Procedures, Key, key_of, clauses_at}
use Rattle.iso_logic.specs.Provability.{Among, first, later}
use Rattle.iso_logic.specs.DefiniteClauses.{IsUserGoal, IsDefiniteClause, IsDefinite}
use Rattle.iso_logic.specs.Leaves.{body_goals, images, renamed_all, IsFresh, Leaves, leaf, calls, Branches, none, misses, enters, clauses_of, goals_of}
use Rattle.iso_logic.specs.Variants.{VariantLists, no_members, members}
use Rattle.iso_logic.specs.AnswerLaws.{LeavesAreOneList}
use Rattle.iso_logic.proofs.GoalLemmas.{key_applied, images_images, images_join, AreUserGoals, parts_are}
use Rattle.iso_logic.proofs.Lifting.{joint, joint_equal, joint_images, joint_answer, user_entered, user_goals_of}
use Rattle.iso_logic.proofs.Conversions.{query_converts, body_back}
use Rattle.iso_model.specs.Terms.Variables.{variable_count}

join_variants : {a b c d : List Tree} → VariantLists a b → VariantLists c d → VariantLists (a ++ c) (b ++ d)
join_variants no_members k = k
join_variants (members v h) k = members v (join_variants h k)

-- The one goals and term are an instance of the others.
record Makes (s : Subst) (gs : List Tree) (t : Tree) (hs : List Tree) (u : Tree) : Type 0 where
  goals : images s gs ≡ hs
  term : apply s t ≡ u

-- what the other unifier makes of the clause's variables
abbrev of_clause : ℕ → Subst → Subst
of_clause n u x = u (n + x)

clause_made : (n : ℕ) (u : Subst) (t : Tree) → apply (of_clause n u) t ≡ apply u (renamed n t)
clause_made n u t = sym (apply_apply (λ x. Variable (n + x)) u t)

clause_made_all : (n : ℕ) (u : Subst) (ts : List Tree) → images (of_clause n u) ts ≡ images u (renamed_all n ts)
clause_made_all n u ts = sym (images_images (λ x. Variable (n + x)) u ts)

module _ (s : Subst) (g h : Tree) (c : Clause) (n m : ℕ) (v : Subst) (made : apply s g ≡ h) (found : Unifier h (renamed m c.head) v) where
  head_made : apply (of_clause m v) c.head ≡ apply (compose s v) g
  head_made = clause_made m v c.head ∙ sym found.equal ∙ ap (apply v) (sym made) ∙ apply_apply s v g

  -- where an instance of the goal has a unifier with the head, the goal has
  not_never : (gs : List Tree) (t : Tree) → IsFresh n g gs t → NeverEqual g (renamed n c.head) → ⊥
  not_never gs t fresh never = never (joint n (compose s v) (of_clause m v)) (joint_equal n (compose s v) (of_clause m v) g c.head fresh.0 head_made)

  -- and what comes of it is an instance too
  made_again : (gs : List Tree) (t : Tree) (hs : List Tree) (x : Tree) (u : Subst) → IsFresh n g gs t → Unifier g (renamed n c.head) u → Makes s gs t hs x
      → Makes (joint n (compose s v) (of_clause m v)) (images u (renamed_all n (body_goals c) ++ gs)) (apply u t)
      (images v (renamed_all m (body_goals c) ++ hs)) (apply v x)
  made_again gs t hs x u fresh own makes =
      let goes_on : Extends u (joint n (compose s v) (of_clause m v)) =
      own.most_general (joint n (compose s v) (of_clause m v)) (joint_equal n (compose s v) (of_clause m v) g c.head fresh.0 head_made) in
      record {
        goals =
            joint_images n (compose s v) (of_clause m v) u (body_goals c) gs fresh.1 goes_on
            ∙ ap₂ ◌++◌ (clause_made_all m v (body_goals c)) (sym (images_images s v gs) ∙ ap (images v) makes.goals)
            ∙ sym (images_join v (renamed_all m (body_goals c)) hs);
        term = joint_answer n (compose s v) (of_clause m v) u t fresh.2 goes_on ∙ sym (apply_apply s v t) ∙ ap (apply v) makes.term;
      }

tail_made : (s : Subst) (g h : Tree) (gs hs : List Tree) → images s (g ∷ gs) ≡ h ∷ hs → (apply s g ≡ h) × (images s gs ≡ hs)
tail_made s g h gs hs e =
    let both : apply s g ∷ images s gs ≡ h ∷ hs = e in
    let head : apply s g ≡ h = cc in
    let tail : images s gs ≡ hs = cc in
    (head, tail)

module _ (ps : Procedures) (definite : IsDefinite ps) where
  clauses_definite : (k : Key) (c : Clause) → Among c (clauses_of ps k) → IsDefiniteClause k c
  clauses_definite k c among = go (clauses_at ps k) refl among where
    go : (o : Option (List Clause)) → clauses_at ps k ≡ o → Among c (unwrap_or o []) → IsDefiniteClause k c
    go None e h = elim h [ ]
    go (Some cs) e h = definite k cs e c h

  mutual
    unique : {gs : List Tree} {t : Tree} {l : List Tree} → Leaves ps gs t l → AreUserGoals gs → {hs : List Tree} {x : Tree} {m : List Tree} → Leaves ps hs x m
        → (s r : Subst) → Makes s gs t hs x → Makes r hs x gs t → VariantLists l m
    unique leaf user leaf s r there back = members (record { there = s; back = r; makes = there.term; unmakes = back.term }) no_members
    unique leaf user (calls {g = h} {gs = hs} named branches) s r there back = let clash : [] ≡ h ∷ hs = there.goals in cc
    unique (calls {g = g} {gs = gs} named branches) user leaf s r there back = let clash : apply s g ∷ images s gs ≡ [] = there.goals in cc
    unique (calls {g = g} {gs = gs} {k = k} named branches) user (calls {g = h} {t = x} {gs = hs} {l = m} {k = j} called others) s r there back =
        let to = tail_made s g h gs hs there.goals in
        let from = tail_made r h g hs gs back.goals in
        let both : Some j ≡ Some k = sym called ∙ ap key_of (sym to.0) ∙ key_applied s g user.0.3 named in
        let same : j ≡ k = cc in
        unique_in branches user.0 user.1 (λ c among. clauses_definite k c among)
        (subst (λ i. Branches ps h (clauses_of ps i) hs x m) same others) s r to.0 from.0 (record { goals = to.1; term = there.term })
        (record { goals = from.1; term = back.term })

    unique_in : {g : Tree} {cs : List Clause} {gs : List Tree} {t : Tree} {l : List Tree} → Branches ps g cs gs t l → IsUserGoal g → AreUserGoals gs → {k : Key}
        → ((c : Clause) → Among c cs → IsDefiniteClause k c)
        → {h : Tree} {hs : List Tree} {x : Tree} {m : List Tree} → Branches ps h cs hs x m → (s r : Subst) → apply s g ≡ h → apply r h ≡ g → Makes s gs t hs x
        → Makes r hs x gs t → VariantLists l m
    unique_in none own user fine none s r to from there back = no_members
    unique_in (misses n fresh never branches) own user fine (misses n2 fresh2 never2 others) s r to from there back =
        unique_in branches own user (λ c among. fine c (later among)) others s r to from there back
    unique_in (misses {g = g} {t = t} {c = c} {gs = gs} n fresh never branches) own user fine (enters {g = h} n2 u2 fresh2 found2 leaves2 others) s r to from
        there back =
        absurd (not_never s g h c n n2 u2 to found2 gs t fresh never)
    unique_in (enters {g = g} {c = c} n u fresh found leaves branches) own user fine (misses {g = h} {t = x} {gs = hs} n2 fresh2 never2 others) s r to from
        there back =
        absurd (not_never r h g c n2 n u from found hs x fresh2 never2)
    unique_in (enters {g = g} {t = t} {c = c} {gs = gs} n u fresh found leaves branches) own user fine
        (enters {g = h} {t = x} {gs = hs} n2 u2 fresh2 found2 leaves2 others) s r to from there back =
        join_variants
        (unique leaves (user_entered n u g c gs found own (fine c first).term (fine c first).body user) leaves2 (joint n (compose s u2) (of_clause n2 u2))
        (joint n2 (compose r u) (of_clause n u))
        (made_again s g h c n n2 u2 to found2 gs t hs x u fresh found there) (made_again r h g c n2 n u from found hs x gs t u2 fresh2 found2 back))
        (unique_in branches own user (λ d among. fine d (later among)) others s r to from there back)

images_none : (xs : List Tree) → images Variable xs ≡ xs
images_none [] = refl
images_none (x ∷ xs) = ap₂ (λ y ys. y ∷ ys) (apply_none x) (images_none xs)

-- at most one list of leaves
pub one_list : LeavesAreOneList
one_list ps goal t l m definite query one two =
    let gs = goals_of goal in
    let n = variable_count goal in
    let c = query_converts goal query in
    let user : AreUserGoals gs =
    subst AreUserGoals (sym (parts_are n c.body c.goals) ∙ ap goals_of (body_back n goal c.body c.converts c.goals)) (user_goals_of n c.body c.goals) in
    let same : Makes Variable gs t gs t = record { goals = images_none gs; term = apply_none t } in
    unique ps definite one user two Variable Variable same same
