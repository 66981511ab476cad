-- Every instance of the query that is proved is an instance of a leaf.
use Rattle.std.proofs.Common.{◌≡◌, ◌⊎◌, ℕ, List, [], ◌∷◌, ◌++◌, false, Option, Some, None, inl, inr, refl, sym, ap, ◌∙◌, subst, codes}
use Rattle.std.specs.Prelude.{unwrap_or}
use Rattle.iso_model.specs.Terms.Trees.{Tree, Name}
use Rattle.iso_model.specs.Terms.Variables.{variable_count}
use Rattle.iso_model.specs.Terms.Substitutions.{Subst, apply, Extends}
use Rattle.iso_model.specs.Search.Bodies.{Body, Cut, Run, And, Or, If, Choose, two, body_term}
use Rattle.iso_model.specs.Search.Databases.{Clause, Procedures, Key, key, key_of, clauses_at}
use Rattle.iso_model.specs.Search.Table.{is_built_in}
use Rattle.iso_model.specs.Search.Walker.{started}
use Rattle.iso_model.specs.Search.RunLaws.{run_of}
use Rattle.iso_logic.specs.Provability.{Among, first, later, Proves, proves_true, proves_both, proves_head}
use Rattle.iso_logic.specs.DefiniteClauses.{IsUserGoal, AreGoals, IsDefiniteClause, IsDefinite}
use Rattle.iso_logic.specs.Leaves.{body_goals, images, Leaves, leaf, calls, Branches, none, misses, enters, clauses_of, goals_of}
use Rattle.iso_logic.specs.Answers.{IsInstanceOfOne, this, other, answers_of}
use Rattle.iso_logic.specs.AnswerLaws.{AnswersAreComplete}
use Rattle.iso_logic.proofs.GoalLemmas.{key_applied, built_in_key, images_join, parts_of, AreUserGoals, parts_are}
use Rattle.iso_logic.proofs.Lifting.{joint, joint_equal, joint_images, joint_answer, user_entered, user_goals_of, among_cases}
use Rattle.iso_logic.proofs.Runs.{answers_leaves}
use Rattle.iso_logic.proofs.Conversions.{query_converts, body_back}

-- all of these are proved
abbrev pub Each : Procedures → List Tree → Type 0
Each ps [] = Unit {0}
Each ps (t ∷ ts) = Proves ps t × Each ps ts

each_join : (ps : Procedures) (xs ys : List Tree) → Each ps xs → Each ps ys → Each ps (xs ++ ys)
each_join ps [] ys h k = k
each_join ps (x ∷ xs) ys h k = (h.0, each_join ps xs ys h.1 k)

one_join : (t : Tree) (xs ys : List Tree) → IsInstanceOfOne t ys → IsInstanceOfOne t (xs ++ ys)
one_join t [] ys h = h
one_join t (x ∷ xs) ys h = other (one_join t xs ys h)

one_first : {t : Tree} {xs : List Tree} (ys : List Tree) → IsInstanceOfOne t xs → IsInstanceOfOne t (xs ++ ys)
one_first ys (this s e) = this s e
one_first ys (other h) = other (one_first ys h)

-- A term that a clause proves.
record ByClause (ps : Procedures) (k : Key) (t : Tree) : Type 0 where
  clause : Clause
  subst_ : Subst
  among : Among clause (clauses_of ps k)
  head : apply subst_ clause.head ≡ t
  body : Proves ps (apply subst_ (body_term clause.body))
  definite : IsDefiniteClause k clause

module _ (ps : Procedures) (definite : IsDefinite ps) where
  by_clause : {t : Tree} → Proves ps t → (k : Key) → key_of t ≡ Some k → is_built_in k ≡ false → ByClause ps k t
  by_clause proves_true k named user = absurd (built_in_key (Name (codes "true")) k (key (codes "true") 0) named refl refl user)
  by_clause (proves_both {a = a} {b = b} p q) k named user = absurd (built_in_key (two (codes ",") a b) k (key (codes ",") 2) named refl refl user)
  by_clause (proves_head {c = c} s has body) k named user =
      let d = definite has.key has.clauses has.at c has.among in
      let both : Some has.key ≡ Some k = sym (key_applied s c.head d.term has.head) ∙ named in
      let same : has.key ≡ k = cc in
      record {
        clause = c;
        subst_ = s;
        among = subst (λ x. Among c (clauses_of ps x)) same (subst (Among c) (sym (ap (λ o. unwrap_or o []) has.at)) has.among);
        head = refl;
        body = body;
        definite = subst (λ x. IsDefiniteClause x c) same d;
      }

  both_parts : {t : Tree} → Proves ps t → (a b : Tree) → t ≡ two (codes ",") a b → Proves ps a × Proves ps b
  both_parts proves_true a b e = let clash : Name (codes "true") ≡ two (codes ",") a b = e in cc
  both_parts (proves_both {a = x} {b = y} p q) a b e =
      let pair : two (codes ",") x y ≡ two (codes ",") a b = e in
      let left : x ≡ a = cc in
      let right : y ≡ b = cc in
      (subst (Proves ps) left p, subst (Proves ps) right q)
  both_parts (proves_head {c = c} s has body) a b e =
      let d = definite has.key has.clauses has.at c has.among in
      absurd (built_in_key (two (codes ",") a b) has.key (key (codes ",") 2) (ap key_of (sym e) ∙ key_applied s c.head d.term has.head) refl refl d.user)

  -- the goals of a conjunction that is proved
  pub proved_goals : (n : ℕ) (b : Body) (s : Subst) → AreGoals n b → Proves ps (apply s (body_term b)) → Each ps (images s (parts_of b))
  proved_goals n (Run t) s g h = (h, tt)
  proved_goals n (And a b) s g h =
      let p = both_parts h (apply s (body_term a)) (apply s (body_term b)) refl in
      subst (Each ps) (sym (images_join s (parts_of a) (parts_of b)))
      (each_join ps (images s (parts_of a)) (images s (parts_of b)) (proved_goals n a s g.0 p.0) (proved_goals n b s g.1 p.1))
  proved_goals n Cut s g h = absurd g
  proved_goals n (Or a b) s g h = absurd g
  proved_goals n (If a b) s g h = absurd g
  proved_goals n (Choose a b c) s g h = absurd g

  proved_body : (n : ℕ) (b : Body) (s : Subst) → ((b ≡ Run (Name (codes "true"))) ⊎ AreGoals n b) → Proves ps (apply s (body_term b))
      → Each ps (images s (goals_of (body_term b)))
  proved_body n b s (inl e) h = subst (λ x. Each ps (images s (goals_of (body_term x)))) (sym e) tt
  proved_body n b s (inr g) h = subst (λ gs. Each ps (images s gs)) (sym (parts_are n b g)) (proved_goals n b s g h)

  -- all clauses of this key are definite
  clauses_definite : (k : Key) (c : Clause) → Among c (clauses_of ps k) → IsDefiniteClause k c
  clauses_definite k c among = go (clauses_at ps k) refl among where
    go : (o : Option (List Clause)) → clauses_at ps k ≡ o → Among c (unwrap_or o []) → IsDefiniteClause k c
    go None e h = elim h [ ]
    go (Some cs) e h = definite k cs e c h

  mutual
    complete : {gs : List Tree} {t : Tree} {l : List Tree} → Leaves ps gs t l → AreUserGoals gs → (s : Subst) → Each ps (images s gs)
        → IsInstanceOfOne (apply s t) l
    complete leaf user s proved = this s refl
    complete (calls {g = g} {t = t} {k = k} named branches) user s proved =
        let own = user.0 in
        let both : Some own.0 ≡ Some k = sym own.1 ∙ named in
        let same : own.0 ≡ k = cc in
        let by = by_clause proved.0 k (key_applied s g own.3 named) (subst (λ x. is_built_in x ≡ false) same own.2) in
        tries branches own user.1 (λ c among. clauses_definite k c among) s by.subst_ by.clause by.among by.head
        (proved_body by.clause.variables by.clause.body by.subst_ by.definite.body by.body) proved.1

    tries : {g : Tree} {cs : List Clause} {gs : List Tree} {t : Tree} {l : List Tree} → Branches ps g cs gs t l → IsUserGoal g → AreUserGoals gs → {k : Key}
        → ((c : Clause) → Among c cs → IsDefiniteClause k c)
        → (s r : Subst) (c : Clause) → Among c cs → apply r c.head ≡ apply s g → Each ps (images r (body_goals c)) → Each ps (images s gs)
        → IsInstanceOfOne (apply s t) l
    tries none own user fine s r c among head body others = elim among [ ]
    tries (misses {g = g} {c = d} {cs = cs} n fresh never branches) own user fine s r c among head body others = elim (among_cases c d cs among) [
      | inl same ↦ absurd (never (joint n s r) (joint_equal n s r g d.head fresh.0 (ap (λ x. apply r x.head) same ∙ head)))
      | inr behind ↦ tries branches own user (λ x h. fine x (later h)) s r c behind head body others
    ]
    tries (enters {g = g} {t = t} {c = d} {cs = cs} {gs = gs} {l = l} {m = m} n u fresh found leaves branches) own user fine s r c among head body others =
        elim (among_cases c d cs among) [
          | inl same ↦ (
              let goes_on : Extends u (joint n s r) =
              found.most_general (joint n s r) (joint_equal n s r g d.head fresh.0 (ap (λ x. apply r x.head) same ∙ head)) in
              let proved : Each ps (images r (body_goals d)) = subst (λ x. Each ps (images r (body_goals x))) (sym same) body in
              let all = subst (Each ps) (sym (joint_images n s r u (body_goals d) gs fresh.1 goes_on))
              (each_join ps (images r (body_goals d)) (images s gs) proved others) in
              let behind = complete leaves (user_entered n u g d gs found own (fine d first).term (fine d first).body user) (joint n s r) all in
              one_first m (subst (λ x. IsInstanceOfOne x l) (joint_answer n s r u t fresh.2 goes_on) behind))
          | inr behind ↦ one_join (apply s t) l m (tries branches own user (λ x h. fine x (later h)) s r c behind head body others)
        ]

  pub complete_leaves : (gs : List Tree) (t : Tree) (l : List Tree) → Leaves ps gs t l → AreUserGoals gs → (s : Subst) → Each ps (images s gs)
      → IsInstanceOfOne (apply s t) l
  complete_leaves gs t l h user s proved = complete h user s proved

-- every instance of the query that is proved is an instance of the query under some answer
pub answers_complete : AnswersAreComplete
answers_complete goal budget w definite query over s proved =
    let ps = w.database.procedures in
    let c = query_converts goal query in
    let back = body_back (variable_count goal) goal c.body c.converts c.goals in
    let goals : goals_of goal ≡ parts_of c.body = ap goals_of (sym back) ∙ parts_are (variable_count goal) c.body c.goals in
    complete_leaves ps definite (goals_of goal) goal (answers_of goal (run_of (started goal budget w))) (answers_leaves goal budget w definite query over)
    (subst AreUserGoals (sym goals) (user_goals_of (variable_count goal) c.body c.goals)) s
    (subst (λ gs. Each ps (images s gs)) (sym goals)
    (proved_goals ps definite (variable_count goal) c.body s c.goals (subst (λ t. Proves ps (apply s t)) (sym back) proved)))
