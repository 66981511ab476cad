-- The head of a clause was unified with a goal: words came for the clause's variables.
use Rattle.std.proofs.Common.{◌≡◌, ℕ, zero, suc, ◌+◌, ◌<◌, ◌≤◌, inl, inr, List, [], ◌∷◌, length, slice_index_or, Bool, true, refl, ap, subst, sym, ◌∙◌, arith}
use Rattle.std.proofs.lemmas.Bool.Decides.{leb_tells}
use Rattle.iso_model.specs.Terms.Trees.{Tree, Variable}
use Rattle.iso_model.specs.Terms.Substitutions.{Subst, apply, compose, IsSubstitution}
use Rattle.iso_model.specs.Terms.Unification.Applied.{apply_apply, apply_same}
use Rattle.iso_model.proofs.OnTerms.UnifierLemmas.{substitution_twice}
use Rattle.iso_model.specs.Search.RunLaws.Sameness.{IsTwice}
use Rattle.iso_store_core.specs.declared.patterns.Pattern.{Pattern}
use Rattle.iso_store_core.specs.Presents.{Present}
use Rattle.iso_store_core.specs.Heads.{MeetsHead, IsHeadMet}
use Rattle.iso_prep.specs.declared.bodies.Node.{Node}
use Rattle.iso_program.specs.Written.{term_in}
use Rattle.iso_search_core.specs.Words.{Extends, word_terms}
use Rattle.iso_plain_core.specs.Entering.{Meets, GoalFits, PartsFit, IsMade, Copies}
use Rattle.iso_program.proofs.WordLemmas.{words_on}
use Rattle.iso_plain_core.proofs.NodeLemmas.{alike_so}

-- words came behind it
abbrev pub meets_behind : {W : Type 0} {p q v : Present W} {goal : W} {head : Tree} {count : ℕ} {ws : List W} → MeetsHead p q goal head count ws → IsSubstitution q.substitution → Extends q v 0 → Meets p v (p.term goal) head count
meets_behind {p = p} {q = q} {v = v} {count = count} met own more =
    let next : v.next ≡ q.next = (let n = more.next in omega arith) in
    record {
      unifier = met.unifier;
      is = met.is;
      values = record {
        words = words_on met.keeps more.words;
        means = λ w h.
            ap (apply v.substitution) (more.words.terms w (met.keeps.stand w h)) ∙ ap (λ s. apply s (q.term w)) more.substitution
            ∙ met.values w h ∙ apply_apply p.substitution met.unifier (p.term w);
        beyond = λ n above. ap (λ s. s n) more.substitution ∙ met.beyond n (omega (arith, next, above));
        twice = subst IsTwice (sym more.substitution) (substitution_twice own);
      };
      next = next ∙ met.next;
    }

-- ---- terms for the clause's variables

-- the words' terms, and for each other number the new variable
abbrev pub head_terms : {W : Type 0} → Present W → List W → ℕ → Subst
head_terms q [] n k = Variable (n + k)
head_terms q (w ∷ ws) n zero = q.term w
head_terms q (w ∷ ws) n (suc k) = head_terms q ws (n + 1) k

word_term : {W : Type 0} (q : Present W) (ws : List W) (n k : ℕ) → k < length ws → head_terms q ws n k ≡ word_terms q ws k
word_term q [] n k below = absurd (omega arith)
word_term q (w ∷ ws) n zero below = refl
word_term q (w ∷ ws) n (suc k) below = word_term q ws (n + 1) k (omega arith)

its_word : {W : Type 0} (q : Present W) (ws : List W) (n k : ℕ) (d : W) → k < length ws → head_terms q ws n k ≡ q.term (slice_index_or ws k d)
its_word q [] n k d below = absurd (omega arith)
its_word q (w ∷ ws) n zero d below = refl
its_word q (w ∷ ws) n (suc k) d below = its_word q ws (n + 1) k d (omega arith)

no_word_term : {W : Type 0} (q : Present W) (ws : List W) (n k : ℕ) → length ws ≤ k → head_terms q ws n k ≡ Variable (n + k)
no_word_term q [] n k above = refl
no_word_term q (w ∷ ws) n zero above = absurd (omega arith)
no_word_term q (w ∷ ws) n (suc k) above =
    let same : n + 1 + k ≡ n + suc k = omega arith in
    no_word_term q ws (n + 1) k (omega arith) ∙ ap Variable same

-- they have the variables' values
pub head_values : {W : Type 0} {p q v : Present W} {goal : W} {head : Tree} {count : ℕ} (ws : List W) (met : MeetsHead p q goal head count ws) → Extends q v 0
    → (k : ℕ) → apply v.substitution (head_terms q ws p.next k) ≡ compose p.substitution met.unifier (p.next + k)
head_values {p = p} {q = q} {v = v} {goal = goal} {count = count} ws met more k =
    ap (λ s. apply s (head_terms q ws p.next k)) more.substitution
    ∙ elim (leb_tells (length ws) k) [
      | inl above ↦
          let many = met.many in
          let next = met.next in
          ap (apply q.substitution) (no_word_term q ws p.next k above.1) ∙ met.beyond (p.next + k) (let high = above.1 in omega (arith, high, many, next))
      | inr below ↦
          (let low = below.1 in ap (apply q.substitution) (its_word q ws p.next k goal low) ∙ met.variables k goal low)
    ]

-- parts that were copied with the words have these terms
pub copies_with : {names : List (List ℕ)} {W : Type 0} (q : Present W) {v : Present W} (ws : List W) (n : ℕ) (old new : List (Node W)) (parts : List (Node Pattern)) → PartsFit names (length ws) parts
    → Copies names v (word_terms q ws) old new parts → Copies names v (head_terms q ws n) old new parts
copies_with {names = names} q {v = v} ws n old new parts fits copies =
    let gives : (g : Pattern) (w : _) → GoalFits names (length ws) g → IsMade names v (word_terms q ws) g w → IsMade names v (head_terms q ws n) g w = λ g w fit made.
    (made.0, made.1 ∙ apply_same (word_terms q ws) (head_terms q ws n) (term_in names g) (λ x o. sym (word_term q ws n x (fit.fits.below x o)))) in
    record { more = copies.more; are = copies.are; nodes = alike_so gives parts copies.more fits copies.nodes }

-- an answer says that the two were unified, or that nothing makes them equal
pub head_met : {W : Type 0} (p q : Present W) (goal : W) (head : Tree) (count : ℕ) (ws : List W) (answer : Bool) → answer ≡ true → IsHeadMet p q goal head count ws answer → MeetsHead p q goal head count ws
head_met p q goal head count ws answer is h = subst (IsHeadMet p q goal head count ws) is h
