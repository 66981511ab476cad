-- Terms and clauses written out for the store: they stay what they are where names come.
use Rattle.std.proofs.Common.{◌≡◌, ℕ, List, Some, sym, ap, ap₂, ◌∙◌, subst, slice_index_or, codes}
use Rattle.iso_atoms.specs.Texts.{KeepsTexts}
use Rattle.iso_model.specs.Terms.Trees.{Tree, End}
use Rattle.iso_model.specs.Search.Bodies.{body_term, two}
use Rattle.iso_model.specs.Search.Databases as databases
use Rattle.iso_store_core.specs.declared.patterns.Part.{Part}
use Rattle.iso_store_core.specs.declared.patterns.Pattern.{Pattern}
use Rattle.iso_store_core.proofs.PatternLemmas.{pattern-kept}
use Rattle.iso_program.specs.declared.checked.Checked.{Checked}
use Rattle.iso_program.specs.declared.clauses.Clause.{Clause}
use Rattle.iso_store_core.specs.Patterns.{IsPattern}
use Rattle.iso_program.specs.Heads.{head_parts}
use Rattle.iso_program.specs.Written.{IsPatternOf, IsWritten, term_in, term_of_parts}
use Rattle.iso_program.specs.Kept.{Keeping, StaysKept, clause_term, IsChecked, IsClause}
use Rattle.iso_program.proofs.ClauseLemmas.{two_fits, template_fits, body_fits}
use Rattle.iso_program.proofs.PrepareLemmas.{one_tree}

-- ---- the term of a pattern

pub term_is : (names : List (List ℕ)) (g : Pattern) (t : Tree) → IsPatternOf names g t → term_in names g ≡ t
unfolding term_in
term_is names g t is = ap (λ ts. slice_index_or ts 0 End) is.term

pub is_written : (names : List (List ℕ)) (g : Pattern) (t : Tree) → IsPatternOf names g t → IsWritten names g
is_written names g t is = subst (λ (u : Tree). IsPatternOf names g u) (sym (term_is names g t is)) is

pub head_is : (names : List (List ℕ)) (ks : List Part) (t : Tree) → IsPattern names ks t → term_of_parts names ks ≡ t
unfolding term_of_parts
head_is names ks t is = ap (λ ts. slice_index_or ts 0 End) is.term

-- ---- names come

module _ (old new : List (List ℕ)) (texts : KeepsTexts old new) where
  pub written_kept : (g : Pattern) (t : Tree) → IsPatternOf old g t → IsPatternOf new g t
  written_kept g t is = pattern-kept old new texts g.parts.items t is

  pub clause_kept : {C : Type 0} {keeps : Keeping C} → StaysKept keeps → (kept : Clause C) (c : databases.Clause)
      → IsClause keeps old kept c → IsClause keeps new kept c
  clause_kept stays kept c is = record {
    head = pattern-kept old new texts (head_parts kept) c.head is.head;
    whole = written_kept kept.whole (clause_term c) is.whole;
    fits = is.fits;
    variables = is.variables;
    few = is.few;
    head_template = is.head_template;
    own = stays old new kept.own c texts is.own;
  }

-- ---- a clause is written

pub clause_written : {C : Type 0} {keeps : Keeping C} (names : List (List ℕ)) (checked : Checked) (kept : Clause C)
    (c : databases.Clause) (head body : Tree) → checked.prepared.head ≡ Some head → body ≡ body_term checked.prepared.body
    → IsPattern names (head_parts kept) head → IsPatternOf names kept.whole (two (codes ":-") head body)
    → kept.variables ≡ checked.prepared.variables → keeps names kept.own c
    → IsChecked checked c → IsClause keeps names kept c
clause_written names checked kept c head body head_same body_is written whole count own is =
    let same : head ≡ c.head = one_tree (sym head_same ∙ is.head) in
    let terms : two (codes ":-") head body ≡ clause_term c = ap₂ (two (codes ":-")) same (body_is ∙ ap body_term is.body) in
    record {
      head = subst (λ (t : Tree). IsPattern names (head_parts kept) t) same written;
      whole = subst (λ (t : Tree). IsPatternOf names kept.whole t) terms whole;
      fits = two_fits c.variables (codes ":-") c.head (body_term c.body) (template_fits c.variables c.head is.head_template) (body_fits c.variables c.body is.goal_templates);
      variables = count ∙ is.variables;
      few = is.few;
      head_template = is.head_template;
      own = own;
    }
