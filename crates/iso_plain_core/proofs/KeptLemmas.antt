-- Clauses as the engine keeps them can be entered.
use Rattle.std.proofs.Common.{ℕ, List, sym, subst}
use Rattle.iso_model.specs.Terms.Trees.{Tree}
use Rattle.iso_store_core.specs.declared.patterns.Pattern.{Pattern}
use Rattle.iso_prep.specs.declared.bodies.Node.{Node}
use Rattle.iso_plain_core.specs.Nodes.{EachGoal}
use Rattle.iso_program.specs.Kept.{IsTemplate}
use Rattle.iso_plain_core.specs.Kept.{IsKeptGoal}
use Rattle.iso_program.specs.Written.{Fits}
use Rattle.iso_plain_core.specs.Entering.{HeadFits, PartsFit}
use Rattle.iso_program.specs.Written.{term_in}
use Rattle.iso_store_core.specs.Patterns.{IsPattern}
use Rattle.iso_program.specs.Heads.{head_parts}
use Rattle.iso_program.specs.declared.clauses.Clause.{Clause}
use Rattle.iso_program.proofs.ClauseLemmas.{template_fits}
use Rattle.iso_plain_core.specs.BodyNames.{each_goal}
use Rattle.iso_program.proofs.WrittenLemmas.{head_is}

pub head_fits : {C : Type 0} (names : List (List ℕ)) (n : ℕ) (kept : Clause C) (t : Tree) → IsPattern names (head_parts kept) t
    → IsTemplate n t → HeadFits names n kept
head_fits names n kept t is template =
    let same = sym (head_is names (head_parts kept) t is) in
    record {
      written = subst (λ (u : Tree). IsPattern names (head_parts kept) u) same is;
      fits = subst (λ (u : Tree). Fits n u) same (template_fits n t template);
    }

pub kept_parts_fit : (names : List (List ℕ)) (n : ℕ) (parts : List (Node Pattern)) → EachGoal (IsKeptGoal names n) parts → PartsFit names n parts
kept_parts_fit names n parts h = each_goal (λ g kept. record { written = kept.written; fits = template_fits n (term_in names g) kept.template }) parts h
