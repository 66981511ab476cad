use Rattle.std.proofs.Common.{◌≡◌, ◌∙◌, ap, sym, subst, length, arith}
use Rattle.iso_model.specs.Terms.Trees.{count}
use Rattle.iso_model.specs.Terms.TermOf.{row_of}
use Rattle.iso_model.proofs.OnTerms.RowLemmas.{count_row_of}
use Rattle.iso_alloc.specs.Plans.{arguments_of}
use Rattle.iso_compile.specs.Heads as heads
use Rattle.iso_bodies.specs.Clauses.{IsLoadedCode, IsNameOf}
use Rattle.iso_bodies.proofs.KeptLemmas.{name_kept}
use Rattle.iso_clause_code.proofs.CheckedLemmas.{arguments_row, checked_code, if_ok_both}
use Rattle.iso_clause_code.proofs.keeping.kept_code.Goals as goal

pub load_clause-requires-clause-form : goal.load_clause-requires-clause-form
load_clause-requires-clause-form g c =
    let p = c.args.checked.now.prepared in
    let code = c.in_ok-compiled.ensures in
    let arguments : row_of c.head_arguments-arity.result.now ≡ arguments_of p.head = c.head_arguments-arity.ensures ∙ ap arguments_of c.head-2.ensures in
    let many : count (arguments_of p.head) ≡ length c.head_arguments-arity.result.now = sym (ap count arguments) ∙ count_row_of c.head_arguments-arity.result.now in (
      arguments_of p.head,
      code.gets_are,
      code.blocks_are ∙ ap (λ low. heads.head_blocks 0 low (arguments_of p.head)) (sym c.registers-low.ensures),
      many,
      arguments_row p.head c.args.checked.now.terms.head,
    )

pub load_clause-requires-clause-registers : goal.load_clause-requires-clause-registers
load_clause-requires-clause-registers g c =
    let p = c.args.checked.now.prepared in
    let arguments : row_of c.head_arguments-arity.result.now ≡ arguments_of p.head = c.head_arguments-arity.ensures ∙ ap arguments_of c.head-2.ensures in
    let many : count (arguments_of p.head) ≡ length c.head_arguments-arity.result.now = sym (ap count arguments) ∙ count_row_of c.head_arguments-arity.result.now in
    omega (arith, many, c.in_ok-plan.ensures.arguments, c.registers-low.ensures)

pub returns-clause-kept : goal.returns-clause-kept
returns-clause-kept g c = λ clause is.
    (let p = c.args.checked.now.prepared in
    let old = g.S.Store.names c.head_name.new.store in
    let names = g.S.Store.names c.load_clause.new.store in
    let plan = c.in_ok-plan.plan in
    let compiled = c.in_ok-compiled.compiled in
    let arguments : row_of c.head_arguments-arity.result.now ≡ arguments_of p.head = c.head_arguments-arity.ensures ∙ ap arguments_of c.head-2.ensures in
    let many : length c.head_arguments-arity.result.now ≡ count (arguments_of p.head) = sym (count_row_of c.head_arguments-arity.result.now) ∙ ap count arguments in
    let key = is.head_template.key in
    let name = name_kept old names c.load_clause.ensures.rest.names c.in_ok-name.name clause.head
    (c.in_ok-name.ensures.name clause.head key.0 (c.head.ensures ∙ is.head) key.1) in
    if_ok_both c.load_clause.result c.load_clause.ensures.loaded c.load_clause.ensures.key (λ code loaded given.
    checked_code names c.args.checked.now plan compiled code c.in_ok-plan.ensures c.in_ok-compiled.ensures
    (subst (λ n. IsLoadedCode names plan.registers (count (arguments_of p.head)) n compiled code) c.variables-variables.ensures.count
    (subst (λ n. IsLoadedCode names plan.registers n c.variables-variables.result compiled code) many
    (subst (λ n. IsLoadedCode names n (length c.head_arguments-arity.result.now) c.variables-variables.result compiled code) c.registers-low.ensures loaded)))
    (given.1 ∙ many) clause is
    (subst (λ n. IsNameOf names n clause.head) (sym given.0) name)))
