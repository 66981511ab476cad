use Rattle.std.proofs.Common.{◌≡◌, ◌∙◌, ap, sym, map, unwrap_or, option_map, Some, None, rules}
use Rattle.std.specs.Prelude.{FitsSigned}
use Rattle.std.specs.Int.{w128}
use Rattle.std.proofs.lemmas.Int.{to_z-of_z}
use Rattle.iso_model.specs.Terms.TermOf.{term_of}
use Rattle.iso_model.specs.Terms.Trees.{Integer}
use Rattle.iso_ops.specs.Entries.{text_of}
use Rattle.iso_lint_core.specs.Names.{names_given}
use Rattle.iso_lint_core.specs.Settings.{operators_behind}
use Rattle.iso_lint_core.proofs.SettingLemmas.{other_priority, other_specifier, no_names_given, names_set}
use Rattle.iso_lint_core.proofs.settings.set_operators.Goals as goal

pub returns-in_default : goal.returns-in_default
returns-in_default c = sym (other_priority _ (term_of c.args.priority.now) (term_of c.args.specifier.now) (term_of c.args.names.now) c.args.ops.now c.shape_of.ensures c.in_default.not-Integer)

pub returns-in_default-shape_of : goal.returns-in_default-shape_of
returns-in_default-shape_of c =
    let s = term_of c.args.specifier.now in
    let names = term_of c.args.names.now in
    let ops = c.args.ops.now in
    sym (ap (λ p. operators_behind p s names ops) c.in-Integer.ensures ∙ other_specifier c.in-Integer.priority _ s names ops c.shape_of-2.ensures c.in_default-shape_of.not-Atom)

pub returns-in_default-2 : goal.returns-in_default-2
returns-in_default-2 c =
    let names = term_of c.args.names.now in
    let ops = c.args.ops.now in
    let none : names_given names ≡ None = sym c.in_ok-names.ensures ∙ ap (option_map (λ v. map text_of v.items)) c.in_default-2.is in
    sym (ap (λ p. operators_behind p (term_of c.args.specifier.now) names ops) c.in-Integer.ensures ∙ ap (λ s. operators_behind (Integer c.in-Integer.priority) s names ops) c.in-Atom.ensures
    ∙ no_names_given c.in-Integer.priority c.in-Atom.specifier.now names ops none)

pub returns-in-Some-2 : goal.returns-in-Some-2
returns-in-Some-2 c =
    let names = term_of c.args.names.now in
    let ops = c.args.ops.now in
    let xs = map text_of c.in-Some.names.items in
    let some : names_given names ≡ Some xs = sym c.in_ok-names.ensures ∙ ap (option_map (λ v. map text_of v.items)) c.in-Some.is in
    let fits : FitsSigned w128 c.in-Integer.priority = search rules in
    let table = rw (to_z-of_z w128 c.in-Integer.priority fits, c.deref.ensures.value) at c.in_ok-table.ensures in
    sym (ap (λ p. operators_behind p (term_of c.args.specifier.now) names ops) c.in-Integer.ensures ∙ ap (λ s. operators_behind (Integer c.in-Integer.priority) s names ops) c.in-Atom.ensures
    ∙ names_set c.in-Integer.priority c.in-Atom.specifier.now names ops xs some ∙ ap (λ t. unwrap_or t ops) (sym table ∙ c.in-Some-2.is))

pub returns : goal.returns
returns c =
    let names = term_of c.args.names.now in
    let ops = c.args.ops.now in
    let xs = map text_of c.in-Some.names.items in
    let some : names_given names ≡ Some xs = sym c.in_ok-names.ensures ∙ ap (option_map (λ v. map text_of v.items)) c.in-Some.is in
    let fits : FitsSigned w128 c.in-Integer.priority = search rules in
    let table = rw (to_z-of_z w128 c.in-Integer.priority fits, c.deref.ensures.value) at c.in_ok-table.ensures in
    sym (ap (λ p. operators_behind p (term_of c.args.specifier.now) names ops) c.in-Integer.ensures ∙ ap (λ s. operators_behind (Integer c.in-Integer.priority) s names ops) c.in-Atom.ensures
    ∙ names_set c.in-Integer.priority c.in-Atom.specifier.now names ops xs some ∙ ap (λ t. unwrap_or t ops) (sym table ∙ c.in-None.is))
