use Rattle.std.proofs.Common.{rules, ◌≡◌, true, length, [], ◌∷◌, map, Some, option_map, ap, sym, ◌∙◌, arith}
use Rattle.std.proofs.lemmas.List.{map-append}
use Rattle.std.specs.String.{string_bytes}
use Rattle.iso_ops.specs.declared.specifiers.Kind.TheVariants.{Prefix}
use Rattle.iso_ops.specs.Operators.{operator, find_op, priority_and_spec}
use Rattle.iso_model.specs.Syntax.Grammar.{begins}
use Rattle.iso_model.specs.Syntax.Operators.{prefix_named, right_of}
use Rattle.iso_model.specs.Terms.TermOf.{term_of}
use Rattle.iso_token.specs.Shows.{shown}
use Rattle.iso_model.specs.Syntax.Reading.{term, further, rest}
use Rattle.iso_read.specs.Views.{node_of, row_of, following_of, terms_in}
use Rattle.iso_read.proofs.Found.{found_at}
use Rattle.iso_read.proofs.Rows.{row_goes, row_longer, row_stops}
use Rattle.iso_read.proofs.Climbs.{fails_with, gives_made, continued_goes, continued_stops, rest_shorter, term_goes, prefixed_goes}
use Rattle.iso_read.proofs.reader.+reader.Goals as goal

pub climb-returns-in_err-extend-clause-read : goal.climb-returns-in_err-extend-clause-read
climb-returns-in_err-extend-clause-read t c =
    let h = c.loop-left.invariant in
    let goes = continued_goes c.args.language.ops.now c.args.language.flags.now c.args.depth c.args.most (node_of c.loop-left.left) c.loop-left.input c.next.new.self (following_of c.in-Some.following) h.0 (rw c.in-Some.is at c.in_ok-following.ensures.found) (c.next.ensures.after ∙ ap rest c.in_ok-following.ensures.same) in
    let failed = fails_with node_of node_of _ _ _ _ c.extend.new.input c.extend.new.input (sym h.2 ∙ goes) c.in_err-extend.ensures.read in
    search (rules, failed)

pub climb-loop-left-preserved : goal.climb-loop-left-preserved
climb-loop-left-preserved t c =
    let h = c.loop-left.invariant in
    let goes = continued_goes c.args.language.ops.now c.args.language.flags.now c.args.depth c.args.most (node_of c.loop-left.left) c.loop-left.input c.next.new.self (following_of c.in-Some.following) h.0 (rw c.in-Some.is at c.in_ok-following.ensures.found) (c.next.ensures.after ∙ ap rest c.in_ok-following.ensures.same) in
    let fewer = rest_shorter c.loop-left.input c.next.new.self (c.next.ensures.after ∙ ap rest c.in_ok-following.ensures.same) in
    (c.in_ok-extend.ensures.height.1, omega (arith, c.in_ok-extend.ensures.shorter), sym (rw c.in_ok-extend.ensures.read at goes) ∙ h.2)

pub climb-returns-clause-read : goal.climb-returns-clause-read
climb-returns-clause-read t c =
    let h = c.loop-left.invariant in
    sym h.2 ∙ continued_stops c.args.language.ops.now c.args.language.flags.now c.args.depth c.args.most (node_of c.loop-left.left) c.loop-left.input h.0 (sym (rw c.in_default.is at c.in_ok-following.ensures.found))
    ∙ ap (λ z. Some (node_of c.loop-left.left, z)) (sym c.in_ok-following.ensures.same)

pub elements-returns-in_err-next-clause-read : goal.elements-returns-in_err-next-clause-read
elements-returns-in_err-next-clause-read t c =
    let goes = row_goes c.args.language.ops.now c.args.language.flags.now c.args.depth (map term_of c.loop-language.terms.items) c.loop-language.height c.loop-language.input c.takes.new.self c.loop-language-test.ensures.taken c.loop-language-test.ensures.after in
    let failed = fails_with node_of row_of _ _ _ _ c.read_term-in-loop-language.new.input c.read_term-in-loop-language.new.input (sym c.loop-language.invariant.2 ∙ goes) c.in_err-next.ensures.read in
    search (rules, failed)

pub elements-loop-language-preserved : goal.elements-loop-language-preserved
elements-loop-language-preserved t c =
    let terms = map term_of c.loop-language.terms.items in
    let goes = row_goes c.args.language.ops.now c.args.language.flags.now c.args.depth terms c.loop-language.height c.loop-language.input c.takes.new.self c.loop-language-test.ensures.taken c.loop-language-test.ensures.after in
    let longer = row_longer terms c.loop-language.height (node_of c.in_ok-next.next) (further (term c.args.language.ops.now c.args.language.flags.now c.args.depth) (length c.read_term-in-loop-language.new.input.tokens) c.read_term-in-loop-language.new.input) in
    let items = ap (map term_of) c.in_ok-push-2.ensures.items ∙ map-append term_of c.loop-language.terms.items (c.in_ok-next.next.term ∷ []) in
    let fewer = rest_shorter c.loop-language.input c.takes.new.self c.loop-language-test.ensures.after in (
      omega (arith, c.in_ok-next.ensures.height),
      omega (arith, c.in_ok-next.ensures.shorter),
      rw (items, c.max-height.ensures) (sym longer ∙ sym (rw c.in_ok-next.ensures.read at goes) ∙ c.loop-language.invariant.2),
    )

pub elements-returns-clause-read : goal.elements-returns-clause-read
elements-returns-clause-read t c =
    let stops = row_stops c.args.language.ops.now c.args.language.flags.now c.args.depth (map term_of c.loop-language.terms.items) c.loop-language.height c.loop-language.input (sym c.loop-language-test.ensures.taken) in
    sym c.loop-language.invariant.2 ∙ rw c.loop-language-test.ensures.after stops

pub read_term-returns-clause-read : goal.read_term-returns-clause-read
read_term-returns-clause-read t c =
    rw (term_goes c.args.language.ops.now c.args.language.flags.now c.args.depth c.args.most c.args.input.now c.operand.new.input (node_of c.in_ok-first.first) (omega arith) c.in_ok-first.ensures.read c.if-first-most.false) c.climb.ensures.read

pub prefixed-returns-clause-read : goal.prefixed-returns-clause-read
prefixed-returns-clause-read t c =
    let table = c.args.language.ops.now in
    let name = string_bytes c.args.name in
    let o = operator c.in-Some.priority c.in-Some.spec name in
    let entry : Some (c.in-Some.priority, c.in-Some.spec) ≡ option_map priority_and_spec (find_op Prefix c.deref.result.now table) = c.in-Some.ensures.entry in
    let is : prefix_named table name ≡ Some o = rw c.deref.ensures at (found_at Prefix c.deref.result.now table (Some (c.in-Some.priority, c.in-Some.spec)) entry) in
    let begins_so : c.in_ok-begins.field-0 ≡ begins table (map shown c.tokens.result.now) = c.in_ok-begins.ensures in
    let starts : begins table c.args.input.now.tokens ≡ true = ap (begins table) (sym c.tokens.ensures) ∙ sym begins_so ∙ c.if-not-branch.false in
    let read : terms_in c.args.language c.args.depth (right_of o) c.args.input.now ≡ Some (node_of c.in_ok-operand.operand, c.read_term.new.input) = rw c.right_of.ensures at c.in_ok-operand.ensures.read in
    let goes = prefixed_goes table c.args.language.flags.now (terms_in c.args.language c.args.depth) name c.args.input.now c.read_term.new.input (node_of c.in_ok-operand.operand) o is starts read in
    goes ∙ ap (λ n. Some (n, c.read_term.new.input)) (sym c.in_ok-apply.ensures.node)
