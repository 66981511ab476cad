use Rattle.std.proofs.Common.{◌≡◌, ◌+◌, ℕ, List, length, arith, sym, subst}
use Rattle.iso_plain_core.specs.Entering.{HeadFits, PartsFit}
use Rattle.iso_store_core.specs.Patterns.{IsPattern}
use Rattle.iso_store_core.specs.declared.patterns.Part.{Part}
use Rattle.iso_program.specs.Heads.{head_parts, head_term}
use Rattle.iso_program.specs.declared.clauses.Clause.{Clause}
use Rattle.iso_search_core.proofs.WordLemmas.{extends_none}
use Rattle.iso_plain_core.proofs.EnteringLemmas.{no_parts, some_parts, copies_some}
use Rattle.iso_plain_core.proofs.HeadLemmas.{head_met, meets_behind, head_terms, head_values, copies_with}
use Rattle.iso_store_core.specs.Presents.{Grows}
use Rattle.iso_store_core.specs.Copying.{cells_of}
use Rattle.iso_store_core.proofs.RetainLemmas.{grows_on, grows_most}
use Rattle.iso_store_core.specs.Heads.{MeetsHead}
use Rattle.iso_store_core.specs.Retaining.{CountsCells}
use Rattle.iso_plain_core.proofs.entries.enter.Given.{Over}
use Rattle.iso_plain_core.proofs.entries.enter.Goals.{After-as_slice-parts, After-unify_head}
use Rattle.iso_plain_core.proofs.entries.enter.Goals as goal

-- the parts that the head gives are written for its term
written_parts : {C : Type 0} (names : List (List ℕ)) {n : ℕ} {clause : Clause C} {ks : List Part} → ks ≡ head_parts clause
    → HeadFits names n clause → IsPattern names ks (head_term names clause)
written_parts names {clause = clause} same fits = subst (λ ks. IsPattern names ks (head_term names clause)) (sym same) fits.written

-- the head met the goal
head_meets : (g : Over) (c : After-as_slice-parts g) → MeetsHead (g.S.Store.present c.args.store.now) (g.S.Store.present c.unify_head.new.self) c.args.goal (head_term (g.S.Store.names c.args.store.now) c.args.clause.now) c.args.clause.now.variables c.unify_head.new.words.items
head_meets g c = head_met _ _ _ _ _ _ c.in_ok-unify_head.field-0 c.if-not-branch.false (c.in_ok-unify_head.ensures.met _ (written_parts (g.S.Store.names c.args.store.now) c.head.ensures.parts c.requires.head_fits))

-- so much it took
head_grows : (g : Over) (c : After-unify_head g) → CountsCells g.S.Store → Grows (g.S.Store.present c.args.store.now) (g.S.Store.present c.unify_head.new.self) (c.args.clause.now.variables + cells_of 0 (λ n. n + 1) (head_term (g.S.Store.names c.args.store.now) c.args.clause.now)) c.args.clause.now.variables
head_grows g c counts =
    let head = head_term (g.S.Store.names c.args.store.now) c.args.clause.now in
    subst (λ (k : ℕ). Grows (g.S.Store.present c.args.store.now) (g.S.Store.present c.unify_head.new.self) (c.args.clause.now.variables + cells_of k (λ n. n + 1) head) c.args.clause.now.variables) counts.atomic (c.unify_head.ensures.cells head (written_parts (g.S.Store.names c.args.store.now) c.head.ensures.parts c.requires.head_fits))

pub unify_head-requires-clause-exact : goal.unify_head-requires-clause-exact
unify_head-requires-clause-exact g c = c.head.ensures.exact

pub unify_head-requires-clause-head : goal.unify_head-requires-clause-head
unify_head-requires-clause-head g c =
    let fits = c.requires.head_fits in
    (head_term (g.S.Store.names c.args.store.now) c.args.clause.now, written_parts (g.S.Store.names c.args.store.now) c.head.ensures.parts fits, fits.fits.arities, fits.fits.below)

-- what the answer says where nothing makes them equal
pub returns-then-not-branch-clause-enters : goal.returns-then-not-branch-clause-enters
returns-then-not-branch-clause-enters g c =
    rw c.if-not-branch.true at (c.in_ok-unify_head.ensures.met (head_term (g.S.Store.names c.args.store.now) c.args.clause.now) (written_parts (g.S.Store.names c.args.store.now) c.head.ensures.parts c.requires.head_fits))

-- the variables' words as the copying gets them
pub copy_parts-requires-clause-fits : goal.copy_parts-requires-clause-fits
copy_parts-requires-clause-fits g c =
    let met = head_meets g (goal.at.copy_parts-requires-clause-fits g c).After-as_slice-parts in
    rw (c.as_slice.ensures.value, c.as_slice-parts.ensures.value, met.many, c.unify_head.ensures.names) c.requires.parts_fit

pub copy_parts-requires-clause-variables : goal.copy_parts-requires-clause-variables
copy_parts-requires-clause-variables g c =
    let met = head_meets g (goal.at.copy_parts-requires-clause-variables g c).After-as_slice-parts in
    rw c.as_slice.ensures.value met.hold

pub returns-then-is_empty-clause-enters : goal.returns-then-is_empty-clause-enters
returns-then-is_empty-clause-enters g c =
    let met = head_meets g (goal.at.returns-then-is_empty-clause-enters g c).After-as_slice-parts in
    (meets_behind met c.unify_head.ensures.substitution (extends_none (g.S.Store.present c.unify_head.new.self)), no_parts c.args.body.now.parts.items c.is_empty.result (rw c.as_slice-parts.ensures.value at c.is_empty.ensures) c.if-is_empty.true)

pub overflow_sub-result : goal.overflow_sub-result
overflow_sub-result g c =
    let some = some_parts c.args.body.now.parts.items c.is_empty.result (rw c.as_slice-parts.ensures.value at c.is_empty.ensures) c.if-is_empty.false in
    let nodes = copies_some (rw c.as_slice-parts.ensures.value at c.in_ok-copy_parts.ensures.copies) some in
    let len : c.len.result ≡ length c.copy_parts.new.nodes.items = cc (c.len.ensures, c.copy_parts.new.nodes.ok.0) in
    omega (arith, nodes, len)

pub returns-clause-enters : goal.returns-clause-enters
returns-clause-enters g c =
    let p = g.S.Store.present c.args.store.now in
    let q = g.S.Store.present c.unify_head.new.self in
    let ws = c.unify_head.new.words.items in
    let met = head_meets g (goal.at.returns-clause-enters g c).After-as_slice-parts in
    let parts_fit : PartsFit (g.S.Store.names c.args.store.now) (length ws) c.args.body.now.parts.items = rw met.many c.requires.parts_fit in
    let copies = copies_with q ws p.next _ _ c.args.body.now.parts.items parts_fit (rw (c.as_slice-parts.ensures.value, c.as_slice.ensures.value, c.unify_head.ensures.names) at c.in_ok-copy_parts.ensures.copies) in
    let some = some_parts c.args.body.now.parts.items c.is_empty.result (rw c.as_slice-parts.ensures.value at c.is_empty.ensures) c.if-is_empty.false in
    let nodes = copies_some copies some in
    let len : c.len.result ≡ length c.copy_parts.new.nodes.items = cc (c.len.ensures, c.copy_parts.new.nodes.ok.0) in
    record {
      meets = meets_behind met c.unify_head.ensures.substitution c.in_ok-copy_parts.ensures.extends;
      terms = head_terms q ws p.next;
      values = head_values ws met c.in_ok-copy_parts.ensures.extends;
      copies = copies;
      last = omega (arith, nodes, len);
      some = some;
    }

-- ---- what is taken

pub returns-in_err-unify_head-clause-cells : goal.returns-in_err-unify_head-clause-cells
returns-in_err-unify_head-clause-cells g c = λ counts.
    let grows = head_grows g (goal.at.returns-in_err-unify_head-clause-cells g c).After-unify_head counts in
    grows_most _ c.args.clause.now.variables (omega arith) (omega arith) grows

pub returns-then-not-branch-clause-cells : goal.returns-then-not-branch-clause-cells
returns-then-not-branch-clause-cells g c = λ counts.
    let grows = head_grows g (goal.at.returns-then-not-branch-clause-cells g c).After-unify_head counts in
    grows_most _ c.args.clause.now.variables (omega arith) (omega arith) grows

pub returns-in_err-copy_parts-clause-cells : goal.returns-in_err-copy_parts-clause-cells
returns-in_err-copy_parts-clause-cells g c = λ counts.
    let grows = head_grows g (goal.at.returns-in_err-copy_parts-clause-cells g c).After-unify_head counts in
    let parts = (rw (c.as_slice-parts.ensures.value, c.unify_head.ensures.names) at c.in_err-copy_parts.ensures.cells) counts in
    grows_most _ c.args.clause.now.variables (omega arith) (omega arith) (grows_on grows parts)

pub returns-then-is_empty-clause-cells : goal.returns-then-is_empty-clause-cells
returns-then-is_empty-clause-cells g c = λ counts.
    let grows = head_grows g (goal.at.returns-then-is_empty-clause-cells g c).After-unify_head counts in
    grows_most _ c.args.clause.now.variables (omega arith) (omega arith) grows

pub returns-clause-cells : goal.returns-clause-cells
returns-clause-cells g c = λ counts.
    let grows = head_grows g (goal.at.returns-clause-cells g c).After-unify_head counts in
    let parts = (rw (c.as_slice-parts.ensures.value, c.unify_head.ensures.names) at c.in_ok-copy_parts.ensures.cells) counts in
    grows_most _ c.args.clause.now.variables (omega arith) (omega arith) (grows_on grows parts)
