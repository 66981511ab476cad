use Rattle.std.proofs.Common.{◌≡◌, ◌≤◌, ◌++◌, ℕ, true, false, get_or, ap, sym, subst, ◌∙◌, map, length, arith}
use Rattle.std.specs.Prelude.{is_some}
use Rattle.iso_model.specs.Terms.TermOf.{row_of}
use Rattle.iso_model.specs.Terms.Sizes.{size}
use Rattle.iso_alloc.specs.Plans.{arguments_of}
use Rattle.iso_compile.specs.Heads.{gets, head_blocks}
use Rattle.iso_compile.specs.CodeLaws.{MeetsCalls}
use Rattle.iso_compile.specs.Clauses.{BodyDoes, body_members}
use Rattle.iso_compile.specs.Emitted.{get_of, block_of, is_met}
use Rattle.iso_compile.specs.Emitting.{none_met, head_parts, head_cells}
use Rattle.iso_compile.proofs.EntryLemmas.{begins_with, all_begin}
use Rattle.iso_compile.proofs.ClauseLemmas.{head_map}
use Rattle.iso_compile.proofs.clauses.compile.Goals as goal

pub returns : goal.returns
returns c =
    let p = c.args.prepared.now in
    let plan = c.args.plan.now in
    let head = c.in_ok-gets.field-0 in
    let arguments : row_of c.head_arguments.result.now ≡ arguments_of p.head = c.head_arguments.ensures ∙ ap arguments_of c.head-head.ensures in
    let marking = c.in_ok-fresh.ensures.marks (none_met plan.places) (head_parts head) c.in_ok-gets.ensures.marks in
    let some : is_some c.head-head.result ≡ is_some p.head = sym (head_map c.head-head.result) ∙ ap is_some c.head-head.ensures in
    let next = c.in_ok-gets.ensures.next in
    let more = c.in_ok-slots.ensures.registers in
    let slots = c.in_ok-slots.ensures.slots in
    let right = c.in_ok-body.ensures.right in
    let ms = body_members c.is_some.result p.body in
    let old = c.in_ok-body.ensures.does p.body (rw c.as_slice.ensures.value c.in_ok-parts.ensures.ends) in
    let does = c.in_ok-born.ensures.gives.does plan ms old in
    let unmet : (x : ℕ) → get_or c.in_ok-born.born.items x false ≡ true → is_met head.emitter.met.items x ≡ false = (λ x is. ap (λ l. is_met l x) (sym c.as_slice-2.ensures.value) ∙ c.in_ok-born.ensures.gives.unmet x is) in
    let fresh_all = rw c.as_slice-3.ensures.value at c.in_ok-fresh.ensures.all in
    let fresh_born = rw c.as_slice-3.ensures.value at c.in_ok-fresh.ensures.born in
    let begins = begins_with plan.places (head_parts head ++ c.in_ok-fresh.fresh.items) head.emitter.met.items c.fresh_variables.new.met.items c.in_ok-born.born.items (c.fresh_variables.ensures.many ∙ c.in_ok-gets.ensures.many) marking fresh_all fresh_born unmet in
    record {
      gets_are = c.in_ok-gets.ensures.gets ∙ ap (gets 0) arguments;
      blocks_are = c.in_ok-gets.ensures.blocks ∙ ap (head_blocks 0 plan.registers) arguments;
      meets = subst (MeetsCalls (map get_of head.gets.items) (map block_of head.emitter.code.items)) arguments c.in_ok-gets.ensures.meets;
      marked = marking.marked;
      fresh = c.in_ok-fresh.ensures.new;
      cells = subst (λ ts. head_cells head.gets.items head.emitter.code.items ≤ size ts) arguments c.in_ok-gets.ensures.cells;
      does = subst (λ h. BodyDoes plan h c.births_in.new.code.items p.body) (c.is_some.ensures ∙ some) does;
      ways = c.in_ok-born.ensures.gives.ways plan ms _ (sym c.in_ok-gets.ensures.many ∙ ap length (sym c.as_slice-2.ensures.value)) right old begins;
      asked = λ none. all_begin plan.places c.in_ok-born.born.items _ begins (c.in_ok-born.ensures.asked (c.is_some-2.ensures ∙ some ∙ ap is_some none));
      old = c.in_ok-born.ensures.gives.calls plan right;
      behind = c.in_ok-born.ensures.gives.behind plan right;
      sized = c.in_ok-slots.ensures.sized;
      slots = omega (arith, slots, c.slots.ensures);
      registers = omega (arith, next, more);
    }
