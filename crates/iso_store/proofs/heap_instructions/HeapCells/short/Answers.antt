use Rattle.std.proofs.Common.{take, rules, sym, ◌∙◌}
use Rattle.std.proofs.lemmas.Int.{to_z-of_z}
use mir.Val.{SFits}
use mir.Syntax.{w128}
use Rattle.iso_store_core.specs.Presents.{meaning}
use Rattle.iso_store.proofs.HeapBuilt.{as_present}
use Rattle.iso_store.proofs.HeapReads.{shows_wide}
use Rattle.iso_store.proofs.HeapInstructionLemmas.{narrow-none, narrow-value, other-integer}
use Rattle.iso_store.proofs.heap_instructions.HeapCells.short.Goals as goal

pub returns-in-Boxed-clause-value : goal.returns-in-Boxed-clause-value
returns-in-Boxed-clause-value c =
    let now = c.args.self.now in
    let fits : SFits w128 c.wide.result = search rules in
    narrow-value c.narrowed.result c.wide.result (meaning (as_present now) c.args.word) (rw (to_z-of_z w128 c.wide.result fits) at c.narrowed.ensures.value)
    (sym c.in-Boxed.ensures.same ∙ shows_wide (take now.named now.atoms) now.area.low now.next now.is_heap c.in-Boxed.place c.wide.result c.wide.ensures)

pub returns-in-Boxed-clause-none : goal.returns-in-Boxed-clause-none
returns-in-Boxed-clause-none c =
    let now = c.args.self.now in
    let fits : SFits w128 c.wide.result = search rules in
    narrow-none c.narrowed.result c.wide.result (meaning (as_present now) c.args.word) (rw (to_z-of_z w128 c.wide.result fits) at c.narrowed.ensures.none)
    (sym c.in-Boxed.ensures.same ∙ shows_wide (take now.named now.atoms) now.area.low now.next now.is_heap c.in-Boxed.place c.wide.result c.wide.ensures)

pub returns-in_default : goal.returns-in_default
returns-in_default c = record {
  value = tt;
  none = λ z narrow is.
      let now = c.args.self.now in
      other-integer (take now.named now.atoms) now.area.low now.next now.is_heap c.walked.result z c.walked.ensures.holds c.walked.ensures.end
      c.in_default.not-Int c.in_default.not-Boxed (c.walked.ensures.same ∙ is);
}
