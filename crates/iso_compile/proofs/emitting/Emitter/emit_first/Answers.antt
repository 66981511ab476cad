use Rattle.std.proofs.Common.{◌≤◌, length, arith, refl, ◌∙◌}
use Rattle.std.specs.String.{string_bytes}
use Rattle.iso_model.specs.Terms.TermOf.{row_of}
use Rattle.iso_model.proofs.OnTerms.CopyingLemmas.{on_ok_by, row_split}
use Rattle.iso_compile.specs.Tasks.{stage_of}
use Rattle.iso_compile.proofs.EmitLemmas.{atomic_first, atomic_load, compound_first, compound_load}
use Rattle.iso_compile.proofs.emitting.Emitter.emit_first.Goals as goal

pub returns-in_default-compound-clause-made : goal.returns-in_default-compound-clause-made
returns-in_default-compound-clause-made c =
    let low : 1 ≤ length c.args.terms.now = omega (arith, c.in-len1-up.len_at_least) in
    let split = row_split c.args.terms.now c.first-item.result _ low c.first-item.is refl in
    atomic_first c.args.tasks.now.items c.push.new.self.items c.args.register c.first-item.result _ c.args.terms.now split c.in_ok-push.ensures.items c.in_default-compound.ensures (stage_of c.args.self.now)

pub returns-in_default-compound-clause-load : goal.returns-in_default-compound-clause-load
returns-in_default-compound-clause-load c =
    let low : 1 ≤ length c.args.terms.now = omega (arith, c.in-len1-up.len_at_least) in
    let split = row_split c.args.terms.now c.first-item.result _ low c.first-item.is refl in
    atomic_load c.args.tasks.now.items c.push.new.self.items c.args.register c.first-item.result _ c.args.terms.now split c.in_ok-push.ensures.items c.in_default-compound.ensures

pub returns-clause-made : goal.returns-clause-made
returns-clause-made c =
    let low : 1 ≤ length c.args.terms.now = omega (arith, c.in-len1-up.len_at_least) in
    let split = row_split c.args.terms.now c.first-item.result _ low c.first-item.is refl in
    on_ok_by c.emit_compound.result c.emit_compound.ensures.made (λ e. e
    ∙ compound_first c.args.tasks.now.items c.push-2.new.self.items c.args.register c.first-item.result _ c.args.terms.now split c.in_ok-next.next c.in_ok-next.ensures
    (string_bytes c.in-Some.name.now) (row_of c.in-Some.arguments.now) c.in-Some.ensures c.in_ok-push-2.ensures.items (stage_of c.args.self.now))

pub returns-clause-load : goal.returns-clause-load
returns-clause-load c =
    let low : 1 ≤ length c.args.terms.now = omega (arith, c.in-len1-up.len_at_least) in
    let split = row_split c.args.terms.now c.first-item.result _ low c.first-item.is refl in
    on_ok_by c.emit_compound.result c.emit_compound.ensures.load (λ load.
    compound_load c.args.tasks.now.items c.push-2.new.self.items c.args.register c.first-item.result _ c.args.terms.now split c.in_ok-next.next c.in_ok-next.ensures
    (string_bytes c.in-Some.name.now) (row_of c.in-Some.arguments.now) c.in-Some.ensures c.in_ok-push-2.ensures.items _ load)
