use Rattle.std.proofs.Common.{rules, ◌≡◌, refl, ◌∙◌}
use Rattle.std.specs.String.{string_bytes}
use Rattle.iso_compile.specs.declared.instructions.Block.{Block}
use Rattle.iso_compile.specs.declared.emitting.Emitter.{Emitter}
use Rattle.iso_compile.proofs.EmitLemmas.{compound_emitted, compound_loads, compound_marked}
use Rattle.iso_compile.proofs.emitting.Emitter.emit_compound.Goals as goal

pub returns-clause-made : goal.returns-clause-made
returns-clause-made c =
    let e = c.args.self.now in
    let after : Emitter = record { code = c.push-3.new.self; met = c.parts_in.new.met; next = c.in_ok-parts.behind } in
    let b : Block = record { register = c.args.register; name = c.in_ok-name.name; parts = c.in_ok-parts.parts; inner = 0 } in
    let name : string_bytes c.in_ok-name.name ≡ string_bytes c.args.name.now = search rules in
    compound_emitted c.args.tasks.now.items c.push.new.self.items c.push-2.new.self.items c.len.result _ e after b (string_bytes c.args.name.now) c.in_ok-push.ensures.items c.in_ok-push-2.ensures.items
    (c.len.ensures ∙ e.code.ok.0) c.in_ok-push-3.ensures.items c.in_ok-parts.ensures.behind name c.in_ok-parts.ensures.parts refl

pub returns-clause-marks : goal.returns-clause-marks
returns-clause-marks c =
    let e = c.args.self.now in
    let after : Emitter = record { code = c.push-3.new.self; met = c.parts_in.new.met; next = c.in_ok-parts.behind } in
    let b : Block = record { register = c.args.register; name = c.in_ok-name.name; parts = c.in_ok-parts.parts; inner = 0 } in
    compound_marked c.args.plan.now.places e after b c.in_ok-push-3.ensures.items c.in_ok-parts.ensures.marks

pub returns-clause-load : goal.returns-clause-load
returns-clause-load c =
    let e = c.args.self.now in
    let b : Block = record { register = c.args.register; name = c.in_ok-name.name; parts = c.in_ok-parts.parts; inner = 0 } in
    compound_loads c.args.tasks.now.items c.push.new.self.items c.push-2.new.self.items c.len.result _ e e b (string_bytes c.args.name.now) c.in_ok-push.ensures.items c.in_ok-push-2.ensures.items
