use Rattle.std.proofs.Common.{◌∙◌}
use Rattle.iso_store_core.proofs.RetainLemmas.{retains_on}
use Rattle.iso_code.proofs.LoadLemmas.{zip_more}
use Rattle.iso_bodies.specs.Instructions.{IsLoadedInstruction}
use Rattle.iso_bodies.proofs.BodyLemmas.{behind_there}
use Rattle.iso_bodies.proofs.KeptLemmas.{instruction_kept}
use Rattle.iso_bodies.proofs.bodies.load_body.Goals as goal

pub load_instruction-requires : goal.load_instruction-requires
load_instruction-requires g c =
    behind_there c.args.low c.args.body.now c.loop-instruction.instruction-index c.instruction-item.result c.requires c.loop-instruction-test.true c.instruction-item.is

pub loop-instruction-preserved : goal.loop-instruction-preserved
loop-instruction-preserved g c =
    let before = c.loop-instruction.invariant in
    let low = c.args.low in
    let old = g.S.Store.names c.loop-instruction.store in
    let new = g.S.Store.names c.load_instruction.new.store in
    rw c.in_ok-push.ensures.items (record {
      loaded = zip_more (IsLoadedInstruction old low) (IsLoadedInstruction new low) c.args.body.now c.loop-instruction.code.items c.loop-instruction.instruction-index c.instruction-item.result
          c.in_ok-load_instruction.field-0 (instruction_kept old new c.load_instruction.ensures.rest.names low) c.loop-instruction-test.true c.instruction-item.is before.loaded
          c.in_ok-load_instruction.ensures.loaded;
      present = c.load_instruction.ensures.present ∙ before.present;
      rest = retains_on before.rest c.load_instruction.ensures.rest;
    })
