use Rattle.std.proofs.Common.{subst}
use Rattle.std.proofs.lemmas.Option.{slice_get_within}
use Rattle.iso_environments.specs.Answering.{IsArithmeticThere}
use Rattle.iso_search.proofs.MovedLemmas.{moved_over}
use Rattle.iso_machine.specs.Engines.{framed}
use Rattle.iso_machine.specs.Steps.{ActsThere}
use Rattle.iso_machine.proofs.StepLemmas.{step_left}
use Rattle.iso_machine.proofs.steps.run_code.Goals as goal

pub act_there-requires : goal.act_there-requires
act_there-requires g c =
    let t = c.requires.there.there in
    rw c.as_slice.ensures.value (
      t.frame,
      t.code,
      t.level,
      t.clause,
      slice_get_within (t.code).value.body.items c.args.rest.address c.requires.there.instruction t.item,
    )

pub run_arithmetic-requires-clause-there : goal.run_arithmetic-requires-clause-there
run_arithmetic-requires-clause-there g c =
    subst (λ fs. IsArithmeticThere fs c.args.rest) c.as_slice.ensures.value
    c.in-Computes.ensures

pub run_instruction-requires-clause-there : goal.run_instruction-requires-clause-there
run_instruction-requires-clause-there g c =
    step_left g.S.Store g.S.Cells.atom_word c.args.search.now c.args.rest c.requires.now c.requires.stands.0
    c.requires.stands.1 c.requires.there c.act_there.result
    (subst (λ fs. ActsThere fs c.args.rest c.act_there.result) c.as_slice.ensures.value c.act_there.ensures)
    c.in_default.not-Computes

pub returns-in-Computes : goal.returns-in-Computes
returns-in-Computes g c =
    moved_over g.S.Store (framed g.S.Cells.atom_word) {Fact = λ s. ⊥} (λ s none. absurd none) c.run_arithmetic.ensures
