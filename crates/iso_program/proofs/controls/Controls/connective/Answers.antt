use Rattle.std.proofs.Common.{sym, ◌∙◌}
use Rattle.iso_program.proofs.ControlNames.{none_named}
use Rattle.iso_program.proofs.controls.Controls.connective.Goals as goal

pub returns : goal.returns
returns c = λ names are each within.
    sym (none_named names each c.args.name within c.args.self.now are (sym c.eq.ensures ∙ c.if-eq.false) (sym c.eq-2.ensures ∙ c.if-eq-2.false) (sym c.eq-3.ensures ∙ c.if-eq-3.false))
