use Rattle.std.proofs.Common.{codes, ◌∙◌}
use Rattle.iso_program.proofs.ControlNames.{named}
use Rattle.iso_program.proofs.controls.Controls.is_cut.Goals as goal

pub returns : goal.returns
returns c = λ names are each within. c.eq.ensures ∙ named names each c.args.name within c.args.self.now.cut (codes "!") are.cut
