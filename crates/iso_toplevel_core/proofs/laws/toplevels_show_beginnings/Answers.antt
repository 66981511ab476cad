use Rattle.iso_toplevel_core.proofs.ShowingLemmas.{beginnings_shown}
use Rattle.iso_toplevel_core.proofs.laws.toplevels_show_beginnings.Goals as goal

pub returns : goal.returns
returns c = beginnings_shown
