use Rattle.iso_toplevel.proofs.toplevels.toplevel.Goals as goal

pub returns-in-Plain : goal.returns-in-Plain
returns-in-Plain g c = rw c.in-Plain.is c.plain_toplevel.ensures

pub returns-in-Wam : goal.returns-in-Wam
returns-in-Wam g c = rw c.in-Wam.is c.machine_toplevel.ensures
