use Rattle.parts_rows.proofs.Views.{stands}
use Rattle.parts_rows.proofs.database.run_beside.Goals as goal

pub returns : goal.returns
returns c = stands c.args.db.now c.run_line.new.db c.args.view c.run_line.ensures.views c.requires
