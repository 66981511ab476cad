-- Views stand.
use Rattle.parts_rows.specs.Views.{KeepsViews}
use Rattle.parts_rows.proofs.database.act_all.Given as goal

abbrev pub invariant-loop-step : goal.invariant-loop-step
invariant-loop-step l = KeepsViews l.fn.db l.db
