use Rattle.parts_rows.proofs.database.act_all.Goals as goal

pub loop-step-preserved : goal.loop-step-preserved
loop-step-preserved c = λ v cs gives. c.act_once-said.ensures.views v cs (c.loop-step.invariant v cs gives)

pub returns-then-ne : goal.returns-then-ne
returns-then-ne c = record { views = λ v cs gives. c.act_once-said.ensures.views v cs (c.loop-step.invariant v cs gives) }
