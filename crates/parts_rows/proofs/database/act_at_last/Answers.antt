use Rattle.parts_rows.proofs.database.act_at_last.Goals as goal

pub returns-then-eq : goal.returns-then-eq
returns-then-eq c = record { views = λ v cs gives. c.act_on.ensures.views v cs (c.act_on-said.ensures.views v cs gives) }
