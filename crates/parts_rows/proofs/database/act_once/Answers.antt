use Rattle.parts_rows.proofs.database.act_once.Goals as goal

pub returns-then-eq : goal.returns-then-eq
returns-then-eq c = record { views = λ v cs gives. c.act_at_last.ensures.views v cs (c.act_at_last-first.ensures.views v cs gives) }
