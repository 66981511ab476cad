use Rattle.parts_rows.proofs.database.act_on.Goals as goal

pub returns : goal.returns
returns c = record { views = λ v cs gives. c.act-done.ensures.views v cs (c.place.ensures.index.views v cs gives) }
