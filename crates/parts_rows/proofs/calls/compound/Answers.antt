use Rattle.std.proofs.lemmas.Option.{slice_get_within}
use Rattle.parts_rows.proofs.calls.compound.Goals as goal

pub compound-requires-clause-name : goal.compound-requires-clause-name
compound-requires-clause-name g c = slice_get_within _ _ _ c.in_ok-functor.ensures.place
