-- A part is found where it is known.
use Rattle.std.proofs.Common.{◌≡◌, ◌≢◌, ℕ, Some, subst}
use Rattle.std.specs.List.{slice_get}
use Rattle.std.specs.Option.{IfSome, IfNone}
use Rattle.iso_db.specs.declared.parts.Part.{Part}
use Rattle.iso_db.proofs.KeyLemmas.{if_found, if_absent}
use Rattle.iso_db.proofs.parts.Parts.find_by_hash.Goals as goal

pub returns-clause-found : goal.returns-clause-found
returns-clause-found c =
    let part : Part = record { place = c.args.place; key = c.args.key } in
    subst (λ ps. IfSome c.get_index_of.result (λ n. slice_get ps n ≡ Some part)) c.self.view_is (if_found part c.self.inside.known.keys c.get_index_of.result c.get_index_of.ensures.index)

pub returns-clause-absent : goal.returns-clause-absent
returns-clause-absent c =
    let part : Part = record { place = c.args.place; key = c.args.key } in
    subst (λ ps. IfNone c.get_index_of.result ((n : ℕ) → slice_get ps n ≢ Some part)) c.self.view_is (if_absent part c.self.inside.known.keys c.get_index_of.result c.get_index_of.ensures.found)
