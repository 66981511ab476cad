use Rattle.std.proofs.Common.{◌≡◌, length, ap, ◌∙◌, arith}
use Rattle.iso_store_core.specs.Presents.{Holds}
use Rattle.iso_store.specs.NodeStores.{present_of}
use Rattle.iso_store.proofs.Picked.{picked-length, picked-all}
use Rattle.iso_store.proofs.nodes.NodesPrimitives.compound_of.Goals.{After-as_slice}
use Rattle.iso_store.proofs.nodes.NodesPrimitives.compound_of.Goals as goal

many : (c : After-as_slice) → length c.as_slice.result.now ≡ length c.args.places.now
many c = ap length (c.as_slice.ensures.value ∙ c.in_ok-words.ensures) ∙ picked-length c.args.variables.now c.args.places.now c.requires.places

pub compound-requires-clause-some : goal.compound-requires-clause-some
compound-requires-clause-some c = omega (arith, many (goal.at.compound-requires-clause-some c).After-as_slice, c.requires.some)

pub compound-requires-clause-few : goal.compound-requires-clause-few
compound-requires-clause-few c = omega (arith, many (goal.at.compound-requires-clause-few c).After-as_slice, c.requires.few)

pub compound-requires-clause-arguments : goal.compound-requires-clause-arguments
compound-requires-clause-arguments c =
    let now = c.args.self.now in
    let P = Holds (present_of now.atoms now.nodes.items now.trail.items now.next now.limit) in
    rw (c.as_slice.ensures.value, c.in_ok-words.ensures) (picked-all c.args.variables.now P c.args.places.now c.requires.variables)
