use Rattle.std.proofs.Common.{◌≡◌, Some, rules, slice_get}
use Rattle.std.specs.String.{string_bytes}
use Rattle.iso_bodies.proofs.KeptLemmas.{arguments_stay}
use Rattle.iso_bodies.proofs.bodies.load_goal.Goals as goal

pub returns-clause-loaded : goal.returns-clause-loaded
returns-clause-loaded g c =
    let old = g.S.Store.names c.load_arguments.new.store in
    let new = g.S.Store.names c.intern.new.self in
    let name : slice_get new c.in_ok-name.name ≡ Some (string_bytes c.args.call.now.name) = search rules in
    record {
      name = name;
      arguments = λ above full. arguments_stay old new c.intern.ensures.names c.args.low c.args.call.now.arguments c.in_ok-arguments.arguments (c.in_ok-arguments.ensures.loaded above full);
    }
