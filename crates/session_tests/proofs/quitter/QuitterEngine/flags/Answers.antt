use Rattle.std.proofs.Common.{◌≡◌, sym}
use Rattle.session_tests.proofs.Stops.{holds_there}
use Rattle.session_tests.proofs.quitter.QuitterEngine.flags.Goals as goal

pub returns : goal.returns
returns c = λ s stands.
    let engine = c.args.self.now in
    holds_there engine.spent s (λ t. engine.flags ≡ t.world.flags) (sym stands.2)
