use Rattle.std.proofs.Common.{rules, ◌≢◌, ◌∙◌}
use Rattle.iso_store.proofs.Clashes.{never-compound}
use Rattle.iso_store.proofs.meetings.meet.Goals as goal

pub returns-in_default-2-second : goal.returns-in_default-2-second
returns-in_default-2-second c names a b once first second left right =
    let differ : c.args.first ≢ c.args.second = search rules in
    let one = rw c.in-Compound.is at first in
    never-compound names c.in-Compound.field-0 c.in-Compound.n c.args.second a b once one second left right c.in_default-2-second.not-Var (λ e. differ (c.in-Compound.is ∙ e))
