use Rattle.std.proofs.Common.{sym}
use Rattle.iso_session_core.proofs.WrittenLemmas.{ends_within-last}
use Rattle.iso_toplevel_core.proofs.queries.is_within.Goals as goal

pub returns-in-Some : goal.returns-in-Some
returns-in-Some c = sym (ends_within-last c.args.within c.args.bytes.now c.in-Some.last.now (sym c.in-Some.ensures.value))
