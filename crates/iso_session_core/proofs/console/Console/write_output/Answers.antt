use Rattle.std.proofs.Common.{sym}
use Rattle.iso_session_core.proofs.WrittenLemmas.{ends_within-last}
use Rattle.iso_session_core.proofs.console.Console.write_output.Goals as goal

pub returns-in-Some-clause-within : goal.returns-in-Some-clause-within
returns-in-Some-clause-within g c =
    sym (ends_within-last c.args.self.now.within_line c.args.bytes.now c.in-Some.last.now (sym c.in-Some.ensures.value))
