use Rattle.std.proofs.Common.{arith}
use Rattle.iso_model.specs.Terms.TermOf.{term_of}
use Rattle.iso_lib_core.proofs.CopyLemmas.{takes_copied}
use Rattle.iso_lib_core.proofs.copies.copied_few.Goals as goal

pub returns-clause-cells : goal.returns-clause-cells
returns-clause-cells g c = takes_copied _ (term_of c.args.term.now) (omega arith) c.copied.ensures.cells
