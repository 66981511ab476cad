use Rattle.std.proofs.Common.{arith}
use Rattle.iso_model.specs.Terms.TermOf.{term_of}
use Rattle.iso_store_core.proofs.RetainLemmas.{takes_then}
use Rattle.iso_lib_core.proofs.CopyLemmas.{takes_copied}
use Rattle.iso_lib_core.proofs.copies.unify_copy.Goals as goal

pub returns-in_err-copy-clause-cells : goal.returns-in_err-copy-clause-cells
returns-in_err-copy-clause-cells g c = takes_copied _ (term_of c.args.term.now) (omega arith) c.copied.ensures.cells

pub returns-clause-cells : goal.returns-clause-cells
returns-clause-cells g c = takes_then (takes_copied _ (term_of c.args.term.now) (omega arith) c.copied.ensures.cells) c.unify.ensures.cells
