use Rattle.iso_model.specs.Terms.TermOf.{term_of}
use Rattle.iso_store.proofs.CellCounts.{nodes-within}
use Rattle.iso_store.proofs.Gathering.{grows-within}
use Rattle.iso_store.proofs.nodes.NodesStore.build.Goals as goal

pub returns-clause-cells : goal.returns-clause-cells
returns-clause-cells c = grows-within _ c.build.ensures.cells (nodes-within (term_of c.args.term.now))
