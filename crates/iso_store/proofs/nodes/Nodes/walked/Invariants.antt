-- Each place that was reached stands for the same term.
use Rattle.std.proofs.Common.{◌≡◌, ◌<◌, length}
use Rattle.std.specs.List.{slice_get}
use Rattle.iso_model.specs.Terms.Substitutions.{apply}
use Rattle.iso_store.specs.NodeTerms.{term_at, substitution_of}
use Rattle.iso_store.proofs.NodeReads.{rank}
use Rattle.iso_store.proofs.nodes.Nodes.walked.Given as goal

abbrev pub invariant-loop-next : goal.invariant-loop-next
invariant-loop-next l = record {
  within : l.at < length l.self.nodes.items;
  same : apply (substitution_of l.self.atoms l.self.nodes.items l.self.trail.items) (term_at l.self.atoms l.self.nodes.items l.at) ≡ apply (substitution_of l.self.atoms l.self.nodes.items l.self.trail.items) (term_at l.self.atoms l.self.nodes.items l.word);
}

abbrev pub decreases-loop-next : goal.decreases-loop-next
decreases-loop-next l = rank (slice_get l.self.nodes.items l.at)
