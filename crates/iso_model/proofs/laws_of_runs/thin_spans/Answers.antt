use Rattle.iso_model.proofs.Search.RunLaws.SpanLemmas.{thin_span}
use Rattle.iso_model.proofs.laws_of_runs.thin_spans.Goals as goal

pub returns : goal.returns
returns c = thin_span
