use Rattle.iso_text.proofs.IntegerLemmas.{layout_cut}
use Rattle.iso_text.proofs.integers.behind_layout.Goals as goal

pub split_at-requires : goal.split_at-requires
split_at-requires c = layout_cut c.args.text.now c.layout_len.result c.utf8.text (rw (← c.as_bytes.ensures.value) c.layout_len.ensures.value)
