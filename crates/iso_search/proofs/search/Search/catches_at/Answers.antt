use Rattle.iso_search.proofs.ThrowLemmas.{no_entry}
use Rattle.iso_search_core.proofs.StandingLemmas.{item_within}
use Rattle.iso_search.proofs.search.Search.catches_at.Goals as goal

pub returns-in-Catching : goal.returns-in-Catching
returns-in-Catching g c =
    record { choice = c.index.result.now; stands = item_within c.args.self.now.choices c.len.result c.index.result.now c.len.ensures c.args.height c.if-height-len.false c.index.ensures; entry = rw c.in-Catching.is tt }

pub returns-in_default : goal.returns-in_default
returns-in_default g c =
    no_entry c.args.self.now.choices.items c.args.height c.index.result.now (item_within c.args.self.now.choices c.len.result c.index.result.now c.len.ensures c.args.height c.if-height-len.false c.index.ensures) c.in_default.not-Catching
