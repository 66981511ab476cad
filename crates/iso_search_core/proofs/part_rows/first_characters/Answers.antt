use Rattle.std.proofs.Common.{rules}
use Rattle.std.proofs.lemmas.Iterator.{YieldsList-from_chars, YieldsList-from_take, text_from_collect}
use Rattle.iso_search_core.proofs.part_rows.first_characters.Goals as goal

pub returns : goal.returns
returns c = text_from_collect _ c.collect.ensures.ran (YieldsList-from_take c.args.count (YieldsList-from_chars c.args.text.now (search rules) cc) cc)
