-- What clauses see of items.
use Rattle.std.specs.Prelude.{map, option_map}
use Rattle.iso_model.specs.Terms.TermOf.{term_of}
use Rattle.iso_lint.specs.Findings as spec
use Rattle.iso_lint.specs.FindingViews.{finding_of}
use Rattle.iso_lint.specs.declared.items.Item.{Item}

abbrev pub item_of : Item → spec.Item
item_of i = record { start = i.start; term = option_map term_of i.term; found = map finding_of i.found.items }
