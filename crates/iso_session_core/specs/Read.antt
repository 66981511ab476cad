-- What was read.
use Rattle.std.specs.Prelude.{◌≡◌, true, List, Option, Some, None}
use Rattle.iso_model.specs.Terms.Trees.{arities_fit}
use Rattle.iso_model.specs.Terms.TermOf.{term_of}
use Rattle.iso_model.specs.Terms.Copies.{IsNumbered}
use Rattle.iso_model.specs.Syntax.Token.{Shown}
use Rattle.iso_model.specs.Syntax.Items as model
use Rattle.iso_read.specs.Answers.{clause_read}
use Rattle.iso_session_core.specs.declared.items.Item.{Item}
use Rattle.iso_session_core.specs.declared.items.Item.TheVariants as item

-- the item that a Rust item is
abbrev pub item_read : Item → model.Item
item_read (item.Readable read) = model.Readable (clause_read read)
item_read item.Unreadable = model.Unreadable

-- what was found before these tokens
abbrev pub found : Option Item → List Shown → Option model.Taken
found None behind = None
found (Some i) behind = Some (record { item = item_read i; behind = behind })

-- A term that was read is well formed, and its variables are numbered in the order of their first occurrence.
abbrev pub Fits : Item → Type 0
Fits (item.Readable read) = (arities_fit (term_of read.term) ≡ true) × IsNumbered (term_of read.term)
Fits item.Unreadable = Unit {0}
