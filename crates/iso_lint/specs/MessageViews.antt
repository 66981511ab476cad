-- What clauses see of messages.
use Rattle.iso_lint.specs.FindingViews.{what_of}
use Rattle.iso_lint.specs.Messages as spec
use Rattle.iso_lint.specs.declared.messages.Message.{Message}

abbrev pub message_of : Message → spec.Message
message_of m = record { place = m.place; what = what_of m.what; before = m.before }
