-- The messages of what is gone through so far.
use Rattle.std.proofs.Common.{◌≡◌, ◌+◌, map}
use Rattle.iso_lint.specs.FindingViews.{finding_of}
use Rattle.iso_lint.specs.MessageViews.{message_of}
use Rattle.iso_lint.specs.Messages as spec
use Rattle.iso_lint.specs.Places.{place_at}
use Rattle.iso_lint.proofs.messages.messages_of.Given as goal

abbrev pub invariant-loop-finding : goal.invariant-loop-finding
invariant-loop-finding l = map message_of l.messages.items ≡ map (spec.message (λ start. place_at l.marks.text.now (l.first + start))) (map finding_of l.yielded)
