-- What is built, with what the rest of the item stands for, is the whole.
use Rattle.std.proofs.Common.{◌≡◌, ◌++◌, length, string_bytes}
use denote.Text.{Utf8}
use denote.Shadow.{shadow}
use Rattle.iso_model.specs.Syntax.Quoted.{content_from}
use Rattle.iso_token.proofs.quoted.item_content.Given as goal

abbrev pub invariant-loop-rest : goal.invariant-loop-rest
invariant-loop-rest l = shadow (Utf8 l.rest) × (string_bytes l.content ++ content_from l.quote 0 l.rest ≡ content_from l.quote 0 l.item)

abbrev pub decreases-loop-rest : goal.decreases-loop-rest
decreases-loop-rest l = length l.rest
