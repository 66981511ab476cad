-- The item goes on as far as what is read and what is left of it.
use Rattle.std.proofs.Common.{◌≡◌, ◌+◌, ◌-◌, ◌≤◌, length, drop, option_map}
use Rattle.iso_model.specs.Syntax.Quoted.{len_from}
use Rattle.iso_token.proofs.quoted.item_len.Given as goal

abbrev pub invariant-loop-at : goal.invariant-loop-at
invariant-loop-at l = (option_map (λ k. l.at + k) (len_from l.quote 0 (drop l.at l.bytes)) ≡ len_from l.quote 0 l.bytes) × (l.at ≤ length l.bytes)

abbrev pub decreases-loop-at : goal.decreases-loop-at
decreases-loop-at l = length l.bytes - l.at
