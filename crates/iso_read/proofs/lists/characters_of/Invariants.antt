-- The characters so far, and those that are left, are all of them.
use Rattle.std.proofs.Common.{◌≡◌, map, chars, encode_utf8, ◌++◌}
use Rattle.std.specs.Str.{IsUtf8}
use Rattle.iso_model.specs.Terms.TermOf.{term_of}
use Rattle.iso_model.specs.Terms.Trees.{Name}
use Rattle.iso_read.proofs.lists.characters_of.Given as goal

abbrev pub invariant-loop-c : goal.invariant-loop-c
invariant-loop-c l =
    IsUtf8 l.c-iterator.rest.now
    × (map term_of l.terms.items ++ map (λ c. Name (encode_utf8 c)) (chars l.c-iterator.rest.now) ≡ map (λ c. Name (encode_utf8 c)) (chars l.fn.text))
