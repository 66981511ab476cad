-- The codes so far, and those of the characters that are left, are all of them.
use Rattle.std.proofs.Common.{◌≡◌, map, chars, pos, ◌++◌}
use Rattle.std.specs.Str.{IsUtf8}
use Rattle.iso_model.specs.Terms.TermOf.{term_of}
use Rattle.iso_model.specs.Terms.Trees.{Integer}
use Rattle.iso_read.proofs.lists.codes_of.Given as goal

abbrev pub invariant-loop-c : goal.invariant-loop-c
invariant-loop-c l =
    IsUtf8 l.c-iterator.rest.now
    × (map term_of l.terms.items ++ map (λ c. Integer (pos c)) (chars l.c-iterator.rest.now) ≡ map (λ c. Integer (pos c)) (chars l.fn.text))
