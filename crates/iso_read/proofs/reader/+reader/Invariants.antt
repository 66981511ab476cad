-- Each call goes less deep, or is of a function that stands further up in the order: an operand, what a bracket or a
-- name stands for, a list or a compound, its parts; or the operators behind an operand.
use Rattle.std.proofs.Common.{◌≡◌, ◌+◌, ◌-◌, ◌*◌, ◌<◌, ◌≤◌, length, map}
use Rattle.iso_model.specs.Syntax.Reading.{continued, elements, further}
use Rattle.iso_model.specs.Terms.TermOf.{term_of}
use Rattle.iso_read.specs.Views.{node_of, terms_in}
use Rattle.iso_read.proofs.Rows.{behind_these}
use Rattle.iso_read.proofs.reader.+reader.Given as goal

abbrev pub decreases-read_term : goal.decreases-read_term
decreases-read_term l = 8 * l.depth

abbrev pub decreases-operand : goal.decreases-operand
decreases-operand l = 8 * l.depth + 7

abbrev pub decreases-punctuated : goal.decreases-punctuated
decreases-punctuated l = 8 * l.depth + 6

abbrev pub decreases-named : goal.decreases-named
decreases-named l = 8 * l.depth + 4

abbrev pub decreases-compound : goal.decreases-compound
decreases-compound l = 8 * l.depth + 3

abbrev pub decreases-prefixed : goal.decreases-prefixed
decreases-prefixed l = 8 * l.depth + 3

abbrev pub decreases-listed : goal.decreases-listed
decreases-listed l = 8 * l.depth + 3

abbrev pub decreases-elements : goal.decreases-elements
decreases-elements l = 8 * l.depth + 2

abbrev pub decreases-list_end : goal.decreases-list_end
decreases-list_end l = 8 * l.depth + 2

abbrev pub decreases-climb : goal.decreases-climb
decreases-climb l = 8 * l.depth + 2

abbrev pub decreases-bracketed : goal.decreases-bracketed
decreases-bracketed l = 8 * l.depth + 1

abbrev pub decreases-braced : goal.decreases-braced
decreases-braced l = 8 * l.depth + 1

abbrev pub decreases-extend : goal.decreases-extend
decreases-extend l = 8 * l.depth + 1

-- the operators go on from here
abbrev pub invariant-climb-loop-left : goal.invariant-climb-loop-left
invariant-climb-loop-left l =
    (l.left.height ≤ l.depth)
    × (length l.input.tokens ≤ length l.fn.input.tokens)
    × (continued l.language.ops.now l.language.flags.now (terms_in l.language l.depth) l.depth l.most (node_of l.left) l.input ≡ continued l.language.ops.now l.language.flags.now (terms_in l.language l.depth) l.depth l.most (node_of l.fn.first) l.initial.input)

abbrev pub decreases-climb-loop-left : goal.decreases-climb-loop-left
decreases-climb-loop-left l = l.depth - l.left.height

-- the arguments go on behind these
abbrev pub invariant-elements-loop-language : goal.invariant-elements-loop-language
invariant-elements-loop-language l =
    (l.height < l.depth)
    × (length l.input.tokens ≤ length l.fn.input.tokens)
    × (behind_these (map term_of l.terms.items) l.height (further (terms_in l.language l.depth) (length l.input.tokens) l.input) ≡ elements (terms_in l.language l.depth) l.fn.input)

abbrev pub decreases-elements-loop-language : goal.decreases-elements-loop-language
decreases-elements-loop-language l = length l.input.tokens
