-- The term's text in its place, or where it is empty what stands behind it, begins as the whole does.
use Rattle.std.proofs.Common.{◌≡◌, ℕ, List}
use Rattle.std.specs.Option.{option_or}
use Rattle.iso_model.specs.Terms.TermOf.{term_of}
use Rattle.iso_write.specs.Styles.{style_of}
use Rattle.iso_write.specs.Forms.{written}
use Rattle.iso_write.specs.Tasks.{placed, load}
use Rattle.iso_write.specs.Leads.{lead}
use Rattle.iso_write.proofs.leads.leading_byte.Given as goal

abbrev pub invariant-loop-form : goal.invariant-loop-form
invariant-loop-form l =
    (seen : List ℕ) → option_or (lead (placed l.place (written (style_of l.style) l.ops seen (term_of l.term)))) l.behind
    ≡ lead (placed l.fn.place (written (style_of l.style) l.ops seen (term_of l.fn.term)))

abbrev pub decreases-loop-form : goal.decreases-loop-form
decreases-loop-form l = load (term_of l.term)
