use Rattle.std.proofs.Common.{ap, subst, OnOk}
use Rattle.iso_model.specs.Terms.TermOf.{term_of}
use Rattle.iso_store_core.specs.Presents.{KeepsWords}
use Rattle.parts_rows.proofs.Made.{made-holds, made-words}
use Rattle.parts_rows.proofs.calls.instance.Goals as goal

pub returns-clause-made : goal.returns-clause-made
returns-clause-made g c = made-holds _ _ _ c.instantiate.result (c.instantiate.ensures.made (term_of c.args.term.now) c.in_ok-pattern.ensures.pattern)

pub returns-clause-words : goal.returns-clause-words
returns-clause-words g c =
    rw c.in_ok-pattern.ensures.present at (made-words _ _ _ c.instantiate.result (c.instantiate.ensures.made (term_of c.args.term.now) c.in_ok-pattern.ensures.pattern))
