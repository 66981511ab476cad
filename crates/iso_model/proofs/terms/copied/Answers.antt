use Rattle.std.proofs.Common.{◌∙◌, Result, Ok, Err, IfOk}
use Rattle.iso_model.specs.Terms.TermOf.{term_of}
use Rattle.iso_model.specs.Terms.Unification.Applied.{apply_none}
use Rattle.iso_model.proofs.terms.copied.Goals as goal

if_ok_by : {T E : Type 0} {P Q : T → Type 0} (r : Result T E) → IfOk r P → ((t : T) → P t → Q t) → IfOk r Q
if_ok_by (Ok t) h f = f t h
if_ok_by (Err e) h f = tt

pub returns : goal.returns
returns c = if_ok_by c.copied_by.result c.copied_by.ensures (λ t e. e ∙ apply_none (term_of c.args.term.now))
