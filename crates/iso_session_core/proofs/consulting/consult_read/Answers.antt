use Rattle.std.proofs.Common.{[], ◌∷◌, ◌++◌, ap, ◌∙◌, sym}
use Rattle.iso_model.specs.Session.Lines.{skipped_line}
use Rattle.iso_model.specs.Terms.TermOf.{term_of}
use Rattle.iso_session_core.specs.Directed.{text_term_of}
use Rattle.iso_session_core.proofs.ProgressLemmas.{advance_none, stops_here}
use Rattle.iso_session_core.proofs.ConsultLemmas.{skipped}
use Rattle.iso_session_core.proofs.consulting.consult_read.Goals as goal

pub returns-in-Clause-clause-does : goal.returns-in-Clause-clause-does
returns-in-Clause-clause-does g c = λ s stands k counts goals are next.
    let is = sym c.text_term.ensures.is ∙ ap text_term_of c.in-Clause.is in
    record { goals = goals; are = are; does = rw is (c.add_clause.ensures.does s stands k counts c.args.budget (next goals)) }

pub returns-in-Directive-clause-does : goal.returns-in-Directive-clause-does
returns-in-Directive-clause-does g c = λ s stands k counts goals are next.
    let is = sym c.text_term.ensures.is ∙ ap text_term_of c.in-Directive.is in
    record { goals = goals; are = are; does = rw is (c.run_directive.ensures.does s stands k counts (next goals)) }

pub returns-in-Ok-clause-does : goal.returns-in-Ok-clause-does
returns-in-Ok-clause-does g c = λ s stands k counts goals are next.
    let is = sym c.text_term.ensures.is ∙ ap text_term_of c.in-Initialization.is in
    record {
      goals = goals ++ record { place = k; goal = term_of c.in-Initialization.goal.now } ∷ [];
      are = c.in-Ok.ensures.ok goals are k counts;
      does = rw is (record { at = s; stands = stands; ready = c.requires.ready; advances = advance_none _ _ });
    }

pub returns-in-Err-clause-does : goal.returns-in-Err-clause-does
returns-in-Err-clause-does g c = λ s stands k counts goals are next.
    record { goals = goals; are = rw c.in-Err.ensures.err are; does = stops_here _ _ _ _ _ _ c.requires.ready }

pub returns-in-PassedOver-clause-does : goal.returns-in-PassedOver-clause-does
returns-in-PassedOver-clause-does g c = λ s stands k counts goals are next.
    let is = sym c.text_term.ensures.is ∙ ap text_term_of c.in-PassedOver.is in
    record {
      goals = goals;
      are = are;
      does = rw is (skipped _ _ _ _ _ _ c.args.number k s (next goals) c.put_line.result stands c.requires.ready counts (c.put_line.ensures.puts (skipped_line c.args.number) c.skipped_line-line.ensures));
    }
