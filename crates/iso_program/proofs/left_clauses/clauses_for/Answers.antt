-- The clauses whose keys fit.
use Rattle.std.specs.List.{filter}
use Rattle.std.proofs.lemmas.Result.{IfOk-weaker}
use Rattle.iso_db.specs.Databases.{clauses_at}
use Rattle.iso_db.specs.Fits.{fits}
use Rattle.iso_db.specs.Presents.{contents, key_in}
use Rattle.iso_program.proofs.KeyLemmas.{fitting}
use Rattle.iso_program.proofs.ResultLemmas.{both_ok}
use Rattle.iso_program.proofs.left_clauses.clauses_for.Goals as goal

pub returns-clause-gives : goal.returns-clause-gives
returns-clause-gives g c = λ names call cs shows are.
    (let d = contents c.args.db.now in
    let fit = fitting names call d.added (key_in c.args.db.now) c.args.key shows (c.requires.keyed c.args.place) are in
    IfOk-weaker c.view.result _ _
    (λ view h. record {
      kept = filter (λ k. fits c.args.key (key_in c.args.db.now k.number)) (clauses_at d c.args.place);
      clauses = fit.clauses;
      gives = h.0;
      are = fit.are;
      few = h.1;
      skips = fit.skips;
    }) (both_ok c.view.result _ _ c.view.ensures.gives c.view.ensures.few))
