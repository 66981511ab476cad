-- The clauses whose keys fit, and the first of them.
use Rattle.std.proofs.lemmas.Result.{IfOk-weaker}
use Rattle.iso_db.specs.Presents.{contents, key_in}
use Rattle.iso_program.proofs.KeyLemmas.{fitting}
use Rattle.iso_program.proofs.LeavingLemmas.{next_is_left}
use Rattle.iso_program.proofs.left_clauses.first_left.Goals as goal

pub returns-clause-left : goal.returns-clause-left
returns-clause-left g c = λ names call cs shows are.
    (let d = contents c.args.db.now in
    let fit = fitting names call d.added (key_in c.args.db.now) c.args.key shows (c.requires.keyed c.args.place) are in
    IfOk-weaker c.begin.result _ _
    (λ first h. record {
      clauses = fit.clauses;
      are = next_is_left names c.args.db.now c.begin.new.later _ fit.clauses first fit.are h.stand h.is h.rest h.few;
      skips = fit.skips;
      enter = fit.enter;
    }) c.begin.ensures.begins)
