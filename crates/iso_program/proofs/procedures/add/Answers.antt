-- A clause comes to the procedure at its place.
use Rattle.std.proofs.Common.{sym, subst}
use Rattle.std.proofs.lemmas.Result.{on_ok_weaker, on_err_weaker}
use Rattle.iso_model.specs.Search.Errors.{key}
use Rattle.iso_db.specs.Databases.{Database}
use Rattle.iso_db.specs.Presents.{contents}
use Rattle.iso_program.specs.declared.clauses.Clause as kept
use Rattle.iso_program.proofs.ResultLemmas.{behind_error}
use Rattle.iso_program.specs.Adding.{with_more}
use Rattle.iso_program.specs.Callables.{Finds}
use Rattle.iso_program.specs.Programs.{IsDatabase}
use Rattle.iso_program.proofs.AddingLemmas.{finds_more}
use Rattle.iso_program.proofs.KeyingLemmas.{preserves_on}
use Rattle.iso_program.proofs.ProgramLemmas.{clause_comes}
use Rattle.iso_program.proofs.procedures.add.Goals as goal

pub returns-in_err-place-clause-err : goal.returns-in_err-place-clause-err
returns-in_err-place-clause-err g c = behind_error c.from_residual.result (λ names m found is. (c.place.ensures.database names m is, c.place.ensures.found names found))

pub returns-clause-ok : goal.returns-clause-ok
returns-clause-ok g c = on_ok_weaker c.insert.result (λ came names m k found is clause number.
    (let placed = c.in_ok-place.ensures in
    let d = contents c.place.new.db in
    let base = placed.database names m is in
    let finds = placed.found names found in (
      subst (λ (x : Database (kept.Clause g.row.C.Denot)). IsDatabase g.C.OfClause.keeps names x (with_more c.args.way m (key c.args.text.now c.args.functor.arity) k)) (sym came)
          (clause_comes c.args.way d m (key c.args.text.now c.args.functor.arity) c.in_ok-place.place c.args.clause k placed.place base clause number),
      subst (λ (x : Database (kept.Clause g.row.C.Denot)). Finds names c.place.new.callables.items x) (sym came)
          (finds_more c.args.way names c.args.functor c.args.text.now d c.place.new.callables.items c.in_ok-place.place c.args.clause found.atom placed.place placed.called finds),
    ))) c.insert.ensures.contents

pub returns-clause-err : goal.returns-clause-err
returns-clause-err g c = on_err_weaker c.insert.result (λ unchanged names m found is. (
  subst (λ (d : Database (kept.Clause g.row.C.Denot)). IsDatabase g.C.OfClause.keeps names d m) (sym unchanged) (c.in_ok-place.ensures.database names m is),
  subst (λ (d : Database (kept.Clause g.row.C.Denot)). Finds names c.place.new.callables.items d) (sym unchanged) (c.in_ok-place.ensures.found names found),
)) c.insert.ensures.unchanged

pub returns-clause-preserves : goal.returns-clause-preserves
returns-clause-preserves g c = preserves_on c.args.db.now c.place.new.db c.insert.new.db c.in_ok-place.ensures.preserves c.insert.ensures.preserves
