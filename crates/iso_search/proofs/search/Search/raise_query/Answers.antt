use Rattle.std.proofs.Common.{[], refl, ap, Some, ◌∙◌}
use Rattle.std.specs.Prelude.{codes}
use Rattle.iso_search_core.specs.Standing.{none_kept}
use Rattle.iso_model.specs.Search.Walker.{started}
use Rattle.iso_model.specs.Terms.TermOf.{term_of}
use Rattle.iso_model.specs.Search.Errors.{key, type_error_callable}
use Rattle.iso_lib_core.proofs.ErrorLemmas.{callable_fits}
use Rattle.iso_program.proofs.ResultLemmas.{behind_error}
use Rattle.iso_search.proofs.StoppedLemmas.{keeps_none}
use Rattle.iso_model.proofs.Search.RunLaws.ThinRuns.{started_thin}
use Rattle.iso_search.proofs.Moves.Search.{alike_itself}
use Rattle.iso_model.proofs.OnTerms.MeaningLemmas.{meaning_is_term}
use Rattle.iso_search.proofs.StartLemmas.{same_fresh, opening_error, raised_fits}
use Rattle.iso_search.proofs.search.Search.raise_query.Goals as goal

pub returns-clause-started : goal.returns-clause-started
returns-clause-started g c = λ w fresh.
    (let goal = term_of c.args.culprit in
    let error = type_error_callable goal (key (codes "call") 1) in
    let s = started goal c.args.self.now.steps w in
    record {
      own = s;
      same = alike_itself s (same_fresh s refl refl) (started_thin goal c.args.self.now.steps w);
      engine = record {
        world = record { database_is = fresh.world.database_is; keyed = fresh.world.keyed; found = fresh.world.found; vocabulary_is = fresh.world.vocabulary_is; operators_are = fresh.world.operators_are; flags_are = fresh.world.flags_are };
        steps = refl;
        base = fresh.base;
        choices = rw fresh.choices none_kept;
        room = tt;
        fits = raised_fits g.S.Store (g.S.Store.present c.args.self.now.store) goal c.args.self.now.steps w c.requires.refused (meaning_is_term c.args.culprit ∙ c.requires.fits) fresh.cells fresh.variables;
        next = (error, [], opening_error goal c.requires.refused, c.nothing.ensures.list _ _ _, ap Some {y = error} c.in_ok-ball.ensures, callable_fits goal (key (codes "call") 1) c.requires.fits);
      };
    })

pub returns-in_err-ball-clause-kept : goal.returns-in_err-ball-clause-kept
returns-in_err-ball-clause-kept g c = λ w fresh. behind_error c.from_residual.result (keeps_none g.S.Store g.L.Lists c.args.self.now w fresh)
