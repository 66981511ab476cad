use Rattle.std.proofs.Common.{refl, ap, ◌∙◌, inl, arith}
use Rattle.iso_model.specs.Search.Walker.{first_world, idle}
use Rattle.iso_search_core.specs.Standing.{none_kept}
use Rattle.iso_program.specs.Callables.{callee_of}
use Rattle.iso_db.specs.Databases.{no_procedures}
use Rattle.iso_program.proofs.KeyingLemmas.{keyed_first}
use Rattle.iso_program.proofs.CallableLemmas.{index_same, index_kept}
use Rattle.iso_program.proofs.AddingLemmas.{callee_first}
use Rattle.iso_search.proofs.Moves.Search.{alike_idle}
use Rattle.iso_search.proofs.WorldLemmas.{OwnClause, same_texts, vocabulary_kept}
use Rattle.iso_search.proofs.search.Search.new.Goals as goal

pub returns-clause-stands : goal.returns-clause-stands
returns-clause-stands g c =
    let first = g.S.Store.names c.of_built_ins.new.store in
    let second = g.S.Store.names c.new.new.store in
    let last = g.S.Store.names c.mark-base.new.self in
    let rows = c.in_ok-callables.callables.items in
    let own = index_kept first second rows _ c.in_ok-vocabulary.ensures.rest.names c.in_ok-callables.ensures.found in
    let found = index_kept second last rows _ (same_texts c.mark-base.ensures.names) own in
    let same = c.in_ok-vocabulary.ensures.present ∙ c.in_ok-callables.ensures.present in
    let cells = ap (λ p. p.cells) same ∙ c.requires.cells in
    let within = g.met.S.Store.variables_within c.new.new.store in
    let present = c.mark-base.ensures.present in
    record {
      own = idle first_world;
      same = alike_idle first_world;
      engine = record {
        world = record {
          database_is = rw c.new-2.ensures (record { procedures = λ k. refl; numbers = λ k. tt; added = refl });
          keyed = keyed_first c.new-2.result c.new-2.ensures;
          found = rw c.new-2.ensures (record { calls = callee_of {X = OwnClause g.L.Lists} no_procedures; indexes = index_same last rows rows _ (callee_of {X = OwnClause g.L.Lists} no_procedures) (λ a n. refl) (callee_first (OwnClause g.L.Lists)) found; agrees = λ k. inl refl });
          vocabulary_is = vocabulary_kept (same_texts c.mark-base.ensures.names) c.in_ok-vocabulary.vocabulary c.in_ok-vocabulary.ensures.vocabulary;
          operators_are = c.in_ok-ops.ensures.entries;
          flags_are = c.initial-2.ensures;
        };
        steps = refl;
        base = record {
          present = g.S.Store.present c.new.new.store;
          stands_for = c.mark-base.ensures.stands;
          substitution = ap (λ p. p.substitution) same ∙ c.requires.substitution;
          next = ap (λ p. p.next) same ∙ c.requires.next;
          cells = cells;
          variables = omega (arith, cells, within);
        };
        choices = rw c.new-3.ensures.items none_kept;
        room = tt;
        fits = λ counts.
            (let more = ap (λ p. p.cells) present in
            let others = ap (λ p. p.variables) present in
            omega (arith, cells, within, more, others));
        next = refl;
      };
    }
