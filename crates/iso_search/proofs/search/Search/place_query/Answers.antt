use Rattle.std.proofs.Common.{◌≡◌, ◌+◌, ◌*◌, ◌≤◌, ℕ, List, [], length, refl, sym, ap₂, ◌∙◌, subst, arith}
use Rattle.iso_search_core.specs.Words.{AreVariables}
use Rattle.iso_model.specs.Search.Bodies.{Body, converted}
use Rattle.iso_search_core.specs.Standing.{none_kept}
use Rattle.iso_model.specs.Terms.Variables.{variable_count, variables}
use Rattle.iso_model.specs.Terms.Copies.{numbers_from}
use Rattle.iso_model.proofs.OnTerms.CopyLemmas.{length-numbers_from}
use Rattle.iso_model.specs.Search.Walker.{Member, body_size, started, shown_query}
use Rattle.iso_prep.specs.Classes.{goals_of}
use Rattle.iso_program.specs.Kept.{AreTemplates}
use Rattle.iso_search_core.proofs.WordLemmas.{variables_length, variables_hold, variables_more}
use Rattle.iso_program.proofs.ResultLemmas.{behind_error}
use Rattle.iso_model.proofs.Search.RunLaws.ThinRuns.{started_thin}
use Rattle.iso_store_core.proofs.RetainLemmas.{grows_same}
use Rattle.iso_search.proofs.Moves.Search.{alike_itself}
use Rattle.iso_search.proofs.StartLemmas.{fresh_left, same_fresh, opening_body, query_fits, query_variables, query_goals, query_placed}
use Rattle.iso_search.proofs.StoppedLemmas.{base_kept}
use Rattle.iso_search.proofs.WorldLemmas.{world_on, same_texts}
use Rattle.iso_search.proofs.search.Search.place_query.Goals as goal

pub place_query-requires-clause-goals : goal.place_query-requires-clause-goals
place_query-requires-clause-goals g c =
    let t = c.requires.query.0 in
    let q = c.requires.query.1 in
    let first = (g.S.Store.present c.args.self.now.store).next in
    let many : length c.in_ok-variables.variables.items ≡ variable_count t =
    variables_length {ns = numbers_from first c.variables-count.result} c.in_ok-variables.ensures.variables ∙ length-numbers_from first c.variables-count.result ∙ c.variables-count.ensures.count ∙ q.variables_are in
    rw (c.as_slice.ensures.value, many) (query_goals t c.args.query.now q)

pub place_query-requires-clause-variables : goal.place_query-requires-clause-variables
place_query-requires-clause-variables g c = rw c.as_slice.ensures.value (variables_hold c.in_ok-variables.variables.items c.in_ok-variables.ensures.variables)

pub returns-clause-started : goal.returns-clause-started
returns-clause-started g c = λ t w q fresh.
    (let b = (c.args.query.now).body in
    let is = q.converted_is in
    let p = g.S.Store.present c.args.self.now.store in
    let mid = g.S.Store.present c.new_variables.new.store in
    let after = g.S.Store.present c.place_query.new.store in
    let made = c.in_ok-variables.ensures in
    let placed = c.in_ok-body.ensures in
    let stood = world_on g.L.Lists placed.rest.names (world_on g.L.Lists (same_texts made.rest.names) fresh.world) in
    let ws = c.in_ok-variables.variables.items in
    let count : c.variables-count.result ≡ variable_count t = c.variables-count.ensures.count ∙ q.variables_are in
    let many : length ws ≡ variable_count t = variables_length made.variables ∙ length-numbers_from p.next c.variables-count.result ∙ count in
    let steps = c.args.self.now.steps in
    let s = started t steps w in
    let next : after.next ≡ variable_count t = omega (arith, made.extends.next, placed.extends.next, fresh.next, count) in
    let named : numbers_from p.next c.variables-count.result ≡ variables (shown_query t (converted t)) = ap₂ numbers_from fresh.next count ∙ (sym q.numbered ∙ sym (query_variables t b is)) in
    let words : AreVariables after ws (variables (shown_query t (converted t))) = subst (λ (ns : List ℕ). AreVariables after ws ns) named (variables_more placed.extends.words made.variables) in
    let room : variable_count t + 536870912 * steps ≤ 4611686018427387904 = omega (arith, count, c.variables-count.ensures.few, c.requires.steps) in
    let numbered : AreVariables mid ws (numbers_from 0 (length ws)) = subst (λ (ns : List ℕ). AreVariables mid ws ns) (ap₂ numbers_from fresh.next (count ∙ sym many)) made.variables in
    let goals : AreTemplates (length ws) (goals_of b) = subst (λ (n : ℕ). AreTemplates n (goals_of b)) (sym many) (query_goals t c.args.query.now q) in
    let body = subst (λ (a : Body). g.L.Lists.body after c.place_query.new.self c.in_ok-body.body a) (query_placed ws b numbered goals) (rw c.as_slice.ensures.value at placed.placed) in
    let first = c.in_ok-first.ensures.first after b [] body (c.nothing.ensures.list after c.place_query.new.self (g.L.Lists.whole c.place_query.new.self)) in
    record {
      own = s;
      same = alike_itself s (same_fresh s refl refl) (started_thin t steps w);
      engine = record {
        world = record { database_is = stood.database_is; keyed = stood.keyed; found = stood.found; vocabulary_is = stood.vocabulary_is; operators_are = stood.operators_are; flags_are = stood.flags_are };
        steps = refl;
        base = base_kept g.S.Store c.args.self.now.store c.place_query.new.store c.args.self.now.base (λ m r k. placed.rest.marks m r (made.rest.marks m r k)) fresh.base;
        choices = rw fresh.choices none_kept;
        room = tt;
        fits = query_fits g.S.Store t b steps c.variables-count.result _ w is q.term count fresh.cells fresh.variables made.cells.grows placed.cells
            (let fewer = c.in_ok-first.ensures.pending in let none = c.nothing.ensures.pending c.place_query.new.self in omega (arith, fewer, none));
        next = (
          subst (λ (ms : List Member). g.L.Lists.first after c.run.new.self c.in_ok-first.first ms) (sym (opening_body t b is)) first,
          record { subst = placed.extends.substitution ∙ (made.extends.substitution ∙ fresh.substitution); next = next; room = room; words = words },
        );
      };
    })

pub returns-in_err-variables-clause-kept : goal.returns-in_err-variables-clause-kept
returns-in_err-variables-clause-kept g c = λ w fresh.
    (let e = c.args.self.now in
    let made = c.in_err-variables.ensures.rest in
    behind_error c.from_residual.result (fresh_left e c.new_variables.new.store e.lists w fresh made.marks (same_texts made.names)))

pub returns-in_err-body-clause-kept : goal.returns-in_err-body-clause-kept
returns-in_err-body-clause-kept g c = λ w fresh.
    (let e = c.args.self.now in
    let made = c.in_ok-variables.ensures.rest in
    let placed = c.in_err-body.ensures.rest in
    behind_error c.from_residual-in_err-body.result
    (fresh_left e c.place_query.new.store c.place_query.new.self w fresh (λ m r k. placed.marks m r (made.marks m r k)) (λ place text h. placed.names place text (same_texts made.names place text h))))

pub returns-in_err-first-clause-kept : goal.returns-in_err-first-clause-kept
returns-in_err-first-clause-kept g c = λ w fresh.
    (let e = c.args.self.now in
    let made = c.in_ok-variables.ensures.rest in
    let placed = c.in_ok-body.ensures.rest in
    behind_error c.from_residual-in_err-first.result
    (fresh_left e c.place_query.new.store c.run.new.self w fresh (λ m r k. placed.marks m r (made.marks m r k)) (λ place text h. placed.names place text (same_texts made.names place text h))))

-- ---- it is refused

pub returns-in_err-variables-clause-fits : goal.returns-in_err-variables-clause-fits
returns-in_err-variables-clause-fits g c = λ t w q fresh.
    (let b = (c.args.query.now).body in
    let count : c.variables-count.result ≡ variable_count t = c.variables-count.ensures.count ∙ q.variables_are in
    behind_error c.from_residual.result
    (query_fits g.S.Store t b c.args.self.now.steps c.variables-count.result 0 w q.converted_is q.term count fresh.cells fresh.variables c.in_err-variables.ensures.cells.grows (λ counts. grows_same (2 * body_size b) 0 refl) refl))

pub returns-in_err-body-clause-fits : goal.returns-in_err-body-clause-fits
returns-in_err-body-clause-fits g c = λ t w q fresh.
    (let b = (c.args.query.now).body in
    let count : c.variables-count.result ≡ variable_count t = c.variables-count.ensures.count ∙ q.variables_are in
    behind_error c.from_residual-in_err-body.result
    (query_fits g.S.Store t b c.args.self.now.steps c.variables-count.result 0 w q.converted_is q.term count fresh.cells fresh.variables c.in_ok-variables.ensures.cells.grows c.in_err-body.ensures.cells refl))

pub returns-in_err-first-clause-fits : goal.returns-in_err-first-clause-fits
returns-in_err-first-clause-fits g c = λ t w q fresh.
    (let b = (c.args.query.now).body in
    let count : c.variables-count.result ≡ variable_count t = c.variables-count.ensures.count ∙ q.variables_are in
    behind_error c.from_residual-in_err-first.result
    (query_fits g.S.Store t b c.args.self.now.steps c.variables-count.result 0 w q.converted_is q.term count fresh.cells fresh.variables c.in_ok-variables.ensures.cells.grows c.in_ok-body.ensures.cells refl))
