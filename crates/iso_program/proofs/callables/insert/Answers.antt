use Rattle.std.proofs.Common.{ap, ◌∙◌, ◌&&◌, ◌==◌, ℕ}
use Rattle.std.specs.Option.{option_or}
use Rattle.iso_program.specs.declared.callables.Callable.{Callable}
use Rattle.iso_program.specs.Callables.{callee_at, where_holds}
use Rattle.iso_program.proofs.CallableLemmas.{pushed, left_row}
use Rattle.iso_program.proofs.ResultLemmas.{behind_error}
use Rattle.iso_program.proofs.callables.insert.Goals as goal

pub returns-clause-ok : goal.returns-clause-ok
returns-clause-ok c = λ a n.
    (let rows = c.reach.new.callables.items in
    let new : Callable = record { arity = c.args.arity; calls = c.args.calls } in
    let is = pushed rows c.number-place.result c.index_mut.result.now c.push.new.self c.in_ok-reach.ensures.there c.index_mut.ensures.value new c.in_ok-push.ensures.items a n in
    is ∙ ap (λ (place : ℕ). option_or (callee_at rows a n) (where_holds (a == place && c.args.arity == n) c.args.calls)) c.number-place.ensures
    ∙ ap (λ o. option_or o (where_holds (a == c.args.name && c.args.arity == n) c.args.calls)) (c.reach.ensures.same a n))

pub returns-in_err-push-clause-err : goal.returns-in_err-push-clause-err
returns-in_err-push-clause-err c =
    behind_error c.from_residual-in_err-push.result (λ a n.
    left_row c.reach.new.callables.items c.number-place.result c.index_mut.result.now c.push.new.self c.in_ok-reach.ensures.there c.index_mut.ensures.value c.in_err-push.ensures.items a n ∙ c.reach.ensures.same a n)
