use Rattle.std.proofs.Common.{◌≡◌, ◌∙◌, sym, true}
use Rattle.iso_model.specs.Search.Errors.{key}
use Rattle.iso_model.specs.Search.Storages.{is_fixed}
use Rattle.iso_storage.proofs.KeptPrograms.{on_err}
use Rattle.iso_storage.proofs.heads.see_changeable.Goals as goal

pub returns-in_err-ball-clause-fixed : goal.returns-in_err-ball-clause-fixed
returns-in_err-ball-clause-fixed g c = λ names m is named.
    (let fixed : is_fixed m.procedures (key c.args.text.now c.args.functor.arity) ≡ true = sym (c.is_fixed.ensures names m is named) ∙ c.if-is_fixed.true in
    on_err c.from_residual.result _ fixed)

pub returns-then-is_fixed-clause-fixed : goal.returns-then-is_fixed-clause-fixed
returns-then-is_fixed-clause-fixed g c = λ names m is named. sym (c.is_fixed.ensures names m is named) ∙ c.if-is_fixed.true

pub returns-clause-free : goal.returns-clause-free
returns-clause-free g c = λ names m is named. sym (c.is_fixed.ensures names m is named) ∙ c.if-is_fixed.false
