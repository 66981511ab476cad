-- No number stands past the end.
use Rattle.std.proofs.Common.{◌≤◌, ◌∙◌, None, length, sym, ap, arith}
use Rattle.std.specs.List.{slice_get}
use Rattle.std.proofs.lemmas.Option.{none-some}
use Rattle.std.proofs.lemmas.List.{get_or_past}
use Rattle.iso_db.proofs.parts.Parts.find_without_key.Goals as goal

pub returns-then-place-len-clause-absent : goal.returns-then-place-len-clause-absent
returns-then-place-len-clause-absent c = λ n at.
    let numbers = c.self.inside.without_key.items in
    let past : length numbers ≤ c.args.place = omega arith in
    none-some n (sym (get_or_past numbers c.args.place None past) ∙ c.self.invariant.each c.args.place n (ap (λ ps. slice_get ps n) c.self.view_is ∙ at))
