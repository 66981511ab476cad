-- The part comes behind the others, and the number of one without a key is noted.
use Rattle.std.proofs.Common.{rules, ◌≡◌, ◌≢◌, ◌∙◌, ◌++◌, ◌∷◌, [], ℕ, Some, None, length, set, sym, ap, subst, is_some, false}
use Rattle.std.specs.List.{slice_get}
use Rattle.iso_db.specs.Parts.{IsNumbered}
use Rattle.iso_db.specs.declared.parts.Part.{Part}
use Rattle.iso_db.proofs.KeyLemmas.{new_part}
use Rattle.iso_db.proofs.NumberLemmas.{no_key, same_unkeyed, IsNumbered-same, IsNumbered-keyed, IsNumbered-unkeyed}
use Rattle.iso_db.proofs.parts.Parts.add.Goals as goal

pub invariant_of-self-then-is_some : goal.invariant_of-self-then-is_some
invariant_of-self-then-is_some c =
    let part : Part = record { place = c.args.place; key = c.args.key } in
    let parts = c.self.inside.known.keys in
    let more : c.insert.new.self.keys ≡ parts ++ part ∷ [] = c.in_ok-insert.ensures.keys ∙ new_part part parts (λ n at. c.requires n (ap (λ ps. slice_get ps n) (sym c.self.view_is) ∙ at)) in
    subst (IsNumbered c.self.inside.without_key.items) (sym more) (IsNumbered-keyed c.self.inside.without_key.items parts part (search rules) c.self.invariant)

pub returns-then-is_some-clause-added : goal.returns-then-is_some-clause-added
returns-then-is_some-clause-added c =
    let part : Part = record { place = c.args.place; key = c.args.key } in
    c.in_ok-insert.ensures.keys ∙ new_part part c.self.inside.known.keys (λ n at. c.requires n (ap (λ ps. slice_get ps n) (sym c.self.view_is) ∙ at)) ∙ ap (λ ps. ps ++ part ∷ []) c.self.view_is

pub invariant_of-self-2 : goal.invariant_of-self-2
invariant_of-self-2 c =
    let part : Part = record { place = c.args.place; key = c.args.key } in
    let parts = c.self.inside.known.keys in
    let numbers = c.reach.new.numbers.items in
    let keyless : is_some c.args.key ≡ false = search rules in
    let none : c.args.key ≡ None = no_key c.args.key keyless in
    let count : c.len-number.result ≡ length parts = search rules in
    let away : (n : ℕ) → slice_get parts n ≢ Some part = λ n at. c.requires n (ap (λ ps. slice_get ps n) (sym c.self.view_is) ∙ at) in
    let more : c.insert-2.new.self.keys ≡ parts ++ part ∷ [] = c.in_ok-insert-2.ensures.keys ∙ new_part part parts away in
    subst (IsNumbered (set numbers c.args.place (Some c.len-number.result))) (sym more)
    (subst (λ n. IsNumbered (set numbers c.args.place (Some n)) (parts ++ part ∷ [])) (sym count)
    (IsNumbered-unkeyed numbers parts c.args.place part (same_unkeyed c.args.place c.args.key none) c.in_ok-reach.ensures.within away
    (IsNumbered-same c.self.inside.without_key.items numbers parts c.reach.ensures.same c.self.invariant)))

pub returns-clause-added : goal.returns-clause-added
returns-clause-added c =
    let part : Part = record { place = c.args.place; key = c.args.key } in
    c.in_ok-insert-2.ensures.keys ∙ new_part part c.self.inside.known.keys (λ n at. c.requires n (ap (λ ps. slice_get ps n) (sym c.self.view_is) ∙ at)) ∙ ap (λ ps. ps ++ part ∷ []) c.self.view_is
