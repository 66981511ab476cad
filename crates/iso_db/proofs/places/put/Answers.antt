-- The row has one more, or the row and the keys are as they were.
use Rattle.std.proofs.Common.{◌≡◌, ap, ◌∙◌, true, false, ◌++◌, ◌∷◌, [], rules, is_ok, if◌then◌else◌, ℕ}
use Rattle.iso_db.proofs.IndexLemmas.{rows-same, rows-more}
use Rattle.iso_db.specs.Indexes.{put_at, row_at}
use Rattle.iso_db.specs.declared.places.Named.{Named}
use Rattle.iso_db.proofs.places.put.Goals as goal

pub returns-then-is_err-clause-unchanged : goal.returns-then-is_err-clause-unchanged
returns-then-is_err-clause-unchanged c =
    let no : is_ok c.push-2.result ≡ false = search rules in
    rows-same c.args.rows.now.items c.args.name c.index_mut.result.now c.push-2.new.self c.requires c.index_mut.ensures.value (c.push-2.ensures.items ∙ ap (λ b. if b then c.index_mut.result.now.items ++ record { arity = c.args.arity; place = c.len-place.result } ∷ [] else c.index_mut.result.now.items) no)

pub returns-clause-row : goal.returns-clause-row
returns-clause-row c =
    let yes : is_ok c.push-2.result ≡ true = search rules in
    let new : Named = record { arity = c.args.arity; place = c.len-place.result } in
    let is : c.push-2.new.self.items ≡ c.index_mut.result.now.items ++ new ∷ [] = c.push-2.ensures.items ∙ ap (λ b. if b then c.index_mut.result.now.items ++ new ∷ [] else c.index_mut.result.now.items) yes in
    λ i. rows-more c.args.rows.now.items c.args.name c.index_mut.result.now c.push-2.new.self new c.requires c.index_mut.ensures.value is i
    ∙ ap (λ (p : ℕ). let n : Named = record { arity = c.args.arity; place = p } in put_at c.args.name n i (row_at c.args.rows.now.items i)) (c.len-place.ensures ∙ c.args.keys.now.ok.0)
