-- The name gets its number, then the key its place.
use Rattle.std.proofs.Common.{sym, ap, ◌∙◌, subst, List, ◌++◌, ◌∷◌, [], None}
use Rattle.std.proofs.lemmas.Result.{err_from_is_err_and}
use Rattle.iso_db.specs.Keys.{Heading, key}
use Rattle.iso_db.specs.Indexes.{IsIndex, headings_of}
use Rattle.iso_db.proofs.IndexLemmas.{IsIndex-kept, IsIndex-put, found-same, headings_of-kept, headings_of-put}
use Rattle.iso_db.proofs.places.Places.add.Goals as goal

pub invariant_of-self : goal.invariant_of-self
invariant_of-self c = IsIndex-kept _ _ _ _ _ c.self.invariant c.numbered.ensures.kept c.numbered.ensures.rows c.numbered.ensures.found

pub returns-in_err-index-clause-unchanged : goal.returns-in_err-index-clause-unchanged
returns-in_err-index-clause-unchanged c =
    let p = err_from_is_err_and c.from_residual.result c.from_residual.ensures.1 in
    rw p.1 (headings_of-kept c.self.inside.names.keys c.numbered.new.names.keys c.self.inside.keys.items c.numbered.ensures.kept c.self.invariant.named ∙ c.self.view_is)

pub invariant_of-self-in_err-put : goal.invariant_of-self-in_err-put
invariant_of-self-in_err-put c =
    let names = c.numbered.new.names.keys in
    let kept : IsIndex names c.put.new.rows.items c.self.inside.keys.items =
    IsIndex-kept _ _ _ _ _ c.self.invariant c.numbered.ensures.kept (c.put.ensures.rows ∙ c.numbered.ensures.rows)
    (λ text arity. found-same names c.numbered.new.rows.items c.put.new.rows.items c.in_err-put.ensures.unchanged text arity ∙ c.numbered.ensures.found text arity) in
    subst (IsIndex names c.put.new.rows.items) (sym c.in_err-put.ensures.same) kept

pub returns-in_err-put-clause-unchanged : goal.returns-in_err-put-clause-unchanged
returns-in_err-put-clause-unchanged c =
    let p = err_from_is_err_and c.from_residual-in_err-put.result c.from_residual-in_err-put.ensures.1 in
    rw p.1 (ap (headings_of c.numbered.new.names.keys) c.in_err-put.ensures.same ∙ headings_of-kept c.self.inside.names.keys c.numbered.new.names.keys c.self.inside.keys.items c.numbered.ensures.kept c.self.invariant.named ∙ c.self.view_is)

pub invariant_of-self-2 : goal.invariant_of-self-2
invariant_of-self-2 c =
    let names = c.numbered.new.names.keys in
    let kept : IsIndex names c.numbered.new.rows.items c.self.inside.keys.items =
    IsIndex-kept _ _ _ _ _ c.self.invariant c.numbered.ensures.kept c.numbered.ensures.rows c.numbered.ensures.found in
    subst (IsIndex names c.put.new.rows.items) (sym c.in_ok-put.ensures.keys)
    (IsIndex-put _ _ _ _ c.args.name.now c.in_ok-index.index c.args.arity kept c.in_ok-index.ensures.index c.put.ensures.rows c.in_ok-put.ensures.row)

pub returns-clause-added : goal.returns-clause-added
returns-clause-added c =
    headings_of-put c.self.inside.names.keys c.numbered.new.names.keys c.self.inside.keys.items c.put.new.keys.items c.args.name.now c.in_ok-index.index c.args.arity c.numbered.ensures.kept c.self.invariant.named c.in_ok-index.ensures.index c.in_ok-put.ensures.keys
    ∙ ap (λ (hs : List Heading). hs ++ record { key = key c.args.name.now c.args.arity; kind = None } ∷ []) c.self.view_is
