-- The kind in the row of the keys is written over.
use Rattle.std.proofs.Common.{◌≡◌, ◌<◌, ◌∙◌, Some, ap, get_or, length, unwrap_or, arith}
use Rattle.iso_db.specs.Keys.{Heading, key, at_heading}
use Rattle.iso_db.specs.Indexes.{text_at}
use Rattle.iso_db.specs.declared.kinds.Kind.{Kind}
use Rattle.iso_db.specs.declared.places.Functor.{Functor}
use Rattle.iso_db.proofs.IndexLemmas.{length-headings, headings_of-kind, IsIndex-kind}
use Rattle.iso_db.proofs.places.Places.make_present.Goals as goal

-- what was read is the key at this place
read : (c : goal.After-self-1) → c.index_mut-functor.result.now ≡ get_or c.self.inside.keys.items c.args.place c.index_mut-functor.result.now
read c = c.index_mut-functor.ensures.value

pub invariant_of-self : goal.invariant_of-self
invariant_of-self c =
    let fields = c.self.inside in
    let f = c.index_mut-functor.result.now in
    let within : c.args.place < length fields.keys.items = omega (arith, c.requires, ap length c.self.view_is, length-headings fields.names.keys fields.keys.items) in
    IsIndex-kind fields.names.keys fields.rows.items fields.keys.items c.args.place (record { name = f.name; arity = f.arity; kind = Some c.unwrap_or.result }) f within
    (ap (λ (x : Functor). x.name) (read c)) (ap (λ (x : Functor). x.arity) (read c)) c.self.invariant

pub returns : goal.returns
returns c =
    let names = c.self.inside.names.keys in
    let f = c.index_mut-functor.result.now in
    let change = λ (h : Heading). let x : Heading = record h { kind = Some (unwrap_or h.kind c.args.kind) } in x in
    headings_of-kind names c.self.inside.keys.items c.args.place (record { name = f.name; arity = f.arity; kind = Some c.unwrap_or.result }) f change
    (ap (λ (k : Kind). let h : Heading = record { key = key (text_at names f.name) f.arity; kind = Some k } in h) c.unwrap_or.ensures
    ∙ ap (λ (x : Functor). let h : Heading = record { key = key (text_at names x.name) x.arity; kind = Some (unwrap_or x.kind c.args.kind) } in h) (read c))
    ∙ ap (at_heading c.args.place change) c.self.view_is
