-- The kind in the row of the keys is written over.
use Rattle.std.proofs.Common.{◌≡◌, ◌<◌, ◌∙◌, None, ap, get_or, length, arith}
use Rattle.iso_db.specs.Keys.{Heading, key, at_heading}
use Rattle.iso_db.specs.Indexes.{text_at}
use Rattle.iso_db.specs.declared.places.Functor.{Functor}
use Rattle.iso_db.proofs.IndexLemmas.{length-headings, headings_of-kind, IsIndex-kind}
use Rattle.iso_db.proofs.places.Places.make_absent.Goals as goal

-- what was read is the key at this place
read : (c : goal.After-self-1) → c.index_mut.result.now ≡ get_or c.self.inside.keys.items c.args.place c.index_mut.result.now
read c = c.index_mut.ensures.value

pub invariant_of-self : goal.invariant_of-self
invariant_of-self c =
    let fields = c.self.inside in
    let f = c.index_mut.result.now in
    let within : c.args.place < length fields.keys.items = omega (arith, c.requires, ap length c.self.view_is, length-headings fields.names.keys fields.keys.items) in
    IsIndex-kind fields.names.keys fields.rows.items fields.keys.items c.args.place (record { name = f.name; arity = f.arity; kind = None }) f within
    (ap (λ (x : Functor). x.name) (read c)) (ap (λ (x : Functor). x.arity) (read c)) c.self.invariant

pub returns : goal.returns
returns c =
    let names = c.self.inside.names.keys in
    let f = c.index_mut.result.now in
    let change = λ (h : Heading). let x : Heading = record h { kind = None } in x in
    headings_of-kind names c.self.inside.keys.items c.args.place (record { name = f.name; arity = f.arity; kind = None }) f change
    (ap (λ (x : Functor). let h : Heading = record { key = key (text_at names x.name) x.arity; kind = None } in h) (read c))
    ∙ ap (at_heading c.args.place change) c.self.view_is
