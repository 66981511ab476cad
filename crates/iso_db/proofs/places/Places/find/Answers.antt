-- A key is found by its name's number.
use Rattle.std.proofs.Common.{◌≡◌, ◌<◌, sym, ap, ◌∙◌, length, map, arith, List, Some}
use Rattle.iso_db.specs.Keys.{Heading, place_of}
use Rattle.iso_db.specs.Indexes.{index_of, place_in}
use Rattle.iso_db.proofs.IndexLemmas.{index_of-position, index_of-text, found-absent, found_at, row_at-get_or, keys_in-headings}
use Rattle.iso_db.proofs.places.Places.find.Goals as goal

pub returns-in_err-index : goal.returns-in_err-index
returns-in_err-index c =
    let name = c.args.name.now in
    let arity = c.args.arity in
    let fields = c.self.inside in
    c.from_residual.ensures ∙ sym (found-absent fields.names.keys fields.rows.items name arity (sym c.in_err-index.ensures.found))
    ∙ c.self.invariant.finds name arity ∙ ap (λ ks. place_of ks name arity) (sym (keys_in-headings fields.names.keys fields.keys.items)) ∙ ap (λ (hs : List Heading). place_of (map (λ (h : Heading). h.key) hs) name arity) c.self.view_is

pub returns : goal.returns
returns c =
    let name = c.args.name.now in
    let arity = c.args.arity in
    let fields = c.self.inside in
    let i = c.in_ok-index.index in
    let at : index_of fields.names.keys name ≡ Some i = index_of-position fields.names.keys name i (sym c.in_ok-index.ensures.index) in
    let known : i < length fields.names.keys = (index_of-text fields.names.keys name i at).1 in
    let within : i < length fields.rows.items = omega (arith, c.self.invariant.rows_of_names) in
    c.among.ensures
    ∙ ap (λ row. place_in row arity) (c.as_slice.ensures.value ∙ ap (λ v. v.items) c.index.ensures ∙ sym (row_at-get_or fields.rows.items i c.index.result.now within))
    ∙ ap (found_at fields.rows.items arity) (sym at)
    ∙ c.self.invariant.finds name arity ∙ ap (λ ks. place_of ks name arity) (sym (keys_in-headings fields.names.keys fields.keys.items)) ∙ ap (λ (hs : List Heading). place_of (map (λ (h : Heading). h.key) hs) name arity) c.self.view_is
