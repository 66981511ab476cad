-- A known name is found; a new one comes behind the others, with an empty row.
use Rattle.std.proofs.Common.{◌≡◌, sym, ap, ◌∙◌, ◌++◌, ◌∷◌, [], length, Some}
use Rattle.iso_db.specs.Indexes.{found, index_of}
use Rattle.iso_db.proofs.IndexLemmas.{position_or_len-absent, absent_string, index_of-position, index_of-new, found-new, inserted, KeepsNames-new}
use Rattle.iso_db.proofs.places.numbered.Goals as goal

pub returns-in-Some-clause-index : goal.returns-in-Some-clause-index
returns-in-Some-clause-index c = index_of-position c.args.names.now.keys c.args.name.now c.in-Some.index (sym c.in-Some.ensures.index)

more : (c : goal.In-Ok) → c.insert_full.new.self.keys ≡ c.args.names.now.keys ++ c.in_ok-text.text ∷ []
more c = inserted c.args.names.now.keys c.insert_full.new.self.keys c.in_ok-text.text c.args.name.now c.in_ok-text.ensures.ok (sym c.in_default.ensures.found) c.in-Ok.ensures.keys

pub returns-clause-index : goal.returns-clause-index
returns-clause-index c =
    let names = c.args.names.now.keys in
    let text = c.args.name.now in
    let name = c.in_ok-text.text in
    let place : c.in-Ok.index ≡ length names = c.in-Ok.ensures.index ∙ position_or_len-absent names name (absent_string names name text c.in_ok-text.ensures.ok (sym c.in_default.ensures.found)) in
    ap (λ ns. index_of ns text) (more c) ∙ index_of-new names name text c.in_ok-text.ensures.ok (sym c.in_default.ensures.found) ∙ ap Some (sym place)

pub returns-clause-kept : goal.returns-clause-kept
returns-clause-kept c = KeepsNames-new _ _ c.in_ok-text.text (more c)

pub returns-clause-found : goal.returns-clause-found
returns-clause-found c = λ n a.
    ap (λ names. found names c.push.new.self.items n a) (more c)
    ∙ ap (λ rows. found (c.args.names.now.keys ++ c.in_ok-text.text ∷ []) rows n a) c.in_ok-push.ensures.items
    ∙ found-new c.args.names.now.keys c.args.rows.now.items c.in_ok-text.text c.new.result c.requires c.new.ensures.items n a
