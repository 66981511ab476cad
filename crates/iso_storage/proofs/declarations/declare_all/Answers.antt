use Rattle.std.proofs.Common.{◌+◌, drop, length, get_or, sym, ap, ◌∙◌}
use Rattle.std.proofs.lemmas.List.{drop_more}
use Rattle.iso_db.specs.Databases.{Database}
use Rattle.iso_db.specs.Presents.{contents}
use Rattle.iso_program.specs.declared.clauses.Clause.{Clause}
use Rattle.iso_program.proofs.KeyingLemmas.{preserves_on}
use Rattle.iso_storage.specs.Declaring.{all_dynamic}
use Rattle.iso_storage.proofs.RemovalLemmas.{long_declared}
use Rattle.iso_storage.proofs.declarations.declare_all.Goals as goal

pub loop-place-preserved : goal.loop-place-preserved
loop-place-preserved g c =
    let places = c.args.places.now in
    let k = c.loop-place.place-index in
    let d = contents c.loop-place.db in
    let more = drop_more places k 0 c.loop-place-test.true in
    let now = c.declare_at.ensures.contents in
    record {
      left = ap (all_dynamic (drop (k + 1) places)) now ∙ sym (ap (λ xs. all_dynamic xs d) more) ∙ c.loop-place.invariant.left;
      long = ap (λ (x : Database (Clause g.row.C.Denot)). length x.procedures) now ∙ long_declared (get_or places k 0) d ∙ c.loop-place.invariant.long;
      preserves = preserves_on c.args.db.now c.loop-place.db c.declare_at.new.db c.loop-place.invariant.preserves c.declare_at.ensures.preserves;
    }
