use Rattle.std.proofs.Common.{◌≡◌, ◌+◌, length, drop, sym, ap, ◌∙◌, arith}
use Rattle.iso_db.specs.Databases.{Database, one_less}
use Rattle.iso_db.specs.Presents.{contents}
use Rattle.iso_program.specs.declared.clauses.Clause.{Clause}
use Rattle.iso_db.specs.declared.kinds.Kind.TheVariants.{Dynamic}
use Rattle.iso_program.proofs.KeyingLemmas.{preserves_on, preserves_declared, preserves_less}
use Rattle.iso_storage.specs.Matching.{all_removed}
use Rattle.iso_storage.proofs.RemovalLemmas.{was_done, long_declared, long_still, next_removed}
use Rattle.iso_storage.proofs.removals.remove_all.Goals as goal

pub loop-number-init : goal.loop-number-init
loop-number-init g c =
    let now = was_done c.declare.result (c.declare.ensures.allowed ∙ c.requires.allowed) c.declare.ensures.contents in
    let long : length (contents c.declare.new.self).procedures ≡ length (contents c.args.db.now).procedures = ap (λ (d : Database (Clause g.row.C.Denot)). length d.procedures) now ∙ long_declared c.args.place (contents c.args.db.now) in
    record {
      within = omega (arith, long, c.requires.place);
      contents = ap (all_removed c.args.place c.args.numbers.now) now;
      preserves = preserves_declared c.args.db.now c.declare.new.self c.declare.ensures.clauses c.declare.ensures.index Dynamic c.args.place now;
    }

pub loop-number-preserved : goal.loop-number-preserved
loop-number-preserved g c =
    let before = c.loop-number.invariant in
    let d = contents c.loop-number.db in
    let n = c.number-item.result in
    let gone = c.remove_from.ensures.contents in
    let next = next_removed c.args.place c.args.numbers.now c.loop-number.number-index n d c.loop-number-test.true c.number-item.is in
    let long : length (contents c.remove_from.new.self).procedures ≡ length d.procedures = ap (λ (x : Database (Clause g.row.C.Denot)). length x.procedures) gone ∙ long_still (one_less n) c.args.place d.procedures in
    let within = before.within in
    record {
      within = omega (arith, long, within);
      contents = ap (all_removed c.args.place (drop (c.loop-number.number-index + 1) c.args.numbers.now)) gone ∙ sym next ∙ before.contents;
      preserves = preserves_on c.args.db.now c.loop-number.db c.remove_from.new.self before.preserves (preserves_less c.loop-number.db c.remove_from.new.self c.remove_from.ensures.clauses c.remove_from.ensures.index c.args.place n gone);
    }
