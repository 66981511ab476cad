use Rattle.std.proofs.Common.{take, [], ◌∷◌, ◌++◌, ◌+◌, ◌∙◌}
use Rattle.iso_arith.specs.Tables.{rows_of}
use Rattle.iso_arith.proofs.TableLemmas.{table-kept, table-more, table-rows, rows-more}
use Rattle.iso_store_core.proofs.AtomLemmas.{keeps-then}
use Rattle.iso_arith.proofs.tables.interned.Goals as goal

pub loop-name-preserved : goal.loop-name-preserved
loop-name-preserved g c =
    let names = g.S.Store.names c.intern.new.self in
    let before = g.S.Store.names c.loop-name.store in
    let first = g.S.Store.names c.args.store.now in
    let h = c.loop-name.invariant in
    let row = c.loop-name-item.result in
    let rows = rows_of (take c.loop-name.name-index c.args.rows.now) in
    let kept = table-kept before names c.in_ok-atom.ensures.names c.loop-name.table.items rows h.table in
    let more = table-more names c.loop-name.table.items rows c.in_ok-atom.atom row.0.now row.1 kept c.in_ok-atom.ensures.place in
    record {
      table = table-rows names c.push.new.self.items (c.loop-name.table.items ++ (c.in_ok-atom.atom, row.1) ∷ []) (rows_of (take (c.loop-name.name-index + 1) c.args.rows.now)) (rows ++ (row.0.now, row.1) ∷ [])
          c.in_ok-push.ensures.items (rows-more c.args.rows.now c.loop-name.name-index row c.loop-name-test.true c.loop-name-item.is) more;
      names = keeps-then first before names h.names c.in_ok-atom.ensures.names;
      present = c.in_ok-atom.ensures.present ∙ h.present;
      marks = λ m p s. c.in_ok-atom.ensures.marks m p (h.marks m p s);
    }
