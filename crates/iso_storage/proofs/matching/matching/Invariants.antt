-- The numbers so far are those of the clauses that the view gave, and the mark stands for the store at the start.
use Rattle.std.proofs.Common.{◌≡◌, List}
use Rattle.iso_model.specs.Search.Databases as databases
use Rattle.iso_db.specs.Databases as db
use Rattle.iso_db.specs.Presents.{GivesKeyed}
use Rattle.iso_db.specs.Keyed.{remaining_keyed}
use Rattle.iso_store_core.specs.Presents.{Present, KeepsMarks, meaning}
use Rattle.iso_program.specs.declared.clauses.Clause.{Clause}
use Rattle.iso_program.specs.Programs.{AreClauses}
use Rattle.iso_storage.proofs.MatchingLemmas.{AreMatched}
use Rattle.iso_storage.proofs.matching.matching.Given as goal

abbrev pub invariant-loop-number : goal.invariant-loop-number
invariant-loop-number g l = record {
  matched : (ks : List (db.Clause (Clause g.row.C.Denot))) (cs : List databases.Clause) → GivesKeyed l.db l.fn.view ks → AreClauses g.C.OfClause.keeps (g.S.Store.names l.fn.store) ks cs
      → AreMatched g.C.OfClause.keeps (g.S.Store.names l.fn.store) l.db (meaning (g.S.Store.present l.fn.store) l.head) (g.S.Store.present l.fn.store).next cs l.later l.numbers.items;
  present : g.S.Store.present l.store ≡ g.S.Store.present l.fn.store;
  names : g.S.Store.names l.store ≡ g.S.Store.names l.fn.store;
  stands : g.S.Store.stands l.store l.mark (g.S.Store.present l.fn.store);
  older : (m : _) (p : Present _) → g.S.Store.stands l.fn.store m p → g.S.Store.older m l.mark;
  marks : KeepsMarks (g.S.Store.stands l.fn.store) (g.S.Store.stands l.store);
}

abbrev pub decreases-loop-number : goal.decreases-loop-number
decreases-loop-number g l = remaining_keyed l.later
