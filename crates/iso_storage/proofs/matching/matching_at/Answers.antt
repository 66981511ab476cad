use Rattle.std.proofs.Common.{◌≡◌, Some, sym, ◌∙◌}
use Rattle.std.proofs.lemmas.Result.{IfOk-weaker}
use Rattle.iso_model.specs.Search.Databases as databases
use Rattle.iso_model.specs.Search.Storages.{clauses_of}
use Rattle.iso_db.specs.Presents.{contents}
use Rattle.iso_store_core.specs.Presents.{meaning}
use Rattle.iso_store_core.proofs.RetainLemmas.{takes_most}
use Rattle.iso_program.specs.Leaving.{GivesFor}
use Rattle.iso_program.specs.Programs.{IsDatabase, place_at}
use Rattle.iso_program.proofs.ProgramLemmas.{place_within}
use Rattle.iso_storage.proofs.HeadLemmas.{clauses_placed, none_placed}
use Rattle.iso_storage.proofs.MatchingLemmas.{same_numbers, fewer_heads}
use Rattle.iso_storage.proofs.matching.matching_at.Given.{Over}
use Rattle.iso_storage.proofs.matching.matching_at.Goals.{In-Ok}
use Rattle.iso_storage.proofs.matching.matching_at.Goals as goal

module _ (g : Over) (c : In-Ok g) (k : databases.Key) (m : databases.Database) (at : place_at (contents c.args.db.now) k ≡ Some c.args.place)
    (is : IsDatabase g.C.OfClause.keeps (g.S.Store.names c.args.store.now) (contents c.args.db.now) m) where
  shown : GivesFor g.C.OfClause.keeps (g.S.Store.names c.args.store.now) c.args.db.now c.in-Ok.view (meaning (g.S.Store.present c.args.store.now) c.args.head) (clauses_of m.procedures k)
  shown = c.in-Ok.ensures.gives (g.S.Store.names c.args.store.now) (meaning (g.S.Store.present c.args.store.now) c.args.head) (clauses_of m.procedures k) c.first_key.ensures (clauses_placed (contents c.args.db.now) m k is c.args.place at)

pub clauses_for-requires-clause-place : goal.clauses_for-requires-clause-place
clauses_for-requires-clause-place g c = let h = c.requires.place in place_within (contents c.args.db.now) h.0 c.args.place h.2

pub matching-requires-clause-clauses : goal.matching-requires-clause-clauses
matching-requires-clause-clauses g c =
    let h = c.requires.place in
    let here = shown g (goal.at.matching-requires-clause-clauses g c).In-Ok h.0 h.1 h.2 h.3 in
    (here.kept, here.clauses, here.gives, here.are)

pub returns-in-Ok-clause-matching : goal.returns-in-Ok-clause-matching
returns-in-Ok-clause-matching g c = λ k m at is.
    (let p = g.S.Store.present c.args.store.now in
    let here = shown g (goal.at.returns-in-Ok-clause-matching g c).In-Ok k m at is in
    IfOk-weaker c.matching.result _ _ (λ ids those. those ∙ same_numbers (meaning p c.args.head) p.next here.skips) (c.matching.ensures.matching here.kept here.clauses here.gives here.are))

pub returns-in-Err-clause-matching : goal.returns-in-Err-clause-matching
returns-in-Err-clause-matching g c = λ k m at is.
    rw (none_placed (contents c.args.db.now) m k is c.args.place at (sym c.in-Err.ensures.there)) c.new.ensures.items

pub returns-in-Ok-clause-cells : goal.returns-in-Ok-clause-cells
returns-in-Ok-clause-cells g c = λ k m at is.
    (let here = shown g (goal.at.returns-in-Ok-clause-cells g c).In-Ok k m at is in
    takes_most _ (fewer_heads here.skips) (c.matching.ensures.cells here.kept here.clauses here.gives here.are))
