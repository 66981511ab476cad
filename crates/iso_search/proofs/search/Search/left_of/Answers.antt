-- Of a procedure that is called those clauses are left that the database gives for the key.
use Rattle.std.proofs.Common.{◌≡◌, None, false, true, is_some, ap, ◌∙◌, subst, List}
use Rattle.iso_program.specs.Leaving.{AreLeft, NextLeft}
use Rattle.iso_db.specs.Presents.{contents}
use Rattle.iso_search_core.specs.Own.{own_of}
use Rattle.iso_db.specs.Databases.{Clause, kind_at, clauses_at, clauses_of}
use Rattle.iso_program.specs.Programs.{AreClauses, kept_at, kind_of}
use Rattle.iso_program.proofs.AddingLemmas.{called_user}
use Rattle.iso_program.proofs.ProgramLemmas.{place_within, kept_there}
use Rattle.iso_search.proofs.CalledLemmas.{none_of, some_of, clauses_there, named_begins}
use Rattle.iso_search.specs.declared.calls.Called.TheVariants as called
use Rattle.iso_search.proofs.search.Search.left_of.Goals as goal

pub first_left-requires-clause-place : goal.first_left-requires-clause-place
first_left-requires-clause-place g c =
    let d = contents c.args.self.now.db in
    let k = c.requires.called.0 in
    place_within d k c.args.place (called_user d k c.args.place c.requires.called.1).1

pub returns-in-Err : goal.returns-in-Err
returns-in-Err g c = λ w k t is user_is shows.
    (let e = c.args.self.now in
    let names = g.S.Store.names e.store in
    let user = called_user (contents e.db) k c.args.place user_is in
    let no : false ≡ is_some (kind_at (contents e.db) c.args.place) = rw c.in-Err.is at c.first_left.ensures.there in
    let absent : kind_of (kept_at (contents e.db) k) ≡ None = ap kind_of (kept_there (contents e.db) k c.args.place user.1) ∙ none_of (kind_at (contents e.db) c.args.place) no in
    c.unknown.ensures names c.first_left.new.later w k t is user.0 absent)

pub returns-in-Ok-Some : goal.returns-in-Ok-Some
returns-in-Ok-Some g c = λ w k t is user_is shows.
    (let e = c.args.self.now in
    let names = g.S.Store.names e.store in
    let user = called_user (contents e.db) k c.args.place user_is in
    let at = kept_there (contents e.db) k c.args.place user.1 in
    let yes : true ≡ is_some (kind_at (contents e.db) c.args.place) = rw c.in-Ok-Some.is at c.first_left.ensures.there in
    let kind = some_of (kind_at (contents e.db) c.args.place) yes in
    let there = clauses_there k kind.0 is.database_is (ap kind_of at ∙ kind.1) in
    let are : AreClauses (own_of g.L.Lists) names (clauses_at (contents e.db) c.args.place) there.clauses = subst (λ (ks : List (Clause _)). AreClauses (own_of g.L.Lists) names ks there.clauses) (ap clauses_of at) there.are in
    let left = c.in-Ok-Some.ensures.left names t there.clauses shows are in
    named_begins (AreLeft (own_of g.L.Lists) names e.db) c.first_left.new.later w k t left.clauses (called.User c.in-Ok-Some.clause) user.0 (record { whole = there.clauses; found = there.found; skips = left.skips; enter = left.enter }) (subst (λ o. NextLeft (AreLeft (own_of g.L.Lists) names e.db) o c.first_left.new.later left.clauses) c.in-Ok-Some.field-0-is left.are))

pub returns-in-Ok-None : goal.returns-in-Ok-None
returns-in-Ok-None g c = λ w k t is user_is shows.
    (let e = c.args.self.now in
    let names = g.S.Store.names e.store in
    let user = called_user (contents e.db) k c.args.place user_is in
    let at = kept_there (contents e.db) k c.args.place user.1 in
    let yes : true ≡ is_some (kind_at (contents e.db) c.args.place) = rw c.in-Ok-None.is at c.first_left.ensures.there in
    let kind = some_of (kind_at (contents e.db) c.args.place) yes in
    let there = clauses_there k kind.0 is.database_is (ap kind_of at ∙ kind.1) in
    let are : AreClauses (own_of g.L.Lists) names (clauses_at (contents e.db) c.args.place) there.clauses = subst (λ (ks : List (Clause _)). AreClauses (own_of g.L.Lists) names ks there.clauses) (ap clauses_of at) there.are in
    let left = c.in-Ok-None.ensures.left names t there.clauses shows are in
    named_begins (AreLeft (own_of g.L.Lists) names e.db) c.first_left.new.later w k t left.clauses called.Fails user.0 (record { whole = there.clauses; found = there.found; skips = left.skips; enter = left.enter }) (subst (λ o. NextLeft (AreLeft (own_of g.L.Lists) names e.db) o c.first_left.new.later left.clauses) c.in-Ok-None.field-0-is left.are))
