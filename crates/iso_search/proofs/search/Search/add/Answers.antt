use Rattle.std.proofs.Common.{◌≡◌, ℕ, List, Some, slice_get, refl, ap, ◌∙◌, subst}
use Rattle.iso_atoms.specs.Texts.{EachOnce, KeepsTexts}
use Rattle.iso_db.specs.Presents.{contents}
use Rattle.iso_store_core.specs.declared.stores.Store.{Ghosts}
use Rattle.iso_model.specs.Search.Walker.{idle, World}
use Rattle.iso_program.specs.Programs.{IsDatabase}
use Rattle.iso_search.specs.EngineStates.{IsEngine}
use Rattle.iso_model.specs.Search.Databases.{Key}
use Rattle.iso_model.specs.Search.Errors.{key}
use Rattle.iso_search.specs.declared.search.Search.{Search}
use Rattle.iso_model.specs.Terms.TermOf.{term_of}
use Rattle.iso_model.specs.Search.Additions.{clause_of, consulted}
use Rattle.iso_model.specs.Search.BuiltIns.{is_built_in}
use Rattle.iso_store_core.proofs.AtomLemmas.{keeps-then}
use Rattle.iso_search_core.specs.declared.lists.Lists as lists
use Rattle.iso_program.specs.Adding.{IsFound, with_more}
use Rattle.iso_program.specs.declared.procedures.Way.TheVariants as way
use Rattle.iso_lib.specs.declared.indicators.Functor.{Functor}
use Rattle.iso_search.proofs.StartLemmas.{idle_again, refused, unadded}
use Rattle.iso_search.proofs.WorldLemmas.{world_on}
use Rattle.iso_program.proofs.ChangeLemmas.{finds_kept}
use Rattle.iso_program.proofs.WrittenLemmas.{clause_kept}
use Rattle.iso_program.proofs.AddingLemmas.{user_alone}
use Rattle.iso_program.proofs.PrepareLemmas.{checked_key}
use Rattle.iso_search_core.specs.Own.{own_of, own_stays}
use Rattle.iso_search.proofs.search.Search.add.Goals as goal

pub add-requires-clause-user : goal.add-requires-clause-user
add-requires-clause-user g c =
    let added = c.in_ok-checked.ensures in
    let same = checked_key (term_of c.args.clause.now) c.in_ok-checked.checked added _ (key c.in-Some.text.now c.in-Some.arity) c.head.ensures c.in-Some.ensures in
    user_alone (key c.in-Some.text.now c.in-Some.arity) (ap is_built_in same ∙ added.user)

-- what is called was found before the clause came, and still is behind the names that came
found : {S L W M K P C N B O : Type 0} (g : Ghosts S W M) (l : lists.Ghosts L S K P C N B O W M) (e : Search S L W M K P C N B O) (w : World) (first last : S) (f : Functor) (text : List ℕ)
    → IsEngine g l e (idle w) → KeepsTexts (g.names e.store) (g.names first) → KeepsTexts (g.names first) (g.names last) → EachOnce (g.names last) → slice_get (g.names last) f.name ≡ Some text
    → IsFound (g.names last) f text (contents e.db) e.callables.items
found g l e w first last f text h one other once place = record {
  each_once = once;
  atom = place;
  found = finds_kept (keeps-then (g.names e.store) (g.names first) (g.names last) one other) h.world.found;
}

pub add-requires-clause-named : goal.add-requires-clause-named
add-requires-clause-named g c =
    let f : Functor = record { name = c.in_ok-name.name; arity = c.in-Some.arity } in (
      g.S.Store.names c.intern.new.self,
      found g.S.Store g.L.Lists c.args.self.now c.requires.engine.0 c.written_clause.new.store c.intern.new.self f c.in-Some.text.now c.requires.engine.1
          c.in_ok-kept.ensures.rest.names c.in_ok-name.ensures.names c.in_ok-name.ensures.each_once c.in_ok-name.ensures.place,
    )

pub returns-clause-comes : goal.returns-clause-comes
returns-clause-comes g c = λ w h.
    (let e = c.args.self.now in
    let t = term_of c.args.clause.now in
    let added = c.in_ok-checked.ensures in
    let same = checked_key (term_of c.args.clause.now) c.in_ok-checked.checked added _ (key c.in-Some.text.now c.in-Some.arity) c.head.ensures c.in-Some.ensures in
    let first = g.S.Store.names c.written_clause.new.store in
    let last = g.S.Store.names c.intern.new.self in
    let f : Functor = record { name = c.in_ok-name.name; arity = c.in-Some.arity } in
    let new = clause_of t added.body w.database.added in
    let kept = clause_kept first last c.in_ok-name.ensures.names (own_stays g.L.Lists) c.in_ok-kept.kept new (c.in_ok-kept.ensures.clause new (added.clause w.database.added)) in
    let is_found = found g.S.Store g.L.Lists e w c.written_clause.new.store c.intern.new.self f c.in-Some.text.now h c.in_ok-kept.ensures.rest.names c.in_ok-name.ensures.names c.in_ok-name.ensures.each_once c.in_ok-name.ensures.place in
    let texts = keeps-then (g.S.Store.names e.store) first last c.in_ok-kept.ensures.rest.names c.in_ok-name.ensures.names in
    let stood = world_on g.L.Lists texts h.world in
    let came = c.in_ok-add.ensures.ok last w.database new is_found stood.database_is kept refl in
    rw added.fits (idle_again h c.requires.now (c.in_ok-name.ensures.present ∙ c.in_ok-kept.ensures.present) (λ m p k. c.in_ok-name.ensures.marks m p (c.in_ok-kept.ensures.rest.marks m p k)) refl refl refl
    (record {
      database_is = subst (λ (k : Key). IsDatabase (own_of g.L.Lists) last (contents c.add.new.db) (with_more way.Consulted w.database k new)) same came.0;
      keyed = c.in_ok-add.ensures.preserves.keyed stood.keyed;
      found = came.1;
      vocabulary_is = stood.vocabulary_is;
      operators_are = stood.operators_are;
      flags_are = stood.flags_are;
    })))

pub returns-in_err-checked-clause-comes : goal.returns-in_err-checked-clause-comes
returns-in_err-checked-clause-comes g c = λ w h. refused (term_of c.args.clause.now) w c.from_residual.result _ c.args.self.now c.in_err-checked.ensures c.from_residual.ensures.1 h

-- memory was refused before the clause came
pub returns-in_err-kept-clause-comes : goal.returns-in_err-kept-clause-comes
returns-in_err-kept-clause-comes g c = λ w h.
    (let ensures = c.in_err-kept.ensures in
    unadded (consulted (term_of c.args.clause.now) w.database) w c.from_residual-in_err-kept.result _ c.from_residual-in_err-kept.ensures.1
    (idle_again h c.requires.now ensures.present ensures.rest.marks refl refl refl (world_on g.L.Lists ensures.rest.names h.world)))

pub returns-in_err-name-clause-comes : goal.returns-in_err-name-clause-comes
returns-in_err-name-clause-comes g c = λ w h.
    (let before = c.in_ok-kept.ensures in
    let ensures = c.in_err-name.ensures in
    unadded (consulted (term_of c.args.clause.now) w.database) w c.from_residual-in_err-name.result _ c.from_residual-in_err-name.ensures.1
    (idle_again h c.requires.now (ensures.present ∙ before.present) (λ m p k. ensures.marks m p (before.rest.marks m p k)) refl refl refl (world_on g.L.Lists ensures.names (world_on g.L.Lists before.rest.names h.world))))

pub returns-in_err-add-clause-comes : goal.returns-in_err-add-clause-comes
returns-in_err-add-clause-comes g c = λ w h.
    (let before = c.in_ok-kept.ensures in
    let ensures = c.in_ok-name.ensures in
    let last = g.S.Store.names c.intern.new.self in
    let stood = world_on g.L.Lists ensures.names (world_on g.L.Lists before.rest.names h.world) in
    let f : Functor = record { name = c.in_ok-name.name; arity = c.in-Some.arity } in
    let is_found = found g.S.Store g.L.Lists c.args.self.now w c.written_clause.new.store c.intern.new.self f c.in-Some.text.now h before.rest.names ensures.names ensures.each_once ensures.place in
    let same = c.in_err-add.ensures.err last w.database is_found stood.database_is in
    unadded (consulted (term_of c.args.clause.now) w.database) w c.from_residual-in_err-add.result _ c.from_residual-in_err-add.ensures.1
    (idle_again h c.requires.now (ensures.present ∙ before.present) (λ m p k. ensures.marks m p (before.rest.marks m p k)) refl refl refl
    (record { database_is = same.0; keyed = c.in_err-add.ensures.preserves.keyed stood.keyed; found = same.1; vocabulary_is = stood.vocabulary_is; operators_are = stood.operators_are; flags_are = stood.flags_are })))

pub returns-clause-stays : goal.returns-clause-stays
returns-clause-stays g c =
    record { limit = refl; vocabulary = refl; names_kept = λ place text h. c.in_ok-name.ensures.names place text (c.in_ok-kept.ensures.rest.names place text h); base = λ p h. c.in_ok-name.ensures.marks c.args.self.now.base p (c.in_ok-kept.ensures.rest.marks c.args.self.now.base p h); within = λ h. h }

pub returns-in_err-name-clause-stays : goal.returns-in_err-name-clause-stays
returns-in_err-name-clause-stays g c =
    record { limit = refl; vocabulary = refl; names_kept = λ place text h. c.in_err-name.ensures.names place text (c.in_ok-kept.ensures.rest.names place text h); base = λ p h. c.in_err-name.ensures.marks c.args.self.now.base p (c.in_ok-kept.ensures.rest.marks c.args.self.now.base p h); within = λ h. h }

pub returns-in_err-add-clause-stays : goal.returns-in_err-add-clause-stays
returns-in_err-add-clause-stays g c =
    record { limit = refl; vocabulary = refl; names_kept = λ place text h. c.in_ok-name.ensures.names place text (c.in_ok-kept.ensures.rest.names place text h); base = λ p h. c.in_ok-name.ensures.marks c.args.self.now.base p (c.in_ok-kept.ensures.rest.marks c.args.self.now.base p h); within = λ h. h }
