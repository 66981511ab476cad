use Rattle.std.proofs.Common.{sym, ◌∷◌, [], false, refl}
use Rattle.iso_store.specs.declared.occurs.Task.TheVariants.{Search, Leave}
use Rattle.iso_store.proofs.SearchLemmas.{found-append, sound-parts, clear-more}
use Rattle.iso_store.proofs.occurs.do_task.Goals as goal

pub search_argument-requires-clause-sound : goal.search_argument-requires-clause-sound
search_argument-requires-clause-sound g c =
    let p = g.S.Primitives.present c.args.store.now in
    let at = g.S.Primitives.at_place c.args.store.now in
    (sound-parts p at c.args.number false c.args.tasks.now.items (Search c.in-Search.word c.in-Search.index c.in-Search.count ∷ []) (rw c.in-Search.is at c.requires.sound)).0

pub returns-in-Search-clause-found : goal.returns-in-Search-clause-found
returns-in-Search-clause-found g c =
    let p = g.S.Primitives.present c.args.store.now in
    let at = g.S.Primitives.at_place c.args.store.now in
    rw (c.in-Search.is, found-append p at c.args.number false c.args.tasks.now.items (Search c.in-Search.word c.in-Search.index c.in-Search.count ∷ [])) c.search_argument.ensures.found

pub returns-in_ok-note-in-Leave-clause-clear : goal.returns-in_ok-note-in-Leave-clause-clear
returns-in_ok-note-in-Leave-clause-clear g c =
    let p = g.S.Primitives.present c.args.store.now in
    let at = g.S.Primitives.at_place c.args.store.now in
    let sound = (sound-parts p at c.args.number false c.args.tasks.now.items (Leave c.in-Leave.place ∷ []) (rw c.in-Leave.is at c.requires.sound)).1 in
    clear-more p at c.args.number c.args.searched.now c.note.new.self c.in-Leave.place c.requires.clear (sound.0 refl) c.in_ok-note-in-Leave.ensures

pub returns-in_ok-note-in-Leave-clause-sound : goal.returns-in_ok-note-in-Leave-clause-sound
returns-in_ok-note-in-Leave-clause-sound g c =
    let p = g.S.Primitives.present c.args.store.now in
    let at = g.S.Primitives.at_place c.args.store.now in
    (sound-parts p at c.args.number false c.args.tasks.now.items (Leave c.in-Leave.place ∷ []) (rw c.in-Leave.is at c.requires.sound)).0

pub returns-in_ok-note-in-Leave-clause-found : goal.returns-in_ok-note-in-Leave-clause-found
returns-in_ok-note-in-Leave-clause-found g c =
    let p = g.S.Primitives.present c.args.store.now in
    let at = g.S.Primitives.at_place c.args.store.now in
    rw c.in-Leave.is (sym (found-append p at c.args.number false c.args.tasks.now.items (Leave c.in-Leave.place ∷ [])))
