use Rattle.std.proofs.Common.{◌≡◌, ◌∷◌, ◌++◌, [], ap, sym, ◌∙◌, arith, rules, Some}
use Rattle.std.proofs.lemmas.List.{nil_from_length}
use Rattle.std.proofs.lemmas.List.Elements.{All-pop, All-push}
use Rattle.iso_model.specs.Terms.Sorts.{is_term}
use Rattle.iso_model.specs.Terms.Variables.{occurs}
use Rattle.iso_store_core.specs.Arguments.{arity}
use Rattle.iso_store_core.specs.Presents.{meaning}
use Rattle.iso_store.specs.declared.occurs.Task.TheVariants.{Search}
use Rattle.iso_store.specs.Searching.{found}
use Rattle.iso_store.proofs.FewLemmas.{IsMade, whole-there, whole-found, found-there, found-none, found-into, found-last}
use Rattle.iso_store.proofs.few.in_few.Goals.{in-Compound-look_on+else-room-many+then-next-count+in_ok-push-in-Compound-look_on, in-Compound-look_on+else-room-many+else-next-count, in-Absent-look_on+in-Some+in-Search}
use Rattle.iso_store.proofs.few.in_few.Goals as goal

pub loop-turn-init : goal.loop-turn-init
loop-turn-init g c =
    let p = g.S.Primitives.present c.args.store.now in
    let at = g.S.Primitives.at_place c.args.store.now in
    let e = c.in-Compound.ensures in
    let word = c.end-compound.result in
    let same = c.end-compound.ensures.same in
    let whole = same ∙ e.2 in
    let sort = ap is_term same ∙ e.4 in
    let x = c.args.number in
    let there = whole-there p word c.in-Compound.all e.0 e.1 whole e.3 sort c.end-compound.ensures.holds in
    let inside : occurs x (meaning p word) ≡ occurs x (meaning p c.args.word) = ap (occurs x) same in
    record {
      there = rw c.clear.ensures.items (search rules);
      here = (there, c.end-compound.ensures.made ∙ sym (ap arity same) ∙ there.2);
      found =
          whole-found p word c.in-Compound.all e.0 e.1 whole e.3 sort at x (occurs x (meaning p c.args.word)) c.clear.new.self.items
          (ap (found p at x (occurs x (meaning p word))) c.clear.ensures.items ∙ inside);
    }

pub returns-in-There-look_on : goal.returns-in-There-look_on
returns-in-There-look_on g c =
    let p = g.S.Primitives.present c.args.store.now in
    let at = g.S.Primitives.at_place c.args.store.now in
    let i = c.loop-turn.invariant in
    found-there p at c.args.number c.loop-turn.tasks.items c.loop-turn.compound c.loop-turn.index c.loop-turn.count (occurs c.args.number (meaning p c.args.word)) i.found c.in-There-look_on.ensures

pub returns-in_default : goal.returns-in_default
returns-in_default g c =
    let p = g.S.Primitives.present c.args.store.now in
    let at = g.S.Primitives.at_place c.args.store.now in
    let i = c.loop-turn.invariant in
    let none : c.loop-turn.tasks.items ≡ [] = nil_from_length _ (sym c.loop-turn.tasks.ok.0 ∙ c.in_default.ensures.cases.0) in
    rw none at (found-none p at c.args.number c.loop-turn.tasks.items c.loop-turn.compound c.loop-turn.index c.loop-turn.count (occurs c.args.number (meaning p c.args.word)) i.found c.in-Absent-look_on.ensures)

pub loop-turn-preserved : goal.loop-turn-preserved
loop-turn-preserved g c =
    let p = g.S.Primitives.present c.args.store.now in
    let at = g.S.Primitives.at_place c.args.store.now in
    let x = c.args.number in
    let i = c.loop-turn.invariant in
    let xs = c.loop-turn.tasks.items in
    let word = c.loop-turn.compound in
    let index = c.loop-turn.index in
    let count = c.loop-turn.count in
    let all = occurs x (meaning p c.args.word) in
    elim c.match-look_on.branch [
      | in-Compound-look_on+else-room-many+then-next-count+in_ok-push-in-Compound-look_on w ↦
          let inner = w.in-Compound-look_on.inner in
          let next = w.in-Compound-look_on.next in
          let e = w.in-Compound-look_on.ensures in
          let look = e.1 in
          let more = w.in_ok-push-in-Compound-look_on.ensures.items in
          let there = whole-there p inner _ look.0 look.1 look.2 look.3 look.4 e.0 in
          rw (w.tasks-is, w.compound-is, w.index-is, w.count-is)
          (record {
            there = rw more (All-push (IsMade p) xs (Search word next count) i.there ((i.here.0.0, w.if-next-count.true, i.here.0.2), i.here.1));
            here = (there, e.2);
            found =
                whole-found p inner _ look.0 look.1 look.2 look.3 look.4 at x all w.push.new.self.items
                (found-into p at x xs word index count all i.found (meaning p inner) next e.4 w.push.new.self.items more);
          })
      | in-Compound-look_on+else-room-many+else-next-count w ↦
          let inner = w.in-Compound-look_on.inner in
          let next = w.in-Compound-look_on.next in
          let e = w.in-Compound-look_on.ensures in
          let look = e.1 in
          let last : next ≡ count = omega (arith, e.3, w.if-next-count.false) in
          let there = whole-there p inner _ look.0 look.1 look.2 look.3 look.4 e.0 in
          rw (w.tasks-is, w.compound-is, w.index-is, w.count-is)
          (record {
            there = i.there;
            here = (there, e.2);
            found =
                whole-found p inner _ look.0 look.1 look.2 look.3 look.4 at x all xs
                (found-last p at x xs word index count all i.found (meaning p inner) next e.4 last i.here.0.2);
          })
      | in-Absent-look_on+in-Some+in-Search w ↦
          let taken : xs ≡ w.pop.new.self.items ++ Search w.in-Search.next w.in-Search.start w.in-Search.many ∷ [] = w.in-Some.ensures.items ∙ ap (λ k. w.pop.new.self.items ++ k ∷ []) w.in-Search.is in
          let both = All-pop (IsMade p) xs w.pop.new.self.items (Some (Search w.in-Search.next w.in-Search.start w.in-Search.many)) taken i.there in
          rw (w.tasks-is, w.compound-is, w.index-is, w.count-is)
          (record {
            there = both.0;
            here = both.1;
            found = rw taken at (found-none p at x xs word index count all i.found w.in-Absent-look_on.ensures);
          })
    ]
