use Rattle.std.proofs.Common.{rules, ◌≡◌, ◌≢◌, ◌++◌, ◌∷◌, [], length, ap₂, sym, ◌∙◌, refl, arith}
use Rattle.iso_store_core.specs.declared.shapes.Shape.TheVariants.{Compound}
use Rattle.iso_store.specs.declared.reading.Unread.{Unread}
use Rattle.iso_store.specs.Reading.{left_terms}
use Rattle.iso_store.proofs.ReadUnread.{all-arguments, left-push}
use Rattle.iso_store.proofs.ReadOn.{read-later}
use Rattle.iso_store.proofs.ReadShapes.{other, read-never, read-arguments}
use Rattle.iso_store.proofs.reading.read_compound.Goals.{then-ne-via-then-ne, then-ne-via-else-ne+then-arguments-count}
use Rattle.iso_store.proofs.reading.read_compound.Goals as goal

pub returns-then-ne-clause-read : goal.returns-then-ne-clause-read
returns-then-ne-clause-read g c =
    let found = c.shape in
    let ws = left_terms (g.S.Primitives.present c.args.store.now) (c.args.left.now.items ++ c.args.inner.now ∷ []) in
    let differ : found.result ≢ Compound c.args.name c.args.count =
    λ same. (let both : Compound c.in-Compound.other c.in-Compound.arguments ≡ Compound c.args.name c.args.count = sym c.in-Compound.is ∙ same in
    elim c.then-ne.branch [
      | then-ne-via-then-ne w ↦ search rules
      | then-ne-via-else-ne+then-arguments-count w ↦ search rules
    ]) in
    read-never (g.S.Primitives.present c.args.store.now) (g.S.Primitives.names c.args.store.now) c.args.head.now (length c.args.values.now.items) c.args.at c.requires.some (Compound c.args.name c.args.count) c.requires.shows.0 c.requires.shows.1 c.requires.shows.2
    c.args.values.now.items c.args.later.now.items ws c.args.word c.requires.read found.result found.ensures.each_once found.ensures.shape found.ensures.term (λ x is. absurd (let both = sym c.in-Compound.is ∙ is in cc)) differ c.args.values.now.items c.args.later.now.items ws

pub returns-in_ok-leave_arguments-in-Compound-clause-inner : goal.returns-in_ok-leave_arguments-in-Compound-clause-inner
returns-in_ok-leave_arguments-in-Compound-clause-inner g c some =
    let found = c.shape in
    let ws = left_terms (g.S.Primitives.present c.args.store.now) (c.args.left.now.items ++ c.args.inner.now ∷ []) in
    let same : found.result ≡ Compound c.args.name c.args.count = search rules in
    let compound = other (g.S.Primitives.present c.args.store.now) (g.S.Primitives.names c.args.store.now) c.args.head.now (length c.args.values.now.items) c.args.at c.requires.some (Compound c.args.name c.args.count) c.requires.shows.0 c.requires.shows.1
    c.requires.shows.2 c.args.values.now.items c.args.later.now.items ws c.args.word c.requires.read c.args.name c.args.count found.result same refl found.ensures.shape found.ensures.term in
    record { holds = c.requires.word; arity = c.args.count; compound = compound; some = some; within = omega arith }

pub returns-in_ok-leave_arguments-in-Compound-clause-read : goal.returns-in_ok-leave_arguments-in-Compound-clause-read
returns-in_ok-leave_arguments-in-Compound-clause-read g c =
    let p = g.S.Primitives.present c.args.store.now in
    let found = c.shape in
    let ws = left_terms p (c.args.left.now.items ++ c.args.inner.now ∷ []) in
    let same : found.result ≡ Compound c.args.name c.args.count = search rules in
    let compound = other p (g.S.Primitives.names c.args.store.now) c.args.head.now (length c.args.values.now.items) c.args.at c.requires.some (Compound c.args.name c.args.count) c.requires.shows.0 c.requires.shows.1 c.requires.shows.2
    c.args.values.now.items c.args.later.now.items ws c.args.word c.requires.read c.args.name c.args.count found.result same refl found.ensures.shape found.ensures.term in
    let lefts = c.leave_arguments.new.left.items in
    let new : Unread _ = record { word = c.args.word; count = c.args.count } in
    read-arguments p (g.S.Primitives.names c.args.store.now) c.args.head.now (length c.args.values.now.items) c.args.at c.requires.some (Compound c.args.name c.args.count) c.requires.shows.0 c.requires.shows.1 c.requires.shows.2
    c.args.values.now.items c.args.later.now.items ws c.args.word c.requires.read c.args.name c.args.count found.result same refl found.ensures.shape found.ensures.term
    (left_terms p (lefts ++ new ∷ [])) (left-push p lefts (lefts ++ new ∷ []) new refl ∙ ap₂ ◌++◌ c.in_ok-leave_arguments-in-Compound.ensures.terms (all-arguments p c.args.word c.args.count compound))

pub returns-in_ok-push-in-Var-clause-read : goal.returns-in_ok-push-in-Var-clause-read
returns-in_ok-push-in-Var-clause-read g c =
    let p = g.S.Primitives.present c.args.store.now in
    let names = g.S.Primitives.names c.args.store.now in
    let t = c.requires.count in
    read-later p names c.args.head.now (length c.args.values.now.items) t.0 t.1 t.2 t.3 c.args.at c.args.values.now.items c.args.later.now.items c.push.new.self.items (left_terms p (c.args.left.now.items ++ c.args.inner.now ∷ [])) c.args.word c.start_of-from.result
    c.requires.word c.start_of-from.ensures.earlier (c.start_of-from.ensures.between names t.1.named) c.requires.read c.in_ok-push-in-Var.ensures.items
