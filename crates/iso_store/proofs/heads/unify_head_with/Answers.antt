use Rattle.std.proofs.Common.{ℕ, ◌≤◌, length, slice_index_or, ◌∙◌}
use Rattle.iso_store_core.specs.Presents.{Untouched}
use Rattle.iso_store.proofs.HeadMet.{never-read, met-later, read-many, read-whole, read-never}
use Rattle.iso_store.proofs.UnifiedThese.{later-kept}
use Rattle.iso_store.proofs.heads.unify_head_with.Given.{Over}
use Rattle.iso_store.proofs.heads.unify_head_with.Goals.{After-reserve-first}
use Rattle.iso_store.proofs.heads.unify_head_with.Goals as goal

bare : (g : Over) (c : After-reserve-first g) → (n : ℕ) → (g.S.Primitives.present c.args.store.now).next ≤ n → Untouched (g.S.Primitives.present c.reserve-first.new.self) n
bare g c n above = g.met.S.Primitives.untouched c.reserve-first.new.self n (c.reserve-first.ensures.free n (rw c.reserve-first.ensures.number above))

pub returns-then-not-branch-clause-met : goal.returns-then-not-branch-clause-met
returns-then-not-branch-clause-met g c = λ t pattern.
    let names = g.S.Primitives.names c.args.store.now in
    let ks = c.args.head.now in
    let n = length c.begin.new.reading.values.items in
    let told = rw c.reserve-first.ensures.names at c.in_ok-read_head.ensures.read in
    let read = read-never (g.S.Primitives.present c.reserve-first.new.self) names ks n c.args.goal c.read_head.new.values.items c.read_head.new.later.items c.in_ok-read_head.field-0 c.if-not-branch.true told in
    never-read names ks t pattern c.args.goal c.requires.goal c.args.count c.reserve-first.ensures.words c.reserve-first.ensures.substitution c.reserve-first.ensures.numbers
    (bare g (goal.at.returns-then-not-branch-clause-met g c).After-reserve-first) n c.read_head.new.values.items c.read_head.new.later.items read

pub unify_later-requires-clause-later : goal.unify_later-requires-clause-later
unify_later-requires-clause-later g c =
    let names = g.S.Primitives.names c.args.store.now in
    let ks = c.args.head.now in
    let values = c.read_head.new.values.items in
    let later = c.read_head.new.later.items in
    let read = read-whole (g.S.Primitives.present c.reserve-first.new.self) names ks (length c.begin.new.reading.values.items) c.args.goal values later c.in_ok-read_head.field-0 c.if-not-branch.false (rw c.reserve-first.ensures.names at c.in_ok-read_head.ensures.read) in
    let has = rw c.as_slice.ensures.value at c.in_ok-words_for.ensures.words in
    rw (c.as_slice-2.ensures.value, c.as_slice-3.ensures.value, c.words_for.ensures.names, c.reserve-first.ensures.names, has.many)
    (λ k d below. later-kept names ks (length values) (slice_index_or later k d) has.keeps.stand (read.0.waiting k d below))

pub returns-clause-met : goal.returns-clause-met
returns-clause-met g c = λ t pattern.
    let names = g.S.Primitives.names c.args.store.now in
    let ks = c.args.head.now in
    let a = g.S.Primitives.present c.reserve-first.new.self in
    let n = length c.begin.new.reading.values.items in
    let values = c.read_head.new.values.items in
    let later = c.read_head.new.later.items in
    let told = rw c.reserve-first.ensures.names at c.in_ok-read_head.ensures.read in
    let many = read-many a names ks n c.args.goal values later c.in_ok-read_head.field-0 c.if-not-branch.false told ∙ c.in_ok-begin.ensures.many in
    let read = read-whole a names ks n c.args.goal values later c.in_ok-read_head.field-0 c.if-not-branch.false told in
    let has = rw (c.as_slice.ensures.value, c.reserve-first.ensures.number) at c.in_ok-words_for.ensures.words in
    let unified = rw (c.as_slice-2.ensures.value, c.as_slice-3.ensures.value, c.words_for.ensures.names, c.reserve-first.ensures.names) at c.unify_later.ensures.unified in
    met-later names ks t pattern c.args.goal c.requires.goal c.args.count c.reserve-first.ensures.words c.reserve-first.ensures.substitution c.reserve-first.ensures.numbers
    (bare g (goal.at.returns-clause-met g c).After-reserve-first) values later c.words_for.new.words.items many read has _ c.unify_later.result unified

pub returns-clause-marks : goal.returns-clause-marks
returns-clause-marks g c = λ m q h. c.unify_later.ensures.marks m q (c.words_for.ensures.marks m q (c.reserve-first.ensures.marks m q h))
