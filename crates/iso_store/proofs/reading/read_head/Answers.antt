use Rattle.std.proofs.Common.{◌<◌, ◌++◌, ◌∷◌, [], length, arith}
use Rattle.iso_store.specs.Reading.{left_terms}
use Rattle.iso_store.proofs.ReadHeads.{IsAhead, read-next, read-fails, next-some, next-none}
use Rattle.iso_store.proofs.reading.read_head.Given.{Over}
use Rattle.iso_store.proofs.reading.read_head.Goals.{In-Some}
use Rattle.iso_store.proofs.reading.read_head.Goals as goal

-- what is left when a part was read
ahead : (g : Over) (c : In-Some g) → (c.in-Some.rest < c.loop-met.at) × IsAhead (g.S.Primitives.present c.args.store.now) (g.S.Primitives.names c.args.store.now) c.args.head.now (length c.args.values.now.items) c.args.goal
    c.read_part.new.values.items c.read_part.new.later.items (left_terms (g.S.Primitives.present c.args.store.now) (c.read_part.new.left.items ++ c.read_part.new.inner ∷ [])) c.in-Some.rest
ahead g c =
    let so = c.loop-met.invariant in
    read-next _ _ _ _ c.args.goal _ _ _ _ _ _ _ _ so.ahead.read.many_values c.in_ok-met.met so.ahead c.in_ok-met.ensures.read c.in-Some.rest c.in-Some.is

pub returns-in_default : goal.returns-in_default
returns-in_default g c =
    let so = c.loop-met.invariant in
    record { read = read-fails _ _ _ _ c.args.goal _ _ _ _ _ _ _ _ so.ahead.read.many_values c.in_ok-met.met so.ahead c.in_ok-met.ensures.read c.in_default.is }

pub returns-in_default-next_word : goal.returns-in_default-next_word
returns-in_default-next_word g c =
    let on = (ahead g (goal.at.returns-in_default-next_word g c).In-Some).1 in
    record { read = next-none _ _ _ _ c.args.goal _ _ _ _ _ _ _ on.read.many_values c.next_word.result on c.next_word.ensures.read c.in_default-next_word.is }

pub loop-met-smaller : goal.loop-met-smaller
loop-met-smaller g c =
    let on = ahead g (goal.at.loop-met-smaller g c).In-Some in
    let next = next-some _ _ _ _ c.args.goal _ _ _ _ _ _ _ on.1.read.many_values c.next_word.result on.1 c.next_word.ensures.read c.in-Some-next_word.next c.in-Some-next_word.is in
    omega (arith, on.0, next.1)

pub loop-met-preserved : goal.loop-met-preserved
loop-met-preserved g c =
    let on = (ahead g (goal.at.loop-met-preserved g c).In-Some).1 in
    let next = next-some _ _ _ _ c.args.goal _ _ _ _ _ _ _ on.read.many_values c.next_word.result on c.next_word.ensures.read c.in-Some-next_word.next c.in-Some-next_word.is in
    record { ahead = next.2; unread = c.next_word.ensures.left; inner = c.in-Some-next_word.ensures.inner; word = next.0 }
