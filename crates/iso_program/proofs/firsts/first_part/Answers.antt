-- The first term has the part, or there is none.
use Rattle.std.proofs.Common.{◌≡◌, ◌≢◌, suc, ◌+◌, ◌<◌, [], length, get_or, sym, subst, ap, ◌∙◌, arith, add-one}
use Rattle.iso_program.specs.Firsts.{TakesMore}
use Rattle.iso_program.proofs.FirstLemmas.{leaves_few, many_next, first_next, still_next, first_of_all, enough_before, some_parts, none_of_all}
use Rattle.iso_program.proofs.firsts.first_part.Goals as goal
use Rattle.iso_program.proofs.firsts.first_part.Goals.{then-left-eq0, else-left-eq0}

pub loop-index-preserved : goal.loop-index-preserved
loop-index-preserved c =
    let ks = c.args.parts.now in
    let i = c.loop-index.index in
    let k = c.index-parts-index.result in
    let so = c.loop-index.invariant in
    let left = c.in-Some.left in
    let test = c.loop-index-test.true in
    let below : i < length ks = omega (arith, test) in
    let index : i + 1 ≡ suc i = add-one i in
    let within = leaves_few k c.loop-index.open left c.in-Some.ensures in
    let few = so.few in
    record {
      few = omega (arith, within, few);
      within =
          elim c.if-left-eq0.branch [
            | then-left-eq0 w ↦ (let is = w.first-is in omega (arith, is))
            | else-left-eq0 w ↦ (let is = w.first-is in let old = so.within in omega (arith, is, old))
          ];
      there = omega (arith, test);
      some = λ h. test;
      many = λ names. rw index (many_next names ks i k c.loop-index.open left below c.index-parts-index.is (so.many names) c.in-Some.ensures);
      shows = λ names named h j at.
          elim c.if-left-eq0.branch [
            | then-left-eq0 w ↦ rw index (first_next names ks i k c.loop-index.open left below c.index-parts-index.is (so.many names) c.in-Some.ensures named w.if-left-eq0.true j (at ∙ ap (λ n. get_or ks n j) w.first-is))
            | else-left-eq0 w ↦
                (let other : left ≢ 0 = w.if-left-eq0.false in
                let old : 0 < c.loop-index.open = omega (arith, other, within) in
                rw index (still_next names ks i k c.loop-index.open left below c.index-parts-index.is (so.many names) c.in-Some.ensures j other (so.shows names named old j (at ∙ ap (λ n. get_or ks n j) w.first-is))))
          ];
    }

pub returns : goal.returns
returns c names t whole =
    let so = c.loop-index.invariant in
    let none = c.if-open-eq0.false in
    let some_open : 0 < c.loop-index.open = omega (arith, none) in
    let past = c.loop-index-test.false in
    let some = so.some some_open in
    let all : suc c.loop-index.index ≡ length c.args.parts.now = omega (arith, past, some) in
    first_of_all names c.args.parts.now c.loop-index.index c.index-parts-first.result t whole all (so.shows names whole.named some_open c.index-parts-first.result c.index-parts-first.is)

pub returns-in_default : goal.returns-in_default
returns-in_default c names t whole f u us is =
    let ks = c.args.parts.now in
    let i = c.loop-index.index in
    let k = c.index-parts-index.result in
    let test = c.loop-index-test.true in
    let below : i < length ks = omega (arith, test) in
    let taken = subst (TakesMore k) (sym (c.loop-index.invariant.many names)) c.in_default.ensures in
    enough_before names ks [] i k k c.requires below c.index-parts-index.is taken

pub returns-then-open-eq0 : goal.returns-then-open-eq0
returns-then-open-eq0 c names t whole =
    let ks = c.args.parts.now in
    let i = c.loop-index.index in
    let so = c.loop-index.invariant in
    let past = c.loop-index-test.false in
    let some = some_parts names ks t whole in
    let there = so.there in
    let all : suc i ≡ length ks = omega (arith, past, some, there) in
    none_of_all names ks i t whole all (so.many names ∙ c.if-open-eq0.true)
