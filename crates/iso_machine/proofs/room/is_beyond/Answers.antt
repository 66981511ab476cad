use Rattle.std.proofs.Common.{◌≡◌, ◌-◌, ◌/◌, suc, ◌∙◌, subst, arith}
use Rattle.std.proofs.lemmas.Bool.{leb-true}
use Rattle.iso_search_core.proofs.StandingLemmas.{item_there}
use Rattle.iso_machine.proofs.RoomLemmas.{Spanned, newest_list, spanned_beyond, spanned_more, spanned_none}
use Rattle.iso_machine.proofs.room.is_beyond.Goals as goal

pub members_from-count-requires : goal.members_from-count-requires
members_from-count-requires g c = (g.S.Store.present c.args.search.now.store, c.requires.2, c.requires.4)

pub loop-height-init : goal.loop-height-init
loop-height-init g c =
    let e = c.args.search.now in
    let few = c.members_from-count.ensures.most in
    let many = c.len-height.ensures ∙ e.choices.ok.0 in
    record {
      few = omega (arith, few);
      stand = omega (arith, many);
      spanned =
          spanned_none g.S.Store g.S.Cells.atom_word e c.args.place.now c.members_from-count.result c.len-height.result
          (omega (arith, many)) c.members_from-count.ensures.few;
    }

pub members_from-requires : goal.members_from-requires
members_from-requires g c =
    let a = g.S.Cells.atom_word in
    let e = c.args.search.now in
    let h = c.loop-height.invariant in
    let some = c.loop-height-test.true in
    let stand = h.stand in
    let below = c.loop-height.height - 1 in
    let whole : c.loop-height.height ≡ suc below = omega (arith, some) in
    let there = item_there e.choices.items below c.index.result.now (omega (arith, some, stand)) c.index.ensures in
    let spanned = subst (Spanned g.S.Store a e c.args.place.now c.loop-height.count) whole h.spanned in
    newest_list g.S.Store a e c.args.place.now c.loop-height.count below c.index.result.now there spanned c.requires.0
    c.requires.1 c.requires.2 c.requires.3 c.requires.4

pub loop-height-preserved : goal.loop-height-preserved
loop-height-preserved g c =
    let a = g.S.Cells.atom_word in
    let e = c.args.search.now in
    let h = c.loop-height.invariant in
    let some = c.loop-height-test.true in
    let stand = h.stand in
    let fewer = c.if-count-most.true in
    let most = c.members_from.ensures.most in
    let below = c.loop-height.height - 1 in
    let whole : c.loop-height.height ≡ suc below = omega (arith, some) in
    let there = item_there e.choices.items below c.index.result.now (omega (arith, some, stand)) c.index.ensures in
    let spanned = subst (Spanned g.S.Store a e c.args.place.now c.loop-height.count) whole h.spanned in
    record {
      few = omega (arith, fewer, most);
      stand = omega (arith, stand);
      spanned =
          spanned_more g.S.Store a e c.args.place.now c.loop-height.count below c.index.result.now there spanned
          c.members_from.result c.members_from.ensures.few;
    }

pub returns : goal.returns
returns g c = λ done.
    let e = c.args.search.now in
    spanned_beyond g.S.Store g.S.Cells.atom_word e c.args.place.now c.loop-height.count c.loop-height.height
    c.loop-height.invariant.spanned (leb-true (e.limit / 3) c.loop-height.count done)
