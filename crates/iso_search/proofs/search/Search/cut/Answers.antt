use Rattle.std.proofs.Common.{rules, ap, refl}
use Rattle.iso_search.specs.declared.search.Search.{Search}
use Rattle.iso_search.proofs.AheadLemmas.{keeps_ahead}
use Rattle.iso_search.proofs.Moves.Member.{cuts, behind_falls}
use Rattle.iso_search.proofs.MovedLemmas.{moved_on}
use Rattle.iso_search.proofs.search.Search.cut.Goals as goal

pub cut_to-requires : goal.cut_to-requires
cut_to-requires g c =
    let r = c.requires.stands.1 in
    let a = c.requires.first.at r.own r.engine in
    ((r.own).world, (r.own).stack, keeps_ahead g.S.Store g.L.Lists c.args.self.now (record r.own { list = a.2.behind }) c.args.rest a.2.ahead)

pub coming-self-requires : goal.coming-self-requires
coming-self-requires g c =
    let r = c.requires.stands.1 in
    let a = c.requires.first.at r.own r.engine in
    (a.2.behind, (c.cut_to.ensures.cut (record r.own { list = a.2.behind }) c.args.rest a.2.ahead).chain)

pub returns : goal.returns
returns g c =
    moved_on g.S.Store g.L.Lists
    (λ s r.
    (let a = c.requires.first.at r.own r.engine in
    let ahead = c.cut_to.ensures.cut (record r.own { list = a.2.behind }) c.args.rest a.2.ahead in
    cuts g.S.Store g.L.Lists c.args.self.now s c.args.rest r c.args.height c.cut_to.new.self c.coming-self.result c.requires.first ahead (c.coming-self.ensures.behind a.2.behind ahead.chain) c.coming-self.ensures.awake))
    (behind_falls g.L.Lists c.args.self.now c.cut_to.new.self _ c.requires.first.first c.args.rest c.coming-self.result c.requires.first.running c.requires.first.less refl
    (ap (λ (x : Search _ _ _ _ _ _ _ _ _ _). x.steps) c.cut_to.ensures.same) (ap (λ (x : Search _ _ _ _ _ _ _ _ _ _). x.lists) c.cut_to.ensures.same) c.cut_to.ensures.costs c.coming-self.ensures.cost) (search rules)
