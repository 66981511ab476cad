use Rattle.std.proofs.Common.{rules, refl, arith}
use Rattle.iso_search.proofs.Moves.Member.{leaves, behind_falls}
use Rattle.iso_search.proofs.MovedLemmas.{moved_on}
use Rattle.iso_search.proofs.search.Search.leave.Goals as goal

pub coming-self-requires : goal.coming-self-requires
coming-self-requires g c =
    let r = c.requires.stands.1 in
    let a = c.requires.first.at r.own r.engine in
    (a.2.behind, a.2.ahead.chain)

pub returns : goal.returns
returns g c =
    moved_on g.S.Store g.L.Lists
    (λ s r.
    (let a = c.requires.first.at r.own r.engine in
    leaves g.S.Store g.L.Lists c.args.self.now s c.args.rest r c.coming-self.result c.requires.first (c.coming-self.ensures.behind a.2.behind a.2.ahead.chain) c.coming-self.ensures.awake))
    (behind_falls g.L.Lists c.args.self.now c.args.self.now _ c.requires.first.first c.args.rest c.coming-self.result c.requires.first.running c.requires.first.less refl refl refl (omega arith) c.coming-self.ensures.cost) (search rules)
