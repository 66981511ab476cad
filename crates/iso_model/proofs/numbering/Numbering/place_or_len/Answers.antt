use Rattle.std.proofs.Common.{sym, ◌∙◌, ◌<◌, length, IfSome, subst, arith}
use Rattle.iso_model.proofs.OnTerms.PlaceLemmas.{found_place, not_found}
use Rattle.iso_model.proofs.numbering.Numbering.place_or_len.Goals as goal

pub returns-in-Some : goal.returns-in-Some
returns-in-Some c =
    let within : c.in-Some.place < length c.args.self.now = subst (λ o. IfSome o (λ place. place < length c.args.self.now)) c.in-Some.is c.place.ensures.within in
    let small = c.len-count.ensures.small in
    let count = c.len-count.ensures.len in
    record { place = found_place c.args.number _ c.args.self.now (sym c.place.ensures.place ∙ c.in-Some.is); small = omega (arith, within, small, count) }

pub returns-in-None : goal.returns-in-None
returns-in-None c = record {
  place = c.len-count.ensures.len ∙ not_found c.args.number c.args.self.now (sym c.place.ensures.place ∙ c.in-None.is);
  small = c.len-count.ensures.small;
}
