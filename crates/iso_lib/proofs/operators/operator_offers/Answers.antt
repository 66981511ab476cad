use Rattle.std.proofs.Common.{◌≡◌, ◌∷◌, [], ◌++◌, length, map, take, sym, ap, ◌∙◌, arith}
use Rattle.std.proofs.lemmas.List.{map-append, take_more}
use Rattle.std.proofs.lemmas.List.Elements.{All-same, All-push}
use Rattle.std.proofs.lemmas.Option.{get_or_from_slice_get}
use Rattle.iso_ops.specs.Entries.{operator_of}
use Rattle.iso_model.specs.Search.Settings.{operator_row}
use Rattle.iso_lib.specs.declared.settings.Offer.{Offer}
use Rattle.iso_lib.specs.Settlements.{offer_tree}
use Rattle.iso_lib.proofs.operators.operator_offers.Goals as goal

pub loop-place-preserved : goal.loop-place-preserved
loop-place-preserved c =
    let ops = c.args.ops.now in
    let k = c.loop-place.place in
    let op = operator_of c.entry.result.now in
    let offers = c.loop-place.offers.items in
    let offer = c.in_ok-operator_offer.field-0 in
    let test = c.loop-place-test.true in
    let long = c.len-place-end.ensures.length in
    let next = take_more ops k op (omega (arith, test, long)) ∙ ap (λ x. take k ops ++ x ∷ []) (get_or_from_slice_get ops k op op c.entry.ensures) in
    let has_three : Offer → Type 0 = λ o. length o.constants.items ≡ 3 in
    record {
      rows = ap (map offer_tree) c.in_ok-push.ensures.items ∙ map-append offer_tree offers (offer ∷ [])
          ∙ (λ i. c.loop-place.invariant.rows i ++ c.in_ok-operator_offer.ensures.row i ∷ [])
          ∙ sym (ap (map operator_row) next ∙ map-append operator_row (take k ops) (op ∷ []));
      lengths = All-same has_three c.push.new.self.items (offers ++ offer ∷ []) c.in_ok-push.ensures.items (All-push has_three offers offer c.loop-place.invariant.lengths c.in_ok-operator_offer.ensures.length);
    }
