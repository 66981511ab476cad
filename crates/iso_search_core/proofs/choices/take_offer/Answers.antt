use Rattle.std.proofs.Common.{◌≡◌, ◌∙◌, sym, ap, subst, arith, Bool, Some, length, slice_set}
use Rattle.iso_search_core.specs.Offers.{AreRows, rows_in}
use Rattle.iso_search_core.specs.declared.choices.Left.TheVariants as left
use Rattle.iso_search_core.proofs.StandingLemmas.{item_is, item_there}
use Rattle.iso_search_core.proofs.choices.take_offer.Goals as goal

pub take-requires : goal.take-requires
take-requires g c =
    let items = c.args.choices.now.items in
    let there = item_there items c.args.place c.index_mut.result.now c.requires.there c.index_mut.ensures.value in
    c.requires.each c.index_mut.result.now c.in-Offered.field-0 c.in-Offered.offers there c.in-Offered.is

pub returns-in_err-row-in-Offered : goal.returns-in_err-row-in-Offered
returns-in_err-row-in-Offered g c = λ ch goal offers there is some.
    (let same = item_is c.args.choices.now.items c.args.place ch c.index_mut.result.now there c.index_mut.ensures.value in
    let lefts : left.Offered c.in-Offered.field-0 c.in-Offered.offers ≡ left.Offered goal offers = sym c.in-Offered.is ∙ (ap (λ (x : _). x.left) same ∙ is) in
    let rows : c.in-Offered.offers ≡ offers = cc in
    let none : length (rows_in offers) ≡ 0 = ap length (ap rows_in (sym rows) ∙ c.in_err-row-in-Offered.ensures.none.0) in
    absurd (omega (arith, some, none)))

pub returns-in_ok-row-in-Offered : goal.returns-in_ok-row-in-Offered
returns-in_ok-row-in-Offered g c = λ ch goal offers there is some.
    (let items = c.args.choices.now.items in
    let same = item_is items c.args.place ch c.index_mut.result.now there c.index_mut.ensures.value in
    let lefts : left.Offered c.in-Offered.field-0 c.in-Offered.offers ≡ left.Offered goal offers = sym c.in-Offered.is ∙ (ap (λ (x : _). x.left) same ∙ is) in
    let goals : c.in-Offered.field-0 ≡ goal = cc in
    let rows : c.in-Offered.offers ≡ offers = cc in
    record {
      row = c.in_ok-row-in-Offered.row;
      others = c.take.new.self;
      is = ap (λ (b : Bool). Some (c.in_ok-row-in-Offered.row, b)) c.is_empty.ensures;
      are = ap rows_in (sym rows) ∙ c.in_ok-row-in-Offered.ensures.some;
      each = λ t are. c.in_ok-row-in-Offered.ensures.each t (subst (AreRows t) (sym rows) are);
      changed = λ i. slice_set items c.args.place record { mark = (same i).mark; kept = (same i).kept; rest = (same i).rest; left = left.Offered (goals i) c.take.new.self };
    })

pub returns-in_default : goal.returns-in_default
returns-in_default g c = λ ch goal offers there is some.
    (let same = item_is c.args.choices.now.items c.args.place ch c.index_mut.result.now there c.index_mut.ensures.value in
    absurd (c.in_default.not-Offered goal offers (ap (λ (x : _). x.left) same ∙ is)))
