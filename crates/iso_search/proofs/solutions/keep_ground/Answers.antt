use Rattle.std.proofs.Common.{◌<◌, length, arith, refl}
use Rattle.iso_model.specs.Terms.TermOf.{term_of}
use Rattle.iso_search_core.specs.Solutions.{Gains}
use Rattle.iso_search_core.specs.Gathering.{SameCopies}
use Rattle.iso_search_core.proofs.GatheringLemmas.{changes_none, changes_one, not_gathering}
use Rattle.std.proofs.lemmas.Result.{on_ok_weaker, on_err_weaker}
use Rattle.iso_search.proofs.solutions.keep_ground.Goals as goal

pub returns-then-place-len-clause-gains : goal.returns-then-place-len-clause-gains
returns-then-place-len-clause-gains g c =
    let all = c.len.ensures in
    let whole = c.args.choices.now.ok.0 in
    let here = c.if-place-len.true in
    changes_none (Gains (term_of c.args.solution)) c.args.place c.args.choices.now.items (omega (arith, all, whole, here))

pub returns-in-Gathering-clause-gains : goal.returns-in-Gathering-clause-gains
returns-in-Gathering-clause-gains g c =
    let all = c.len.ensures in
    let whole = c.args.choices.now.ok.0 in
    let here = c.if-place-len.false in
    let within : c.args.place < length c.args.choices.now.items = omega (arith, all, whole, here) in
    on_ok_weaker c.add_ground.result (λ h. changes_one (Gains (term_of c.args.solution)) c.args.place c.args.choices.now.items c.index_mut.result.now _ within c.index_mut.ensures.value
    (record { mark = refl; kept = refl; rest = refl; left = rw c.in-Gathering.is (c.add_ground.new.gathered, refl, h) })) c.add_ground.ensures.gains

pub returns-in-Gathering-clause-kept : goal.returns-in-Gathering-clause-kept
returns-in-Gathering-clause-kept g c =
    let all = c.len.ensures in
    let whole = c.args.choices.now.ok.0 in
    let here = c.if-place-len.false in
    let within : c.args.place < length c.args.choices.now.items = omega (arith, all, whole, here) in
    on_err_weaker c.add_ground.result (λ h. changes_one SameCopies c.args.place c.args.choices.now.items c.index_mut.result.now _ within c.index_mut.ensures.value
    (record { mark = refl; kept = refl; rest = refl; left = rw c.in-Gathering.is (c.add_ground.new.gathered, refl, h) })) c.add_ground.ensures.kept

pub returns-in_default : goal.returns-in_default
returns-in_default g c =
    let all = c.len.ensures in
    let whole = c.args.choices.now.ok.0 in
    let here = c.if-place-len.false in
    let within : c.args.place < length c.args.choices.now.items = omega (arith, all, whole, here) in
    let R = Gains (term_of c.args.solution) in
    record {
      gains = changes_one R c.args.place c.args.choices.now.items c.index_mut.result.now _ within c.index_mut.ensures.value
          (record { mark = refl; kept = refl; rest = refl; left = not_gathering R c.index_mut.result.now.left c.in_default.not-Gathering c.in_default.not-Grouping });
      kept = tt;
    }

pub returns-in-Grouping-clause-gains : goal.returns-in-Grouping-clause-gains
returns-in-Grouping-clause-gains g c =
    let all = c.len.ensures in
    let whole = c.args.choices.now.ok.0 in
    let here = c.if-place-len.false in
    let within : c.args.place < length c.args.choices.now.items = omega (arith, all, whole, here) in
    on_ok_weaker c.add.result (λ h. changes_one (Gains (term_of c.args.solution)) c.args.place
    c.args.choices.now.items c.index_mut.result.now _ within c.index_mut.ensures.value
    (record { mark = refl; kept = refl; rest = refl; left = rw c.in-Grouping.is (c.add.new.self, refl, h) }))
    c.add.ensures.gains

pub returns-in-Grouping-clause-kept : goal.returns-in-Grouping-clause-kept
returns-in-Grouping-clause-kept g c =
    let all = c.len.ensures in
    let whole = c.args.choices.now.ok.0 in
    let here = c.if-place-len.false in
    let within : c.args.place < length c.args.choices.now.items = omega (arith, all, whole, here) in
    on_err_weaker c.add.result (λ h. changes_one SameCopies c.args.place c.args.choices.now.items
    c.index_mut.result.now _ within c.index_mut.ensures.value
    (record { mark = refl; kept = refl; rest = refl; left = rw c.in-Grouping.is (c.add.new.self, refl, h) }))
    c.add.ensures.kept
