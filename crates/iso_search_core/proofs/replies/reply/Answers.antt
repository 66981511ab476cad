use Rattle.std.proofs.Common.{◌≡◌, length, ap, ◌∙◌, arith}
use Rattle.std.proofs.lemmas.Result.{IfOk-weaker}
use Rattle.iso_search_core.proofs.ReplyLemmas.{call_body, raised_reply, once_body, not_body, exists_body, halt_replied, output_replied}
use Rattle.iso_model.specs.Search.BuiltIns.{reply, Calls, CallsOnce, Refutes}
use Rattle.iso_model.specs.declared.built_ins.BuiltIn.TheVariants as built_in
use Rattle.iso_model.specs.Search.AtomTexts.{text_answer}
use Rattle.iso_model.specs.Search.Library.{library_answer}
use Rattle.iso_search_core.specs.Cells.{reply_cells}
use Rattle.iso_search_core.proofs.CellLemmas.{takes_counted, once_counts, not_counts, exists_counts, answer_counts}
use Rattle.iso_search_core.proofs.replies.reply.Goals as goal

pub place_called-requires-clause-some : goal.place_called-requires-clause-some
place_called-requires-clause-some g c = (rw c.in-Call.is at c.requires.count).0

pub place_called-requires-clause-few : goal.place_called-requires-clause-few
place_called-requires-clause-few g c = (rw c.in-Call.is at c.requires.count).1

pub place_argument-requires-clause-index : goal.place_argument-requires-clause-index
place_argument-requires-clause-index g c =
    let one : length c.args.arguments.now ≡ 1 = rw c.in-Once.is at c.requires.count in
    omega (arith, one)

pub place_argument-requires-in-Not-clause-index : goal.place_argument-requires-in-Not-clause-index
place_argument-requires-in-Not-clause-index g c =
    let one : length c.args.arguments.now ≡ 1 = rw c.in-Not.is at c.requires.count in
    omega (arith, one)

pub returns-in-Body-clause-replies : goal.returns-in-Body-clause-replies
returns-in-Body-clause-replies g c = λ t fits are.
    rw c.in-Call.is (call_body g.L.Lists _ _ _ _ t c.in-Body.place (rw c.in-Body.is at (c.in_ok-place-in-Call.ensures.placed t fits are)))

pub returns-in-Raises-clause-replies : goal.returns-in-Raises-clause-replies
returns-in-Raises-clause-replies g c = λ t fits are.
    let kept = rw c.in-Raises.is at c.in_ok-place-in-Call.ensures.raises in
    rw c.in-Call.is (raised_reply g.L.Lists _ _ _ _ _ c.in-Raises.ball ((rw c.in-Raises.is at (c.in_ok-place-in-Call.ensures.placed t fits are)) Calls) kept.0 kept.1 c.in_ok-place-in-Call.ensures.keeps)

pub returns-in-Body-2-clause-replies : goal.returns-in-Body-2-clause-replies
returns-in-Body-2-clause-replies g c = λ t fits are.
    rw c.in-Once.is (once_body g.L.Lists _ _ _ _ t c.in-Body-2.place (rw c.in-Body-2.is at (c.in_ok-place-in-Once.ensures.placed t are)))

pub returns-in-Raises-2-clause-replies : goal.returns-in-Raises-2-clause-replies
returns-in-Raises-2-clause-replies g c = λ t fits are.
    let kept = rw c.in-Raises-2.is at c.in_ok-place-in-Once.ensures.raises in
    rw c.in-Once.is (raised_reply g.L.Lists _ _ _ _ _ c.in-Raises-2.ball ((rw c.in-Raises-2.is at (c.in_ok-place-in-Once.ensures.placed t are)) CallsOnce) kept.0 kept.1 c.in_ok-place-in-Once.ensures.keeps)

pub returns-in-Body-3-clause-replies : goal.returns-in-Body-3-clause-replies
returns-in-Body-3-clause-replies g c = λ t fits are.
    rw c.in-Not.is (not_body g.L.Lists _ _ _ _ t c.in-Body-3.place (rw c.in-Body-3.is at (c.in_ok-place-in-Not.ensures.placed t are)))

pub returns-in-Raises-3-clause-replies : goal.returns-in-Raises-3-clause-replies
returns-in-Raises-3-clause-replies g c = λ t fits are.
    let kept = rw c.in-Raises-3.is at c.in_ok-place-in-Not.ensures.raises in
    rw c.in-Not.is (raised_reply g.L.Lists _ _ _ _ _ c.in-Raises-3.ball ((rw c.in-Raises-3.is at (c.in_ok-place-in-Not.ensures.placed t are)) Refutes) kept.0 kept.1 c.in_ok-place-in-Not.ensures.keeps)

pub library-requires-clause-count : goal.library-requires-clause-count
library-requires-clause-count g c = rw c.in-Library.is at c.requires.count

-- ---- catches, balls and the session's end

pub thrown-requires-clause-count : goal.thrown-requires-clause-count
thrown-requires-clause-count g c =
    let one : length c.args.arguments.now ≡ 1 = rw c.in-Throw.is at c.requires.count in
    omega (arith, one)

pub halted-requires-clause-count : goal.halted-requires-clause-count
halted-requires-clause-count g c =
    let one : length c.args.arguments.now ≡ 1 = rw c.in-HaltWith.is at c.requires.count in
    omega (arith, one)

pub returns-in-HaltWith-clause-replies : goal.returns-in-HaltWith-clause-replies
returns-in-HaltWith-clause-replies g c = λ t fits are.
    rw c.in-HaltWith.is (IfOk-weaker c.halted.result _ _ (halt_replied g.L.Lists (g.S.Store.present c.args.store.now) c.args.lists.now (reply built_in.HaltWith t)) (c.halted.ensures.halts t are))

pub findall-requires-clause-count : goal.findall-requires-clause-count
findall-requires-clause-count g c = rw c.in-Findall.is at c.requires.count

pub returns-in_ok-findall-in-Findall-clause-replies : goal.returns-in_ok-findall-in-Findall-clause-replies
returns-in_ok-findall-in-Findall-clause-replies g c = λ t fits are. rw c.in-Findall.is (c.in_ok-findall-in-Findall.ensures.replies t are c.args.lists.now)

pub text-requires-clause-count : goal.text-requires-clause-count
text-requires-clause-count g c = rw c.in-Text.is at c.requires.count

pub returns-in-Output-clause-replies : goal.returns-in-Output-clause-replies
returns-in-Output-clause-replies g c = λ t fits are.
    let p = g.S.Store.present c.args.store.now in
    rw c.in-Output.is (output_replied g.L.Lists p c.args.lists.now c.in-Output.row t)

-- ---- no other goal writes, or asks what outlives a run

pub returns-in-HaltWith-clause-asks : goal.returns-in-HaltWith-clause-asks
returns-in-HaltWith-clause-asks g c = c.halted.ensures.asks c.args.built_in

pub returns-in_ok-catches-in-Catch-clause-asks : goal.returns-in_ok-catches-in-Catch-clause-asks
returns-in_ok-catches-in-Catch-clause-asks g c = c.in_ok-catches-in-Catch.ensures.asks c.args.built_in

pub returns-in_ok-findall-in-Findall-clause-asks : goal.returns-in_ok-findall-in-Findall-clause-asks
returns-in_ok-findall-in-Findall-clause-asks g c = c.in_ok-findall-in-Findall.ensures.asks c.args.built_in

pub returns-in-Library-clause-asks : goal.returns-in-Library-clause-asks
returns-in-Library-clause-asks g c = c.library.ensures.asks c.args.built_in

pub returns-in-Text-clause-asks : goal.returns-in-Text-clause-asks
returns-in-Text-clause-asks g c = c.text.ensures.asks c.args.built_in

-- ---- no more cells than the reply counts

pub returns-in_err-place-in-Once-clause-cells : goal.returns-in_err-place-in-Once-clause-cells
returns-in_err-place-in-Once-clause-cells g c = λ t fits are. takes_counted (ap (λ b. reply_cells (reply b t)) c.in-Once.is ∙ once_counts t) (c.in_err-place-in-Once.ensures.cells t are)

pub returns-in-Body-2-clause-cells : goal.returns-in-Body-2-clause-cells
returns-in-Body-2-clause-cells g c = λ t fits are. takes_counted (ap (λ b. reply_cells (reply b t)) c.in-Once.is ∙ once_counts t) (c.in_ok-place-in-Once.ensures.cells t are)

pub returns-in-Raises-2-clause-cells : goal.returns-in-Raises-2-clause-cells
returns-in-Raises-2-clause-cells g c = λ t fits are. takes_counted (ap (λ b. reply_cells (reply b t)) c.in-Once.is ∙ once_counts t) (c.in_ok-place-in-Once.ensures.cells t are)

pub returns-in_err-place-in-Not-clause-cells : goal.returns-in_err-place-in-Not-clause-cells
returns-in_err-place-in-Not-clause-cells g c = λ t fits are. takes_counted (ap (λ b. reply_cells (reply b t)) c.in-Not.is ∙ not_counts t) (c.in_err-place-in-Not.ensures.cells t are)

pub returns-in-Body-3-clause-cells : goal.returns-in-Body-3-clause-cells
returns-in-Body-3-clause-cells g c = λ t fits are. takes_counted (ap (λ b. reply_cells (reply b t)) c.in-Not.is ∙ not_counts t) (c.in_ok-place-in-Not.ensures.cells t are)

pub returns-in-Raises-3-clause-cells : goal.returns-in-Raises-3-clause-cells
returns-in-Raises-3-clause-cells g c = λ t fits are. takes_counted (ap (λ b. reply_cells (reply b t)) c.in-Not.is ∙ not_counts t) (c.in_ok-place-in-Not.ensures.cells t are)

pub returns-in-Library-clause-cells : goal.returns-in-Library-clause-cells
returns-in-Library-clause-cells g c = λ t fits are. takes_counted (ap (λ b. reply_cells (reply b t)) c.in-Library.is ∙ answer_counts (library_answer c.in-Library.row t)) (c.library.ensures.cells t are)

pub returns-in-Text-clause-cells : goal.returns-in-Text-clause-cells
returns-in-Text-clause-cells g c = λ t fits are. takes_counted (ap (λ b. reply_cells (reply b t)) c.in-Text.is ∙ answer_counts (text_answer c.in-Text.row t)) (c.text.ensures.cells t are)

-- ---- bagof/3, setof/3 and ^/2

pub groups-requires-clause-count : goal.groups-requires-clause-count
groups-requires-clause-count g c = rw c.in-Bagof.is at c.requires.count

pub groups-requires-in-Setof-clause-count : goal.groups-requires-in-Setof-clause-count
groups-requires-in-Setof-clause-count g c = rw c.in-Setof.is at c.requires.count

pub place_argument-requires-in-Exists-clause-index : goal.place_argument-requires-in-Exists-clause-index
place_argument-requires-in-Exists-clause-index g c =
    let two : length c.args.arguments.now ≡ 2 = rw c.in-Exists.is at c.requires.count in
    omega (arith, two)

pub returns-in_ok-groups-in-Bagof-clause-replies : goal.returns-in_ok-groups-in-Bagof-clause-replies
returns-in_ok-groups-in-Bagof-clause-replies g c = λ t fits are. rw c.in-Bagof.is (c.in_ok-groups-in-Bagof.ensures.replies t are c.args.lists.now)

pub returns-in_ok-groups-in-Setof-clause-replies : goal.returns-in_ok-groups-in-Setof-clause-replies
returns-in_ok-groups-in-Setof-clause-replies g c = λ t fits are. rw c.in-Setof.is (c.in_ok-groups-in-Setof.ensures.replies t are c.args.lists.now)

pub returns-in_ok-groups-in-Bagof-clause-asks : goal.returns-in_ok-groups-in-Bagof-clause-asks
returns-in_ok-groups-in-Bagof-clause-asks g c = c.in_ok-groups-in-Bagof.ensures.asks c.args.built_in

pub returns-in_ok-groups-in-Setof-clause-asks : goal.returns-in_ok-groups-in-Setof-clause-asks
returns-in_ok-groups-in-Setof-clause-asks g c = c.in_ok-groups-in-Setof.ensures.asks c.args.built_in

pub returns-in-Body-4-clause-replies : goal.returns-in-Body-4-clause-replies
returns-in-Body-4-clause-replies g c = λ t fits are.
    rw c.in-Exists.is (exists_body g.L.Lists _ _ _ _ t c.in-Body-4.place (rw c.in-Body-4.is at (c.in_ok-place-in-Exists.ensures.placed t are)))

pub returns-in-Raises-4-clause-replies : goal.returns-in-Raises-4-clause-replies
returns-in-Raises-4-clause-replies g c = λ t fits are.
    let kept = rw c.in-Raises-4.is at c.in_ok-place-in-Exists.ensures.raises in
    rw c.in-Exists.is (raised_reply g.L.Lists _ _ _ _ _ c.in-Raises-4.ball ((rw c.in-Raises-4.is at (c.in_ok-place-in-Exists.ensures.placed t are)) Calls) kept.0 kept.1 c.in_ok-place-in-Exists.ensures.keeps)

pub returns-in_err-place-in-Exists-clause-cells : goal.returns-in_err-place-in-Exists-clause-cells
returns-in_err-place-in-Exists-clause-cells g c = λ t fits are. takes_counted (ap (λ b. reply_cells (reply b t)) c.in-Exists.is ∙ exists_counts t) (c.in_err-place-in-Exists.ensures.cells t are)

pub returns-in-Body-4-clause-cells : goal.returns-in-Body-4-clause-cells
returns-in-Body-4-clause-cells g c = λ t fits are. takes_counted (ap (λ b. reply_cells (reply b t)) c.in-Exists.is ∙ exists_counts t) (c.in_ok-place-in-Exists.ensures.cells t are)

pub returns-in-Raises-4-clause-cells : goal.returns-in-Raises-4-clause-cells
returns-in-Raises-4-clause-cells g c = λ t fits are. takes_counted (ap (λ b. reply_cells (reply b t)) c.in-Exists.is ∙ exists_counts t) (c.in_ok-place-in-Exists.ensures.cells t are)
