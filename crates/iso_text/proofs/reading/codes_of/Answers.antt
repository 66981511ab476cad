use Rattle.std.proofs.Common.{map}
use Rattle.std.specs.String.{string_bytes}
use Rattle.iso_model.specs.Search.Errors.{key}
use Rattle.iso_model.specs.Search.AtomTexts.{elements_codes}
use Rattle.iso_store_core.specs.Presents.{meaning}
use Rattle.iso_lib_core.proofs.CheckLemmas.{keys_left, handed_on}
use Rattle.iso_text.specs.Elements.{IsText}
use Rattle.iso_text.specs.Forms.{form_of}
use Rattle.iso_text.proofs.ReadingLemmas.{goes_on, stops}
use Rattle.iso_text.proofs.reading.codes_of.Goals as goal

pub returns-in_err-code : goal.returns-in_err-code
returns-in_err-code g c =
    let p = g.S.Store.present c.args.store.now in
    let ts = map (meaning p) c.args.words.now in
    let i = c.loop-word.word-index in
    let word = c.word-item.result in
    let form = form_of c.args.form in
    let k = key c.args.by.now 2 in
    handed_on (IsText (elements_codes form ts k)) c.from_residual-in_err-code.result c.in_err-code.field-0.0 c.from_residual-in_err-code.ensures.1
    (stops form ts k i (meaning p word) (string_bytes c.loop-word.text) c.in_err-code.field-0.0 c.loop-word.invariant
    (keys_left p c.args.words.now i word c.loop-word-test.true c.word-item.is) c.in_err-code.ensures)

pub loop-word-preserved : goal.loop-word-preserved
loop-word-preserved g c =
    let p = g.S.Store.present c.args.store.now in
    let ts = map (meaning p) c.args.words.now in
    let i = c.loop-word.word-index in
    let word = c.word-item.result in
    goes_on (form_of c.args.form) ts (key c.args.by.now 2) i (meaning p word) c.in_ok-code.code (string_bytes c.loop-word.text) (string_bytes c.push.new.self) c.loop-word.invariant
    (keys_left p c.args.words.now i word c.loop-word-test.true c.word-item.is) c.in_ok-code.ensures c.in_ok-push.ensures.bytes
