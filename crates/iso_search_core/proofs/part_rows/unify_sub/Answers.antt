use Rattle.std.proofs.Common.{[], ◌∷◌, take, drop, chars, ap, ◌∙◌, subst, arith, to_z}
use Rattle.std.specs.Int.{w128}
use Rattle.std.proofs.lemmas.Int.{to_z_pos}
use Rattle.std.proofs.lemmas.Result.{IfOk-weaker}
use Rattle.std.specs.Str.{encode_utf8_all}
use Rattle.std.specs.String.{string_bytes}
use Rattle.iso_model.specs.Terms.Trees.{Tree, Integer, Name, row}
use Rattle.iso_store_core.specs.Presents.{IsUnification}
use Rattle.iso_model.specs.Terms.Arguments.{argument}
use Rattle.iso_store_core.proofs.ArgumentLemmas.{argument-is}
use Rattle.iso_store_core.proofs.RetainLemmas.{takes_most}
use Rattle.iso_text.specs.Parts.{text_of}
use Rattle.iso_text.proofs.ShortLemmas.{count_takes_none}
use Rattle.iso_search_core.proofs.PartRows.{sub_row}
use Rattle.iso_search_core.proofs.part_rows.unify_sub.Goals as goal

pub returns-clause-unified : goal.returns-clause-unified
returns-clause-unified g c = λ t are of.
    (let p = g.S.Store.present c.args.store.now in
    let q = g.S.Store.present c.unify_each.new.store in
    let words = c.args.arguments.now in
    let s = c.args.sub in
    let many = are.count in
    let five = of.0 in
    let atom = argument-is p words t 0 c.index-arguments-0.result are (omega (arith, many, five)) c.index-arguments-0.is in
    let first = argument-is p words t 1 c.index-arguments-1.result are (omega (arith, many, five)) c.index-arguments-1.is in
    let second = argument-is p words t 2 c.index-arguments-2.result are (omega (arith, many, five)) c.index-arguments-2.is in
    let third = argument-is p words t 3 c.index-arguments-3.result are (omega (arith, many, five)) c.index-arguments-3.is in
    let fourth = argument-is p words t 4 c.index-arguments-4.result are (omega (arith, many, five)) c.index-arguments-4.is in
    let text = c.in_ok-first_characters.ensures ∙ ap (λ x. encode_utf8_all (take s.length (chars x))) (c.range_from.ensures.value ∙ ap (drop s.start) (c.text_of-text.ensures ∙ ap text_of atom)) in
    let few = of.2 in
    let before = to_z_pos w128 s.before (omega (arith, few)) in
    let length = to_z_pos w128 s.length (omega (arith, few)) in
    let behind = to_z_pos w128 s.behind (omega (arith, few)) in
    let left = row (argument 1 t ∷ argument 2 t ∷ argument 3 t ∷ argument 4 t ∷ []) in
    let name = Name (string_bytes c.in_ok-first_characters.field-0) in
    let right = row (Integer (to_z w128 s.before) ∷ Integer (to_z w128 s.length) ∷ Integer (to_z w128 s.behind) ∷ name ∷ []) in
    IfOk-weaker c.unify_each.result _ _
    (λ answer h. sub_row p q t answer s (string_bytes c.in_ok-first_characters.field-0) five text
    (subst (λ (x : Tree). IsUnification p q left x answer) (λ i. row (Integer (before i) ∷ Integer (length i) ∷ Integer (behind i) ∷ name ∷ []))
    (subst (λ (x : Tree). IsUnification p q x right answer) (λ i. row (first i ∷ second i ∷ third i ∷ fourth i ∷ [])) h)))
    c.unify_each.ensures.unified)

pub returns-clause-cells : goal.returns-clause-cells
returns-clause-cells g c =
    let s = c.args.sub in
    let few = c.requires.row.2.2 in
    let before = count_takes_none s.before (omega (arith, few)) in
    let length = count_takes_none s.length (omega (arith, few)) in
    let behind = count_takes_none s.behind (omega (arith, few)) in
    takes_most 0 (omega (arith, before, length, behind)) c.unify_each.ensures.cells
