use Rattle.std.proofs.Common.{◌≡◌, ◌-◌, ap, ◌∙◌, length, min, take, drop, arith}
use Rattle.std.proofs.lemmas.List.{length-take}
use Rattle.iso_lint.specs.Places.{behind_all, place_at}
use Rattle.iso_lint.proofs.PlaceLemmas.{goes_on_from, place_at_end}
use Rattle.iso_lint.proofs.places.mark_at.Goals as goal

pub returns-clause-mark : goal.returns-clause-mark
returns-clause-mark c =
    let text = c.args.text.now in
    let m = c.mark_up_to-from.result in
    let is = c.mark_up_to-from.ensures.marks text c.requires in
    let bytes = c.as_bytes-bytes.ensures.value in
    let len = length-take (c.min-end.result - m.start) (drop m.start c.as_bytes-bytes.result.now) in
    record {
      within = omega (arith, c.as_bytes-bytes.ensures.len);
      place = c.behind_bytes.ensures.value ∙ ap (λ bs. behind_all m.place (take (c.min-end.result - m.start) (drop m.start bs))) bytes
          ∙ ap (λ p. behind_all p (take (c.min-end.result - m.start) (drop m.start text))) is.place ∙ goes_on_from text m.start c.min-end.result c.mark_up_to-from.ensures.before;
      line = omega (arith, c.behind_bytes.ensures.line, is.line, len);
      column = omega (arith, c.behind_bytes.ensures.column, is.column, len);
    }

pub returns-clause-place : goal.returns-clause-place
returns-clause-place c =
    let text = c.args.text.now in
    let m = c.mark_up_to-from.result in
    let is = c.mark_up_to-from.ensures.marks text c.requires in
    let bytes = c.as_bytes-bytes.ensures.value in
    let end : c.min-end.result ≡ min c.args.start (length text) = c.min-end.ensures ∙ ap (λ bs. min c.args.start (length bs)) bytes in
    c.behind_bytes.ensures.value ∙ ap (λ bs. behind_all m.place (take (c.min-end.result - m.start) (drop m.start bs))) bytes
    ∙ ap (λ p. behind_all p (take (c.min-end.result - m.start) (drop m.start text))) is.place ∙ goes_on_from text m.start c.min-end.result c.mark_up_to-from.ensures.before
    ∙ ap (place_at text) end ∙ place_at_end text c.args.start
