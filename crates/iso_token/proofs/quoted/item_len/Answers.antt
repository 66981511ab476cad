use Rattle.std.proofs.Common.{◌≡◌, ℕ, ◌+◌, ◌<◌, ◌≤◌, length, drop, take, Option, option_map, sym, ap, ◌∙◌, arith}
use Rattle.std.proofs.lemmas.List.{take_rest, length-drop}
use Rattle.iso_model.specs.Syntax.Quoted.{Stands, piece_at}
use Rattle.iso_model.proofs.Syntax.QuotedLemmas.{item-on, item-closes, item-broken, item-nil}
use Rattle.iso_token.specs.Quoted.{len_of, stood_for}
use Rattle.iso_token.proofs.PieceLemmas.{piece-stands}
use Rattle.iso_token.proofs.quoted.item_len.Goals as goal

pub returns-in-Closes-clause-value : goal.returns-in-Closes-clause-value
returns-in-Closes-clause-value c =
    let z = c.args.bytes.now in
    let at = c.loop-at.at in
    let any : 0 < length (drop at z) = omega (arith, length-drop at z) in
    let on : Option ℕ → Option ℕ = option_map (λ k. at + k) in
    sym (ap on (item-closes c.args.quote (drop at z) any (sym (rw (take_rest z at) at c.in-Closes.ensures.value)))) ∙ c.loop-at.invariant.0

pub returns-in-Broken-clause-value : goal.returns-in-Broken-clause-value
returns-in-Broken-clause-value c =
    let z = c.args.bytes.now in
    let at = c.loop-at.at in
    let any : 0 < length (drop at z) = omega (arith, length-drop at z) in
    let on : Option ℕ → Option ℕ = option_map (λ k. at + k) in
    sym (ap on (item-broken c.args.quote (drop at z) any (sym (rw (take_rest z at) at c.in-Broken.ensures.value)))) ∙ c.loop-at.invariant.0

pub loop-at-preserved : goal.loop-at-preserved
loop-at-preserved c =
    let z = c.args.bytes.now in
    let at = c.loop-at.at in
    let p = c.piece_at-piece.result in
    let value = rw (take_rest z at) at c.piece_at-piece.ensures.value in
    let is : piece_at c.args.quote (drop at z) ≡ Stands (stood_for p (take (len_of p) (drop at z))) (len_of p) = sym value ∙ piece-stands (drop at z) p c.in_default.not-Closes c.in_default.not-Broken in
    let some : 1 ≤ len_of p = c.piece_at-piece.ensures.within.0 in
    let goes = item-on c.args.quote at z _ (len_of p) _ (omega arith) some is c.loop-at.invariant.0 in
    (rw c.len-at.ensures goes, omega (arith, c.piece_at-piece.ensures.within, length-drop at z))

pub returns-clause-value : goal.returns-clause-value
returns-clause-value c =
    let z = c.args.bytes.now in
    let at = c.loop-at.at in
    let none : length (drop at z) ≡ 0 = omega (arith, length-drop at z) in
    let on : Option ℕ → Option ℕ = option_map (λ k. at + k) in
    sym (ap on (item-nil c.args.quote (drop at z) none)) ∙ c.loop-at.invariant.0
