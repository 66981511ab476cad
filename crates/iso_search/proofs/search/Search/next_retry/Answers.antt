use Rattle.std.proofs.Common.{rules, ◌≡◌, ◌∙◌, ◌<◌, ◌-◌, Option, Some, None, IfNone, length, get_or, arith, ap}
use Rattle.std.proofs.lemmas.Option.{IfSome_then}
use Rattle.iso_search_core.proofs.StandingLemmas.{item_is, item_there}
use Rattle.iso_search.proofs.search.Search.next_retry.Goals as goal

if_none_then : {X P Q : Type 0} (o : Option X) → IfNone o P → (P → Q) → IfNone o Q
if_none_then None p then = then p
if_none_then (Some x) p then = tt

pub returns-clause-tries : goal.returns-clause-tries
returns-clause-tries g c =
    let items = c.args.self.now.choices.items in
    let newest = c.index.result.now in
    let many : c.len.result ≡ length items = cc (c.len.ensures, c.args.self.now.choices.ok.0) in
    let some : 0 < length items = search rules in
    let there = item_there items (length items - 1) newest (omega (arith, some)) (c.index.ensures ∙ ap (λ (n : _). get_or items (n - 1) newest) many) in
    IfSome_then c.retry_of.result c.retry_of.ensures.tries (λ retry t. record { choice = newest; later = t.0; newest = there; left = t.1; rest = t.2 })

pub returns-clause-none : goal.returns-clause-none
returns-clause-none g c =
    let items = c.args.self.now.choices.items in
    let newest = c.index.result.now in
    let many : c.len.result ≡ length items = cc (c.len.ensures, c.args.self.now.choices.ok.0) in
    if_none_then c.retry_of.result c.retry_of.ensures.none
    (λ never ch attempt there tries.
    never attempt (ap (λ (x : _). x.left) (item_is items (length items - 1) ch newest there (c.index.ensures ∙ ap (λ (n : _). get_or items (n - 1) newest) many)) ∙ tries))
