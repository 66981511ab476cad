use Rattle.std.proofs.Common.{◌≡◌, ◌++◌, ◌∷◌, [], List, map, sym, ap, ◌∙◌, Some}
use Rattle.std.specs.List.{All}
use Rattle.std.proofs.lemmas.List.{append_assoc, map-append}
use Rattle.std.proofs.lemmas.List.Elements.{All-same, All-push, All-pop, All-append}
use Rattle.iso_store_core.specs.Presents.{Holds, meaning}
use Rattle.iso_model.specs.Search.Storages.{listed_parts}
use Rattle.iso_lib.proofs.IndicatorLemmas.{parts_left, parts_apart, weight_apart, parts_alone, weight_alone}
use Rattle.iso_lib.proofs.indicators.declared_parts.Goals as goal

pub loop-next-smaller-in-Continue-branch-4 : goal.loop-next-smaller-in-Continue-branch-4
loop-next-smaller-in-Continue-branch-4 g c =
    weight_apart (meaning (g.S.Store.present c.args.store.now)) c.loop-next.left.items c.pop.new.self.items c.push-in-Some-pair_named.new.self.items c.push-in-Some-pair_named-2.new.self.items c.in-Some.next
    c.in-Some-pair_named.both.0 c.in-Some-pair_named.both.1 c.in-Some.ensures.items c.in_ok-push-2.ensures.items c.in_ok-push-3.ensures.items c.in-Some-pair_named.ensures.parts.2

pub loop-next-preserved-in-Continue-branch-4 : goal.loop-next-preserved-in-Continue-branch-4
loop-next-preserved-in-Continue-branch-4 g c =
    let p = g.S.Store.present c.args.store.now in
    let popped = All-pop (λ w. Holds p w) c.loop-next.left.items c.pop.new.self.items (Some c.in-Some.next) c.in-Some.ensures.items c.loop-next.invariant.wait in
    record {
      hold = c.loop-next.invariant.hold;
      wait = All-same (λ w. Holds p w) c.push-in-Some-pair_named-2.new.self.items (c.push-in-Some-pair_named.new.self.items ++ c.in-Some-pair_named.both.0 ∷ []) c.in_ok-push-3.ensures.items
          (All-push (λ w. Holds p w) c.push-in-Some-pair_named.new.self.items c.in-Some-pair_named.both.0
          (All-same (λ w. Holds p w) c.push-in-Some-pair_named.new.self.items (c.pop.new.self.items ++ c.in-Some-pair_named.both.1 ∷ []) c.in_ok-push-2.ensures.items
          (All-push (λ w. Holds p w) c.pop.new.self.items c.in-Some-pair_named.both.1 popped.0 c.in-Some-pair_named.ensures.parts.1)) c.in-Some-pair_named.ensures.parts.0);
      parts = c.loop-next.invariant.parts ∙ ap (λ xs. map (meaning p) c.loop-next.parts.items ++ xs)
          (parts_apart (meaning p) c.loop-next.left.items c.pop.new.self.items c.push-in-Some-pair_named.new.self.items c.push-in-Some-pair_named-2.new.self.items c.in-Some.next
          c.in-Some-pair_named.both.0 c.in-Some-pair_named.both.1 c.in-Some.ensures.items c.in_ok-push-2.ensures.items c.in_ok-push-3.ensures.items c.in-Some-pair_named.ensures.parts.2);
    }

pub listed_parts-requires : goal.listed_parts-requires
listed_parts-requires g c = record {
  word = (All-pop (λ w. Holds (g.S.Store.present c.args.store.now) w) c.loop-next.left.items c.pop.new.self.items (Some c.in-Some.next) c.in-Some.ensures.items c.loop-next.invariant.wait).1;
}

pub loop-next-smaller : goal.loop-next-smaller
loop-next-smaller g c = weight_alone (meaning (g.S.Store.present c.args.store.now)) c.loop-next.left.items c.pop.new.self.items c.in-Some.next c.in-Some.ensures.items

pub loop-next-preserved : goal.loop-next-preserved
loop-next-preserved g c =
    let p = g.S.Store.present c.args.store.now in
    let popped = All-pop (λ w. Holds p w) c.loop-next.left.items c.pop.new.self.items (Some c.in-Some.next) c.in-Some.ensures.items c.loop-next.invariant.wait in
    let listed = c.in_ok-listed.listed.items in
    let all : c.extend_from_slice.new.self.items ≡ c.loop-next.parts.items ++ listed = c.in_ok-extend_from_slice.ensures.items ∙ ap (λ xs. c.loop-next.parts.items ++ xs) c.as_slice.ensures.value in
    record {
      hold = All-same (λ w. Holds p w) c.extend_from_slice.new.self.items (c.loop-next.parts.items ++ listed) all (All-append (λ w. Holds p w) c.loop-next.parts.items listed c.loop-next.invariant.hold c.in_ok-listed.ensures.hold);
      wait = popped.0;
      parts = c.loop-next.invariant.parts
          ∙ ap (λ xs. map (meaning p) c.loop-next.parts.items ++ xs) (parts_alone (meaning p) c.loop-next.left.items c.pop.new.self.items c.in-Some.next c.in-Some.ensures.items c.in_default-pair_named.ensures.parts
          ∙ ap (λ xs. xs ++ parts_left (map (meaning p) c.pop.new.self.items)) (sym c.in_ok-listed.ensures.parts))
          ∙ sym (append_assoc (map (meaning p) c.loop-next.parts.items) (map (meaning p) listed) (parts_left (map (meaning p) c.pop.new.self.items)))
          ∙ ap (λ xs. xs ++ parts_left (map (meaning p) c.pop.new.self.items)) (sym (map-append (meaning p) c.loop-next.parts.items listed) ∙ ap (map (meaning p)) (sym all));
    }
