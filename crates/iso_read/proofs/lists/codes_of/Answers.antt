use Rattle.std.proofs.Common.{pos}
use Rattle.std.proofs.lemmas.Str.{IsUtf8-past_char}
use Rattle.iso_model.specs.Terms.Trees.{Integer}
use Rattle.iso_read.proofs.Joins.{character_taken, no_character}
use Rattle.iso_read.proofs.lists.codes_of.Goals as goal

pub loop-c-preserved : goal.loop-c-preserved
loop-c-preserved c =
    let h = c.loop-c.invariant in
    let steps = c.in-Some.ensures.steps.0 in (
      IsUtf8-past_char _ _ c.in-Some.c h.0 steps,
      character_taken (λ c. Integer (pos c)) c.loop-c.terms.items c.push.new.self.items _ c.loop-c.c-iterator.rest.now c.next.new.self.rest.now _ c.in-Some.c h.0 steps c.in_ok-push.ensures.items c.code.ensures h.1,
    )

pub returns : goal.returns
returns c =
    let all = no_character _ c.loop-c.terms.items c.loop-c.c-iterator.rest.now _ c.in-None.ensures.steps.0.0 c.loop-c.invariant.1 in
    rw (all, c.in_ok-end.ensures) at c.list_before.ensures
