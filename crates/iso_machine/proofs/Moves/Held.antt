-- The arguments that were put are those of a call that is kept, as words come and go.
use Rattle.std.proofs.Common.{◌≡◌, List, length, take, drop, ap, sym, ◌∙◌, arith}
use Rattle.std.proofs.lemmas.List.{length-append, length-take-le}
use Rattle.iso_plain_core.specs.Entering.{Adds}
use Rattle.iso_machine.specs.declared.framed.Framed.{Framed}
use Rattle.iso_machine.specs.declared.shallow.Unpushed.{Unpushed}
use Rattle.iso_machine.specs.Unpushed.{HoldsCall}
use Rattle.iso_machine.proofs.FrameLemmas.{part_front, part_taken}

module _ {S W M : Type 0} (l m : Framed S W M) (u : Unpushed M) (arguments : m.arguments ≡ l.arguments)
    (h : HoldsCall l u) where
  -- words came
  pub held_on : Adds l.words.items m.words.items → HoldsCall m u
  held_on words =
      let within = h.within in
      let stood = h.stood in
      let long = ap length words.1 in
      let both = length-append l.words.items words.0 in
      record {
        within = h.within;
        stood = omega (arith, stood, long, both);
        are =
            ap (λ (ws : List W). take (u.call).count (drop (u.call).start ws)) words.1
            ∙ (part_front (u.call).start (u.call).count l.words.items words.0 (omega (arith, within, stood))
            ∙ (h.are ∙ sym (ap (λ (v : _). v.items) arguments)));
      }

  -- so many are left
  pub held_back : m.words.items ≡ take (u.kept).words l.words.items → HoldsCall m u
  held_back words =
      let stood = h.stood in
      let long = ap length words ∙ length-take-le (u.kept).words l.words.items h.stood in
      record {
        within = h.within;
        stood = omega (arith, long);
        are =
            ap (λ (ws : List W). take (u.call).count (drop (u.call).start ws)) words
            ∙ (part_taken (u.call).start (u.call).count (u.kept).words l.words.items h.within
            ∙ (h.are ∙ sym (ap (λ (v : _). v.items) arguments)));
      }
