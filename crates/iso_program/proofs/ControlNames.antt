-- The names of the control constructs, and that they stay theirs.
use Rattle.std.proofs.Common.{◌≡◌, ◌<◌, ◌==◌, ℕ, List, [], length, false, None, Some, codes, refl, sym, ap, ◌∙◌}
use Rattle.std.specs.List.{slice_get}
use Rattle.std.specs.Str.{bytes_eq}
use Rattle.std.proofs.lemmas.Bool.Decides.{Decides-eqb, same_from_decides}
use Rattle.std.proofs.lemmas.Option.{slice_get-get_or}
use Rattle.std.proofs.lemmas.Slice.Eq.{bytes_eq-Decides}
use Rattle.iso_atoms.specs.Texts.{EachOnce, KeepsTexts, text_at}
use Rattle.iso_store_core.proofs.AtomLemmas.{text-is}
use Rattle.iso_prep.specs.Connectives.{connective_of}
use Rattle.iso_program.specs.declared.controls.Controls.{Controls}
use Rattle.iso_program.specs.Controls.{AreControls}

-- also where names come
pub controls-kept : (old new : List (List ℕ)) (c : Controls) → KeepsTexts old new → AreControls old c → AreControls new c
controls-kept old new c keeps h = record {
  conjunction = keeps c.conjunction (codes ",") h.conjunction;
  disjunction = keeps c.disjunction (codes ";") h.disjunction;
  if_then = keeps c.if_then (codes "->") h.if_then;
  cut = keeps c.cut (codes "!") h.cut;
  call = keeps c.call (codes "call") h.call;
}

-- ---- what has which name

module _ (names : List (List ℕ)) (each : EachOnce names) (a : ℕ) (within : a < length names) where
  -- atoms are the same where their texts are
  pub named : (b : ℕ) (text : List ℕ) → slice_get names b ≡ Some text → (a == b) ≡ bytes_eq (text_at names a) text
  named b text has =
      let texts = bytes_eq-Decides (text_at names a) text in
      let there : text_at names a ≡ text → a ≡ b = λ is. each.one_place a b text (slice_get-get_or names a [] within ∙ ap Some is) has in
      let back : a ≡ b → text_at names a ≡ text = λ same. ap (text_at names) same ∙ text-is names b text has in
      same_from_decides (a == b) (bytes_eq (text_at names a) text) (Decides-eqb a b) (λ e. there (texts.0 e), λ same. texts.1 (back same))

  pub none_named : (c : Controls) → AreControls names c → (a == c.conjunction) ≡ false → (a == c.disjunction) ≡ false → (a == c.if_then) ≡ false → connective_of (text_at names a) ≡ None
  none_named c are comma bar arrow =
      let no_comma = sym (named c.conjunction (codes ",") are.conjunction) ∙ comma in
      let no_bar = sym (named c.disjunction (codes ";") are.disjunction) ∙ bar in
      let no_arrow = sym (named c.if_then (codes "->") are.if_then) ∙ arrow in
      rw (no_comma, no_bar, no_arrow) refl
