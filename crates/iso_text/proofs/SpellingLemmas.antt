-- Words for the characters of a text, one by one.
use Rattle.std.proofs.Common.{◌≡◌, ℕ, List, [], ◌∷◌, ◌++◌, map, length, chars, encode_utf8, refl, ap, ap₂, sym, ◌∙◌, append_assoc, append-nil}
use Rattle.std.proofs.lemmas.List.{map-append}
use Rattle.std.proofs.lemmas.List.Elements.{All-head, All-tail, All-same, All-weaker, All-push}
use Rattle.std.proofs.lemmas.Str.{chars_past_char, IsUtf8-past_char}
use Rattle.std.specs.List.{All}
use Rattle.std.specs.Str.{IsUtf8}
use Rattle.iso_model.specs.Terms.Trees.{Tree}
use Rattle.iso_model.specs.Terms.Substitutions.{apply}
use Rattle.iso_store_core.specs.Presents.{Present, Holds, meaning, KeepsWords}
use Rattle.iso_lib_core.specs.Lists.{Comes}
use Rattle.iso_text.proofs.CharacterLemmas.{no_characters}

-- From p to q the words came for what f makes of the characters before the rest of the text.
pub record SpelledSoFar {W : Type 0} (p q : Present W) (f : ℕ → Tree) (text rest : List ℕ) (ws : List W) : Type 0 where
  pub utf8 : IsUtf8 rest
  pub words : KeepsWords p q
  pub substitution : q.substitution ≡ p.substitution
  pub hold : All (λ w. Holds q w) ws
  pub values : map (meaning q) ws ++ map f (chars rest) ≡ map f (chars text)

-- words that stand stand for the same terms
stands_same : {W : Type 0} (p q : Present W) → KeepsWords p q → q.substitution ≡ p.substitution → (ws : List W) → All (λ w. Holds p w) ws → map (meaning q) ws ≡ map (meaning p) ws
stands_same p q kept same [] hold = refl
stands_same p q kept same (w ∷ ws) hold =
    ap₂ (λ (t : Tree) (ts : List Tree). t ∷ ts) (ap₂ apply same (kept.terms w (All-head (λ v. Holds p v) w ws hold))) (stands_same p q kept same ws (All-tail (λ v. Holds p v) w ws hold))

-- the word for the next character came
pub spelling_goes_on : {W : Type 0} (p m q : Present W) (f : ℕ → Tree) (text rest others : List ℕ) (ws more : List W) (w : W) (c : ℕ) → SpelledSoFar p m f text rest ws → rest ≡ encode_utf8 c ++ others → Comes m q w (f c)
    → more ≡ ws ++ w ∷ [] → SpelledSoFar p q f text others more
spelling_goes_on {W = W} p m q f text rest others ws more w c so_far splits came pushed = record {
  utf8 = IsUtf8-past_char rest others c so_far.utf8 splits;
  words = record {
    stand = λ v h. came.words.stand v (so_far.words.stand v h);
    terms = λ v h. came.words.terms v (so_far.words.stand v h) ∙ so_far.words.terms v h;
  };
  substitution = came.substitution ∙ so_far.substitution;
  hold = All-same (λ v. Holds q v) more (ws ++ w ∷ []) pushed
      (All-push (λ v. Holds q v) ws w (All-weaker (λ v. Holds m v) (λ v. Holds q v) came.words.stand ws so_far.hold) came.holds);
  values = ap (λ (vs : List W). map (meaning q) vs ++ map f (chars others)) pushed
      ∙ ap (λ (ts : List Tree). ts ++ map f (chars others)) (map-append (meaning q) ws (w ∷ []))
      ∙ append_assoc (map (meaning q) ws) (meaning q w ∷ []) (map f (chars others))
      ∙ ap₂ (λ (ts : List Tree) (t : Tree). ts ++ t ∷ map f (chars others)) (stands_same m q came.words came.substitution ws so_far.hold) came.value
      ∙ ap (λ (cs : List ℕ). map (meaning m) ws ++ map f cs) (sym (chars_past_char rest others c so_far.utf8 splits))
      ∙ so_far.values;
}

-- no character is left
pub spelling_ends : {W : Type 0} (p q : Present W) (f : ℕ → Tree) (text rest : List ℕ) (ws : List W) → SpelledSoFar p q f text rest ws → length rest ≡ 0 → map (meaning q) ws ≡ map f (chars text)
spelling_ends p q f text rest ws so_far none =
    sym (append-nil (map (meaning q) ws))
    ∙ ap (λ (cs : List ℕ). map (meaning q) ws ++ map f cs) (sym (no_characters rest none))
    ∙ so_far.values
