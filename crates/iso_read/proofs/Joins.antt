-- Lists that are built from their last element, and the elements that are made of characters.
use Rattle.std.proofs.Common.{◌≡◌, ℕ, List, [], ◌∷◌, ◌++◌, map, chars, encode_utf8, refl, ap, sym, ◌∙◌, append-nil, append_assoc, length, arith}
use Rattle.std.proofs.lemmas.List.{map-append}
use Rattle.std.proofs.lemmas.Str.{chars-nil, chars_past_char}
use Rattle.std.specs.Str.{IsUtf8}
use Rattle.iso_model.specs.declared.terms.Term.{Term}
use Rattle.iso_model.specs.Terms.TermOf.{term_of}
use Rattle.iso_model.specs.Syntax.Lists.{dot, list_before}
use Rattle.iso_model.specs.Terms.Trees.{Tree, Apply, row}

-- the last element may stand before the tail
pub list_longer : (ts : List Tree) (t tail : Tree) → list_before (ts ++ t ∷ []) tail ≡ list_before ts (Apply dot (row (t ∷ tail ∷ [])))
list_longer [] t tail = refl
list_longer (first ∷ ts) t tail = ap (λ (others : Tree). Apply dot (row (first ∷ others ∷ []))) (list_longer ts t tail)

-- a character is taken from the text, and what it makes stands behind the others
pub character_taken : (f : ℕ → Tree) (old new : List Term) (term : Term) (text others : List ℕ) (all : List Tree) (c : ℕ) → IsUtf8 text → text ≡ encode_utf8 c ++ others → new ≡ old ++ term ∷ [] → term_of term ≡ f c
    → map term_of old ++ map f (chars text) ≡ all → map term_of new ++ map f (chars others) ≡ all
character_taken f old new term text others all c utf8 splits items made is =
    ap (λ (ts : List Term). map term_of ts ++ map f (chars others)) items
    ∙ ap (λ (ts : List Tree). ts ++ map f (chars others)) (map-append term_of old (term ∷ []))
    ∙ append_assoc (map term_of old) (term_of term ∷ []) (map f (chars others))
    ∙ ap (λ (t : Tree). map term_of old ++ t ∷ map f (chars others)) made
    ∙ ap (λ (cs : List ℕ). map term_of old ++ map f cs) (sym (chars_past_char text others c utf8 splits))
    ∙ is

empty_text : (text : List ℕ) → length text ≡ 0 → text ≡ []
empty_text [] h = refl
empty_text (b ∷ text) h = absurd (omega arith)

-- no character is left
pub no_character : (f : ℕ → Tree) (terms : List Term) (text : List ℕ) (all : List Tree) → length text ≡ 0 → map term_of terms ++ map f (chars text) ≡ all → map term_of terms ≡ all
no_character f terms text all none is =
    sym (append-nil (map term_of terms))
    ∙ ap (λ (cs : List ℕ). map term_of terms ++ map f cs) (sym (ap chars (empty_text text none) ∙ chars-nil))
    ∙ is
