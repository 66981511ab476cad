-- Marks, and names and variables that stand bare, are one token each.
use Rattle.std.proofs.Common.{◌≡◌, ℕ, Bool, true, false, ◌&&◌, ◌==◌, List, [], ◌∷◌, ◌++◌, length, slice_index, drop, refl, ap, ◌∙◌, Some, codes, arith}
use Rattle.std.specs.List.{list_all}
use Rattle.std.specs.Str.{bytes_eq}
use Rattle.std.proofs.lemmas.Bool.{and_parts, and_from, or_parts, and_left, and_right, both_ways, false_from_ne_true, ne_eqb, eqb-true}
use Rattle.std.proofs.lemmas.Slice.Eq.{bytes_eq-Decides}
use Rattle.std.proofs.lemmas.Bool.Decides.{nat_tests}
use Rattle.iso_model.specs.Syntax.Characters.{is_layout, is_small, is_alphanumeric, is_graphic, is_punctuation, run}
use Rattle.iso_model.specs.Syntax.Token.{NameToken, VariableToken, PunctToken}
use Rattle.iso_model.specs.Syntax.Lexemes.{lexeme, symbol, graphic, stops_clause}
use Rattle.iso_model.specs.Syntax.Texts.{opens_comment}
use Rattle.iso_model.specs.Syntax.Pieces.{run_together, last_byte}
use Rattle.iso_model.proofs.Syntax.LexemeLemmas.{lexeme-symbol, BeginsSymbol}
use Rattle.iso_model.proofs.Syntax.RunLexemes.{run_all, last_of, Apart, IsLone}

-- what doesn't run together with a letter, digit or `_`
pub word_ends : (last first : ℕ) → run_together last first ≡ false → is_alphanumeric last ≡ true → is_alphanumeric first ≡ false
word_ends last first h is = let parts = or_parts (is_alphanumeric last && is_alphanumeric first) _ h in rw is at parts.0

graphic_ends : (last first : ℕ) → run_together last first ≡ false → is_graphic last ≡ true → is_graphic first ≡ false
graphic_ends last first h is =
    let parts = or_parts (is_alphanumeric last && is_alphanumeric first) _ h in
    let others = or_parts (is_graphic last && is_graphic first) _ parts.1 in
    rw is at others.0

-- what a text of letters, digits and `_` is, by its first byte
word_lexeme : (b : ℕ) (z rest : List ℕ) → list_all is_alphanumeric (b ∷ z) ≡ true → Apart (b ∷ z) rest → run is_alphanumeric (b ∷ (z ++ rest)) ≡ length (b ∷ z)
word_lexeme b z rest all apart = run_all is_alphanumeric (b ∷ z) rest all (word_ends (last_byte (b ∷ z)) (slice_index rest 0) apart (last_of is_alphanumeric (b ∷ z) (omega arith) all))

small_first : (b : ℕ) → is_small b ≡ true → (is_layout b ≡ false) × ((b == 37) ≡ false) × (is_alphanumeric b ≡ true)
small_first b h = (grind (arith, nat_tests), grind (arith, nat_tests), grind (arith, nat_tests))

small_lexeme : (z : List ℕ) → is_layout (slice_index z 0) ≡ false → (slice_index z 0 == 37) ≡ false → is_small (slice_index z 0) ≡ true → lexeme z ≡ (Some NameToken, run is_alphanumeric z)
unfolding lexeme
small_lexeme z layout percent small = rw (layout, percent, small) refl

pub small_lone : (b : ℕ) (z : List ℕ) → is_small b ≡ true → list_all is_alphanumeric z ≡ true → IsLone NameToken (b ∷ z)
small_lone b z h all =
    let first = small_first b h in
    let whole : list_all is_alphanumeric (b ∷ z) ≡ true = and_from _ _ first.2 all in
    record {
      some = omega arith;
      lexes = λ rest apart. small_lexeme (b ∷ (z ++ rest)) first.0 first.1 h ∙ ap (λ n. (Some NameToken, n)) (word_lexeme b z rest whole apart);
    }

pub variable_lone : (z : List ℕ) → list_all is_alphanumeric z ≡ true → IsLone VariableToken (95 ∷ z)
unfolding lexeme
variable_lone z all = record {
  some = omega arith;
  lexes = λ rest apart. ap (λ n. (Some VariableToken, n)) (word_lexeme 95 z rest all apart);
}

-- `!` and `;`
pub cut_lone : IsLone NameToken (codes "!")
unfolding lexeme
cut_lone = record { some = omega arith; lexes = λ rest apart. refl }

pub or_lone : IsLone NameToken (codes ";")
unfolding lexeme
or_lone = record { some = omega arith; lexes = λ rest apart. refl }

mark_begins : (b : ℕ) → is_punctuation b ≡ true → BeginsSymbol b
mark_begins b h = record {
  percent = grind (arith, nat_tests);
  small = grind (arith, nat_tests);
  variable = grind (arith, nat_tests);
  digit = grind (arith, nat_tests);
  single = grind (arith, nat_tests);
  double = grind (arith, nat_tests);
}

mark_byte : (b : ℕ) → is_punctuation b ≡ true → (is_layout b ≡ false) × ((b == 47) ≡ false) × (is_graphic b ≡ false)
mark_byte b h = (grind (arith, nat_tests), grind (arith, nat_tests), grind (arith, nat_tests))

-- a bracket, comma or bar is a token before anything
pub mark_lexeme : (b : ℕ) (rest : List ℕ) → is_punctuation b ≡ true → lexeme (b ∷ rest) ≡ (Some PunctToken, 1)
mark_lexeme b rest h = let first = mark_byte b h in lexeme-symbol (b ∷ rest) first.0 (mark_begins b h) ∙ rw (first.2, first.1, h) refl

pub mark_lone : (b : ℕ) → is_punctuation b ≡ true → IsLone PunctToken (b ∷ [])
mark_lone b h = record { some = omega arith; lexes = λ rest apart. mark_lexeme b rest h }

graphic_begins : (b : ℕ) → is_graphic b ≡ true → BeginsSymbol b
graphic_begins b h = record {
  percent = grind (arith, nat_tests);
  small = grind (arith, nat_tests);
  variable = grind (arith, nat_tests);
  digit = grind (arith, nat_tests);
  single = grind (arith, nat_tests);
  double = grind (arith, nat_tests);
}

graphic_layout : (b : ℕ) → is_graphic b ≡ true → is_layout b ≡ false
graphic_layout b h = grind (arith, nat_tests)

no_star : (b : ℕ) → is_graphic b ≡ false → (b == 42) ≡ false
no_star b h = grind (arith, nat_tests)

no_comment : (b : ℕ) (z rest : List ℕ) → opens_comment (b ∷ z) ≡ false → is_graphic (slice_index rest 0) ≡ false → (b == 47 && slice_index (b ∷ (z ++ rest)) 1 == 42) ≡ false
no_comment b [] rest none stops = and_right (b == 47) _ (no_star (slice_index rest 0) stops)
no_comment b (c ∷ z) rest none stops = none

no_full_stop : (b : ℕ) → bytes_eq (b ∷ []) (codes ".") ≡ false → (b == 46) ≡ false
no_full_stop b other = false_from_ne_true (b == 46) (λ e. both_ways _ other ((bytes_eq-Decides (b ∷ []) (codes ".")).1 (ap (λ x. x ∷ []) (eqb-true b 46 e))))

no_stop : (b : ℕ) (z : List ℕ) (stops : Bool) → bytes_eq (b ∷ z) (codes ".") ≡ false → (length (b ∷ z) == 1 && (b == 46 && stops)) ≡ false
no_stop b [] stops other = and_left (b == 46) stops (no_full_stop b other)
no_stop b (c ∷ z) stops other = and_left _ _ (ne_eqb (length (b ∷ c ∷ z)) 1 (λ e. omega (arith, e)))

symbol_graphic : (z : List ℕ) → (slice_index z 0 == 47 && slice_index z 1 == 42) ≡ false → is_graphic (slice_index z 0) ≡ true → symbol z ≡ graphic z
symbol_graphic z none h = rw none (rw h refl)

graphic_name : (z : List ℕ) (n : ℕ) → run is_graphic z ≡ n → (n == 1 && (slice_index z 0 == 46 && stops_clause (drop 1 z))) ≡ false → graphic z ≡ (Some NameToken, n)
graphic_name z n is stays = rw (is, stays) refl

pub graphic_lone : (b : ℕ) (z : List ℕ) → list_all is_graphic (b ∷ z) ≡ true → bytes_eq (b ∷ z) (codes ".") ≡ false → opens_comment (b ∷ z) ≡ false → IsLone NameToken (b ∷ z)
graphic_lone b z all other none = record { some = omega arith; lexes = lexes }
  where
    lexes : (rest : List ℕ) → Apart (b ∷ z) rest → lexeme (b ∷ (z ++ rest)) ≡ (Some NameToken, length (b ∷ z))
    lexes rest apart =
        let first = (and_parts (is_graphic b) _ all).0 in
        let stops = graphic_ends (last_byte (b ∷ z)) (slice_index rest 0) apart (last_of is_graphic (b ∷ z) (omega arith) all) in
        let len : run is_graphic (b ∷ (z ++ rest)) ≡ length (b ∷ z) = run_all is_graphic (b ∷ z) rest all stops in
        lexeme-symbol (b ∷ (z ++ rest)) (graphic_layout b first) (graphic_begins b first)
        ∙ symbol_graphic (b ∷ (z ++ rest)) (no_comment b z rest none stops) first
        ∙ graphic_name (b ∷ (z ++ rest)) (length (b ∷ z)) len (no_stop b z (stops_clause (z ++ rest)) other)
