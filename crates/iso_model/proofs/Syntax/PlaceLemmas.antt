-- The tokens of a text stand in it in order.
use Rattle.std.proofs.Common.{◌≡◌, ℕ, zero, suc, ◌+◌, ◌-◌, ◌<◌, ◌≤◌, Bool, true, false, nat_lt, List, [], ◌∷◌, length, drop, refl, sym, ap, ◌∙◌, arith, Some, None}
use Rattle.std.proofs.lemmas.Bool.Decides.{nat_tests}
use Rattle.std.proofs.lemmas.List.{drop-drop, length-take-le}
use Rattle.iso_model.specs.Syntax.Token.{Shown}
use Rattle.iso_model.specs.Syntax.Lexemes.{Lexeme, lexeme}
use Rattle.iso_model.specs.Syntax.Tokens.{tokens_by, tokens_from, tokens}
use Rattle.iso_model.specs.Syntax.TokenPlaces.{StandInOrder}
use Rattle.iso_model.proofs.Syntax.LexemeLemmas.{lexeme-within}

one_on : (z : List ℕ) (at b : ℕ) (rest : List ℕ) → drop at z ≡ b ∷ rest → drop (at + 1) z ≡ rest
one_on z at b rest is = sym (drop-drop 1 at z) ∙ ap (drop 1) is

-- the tokens that a lexeme gives, where those of the rest stand in order
stand_by : (z : List ℕ) (from at : ℕ) (after : Bool) (rest : List ℕ) (l : Lexeme) (others : ℕ → Bool → List Shown) → drop at z ≡ rest → from ≤ at → after ≡ nat_lt from at
    → 1 ≤ l.1 → l.1 ≤ length rest
    → ((from : ℕ) (left : ℕ) (now : Bool) → from ≤ at + 1 + left → now ≡ nat_lt from (at + 1 + left) → StandInOrder z from (others left now))
    → StandInOrder z from (tokens_by at after rest l others)
stand_by z from at after rest (None, n) others is before gap moves within later =
    let some : from < at + 1 + (n - 1) = omega arith in
    later from (n - 1) true (omega arith) (grind (arith, nat_tests, some))
stand_by z from at after rest (Some k, n) others is before gap moves within later =
    let len = length-take-le n rest within in
    let size : at + n - at ≡ n = omega arith in
    let none : false ≡ nat_lt (at + n) (at + 1 + (n - 1)) = grind (arith, nat_tests) in (
      rw (len, size, is) refl,
      rw len (omega arith),
      before,
      gap,
      rw len (later (at + n) (n - 1) false (omega arith) none),
    )

stand_from : (z : List ℕ) (rest : List ℕ) (from left at : ℕ) (after : Bool) → drop at z ≡ rest → from ≤ at + left → after ≡ nat_lt from (at + left) → StandInOrder z from (tokens_from left at after rest)
unfolding tokens_from
stand_from z [] from left at after is before gap = tt
stand_from z (b ∷ rest) from (suc left) at after is before gap =
    let e : at + suc left ≡ at + 1 + left = omega arith in
    stand_from z rest from left (at + 1) after (one_on z at b rest is) (omega arith) (gap ∙ ap (nat_lt from) e)
stand_from z (b ∷ rest) from zero at after is before gap =
    let e : at + 0 ≡ at = omega arith in
    let within = lexeme-within (b ∷ rest) (omega arith) in
    stand_by z from at after (b ∷ rest) (lexeme (b ∷ rest)) _ is (omega arith) (gap ∙ ap (nat_lt from) e) within.0 within.1
    (λ from left now. stand_from z rest from left (at + 1) now (one_on z at b rest is))

pub tokens_stand : (z : List ℕ) → StandInOrder z 0 (tokens z)
tokens_stand z = stand_from z z 0 0 0 false refl (omega arith) refl
