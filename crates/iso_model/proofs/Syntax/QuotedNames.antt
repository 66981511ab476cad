-- A quoted name is one token, and stands for the name.
use Rattle.std.proofs.Common.{◌≡◌, ℕ, zero, suc, ◌+◌, ◌-◌, ◌≤◌, false, cond, ◌==◌, List, [], ◌∷◌, ◌++◌, length, length-append, slice_index, take, drop, take-append-drop, drop_at, refl, ap, ◌∙◌, append_assoc, Some, option_map, arith}
use Rattle.std.proofs.lemmas.Bool.{cond_both}
use Rattle.iso_model.specs.Syntax.Characters.{is_continuation, run}
use Rattle.iso_model.specs.Syntax.Quoted.{Closes, Stands, piece_at, len_from, content_from, item_len, item_content}
use Rattle.iso_model.specs.Syntax.Token.{QuotedToken}
use Rattle.iso_model.specs.Syntax.Lexemes.{lexeme, quoted}
use Rattle.iso_model.specs.Syntax.Pieces.{run_together, last_byte}
use Rattle.iso_model.proofs.Syntax.RunLexemes.{Apart, IsLone}
use Rattle.iso_model.specs.Syntax.Texts.{quoted_byte, quoted_bytes}
use Rattle.iso_model.proofs.Syntax.QuotedLemmas.{item-stands, item-closes, content-stands, content-closes}
use Rattle.iso_model.proofs.Syntax.QuotedBytes.{Spelled, as_it_is, by_escape, spelled}

abbrev written : List ℕ → List ℕ → List ℕ
written name rest = quoted_bytes name ++ 39 ∷ rest

abbrev follows : List ℕ → ℕ
follows z = run is_continuation z

-- bytes that go on with a character are written as they are
step_follows : (b : ℕ) (z rest text : List ℕ) → Spelled b text → follows (written z rest) ≡ follows z → follows ((text ++ quoted_bytes z) ++ 39 ∷ rest) ≡ follows (b ∷ z)
step_follows b z rest text (as_it_is e quote line slash) h = rw e (ap (λ n. cond (is_continuation b) (1 + n) 0) h)
step_follows b z rest text (by_escape behind e first is) h = rw (e, first) refl

same_follows : (z rest : List ℕ) → follows (written z rest) ≡ follows z
same_follows [] rest = refl
same_follows (b ∷ z) rest = step_follows b z rest (quoted_byte b) (spelled b) (same_follows z rest)

one_taken : (b n : ℕ) (v w : List ℕ) → take n v ≡ take n w → take (1 + n) (b ∷ v) ≡ take (1 + n) (b ∷ w)
one_taken b n v w h = let e : 1 + n ≡ suc n = omega arith in rw e (ap (λ x. b ∷ x) h)

step_taken : (b : ℕ) (z rest text : List ℕ) → Spelled b text → take (follows z) (written z rest) ≡ take (follows z) z
    → take (follows (b ∷ z)) ((text ++ quoted_bytes z) ++ 39 ∷ rest) ≡ take (follows (b ∷ z)) (b ∷ z)
step_taken b z rest text (as_it_is e quote line slash) h =
    rw e (cond_both (is_continuation b) (1 + follows z) 0 (λ n. take n (b ∷ written z rest) ≡ take n (b ∷ z)) (λ _. one_taken b (follows z) (written z rest) z h) (λ _. refl))
step_taken b z rest text (by_escape behind e first is) h = rw first refl

same_taken : (z rest : List ℕ) → take (follows z) (written z rest) ≡ take (follows z) z
same_taken [] rest = refl
same_taken (b ∷ z) rest = step_taken b z rest (quoted_byte b) (spelled b) (same_taken z rest)

-- a character that stands as it is
bare_piece : (b : ℕ) (z : List ℕ) → (b == 39) ≡ false → (b == 10) ≡ false → (b == 92) ≡ false → piece_at 39 (b ∷ z) ≡ Stands (take (1 + follows z) (b ∷ z)) (1 + follows z)
unfolding piece_at
bare_piece b z quote line slash = rw (quote, line, slash) refl

bare_len : (b : ℕ) (z : List ℕ) → (b == 39) ≡ false → (b == 10) ≡ false → (b == 92) ≡ false → len_from 39 0 (b ∷ z) ≡ option_map suc (len_from 39 (follows z) z)
unfolding len_from
bare_len b z quote line slash =
    let e : 1 + follows z - 1 ≡ follows z = omega arith in rw (bare_piece b z quote line slash) (ap (λ n. option_map suc (len_from 39 n z)) e)

bare_content : (b : ℕ) (z : List ℕ) → (b == 39) ≡ false → (b == 10) ≡ false → (b == 92) ≡ false
    → content_from 39 0 (b ∷ z) ≡ take (1 + follows z) (b ∷ z) ++ content_from 39 (follows z) z
unfolding content_from
bare_content b z quote line slash =
    let e : 1 + follows z - 1 ≡ follows z = omega arith in
    rw (bare_piece b z quote line slash) (ap (λ n. take (1 + follows z) (b ∷ z) ++ content_from 39 n z) e)

closing : (rest : List ℕ) → (slice_index rest 0 == 39) ≡ false → piece_at 39 (39 ∷ rest) ≡ Closes
unfolding piece_at
closing rest h = rw h refl

past_len : (left b : ℕ) (z : List ℕ) → len_from 39 (suc left) (b ∷ z) ≡ option_map suc (len_from 39 left z)
unfolding len_from
past_len left b z = refl

past_content : (left b : ℕ) (z : List ℕ) → content_from 39 (suc left) (b ∷ z) ≡ content_from 39 left z
unfolding content_from
past_content left b z = refl

-- The rest of a name with the quote that closes it is an item that stands for it, where so many bytes are left of a piece.
record IsRead (left : ℕ) (name text : List ℕ) (bytes : ℕ) : Type 0 where
  len : len_from 39 left text ≡ Some (bytes + 1)
  content : content_from 39 left text ≡ drop left name

closing_read : (rest : List ℕ) → (slice_index rest 0 == 39) ≡ false → IsRead 0 [] (39 ∷ rest) 0
closing_read rest off = record { len = item-closes 39 (39 ∷ rest) (omega arith) (closing rest off); content = content-closes 39 (39 ∷ rest) (omega arith) (closing rest off) }

past_read : (left b : ℕ) (z text : List ℕ) (bytes : ℕ) → IsRead left z text bytes → IsRead (suc left) (b ∷ z) (b ∷ text) (suc bytes)
past_read left b z text bytes h =
    let e : suc (bytes + 1) ≡ suc bytes + 1 = omega arith in
    record { len = past_len left b text ∙ ap (option_map suc) h.len ∙ ap Some e; content = past_content left b text ∙ h.content }

bare_read : (b : ℕ) (z text : List ℕ) (bytes : ℕ) → (b == 39) ≡ false → (b == 10) ≡ false → (b == 92) ≡ false → follows text ≡ follows z → take (follows z) text ≡ take (follows z) z
    → IsRead (follows z) z text bytes → IsRead 0 (b ∷ z) (b ∷ text) (suc bytes)
bare_read b z text bytes quote line slash same taken h =
    let e : suc (bytes + 1) ≡ suc bytes + 1 = omega arith in
    let n = follows z in
    record {
      len = bare_len b text quote line slash ∙ ap (λ k. option_map suc (len_from 39 k text)) same ∙ ap (option_map suc) h.len ∙ ap Some e;
      content = bare_content b text quote line slash ∙ ap (λ k. take (1 + k) (b ∷ text) ++ content_from 39 k text) same ∙ ap (λ x. take (1 + n) (b ∷ text) ++ x) h.content
          ∙ ap (λ x. x ++ drop n z) (one_taken b n text z taken) ∙ whole b n z;
    }
  where
    whole : (b n : ℕ) (z : List ℕ) → take (1 + n) (b ∷ z) ++ drop n z ≡ b ∷ z
    whole b n z = let e : 1 + n ≡ suc n = omega arith in rw e (ap (λ x. b ∷ x) (take-append-drop n z))

escape_read : (b : ℕ) (z behind text : List ℕ) (bytes : ℕ) → piece_at 39 (92 ∷ (behind ++ text)) ≡ Stands (b ∷ []) (1 + length behind) → IsRead 0 z text bytes
    → IsRead 0 (b ∷ z) (92 ∷ (behind ++ text)) (suc (length behind + bytes))
escape_read b z behind text bytes is h =
    let all = 92 ∷ (behind ++ text) in
    let len = 1 + length behind in
    let others : drop len all ≡ text = drop_at (92 ∷ behind) text len (omega arith) in
    let e : len + (bytes + 1) ≡ suc (length behind + bytes) + 1 = omega arith in
    record {
      len = item-stands 39 all (b ∷ []) len (omega arith) (omega arith) is ∙ ap (λ x. option_map (λ k. len + k) (len_from 39 0 x)) others ∙ ap (option_map (λ k. len + k)) h.len ∙ ap Some e;
      content = content-stands 39 all (b ∷ []) len (omega arith) (omega arith) is ∙ ap (λ x. b ∷ content_from 39 0 x) others ∙ ap (λ x. b ∷ x) h.content;
    }

read_step : (left b : ℕ) (z rest text : List ℕ) → Spelled b text → ((left : ℕ) → left ≤ follows z → IsRead left z (written z rest) (length (quoted_bytes z))) → left ≤ follows (b ∷ z)
    → IsRead left (b ∷ z) ((text ++ quoted_bytes z) ++ 39 ∷ rest) (length (text ++ quoted_bytes z))
read_step zero b z rest text (as_it_is e quote line slash) others h =
    rw e (bare_read b z (written z rest) (length (quoted_bytes z)) quote line slash (same_follows z rest) (same_taken z rest) (others (follows z) (omega arith)))
read_step (suc left) b z rest text (as_it_is e quote line slash) others h =
    rw e (past_read left b z (written z rest) (length (quoted_bytes z)) (others left (cond_both (is_continuation b) (1 + follows z) 0 (λ n. suc left ≤ n → left ≤ follows z) (λ _ k. omega arith) (λ _ k. absurd (omega arith)) h)))
read_step zero b z rest text (by_escape behind e first is) others h =
    let same = append_assoc (92 ∷ behind) (quoted_bytes z) (39 ∷ rest) in
    let bytes : suc (length behind + length (quoted_bytes z)) ≡ length ((92 ∷ behind) ++ quoted_bytes z) = omega (arith, length-append behind (quoted_bytes z)) in
    rw (e, same, ← bytes) (escape_read b z behind (written z rest) (length (quoted_bytes z)) (is (written z rest)) (others 0 (omega arith)))
read_step (suc left) b z rest text (by_escape behind e first is) others h = let none : suc left ≤ 0 = rw first at h in absurd (omega arith)

read_rest : (left : ℕ) (name rest : List ℕ) → (slice_index rest 0 == 39) ≡ false → left ≤ follows name → IsRead left name (written name rest) (length (quoted_bytes name))
read_rest zero [] rest off h = closing_read rest off
read_rest (suc left) [] rest off h = absurd (omega arith)
read_rest left (b ∷ z) rest off h = read_step left b z rest (quoted_byte b) (spelled b) (λ l k. read_rest l z rest off k) h

last_end : (xs : List ℕ) (b : ℕ) → last_byte (xs ++ b ∷ []) ≡ b
last_end [] b = refl
last_end (x ∷ []) b = refl
last_end (x ∷ y ∷ z) b = last_end (y ∷ z) b

quote_ends : (first : ℕ) → run_together 39 first ≡ false → (first == 39) ≡ false
quote_ends first h = h

abbrev pub in_quotes : List ℕ → List ℕ
in_quotes name = 39 ∷ (quoted_bytes name ++ 39 ∷ [])

quoted_lexeme : (z : List ℕ) → lexeme (39 ∷ z) ≡ quoted QuotedToken 39 (39 ∷ z)
unfolding lexeme
quoted_lexeme z = refl

read_quoted : (z : List ℕ) (bytes : ℕ) → item_len 39 z ≡ Some bytes → quoted QuotedToken 39 (39 ∷ z) ≡ (Some QuotedToken, 1 + bytes)
read_quoted z bytes is = rw is refl

-- a name in quotes is one token
pub quoted_lone : (name : List ℕ) → IsLone QuotedToken (in_quotes name)
quoted_lone name = record { some = omega arith; lexes = lexes }
  where
    lexes : (rest : List ℕ) → Apart (in_quotes name) rest → lexeme (in_quotes name ++ rest) ≡ (Some QuotedToken, length (in_quotes name))
    lexes rest apart =
        let last : last_byte (in_quotes name) ≡ 39 = last_end (39 ∷ quoted_bytes name) 39 in
        let off = quote_ends (slice_index rest 0) (rw last at apart) in
        let same : (quoted_bytes name ++ 39 ∷ []) ++ rest ≡ written name rest = append_assoc (quoted_bytes name) (39 ∷ []) rest in
        let len : 1 + (length (quoted_bytes name) + 1) ≡ length (in_quotes name) = omega (arith, length-append (quoted_bytes name) (39 ∷ [])) in
        ap (λ z. lexeme (39 ∷ z)) same ∙ quoted_lexeme (written name rest)
        ∙ read_quoted (written name rest) (length (quoted_bytes name) + 1) (read_rest 0 name rest off (omega arith)).len ∙ ap (λ n. (Some QuotedToken, n)) len

-- which stands for the name
pub quoted_content : (name : List ℕ) → item_content 39 (quoted_bytes name ++ 39 ∷ []) ≡ name
quoted_content name = (read_rest 0 name [] refl (omega arith)).content
