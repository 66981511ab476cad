-- Which parts of an atom suit at a place.
use Rattle.std.proofs.Common.{inl, inr, ◌≡◌, ℕ, zero, suc, ◌-◌, ◌≤◌, ◌==◌, ◌&&◌, List, [], ◌∷◌, length, take, chars, refl, ap, ap₂, sym, ◌∙◌, Bool, true, false, Option, Some, None, arith}
use Rattle.std.proofs.lemmas.List.{length-take-le}
use Rattle.std.proofs.lemmas.Bool.Decides.{Decides-eqb, eqb_tells}
use Rattle.std.proofs.lemmas.Slice.Eq.{bytes_eq-Decides}
use Rattle.std.proofs.lemmas.Str.{chars-encodes}
use Rattle.std.proofs.Math.Utf8.{scalar, scalars}
use Rattle.std.specs.Str.{bytes_eq, encode_utf8_all}
use Rattle.iso_text.specs.declared.sub_atoms.Asked.{Asked}
use Rattle.iso_text.specs.Bounds.{allows, allows_text, begins, counted_of, length_suits, suits_here, PassFrom}

-- the same numbers pass two tests
pub pass_same : (f g : ℕ → Bool) (most least more : ℕ) → ((n : ℕ) → n ≤ most → f n ≡ g n) → PassFrom g most least more → PassFrom f most least more
pass_same f g most least more same pass =
    let within = pass.within in
    record {
      within = within;
      below = λ n h. same n (omega arith) ∙ pass.below n h;
      here = λ n h k. same n (omega arith) ∙ pass.here n h k;
      above = λ n h k. same n k ∙ pass.above n h k;
    }

and_true : (a b : Bool) → a ≡ true → (a && b) ≡ b
and_true true b h = refl
and_true false b h = absurd cc

and_false : (a b : Bool) → b ≡ false → (a && b) ≡ false
and_false true b h = h
and_false false b h = refl

and_parts : (a b : Bool) → (a && b) ≡ true → (a ≡ true) × (b ≡ true)
and_parts true b h = (refl, h)
and_parts false b h = absurd cc

scalars_take : (n : ℕ) (cs : List ℕ) → scalars cs ≡ true → scalars (take n cs) ≡ true
scalars_take zero cs h = refl
scalars_take (suc n) [] h = refl
scalars_take (suc n) (c ∷ cs) h =
    let each = and_parts (scalar c) (scalars cs) h in
    and_true (scalar c) (scalars (take n cs)) each.0 ∙ scalars_take n cs each.1

-- the first characters are another text's only if they are as many
as_many : (a after : List ℕ) (n : ℕ) → scalars after ≡ true → n ≤ length after → bytes_eq a (encode_utf8_all (take n after)) ≡ true → length (chars a) ≡ n
as_many a after n fine within same =
    let is = (bytes_eq-Decides a (encode_utf8_all (take n after))).0 same in
    ap (λ (bs : List ℕ). length (chars bs)) is ∙ ap length (chars-encodes (take n after) (scalars_take n after fine)) ∙ length-take-le n after within

false_unless : (b : Bool) → (b ≡ true → b ≡ false) → b ≡ false
false_unless true h = h refl
false_unless false h = refl

text_is : (a after : List ℕ) (n : ℕ) → scalars after ≡ true → n ≤ length after → begins (Some a) after ≡ true → bytes_eq a (encode_utf8_all (take n after)) ≡ (length (chars a) == n)
text_is a after n fine within first =
    let k = length (chars a) in
    elim (eqb_tells k n) [
      | inl h ↦ ap (λ (m : ℕ). bytes_eq a (encode_utf8_all (take m after))) (sym h.1) ∙ first ∙ sym h.0
      | inr h ↦ false_unless (bytes_eq a (encode_utf8_all (take n after))) (λ same. absurd (h.1 (as_many a after n fine within same))) ∙ sym h.0
    ]

text_counts : (text : Option (List ℕ)) (after : List ℕ) (n : ℕ) → scalars after ≡ true → n ≤ length after → begins text after ≡ true → allows_text text (encode_utf8_all (take n after)) ≡ allows (counted_of text) n
text_counts None after n fine within first = refl
text_counts (Some a) after n fine within first = text_is a after n fine within first

-- a text that suits is as long as the one that is given
counts_if : (text : Option (List ℕ)) (after : List ℕ) (n : ℕ) → scalars after ≡ true → n ≤ length after → allows_text text (encode_utf8_all (take n after)) ≡ true → allows (counted_of text) n ≡ true
counts_if None after n fine within suits = refl
counts_if (Some a) after n fine within suits = (Decides-eqb (length (chars a)) n).1 (as_many a after n fine within suits)

begins_if : (text : Option (List ℕ)) (after : List ℕ) (n : ℕ) → scalars after ≡ true → n ≤ length after → allows_text text (encode_utf8_all (take n after)) ≡ true → begins text after ≡ true
begins_if None after n fine within suits = refl
begins_if (Some a) after n fine within suits = ap (λ (m : ℕ). bytes_eq a (encode_utf8_all (take m after))) (as_many a after n fine within suits) ∙ suits

rotate : (l r t : Bool) → (l && (r && t)) ≡ (t && (l && r))
rotate true true true = refl
rotate true true false = refl
rotate true false true = refl
rotate true false false = refl
rotate false r true = refl
rotate false r false = refl

-- the place is the one that is asked for, and the rest begins with the text that is given: the length decides
pub suits_by_length : (asked : Asked) (text : Option (List ℕ)) (before rest n : ℕ) (after : List ℕ) → asked.counted ≡ counted_of text → rest ≡ length after → scalars after ≡ true → n ≤ rest
    → allows asked.before before ≡ true → begins text after ≡ true → suits_here asked text before after n ≡ length_suits asked rest n
suits_by_length asked text before rest n after counted all fine within here first =
    let suitable : n ≤ length after = omega (arith, all, within) in
    let t = allows_text text (encode_utf8_all (take n after)) in
    let l = allows asked.length n in
    and_true (allows asked.before before) (l && (allows asked.behind (length after - n) && t)) here
    ∙ rotate l (allows asked.behind (length after - n)) t
    ∙ ap (λ (b : Bool). b && (l && allows asked.behind (length after - n))) (text_counts text after n fine suitable first)
    ∙ ap₂ (λ (c : Option ℕ) (m : ℕ). allows c n && (l && allows asked.behind (m - n))) (sym counted) (sym all)

-- a part that suits has a length that suits
length_if : (asked : Asked) (text : Option (List ℕ)) (before rest n : ℕ) (after : List ℕ) → asked.counted ≡ counted_of text → rest ≡ length after → scalars after ≡ true → n ≤ rest
    → suits_here asked text before after n ≡ true → (begins text after ≡ true) × (allows asked.before before ≡ true) × (length_suits asked rest n ≡ true)
length_if asked text before rest n after counted all fine within suits =
    let suitable : n ≤ length after = omega (arith, all, within) in
    let t = allows_text text (encode_utf8_all (take n after)) in
    let l = allows asked.length n in
    let r = allows asked.behind (length after - n) in
    let one = and_parts (allows asked.before before) (l && (r && t)) suits in
    let two = and_parts l (r && t) one.1 in
    let three = and_parts r t two.1 in
    let first = begins_if text after n fine suitable three.1 in
    (first, one.0, sym (suits_by_length asked text before rest n after counted all fine within one.0 first) ∙ suits)

-- none suits
pub none_suits : (asked : Asked) (text : Option (List ℕ)) (before rest n : ℕ) (after : List ℕ) → asked.counted ≡ counted_of text → rest ≡ length after → scalars after ≡ true → n ≤ rest
    → ((begins text after ≡ true) × (allows asked.before before ≡ true) × (length_suits asked rest n ≡ true) → true ≡ false) → suits_here asked text before after n ≡ false
none_suits asked text before rest n after counted all fine within fails =
    false_unless (suits_here asked text before after n) (λ suits. suits ∙ fails (length_if asked text before rest n after counted all fine within suits))
