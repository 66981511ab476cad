-- A quoted item and each of its pieces end where a character does.
use Rattle.std.proofs.Common.{◌≡◌, ℕ, zero, suc, ◌+◌, ◌-◌, ◌<◌, ◌≤◌, Bool, true, false, ◌==◌, if◌then◌else◌, List, [], ◌∷◌, ◌++◌, length, drop, slice_index, refl, zero-add, sym, ap, ◌∙◌, subst, arith, Option, Some, None, option_map, IsUtf8, IsCharBoundary}
use Rattle.std.proofs.lemmas.List.{length-drop, drop-drop}
use Rattle.std.proofs.lemmas.Bool.{cond_both}
use Rattle.std.proofs.lemmas.Bool.Decides.{nat_tests}
use Rattle.iso_model.specs.Syntax.Numbers.{Written}
use Rattle.iso_model.specs.Syntax.Quoted.{QuotedPiece, Closes, Stands, Broken, escaped, piece_at, len_by, len_from, content_from}
use Rattle.iso_model.proofs.Syntax.CutLemmas.{Ends, EndsIn, byte_within, ascii-ends, character-ends, ends_later}
use Rattle.iso_model.proofs.Syntax.NumberLemmas.{IfEnds, escape-ends}

same_byte : (a b : ℕ) → (a == b) ≡ true → a ≡ b
same_byte a b h = grind (arith, nat_tests)

abbrev ends_of : List ℕ → QuotedPiece → Type 0
ends_of z Closes = Unit {0}
ends_of z (Stands content len) = Ends z len
ends_of z Broken = Unit {0}

-- a piece that stands for something ends where a character does; a quote that closes is one
pub record PieceEnds (quote : ℕ) (z : List ℕ) (p : QuotedPiece) : Type 0 where
  pub ends : ends_of z p
  pub closes : p ≡ Closes → slice_index z 0 ≡ quote

piece_if : (q : ℕ) (z : List ℕ) (b : Bool) (x y : QuotedPiece) → (b ≡ true → PieceEnds q z x) → (b ≡ false → PieceEnds q z y) → PieceEnds q z (if b then x else y)
piece_if q z b x y h g = cond_both b x y (PieceEnds q z) h g

stands : (q : ℕ) (z content : List ℕ) (len : ℕ) → Ends z len → PieceEnds q z (Stands content len)
stands q z content len h = record { ends = h; closes = λ e. absurd (cc) }

broken : (q : ℕ) (z : List ℕ) → PieceEnds q z Broken
broken q z = record { ends = tt; closes = λ e. absurd (cc) }

escaped-ends : (q : ℕ) (z : List ℕ) (o : Option Written) → IfEnds z o → PieceEnds q z (escaped o)
escaped-ends q z None h = broken q z
escaped-ends q z (Some w) h = stands q z _ w.len h.ends

-- two bytes of which the second is of ASCII and no 0
pair-ends : (z : List ℕ) (c : ℕ) → 0 < c → c < 128 → (slice_index z 1 == c) ≡ true → Ends z 2
pair-ends z c some small e = let is = same_byte _ c e in ascii-ends z 1 (byte_within z 1 c is some) (omega arith)

pub piece-ends : (q : ℕ) (z : List ℕ) → 0 < q → q < 128 → 0 < length z → PieceEnds q z (piece_at q z)
unfolding piece_at
piece-ends q z some small any =
    let b = slice_index z 0 in
    piece_if q z (b == q) _ _
    (λ e. piece_if q z (slice_index z 1 == q) _ _ (λ d. stands q z _ 2 (pair-ends z q some small d)) (λ _. record { ends = tt; closes = λ _. same_byte b q e })) (λ _.
    piece_if q z (b == 10) _ _ (λ _. broken q z) (λ _.
    piece_if q z (b == 92) _ _
    (λ _. piece_if q z (slice_index z 1 == 10) _ _ (λ d. stands q z _ 2 (pair-ends z 10 (omega arith) (omega arith) d)) (λ _. escaped-ends q z _ (escape-ends z)))
    (λ _. stands q z _ _ (character-ends z any))))

len_by-ends : (q b : ℕ) (z : List ℕ) (p : QuotedPiece) → PieceEnds q (b ∷ z) p → ((left : ℕ) → EndsIn q z (len_from q left z)) → EndsIn q (b ∷ z) (len_by p (λ left. option_map suc (len_from q left z)))
len_by-ends q b z Closes h others = record { ends = (omega arith, omega arith, h.closes refl) }
len_by-ends q b z Broken h others = record { ends = tt }
len_by-ends q b z (Stands content len) h others = ends_later q b z _ (others (len - 1))

-- an item ends with the quote that closes it
pub item-ends : (q left : ℕ) (z : List ℕ) → 0 < q → q < 128 → EndsIn q z (len_from q left z)
unfolding len_from
item-ends q left [] some small = record { ends = tt }
item-ends q (suc left) (b ∷ z) some small = ends_later q b z _ (item-ends q left z some small)
item-ends q zero (b ∷ z) some small =
    len_by-ends q b z (piece_at q (b ∷ z)) (piece-ends q (b ∷ z) some small (omega arith)) (λ left. item-ends q left z some small)

map_zero : (o : Option ℕ) → option_map (λ k. 0 + k) o ≡ o
map_zero None = refl
map_zero (Some k) = ap Some (zero-add k)

map_sum : (a b c : ℕ) (o : Option ℕ) → a + b ≡ c → option_map (λ k. a + k) (option_map (λ k. b + k) o) ≡ option_map (λ k. c + k) o
map_sum a b c None is = refl
map_sum a b c (Some k) is = let e : a + (b + k) ≡ c + k = omega arith in ap Some e

map_suc : (a c : ℕ) (o : Option ℕ) → a + 1 ≡ c → option_map suc (option_map (λ k. a + k) o) ≡ option_map (λ k. c + k) o
map_suc a c None is = refl
map_suc a c (Some k) is = let e : suc (a + k) ≡ c + k = omega arith in ap Some e

-- the bytes that are left of a piece are passed over
len_from-drop : (q n : ℕ) (z : List ℕ) → len_from q n z ≡ option_map (λ k. n + k) (len_from q 0 (drop n z))
unfolding len_from
len_from-drop q zero z = sym (map_zero (len_from q 0 z))
len_from-drop q (suc n) [] = refl
len_from-drop q (suc n) (b ∷ z) = ap (option_map suc) (len_from-drop q n z) ∙ map_suc n (suc n) (len_from q 0 (drop n z)) (omega arith)

content_from-drop : (q n : ℕ) (z : List ℕ) → content_from q n z ≡ content_from q 0 (drop n z)
unfolding content_from
content_from-drop q zero z = refl
content_from-drop q (suc n) [] = refl
content_from-drop q (suc n) (b ∷ z) = content_from-drop q n z

drop-cons : (n b : ℕ) (z : List ℕ) → 1 ≤ n → drop (n - 1) z ≡ drop n (b ∷ z)
drop-cons zero b z h = absurd (omega arith)
drop-cons (suc n) b z h = let e : suc n - 1 ≡ n = omega arith in ap (λ k. drop k z) e

-- a piece that stands for something is passed over
pub item-stands : (q : ℕ) (z content : List ℕ) (len : ℕ) → 0 < length z → 1 ≤ len → piece_at q z ≡ Stands content len → len_from q 0 z ≡ option_map (λ k. len + k) (len_from q 0 (drop len z))
unfolding len_from
item-stands q [] content len any some is = absurd (omega arith)
item-stands q (b ∷ z) content len any some is =
    rw is (ap (option_map suc) (len_from-drop q (len - 1) z) ∙ map_suc (len - 1) len (len_from q 0 (drop (len - 1) z)) (omega arith)
    ∙ ap (λ y. option_map (λ k. len + k) (len_from q 0 y)) (drop-cons len b z some))

pub item-closes : (q : ℕ) (z : List ℕ) → 0 < length z → piece_at q z ≡ Closes → len_from q 0 z ≡ Some 1
unfolding len_from
item-closes q [] any is = absurd (omega arith)
item-closes q (b ∷ z) any is = rw is refl

pub item-broken : (q : ℕ) (z : List ℕ) → 0 < length z → piece_at q z ≡ Broken → len_from q 0 z ≡ None
unfolding len_from
item-broken q [] any is = absurd (omega arith)
item-broken q (b ∷ z) any is = rw is refl

pub item-nil : (q : ℕ) (z : List ℕ) → length z ≡ 0 → len_from q 0 z ≡ None
unfolding len_from
item-nil q [] none = refl
item-nil q (b ∷ z) none = absurd (omega arith)

-- at a place of an item, one piece on
pub item-on : (q at : ℕ) (z content : List ℕ) (len : ℕ) (whole : Option ℕ) → at < length z → 1 ≤ len → piece_at q (drop at z) ≡ Stands content len
    → option_map (λ k. at + k) (len_from q 0 (drop at z)) ≡ whole → option_map (λ k. at + len + k) (len_from q 0 (drop (at + len) z)) ≡ whole
item-on q at z content len whole inside some is before =
    let any : 0 < length (drop at z) = omega (arith, length-drop at z) in
    let on = ap (option_map (λ k. at + k)) (item-stands q (drop at z) content len any some is) in
    let sum = map_sum at len (at + len) (len_from q 0 (drop len (drop at z))) refl in
    let same = ap (λ y. option_map (λ k. at + len + k) (len_from q 0 y)) (drop-drop len at z) in
    sym same ∙ sym sum ∙ sym on ∙ before

-- what a piece stands for comes first
pub content-stands : (q : ℕ) (z content : List ℕ) (len : ℕ) → 0 < length z → 1 ≤ len → piece_at q z ≡ Stands content len → content_from q 0 z ≡ content ++ content_from q 0 (drop len z)
unfolding content_from
content-stands q [] content len any some is = absurd (omega arith)
content-stands q (b ∷ z) content len any some is =
    rw is (ap (λ y. content ++ y) (content_from-drop q (len - 1) z ∙ ap (content_from q 0) (drop-cons len b z some)))

pub content-closes : (q : ℕ) (z : List ℕ) → 0 < length z → piece_at q z ≡ Closes → content_from q 0 z ≡ []
unfolding content_from
content-closes q [] any is = absurd (omega arith)
content-closes q (b ∷ z) any is = rw is refl

pub content-broken : (q : ℕ) (z : List ℕ) → 0 < length z → piece_at q z ≡ Broken → content_from q 0 z ≡ []
unfolding content_from
content-broken q [] any is = absurd (omega arith)
content-broken q (b ∷ z) any is = rw is refl

pub content-nil : (q : ℕ) (z : List ℕ) → length z ≡ 0 → content_from q 0 z ≡ []
unfolding content_from
content-nil q [] none = refl
content-nil q (b ∷ z) none = absurd (omega arith)

-- a piece that stands for something, at the front of a text of characters, may be cut off
pub piece-cut : (q : ℕ) (z content : List ℕ) (len : ℕ) → 0 < q → q < 128 → 0 < length z → IsUtf8 z → piece_at q z ≡ Stands content len → IsCharBoundary z len
piece-cut q z content len some small any utf8 is =
    let h = (piece-ends q z some small any).ends in let ends = subst (ends_of z) is h in ends.cut utf8
