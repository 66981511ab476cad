-- The parts of an atom that suit, place by place.
use Rattle.std.proofs.Common.{◌≡◌, ℕ, zero, suc, ◌+◌, ◌-◌, ◌^◌, ◌<◌, ◌≤◌, ◌&&◌, List, [], ◌∷◌, ◌++◌, map, reverse, length, take, drop, chars, pos, refl, ap, ap₂, sym, subst, ◌∙◌, append_assoc, append-nil, false, Option, Some, None, arith}
use Rattle.std.proofs.lemmas.List.{map-append, reverse-append, reverse-reverse, nil_from_length}
use Rattle.std.proofs.lemmas.List.Elements.{filter-append, All-nil, All-cons, All-head, All-tail, All-append}
use Rattle.std.specs.List.{All, filter, range_with_len}
use Rattle.std.specs.Option.{option_to_list}
use Rattle.std.specs.Str.{encode_utf8_all}
use Rattle.iso_model.specs.Terms.Trees.{Tree, Integer, Name, row}
use Rattle.iso_model.specs.Terms.Arguments.{argument, arity}
use Rattle.iso_model.specs.Search.Settlements.{Offer, constant_offer}
use Rattle.iso_model.specs.Search.AtomParts as model
use Rattle.iso_text.specs.declared.parts.SubAtom.{SubAtom}
use Rattle.iso_text.specs.declared.parts.Part.{Part}
use Rattle.iso_text.specs.declared.parts.Part.TheVariants as part
use Rattle.iso_text.specs.declared.parts.Parts.{Parts}
use Rattle.iso_text.specs.declared.sub_atoms.Asked.{Asked}
use Rattle.iso_text.specs.declared.sub_atoms.Place.{Place}
use Rattle.iso_text.specs.Parts.{AreOf, IsOf, part_behind, each_of, each_longer, part_offer, text_of}
use Rattle.iso_text.specs.Bounds.{allows, allows_text, suits, suits_here, ArePartsAt}
use Rattle.iso_text.proofs.PlaceLemmas.{IsPlace, characters_after, rest_place, count_after, place_boundary, last_count, last_start}
use Rattle.iso_text.proofs.SplitLemmas.{each_of-append}
use Rattle.iso_text.proofs.SuitLemmas.{pass_same}
use Rattle.iso_text.proofs.RangeLemmas.{range_split, none_pass, row_passes}

abbrev pub part_of : ℕ → ℕ → model.Part
part_of before n = record { before = before; length = n }

parts_at-append : (total : ℕ) (xs ys : List ℕ) → model.parts_at total (xs ++ ys) ≡ model.parts_at total xs ++ model.parts_at total ys
parts_at-append total [] ys = refl
parts_at-append total (x ∷ xs) ys =
    ap (λ (ps : List model.Part). model.parts_from total x ++ ps) (parts_at-append total xs ys) ∙ sym (append_assoc (model.parts_from total x) (model.parts_at total xs) (model.parts_at total ys))

-- one place more
parts_next : (total count : ℕ) → model.parts_at total (range_with_len 0 (count + 1)) ≡ model.parts_at total (range_with_len 0 count) ++ model.parts_from total count
parts_next total count =
    ap (model.parts_at total) (range_split 0 count 1 (count + 1) count refl (omega arith))
    ∙ parts_at-append total (range_with_len 0 count) (count ∷ [])
    ∙ ap (λ (ps : List model.Part). model.parts_at total (range_with_len 0 count) ++ ps) (append-nil (model.parts_from total count))

-- the row of a part
offer_is : (t : Tree) (text : List ℕ) (s : SubAtom) → argument 0 t ≡ Name text → s.behind ≡ length (chars text) - s.before - s.length → chars (drop s.start text) ≡ drop s.before (chars text)
    → part_offer 8 t (part.Sub s) ≡ model.part_offer text (part_of s.before s.length)
offer_is t text s is behind after =
    ap (λ (u : Tree). constant_offer 8 (row (u ∷ Integer (pos s.before) ∷ Integer (pos s.length) ∷ Integer (pos s.behind) ∷ Name (encode_utf8_all (take s.length (chars (drop s.start (text_of u))))) ∷ []))) is
    ∙ ap₂ (λ (n : ℕ) (cs : List ℕ). constant_offer 8 (row (Name text ∷ Integer (pos s.before) ∷ Integer (pos s.length) ∷ Integer (pos n) ∷ Name (encode_utf8_all (take s.length cs)) ∷ []))) behind after

-- the rows of the parts at one place
offers_longer : (t : Tree) (text : List ℕ) (s : SubAtom) (more : ℕ) → argument 0 t ≡ Name text → s.behind ≡ length (chars text) - s.before - s.length → chars (drop s.start text) ≡ drop s.before (chars text)
    → more ≤ s.behind → map (part_offer 8 t) (each_longer (part.Sub s) more) ≡ map (model.part_offer text) (map (part_of s.before) (range_with_len s.length (suc more)))
offers_longer t text s zero is behind after within = ap (λ (o : Offer). o ∷ []) (offer_is t text s is behind after)
offers_longer t text s (suc more) is behind after within =
    let next : SubAtom = record s { length = suc s.length; behind = s.behind - 1 } in
    let left : s.behind - 1 ≡ length (chars text) - s.before - suc s.length = omega (arith, behind) in
    let fewer : more ≤ s.behind - 1 = omega (arith, within) in
    let one : suc s.length ≡ s.length + 1 = omega arith in
    ap₂ (λ (o : Offer) (os : List Offer). o ∷ os) (offer_is t text s is behind after)
    (offers_longer t text next more is left after fewer ∙ ap (λ (n : ℕ). map (model.part_offer text) (map (part_of s.before) (range_with_len n (suc more)))) one)

-- a part at the place suits where the characters behind the place say so
suits_at : (text : List ℕ) (count start : ℕ) (rest : List ℕ) (asked : Asked) (wanted : Option (List ℕ)) (n : ℕ) → IsPlace text count start rest
    → suits asked wanted (chars text) (part_of count n) ≡ suits_here asked wanted count (chars rest) n
suits_at text count start rest asked wanted n here =
    let all = count_after text count start rest here in
    let left : length (chars text) - count ≡ length (chars rest) = omega (arith, all) in
    let after = sym (characters_after text count start rest here) ∙ ap chars (rest_place text count start rest here) in
    ap₂ (λ (m : ℕ) (cs : List ℕ). allows asked.before count && (allows asked.length n && (allows asked.behind (m - n) && allows_text wanted (encode_utf8_all (take n cs))))) left after

-- These are the rows of the parts at the first so many places that suit.
pub record SubSoFar (text : List ℕ) (asked : Asked) (wanted : Option (List ℕ)) (count : ℕ) (kept : List Parts) : Type 0 where
  pub offers : (t : Tree) → argument 0 t ≡ Name text → map (part_offer 8 t) (each_of kept)
      ≡ map (model.part_offer text) (filter (suits asked wanted (chars text)) (model.parts_at (length (chars text)) (range_with_len 0 count)))
  pub places : (t : Tree) → arity t ≡ 5 → argument 0 t ≡ Name text → All (AreOf t) kept

pub sub_begin : (text : List ℕ) (asked : Asked) (wanted : Option (List ℕ)) (kept : List Parts) → kept ≡ [] → SubSoFar text asked wanted 0 kept
sub_begin text asked wanted kept empty = record {
  offers = λ t is. ap (λ (ps : List Parts). map (part_offer 8 t) (each_of ps)) empty;
  places = λ t five is. rw empty (All-nil (AreOf t));
}

at_place : (asked : Asked) (wanted : Option (List ℕ)) (after : List ℕ) (place other : Place) (found : Option Parts) → place ≡ other → ArePartsAt asked wanted after place found → ArePartsAt asked wanted after other found
at_place asked wanted after place other found same are = subst (λ (p : Place). ArePartsAt asked wanted after p found) same are

pub found_offers : (text : List ℕ) (count start : ℕ) (rest : List ℕ) (asked : Asked) (wanted : Option (List ℕ)) (found : Option Parts) (t : Tree) → IsPlace text count start rest
    → ArePartsAt asked wanted (chars rest) record { before = count; start = start; rest = length (chars text) - count } found → argument 0 t ≡ Name text
    → map (part_offer 8 t) (each_of (option_to_list found)) ≡ map (model.part_offer text) (filter (suits asked wanted (chars text)) (model.parts_from (length (chars text)) count))
found_offers text count start rest asked wanted None t here are is =
    let most = length (chars text) - count in
    let fail : (n : ℕ) → n ≤ most → suits asked wanted (chars text) (part_of count n) ≡ false = λ n within. suits_at text count start rest asked wanted n here ∙ are n within in
    ap (map (model.part_offer text)) (sym (none_pass (suits asked wanted (chars text)) (part_of count) most fail))
found_offers text count start rest asked wanted (Some ps) t here are is =
    let most = length (chars text) - count in
    let least = are.0 in
    let s : SubAtom = record { before = count; start = start; length = least; behind = most - least } in
    let passes = pass_same (λ n. suits asked wanted (chars text) (part_of count n)) (suits_here asked wanted count (chars rest)) most least ps.more
    (λ n within. suits_at text count start rest asked wanted n here) are.2 in
    let within = passes.within in
    let fewer : ps.more ≤ most - least = omega (arith, within) in
    ap (map (part_offer 8 t)) (append-nil (each_longer ps.first ps.more))
    ∙ ap (λ (p : Part). map (part_offer 8 t) (each_longer p ps.more)) are.1
    ∙ offers_longer t text s ps.more is refl (characters_after text count start rest here) fewer
    ∙ ap (map (model.part_offer text)) (sym (row_passes (suits asked wanted (chars text)) (part_of count) most least ps.more passes))

pub found_places : (text : List ℕ) (count start : ℕ) (rest : List ℕ) (asked : Asked) (wanted : Option (List ℕ)) (found : Option Parts) (t : Tree) → IsPlace text count start rest → length (chars text) < 2 ^ 63
    → ArePartsAt asked wanted (chars rest) record { before = count; start = start; rest = length (chars text) - count } found → arity t ≡ 5 → argument 0 t ≡ Name text → All (AreOf t) (option_to_list found)
found_places text count start rest asked wanted None t here small are five is = All-nil (AreOf t)
found_places text count start rest asked wanted (Some ps) t here small are five is =
    let most = length (chars text) - count in
    let least = are.0 in
    let within = (are.2).within in
    let all = count_after text count start rest here in
    let fits : count + least + (most - least) < 2 ^ 63 = omega (arith, within, all, small) in
    let fewer : ps.more ≤ most - least = omega (arith, within) in
    let first : IsOf t ps.first × (ps.more ≤ part_behind ps.first) =
    subst (λ (p : Part). IsOf t p × (ps.more ≤ part_behind p)) (sym are.1) ((five, (text, is, place_boundary text count start rest here), fits), fewer) in
    All-cons (AreOf t) ps [] first (All-nil (AreOf t))

pub sub_go_on : (text : List ℕ) (count start : ℕ) (rest : List ℕ) (asked : Asked) (wanted : Option (List ℕ)) (kept more : List Parts) (found : Option Parts) → IsPlace text count start rest → length (chars text) < 2 ^ 63
    → SubSoFar text asked wanted count kept → more ≡ kept ++ option_to_list found → ArePartsAt asked wanted (chars rest) record { before = count; start = start; rest = length (chars text) - count } found
    → SubSoFar text asked wanted (count + 1) more
sub_go_on text count start rest asked wanted kept more found here small so_far pushed are =
    let total = length (chars text) in
    let test = suits asked wanted (chars text) in
    let before = model.parts_at total (range_with_len 0 count) in
    let now = model.parts_from total count in
    record {
      offers = λ t is.
          ap (λ (xs : List Parts). map (part_offer 8 t) (each_of xs)) pushed
          ∙ ap (map (part_offer 8 t)) (each_of-append kept (option_to_list found))
          ∙ map-append (part_offer 8 t) (each_of kept) (each_of (option_to_list found))
          ∙ ap₂ (λ (xs ys : List Offer). xs ++ ys) (so_far.offers t is) (found_offers text count start rest asked wanted found t here are is)
          ∙ sym (map-append (model.part_offer text) (filter test before) (filter test now))
          ∙ ap (map (model.part_offer text)) (sym (filter-append test before now))
          ∙ ap (λ (ps : List model.Part). map (model.part_offer text) (filter test ps)) (sym (parts_next total count));
      places = λ t five is. rw pushed (All-append (AreOf t) kept (option_to_list found) (so_far.places t five is) (found_places text count start rest asked wanted found t here small are five is));
    }

-- the parts at a place that were found are kept
pub sub_step : (text : List ℕ) (count start : ℕ) (rest : List ℕ) (asked : Asked) (wanted : Option (List ℕ)) (kept more : List Parts) (place : Place) (after : List ℕ) → IsPlace text count start rest → length (chars text) < 2 ^ 63
    → SubSoFar text asked wanted count kept → place.before ≡ count → place.start ≡ start → place.rest ≡ length (chars text) - count → after ≡ rest
    → (found : Option Parts) × (more ≡ kept ++ option_to_list found) × ArePartsAt asked wanted (chars after) place found → SubSoFar text asked wanted (count + 1) more
sub_step text count start rest asked wanted kept more place after here small so_far before-is start-is rest-is after-is kept-is =
    let are = subst (λ (cs : List ℕ). ArePartsAt asked wanted (chars cs) record { before = count; start = start; rest = length (chars text) - count } kept-is.0) after-is
    (at_place asked wanted (chars after) place record { before = count; start = start; rest = length (chars text) - count } kept-is.0 (λ i. record { before = before-is i; start = start-is i; rest = rest-is i }) kept-is.2) in
    sub_go_on text count start rest asked wanted kept more kept-is.0 here small so_far kept-is.1 are

pub all_reversed : {X : Type 0} (P : X → Type 0) (xs : List X) → All P xs → All P (reverse xs)
all_reversed P [] all = All-nil P
all_reversed P (x ∷ xs) all =
    rw (reverse-append (x ∷ []) xs) (All-append P (reverse xs) (x ∷ []) (all_reversed P xs (All-tail P x xs all)) (All-cons P x [] (All-head P x xs all) (All-nil P)))

pub places_turned : (t : Tree) (kept : List Parts) → All (AreOf t) (reverse kept) → All (AreOf t) kept
places_turned t kept all = subst (All (AreOf t)) (reverse-reverse kept) (all_reversed (AreOf t) (reverse kept) all)

-- behind the last character is the last place, and the parts there are kept first
pub sub_end : (text : List ℕ) (count start : ℕ) (rest : List ℕ) (asked : Asked) (wanted : Option (List ℕ)) (kept more done : List Parts) (place : Place) → IsPlace text count start rest → length (chars text) < 2 ^ 63
    → SubSoFar text asked wanted count kept → length rest ≡ 0 → place.before ≡ length (chars text) → place.start ≡ length text → place.rest ≡ 0
    → (found : Option Parts) × (more ≡ kept ++ option_to_list found) × ArePartsAt asked wanted (chars []) place found → done ≡ reverse more → SubSoFar text asked wanted (suc (length (chars text))) (reverse done)
sub_end text count start rest asked wanted kept more done place here small so_far none before-is start-is rest-is kept-is turned =
    let all = last_count text count start rest here none in
    let at_end = last_start text count start rest here none in
    let left : place.rest ≡ length (chars text) - count = omega (arith, all, rest-is) in
    let last = sub_step text count start rest asked wanted kept more place [] here small so_far (before-is ∙ sym all) (start-is ∙ sym at_end) left (sym (nil_from_length rest none)) kept-is in
    let whole : count + 1 ≡ suc (length (chars text)) = omega (arith, all) in
    subst (λ (n : ℕ). SubSoFar text asked wanted n (reverse done)) whole
    (subst (λ (ps : List Parts). SubSoFar text asked wanted (count + 1) ps) (sym (ap reverse turned ∙ reverse-reverse more)) last)
