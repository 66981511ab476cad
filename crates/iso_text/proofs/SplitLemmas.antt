-- The splits of an atom, one after another.
use Rattle.std.proofs.Common.{◌≡◌, ℕ, ◌+◌, suc, List, [], ◌∷◌, ◌++◌, map, length, take, drop, reverse, chars, refl, ap, ap₂, sym, ◌∙◌, append_assoc, arith}
use Rattle.std.proofs.lemmas.List.{map-append, reverse-reverse}
use Rattle.std.proofs.lemmas.List.Elements.{All-push, All-nil}
use Rattle.std.proofs.lemmas.List.FromFn.{map-range_with_len_more}
use Rattle.std.specs.List.{All, range_with_len}
use Rattle.iso_model.specs.Terms.Trees.{Tree, Name, row}
use Rattle.iso_model.specs.Terms.Arguments.{argument, arity}
use Rattle.iso_model.specs.Search.AtomParts.{split_at}
use Rattle.iso_model.specs.Search.Settlements.{Offer, constant_offer}
use Rattle.iso_text.specs.declared.parts.Part.{Part}
use Rattle.iso_text.specs.declared.parts.Part.TheVariants as part
use Rattle.iso_text.specs.declared.parts.Parts.{Parts}
use Rattle.iso_text.specs.Parts.{AreOf, each_of, each_longer, part_offer, parts_in, text_of}
use Rattle.iso_text.proofs.PlaceLemmas.{IsPlace, before_place, after_place, place_boundary, last_count, last_start}

-- These are the splits at the first so many places.
pub record SplitSoFar (text : List ℕ) (count : ℕ) (kept : List Parts) : Type 0 where
  pub offers : (t : Tree) → argument 2 t ≡ Name text → map (part_offer 4 t) (each_of kept) ≡ map (split_at text) (range_with_len 0 count)
  pub places : (t : Tree) → arity t ≡ 3 → argument 2 t ≡ Name text → All (AreOf t) kept

pub each_of-append : (xs ys : List Parts) → each_of (xs ++ ys) ≡ each_of xs ++ each_of ys
each_of-append [] ys = refl
each_of-append (x ∷ xs) ys = ap (λ (ps : List Part). each_longer x.first x.more ++ ps) (each_of-append xs ys) ∙ sym (append_assoc (each_longer x.first x.more) (each_of xs) (each_of ys))

-- the split at this place is the next one
split_here : (text : List ℕ) (count start : ℕ) (rest : List ℕ) (t : Tree) → IsPlace text count start rest → argument 2 t ≡ Name text → part_offer 4 t (part.Split start) ≡ split_at text count
split_here text count start rest t here is =
    ap (λ (u : Tree). constant_offer 4 (row (Name (take start (text_of u)) ∷ Name (drop start (text_of u)) ∷ u ∷ []))) is
    ∙ ap₂ (λ (a b : List ℕ). constant_offer 4 (row (Name a ∷ Name b ∷ Name text ∷ []))) (sym (before_place text count start rest here)) (sym (after_place text count start rest here))

pub splits_begin : (text : List ℕ) (kept : List Parts) → kept ≡ [] → SplitSoFar text 0 kept
splits_begin text kept empty = record {
  offers = λ t is. ap (λ (ps : List Parts). map (part_offer 4 t) (each_of ps)) empty;
  places = λ t three is. rw empty (All-nil (AreOf t));
}

pub splits_go_on : (text : List ℕ) (count start : ℕ) (rest : List ℕ) (kept more : List Parts) (place : ℕ) → IsPlace text count start rest → SplitSoFar text count kept → place ≡ start
    → more ≡ kept ++ record { first = part.Split place; more = 0 } ∷ [] → SplitSoFar text (count + 1) more
splits_go_on text count start rest kept more place here so_far place-is kept-is =
    let ps : Parts = record { first = part.Split start; more = 0 } in
    let pushed = kept-is ∙ ap (λ (n : ℕ). kept ++ record { first = part.Split n; more = 0 } ∷ []) place-is in
    record {
      offers = λ t is.
          ap (λ (xs : List Parts). map (part_offer 4 t) (each_of xs)) pushed
          ∙ ap (map (part_offer 4 t)) (each_of-append kept (ps ∷ []))
          ∙ map-append (part_offer 4 t) (each_of kept) (part.Split start ∷ [])
          ∙ ap₂ (λ (xs : List Offer) (x : Offer). xs ++ x ∷ []) (so_far.offers t is) (split_here text count start rest t here is)
          ∙ sym (map-range_with_len_more (split_at text) 0 count count (omega arith));
      places = λ t three is. rw pushed (All-push (AreOf t) kept ps (so_far.places t three is) ((three, (text, is, place_boundary text count start rest here)), omega arith));
    }

-- behind the last character is the last split, and the first is kept last
pub splits_end : (text : List ℕ) (count start : ℕ) (rest : List ℕ) (kept more done : List Parts) → IsPlace text count start rest → SplitSoFar text count kept → length rest ≡ 0
    → more ≡ kept ++ record { first = part.Split (length text); more = 0 } ∷ [] → done ≡ reverse more
    → (t : Tree) → argument 2 t ≡ Name text → map (part_offer 4 t) (parts_in done) ≡ map (split_at text) (range_with_len 0 (suc (length (chars text))))
splits_end text count start rest kept more done here so_far none pushed turned t is =
    let all = last_count text count start rest here none in
    let at_end = last_start text count start rest here none in
    let last = splits_go_on text count start rest kept more (length text) here so_far (sym at_end) pushed in
    let whole : count + 1 ≡ suc (length (chars text)) = omega (arith, all) in
    ap (λ (ps : List Parts). map (part_offer 4 t) (each_of ps)) (ap reverse turned ∙ reverse-reverse more)
    ∙ last.offers t is
    ∙ ap (λ (n : ℕ). map (split_at text) (range_with_len 0 n)) whole
