-- Numbering a text: what a look-up finds, and that each text stands once.
use Rattle.std.proofs.Common.{◌≡◌, ℕ, zero, suc, Bool, true, false, ◌||◌, List, [], ◌∷◌, ◌++◌, length, map, position, slice_get, get_or, Some, ◌⊎◌, inl, inr, ⊎_elim, refl, sym, ap, ◌∙◌, true≢false, arith, String, Global, if◌then◌else◌}
use Rattle.std.specs.List.{list_any}
use Rattle.std.specs.Option.{option_map}
use Rattle.std.specs.Str.{bytes_eq}
use Rattle.std.specs.String.{string_bytes, string_eq}
use Rattle.std.proofs.lemmas.Option.{none-some, same_Some, slice_get-get_or, slice_get-map}
use Rattle.std.proofs.lemmas.List.Quantifiers.{position-Some}
use Rattle.std.proofs.lemmas.Slice.Eq.{bytes_eq-Decides}
use Rattle.indexmap.specs.IndexSet.{insert_key}
use Rattle.std.proofs.lemmas.List.{map-append}
use Rattle.iso_atoms.specs.Texts.{has_text, numbered, EachOnce, KeepsTexts}

-- the test on the stored strings is the test on their texts
pub has_text-map : (names : List (String Global)) (text : List ℕ) → has_text (map string_bytes names) text ≡ list_any (λ name. bytes_eq text (string_bytes name)) names
has_text-map [] text = refl
has_text-map (name ∷ names) text = ap (λ b. bytes_eq text (string_bytes name) || b) (has_text-map names text)

-- at the place that a look-up finds, the text stands
pub found_stands : (names : List (String Global)) (text : List ℕ) (i : ℕ) → position (λ name. bytes_eq text (string_bytes name)) names ≡ Some i → slice_get (map string_bytes names) i ≡ Some text
found_stands [] text i h = absurd (none-some i h)
found_stands (name ∷ names) text i h =
    let at = position-Some (λ (name : String Global). bytes_eq text (string_bytes name)) (name ∷ names) i name h in
    let same : text ≡ string_bytes (get_or (name ∷ names) i name) = (bytes_eq-Decides _ _).0 at.1 in
    rw (slice_get-map, slice_get-get_or (name ∷ names) i name at.0) (ap Some (sym same))

-- a text that stands somewhere is among the texts
pub stands-has_text : (texts : List (List ℕ)) (text : List ℕ) (i : ℕ) → slice_get texts i ≡ Some text → has_text texts text ≡ true
stands-has_text [] text i h = absurd (none-some text h)
stands-has_text (x ∷ xs) text zero h = ap (λ b. b || has_text xs text) ((bytes_eq-Decides text x).1 (sym (same_Some x text h)))
stands-has_text (x ∷ xs) text (suc i) h = rw (stands-has_text xs text i h) (either_true (bytes_eq text x))
  where
    either_true : (b : Bool) → b || true ≡ true
    either_true true = refl
    either_true false = refl

-- what stands at a place behind which one more text was put
last_or_before : (xs : List (List ℕ)) (x text : List ℕ) (i : ℕ) → slice_get (xs ++ x ∷ []) i ≡ Some text → (slice_get xs i ≡ Some text) ⊎ ((i ≡ length xs) × (x ≡ text))
last_or_before [] x text zero h = inr (refl, same_Some x text h)
last_or_before [] x text (suc i) h = absurd (none-some text h)
last_or_before (y ∷ ys) x text zero h = inl h
last_or_before (y ∷ ys) x text (suc i) h = ⊎_elim (λ e. inl e) (λ e. inr (omega (arith, e.0), e.1)) (last_or_before ys x text i h)

-- the last one stands at the place behind the others
pub last_stands : (xs : List (List ℕ)) (x : List ℕ) → slice_get (xs ++ x ∷ []) (length xs) ≡ Some x
last_stands [] x = refl
last_stands (y ∷ ys) x = last_stands ys x

-- a new text behind the others leaves each standing once
pub EachOnce-more : (texts : List (List ℕ)) (text : List ℕ) → EachOnce texts → has_text texts text ≡ false → EachOnce (texts ++ text ∷ [])
EachOnce-more texts text once fresh = record {
  one_place = λ i j other hi hj.
      ⊎_elim
      (λ ei. ⊎_elim
      (λ ej. once.one_place i j other ei ej)
      (λ ej. absurd (is_fresh i (ei ∙ ap Some (sym ej.1))))
      (last_or_before texts text other j hj))
      (λ ei. ⊎_elim
      (λ ej. absurd (is_fresh j (ej ∙ ap Some (sym ei.1))))
      (λ ej. ei.0 ∙ sym ej.0)
      (last_or_before texts text other j hj))
      (last_or_before texts text other i hi);
}
  where
    is_fresh : (k : ℕ) → slice_get texts k ≡ Some text → ⊥
    is_fresh k h = true≢false (sym (stands-has_text texts text k h) ∙ fresh)

-- what an insert of a string whose text is new makes of the texts
pub inserted : (old new : List (String Global)) (name : String Global) (text : List ℕ) → string_bytes name ≡ text → list_any (λ k. bytes_eq text (string_bytes k)) old ≡ false → new ≡ insert_key string_eq old name → map string_bytes new ≡ map string_bytes old ++ text ∷ []
inserted old new name text same fresh is =
    let unknown : list_any (string_eq name) old ≡ false = ap (λ t. list_any (λ k. bytes_eq t (string_bytes k)) old) same ∙ fresh in
    ap (map string_bytes) (is ∙ ap (λ b. if b then old else old ++ name ∷ []) unknown)
    ∙ map-append string_bytes old (name ∷ []) ∙ ap (λ t. map string_bytes old ++ t ∷ []) same

-- where a string with this text is stored, the text stands
pub stored_stands : (names : List (String Global)) (place : ℕ) (name : String Global) (text : List ℕ) → string_bytes name ≡ text → ((k : String Global) × (slice_get names place ≡ Some k) × (string_eq name k ≡ true)) → slice_get (map string_bytes names) place ≡ Some text
stored_stands names place name text same at =
    slice_get-map string_bytes names place
    ∙ ap (option_map string_bytes) at.1
    ∙ ap Some (sym ((bytes_eq-Decides (string_bytes name) (string_bytes at.0)).0 at.2) ∙ same)

-- numbering a new text puts it last
pub numbered-new : (texts : List (List ℕ)) (text : List ℕ) → has_text texts text ≡ false → numbered texts text ≡ texts ++ text ∷ []
numbered-new texts text fresh = ap (λ b. if b then texts else texts ++ text ∷ []) fresh

-- and a known one nothing
pub numbered-known : (texts : List (List ℕ)) (text : List ℕ) → has_text texts text ≡ true → numbered texts text ≡ texts
numbered-known texts text known = ap (λ b. if b then texts else texts ++ text ∷ []) known

-- what a look-up among the stored strings says of the texts
pub has_text-stored : (names : List (String Global)) (texts : List (List ℕ)) (text : List ℕ) (b : Bool) → map string_bytes names ≡ texts → b ≡ list_any (λ name. bytes_eq text (string_bytes name)) names → has_text texts text ≡ b
has_text-stored names texts text b view found = ap (λ ts. has_text ts text) (sym view) ∙ has_text-map names text ∙ sym found

-- what stands at a place of the texts stands there behind which one more was put
pub keeps_before : (texts : List (List ℕ)) (x : List ℕ) → KeepsTexts texts (texts ++ x ∷ [])
keeps_before [] x place text h = absurd (none-some text h)
keeps_before (y ∷ ys) x zero text h = h
keeps_before (y ∷ ys) x (suc place) text h = keeps_before ys x place text h
