-- What is shown of the database as it is kept.
use Rattle.std.proofs.Common.{◌≡◌, ℕ, zero, suc, ◌<◌, true, false, ◌&&◌, ◌==◌, List, [], ◌∷◌, ◌++◌, length, get_or, set, map, Option, Some, None, option_map, refl, sym, ap, ◌∙◌, subst, arith, eq-eqb, if◌then◌else◌, unwrap_or}
use Rattle.std.specs.List.{slice_get}
use Rattle.std.specs.Option.{option_and_then, option_or}
use Rattle.std.proofs.lemmas.Option.{none-some, same_Some}
use Rattle.std.proofs.lemmas.Slice.Eq.{bytes_eq-Decides}
use Rattle.iso_db.specs.Keys.{Key, Heading, key, is_key, place_of, at_heading}
use Rattle.iso_clauses.specs.Clauses.{Clause}
use Rattle.iso_db.specs.Databases.{Procedure, at_place, clauses_of, one_more}
use Rattle.iso_clauses.specs.Blocks.{Kept, ids, nothing_kept, pushed, forgotten}
use Rattle.iso_clauses.specs.declared.slots.Label.{Label}
use Rattle.iso_clauses.specs.declared.slots.Slot.{Slot}
use Rattle.iso_clauses.specs.Slots.{clause_at, given, procedure_of, value_at, Cleans}
use Rattle.iso_db.specs.Shown.{shown_by, shown}
use Rattle.iso_clauses.specs.Kept.{given_in, Owns, IsKept, current_of}
use Rattle.iso_clauses.specs.Sides.{put_at_side}
use Rattle.iso_db.specs.declared.kinds.Kind.{Kind}
use Rattle.iso_clauses.specs.declared.blocks.Side.{Side}
use Rattle.iso_db.proofs.IndexLemmas.{place_of-push}
use Rattle.iso_clauses.proofs.LabelLemmas.{filter_map-agree, list_there, Owns-ids}
use Rattle.iso_clauses.proofs.AddLemmas.{block_of-last, clause_at-before, new_slot, clause_at-new, given-grown}
use Rattle.iso_clauses.proofs.ViewLemmas.{given-stand}

-- the place of a key is one of the list's
place_deeper : (n place : ℕ) (o : Option ℕ) → ((q : ℕ) → o ≡ Some q → q < n) → option_map suc o ≡ Some place → place < suc n
place_deeper n place None rest e = absurd (none-some place e)
place_deeper n place (Some q) rest e = omega (arith, rest q refl, same_Some (suc q) place e)

pub place_of-within : (ks : List Key) (name : List ℕ) (arity place : ℕ) → place_of ks name arity ≡ Some place → place < length ks
place_of-within [] name arity place h = absurd (none-some place h)
place_of-within (k ∷ ks) name arity place h =
    elim (is_key name arity k) as (λ b. (if b then Some 0 else option_map suc (place_of ks name arity)) ≡ Some place → place < suc (length ks)) [
      | true ↦ λ e. omega (arith, same_Some 0 place e)
      | false ↦ λ e. place_deeper (length ks) place (place_of ks name arity) (place_of-within ks name arity) e
    ] h

pub length-at_heading : (heads : List Heading) (place : ℕ) (head : Heading → Heading) → length (at_heading place head heads) ≡ length heads
length-at_heading [] place head = refl
length-at_heading (h ∷ hs) zero head = refl
length-at_heading (h ∷ hs) (suc place) head = omega (arith, length-at_heading hs place head)

module _ {C : Type 0} where
  pub length-shown : (slots : List (Slot C)) (r : ℕ) (heads : List Heading) (entries : List Kept) → length heads ≡ length entries → length (shown slots r heads entries) ≡ length entries
  length-shown slots r [] [] same = refl
  length-shown slots r [] (e ∷ es) same = absurd (omega arith)
  length-shown slots r (h ∷ hs) [] same = absurd (omega arith)
  length-shown slots r (h ∷ hs) (e ∷ es) same = omega (arith, length-shown slots r hs es (omega arith))

  pub keys-shown : (slots : List (Slot C)) (r : ℕ) (heads : List Heading) (entries : List Kept) → length heads ≡ length entries → map (λ (p : Procedure C). p.key) (shown slots r heads entries) ≡ map (λ (h : Heading). h.key) heads
  keys-shown slots r [] [] same = refl
  keys-shown slots r [] (e ∷ es) same = absurd (omega arith)
  keys-shown slots r (h ∷ hs) [] same = absurd (omega arith)
  keys-shown slots r (h ∷ hs) (e ∷ es) same = ap (λ rest. h.key ∷ rest) (keys-shown slots r hs es (omega arith))

  pub kind-shown : (slots : List (Slot C)) (r : ℕ) (heads : List Heading) (entries : List Kept) (place : ℕ) → length heads ≡ length entries
      → option_and_then (λ (p : Procedure C). p.kind) (slice_get (shown slots r heads entries) place) ≡ option_and_then (λ (h : Heading). h.kind) (slice_get heads place)
  kind-shown slots r [] [] place same = refl
  kind-shown slots r [] (e ∷ es) place same = absurd (omega arith)
  kind-shown slots r (h ∷ hs) [] place same = absurd (omega arith)
  kind-shown slots r (h ∷ hs) (e ∷ es) zero same = refl
  kind-shown slots r (h ∷ hs) (e ∷ es) (suc place) same = kind-shown slots r hs es place (omega arith)

  pub clauses-shown : (slots : List (Slot C)) (r : ℕ) (heads : List Heading) (entries : List Kept) (place : ℕ) → length heads ≡ length entries
      → clauses_of (slice_get (shown slots r heads entries) place) ≡ given slots r (ids (current_of (slice_get entries place)))
  clauses-shown slots r [] [] place same = refl
  clauses-shown slots r [] (e ∷ es) place same = absurd (omega arith)
  clauses-shown slots r (h ∷ hs) [] place same = absurd (omega arith)
  clauses-shown slots r (h ∷ hs) (e ∷ es) zero same = refl
  clauses-shown slots r (h ∷ hs) (e ∷ es) (suc place) same = clauses-shown slots r hs es place (omega arith)

  -- one heading changed, and one entry written over
  pub shown-set : (slots : List (Slot C)) (r : ℕ) (heads : List Heading) (entries : List Kept) (place : ℕ) (head : Heading → Heading) (change : Procedure C → Procedure C) (e d : Kept) → length heads ≡ length entries
      → ((h : Heading) → shown_by slots r (head h) e ≡ change (shown_by slots r h (get_or entries place d))) → shown slots r (at_heading place head heads) (set entries place e) ≡ at_place place change (shown slots r heads entries)
  shown-set slots r [] [] place head change e d same is = refl
  shown-set slots r [] (x ∷ xs) place head change e d same is = absurd (omega arith)
  shown-set slots r (h ∷ hs) [] place head change e d same is = absurd (omega arith)
  shown-set slots r (h ∷ hs) (x ∷ xs) zero head change e d same is = ap (λ p. p ∷ shown slots r hs xs) (is h)
  shown-set slots r (h ∷ hs) (x ∷ xs) (suc place) head change e d same is = ap (λ ps. shown_by slots r h x ∷ ps) (shown-set slots r hs xs place head change e d (omega arith) is)

  -- one heading changed alone
  pub shown-heading : (slots : List (Slot C)) (r : ℕ) (heads : List Heading) (entries : List Kept) (place : ℕ) (head : Heading → Heading) (change : Procedure C → Procedure C)
      → ((h : Heading) (e : Kept) → slice_get entries place ≡ Some e → shown_by slots r (head h) e ≡ change (shown_by slots r h e)) → shown slots r (at_heading place head heads) entries ≡ at_place place change (shown slots r heads entries)
  shown-heading slots r [] entries place head change is = refl
  shown-heading slots r (h ∷ hs) [] zero head change is = refl
  shown-heading slots r (h ∷ hs) [] (suc place) head change is = refl
  shown-heading slots r (h ∷ hs) (x ∷ xs) zero head change is = ap (λ p. p ∷ shown slots r hs xs) (is h x refl)
  shown-heading slots r (h ∷ hs) (x ∷ xs) (suc place) head change is = ap (λ ps. shown_by slots r h x ∷ ps) (shown-heading slots r hs xs place head change is)

  -- entries in which the same clauses are given
  pub shown-agree : (slots : List (Slot C)) (r : ℕ) (heads : List Heading) (entries others : List Kept) → length heads ≡ length entries → length entries ≡ length others → ((p : ℕ) → given_in slots r others p ≡ given_in slots r entries p)
      → shown slots r heads others ≡ shown slots r heads entries
  shown-agree slots r [] entries others one two same = refl
  shown-agree slots r (h ∷ hs) [] others one two same = absurd (omega arith)
  shown-agree slots r (h ∷ hs) (e ∷ es) [] one two same = absurd (omega arith)
  shown-agree slots r (h ∷ hs) (e ∷ es) (x ∷ xs) one two same =
      ap (λ cs. let p : Procedure C = record { key = h.key; kind = h.kind; clauses = cs } in p ∷ shown slots r hs xs) (same 0)
      ∙ ap (λ ps. shown_by slots r h e ∷ ps) (shown-agree slots r hs es xs (omega arith) (omega arith) (λ p. same (suc p)))

  -- slots that give the same clauses
  pub shown-same : (slots more : List (Slot C)) (r q : ℕ) (heads : List Heading) (entries : List Kept) → ((p : ℕ) (e : Kept) → slice_get entries p ≡ Some e → given more q (ids e.current) ≡ given slots r (ids e.current))
      → shown more q heads entries ≡ shown slots r heads entries
  shown-same slots more r q [] entries is = refl
  shown-same slots more r q (h ∷ hs) [] is = refl
  shown-same slots more r q (h ∷ hs) (e ∷ es) is =
      ap (λ cs. let p : Procedure C = record { key = h.key; kind = h.kind; clauses = cs } in p ∷ shown more q hs es) (is 0 e refl)
      ∙ ap (λ ps. shown_by slots r h e ∷ ps) (shown-same slots more r q hs es (λ p d at. is (suc p) d at))

  -- one absent procedure behind the others
  pub shown-new : (slots : List (Slot C)) (r : ℕ) (heads : List Heading) (entries : List Kept) (k : Key) → length heads ≡ length entries
      → shown slots r (heads ++ record { key = k; kind = None } ∷ []) (entries ++ nothing_kept ∷ []) ≡ shown slots r heads entries ++ record { key = k; kind = None; clauses = [] } ∷ []
  shown-new slots r [] [] k same = refl
  shown-new slots r [] (e ∷ es) k same = absurd (omega arith)
  shown-new slots r (h ∷ hs) [] k same = absurd (omega arith)
  shown-new slots r (h ∷ hs) (e ∷ es) k same = ap (λ ps. shown_by slots r h e ∷ ps) (shown-new slots r hs es k (omega arith))

  -- what is shown once a clause was added
  pub shown-add : (slots : List (Slot C)) (r : ℕ) (heads : List Heading) (entries : List Kept) (place : ℕ) (value : C) (side : Side) (l : Label) (kind : Kind) → IsKept procedure_of slots r (length heads) entries → place < length entries
      → shown (slots ++ new_slot value l ∷ []) r (at_heading place (λ h. record h { kind = Some (unwrap_or h.kind kind) }) heads) (set entries place (pushed side (length slots) (get_or entries place nothing_kept)))
      ≡ at_place place (one_more (put_at_side side) kind (record { number = length slots; value = value })) (shown slots r heads entries)
  shown-add slots r heads entries place value side l kind kept within =
      shown-set more r heads entries place (λ h. record h { kind = Some (unwrap_or h.kind kind) }) (one_more (put_at_side side) kind c) (pushed side n e) nothing_kept kept.same changed
      ∙ ap (at_place place (one_more (put_at_side side) kind c)) (shown-same slots more r r heads entries same)
    where
      n : ℕ
      n = length slots

      e : Kept
      e = get_or entries place nothing_kept

      c : Clause C
      c = record { number = n; value = value }

      more : List (Slot C)
      more = slots ++ new_slot value l ∷ []

      changed : (h : Heading) → shown_by more r (record h { kind = Some (unwrap_or h.kind kind) }) (pushed side n e) ≡ one_more (put_at_side side) kind c (shown_by more r h e)
      changed h = ap (λ cs. let p : Procedure C = record { key = h.key; kind = Some (unwrap_or h.kind kind); clauses = cs } in p) (given-grown side more r n c e.current (clause_at-new slots value l r))

      same : (p : ℕ) (d : Kept) → slice_get entries p ≡ Some d → given more r (ids d.current) ≡ given slots r (ids d.current)
      same p d at =
          let owns : Owns procedure_of slots p d.current = subst (Owns procedure_of slots p) (block_of-last d (length d.older) refl) (kept.owned p d at (length d.older) (omega arith)) in
          filter_map-agree (clause_at more r) (clause_at slots r) (ids d.current) (λ k x h. clause_at-before slots (new_slot value l) r (get_or (ids d.current) k x) (list_there procedure_of slots (get_or (ids d.current) k x) p (Owns-ids procedure_of slots p d.current owns k x h)))

  pub shown-forgotten : (slots : List (Slot C)) (r : ℕ) (heads : List Heading) (entries : List Kept) → shown slots r heads (map forgotten entries) ≡ shown slots r heads entries
  shown-forgotten slots r [] entries = refl
  shown-forgotten slots r (k ∷ ks) [] = refl
  shown-forgotten slots r (k ∷ ks) (e ∷ es) = ap (λ ps. shown_by slots r k e ∷ ps) (shown-forgotten slots r ks es)

  pub shown-cleaned : (slots more : List (Slot C)) (r : ℕ) (heads : List Heading) (entries : List Kept) → Cleans slots more r → shown more r heads entries ≡ shown slots r heads entries
  shown-cleaned slots more r heads entries cleans =
      shown-same slots more r r heads entries (λ p e at. filter_map-agree (clause_at more r) (clause_at slots r) (ids e.current) (λ k d h. cleans.now (get_or (ids e.current) k d)))

  -- the clauses that are shown can be read by their numbers
  pub shown-stand : (slots : List (Slot C)) (r : ℕ) (heads : List Heading) (entries : List Kept) → length heads ≡ length entries → (place k : ℕ) (c : Clause C) → slice_get (clauses_of (slice_get (shown slots r heads entries) place)) k ≡ Some c → value_at slots c.number ≡ Some c.value
  shown-stand slots r heads entries same place k c h =
      given-stand slots r (ids (current_of (slice_get entries place))) k c (ap (λ cs. slice_get cs k) (sym (clauses-shown slots r heads entries place same)) ∙ h)

-- a key that was new is found last
pub place_of-new : (ks : List Key) (name : List ℕ) (arity : ℕ) → place_of ks name arity ≡ None → place_of (ks ++ key name arity ∷ []) name arity ≡ Some (length ks)
place_of-new ks name arity absent =
    place_of-push ks (key name arity) name arity ∙ ap (λ o. option_or o (if is_key name arity (key name arity) then Some (length ks) else None)) absent
    ∙ ap (λ b. if b then Some (length ks) else None) here
  where
    here : is_key name arity (key name arity) ≡ true
    here = ap (λ b. b && (arity == arity)) ((bytes_eq-Decides name name).1 refl) ∙ eq-eqb arity arity refl
