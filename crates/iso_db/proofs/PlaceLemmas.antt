-- Places of procedures, and what changes at one.
use Rattle.std.proofs.Common.{◌≡◌, ℕ, ◌<◌, List, [], ◌∷◌, ◌++◌, length, get_or, map, Some, None, is_some, unwrap_or, refl, ap, ◌∙◌, arith, if◌then◌else◌}
use Rattle.std.specs.List.{slice_get}
use Rattle.std.proofs.lemmas.Option.{slice_get-get_or}
use Rattle.iso_db.specs.Keys.{Heading, key, place_of, at_heading}
use Rattle.iso_db.specs.Databases.{Procedure, Database, at_place, clauses_of, place_in, with_procedure}
use Rattle.iso_clauses.specs.Blocks.{Kept, ids}
use Rattle.iso_db.specs.declared.kinds.Kind.{Kind}
use Rattle.iso_clauses.specs.declared.slots.Slot.{Slot}
use Rattle.iso_clauses.specs.Slots.{given}
use Rattle.iso_db.specs.Shown.{shown}
use Rattle.iso_clauses.specs.Kept.{current_of}
use Rattle.iso_db.proofs.KeptLemmas.{length-shown, keys-shown, clauses-shown, shown-heading}

module _ {C : Type 0} where
  -- where the key of a procedure is
  pub place_in-shown : (slots : List (Slot C)) (r : ℕ) (heads : List Heading) (entries : List Kept) (name : List ℕ) (arity : ℕ) → length heads ≡ length entries
      → place_of (map (λ (p : Procedure C). p.key) (shown slots r heads entries)) name arity ≡ place_of (map (λ (h : Heading). h.key) heads) name arity
  place_in-shown slots r heads entries name arity same = ap (λ ks. place_of ks name arity) (keys-shown slots r heads entries same)

  pub with_procedure-known : (db : Database C) (name : List ℕ) (arity place : ℕ) → place_in db name arity ≡ Some place → with_procedure name arity db ≡ db
  with_procedure-known db name arity place at =
      ap (λ o. if is_some o then db else record db { procedures = db.procedures ++ record { key = key name arity; kind = None; clauses = [] } ∷ [] }) at

  pub with_procedure-new : (db : Database C) (name : List ℕ) (arity : ℕ) → place_in db name arity ≡ None → with_procedure name arity db ≡ record db { procedures = db.procedures ++ record { key = key name arity; kind = None; clauses = [] } ∷ [] }
  with_procedure-new db name arity at =
      ap (λ o. if is_some o then db else record db { procedures = db.procedures ++ record { key = key name arity; kind = None; clauses = [] } ∷ [] }) at

  -- a place of what is shown is one of an entry
  pub shown_within : (slots : List (Slot C)) (r : ℕ) (heads : List Heading) (entries : List Kept) (place : ℕ) → length heads ≡ length entries → place < length (shown slots r heads entries) → place < length entries
  shown_within slots r heads entries place same h = omega (arith, length-shown slots r heads entries same, h)

  pub clauses-there : (slots : List (Slot C)) (r : ℕ) (heads : List Heading) (entries : List Kept) (place : ℕ) (d : Kept) → length heads ≡ length entries → place < length entries
      → clauses_of (slice_get (shown slots r heads entries) place) ≡ given slots r (ids (get_or entries place d).current)
  clauses-there slots r heads entries place d same within = clauses-shown slots r heads entries place same ∙ ap (λ o. given slots r (ids (current_of o))) (slice_get-get_or entries place d within)

  -- a procedure that was absent gets a kind, and one that was there keeps its own
  pub shown-present : (slots : List (Slot C)) (r : ℕ) (heads : List Heading) (entries : List Kept) (place : ℕ) (kind : Kind)
      → shown slots r (at_heading place (λ h. record h { kind = Some (unwrap_or h.kind kind) }) heads) entries ≡ at_place place (λ p. record p { kind = Some (unwrap_or p.kind kind) }) (shown slots r heads entries)
  shown-present slots r heads entries place kind = shown-heading slots r heads entries place (λ h. record h { kind = Some (unwrap_or h.kind kind) }) (λ p. record p { kind = Some (unwrap_or p.kind kind) }) (λ h e at. refl)
