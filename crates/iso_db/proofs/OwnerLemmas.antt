-- A clause is one of a single procedure: that of its slot.
use Rattle.std.proofs.Common.{◌≡◌, ℕ, zero, suc, Bool, true, false, not, ◌||◌, List, [], ◌∷◌, length, map, filter, cond, Option, Some, None, is_some, ⊎_elim, refl, sym, ap, ◌∙◌, subst, true≢false, arith, eq-eqb}
use Rattle.std.specs.List.{slice_get, cons_option, All}
use Rattle.std.proofs.lemmas.Option.{same_Some}
use Rattle.std.proofs.lemmas.Bool.Decides.{eqb_tells}
use Rattle.iso_db.specs.Keys.{Heading}
use Rattle.iso_clauses.specs.Clauses.{Clause}
use Rattle.iso_db.specs.Databases.{Procedure, one_less, at_place, clauses_of, has_in}
use Rattle.iso_clauses.specs.Blocks.{Kept, ids}
use Rattle.iso_clauses.specs.declared.slots.Slot.{Slot}
use Rattle.iso_clauses.specs.Slots.{clause_at, procedure_of, procedure_at, is_place, given}
use Rattle.iso_clauses.specs.Kept.{lists, Owns, IsKept, current_of}
use Rattle.iso_db.specs.Shown.{shown}
use Rattle.iso_db.proofs.KeptLemmas.{clauses-shown}
use Rattle.iso_clauses.proofs.LabelLemmas.{Owns-ids}
use Rattle.iso_clauses.proofs.AddLemmas.{block_of-last}
use Rattle.iso_clauses.proofs.ViewLemmas.{clause_at-number}
use Rattle.iso_clauses.proofs.RemoveLemmas.{other, any-given, none-given}
use Rattle.iso_db.proofs.BecomeLemmas.{has_shown, has-shown}

-- the test of a place tells whether it is this one
pub is_place-itself : (place : ℕ) (o : Option ℕ) → o ≡ Some place → is_place place o ≡ true
is_place-itself place o h = ap (is_place place) h ∙ eq-eqb place place refl

pub place_told : (place : ℕ) (o : Option ℕ) → is_place place o ≡ true → o ≡ Some place
place_told place None h = absurd (true≢false (sym h))
place_told place (Some p) h = ⊎_elim (λ e. ap Some e.1) (λ e. absurd (true≢false (sym h ∙ e.0))) (eqb_tells p place)

module _ {C : Type 0} where
  -- a number of another procedure is not among those of this one
  elsewhere-given : (slots : List (Slot C)) (r number place : ℕ) (ns : List ℕ) → is_place place (procedure_at slots number) ≡ false → All (λ n. procedure_at slots n ≡ Some place) ns → has_in (given slots r ns) number ≡ false
  elsewhere-given slots r number place [] away all = refl
  elsewhere-given slots r number place (n ∷ ns) away all =
      at (clause_at slots r n) refl (elsewhere-given slots r number place ns away (λ k d h. all (suc k) d (omega arith)))
    where
      at : (o : Option (Clause C)) → clause_at slots r n ≡ o → has_in (given slots r ns) number ≡ false → has_in (cons_option o (given slots r ns)) number ≡ false
      at None is e = e
      at (Some c) is e =
          ⊎_elim
          (λ q. absurd (true≢false (sym (is_place-itself place (procedure_at slots number) (ap (procedure_at slots) (sym q.1 ∙ clause_at-number slots r n c is) ∙ all 0 n (omega arith))) ∙ away)))
          (λ q. ap (λ b. b || has_in (given slots r ns) number) q.0 ∙ e)
          (eqb_tells c.number number)

  -- the numbers of a procedure that is kept are its own
  owner : (slots : List (Slot C)) (r : ℕ) (heads : List Heading) (entries : List Kept) (place : ℕ) (e : Kept) → IsKept procedure_of slots r (length heads) entries → slice_get entries place ≡ Some e → All (λ n. procedure_at slots n ≡ Some place) (ids e.current)
  owner slots r heads entries place e kept at = Owns-ids procedure_of slots place e.current (subst (Owns procedure_of slots place) (block_of-last e (length e.older) refl) (kept.owned place e at (length e.older) (omega arith)))

  -- a clause of another procedure is not among those that are shown of this one
  pub elsewhere-shown : (slots : List (Slot C)) (r : ℕ) (heads : List Heading) (entries : List Kept) (number place : ℕ) → IsKept procedure_of slots r (length heads) entries → is_place place (procedure_at slots number) ≡ false
      → has_in (clauses_of (slice_get (shown slots r heads entries) place)) number ≡ false
  elsewhere-shown slots r heads entries number place kept away = ap (λ cs. has_in cs number) (clauses-shown slots r heads entries place kept.same) ∙ by (slice_get entries place) refl
    where
      by : (o : Option Kept) → slice_get entries place ≡ o → has_in (given slots r (ids (current_of o))) number ≡ false
      by None at = refl
      by (Some e) at = elsewhere-given slots r number place (ids e.current) away (owner slots r heads entries place e kept at)

  -- a clause of this procedure is among those that are shown of it as long as it is there
  pub here-shown : (slots : List (Slot C)) (r : ℕ) (heads : List Heading) (entries : List Kept) (number place : ℕ) → IsKept procedure_of slots r (length heads) entries → procedure_at slots number ≡ Some place
      → has_in (clauses_of (slice_get (shown slots r heads entries) place)) number ≡ is_some (clause_at slots r number)
  here-shown slots r heads entries number place kept here = ap (λ cs. has_in cs number) (clauses-shown slots r heads entries place kept.same) ∙ by (is_some (clause_at slots r number)) refl
    where
      listing : (o : Option Kept) → is_some (clause_at slots r number) ≡ true → lists o number ≡ true → has_in (given slots r (ids (current_of o))) number ≡ true
      listing None there h = absurd (true≢false (sym h))
      listing (Some e) there h = any-given slots r number (ids e.current) there h

      by : (b : Bool) → is_some (clause_at slots r number) ≡ b → has_in (given slots r (ids (current_of (slice_get entries place)))) number ≡ is_some (clause_at slots r number)
      by true e = listing (slice_get entries place) e (kept.listed number place e here) ∙ sym e
      by false e = none-given slots r number (ids (current_of (slice_get entries place))) e ∙ sym e

  -- nothing is taken from clauses among which the number is not
  filter-without : (number : ℕ) (cs : List (Clause C)) → has_in cs number ≡ false → filter (other number) cs ≡ cs
  filter-without number [] gone = refl
  filter-without number (c ∷ cs) gone =
      ⊎_elim
      (λ e. absurd (true≢false (ap (λ b. b || has_in cs number) (sym e.0) ∙ gone)))
      (λ e. ap (λ b. cond (not b) (c ∷ filter (other number) cs) (filter (other number) cs)) e.0
      ∙ ap (λ ds. c ∷ ds) (filter-without number cs (ap (λ b. b || has_in cs number) (sym e.0) ∙ gone)))
      (eqb_tells c.number number)

  less-without : (number : ℕ) (p : Procedure C) → has_in p.clauses number ≡ false → one_less number p ≡ p
  less-without number p gone = ap (λ cs. let q : Procedure C = record p { clauses = cs } in q) (filter-without number p.clauses gone)

  -- the number is in no other procedure than that at a place
  abbrev pub OnlyAt : ℕ → ℕ → List (Procedure C) → Type 0
  OnlyAt number place ps = (p : ℕ) → (p ≡ place → ⊥) → has_in (clauses_of (slice_get ps p)) number ≡ false

  map-without : (number : ℕ) (ps : List (Procedure C)) → ((p : ℕ) → has_in (clauses_of (slice_get ps p)) number ≡ false) → map (one_less number) ps ≡ ps
  map-without number [] gone = refl
  map-without number (p ∷ ps) gone = ap (λ q. q ∷ map (one_less number) ps) (less-without number p (gone 0)) ∙ ap (λ qs. p ∷ qs) (map-without number ps (λ k. gone (suc k)))

  -- what is removed from all procedures is removed from this one
  pub map-at_place : (number place : ℕ) (ps : List (Procedure C)) → OnlyAt number place ps → map (one_less number) ps ≡ at_place place (one_less number) ps
  map-at_place number place [] only = refl
  map-at_place number zero (p ∷ ps) only = ap (λ qs. one_less number p ∷ qs) (map-without number ps (λ k. only (suc k) (λ h. absurd (omega (arith, h)))))
  map-at_place number (suc place) (p ∷ ps) only =
      ap (λ q. q ∷ map (one_less number) ps) (less-without number p (only 0 (λ h. absurd (omega (arith, h)))))
      ∙ ap (λ qs. p ∷ qs) (map-at_place number place ps (λ k away. only (suc k) (λ h. away (omega (arith, h)))))

  -- nothing is removed from a procedure among whose clauses the number is not
  pub at_place-without : (number place : ℕ) (ps : List (Procedure C)) → has_in (clauses_of (slice_get ps place)) number ≡ false → at_place place (one_less number) ps ≡ ps
  at_place-without number place [] gone = refl
  at_place-without number zero (p ∷ ps) gone = ap (λ q. q ∷ ps) (less-without number p gone)
  at_place-without number (suc place) (p ∷ ps) gone = ap (λ qs. p ∷ qs) (at_place-without number place ps gone)

  -- a clause of this procedure is in no other
  pub only-shown : (slots : List (Slot C)) (r : ℕ) (heads : List Heading) (entries : List Kept) (number place : ℕ) → IsKept procedure_of slots r (length heads) entries → is_place place (procedure_at slots number) ≡ true → OnlyAt number place (shown slots r heads entries)
  only-shown slots r heads entries number place kept told p away = elsewhere-shown slots r heads entries number p kept (by (is_place p (procedure_at slots number)) refl)
    where
      by : (b : Bool) → is_place p (procedure_at slots number) ≡ b → is_place p (procedure_at slots number) ≡ false
      by true e = absurd (away (same_Some p place (sym (place_told p (procedure_at slots number) e) ∙ place_told place (procedure_at slots number) told)))
      by false e = e

  -- the database has the clause where the procedure of its slot has it
  pub has_shown-at : (slots : List (Slot C)) (r : ℕ) (heads : List Heading) (entries : List Kept) (number place : ℕ) → IsKept procedure_of slots r (length heads) entries → is_place place (procedure_at slots number) ≡ true
      → has_shown number (shown slots r heads entries) ≡ has_in (clauses_of (slice_get (shown slots r heads entries) place)) number
  has_shown-at slots r heads entries number place kept told =
      sym (has-shown slots r heads entries number kept) ∙ sym (here-shown slots r heads entries number place kept (place_told place (procedure_at slots number) told))
