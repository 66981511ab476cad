-- Marks of parts that are added.
use Rattle.std.proofs.Common.{◌≡◌, ◌≢◌, ℕ, zero, suc, ◌==◌, ◌<◌, ◌≤◌, List, [], ◌∷◌, ◌++◌, length, get_or, Bool, true, false, Some, inl, inr, refl, sym, ap, subst, ◌∙◌, arith, append_assoc, if◌then◌else◌}
use Rattle.std.proofs.lemmas.Bool.{cases_Bool, eqb-true, eq-eqb, true≢false}
use Rattle.std.proofs.lemmas.List.{get_or-set_same, get_or-set_other, append-nil}
use Rattle.std.specs.List.{slice_get, slice_set}
use Rattle.iso_alloc.specs.declared.places.Place.{Place}
use Rattle.iso_alloc.specs.declared.places.Place.TheVariants.{Register, Slot, Nowhere}
use Rattle.iso_compile.specs.declared.instructions.Part.{Part}
use Rattle.iso_compile.specs.declared.instructions.Part.TheVariants.{New, Old, Void, Integer, Atom, Inner}
use Rattle.iso_compile.specs.Emitted.{IsMarked, met_after, AreMarked, met_behind, is_met, Marking, Marks, AreNew}

-- the part that is added is marked where the same variables were met
same_mark : (places : List Place) (met other : ℕ → Bool) (part : Part) → ((x : ℕ) → met x ≡ other x) → IsMarked places other part → IsMarked places met part
same_mark places met other (New x place) same h = (same x ∙ h.0, h.1, h.2)
same_mark places met other (Old x place) same h = (same x ∙ h.0, h.1)
same_mark places met other (Void x) same h = (same x ∙ h.0, h.1)
same_mark places met other (Integer z) same h = tt
same_mark places met other (Atom a) same h = tt
same_mark places met other (Inner r) same h = tt

same_after : (met other : ℕ → Bool) (part : Part) → ((x : ℕ) → met x ≡ other x) → (k : ℕ) → met_after met part k ≡ met_after other part k
same_after met other (New x place) same k = ap (λ b. if k == x then true else b) (same k)
same_after met other (Old x place) same k = same k
same_after met other (Void x) same k = ap (λ b. if k == x then true else b) (same k)
same_after met other (Integer z) same k = same k
same_after met other (Atom a) same k = same k
same_after met other (Inner r) same k = same k

marked_more : (places : List Place) (met : ℕ → Bool) (parts : List Part) (part : Part) → AreMarked places met parts → IsMarked places (met_behind met parts) part → AreMarked places met (parts ++ part ∷ [])
marked_more places met [] part h k = (k, tt)
marked_more places met (p ∷ parts) part h k = (h.0, marked_more places (met_after met p) parts part h.1 k)

behind_more : (met : ℕ → Bool) (parts : List Part) (part : Part) (k : ℕ) → met_behind met (parts ++ part ∷ []) k ≡ met_after (met_behind met parts) part k
behind_more met [] part k = refl
behind_more met (p ∷ parts) part k = behind_more (met_after met p) parts part k

-- one part more, which is marked by the list
pub marks_part : (places : List Place) (before after : List Bool) (part : Part) → IsMarked places (is_met before) part → ((k : ℕ) → met_after (is_met before) part k ≡ is_met after k) → Marks places (part ∷ []) before after
marks_part places before after part marked behind met parts h = record {
  marked = marked_more places met parts part h.marked (same_mark places (met_behind met parts) (is_met before) part h.behind marked);
  behind = λ k. behind_more met parts part k ∙ same_after (met_behind met parts) (is_met before) part h.behind k ∙ behind k;
}

pub marks_none : (places : List Place) (list : List Bool) → Marks places [] list list
marks_none places list met parts h = subst (λ ps. Marking places met ps list) (sym (append-nil parts)) h

pub marks_on : (places : List Place) (first second : List Part) (before between after : List Bool) → Marks places first before between → Marks places second between after → Marks places (first ++ second) before after
marks_on places first second before between after h k met parts given =
    subst (λ ps. Marking places met ps after) (append_assoc parts first second) (k met (parts ++ first) (h met parts given))

pub past : (list : List Bool) (x : ℕ) → length list ≤ x → is_met list x ≡ true
past [] x h = refl
past (b ∷ list) zero h = absurd (omega (arith, h))
past (b ∷ list) (suc x) h = past list x (omega (arith, h))

pub default_apart : (list : List Bool) (x : ℕ) (b d : Bool) → x < length list → b ≡ get_or list x d → is_met list x ≡ b
default_apart [] x b d low h = absurd (omega (arith, low))
default_apart (c ∷ list) zero b d low h = sym h
default_apart (c ∷ list) (suc x) b d low h = default_apart list x b d (omega (arith, low)) h

noted_at : (list : List Bool) (x : ℕ) → x < length list → (k : ℕ) → (if k == x then true else is_met list k) ≡ is_met (slice_set list x true) k
noted_at list x low k = elim (cases_Bool (k == x)) [
  | inl same ↦ rw same (sym (ap (λ m. get_or (slice_set list x true) m true) (eqb-true k x same) ∙ get_or-set_same list x true true low))
  | inr other ↦ rw other (sym (get_or-set_other list x k true true (λ e. true≢false (sym (eq-eqb k x e) ∙ other))))
]

module _ (places : List Place) (list : List Bool) (x : ℕ) (same : length list ≡ length places) where
  -- a variable that has no place
  pub marks_past : length list ≤ x → Marks places (Old x Nowhere ∷ []) list list
  marks_past high = marks_part places list list (Old x Nowhere) (past list x high, λ low. absurd (omega (arith, low, same, high))) (λ k. refl)

  module _ (place : Place) (b d : Bool) (low : x < length list) (got : b ≡ get_or list x d) (is : slice_get places x ≡ Some place) where
    pub marks_old : b ≡ true → Marks places (Old x place ∷ []) list list
    marks_old met = marks_part places list list (Old x place) (default_apart list x b d low got ∙ met, λ _. is) (λ k. refl)

    pub marks_void : b ≡ false → place ≡ Nowhere → Marks places (Void x ∷ []) list (slice_set list x true)
    marks_void met none = marks_part places list (slice_set list x true) (Void x) (default_apart list x b d low got ∙ met, is ∙ ap Some none) (noted_at list x low)

    pub marks_new : b ≡ false → place ≢ Nowhere → Marks places (New x place ∷ []) list (slice_set list x true)
    marks_new met some = marks_part places list (slice_set list x true) (New x place) (default_apart list x b d low got ∙ met, is, some) (noted_at list x low)

abbrev is_nowhere : Place → Bool
is_nowhere Nowhere = true
is_nowhere (Register r) = false
is_nowhere (Slot s) = false

pub no_register : (r : ℕ) → Register r ≡ Nowhere → ⊥
no_register r e = true≢false (sym (ap is_nowhere e))

pub no_slot : (s : ℕ) → Slot s ≡ Nowhere → ⊥
no_slot s e = true≢false (sym (ap is_nowhere e))

pub noted_itself : (list : List Bool) (x : ℕ) → x < length list → is_met (slice_set list x true) x ≡ true
noted_itself list x low = get_or-set_same list x true true low

pub noted_kept : (list : List Bool) (x : ℕ) → x < length list → (k : ℕ) → is_met list k ≡ true → is_met (slice_set list x true) k ≡ true
noted_kept list x low k h = sym (noted_at list x low k) ∙ either (k == x)
  where
    either : (b : Bool) → (if b then true else is_met list k) ≡ true
    either true = refl
    either false = h

pub new_more : (old new : List Part) (part : Part) → new ≡ old ++ part ∷ [] → AreNew (part ∷ []) → AreNew old → AreNew new
new_more old new part is one before = subst AreNew (sym is) (all old before)
  where
    all : (ps : List Part) → AreNew ps → AreNew (ps ++ part ∷ [])
    all [] h = one
    all (New x place ∷ ps) h = all ps h
    all (Old x place ∷ ps) h = absurd h
    all (Void x ∷ ps) h = absurd h
    all (Integer z ∷ ps) h = absurd h
    all (Atom a ∷ ps) h = absurd h
    all (Inner r ∷ ps) h = absurd h
