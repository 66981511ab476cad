-- Keys that are the same, and where a part is found.
use Rattle.std.proofs.Common.{rules, ◌≡◌, ◌≢◌, ◌<◌, ◌&&◌, ◌==◌, ◌++◌, ◌∷◌, [], ℕ, Bool, true, false, List, Option, Some, None, position, get_or, is_some, refl, sym, ap, ◌∙◌, eq-eqb, if◌then◌else◌, length}
use Rattle.std.specs.List.{slice_get, list_any}
use Rattle.std.specs.Option.{IfSome, IfNone}
use Rattle.std.specs.Ordering.{int_eq}
use Rattle.std.proofs.lemmas.Option.{slice_get-get_or, slice_get_within, get_or_from_slice_get}
use Rattle.std.proofs.lemmas.List.Quantifiers.{position-Some}
use Rattle.std.proofs.lemmas.List.Folds.{list_any_at, list_any_none}
use Rattle.std.proofs.lemmas.Bool.{false≢true, false_from_ne_true, and_parts, and_from, eqb-true}
use Rattle.std.proofs.lemmas.Bool.Decides.{Decides-int_eq}
use Rattle.iso_db.specs.declared.parts.Part.{Part}
use Rattle.iso_clauses.specs.declared.keys.FirstKey.{FirstKey}
use Rattle.iso_clauses.specs.declared.keys.FirstKey.TheVariants.{Integer, Wide, Atom, Compound}
use Rattle.iso_db.specs.contracts.parts.PartPartialEq.TheImpl.{eq-value}
use Rattle.iso_clauses.specs.Fits.{same_key, has_key}

same_itself : (k : FirstKey) → same_key k k ≡ true
same_itself (Integer y) = (Decides-int_eq y y).1 refl
same_itself (Wide h m) = and_from (int_eq h h) (m == m) ((Decides-int_eq h h).1 refl) (eq-eqb m m refl)
same_itself (Atom a) = eq-eqb a a refl
same_itself (Compound a m) = and_from (a == a) (m == m) (eq-eqb a a refl) (eq-eqb m m refl)

same_told : (j k : FirstKey) → same_key j k ≡ true → j ≡ k
same_told (Integer y) (Integer z) h = ap Integer ((Decides-int_eq y z).0 h)
same_told (Wide h m) (Wide k n) both =
    let each = and_parts (int_eq h k) (m == n) both in
    ap (λ x. Wide x m) ((Decides-int_eq h k).0 each.0) ∙ ap (Wide k) (eqb-true m n each.1)
same_told (Atom a) (Atom b) h = ap Atom (eqb-true a b h)
same_told (Compound a m) (Compound b n) h =
    let both = and_parts (a == b) (m == n) h in
    ap (λ x. Compound x m) (eqb-true a b both.0) ∙ ap (Compound b) (eqb-true m n both.1)
same_told j k h = absurd (false≢true h)

-- a key is the same as itself, and as no other
pub key_itself : (k : Option FirstKey) → has_key k k ≡ true
key_itself None = refl
key_itself (Some k) = same_itself k

pub key_told : (j k : Option FirstKey) → has_key j k ≡ true → j ≡ k
key_told None None h = refl
key_told None (Some k) h = absurd (false≢true h)
key_told (Some j) None h = absurd (false≢true h)
key_told (Some j) (Some k) h = ap Some (same_told j k h)

-- whether two parts are the same
abbrev pub same_part : Part → Part → Bool
same_part p q = (p.place == q.place) && has_key p.key q.key

part_told : (p q : Part) → same_part p q ≡ true → p ≡ q
part_told p q h =
    let both = and_parts (p.place == q.place) (has_key p.key q.key) h in
    ap (λ n. let x : Part = record { place = n; key = p.key } in x) (eqb-true p.place q.place both.0) ∙ ap (λ k. let x : Part = record { place = q.place; key = k } in x) (key_told p.key q.key both.1)

part_itself : (p : Part) → same_part p p ≡ true
part_itself p = and_from (p.place == p.place) (has_key p.key p.key) (eq-eqb p.place p.place refl) (key_itself p.key)

-- the source's `==`
abbrev pub part_eq : Part → Part → Bool
part_eq = eq-value.it

part_eq-is : (p q : Part) → part_eq p q ≡ same_part p q
part_eq-is p q = search rules

pub if_found : (p : Part) (ps : List Part) (o : Option ℕ) → o ≡ position (part_eq p) ps → IfSome o (λ n. slice_get ps n ≡ Some p)
if_found p ps None is = tt
if_found p ps (Some n) is =
    let at = position-Some (part_eq p) ps n p (sym is) in
    slice_get-get_or ps n p at.0 ∙ ap Some (sym (part_told p (get_or ps n p) (sym (part_eq-is p (get_or ps n p)) ∙ at.1)))

pub if_absent : (p : Part) (ps : List Part) (o : Option ℕ) → is_some o ≡ list_any (part_eq p) ps → IfNone o ((n : ℕ) → slice_get ps n ≢ Some p)
if_absent p ps None is = λ n at.
    false≢true (is ∙ list_any_at (part_eq p) ps n p (slice_get_within ps n p at) (ap (part_eq p) (get_or_from_slice_get ps n p p at) ∙ part_eq-is p p ∙ part_itself p))
if_absent p ps (Some n) is = tt

-- a part that is not there comes behind the others
pub new_part : (p : Part) (ps : List Part) → ((n : ℕ) → slice_get ps n ≢ Some p) → (if list_any (part_eq p) ps then ps else ps ++ p ∷ []) ≡ ps ++ p ∷ []
new_part p ps away = ap (λ b. if b then ps else ps ++ p ∷ []) (list_any_none (part_eq p) ps (λ k d h. other k d h))
  where
    other : (k : ℕ) (d : Part) → k < length ps → part_eq p (get_or ps k d) ≡ false
    other k d h = false_from_ne_true (part_eq p (get_or ps k d))
        (λ e. away k (slice_get-get_or ps k d h ∙ ap Some (sym (part_told p (get_or ps k d) (sym (part_eq-is p (get_or ps k d)) ∙ e)))))
