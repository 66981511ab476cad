-- The class of a variable by its use.
use Rattle.std.proofs.Common.{◌≡◌, ℕ, zero, suc, ◌+◌, ◌<◌, ◌≤◌, min, List, [], ◌∷◌, drop, Bool, true, false, ◌||◌, ◌&&◌, nat_lt, refl, sym, ap, ap₂, ◌∙◌, arith, inl, inr, if◌then◌else◌}
use Rattle.std.specs.List.{list_any}
use Rattle.std.proofs.lemmas.Bool.{cases_Bool, lt-ltb, ltb-true, ltb-false}
use Rattle.iso_model.specs.Terms.Trees.{Tree, row}
use Rattle.iso_model.specs.Terms.Variables.{occurs}
use Rattle.iso_prep.specs.declared.classes.Class.{Class}
use Rattle.iso_prep.specs.declared.classes.Class.TheVariants.{Void, Temporary, Permanent}
use Rattle.iso_prep.specs.declared.uses.Use.{Use}
use Rattle.iso_prep.specs.Classes.{occurrences, goals_with, last_from, last_goal, is_permanent, class_in_clause}
use Rattle.iso_prep.specs.Uses.{first_from, use_of}

pub not_less : (m n : ℕ) → n ≤ m → nat_lt m n ≡ false
not_less m n few =
    elim (cases_Bool (nat_lt m n)) [
      | inr less ↦ less
      | inl more ↦ (let above = ltb-true m n more in absurd (omega arith))
    ]

same_test : (a b c d : ℕ) → (a < b → c < d) → (b ≤ a → d ≤ c) → nat_lt a b ≡ nat_lt c d
same_test a b c d when_less otherwise =
    elim (cases_Bool (nat_lt a b)) [
      | inl less ↦ less ∙ sym (lt-ltb c d (when_less (ltb-true a b less)))
      | inr more ↦ more ∙ sym (not_less c d (otherwise (ltb-false a b more)))
    ]

-- the last goal is none of those that lack the variable, and no earlier than the first that has it
pub last_none : (x n l : ℕ) (gs : List Tree) → goals_with x gs ≡ 0 → last_from x n l gs ≡ l
last_none x n l [] h = refl
last_none x n l (g ∷ gs) h =
    elim (cases_Bool (occurs x g)) [
      | inl here ↦ (let e : 1 + goals_with x gs ≡ 0 = rw here at h in absurd (omega arith))
      | inr other ↦ (let e : 0 + goals_with x gs ≡ 0 = rw other at h in let f : goals_with x gs ≡ 0 = omega arith in rw other (last_none x (n + 1) l gs f))
    ]

pub last_some : (x n l : ℕ) (gs : List Tree) → 0 < goals_with x gs → n ≤ last_from x n l gs
last_some x n l [] h = absurd (omega arith)
last_some x n l (g ∷ gs) h =
    elim (cases_Bool (occurs x g)) [
      | inl here ↦ rw here (kept (goals_with x gs) refl (λ some. last_some x (n + 1) n gs some))
      | inr other ↦ (let e : 0 < 0 + goals_with x gs = rw other at h in let f : 0 < goals_with x gs = omega arith in let k = last_some x (n + 1) l gs f in rw other (omega arith))
    ]
  where
    kept : (k : ℕ) → goals_with x gs ≡ k → (0 < goals_with x gs → n + 1 ≤ last_from x (n + 1) n gs) → n ≤ last_from x (n + 1) n gs
    kept zero e later = let same = last_none x (n + 1) n gs e in omega arith
    kept (suc k) e later = let far : n + 1 ≤ last_from x (n + 1) n gs = later (omega arith) in omega arith

-- more than one goal has it exactly where its last goal is behind its first
pub more_goals : (x n : ℕ) (gs : List Tree) → nat_lt 1 (goals_with x gs) ≡ nat_lt (first_from x n gs) (last_from x n 0 gs)
more_goals x n [] = refl
more_goals x n (g ∷ gs) =
    elim (cases_Bool (occurs x g)) [
      | inl here ↦ rw here (by_count (goals_with x gs) refl)
      | inr other ↦ (let e : 0 + goals_with x gs ≡ goals_with x gs = omega arith in rw other (ap (nat_lt 1) e ∙ more_goals x (n + 1) gs))
    ]
  where
    by_count : (k : ℕ) → goals_with x gs ≡ k → nat_lt 1 (1 + goals_with x gs) ≡ nat_lt n (last_from x (n + 1) n gs)
    by_count zero e = let same = last_none x (n + 1) n gs e in same_test 1 (1 + goals_with x gs) n (last_from x (n + 1) n gs) (λ h. absurd (omega arith)) (λ h. omega arith)
    by_count (suc k) e = let later = last_some x (n + 1) n gs (omega arith) in same_test 1 (1 + goals_with x gs) n (last_from x (n + 1) n gs) (λ h. omega arith) (λ h. absurd (omega arith))

some_goals : (x : ℕ) (gs : List Tree) → list_any (occurs x) gs ≡ nat_lt 0 (goals_with x gs)
some_goals x [] = refl
some_goals x (g ∷ gs) =
    elim (cases_Bool (occurs x g)) [
      | inl here ↦ rw here (sym (lt-ltb 0 (1 + goals_with x gs) (omega arith)))
      | inr other ↦ (let e : 0 + goals_with x gs ≡ goals_with x gs = omega arith in rw other (some_goals x gs ∙ ap (nat_lt 0) (sym e)))
    ]

first_is_low : (b : Bool) → (if b then 1 else 0) ≤ 1
first_is_low true = omega arith
first_is_low false = omega arith

-- the last goal behind a first one, whose number is 1 where it has the variable
behind_one : (x l k : ℕ) (gs : List Tree) → l ≤ 1 → goals_with x gs ≡ k → nat_lt 0 (goals_with x gs) ≡ nat_lt 1 (last_from x 2 l gs)
behind_one x l zero gs low e =
    let same = last_none x 2 l gs e in
    same_test 0 (goals_with x gs) 1 (last_from x 2 l gs) (λ h. absurd (omega arith)) (λ h. omega arith)
behind_one x l (suc k) gs low e =
    let later = last_some x 2 l gs (omega arith) in
    same_test 0 (goals_with x gs) 1 (last_from x 2 l gs) (λ h. omega arith) (λ h. absurd (omega arith))

pub behind_first : (x : ℕ) (gs : List Tree) → list_any (occurs x) (drop 1 gs) ≡ nat_lt 1 (last_goal x gs)
behind_first x [] = refl
behind_first x (g ∷ gs) = some_goals x gs ∙ behind_one x (if occurs x g then 1 else 0) (goals_with x gs) gs (first_is_low (occurs x g)) refl

-- the class by the use
abbrev pub class_by : Use → Class
class_by u = if nat_lt u.times 2 then Void else (if nat_lt u.first u.last || (u.in_head && nat_lt 1 u.last) then Permanent else Temporary)

pub class_of_use : (x : ℕ) (head : Tree) (gs : List Tree) → class_by (use_of x head gs) ≡ class_in_clause x head gs
class_of_use x head gs =
    let few : nat_lt (min 2 (occurrences x head + occurrences x (row gs))) 2 ≡ nat_lt (occurrences x head + occurrences x (row gs)) 2 =
    same_test (min 2 (occurrences x head + occurrences x (row gs))) 2 (occurrences x head + occurrences x (row gs)) 2 (λ h. omega arith) (λ h. omega arith) in
    let permanent : nat_lt (first_from x 1 gs) (last_goal x gs) || (occurs x head && nat_lt 1 (last_goal x gs)) ≡ is_permanent x head gs =
    ap₂ (λ a b. a || (occurs x head && b)) (sym (more_goals x 1 gs)) (sym (behind_first x gs)) in
    ap₂ (λ a b. if a then Void else (if b then Permanent else Temporary)) few permanent
