-- Members of rows, and rows from a place on.
use Rattle.std.proofs.Common.{◌≡◌, ◌+◌, ◌<◌, ◌≤◌, ℕ, zero, suc, true, refl, ap, ◌∙◌, arith}
use Rattle.std.proofs.lemmas.Bool.{false≢true, and_parts}
use Rattle.iso_model.specs.Terms.Trees.{Tree, Variable, Integer, Name, Apply, End, More, count}
use Rattle.iso_model.specs.Terms.Sorts.{is_term, is_row}
use Rattle.iso_model.specs.Terms.Substitutions.{Subst, apply}
use Rattle.iso_store_core.specs.Arguments.{member, members_from}

-- a member under a substitution
pub member_applied : (s : Subst) (ts : Tree) (i : ℕ) → i < count ts → member i (apply s ts) ≡ apply s (member i ts)
member_applied s (More t ts) zero h = refl
member_applied s (More t ts) (suc i) h = member_applied s ts i (omega (arith, h))
member_applied s (Variable n) i h = absurd (omega (arith, h))
member_applied s (Integer z) i h = absurd (omega (arith, h))
member_applied s (Name a) i h = absurd (omega (arith, h))
member_applied s (Apply f ts) i h = absurd (omega (arith, h))
member_applied s End i h = absurd (omega (arith, h))

-- the members from a place on begin with the one there
pub members_more : (i : ℕ) (ws : Tree) → i < count ws → members_from i ws ≡ More (member i ws) (members_from (i + 1) ws)
members_more zero (More t ts) h = refl
members_more (suc i) (More t ts) h = let e : suc (i + 1) ≡ suc i + 1 = omega arith in members_more i ts (omega (arith, h)) ∙ ap (λ k. More (member i ts) (members_from k (More t ts))) e
members_more i (Variable n) h = absurd (omega (arith, h))
members_more i (Integer z) h = absurd (omega (arith, h))
members_more i (Name a) h = absurd (omega (arith, h))
members_more i (Apply f ts) h = absurd (omega (arith, h))
members_more i End h = absurd (omega (arith, h))

-- behind all of them there is none
pub members_end : (i : ℕ) (ws : Tree) → is_row ws ≡ true → count ws ≤ i → members_from i ws ≡ End
members_end zero End row h = refl
members_end zero (More t ts) row h = absurd (omega (arith, h))
members_end (suc i) End row h = refl
members_end (suc i) (More t ts) row h = members_end i ts ((and_parts (is_term t) (is_row ts) row).1) (omega (arith, h))
members_end i (Variable n) row h = absurd (false≢true row)
members_end i (Integer z) row h = absurd (false≢true row)
members_end i (Name a) row h = absurd (false≢true row)
members_end i (Apply f ts) row h = absurd (false≢true row)
