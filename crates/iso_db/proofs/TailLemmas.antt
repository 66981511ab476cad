-- Numbers that end others: what is left of a list while it is gone through.
use Rattle.std.proofs.Common.{◌≡◌, ◌+◌, ◌-◌, ◌<◌, ◌≤◌, ◌∙◌, ℕ, List, [], Option, take, drop, drop-drop, get_or, length, ap, sym, subst, arith}
use Rattle.std.specs.List.{All}
use Rattle.std.proofs.lemmas.List.{length-drop, get_or-drop, take_rest}
use Rattle.iso_clauses.specs.Blocks.{Kept}
use Rattle.iso_clauses.specs.Kept.{Trimmed}
use Rattle.iso_clauses.specs.Slots.{given}
use Rattle.iso_clauses.specs.Stepping.{Steps}
use Rattle.iso_clauses.specs.declared.keys.FirstKey.{FirstKey}
use Rattle.iso_clauses.specs.declared.slots.Slot.{Slot}
use Rattle.iso_db.specs.Keyed.{usable}
use Rattle.iso_db.specs.Tails.{IsTail}

-- what is cut off behind the first ones
pub IsTail-cut : (f : ℕ) (ns : List ℕ) → f ≤ length ns → IsTail ns (take (length ns - f) (drop f ns))
IsTail-cut f ns h = (f, take_rest ns f, h)

pub IsTail-join : (ns ms ls : List ℕ) → IsTail ns ms → IsTail ms ls → IsTail ns ls
IsTail-join ns ms ls (j, is, few) (k, are, fewer) =
    (j + k, are ∙ ap (drop k) is ∙ drop-drop k j ns, omega (arith, few, fewer, ap length is ∙ length-drop j ns))

-- where it begins
pub IsTail-place : (ns ms : List ℕ) (size : ℕ) → IsTail ns ms → size ≡ length ns → ms ≡ drop (size - length ms) ns
IsTail-place ns ms size (j, is, few) all =
    let place : j ≡ size - length ms = omega (arith, few, all, ap length is ∙ length-drop j ns) in
    is ∙ ap (λ k. drop k ns) place

pub IsTail-fewer : (ns ms : List ℕ) → IsTail ns ms → length ms ≤ length ns
IsTail-fewer ns ms (j, is, few) = omega (arith, ap length is ∙ length-drop j ns)

-- what holds of each number holds of each of these
pub All-tail : (size : ℕ) (ns ms : List ℕ) → All (λ n. n < size) ns → IsTail ns ms → All (λ n. n < size) ms
All-tail size ns ms all (j, is, few) = λ k d h.
    let inside : j + k < length ns = omega (arith, h, ap length is ∙ length-drop j ns) in
    subst (λ n. n < size) (sym (ap (λ xs. get_or xs k d) is ∙ get_or-drop j ns k d)) (all (j + k) d inside)

module _ {C : Type 0} where
  -- the removed clauses that come first are within the block
  pub first_inside : (slots : List (Slot C)) (r : ℕ) (e : Kept) (ns : List ℕ) (f : ℕ) → Trimmed slots r e → e.current.front ≡ [] → ns ≡ e.current.back → f ≡ e.first → f ≤ length ns
  first_inside slots r e ns f trimmed none is at = omega (arith, trimmed.within, ap length none, ap length is, at)

  -- a step through numbers that end a block's
  pub steps_at : (slots : List (Slot C)) (key : Option FirstKey) (r : ℕ) (bs ns ms : List ℕ) (start next : ℕ) (o : Option ℕ) → ns ≡ drop start bs → ms ≡ drop next bs
      → Steps (usable slots key (given slots r ns)) o (usable slots key (given slots r ms))
      → Steps (usable slots key (given slots r (drop start bs))) o (usable slots key (given slots r (drop next bs)))
  steps_at slots key r bs ns ms start next o is are steps =
      subst (λ xs. Steps (usable slots key (given slots r xs)) o (usable slots key (given slots r (drop next bs)))) is
      (subst (λ xs. Steps (usable slots key (given slots r ns)) o (usable slots key (given slots r xs))) are steps)
