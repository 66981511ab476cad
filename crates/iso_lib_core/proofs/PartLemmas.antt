-- Arguments and variables as lists of terms, one more at a time; two unifications in turn.
use Rattle.std.proofs.Common.{◌≡◌, ◌<◌, ◌≤◌, ℕ, zero, suc, ◌+◌, ◌-◌, List, [], ◌∷◌, ◌++◌, length, map, take, Bool, true, false, ◌&&◌, nat_le, refl, sym, ap, ap₂, subst, ◌∙◌, arith, IfOk, Ok, Err}
use Rattle.std.proofs.lemmas.Bool.{and_from, le-leb}
use Rattle.iso_model.specs.Terms.Trees.{Tree, Variable, Integer, Name, Apply, End, More, row, count, arities_fit}
use Rattle.iso_model.specs.Terms.Arguments.{member, joined, listed, variables_from}
use Rattle.iso_model.specs.Terms.Substitutions.{Subst, apply, compose}
use Rattle.iso_model.specs.Terms.Unifiers.{Unifier, NeverEqual}
use Rattle.iso_model.specs.Terms.Unification.Applied.{apply_apply, apply_none}
use Rattle.iso_model.specs.Terms.Unification.Composed.{unifier_more, unifier_same, never_first, never_rest}
use Rattle.std.specs.Prelude.{Result}
use Rattle.iso_store_core.specs.declared.shapes.StoreFault.{StoreFault}
use Rattle.iso_store_core.specs.Presents.{Present, Binds, IsUnification, KeepsNumbers, Makes, meaning}
use Rattle.std.specs.Bool.{if◌then◌else◌}
use Rattle.iso_model.specs.Search.Replies.{Answer, Equate}
use Rattle.iso_lib_core.specs.Lists.{Comes}
use Rattle.iso_lib_core.specs.Replies.{IsReply, IsDone, IsFailed}
use Rattle.iso_lib_core.specs.declared.outcomes.Reply.TheVariants as reply

-- ---- lists of terms

pub joined_end : (ts : List Tree) → joined (row ts) End ≡ row ts
joined_end [] = refl
joined_end (t ∷ ts) = ap (More t) (joined_end ts)

pub joined_pushed : (ts : List Tree) (t us : Tree) → joined (row (ts ++ t ∷ [])) us ≡ joined (row ts) (More t us)
joined_pushed [] t us = refl
joined_pushed (x ∷ xs) t us = ap (More x) (joined_pushed xs t us)

pub variables_next : (i n : ℕ) → i < n → variables_from i (n - i) ≡ More (Variable i) (variables_from (i + 1) (n - (i + 1)))
variables_next i n h =
    let some : n - i ≡ suc (n - (i + 1)) = omega (arith, h) in
    let next : suc i ≡ i + 1 = omega arith in
    ap (variables_from i) some ∙ ap (λ k. More (Variable i) (variables_from k (n - (i + 1)))) next

variables_counted : (i n : ℕ) → count (variables_from i n) ≡ n
variables_counted i zero = refl
variables_counted i (suc n) =
    let next : n + 1 ≡ suc n = omega arith in
    ap (λ k. k + 1) (variables_counted (suc i) n) ∙ next

variables_fit : (i n : ℕ) → arities_fit (variables_from i n) ≡ true
variables_fit i zero = refl
variables_fit i (suc n) = variables_fit (suc i) n

-- a compound of new variables can be in a store
pub new_fits : (f : List ℕ) (n : ℕ) → 0 < n → n < 256 → arities_fit (Apply f (variables_from 0 n)) ≡ true
new_fits f n some few =
    and_from (nat_le 1 (count (variables_from 0 n))) (nat_le (count (variables_from 0 n)) 255 && arities_fit (variables_from 0 n))
    (ap (nat_le 1) (variables_counted 0 n) ∙ le-leb 1 n some)
    (and_from (nat_le (count (variables_from 0 n)) 255) (arities_fit (variables_from 0 n)) (ap (λ k. nat_le k 255) (variables_counted 0 n) ∙ le-leb n 255 (omega (arith, few))) (variables_fit 0 n))

-- the members up to a place, and one more
pub listed_next : (i : ℕ) (ts : Tree) → i < count ts → take (i + 1) (listed ts) ≡ take i (listed ts) ++ member i ts ∷ []
listed_next zero (More t ts) h = refl
listed_next (suc i) (More t ts) h =
    let next : suc i + 1 ≡ suc (i + 1) = omega arith in
    ap (λ n. take n (t ∷ listed ts)) next ∙ ap (λ us. t ∷ us) (listed_next i ts (omega (arith, h)))
listed_next i (Variable n) h = absurd (omega (arith, h))
listed_next i (Integer z) h = absurd (omega (arith, h))
listed_next i (Name a) h = absurd (omega (arith, h))
listed_next i (Apply f ts) h = absurd (omega (arith, h))
listed_next i End h = absurd (omega (arith, h))

pub listed_all : (ts : Tree) → take (count ts) (listed ts) ≡ listed ts
listed_all (More t ts) =
    let next : count ts + 1 ≡ suc (count ts) = omega arith in
    ap (λ n. take n (t ∷ listed ts)) next ∙ ap (λ us. t ∷ us) (listed_all ts)
listed_all (Variable n) = refl
listed_all (Integer z) = refl
listed_all (Name a) = refl
listed_all (Apply f ts) = refl
listed_all End = refl

-- ---- unifications in turn

-- lists of one term
one_row : (a b : Tree) (s : Subst) → Unifier a b s → Unifier (More a End) (More b End) s
one_row a b s h = subst (λ t. Unifier (More a End) (More b End) t) (λ i. λ n. apply_none (s n) i) (unifier_more h (unifier_same End))

never_one : (a b : Tree) → NeverEqual a b → NeverEqual (More a End) (More b End)
never_one a b never = never_first a b End End never

module _ {W : Type 0} (p m : Present W) where
  -- what a word stands for after bindings
  pub meaning_bound : (s : Subst) (w : W) → Binds p m s → p.holds w ≡ true → meaning m w ≡ apply s (meaning p w)
  meaning_bound s w h there = ap₂ apply h.substitution (h.words.terms w there) ∙ sym (apply_apply p.substitution s (p.term w))

  -- two pairs of words unified in turn
  pub both_unified : (q : Present W) (a b c d : W) (answer : Bool) → p.holds c ≡ true → p.holds d ≡ true → IsUnification p m (meaning p a) (meaning p b) true → IsUnification m q (meaning m c) (meaning m d) answer
      → IsUnification p q (row (meaning p a ∷ meaning p c ∷ [])) (row (meaning p b ∷ meaning p d ∷ [])) answer
  both_unified q a b c d true one other first second =
      let s = first.0 in
      let left = meaning_bound s c first.2 one in
      let right = meaning_bound s d first.2 other in
      let here : Unifier (apply s (meaning p c)) (apply s (meaning p d)) second.0 = subst (λ t. Unifier t (apply s (meaning p d)) second.0) left (subst (λ t. Unifier (meaning m c) t second.0) right second.1) in (
        compose s second.0,
        unifier_more first.1 (one_row (apply s (meaning p c)) (apply s (meaning p d)) second.0 here),
        record {
          words = record {
            stand = λ v k. second.2.words.stand v (first.2.words.stand v k);
            terms = λ v k. second.2.words.terms v (first.2.words.stand v k) ∙ first.2.words.terms v k;
          };
          numbers = record { next = second.2.numbers.next ∙ first.2.numbers.next; taken = λ n. second.2.numbers.taken n ∙ first.2.numbers.taken n };
          substitution = second.2.substitution ∙ ap (λ r. compose r second.0) first.2.substitution ∙ (λ i. λ n. apply_apply s second.0 (p.substitution n) i);
        },
      )
  both_unified q a b c d false one other first second =
      let s = first.0 in
      let left = meaning_bound s c first.2 one in
      let right = meaning_bound s d first.2 other in
      let here : NeverEqual (apply s (meaning p c)) (apply s (meaning p d)) = subst (λ t. NeverEqual t (apply s (meaning p d))) left (subst (λ t. NeverEqual (meaning m c) t) right second) in
      never_rest (More (meaning p c) End) (More (meaning p d) End) first.1 (never_one (apply s (meaning p c)) (apply s (meaning p d)) here)

  pub both_answered : (q : Present W) (a b c d : W) (met : Bool) (r : Result Bool StoreFault) → p.holds c ≡ true → p.holds d ≡ true → IsUnification p m (meaning p a) (meaning p b) met → met ≡ true
      → IfOk r (IsUnification m q (meaning m c) (meaning m d)) → IfOk r (IsUnification p q (row (meaning p a ∷ meaning p c ∷ [])) (row (meaning p b ∷ meaning p d ∷ [])))
  both_answered q a b c d met (Ok answer) one other first is second = both_unified q a b c d answer one other (subst (IsUnification p m (meaning p a) (meaning p b)) is first) second
  both_answered q a b c d met (Err fault) one other first is second = tt

  -- a compound that came
  pub compound_comes : (f : List ℕ) (ws : List W) (v : W) → Makes p m v (Apply f (row (map p.term ws))) → Comes p m v (Apply f (row (map (meaning p) ws)))
  compound_comes f ws v made = record {
    words = made.words;
    substitution = made.substitution;
    holds = made.holds;
    value = ap₂ apply made.substitution made.term ∙ ap (Apply f) (applied ws);
  } where
    applied : (us : List W) → apply p.substitution (row (map p.term us)) ≡ row (map (meaning p) us)
    applied [] = refl
    applied (u ∷ us) = ap (More (meaning p u)) (applied us)

  -- a word unified with one that came
  pub equated_reply : (q : Present W) (made : ℕ) (t : Tree) (w v : W) (r : Answer) (answer : Bool) → Comes p m v t → KeepsNumbers p m → p.holds w ≡ true → r ≡ Equate made (meaning p w) t
      → IsUnification m q (meaning m w) (meaning m v) answer → IsReply p q r (Ok (if answer then reply.Done else reply.Fail))
  equated_reply q made t w v r true came numbers there is met =
      let left : meaning m w ≡ meaning p w = ap₂ apply came.substitution (came.words.terms w there) in
      subst (λ x. IsDone p q x) (sym is) (
        met.0,
        subst (λ x. Unifier x t met.0) left (subst (λ x. Unifier (meaning m w) x met.0) came.value met.1),
        record {
          words = record {
            stand = λ u k. met.2.words.stand u (came.words.stand u k);
            terms = λ u k. met.2.words.terms u (came.words.stand u k) ∙ came.words.terms u k;
          };
          numbers = record { next = met.2.numbers.next ∙ numbers.next; taken = λ n. met.2.numbers.taken n ∙ numbers.taken n };
          substitution = met.2.substitution ∙ ap (λ r. compose r met.0) came.substitution;
        },
      )
  equated_reply q made t w v r false came numbers there is met =
      let left : meaning m w ≡ meaning p w = ap₂ apply came.substitution (came.words.terms w there) in
      subst (λ x. IsFailed p x) (sym is) (subst (λ x. NeverEqual x t) left (subst (λ x. NeverEqual (meaning m w) x) came.value met))
