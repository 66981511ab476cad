-- Reading by precedence step by step, where the turns that are left need not be named.
use Rattle.std.proofs.Common.{◌≡◌, ℕ, zero, suc, ◌+◌, ◌-◌, ◌<◌, ◌≤◌, true, false, cond, nat_lt, List, [], ◌∷◌, length, Option, Some, None, IfSome, codes, refl, ◌∙◌, ap, arith}
use Rattle.std.proofs.lemmas.Bool.{ltb-true}
use Rattle.iso_ops.specs.Operators.{Operator}
use Rattle.iso_ops.specs.declared.settings.Flags.{Flags}
use Rattle.iso_model.specs.Syntax.Operators.{right_of}
use Rattle.iso_model.specs.Syntax.Token.{Shown}
use Rattle.iso_model.specs.Syntax.Grammar.{Left, before, Node, Row, no_terms, with_first, is_mark, next_is}
use Rattle.iso_model.specs.Syntax.Reading.{Outcome, ◌>>=◌, Reader, rest, further, elements, Following, Between, Behind, operator_behind, extended_by, extended, climb_by, climb, continued, term}
use Rattle.iso_model.proofs.Syntax.ReadingSound.{bind_if, guard_if, left_at, Sound, term_sound}

-- two ways to go on from what was read are one where they are one at all that can be read
bind_same : {A B : Type 0} (o : Option A) (f g : A → Option B) (P : A → Type 0) → IfSome o P → ((x : A) → P x → f x ≡ g x) → (o >>= f) ≡ (o >>= g)
bind_same None f g P a same = refl
bind_same (Some x) f g P a same = same x a

module _ (table : List Operator) (flags : Flags) where
  further_enough : (sub : Reader) (depth : ℕ) → Sound table flags sub depth → (a b : ℕ) (ts : List Shown) (names : List (List ℕ)) → length ts ≤ a → length ts ≤ b → further sub a (left_at ts names) ≡ further sub b (left_at ts names)
  unfolding further
  further_enough sub depth sound zero zero ts names ha hb = refl
  further_enough sub depth sound zero (suc b) [] names ha hb = refl
  further_enough sub depth sound zero (suc b) (t ∷ ts) names ha hb = absurd (omega arith)
  further_enough sub depth sound (suc a) zero [] names ha hb = refl
  further_enough sub depth sound (suc a) zero (t ∷ ts) names ha hb = absurd (omega arith)
  further_enough sub depth sound (suc a) (suc b) [] names ha hb = refl
  further_enough sub depth sound (suc a) (suc b) (t ∷ ts) names ha hb =
      let same = bind_same (sub 999 (left_at ts names)) (λ x. further sub a x.1 >>= (λ r. Some (with_first x.0 r.0, r.1))) (λ x. further sub b x.1 >>= (λ r. Some (with_first x.0 r.0, r.1))) _ (sound 999 (left_at ts names))
      (λ x p. ap (λ (o : Outcome Row). o >>= (λ r. Some (with_first x.0 r.0, r.1))) (further_enough sub depth sound a b x.1.tokens x.1.names (omega (arith, p.shorter)) (omega (arith, p.shorter)))) in
      ap (λ (o : Outcome Row). cond (is_mark (codes ",") t) o (Some (no_terms, left_at (t ∷ ts) names))) same

  -- behind a comma arguments go on as behind an opening bracket
  pub further_comma : (sub : Reader) (depth : ℕ) → Sound table flags sub depth → (t : Shown) (m : Left) → is_mark (codes ",") t ≡ true → further sub (length (t ∷ m.tokens)) (before t m) ≡ elements sub m
  unfolding further elements
  further_comma sub depth sound t m comma =
      let same = bind_same (sub 999 m) (λ x. further sub (length m.tokens) x.1 >>= (λ r. Some (with_first x.0 r.0, r.1))) (λ x. further sub (length x.1.tokens) x.1 >>= (λ r. Some (with_first x.0 r.0, r.1))) _ (sound 999 m)
      (λ x p. ap (λ (o : Outcome Row). o >>= (λ r. Some (with_first x.0 r.0, r.1))) (further_enough sub depth sound (length m.tokens) (length x.1.tokens) x.1.tokens x.1.names (omega (arith, p.shorter)) (omega arith))) in
      ap (λ b. cond b (sub 999 m >>= (λ x. further sub (length m.tokens) x.1 >>= (λ r. Some (with_first x.0 r.0, r.1)))) (Some (no_terms, before t m))) comma ∙ same

  -- without a comma there are no more
  pub further_end : (sub : Reader) (turns : ℕ) (s : Left) → next_is (is_mark (codes ",")) s.tokens ≡ false → further sub turns s ≡ Some (no_terms, s)
  unfolding further
  further_end sub zero s h = refl
  further_end sub (suc turns) s h =
      ap (λ b. cond b (sub 999 (rest s) >>= (λ x. further sub turns x.1 >>= (λ r. Some (with_first x.0 r.0, r.1)))) (Some (no_terms, s))) h

  -- how high a term is behind one more operator
  record IsHigher (depth : ℕ) (l : Node) (x : Node × Left) : Type 0 where
    pub above : l.height < x.0.height
    pub within : x.0.height ≤ depth

  extended_by_higher : (sub : Reader) (depth : ℕ) → Sound table flags sub depth → (l : Node) (f : Following) (s : Left) → l.height < depth → IfSome (extended_by table flags sub l f s) (IsHigher depth l)
  extended_by_higher sub depth sound l (Between o) s high =
      bind_if (sub (right_of o) s) _ _ _ (sound (right_of o) s) (λ x a. record { above = omega arith; within = omega (arith, a.height, high) })
  extended_by_higher sub depth sound l (Behind o) s high = record { above = omega arith; within = omega (arith, high) }

  extended_higher : (sub : Reader) (depth : ℕ) → Sound table flags sub depth → (l : Node) (f : Following) (s : Left) → IfSome (extended table flags sub depth l f s) (IsHigher depth l)
  unfolding extended
  extended_higher sub depth sound l f s = guard_if (nat_lt l.height depth) _ _ (λ lower. extended_by_higher sub depth sound l f s (ltb-true l.height depth lower))

  climb_by_same : (sub : Reader) (depth : ℕ) → Sound table flags sub depth → (l : Node) (s : Left) (f g : Node → Left → Outcome Node) → ((x : Node × Left) → IsHigher depth l x → f x.0 x.1 ≡ g x.0 x.1) → (o : Option Following)
      → climb_by table flags sub depth l s f o ≡ climb_by table flags sub depth l s g o
  climb_by_same sub depth sound l s f g same None = refl
  climb_by_same sub depth sound l s f g same (Some o) = bind_same (extended table flags sub depth l o (rest s)) (λ x. f x.0 x.1) (λ x. g x.0 x.1) (IsHigher depth l) (extended_higher sub depth sound l o (rest s)) same

  climb_enough : (sub : Reader) (depth most : ℕ) → Sound table flags sub depth → (a b : ℕ) (l : Node) (s : Left) → l.height ≤ depth → depth < l.height + a → depth < l.height + b → climb table flags sub depth most a l s ≡ climb table flags sub depth most b l s
  unfolding climb
  climb_enough sub depth most sound zero b l s h ha hb = absurd (omega arith)
  climb_enough sub depth most sound (suc a) zero l s h ha hb = absurd (omega arith)
  climb_enough sub depth most sound (suc a) (suc b) l s h ha hb =
      climb_by_same sub depth sound l s (climb table flags sub depth most a) (climb table flags sub depth most b)
      (λ x p. climb_enough sub depth most sound a b x.0 x.1 p.within (omega (arith, p.above)) (omega (arith, p.above))) (operator_behind table flags most l s)

  -- it goes on by one operator, or not at all
  pub continued-step : (depth most : ℕ) (l : Node) (s : Left) → l.height ≤ depth → continued table flags (term table flags depth) depth most l s ≡ climb_by table flags (term table flags depth) depth l s (continued table flags (term table flags depth) depth most) (operator_behind table flags most l s)
  unfolding continued climb
  continued-step depth most l s h =
      climb_enough (term table flags depth) depth most (term_sound table flags depth) (suc depth - l.height) (suc depth) l s h (omega arith) (omega arith)
      ∙ climb_by_same (term table flags depth) depth (term_sound table flags depth) l s (climb table flags (term table flags depth) depth most depth) (continued table flags (term table flags depth) depth most)
      (λ x p. climb_enough (term table flags depth) depth most (term_sound table flags depth) depth (suc depth - x.0.height) x.0 x.1 p.within (omega (arith, p.above)) (omega (arith, p.within))) (operator_behind table flags most l s)
