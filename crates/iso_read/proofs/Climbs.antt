-- What a turn of the loop over operators does.
use Rattle.std.proofs.Common.{◌≡◌, ℕ, true, List, zero, suc, ◌-◌, ◌<◌, ◌≤◌, Some, None, Result, Ok, Err, IfOk, IfErr, refl, ap, ◌∙◌, sym, length, length-drop, arith}
use Rattle.std.proofs.lemmas.Bool.{le-leb}
use Rattle.iso_ops.specs.Operators.{Operator}
use Rattle.iso_ops.specs.declared.settings.Flags.{Flags}
use Rattle.iso_model.specs.Syntax.Operators.{prefix_named, right_of}
use Rattle.iso_model.specs.Syntax.Grammar.{Left, Node, applied, begins}
use Rattle.iso_model.specs.Syntax.Reading.{Outcome, ◌>>=◌, Reader, Following, prefixed, rest, operand, operator_behind, extended, climb_by, continued, term}
use Rattle.iso_model.proofs.Syntax.ReadingSteps.{continued-step}
use Rattle.iso_read.specs.declared.clause.ReadFault.{ReadFault}
use Rattle.iso_read.specs.declared.clause.ReadFault.TheVariants as fault
use Rattle.iso_read.specs.Gives.{Gives}

-- where a step fails, so does what goes on from it
pub fails_with : {A B C D : Type 0} (view : A → B) (other : C → D) (o : Outcome B) (k : B × Left → Outcome D) (p : Outcome D) (e : ReadFault) (s z : Left) → p ≡ (o >>= k) → Gives view o (Err e) s → Gives other p (Err e) z
fails_with view other o k p fault.Syntax s z is g = is ∙ ap (λ x. x >>= k) g
fails_with view other o k p fault.NoMemory s z is g = tt

-- what is made without reading on
pub gives_made : {A B : Type 0} (view : A → B) (o : Outcome B) (r : Result A ReadFault) (x : B) (s : Left) → o ≡ Some (x, s) → IfOk r (λ n. view n ≡ x) → IfErr r (λ e. e ≡ fault.NoMemory) → Gives view o r s
gives_made view o (Ok n) x s is made refused = is ∙ ap (λ y. Some (y, s)) (sym made)
gives_made view o (Err fault.Syntax) x s is made refused = absurd (cc)
gives_made view o (Err fault.NoMemory) x s is made refused = tt

pub rest_shorter : (s m : Left) → m ≡ rest s → length m.tokens ≤ length s.tokens
rest_shorter s m after = omega (arith, ap (λ (z : Left). length z.tokens) after, length-drop 1 s.tokens)

module _ (table : List Operator) (flags : Flags) where
  -- no operator goes on
  pub continued_stops : (depth most : ℕ) (l : Node) (s : Left) → l.height ≤ depth → operator_behind table flags most l s ≡ None → continued table flags (term table flags depth) depth most l s ≡ Some (l, s)
  continued_stops depth most l s h none = continued-step table flags depth most l s h ∙ ap (climb_by table flags (term table flags depth) depth l s (continued table flags (term table flags depth) depth most)) none

  -- an operator goes on, with what its right operand comes to
  pub continued_goes : (depth most : ℕ) (l : Node) (s m : Left) (f : Following) → l.height ≤ depth → Some f ≡ operator_behind table flags most l s → m ≡ rest s
      → continued table flags (term table flags depth) depth most l s ≡ (extended table flags (term table flags depth) depth l f m >>= (λ x. continued table flags (term table flags depth) depth most x.0 x.1))
  continued_goes depth most l s m f h goes after =
      continued-step table flags depth most l s h
      ∙ ap (climb_by table flags (term table flags depth) depth l s (continued table flags (term table flags depth) depth most)) (sym goes)
      ∙ ap (λ (z : Left). extended table flags (term table flags depth) depth l f z >>= (λ x. continued table flags (term table flags depth) depth most x.0 x.1)) (sym after)

  -- an operand is read, and operators may go on from it
  pub term_goes : (depth most : ℕ) (s z : Left) (n : Node) → 0 < depth → operand table flags (term table flags (depth - 1)) s ≡ Some (n, z) → n.priority ≤ most
      → term table flags depth most s ≡ continued table flags (term table flags (depth - 1)) (depth - 1) most n z
  unfolding term
  term_goes zero most s z n h read le = absurd (omega arith)
  term_goes (suc d) most s z n h read le =
      let less : suc d - 1 ≡ d = omega arith in
      let here = rw less at read in
      rw (less, here, le-leb n.priority most le) refl

  -- a name is this prefix operator, and its operand is read
  pub prefixed_goes : (sub : Reader) (name : List ℕ) (s z : Left) (n : Node) (o : Operator) → prefix_named table name ≡ Some o → begins table s.tokens ≡ true → sub (right_of o) s ≡ Some (n, z)
      → prefixed table flags sub name s (prefix_named table name) ≡ Some (applied o n, z)
  prefixed_goes sub name s z n o is starts read = rw (is, starts, read) refl
