-- Arguments that are read one after the other.
use Rattle.std.proofs.Common.{◌≡◌, ◌+◌, ◌<◌, ◌≤◌, ℕ, Bool, true, false, List, [], ◌∷◌, length, map, drop, Option, Some, None, refl, sym, ap, ap₂, subst, ◌∙◌, arith}
use Rattle.std.specs.Option.{option_and_then}
use Rattle.std.proofs.Math.ListN.{drop_of_length-le}
use Rattle.iso_model.specs.Terms.Trees.{Tree, Apply, End, More, count}
use Rattle.iso_model.specs.Terms.Substitutions.{Subst}
use Rattle.iso_model.specs.Terms.Unification.{unify_under}
use Rattle.iso_store_core.specs.Arguments.{arguments, member, members_from}
use Rattle.iso_store_core.specs.Presents.{Present, meaning}
use Rattle.iso_compile.specs.Table as table
use Rattle.iso_compile.specs.Table.{Registers, Part, assign, part_term, read}
use Rattle.iso_compile.specs.CodeLaws.{State, left}
use Rattle.iso_code.specs.declared.operands.Operand.{Operand}
use Rattle.iso_code.specs.Loaded.{part_at, AreMarked, met_after, met_behind}
use Rattle.iso_code.specs.Standing.{At, Steps, Files, files, Setting, Ready, Ends}
use Rattle.iso_reading.specs.Reading.{StandsReady, Begins, ReadsOne, Reads}
use Rattle.iso_code.specs.Standing.{Carries}
use Rattle.iso_code.proofs.UnifierLemmas.{keeps_on}
use Rattle.iso_reading.proofs.MemberLemmas.{member_applied, members_more, members_end}

-- what one call carries on and then another
pub carried : {W : Type 0} {p q r : Present W} → Carries p q → Carries q r → Carries p r
carried one other = record { words = keeps_on one.words other.words; next = other.next ∙ one.next }

-- reading a part and then others, for any list of arguments
pub read_step : (next : ℕ) (part : Part) (parts : List Part) (a ts : Tree) (s : Subst) (rs : Registers)
    → read next (part ∷ parts) (More a ts) s rs left ≡ option_and_then (λ n. read next parts ts n.subst n.registers left) (read next (part ∷ []) (More a End) s rs left)
read_step next (table.Place x) parts a ts s rs = through (unify_under s a (part_term next rs (table.Place x)))
  where
    through : (o : Option Subst) → option_and_then (λ u. read next parts ts u rs left) o ≡ option_and_then (λ n. read next parts ts n.subst n.registers left) (option_and_then (λ u. left u rs) o)
    through (Some u) = refl
    through None = refl
read_step next (table.Number z) parts a ts s rs = through (unify_under s a (part_term next rs (table.Number z)))
  where
    through : (o : Option Subst) → option_and_then (λ u. read next parts ts u rs left) o ≡ option_and_then (λ n. read next parts ts n.subst n.registers left) (option_and_then (λ u. left u rs) o)
    through (Some u) = refl
    through None = refl
read_step next (table.Atom n) parts a ts s rs = through (unify_under s a (part_term next rs (table.Atom n)))
  where
    through : (o : Option Subst) → option_and_then (λ u. read next parts ts u rs left) o ≡ option_and_then (λ n. read next parts ts n.subst n.registers left) (option_and_then (λ u. left u rs) o)
    through (Some u) = refl
    through None = refl
read_step next (table.Inner r) parts a ts s rs = refl

-- So many operands were read: what is left of the table's reading, from the state that the store stands for now.
pub record ReadTo {W : Type 0} (names : List (List ℕ)) (operands : List Operand) (i : ℕ) (p q : Present W) (f : Files W) (t : Setting) (met : ℕ → Bool) (state : State) (ws : Tree) : Type 0 where
  pub after : State
  pub marked : ℕ → Bool
  pub ready : Ready q f t marked after
  pub steps : Steps p state.subst q after.subst
  pub marks : AreMarked marked (drop i operands)
  pub behind : met_behind marked (drop i operands) ≡ met_behind met operands
  pub comes : read t.first (map (part_at names t.low) operands) ws state.subst state.registers left ≡ read t.first (map (part_at names t.low) (drop i operands)) (members_from i ws) after.subst after.registers left

-- It is so, whatever the store stood for.
abbrev pub ReadsTo : {W : Type 0} → List (List ℕ) → List Operand → ℕ → Present W → Present W → W → List W → List W → List W → List W → Type 0
ReadsTo {W} names operands i p q compound es es' cs cs' =
    (as_ : List W) (t : Setting) (met : ℕ → Bool) (state : State) (g : List ℕ) (ws : Tree) → Begins p (files es as_ cs) t met state compound operands g ws
    → ReadTo names operands i p q (files es' as_ cs') t met state ws

module _ {W : Type 0} (names : List (List ℕ)) (operands : List Operand) (p q : Present W) (compound : W) (es es' cs cs' : List W) where
  -- all was read
  pub reads_end : (i : ℕ) → length operands ≤ i → ReadsTo names operands i p q compound es es' cs cs' → Reads names operands p q compound es es' cs cs' true
  reads_end i over reads as_ t met state g ws begins =
      let to = reads as_ t met state g ws begins in
      let none : drop i operands ≡ [] = drop_of_length-le operands over in
      let end : members_from i ws ≡ End = members_end i ws begins.row (omega (arith, over, begins.many)) in
      let is : read t.first (map (part_at names t.low) operands) ws state.subst state.registers left ≡ left to.after.subst to.after.registers =
      to.comes ∙ ap₂ (λ xs ts. read t.first (map (part_at names t.low) xs) ts to.after.subst to.after.registers left) none end in
      let met_is : met_behind met operands ≡ to.marked = sym to.behind ∙ ap (met_behind to.marked) none in
      rw (is, met_is) (to.ready, to.steps)

module _ {W : Type 0} (names : List (List ℕ)) (operands : List Operand) (p q o : Present W) (compound argument : W) (es es' es'' cs cs' cs'' : List W) (i : ℕ) (inside : i < length operands) (operand : Operand)
    (is : drop i operands ≡ operand ∷ drop (i + 1) operands) where
  one_more : (t : Setting) (state : State) (ws : Tree) → count ws ≡ length operands → (after : State)
      → read t.first (map (part_at names t.low) operands) ws state.subst state.registers left ≡ read t.first (map (part_at names t.low) (drop i operands)) (members_from i ws) after.subst after.registers left
      → read t.first (map (part_at names t.low) operands) ws state.subst state.registers left
      ≡ option_and_then (λ n. read t.first (map (part_at names t.low) (drop (i + 1) operands)) (members_from (i + 1) ws) n.subst n.registers left)
      (read t.first (part_at names t.low operand ∷ []) (More (member i ws) End) after.subst after.registers left)
  one_more t state ws many after comes =
      comes
      ∙ ap₂ (λ xs ts. read t.first (map (part_at names t.low) xs) ts after.subst after.registers left) is (members_more i ws (omega (arith, inside, many)))
      ∙ read_step t.first (part_at names t.low operand) (map (part_at names t.low) (drop (i + 1) operands)) (member i ws) (members_from (i + 1) ws) after.subst after.registers

  at_argument : (s : Subst) (g : List ℕ) (ws : Tree) → count ws ≡ length operands → At q s compound (Apply g ws) → q.holds argument ≡ true → meaning q argument ≡ member i (arguments (meaning q compound))
      → At q s argument (member i ws)
  at_argument s g ws many at holds means = record {
    holds = holds;
    same = means ∙ ap (λ t. member i (arguments t)) at.same ∙ member_applied s ws i (omega (arith, inside, many));
  }

  -- one more was read, and the two unify
  pub reads_on : ReadsTo names operands i p q compound es es' cs cs' → q.holds argument ≡ true → meaning q argument ≡ member i (arguments (meaning q compound))
      → (ns : List (List ℕ)) → ns ≡ names → ReadsOne ns operand q o argument es' es'' cs' cs'' true → ReadsTo names operands (i + 1) p o compound es es'' cs cs''
  reads_on reads holds means ns same other as_ t met state g ws begins =
      let one = subst (λ x. ReadsOne x operand q o argument es' es'' cs' cs'' true) same other in
      let to = reads as_ t met state g ws begins in
      let here = subst (AreMarked to.marked) is to.marks in
      step to here (read t.first (part_at names t.low operand ∷ []) (More (member i ws) End) to.after.subst to.after.registers left)
      (one as_ t to.marked to.after (member i ws) to.ready (at_argument to.after.subst g ws begins.many (to.steps compound (Apply g ws) begins.at) holds means) here.0)
      (one_more t state ws begins.many to.after to.comes)
    where
      step : (to : ReadTo names operands i p q (files es' as_ cs') t met state ws) → AreMarked to.marked (operand ∷ drop (i + 1) operands) → (u : Option State)
          → Ends q to.after.subst o (files es'' as_ cs'') t (met_after to.marked operand) true u
          → read t.first (map (part_at names t.low) operands) ws state.subst state.registers left
          ≡ option_and_then (λ n. read t.first (map (part_at names t.low) (drop (i + 1) operands)) (members_from (i + 1) ws) n.subst n.registers left) u
          → ReadTo names operands (i + 1) p o (files es'' as_ cs'') t met state ws
      step to here (Some n) h comes = record {
        after = n;
        marked = met_after to.marked operand;
        ready = h.0;
        steps = λ w a st. h.1 w a (to.steps w a st);
        marks = here.1;
        behind = sym (ap (met_behind to.marked) is) ∙ to.behind;
        comes = comes;
      }
      step to here None h comes = absurd h

  -- it was read, and the two don't
  pub reads_none : ReadsTo names operands i p q compound es es' cs cs' → q.holds argument ≡ true → meaning q argument ≡ member i (arguments (meaning q compound))
      → (ns : List (List ℕ)) → ns ≡ names → ReadsOne ns operand q o argument es' es'' cs' cs'' false → Reads names operands p o compound es es'' cs cs'' false
  reads_none reads holds means ns same other as_ t met state g ws begins =
      let one = subst (λ x. ReadsOne x operand q o argument es' es'' cs' cs'' false) same other in
      let to = reads as_ t met state g ws begins in
      let here = subst (AreMarked to.marked) is to.marks in
      step to (read t.first (part_at names t.low operand ∷ []) (More (member i ws) End) to.after.subst to.after.registers left)
      (one as_ t to.marked to.after (member i ws) to.ready (at_argument to.after.subst g ws begins.many (to.steps compound (Apply g ws) begins.at) holds means) here.0)
      (one_more t state ws begins.many to.after to.comes)
    where
      step : (to : ReadTo names operands i p q (files es' as_ cs') t met state ws) → (u : Option State)
          → Ends q to.after.subst o (files es'' as_ cs'') t (met_after to.marked operand) false u
          → read t.first (map (part_at names t.low) operands) ws state.subst state.registers left
          ≡ option_and_then (λ n. read t.first (map (part_at names t.low) (drop (i + 1) operands)) (members_from (i + 1) ws) n.subst n.registers left) u
          → Ends p state.subst o (files es'' as_ cs'') t (met_behind met operands) false (read t.first (map (part_at names t.low) operands) ws state.subst state.registers left)
      step to None h comes = rw comes tt
      step to (Some n) h comes = absurd h

-- where something is read at all, the next operand may be
pub ready_here : {W : Type 0} (names : List (List ℕ)) (operands : List Operand) (p q : Present W) (compound : W) (es es' cs cs' : List W) (i : ℕ) (operand : Operand) → drop i operands ≡ operand ∷ drop (i + 1) operands
    → ReadsTo names operands i p q compound es es' cs cs' → (as_ : List W) (t : Setting) (met : ℕ → Bool) (state : State) (g : List ℕ) (ws : Tree) → Begins p (files es as_ cs) t met state compound operands g ws
    → StandsReady q es' as_ cs' (operand ∷ [])
ready_here names operands p q compound es es' cs cs' i operand is reads as_ t met state g ws begins =
    let to = reads as_ t met state g ws begins in
    record { setting = t; met = to.marked; state = to.after; ready = to.ready; marked = ((subst (AreMarked to.marked) is to.marks).0, tt) }
