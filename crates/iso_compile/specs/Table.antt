-- The table of instructions for heads: what they do to the substitution and to the registers.
use Rattle.std.specs.Prelude.{ℕ, zero, suc, ℤ, ◌+◌, ◌==◌, List, [], ◌∷◌, length, take, ◌&&◌, Option, None, if◌then◌else◌}
use Rattle.std.specs.Option.{option_and_then}
use Rattle.std.specs.Str.{bytes_eq}
use Rattle.iso_model.specs.Terms.Trees.{Tree, Variable, Integer, Name, Apply, End, More, count}
use Rattle.iso_model.specs.Terms.Substitutions.{Subst, apply}
use Rattle.iso_model.specs.Terms.Unification.{unify_under}

-- An argument: a variable of the clause (get_variable, get_value, get_void, and the same with put, unify and set), a
-- constant (get_constant and so on), or a compound that this register has.
pub data Part : Type 0 where
  Place : (x : ℕ) → Part
  Number : (z : ℤ) → Part
  Atom : (a : List ℕ) → Part
  Inner : (r : ℕ) → Part

-- a compound in a register, with the arguments; so many blocks behind it are those of compounds in it
pub record Block : Type 0 where
  pub register : ℕ
  pub name : List ℕ
  pub parts : List Part
  pub inner : ℕ

abbrev pub Registers : Type 0
Registers = ℕ → Tree

abbrev pub assign : Registers → ℕ → Tree → Registers
assign rs r t k = if k == r then t else rs k

-- where the clause's variables are numbered from this number on
module _ (next : ℕ) where
  -- the term of a part
  abbrev pub part_term : Registers → Part → Tree
  part_term rs (Place x) = Variable (next + x)
  part_term rs (Number z) = Integer z
  part_term rs (Atom a) = Name a
  part_term rs (Inner r) = rs r

  abbrev pub part_row : Registers → List Part → Tree
  part_row rs [] = End
  part_row rs (p ∷ ps) = More (part_term rs p) (part_row rs ps)

  -- what a block makes
  abbrev pub made : Registers → Block → Tree
  made rs b = Apply b.name (part_row rs b.parts)

  -- the blocks make their compounds, the last one first (put_structure, put_list, with set_variable and so on)
  abbrev pub filled : List Block → Registers → Registers
  filled [] rs = rs
  filled (b ∷ bs) rs = assign (filled bs rs) b.register (made (filled bs rs) b)

  -- the arguments that stand here are read part by part: a compound goes into its register (unify_variable and so on)
  abbrev pub read : {X : Type 0} → List Part → Tree → Subst → Registers → (Subst → Registers → Option X) → Option X
  read [] End s rs go = go s rs
  read (Inner r ∷ ps) (More t ts) s rs go = read ps ts s (assign rs r t) go
  read (p ∷ ps) (More t ts) s rs go = option_and_then (λ u. read ps ts u rs go) (unify_under s t (part_term rs p))
  read ps ts s rs go = None

  -- A block meets the value of its register (get_structure, get_list). A variable is unified with the compound that is
  -- made, inner ones first, which stay in their registers, and their blocks are passed over; a compound of that name is
  -- read.
  abbrev pub meet : {X : Type 0} → Block → List Block → Tree → Subst → Registers → (ℕ → Subst → Registers → Option X) → Option X
  meet b bs (Variable y) s rs go = option_and_then (λ u. go b.inner u (filled (take b.inner bs) rs)) (unify_under s (rs b.register) (made (filled (take b.inner bs) rs) b))
  meet b bs (Apply g ts) s rs go = if bytes_eq g b.name && count ts == length b.parts then read b.parts ts s rs (go 0) else None
  meet b bs t s rs go = None

  -- the blocks in their order, so many of which are passed over
  abbrev pub run : {X : Type 0} → List Block → ℕ → Subst → Registers → (Subst → Registers → Option X) → Option X
  run [] k s rs go = go s rs
  run (b ∷ bs) (suc k) s rs go = run bs k s rs go
  run (b ∷ bs) zero s rs go = meet b bs (apply s (rs b.register)) s rs (λ k u us. run bs k u us go)
