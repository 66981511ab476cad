-- The code of a head, whose arguments are in the registers 0, 1, ..
use Rattle.std.specs.Prelude.{◌≡◌, ℕ, zero, ◌+◌, List, [], ◌∷◌, ◌++◌, Option, Some, None, true}
use Rattle.std.specs.Option.{option_and_then}
use Rattle.iso_model.specs.Terms.Trees.{Tree, Apply, More}
use Rattle.iso_model.specs.Terms.Sorts.{is_term}
use Rattle.iso_model.specs.Terms.Substitutions.{Subst, IsSubstitution}
use Rattle.iso_model.specs.Terms.Unification.{unify_under}
use Rattle.iso_compile.specs.Table.{Part, Block, Registers, part_term, run}
use Rattle.iso_compile.specs.TermCode.{deep, part, blocks}

-- get_variable, get_value, get_constant: the register is unified with a part that is no compound
pub record Get : Type 0 where
  pub register : ℕ
  pub part : Part

abbrev pub part_got : Get → Part
part_got g = g.part

abbrev pub get : ℕ → Tree → List Get
get i (Apply f ts) = []
get i t = record { register = i; part = part i t } ∷ []

abbrev pub gets : ℕ → Tree → List Get
gets i (More t ts) = get i t ++ gets (i + 1) ts
gets i t = []

-- the blocks of the compounds among the arguments from register i on; those that are deeper in them get the registers
-- from m on
abbrev pub head_blocks : ℕ → ℕ → Tree → List Block
head_blocks i m (More t ts) = blocks i m t ++ head_blocks (i + 1) (m + deep t) ts
head_blocks i m t = []

module _ (next : ℕ) where
  abbrev pub get_all : {X : Type 0} → List Get → Subst → Registers → (Subst → Registers → Option X) → Option X
  get_all [] s rs go = go s rs
  get_all (g ∷ gs) s rs go = option_and_then (λ u. get_all gs u rs go) (unify_under s (rs g.register) (part_term next rs g.part))

  -- the head's arguments are met: those that are no compounds, and then the blocks of those that are
  abbrev pub head_run : {X : Type 0} → List Get → List Block → Subst → Registers → (Subst → Registers → Option X) → Option X
  head_run gs bs s rs go = get_all gs s rs (λ u us. run next bs zero u us go)

-- the registers from i on have these terms
abbrev pub HaveRow : Registers → ℕ → Tree → Type 0
HaveRow rs i (More w ws) = (rs i ≡ w) × HaveRow rs (i + 1) ws
HaveRow rs i t = Unit {0}

-- a substitution that gives terms, and registers that have terms
pub record Good (s : Subst) (rs : Registers) : Type 0 where
  pub substitution : IsSubstitution s
  pub terms : (n : ℕ) → is_term (s n) ≡ true
  pub registers : (k : ℕ) → is_term (rs k) ≡ true

-- What the code of a head comes to: nothing where the call and the head have no unifier; else what follows goes on
-- under it.
abbrev pub Meets : {X : Type 0} → (Subst → Registers → Option X) → Option Subst → Option X → Type 0
Meets go None x = x ≡ None
Meets go (Some u) x = (us : Registers) × Good u us × (x ≡ go u us)
