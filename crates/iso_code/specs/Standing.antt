-- How a machine stands for the table of instructions: words for terms, under substitutions.
use Rattle.std.specs.Prelude.{◌≡◌, ◌<◌, ◌≤◌, ◌+◌, ℕ, List, length, Bool, true, false, Option, Some, None}
use Rattle.std.specs.List.{slice_get}
use Rattle.iso_model.specs.Terms.Trees.{Tree, Variable}
use Rattle.iso_model.specs.Terms.Substitutions.{Subst, apply, IsSubstitution}
use Rattle.iso_store_core.specs.Presents.{Present, KeepsWords}
use Rattle.iso_compile.specs.Table.{Registers}
use Rattle.iso_compile.specs.CodeLaws.{State}

-- The word stands, and its term under the one substitution is that of the table under the other.
pub record IsFor {W : Type 0} (p : Present W) (own by : Subst) (w : W) (a : Tree) : Type 0 where
  pub holds : p.holds w ≡ true
  pub same : apply own (p.term w) ≡ apply by a

-- Words are for the variables that were met, which are numbered from next on, and for the compounds, which the table's
-- registers have from low on.
pub record Known {W : Type 0} (p : Present W) (own by : Subst) (next low : ℕ) (met : ℕ → Bool) (of_variables of_compounds : List W) (rs : Registers) : Type 0 where
  pub variables : (x : ℕ) (w : W) → met x ≡ true → slice_get of_variables x ≡ Some w → IsFor p own by w (Variable (next + x))
  pub compounds : (k : ℕ) (w : W) → slice_get of_compounds k ≡ Some w → IsFor p own by w (rs (low + k))

-- What the word stands for is what the term is under s.
abbrev pub At : {W : Type 0} → Present W → Subst → W → Tree → Type 0
At p s w a = IsFor p p.substitution s w a

-- Words that stood for terms under s stand for them under t.
abbrev pub Steps : {W : Type 0} → Present W → Subst → Present W → Subst → Type 0
Steps {W} p s q t = (w : W) (a : Tree) → At p s w a → At q t w a

-- The variable of this number isn't used: it has no cell, and the table binds it to nothing.
pub record Free {W : Type 0} (p : Present W) (s : Subst) (n : ℕ) : Type 0 where
  pub taken : p.taken n ≡ false
  pub alone : s n ≡ Variable n

-- Words stand on, and the next number is as it was.
pub record Carries {W : Type 0} (p q : Present W) : Type 0 where
  pub words : KeepsWords p q
  pub next : q.next ≡ p.next

-- the lists of words of a machine: the environment of a clause, the arguments of its call, and compounds
pub record Files (W : Type 0) : Type 0 where
  pub environment : List W
  pub arguments : List W
  pub compounds : List W

abbrev pub files : {W : Type 0} → List W → List W → List W → Files W
files environment arguments compounds = record { environment = environment; arguments = arguments; compounds = compounds }

-- The clause's variables, so many, have the numbers from first on; compounds have the table's registers from low on.
pub record Setting : Type 0 where
  pub first : ℕ
  pub count : ℕ
  pub low : ℕ

-- A store and a machine's lists stand for this state of the table, where these variables were met.
pub record Stands {W : Type 0} (p : Present W) (f : Files W) (t : Setting) (met : ℕ → Bool) (state : State) : Type 0 where
  pub substitution : IsSubstitution state.subst
  pub known : Known p p.substitution state.subst t.first t.low met f.environment f.compounds state.registers
  pub arguments : (r : ℕ) (w : W) → slice_get f.arguments r ≡ Some w → At p state.subst w (state.registers r)
  pub free : (x : ℕ) → x < t.count → met x ≡ false → Free p state.subst (t.first + x)
  pub reserved : t.first + t.count ≤ p.next
  pub room : length f.environment ≡ t.count
  pub apart : length f.arguments ≤ t.low

-- No variable that there is has a higher number than one that wasn't met.
abbrev pub NoneYounger : {W : Type 0} → Present W → Setting → (ℕ → Bool) → Type 0
NoneYounger p t met = (x m : ℕ) → x < t.count → met x ≡ false → p.taken m ≡ true → m ≤ t.first + x

-- They stand so, and what is met for the first time is younger than all that there is.
pub record Ready {W : Type 0} (p : Present W) (f : Files W) (t : Setting) (met : ℕ → Bool) (state : State) : Type 0 where
  pub stands : Stands p f t met state
  pub youngest : NoneYounger p t met

-- The answer is that of the table: true where it comes to a state, for which they stand then, as do words for their
-- terms; false where it comes to none.
abbrev pub Ends : {W : Type 0} → Present W → Subst → Present W → Files W → Setting → (ℕ → Bool) → Bool → Option State → Type 0
Ends p s q f t met true (Some state) = Ready q f t met state × Steps p s q state.subst
Ends p s q f t met false None = Unit {0}
Ends p s q f t met answer o = ⊥
