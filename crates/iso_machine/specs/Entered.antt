-- What entering a clause for a call that is kept comes to.
use Rattle.std.specs.Prelude.{◌≡◌, ◌<◌, ◌+◌, ◌++◌, ℕ, List, Option}
use Rattle.iso_model.specs.Terms.Trees.{Tree}
use Rattle.iso_model.specs.Terms.Substitutions.{Subst, apply, compose}
use Rattle.iso_model.specs.Terms.Unifiers.{Unifier, NeverEqual}
use Rattle.iso_model.specs.Search.Databases as databases
use Rattle.iso_model.specs.Search.Walker.{Member}
use Rattle.iso_store_core.specs.Heads.{new_head}
use Rattle.iso_store_core.specs.Presents.{Present}
use Rattle.iso_program.specs.Values.{HasValues}
use Rattle.iso_search_core.specs.Words.{word_terms}
use Rattle.iso_frames.specs.declared.frames.Rest.{Rest}
use Rattle.iso_environments.specs.Entered.{clause_members}
use Rattle.iso_machine.specs.declared.framed.Framed.{Framed}
use Rattle.iso_machine.specs.declared.entering.Entered.{Entered}
use Rattle.iso_machine.specs.declared.entering.Entered.TheVariants as entered
use Rattle.iso_machine.specs.Lists.{IsList, extent_of}

-- a fact of the place from which the list begins, where there is one
abbrev pub IfAt : Entered → (Option Rest → Type 0) → Type 0
IfAt entered.Missed P = Unit {0}
IfAt entered.Last P = Unit {0}
IfAt (entered.At place) P = P place

module _ {S W M : Type 0} (atom_word : ℕ → W) where
  -- From p to q the call and the head of the clause were unified. The clause's variables have these words, and its
  -- body, called at this height, comes before the members that stood.
  pub record Begins (p q : Present W) (call : Tree) (c : databases.Clause) (height : ℕ) (ms : List Member)
      (l : Framed S W M) (place : Option Rest) : Type 0 where
    pub unifier : Subst
    pub is : Unifier call (new_head p c.head) unifier
    pub values : HasValues p q (compose p.substitution unifier)
    pub next : q.next ≡ p.next + c.variables
    pub words : List W
    pub variables : (x : ℕ) → x < c.variables
        → apply q.substitution (word_terms q words x) ≡ apply unifier (p.substitution (p.next + x))
    pub list : IsList atom_word q l (extent_of l) place (clause_members q words height c ++ ms)

  -- What the answer says: the clause was entered; or nothing makes its head and the call equal.
  abbrev pub Comes : Present W → Present W → Tree → databases.Clause → ℕ → List Member → Framed S W M → Entered
      → Type 0
  Comes p q call c height ms l entered.Missed = NeverEqual call (new_head p c.head)
  Comes p q call c height ms l entered.Last = Unit {0}
  Comes p q call c height ms l (entered.At place) = Begins p q call c height ms l place
