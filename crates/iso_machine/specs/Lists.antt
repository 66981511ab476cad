-- Frames, words and placed bodies, as lists of goals.
use Rattle.std.specs.Prelude.{◌≡◌, ℕ, ◌≤◌, ◌+◌, List, [], length, map, take, drop, Option}
use Rattle.std.specs.List.{All}
use Rattle.std.proofs.Common.{le_refl}
use Rattle.iso_model.specs.Terms.Trees.{Tree, Name}
use Rattle.iso_model.specs.Terms.Substitutions.{Subst}
use Rattle.iso_model.specs.Search.Bodies.{Body}
use Rattle.iso_model.specs.Search.RunLaws.Sameness.{SameList}
use Rattle.iso_model.specs.Search.Walker.{Member}
use Rattle.iso_store_core.specs.Presents.{Present, Holds, KeepsWords, meaning}
use Rattle.iso_program.specs.Values.{HasValues}
use Rattle.iso_plain_core.specs.Standing.{IsBody}
use Rattle.iso_plain_core.proofs.StandingLemmas.{body_keep}
use Rattle.iso_search_core.specs.Keeping.{KeepsOf}
use Rattle.iso_frames.specs.declared.frames.Rest.{Rest}
use Rattle.iso_frames.specs.declared.frames.Next.{Next}
use Rattle.iso_frames.specs.Frames.{Stack, Chain, First}
use Rattle.iso_frames.specs.Costs.{cost_of, pending_of}
use Rattle.iso_frames.proofs.ChainLemmas.{chain_words, chain_taken}
use Rattle.iso_frames.proofs.ValueLemmas.{chain_values}
pub use Rattle.iso_environments.specs.Goals.{goal_of}
use Rattle.iso_machine.specs.declared.framed.Extent.{Extent}
use Rattle.iso_machine.specs.declared.framed.KeptCall.{KeptCall}
use Rattle.iso_machine.specs.declared.framed.Framed.{Framed}

-- The first is no more than the second.
pub record IsNoMore (j k : Extent) : Type 0 where
  pub nodes : j.nodes ≤ k.nodes
  pub frames : j.frames ≤ k.frames
  pub words : j.words ≤ k.words

pub as_much : (k : Extent) → IsNoMore k k
as_much k = record { nodes = le_refl k.nodes; frames = le_refl k.frames; words = le_refl k.words }

module _ {S W M : Type 0} where
  -- how much stands
  abbrev pub extent_of : Framed S W M → Extent
  extent_of l = record { nodes = length l.nodes.items; frames = length l.frames.items; words = length l.words.items }

  -- all that stands
  abbrev pub stack_of : Framed S W M → Stack W
  stack_of l = record { nodes = l.nodes.items; frames = l.frames.items; words = l.words.items }

  -- what stood when so much was kept
  abbrev pub stack_at : Framed S W M → Extent → Stack W
  stack_at l k =
      record {
        nodes = take k.nodes l.nodes.items;
        frames = take k.frames l.frames.items;
        words = take k.words l.words.items;
      }

  -- the words of a call's arguments
  abbrev pub arguments_at : Framed S W M → KeptCall → List W
  arguments_at l c = take c.count (drop c.start l.words.items)

  -- So much stands.
  abbrev pub IsWithin : Framed S W M → Extent → Type 0
  IsWithin l k = IsNoMore k (extent_of l)

  -- Nothing stands.
  pub record IsNothing (l : Framed S W M) : Type 0 where
    pub nodes : l.nodes.items ≡ []
    pub frames : l.frames.items ≡ []
    pub words : l.words.items ≡ []

  abbrev pub cost_at : Framed S W M → Option Rest → ℕ
  cost_at l place = cost_of l.frames.items place

  abbrev pub pending_at : Framed S W M → Option Rest → ℕ
  pending_at l place = pending_of l.frames.items place

  module _ (atom_word : ℕ → W) where
    -- The arguments that were put are those of this goal, of a name that is known.
    pub record IsPut (p : Present W) (l : Framed S W M) (atom : ℕ) (goal : Tree) : Type 0 where
      pub hold : All (Holds p) l.arguments.items
      pub known : Holds p (atom_word atom)
      pub name : List ℕ
      pub named : p.term (atom_word atom) ≡ Name name
      pub is : goal ≡ goal_of name (map (meaning p) l.arguments.items)

    -- The call that is kept there, when so much stood, is this goal: of a name that is known, with these words for its
    -- arguments.
    pub record IsFor (p : Present W) (l : Framed S W M) (k : Extent) (c : KeptCall) (goal : Tree) : Type 0 where
      pub within : c.start + c.count ≤ k.words
      pub hold : All (Holds p) (arguments_at l c)
      pub known : Holds p (atom_word c.name)
      pub name : List ℕ
      pub named : p.term (atom_word c.name) ≡ Name name
      pub is : goal ≡ goal_of name (map (meaning p) (arguments_at l c))

    -- From the place on these are the members, among what was kept when so much stood.
    abbrev pub IsList : Present W → Framed S W M → Extent → Option Rest → List Member → Type 0
    IsList p l k place ms = Chain atom_word p (stack_at l k) place ms

    -- This comes first of these members.
    abbrev pub IsFirst : Present W → Framed S W M → Next W → List Member → Type 0
    IsFirst p l next ms = First atom_word p (stack_of l) next ms

    -- What was kept when so much stood is as it was, of each extent that is meant.
    abbrev pub KeepsFrames : (Extent → Type 0) → Framed S W M → Framed S W M → Type 0
    KeepsFrames meant old new = KeepsOf IsList IsFor IsWithin cost_at pending_at meant old new

    -- ---- what lists keep

    pub list_words : (p q : Present W) (l : Framed S W M) (k : Extent) (i : Option Rest) (ms : List Member)
        → KeepsWords p q → IsList p l k i ms → IsList q l k i ms
    list_words p q l k i ms keeps list = chain_words atom_word keeps list

    pub list_more : (p : Present W) (l : Framed S W M) (j k : Extent) (i : Option Rest) (ms : List Member)
        → IsNoMore j k → IsList p l j i ms → IsList p l k i ms
    list_more p l j k i ms less list =
        chain_taken atom_word (stack_of l) j.nodes j.frames j.words k.nodes k.frames k.words less.nodes less.frames
        less.words list

    pub list_values : (p q : Present W) (u : Subst) (l : Framed S W M) (k : Extent) (i : Option Rest) (ms : List Member)
        → HasValues p q u → IsList p l k i ms → SameList q.substitution u ms ms
    list_values p q u l k i ms values list = chain_values values atom_word list

  pub body_words : (p q : Present W) (l : Framed S W M) (i : ℕ) (b : Body)
      → KeepsWords p q → IsBody p l.nodes.items i b → IsBody q l.nodes.items i b
  body_words p q l i b keeps body = body_keep keeps body
