-- When a list of nodes, a trail and a next number are a store, and what marks stand for.
use Rattle.std.specs.Prelude.{◌≡◌, ℕ, zero, suc, ◌<◌, ◌≤◌, ◌==◌, List, [], ◌∷◌, length, take, drop, Option, Some, None, Bool, true, false, nat_lt}
use Rattle.std.specs.List.{slice_get, slice_index_or, list_any}
use Rattle.iso_model.specs.Terms.Trees.{Variable, End}
use Rattle.iso_model.specs.Terms.Variables.{is_in}
use Rattle.iso_store.specs.TakenBack.{changed_at, back}
use Rattle.iso_store.specs.declared.nodes.Node.{Node}
use Rattle.iso_store.specs.declared.nodes.Node.TheVariants.{Var, Int, Atom, Compound}
use Rattle.iso_store.specs.declared.node_marks.NodesMark.{NodesMark}
use Rattle.iso_store_core.specs.Presents.{Present}
use Rattle.iso_store.specs.NodeTerms.{term_at, substitution_of, bindings, all_may_bind}

-- whether the node is a bound variable
abbrev pub is_bound : Option Node → Bool
is_bound None = false
is_bound (Some (Var n None)) = false
is_bound (Some (Var n (Some j))) = true
is_bound (Some (Int z)) = false
is_bound (Some (Atom a)) = false
is_bound (Some (Compound f ws)) = false

-- whether the node is the variable of this number
abbrev pub has_number : ℕ → Node → Bool
has_number x (Var n b) = n == x
has_number x (Int z) = false
has_number x (Atom a) = false
has_number x (Compound f ws) = false

-- how many of the nodes are variables
abbrev pub variable_nodes : List Node → ℕ
variable_nodes [] = zero
variable_nodes (Var n b ∷ cs) = suc (variable_nodes cs)
variable_nodes (Int z ∷ cs) = variable_nodes cs
variable_nodes (Atom a ∷ cs) = variable_nodes cs
variable_nodes (Compound f ws ∷ cs) = variable_nodes cs

-- What is true of the names that have an atom, the nodes, the trail and the next number of a store. An argument
-- stands before its compound, and a variable is bound to none that is younger, so that neither arguments nor bindings
-- lead back.
pub record IsStore (names : List (List ℕ)) (cs : List Node) (es : List ℕ) (next : ℕ) : Type 0 where
  pub arguments : (w : ℕ) (f : _) (ws : _) → slice_get cs w ≡ Some (Compound f ws) → (k : ℕ) → k < length ws.items → slice_index_or ws.items k 0 < w
  pub arity : (w : ℕ) (f : _) (ws : _) → slice_get cs w ≡ Some (Compound f ws) → (0 < length ws.items) × (length ws.items < 256)
  pub target : (w n j : ℕ) → slice_get cs w ≡ Some (Var n (Some j)) → j < length cs
  pub older : (w n j m : ℕ) (b : _) → slice_get cs w ≡ Some (Var n (Some j)) → slice_get cs j ≡ Some (Var m b) → m < n
  pub one_node : (v w n : ℕ) (b d : _) → slice_get cs v ≡ Some (Var n b) → slice_get cs w ≡ Some (Var n d) → v ≡ w
  pub numbered : (w n : ℕ) (b : _) → slice_get cs w ≡ Some (Var n b) → n < next
  pub trailed : (w n j : ℕ) → slice_get cs w ≡ Some (Var n (Some j)) → is_in w es ≡ true
  pub bound : (w : ℕ) → is_in w es ≡ true → is_bound (slice_get cs w) ≡ true
  pub may_bind : all_may_bind Variable (bindings names cs es) ≡ true
  pub atom : (w : ℕ) (a : _) → slice_get cs w ≡ Some (Atom a) → a < length names
  pub name : (w : ℕ) (f : _) (ws : _) → slice_get cs w ≡ Some (Compound f ws) → f < length names

-- A binding that leads from its variable to a place behind it leads to no place behind top.
abbrev pub LeadsBack : List Node → ℕ → Type 0
LeadsBack cs top = (w n j : ℕ) → slice_get cs w ≡ Some (Var n (Some j)) → w < j → j ≤ top

-- the node may come behind these nodes, where these names have an atom
abbrev pub MayPush : List (List ℕ) → List Node → ℕ → Node → Type 0
MayPush names cs next (Var n b) = (b ≡ None) × (n < next) × (list_any (has_number n) cs ≡ false)
MayPush names cs next (Int z) = Unit {0}
MayPush names cs next (Atom a) = a < length names
MayPush names cs next (Compound f ws) = (f < length names) × (0 < length ws.items) × (length ws.items < 256) × ((k : ℕ) → k < length ws.items → slice_index_or ws.items k 0 < length cs)

-- the store that has these names, these nodes, this trail, this next number and this limit
abbrev pub present_of : List (List ℕ) → List Node → List ℕ → ℕ → ℕ → Present ℕ
present_of names cs es next limit = record {
  substitution = substitution_of names cs es;
  next = next;
  cells = length cs;
  variables = variable_nodes cs;
  limit = limit;
  holds = λ w. nat_lt w (length cs);
  term = term_at names cs;
  taken = λ n. list_any (has_number n) cs;
}

-- a store of no nodes
abbrev pub empty : ℕ → Present ℕ
empty limit = record {
  substitution = Variable;
  next = 0;
  cells = 0;
  variables = 0;
  limit = limit;
  holds = λ w. false;
  term = λ w. End;
  taken = λ n. false;
}

-- the node, with no binding
abbrev pub unbound : Node → Node
unbound (Var n b) = Var n None
unbound (Int z) = Int z
unbound (Atom a) = Atom a
unbound (Compound f ws) = Compound f ws

-- the nodes, with no binding at this place
abbrev pub unbound_at : List Node → ℕ → List Node
unbound_at cs e = changed_at unbound cs e

-- the nodes, with the binding of this entry of the trail taken back
abbrev pub taken_back : ℕ → List Node → List Node
taken_back e cs = unbound_at cs e

-- the nodes, with the bindings of these places taken back, the newest (last) first
abbrev pub reset : List ℕ → List Node → List Node
reset es cs = back taken_back es cs

-- the nodes that the mark brings back
abbrev pub restored : List Node → List ℕ → NodesMark → List Node
restored cs es m = reset (drop m.trail es) (take m.nodes cs)

-- The mark stands for p, in a store of these names, this limit, these nodes and this trail.
pub record StandsFor (names : List (List ℕ)) (limit : ℕ) (cs : List Node) (es : List ℕ) (m : NodesMark) (p : Present ℕ) : Type 0 where
  pub nodes_top : m.nodes ≤ length cs
  pub trail_top : m.trail ≤ length es
  pub is_store : IsStore names (restored cs es m) (take m.trail es) m.next
  pub present : p ≡ present_of names (restored cs es m) (take m.trail es) m.next limit

-- the first mark is no younger than the second
pub record IsOlder (k m : NodesMark) : Type 0 where
  pub nodes_top : k.nodes ≤ m.nodes
  pub trail_top : k.trail ≤ m.trail

-- marks stand on, for what they stood for
abbrev pub KeepsNodesMarks : List (List ℕ) → ℕ → List Node → List ℕ → List Node → List ℕ → Type 0
KeepsNodesMarks names limit cs es ds fs = (m : NodesMark) (p : Present ℕ) → StandsFor names limit cs es m p → StandsFor names limit ds fs m p
