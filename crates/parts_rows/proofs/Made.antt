-- What a store that made a word says of it.
use Rattle.std.proofs.Common.{◌≡◌, ℕ, List, Bool, true, false, Result, Ok, Err, IfOk, OnOk}
use Rattle.std.specs.List.{All}
use Rattle.iso_model.specs.Terms.Trees.{Tree}
use Rattle.iso_store_core.specs.Heads.{IsHeadMet}
use Rattle.iso_store_core.specs.Presents.{Present, Holds, Makes, KeepsWords}

pub made-holds : {W E : Type 0} (p q : Present W) (t : Tree) (result : Result W E) → IfOk result (λ w. Makes p q w t) → IfOk result (λ w. q.holds w ≡ true)
made-holds p q t (Ok w) made = made.holds
made-holds p q t (Err e) made = made

pub made-words : {W E : Type 0} (p q : Present W) (t : Tree) (result : Result W E) → IfOk result (λ w. Makes p q w t) → OnOk result (KeepsWords p q)
made-words p q t (Ok w) made = made.words
made-words p q t (Err e) made = made

-- the words of a head's variables
pub met-holds : {W : Type 0} (p q : Present W) (goal : W) (t : Tree) (count : ℕ) (ws : List W) (answer : Bool) → answer ≡ true → IsHeadMet p q goal t count ws answer → All (λ w. Holds q w) ws
met-holds p q goal t count ws true is h = h.hold
met-holds p q goal t count ws false is h = absurd (cc is)

-- the goal stands on
pub met-goal : {W : Type 0} (p q : Present W) (goal : W) (t : Tree) (count : ℕ) (ws : List W) (answer : Bool) → answer ≡ true → Holds p goal → IsHeadMet p q goal t count ws answer → Holds q goal
met-goal p q goal t count ws true is holds h = h.keeps.stand goal holds
met-goal p q goal t count ws false is holds h = absurd (cc is)
