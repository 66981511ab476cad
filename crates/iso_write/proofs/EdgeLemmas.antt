-- A piece behind what stands before it.
use Rattle.std.proofs.Common.{◌≡◌, ℕ, suc, ◌-◌, Bool, true, false, ◌||◌, List, [], ◌∷◌, ◌++◌, length, slice_get, slice_index, unwrap_or, if◌then◌else◌, refl, ap, sym, ◌∙◌, append_assoc, append-nil, arith}
use Rattle.iso_model.specs.Syntax.Pieces.{Piece, last_byte, pieces_behind, after_space}
use Rattle.iso_write.specs.declared.edges.Edge.{Edge}
use Rattle.iso_write.specs.Edges.{edge_behind, behind, with_gap}

pub last_is : (text : List ℕ) → unwrap_or (slice_get text (length text - 1)) 0 ≡ last_byte text
last_is [] = refl
last_is (b ∷ []) = refl
last_is (b ∷ c ∷ z) = let e : length (b ∷ c ∷ z) - 1 ≡ suc (length (c ∷ z) - 1) = omega arith in rw e (last_is (c ∷ z))

-- the pieces behind a piece with this text
pub behind_piece : (before : List ℕ) (ps : List Piece) → pieces_behind before ps ≡ behind (edge_behind before) ps
behind_piece before [] = refl
behind_piece before (p ∷ ps) = refl

-- the space before a piece, and the piece
pub parted_by : (b : Bool) (old mid new text : List ℕ) (e : Edge) (ps : List Piece) → mid ≡ old ++ (if b then 32 ∷ [] else []) → new ≡ mid ++ text → e ≡ edge_behind text
    → new ++ behind e ps ≡ old ++ ((if b then 32 ∷ text else text) ++ pieces_behind text ps)
parted_by true old mid new text e ps m n is =
    rw (n, m, is, ← behind_piece text ps) (ap (λ x. x ++ pieces_behind text ps) (append_assoc old (32 ∷ []) text) ∙ append_assoc old (32 ∷ text) (pieces_behind text ps))
parted_by false old mid new text e ps m n is =
    rw (n, m, is, ← behind_piece text ps) (ap (λ x. (x ++ text) ++ pieces_behind text ps) (append-nil old) ∙ append_assoc old text (pieces_behind text ps))

pub first_is : (text : List ℕ) → unwrap_or (slice_get text 0) 0 ≡ slice_index text 0
first_is [] = refl
first_is (b ∷ z) = refl

pub parted_then : (b r : Bool) (old mid new text : List ℕ) (e : Edge) (ps : List Piece) → r ≡ b → r ≡ true → mid ≡ old ++ 32 ∷ [] → new ≡ mid ++ text → e ≡ edge_behind text
    → new ++ behind e ps ≡ old ++ ((if b then 32 ∷ text else text) ++ pieces_behind text ps)
parted_then true r old mid new text e ps same held m n is = parted_by true old mid new text e ps m n is
parted_then false r old mid new text e ps same held m n is = cc

pub parted_else : (b r : Bool) (old mid new text : List ℕ) (e : Edge) (ps : List Piece) → r ≡ b → r ≡ false → mid ≡ old → new ≡ mid ++ text → e ≡ edge_behind text
    → new ++ behind e ps ≡ old ++ ((if b then 32 ∷ text else text) ++ pieces_behind text ps)
parted_else true r old mid new text e ps same failed m n is = cc
parted_else false r old mid new text e ps same failed m n is = parted_by false old mid new text e ps (m ∙ sym (append-nil old)) n is

pub edge_with : {a b : ℕ} → a ≡ b → ◌≡◌ {A = Edge} record { last = a; gap = false } record { last = b; gap = false }
edge_with {a} {b} e = let make = λ (n : ℕ). let edge : Edge = record { last = n; gap = false } in edge in ap make e

spaced_by : (s : Bool) (b : Bool) (text : List ℕ) → (if true then 32 ∷ text else text) ≡ (if s || true then 32 ∷ text else text)
spaced_by true b text = refl
spaced_by false b text = refl

-- a space before the first piece
pub behind_gap : (e : Edge) (ps : List Piece) → behind e (after_space ps) ≡ behind (with_gap e) ps
behind_gap e [] = refl
behind_gap e (p ∷ ps) = ap (λ x. x ++ pieces_behind p.text ps) (spaced_by p.spaced true p.text)
