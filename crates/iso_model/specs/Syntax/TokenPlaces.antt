-- Where the tokens of a text stand in it.
use Rattle.std.specs.Prelude.{◌≡◌, ℕ, ◌+◌, ◌<◌, ◌≤◌, nat_lt, List, [], ◌∷◌, length, slice_range}
use Rattle.iso_model.specs.Syntax.Token.{Shown}

-- Tokens that stand in a text from this place on: each is the part of the text where it begins, behind the one before
-- it, and is marked as behind layout exactly where something stands between the two.
abbrev pub StandInOrder : List ℕ → ℕ → List Shown → Type 0
StandInOrder text from [] = Unit {0}
StandInOrder text from (t ∷ ts) =
    (slice_range text t.start (t.start + length t.text) ≡ t.text) × (0 < length t.text) × (from ≤ t.start) × (t.after_layout ≡ nat_lt from t.start)
    × StandInOrder text (t.start + length t.text) ts
