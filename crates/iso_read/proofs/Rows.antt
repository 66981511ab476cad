-- What a turn of the loop over arguments does.
use Rattle.std.proofs.Common.{◌≡◌, ℕ, max, true, false, List, [], ◌∷◌, ◌++◌, length, Option, Some, None, codes, refl, ap, sym, ◌∙◌, append-nil, append_assoc, arith}
use Rattle.iso_model.specs.Terms.Trees.{Tree}
use Rattle.iso_ops.specs.Operators.{Operator}
use Rattle.iso_ops.specs.declared.settings.Flags.{Flags}
use Rattle.iso_model.specs.Syntax.Token.{Shown}
use Rattle.iso_model.specs.Syntax.Grammar.{Left, Node, Row, with_first, is_mark, next_is}
use Rattle.iso_model.specs.Syntax.Reading.{Outcome, ◌>>=◌, rest, further, elements, term}
use Rattle.iso_model.proofs.Syntax.ReadingSound.{left_at, term_sound}
use Rattle.iso_model.proofs.Syntax.ReadingSteps.{further_comma, further_end}

-- the arguments that were read, with these before them
abbrev pub behind_these : List Tree → ℕ → Outcome Row → Outcome Row
behind_these terms height None = None
behind_these terms height (Some x) = Some (record { terms = terms ++ x.0.terms; height = max height x.0.height }, x.1)

row_same : (a b : List Tree) (h k : ℕ) → a ≡ b → h ≡ k → (let r : Row = record { terms = a; height = h } in r) ≡ (record { terms = b; height = k })
row_same a b h k p q = λ i. record { terms = p i; height = q i }

behind_step : {A : Type 0} (terms : List Tree) (height : ℕ) (o : Option A) (k : A → Outcome Row) → behind_these terms height (o >>= k) ≡ (o >>= (λ x. behind_these terms height (k x)))
behind_step terms height None k = refl
behind_step terms height (Some x) k = refl

-- it stands behind the others
pub row_longer : (terms : List Tree) (height : ℕ) (n : Node) (o : Outcome Row) → behind_these terms height (o >>= (λ r. Some (with_first n r.0, r.1))) ≡ behind_these (terms ++ n.term ∷ []) (max height n.height) o
row_longer terms height n None = refl
row_longer terms height n (Some x) =
    ap (λ (r : Row). Some (r, x.1)) (row_same (terms ++ n.term ∷ x.0.terms) ((terms ++ n.term ∷ []) ++ x.0.terms) (max height (max n.height x.0.height)) (max (max height n.height) x.0.height) (sym (append_assoc terms (n.term ∷ []) x.0.terms)) (omega arith))

module _ (table : List Operator) (flags : Flags) where
  -- there are no more
  pub row_stops : (depth : ℕ) (terms : List Tree) (height : ℕ) (s : Left) → next_is (is_mark (codes ",")) s.tokens ≡ false
      → behind_these terms height (further (term table flags depth) (length s.tokens) s) ≡ Some (record { terms = terms; height = height }, s)
  row_stops depth terms height s none =
      ap (behind_these terms height) (further_end table flags (term table flags depth) (length s.tokens) s none)
      ∙ ap (λ (r : Row). Some (r, s)) (row_same (terms ++ []) terms (max height 0) height (append-nil terms) (omega arith))

  goes_by : (depth : ℕ) (ts : List Shown) (names : List (List ℕ)) → next_is (is_mark (codes ",")) ts ≡ true → further (term table flags depth) (length ts) (left_at ts names) ≡ elements (term table flags depth) (rest (left_at ts names))
  goes_by depth [] names h = cc
  goes_by depth (t ∷ ts) names h = further_comma table flags (term table flags depth) depth (term_sound table flags depth) t (left_at ts names) h

  -- what goes on behind one more argument
  abbrev pub next_row : ℕ → Node × Left → Outcome Row
  next_row depth x = further (term table flags depth) (length x.1.tokens) x.1 >>= (λ r. Some (with_first x.0 r.0, r.1))

  -- there is one more argument
  pub row_goes : (depth : ℕ) (terms : List Tree) (height : ℕ) (s m : Left) → true ≡ next_is (is_mark (codes ",")) s.tokens → m ≡ rest s
      → behind_these terms height (further (term table flags depth) (length s.tokens) s) ≡ (term table flags depth 999 m >>= (λ x. behind_these terms height (next_row depth x)))
  unfolding elements
  row_goes depth terms height s m comma after =
      ap (behind_these terms height) (goes_by depth s.tokens s.names (sym comma) ∙ ap (elements (term table flags depth)) (sym after))
      ∙ behind_step terms height (term table flags depth 999 m) (next_row depth)
