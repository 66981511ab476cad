-- Written lists are read: a tail's pieces go on with elements, or end the list.
use Rattle.std.proofs.Common.{◌≡◌, ℕ, ◌≤◌, true, false, ◌||◌, List, [], ◌∷◌, ◌++◌, codes, refl, ap, subst, append_assoc, arith}
use Rattle.iso_ops.specs.Operators.{Operator}
use Rattle.iso_ops.specs.declared.settings.Flags.{Flags}
use Rattle.iso_model.specs.Terms.Trees.{Tree, Name, Apply, row}
use Rattle.iso_model.specs.Syntax.Token.{Shown}
use Rattle.iso_model.specs.Syntax.Lists.{nil, dot, list_before}
use Rattle.iso_model.specs.Syntax.Grammar.{Left, before, Node, Row, closed, is_mark, Reads, Operand, Elements, list_at, list_with_tail_at, last_of, more_of}
use Rattle.iso_model.specs.Syntax.Pieces.{Piece, piece}
use Rattle.iso_model.proofs.Syntax.ReadingSound.{left_at}
use Rattle.iso_model.proofs.Syntax.PieceTokens.{AreTokens}
use Rattle.iso_model.proofs.Syntax.PieceLexemes.{mark_first}
use Rattle.iso_model.proofs.Syntax.PieceParts.{node, MayFollow, MayEnd, IsPart, mark_begins, mark_follows, mark_ends, read_operand, mark_test}
use Rattle.iso_model.proofs.Syntax.PiecePlaces.{terms_of, IsPlace, IsPlaced, place_closed}

module _ (table : List Operator) (flags : Flags) where
  -- a list's end behind its elements: `]`, or a bar with the tail before it
  pub data Closes : Left → Tree → Left → Type 0 where
    closes_nil : {z : Left} {u : Shown} → is_mark (codes "]") u ≡ true → Closes (before u z) (Name nil) z
    closes_bar : {m z : Left} {u v : Shown} {n : Node} → is_mark (codes "|") u ≡ true → Reads table flags m n (before v z) → n.priority ≤ 999 → is_mark (codes "]") v ≡ true → Closes (before u m) n.term z

  -- What is read of a list's tail behind its first element.
  pub record IsRest (ts : List Shown) (names behind : List (List ℕ)) (t : Tree) (qs : List Piece) : Type 0 where
    pub rest : List Shown
    pub tokens : AreTokens qs rest
    pub terms : List Tree
    pub last : Tree
    pub stop : Left
    pub is : list_before terms last ≡ t
    pub closes : Closes stop last (left_at rest behind)
    pub elements : (s : Left) (n : Node) → Reads table flags s n (left_at ts names) → n.priority ≤ 999 → (height : ℕ) × Elements table flags s (terms_of (n.term ∷ terms) height) stop

  -- The pieces are read as this tail of a list.
  pub record IsTail (ps : List Piece) (names behind : List (List ℕ)) (t : Tree) : Type 0 where
    pub follows : (qs : List Piece) → MayFollow table flags (ps ++ qs)
    pub ends : (qs : List Piece) → MayEnd table flags (ps ++ qs)
    pub reads : (qs : List Piece) (ts : List Shown) → AreTokens (ps ++ qs) ts → IsRest ts names behind t qs

  pub nil_tail : (names : List (List ℕ)) → IsTail (piece (codes "]") ∷ []) names names (Name nil)
  nil_tail names = record {
    follows = λ qs. mark_follows table flags 93 refl refl qs;
    ends = λ qs. mark_ends table flags 93 refl refl refl refl qs;
    reads = λ qs ts tokens.
        let x = mark_first 93 refl false qs ts tokens in
        record {
          rest = x.others;
          tokens = x.tokens;
          terms = [];
          last = Name nil;
          stop = left_at (x.first ∷ x.others) names;
          is = refl;
          closes = closes_nil {z = left_at x.others names} {u = x.first} (mark_test 93 false x.first (codes "]") x.holds);
          elements = λ s n reads le. (_, last_of (subst (λ us. Reads table flags s n (left_at us names)) x.is reads) le);
        };
  }

  pub bar_tail : {ps : List Piece} {names behind : List (List ℕ)} {t : Tree} → IsPlace table flags 999 ps names behind t → IsTail (piece (codes "|") ∷ (ps ++ piece (codes "]") ∷ [])) names behind t
  bar_tail {ps} {names} {behind} {t} p = record {
    follows = λ qs. mark_follows table flags 124 refl refl ((ps ++ piece (codes "]") ∷ []) ++ qs);
    ends = λ qs. mark_ends table flags 124 refl refl refl refl ((ps ++ piece (codes "]") ∷ []) ++ qs);
    reads = λ qs ts tokens.
        let x = mark_first 124 refl false ((ps ++ piece (codes "]") ∷ []) ++ qs) ts tokens in
        let y = place_closed table flags 93 999 refl refl (λ qs. mark_follows table flags 93 refl refl qs) (λ qs. mark_ends table flags 93 refl refl refl refl qs) p qs x.others
        (subst (λ zs. AreTokens zs x.others) (append_assoc ps (piece (codes "]") ∷ []) qs) x.tokens) in
        record {
          rest = y.rest;
          tokens = y.tokens;
          terms = [];
          last = t;
          stop = left_at (x.first ∷ x.others) names;
          is = refl;
          closes = closes_bar {m = left_at x.others names} {z = left_at y.rest behind} {u = x.first} {v = y.mark} (mark_test 124 false x.first (codes "|") x.holds) y.reads y.within y.is;
          elements = λ s n reads le. (_, last_of (subst (λ us. Reads table flags s n (left_at us names)) x.is reads) le);
        };
  }

  -- what an element makes of the tail behind it
  cell_rest : {ps qs : List Piece} {names mid behind : List (List ℕ)} {t u : Tree} → IsPlace table flags 999 ps names mid t → IsTail qs mid behind u → (zs : List Piece) (ts : List Shown) → AreTokens ((ps ++ qs) ++ zs) ts
      → (x : IsPlaced table flags 999 ts names mid t (qs ++ zs)) × IsRest x.rest mid behind u zs
  cell_rest {ps} {qs} p tail zs ts tokens =
      let x = p.reads (qs ++ zs) ts (tail.follows zs) (tail.ends zs) (subst (λ us. AreTokens us ts) (append_assoc ps qs zs) tokens) in (x, tail.reads zs x.rest x.tokens)

  pub cell_tail : {ps qs : List Piece} {names mid behind : List (List ℕ)} {t u : Tree} → IsPlace table flags 999 ps names mid t → IsTail qs mid behind u → IsTail (piece (codes ",") ∷ (ps ++ qs)) names behind (Apply dot (row (t ∷ u ∷ [])))
  cell_tail {ps} {qs} {names} {mid} {behind} {t} {u} p tail = record {
    follows = λ zs. mark_follows table flags 44 refl refl ((ps ++ qs) ++ zs);
    ends = λ zs. mark_ends table flags 44 refl refl refl refl ((ps ++ qs) ++ zs);
    reads = λ zs ts tokens.
        let x = mark_first 44 refl false ((ps ++ qs) ++ zs) ts tokens in
        let y = cell_rest p tail zs x.others x.tokens in
        record {
          rest = y.1.rest;
          tokens = y.1.tokens;
          terms = t ∷ y.1.terms;
          last = y.1.last;
          stop = y.1.stop;
          is = ap (λ v. Apply dot (row (t ∷ v ∷ []))) y.1.is;
          closes = y.1.closes;
          elements = λ s n reads le.
              let more = y.1.elements (left_at x.others names) (node t y.0.priority y.0.height y.0.is_open) y.0.reads y.0.within in
              (_, more_of {m = left_at x.others names} {t = x.first} (subst (λ us. Reads table flags s n (left_at us names)) x.is reads) le (mark_test 44 false x.first (codes ",") x.holds) more.1);
        };
  }

  -- a list's operand, by how it ends
  list_by : {s m z : Left} {t : Shown} {r : Row} {last : Tree} → is_mark (codes "[") t ≡ true → Elements table flags s r m → Closes m last z → (height : ℕ) × Operand table flags (before t s) (closed (list_before r.terms last) height) z
  list_by is elements (closes_nil mark) = (_, list_at is elements mark)
  list_by is elements (closes_bar bar reads le mark) = (_, list_with_tail_at is elements bar reads le mark)

  -- `[a,..]`
  pub list_part : {ps qs : List Piece} {names mid behind : List (List ℕ)} {t u : Tree} → IsPlace table flags 999 ps names mid t → IsTail qs mid behind u → IsPart table flags (piece (codes "[") ∷ (ps ++ qs)) 0 false false names behind (Apply dot (row (t ∷ u ∷ [])))
  list_part {ps} {qs} {names} {mid} {behind} {t} {u} p tail = record {
    some = (refl, omega arith);
    reads = λ b zs ts follows ends tokens.
        let x = mark_first 91 refl (b || false) ((ps ++ qs) ++ zs) ts tokens in
        let y = cell_rest p tail zs x.others x.tokens in
        let all = y.1.elements (left_at x.others names) (node t y.0.priority y.0.height y.0.is_open) y.0.reads y.0.within in
        let made = list_by {t = x.first} {r = terms_of (t ∷ y.1.terms) all.0} (mark_test 91 (b || false) x.first (codes "[") x.holds) all.1 y.1.closes in
        rw x.is (read_operand table flags {t = Apply dot (row (t ∷ u ∷ []))} {height = made.0} y.1.tokens
        (subst (λ v. Operand table flags (left_at (x.first ∷ x.others) names) (closed (Apply dot (row (t ∷ v ∷ []))) made.0) (left_at y.1.rest behind)) y.1.is made.1));
    begins = λ _. mark_begins table flags 91 (piece (codes "[") ∷ (ps ++ qs)) (λ b zs ts tokens.
        let x = mark_first 91 refl (b || false) ((ps ++ qs) ++ zs) ts tokens in record { first = x.first; others = x.others; is = x.is; holds = x.holds }) refl (λ b h. refl);
  }
