-- Written terms in places that a closing mark stands behind: in brackets and braces, as arguments, and as elements of lists.
use Rattle.std.proofs.Common.{◌≡◌, ℕ, ◌+◌, ◌≤◌, Bool, true, false, ◌&&◌, ◌||◌, not, List, [], ◌∷◌, ◌++◌, length, codes, inl, inr, refl, sym, ◌∙◌, subst, append_assoc, arith}
use Rattle.std.specs.Str.{bytes_eq}
use Rattle.std.proofs.lemmas.Bool.{true≢false, cases_Bool}
use Rattle.std.proofs.lemmas.Slice.Eq.{bytes_eq-Decides}
use Rattle.iso_ops.specs.Operators.{Operator}
use Rattle.iso_ops.specs.declared.settings.Flags.{Flags}
use Rattle.iso_model.specs.Syntax.Characters.{is_punctuation}
use Rattle.iso_model.specs.Terms.Trees.{Tree, Apply, row}
use Rattle.iso_model.specs.Syntax.Token.{Shown}
use Rattle.iso_model.specs.Syntax.Lists.{nil, curly}
use Rattle.iso_model.specs.Syntax.Texts.{name_text}
use Rattle.iso_model.specs.Syntax.Grammar.{Row, closed, is_mark, is_unquoted, opens_arguments, next_is, Reads, Named, Elements, name_at, nil_at, curly_at, brackets_at, braces_at, compound_of, last_of, more_of}
use Rattle.iso_model.specs.Syntax.Pieces.{Piece, piece, bracketed}
use Rattle.iso_model.proofs.Syntax.ReadingSound.{left_at}
use Rattle.iso_model.proofs.Syntax.PieceTokens.{AreTokens}
use Rattle.iso_model.proofs.Syntax.PieceLexemes.{mark_first, name_first, nil_first, curly_first}
use Rattle.iso_model.proofs.Syntax.PieceParts.{with_space, node, MayFollow, MayEnd, IsPart, mark_begins, mark_follows, mark_ends, name_begins_operand, read_operand, mark_test, mark_opens, name_is, name_some}
use Rattle.iso_model.proofs.Syntax.PieceTerms.{functor_begins}

pub unspaced : (ps : List Piece) → with_space false ps ≡ ps
unspaced [] = refl
unspaced (p ∷ ps) = refl

-- a row of terms with its height
abbrev pub terms_of : List Tree → ℕ → Row
terms_of ts height = record { terms = ts; height = height }

bracket_apart : (b : Bool) → (not b && true) ≡ false → not (b || false) ≡ false
bracket_apart true h = refl
bracket_apart false h = absurd (true≢false h)

module _ (table : List Operator) (flags : Flags) where
  -- What is read of a term in a place of at most this priority, and these pieces are behind it.
  pub record IsPlaced (most : ℕ) (ts : List Shown) (names behind : List (List ℕ)) (t : Tree) (qs : List Piece) : Type 0 where
    pub rest : List Shown
    pub tokens : AreTokens qs rest
    pub priority : ℕ
    pub height : ℕ
    pub is_open : Bool
    pub within : priority ≤ most
    pub reads : Reads table flags (left_at ts names) (node t priority height is_open) (left_at rest behind)

  -- The pieces are read as this term where nothing or a closing mark stands behind them.
  pub record IsPlace (most : ℕ) (ps : List Piece) (names behind : List (List ℕ)) (t : Tree) : Type 0 where
    pub reads : (qs : List Piece) (ts : List Shown) → MayFollow table flags qs → MayEnd table flags qs → AreTokens (ps ++ qs) ts → IsPlaced most ts names behind t qs

  pub place_of_part : (most : ℕ) {ps : List Piece} {priority : ℕ} {is_open lone : Bool} {names behind : List (List ℕ)} {t : Tree} → IsPart table flags ps priority is_open lone names behind t → priority ≤ most → IsPlace most ps names behind t
  place_of_part most {ps} {priority} {is_open} p le = record {
    reads = λ qs ts follows ends tokens.
        let x = p.reads false qs ts follows (λ _. ends) (subst (λ zs. AreTokens (zs ++ qs) ts) (sym (unspaced ps)) tokens) in
        record { rest = x.rest; tokens = x.tokens; priority = priority; height = x.height; is_open = is_open; within = le; reads = x.reads };
  }

  -- the same with this mark behind it
  pub record IsClosed (byte most : ℕ) (ts : List Shown) (names behind : List (List ℕ)) (t : Tree) (qs : List Piece) : Type 0 where
    pub rest : List Shown
    pub tokens : AreTokens qs rest
    pub mark : Shown
    pub is : is_mark (byte ∷ []) mark ≡ true
    pub priority : ℕ
    pub height : ℕ
    pub is_open : Bool
    pub within : priority ≤ most
    pub reads : Reads table flags (left_at ts names) (node t priority height is_open) (left_at (mark ∷ rest) behind)

  pub place_closed : (byte most : ℕ) {ps : List Piece} {names behind : List (List ℕ)} {t : Tree} → is_punctuation byte ≡ true → bytes_eq (byte ∷ []) (byte ∷ []) ≡ true → ((qs : List Piece) → MayFollow table flags (piece (byte ∷ []) ∷ qs)) → ((qs : List Piece) → MayEnd table flags (piece (byte ∷ []) ∷ qs))
      → IsPlace most ps names behind t → (qs : List Piece) (ts : List Shown) → AreTokens (ps ++ (piece (byte ∷ []) ∷ qs)) ts → IsClosed byte most ts names behind t qs
  place_closed byte most {ps} {names} {behind} {t} is same follows ends p qs ts tokens =
      let x = p.reads (piece (byte ∷ []) ∷ qs) ts (follows qs) (ends qs) tokens in
      let y = mark_first byte is false qs x.rest x.tokens in
      record {
        rest = y.others;
        tokens = y.tokens;
        mark = y.first;
        is = mark_test byte false y.first (byte ∷ []) y.holds ∙ same;
        priority = x.priority;
        height = x.height;
        is_open = x.is_open;
        within = x.within;
        reads = subst (λ zs. Reads table flags (left_at ts names) (node t x.priority x.height x.is_open) (left_at zs behind)) y.is x.reads;
      }

  -- ---- brackets and braces

  closes_round : (most : ℕ) {ps : List Piece} {names behind : List (List ℕ)} {t : Tree} → IsPlace most ps names behind t → (qs : List Piece) (ts : List Shown) → AreTokens (ps ++ (piece (codes ")") ∷ qs)) ts → IsClosed 41 most ts names behind t qs
  closes_round most = place_closed 41 most refl refl (λ qs. mark_follows table flags 41 refl refl qs) (λ qs. mark_ends table flags 41 refl refl refl refl qs)

  pub bracket_part : {ps : List Piece} {names behind : List (List ℕ)} {t : Tree} → IsPlace 1200 ps names behind t → IsPart table flags (bracketed ps) 0 false false names behind t
  bracket_part {ps} {names} {behind} {t} p = record {
    some = (refl, omega arith);
    reads = λ b qs ts follows ends tokens.
        let x = mark_first 40 refl (b || false) ((ps ++ piece (codes ")") ∷ []) ++ qs) ts tokens in
        let y = closes_round 1200 p qs x.others (subst (λ zs. AreTokens zs x.others) (append_assoc ps (piece (codes ")") ∷ []) qs) x.tokens) in
        rw x.is (read_operand table flags {t = t} {height = y.height + 1} y.tokens (brackets_at {z = left_at y.rest behind} {t = x.first} {u = y.mark} (mark_test 40 (b || false) x.first (codes "(") x.holds) y.reads y.within y.is));
    begins = λ _. mark_begins table flags 40 (bracketed ps) (λ b qs ts tokens.
        let x = mark_first 40 refl (b || false) ((ps ++ piece (codes ")") ∷ []) ++ qs) ts tokens in record { first = x.first; others = x.others; is = x.is; holds = x.holds }) refl bracket_apart;
  }

  closes_curly : (most : ℕ) {ps : List Piece} {names behind : List (List ℕ)} {t : Tree} → IsPlace most ps names behind t → (qs : List Piece) (ts : List Shown) → AreTokens (ps ++ (piece (codes "}") ∷ qs)) ts → IsClosed 125 most ts names behind t qs
  closes_curly most = place_closed 125 most refl refl (λ qs. mark_follows table flags 125 refl refl qs) (λ qs. mark_ends table flags 125 refl refl refl refl qs)

  pub braces_part : {ps : List Piece} {names behind : List (List ℕ)} {t : Tree} → IsPlace 1200 ps names behind t → IsPart table flags (piece (codes "{") ∷ (ps ++ piece (codes "}") ∷ [])) 0 false false names behind (Apply curly (row (t ∷ [])))
  braces_part {ps} {names} {behind} {t} p = record {
    some = (refl, omega arith);
    reads = λ b qs ts follows ends tokens.
        let x = mark_first 123 refl (b || false) ((ps ++ piece (codes "}") ∷ []) ++ qs) ts tokens in
        let y = closes_curly 1200 p qs x.others (subst (λ zs. AreTokens zs x.others) (append_assoc ps (piece (codes "}") ∷ []) qs) x.tokens) in
        rw x.is (read_operand table flags {t = Apply curly (row (t ∷ []))} {height = y.height + 1} y.tokens (braces_at {z = left_at y.rest behind} {t = x.first} {u = y.mark} (mark_test 123 (b || false) x.first (codes "{") x.holds) y.reads y.within y.is));
    begins = λ _. mark_begins table flags 123 (piece (codes "{") ∷ (ps ++ piece (codes "}") ∷ [])) (λ b qs ts tokens.
        let x = mark_first 123 refl (b || false) ((ps ++ piece (codes "}") ∷ []) ++ qs) ts tokens in record { first = x.first; others = x.others; is = x.is; holds = x.holds }) refl (λ b h. refl);
  }

  -- ---- arguments

  -- What is read of arguments up to the bracket that closes them.
  pub record AreRead (ts : List Shown) (names behind : List (List ℕ)) (args : List Tree) (qs : List Piece) : Type 0 where
    pub rest : List Shown
    pub tokens : AreTokens qs rest
    pub mark : Shown
    pub is : is_mark (codes ")") mark ≡ true
    pub height : ℕ
    pub reads : Elements table flags (left_at ts names) (terms_of args height) (left_at (mark ∷ rest) behind)

  -- The pieces are read as these arguments.
  pub record AreArguments (ps : List Piece) (names behind : List (List ℕ)) (args : List Tree) : Type 0 where
    pub reads : (qs : List Piece) (ts : List Shown) → AreTokens (ps ++ (piece (codes ")") ∷ qs)) ts → AreRead ts names behind args qs

  pub closes_comma : (most : ℕ) {ps : List Piece} {names behind : List (List ℕ)} {t : Tree} → IsPlace most ps names behind t → (qs : List Piece) (ts : List Shown) → AreTokens (ps ++ (piece (codes ",") ∷ qs)) ts → IsClosed 44 most ts names behind t qs
  closes_comma most = place_closed 44 most refl refl (λ qs. mark_follows table flags 44 refl refl qs) (λ qs. mark_ends table flags 44 refl refl refl refl qs)

  pub last_argument : {ps : List Piece} {names behind : List (List ℕ)} {t : Tree} → IsPlace 999 ps names behind t → AreArguments ps names behind (t ∷ [])
  last_argument p = record {
    reads = λ qs ts tokens.
        let x = closes_round 999 p qs ts tokens in
        record { rest = x.rest; tokens = x.tokens; mark = x.mark; is = x.is; height = _; reads = last_of x.reads x.within };
  }

  pub more_arguments : {ps others : List Piece} {names mid behind : List (List ℕ)} {t : Tree} {args : List Tree} → IsPlace 999 ps names mid t → AreArguments others mid behind args → AreArguments (ps ++ (piece (codes ",") ∷ others)) names behind (t ∷ args)
  more_arguments {ps} {others} {mid = mid} p more = record {
    reads = λ qs ts tokens.
        let x = closes_comma 999 p (others ++ (piece (codes ")") ∷ qs)) ts (subst (λ zs. AreTokens zs ts) (append_assoc ps (piece (codes ",") ∷ others) (piece (codes ")") ∷ qs)) tokens) in
        let y = more.reads qs x.rest x.tokens in
        record { rest = y.rest; tokens = y.tokens; mark = y.mark; is = y.is; height = _; reads = more_of {m = left_at x.rest mid} {t = x.mark} x.reads x.within x.is y.reads };
  }

  -- What is read of a compound behind its name.
  record IsNamed (is_bare : Bool) (name : List ℕ) (ts : List Shown) (names behind : List (List ℕ)) (t : Tree) (qs : List Piece) : Type 0 where
    pub rest : List Shown
    pub tokens : AreTokens qs rest
    pub height : ℕ
    pub reads : Named table flags is_bare name (left_at ts names) (closed t height) (left_at rest behind)

  named_arguments : {ps : List Piece} {names behind : List (List ℕ)} {args : List Tree} → AreArguments ps names behind args → length args ≤ 255 → (is_bare : Bool) (name : List ℕ) (qs : List Piece) (ts : List Shown)
      → AreTokens (piece (codes "(") ∷ ((ps ++ piece (codes ")") ∷ []) ++ qs)) ts → IsNamed is_bare name ts names behind (Apply name (row args)) qs
  named_arguments {ps} {names} {behind} {args} given le is_bare name qs ts tokens =
      let x = mark_first 40 refl false ((ps ++ piece (codes ")") ∷ []) ++ qs) ts tokens in
      let y = given.reads qs x.others (subst (λ zs. AreTokens zs x.others) (append_assoc ps (piece (codes ")") ∷ []) qs) x.tokens) in
      rw x.is (record {
        rest = y.rest;
        tokens = y.tokens;
        height = y.height + 1;
        reads = compound_of {s = left_at x.others names} {z = left_at y.rest behind} {u = x.first} {v = y.mark} (mark_opens 40 false x.first x.holds) y.reads y.is le;
      })

  arguments_open : (qs : List Piece) (ts : List Shown) → AreTokens (piece (codes "(") ∷ qs) ts → next_is opens_arguments ts ≡ true
  arguments_open qs ts tokens = let x = mark_first 40 refl false qs ts tokens in rw (x.is, mark_opens 40 false x.first x.holds) refl

  -- `f(a,..)`, where the name is one token
  named_part : (name : List ℕ) → bytes_eq name (codes "[]") ≡ false → bytes_eq name (codes "{}") ≡ false → {ps : List Piece} {names behind : List (List ℕ)} {args : List Tree} → AreArguments ps names behind args → length args ≤ 255
      → IsPart table flags (piece (name_text name) ∷ piece (codes "(") ∷ (ps ++ piece (codes ")") ∷ [])) 0 false false names behind (Apply name (row args))
  named_part name a c {ps} {names} {behind} {args} given le = record {
    some = (refl, name_some name);
    reads = λ b qs ts follows ends tokens.
        let x = name_first name a c (b || false) (piece (codes "(") ∷ ((ps ++ piece (codes ")") ∷ []) ++ qs)) ts tokens in
        let y = named_arguments given le (is_unquoted x.first.kind) name qs x.others x.tokens in
        rw x.is (read_operand table flags {t = Apply name (row args)} {height = y.height} y.tokens (name_at {s = left_at x.others names} {t = x.first} (name_is name x.first x.holds)
        (subst (λ z. Named table flags (is_unquoted x.first.kind) z (left_at x.others names) (closed (Apply name (row args)) y.height) (left_at y.rest behind)) (sym x.holds.content) y.reads)));
    begins = λ _. name_begins_operand table flags name (piece (name_text name) ∷ piece (codes "(") ∷ (ps ++ piece (codes ")") ∷ [])) (λ b qs ts tokens.
        let x = name_first name a c (b || false) (piece (codes "(") ∷ ((ps ++ piece (codes ")") ∷ []) ++ qs)) ts tokens in
        record { first = x.first; others = x.others; is = x.is; holds = x.holds; begins = functor_begins table flags x.first x.others (arguments_open ((ps ++ piece (codes ")") ∷ []) ++ qs) x.others x.tokens) });
  }

  nil_named_part : {ps : List Piece} {names behind : List (List ℕ)} {args : List Tree} → AreArguments ps names behind args → length args ≤ 255
      → IsPart table flags (piece (codes "[]") ∷ piece (codes "(") ∷ (ps ++ piece (codes ")") ∷ [])) 0 false false names behind (Apply nil (row args))
  nil_named_part {ps} {names} {behind} {args} given le = record {
    some = (refl, omega arith);
    reads = λ b qs ts follows ends tokens.
        let x = nil_first (b || false) (piece (codes "(") ∷ ((ps ++ piece (codes ")") ∷ []) ++ qs)) ts tokens in
        let y = named_arguments given le false nil qs x.others x.tokens in
        rw x.is (read_operand table flags {t = Apply nil (row args)} {height = y.height} y.tokens
        (nil_at {s = left_at x.others names} {t = x.first} {u = x.second} (mark_test 91 (b || false) x.first (codes "[") x.holds) (mark_test 93 false x.second (codes "]") x.follows) y.reads));
    begins = λ _. mark_begins table flags 91 (piece (codes "[]") ∷ piece (codes "(") ∷ (ps ++ piece (codes ")") ∷ [])) (λ b qs ts tokens.
        let x = nil_first (b || false) (piece (codes "(") ∷ ((ps ++ piece (codes ")") ∷ []) ++ qs)) ts tokens in record { first = x.first; others = x.second ∷ x.others; is = x.is; holds = x.holds }) refl (λ b h. refl);
  }

  curly_named_part : {ps : List Piece} {names behind : List (List ℕ)} {args : List Tree} → AreArguments ps names behind args → length args ≤ 255
      → IsPart table flags (piece (codes "{}") ∷ piece (codes "(") ∷ (ps ++ piece (codes ")") ∷ [])) 0 false false names behind (Apply curly (row args))
  curly_named_part {ps} {names} {behind} {args} given le = record {
    some = (refl, omega arith);
    reads = λ b qs ts follows ends tokens.
        let x = curly_first (b || false) (piece (codes "(") ∷ ((ps ++ piece (codes ")") ∷ []) ++ qs)) ts tokens in
        let y = named_arguments given le false curly qs x.others x.tokens in
        rw x.is (read_operand table flags {t = Apply curly (row args)} {height = y.height} y.tokens
        (curly_at {s = left_at x.others names} {t = x.first} {u = x.second} (mark_test 123 (b || false) x.first (codes "{") x.holds) (mark_test 125 false x.second (codes "}") x.follows) y.reads));
    begins = λ _. mark_begins table flags 123 (piece (codes "{}") ∷ piece (codes "(") ∷ (ps ++ piece (codes ")") ∷ [])) (λ b qs ts tokens.
        let x = curly_first (b || false) (piece (codes "(") ∷ ((ps ++ piece (codes ")") ∷ []) ++ qs)) ts tokens in record { first = x.first; others = x.second ∷ x.others; is = x.is; holds = x.holds }) refl (λ b h. refl);
  }

  -- `f(a,..)`
  pub compound_part : (name : List ℕ) {ps : List Piece} {names behind : List (List ℕ)} {args : List Tree} → AreArguments ps names behind args → length args ≤ 255
      → IsPart table flags (piece (name_text name) ∷ piece (codes "(") ∷ (ps ++ piece (codes ")") ∷ [])) 0 false false names behind (Apply name (row args))
  compound_part name {ps} {names} {behind} {args} given le =
      elim (cases_Bool (bytes_eq name (codes "[]"))) [
        | inl is ↦ rw ((bytes_eq-Decides name (codes "[]")).0 is) (nil_named_part given le)
        | inr a ↦ elim (cases_Bool (bytes_eq name (codes "{}"))) [
          | inl is ↦ rw ((bytes_eq-Decides name (codes "{}")).0 is) (curly_named_part given le)
          | inr c ↦ named_part name a c given le
        ]
      ]
