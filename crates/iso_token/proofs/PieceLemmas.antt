-- Numbers and pieces as Rust has them.
use Rattle.std.proofs.Common.{◌≡◌, ℕ, ◌+◌, ◌<◌, ◌≤◌, ◌⊎◌, inl, inr, List, [], ◌++◌, length, take, drop, refl, sym, ap, ◌∙◌, append_assoc, Option, Some, None, option_map, unwrap_or}
use Rattle.iso_model.specs.Syntax.Numbers as numbers
use Rattle.iso_model.specs.Syntax.Numbers.{behind_two}
use Rattle.iso_model.specs.Syntax.Quoted as quoted
use Rattle.iso_model.specs.Syntax.Quoted.{piece_at, content_from}
use Rattle.iso_model.proofs.Syntax.QuotedLemmas.{content-stands, content-closes, content-broken}
use Rattle.iso_token.specs.declared.numbers.Written.{Written}
use Rattle.iso_token.specs.declared.quoted.QuotedPiece.{QuotedPiece}
use Rattle.iso_token.specs.declared.quoted.QuotedPiece.TheVariants as piece
use Rattle.iso_token.specs.Numbers.{bounded_of}
use Rattle.iso_token.specs.Quoted.{len_of, stood_for, piece_of}

abbrev pub two_more : Written → Written
two_more w = record { value = w.value; len = 2 + w.len }

two_more-bounded : (o : Option numbers.Written) → option_map two_more (option_map bounded_of o) ≡ option_map bounded_of (option_map behind_two o)
two_more-bounded None = refl
two_more-bounded (Some w) = refl

-- what is written behind two bytes
pub two_behind : (r : Option Written) (o : Option numbers.Written) → r ≡ option_map bounded_of o → option_map two_more r ≡ option_map bounded_of (option_map behind_two o)
two_behind r o is = ap (option_map two_more) is ∙ two_more-bounded o

bounded-or : (o : Option numbers.Written) (d : numbers.Written) → unwrap_or (option_map bounded_of o) (bounded_of d) ≡ bounded_of (unwrap_or o d)
bounded-or None d = refl
bounded-or (Some w) d = refl

-- what is written, or else this
pub written_or : (r : Option Written) (o : Option numbers.Written) (d : numbers.Written) → r ≡ option_map bounded_of o → unwrap_or r (bounded_of d) ≡ bounded_of (unwrap_or o d)
written_or r o d is = let f : Option Written → Written = λ x. unwrap_or x (bounded_of d) in ap f is ∙ bounded-or o d

-- a piece that neither closes nor breaks the item stands for something
pub piece-stands : (z : List ℕ) (p : QuotedPiece) → (p ≡ piece.Closes → ⊥) → (p ≡ piece.Broken → ⊥) → piece_of z p ≡ quoted.Stands (stood_for p (take (len_of p) z)) (len_of p)
piece-stands z piece.Closes closes broken = absurd (closes refl)
piece-stands z piece.Broken closes broken = absurd (broken refl)
piece-stands z (piece.Plain len) closes broken = refl
piece-stands z (piece.Escaped e) closes broken = refl
piece-stands z piece.Continuation closes broken = refl

-- behind the quote that closes an item, or where it breaks off, nothing stands
pub content-ended : (q : ℕ) (z : List ℕ) (p : QuotedPiece) → 0 < length z → piece_of z p ≡ piece_at q z → (p ≡ piece.Closes) ⊎ (p ≡ piece.Broken) → content_from q 0 z ≡ []
content-ended q z p any value ended =
    let f : QuotedPiece → quoted.QuotedPiece = piece_of z in
    elim ended [
      | inl e ↦ content-closes q z any (sym value ∙ ap f e)
      | inr e ↦ content-broken q z any (sym value ∙ ap f e)
    ]

-- with what a piece stands for, an item's characters are those that they were
pub content-on : (q : ℕ) (z before whole : List ℕ) (p : QuotedPiece) → 0 < length z → 1 ≤ len_of p → piece_at q z ≡ quoted.Stands (stood_for p (take (len_of p) z)) (len_of p) → before ++ content_from q 0 z ≡ whole
    → (before ++ stood_for p (take (len_of p) z)) ++ content_from q 0 (drop (len_of p) z) ≡ whole
content-on q z before whole p any some is same =
    let stood = stood_for p (take (len_of p) z) in
    let on = content-stands q z stood (len_of p) any some is in
    append_assoc before stood (content_from q 0 (drop (len_of p) z)) ∙ sym (ap (λ y. before ++ y) on) ∙ same
