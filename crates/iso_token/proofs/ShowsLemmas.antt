-- The lexeme that a Rust lexeme is, by its kind.
use Rattle.std.proofs.Common.{◌≡◌, List, ℕ, Option, Some, None, option_map, sym, ap, ◌∙◌}
use Rattle.iso_model.specs.Syntax.Lexemes as lexemes
use Rattle.iso_model.specs.Syntax.Lexemes.{lexeme}
use Rattle.iso_token.specs.declared.kinds.Kind.{Kind}
use Rattle.iso_token.specs.declared.lexemes.Lexeme.{Lexeme}
use Rattle.iso_token.specs.Shows.{kind_of, lexeme_of}

lexeme_kind : (l : Lexeme) (k : Option Kind) (bytes z : List ℕ) → lexeme_of l ≡ lexeme bytes → bytes ≡ z → l.kind ≡ k → lexeme z ≡ (option_map kind_of k, l.len)
lexeme_kind l k bytes z value same is =
    let f : Option Kind → lexemes.Lexeme = λ o. (option_map kind_of o, l.len) in ap lexeme (sym same) ∙ sym value ∙ ap f is

-- a token
pub lexeme_some : (l : Lexeme) (k : Kind) (bytes z : List ℕ) → lexeme_of l ≡ lexeme bytes → bytes ≡ z → l.kind ≡ Some k → lexeme z ≡ (Some (kind_of k), l.len)
lexeme_some l k bytes z value same is = lexeme_kind l (Some k) bytes z value same is

-- layout or a comment
pub lexeme_none : (l : Lexeme) (bytes z : List ℕ) → lexeme_of l ≡ lexeme bytes → bytes ≡ z → l.kind ≡ None → lexeme z ≡ (None, l.len)
lexeme_none l bytes z value same is = lexeme_kind l None bytes z value same is

-- its length
pub lexeme_len : (l : Lexeme) (bytes z : List ℕ) → lexeme_of l ≡ lexeme bytes → bytes ≡ z → (lexeme z).1 ≡ l.len
lexeme_len l bytes z value same = let f : lexemes.Lexeme → ℕ = λ x. x.1 in ap f (ap lexeme (sym same) ∙ sym value)
