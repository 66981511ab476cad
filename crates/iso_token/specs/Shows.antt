-- What clauses see of Rust's tokens and lexemes.
use Rattle.std.specs.Prelude.{option_map}
use Rattle.iso_model.specs.Syntax.Token as token
use Rattle.iso_model.specs.Syntax.Token.{TokenKind, Shown}
use Rattle.iso_model.specs.Syntax.Lexemes as lexemes
use Rattle.iso_token.specs.declared.kinds.Kind.{Kind}
use Rattle.iso_token.specs.declared.kinds.Kind.TheVariants as kind
use Rattle.iso_token.specs.declared.kinds.Token.{Token}
use Rattle.iso_token.specs.declared.lexemes.Lexeme.{Lexeme}

-- the kind that a Rust kind is
abbrev pub kind_of : Kind → TokenKind
kind_of kind.Name = token.NameToken
kind_of kind.Quoted = token.QuotedToken
kind_of kind.Double = token.DoubleToken
kind_of kind.Variable = token.VariableToken
kind_of kind.Integer = token.IntegerToken
kind_of kind.Punct = token.PunctToken
kind_of kind.End = token.EndToken
kind_of kind.Bad = token.BadToken

-- the token that a Rust token is
abbrev pub shown : Token → Shown
shown t = record { kind = kind_of t.kind; text = t.text.now; start = t.start; after_layout = t.after_layout }

-- the lexeme that a Rust lexeme is
abbrev pub lexeme_of : Lexeme → lexemes.Lexeme
lexeme_of l = (option_map kind_of l.kind, l.len)
