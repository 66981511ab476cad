-- Built-ins that write (ISO/IEC 13211-1:1995, 8.12.3, 8.14.2; there is one output, and which checks are made is own).
use Rattle.std.specs.Prelude.{ℕ, List, [], ◌∷◌, Result, Ok, Err, codes, encode_utf8}
use Rattle.iso_ops.specs.Operators.{Operator}
use Rattle.iso_model.specs.Terms.Trees.{Tree}
use Rattle.iso_model.specs.Terms.Variables.{distinct_from}
use Rattle.iso_model.specs.Terms.Arguments.{argument}
use Rattle.iso_model.specs.Syntax.Characters.{newline}
use Rattle.iso_model.specs.Syntax.Pieces.{Style, text_at}
use Rattle.iso_model.specs.Syntax.Pieces as style
use Rattle.iso_model.specs.Search.Keys.{Key, key}
use Rattle.iso_model.specs.Search.AtomTexts.{Characters, element_code}
use Rattle.iso_model.specs.Search.Replies.{Reply, Raises, Writes}
use Rattle.iso_model.specs.declared.kinds.Output.{Output}
use Rattle.iso_model.specs.declared.kinds.Output.TheVariants.{PutChar, NewLine, Write, Writeq, WriteCanonical}

-- the text of a term in a place of any priority, whose variables are numbered by first occurrence
abbrev pub written_text : Style → Tree → List Operator → List ℕ
written_text s t table = text_at s table (distinct_from [] t) 1200 t

-- a character is written (8.12.3)
abbrev pub put_code : Result ℕ Tree → Reply
put_code (Ok code) = Writes (λ table. encode_utf8 code)
put_code (Err error) = Raises error

abbrev pub put_char_key : Key
put_char_key = key (codes "put_char") 1

abbrev pub output_arity : Output → ℕ
output_arity PutChar = 1
output_arity NewLine = 0
output_arity Write = 1
output_arity Writeq = 1
output_arity WriteCanonical = 1

-- what this goal comes to
abbrev pub output_reply : Output → Tree → Reply
output_reply PutChar t = put_code (element_code Characters (argument 0 t) put_char_key)
output_reply NewLine t = Writes (λ table. newline ∷ [])
output_reply Write t = Writes (written_text style.Write (argument 0 t))
output_reply Writeq t = Writes (written_text style.Writeq (argument 0 t))
output_reply WriteCanonical t = Writes (written_text style.Canonical (argument 0 t))
