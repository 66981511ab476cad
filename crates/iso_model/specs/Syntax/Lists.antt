-- Lists (ISO/IEC 13211-1:1995, 6.3.5) and what a double quoted item stands for (6.3.7).
use Rattle.std.specs.Prelude.{ℕ, List, map, pos, codes, chars, encode_utf8}
use Rattle.iso_ops.specs.declared.settings.DoubleQuotes.{DoubleQuotes}
use Rattle.iso_ops.specs.declared.settings.DoubleQuotes.TheVariants as quotes
use Rattle.iso_model.specs.Terms.Trees.{Tree, Integer, Name}
pub use Rattle.iso_model.specs.Terms.Lists.{nil, dot, list_before}

-- the name `{}`
abbrev pub curly : List ℕ
curly = codes "{}"

-- what a double quoted item of these characters stands for, by the flag `double_quotes` (7.11.2.5): the list of their
-- codes, the list of the characters, or the atom
abbrev pub quoted_term : DoubleQuotes → List ℕ → Tree
quoted_term quotes.Codes text = list_before (map (λ c. Integer (pos c)) (chars text)) (Name nil)
quoted_term quotes.Chars text = list_before (map (λ c. Name (encode_utf8 c)) (chars text)) (Name nil)
quoted_term quotes.Atom text = Name text
