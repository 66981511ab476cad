-- What worked texts of all forms are read as.
use Rattle.std.proofs.Common.{◌≡◌, List, [], ◌∷◌, ℕ, refl, codes, None, Some, pos, neg_ℤ}
use Rattle.std.specs.Str.{chars}
use Rattle.std.specs.Char.{encode_utf8}
use Rattle.iso_ops.specs.InitialOperators.{initial_entries}
use Rattle.iso_ops.specs.Settings.{initial_flags}
use Rattle.iso_model.specs.Terms.Trees.{Tree, Integer}
use Rattle.iso_model.specs.Syntax.Lists.{nil, curly, list_before}
use Rattle.iso_model.specs.Search.Bodies.{one, two}
use Rattle.iso_model.specs.Syntax.Tokens.{tokens_from, tokens}
use Rattle.iso_model.specs.Syntax.Lexemes.{lexeme}
use Rattle.iso_model.specs.Syntax.Quoted.{piece_at, len_from, content_from}
use Rattle.iso_model.specs.Syntax.Reading.{further, elements, compound, bracketed, braced, list_end, listed, named, punctuated, operand, operator_behind, extended, climb, continued, term, clause_of}
use Rattle.iso_model.specs.Syntax.Clauses.{next_clause}
use Rattle.iso_model.specs.Worked.Runs.{number}
use Rattle.iso_model.specs.Worked.Texts.{atom, IsRead, ReadingOfSigns, ReadingOfBrackets, ReadingOfIntegers, NoTerms}
use Rattle.iso_model.proofs.Syntax.ClauseLaws.{next_given}
use Rattle.iso_model.proofs.Syntax.WorkedReading.{not_read}

read : (text : List ℕ) (t : Tree) → next_clause initial_entries initial_flags (tokens text) ≡ Some (record { term = t; names = [] }) → IsRead text t
read text t is = next_given initial_entries initial_flags (tokens text) (record { term = t; names = [] }) is

signs_0 : next_clause initial_entries initial_flags (tokens (codes "- - 1 .")) ≡ Some (record { term = (one (codes "-") (one (codes "-") (number 1))); names = [] })
unfolding initial_entries tokens_from lexeme piece_at len_from content_from chars encode_utf8 clause_of term continued climb extended operator_behind operand named punctuated bracketed braced listed list_end compound elements further
signs_0 = refl

signs_1 : next_clause initial_entries initial_flags (tokens (codes "a-1.")) ≡ Some (record { term = (two (codes "-") (atom (codes "a")) (number 1)); names = [] })
unfolding initial_entries tokens_from lexeme piece_at len_from content_from chars encode_utf8 clause_of term continued climb extended operator_behind operand named punctuated bracketed braced listed list_end compound elements further
signs_1 = refl

signs_2 : next_clause initial_entries initial_flags (tokens (codes "- = x.")) ≡ Some (record { term = (two (codes "=") (atom (codes "-")) (atom (codes "x"))); names = [] })
unfolding initial_entries tokens_from lexeme piece_at len_from content_from chars encode_utf8 clause_of term continued climb extended operator_behind operand named punctuated bracketed braced listed list_end compound elements further
signs_2 = refl

signs_3 : next_clause initial_entries initial_flags (tokens (codes "- a * b.")) ≡ Some (record { term = (two (codes "*") (one (codes "-") (atom (codes "a"))) (atom (codes "b"))); names = [] })
unfolding initial_entries tokens_from lexeme piece_at len_from content_from chars encode_utf8 clause_of term continued climb extended operator_behind operand named punctuated bracketed braced listed list_end compound elements further
signs_3 = refl

signs_4 : next_clause initial_entries initial_flags (tokens (codes "-a^b.")) ≡ Some (record { term = (one (codes "-") (two (codes "^") (atom (codes "a")) (atom (codes "b")))); names = [] })
unfolding initial_entries tokens_from lexeme piece_at len_from content_from chars encode_utf8 clause_of term continued climb extended operator_behind operand named punctuated bracketed braced listed list_end compound elements further
signs_4 = refl

signs_5 : next_clause initial_entries initial_flags (tokens (codes "-170141183460469231731687303715884105728.")) ≡ Some (record { term = (Integer (neg_ℤ (pos 170141183460469231731687303715884105728))); names = [] })
unfolding initial_entries tokens_from lexeme piece_at len_from content_from chars encode_utf8 clause_of term continued climb extended operator_behind operand named punctuated bracketed braced listed list_end compound elements further
signs_5 = refl

brackets_0 : next_clause initial_entries initial_flags (tokens (codes "\\+ (a,b).")) ≡ Some (record { term = (one (codes "\\+") (two (codes ",") (atom (codes "a")) (atom (codes "b")))); names = [] })
unfolding initial_entries tokens_from lexeme piece_at len_from content_from chars encode_utf8 clause_of term continued climb extended operator_behind operand named punctuated bracketed braced listed list_end compound elements further
brackets_0 = refl

brackets_1 : next_clause initial_entries initial_flags (tokens (codes "\\+(a,b).")) ≡ Some (record { term = (two (codes "\\+") (atom (codes "a")) (atom (codes "b"))); names = [] })
unfolding initial_entries tokens_from lexeme piece_at len_from content_from chars encode_utf8 clause_of term continued climb extended operator_behind operand named punctuated bracketed braced listed list_end compound elements further
brackets_1 = refl

brackets_2 : next_clause initial_entries initial_flags (tokens (codes "f(:- , a).")) ≡ Some (record { term = (two (codes "f") (atom (codes ":-")) (atom (codes "a"))); names = [] })
unfolding initial_entries tokens_from lexeme piece_at len_from content_from chars encode_utf8 clause_of term continued climb extended operator_behind operand named punctuated bracketed braced listed list_end compound elements further
brackets_2 = refl

brackets_3 : next_clause initial_entries initial_flags (tokens (codes "{a,\"ab\"}.")) ≡ Some (record { term = (one curly (two (codes ",") (atom (codes "a")) (list_before (number 97 ∷ number 98 ∷ []) (atom nil)))); names = [] })
unfolding initial_entries tokens_from lexeme piece_at len_from content_from chars encode_utf8 clause_of term continued climb extended operator_behind operand named punctuated bracketed braced listed list_end compound elements further
brackets_3 = refl

brackets_4 : next_clause initial_entries initial_flags (tokens (codes "[a,b|c].")) ≡ Some (record { term = (list_before (atom (codes "a") ∷ atom (codes "b") ∷ []) (atom (codes "c"))); names = [] })
unfolding initial_entries tokens_from lexeme piece_at len_from content_from chars encode_utf8 clause_of term continued climb extended operator_behind operand named punctuated bracketed braced listed list_end compound elements further
brackets_4 = refl

brackets_5 : next_clause initial_entries initial_flags (tokens (codes "'\\x41\\'.")) ≡ Some (record { term = (atom (codes "A")); names = [] })
unfolding initial_entries tokens_from lexeme piece_at len_from content_from chars encode_utf8 clause_of term continued climb extended operator_behind operand named punctuated bracketed braced listed list_end compound elements further
brackets_5 = refl

integers_0 : next_clause initial_entries initial_flags (tokens (codes "[0'a,0''',0x1F,0b101,0o17].")) ≡ Some (record { term = (list_before (number 97 ∷ number 39 ∷ number 31 ∷ number 5 ∷ number 15 ∷ []) (atom nil)); names = [] })
unfolding initial_entries tokens_from lexeme piece_at len_from content_from chars encode_utf8 clause_of term continued climb extended operator_behind operand named punctuated bracketed braced listed list_end compound elements further
integers_0 = refl

none_0 : next_clause initial_entries initial_flags (tokens (codes "1 = 2 = 3.")) ≡ None
unfolding initial_entries tokens_from lexeme piece_at len_from content_from chars encode_utf8 clause_of term continued climb extended operator_behind operand named punctuated bracketed braced listed list_end compound elements further
none_0 = refl

none_1 : next_clause initial_entries initial_flags (tokens (codes "0b2.")) ≡ None
unfolding initial_entries tokens_from lexeme piece_at len_from content_from chars encode_utf8 clause_of term continued climb extended operator_behind operand named punctuated bracketed braced listed list_end compound elements further
none_1 = refl

none_2 : next_clause initial_entries initial_flags (tokens (codes "[a,b|c,d].")) ≡ None
unfolding initial_entries tokens_from lexeme piece_at len_from content_from chars encode_utf8 clause_of term continued climb extended operator_behind operand named punctuated bracketed braced listed list_end compound elements further
none_2 = refl

none_3 : next_clause initial_entries initial_flags (tokens (codes "170141183460469231731687303715884105728.")) ≡ None
unfolding initial_entries tokens_from lexeme piece_at len_from content_from chars encode_utf8 clause_of term continued climb extended operator_behind operand named punctuated bracketed braced listed list_end compound elements further
none_3 = refl

none_4 : next_clause initial_entries initial_flags (tokens (codes "(a)).")) ≡ None
unfolding initial_entries tokens_from lexeme piece_at len_from content_from chars encode_utf8 clause_of term continued climb extended operator_behind operand named punctuated bracketed braced listed list_end compound elements further
none_4 = refl

none_5 : next_clause initial_entries initial_flags (tokens (codes "X = \\+ a.")) ≡ None
unfolding initial_entries tokens_from lexeme piece_at len_from content_from chars encode_utf8 clause_of term continued climb extended operator_behind operand named punctuated bracketed braced listed list_end compound elements further
none_5 = refl

pub signs_read : ReadingOfSigns
signs_read = (read (codes "- - 1 .") (one (codes "-") (one (codes "-") (number 1))) signs_0, read (codes "a-1.") (two (codes "-") (atom (codes "a")) (number 1)) signs_1, read (codes "- = x.") (two (codes "=") (atom (codes "-")) (atom (codes "x"))) signs_2, read (codes "- a * b.") (two (codes "*") (one (codes "-") (atom (codes "a"))) (atom (codes "b"))) signs_3, read (codes "-a^b.") (one (codes "-") (two (codes "^") (atom (codes "a")) (atom (codes "b")))) signs_4, read (codes "-170141183460469231731687303715884105728.") (Integer (neg_ℤ (pos 170141183460469231731687303715884105728))) signs_5)

pub brackets_read : ReadingOfBrackets
brackets_read = (read (codes "\\+ (a,b).") (one (codes "\\+") (two (codes ",") (atom (codes "a")) (atom (codes "b")))) brackets_0, read (codes "\\+(a,b).") (two (codes "\\+") (atom (codes "a")) (atom (codes "b"))) brackets_1, read (codes "f(:- , a).") (two (codes "f") (atom (codes ":-")) (atom (codes "a"))) brackets_2, read (codes "{a,\"ab\"}.") (one curly (two (codes ",") (atom (codes "a")) (list_before (number 97 ∷ number 98 ∷ []) (atom nil)))) brackets_3, read (codes "[a,b|c].") (list_before (atom (codes "a") ∷ atom (codes "b") ∷ []) (atom (codes "c"))) brackets_4, read (codes "'\\x41\\'.") (atom (codes "A")) brackets_5)

pub integers_read : ReadingOfIntegers
integers_read = read (codes "[0'a,0''',0x1F,0b101,0o17].") (list_before (number 97 ∷ number 39 ∷ number 31 ∷ number 5 ∷ number 15 ∷ []) (atom nil)) integers_0

pub no_terms_read : NoTerms
no_terms_read = (not_read (codes "1 = 2 = 3.") none_0, not_read (codes "0b2.") none_1, not_read (codes "[a,b|c,d].") none_2, not_read (codes "170141183460469231731687303715884105728.") none_3, not_read (codes "(a)).") none_4, not_read (codes "X = \\+ a.") none_5)
