-- What is read from a text is a term, with its variables numbered by first occurrence.
use Rattle.std.proofs.Common.{◌≡◌, ℕ, ◌≤◌, List, [], ◌∷◌, true, Option, Some, None, Bool, false, refl, sym, ◌∙◌, arith, length, codes, if◌then◌else◌}
use Rattle.std.specs.Prelude.{map, pos, chars, encode_utf8}
use Rattle.std.specs.Str.{bytes_eq}
use Rattle.std.proofs.lemmas.Bool.{and_parts, le-leb}
use Rattle.iso_ops.specs.Operators.{Operator}
use Rattle.iso_ops.specs.declared.settings.DoubleQuotes.{DoubleQuotes}
use Rattle.iso_ops.specs.declared.settings.DoubleQuotes.TheVariants as quotes
use Rattle.iso_ops.specs.declared.settings.Flags.{Flags}
use Rattle.iso_model.specs.Syntax.Token.{Shown, content}
use Rattle.iso_model.specs.Syntax.Lists.{nil, curly, list_before, quoted_term}
use Rattle.iso_model.specs.Syntax.Grammar.{ReadTerm, IsReadTerm, Left, Node, Row, Reads, Operand, Named, Elements, alone, between, behind, variable_at}
use Rattle.iso_model.specs.Syntax.Grammar.{integer_at, double_at, name_at, nil_at, curly_at, brackets_at, braces_at, list_at, list_with_tail_at, compound_of}
use Rattle.iso_model.specs.Syntax.Grammar.{literal_of, atom_of, operator_alone, operator_before, last_of, more_of}
use Rattle.iso_model.specs.Syntax.Clauses.{next_clause}
use Rattle.iso_model.specs.Syntax.Items.{Readable, Unreadable, Taken, item_of, next_item}
use Rattle.iso_model.specs.Terms.Trees.{Tree, Integer, Name, Apply, End, More, row, count}
use Rattle.iso_model.specs.Terms.Sorts.{is_term, is_row}
use Rattle.iso_model.specs.Terms.Copies.{IsNumbered}
use Rattle.iso_model.specs.Session.Sessions.{query_goal}
use Rattle.iso_model.proofs.Syntax.WellRead.{clause_well_read}
use Rattle.iso_model.proofs.Syntax.ClauseLaws.{next_given}
use Rattle.iso_model.proofs.OnTerms.SortLemmas.{row_of_arguments}
use Rattle.iso_model.proofs.OnTerms.NumberedLemmas.{is_numbered_IsNumbered}

count_row : (ts : List Tree) → count (row ts) ≡ length ts
count_row [] = refl
count_row (t ∷ ts) = omega (arith, count_row ts)

first_term : (t ts : Tree) → is_row (More t ts) ≡ true → (is_term t ≡ true) × (is_row ts ≡ true)
first_term t ts h = and_parts (is_term t) (is_row ts) h

list_term : (ts : List Tree) (tail : Tree) → is_row (row ts) ≡ true → is_term tail ≡ true → is_term (list_before ts tail) ≡ true
list_term [] tail h k = k
list_term (t ∷ ts) tail h k = let x = first_term t (row ts) h in rw (x.0, list_term ts tail x.1 k) refl

codes_row : (cs : List ℕ) → is_row (row (map (λ c. Integer (pos c)) cs)) ≡ true
codes_row [] = refl
codes_row (c ∷ cs) = codes_row cs

characters_row : (cs : List ℕ) → is_row (row (map (λ c. Name (encode_utf8 c)) cs)) ≡ true
characters_row [] = refl
characters_row (c ∷ cs) = characters_row cs

quoted_is_term : (q : DoubleQuotes) (text : List ℕ) → is_term (quoted_term q text) ≡ true
quoted_is_term quotes.Codes text = list_term (map (λ c. Integer (pos c)) (chars text)) (Name nil) (codes_row (chars text)) refl
quoted_is_term quotes.Chars text = list_term (map (λ c. Name (encode_utf8 c)) (chars text)) (Name nil) (characters_row (chars text)) refl
quoted_is_term quotes.Atom text = refl

one_term : (name : List ℕ) (t : Tree) → is_term t ≡ true → is_term (Apply name (row (t ∷ []))) ≡ true
one_term name t h = rw h refl

compound_term : (name : List ℕ) (ts : List Tree) → 1 ≤ length ts → length ts ≤ 255 → is_row (row ts) ≡ true → is_term (Apply name (row ts)) ≡ true
compound_term name ts least most h = rw (count_row ts, le-leb 1 (length ts) least, le-leb (length ts) 255 most, h) refl

-- A term that was read.
pub record IsRead (t : Tree) : Type 0 where
  pub term : is_term t ≡ true
  pub numbered : IsNumbered t

module _ (table : List Operator) (flags : Flags) where
  mutual
    reads_term : {s z : Left} {n : Node} → Reads table flags s n z → is_term n.term ≡ true
    reads_term (alone a) = operand_term a
    reads_term (between a at left b le) = rw (reads_term a, reads_term b) refl
    reads_term (behind {l = l} {o = o} a none at left) = one_term o.name l.term (reads_term a)

    operand_term : {s z : Left} {n : Node} → Operand table flags s n z → is_term n.term ≡ true
    operand_term (variable_at is) = refl
    operand_term (integer_at is le) = refl
    operand_term (double_at {t = t} is) = quoted_is_term flags.double_quotes (content t)
    operand_term (name_at is a) = named_term a
    operand_term (nil_at is close a) = named_term a
    operand_term (curly_at is close a) = named_term a
    operand_term (brackets_at is a le close) = reads_term a
    operand_term (braces_at {n = n} is a le close) = one_term curly n.term (reads_term a)
    operand_term (list_at {r = r} is a close) = list_term r.terms (Name nil) (elements_row a).1 refl
    operand_term (list_with_tail_at {r = r} {n = n} is a bar b le close) = list_term r.terms n.term (elements_row a).1 (reads_term b)

    named_term : {unquoted : Bool} {name : List ℕ} {s z : Left} {n : Node} → Named table flags unquoted name s n z → is_term n.term ≡ true
    named_term (compound_of {name = name} {r = r} opens e close le) = let x = elements_row e in compound_term name r.terms x.0 le x.1
    named_term (literal_of is size) = refl
    named_term (atom_of opens negates is) = refl
    named_term (operator_alone opens negates is stops) = refl
    named_term (operator_before {o = o} {n = n} opens negates is starts a le) = one_term o.name n.term (reads_term a)

    elements_row : {s z : Left} {r : Row} → Elements table flags s r z → (1 ≤ length r.terms) × (is_row (row r.terms) ≡ true)
    elements_row (last_of a le) = (omega arith, rw (reads_term a) refl)
    elements_row (more_of a le parted b) = let y = elements_row b in (omega arith, rw (reads_term a, y.1) refl)

  read_is_term : (ts : List Shown) (c : ReadTerm) → IsReadTerm table flags ts c → is_term c.term ≡ true
  read_is_term ts c k = rw k.is (reads_term k.reads)

  clause_read : (ts : List Shown) (c : ReadTerm) → IsReadTerm table flags ts c → IsRead c.term
  clause_read ts c k =
      let w = clause_well_read table flags ts c k in
      record { term = read_is_term ts c k; numbered = is_numbered_IsNumbered c.term (rw w.numbered refl) }

  readable_some : (o : Option ReadTerm) (c : ReadTerm) → item_of o ≡ Readable c → o ≡ Some c
  readable_some None c h = let clash : Unreadable ≡ Readable c = h in cc
  readable_some (Some d) c h = let same : Readable d ≡ Readable c = h in cc

  -- so it is with each item of a text that is no syntax error
  pub item_read : (ts : List Shown) (x : Taken) (c : ReadTerm) → next_item table flags ts ≡ Some x → x.item ≡ Readable c → IsRead c.term
  item_read [] x c h readable = let clash : None ≡ Some x = h in cc
  item_read (t ∷ ts) x c h readable =
      let taken : x.item ≡ item_of (next_clause table flags (t ∷ ts)) = cc in
      let n = next_given table flags (t ∷ ts) c (readable_some (next_clause table flags (t ∷ ts)) c (sym taken ∙ readable)) in
      clause_read n.before c n.clause

goal_by : (f : List ℕ) (g : Tree) (b : Bool) → IsRead (Apply f (More g End)) → IsRead (if b then g else Apply f (More g End))
goal_by f g true h = record { term = (first_term g End (row_of_arguments f (More g End) h.term)).0; numbered = h.numbered }
goal_by f g false h = h

-- and with the goal of a query
pub goal_read : (t : Tree) → IsRead t → IsRead (query_goal t)
goal_read (Apply f (More g End)) h = goal_by f g (bytes_eq f (codes "?-")) h
goal_read t h = h
