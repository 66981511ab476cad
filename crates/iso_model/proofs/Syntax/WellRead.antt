-- What is read is well formed, with its variables numbered in the order of their first occurrence.
use Rattle.std.proofs.Common.{◌≡◌, ℕ, suc, ◌+◌, ◌<◌, ◌≤◌, Bool, true, false, cond, nat_lt, List, [], ◌∷◌, length, Option, Some, None, unwrap_or, codes, refl, arith, length-append}
use Rattle.std.specs.Prelude.{map, position, pos, chars, encode_utf8}
use Rattle.std.specs.List.{All, position_or_len}
use Rattle.std.proofs.lemmas.List.Elements.{All-cons, All-nil}
use Rattle.std.specs.Str.{bytes_eq}
use Rattle.std.proofs.lemmas.Bool.{and_parts, le-leb, ltb-true}
use Rattle.std.proofs.lemmas.Bool.Decides.{nat_tests}
use Rattle.std.proofs.lemmas.Option.{cond_some}
use Rattle.iso_ops.specs.Operators.{Operator}
use Rattle.iso_ops.specs.declared.settings.DoubleQuotes.{DoubleQuotes}
use Rattle.iso_ops.specs.declared.settings.DoubleQuotes.TheVariants as quotes
use Rattle.iso_ops.specs.declared.settings.Flags.{Flags}
use Rattle.iso_model.specs.Syntax.ReadingLaws.{IsWellRead}
use Rattle.iso_model.specs.Syntax.Token.{Shown, content}
use Rattle.iso_model.specs.Syntax.Lists.{nil, curly, list_before, quoted_term}
use Rattle.iso_model.specs.Terms.Trees.{Tree, Variable, Integer, Name, Apply, More, row, count, arities_fit}
use Rattle.iso_model.specs.Terms.Numbering.{next_number}
use Rattle.iso_model.specs.Syntax.Grammar.{ReadTerm, IsReadTerm, numbered, Left, Node, Row, name_place, with_name_by, Reads, Operand, Named, Elements, alone, between, behind, variable_at, integer_at, double_at, name_at, nil_at, curly_at, brackets_at, braces_at, list_at, list_with_tail_at, compound_of, literal_of, atom_of, operator_alone, operator_before, last_of, more_of}

count_row : (ts : List Tree) → count (row ts) ≡ length ts
count_row [] = refl
count_row (t ∷ ts) = omega (arith, count_row ts)

position_below : (p : List ℕ → Bool) (names : List (List ℕ)) (at : ℕ) → position p names ≡ Some at → at < length names
position_below p names at h =
    let parts = cond_some (nat_lt (position_or_len p names) (length names)) (position_or_len p names) at h in
    rw (← parts.1) (ltb-true (position_or_len p names) (length names) parts.0)

place_below_by : (b : Bool) (p : List ℕ → Bool) (names : List (List ℕ)) (at : ℕ) → cond b None (position p names) ≡ Some at → at < length names
place_below_by true p names at h = cc
place_below_by false p names at h = position_below p names at h

-- a variable's number is that of an earlier one, or the next
variable_numbered : (name : List ℕ) (names : List (List ℕ)) (place : Option ℕ) → ((at : ℕ) → place ≡ Some at → at < length names)
    → next_number (Variable (unwrap_or place (length names))) (length names) ≡ Some (length (with_name_by name names place))
variable_numbered name names None below = grind (arith, nat_tests, length-append {A = List ℕ})
variable_numbered name names (Some at) below = let h = below at refl in rw (le-leb (suc at) (length names) h) refl

abbrev Below : ℕ → List ℕ × ℕ → Type 0
Below count entry = entry.1 < count

names_below_by : (b : Bool) (entry : List ℕ × ℕ) (count : ℕ) (others : List (List ℕ × ℕ)) → entry.1 < count → All (Below count) others → All (Below count) (cond b others (entry ∷ others))
names_below_by true entry count others h all = all
names_below_by false entry count others h all = All-cons (Below count) entry others h all

names_below : (names : List (List ℕ)) (place count : ℕ) → place + length names ≤ count → All (Below count) (numbered place names)
names_below [] place count h = All-nil (Below count)
names_below (name ∷ names) place count h =
    names_below_by (bytes_eq name (codes "_")) (name, place) count (numbered (place + 1) names) (omega arith) (names_below names (place + 1) count (omega arith))

-- what was read, with so many variables before it and behind it
pub record IsWell (t : Tree) (from to : ℕ) : Type 0 where
  pub arities : arities_fit t ≡ true
  pub numbered : next_number t from ≡ Some to

-- the first of several terms, and the others behind it
record IsParted (t ts : Tree) (from to : ℕ) : Type 0 where
  pub between : ℕ
  pub first : IsWell t from between
  pub others : IsWell ts between to

parted_by : (t ts : Tree) (from to : ℕ) (o : Option ℕ) → next_number t from ≡ o → IsWell (More t ts) from to → IsParted t ts from to
parted_by t ts from to None is a = let h : None ≡ Some to = rw is at a.numbered in cc
parted_by t ts from to (Some k) is a =
    let parts = and_parts (arities_fit t) (arities_fit ts) a.arities in
    record { between = k; first = record { arities = parts.0; numbered = is }; others = record { arities = parts.1; numbered = rw is at a.numbered } }

parted : (t ts : Tree) (from to : ℕ) → IsWell (More t ts) from to → IsParted t ts from to
parted t ts from to a = parted_by t ts from to (next_number t from) refl a

-- a list of terms that are well formed is so
list_well : (ts : List Tree) (tail : Tree) (from mid to : ℕ) → IsWell (row ts) from mid → IsWell tail mid to → IsWell (list_before ts tail) from to
list_well [] tail from mid to a b = let same : from ≡ mid = let h : Some from ≡ Some mid = a.numbered in cc in rw same b
list_well (t ∷ ts) tail from mid to a b =
    let x = parted t (row ts) from mid a in
    let y = list_well ts tail x.between mid to x.others b in
    record { arities = rw (x.first.arities, y.arities) refl; numbered = rw (x.first.numbered, y.numbered) refl }

name_well : (name : List ℕ) (n : ℕ) → IsWell (Name name) n n
name_well name n = record { arities = refl; numbered = refl }

codes_well : (cs : List ℕ) (n : ℕ) → IsWell (row (map (λ c. Integer (pos c)) cs)) n n
codes_well [] n = record { arities = refl; numbered = refl }
codes_well (c ∷ cs) n = let x = codes_well cs n in record { arities = x.arities; numbered = x.numbered }

characters_well : (cs : List ℕ) (n : ℕ) → IsWell (row (map (λ c. Name (encode_utf8 c)) cs)) n n
characters_well [] n = record { arities = refl; numbered = refl }
characters_well (c ∷ cs) n = let x = characters_well cs n in record { arities = x.arities; numbered = x.numbered }

quoted_well : (q : DoubleQuotes) (text : List ℕ) (n : ℕ) → IsWell (quoted_term q text) n n
quoted_well quotes.Codes text n = list_well (map (λ c. Integer (pos c)) (chars text)) (Name nil) n n n (codes_well (chars text) n) (name_well nil n)
quoted_well quotes.Chars text n = list_well (map (λ c. Name (encode_utf8 c)) (chars text)) (Name nil) n n n (characters_well (chars text) n) (name_well nil n)
quoted_well quotes.Atom text n = name_well text n

-- a term of one argument
one_well : (name : List ℕ) (t : Tree) (from to : ℕ) → IsWell t from to → IsWell (Apply name (row (t ∷ []))) from to
one_well name t from to a = record { arities = rw a.arities refl; numbered = rw a.numbered refl }

-- arguments that are well formed make a compound that is
compound_well : (name : List ℕ) (ts : List Tree) (from to : ℕ) → 1 ≤ length ts → length ts ≤ 255 → IsWell (row ts) from to → IsWell (Apply name (row ts)) from to
compound_well name ts from to least most a =
    record { arities = rw (count_row ts, le-leb 1 (length ts) least, le-leb (length ts) 255 most, a.arities) refl; numbered = a.numbered }

module _ (table : List Operator) (flags : Flags) where
  mutual
    pub reads_well : {s z : Left} {n : Node} → Reads table flags s n z → IsWell n.term (length s.names) (length z.names)
    reads_well (alone a) = operand_well a
    reads_well (between {l = l} {r = r} a at left b le) =
        let x = reads_well a in
        let y = reads_well b in
        record { arities = rw (x.arities, y.arities) refl; numbered = rw (x.numbered, y.numbered) refl }
    reads_well (behind {o = o} a none at left) = one_well o.name _ _ _ (reads_well a)

    operand_well : {s z : Left} {n : Node} → Operand table flags s n z → IsWell n.term (length s.names) (length z.names)
    operand_well (variable_at {s} {t} is) = record { arities = refl; numbered = variable_numbered t.text s.names (name_place t.text s.names) (place_below_by (bytes_eq t.text (codes "_")) (λ other. bytes_eq other t.text) s.names) }
    operand_well (integer_at is le) = record { arities = refl; numbered = refl }
    operand_well (double_at {s} {t} is) = quoted_well flags.double_quotes (content t) (length s.names)
    operand_well (name_at is a) = named_well a
    operand_well (nil_at is close a) = named_well a
    operand_well (curly_at is close a) = named_well a
    operand_well (brackets_at is a le close) = let x = reads_well a in record { arities = x.arities; numbered = x.numbered }
    operand_well (braces_at is a le close) = one_well curly _ _ _ (reads_well a)
    operand_well (list_at {z = z} {r = r} is a close) = list_well r.terms (Name nil) _ (length z.names) _ (elements_well a).1 (name_well nil (length z.names))
    operand_well (list_with_tail_at {m = m} {r = r} is a bar b le close) = list_well r.terms _ _ (length m.names) _ (elements_well a).1 (reads_well b)

    named_well : {unquoted : Bool} {name : List ℕ} {s z : Left} {n : Node} → Named table flags unquoted name s n z → IsWell n.term (length s.names) (length z.names)
    named_well (compound_of {name = name} {r = r} opens e close le) = let x = elements_well e in compound_well name r.terms _ _ x.0 le x.1
    named_well (literal_of is size) = record { arities = refl; numbered = refl }
    named_well (atom_of {name = name} {s = s} opens negates is) = name_well name (length s.names)
    named_well (operator_alone {name = name} {s = s} opens negates is stops) = name_well name (length s.names)
    named_well (operator_before {o = o} opens negates is starts a le) = one_well o.name _ _ _ (reads_well a)

    elements_well : {s z : Left} {r : Row} → Elements table flags s r z → (1 ≤ length r.terms) × IsWell (row r.terms) (length s.names) (length z.names)
    elements_well (last_of a le) =
        let x = reads_well a in
        (omega arith, record { arities = rw x.arities refl; numbered = rw x.numbered refl })
    elements_well (more_of a le parted b) =
        let x = reads_well a in
        let y = elements_well b in
        (omega arith, record { arities = rw (x.arities, y.1.arities) refl; numbered = rw (x.numbered, y.1.numbered) refl })

  pub clause_well_read : (ts : List Shown) (c : ReadTerm) → IsReadTerm table flags ts c → IsWellRead c
  clause_well_read ts c k =
      let x = reads_well k.reads in
      rw k.is (record { arities = x.arities; count = length k.names; numbered = x.numbered; named = names_below k.names 0 (length k.names) (omega arith) })
