-- Built-ins that join atoms and take them apart, with several solutions (ISO/IEC 13211-1:1995, 8.16.2, 8.16.3; which
-- checks are made, and in which order, is own).
use Rattle.std.specs.Prelude.{ℕ, suc, ◌-◌, ◌==◌, pos, negsuc, List, [], ◌∷◌, ◌++◌, map, take, drop, length, chars, Bool, true, ◌&&◌, ◌||◌, codes, if◌then◌else◌}
use Rattle.std.specs.List.{filter, range_with_len}
use Rattle.std.specs.Str.{bytes_eq, encode_utf8_all}
use Rattle.iso_model.specs.Terms.Trees.{Tree, Variable, Integer, Name, row}
use Rattle.iso_model.specs.Terms.Types.{is_variable}
use Rattle.iso_model.specs.Terms.Arguments.{argument}
use Rattle.iso_model.specs.Search.Keys.{Key, key}
use Rattle.iso_model.specs.Search.Errors.{instantiation_error, type_error, domain_error}
use Rattle.iso_model.specs.Search.Settings.{may_be_atom}
use Rattle.iso_model.specs.Search.Settlements.{Settled, Refuses, Offers, Offer, constant_offer}
use Rattle.iso_model.specs.declared.kinds.AtomPart.{AtomPart}
use Rattle.iso_model.specs.declared.kinds.AtomPart.TheVariants.{Concat, Sub}

-- the atom of these characters
abbrev pub atom_of : List ℕ → Tree
atom_of cs = Name (encode_utf8_all cs)

-- goes on where the argument is unbound or an atom
abbrev pub with_atom : Tree → Key → Settled → Settled
with_atom t k goes_on = if may_be_atom t then goes_on else Refuses (type_error (codes "atom") t k)

-- ---- atom_concat/3 (8.16.2)

abbrev pub concat_key : Key
concat_key = key (codes "atom_concat") 3

-- the first so many characters of an atom, those behind them, and the atom
abbrev pub split_at : List ℕ → ℕ → Offer
split_at c n = constant_offer 4 (row (atom_of (take n (chars c)) ∷ atom_of (drop n (chars c)) ∷ Name c ∷ []))

-- the third atom is taken apart at each place, the shortest first part first
abbrev pub taken_apart : Tree → Tree → Tree → Settled
taken_apart a b (Name c) = Offers (row (a ∷ b ∷ Name c ∷ [])) (map (split_at c) (range_with_len 0 (suc (length (chars c)))))
taken_apart a b c = Refuses (instantiation_error concat_key)

-- two atoms are joined
abbrev pub joined : Tree → Tree → Tree → Settled
joined (Name a) (Name b) c = Offers (row (Name a ∷ Name b ∷ c ∷ [])) (constant_offer 2 (row (Name a ∷ Name b ∷ Name (a ++ b) ∷ [])) ∷ [])
joined a b c = taken_apart a b c

-- the third atom is bound, or the two others are
abbrev pub concat_settled : Tree → Tree → Tree → Settled
concat_settled a b c =
    if is_variable c && (is_variable a || is_variable b) then Refuses (instantiation_error concat_key) else
    with_atom a concat_key (with_atom b concat_key (with_atom c concat_key (joined a b c)))

-- ---- sub_atom/5 (8.16.3)

abbrev pub sub_key : Key
sub_key = key (codes "sub_atom") 5

-- a part of an atom: how many characters stand before it, and how many it has
pub record Part : Type 0 where
  pub before : ℕ
  pub length : ℕ

-- the parts of so many characters, by place and then by length
abbrev pub parts_from : ℕ → ℕ → List Part
parts_from count before = map (λ n. let p : Part = record { before = before; length = n } in p) (range_with_len 0 (suc (count - before)))

abbrev pub parts_at : ℕ → List ℕ → List Part
parts_at count [] = []
parts_at count (before ∷ places) = parts_from count before ++ parts_at count places

abbrev pub all_parts : ℕ → List Part
all_parts count = parts_at count (range_with_len 0 (suc count))

-- a number, or a name, is that of an argument that is bound
abbrev pub is_number : Tree → ℕ → Bool
is_number (Integer (pos m)) n = m == n
is_number t n = true

abbrev pub is_name : Tree → List ℕ → Bool
is_name (Name a) b = bytes_eq a b
is_name t b = true

abbrev pub part_text : List ℕ → Part → List ℕ
part_text cs p = encode_utf8_all (take p.length (drop p.before cs))

-- how many characters stand behind it
abbrev pub behind : List ℕ → Part → ℕ
behind cs p = length cs - p.before - p.length

-- the part fits the arguments that are bound
abbrev pub fits : Tree → Tree → Tree → Tree → List ℕ → Part → Bool
fits b l r s cs p = is_number b p.before && (is_number l p.length && (is_number r (behind cs p) && is_name s (part_text cs p)))

-- the atom, the part's place, its length, how many characters stand behind it, and the part itself
abbrev pub part_offer : List ℕ → Part → Offer
part_offer a p = constant_offer 8 (row (Name a ∷ Integer (pos p.before) ∷ Integer (pos p.length) ∷ Integer (pos (behind (chars a) p)) ∷ Name (part_text (chars a) p) ∷ []))

abbrev pub parts_offered : List ℕ → Tree → Tree → Tree → Tree → Settled
parts_offered a b l r s = Offers (row (Name a ∷ b ∷ l ∷ r ∷ s ∷ [])) (map (part_offer a) (filter (fits b l r s (chars a)) (all_parts (length (chars a)))))

-- goes on where the argument is unbound or an integer that is not negative
abbrev pub with_count : Tree → Settled → Settled
with_count (Variable n) goes_on = goes_on
with_count (Integer (pos n)) goes_on = goes_on
with_count (Integer (negsuc n)) goes_on = Refuses (domain_error (codes "not_less_than_zero") (Integer (negsuc n)) sub_key)
with_count t goes_on = Refuses (type_error (codes "integer") t sub_key)

-- each part that fits
abbrev pub sub_settled : Tree → Tree → Tree → Tree → Tree → Settled
sub_settled (Variable n) b l r s = Refuses (instantiation_error sub_key)
sub_settled (Name a) b l r s = with_atom s sub_key (with_count b (with_count l (with_count r (parts_offered a b l r s))))
sub_settled t b l r s = Refuses (type_error (codes "atom") t sub_key)

-- ---- the rows

abbrev pub part_arity : AtomPart → ℕ
part_arity Concat = 3
part_arity Sub = 5

-- what this goal comes to
abbrev pub parts_settled : AtomPart → Tree → Settled
parts_settled Concat t = concat_settled (argument 0 t) (argument 1 t) (argument 2 t)
parts_settled Sub t = sub_settled (argument 0 t) (argument 1 t) (argument 2 t) (argument 3 t) (argument 4 t)
