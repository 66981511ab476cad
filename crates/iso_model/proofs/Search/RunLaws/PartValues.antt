-- What goals that join atoms or take them apart come to is made of values, where the goal is one.
use Rattle.std.proofs.Common.{[], ◌∷◌, true, false, ◌&&◌, ◌||◌, refl, codes, if◌then◌else◌, pos, negsuc}
use Rattle.iso_model.specs.Terms.Trees.{Tree, Variable, Integer, Name, Apply, End, More}
use Rattle.iso_model.specs.Terms.Types.{is_variable}
use Rattle.iso_model.specs.Terms.Substitutions.{Subst}
use Rattle.iso_model.specs.Terms.Arguments.{argument}
use Rattle.iso_model.specs.Search.Keys.{Key}
use Rattle.iso_model.specs.Search.Errors.{instantiation_error, type_error}
use Rattle.iso_model.specs.Search.Settings.{may_be_atom}
use Rattle.iso_model.specs.Search.Settlements.{Settled, Refuses}
use Rattle.iso_model.specs.Search.AtomParts as table
use Rattle.iso_model.specs.Search.AtomParts.{concat_key, parts_settled}
use Rattle.iso_model.proofs.Search.RunLaws.TermValues.{argument_value, row_value}
use Rattle.iso_model.proofs.Search.RunLaws.SettingValues.{IsOwnSettled}
use Rattle.iso_model.specs.declared.kinds.AtomPart.{AtomPart}
use Rattle.iso_model.specs.declared.kinds.AtomPart.TheVariants as part
use Rattle.iso_model.specs.Search.RunLaws.Sameness.{IsValue}

atom_own : (r : Subst) (t : Tree) (k : Key) (goes_on : Settled) → IsOwnSettled r goes_on → IsOwnSettled r (table.with_atom t k goes_on)
atom_own r t k goes_on own = elim (may_be_atom t) as (λ x. IsOwnSettled r (if x then goes_on else Refuses (type_error (codes "atom") t k))) [
  | true ↦ own
  | false ↦ tt
]

count_own : (r : Subst) (t : Tree) (goes_on : Settled) → IsOwnSettled r goes_on → IsOwnSettled r (table.with_count t goes_on)
count_own r (Variable n) goes_on own = own
count_own r (Integer (pos n)) goes_on own = own
count_own r (Integer (negsuc n)) goes_on own = tt
count_own r (Name a) goes_on own = tt
count_own r (Apply f ts) goes_on own = tt
count_own r End goes_on own = tt
count_own r (More t ts) goes_on own = tt

apart_own : (r : Subst) (a b c : Tree) → IsValue r a → IsValue r b → IsOwnSettled r (table.taken_apart a b c)
apart_own r a b (Name c) first second = row_value r (a ∷ b ∷ Name c ∷ []) (first, (second, (refl, tt)))
apart_own r a b (Variable n) first second = tt
apart_own r a b (Integer z) first second = tt
apart_own r a b (Apply f ts) first second = tt
apart_own r a b End first second = tt
apart_own r a b (More t ts) first second = tt

joined_own : (r : Subst) (a b c : Tree) → IsValue r a → IsValue r b → IsValue r c → IsOwnSettled r (table.joined a b c)
joined_own r (Name a) (Name b) c first second third = row_value r (Name a ∷ Name b ∷ c ∷ []) (refl, (refl, (third, tt)))
joined_own r a b c first second third = apart_own r a b c first second

concat_own : (r : Subst) (a b c : Tree) → IsValue r a → IsValue r b → IsValue r c → IsOwnSettled r (table.concat_settled a b c)
concat_own r a b c first second third =
    elim (is_variable c && (is_variable a || is_variable b)) as (λ x. IsOwnSettled r (if x then Refuses (instantiation_error concat_key) else
    table.with_atom a concat_key (table.with_atom b concat_key (table.with_atom c concat_key (table.joined a b c))))) [
      | true ↦ tt
      | false ↦ atom_own r a concat_key (table.with_atom b concat_key (table.with_atom c concat_key (table.joined a b c)))
          (atom_own r b concat_key (table.with_atom c concat_key (table.joined a b c)) (atom_own r c concat_key (table.joined a b c) (joined_own r a b c first second third)))
    ]

sub_own : (r : Subst) (t b l q s : Tree) → IsValue r b → IsValue r l → IsValue r q → IsValue r s → IsOwnSettled r (table.sub_settled t b l q s)
sub_own r (Variable n) b l q s first second third fourth = tt
sub_own r (Name a) b l q s first second third fourth =
    let offered = table.parts_offered a b l q s in
    atom_own r s table.sub_key (table.with_count b (table.with_count l (table.with_count q offered)))
    (count_own r b (table.with_count l (table.with_count q offered)) (count_own r l (table.with_count q offered) (count_own r q offered (row_value r (Name a ∷ b ∷ l ∷ q ∷ s ∷ []) (refl, (first, (second, (third, (fourth, tt)))))))))
sub_own r (Integer z) b l q s first second third fourth = tt
sub_own r (Apply f ts) b l q s first second third fourth = tt
sub_own r End b l q s first second third fourth = tt
sub_own r (More t ts) b l q s first second third fourth = tt

pub parts_own : (r : Subst) (row : AtomPart) (t : Tree) → IsValue r t → IsOwnSettled r (parts_settled row t)
parts_own r part.Concat t own = concat_own r (argument 0 t) (argument 1 t) (argument 2 t) (argument_value r 0 t own) (argument_value r 1 t own) (argument_value r 2 t own)
parts_own r part.Sub t own =
    sub_own r (argument 0 t) (argument 1 t) (argument 2 t) (argument 3 t) (argument 4 t) (argument_value r 1 t own) (argument_value r 2 t own) (argument_value r 3 t own) (argument_value r 4 t own)
