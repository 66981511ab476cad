-- The pieces of a term are signs.
use Rattle.std.proofs.Common.{◌≡◌, ℕ, Bool, true, false, not, ◌&&◌, ◌||◌, ◌==◌, nat_lt, if◌then◌else◌, List, [], ◌∷◌, ◌++◌, refl, Option, Some, None, is_some, codes}
use Rattle.std.proofs.lemmas.Bool.{cond_both, and_parts, or_parts, true≢false}
use Rattle.std.specs.Str.{bytes_eq}
use Rattle.std.proofs.lemmas.Slice.Eq.{bytes_eq-Decides}
use Rattle.iso_ops.specs.Operators.{Operator}
use Rattle.iso_model.specs.Syntax.Characters.{is_punctuation}
use Rattle.iso_model.specs.Syntax.Operators.{prefix_named, infix_named, postfix_named, left_of, right_of}
use Rattle.iso_ops.specs.Specifiers.{takes_equal}
use Rattle.iso_model.specs.Terms.Trees.{Tree, Variable, Integer, Name, Apply, End, More}
use Rattle.iso_model.specs.Syntax.Texts.{name_text}
use Rattle.iso_model.specs.Syntax.Pieces.{Piece, Written, Writeq, piece, after_space, bracketed, at_most, operand_at, left_operand, simple, made_by, is_symbolic, begins_open, begins_digit, operator_bytes, atom_written, compound_written, list_written, infix_pieces, prefix_pieces, postfix_pieces, pair_by, pair_written, single_by, single_written, variable_number, numbered_or, term_written}
use Rattle.iso_model.specs.Syntax.WritingLaws.{integers_fit, has_numbered_variable}
use Rattle.iso_model.proofs.Syntax.PieceTokens.{Mark, Named, Place, Number, IsSigned, AreSigned, none_left, one_more}

signed-append : (ps qs : List Piece) → AreSigned ps → AreSigned qs → AreSigned (ps ++ qs)
signed-append [] qs none_left h = h
signed-append (p ∷ ps) qs (one_more s signed) h = one_more s (signed-append ps qs signed h)

after_space-signed : (ps : List Piece) → AreSigned ps → AreSigned (after_space ps)
after_space-signed [] none_left = none_left
after_space-signed (p ∷ ps) (one_more s signed) = one_more (record { sign = s.sign; sound = s.sound; text = s.text }) signed

signed_if : (b : Bool) (ps qs : List Piece) → AreSigned ps → AreSigned qs → AreSigned (if b then ps else qs)
signed_if b ps qs h g = cond_both b ps qs AreSigned (λ _. h) (λ _. g)

mark_signed : (b : ℕ) → is_punctuation b ≡ true → IsSigned (piece (b ∷ []))
mark_signed b h = record { sign = Mark b; sound = h; text = refl }

name_signed : (name : List ℕ) → IsSigned (piece (name_text name))
name_signed name = record { sign = Named name; sound = refl; text = refl }

one : {p : Piece} → IsSigned p → AreSigned (p ∷ [])
one s = one_more s none_left

-- pieces before a closing mark
closed_by : (b : ℕ) → is_punctuation b ≡ true → (ps : List Piece) → AreSigned ps → AreSigned (ps ++ piece (b ∷ []) ∷ [])
closed_by b h ps signed = signed-append ps _ signed (one (mark_signed b h))

bracketed-signed : (ps : List Piece) → AreSigned ps → AreSigned (bracketed ps)
bracketed-signed ps signed = one_more (mark_signed 40 refl) (closed_by 41 refl ps signed)

-- all that is written of a term is of signs
record WrittenSigned (w : Written) : Type 0 where
  bare : AreSigned w.bare
  tail : AreSigned w.tail
  others : AreSigned w.others

written_if : (b : Bool) (v w : Written) → WrittenSigned v → WrittenSigned w → WrittenSigned (if b then v else w)
written_if b v w h g = cond_both b v w WrittenSigned (λ _. h) (λ _. g)

at_most-signed : (most : ℕ) (w : Written) → AreSigned w.bare → AreSigned (at_most most w)
at_most-signed most w h = signed_if (nat_lt most w.priority) _ _ (bracketed-signed w.bare h) h

operand-signed : (most : ℕ) (w : Written) → AreSigned w.bare → AreSigned (operand_at most w)
operand-signed most w h = signed_if (w.is_operator || nat_lt most w.priority) _ _ (bracketed-signed w.bare h) h

left-signed : (o : Operator) (w : Written) → AreSigned w.bare → AreSigned (left_operand o w)
left-signed o w h = signed_if (w.is_open && (w.priority == o.priority && takes_equal o.spec)) _ _ (bracketed-signed w.bare h) (operand-signed (left_of o) w h)

-- as a list's tail, behind a bar
barred : (ps : List Piece) → AreSigned ps → AreSigned (piece (codes "|") ∷ (ps ++ piece (codes "]") ∷ []))
barred ps h = one_more (mark_signed 124 refl) (closed_by 93 refl ps h)

simple-signed : (ps : List Piece) → AreSigned ps → WrittenSigned (simple ps)
simple-signed ps h = record { bare = h; tail = barred ps h; others = none_left }

made-signed : (o : Operator) (ps : List Piece) → AreSigned ps → WrittenSigned (made_by o ps)
made-signed o ps h = record { bare = h; tail = barred (if nat_lt 999 o.priority then bracketed ps else ps) (signed_if (nat_lt 999 o.priority) (bracketed ps) ps (bracketed-signed ps h) h); others = none_left }

-- an infix operator's name: a comma is a mark
operator-signed : (name : List ℕ) → IsSigned (piece (operator_bytes Writeq name))
operator-signed name =
    cond_both (bytes_eq name (codes ",")) name (name_text name) (λ x. IsSigned (piece x))
    (λ e. let is : name ≡ codes "," = (bytes_eq-Decides name (codes ",")).0 e in record { sign = Mark 44; sound = refl; text = is })
    (λ _. name_signed name)

-- where there is no number
numbered-signed : (o : Option ℕ) (w : Written) → is_some o ≡ false → WrittenSigned w → WrittenSigned (numbered_or o w)
numbered-signed None w none h = h
numbered-signed (Some n) w none h = absurd (true≢false none)

-- an argument and those behind it
more-signed : (first rest : Written) → WrittenSigned first → WrittenSigned rest → AreSigned (at_most 999 first ++ rest.others)
more-signed first rest h g = signed-append (at_most 999 first) rest.others (at_most-signed 999 first h.bare) g.others

module _ (table : List Operator) (seen : List ℕ) where
  infix-signed : (o : Operator) (l r : Written) → AreSigned l.bare → AreSigned r.bare → AreSigned (infix_pieces Writeq table seen o l r)
  infix-signed o l r left right =
      let behind = operand-signed (right_of o) r right in
      signed_if (is_symbolic o.name) _ _ (signed-append (left_operand o l) _ (left-signed o l left) (one_more (operator-signed o.name) behind))
      (signed-append (left_operand o l) _ (left-signed o l left) (one_more (record { sign = Named o.name; sound = refl; text = refl }) (after_space-signed _ behind)))

  prefix-signed : (o : Operator) (w : Written) → AreSigned w.bare → AreSigned (prefix_pieces Writeq table seen o w)
  prefix-signed o w h =
      let right = operand_at (right_of o) w in
      let behind = operand-signed (right_of o) w h in
      one_more (name_signed o.name)
      (signed_if (not (is_symbolic o.name) || (begins_open right || (bytes_eq o.name (codes "-") && begins_digit right))) _ _ (after_space-signed right behind) behind)

  postfix-signed : (o : Operator) (w : Written) → AreSigned w.bare → AreSigned (postfix_pieces Writeq table seen o w)
  postfix-signed o w h =
      let name = one (name_signed o.name) in
      signed-append (left_operand o w) _ (left-signed o w h) (signed_if (is_symbolic o.name) _ _ name (after_space-signed _ name))

  compound-signed : (name : List ℕ) (ps : List Piece) → AreSigned ps → WrittenSigned (compound_written Writeq table seen name ps)
  compound-signed name ps h = simple-signed _ (one_more (name_signed name) (one_more (mark_signed 40 refl) (closed_by 41 refl ps h)))

  atom-signed : (name : List ℕ) → WrittenSigned (atom_written Writeq table seen name)
  atom-signed name = record {
    bare = one (name_signed name);
    tail = signed_if (bytes_eq name (codes "[]")) _ _ (one (mark_signed 93 refl)) (barred _ (one (name_signed name)));
    others = none_left;
  }

  list-signed : (first rest : Written) → AreSigned first.bare → AreSigned rest.tail → WrittenSigned (list_written Writeq table seen first rest)
  list-signed first rest h g =
      let elements = signed-append (at_most 999 first) _ (at_most-signed 999 first h) g in
      record { bare = one_more (mark_signed 91 refl) elements; tail = one_more (mark_signed 44 refl) elements; others = none_left }

  by-signed : (o : Option Operator) (name : List ℕ) (first second : Written) → AreSigned first.bare → AreSigned second.bare → WrittenSigned (pair_by Writeq table seen o name first second)
  by-signed (Some o) name first second h g = made-signed o _ (infix-signed o first second h g)
  by-signed None name first second h g =
      compound-signed name _ (signed-append (at_most 999 first) _ (at_most-signed 999 first h) (one_more (mark_signed 44 refl) (at_most-signed 999 second g)))

  pair-signed : (name : List ℕ) (first second : Written) → WrittenSigned first → WrittenSigned second → WrittenSigned (pair_written Writeq table seen name first second)
  pair-signed name first second h g =
      written_if (bytes_eq name (codes ".")) _ _ (list-signed first second h.bare g.tail) (by-signed (infix_named table name) name first second h.bare g.bare)

  unary-signed : (o p : Option Operator) (name : List ℕ) (argument : Written) → AreSigned argument.bare → WrittenSigned (single_by Writeq table seen o p name argument)
  unary-signed (Some o) p name argument h = made-signed o _ (prefix-signed o argument h)
  unary-signed None (Some o) name argument h = made-signed o _ (postfix-signed o argument h)
  unary-signed None None name argument h = compound-signed name _ (at_most-signed 999 argument h)

  single-signed : (name : List ℕ) (argument : Written) → AreSigned argument.bare → WrittenSigned (single_written Writeq table seen name argument)
  single-signed name argument h =
      written_if (bytes_eq name (codes "{}")) _ _
      (simple-signed _ (one_more (mark_signed 123 refl) (closed_by 125 refl (at_most 1200 argument) (at_most-signed 1200 argument h))))
      (unary-signed (prefix_named table name) (postfix_named table name) name argument h)

  written-signed : (t : Tree) → integers_fit t ≡ true → has_numbered_variable t ≡ false → WrittenSigned (term_written Writeq table seen t)
  written-signed (Variable n) h g = simple-signed _ (one (record { sign = Place _; sound = refl; text = refl }))
  written-signed (Integer z) h g = simple-signed _ (one (record { sign = Number z; sound = h; text = refl }))
  written-signed (Name name) h g = atom-signed name
  written-signed (Apply name (More t End)) h g =
      let none = or_parts (is_some (variable_number (Apply name (More t End)))) _ g in
      let others = or_parts (has_numbered_variable t) _ none.1 in
      numbered-signed _ _ none.0 (single-signed name _ (written-signed t (and_parts _ _ h).0 others.0).bare)
  written-signed (Apply name (More t (More u End))) h g =
      let fits = and_parts (integers_fit t) _ h in
      let other = and_parts (integers_fit u) _ fits.1 in
      let none = or_parts (has_numbered_variable t) _ (or_parts (is_some (variable_number (Apply name (More t (More u End))))) _ g).1 in
      let others = or_parts (has_numbered_variable u) _ none.1 in
      pair-signed name _ _ (written-signed t fits.0 none.0) (written-signed u other.0 others.0)
  written-signed (Apply name (More t ts)) h g =
      let fits = and_parts (integers_fit t) _ h in
      let none = or_parts (has_numbered_variable t) _ (or_parts (is_some (variable_number (Apply name (More t ts)))) _ g).1 in
      compound-signed name _ (more-signed (term_written Writeq table seen t) (term_written Writeq table seen ts) (written-signed t fits.0 none.0) (written-signed ts fits.1 none.1))
  written-signed (Apply name ts) h g = simple-signed _ (one (name_signed name))
  written-signed End h g = simple-signed [] none_left
  written-signed (More t ts) h g =
      let fits = and_parts (integers_fit t) _ h in
      let none = or_parts (has_numbered_variable t) _ g in
      record {
        bare = none_left;
        tail = none_left;
        others = one_more (mark_signed 44 refl) (more-signed (term_written Writeq table seen t) (term_written Writeq table seen ts) (written-signed t fits.0 none.0) (written-signed ts fits.1 none.1));
      }

  -- the pieces of a term are signs
  pub term_signed : (most : ℕ) (t : Tree) → integers_fit t ≡ true → has_numbered_variable t ≡ false → AreSigned (at_most most (term_written Writeq table seen t))
  term_signed most t fits none = at_most-signed most (term_written Writeq table seen t) (written-signed t fits none).bare
