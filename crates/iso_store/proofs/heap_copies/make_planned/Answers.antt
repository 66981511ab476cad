use Rattle.std.proofs.Common.{rules, ◌≡◌, ◌+◌, ◌<◌, ◌++◌, ◌∷◌, [], ◌-◌, length, get_or, map, take, true, refl, ap, sym, ◌∙◌, subst, arith}
use Rattle.std.proofs.lemmas.Int.{to_z-of_z}
use Rattle.std.proofs.lemmas.List.{append-nil}
use mir.Val.{SFits}
use mir.Syntax.{w128}
use Rattle.iso_model.specs.Terms.Trees.{Integer}
use Rattle.iso_model.specs.Terms.Building.{Give}
use Rattle.iso_store_core.specs.Presents.{Gathers, Makes}
use Rattle.iso_store_core.specs.Patterns.{part_step, at_places}
use Rattle.iso_store_core.specs.declared.patterns.Part.TheVariants.{Compound}
use Rattle.iso_store.specs.declared.heap_cells.Piece.TheVariants.{Word}
use Rattle.iso_store.specs.Plans.{made_known}
use Rattle.iso_store.specs.HeapBuilds.{built, is_piece, known_pieces}
use Rattle.iso_store.proofs.Gathering.{keeps-none, terms-kept}
use Rattle.iso_store.proofs.InstanceLemmas.{at-place, made-leaf}
use Rattle.iso_store.proofs.PlanMade.{gathers-known}
use Rattle.iso_store.proofs.HeapCopied.{known-length, known-pushed}
use Rattle.iso_store.proofs.heap_copies.make_planned.Goals as goal

pub returns-in_ok-push-in-Variable-clause-pieces : goal.returns-in_ok-push-in-Variable-clause-pieces
returns-in_ok-push-in-Variable-clause-pieces c =
    let now = c.args.heap.now in
    let many = length c.args.places.now.items in
    let compounds = c.args.compounds.now.items in
    let p = built now c.args.first many in
    let names = take now.named now.atoms in
    let known = known_pieces many compounds in
    let piece = c.known_piece-piece.result in
    let k = c.in-Variable.place in
    let is = rw (c.as_slice.ensures.value, c.as_slice-in-Variable.ensures.value) at c.known_piece-piece.ensures in
    let ready : k < many + length compounds = rw c.in-Variable.is at c.requires.ready in
    let size = known-length many compounds in
    let below : k < length known = omega arith in
    let holds = subst (λ q. is_piece names now.area.low many q ≡ true) (sym is) (c.requires.known k piece below) in
    let made : Makes p p piece (p.term piece) = record { words = keeps-none p; substitution = refl; holds = holds; term = refl } in
    let step = ap (part_step names (at_places (map p.term known))) c.in-Variable.is ∙ ap (λ u. Give (u ∷ [])) (at-place p.term known k piece below ∙ ap p.term (sym is)) in
    made-leaf c.args.pieces.now.items c.push.new.self.items piece c.requires.pieces (p.term piece) (part_step names (at_places (map p.term known)) c.args.part) made c.in_ok-push-in-Variable.ensures.items step

pub returns-in_ok-push-in-Integer-clause-pieces : goal.returns-in_ok-push-in-Integer-clause-pieces
returns-in_ok-push-in-Integer-clause-pieces c =
    let now = c.args.heap.now in
    let many = length c.args.places.now.items in
    let known = known_pieces many c.args.compounds.now.items in
    let fits : SFits w128 c.in-Integer.value = search rules in
    let made = rw (c.as_slice-in-Integer.ensures.value, to_z-of_z w128 c.in-Integer.value fits) at c.in_ok-word-in-Integer.ensures.made in
    made-leaf c.args.pieces.now.items _ _ c.requires.pieces (Integer c.in-Integer.value) _ made c.in_ok-push-in-Integer.ensures.items
    (ap (part_step (take now.named now.atoms) (at_places (map (built now c.args.first many).term known))) c.in-Integer.is)

pub returns-in_ok-push-in-Integer-clause-known : goal.returns-in_ok-push-in-Integer-clause-known
returns-in_ok-push-in-Integer-clause-known c =
    let many = length c.args.places.now.items in
    let known = known_pieces many c.args.compounds.now.items in
    let p = built c.args.heap.now c.args.first many in
    let made = rw c.as_slice-in-Integer.ensures.value at c.in_ok-word-in-Integer.ensures.made in
    let kept : Gathers p _ known (map p.term known) = record {
      words = made.words;
      substitution = made.substitution;
      hold = λ k d below. made.words.stand (get_or known k d) (c.requires.known k d below);
      terms = terms-kept made.words known c.requires.known;
    } in
    rw (c.in-Integer.is, append-nil (map p.term known)) kept

pub returns-in_ok-push-in-Compound-clause-pieces : goal.returns-in_ok-push-in-Compound-clause-pieces
returns-in_ok-push-in-Compound-clause-pieces c = rw c.in-Compound.is c.in_ok-gather-in-Compound.ensures.gathers

pub returns-in_ok-push-in-Compound-clause-known : goal.returns-in_ok-push-in-Compound-clause-known
returns-in_ok-push-in-Compound-clause-known c =
    let many = length c.args.places.now.items in
    let compounds = c.args.compounds.now.items in
    let p = built c.args.heap.now c.args.first many in
    let q = built c.gather.new.heap c.args.first many in
    let names = take c.args.heap.now.named c.args.heap.now.atoms in
    let ws = c.gather.new.pieces.items in
    let known = known_pieces many compounds in
    let word = c.in-Word.word in
    let index : c.len.result - 1 ≡ length ws - 1 = ap (λ n. n - 1) (c.len.ensures ∙ c.gather.new.pieces.ok.0) in
    let last : c.index.result.now ≡ get_or ws (length ws - 1) c.index.result.now = c.index.ensures ∙ ap (λ n. get_or ws n c.index.result.now) index in
    let here = subst (λ x. x ≡ get_or ws (length ws - 1) x) c.in-Word.is last in
    let both = gathers-known known ws _ _ (Word word) c.requires.known c.in_ok-gather-in-Compound.ensures.gathers here in
    let made : Gathers p q (known ++ Word word ∷ []) (map p.term known ++ made_known names (Compound c.in-Compound.name c.in-Compound.count) (map p.term c.args.pieces.now.items)) = both in
    rw (c.in_ok-push-in-Compound.ensures.items, known-pushed many compounds word, c.in-Compound.is) made
