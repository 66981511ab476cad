use Rattle.std.proofs.Common.{◌≡◌, ◌∙◌, sym, subst, refl}
use Rattle.iso_search_core.specs.declared.choices.Left.TheVariants as left
use Rattle.iso_search.specs.Retrying.{Advances}
use Rattle.iso_search.proofs.retries.next_clause.Goals as goal

pub returns-in-Clauses : goal.returns-in-Clauses
returns-in-Clauses g c = λ attempt is.
    (let lefts : left.Clauses c.in-Clauses.attempt ≡ left.Clauses attempt = sym c.in-Clauses.is ∙ is in
    let same : c.in-Clauses.attempt ≡ attempt = cc in
    (c.advance.new.attempt, subst (λ (x : _). Advances g.E.OfClause.keeps c.args.db.now x c.advance.new.attempt c.advance.result) same c.advance.ensures, refl))
