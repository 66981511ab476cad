-- A state has at most one run, so the one that it has can be named.
use Rattle.std.proofs.Common.{◌≡◌, sym, ap, ap₂, ◌∙◌, subst}
use Rattle.iso_model.specs.Search.Walker.{State, Goes, Gives, Ends}
use Rattle.iso_model.specs.Search.Runs.{Trace, Then, Stops, Run, goes, gives, ends}
use Rattle.iso_model.specs.Search.RunLaws.Exists.{has_run}

-- a state has at most one run
pub one_run : {s : State} {r q : Trace} → Run s r → Run s q → r ≡ q
one_run (goes {t = t} a r) (goes {t = u} {r = q} b k) =
    let both : Goes u ≡ Goes t = sym b ∙ a in
    let same : u ≡ t = cc in
    one_run r (subst (λ x. Run x q) same k)
one_run (goes {t = t} a r) (gives {t = u} {e = f} b k) = let both : Goes t ≡ Gives f u = sym a ∙ b in cc
one_run (goes {t = t} a r) (ends {e = f} {w = v} b) = let both : Goes t ≡ Ends f v = sym a ∙ b in cc
one_run (gives {t = t} {e = e} a r) (goes {t = u} b k) = let both : Gives e t ≡ Goes u = sym a ∙ b in cc
one_run (gives {t = t} {e = e} a r) (gives {t = u} {e = f} {r = q} b k) =
    let both : Gives f u ≡ Gives e t = sym b ∙ a in
    let same : u ≡ t = cc in
    let event : e ≡ f = cc in
    let behind = one_run r (subst (λ x. Run x q) same k) in
    let world = ap (λ x. x.world) (sym same) in
    λ i. Then (event i) (world i) (behind i)
one_run (gives {t = t} {e = e} a r) (ends {e = f} {w = v} b) = let both : Gives e t ≡ Ends f v = sym a ∙ b in cc
one_run (ends {e = e} {w = w} a) (goes {t = u} b k) = let both : Ends e w ≡ Goes u = sym a ∙ b in cc
one_run (ends {e = e} {w = w} a) (gives {t = u} {e = f} b k) = let both : Ends e w ≡ Gives f u = sym a ∙ b in cc
one_run (ends {e = e} {w = w} a) (ends {e = f} {w = v} b) =
    let both : Ends e w ≡ Ends f v = sym a ∙ b in
    let ending : e ≡ f = cc in
    let world : w ≡ v = cc in
    ap₂ Stops ending world

-- The run of a state. All that is known of it is `RunOfIsTheRun`.
unfoldable pub run_of : State → Trace
run_of s = (has_run s).0

pub run_of_is : (s : State) → Run s (run_of s)
unfolding run_of
run_of_is s = (has_run s).1

pub run_of_only : {s : State} {r : Trace} → Run s r → run_of s ≡ r
run_of_only {s} run = one_run (run_of_is s) run
