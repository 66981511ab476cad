-- What consulting a term comes to.
use Rattle.std.proofs.Common.{◌≡◌, ℕ, zero, suc, ◌+◌, ◌-◌, ◌≤◌, ◌<◌, min, true, false, List, [], ◌∷◌, ◌++◌, length, codes, Option, Some, None, Result, Ok, Err, IfSome, inr, refl, ap, ap₂, subst, ◌∙◌, arith}
use Rattle.std.specs.Fmt.{decimal}
use Rattle.std.specs.Result.{IsErr}
use Rattle.iso_model.specs.Terms.Trees.{Tree}
use Rattle.iso_model.specs.Terms.TermOf.{term_of}
use Rattle.iso_model.specs.Search.Additions.{Addition, Adds, Refuses, consulted}
use Rattle.iso_model.specs.Search.Engines.{Phase, Ready, HoldsWhereItIs, Consults}
use Rattle.iso_model.specs.Search.Walker.{World, State, idle}
use Rattle.iso_model.specs.Session.Lines.{counted, text_of, refused_line, skipped_line, syntax_error_line}
use Rattle.iso_model.specs.Syntax.Token.{Shown}
use Rattle.iso_ops.specs.Operators.{Operator}
use Rattle.iso_ops.specs.declared.settings.Flags.{Flags}
use Rattle.iso_model.specs.Syntax.Items.{Item, Unreadable, Taken, next_item}
use Rattle.iso_model.specs.Session.Sessions.{Script, Shows, Line, script_bytes, added_script, term_script, text_by, text_script}
use Rattle.iso_model.specs.Session.Directives.{Kept}
use Rattle.iso_model.specs.Session.Beginnings.{Begins}
use Rattle.iso_model.specs.declared.pauses.Ball.{Ball}
use Rattle.iso_model.specs.declared.pauses.AddFault.TheVariants as add
use Rattle.iso_model.specs.declared.limit.Limit.{Limit}
use Rattle.iso_model.specs.declared.limit.Limit.TheVariants as limit
use Rattle.iso_session_core.specs.declared.items.Item.{Item as RustItem}
use Rattle.iso_session_core.specs.declared.directives.Kept.{Kept as RustKept}
use Rattle.iso_session_core.specs.Directed.{AreKept, Keeps}
use Rattle.iso_session_core.specs.Read.{item_read, found}
use Rattle.iso_session_core.specs.declared.flows.Flow.{Flow}
use Rattle.iso_session_core.specs.declared.flows.Flow.TheVariants as flow
use Rattle.iso_session_core.specs.declared.statuses.Fault.{Fault}
use Rattle.iso_session_core.specs.Progress.{Place, Advances, Does, PutsLine, IsCount}
use Rattle.iso_session_core.proofs.ProgressLemmas.{advance_none, advance_on, puts_on, where_ready, ready_awake, stops_after, breaks_after}

-- a count that stays at the greatest number is written as that of a mathematician is
pub counted_same : (count k : ℕ) → IsCount count k → counted count ≡ counted k
counted_same count k e = let same : min count 18446744073709551615 ≡ min k 18446744073709551615 = omega (arith, e) in ap decimal same

abbrev refused_by : List Operator → List ℕ → Tree → List ℕ
refused_by table number error = codes "clause " ++ (number ++ (codes " refused: " ++ text_of table error))

abbrev unreadable_by : List ℕ → List ℕ
unreadable_by number = codes "syntax error in clause " ++ number

-- the term could not be read
pub unreadable : (budget : ℕ) (Stands : State → Type 0) (May : Limit → State → Type 0) (now : Phase) (old new : Place) (count k : ℕ) (s : State) (next : World → Script) (r : Result Flow Fault)
    → Stands s → now ≡ Ready → IsCount count k → PutsLine (syntax_error_line count) flow.On old new r
    → Does budget Stands May now old new (Shows (Line (syntax_error_line k)) (next s.world)) next r
unreadable budget Stands May now old new count k s next r stands ready counts puts =
    let line = subst (λ z. PutsLine z flow.On old new r) (ap unreadable_by (counted_same count k counts)) puts in
    puts_on budget Stands May now old new (syntax_error_line k) s next r line stands ready

abbrev skipped_as : List ℕ → List ℕ
skipped_as number = codes "clause " ++ (number ++ codes " skipped")

-- the term is passed over
pub skipped : (budget : ℕ) (Stands : State → Type 0) (May : Limit → State → Type 0) (now : Phase) (old new : Place) (count k : ℕ) (s : State) (next : World → Script) (r : Result Flow Fault)
    → Stands s → now ≡ Ready → IsCount count k → PutsLine (skipped_line count) flow.On old new r
    → Does budget Stands May now old new (Shows (Line (skipped_line k)) (next s.world)) next r
skipped budget Stands May now old new count k s next r stands ready counts puts =
    let line = subst (λ z. PutsLine z flow.On old new r) (ap skipped_as (counted_same count k counts)) puts in
    puts_on budget Stands May now old new (skipped_line k) s next r line stands ready

-- the clause was added
pub added : (budget : ℕ) (Stands : State → Type 0) (May : Limit → State → Type 0) (now : Phase) (at : Place) (k : ℕ) (a : Addition) (s : State) (next : World → Script)
    → Consults a s (Ok tt) Stands → now ≡ Ready → Does budget Stands May now at at (added_script k a s.world next) next (Ok flow.On)
added budget Stands May now at k (Adds db) s next c ready =
    record { at = idle (record s.world { database = db }); stands = c; ready = ready; advances = advance_none at (next (record s.world { database = db })) }
added budget Stands May now at k (Refuses error) s next c ready = absurd c

-- the clause was refused with this ball, where these are the operators of what the engine stands for
pub refused : (budget : ℕ) (Stands : State → Type 0) (May : Limit → State → Type 0) (table : List Operator) (now : Phase) → ((t : State) → Stands t → HoldsWhereItIs now t (λ u. table ≡ u.world.operators)) → (old new : Place) (count k : ℕ) (a : Addition) (s : State) (ball : Ball) (next : World → Script) (r : Result Flow Fault)
    → Consults a s (Err (add.Refused ball)) Stands → now ≡ Ready → IsCount count k → PutsLine (refused_line table count (term_of ball.term.value)) flow.On old new r
    → Does budget Stands May now old new (added_script k a s.world next) next r
refused budget Stands May table now ops old new count k (Adds db) s ball next r c ready counts puts = absurd c
refused budget Stands May table now ops old new count k (Refuses error) s ball next r c ready counts puts =
    let same = ap (λ z. refused_by table z (term_of ball.term.value)) (counted_same count k counts) ∙ ap₂ (λ o z. refused_line o k z) (where_ready now (idle s.world) (λ u. table ≡ u.world.operators) ready (ops (idle s.world) c.1)) c.0 in
    let line = subst (λ z. PutsLine z flow.On old new r) same puts in
    puts_on budget Stands May now old new (refused_line s.world.operators k error) (idle s.world) next r line c.1 ready

-- what follows a text, with the goals that it kept
abbrev pub Behind : Type 0
Behind = List Kept → World → Script

-- How far the text was consulted: what is left of it, which goals it kept, and where its script is.
pub record TextPlace (Stands : State → Type 0) (budget : ℕ) (kept : List RustKept) (count : ℕ) (ts : List Shown) (old new : Place) (script : Script) (next : Behind) : Type 0 where
  pub at : State
  pub stands : Stands at
  pub done : ℕ
  pub turns : ℕ
  pub counts : IsCount count done
  pub enough : length ts ≤ turns
  pub goals : List Kept
  pub are : AreKept kept goals
  pub advances : Advances old new script (text_script budget turns (done + 1) ts at.world goals next)

pub text_begins : (Stands : State → Type 0) (budget : ℕ) (kept : List RustKept) (s : State) (ts : List Shown) (old : Place) (next : Behind) → Stands s → kept ≡ []
    → TextPlace Stands budget kept 0 ts old old (text_script budget (length ts) 1 ts s.world [] next) next
text_begins Stands budget kept s ts old next stands none = record {
  at = s;
  stands = stands;
  done = 0;
  turns = length ts;
  counts = refl;
  enough = omega arith;
  goals = [];
  are = rw none tt;
  advances = advance_none old (text_script budget (length ts) 1 ts s.world [] next);
}

text_over : (budget turns k : ℕ) (w : World) (goals : List Kept) (next : Behind) → text_script budget turns k [] w goals next ≡ next goals w
unfolding text_script
text_over budget zero k w goals next = refl
text_over budget (suc turns) k w goals next = refl

pub empty_by : (table : List Operator) (flags : Flags) (ts : List Shown) → next_item table flags ts ≡ None → ts ≡ []
empty_by table flags [] h = refl
empty_by table flags (t ∷ ts) h = cc

-- no item is left
pub text_ends : (Stands : State → Type 0) (May : Limit → State → Type 0) (now : Phase) (budget : ℕ) (kept : List RustKept) (count : ℕ) (ts : List Shown) (old new : Place) (script : Script) (next : Behind)
    → (p : TextPlace Stands budget kept count ts old new script next) → now ≡ Ready → next_item p.at.world.operators p.at.world.flags ts ≡ None
    → Keeps kept (λ later. Does budget Stands May now old new script (next later) (Ok flow.On))
text_ends Stands May now budget kept count ts old new script next p ready none =
    let over = ap (λ z. text_script budget p.turns (p.done + 1) z p.at.world p.goals next) (empty_by p.at.world.operators p.at.world.flags ts none) ∙ text_over budget p.turns (p.done + 1) p.at.world p.goals next in
    record { goals = p.goals; are = p.are; does = record { at = p.at; stands = p.stands; ready = ready; advances = subst (λ z. Advances old new script z) over p.advances } }

-- memory was refused to the next item
pub text_stops : (Stands : State → Type 0) (May : Limit → State → Type 0) (now : Phase) (budget : ℕ) (kept : List RustKept) (count : ℕ) (ts : List Shown) (old new : Place) (script : Script) (next : Behind)
    → (p : TextPlace Stands budget kept count ts old new script next) → now ≡ Ready → Keeps kept (λ later. Does budget Stands May now old new script (next later) (Ok (flow.Stops limit.Memory)))
text_stops Stands May now budget kept count ts old new script next p ready =
    record { goals = p.goals; are = p.are; does = record { rest = text_script budget p.turns (p.done + 1) ts p.at.world p.goals next; advances = p.advances; stops = inr (ready_awake now ready) } }

item_script : (budget turns k : ℕ) (ts : List Shown) (x : Taken) (w : World) (goals : List Kept) (next : Behind) → next_item w.operators w.flags ts ≡ Some x
    → text_script budget (suc turns) k ts w goals next ≡ term_script budget k x.item w goals (λ later v. text_script budget turns (k + 1) x.behind v later next)
unfolding text_script
item_script budget turns k ts x w goals next h = ap (λ o. text_by budget k w goals o next (λ behind later v. text_script budget turns (k + 1) behind v later next)) h

-- the next item, and the script behind it
pub record TextTurn (Stands : State → Type 0) (budget : ℕ) (kept : List RustKept) (count : ℕ) (i : Item) (behind : List Shown) (old mid : Place) (script : Script) (next : Behind) : Type 0 where
  pub at : State
  pub stands : Stands at
  pub k : ℕ
  pub turns : ℕ
  pub counts : IsCount count k
  pub enough : length behind ≤ turns
  pub goals : List Kept
  pub are : AreKept kept goals
  pub advances : Advances old mid script (term_script budget k i at.world goals (λ later v. text_script budget turns (k + 1) behind v later next))

pub text_turns : (Stands : State → Type 0) (budget : ℕ) (kept : List RustKept) (count later : ℕ) (ts : List Shown) (x : Taken) (old mid : Place) (script : Script) (next : Behind)
    → (p : TextPlace Stands budget kept count ts old mid script next) → next_item p.at.world.operators p.at.world.flags ts ≡ Some x → length x.behind < length ts → later ≡ min (count + 1) 18446744073709551615
    → TextTurn Stands budget kept later x.item x.behind old mid script next
text_turns Stands budget kept count later ts x old mid script next p item shorter counted =
    let some = p.turns - 1 in
    let turn : p.turns ≡ suc some = omega (arith, p.enough, shorter) in
    let whole = ap (λ n. text_script budget n (p.done + 1) ts p.at.world p.goals next) turn ∙ item_script budget some (p.done + 1) ts x p.at.world p.goals next item in
    record {
      at = p.at;
      stands = p.stands;
      k = p.done + 1;
      turns = some;
      counts = omega (arith, counted, p.counts);
      enough = omega (arith, p.enough, shorter);
      goals = p.goals;
      are = p.are;
      advances = subst (λ z. Advances old mid script z) whole p.advances;
    }

-- the item was consulted, and the session goes on
pub text_goes : (Stands Later : State → Type 0) (May : Limit → State → Type 0) (now : Phase) (budget : ℕ) (kept kept_later : List RustKept) (count : ℕ) (i : Item) (behind : List Shown) (old mid new : Place) (script : Script) (next : Behind)
    → (t : TextTurn Stands budget kept count i behind old mid script next)
    → Keeps kept_later (λ later. Does budget Later May now mid new (term_script budget t.k i t.at.world t.goals (λ later v. text_script budget t.turns (t.k + 1) behind v later next)) (λ v. text_script budget t.turns (t.k + 1) behind v later next) (Ok flow.On))
    → (now ≡ Ready) × TextPlace Later budget kept_later count behind old new script next
text_goes Stands Later May now budget kept kept_later count i behind old mid new script next t g = (
  g.does.ready,
  record {
    at = g.does.at;
    stands = g.does.stands;
    done = t.k;
    turns = t.turns;
    counts = t.counts;
    enough = t.enough;
    goals = g.goals;
    are = g.are;
    advances = advance_on t.advances g.does.advances;
  },
)

-- a part of a text that doesn't go on, behind what was written
pub text_stops_after : (budget : ℕ) (Stands : State → Type 0) (May : Limit → State → Type 0) (now : Phase) (kept : List RustKept) (old mid new : Place) (s t : Script) (behind other : Behind) (f : Flow)
    → Advances old mid s t → (f ≡ flow.On → ⊥) → Keeps kept (λ later. Does budget Stands May now mid new t (behind later) (Ok f)) → Keeps kept (λ later. Does budget Stands May now old new s (other later) (Ok f))
text_stops_after budget Stands May now kept old mid new s t behind other f h ends k =
    record { goals = k.goals; are = k.are; does = stops_after budget Stands May now old mid new s t (behind k.goals) (other k.goals) f h ends k.does }

-- a write failed behind what was written
pub text_breaks_after : (budget : ℕ) (Stands : State → Type 0) (May : Limit → State → Type 0) (now : Phase) (kept : List RustKept) (old mid new : Place) (s t : Script) (other : Behind) (r : Result Flow Fault)
    → Advances old mid s t → IsErr r → Keeps kept (λ later. Begins mid.0 new.0 (script_bytes mid.1 t)) → Keeps kept (λ later. Does budget Stands May now old new s (other later) r)
text_breaks_after budget Stands May now kept old mid new s t other r h failed k =
    record { goals = k.goals; are = k.are; does = breaks_after budget Stands May now old mid new s t (other k.goals) r h failed k.does }

nothing_by : (o : Option RustItem) (later : List Shown) → ((x : RustItem) → o ≡ Some x → ⊥) → found o later ≡ None
nothing_by None later none = refl
nothing_by (Some x) later none = absurd (none x refl)

-- no item was found
pub nothing_found : (table : List Operator) (flags : Flags) (ts later : List Shown) (o : Option RustItem) → next_item table flags ts ≡ found o later → ((x : RustItem) → o ≡ Some x → ⊥) → next_item table flags ts ≡ None
nothing_found table flags ts later o item none = item ∙ nothing_by o later none

-- the turn of the item that was found
pub text_found : (Stands : State → Type 0) (budget : ℕ) (kept : List RustKept) (count later : ℕ) (ts behind : List Shown) (o : Option RustItem) (i : RustItem) (old mid : Place) (script : Script) (next : Behind)
    → (p : TextPlace Stands budget kept count ts old mid script next) → next_item p.at.world.operators p.at.world.flags ts ≡ found o behind → o ≡ Some i → IfSome o (λ _. length behind < length ts)
    → later ≡ min (count + 1) 18446744073709551615 → TextTurn Stands budget kept later (item_read i) behind old mid script next
text_found Stands budget kept count later ts behind o i old mid script next p item some shorter counted =
    let here = rw some at item in
    let less = rw some at shorter in
    text_turns Stands budget kept count later ts (record { item = item_read i; behind = behind }) old mid script next p here less counted
