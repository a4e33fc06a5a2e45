-- Entries that have tickets, and those that wait behind them.
use Rattle.std.proofs.Common.{◌≡◌, ◌+◌, ℕ, List, [], ◌∷◌, ◌++◌, length, map, Option, Result, Ok, Err, IfErr, Bool, ◌||◌, arith, refl, sym, subst}
use Rattle.std.specs.Io.KnownBytes.{Appends}
use Rattle.gw_console.specs.Output.{AppendsFront}
use Rattle.gw_batch.specs.declared.ticket.Ticket.{Ticket}
use Rattle.gw_batch.specs.declared.waiting.Waiting.{Waiting}
use Rattle.gw_batch.specs.Batch.{Entry}
use Rattle.gw_batch.specs.Parts.{job_line}
use Rattle.gw_batch.specs.Tickets.{IsTicket, StartWith, TellsTicket}
use Rattle.gw_batch.specs.Waiting.{waiting_entry}
use Rattle.gw_batch.specs.Writing.{Telling, Stage, stage, Advances, Halts}
use Rattle.gw_batch.proofs.ByTicket.{told_of}
use Rattle.gw_batch.proofs.Stages.{go_on, one_told, stopped_in, stopped_on}

-- one ticket more
one_more : (i n : ℕ) (es : List Entry) (ts : List Ticket) (e : Entry) (rest : List Entry) (t : Ticket) → n ≡ i + length ts
    → StartWith i es ts (e ∷ rest) → IsTicket n e t
    → StartWith i es (ts ++ t ∷ []) rest
one_more i n es [] e rest t place same ticket = rw same (subst (λ k. IsTicket k e t) (omega (arith, place)) ticket, refl)
one_more i n [] (u ∷ ts) e rest t place start ticket = absurd start
one_more i n (f ∷ es) (u ∷ ts) e rest t place start ticket = (start.0, one_more (i + 1) n es ts e rest t (omega (arith, place)) start.1 ticket)

pub one_submitted : (i n : ℕ) (es : List Entry) (old new : List Ticket) (w : Waiting) (all rest : List Waiting) (t : Ticket) → n ≡ i
    + length old → all ≡ w ∷ rest → new ≡ old ++ t ∷ []
    → StartWith i es old (map waiting_entry all) → IsTicket n (waiting_entry w) t → StartWith i es new (map waiting_entry rest)
one_submitted i n es old new w all rest t place split made start ticket =
    rw made (one_more i n es old (waiting_entry w) (map waiting_entry rest) t place (rw split at start) ticket)

-- how far a batch is, whose next entries have these tickets
abbrev pub Reaches : Stage → Telling → List Ticket → List Entry → Option (List ℕ) → Type 0
Reaches a t ts rest held = (now : List Entry) × StartWith t.number now ts rest × Advances a (stage t now held)

module _ (a : Stage) (t u : Telling) (ticket : Ticket) (ts : List Ticket) (rest : List Entry) (held new : Option (List ℕ)) (told : List ℕ) (one : Bool) where
  on : (now : List Entry) → TellsTicket ticket told one → Appends held new (job_line t.number ++ told) → u.number ≡ t.number + 1
      → u.refused ≡ (t.refused || one)
      → StartWith t.number now (ticket ∷ ts) rest → Advances a (stage t now held) → Reaches a u ts rest new
  on [] tells written next refused started advanced = absurd started
  on (e ∷ es) tells written next refused started advanced =
      let is = told_of t.number e ticket told one started.0 tells in
      let one_on = one_told t u e es held new told one is written next refused in
      (es, subst (λ n. StartWith n es ts rest) (sym next) started.1, go_on a (stage t (e ∷ es) held) (stage u es new) advanced one_on)

  stopped : (now : List Entry) → TellsTicket ticket told one → AppendsFront held new (job_line t.number ++ told)
      → StartWith t.number now (ticket ∷ ts) rest → Advances a (stage t now held) → Halts a new
  stopped [] tells front started advanced = absurd started
  stopped (e ∷ es) tells front started advanced =
      let is = told_of t.number e ticket told one started.0 tells in
      stopped_on a (stage t (e ∷ es) held) new advanced (stopped_in t e es held new told one is front)

-- the next ticket is told
pub next_told : (a : Stage) (t u : Telling) (ticket : Ticket) (old ts : List Ticket) (rest : List Entry) (held new : Option (List ℕ))
    (told : List ℕ) (one : Bool) → old ≡ ticket ∷ ts
    → TellsTicket ticket told one → Appends held new (job_line t.number ++ told) → u.number ≡ t.number + 1 → u.refused ≡ (t.refused || one)
    → Reaches a t old rest held → Reaches a u ts rest new
next_told a t u ticket old ts rest held new told one split tells written next refused (now, started, advanced) =
    on a t u ticket ts rest held new told one now tells written next refused (rw split at started) advanced

-- or a front of its part
pub next_stopped : (a : Stage) (t : Telling) (ticket : Ticket) (old ts : List Ticket) (rest : List Entry) (held new : Option (List ℕ))
    (told : List ℕ) (one : Bool) → old ≡ ticket ∷ ts
    → TellsTicket ticket told one → AppendsFront held new (job_line t.number ++ told) → Reaches a t old rest held → Halts a new
next_stopped a t ticket old ts rest held new told one split tells front (now, started, advanced) =
    stopped a t t ticket ts rest held new told one now tells front (rw split at started) advanced

-- what is so is so where there is an error
pub on_err : {X E P : Type 0} (r : Result X E) → P → IfErr r (λ _. P)
on_err (Ok x) h = tt
on_err (Err e) h = h

pub nothing_left : {A : Type 0} (xs : List A) → length xs ≡ 0 → xs ≡ []
nothing_left [] none = refl
nothing_left (x ∷ xs) none = absurd cc

-- with no ticket left the others wait
pub tickets_told : (a : Stage) (t : Telling) (ts : List Ticket) (rest : List Entry) (held : Option (List ℕ)) → length ts ≡ 0
    → Reaches a t ts rest held → Advances a (stage t rest held)
tickets_told a t ts rest held none (now, started, advanced) =
    let same : now ≡ rest = subst (λ us. StartWith t.number now us rest) (nothing_left ts none) started in
    subst (λ es. Advances a (stage t es held)) same advanced
