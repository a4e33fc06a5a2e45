-- From window to window of a batch, and why one isn't told.
use Rattle.std.proofs.Common.{◌≡◌, ◌+◌, ℕ, List, [], ◌∷◌, ◌++◌, length, map, Option, Result, Ok, Err, MatchResult, OnOk, IfErr, IsErrAnd, Bool, ◌||◌}
use Rattle.std.proofs.Common.{false, sym, subst}
use Rattle.std.specs.Io.KnownBytes.{Appends, Keeps}
use Rattle.std.proofs.KnownBytes.{Keeps-trans}
use Rattle.gw_streams.specs.Streams.{MarksFailure}
use Rattle.gw_console.specs.declared.fault.ProgramFault.{ProgramFault}
use Rattle.gw_console.specs.declared.fault.ProgramFault.TheVariants.{Read, Write, Memory}
use Rattle.gw_console.specs.Output.{AppendsFront}
use Rattle.gw_batch.specs.declared.waiting.Waiting.{Waiting}
use Rattle.gw_batch.specs.Batch.{Entry}
use Rattle.gw_batch.specs.Parts.{job_line, IsTold, status_if}
use Rattle.gw_batch.specs.Waiting.{waiting_entry}
use Rattle.gw_batch.specs.Writing.{Telling, telling_of, Stage, stage, Advances, Halts, Stops, IsLeft, TellsWrites, WritesBatch}
use Rattle.gw_batch.proofs.Stages.{go_on, one_told, nothing_more, stopped_in, stopped_on, stopped_at_end, front_told, all_told}
use Rattle.gw_batch.proofs.Started.{nothing_left}

-- what is so of a fault is so where that is the error
pub err_same : {X E : Type 0} (P : E → Type 0) (r : Result X E) (f : E) → IsErrAnd r (λ e. e ≡ f) → P f → IfErr r P
err_same P (Ok x) f is h = tt
err_same P (Err e) f is h = subst P (sym is) h

-- WRITES THAT FAIL

-- each fault is that of a write
pub is_write : {X : Type 0} (P Q : Type 0) (r : Result X ProgramFault) → MatchResult r (λ _. P) (λ f. (f ≡ Write) × Q) → IfErr r (λ f. f ≡ Write)
is_write P Q (Ok x) h = tt
is_write P Q (Err f) h = h.0

pub tells_writes : {X : Type 0} (r : Result X ProgramFault) (before after : Bool) → IfErr r (λ f. f ≡ Write) → MarksFailure r before after
    → TellsWrites r before after
tells_writes (Ok x) before after is marks = marks
tells_writes (Err Write) before after is marks = marks
tells_writes (Err Memory) before after is marks = absurd (cc)
tells_writes (Err Read) before after is marks = absurd (cc)

pub write_stops : {X : Type 0} (r : Result X ProgramFault) (a : Stage) (new : Option (List ℕ)) → IfErr r (λ _. Halts a new)
    → IfErr r (λ f. f ≡ Write) → IfErr r (Stops a new)
write_stops (Ok x) a new h is = tt
write_stops (Err f) a new h is = subst (Stops a new) (sym is) h

-- STOPPING

-- what stops a window stops the batch: for want of memory only where nothing is written
pub stops_on : (a b : Stage) (new : Option (List ℕ)) (fault : ProgramFault) → a.telling.number ≡ 0
    → (b.telling.number ≡ 0 → Keeps a.held b.held) → Advances a b → Stops b new fault → Stops a new fault
stops_on a b new Write start nothing h k = stopped_on a b new h k
stops_on a b new Memory start nothing h k = (start, Keeps-trans a.held b.held new (nothing k.0) k.1)
stops_on a b new Read start nothing h k = absurd k

left_of : (es : List Entry) (old new : Option (List ℕ)) (fault : ProgramFault) → Stops (stage (telling_of 0 false) es old) new fault → IsLeft es old new fault
left_of es old new Write h = front_told es old new h
left_of es old new Memory h = h.1
left_of es old new Read h = absurd h

pub batch_left : (t : Telling) (ws es : List Entry) (old new : Option (List ℕ)) (fault : ProgramFault) → t ≡ telling_of 0 false → ws ≡ es
    → Stops (stage t ws old) new fault → IsLeft es old new fault
batch_left t ws es old new fault begin same h =
    let start = subst (λ (s : Telling). Stops (stage s ws old) new fault) begin h in
    left_of es old new fault (subst (λ (vs : List Entry). Stops (stage (telling_of 0 false) vs old) new fault) same start)

-- AN ENTRY WITHOUT A SERVICE

pub first_told : {X : Type 0} (r : Result X ProgramFault) (t u : Telling) (w : Waiting) (all ws : List Waiting)
    (held new : Option (List ℕ)) (told : List ℕ) (one : Bool) → all ≡ w ∷ ws → IsTold (waiting_entry w) told one
    → OnOk r (u.number ≡ t.number + 1) → OnOk r (u.refused ≡ (t.refused || one))
    → MatchResult r (λ _. Appends held new (job_line t.number ++ told)) (λ f. (f ≡ Write) × AppendsFront held new (job_line t.number ++ told))
    → OnOk r (Advances (stage t (map waiting_entry all) held) (stage u (map waiting_entry ws) new))
first_told (Ok x) t u w all ws held new told one split is next refused written =
    rw split (one_told t u (waiting_entry w) (map waiting_entry ws) held new told one is written next refused)
first_told (Err f) t u w all ws held new told one split is next refused written = tt

pub first_stopped : {X : Type 0} (r : Result X ProgramFault) (t : Telling) (w : Waiting) (all ws : List Waiting)
    (held new : Option (List ℕ)) (told : List ℕ) (one : Bool) → all ≡ w ∷ ws → IsTold (waiting_entry w) told one
    → MatchResult r (λ _. Appends held new (job_line t.number ++ told)) (λ f. (f ≡ Write) × AppendsFront held new (job_line t.number ++ told))
    → IfErr r (Stops (stage t (map waiting_entry all) held) new)
first_stopped (Ok x) t w all ws held new told one split is written = tt
first_stopped (Err f) t w all ws held new told one split is written =
    rw (split, written.0) (stopped_in t (waiting_entry w) (map waiting_entry ws) held new told one is written.1)

-- THE END

-- with all told nothing more is written
pub ended : {X : Type 0} (r : Result X ProgramFault) (a : Stage) (t : Telling) (ws : List Waiting) (held new : Option (List ℕ)) → length ws
    ≡ 0 → Advances a (stage t (map waiting_entry ws) held)
    → MatchResult r (λ _. Appends held new []) (λ f. (f ≡ Write) × AppendsFront held new []) → OnOk r (Advances a (stage t [] new))
ended (Ok x) a t ws held new none h written =
    let all = subst (λ vs. Advances a (stage t (map waiting_entry vs) held)) (nothing_left ws none) h in
    go_on a (stage t [] held) (stage t [] new) all (nothing_more t [] held new written)
ended (Err f) a t ws held new none h written = tt

pub end_stops : {X : Type 0} (r : Result X ProgramFault) (a : Stage) (t : Telling) (ws : List Waiting) (held new : Option (List ℕ))
    → length ws ≡ 0 → Advances a (stage t (map waiting_entry ws) held)
    → MatchResult r (λ _. Appends held new []) (λ f. (f ≡ Write) × AppendsFront held new []) → IfErr r (Stops a new)
end_stops (Ok x) a t ws held new none h written = tt
end_stops (Err f) a t ws held new none h written =
    let all = subst (λ vs. Advances a (stage t (map waiting_entry vs) held)) (nothing_left ws none) h in
    rw written.0 (stopped_on a (stage t [] held) new all (stopped_at_end t held new written.1))

pub batch_told : (t u : Telling) (ws es : List Entry) (old new : Option (List ℕ)) (status : ℕ) → t ≡ telling_of 0 false → ws ≡ es
    → Advances (stage t ws old) (stage u [] new) → status ≡ status_if u.refused
    → WritesBatch es status old new
batch_told t u ws es old new status begin same h is =
    let start = subst (λ (s : Telling). Advances (stage s ws old) (stage u [] new)) begin h in
    all_told u es old new status (subst (λ (vs : List Entry). Advances (stage (telling_of 0 false) vs old) (stage u [] new)) same start) is
