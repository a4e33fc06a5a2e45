-- From stage to stage of a batch.
use Rattle.std.proofs.Common.{◌≡◌, ◌+◌, ◌≤◌, ℕ, zero, suc, List, [], ◌∷◌, ◌++◌, append_assoc, append-nil, length, length-append, take, Option, Result}
use Rattle.std.proofs.Common.{Ok, Err, MatchResult, Bool, ◌||◌, true, false, arith, refl, sym, subst, ap, ◌∙◌}
use Rattle.std.proofs.Math.Seq.{take-add}
use Rattle.std.proofs.lemmas.List.{take_at, drop_at}
use Rattle.std.specs.Io.KnownBytes.{Appends}
use Rattle.std.proofs.KnownBytes.{Appends-nil, Appends-trans}
use Rattle.gw_console.specs.declared.fault.ProgramFault.{ProgramFault}
use Rattle.gw_console.specs.declared.fault.ProgramFault.TheVariants.{Write}
use Rattle.gw_console.specs.Output.{AppendsFront}
use Rattle.gw_batch.specs.Batch.{Entry}
use Rattle.gw_batch.specs.Parts.{job_line, IsTold, AreParts, status_if}
use Rattle.gw_batch.specs.Writing.{Telling, telling_of, Stage, stage, Advances, Halts, WritesBatch, WritesFront}
use Rattle.gw_batch.proofs.ByTicket.{some_told}

or_assoc : (a b c : Bool) → ((a || b) || c) ≡ (a || (b || c))
or_assoc true b c = refl
or_assoc false b c = refl

or_false : (a : Bool) → (a || false) ≡ a
or_false true = refl
or_false false = refl

-- MOVING ON

-- with nothing written a stage stands
pub stay : (a : Stage) → Advances a a
stay a = record {
  text = [];
  other = false;
  written = Appends-nil a.held;
  refused = sym (or_false a.telling.refused);
  behind = λ later others parts. parts;
}

pub nothing_more : (t : Telling) (es : List Entry) (old new : Option (List ℕ)) → Appends old new [] → Advances (stage t es old) (stage t es new)
nothing_more t es old new written = record {
  text = [];
  other = false;
  written = written;
  refused = sym (or_false t.refused);
  behind = λ later others parts. parts;
}

pub go_on : (a b c : Stage) → Advances a b → Advances b c → Advances a c
go_on a b c h k = record {
  text = h.text ++ k.text;
  other = h.other || k.other;
  written = Appends-trans a.held b.held c.held h.text k.text h.written k.written;
  refused = k.refused ∙ ap (λ r. r || k.other) h.refused ∙ or_assoc a.telling.refused h.other k.other;
  behind = λ later others parts.
      let both = h.behind (k.text ++ later) (k.other || others) (k.behind later others parts) in
      subst (λ b. AreParts a.telling.number a.waiting ((h.text ++ k.text) ++ later) b) (sym (or_assoc h.other k.other others))
      (rw (append_assoc h.text k.text later) both);
}

-- an entry is told
pub one_told : (t u : Telling) (e : Entry) (es : List Entry) (old new : Option (List ℕ)) (told : List ℕ) (one : Bool) → IsTold e told one
    → Appends old new (job_line t.number ++ told)
    → u.number ≡ t.number + 1 → u.refused ≡ (t.refused || one) → Advances (stage t (e ∷ es) old) (stage u es new)
one_told t u e es old new told one is written next refused = record {
  text = job_line t.number ++ told;
  other = one;
  written = written;
  refused = refused;
  behind = λ later others parts.
      let rest : AreParts (t.number + 1) es later others = subst (λ n. AreParts n es later others) next parts in
      (job_line t.number ++ told, later, one, others, (told, refl, is), rest, refl, refl);
}

-- STOPPING

-- something may be told of all entries
some_parts : (i : ℕ) (es : List Entry) → (text : List ℕ) × (other : Bool) × AreParts i es text other
some_parts i [] = ([], false, (refl, refl))
some_parts i (e ∷ es) =
    let one = some_told e in
    let rest = some_parts (i + 1) es in
    ((job_line i ++ one.0) ++ rest.0, true || rest.1, (job_line i ++ one.0, rest.0, true, rest.1, (one.0, refl, one.1), rest.2, refl, refl))

-- a front of two texts: within the first, and behind it
front_of : (xs ys : List ℕ) (n : ℕ) → n ≤ length xs → take n (xs ++ ys) ≡ take n xs
front_of [] ys zero within = refl
front_of [] ys (suc n) within = absurd (omega (arith, within))
front_of (x ∷ xs) ys zero within = refl
front_of (x ∷ xs) ys (suc n) within = ap (λ (zs : List ℕ). x ∷ zs) (front_of xs ys n (omega (arith, within)))

take_both : (xs ys : List ℕ) (n : ℕ) → take (length xs + n) (xs ++ ys) ≡ xs ++ take n ys
take_both xs ys n = take-add (length xs) n (xs ++ ys) ∙ rw (take_at xs ys (length xs) refl, drop_at xs ys (length xs) refl) refl

-- a front of a text is one of a longer text
pub longer : (old new : Option (List ℕ)) (text more : List ℕ) → AppendsFront old new text → AppendsFront old new (text ++ more)
longer old new text more front =
    (front.0, omega (arith, front.1, length-append text more), subst (Appends old new) (sym (front_of text more front.0 front.1)) front.2)

-- behind a text a front of the next
behind_text : (a b c : Option (List ℕ)) (text more : List ℕ) → Appends a b text → AppendsFront b c more → AppendsFront a c (text ++ more)
behind_text a b c text more written front = (
  length text + front.0,
  omega (arith, front.1, length-append text more),
  subst (Appends a c) (sym (take_both text more front.0)) (Appends-trans a b c text (take front.0 more) written front.2),
)

-- behind a line that is written, a text or a front of it
pub after_line : {X : Type 0} (r : Result X ProgramFault) (a b c : Option (List ℕ)) (line text : List ℕ) → Appends a b line
    → MatchResult r (λ _. Appends b c text) (λ fault. (fault ≡ Write) × AppendsFront b c text)
    → MatchResult r (λ _. Appends a c (line ++ text)) (λ fault. (fault ≡ Write) × AppendsFront a c (line ++ text))
after_line (Ok x) a b c line text first h = Appends-trans a b c line text first h
after_line (Err fault) a b c line text first h = (h.0, behind_text a b c line text first h.1)

-- an entry of whose part a front is written
pub stopped_in : (t : Telling) (e : Entry) (es : List Entry) (old new : Option (List ℕ)) (told : List ℕ) (one : Bool) → IsTold e told one
    → AppendsFront old new (job_line t.number ++ told)
    → Halts (stage t (e ∷ es) old) new
stopped_in t e es old new told one is front =
    let rest = some_parts (t.number + 1) es in (
      (job_line t.number ++ told) ++ rest.0,
      one || rest.1,
      (job_line t.number ++ told, rest.0, one, rest.1, (told, refl, is), rest.2, refl, refl),
      longer old new (job_line t.number ++ told) rest.0 front,
    )

pub stopped_on : (a b : Stage) (new : Option (List ℕ)) → Advances a b → Halts b new → Halts a new
stopped_on a b new h k = (h.text ++ k.0, h.other || k.1, h.behind k.0 k.1 k.2, behind_text a.held b.held new h.text k.0 h.written k.3)

-- with all told a front of nothing is written
pub stopped_at_end : (t : Telling) (old new : Option (List ℕ)) → AppendsFront old new [] → Halts (stage t [] old) new
stopped_at_end t old new front = ([], false, (refl, refl), front)

-- THE WHOLE

pub all_told : (t : Telling) (es : List Entry) (old new : Option (List ℕ)) (status : ℕ)
    → Advances (stage (telling_of 0 false) es old) (stage t [] new) → status ≡ status_if t.refused
    → WritesBatch es status old new
all_told t es old new status h is =
    let parts = h.behind [] false (refl, refl) in
    let told = subst (λ b. AreParts 0 es h.text b) (or_false h.other) (rw (append-nil h.text) at parts) in
    (h.text, (h.other, told, is ∙ ap status_if h.refused), h.written)

pub front_told : (es : List Entry) (old new : Option (List ℕ)) → Halts (stage (telling_of 0 false) es old) new → WritesFront es old new
front_told es old new h = (h.0, status_if h.1, (h.1, h.2, refl), h.3)
