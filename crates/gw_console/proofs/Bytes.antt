-- What is read of an input, and its front.
use Rattle.std.proofs.Common.{◌≡◌, ◌≤◌, ◌+◌, ℕ, List, [], ◌++◌, length, take, Option, Some, None, IfSome, arith, append-nil, length-append, sym, ◌∙◌, ap, subst}
use Rattle.std.proofs.lemmas.List.{take_at, take_all}
use Rattle.std.specs.Io.KnownBytes.{Consumes, IsAtEnd, Appends, Keeps}
use Rattle.std.proofs.KnownBytes.{Consumes-trans}
use Rattle.gw_console.specs.Input.{TakesSome}
use Rattle.gw_console.specs.Calls.{LosesFront, LosesAtMost}

-- a reader that is at its end gave all of its bytes
pub ended : (most : ℕ) (before after : Option (List ℕ)) (got : List ℕ) → length got ≤ most → Consumes before after got → IsAtEnd after
    → IfSome before (λ xs. got ≡ take most xs)
ended most None after got short taken end = tt
ended most (Some xs) None got short taken end = absurd taken
ended most (Some xs) (Some ys) got short taken end =
    let all : xs ≡ got = taken ∙ ap (λ rest. got ++ rest) end ∙ append-nil got in
    rw all (sym (take_all most got short))

-- a reader that gave so many bytes gave the front of its bytes
pub filled : (most : ℕ) (before after : Option (List ℕ)) (got : List ℕ) → length got ≡ most → Consumes before after got
    → IfSome before (λ xs. got ≡ take most xs)
filled most None after got full taken = tt
filled most (Some xs) None got full taken = absurd taken
filled most (Some xs) (Some ys) got full taken = rw taken (sym (take_at got ys most full))

-- the bytes of one more read, behind those so far
pub more : (n most : ℕ) (old new : List ℕ) (before between after : Option (List ℕ)) → TakesSome n most old new between after
    → Consumes before between old → Consumes before after new
more n most old new before between after h taken = rw h.grown (Consumes-trans before between after old h.bytes taken h.taken)

-- the last read, which gave nothing
pub last_read : (n most limit : ℕ) (old new : List ℕ) (before between after : Option (List ℕ)) → TakesSome n most old new between after → n
    ≡ 0 → length old ≤ limit
    → Consumes before between old → IfSome before (λ xs. new ≡ take limit xs)
last_read n most limit old new before between after h none short taken =
    let long : length new ≤ limit = omega (arith, ap (λ (l : List ℕ). length l) h.grown, length-append old h.bytes, h.count) in
    ended limit before after new long (more n most old new before between after h taken) (h.end none)

-- the bytes that one more call took, behind those so far, are within the limit
pub lost_more : (most rest : ℕ) (old : List ℕ) (before between after : Option (List ℕ)) → length old + rest ≤ most
    → Consumes before between old → LosesAtMost rest between after
    → LosesAtMost most before after
lost_more most rest old before between after fits taken lost =
    (old ++ lost.0, omega (arith, fits, length-append old lost.0, lost.1), Consumes-trans before between after old lost.0 taken lost.2)

-- a reader that gave its front has lost it
pub front_lost : (most : ℕ) (before after : Option (List ℕ)) (got : List ℕ) → IfSome before (λ bytes. got ≡ take most bytes)
    → Consumes before after got → LosesFront most before after
front_lost most None after got front taken = tt
front_lost most (Some xs) after got front taken = subst (Consumes (Some xs) after) front taken

-- known bytes that stay grow by nothing
pub kept : (old new : Option (List ℕ)) → Keeps old new → Appends old new []
kept None new h = tt
kept (Some xs) None h = absurd h
kept (Some xs) (Some ys) h = h ∙ sym (append-nil xs)
