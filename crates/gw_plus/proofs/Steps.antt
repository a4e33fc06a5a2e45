-- Single instructions.
use Rattle.std.proofs.Common.{◌≡◌, ◌≢◌, ℕ, ◌<◌, ℤ, pos, get_or, Option, Some, None, true, refl, ap, arith, nat_lt}
use Rattle.std.specs.Prelude.{slice_get}
use Rattle.std.proofs.lemmas.Bool.Decides.{nat_tests}
use Rattle.std.proofs.lemmas.Option.{get_or_from_slice_get}
use Rattle.gw_object.specs.declared.code.Back.{Back as JumpBack}
use Rattle.gw_rules.specs.Meaning.{Taken, Frame, Goes, Stuck, on, or_stuck, push_value, gets, jumps_back, taken_at, take_once}

-- GET reads the local
pub gets_is : (local : ℕ) (f : Frame) (v : ℤ) → gets local f ≢ Stuck → v ≡ get_or f.locals local (pos 0) → gets local f ≡ push_value v (on f)
gets_is local f v going is = by (slice_get f.locals local) refl going
  where
    by : (o : Option ℤ) → slice_get f.locals local ≡ o → or_stuck o (λ x. push_value x (on f)) ≢ Stuck
        → or_stuck o (λ x. push_value x (on f)) ≡ push_value v (on f)
    by None there moves = absurd (moves refl)
    by (Some x) there moves = let same : x ≡ v = cc (get_or_from_slice_get f.locals local x (pos 0) there) in ap (λ y. push_value y (on f)) same

-- BACK, taken fewer times than it may be
pub did_back : (b : JumpBack) (f : Frame) (count : ℕ) (taken : Taken) → count ≡ taken_at f.taken f.place → count < b.count → taken
    ≡ take_once f.taken f.place → jumps_back b f ≡ Goes (record f { place = b.target; taken = taken })
did_back b f count taken is few once =
    let less : nat_lt (taken_at f.taken f.place) b.count ≡ true = grind (arith, nat_tests) in
    rw (less, once) refl
