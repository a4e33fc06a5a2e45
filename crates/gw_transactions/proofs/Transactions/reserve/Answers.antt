use Rattle.std.proofs.Common.{◌≤◌, ◌<◌, ◌+◌, ◌-◌, ℕ, sym, subst, arith, OnErr, IsOk, Result, Ok, Err, inl, inr}
use Rattle.std.proofs.lemmas.Bool.{cases_lt}
use Rattle.slab.specs.Slab.{Slab, slab_len}
use Rattle.gw_transactions.specs.Transactions.{Population}
use Rattle.gw_transactions.specs.Slots.{space_in, AreNumbered}
use Rattle.gw_transactions.proofs.Populations.{sound}
use Rattle.gw_transactions.proofs.Room.{room_of, room-slots, room-beside}
use Rattle.gw_transactions.proofs.Transactions.reserve.Goals as goal

-- a call for room beside that fails tells that there was too little
lacks_beside : {T E : Type 0} (last slots len capacity more : ℕ) (r : Result T E) → len ≤ capacity → OnErr r (0 < last)
    → OnErr r (capacity < len + more) → OnErr r (room_of last slots (capacity - len) < more)
lacks_beside last slots len capacity more (Ok x) fits some lacks = tt
lacks_beside last slots len capacity more (Err e) fits some lacks = omega (arith, fits, lacks, room-beside last slots (capacity - len) some)

pub returns-clause-refused : goal.returns-clause-refused
returns-clause-refused c =
    subst (λ (p : Population). OnErr c.reserve_beside.result (p.room < c.args.more)) c.self.view_is
    (lacks_beside c.self.inside.unset.last (space_in c.self.inside.slots) (slab_len c.self.inside.beside) c.self.inside.beside.capacity
    c.args.more c.reserve_beside.result c.self.invariant.3.room c.reserve_beside.ensures.refused c.reserve_beside.ensures.lacked)

pub returns-clause-sound : goal.returns-clause-sound
returns-clause-sound c =
    sound c.reserve.new.self c.reserve_beside.new.beside c.self.inside.created c.self.inside.unset.last
    (subst (λ (s : Slab _). AreNumbered s.slots (c.self.inside.created + 1)) (sym c.reserve.ensures.rest_kept) c.self.invariant.0)

pub returns-in_err-reserve-clause-sound : goal.returns-in_err-reserve-clause-sound
returns-in_err-reserve-clause-sound c =
    sound c.reserve.new.self c.self.inside.beside c.self.inside.created c.self.inside.unset.last
    (subst (λ (s : Slab _). AreNumbered s.slots (c.self.inside.created + 1)) (sym c.reserve.ensures.rest_kept) c.self.invariant.0)
