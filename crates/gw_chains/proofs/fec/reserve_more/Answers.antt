use Rattle.std.proofs.Common.{◌≡◌, ◌≤◌, length, ap, arith, refl}
use Rattle.std.specs.Vec.{vec_capacity}
use Rattle.gw_chains.proofs.Few.{room_grown}
use Rattle.gw_chains.proofs.fec.reserve_more.Goals as goal
use Rattle.gw_chains.proofs.fec.reserve_more.Goals.{After-reserve-2, else-len-eq0-via-then-len-eq0+then-more-count+else-is_ok}
use Rattle.gw_chains.proofs.fec.reserve_more.Goals.{else-len-eq0-via-then-len-eq0+else-more-count, else-len-eq0-via-else-len-eq0}

-- the few are the same, and their vector is no smaller
few_kept : (c : After-reserve-2) → (c.else-len-eq0.few.items ≡ c.args.few.now.items) × (vec_capacity c.args.few.now ≤ vec_capacity c.else-len-eq0.few)
few_kept c =
    elim c.else-len-eq0.branch [
      | else-len-eq0-via-then-len-eq0+then-more-count+else-is_ok w ↦ rw w.few-is (w.reserve.ensures.items, w.reserve.ensures.capacity)
      | else-len-eq0-via-then-len-eq0+else-more-count w ↦ rw w.few-is (refl, omega arith)
      | else-len-eq0-via-else-len-eq0 w ↦ rw w.few-is (refl, omega arith)
    ]

pub returns-clause-kept : goal.returns-clause-kept
returns-clause-kept c =
    let kept = few_kept c in
    room_grown c.args.many.now c.reserve-2.new.self (vec_capacity c.args.few.now) (vec_capacity c.else-len-eq0.few)
    (length c.args.few.now.items) (length c.else-len-eq0.few.items)
    (ap length kept.0) kept.1 c.reserve-2.ensures.items c.reserve-2.ensures.links_kept c.reserve-2.ensures.kept.0 c.reserve-2.ensures.kept.1
