use Rattle.std.proofs.Common.{◌≡◌, ◌∙◌, ◌+◌, ◌<◌, ap, arith, length}
use Rattle.std.specs.Prelude.{int_le}
use Rattle.std.proofs.lemmas.List.{length-reverse}
use Rattle.gw_members.specs.declared.tx.Event.{Event}
use Rattle.gw_chains.specs.Events.{room_behind}
use Rattle.gw_chains.proofs.Places.{length-placed}
use Rattle.gw_chains.proofs.Few.{room_taken, room_scheduled, none_taken, through, not_none, is_none}
use Rattle.gw_chains.proofs.fec.schedule_in_buckets.Goals as goal
use Rattle.gw_chains.proofs.fec.schedule_in_buckets.Goals.{then-not-is_empty, else-not-is_empty}

pub returns-clause-room : goal.returns-clause-room
returns-clause-room c =
    let few = c.args.few.now.items in
    let many = c.args.many.now in
    let mid = c.if-not-is_empty.many in
    let more : length c.schedule.new.self.items ≡ length mid.items + 1 =
    ap length c.schedule.ensures.items ∙ length-placed (λ (y : Event). int_le y.time c.args.event.time) c.args.event mid.items in
    let last = room_scheduled mid c.schedule.new.self more c.schedule.ensures.links c.schedule.ensures.spare c.schedule.ensures.chunks in
    elim c.if-not-is_empty.branch [
      | then-not-is_empty w ↦
          let some : 0 < length few = omega (arith, not_none _ w.if-not-is_empty.ensures, c.args.few.now.ok.0) in
          let all = ap length w.take_few.ensures.items ∙ length-reverse few in
          let taken = room_taken (length few) many w.take_few.new.self some (ap length (c.requires.apart some)) all
          w.take_few.ensures.links w.take_few.ensures.spare w.take_few.ensures.chunks in
          through _ (room_behind 0 w.take_few.new.self) (room_behind 0 mid) _ taken (ap (room_behind 0) w.many-is) last
      | else-not-is_empty w ↦
          let none : length few ≡ 0 = omega (arith, is_none _ w.if-not-is_empty.ensures, c.args.few.now.ok.0) in
          through _ (room_behind 0 many) (room_behind 0 mid) _ (none_taken (length few) many none) (ap (room_behind 0) w.many-is) last
    ]
