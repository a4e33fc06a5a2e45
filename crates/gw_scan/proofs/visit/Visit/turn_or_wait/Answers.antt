use Rattle.std.proofs.Common.{Bool, true, refl, subst}
use Rattle.std.specs.Prelude.{Ok}
use Rattle.gw_scan.specs.Trying.{TurnsToOne}
use Rattle.gw_scan.proofs.Going.{turn-undone}
use Rattle.gw_scan.proofs.visit.Visit.turn_or_wait.Goals as goal

pub returns-in-Ok-true : goal.returns-in-Ok-true
returns-in-Ok-true c =
    let v = c.args.self.now in
    let m = c.args.machine.now in
    let new = c.turn_to_one.new.machine in
    let h = subst (λ (b : Bool). TurnsToOne (Ok b) v c.args.pair m new) c.in-Ok-true.field-0-test c.in-Ok-true.ensures in (
      h.0,
      record {
        meets = h.1;
        undo = turn-undone v c.args.pair h.0 (record { turned = true; streams = c.streams-before.result }) m new c.requires.first.visit
            c.requires.two refl c.streams-before.ensures h.2;
        last = ((h.2).0).1;
        may = (h.2).1;
      },
    )
