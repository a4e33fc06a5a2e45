use Rattle.std.proofs.Common.{◌∙◌, ap, sym, Option, ℕ}
use Rattle.std.specs.Prelude.{nat_lt}
use Rattle.gw_num.specs.Table.{at}
use Rattle.gw_num.proofs.Tables.{at-get_or_any}
use Rattle.gw_step.specs.Blocks.{is_owed}
use Rattle.gw_machine.specs.Shown.{configuration_of}
use Rattle.gw_machine.proofs.machine.Machine.owes.Goals as goal

pub returns-in-Some : goal.returns-in-Some
returns-in-Some c =
    rw (← c.self.view_is) (
    let scheduled = (configuration_of c.self.inside).scheduled in
    ap (λ (n : ℕ). nat_lt n c.in-Some.limit)
    (c.index.ensures ∙ sym (at-get_or_any 0 c.index.result.now scheduled c.args.block (rw (← c.self.view_is) at c.requires)))
    ∙ ap (λ (o : Option ℕ). is_owed o (at 0 scheduled c.args.block)) (sym c.in-Some.is))
