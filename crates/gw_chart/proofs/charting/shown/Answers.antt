-- What is shown in a form is what that form shows.
use Rattle.std.proofs.Common.{◌≡◌, IfOk, subst, sym}
use Rattle.gw_answers.specs.Status.{end_status}
use Rattle.gw_chart.specs.declared.charting.Form.{Form}
use Rattle.gw_chart.specs.Charts.{Shows}
use Rattle.gw_chart.proofs.charting.shown.Goals as goal

pub returns-in-Picture : goal.returns-in-Picture
returns-in-Picture c =
    subst (λ (f : Form). IfOk c.pictured.result (λ a. (a.status ≡ end_status) × Shows f c.args.window c.args.sim.now.job a.text.items))
    (sym c.in-Picture.is) c.pictured.ensures

pub returns-in-Sheet : goal.returns-in-Sheet
returns-in-Sheet c =
    subst (λ (f : Form). IfOk c.tabled.result (λ a. (a.status ≡ end_status) × Shows f c.args.window c.args.sim.now.job a.text.items))
    (sym c.in-Sheet.is) c.tabled.ensures
