use Rattle.std.proofs.Common.{◌≡◌, ◌∙◌, [], true, false, ap, subst, sym}
use Rattle.gw_alternatives.specs.Alternatives.{ArePoints}
use Rattle.gw_command_line.specs.Words.{study_view}
use Rattle.gw_study.specs.declared.request.StudyRequest.{StudyRequest}
use Rattle.gw_planner.specs.Answers.{is_plain}
use Rattle.gw_planner.proofs.Alone.{of_points, of_study}
use Rattle.gw_planner.proofs.Working.{plain_words}
use Rattle.gw_planner.proofs.studies.study_of.Goals as goal

pub returns-then-is_plain : goal.returns-then-is_plain
returns-then-is_plain g c =
    let d = study_view c.args.asked.now in
    let plain : is_plain d.options ≡ true = sym c.is_plain.ensures ∙ c.if-is_plain.true in
    let are : ArePoints c.args.model.now [] d.count c.args.points.now =
    subst (λ ws. ArePoints c.args.model.now ws d.count c.args.points.now) (plain_words d.options plain) c.requires.points in
    let asked = sym (ap (λ (q : StudyRequest). q.count) c.request_of-request.ensures) in
    of_study d c.args.model.now c.request_of-request.result c.lone_study.result c.request_of-request.ensures plain
    (c.lone_study.ensures c.args.model.now (subst (λ n. ArePoints c.args.model.now [] n c.args.points.now) asked are))

pub returns : goal.returns
returns g c =
    let d = study_view c.args.asked.now in
    let plain : is_plain d.options ≡ false = sym c.is_plain.ensures ∙ c.if-is_plain.false in
    of_points d c.args.model.now c.form_of-form.result c.args.points.now c.request_of-request.result c.study_points.result plain
    c.form_of-form.ensures c.request_of-request.ensures c.requires.points c.study_points.ensures
