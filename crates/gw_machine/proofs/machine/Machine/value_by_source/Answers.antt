use Rattle.std.proofs.Common.{◌≡◌, ◌∙◌, subst, sym}
use Rattle.gw_object.specs.BlockGrammar.{OperandFits}
use Rattle.gw_object.specs.Grammar.{HasSpelling}
use Rattle.gw_rules.proofs.Sources.{source_holds}
use Rattle.gw_rules.specs.Sources.{source_of}
use Rattle.gw_rules.specs.KindsLaws.{OperandHolds}
use Rattle.gw_rules.proofs.PlusTheorems.{code_holds}
use Rattle.gw_rules.specs.Code.{asked_by_source}
use Rattle.gw_rules.specs.PlusLaws.{HasSet}
use Rattle.gw_rules.proofs.AllPass.{kinds_pass}
use Rattle.gw_machine.specs.View.{state_of}
use Rattle.gw_machine.specs.Evaluating.{environment_for}
use Rattle.gw_machine.proofs.Evaluating.{source_fits}
use Rattle.gw_machine.proofs.machine.Machine.value_by_source.Goals as goal
use Rattle.gw_machine.proofs.machine.Machine.value_by_source.Goals.{After-source_of-source}

parts_are : (c : After-source_of-source) → c.parts.result.now ≡ c.args.verified.now
parts_are c = c.parts.ensures.value ∙ c.object.ensures.value

source_is : (c : After-source_of-source) → c.source_of-source.result ≡ source_of c.args.verified.now.entities c.args.operand
source_is c = rw (c.as_slice-entities.ensures, parts_are c) at c.source_of-source.ensures

pub source_value-requires : goal.source_value-requires
source_value-requires c =
    let here = (goal.at.source_value-requires c).After-source_of-source in
    let p = c.args.verified.now in
    let spelled : HasSpelling p = rw c.object.ensures.value at c.parts.ensures.limits in
    let checked = c.object.ensures.checked in
    let is = sym (source_is here) in
    record {
      spelled = spelled;
      checked = checked;
      own = c.requires.own;
      subject = c.requires.subject;
      bound = c.draws_below.ensures.some;
      holds = subst (OperandHolds p) is (source_holds p (code_holds p spelled (kinds_pass p checked)).entities c.args.operand c.requires.operand.holds);
      fits = subst OperandFits is (source_fits p.entities spelled.limits.each_entity c.args.operand c.requires.operand.fits);
      set = subst (λ o. HasSet (environment_for c.args.subject (state_of c.args.self.now)) (asked_by_source p o)) is c.requires.operand.set;
    }
