use Rattle.std.proofs.Common.{rules, ◌≡◌, Some, sym, ap, ◌∙◌, subst, w64}
use Rattle.std.proofs.lemmas.Int.{to_z-of_z}
use mir.Val.{SFits}
use Rattle.gw_object.specs.declared.blocks.Operand.{Operand}
use Rattle.gw_object.specs.declared.code.Instruction.TheVariants.{Value}
use Rattle.gw_rules.specs.Sources.{source_of, as_operand}
use Rattle.gw_rules.specs.Environment.{kept_value}
use Rattle.gw_rules.specs.Results.{value_by_operand}
use Rattle.gw_rules.specs.Meaning.{on, push_value}
use Rattle.gw_rules.proofs.PlusReading.{source_is_good}
use Rattle.gw_plus.specs.Activation.{frame_of, Did}
use Rattle.gw_plus.specs.Reading.{environment_of, MayReadKept}
use Rattle.gw_plus.proofs.Reading.{may_read_kept, kept_read}
use Rattle.gw_plus.proofs.activation.Activation.value.Goals as goal
use Rattle.gw_plus.proofs.activation.Activation.value.Goals.{After-source_of}

source_is : (c : After-source_of) → c.source_of.result ≡ source_of c.args.parts.now.entities (as_operand c.args.sna)
source_is c = rw (c.as_slice-entities.ensures, c.as_operand-operand.ensures) at c.source_of.ensures

pub kept_value-requires : goal.kept_value-requires
kept_value-requires c =
    let parts = c.args.parts.now in
    let operand = as_operand c.args.sna in
    let good = source_is_good parts c.requires.holds.0 c.args.sna c.requires.code.entities c.requires.holds.1 in
    let is = source_is (goal.at.kept_value-requires c).After-source_of in
    subst (MayReadKept c.args.env.now) (sym is)
    (may_read_kept parts c.args.env.now c.requires.environment (source_of parts.entities operand) (value_by_operand parts.entities operand)
    (on (frame_of c.args.self.now)) good c.requires.going (λ q same. c.in_default.not-Procedure q (is ∙ same)))

pub returns-in_default : goal.returns-in_default
returns-in_default c =
    let parts = c.args.parts.now in
    let env = environment_of c.args.env.now in
    let operand = as_operand c.args.sna in
    let next = on (frame_of c.args.self.now) in
    let value_fits : SFits w64 c.kept_value.result = search rules in
    let made_fits : SFits w64 c.operand_value.result = search rules in
    let kept = subst (λ (o : Operand). kept_value env o ≡ Some c.kept_value.result)
    (source_is (goal.at.returns-in_default c).After-source_of) c.kept_value.ensures in
    let value : c.operand_value.result ≡ value_by_operand parts.entities operand c.kept_value.result =
    rw (c.as_slice-entities.ensures, c.as_operand-operand.ensures, to_z-of_z) at c.operand_value.ensures in
    let reads = kept_read env (source_of parts.entities operand) (value_by_operand parts.entities operand) next c.kept_value.result kept in
    subst (λ x. Did parts (Value c.args.sna) x c.push_and_go.result (frame_of c.push_and_go.new.self)) (ap (λ v. push_value v next) value ∙ sym reads)
    (rw to_z-of_z at (c.push_and_go.ensures parts (Value c.args.sna)))
