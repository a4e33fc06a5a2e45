use Rattle.std.proofs.Common.{rules, w64}
use Rattle.std.proofs.lemmas.Int.{to_z-of_z}
use mir.Val.{SFits}
use Rattle.gw_object.specs.declared.code.Instruction.TheVariants.{Push, Get, Set, Binary, Unary, Pop, JumpIfZero}
use Rattle.gw_rules.specs.Meaning.{act}
use Rattle.gw_plus.proofs.activation.Activation.step.Goals as goal

pub returns-in-Push : goal.returns-in-Push
unfolding act
returns-in-Push c =
    let fits : SFits w64 c.in-Push.value = search rules in
    rw c.in-Push.is (rw to_z-of_z at (c.push_and_go.ensures c.args.parts.now (Push c.in-Push.value)))

pub returns-in-Get : goal.returns-in-Get
unfolding act
returns-in-Get c = rw c.in-Get.is (c.get.ensures c.args.parts.now (Get c.in-Get.local))

pub returns-in-Set : goal.returns-in-Set
unfolding act
returns-in-Set c = rw c.in-Set.is (c.set.ensures c.args.parts.now (Set c.in-Set.local))

pub returns-in-Value : goal.returns-in-Value
unfolding act
returns-in-Value c = rw c.in-Value.is c.value.ensures

pub returns-in-Binary : goal.returns-in-Binary
unfolding act
returns-in-Binary c = rw c.in-Binary.is (c.binary.ensures c.args.parts.now (Binary c.in-Binary.operator))

pub returns-in-Unary : goal.returns-in-Unary
unfolding act
returns-in-Unary c = rw c.in-Unary.is (c.unary.ensures c.args.parts.now (Unary c.in-Unary.operator))

pub returns-in-Pop : goal.returns-in-Pop
unfolding act
returns-in-Pop c = rw c.in-Pop.is (c.pop.ensures c.args.parts.now Pop)

pub returns-in-JumpIfZero : goal.returns-in-JumpIfZero
unfolding act
returns-in-JumpIfZero c = rw c.in-JumpIfZero.is (c.jump_if_zero.ensures c.args.parts.now (JumpIfZero c.in-JumpIfZero.target))
