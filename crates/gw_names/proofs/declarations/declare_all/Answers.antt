use Rattle.gw_names.specs.Known.{key, is_same, entity_of}
use Rattle.gw_names.specs.Places.{declared_entity}
use Rattle.gw_names.proofs.Declaring.{places_step}
use Rattle.gw_names.proofs.declarations.declare_all.Goals as goal

pub loop-i-preserved : goal.loop-i-preserved
loop-i-preserved c = λ kind name. places_step declared_entity (is_same (key kind name)) c.args.statements.now c.loop-i.i
    c.index-statements-i.result (entity_of c.loop-i.declarations kind name) (entity_of c.declare.new.declarations kind name) _
    c.loop-i-test.true c.index-statements-i.is (c.in_ok-declare.ensures kind name) (c.loop-i.invariant kind name)
