-- Parameters suffice for what is evaluated, in a checked object that has a spelling.
use Rattle.std.proofs.Common.{◌≡◌, ℕ, List, [], ◌∷◌, Option, Some, None, refl}
use Rattle.std.specs.Prelude.{All}
use Rattle.std.proofs.lemmas.List.Elements.{All-nil, All-head, All-tail}
use Rattle.gw_object.specs.declared.blocks.Operand.{Operand}
use Rattle.gw_object.specs.declared.blocks.Block.{Block}
use Rattle.gw_object.specs.declared.blocks.Block.TheVariants as blocks
use Rattle.gw_object.specs.BlockGrammar.{OperandFits}
use Rattle.gw_object.specs.declared.parts.Parts.{Parts}
use Rattle.gw_rules.specs.Environment.{Environment}
use Rattle.gw_rules.specs.Sources.{evaluation_operands}
use Rattle.gw_step.specs.Operands.{environment_at, MayEvaluate}
use Rattle.gw_step.specs.Safety.{ParametersSuffice, IntervalsAskForNothing}
use Rattle.gw_step.proofs.Operands.{block_spelled, evaluated_spelled}
use Rattle.gw_step.specs.Turning.{choice_at}
use Rattle.gw_step.proofs.Paying.{one_plain}
use Rattle.gw_step.proofs.Drawn.{IsRead, AreRead}
use Rattle.gw_step.proofs.Asked.{are_read_there, arrival_read, acts_at}
use Rattle.gw_step.proofs.Safe.{kinds_of, flow_of, sound_of}

-- what names what is there, and has what it asks for, may be evaluated where it has a spelling
may_be_evaluated : (p : Parts) (env : Environment) (os : List Operand) → AreRead p env os → All OperandFits os → All (MayEvaluate p env) os
may_be_evaluated p env os read fits i d within = record { holds = (read i d within).holds; fits = fits i d within; set = (read i d within).set }

-- a TRANSFER BOTH evaluates nothing
nothing_read : (p : Parts) (env : Environment) (b : ℕ) (block : Block) (pair : ℕ × ℕ) → choice_at b block ≡ Some pair
    → AreRead p env (evaluation_operands p.entities block)
nothing_read p env b (blocks.TransferBoth two) pair is = All-nil (IsRead p env)
nothing_read p env b block pair is = absurd cc

pub parameters_suffice : ParametersSuffice
parameters_suffice p s checked spelled ty n t block active found there =
    let sound = sound_of p checked in
    may_be_evaluated p _ _ (by_choice (choice_at t.next block) refl)
    (evaluated_spelled p.entities block spelled.limits.each_entity (block_spelled p.blocks t.next block there spelled.limits.each_block))
  where
    by_choice : (o : Option (ℕ × ℕ)) → choice_at t.next block ≡ o → AreRead p (environment_at block n t s) (evaluation_operands p.entities block)
    by_choice None is =
        let sound = sound_of p checked in
        let acts = acts_at p sound.entities (kinds_of p checked) (flow_of p checked) s ty n t block active found there
        (λ weighted. one_plain p t block there is) in
        are_read_there p sound.entities s n t block acts.0 acts.1
    by_choice (Some pair) is = nothing_read p (environment_at block n t s) t.next block pair is

pub intervals_ask_for_nothing : IntervalsAskForNothing
intervals_ask_for_nothing p b g env checked spelled is =
    let sound = sound_of p checked in
    let read = arrival_read p sound.entities (kinds_of p checked) (flow_of p checked) b g is env in
    let fits = evaluated_spelled p.entities (blocks.Generate g) spelled.limits.each_entity
    (block_spelled p.blocks b (blocks.Generate g) is spelled.limits.each_block) in
    let may = may_be_evaluated p env (g.interval.mean ∷ g.interval.half ∷ []) read fits in
    record {
      mean = All-head (MayEvaluate p env) g.interval.mean (g.interval.half ∷ []) may;
      half =
          All-head (MayEvaluate p env) g.interval.half [] (All-tail (MayEvaluate p env) g.interval.mean (g.interval.half ∷ []) may);
    }
