use Rattle.std.proofs.Common.{rules, refl, subst}
use Rattle.gw_rules.specs.declared.edges.Target.TheVariants as targets
use Rattle.gw_settle.specs.Keeps.{MayEnter}
use Rattle.gw_settle.proofs.Drafting.{is_sent_at, block_sent, block_noted, chain_sent, chain_noted}
use Rattle.gw_settle.proofs.table.send.Goals as goal

pub returns-in_ok-change-in-Block-clause-sent : goal.returns-in_ok-change-in-Block-clause-sent
returns-in_ok-change-in-Block-clause-sent c =
    let enters : MayEnter c.args.parts.now (targets.Block c.in-Block.block) = subst (MayEnter c.args.parts.now) c.in-Block.is c.requires.enters in
    block_sent c.args.parts.now c.args.edge.now c.args.draft.now _ c.in_ok-change-in-Block.change c.in-Block.block c.in-Block.is enters
    (is_sent_at _ _ _ _ _ (search rules) (search rules) (search rules))

pub returns-in_ok-change-in-Block-clause-noted : goal.returns-in_ok-change-in-Block-clause-noted
returns-in_ok-change-in-Block-clause-noted c =
    let enters : MayEnter c.args.parts.now (targets.Block c.in-Block.block) = subst (MayEnter c.args.parts.now) c.in-Block.is c.requires.enters in
    block_noted c.args.parts.now c.args.edge.now c.args.draft.now _ c.in_ok-change-in-Block.change c.in-Block.block enters c.requires.whole
    (is_sent_at _ _ _ _ _ (search rules) (search rules) (search rules)) (search rules) (search rules) refl refl

pub returns-in_ok-change-in-Chain-clause-sent : goal.returns-in_ok-change-in-Chain-clause-sent
returns-in_ok-change-in-Chain-clause-sent c =
    chain_sent c.args.parts.now c.args.edge.now c.args.draft.now _ c.in_ok-change-in-Chain.change c.in-Chain.chain c.in-Chain.is
    (search rules) (search rules) (search rules)

pub returns-in_ok-change-in-Chain-clause-noted : goal.returns-in_ok-change-in-Chain-clause-noted
returns-in_ok-change-in-Chain-clause-noted c =
    chain_noted c.args.parts.now c.args.edge.now c.args.draft.now _ c.in_ok-change-in-Chain.change c.in-Chain.chain c.in-Chain.is
    (search rules) (search rules) (search rules) c.requires.whole (search rules) (search rules) refl refl
