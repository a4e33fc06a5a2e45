use Rattle.std.proofs.Common.{◌≡◌, ◌∙◌, List, Bool, true, false, None, refl, sym, subst, ap}
use Rattle.gw_object.specs.declared.blocks.Block.{Block}
use Rattle.gw_rules.specs.Kinds.{block_at}
use Rattle.gw_machine.specs.View.{state_of}
use Rattle.gw_scan.proofs.Origins.{decoded_there}
use Rattle.gw_scan.proofs.Visits.{meets_next, makes_same}
use Rattle.gw_scan.proofs.Trying.{meets-is}
use Rattle.gw_scan.specs.Origins.{origin}
use Rattle.gw_step.specs.Blocks.{is_terminate}
use Rattle.gw_step.proofs.Counting.{end_stays}
use Rattle.gw_scan.specs.Visiting.{ActsOnOk}
use Rattle.gw_scan.specs.declared.visit.Visit.{Visit}
use Rattle.gw_scan.proofs.visit.Visit.meet.Goals as goal

pub decoded_at-block-requires : goal.decoded_at-block-requires
decoded_at-block-requires c = decoded_there c.args.self.now c.args.machine.now c.args.decoded.now c.requires.may c.requires.table

pub act-requires : goal.act-requires
act-requires c =
    let v = c.args.self.now in
    let there = ap (λ (bs : List Block). block_at bs v.transaction.next) (sym c.requires.table) ∙ c.decoded_at-block.ensures in
    meets_next v c.args.machine.now c.requires.may (origin c.decoded_at-block.result.now) there

pub returns-clause-made : goal.returns-clause-made
returns-clause-made c =
    let v = c.args.self.now in
    let m = c.args.machine.now in
    let block = origin c.decoded_at-block.result.now in
    let there = ap (λ (bs : List Block). block_at bs v.transaction.next) (sym c.requires.table) ∙ c.decoded_at-block.ensures in
    makes_same c.act.result _ _ m c.act.new.machine (sym (meets-is v.verified.now v.tx.number v.transaction block (state_of m) there)) c.act.ensures.made

-- a TERMINATE tells whether it has brought a named end, and no other block brings one
pub returns-clause-on : goal.returns-clause-on
returns-clause-on c runs told = by_test (is_terminate (origin c.decoded_at-block.result.now)) refl
  where
    v : Visit
    v = c.args.self.now

    block : Block
    block = origin c.decoded_at-block.result.now

    by_test : (b : Bool) → is_terminate block ≡ b → c.act.new.machine.ended ≡ None
    by_test true is = c.act.ensures.on is told
    by_test false is =
        let made = subst (λ r. ActsOnOk r v block c.args.machine.now c.act.new.machine) told c.act.ensures.made in
        end_stays v.verified.now v.tx.number v.transaction block (state_of c.args.machine.now) (state_of c.act.new.machine) is made.0 ∙ runs
