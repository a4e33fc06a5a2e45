use Rattle.std.proofs.Common.{rules, arith}
use Rattle.gw_settle.specs.declared.table.Change.TheVariants.{Same, Less, More}
use Rattle.gw_settle.specs.Drafts.{DraftAdvances}
use Rattle.gw_settle.proofs.Reached.{final_last}
use Rattle.gw_settle.proofs.Leaping.{reached_later, advance_reached, advance_smaller}
use Rattle.gw_settle.proofs.rounds.settle_rows.Goals as goal

pub returns-in-Same : goal.returns-in-Same
returns-in-Same c =
    let h : DraftAdvances c.args.parts.now c.less.draft c.advance.new.draft Same = search rules in
    final_last c.args.parts.now _ _ c.requires.well c.less.invariant.rows h.1 h.0

pub less-smaller : goal.less-smaller
less-smaller c =
    let h : DraftAdvances c.args.parts.now c.less.draft c.advance.new.draft Less = search rules in
    advance_smaller c.args.parts.now _ _ c.requires.well c.less.invariant.rows h

pub less-preserved : goal.less-preserved
less-preserved c =
    let h : DraftAdvances c.args.parts.now c.less.draft c.advance.new.draft Less = search rules in
    record {
      rows = advance_reached c.args.parts.now _ _ c.less.invariant.rows h;
      absent =
          omega (arith, h.1.absent, c.less.invariant.absent);
      noted = search rules;
    }

pub more-smaller : goal.more-smaller
more-smaller c =
    let h : DraftAdvances c.args.parts.now c.less.draft c.advance.new.draft More = search rules in
    omega (arith, h.1, c.less.invariant.absent)

pub more-preserved : goal.more-preserved
more-preserved c =
    let h : DraftAdvances c.args.parts.now c.less.draft c.advance.new.draft More = search rules in
    record { rows = reached_later c.args.parts.now _ _ c.less.invariant.rows h.0; noted = search rules }
