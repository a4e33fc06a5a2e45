use Rattle.std.proofs.Common.{rules, ◌≡◌}
use Rattle.std.specs.Prelude.{option_copied}
use Rattle.gw_rules.specs.Kinds.{block_at}
use Rattle.gw_scan.proofs.Visits.{next_lent, next_is, meets_next}
use Rattle.gw_scan.proofs.Trying.{tells_of_next}
use Rattle.gw_scan.proofs.visit.Visit.is_refused.Goals as goal

pub unwrap-block-requires : goal.unwrap-block-requires
unwrap-block-requires c = next_lent c.args.self.now c.args.machine.now c.requires c.block_of.result (search rules)

pub is_refused_by-requires : goal.is_refused_by-requires
is_refused_by-requires c =
    let is : option_copied c.block_of.result ≡ block_at c.args.self.now.verified.now.blocks c.args.self.now.transaction.next = search rules in
    meets_next c.args.self.now c.args.machine.now c.requires c.unwrap-block.result.now
    (next_is c.args.self.now c.args.machine.now c.requires c.block_of.result c.unwrap-block.result is c.unwrap-block.ensures)

pub returns-clause-answer : goal.returns-clause-answer
returns-clause-answer c =
    let is : option_copied c.block_of.result ≡ block_at c.args.self.now.verified.now.blocks c.args.self.now.transaction.next = search rules in
    let there = next_is c.args.self.now c.args.machine.now c.requires c.block_of.result c.unwrap-block.result is c.unwrap-block.ensures in
    tells_of_next c.is_refused_by.result c.args.self.now c.unwrap-block.result.now c.args.machine.now c.is_refused_by.new.machine there
    c.is_refused_by.ensures.answer
