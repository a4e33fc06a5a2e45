use Rattle.std.proofs.Common.{rules, ◌≡◌, sym, subst}
use Rattle.gw_object.specs.Grammar.{HasSpelling}
use Rattle.gw_settle.specs.Settles.{with_written}
use Rattle.gw_settle.proofs.Answered.{back}
use Rattle.gw_settle.proofs.settling.with_table.Goals as goal

pub restored-requires : goal.restored-requires
restored-requires c =
    let same : c.in-Err.parts ≡ with_written c.args.object c.args.table = search rules in
    let returns : c.exchange.new.table.returns ≡ c.args.object.returns = search rules in
    let states : c.exchange.new.table.states ≡ c.args.object.states = search rules in
    let chain_states : c.exchange.new.table.chain_states ≡ c.args.object.chain_states = search rules in
    subst HasSpelling (sym (back c.args.object c.in-Err.parts c.args.table.returns c.exchange.new.table.returns c.args.table.states
    c.exchange.new.table.states c.args.table.chain_states c.exchange.new.table.chain_states same returns states chain_states)) c.requires
