use Rattle.std.proofs.Common.{rules, ◌≡◌, ◌∙◌, sym, get_or}
use Rattle.gw_num.proofs.Tables.{at-get_or}
use Rattle.gw_machine.proofs.machine.entry_or_none.Goals as goal

found : (c : goal.After-unwrap_or) → c.unwrap_or.result ≡ get_or c.args.counts.now c.args.place 0
found c = search rules

pub returns : goal.returns
returns c = found c ∙ sym (at-get_or 0 c.args.counts.now c.args.place)
