use Rattle.std.proofs.Common.{rules, ◌≡◌, ◌∙◌, sym, get_or}
use Rattle.gw_num.proofs.Tables.{at-get_or}
use Rattle.gw_plus.proofs.env.entry_at.Goals as goal

pub returns : goal.returns
returns g c =
    let found : c.unwrap_or.result ≡ get_or c.args.table.now c.args.block c.args.none = search rules in
    found ∙ sym (at-get_or c.args.none c.args.table.now c.args.block)
