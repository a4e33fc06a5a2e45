use Rattle.std.proofs.Common.{rules, ◌≡◌, ◌∙◌, sym, ap, get_or, ℕ, List}
use Rattle.gw_num.specs.Table.{at}
use Rattle.gw_num.proofs.Tables.{at-get_or}
use Rattle.gw_transactions.proofs.block_counts.BlockCounts.get.Goals as goal

found : (c : goal.After-unwrap_or) → c.unwrap_or.result ≡ get_or c.self.inside.counts.items c.args.block 0
found c = search rules

pub returns : goal.returns
returns c = found c ∙ sym (at-get_or 0 c.self.inside.counts.items c.args.block) ∙ ap (λ (xs : List ℕ). at 0 xs c.args.block) c.self.view_is
