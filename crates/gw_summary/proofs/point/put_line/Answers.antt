use Rattle.std.proofs.Common.{arith}
use Rattle.gw_summary.proofs.Keeping.{line_set}
use Rattle.gw_summary.proofs.point.put_line.Goals as goal

pub returns-clause-more : goal.returns-clause-more
returns-clause-more c = line_set c.args.lines.now.items c.args.place c.args.line (omega (arith, c.requires.place, c.args.lines.now.ok.0)) c.requires.free
