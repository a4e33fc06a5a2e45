use Rattle.gw_batch.proofs.Stages.{after_line}
use Rattle.gw_batch.proofs.telling.write_part.Goals as goal

pub returns-clause-bytes : goal.returns-clause-bytes
returns-clause-bytes g c = after_line c.write_text-2.result _ _ _ c.args.line.now c.args.told.now c.in_ok-write_text.ensures.bytes c.write_text-2.ensures.bytes
