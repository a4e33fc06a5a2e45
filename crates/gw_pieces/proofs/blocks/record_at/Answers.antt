use Rattle.std.proofs.Common.{◌∙◌, ap}
use Rattle.gw_object_records.specs.Records.{record_of}
use Rattle.gw_names.specs.Numbers.{numbers_of}
use Rattle.gw_pieces.proofs.blocks.record_at.Goals as goal

pub returns : goal.returns
returns c = c.record_of.ensures ∙ ap (λ numbers. record_of (numbers_of c.args.plan.now.names) numbers c.args.statement.now) c.numbers_for-first.ensures
