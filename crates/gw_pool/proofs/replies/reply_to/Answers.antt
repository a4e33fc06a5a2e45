use Rattle.gw_pool.proofs.Answered.{all_collected}
use Rattle.gw_pool.proofs.replies.reply_to.Goals as goal

pub returns : goal.returns
returns g c = all_collected c.args.pass.now.job _ c.collect.result c.collect.ensures.reply
