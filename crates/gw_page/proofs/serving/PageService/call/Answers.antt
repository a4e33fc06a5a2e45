use Rattle.gw_page.proofs.Conversations.{responded}
use Rattle.gw_page.proofs.serving.PageService.call.Goals as goal

pub returns-in-Ok-clause-ok : goal.returns-in-Ok-clause-ok
returns-in-Ok-clause-ok g c =
    responded c.args.self.now c.args.request.now c.in-Ok.reply c.send.new.response c.send.result c.in-Ok.ensures c.send.ensures
