use Rattle.gw_batch.specs.Told.{told_text, told_refused}
use Rattle.gw_batch.proofs.Windows.{first_told, first_stopped}
use Rattle.gw_batch.proofs.window.do_without.Goals as goal

pub returns-clause-advances : goal.returns-clause-advances
returns-clause-advances g c =
    let told = c.told_without.result in
    let after = c.tell.ensures in
    first_told c.tell.result c.args.telling.now c.tell.new.self c.in-Some.first c.args.waiting.now.items c.pop_front.new.self.items
    c.args.writer.now.held c.tell.new.writer.held (told_text told) (told_refused told)
    c.in-Some.ensures.items c.told_without.ensures after.number after.refused after.bytes

pub returns-clause-stops : goal.returns-clause-stops
returns-clause-stops g c =
    let told = c.told_without.result in
    first_stopped c.tell.result c.args.telling.now c.in-Some.first c.args.waiting.now.items c.pop_front.new.self.items
    c.args.writer.now.held c.tell.new.writer.held (told_text told) (told_refused told)
    c.in-Some.ensures.items c.told_without.ensures c.tell.ensures.bytes
