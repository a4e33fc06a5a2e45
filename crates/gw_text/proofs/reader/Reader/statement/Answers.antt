use Rattle.std.proofs.Common.{length, map}
use Rattle.gw_text.proofs.Words.{admits_function, admits_procedure, stays_on_line}
use Rattle.gw_text.proofs.reader.Reader.statement.Goals as goal

pub returns-in-Function-clause-admits : goal.returns-in-Function-clause-admits
returns-in-Function-clause-admits c =
    admits_function c.args.self.now c.function.new.self c.args.head.now.word c.in-Function.is c.function.ensures.blocks c.function.ensures.started
    c.requires.few c.function.result c.function.ensures.label

pub returns-in-Procedure-clause-admits : goal.returns-in-Procedure-clause-admits
returns-in-Procedure-clause-admits c =
    admits_procedure c.args.self.now c.procedure.new.self c.args.head.now.word c.in-Procedure.is c.procedure.ensures.blocks c.procedure.ensures.started
    c.requires.few c.procedure.result c.procedure.ensures.label

pub returns-in_default : goal.returns-in_default
returns-in_default c =
    let h = stays_on_line (map (λ l. l.now) c.args.lines.now) c.args.i (length c.args.lines.now) c.args.head.now.word c.args.self.now c.first.new.self
    c.first.result c.on_line.result c.requires.within c.requires.short c.on_line.ensures.last c.on_line.ensures.first c.first.ensures in
    record { lines = h.lines; single = h.single; short = h.short; admits = h.admits }
