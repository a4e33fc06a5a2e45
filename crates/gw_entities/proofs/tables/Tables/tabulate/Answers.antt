use Rattle.std.proofs.Common.{◌<◌, ◌∙◌, length, w64, sym, ap}
use Rattle.std.proofs.lemmas.Int.{to_z-of_z}
use Rattle.gw_num.proofs.Tables.{at-get_or_any}
use Rattle.gw_entities.specs.Table.{no_table, table_at, left_by}
use Rattle.gw_entities.specs.Tabulation.{tabulation_of}
use Rattle.gw_entities.proofs.Rules.{at-set}
use Rattle.gw_entities.proofs.tables.Tables.tabulate.Goals as goal

pub returns-clause-value : goal.returns-clause-value
returns-clause-value c =
    let tables = c.self.inside.tables.items in
    let within : c.args.t < length tables = rw c.self.view_is c.requires.there in
    let entered = rw (to_z-of_z w64 c.args.value c.ranges.value) at c.enter.ensures.value in
    ap (left_by c.enter.result) (at-set no_table tables c.args.t c.enter.new.self within)
    ∙ entered
    ∙ ap (tabulation_of c.args.value)
    (c.index_mut.ensures.value ∙ sym (at-get_or_any no_table c.index_mut.result.now tables c.args.t within) ∙ ap (table_at c.args.t) c.self.view_is)
