-- Rows of runs that follow one another.
use Rattle.std.proofs.Common.{arith, ◌∙◌, ◌++◌, sym, ap}
use Rattle.std.proofs.lemmas.List.{length-append}
use Rattle.std.proofs.lemmas.List.Elements.{All-append}
use Rattle.gw_figures.specs.Labels.{labels_of}
use Rattle.gw_study.proofs.Following.{following}
use Rattle.gw_rows.specs.Reading.{MayBeInRange}
use Rattle.gw_rows.specs.Rows.{rows_from}
use Rattle.gw_rows.proofs.Following.{rows_follow}
use Rattle.gw_shards.specs.Rows.{source}
use Rattle.gw_shards.specs.Laws.{ShardsJoin}

pub shards_join : ShardsJoin
shards_join common point first middle end rows more a b =
    let labels = labels_of point.spec.parts in
    let origin = source common point in
    let longer = length-append a.runs b.runs in
    let joined = rows_follow labels origin first a.runs b.runs in
    let there = ap (λ n. rows_from labels origin first a.runs ++ rows_from labels origin n b.runs) a.number in
    record {
      runs = a.runs ++ b.runs;
      number = omega (arith, longer, a.number, b.number);
      range = All-append (MayBeInRange labels) a.runs b.runs a.range b.range;
      may = a.may;
      lone = following point.spec common.from first middle a.runs b.runs a.lone a.number b.lone;
      text_is = rw (a.text_is, b.text_is) (sym (joined ∙ there));
    }
