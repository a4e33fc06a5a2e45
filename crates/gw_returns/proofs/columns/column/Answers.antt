use Rattle.std.proofs.Common.{◌≡◌, ◌≤◌, map, length, ap, ◌∙◌, arith}
use Rattle.std.specs.Int.{bit_at}
use Rattle.std.proofs.lemmas.List.{take_all, length-map}
use Rattle.gw_object.specs.declared.parts.ReturnRow.{ReturnRow}
use Rattle.gw_object.specs.Returns.{row_blocks}
use Rattle.gw_returns.specs.Words.{word_at, common}
use Rattle.gw_returns.proofs.Telling.{word_tells, row_word}
use Rattle.gw_returns.proofs.columns.column.Goals as goal

pub returns : goal.returns
returns c =
    let rows = c.args.rows.now in
    let holders = c.in_ok-holders.holders.items in
    let of_row = λ (row : ReturnRow). common holders row.blocks in
    let past : length rows ≤ c.loop-row.row-index = omega (arith, c.loop-row-test.false) in
    let words : c.loop-row.words.items ≡ map of_row rows = c.loop-row.invariant ∙ ap (map of_row) (take_all c.loop-row.row-index rows past) in
    record {
      full = ap length words ∙ length-map rows of_row;
      each = λ r place within small.
          ap (λ ws. bit_at (word_at ws r) place) words
          ∙ ap (λ w. bit_at w place) (row_word holders rows r within)
          ∙ word_tells rows c.args.first holders (row_blocks rows r) c.in_ok-holders.ensures.words place small;
    }
