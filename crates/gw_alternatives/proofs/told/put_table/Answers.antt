use Rattle.std.proofs.Common.{◌≡◌, ◌++◌, codes, List, ℕ, subst}
use Rattle.std.specs.Prelude.{OnOk}
use Rattle.gw_alternatives.proofs.Telling.{table_of}
use Rattle.gw_alternatives.proofs.told.put_table.Goals as goal

pub returns : goal.returns
returns c =
    let old = c.args.out.now.items in
    let head = c.put_head.new.out.items in
    let new = c.put_ended.new.out.items in
    let ended = subst (λ (text : List ℕ). OnOk c.put_ended.result (new ≡ head ++ text ++ codes "\n")) c.deref.ensures.value c.put_ended.ensures in
    table_of c.put_ended.result c.args.name.now c.args.results.now c.args.request.now c.args.count old head new c.in_ok-text.text.items
    c.in_ok-put_head.ensures c.in_ok-text.ensures ended
