-- Units join a queue.
use Rattle.std.proofs.Common.{◌≡◌, ℕ, ap, ◌∙◌}
use Rattle.gw_num.specs.Table.{at, put}
use Rattle.gw_entities.specs.Contents.{empty}
use Rattle.gw_entities.specs.Queue.{with_arrivals}
use Rattle.gw_entities.specs.declared.contents.Contents.{Contents}
use Rattle.gw_entities.specs.Numbered.{ByNumber, OthersStay}
use Rattle.gw_entities.specs.Queue.{queue_at}

pub joined-table : (old new : ByNumber Contents) (e n : ℕ) → queue_at e new ≡ with_arrivals n (queue_at e old) → OthersStay empty e old new
    → new.values ≡ put empty old.values e (with_arrivals n (at empty old.values e))
joined-table old new e n value others = ap (λ (t : ByNumber Contents). t.values) others ∙ ap (put empty old.values e) value
