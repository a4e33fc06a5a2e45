-- Tables of transactions.
use Rattle.std.specs.Prelude.{ℕ, List, Option, Some, None}
use Rattle.gw_num.specs.Table.{put}
use Rattle.gw_transactions.specs.declared.Transaction.{Transaction}
use Rattle.gw_transactions.specs.Transactions.{LiveTransaction, as_made}

-- the table with a transaction at this number, as it is made
abbrev pub put_made : ℕ → Transaction → List (Option LiveTransaction) → List (Option LiveTransaction)
put_made n transaction txs = put None txs n (Some (as_made transaction))
