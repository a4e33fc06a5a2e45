-- Transactions with two next blocks: who has entered a TRANSFER BOTH goes on to the first that doesn't refuse it.
use Rattle.std.specs.Prelude.{ℕ, Option, Some, None, ◌==◌, if◌then◌else◌}
use Rattle.gw_object.specs.declared.blocks.Block.{Block}
use Rattle.gw_object.specs.declared.blocks.Block.TheVariants as blocks
use Rattle.gw_object.specs.declared.parts.Parts.{Parts}
use Rattle.gw_rules.specs.Exits.{leads_to, goes_or_falls}
use Rattle.gw_rules.specs.Kinds.{block_at}
use Rattle.gw_transactions.specs.declared.Transaction.{Transaction}
use Rattle.gw_transactions.specs.Transactions.{put_attributes}
use Rattle.gw_step.specs.State.{State}

-- the two blocks that a block, the one of number b, gives who enters it, if it is a TRANSFER BOTH
abbrev pub choice_at : ℕ → Block → Option (ℕ × ℕ)
choice_at b (blocks.TransferBoth t) = Some (leads_to b (goes_or_falls t.first), t.second)
choice_at b block = None

-- the same of a block that may not be there
abbrev pub choice_of : ℕ → Option Block → Option (ℕ × ℕ)
choice_of b None = None
choice_of b (Some block) = choice_at b block

-- the two next blocks of a transaction, if it has two
abbrev pub two_next : Parts → Transaction → Option (ℕ × ℕ)
two_next p t = if t.current == t.next then choice_of t.next (block_at p.blocks t.next) else None

-- a transaction with this one next block alone
abbrev pub towards : ℕ → Transaction → Transaction
towards b t = record t { next = b }

-- the transaction n, which is t, turns to one block
abbrev pub turn_to : ℕ → Transaction → ℕ → State → State
turn_to n t b s = record s { transactions = put_attributes n (towards b t) s.transactions }
