-- The entries of a batch that wait to be told.
use Rattle.gw_batch.specs.Batch.{Entry, Object, Broken}
use Rattle.gw_batch.specs.declared.waiting.Waiting.{Waiting}
use Rattle.gw_batch.specs.declared.waiting.Waiting.TheVariants as kinds

-- the entry that waits
abbrev pub waiting_entry : Waiting → Entry
waiting_entry (kinds.Object bytes) = Object bytes.items
waiting_entry (kinds.Broken line) = Broken line
