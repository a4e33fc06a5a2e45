-- What the page may be asked of a model.
use Rattle.std.specs.Prelude.{Option, None, Some, is_some, Bool}
use Rattle.gw_command_line.specs.Options.{Choices}
use Rattle.gw_command_line.specs.Words.{Act, Ask, Charts, Code, Help, Version, Studies, Compares, Rows, Sums, Object, Shares}

-- the same options with one worker
abbrev pub by_one_worker : Choices → Choices
by_one_worker o = record o { workers = Some 1 }

-- what the page makes of a command: those that make many runs do so by one worker; it offers no other than these
abbrev pub offered_act : Act → Option Act
offered_act (Ask question) = Some (Ask question)
offered_act (Charts span name) = Some (Charts span name)
offered_act (Code code) = Some (Code code)
offered_act (Studies d) = Some (Studies (record d { options = by_one_worker d.options }))
offered_act (Rows d) = Some (Rows (record d { options = by_one_worker d.options }))
offered_act (Compares d) = None
offered_act (Sums summing) = None
offered_act (Object d) = None
offered_act (Shares shard) = None
offered_act Help = None
offered_act Version = None

-- whether the page offers a command
abbrev pub is_offered : Act → Bool
is_offered act = is_some (offered_act act)
