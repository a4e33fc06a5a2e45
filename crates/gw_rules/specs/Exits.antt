-- Exits: where a transaction goes on to from each block.
use Rattle.std.specs.Prelude.{ℕ, ◌+◌, pos, List, [], ◌∷◌, ◌++◌, map, option_to_list, Option, Some, None, Bool, true, false, ◌&&◌, int_le, int_lt}
use Rattle.gw_object.specs.declared.blocks.Operand.{Operand}
use Rattle.gw_object.specs.declared.blocks.Operand.TheVariants.{Constant}
use Rattle.gw_object.specs.declared.blocks.Block.{Block}
use Rattle.gw_object.specs.declared.blocks.Block.TheVariants as blocks
use Rattle.gw_rules.specs.declared.ways.Way.{Way}
use Rattle.gw_rules.specs.declared.ways.Way.TheVariants.{Falls, Goes}
use Rattle.gw_rules.specs.declared.ways.Who.TheVariants.{Itself, Copies}
use Rattle.gw_rules.specs.declared.ways.Exit.{Exit}

-- the number of the block to which a way leads from the block of number b
abbrev pub leads_to : ℕ → Way → ℕ
leads_to b Falls = b + 1
leads_to b (Goes target) = target

-- an exit at once of who entered: no time passes on it
abbrev pub at_once : Way → Exit
at_once way = record { way = way; passes_time = false; who = Itself }

-- an exit at once of so many copies of who entered
abbrev pub for_copies : ℕ → Way → Exit
for_copies copies way = record { way = way; passes_time = false; who = Copies copies }

-- whether the least time that may be drawn is known to be 1 or more, with this mean and half the range: both are
-- constants, half the range is 0 or more, and the mean is above it
abbrev pub takes_time : Operand → Operand → Bool
takes_time (Constant mean) (Constant half) = int_le (pos 0) half && int_lt half mean
takes_time mean half = false

-- to the block of this number; without one to the next
abbrev pub goes_or_falls : Option ℕ → Way
goes_or_falls None = Falls
goes_or_falls (Some target) = Goes target

-- the exits of a block that tests something: to the next block, and to the one of this number where one is given; both at once
abbrev pub falls_or_goes : Option ℕ → List Exit
falls_or_goes None = at_once Falls ∷ []
falls_or_goes (Some target) = at_once Falls ∷ at_once (Goes target) ∷ []

-- the exits of a block, in order; most blocks fall to the next one at once. A TRANSFER in parameter mode has those of
-- the returns that its parameter may hold, and a LINK leads to no block
abbrev pub exits : Block → List Exit
exits (blocks.Terminate by) = []
exits (blocks.Advance time) = record { way = Falls; passes_time = takes_time time.mean time.half; who = Itself } ∷ []
exits (blocks.Test t) = falls_or_goes t.otherwise
exits (blocks.Gate g) = falls_or_goes g.otherwise
exits (blocks.Transfer target) = at_once (Goes target) ∷ []
exits (blocks.TransferByFraction f) = at_once (goes_or_falls f.otherwise) ∷ at_once (Goes f.target) ∷ []
exits (blocks.TransferBoth t) = at_once (goes_or_falls t.first) ∷ at_once (Goes t.second) ∷ []
exits (blocks.TransferToSubroutine c) = at_once (Goes c.target) ∷ []
exits (blocks.TransferByParameter q) = []
exits (blocks.Loop l) = at_once Falls ∷ at_once (Goes l.target) ∷ []
exits (blocks.Link l) = []
exits (blocks.Split s) = at_once Falls ∷ for_copies s.copies (goes_or_falls s.target) ∷ []
exits block = at_once Falls ∷ []

-- SUBROUTINES

-- whether a block calls a subroutine
abbrev pub is_call : Block → Bool
is_call (blocks.TransferToSubroutine c) = true
is_call block = false

-- the way besides its exits on which a block sends somebody, if there is one: once a subroutine that it calls comes back, or whom it takes from a user chain
abbrev pub other_way : Block → Option Way
other_way (blocks.TransferToSubroutine c) = Some Falls
other_way (blocks.Unlink u) = Some (Goes u.target)
other_way block = None

-- the ways on from a block: those of its exits, and the other one
abbrev pub ways : Block → List Way
ways block = map (λ (exit : Exit). exit.way) (exits block) ++ option_to_list (other_way block)

-- the exit to the block after the one of number b, which called the subroutine that ends here
abbrev pub returns_to : ℕ → Exit
returns_to b = at_once (Goes (b + 1))

-- the exits of a block whose parameter, if it is a TRANSFER in parameter mode, may hold the return to one of these blocks
abbrev pub exits_with : List ℕ → Block → List Exit
exits_with bs (blocks.TransferByParameter q) = map returns_to bs
exits_with bs block = exits block
