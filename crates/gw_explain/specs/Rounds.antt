-- How a round on which no time passes is told.
use Rattle.std.specs.Prelude.{ℕ, ◌-◌, List, [], ◌++◌, length, take, slice_get, codes, Option, Some, None, nat_lt, if◌then◌else◌}
use Rattle.std.specs.Fmt.{decimal}
use Rattle.std.specs.List.{flat_map}
use Rattle.gw_explain.specs.declared.lines.Text.{Text}
use Rattle.gw_explain.specs.Shown.{bytes_of, shown_blocks}

-- the blocks of a round that are told
abbrev pub first_blocks : List ℕ → List ℕ
first_blocks round = take 10 round

-- these blocks, each with a comma behind it
abbrev pub enumeration : List ℕ → List ℕ
enumeration bs = flat_map (λ b. codes "block " ++ decimal b ++ codes ", ") bs

-- how many blocks a round has besides those that are told, if it has more
abbrev pub count_of_others : List ℕ → List ℕ
count_of_others round = if nat_lt 10 (length round) then decimal (length round - 10) ++ codes " more, " else []

-- what stands before the block to which a round comes back
unfoldable pub return_title : List ℕ
return_title = codes "and back to block "

-- where a round comes back to, if it has a block, and the end of the line
abbrev pub way_back_to : Option ℕ → List ℕ
way_back_to None = codes "\n"
way_back_to (Some b) = return_title ++ decimal b ++ codes "\n"

-- that of a round, which is its first block
abbrev pub way_back : List ℕ → List ℕ
way_back round = way_back_to (slice_get round 0)

-- what stands before the blocks of a round
unfoldable pub round_title : List ℕ
round_title = codes "known: this round may take no time: "

-- a round, in a line
unfoldable pub round_line : List ℕ → List ℕ
round_line round = round_title ++ enumeration (first_blocks round) ++ count_of_others round ++ way_back round

-- and below it the lines of its blocks that are told
abbrev pub shown_round : List (List ℕ) → List ℕ → List ℕ → List ℕ
shown_round lines blocks round = round_line round ++ shown_blocks lines blocks (first_blocks round)

-- the same in a text
abbrev pub round_in : Text → List ℕ → List ℕ
round_in text round = shown_round (bytes_of text.lines.now) text.blocks.now round
