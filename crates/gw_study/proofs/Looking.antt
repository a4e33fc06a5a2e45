-- The next stream from which a model draws, the next overdraw, and the next line.
use Rattle.std.proofs.Common.{◌≡◌, ◌∙◌, ◌<◌, ◌≤◌, ◌+◌, ◌-◌, ℕ, zero, suc, Bool, List, ◌++◌, Option, None, true, false, arith, refl, sym, ap, if◌then◌else◌}
use Rattle.std.proofs.lemmas.List.{append_assoc}
use Rattle.std.specs.Prelude.{option_to_list}
use Rattle.gw_object.specs.declared.parts.Parts.{Parts}
use Rattle.gw_notes.specs.Drawing.{draws}
use Rattle.gw_figures.specs.declared.run.Overdraw.{Overdraw}
use Rattle.gw_figures.specs.declared.run.Run.{Run}
use Rattle.gw_study.specs.Streams.{Values, behind, next_drawn, own_numbers, overdraw, overdraws_from, greatest_of, stream_line, streams_from}

one_left : (d : ℕ) → d < 16 → 16 - d ≡ suc (16 - (d + 1))
one_left d below = omega (arith, below)

next_left : (parts : Parts) (stream d : ℕ) → d < 16
    → next_drawn parts stream d (16 - d) ≡ (if draws parts (behind stream d) then d else next_drawn parts stream (d + 1) (16 - (d + 1)))
unfolding next_drawn
next_left parts stream d below = rw (one_left d below) refl

-- it is this one, or it is looked for behind
pub found : (parts : Parts) (stream d : ℕ) → d < 16 → draws parts (behind stream d) ≡ true → next_drawn parts stream d (16 - d) ≡ d
found parts stream d below is = next_left parts stream d below ∙ rw is refl

pub passed : (parts : Parts) (stream d : ℕ) → d < 16 → draws parts (behind stream d) ≡ false
    → next_drawn parts stream d (16 - d) ≡ next_drawn parts stream (d + 1) (16 - (d + 1))
passed parts stream d below isnt = next_left parts stream d below ∙ rw isnt refl

-- none is looked for before this one
or_later : (b : Bool) (d n : ℕ) → d ≤ n → d ≤ (if b then d else n)
or_later true d n h = omega arith
or_later false d n h = h

at_least : (parts : Parts) (stream d left : ℕ) → d ≤ next_drawn parts stream d left
unfolding next_drawn
at_least parts stream d zero = omega arith
at_least parts stream d (suc left) =
    let more = at_least parts stream (d + 1) left in
    or_later (draws parts (behind stream d)) d (next_drawn parts stream (d + 1) left) (omega (arith, more))

-- so a stream has as many numbers of its own as lie between two seeds
pub has_own : (parts : Parts) (stream : ℕ) → 131071 ≤ own_numbers parts stream
has_own parts stream = let least = at_least parts stream 1 15 in omega (arith, least)

-- a piece is behind those so far, and what is left behind it
next_piece : {X : Type 0} (old piece rest left new all : List X) → left ≡ piece ++ rest → old ++ left ≡ all → new ≡ old ++ piece → new ++ rest ≡ all
next_piece old piece rest left new all is so_far added =
    ap (λ xs. xs ++ rest) added ∙ append_assoc old piece rest ∙ ap (λ xs. old ++ xs) (sym is) ∙ so_far

line_left : (runs : List Run) (i : ℕ) → i < 17
    → streams_from runs i (17 - i) ≡ stream_line (greatest_of i None runs) ++ streams_from runs (i + 1) (17 - (i + 1))
unfolding streams_from
line_left runs i below = let left : 17 - i ≡ suc (17 - (i + 1)) = omega (arith, below) in rw left refl

-- the line of a stream
pub next_line : (runs : List Run) (i : ℕ) (most : Option Overdraw) (old new all : List ℕ) → i < 17 → old ++ streams_from runs i (17 - i) ≡ all
    → most ≡ greatest_of i None runs → new ≡ old ++ stream_line most → new ++ streams_from runs (i + 1) (17 - (i + 1)) ≡ all
next_line runs i most old new all below so_far is added =
    next_piece old (stream_line (greatest_of i None runs)) (streams_from runs (i + 1) (17 - (i + 1))) (streams_from runs i (17 - i)) new all
    (line_left runs i below) so_far (added ∙ ap (λ o. old ++ stream_line o) is)

overdraw_left : (parts : Parts) (steps : ℕ) (values : Values) (i : ℕ) → i < 17
    → overdraws_from parts steps values i (17 - i)
    ≡ option_to_list (overdraw parts steps values i) ++ overdraws_from parts steps values (i + 1) (17 - (i + 1))
unfolding overdraws_from
overdraw_left parts steps values i below = let left : 17 - i ≡ suc (17 - (i + 1)) = omega (arith, below) in rw left refl

-- the overdraw of a stream
pub next_overdraw : (parts : Parts) (steps : ℕ) (values : Values) (i : ℕ) (found : Option Overdraw) (old new all : List Overdraw) → i < 17
    → old ++ overdraws_from parts steps values i (17 - i) ≡ all → found ≡ overdraw parts steps values i → new ≡ old ++ option_to_list found
    → new ++ overdraws_from parts steps values (i + 1) (17 - (i + 1)) ≡ all
next_overdraw parts steps values i found old new all below so_far is added =
    next_piece old (option_to_list (overdraw parts steps values i)) (overdraws_from parts steps values (i + 1) (17 - (i + 1)))
    (overdraws_from parts steps values i (17 - i)) new all
    (overdraw_left parts steps values i below) so_far (added ∙ ap (λ o. old ++ option_to_list o) is)
