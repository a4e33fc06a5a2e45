-- A picture of a figure over points. Places are in tenths of pixels: the plot lies from 80 to 700 from the left, and from 70 to 350 from the top.
use Rattle.std.specs.Prelude.{ℕ, ◌+◌, ◌-◌, ◌*◌, ◌/◌, nat_lt, List, [], ◌++◌, codes, ℤ, pos, neg_ℤ, Bool, if◌then◌else◌}
use Rattle.gw_drawing.specs.Text.{tenths, text_at, level_line, upto}
use Rattle.gw_statistics.specs.Telling.{told}
use Rattle.gw_comparison.specs.Frames.{place_of, reach_of}
use Rattle.gw_comparison.specs.declared.axis.Frame.{Frame}
use Rattle.gw_comparison.specs.declared.marks.Mark.{Mark}

-- THE AXIS

-- a number as a text
unfoldable pub number_text : ℕ → ℕ → List ℕ → ℤ → List ℕ
number_text x y how number = text_at x y how ++ told number ++ codes "</text>\n"

-- the level line at a number, and the number
abbrev pub level : Frame → ℤ → List ℕ
level frame number = level_line (place_of frame number) ++ number_text 740 (place_of frame number + 40) (codes " text-anchor=\"end\"") number

-- the number of a step, from the lowest
abbrev pub number_at : Frame → ℕ → ℤ
number_at frame i = if nat_lt i frame.below then neg_ℤ (pos (reach_of frame (frame.below - i))) else pos (reach_of frame (i - frame.below))

-- the level line at a step
abbrev pub level_at : Frame → ℕ → List ℕ
level_at frame i = level frame (number_at frame i)

-- the level lines at each step, to the last
abbrev pub levels : Frame → List ℕ
levels frame = upto (level_at frame) frame.steps ++ level_at frame frame.steps

-- A POINT

-- a cap: a short level line round a place
unfoldable pub cap : ℕ → ℕ → List ℕ
cap x y = codes "M" ++ tenths (x - 60) ++ codes " " ++ tenths y ++ codes "h12.0"

-- a line upright from one place to another
unfoldable pub upright : ℕ → ℕ → ℕ → List ℕ
upright x low high = codes "M" ++ tenths x ++ codes " " ++ tenths low ++ codes "V" ++ tenths high

-- the interval of a mark, with a cap at each end
unfoldable pub interval : Frame → ℕ → Mark → List ℕ
interval frame x mark =
    codes "<path d=\"" ++ upright x (place_of frame mark.low) (place_of frame mark.high) ++ cap x (place_of frame mark.low) ++ cap x (place_of frame mark.high)
    ++ codes "\" stroke=\"#4477aa\" stroke-width=\"2\" fill=\"none\"/>\n"

-- a dot
unfoldable pub dot : ℕ → ℕ → List ℕ
dot x y = codes "<circle cx=\"" ++ tenths x ++ codes "\" cy=\"" ++ tenths y ++ codes "\" r=\"4\" fill=\"#4477aa\"/>\n"

-- the mean, and its number beside it where there is room
abbrev pub mean : Frame → ℕ → ℤ → Bool → List ℕ
mean frame x number has_room =
    dot x (place_of frame number) ++ (if has_room then number_text (x + 90) (place_of frame number + 40) [] number else [])
