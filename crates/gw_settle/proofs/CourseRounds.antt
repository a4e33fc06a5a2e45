-- Rounds over courses: what a visit makes of rows that decline has a course of its own.
use Rattle.std.proofs.Common.{◌≡◌, ℕ, zero, suc, ◌≤◌, List, [], ◌∷◌, ◌++◌, map, Option, Some, None, Bool, true, false, if◌then◌else◌, refl, sym, ap, ap₂, ◌∙◌}
use Rattle.std.specs.Prelude.{All, IfSome, slice_get}
use Rattle.std.specs.List.{list_all}
use Rattle.std.specs.Option.{option_flatten, option_map}
use Rattle.std.proofs.lemmas.Option.{slice_get-map}
use Rattle.std.proofs.lemmas.List.{map-append}
use Rattle.std.proofs.lemmas.List.Elements.{All-nil, All-cons, All-head, All-tail, All-append}
use Rattle.gw_object.specs.declared.blocks.Block.{Block}
use Rattle.gw_object.specs.declared.blocks.Block.TheVariants as blocks
use Rattle.gw_object.specs.declared.parts.Entity.{Entity}
use Rattle.gw_object.specs.declared.parts.Parts.{Parts}
use Rattle.gw_rules.specs.Kinds.{block_at, chain_place, is_generate}
use Rattle.gw_rules.specs.declared.edges.Target.{Target}
use Rattle.gw_rules.specs.declared.edges.Target.TheVariants as targets
use Rattle.gw_rules.specs.Blocks.{FlowEdge, Rule, rules, members_move, members_edges, edges}
use Rattle.gw_rules.specs.FlowCodes as codes
use Rattle.gw_rules.specs.Rows.{Row, nothing_known}
use Rattle.gw_settle.specs.Joins.{join_rows, with_state}
use Rattle.gw_settle.specs.Rounds.{TableRows, as_table, with_change_at, sent_at, sent_to, all_sent, sends_in, visit_block, visited_to}
use Rattle.gw_settle.specs.Jumps.{units_asked, row_in}
use Rattle.gw_settle.proofs.Alike.{with_joined}
use Rattle.gw_settle.proofs.Courses.{Course, Declines, joined_declines, IsDecidedFor, rules_same, rules_held, CourseEdge, edge_at, edges_at}
use Rattle.gw_settle.proofs.Courses.{EdgeDeclines, course_edge, courses_from, from_at, from_decline, courses_joining, joining_at, joining_declines}

-- the courses of the rows of a table
pub record CourseRows : Type 0 where
  pub blocks : List (Option Course)
  pub chains : List (Option Course)

-- what a place says after so many rounds, if it has a course
abbrev pub place_at : ℕ → Option Course → Option Row
place_at t c = option_map (λ (f : Course). f t) c

abbrev pub places_at : ℕ → List (Option Course) → List (Option Row)
places_at t cs = map (place_at t) cs

-- the rows after so many rounds
abbrev pub rows_at : ℕ → CourseRows → TableRows
rows_at t cs = record { blocks = places_at t cs.blocks; chains = places_at t cs.chains }

abbrev pub PlaceDeclines : ℕ → Option Course → Type 0
PlaceDeclines n c = IfSome c (Declines n)

pub record AllDecline (n : ℕ) (cs : CourseRows) : Type 0 where
  pub blocks : All (PlaceDeclines n) cs.blocks
  pub chains : All (PlaceDeclines n) cs.chains

-- LOOKING UP

abbrev pub course_in : List (Option Course) → ℕ → Option Course
course_in cs i = option_flatten (slice_get cs i)

-- the course of the row of a target
abbrev pub course_of : Parts → CourseRows → Target → Option Course
course_of p cs (targets.Block zero) = None
course_of p cs (targets.Block (suc i)) = course_in cs.blocks i
course_of p cs (targets.Chain e) = course_in cs.chains (chain_place p.entities e)

flat_at : (t : ℕ) (c : Option (Option Course)) → option_flatten (option_map (place_at t) c) ≡ place_at t (option_flatten c)
flat_at t None = refl
flat_at t (Some c) = refl

pub looked_up : (t : ℕ) (cs : List (Option Course)) (i : ℕ) → row_in (places_at t cs) i ≡ place_at t (course_in cs i)
looked_up t cs i = ap option_flatten (slice_get-map (place_at t) cs i) ∙ flat_at t (slice_get cs i)

pub table_at : (p : Parts) (t : ℕ) (cs : CourseRows) (x : Target) → as_table p (rows_at t cs) x ≡ place_at t (course_of p cs x)
table_at p t cs (targets.Block zero) = refl
table_at p t cs (targets.Block (suc i)) = looked_up t cs.blocks i
table_at p t cs (targets.Chain e) = looked_up t cs.chains (chain_place p.entities e)

pub declines_in : (n : ℕ) (cs : List (Option Course)) (i : ℕ) → All (PlaceDeclines n) cs → PlaceDeclines n (course_in cs i)
declines_in n [] i h = tt
declines_in n (c ∷ cs) zero h = All-head (PlaceDeclines n) c cs h
declines_in n (c ∷ cs) (suc i) h = declines_in n cs i (All-tail (PlaceDeclines n) c cs h)

pub declines_of : (p : Parts) (n : ℕ) (cs : CourseRows) (x : Target) → AllDecline n cs → PlaceDeclines n (course_of p cs x)
declines_of p n cs (targets.Block zero) h = tt
declines_of p n cs (targets.Block (suc i)) h = declines_in n cs.blocks i h.blocks
declines_of p n cs (targets.Chain e) h = declines_in n cs.chains (chain_place p.entities e) h.chains

-- ONE STATE

abbrev with_course : Course → Option Course → Course
with_course s None = s
with_course s (Some f) = λ t. join_rows (f t) (s t)

with_at : (n t : ℕ) (s : Course) (c : Option Course) → Declines n s → PlaceDeclines n c → with_course s c t ≡ with_state (s t) (place_at t c)
with_at n t s None h g = refl
with_at n t s (Some f) h g = sym (with_joined (f t) (s t) (g.ordered t) (h.ordered t))

with_declines : (n : ℕ) (s : Course) (c : Option Course) → Declines n s → PlaceDeclines n c → Declines n (with_course s c)
with_declines n s None h g = h
with_declines n s (Some f) h g = joined_declines n f s g h

abbrev course_sent_at : Course → ℕ → List (Option Course) → List (Option Course)
course_sent_at s k cs = with_change_at (λ c. Some (with_course s c)) k cs

sent_place : (n t : ℕ) (s : Course) (k : ℕ) (cs : List (Option Course)) → Declines n s → All (PlaceDeclines n) cs
    → places_at t (course_sent_at s k cs) ≡ sent_at (s t) k (places_at t cs)
sent_place n t s k [] h g = refl
sent_place n t s zero (c ∷ cs) h g = ap (λ row. Some row ∷ places_at t cs) (with_at n t s c h (All-head (PlaceDeclines n) c cs g))
sent_place n t s (suc k) (c ∷ cs) h g = ap (λ xs. place_at t c ∷ xs) (sent_place n t s k cs h (All-tail (PlaceDeclines n) c cs g))

sent_declines : (n : ℕ) (s : Course) (k : ℕ) (cs : List (Option Course)) → Declines n s → All (PlaceDeclines n) cs
    → All (PlaceDeclines n) (course_sent_at s k cs)
sent_declines n s k [] h g = g
sent_declines n s zero (c ∷ cs) h g =
    All-cons (PlaceDeclines n) (Some (with_course s c)) cs (with_declines n s c h (All-head (PlaceDeclines n) c cs g)) (All-tail (PlaceDeclines n) c cs g)
sent_declines n s (suc k) (c ∷ cs) h g =
    All-cons (PlaceDeclines n) c (course_sent_at s k cs) (All-head (PlaceDeclines n) c cs g) (sent_declines n s k cs h (All-tail (PlaceDeclines n) c cs g))

abbrev course_sent_to : List Entity → Course → Target → CourseRows → CourseRows
course_sent_to es s (targets.Block zero) cs = cs
course_sent_to es s (targets.Block (suc k)) cs = record cs { blocks = course_sent_at s k cs.blocks }
course_sent_to es s (targets.Chain e) cs = record cs { chains = course_sent_at s (chain_place es e) cs.chains }

to_at : (es : List Entity) (n t : ℕ) (s : Course) (to : Target) (cs : CourseRows) → Declines n s → AllDecline n cs
    → rows_at t (course_sent_to es s to cs) ≡ sent_to es (s t) to (rows_at t cs)
to_at es n t s (targets.Block zero) cs h g = refl
to_at es n t s (targets.Block (suc k)) cs h g = ap (λ xs. record (rows_at t cs) { blocks = xs }) (sent_place n t s k cs.blocks h g.blocks)
to_at es n t s (targets.Chain e) cs h g = ap (λ xs. record (rows_at t cs) { chains = xs }) (sent_place n t s (chain_place es e) cs.chains h g.chains)

to_declines : (es : List Entity) (n : ℕ) (s : Course) (to : Target) (cs : CourseRows) → Declines n s → AllDecline n cs
    → AllDecline n (course_sent_to es s to cs)
to_declines es n s (targets.Block zero) cs h g = g
to_declines es n s (targets.Block (suc k)) cs h g = record { blocks = sent_declines n s k cs.blocks h g.blocks; chains = g.chains }
to_declines es n s (targets.Chain e) cs h g = record { blocks = g.blocks; chains = sent_declines n s (chain_place es e) cs.chains h g.chains }

-- SEVERAL EDGES

abbrev courses_sent : Parts → List CourseEdge → CourseRows → CourseRows
courses_sent p [] cs = cs
courses_sent p (e ∷ es) cs = courses_sent p es (course_sent_to p.entities e.course e.target cs)

sent_all_at : (p : Parts) (n t : ℕ) (es : List CourseEdge) (cs : CourseRows) → All (EdgeDeclines n) es → AllDecline n cs
    → rows_at t (courses_sent p es cs) ≡ all_sent p (edges_at t es) (rows_at t cs)
sent_all_at p n t [] cs h g = refl
sent_all_at p n t (e ∷ es) cs h g =
    let first = All-head (EdgeDeclines n) e es h in
    sent_all_at p n t es (course_sent_to p.entities e.course e.target cs) (All-tail (EdgeDeclines n) e es h)
    (to_declines p.entities n e.course e.target cs first g)
    ∙ ap (λ rows. all_sent p (edges_at t es) rows) (to_at p.entities n t e.course e.target cs first g)

sent_all_decline : (p : Parts) (n : ℕ) (es : List CourseEdge) (cs : CourseRows) → All (EdgeDeclines n) es → AllDecline n cs
    → AllDecline n (courses_sent p es cs)
sent_all_decline p n [] cs h g = g
sent_all_decline p n (e ∷ es) cs h g =
    sent_all_decline p n es (course_sent_to p.entities e.course e.target cs) (All-tail (EdgeDeclines n) e es h)
    (to_declines p.entities n e.course e.target cs (All-head (EdgeDeclines n) e es h) g)

-- WHAT A BLOCK SENDS

abbrev member_courses : ℕ → Option Course → List CourseEdge
member_courses to None = []
member_courses to (Some members) = course_edge codes.chain_state (targets.Block to) members ∷ []

abbrev courses_leaving : Parts → CourseRows → Block → List CourseEdge
courses_leaving p cs (blocks.Unlink u) = member_courses u.target (course_of p cs (targets.Chain u.chain))
courses_leaving p cs block = []

members_at : (t to : ℕ) (members : Option Course) → edges_at t (member_courses to members) ≡ members_move to (place_at t members)
members_at t to None = refl
members_at t to (Some members) = refl

leaving_at : (p : Parts) (t : ℕ) (cs : CourseRows) (block : Block) → edges_at t (courses_leaving p cs block) ≡ members_edges (as_table p (rows_at t cs)) block
leaving_at p t cs (blocks.Unlink u) = members_at t u.target (course_of p cs (targets.Chain u.chain))
    ∙ ap (members_move u.target) (sym (table_at p t cs (targets.Chain u.chain)))
leaving_at p t cs block = refl

members_decline : (n to : ℕ) (members : Option Course) → PlaceDeclines n members → All (EdgeDeclines n) (member_courses to members)
members_decline n to None h = All-nil (EdgeDeclines n)
members_decline n to (Some members) h = All-cons (EdgeDeclines n) (course_edge codes.chain_state (targets.Block to) members) [] h (All-nil (EdgeDeclines n))

leaving_declines : (p : Parts) (n : ℕ) (cs : CourseRows) (block : Block) → AllDecline n cs → All (EdgeDeclines n) (courses_leaving p cs block)
leaving_declines p n cs (blocks.Unlink u) h = members_decline n u.target (course_of p cs (targets.Chain u.chain)) (declines_of p n cs (targets.Chain u.chain) h)
leaving_declines p n cs block h = All-nil (EdgeDeclines n)

-- all edges of a block in a row with a course
abbrev courses_along : Parts → CourseRows → ℕ → Block → Course → List CourseEdge
courses_along p cs b block f = courses_from b block f ++ (courses_joining block f ++ courses_leaving p cs block)

all_along_at : (p : Parts) (n t : ℕ) (cs : CourseRows) (b : ℕ) (block : Block) (f : Course) → Declines n f → t ≤ n →
    edges_at t (courses_along p cs b block f) ≡ edges p (as_table p (rows_at t cs)) b block (f t)
all_along_at p n t cs b block f h le =
    map-append (edge_at t) (courses_from b block f) (courses_joining block f ++ courses_leaving p cs block)
    ∙ ap₂ (λ xs ys. xs ++ ys) (from_at p n t b block f h le)
    (map-append (edge_at t) (courses_joining block f) (courses_leaving p cs block)
    ∙ ap₂ (λ xs ys. xs ++ ys) (joining_at t block f) (leaving_at p t cs block))

abbrev pub AllHold : Parts → Block → Row → Bool
AllHold p block row = list_all (λ (r : Rule). r.holds) (rules p block row)

-- what a block sends, if its rules hold at first
abbrev courses_of : Parts → CourseRows → ℕ → Option Block → Option Course → List CourseEdge
courses_of p cs b (Some block) (Some f) = if AllHold p block (f 0) then courses_along p cs b block f else []
courses_of p cs b (Some block) None = []
courses_of p cs b None f = []

-- a block's rules hold at each time, or at none
pub record IsReadyIn (n : ℕ) (block : Block) (f : Course) : Type 0 where
  pub decided : IsDecidedFor n (units_asked block) f
  pub arrives : is_generate (Some block) ≡ true → f 0 ≡ nothing_known

abbrev pub IsReadyAt : ℕ → Option Block → Option Course → Type 0
IsReadyAt n None c = Unit {0}
IsReadyAt n (Some block) None = Unit {0}
IsReadyAt n (Some block) (Some f) = IsReadyIn n block f

-- the block of number b is ready
abbrev pub IsReady : Parts → ℕ → CourseRows → ℕ → Type 0
IsReady p n cs b = IsReadyAt n (block_at p.blocks b) (course_of p cs (targets.Block b))

if_at : (t : ℕ) (holds : Bool) (es : List CourseEdge) (fs : List FlowEdge) → edges_at t es ≡ fs → edges_at t (if holds then es else [])
    ≡ (if holds then fs else [])
if_at t true es fs h = h
if_at t false es fs h = refl

of_at : (p : Parts) (n t : ℕ) (cs : CourseRows) (b : ℕ) (block : Option Block) (c : Option Course) → PlaceDeclines n c → IsReadyAt n block c → t ≤ n →
    edges_at t (courses_of p cs b block c) ≡ sends_in p (as_table p (rows_at t cs)) b block (place_at t c)
of_at p n t cs b None c h ready le = refl
of_at p n t cs b (Some block) None h ready le = refl
of_at p n t cs b (Some block) (Some f) h ready le =
    if_at t (AllHold p block (f 0)) (courses_along p cs b block f) (edges p (as_table p (rows_at t cs)) b block (f t)) (all_along_at p n t cs b block f h le)
    ∙ ap (λ rs. if list_all (λ (r : Rule). r.holds) rs then edges p (as_table p (rows_at t cs)) b block (f t) else [])
    (sym (rules_same p n t f h le block ready.decided ready.arrives))

if_decline : (n : ℕ) (holds : Bool) (es : List CourseEdge) → (holds ≡ true → All (EdgeDeclines n) es) → All (EdgeDeclines n) (if holds then es else [])
if_decline n true es h = h refl
if_decline n false es h = All-nil (EdgeDeclines n)

of_decline : (p : Parts) (n : ℕ) (cs : CourseRows) (b : ℕ) (block : Option Block) (c : Option Course) → AllDecline n cs → PlaceDeclines n c
    → IsReadyAt n block c → All (EdgeDeclines n) (courses_of p cs b block c)
of_decline p n cs b None c all h ready = All-nil (EdgeDeclines n)
of_decline p n cs b (Some block) None all h ready = All-nil (EdgeDeclines n)
of_decline p n cs b (Some block) (Some f) all h ready =
    if_decline n (AllHold p block (f 0)) (courses_along p cs b block f)
    (λ holds. All-append (EdgeDeclines n) (courses_from b block f) (courses_joining block f ++ courses_leaving p cs block)
    (from_decline n b block f (rules_held p n block f holds ready.decided) h)
    (All-append (EdgeDeclines n) (courses_joining block f) (courses_leaving p cs block) (joining_declines n block f h) (leaving_declines p n cs block all)))

-- VISITS

-- the courses once the block of number b was visited
abbrev pub course_visited : Parts → ℕ → CourseRows → CourseRows
course_visited p b cs = courses_sent p (courses_of p cs b (block_at p.blocks b) (course_of p cs (targets.Block b))) cs

pub visited_at : (p : Parts) (n t b : ℕ) (cs : CourseRows) → AllDecline n cs → IsReady p n cs b → t ≤ n → rows_at t (course_visited p b cs)
    ≡ visit_block p b (rows_at t cs)
visited_at p n t b cs h ready le =
    let here = declines_of p n cs (targets.Block b) h in
    sent_all_at p n t (courses_of p cs b (block_at p.blocks b) (course_of p cs (targets.Block b))) cs
    (of_decline p n cs b (block_at p.blocks b) (course_of p cs (targets.Block b)) h here ready) h
    ∙ ap (λ es. all_sent p es (rows_at t cs))
    (of_at p n t cs b (block_at p.blocks b) (course_of p cs (targets.Block b)) here ready le
    ∙ ap (λ row. sends_in p (as_table p (rows_at t cs)) b (block_at p.blocks b) row) (sym (table_at p t cs (targets.Block b))))

pub visited_decline : (p : Parts) (n b : ℕ) (cs : CourseRows) → AllDecline n cs → IsReady p n cs b → AllDecline n (course_visited p b cs)
visited_decline p n b cs h ready =
    sent_all_decline p n (courses_of p cs b (block_at p.blocks b) (course_of p cs (targets.Block b))) cs
    (of_decline p n cs b (block_at p.blocks b) (course_of p cs (targets.Block b)) h (declines_of p n cs (targets.Block b) h) ready) h

-- once each block up to a number was visited
abbrev pub course_visited_to : Parts → ℕ → CourseRows → CourseRows
course_visited_to p zero cs = cs
course_visited_to p (suc k) cs = course_visited p (suc k) (course_visited_to p k cs)

-- the rows that come of each course by these visits
pub record AreVisited (p : Parts) (n k : ℕ) (cs : CourseRows) : Type 0 where
  pub decline : AllDecline n (course_visited_to p k cs)
  pub rows : (t : ℕ) → t ≤ n → rows_at t (course_visited_to p k cs) ≡ visited_to p k (rows_at t cs)

pub visited_more : (p : Parts) (n k : ℕ) (cs : CourseRows) → AreVisited p n k cs → IsReady p n (course_visited_to p k cs) (suc k) → AreVisited p n (suc k) cs
visited_more p n k cs h ready = record {
  decline = visited_decline p n (suc k) (course_visited_to p k cs) h.decline ready;
  rows = λ t le. visited_at p n t (suc k) (course_visited_to p k cs) h.decline ready le ∙ ap (visit_block p (suc k)) (h.rows t le);
}
