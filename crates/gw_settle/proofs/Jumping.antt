-- Many rounds at once are what so many rounds give.
use Rattle.std.proofs.Common.{◌≡◌, ◌≢◌, ◌⊎◌, inl, inr, ⊎_elim, ℕ, zero, suc, ◌≤◌, ◌<◌, List, [], ◌∷◌, map, length, Option, Some, None, Bool, true}
use Rattle.std.proofs.Common.{false, if◌then◌else◌, refl, sym, ap, subst, ◌∙◌, arith}
use Rattle.std.specs.Prelude.{All, IsSomeAnd}
use Rattle.std.proofs.lemmas.Bool.{cases_lt}
use Rattle.std.proofs.lemmas.List.{length-map}
use Rattle.std.proofs.lemmas.List.Elements.{All-nil, All-cons, All-map, All-weaker, All-replicate}
use Rattle.gw_object.specs.declared.blocks.Block.{Block}
use Rattle.gw_object.specs.declared.blocks.Units.{Units}
use Rattle.gw_object.specs.declared.parts.Parts.{Parts}
use Rattle.gw_object.specs.Entities.{chains_in}
use Rattle.gw_rules.specs.Kinds.{block_at, is_generate}
use Rattle.gw_rules.specs.declared.edges.Target.TheVariants as targets
use Rattle.gw_rules.specs.Rows.{Row, ParamKind, units_of, nothing_known, KindAscends, IsOrdered}
use Rattle.gw_settle.specs.Rounds.{TableRows, as_table, visited_to, round, start_row, rounds, AreReached}
use Rattle.gw_settle.specs.Keeps.{HasShape, IsWell, AreKept, absent_in, absent}
use Rattle.gw_settle.specs.Jumps.{further, rows_after, row_in, units_asked, MayJump, HasJumped}
use Rattle.gw_settle.proofs.Courses.{Course, IsDecidedFor}
use Rattle.gw_settle.proofs.CourseRounds.{CourseRows, place_at, places_at, rows_at, PlaceDeclines, AllDecline, course_of, table_at, IsReadyIn}
use Rattle.gw_settle.proofs.CourseRounds.{IsReadyAt, IsReady, course_visited_to, AreVisited, visited_more}
use Rattle.gw_settle.proofs.Lowered.{IsLower, AreLower, lower_visited, lower_later, lower_of}
use Rattle.gw_settle.proofs.Slopes.{courses_after, places_are, places_decline, leaves_if_falls, Ordered, places_stay, stay_leaves, places_not}
use Rattle.gw_settle.proofs.Slopes.{places_once, places_fall_on}
use Rattle.gw_settle.proofs.Kept.{visited_keep}
use Rattle.gw_settle.proofs.Reached.{reached_kept}

-- READY

ready_at : (n : ℕ) (block : Option Block) (c : Option Course) → ((x : Block) (f : Course) → block ≡ Some x → c ≡ Some f → IsReadyIn n x f) → IsReadyAt n block c
ready_at n None c h = tt
ready_at n (Some block) None h = tt
ready_at n (Some block) (Some f) h = h block f refl refl

decided_for : (n : ℕ) (asked : Option Units) (f : Course)
    → ((u : Units) → asked ≡ Some u → (u.number ≤ units_of (f n) u.entity) ⊎ (units_of (f 0) u.entity < u.number)) → IsDecidedFor n asked f
decided_for n None f h = tt
decided_for n (Some u) f h = h u refl

-- whether a block's rule on units holds is decided for the course of its row
abbrev AreDecidedAt : Parts → ℕ → CourseRows → ℕ → Type 0
AreDecidedAt p n cs b = (block : Block) (u : Units) (f : Course) → block_at p.blocks b ≡ Some block → units_asked block ≡ Some u
    → course_of p cs (targets.Block b) ≡ Some f → (u.number ≤ units_of (f n) u.entity) ⊎ (units_of (f 0) u.entity < u.number)

module _ (p : Parts) (n : ℕ) (near : TableRows) (cs : CourseRows) (well : IsWell p) (kept : AreKept p near) (first : rows_at 0 cs ≡ near) where
  -- a row in mid-round is what its course says
  said_at : (k t : ℕ) (b : ℕ) (f : Course) → AreVisited p n k cs → t ≤ n → course_of p (course_visited_to p k cs) (targets.Block b)
      ≡ Some f → as_table p (visited_to p k (rows_at t cs)) (targets.Block b) ≡ Some (f t)
  said_at k t b f h le is = ap (λ rows. as_table p rows (targets.Block b)) (sym (h.rows t le))
      ∙ table_at p t (course_visited_to p k cs) (targets.Block b) ∙ ap (place_at t) is

  arrives_at : (k : ℕ) (b : ℕ) (block : Block) (f : Course) → AreVisited p n k cs → block_at p.blocks b ≡ Some block
      → course_of p (course_visited_to p k cs) (targets.Block b) ≡ Some f → is_generate (Some block) ≡ true → f 0 ≡ nothing_known
  arrives_at k b block f h there is generates =
      let here : Some (f 0) ≡ Some nothing_known =
      sym (said_at k 0 b f h (omega arith) is)
      ∙ ap (λ rows. as_table p (visited_to p k rows) (targets.Block b)) first
      ∙ (visited_keep p k near well kept).good.arrivals b (ap is_generate there ∙ generates) in
      cc

  ready : (k : ℕ) → AreVisited p n k cs → AreDecidedAt p n (course_visited_to p k cs) (suc k) → IsReady p n (course_visited_to p k cs) (suc k)
  ready k h decided =
      ready_at n (block_at p.blocks (suc k)) (course_of p (course_visited_to p k cs) (targets.Block (suc k)))
      (λ block f there is. record {
        decided = decided_for n (units_asked block) f (λ u asks. decided block u f there asks is);
        arrives = arrives_at k (suc k) block f h there is;
      })

-- ROWS ARE ORDERED

pub record AllOrdered (rows : TableRows) : Type 0 where
  pub blocks : All Ordered rows.blocks
  pub chains : All Ordered rows.chains

place_ordered : (n t : ℕ) (c : Option Course) → PlaceDeclines n c → Ordered (place_at t c)
place_ordered n t None h = tt
place_ordered n t (Some f) h = h.ordered t

ordered_at : (n t : ℕ) (cs : CourseRows) → AllDecline n cs → AllOrdered (rows_at t cs)
ordered_at n t cs h = record {
  blocks = All-map Ordered (place_at t) cs.blocks (All-weaker (PlaceDeclines n) (λ c. Ordered (place_at t c)) (place_ordered n t) cs.blocks h.blocks);
  chains = All-map Ordered (place_at t) cs.chains (All-weaker (PlaceDeclines n) (λ c. Ordered (place_at t c)) (place_ordered n t) cs.chains h.chains);
}

-- courses of rows that stay
abbrev staying : TableRows → CourseRows
staying rows = record { blocks = courses_after rows.blocks []; chains = courses_after rows.chains [] }

both_same : {bs cs ds es : List (Option Row)} → bs ≡ cs → ds ≡ es
    → ◌≡◌ {A = TableRows} (record { blocks = bs; chains = ds }) (record { blocks = cs; chains = es })
both_same h g = rw (h, g) refl

staying_are : (t : ℕ) (rows : TableRows) → rows_at t (staying rows) ≡ rows
staying_are t rows = both_same
    (places_are t rows.blocks [] ∙ places_stay t rows.blocks)
    (places_are t rows.chains [] ∙ places_stay t rows.chains)

staying_decline : (rows : TableRows) → AllOrdered rows → AllDecline 0 (staying rows)
staying_decline rows up = record {
  blocks = places_decline 0 rows.blocks [] up.blocks (λ i. stay_leaves 0 (row_in rows.blocks i));
  chains = places_decline 0 rows.chains [] up.chains (λ i. stay_leaves 0 (row_in rows.chains i));
}

module _ (p : Parts) (rows : TableRows) (well : IsWell p) (kept : AreKept p rows) (up : AllOrdered rows) where
  staying_visited : (k : ℕ) → AreVisited p 0 k (staying rows)
  staying_visited zero = record { decline = staying_decline rows up; rows = λ t le. refl }
  staying_visited (suc k) =
      let h = staying_visited k in
      visited_more p 0 k (staying rows) h
      (ready p 0 rows (staying rows) well kept (staying_are 0 rows) k h
      (λ block u f there asks is. ⊎_elim (λ (lt : units_of (f 0) u.entity < u.number). inr lt)
      (λ (le : u.number ≤ units_of (f 0) u.entity). inl le) (cases_lt (units_of (f 0) u.entity) u.number)))

  round_ordered : AllOrdered (round p rows)
  round_ordered =
      let h = staying_visited (length p.blocks) in
      subst AllOrdered (h.rows 0 (omega arith) ∙ ap (visited_to p (length p.blocks)) (staying_are 0 rows))
      (ordered_at 0 0 (course_visited_to p (length p.blocks) (staying rows)) h.decline)

nothing_ordered : IsOrdered nothing_known
nothing_ordered = record {
  params = λ i j d lt within. absurd (omega arith);
  returns = All-nil (λ (e : ℕ × ParamKind). KindAscends e.1);
  facilities = λ i j d lt within. absurd (omega arith);
  units = λ i j d lt within. absurd (omega arith);
  amounts = All-nil (λ (e : ℕ × ℕ). e.1 ≢ 0);
}

start_if : (arrives : Bool) → Ordered (if arrives then Some nothing_known else None)
start_if true = nothing_ordered
start_if false = tt

start_all : (bs : List Block) → All Ordered (map start_row bs)
start_all [] = All-nil Ordered
start_all (b ∷ bs) = All-cons Ordered (start_row b) (map start_row bs) (start_if (is_generate (Some b))) (start_all bs)

rounds_ordered : (p : Parts) (k : ℕ) → IsWell p → AllOrdered (rounds p k)
rounds_ordered p zero well = record { blocks = start_all p.blocks; chains = All-replicate Ordered (chains_in p.entities) None tt }
rounds_ordered p (suc k) well = round_ordered p (rounds p k) well (reached_kept p (rounds p k) well (k, refl)) (rounds_ordered p k well)

-- rows that rounds have reached are ordered
pub reached_ordered : (p : Parts) (rows : TableRows) → IsWell p → AreReached p rows → AllOrdered rows
reached_ordered p rows well h = subst AllOrdered (sym h.1) (rounds_ordered p h.0 well)

abbrev blocks_in : TableRows → List (Option Row)
blocks_in rows = rows.blocks

abbrev chains_in_rows : TableRows → List (Option Row)
chains_in_rows rows = rows.chains

-- A JUMP

-- the courses of rows that fall as to the next
abbrev falling : TableRows → TableRows → CourseRows
falling near next = record { blocks = courses_after near.blocks next.blocks; chains = courses_after near.chains next.chains }

falling_are : (t : ℕ) (near next : TableRows) → rows_at t (falling near next) ≡ rows_after t near next
falling_are t near next = both_same (places_are t near.blocks next.blocks) (places_are t near.chains next.chains)

module _ (p : Parts) (n : ℕ) (near next second last : TableRows) (well : IsWell p) (reached : AreReached p near) (some : 0 < n)
    (is_next : next ≡ round p near) (is_second : second ≡ round p next) (is_last : last ≡ round p (rows_after n near next))
    (may : MayJump p n near next second last) where
  abbrev cs : CourseRows
  cs = falling near next

  abbrev final : CourseRows
  final = course_visited_to p (length p.blocks) cs

  kept : AreKept p near
  kept = reached_kept p near well reached

  next_reached : AreReached p next
  next_reached = (suc reached.0, is_next ∙ ap (round p) reached.1)

  up : AllOrdered near
  up = reached_ordered p near well reached

  next_up : AllOrdered next
  next_up = reached_ordered p next well next_reached

  shape : HasShape p near
  shape = kept.shape

  next_shape : HasShape p next
  next_shape = (reached_kept p next well next_reached).shape

  lower : AreLower next near
  lower = subst (λ rows. AreLower rows near) (sym is_next) (lower_visited p (length p.blocks) near)

  decline : AllDecline n cs
  decline = record {
    blocks = places_decline n near.blocks next.blocks up.blocks
        (λ i. leaves_if_falls n (row_in near.blocks i) (row_in next.blocks i) (row_in second.blocks i) (row_in last.blocks i) (may.blocks i));
    chains = places_decline n near.chains next.chains up.chains
        (λ i. leaves_if_falls n (row_in near.chains i) (row_in next.chains i) (row_in second.chains i) (row_in last.chains i) (may.chains i));
  }

  at_first : rows_at 0 cs ≡ near
  at_first = falling_are 0 near next ∙ both_same (places_not near.blocks next.blocks up.blocks) (places_not near.chains next.chains up.chains)

  at_second : rows_at 1 cs ≡ next
  at_second = falling_are 1 near next ∙ both_same
      (places_once n near.blocks next.blocks second.blocks last.blocks (shape.blocks ∙ sym next_shape.blocks) up.blocks next_up.blocks may.blocks lower.blocks)
      (places_once n near.chains next.chains second.chains last.chains (shape.chains ∙ sym next_shape.chains) up.chains next_up.chains may.chains lower.chains)

  -- RULES ON UNITS

  from_near : (u : Units) (f : Course) (there : Option Row) → IsLower (Some (f 0)) there
      → IsSomeAnd there (λ row. units_of row u.entity < u.number) → units_of (f 0) u.entity < u.number
  from_near u f None h g = absurd g
  from_near u f (Some row) h g = omega (arith, h u.entity, g)

  by_last : (b : ℕ) (block : Block) (u : Units) (f : Course) (there : Option Row) → block_at p.blocks b ≡ Some block → units_asked block
      ≡ Some u → as_table p last (targets.Block b) ≡ there → IsLower there (Some (f n))
      → IsLower (Some (f 0)) (as_table p near (targets.Block b)) → (u.number ≤ units_of (f n) u.entity) ⊎ (units_of (f 0) u.entity < u.number)
  by_last b block u f None is asks has low high = absurd low
  by_last b block u f (Some row) is asks has low high =
      ⊎_elim
      (λ (le : u.number ≤ units_of row u.entity). inl (omega (arith, le, low u.entity)))
      (λ (less : IsSomeAnd (as_table p near (targets.Block b)) (λ x. units_of x u.entity < u.number)). inr
      (from_near u f (as_table p near (targets.Block b)) high less))
      (may.decided b block is u row asks has)

  decided_at : (k : ℕ) → k ≤ length p.blocks → AreVisited p n k cs → AreDecidedAt p n (course_visited_to p k cs) (suc k)
  decided_at k le h block u f is asks has =
      let b = suc k in
      let here_first : as_table p (visited_to p k near) (targets.Block b) ≡ Some (f 0) =
      ap (λ rows. as_table p (visited_to p k rows) (targets.Block b)) (sym at_first) ∙ said_at p n near cs well kept at_first k 0 b f h (omega arith) has in
      let here_last : as_table p (visited_to p k (rows_after n near next)) (targets.Block b) ≡ Some (f n) =
      ap (λ rows. as_table p (visited_to p k rows) (targets.Block b)) (sym (falling_are n near next))
      ∙ said_at p n near cs well kept at_first k n b f h (omega arith) has in
      let low : IsLower (as_table p last (targets.Block b)) (Some (f n)) =
      subst (λ x. IsLower (as_table p last (targets.Block b)) x) here_last
      (subst (λ rows. IsLower (as_table p rows (targets.Block b)) (as_table p (visited_to p k (rows_after n near next)) (targets.Block b))) (sym is_last)
      (lower_of p b (round p (rows_after n near next)) (visited_to p k (rows_after n near next))
      (lower_later p k (length p.blocks) (rows_after n near next) le))) in
      let high : IsLower (Some (f 0)) (as_table p near (targets.Block b)) =
      subst (λ x. IsLower x (as_table p near (targets.Block b))) here_first (lower_of p b (visited_to p k near) near (lower_visited p k near)) in
      by_last b block u f (as_table p last (targets.Block b)) is asks refl low high

  -- THE ROUND

  visited : (k : ℕ) → k ≤ length p.blocks → AreVisited p n k cs
  visited zero le = record { decline = decline; rows = λ t fits. refl }
  visited (suc k) le =
      let before : k ≤ length p.blocks = omega (arith, le) in
      let h = visited k before in
      visited_more p n k cs h (ready p n near cs well kept at_first k h (decided_at k before h))

  whole : AreVisited p n (length p.blocks) cs
  whole = visited (length p.blocks) (omega arith)

  -- the rows after the first round, the second and the last
  final_first : rows_at 0 final ≡ next
  final_first = whole.rows 0 (omega arith) ∙ ap (round p) at_first ∙ sym is_next

  final_second : rows_at 1 final ≡ second
  final_second = whole.rows 1 (omega (arith, some)) ∙ ap (round p) at_second ∙ sym is_second

  final_last : rows_at n final ≡ last
  final_last = whole.rows n (omega arith) ∙ ap (round p) (falling_are n near next) ∙ sym is_last

  as_long : (gs : List (Option Course)) (rows nexts : List (Option Row)) → places_at 0 gs ≡ nexts → length rows ≡ length nexts → length rows ≡ length gs
  as_long gs rows nexts is same = same ∙ ap length (sym is) ∙ length-map gs (place_at 0)

  step : (t : ℕ) → suc t ≤ n → rows_at (suc t) cs ≡ round p (rows_at t cs)
  step t le =
      falling_are (suc t) near next
      ∙ both_same
      (places_fall_on n t near.blocks next.blocks second.blocks last.blocks final.blocks some le
      (as_long final.blocks near.blocks next.blocks (ap blocks_in final_first) (shape.blocks ∙ sym next_shape.blocks)) up.blocks
      whole.decline.blocks may.blocks lower.blocks (ap blocks_in final_first) (ap blocks_in final_second) (ap blocks_in final_last))
      (places_fall_on n t near.chains next.chains second.chains last.chains final.chains some le
      (as_long final.chains near.chains next.chains (ap chains_in_rows final_first) (shape.chains ∙ sym next_shape.chains)) up.chains
      whole.decline.chains may.chains lower.chains (ap chains_in_rows final_first) (ap chains_in_rows final_second) (ap chains_in_rows final_last))
      ∙ whole.rows t (omega (arith, le))

  course_reached : (t : ℕ) → t ≤ n → rows_at t cs ≡ further p t near
  course_reached zero le = at_first
  course_reached (suc t) le = step t le ∙ ap (round p) (course_reached t (omega (arith, le)))

  -- the rows after the jump are those of n + 1 rounds
  pub jumped : last ≡ further p (suc n) near
  jumped = is_last ∙ ap (round p) (sym (falling_are n near next) ∙ course_reached n (omega arith))

-- AFTER A JUMP

-- rounds more are a round, and those after it
pub further_on : (p : Parts) (n : ℕ) (rows : TableRows) → further p (suc n) rows ≡ further p n (round p rows)
further_on p zero rows = refl
further_on p (suc n) rows = ap (round p) (further_on p n rows)

-- at each time as many rows are absent
absent_alike : (s t : ℕ) (cs : List (Option Course)) → absent_in (places_at t cs) ≡ absent_in (places_at s cs)
absent_alike s t [] = refl
absent_alike s t (None ∷ cs) = omega (arith, absent_alike s t cs)
absent_alike s t (Some f ∷ cs) = absent_alike s t cs

-- what a jump makes of rows
pub has_jumped : (p : Parts) (n : ℕ) (near next second last : TableRows) → IsWell p → AreReached p near → 0 < n →
    next ≡ round p near → second ≡ round p next → last ≡ round p (rows_after n near next) → MayJump p n near next second last → HasJumped p next second last
has_jumped p n near next second last well reached some is_next is_second is_last may =
    let gs = final p n near next second last well reached some is_next is_second is_last may in
    let at_last = final_last p n near next second last well reached some is_next is_second is_last may in
    let at_second = final_second p n near next second last well reached some is_next is_second is_last may in
    let here : absent (rows_at n gs) ≡ absent (rows_at 1 gs) = omega (arith, absent_alike 1 n gs.blocks, absent_alike 1 n gs.chains) in
    record {
      later = (n, jumped p n near next second last well reached some is_next is_second is_last may ∙ further_on p n near ∙ ap (further p n) (sym is_next));
      absent = ap absent (sym at_last) ∙ here ∙ ap absent at_second;
    }
