-- Marks that are put one after the other are those of the blocks that get a slope.
use Rattle.std.proofs.Common.{◌≡◌, ◌≢◌, ℕ, zero, suc, ◌+◌, ◌-◌, ◌<◌, ◌≤◌, List, [], ◌∷◌, length, set, replicate, Option, Some, None, Bool, true}
use Rattle.std.proofs.Common.{false, not, ◌&&◌, ◌||◌, refl, sym, ap, ◌∙◌, subst, arith, inl, inr, get_or}
use Rattle.std.specs.Prelude.{slice_get}
use Rattle.std.specs.List.{list_any}
use Rattle.std.proofs.lemmas.Bool.{cases_eq, cases_lt, and_parts, or_parts, or_cases, false≢true}
use Rattle.std.proofs.lemmas.List.{length-set, get_or-set_other}
use Rattle.std.proofs.lemmas.List.Folds.{Any-from_list_any, list_any_at}
use Rattle.std.proofs.lemmas.Option.{slice_get_within}
use Rattle.gw_object.specs.declared.blocks.Block.{Block}
use Rattle.gw_object.specs.declared.parts.Parts.{Parts}
use Rattle.gw_rules.specs.Blocks.{returns_read}
use Rattle.gw_rules.specs.Exits.{exits_with, leads_to}
use Rattle.gw_rules.specs.Flow.{own_row}
use Rattle.gw_rules.specs.Kinds.{block_at}
use Rattle.gw_rules.specs.Rows.{Row}
use Rattle.gw_rules.specs.declared.ways.Exit.{Exit}
use Rattle.gw_slopes.specs.Sloped.{Sloped, loops, leads, counts, asks_back, leads_back, asks_in, asks_at, asks, marked_at, AreMarks}
use Rattle.gw_slopes.specs.Marking.{is_due, marked_if, AreSound, StaySound, lacks, missing_marks, IsOn, IsRound}

-- HOW MANY ARE MISSING

pub one_less : (marks : List Bool) (i : ℕ) → i < length marks → get_or marks i false ≡ false → missing_marks (set marks i true) < missing_marks marks
one_less [] i within h = absurd (omega (arith, within))
one_less (m ∷ marks) zero within h = let one : lacks m ≡ 1 = ap lacks h in omega (arith, one)
one_less (m ∷ marks) (suc i) within h = omega (arith, one_less marks i (omega (arith, within)) h)

pub most_missing : (marks : List Bool) → missing_marks marks ≤ length marks
most_missing [] = omega arith
most_missing (true ∷ marks) = omega (arith, most_missing marks)
most_missing (false ∷ marks) = omega (arith, most_missing marks)

none_marked : (n i : ℕ) → get_or (replicate n false) i false ≡ false
none_marked zero i = refl
none_marked (suc n) zero = refl
none_marked (suc n) (suc i) = none_marked n i

module _ (p : Parts) (q : ℕ) where
  -- WHAT IS DUE GETS A SLOPE

  row_sloped : (marks : List Bool) (b : ℕ) (block : Block) (row : Row) → AreSound p q marks → block_at p.blocks b ≡ Some block
      → own_row p b ≡ Some row → asks_in marks q b block row ≡ true → Sloped p.blocks (own_row p) q b
  row_sloped marks b block row sound there has asked =
      let exits = exits_with (returns_read block row) block in
      elim (or_cases (counts q block) (list_any (leads_back marks b block q) exits) asked) [
        | inl e ↦ loops b block row there has e
        | inr any ↦
            let m = Any-from_list_any (leads_back marks b block q) exits any in
            let exit : Exit = m.1 in
            let two = and_parts (asks_back block q exit) (marked_at marks (leads_to b exit.way)) m.4 in
            leads b block row exit there has (m.0, m.2, m.3) two.0 (sound (leads_to b exit.way) two.1)
      ]

  asked_sloped : (marks : List Bool) (i : ℕ) → AreSound p q marks → (o : Option Block) → slice_get p.blocks i ≡ o
      → asks p marks q (suc i) o ≡ true → Sloped p.blocks (own_row p) q (suc i)
  asked_sloped marks i sound None is h = absurd (false≢true h)
  asked_sloped marks i sound (Some block) is h = by_row (own_row p (suc i)) refl h
    where
      by_row : (r : Option Row) → own_row p (suc i) ≡ r → asks_at marks q (suc i) block r ≡ true → Sloped p.blocks (own_row p) q (suc i)
      by_row None has asked = absurd (false≢true asked)
      by_row (Some row) has asked = row_sloped marks (suc i) block row sound is has asked

  sound_set : (marks : List Bool) (i : ℕ) → AreSound p q marks → is_due p q marks i ≡ true → AreSound p q (set marks i true)
  sound_set marks i sound due zero h = absurd (false≢true h)
  sound_set marks i sound due (suc j) h =
      elim (cases_eq j i) [
        | inl e ↦
            let asked = (and_parts (not (get_or marks i false)) (asks p marks q (suc i) (slice_get p.blocks i)) due).1 in
            subst (λ k. Sloped p.blocks (own_row p) q (suc k)) (sym e) (asked_sloped marks i sound (slice_get p.blocks i) refl asked)
        | inr ne ↦ sound (suc j) (sym (get_or-set_other marks i j true false ne) ∙ h)
      ]

  -- WHERE NOTHING IS DUE ALL ARE MARKED

  module _ (marks : List Bool) (none : (i : ℕ) → i < length p.blocks → is_due p q marks i ≡ false) where
    asked_marked : (b : ℕ) (block : Block) (row : Row) → block_at p.blocks b ≡ Some block → own_row p b ≡ Some row
        → asks_in marks q b block row ≡ true → marked_at marks b ≡ true
    asked_marked zero block row there has asked = absurd (cc)
    asked_marked (suc i) block row there has asked = by_mark (get_or marks i false) refl
      where
        due : asks p marks q (suc i) (slice_get p.blocks i) ≡ true
        due = ap (asks p marks q (suc i)) there ∙ ap (asks_at marks q (suc i) block) has ∙ asked

        by_mark : (m : Bool) → get_or marks i false ≡ m → get_or marks i false ≡ true
        by_mark true e = e
        by_mark false e =
            absurd (false≢true (sym (none i (slice_get_within p.blocks i block there))
            ∙ ap (λ m. not m && asks p marks q (suc i) (slice_get p.blocks i)) e ∙ due))

    pub all_marked : {b : ℕ} → Sloped p.blocks (own_row p) q b → marked_at marks b ≡ true
    all_marked (loops b block row there has is) =
        asked_marked b block row there has (ap (λ c. c || list_any (leads_back marks b block q) (exits_with (returns_read block row) block)) is)
    all_marked (leads b block row exit there has among asked next) =
        let exits = exits_with (returns_read block row) block in
        let back : leads_back marks b block q exit ≡ true = ap (λ a. a && marked_at marks (leads_to b exit.way)) asked ∙ all_marked next in
        let at : leads_back marks b block q (get_or exits among.0 exit) ≡ true = ap (leads_back marks b block q) among.2 ∙ back in
        let any = list_any_at (leads_back marks b block q) exits among.0 exit among.1 at in
        asked_marked b block row there has (ap (λ a. counts q block || a) any ∙ or_true (counts q block))
      where
        or_true : (c : Bool) → (c || true) ≡ true
        or_true true = refl
        or_true false = refl

  -- ROUNDS

  pub begins : (old : List Bool) → IsOn p q 0 old old false
  begins old = record {
    many = refl;
    sound = λ h. h;
    fewer = λ h. absurd (false≢true h);
    same = λ h. refl;
    none = λ h i within far. absurd (omega (arith, within, far));
  }

  at_most : (old new : List Bool) (marked : Bool) → (marked ≡ true → missing_marks new < missing_marks old) → (marked ≡ false → new ≡ old)
      → missing_marks new ≤ missing_marks old
  at_most old new true fewer same = omega (arith, fewer refl)
  at_most old new false fewer same = omega (arith, ap missing_marks (same refl))

  pub goes_on : (old v x : List Bool) (marked due : Bool) (steps place : ℕ) → IsOn p q steps old v marked → steps < length old → place
      ≡ length old - 1 - steps → due ≡ is_due p q v place → x ≡ marked_if due v place → IsOn p q (steps + 1) old x (marked || due)
  goes_on old v x marked true steps place on within at is put =
      let here : place < length v = omega (arith, within, at, on.many) in
      let unmarked = (and_parts (not (get_or v place false)) (asks p v q (suc place) (slice_get p.blocks place)) (sym is)).0 in
      record {
        many = ap length put ∙ length-set v place true ∙ on.many;
        sound = λ h. subst (AreSound p q) (sym put) (sound_set v place (on.sound h) (sym is));
        fewer = λ h. omega (arith, ap missing_marks put, one_less v place here (not_so (get_or v place false) unmarked), at_most old v marked on.fewer on.same);
        same = λ h. absurd (false≢true (sym (or_parts marked true h).1));
        none = λ h i inside far. absurd (false≢true (sym (or_parts marked true h).1));
      }
    where
      not_so : (m : Bool) → not m ≡ true → m ≡ false
      not_so true h = absurd (false≢true h)
      not_so false h = refl
  goes_on old v x marked false steps place on within at is put = record {
    many = ap length put ∙ on.many;
    sound = λ h. subst (AreSound p q) (sym put) (on.sound h);
    fewer = λ h. elim (or_cases marked false h) [
      | inl e ↦ omega (arith, ap missing_marks put, on.fewer e)
      | inr e ↦ absurd (false≢true e)
    ];
    same = λ h. put ∙ on.same (or_parts marked false h).0;
    none = λ h i inside far.
        let before = (or_parts marked false h).0 in
        elim (cases_eq i place) [
          | inl e ↦ subst (λ k. is_due p q old k ≡ false) (sym e) (subst (λ (ms : List Bool). is_due p q ms place ≡ false) (on.same before) (sym is))
          | inr ne ↦ on.none before i inside (past i inside far ne)
        ];
  }
    where
      past : (i : ℕ) → i < length old → length old ≤ i + (steps + 1) → i ≢ place → length old ≤ i + steps
      past i inside far ne =
          elim (cases_lt (i + steps) (length old)) [
            | inl lt ↦ (let same : i ≡ place = omega (arith, lt, far, at, inside) in absurd (ne same))
            | inr le ↦ le
          ]

  pub round_made : (old new : List Bool) (marked : Bool) (steps : ℕ) → IsOn p q steps old new marked → length old ≤ steps → IsRound p q old new marked
  round_made old new marked steps on all = record {
    many = on.many;
    sound = on.sound;
    fewer = on.fewer;
    same = on.same;
    none = λ h i within. on.none h i within (omega (arith, all));
  }

  -- no mark is sound
  pub none_sound : (n : ℕ) → AreSound p q (replicate n false)
  none_sound n zero h = absurd (false≢true h)
  none_sound n (suc i) h = absurd (false≢true (sym (none_marked n i) ∙ h))

  -- what a mark that is put where it is due makes of sound marks
  pub stay_sound : (old new : List Bool) (due : Bool) (place : ℕ) → due ≡ is_due p q old place → new ≡ marked_if due old place → StaySound p q old new
  stay_sound old new true place is put = (ap length put ∙ length-set old place true, λ h. subst (AreSound p q) (sym put) (sound_set old place h (sym is)))
  stay_sound old new false place is put = (ap length put, λ h. subst (AreSound p q) (sym put) h)

  pub stay_both : (old v new : List Bool) → StaySound p q old v → StaySound p q v new → StaySound p q old new
  stay_both old v new first second = (second.0 ∙ first.0, λ h. second.1 (first.1 h))

  -- sound marks of which none is due are all
  pub are_marks : (marks : List Bool) → length marks ≡ length p.blocks → AreSound p q marks
      → ((i : ℕ) → i < length marks → is_due p q marks i ≡ false) → AreMarks p q marks
  are_marks marks many sound none = record {
    many = many;
    sound = sound;
    whole = λ b h. all_marked marks (λ i within. none i (subst (λ n. i < n) (sym many) within)) h;
  }
