-- The first arrivals, block after block.
use Rattle.std.proofs.Common.{◌≡◌, ℕ, suc, ◌+◌, ◌≤◌, ◌<◌, List, [], length, drop, drop-cons, get_or, Option, Some, None, is_some, true, false, refl}
use Rattle.std.proofs.Common.{sym, ap, ◌∙◌, arith}
use Rattle.std.proofs.lemmas.List.{drop_all}
use Rattle.std.proofs.lemmas.Option.{slice_get-get_or}
use Rattle.gw_object.specs.declared.blocks.Block.{Block}
use Rattle.gw_object.specs.declared.parts.Parts.{Parts}
use Rattle.gw_step.specs.declared.ends.End.{End}
use Rattle.gw_step.specs.Outcome.{Outcome, Gives, EndsBy, ◌>>=◌}
use Rattle.gw_rules.specs.Kinds.{block_at}
use Rattle.gw_step.specs.State.{State}
use Rattle.gw_step.specs.Start.{first_arrival, first_arrivals}
use Rattle.gw_machine.specs.Leaving.{Schedules}

add_one : (i : ℕ) → i + 1 ≡ suc i
add_one i = omega arith

-- the block at a place, from 0, has the number after it
pub block_here : (bs : List Block) (i : ℕ) (d : Block) → i < length bs → block_at bs (i + 1) ≡ Some (get_or bs i d)
block_here bs i d below = ap (block_at bs) (add_one i) ∙ slice_get-get_or bs i d below

module _ (p : Parts) (s : State) (i : ℕ) (d : Block) (below : i < length p.blocks) where
  abbrev bs : List Block
  bs = p.blocks

  one : first_arrivals p (i + 1) (drop i bs) s ≡ (first_arrival p (i + 1) (get_or bs i d) s >>= first_arrivals p (i + 1 + 1) (drop (i + 1) bs))
  unfolding first_arrivals
  one =
      ap (λ (xs : List Block). first_arrivals p (i + 1) xs s) (drop-cons bs i d below)
      ∙ ap (λ k. first_arrival p (i + 1) (get_or bs i d) s >>= first_arrivals p (i + 1 + 1) (drop k bs)) (sym (add_one i))

  goes_on : (t : State) → first_arrival p (i + 1) (get_or bs i d) s ≡ Gives t → first_arrivals p (i + 1) (drop i bs) s
      ≡ first_arrivals p (i + 1 + 1) (drop (i + 1) bs) t
  goes_on t h = one ∙ ap (λ o. o >>= first_arrivals p (i + 1 + 1) (drop (i + 1) bs)) h

  ends : (end : End) → first_arrival p (i + 1) (get_or bs i d) s ≡ EndsBy end → first_arrivals p (i + 1) (drop i bs) s ≡ EndsBy end
  ends end h = one ∙ ap (λ o. o >>= first_arrivals p (i + 1 + 1) (drop (i + 1) bs)) h

  -- a block whose time comes to a named end ends whatever comes after
  pub stops : (end : Option End) (t new : State) (total : Outcome State) → is_some end ≡ true
      → Schedules end (first_arrival p (i + 1) (get_or bs i d) s) t → first_arrivals p (i + 1) (drop i bs) s ≡ total → Schedules end total new
  stops None t new total there h so_far = absurd cc
  stops (Some end) t new total there h so_far = sym so_far ∙ ends end h

  pub continues : (end : Option End) (t : State) (total : Outcome State) → is_some end ≡ false
      → Schedules end (first_arrival p (i + 1) (get_or bs i d) s) t → first_arrivals p (i + 1) (drop i bs) s ≡ total
      → first_arrivals p (i + 1 + 1) (drop (i + 1) bs) t ≡ total
  continues None t total there h so_far = sym (goes_on t h) ∙ so_far
  continues (Some end) t total there h so_far = absurd cc

none_left : (p : Parts) (b : ℕ) (s : State) → first_arrivals p b [] s ≡ Gives s
unfolding first_arrivals
none_left p b s = refl

pub is_done : (p : Parts) (s : State) (i : ℕ) (total : Outcome State) → length p.blocks ≤ i → first_arrivals p (i + 1) (drop i p.blocks) s
    ≡ total → total ≡ Gives s
is_done p s i total past so_far = sym so_far ∙ ap (λ (xs : List Block). first_arrivals p (i + 1) xs s) (drop_all i p.blocks past) ∙ none_left p (i + 1) s
