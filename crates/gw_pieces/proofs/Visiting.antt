-- The order is found by visits.
use Rattle.std.proofs.Common.{◌≡◌, ◌∙◌, ◌<◌, ◌-◌, ◌+◌, ℕ, suc, List, [], ◌∷◌, ◌++◌, Some, Bool, slice_get, sym, ap, arith}
use Rattle.gw_pieces.specs.declared.origins.Origin.{Origin}
use Rattle.gw_pieces.specs.Order.{Lookup, Search, with_done, with_visited, origin_unless_visited, places_called, visit_to, visit_with, visit_each}
use Rattle.gw_pieces.specs.Order.{search_to, numbers_from}

module _ (l : Lookup) where
  -- an origin is visited: it is marked, what it calls is visited, and it gets its place
  pub visited : (deeper : Search → List ℕ → Search) (before marked after : Search) (place : ℕ) (o : Origin) (done : List Origin) → Some o
      ≡ origin_unless_visited (slice_get before.visited place) (slice_get l.origins place)
      → marked ≡ with_visited before place → after ≡ deeper marked (places_called l o) → done ≡ after.done ++ o ∷ []
      → record { visited = after.visited; done = done } ≡ visit_with l deeper before place
  visited deeper before marked after place o done is mark next grown =
      ap (λ d. search after.visited d) grown
      ∙ ap (λ s. with_done s o) (next ∙ ap (λ s. deeper s (places_called l o)) mark)
      ∙ ap (visit_to l deeper before place) is
    where
      search : List Bool → List Origin → Search
      search v d = record { visited = v; done = d }

  -- none is visited deeper than 0
  pub not_deeper : (depth : ℕ) (s : Search) (places : List ℕ) → depth ≡ 0 → s ≡ search_to l depth s places
  not_deeper depth s places none = ap (λ d. search_to l d s places) (sym none)

  -- and else one less deep
  pub less_deep : (depth : ℕ) (s : Search) (places : List ℕ) → 0 < depth → visit_each l (search_to l (depth - 1)) s places ≡ search_to l depth s places
  less_deep depth s places some =
      let one : suc (depth - 1) ≡ depth = omega (arith, some) in
      ap (λ d. search_to l d s places) one

  -- the origin at a place is visited, and those behind it are left
  pub next_place : (deeper : Search → List ℕ → Search) (total before after : Search) (place most : ℕ) → place < most → after
      ≡ visit_with l deeper before place → total ≡ visit_each l deeper before (numbers_from place (most - place)) → total
      ≡ visit_each l deeper after (numbers_from (place + 1) (most - (place + 1)))
  next_place deeper total before after place most below visit so_far =
      let one : most - place ≡ suc (most - (place + 1)) = omega (arith, below) in
      so_far
      ∙ ap (λ n. visit_each l deeper before (numbers_from place n)) one
      ∙ ap (λ s. visit_each l deeper s (numbers_from (place + 1) (most - (place + 1)))) (sym visit)
