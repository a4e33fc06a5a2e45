-- The statements of the origins in order are there.
use Rattle.std.proofs.Common.{◌≡◌, ◌<◌, ◌≤◌, ◌+◌, ℕ, ℤ, zero, suc, List, [], ◌∷◌, length, Option, Some, None, Bool, true, false, slice_get, refl, subst, arith}
use Rattle.std.specs.Prelude.{if◌then◌else◌, nat_lt}
use Rattle.std.proofs.lemmas.List.Elements.{All-nil, All-cons, All-append, All-push}
use Rattle.std.proofs.lemmas.Bool.Decides.{nat_tests}
use Rattle.std.proofs.lemmas.Option.{slice_get_within, get_or_from_slice_get}
use Rattle.gw_object.specs.declared.limits.TheConstants.{MOST_PROCEDURES}
use Rattle.gw_text.specs.declared.model.Statement.{Statement}
use Rattle.gw_names.specs.declared.known.Known.{Known}
use Rattle.gw_names.specs.Known.{found_in}
use Rattle.gw_names.specs.Naming.{Knows}
use Rattle.gw_names.specs.Places.{equ_number_of}
use Rattle.gw_names.proofs.Knowing.{declared_is}
use Rattle.gw_pieces.specs.declared.origins.Origin.{Origin}
use Rattle.gw_pieces.specs.Order.{is_origin, origin_at, origin_if, origins_of, origins_from, Lookup, places_called, Search, with_visited}
use Rattle.gw_pieces.specs.Order.{origin_unless_visited, visit_to, visit_with, visit_each, search_to, empty_search, ordered_by, order_by, lookup_by}
use Rattle.gw_pieces.specs.Order.{lookup_in, order_in, numbers_from}
use Rattle.gw_pieces.specs.Reasons.{StandBelow, AllThere}

-- what is looked up by what is known is what is looked up in the text
pub lookup_is : (ss : List Statement) (known : Known) → Knows ss known → lookup_by known ss (origins_from (found_in known.equ_numbers) 0 ss) ≡ lookup_in ss
lookup_is ss known knows = λ j. record {
  declared = declared_is ss known knows j;
  statements = ss;
  origins = origins_from (λ name. knows.places.equ_number name j) 0 ss;
}

-- WHERE THEY STAND

in_if : (b : Bool) (count i k : ℕ) → i < count → StandBelow count (if b then origin_at i k ∷ [] else [])
in_if true count i k below = All-cons (λ (o : Origin). o.statement < count) (origin_at i k) [] below (All-nil (λ (o : Origin). o.statement < count))
in_if false count i k below = All-nil (λ (o : Origin). o.statement < count)

-- those of statements stand in them
from : (numbers : List ℕ → Option ℤ) (count i : ℕ) (ss : List Statement) → i + length ss ≤ count → StandBelow count (origins_from numbers i ss)
from numbers count i [] fits = All-nil (λ (o : Origin). o.statement < count)
from numbers count i (s ∷ ss) fits =
    let P = λ (o : Origin). o.statement < count in
    let below : i < count = omega (arith, fits) in
    All-append P (origins_of numbers s i) (origins_from numbers (i + 1) ss)
    (All-append P (origin_if numbers s i 0) (origin_if numbers s i 1) (in_if (is_origin numbers s 0) count i 0 below)
    (in_if (is_origin numbers s 1) count i 1 below))
    (from numbers count (i + 1) ss (omega (arith, fits)))

module _ (l : Lookup) (count : ℕ) (there : StandBelow count l.origins) where
  abbrev Keeps : (Search → List ℕ → Search) → Type 0
  Keeps deeper = (s : Search) (places : List ℕ) → StandBelow count s.done → StandBelow count (deeper s places).done

  -- an origin that is visited is one of them
  is_there : (place : ℕ) (o : Origin) → slice_get l.origins place ≡ Some o → o.statement < count
  is_there place o at = subst (λ (x : Origin). x.statement < count) (get_or_from_slice_get l.origins place o o at)
      (there place o (slice_get_within l.origins place o at))

  found : (v : Option Bool) (place : ℕ) (o : Origin) → origin_unless_visited v (slice_get l.origins place) ≡ Some o → slice_get l.origins place ≡ Some o
  found (Some false) place o h = h
  found (Some true) place o h = absurd cc
  found None place o h = absurd cc

  to : (deeper : Search → List ℕ → Search) → Keeps deeper → (s : Search) (place : ℕ) (o : Option Origin)
      → ((x : Origin) → o ≡ Some x → x.statement < count) → StandBelow count s.done → StandBelow count (visit_to l deeper s place o).done
  to deeper keeps s place None stands h = h
  to deeper keeps s place (Some o) stands h =
      All-push (λ (x : Origin). x.statement < count) (deeper (with_visited s place) (places_called l o)).done o
      (keeps (with_visited s place) (places_called l o) h) (stands o refl)

  each : (deeper : Search → List ℕ → Search) → Keeps deeper → (s : Search) (places : List ℕ) → StandBelow count s.done
      → StandBelow count (visit_each l deeper s places).done
  each deeper keeps s [] h = h
  each deeper keeps s (place ∷ places) h =
      each deeper keeps (visit_with l deeper s place) places
      (to deeper keeps s place (origin_unless_visited (slice_get s.visited place) (slice_get l.origins place))
      (λ o is. is_there place o (found (slice_get s.visited place) place o is)) h)

  deep : (depth : ℕ) → Keeps (search_to l depth)
  deep zero s places h = h
  deep (suc depth) s places h = each (search_to l depth) (deep depth) s places h

  in_order : StandBelow count (ordered_by l)
  in_order = each (search_to l (length l.origins)) (deep (length l.origins)) (empty_search (length l.origins))
      (numbers_from 0 (length l.origins)) (All-nil (λ (o : Origin). o.statement < count))

  in_either : (b : Bool) → StandBelow count (if b then l.origins else ordered_by l)
  in_either true = there
  in_either false = in_order

-- the statement of each origin in order is there
pub all_there : (ss : List Statement) → AllThere ss (order_in ss)
all_there ss =
    let l = lookup_in ss in
    in_either l (length ss) (from (equ_number_of ss) (length ss) 0 ss (omega arith)) (nat_lt MOST_PROCEDURES (length l.origins))

-- where there are few they are put in order
several : (b : Bool) (l : Lookup) → b ≡ false → ordered_by l ≡ (if b then l.origins else ordered_by l)
several true l few = absurd cc
several false l few = refl

pub few_are_ordered : (l : Lookup) → length l.origins ≤ MOST_PROCEDURES → ordered_by l ≡ order_by l
few_are_ordered l few = several (nat_lt MOST_PROCEDURES (length l.origins)) l (grind (arith, nat_tests, few))
