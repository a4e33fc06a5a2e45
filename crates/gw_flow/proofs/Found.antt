-- What tests found, where memory may have run out.
use Rattle.std.proofs.Common.{◌≡◌, ◌⊎◌, inl, inr, ℕ, ◌<◌, List, ◌++◌, length, drop, get_or, Option, Some, None, Result, Ok, Err}
use Rattle.gw_object.specs.declared.fault.Fault.{Fault}
use Rattle.gw_rules.specs.Checks.{Check, Finds, first_broken, checks_by_number}
use Rattle.gw_rules.proofs.Broken.{stops, stops_first, joined}
use Rattle.gw_object.specs.Reading.{out_of_memory}
use Rattle.gw_rules.specs.Flow.{MayFind}

-- none of the first checks is broken: what a test of the further checks found is what all have
pub found_later : {X : Type 0} (r : Result X Fault) (cs ds : List Check) → first_broken cs ≡ None → MayFind r ds → MayFind r (cs ++ ds)
found_later (Ok x) cs ds none h = joined (Ok x) cs ds none h
found_later {X} (Err fault) cs ds none (inl h) = inl (joined {X = X} (Err fault) cs ds none h)
found_later (Err fault) cs ds none (inr h) = inr h

-- a fault of one element, the first that is left, is that of all
pub found_here : {A : Type 0} (f : ℕ → A → List Check) (number : ℕ) (xs : List A) (i : ℕ) (d : A) (total : Option Fault) → i < length xs
    → first_broken (checks_by_number f number (drop i xs)) ≡ total →
    (fault : Fault) → (first_broken (f number (get_or xs i d)) ≡ Some fault) ⊎ (fault ≡ out_of_memory) → (total ≡ Some fault) ⊎ (fault ≡ out_of_memory)
found_here f number xs i d total below so_far fault (inl h) = inl (stops f number xs i d total below so_far fault h)
found_here f number xs i d total below so_far fault (inr h) = inr h

-- a fault of the first checks is that of the first and further checks
pub found_first : (cs ds : List Check) (fault : Fault) → (first_broken cs ≡ Some fault) ⊎ (fault ≡ out_of_memory)
    → (first_broken (cs ++ ds) ≡ Some fault) ⊎ (fault ≡ out_of_memory)
found_first cs ds fault (inl h) = inl (stops_first cs ds fault h)
found_first cs ds fault (inr h) = inr h

-- none of the first checks is broken: what a test of the further checks found is what all have, and memory didn't run out
pub found_after : {X : Type 0} (r : Result X Fault) (cs ds : List Check) → first_broken cs ≡ None → Finds r ds → MayFind r (cs ++ ds)
found_after (Ok x) cs ds none h = joined (Ok x) cs ds none h
found_after {X} (Err fault) cs ds none h = inl (joined {X = X} (Err fault) cs ds none h)
