-- What tests found, where memory may have run out in the first of them.
use Rattle.std.proofs.Common.{◌≡◌, ◌⊎◌, inl, inr, List, ◌++◌, None, Some, Result, Ok, Err}
use Rattle.gw_object.specs.declared.fault.Fault.{Fault}
use Rattle.gw_object.specs.Reading.{out_of_memory}
use Rattle.gw_rules.specs.Checks.{Check, first_broken, Finds}
use Rattle.gw_rules.proofs.Broken.{stops_first, joined}
use Rattle.gw_rules.specs.Flow.{MayFind}

-- a fault of the first checks, or want of memory, is that of the first and further checks
pub found_first : (cs ds : List Check) (fault : Fault) → (first_broken cs ≡ Some fault) ⊎ (fault ≡ out_of_memory)
    → (first_broken (cs ++ ds) ≡ Some fault) ⊎ (fault ≡ out_of_memory)
found_first cs ds fault (inl h) = inl (stops_first cs ds fault h)
found_first cs ds fault (inr h) = inr h

takes_none : {X : Type 0} (r : Result X Fault) (cs : List Check) → Finds r cs → MayFind r cs
takes_none (Ok x) cs h = h
takes_none (Err fault) cs h = inl h

-- none of the first checks is broken: what a test of the further checks found that takes no memory is what all have
pub found_last : {X : Type 0} (r : Result X Fault) (cs ds : List Check) → first_broken cs ≡ None → Finds r ds → MayFind r (cs ++ ds)
found_last r cs ds h found = takes_none r (cs ++ ds) (joined r cs ds h found)
