-- The current events chain, whose first may stand apart from the buckets of the others.
use Rattle.std.specs.Prelude.{◌≡◌, List, Option, Bool, true, false, int_lt, IfSome, IfNone}
use Rattle.gw_members.specs.declared.tx.Member.{Member}
use Rattle.gw_chains.specs.Chunks.{begins_in}

-- who stands apart, if anybody does, has no lower priority than the first of the others
abbrev pub StandsFirst : Option Member → List Member → Type 0
StandsFirst head others = IfSome head (λ h. begins_in (λ m. int_lt h.priority m.priority) others ≡ false)

-- who stands apart and fails a test, if anybody does
abbrev pub IsHeadThatFails : (Member → Bool) → Option Member → Option Member → Type 0
IsHeadThatFails passes head found =
    IfSome found (λ h. (head ≡ found) × (passes h ≡ false)) × IfNone found (IfSome head (λ h. passes h ≡ true))
