-- What is found where slopes are tried, one parameter after the other.
use Rattle.std.specs.Prelude.{◌≡◌, ◌≢◌, ◌⊎◌, ℕ, ◌<◌, ◌≤◌, List, Option, Some, Bool, true, false, is_some, ◌&&◌, ◌||◌, ◌+◌, [], ◌∷◌}
use Rattle.gw_object.specs.declared.blocks.Block.{Block}
use Rattle.gw_object.specs.Limits.{most_parameters}
use Rattle.gw_object.specs.Grammar.{HasSpelling}
use Rattle.gw_object.specs.declared.fault.Fault.{Fault}
use Rattle.gw_object.specs.declared.parts.Parts.{Parts}
use Rattle.gw_rules.specs.Checks.{first_broken}
use Rattle.gw_rules.specs.Flow.{own_row}
use Rattle.gw_rules.specs.Rows.{Row}
use Rattle.gw_rules.specs.Weights.{weight_checks, WeightsPass}
use Rattle.gw_rules.specs.WeightsCodes as codes
use Rattle.gw_weighing.specs.Certificates.{with_weights, AreCertificate, HasLeastWeights, DifferInWeights}
use Rattle.gw_slopes.specs.Sloped.{counts, AreSlopes}
use Rattle.gw_slopes.specs.declared.weighing.Refusal.{Refusal}
use Rattle.gw_slopes.specs.declared.weighing.Refusal.TheVariants.{OutOfMemory, PastLimit}

-- parts with these slopes in place of their own: they are of version 2 then
abbrev pub with_slopes : Parts → List (Option (ℕ × ℕ)) → Parts
with_slopes p slopes = record p { version = 2; slopes = slopes }

-- but for weights and slopes, and for the version, which is 2, these parts are the same
abbrev pub DifferInSlopes : Parts → Parts → Type 0
DifferInSlopes p q = with_weights (with_slopes p q.slopes) q.weights q.chain_weights ≡ q

-- whether one of these blocks, of which the first has the number b, is a LOOP on a parameter, and has a row
abbrev pub uses : (ℕ → Option Row) → ℕ → ℕ → List Block → Bool
uses rows q b [] = false
uses rows q b (block ∷ bs) = (counts q block && is_some (rows b)) || uses rows q (b + 1) bs

-- whether a parameter is tried: a LOOP that has a row uses it
abbrev pub is_tried : Parts → ℕ → Bool
is_tried p q = uses (own_row p) q 1 p.blocks

-- the slopes of a parameter help no weights to pass in an object
pub record HelpsNone (p : Parts) (q : ℕ) : Type 0 where
  pub slopes : List (Option (ℕ × ℕ))
  pub are : AreSlopes p q slopes
  pub none : (us cs : List ℕ) → HasSpelling (with_weights (with_slopes p slopes) us cs) → AreCertificate (with_slopes p slopes) us cs → ⊥

-- nor do those of the parameters before one
abbrev pub HelpNoneBefore : Parts → ℕ → Type 0
HelpNoneBefore p q = (r : ℕ) → 1 ≤ r → r < q → is_tried p r ≡ true → HelpsNone p r

-- parts have the slopes of the first parameter for which the least weights pass
pub record HasSlopes (p o : Parts) : Type 0 where
  pub parameter : ℕ
  pub tried : is_tried p parameter ≡ true
  pub before : HelpNoneBefore p parameter
  pub rest : DifferInSlopes p o
  pub slopes : AreSlopes p parameter o.slopes
  pub passes : WeightsPass o
  pub least : HasSpelling o → HasLeastWeights o

-- but for weights and slopes, and for the version, these parts are the same
abbrev pub AreAlike : Parts → Parts → Type 0
AreAlike p q = record p { version = q.version; weights = q.weights; slopes = q.slopes; chain_weights = q.chain_weights } ≡ q

-- what trying the slopes on a parameter made of parts, and whether the least weights for these pass
pub record IsTrial (p q : Parts) (parameter : ℕ) (pass : Bool) : Type 0 where
  pub rest : DifferInSlopes p q
  pub slopes : AreSlopes p parameter q.slopes
  pub least : HasSpelling q → HasLeastWeights q
  pub passes : pass ≡ true → WeightsPass q
  pub none : pass ≡ false → HelpsNone p parameter

-- what trying a parameter, if it is tried, made of parts, and whether its slopes help
pub record IsStep (p q : Parts) (parameter : ℕ) (helps : Bool) : Type 0 where
  pub alike : AreAlike p q
  pub tried : helps ≡ true → is_tried p parameter ≡ true
  pub trial : helps ≡ true → IsTrial p q parameter helps
  pub none : helps ≡ false → is_tried p parameter ≡ true → HelpsNone p parameter

-- what trying one parameter after the other made of parts, and whether one was found
pub record IsSearched (p q : Parts) (found : Bool) : Type 0 where
  pub alike : AreAlike p q
  pub has : found ≡ true → HasSlopes p q
  pub none : found ≡ false → HelpNoneBefore p (most_parameters + 1)

-- the first fault of the weights of parts is that of an edge
pub record HasEdgeFault (b : Parts) : Type 0 where
  pub fault : Fault
  pub broken : first_broken (weight_checks b) ≡ Some fault
  pub edge : fault.code ≡ codes.weight_edge

-- OUTCOMES

-- parts are those of the other ones where the slopes on no parameter help; else they have the slopes of the first that do, and the least weights for these
abbrev pub AreTried : Parts → Parts → Type 0
AreTried p o = ((o ≡ p) × HelpNoneBefore p (most_parameters + 1)) ⊎ (HasSlopes p o × HasLeastWeights o)

-- an object with slopes, and weights that pass, is too long
pub record IsPastLimit (p : Parts) : Type 0 where
  pub sloped : Parts
  pub has : HasSlopes p sloped
  pub long : HasSpelling sloped → ⊥

-- that an object is too long
abbrev pub past_limit : Refusal
past_limit = PastLimit

-- why parts that fail at an edge get no weights
abbrev pub IsUntried : Parts → Refusal → Type 0
IsUntried p OutOfMemory = Unit {0}
IsUntried p PastLimit = IsPastLimit p

-- the first fault of the weights of parts, if there is one, isn't that of an edge
abbrev pub FailsAtNoEdge : Parts → Type 0
FailsAtNoEdge b = (fault : Fault) → first_broken (weight_checks b) ≡ Some fault → fault.code ≢ codes.weight_edge

-- what comes of parts with the least weights: they stay, unless they fail at an edge
abbrev pub IsEnded : Parts → Parts → Type 0
IsEnded b o = (FailsAtNoEdge b × (o ≡ b)) ⊎ (HasEdgeFault b × AreTried b o)

-- and why nothing comes
abbrev pub IsEndedBy : Parts → Refusal → Type 0
IsEndedBy b OutOfMemory = Unit {0}
IsEndedBy b PastLimit = HasEdgeFault b × IsPastLimit b

-- what comes of parts, once they have the least weights
pub record IsWeighed (p o : Parts) : Type 0 where
  pub base : Parts
  pub rest : DifferInWeights p base
  pub least : HasLeastWeights base
  pub ended : IsEnded base o

-- once they have the least weights, they fail at an edge, and with the slopes that help they are too long
pub record IsTooLong (p : Parts) : Type 0 where
  pub base : Parts
  pub rest : DifferInWeights p base
  pub least : HasLeastWeights base
  pub fails : HasEdgeFault base
  pub long : IsPastLimit base

-- why no object comes of parts
abbrev pub IsRefusal : Parts → Refusal → Type 0
IsRefusal p OutOfMemory = Unit {0}
IsRefusal p PastLimit = IsTooLong p
