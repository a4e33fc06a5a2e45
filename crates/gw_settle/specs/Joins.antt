-- Two states joined: what is known on both ways into a place.
use Rattle.std.specs.Prelude.{◌≡◌, ℕ, ◌≤◌, List, [], ◌∷◌, ◌++◌, Option, Some, None, Bool, IsTrue, filter, not, nat_lt, ◌&&◌, if◌then◌else◌, min}
use Rattle.std.specs.Option.{option_map}
use Rattle.gw_flow.specs.declared.abstract_state.Amount.{Amount}
use Rattle.gw_flow.specs.declared.state.ParamKind.{ParamKind as Working}
use Rattle.gw_rules.specs.Entries.{entry, amount_of}
use Rattle.gw_rules.specs.Rows.{ParamKind, Num, Ret, Row, kind_of, units_of, nonzero, kind_fits, params_fit, units_fit, IsOrdered}
use Rattle.gw_flow.specs.Known.{amounts_of}
use Rattle.gw_flow.specs.Viewed.{kind_viewed}
use Rattle.gw_settle.specs.declared.known.KnownKind.{KnownKind}
use Rattle.gw_settle.specs.declared.known.KnownParam.{KnownParam}
use Rattle.gw_settle.specs.Known.{kind_known, params_known}

-- the entry with this value for a number, if there is a value
abbrev pub one : {X : Type 0} → ℕ → Option X → List (ℕ × X)
one n None = []
one n (Some v) = (n, v) ∷ []

-- each entry has the value that a function has for its number, or goes
abbrev pub keep : {X : Type 0} → (ℕ → Option X) → List (ℕ × X) → List (ℕ × X)
keep f [] = []
keep f (e ∷ es) = one e.0 (f e.0) ++ keep f es

-- those of these numbers that are below a bound
abbrev pub below : ℕ → List ℕ → List ℕ
below bound ns = filter (λ n. nat_lt n bound) ns

-- and those that are not
abbrev pub not_below : ℕ → List ℕ → List ℕ
not_below bound ns = filter (λ n. not (nat_lt n bound)) ns

-- these numbers and those, ascending
abbrev pub union_of : List ℕ → List ℕ → List ℕ
union_of ns [] = ns
union_of ns (m ∷ ms) = filter (λ n. nat_lt n m) ns ++ m ∷ union_of (filter (λ n. nat_lt m n) ns) ms

-- what a parameter holds on either way: a number on both, or a return on both, to the blocks of either
abbrev pub joined_kind : Option ParamKind → Option ParamKind → Option ParamKind
joined_kind (Some Num) (Some Num) = Some Num
joined_kind (Some (Ret bs)) (Some (Ret cs)) = Some (Ret (union_of bs cs))
joined_kind kind other = None

-- a row with a state: the parameters that both have, the row's facilities, and the lesser units
abbrev pub join_rows : Row → Row → Row
join_rows row state = record {
  params = keep (λ p. joined_kind (kind_of row p) (kind_of state p)) row.params;
  facilities = row.facilities;
  units = keep (λ e. nonzero (min (units_of row e) (units_of state e))) row.units;
}

-- whether a state has at least what a row knows of parameters and units
abbrev pub is_within : Row → Row → Bool
is_within state row = params_fit state.params row.params && units_fit state.units row.units

-- a state has at least what a row knows of parameters and units
pub record Within (state row : Row) : Type 0 where
  pub params : (p : ℕ) → IsTrue (kind_fits (kind_of state p) (kind_of row p))
  pub units : (e : ℕ) → units_of row e ≤ units_of state e

-- a row once a state has come: where there is none it is the state; where the state has what the row knows it stays; else they are joined
abbrev pub with_state : Row → Option Row → Row
with_state state None = state
with_state state (Some row) = if is_within state row then row else join_rows row state

-- each of the two has what the join knows
abbrev pub JoinIsBelowBoth : Type 0
JoinIsBelowBoth = (row state : Row) → Within row (join_rows row state) × Within state (join_rows row state)

-- and what both have, the join has
abbrev pub JoinIsGreatest : Type 0
JoinIsGreatest = (row state other : Row) → Within row other → Within state other → Within (join_rows row state) other

-- the lists of a join ascend, and no amount is 0
abbrev pub JoinIsOrdered : Type 0
JoinIsOrdered = (row state : Row) → IsOrdered row → IsOrdered state → IsOrdered (join_rows row state)

-- AS THE CODE HAS THEM

-- what a parameter holds, if it is known
abbrev pub kind_in : Option KnownKind → Option ParamKind
kind_in kind = option_map kind_known kind

-- what a parameter holds by a row and by a state
abbrev pub kind_with : KnownKind → Option Working → Option ParamKind
kind_with kind other = joined_kind (Some (kind_known kind)) (option_map kind_viewed other)

-- parameters become others, with what one holds by a row and by a state
abbrev pub AddsJoined : KnownParam → Row → List KnownParam → List KnownParam → Type 0
AddsJoined param state old new = params_known new ≡ params_known old
    ++ one param.number (joined_kind (Some (kind_known param.kind)) (kind_of state param.number))

-- the parameters of a row that a state has too
abbrev pub params_with : List KnownParam → Row → List (ℕ × ParamKind)
params_with params state = keep (λ p. joined_kind (entry (params_known params) p) (kind_of state p)) (params_known params)

-- amounts become others, with so many units of an entity, if there are any
abbrev pub AddsUnits : ℕ → ℕ → List Amount → List Amount → Type 0
AddsUnits entity number old new = amounts_of new ≡ amounts_of old ++ one entity (nonzero number)

-- the lesser of the units of a row and of a state
abbrev pub units_with : List Amount → Row → List (ℕ × ℕ)
units_with units state = keep (λ e. nonzero (min (amount_of (amounts_of units) e) (units_of state e))) (amounts_of units)
