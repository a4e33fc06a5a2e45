-- Abstract states: what is known of a transaction that is about to enter a block.
use Rattle.std.specs.Prelude.{◌≡◌, ◌≢◌, ℕ, ◌≤◌, ◌<◌, ◌^◌, List, [], length, Option, Some, None, Bool, IsTrue, true, false, ◌&&◌, ◌==◌, nat_eq, nat_le}
use Rattle.std.specs.Prelude.{if◌then◌else◌, All, AllPairs}
use Rattle.std.specs.List.{list_all}
use Rattle.std.specs.Cmp.Lexicographic.{pointwise}
use Rattle.gw_rules.specs.Entries.{lists, with_number, without_number, entry, amount_of, with_entry}

-- what a parameter is known to hold: a number, or the return to one of these blocks
pub data ParamKind : Type 0 where
  Num : ParamKind
  Ret : (blocks : List ℕ) → ParamKind

-- an abstract state: the parameters that are sure to be set and what they hold, exactly the facilities that are owned,
-- and the units that are sure to be held, by entity
pub record Row : Type 0 where
  pub params : List (ℕ × ParamKind)
  pub facilities : List ℕ
  pub units : List (ℕ × ℕ)

-- the blocks of a return ascend
abbrev pub KindAscends : ParamKind → Type 0
KindAscends Num = Unit {0}
KindAscends (Ret bs) = AllPairs (λ a b. a < b) bs

-- the lists of a state ascend, each number in them once, and no amount is 0
pub record IsOrdered (row : Row) : Type 0 where
  pub params : AllPairs (λ a b. a.0 < b.0) row.params
  pub returns : All (λ e. KindAscends e.1) row.params
  pub facilities : AllPairs (λ a b. a < b) row.facilities
  pub units : AllPairs (λ a b. a.0 < b.0) row.units
  pub amounts : All (λ e. e.1 ≢ 0) row.units

-- what a parameter holds, if it is set
abbrev pub kind_of : Row → ℕ → Option ParamKind
kind_of row p = entry row.params p

-- whether a parameter is set to a number
abbrev pub is_number : Option ParamKind → Bool
is_number None = false
is_number (Some Num) = true
is_number (Some (Ret bs)) = false

-- whether a parameter is set to a return
abbrev pub is_return : Option ParamKind → Bool
is_return None = false
is_return (Some Num) = false
is_return (Some (Ret bs)) = true

-- the blocks to which a parameter is known to return, if it holds a return
abbrev pub return_blocks : Option ParamKind → List ℕ
return_blocks None = []
return_blocks (Some Num) = []
return_blocks (Some (Ret bs)) = bs

-- whether a facility is owned
abbrev pub owns : Row → ℕ → Bool
owns row f = lists row.facilities f

-- the units of a storage or a queue that are sure to be held
abbrev pub units_of : Row → ℕ → ℕ
units_of row e = amount_of row.units e

-- it is known that no facility is owned, and nothing else is known: of no parameter that it is set, of no units that they are held
abbrev pub is_empty : Row → Bool
is_empty row = (length row.params == 0) && (length row.facilities == 0) && (length row.units == 0)

-- a state of which nothing is known, but that no facility is owned
abbrev pub nothing_known : Row
nothing_known = record { params = []; facilities = []; units = [] }

-- the state once a parameter is set to what is of this kind
abbrev pub with_parameter : ℕ → ParamKind → Row → Row
with_parameter p kind row = record row { params = with_entry p (Some kind) row.params }

-- the state where these facilities are owned
abbrev pub with_facilities : List ℕ → Row → Row
with_facilities fs row = record row { facilities = fs }

-- the state once a facility is owned
abbrev pub with_facility : ℕ → Row → Row
with_facility f row = with_facilities (with_number f row.facilities) row

-- the state once a facility is given up
abbrev pub without_facility : ℕ → Row → Row
without_facility f row = with_facilities (without_number f row.facilities) row

-- what is known of a copy: the parameters are those of its parent, and it owns and holds nothing
abbrev pub parameters_alone : Row → Row
parameters_alone row = record row { facilities = []; units = [] }

-- a number that isn't 0
abbrev pub nonzero : ℕ → Option ℕ
nonzero n = if n == 0 then None else Some n

-- the state once so many units of an entity are held; of none there is no entry
abbrev pub with_units : ℕ → ℕ → Row → Row
with_units e n row = record row { units = with_entry e (nonzero n) row.units }

-- each amount has room for what a block adds, and each block of a return one for the number of the block after it
pub record HasRoom (row : Row) : Type 0 where
  pub amounts : (e : ℕ) → units_of row e ≤ 2 ^ 62
  pub returns : (p : ℕ) → All (λ b. b < 65535) (return_blocks (kind_of row p))

-- FITS

-- whether what a parameter holds fits what a row says of it: anything where the row says nothing, a number for a
-- number, and for a return one to some of the same blocks
abbrev pub kind_fits : Option ParamKind → Option ParamKind → Bool
kind_fits kind None = true
kind_fits (Some Num) (Some Num) = true
kind_fits (Some (Ret bs)) (Some (Ret cs)) = list_all (λ b. lists cs b) bs
kind_fits kind said = false

-- whether what is held suffices where this is asked
abbrev pub suffices : ParamKind → ParamKind → Bool
suffices held asked = kind_fits (Some held) (Some asked)

-- a state fits a row: it has at least the row's parameters, exactly its facilities, and at least its units
pub record Fits (state row : Row) : Type 0 where
  pub params : (p : ℕ) → IsTrue (kind_fits (kind_of state p) (kind_of row p))
  pub facilities : state.facilities ≡ row.facilities
  pub units : (e : ℕ) → units_of row e ≤ units_of state e

-- whether parameters fit each entry of others
abbrev pub params_fit : List (ℕ × ParamKind) → List (ℕ × ParamKind) → Bool
params_fit params others = list_all (λ e. kind_fits (entry params e.0) (entry others e.0)) others

-- whether units are at least those of each entry of others
abbrev pub units_fit : List (ℕ × ℕ) → List (ℕ × ℕ) → Bool
units_fit units others = list_all (λ e. nat_le (amount_of others e.0) (amount_of units e.0)) others

-- whether a state fits a row, tested at the numbers that the row has
abbrev pub fits : Row → Row → Bool
fits state row = params_fit state.params row.params && pointwise nat_eq state.facilities row.facilities && units_fit state.units row.units
