-- Rows that have room for what a block adds, and for the block after a return.
use Rattle.std.proofs.Common.{◌≡◌, ℕ, zero, suc, ◌≤◌, length, map, None, option_map, ap, subst, get_or, IsTrue, ◌<◌, ◌^◌, List, [], ◌∷◌, Option, Some}
use Rattle.std.proofs.Common.{Bool, true, false, ◌==◌, arith}
use Rattle.std.specs.Prelude.{All, IfSome, unwrap_or, if◌then◌else◌}
use Rattle.std.proofs.lemmas.Bool.{false≢true}
use Rattle.std.proofs.lemmas.List.Elements.{All-nil, All-head, All-tail}
use Rattle.gw_object.specs.declared.parts.TableKind.{TableKind}
use Rattle.gw_object.specs.declared.parts.TableKind.TheVariants.{Num as TableNum, Ret as TableRet}
use Rattle.gw_object.specs.declared.parts.TableParameter.{TableParameter}
use Rattle.gw_object.specs.declared.parts.ReturnRow.{ReturnRow}
use Rattle.gw_object.specs.declared.parts.TableState.{TableState}
use Rattle.gw_object.specs.Grammar.{HeldFits, StateFits}
use Rattle.gw_object.specs.declared.blocks.Units.{Units}
use Rattle.gw_object.specs.declared.blocks.Block.{Block}
use Rattle.gw_object.specs.declared.parts.Parts.{Parts}
use Rattle.gw_rules.specs.Kinds.{is_call_at}
use Rattle.gw_rules.specs.KindsLaws.{ReturnsHold}
use Rattle.gw_rules.specs.Entries.{entry, amount_of}
use Rattle.gw_rules.specs.Rows.{Row, ParamKind, HasRoom, return_blocks}
use Rattle.gw_rules.specs.Flow.{row_at}
use Rattle.gw_rules.specs.Seen.{row_blocks, HaveNext, kind_said, params_said, units_seen, row_meaning}

-- what holds of no blocks, and of the blocks of each return row, holds of those of the row of any number
pub row_blocks_keep : (P : List ℕ → Type 0) → P [] → (rows : List ReturnRow) → All (λ (row : ReturnRow). P row.blocks) rows → (r : ℕ) → P (row_blocks rows r)
row_blocks_keep P none [] h r = none
row_blocks_keep P none (x ∷ xs) h zero = All-head (λ (row : ReturnRow). P row.blocks) x xs h
row_blocks_keep P none (x ∷ xs) h (suc r) = row_blocks_keep P none xs (All-tail (λ (row : ReturnRow). P row.blocks) x xs h) r

first_or_later : (b : Bool) (n : ℕ) (later : Option ℕ) → n ≤ 2 ^ 62 → unwrap_or later 0 ≤ 2 ^ 62 → unwrap_or (if b then Some n else later) 0 ≤ 2 ^ 62
first_or_later true n later h k = h
first_or_later false n later h k = k

-- where each entry of a list has room, so does what is read for any entity
pub entries_have_room : {X : Type 0} (entity number : X → ℕ) (xs : List X) → All (λ x. number x ≤ 2 ^ 62) xs → (e : ℕ)
    → amount_of (map (λ x. (entity x, number x)) xs) e ≤ 2 ^ 62
entries_have_room entity number [] h e = omega arith
entries_have_room entity number (x ∷ xs) h e =
    first_or_later (entity x == e) (number x) (entry (map (λ y. (entity y, number y)) xs) e) (All-head (λ y. number y ≤ 2 ^ 62) x xs h)
    (entries_have_room entity number xs (All-tail (λ y. number y ≤ 2 ^ 62) x xs h) e)

-- so have the units of a row
units_have_room : (us : List Units) → All HeldFits us → (e : ℕ) → amount_of (units_seen us) e ≤ 2 ^ 62
units_have_room us h e = entries_have_room (λ (u : Units). u.entity) (λ (u : Units). u.number) us (λ i d within. omega (arith, (h i d within).most)) e

-- what a row says that a parameter holds returns to blocks after which there is a number
said_next : (rows : List ReturnRow) → HaveNext rows → (kind : TableKind) → All (λ b. b < 65535) (return_blocks (Some (kind_said rows kind)))
said_next rows next TableNum = All-nil (λ b. b < 65535)
said_next rows next (TableRet r) = row_blocks_keep (λ bs. All (λ b. b < 65535) bs) (All-nil (λ b. b < 65535)) rows next r

this_or_later : (b : Bool) (kind : ParamKind) (later : Option ParamKind) → All (λ b. b < 65535) (return_blocks (Some kind))
    → All (λ b. b < 65535) (return_blocks later) → All (λ b. b < 65535) (return_blocks (if b then Some kind else later))
this_or_later true kind later h k = h
this_or_later false kind later h k = k

-- and so does what is read for any parameter
pub returns_have_room : (rows : List ReturnRow) → HaveNext rows → (ps : List TableParameter) (q : ℕ)
    → All (λ b. b < 65535) (return_blocks (entry (params_said rows ps) q))
returns_have_room rows next [] q = All-nil (λ b. b < 65535)
returns_have_room rows next (p ∷ ps) q =
    this_or_later (p.number == q) (kind_said rows p.kind) (entry (params_said rows ps) q) (said_next rows next p.kind) (returns_have_room rows next ps q)

-- ROWS

-- a row of an object's table has room
seen_has_room : (rows : List ReturnRow) → HaveNext rows → (row : TableState) → StateFits row → HasRoom (row_meaning rows row)
seen_has_room rows next row fits = record { amounts = units_have_room row.units fits.each_unit; returns = returns_have_room rows next row.parameters }

module _ (returns : List ReturnRow) (next : HaveNext returns) where
  this_has_room : (own : Option TableState) (row : Row) → IfSome own StateFits → option_map (row_meaning returns) own ≡ Some row → HasRoom row
  this_has_room None row fits is = absurd cc
  this_has_room (Some own) row fits is = subst HasRoom (ap (λ r. unwrap_or r (row_meaning returns own)) is) (seen_has_room returns next own fits)

  -- and so has the one of each block
  pub rows_have_room : (states : List (Option TableState)) → All (λ own. IfSome own StateFits) states → (b : ℕ) (row : Row)
      → row_at (map (option_map (row_meaning returns)) states) b ≡ Some row → HasRoom row
  rows_have_room states fits zero row is = absurd cc
  rows_have_room [] fits (suc b) row is = absurd cc
  rows_have_room (own ∷ states) fits (suc zero) row is = this_has_room own row (All-head (λ r. IfSome r StateFits) own states fits) is
  rows_have_room (own ∷ states) fits (suc (suc b)) row is = rows_have_room states (All-tail (λ r. IfSome r StateFits) own states fits) (suc b) row is

-- RETURN ROWS

-- a call that is there is one of the blocks
pub call_below : (bs : List Block) (b : ℕ) → IsTrue (is_call_at bs b) → b ≤ length bs
call_below bs zero h = omega arith
call_below [] (suc b) h = absurd (false≢true h)
call_below (x ∷ bs) (suc zero) h = omega arith
call_below (x ∷ bs) (suc (suc b)) h = let below = call_below bs (suc b) h in omega arith

-- after the blocks of return rows there is a number
pub calls_have_next : (p : Parts) → length p.blocks ≤ 4096 → All (ReturnsHold p) p.returns → HaveNext p.returns
calls_have_next p few calls i d within j e inside =
    let below = call_below p.blocks (get_or (get_or p.returns i d).blocks j e) (calls i d within j e inside) in
    omega (arith, below, few)
