-- States whose lists ascend, and whose amounts aren't 0.
use Rattle.std.proofs.Common.{◌≡◌, ◌≢◌, ℕ, zero, ◌<◌, get_or, Bool, true, false, ◌==◌, if◌then◌else◌, List, [], ◌∷◌, ◌++◌, Option, Some, None, refl}
use Rattle.std.proofs.Common.{sym, subst, append_assoc, true≢false, ◌∙◌, arith}
use Rattle.std.specs.Prelude.{All, AllPairs, filter, nat_lt, not, option_map, option_to_list}
use Rattle.std.proofs.lemmas.List.Elements.{All-nil, All-cons, All-append, All-map, All-filter}
use Rattle.std.proofs.lemmas.List.Kept.{AllPairs-filter}
use Rattle.std.proofs.lemmas.Bool.{eq-eqb}
use Rattle.gw_object.specs.declared.blocks.Units.{Units}
use Rattle.gw_object.specs.declared.parts.TableKind.{TableKind}
use Rattle.gw_object.specs.declared.parts.TableKind.TheVariants.{Num as TableNum, Ret as TableRet}
use Rattle.gw_object.specs.declared.parts.TableParameter.{TableParameter}
use Rattle.gw_object.specs.declared.parts.TableState.{TableState}
use Rattle.gw_object.specs.declared.parts.ReturnRow.{ReturnRow}
use Rattle.gw_object.specs.Grammar.{HeldFits, AreAscending, IsAscending}
use Rattle.gw_rules.proofs.Rooms.{row_blocks_keep}
use Rattle.gw_rules.specs.declared.set_parameters.ParameterKind.{ParameterKind}
use Rattle.gw_rules.specs.declared.set_parameters.ParameterKind.TheVariants.{Num as OwnNum, Ret as OwnRet, RetTo as OwnRetTo}
use Rattle.gw_rules.specs.declared.set_parameters.Parameter.{Parameter}
use Rattle.gw_flow.specs.declared.abstract_state.Amount.{Amount}
use Rattle.gw_flow.specs.declared.abstract_state.StateParts.{StateParts}
use Rattle.gw_flow.specs.declared.state.Param.{Param}
use Rattle.gw_rules.specs.Entries.{in_place, with_number, with_entry}
use Rattle.gw_rules.specs.Rows.{Row, ParamKind, KindAscends, IsOrdered, with_parameter, with_facility, without_facility, with_units, nonzero}
use Rattle.gw_rules.specs.Seen.{row_blocks, kind_seen, kind_said, row_meaning}
use Rattle.gw_flow.specs.Known.{PartsAscend, known_row}
use Rattle.gw_flow.specs.Viewed.{kind_viewed, row_view}
use Rattle.gw_flow.proofs.Ascending.{Ascends, All-from_map, AllPairs-map, AllPairs-from_map, ascends_placed}

-- RETURN ROWS

one_ascends : {X : Type 0} (key : X → ℕ) (x : X) → Ascends key (x ∷ [])
one_ascends key x i j d lt within = absurd (omega arith)

module _ (rows : List ReturnRow) (up : All AreAscending rows) where
  blocks_ascend : (r : ℕ) → AllPairs (λ a b. a < b) (row_blocks rows r)
  blocks_ascend r = row_blocks_keep (λ bs. AllPairs (λ a b. a < b) bs) (λ i j d lt within. absurd (omega arith)) rows up r

  pub seen_ascends : (kind : ParameterKind) → KindAscends (kind_seen rows kind)
  seen_ascends OwnNum = tt
  seen_ascends (OwnRet r) = blocks_ascend r
  seen_ascends (OwnRetTo b) = one_ascends (λ n. n) b

  said_ascends : (kind : TableKind) → KindAscends (kind_said rows kind)
  said_ascends TableNum = tt
  said_ascends (TableRet r) = blocks_ascend r

  -- PARTS

  -- what parts say whose lists ascend is ordered
  pub parts_ordered : (s : StateParts) → PartsAscend s → IsOrdered (known_row rows s)
  parts_ordered s h = record {
    params = AllPairs-map (λ (a b : ℕ × ParamKind). a.0 < b.0) (λ (p : Parameter). (p.number, kind_seen rows p.kind)) s.parameters h.parameters;
    returns = All-map (λ (e : ℕ × ParamKind). KindAscends e.1) (λ (p : Parameter). (p.number, kind_seen rows p.kind)) s.parameters
        (λ i d within. seen_ascends (get_or s.parameters i d).kind);
    facilities = h.facilities;
    units = AllPairs-map (λ (a b : ℕ × ℕ). a.0 < b.0) (λ (u : Amount). (u.entity, u.number)) s.units h.units;
    amounts = All-map (λ (e : ℕ × ℕ). e.1 ≢ 0) (λ (u : Amount). (u.entity, u.number)) s.units h.amounts;
  }

  -- ROWS

  -- what a row of the state table says is ordered
  pub row_ordered : (row : TableState) → IsAscending row → All HeldFits row.units → IsOrdered (row_meaning rows row)
  row_ordered row h held = record {
    params = AllPairs-map (λ (a b : ℕ × ParamKind). a.0 < b.0) (λ (p : TableParameter). (p.number, kind_said rows p.kind)) row.parameters h.parameters;
    returns = All-map (λ (e : ℕ × ParamKind). KindAscends e.1) (λ (p : TableParameter). (p.number, kind_said rows p.kind)) row.parameters
        (λ i d within. said_ascends (get_or row.parameters i d).kind);
    facilities = h.facilities;
    units = AllPairs-map (λ (a b : ℕ × ℕ). a.0 < b.0) (λ (u : Units). (u.entity, u.number)) row.units h.units;
    amounts = All-map (λ (e : ℕ × ℕ). e.1 ≢ 0) (λ (u : Units). (u.entity, u.number)) row.units (λ i d within zero. omega (arith, (held i d within).least));
  }

-- WHAT FLOW WORKS WITH

module _ (ps : List Param) (fs : List ℕ) (us : List Amount) (h : IsOrdered (row_view ps fs us)) where
  pub params_from_viewed : AllPairs (λ (a b : Param). a.number < b.number) ps
  params_from_viewed = AllPairs-from_map (λ (a b : ℕ × ParamKind). a.0 < b.0) (λ (p : Param). (p.number, kind_viewed p.kind)) ps h.params

  pub returns_from_viewed : All (λ (p : Param). KindAscends (kind_viewed p.kind)) ps
  returns_from_viewed = All-from_map (λ (e : ℕ × ParamKind). KindAscends e.1) (λ (p : Param). (p.number, kind_viewed p.kind)) ps h.returns

  pub units_from_viewed : AllPairs (λ (a b : Amount). a.entity < b.entity) us
  units_from_viewed = AllPairs-from_map (λ (a b : ℕ × ℕ). a.0 < b.0) (λ (u : Amount). (u.entity, u.number)) us h.units

  pub amounts_from_viewed : All (λ (a : Amount). a.number ≢ 0) us
  amounts_from_viewed = All-from_map (λ (e : ℕ × ℕ). e.1 ≢ 0) (λ (u : Amount). (u.entity, u.number)) us h.amounts

-- CHANGES

-- a list with a number ascends
pub with_number_ascends : (n : ℕ) (ns : List ℕ) → AllPairs (λ a b. a < b) ns → AllPairs (λ a b. a < b) (with_number n ns)
with_number_ascends n ns up =
    subst (AllPairs (λ a b. a < b)) (append_assoc (filter (λ m. nat_lt m n) ns) (n ∷ []) (filter (λ m. nat_lt n m) ns))
    (ascends_placed (λ m. m) n (n ∷ []) ns (one_ascends (λ m. m) n) (All-cons (λ m. m ≡ n) n [] refl (All-nil (λ m. m ≡ n))) up)

-- the entry of a value, if there is one
abbrev alone : {X : Type 0} → ℕ → Option X → List (ℕ × X)
alone n value = option_to_list (option_map (λ v. (n, v)) value)

alone_ascends : {X : Type 0} (n : ℕ) (value : Option X) → Ascends (λ (e : ℕ × X). e.0) (alone n value)
alone_ascends n None = λ i j d lt within. absurd (omega arith)
alone_ascends n (Some v) = one_ascends (λ e. e.0) (n, v)

alone_at : {X : Type 0} (n : ℕ) (value : Option X) → All (λ (e : ℕ × X). e.0 ≡ n) (alone n value)
alone_at n None = All-nil (λ e. e.0 ≡ n)
alone_at n (Some v) = All-cons (λ e. e.0 ≡ n) (n, v) [] refl (All-nil (λ e. e.0 ≡ n))

-- entries with one more ascend
pub with_entry_ascends : {X : Type 0} (n : ℕ) (value : Option X) (es : List (ℕ × X)) → Ascends (λ (e : ℕ × X). e.0) es
    → Ascends (λ (e : ℕ × X). e.0) (with_entry n value es)
with_entry_ascends n value es up = ascends_placed (λ e. e.0) n (alone n value) es (alone_ascends n value) (alone_at n value) up

entered_not_0 : (b : Bool) (e n : ℕ) → (n == 0) ≡ b → All (λ (x : ℕ × ℕ). x.1 ≢ 0) (alone e (if b then None else Some n))
entered_not_0 true e n is = All-nil (λ (x : ℕ × ℕ). x.1 ≢ 0)
entered_not_0 false e n is = All-cons (λ (x : ℕ × ℕ). x.1 ≢ 0) (e, n) [] (λ zero. true≢false (sym (eq-eqb n 0 zero) ∙ is)) (All-nil (λ (x : ℕ × ℕ). x.1 ≢ 0))

-- what holds of each entry, and of one that is entered if there is one, holds of each then
with_entry_keeps : {X : Type 0} (P : ℕ × X → Type 0) (n : ℕ) (value : Option X) (es : List (ℕ × X)) → All P (alone n value) → All P es
    → All P (with_entry n value es)
with_entry_keeps P n value es here all =
    All-append P (filter (λ x. nat_lt x.0 n) es ++ alone n value) (filter (λ x. nat_lt n x.0) es)
    (All-append P (filter (λ x. nat_lt x.0 n) es) (alone n value) (All-filter (λ x. nat_lt x.0 n) P es all) here)
    (All-filter (λ x. nat_lt n x.0) P es all)

-- no amount is 0 once one is entered that may be
with_entry_not_0 : (e n : ℕ) (es : List (ℕ × ℕ)) → All (λ (x : ℕ × ℕ). x.1 ≢ 0) es → All (λ (x : ℕ × ℕ). x.1 ≢ 0) (with_entry e (nonzero n) es)
with_entry_not_0 e n es all = with_entry_keeps (λ (x : ℕ × ℕ). x.1 ≢ 0) e (nonzero n) es (entered_not_0 (n == 0) e n refl) all

-- parameters ascend once one is put in its place
pub in_place_ascends : (p : Parameter) (ps : List Parameter) → AllPairs (λ (a b : Parameter). a.number < b.number) ps
    → AllPairs (λ (a b : Parameter). a.number < b.number) (in_place (λ (q : Parameter). q.number) p ps)
in_place_ascends p ps up =
    subst (AllPairs (λ (a b : Parameter). a.number < b.number))
    (append_assoc (filter (λ (q : Parameter). nat_lt q.number p.number) ps) (p ∷ []) (filter (λ (q : Parameter). nat_lt p.number q.number) ps))
    (ascends_placed (λ (q : Parameter). q.number) p.number (p ∷ []) ps (one_ascends (λ (q : Parameter). q.number) p)
    (All-cons (λ (q : Parameter). q.number ≡ p.number) p [] refl (All-nil (λ (q : Parameter). q.number ≡ p.number))) up)

module _ (row : Row) (h : IsOrdered row) where
  pub with_parameter_ordered : (p : ℕ) (kind : ParamKind) → KindAscends kind → IsOrdered (with_parameter p kind row)
  with_parameter_ordered p kind ascends = record {
    params = with_entry_ascends p (Some kind) row.params h.params;
    returns = with_entry_keeps (λ (e : ℕ × ParamKind). KindAscends e.1) p (Some kind) row.params
        (All-cons (λ (e : ℕ × ParamKind). KindAscends e.1) (p, kind) [] ascends (All-nil (λ (e : ℕ × ParamKind). KindAscends e.1))) h.returns;
    facilities = h.facilities;
    units = h.units;
    amounts = h.amounts;
  }

  pub with_facility_ordered : (f : ℕ) → IsOrdered (with_facility f row)
  with_facility_ordered f =
      record { params = h.params; returns = h.returns; facilities = with_number_ascends f row.facilities h.facilities; units = h.units; amounts = h.amounts }

  pub without_facility_ordered : (f : ℕ) → IsOrdered (without_facility f row)
  without_facility_ordered f =
      record {
        params = h.params;
        returns = h.returns;
        facilities =
            AllPairs-filter (λ a b. a < b) (λ m. not (m == f)) row.facilities h.facilities;
        units = h.units;
        amounts = h.amounts;
      }

  pub with_units_ordered : (e n : ℕ) → IsOrdered (with_units e n row)
  with_units_ordered e n =
      record {
        params = h.params;
        returns = h.returns;
        facilities = h.facilities;
        units =
            with_entry_ascends e (nonzero n) row.units h.units;
        amounts = with_entry_not_0 e n row.units h.amounts;
      }
