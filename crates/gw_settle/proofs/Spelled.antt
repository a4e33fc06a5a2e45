-- An object with the assembler's table that has a spelling is the one that is written.
use Rattle.std.proofs.Common.{◌≡◌, ◌⊎◌, ⊎_elim, inl, inr, ℕ, zero, suc, ◌<◌, ◌≤◌, ◌+◌, List, [], ◌∷◌, ◌++◌, map, length, option_map, Option, Some}
use Rattle.std.proofs.Common.{None, Bool, true, false, if◌then◌else◌, refl, sym, ap, ap₂, subst, ◌∙◌, arith}
use Rattle.std.specs.Prelude.{◌≢◌, All, IfSome, nat_eq}
use Rattle.std.specs.List.{list_any}
use Rattle.std.specs.Cmp.Lexicographic.{pointwise, bytes_decides}
use Rattle.std.proofs.lemmas.Bool.{or_cases, or_parts, or_left, or_right, false≢true}
use Rattle.std.proofs.lemmas.List.Elements.{All-nil, All-cons, All-head, All-tail, All-push}
use Rattle.gw_object.specs.declared.blocks.Units.{Units}
use Rattle.gw_object.specs.Limits.{greatest_units, most_return_rows}
use Rattle.gw_object.specs.Grammar.{ReturnRowFits, HeldFits, StateFits, HasSpelling}
use Rattle.gw_object.specs.Reading.{out_of_memory}
use Rattle.gw_object.specs.declared.fault.Fault.{Fault}
use Rattle.gw_object.specs.declared.parts.ReturnRow.{ReturnRow}
use Rattle.gw_object.specs.declared.parts.TableKind.{TableKind}
use Rattle.gw_object.specs.declared.parts.TableKind.TheVariants.{Num as TableNum, Ret as TableRet}
use Rattle.gw_object.specs.declared.parts.TableParameter.{TableParameter}
use Rattle.gw_object.specs.declared.parts.TableState.{TableState}
use Rattle.gw_object.specs.declared.parts.Parts.{Parts}
use Rattle.gw_rules.specs.Rows.{ParamKind, Num, Ret, Row}
use Rattle.gw_rules.specs.Seen.{row_blocks, kind_said, params_said, units_seen, row_meaning, seen_rows}
use Rattle.gw_settle.specs.declared.written.Stop.{Stop}
use Rattle.gw_settle.specs.declared.written.Stop.TheVariants as stops
use Rattle.gw_settle.specs.declared.written.Written.{Written}
use Rattle.gw_settle.specs.Rounds.{TableRows, own_rows, round, rounds, AreSettled}
use Rattle.gw_settle.specs.Numbers.{sets_of, has_set, with_set, with_kind, with_params, with_row, with_rows, sets_in, HasKind, HasParams}
use Rattle.gw_settle.specs.Written.{NamesRow, ParamsName, NamesRows, StatesName, SaysRows, AmountsFit, RowFits, RowsFit, CanBeWritten, StopsUnless}
use Rattle.gw_settle.specs.Settles.{with_table, with_written, DiffersInTable, HasAssemblersTable, past_limit, IsTooLarge, IsNoFlowFault, IsTableOf}

-- THE LAST ROUND

module _ (p : Parts) where
  -- rounds after one that changes nothing change nothing
  stays : (k n : ℕ) → round p (rounds p k) ≡ rounds p k → rounds p (n + k) ≡ rounds p k
  stays k zero last =
      let e : zero + k ≡ k = omega arith in
      ap (λ m. rounds p m) e
  stays k (suc n) last =
      let e : suc n + k ≡ suc (n + k) = omega arith in
      ap (λ m. rounds p m) e ∙ ap (λ rows. round p rows) (stays k n last) ∙ last

  idle : (rows : TableRows) (k : ℕ) → rows ≡ rounds p k → round p rows ≡ rows → round p (rounds p k) ≡ rounds p k
  idle rows k after last = subst (λ r. round p r ≡ r) after last

  -- there is one assembler's table
  settled_once : (rows others : TableRows) → AreSettled p rows → AreSettled p others → rows ≡ others
  settled_once rows others h g =
      let there = stays h.count g.count (idle rows h.count h.after h.last) in
      let back = stays g.count h.count (idle others g.count g.after g.last) in
      let e : g.count + h.count ≡ h.count + g.count = omega arith in
      h.after ∙ sym there ∙ ap (λ k. rounds p k) e ∙ back ∙ sym g.after

-- SETS

-- no set is there twice
abbrev AreApart : List (List ℕ) → Type 0
AreApart [] = Unit {0}
AreApart (bs ∷ sets) = All (λ cs. bs ≢ cs) sets × AreApart sets

none_same : (sets : List (List ℕ)) (bs : List ℕ) → has_set sets bs ≡ false → All (λ cs. cs ≢ bs) sets
none_same [] bs h = All-nil (λ cs. cs ≢ bs)
none_same (ds ∷ sets) bs h =
    let both = or_parts (pointwise nat_eq ds bs) (list_any (λ cs. pointwise nat_eq cs bs) sets) h in
    All-cons (λ cs. cs ≢ bs) ds sets (λ e. false≢true (sym both.0 ∙ (bytes_decides ds bs).1 e)) (none_same sets bs both.1)

apart_push : (sets : List (List ℕ)) (bs : List ℕ) → AreApart sets → All (λ cs. cs ≢ bs) sets → AreApart (sets ++ bs ∷ [])
apart_push [] bs h g = (All-nil (λ cs. bs ≢ cs), tt)
apart_push (ds ∷ sets) bs h g = (
  All-push (λ cs. ds ≢ cs) sets bs h.0 (All-head (λ cs. cs ≢ bs) ds sets g),
  apart_push sets bs h.1 (All-tail (λ cs. cs ≢ bs) ds sets g),
)

apart_if : (b : Bool) (sets : List (List ℕ)) (bs : List ℕ) → has_set sets bs ≡ b → AreApart sets → AreApart (if b then sets else sets ++ bs ∷ [])
apart_if true sets bs is h = h
apart_if false sets bs is h = apart_push sets bs h (none_same sets bs is)

apart_kind : (sets : List (List ℕ)) (kind : ParamKind) → AreApart sets → AreApart (with_kind sets kind)
apart_kind sets Num h = h
apart_kind sets (Ret bs) h = apart_if (has_set sets bs) sets bs refl h

apart_params : (sets : List (List ℕ)) (ps : List (ℕ × ParamKind)) → AreApart sets → AreApart (with_params sets ps)
apart_params sets [] h = h
apart_params sets (p ∷ ps) h = apart_params (with_kind sets p.1) ps (apart_kind sets p.1 h)

apart_row : (sets : List (List ℕ)) (row : Option Row) → AreApart sets → AreApart (with_row sets row)
apart_row sets None h = h
apart_row sets (Some row) h = apart_params sets row.params h

apart_rows : (sets : List (List ℕ)) (rows : List (Option Row)) → AreApart sets → AreApart (with_rows sets rows)
apart_rows sets [] h = h
apart_rows sets (row ∷ rows) h = apart_rows (with_row sets row) rows (apart_row sets row h)

apart_in : (rows : TableRows) → AreApart (sets_in rows)
apart_in rows = apart_rows (with_rows [] rows.blocks) rows.chains (apart_rows [] rows.blocks tt)

-- NUMBERS

row_made : (bs cs : List ℕ) → bs ≡ cs → ◌≡◌ {A = ReturnRow} (record { blocks = bs }) (record { blocks = cs })
row_made bs cs e = rw e refl

units_made : (a b m n : ℕ) → a ≡ b → m ≡ n → ◌≡◌ {A = Units} (record { entity = a; number = m }) (record { entity = b; number = n })
units_made a b m n e f = rw (e, f) refl

param_made : (a b : ℕ) (k l : TableKind) → a ≡ b → k ≡ l → ◌≡◌ {A = TableParameter} (record { number = a; kind = k }) (record { number = b; kind = l })
param_made a b k l e f = rw (e, f) refl

state_made : (ps qs : List TableParameter) (fs gs : List ℕ) (us vs : List Units) → ps ≡ qs → fs ≡ gs → us ≡ vs
    → ◌≡◌ {A = TableState} (record { parameters = ps; facilities = fs; units = us }) (record { parameters = qs; facilities = gs; units = vs })
state_made ps qs fs gs us vs e f g = rw (e, f, g) refl

-- return rows are their sets
returns_are : (rs ss : List ReturnRow) → sets_of rs ≡ sets_of ss → rs ≡ ss
returns_are [] [] h = refl
returns_are [] (s ∷ ss) h = absurd (cc)
returns_are (r ∷ rs) [] h = absurd (cc)
returns_are (r ∷ rs) (s ∷ ss) h =
    let head : r.blocks ≡ s.blocks = cc in
    let tail : sets_of rs ≡ sets_of ss = cc in
    ap₂ (λ (x : ReturnRow) (xs : List ReturnRow). x ∷ xs) (row_made r.blocks s.blocks head) (returns_are rs ss tail)

empty_has_none : (bs : List ℕ) → 1 ≤ length bs → [] ≡ bs → ⊥
empty_has_none [] least h = absurd (omega (arith, least))
empty_has_none (b ∷ bs) least h = absurd (cc)

not_named : (bs : List ℕ) (rs : List ReturnRow) (r : ℕ) → All (λ cs. bs ≢ cs) (sets_of rs) → 1 ≤ length bs → row_blocks rs r ≡ bs → ⊥
not_named bs [] r apart least h = empty_has_none bs least h
not_named bs (x ∷ rs) zero apart least h = All-head (λ cs. bs ≢ cs) x.blocks (sets_of rs) apart (sym h)
not_named bs (x ∷ rs) (suc r) apart least h = not_named bs rs r (All-tail (λ cs. bs ≢ cs) x.blocks (sets_of rs) apart) least h

one_number : (rs : List ReturnRow) (r s : ℕ) → AreApart (sets_of rs) → All ReturnRowFits rs → s < length rs → row_blocks rs r ≡ row_blocks rs s → r ≡ s
one_number [] r s apart fit lt h = absurd (omega (arith, lt))
one_number (x ∷ rs) zero zero apart fit lt h = refl
one_number (x ∷ rs) zero (suc s) apart fit lt h = absurd (not_named x.blocks rs s apart.0 (All-head ReturnRowFits x rs fit).least (sym h))
one_number (x ∷ rs) (suc r) zero apart fit lt h = absurd (not_named x.blocks rs r apart.0 (All-head ReturnRowFits x rs fit).least h)
one_number (x ∷ rs) (suc r) (suc s) apart fit lt h =
    let below : s < length rs = omega (arith, lt) in
    ap suc (one_number rs r s apart.1 (All-tail ReturnRowFits x rs fit) below h)

units_are : (us vs : List Units) → units_seen us ≡ units_seen vs → us ≡ vs
units_are [] [] h = refl
units_are [] (v ∷ vs) h = absurd (cc)
units_are (u ∷ us) [] h = absurd (cc)
units_are (u ∷ us) (v ∷ vs) h =
    let head : ◌≡◌ {A = ℕ × ℕ} (u.entity, u.number) (v.entity, v.number) = cc in
    let tail : units_seen us ≡ units_seen vs = cc in
    let e : u ≡ v = units_made u.entity v.entity u.number v.number (ap (λ (x : ℕ × ℕ). x.0) head) (ap (λ (x : ℕ × ℕ). x.1) head) in
    ap₂ (λ (x : Units) (xs : List Units). x ∷ xs) e (units_are us vs tail)

module _ (rs : List ReturnRow) (apart : AreApart (sets_of rs)) (fit : All ReturnRowFits rs) where
  kind_is : (k l : TableKind) → NamesRow (length rs) l → kind_said rs k ≡ kind_said rs l → k ≡ l
  kind_is TableNum TableNum names h = refl
  kind_is TableNum (TableRet s) names h = let e : Num ≡ Ret (row_blocks rs s) = h in absurd (cc)
  kind_is (TableRet r) TableNum names h = let e : Ret (row_blocks rs r) ≡ Num = h in absurd (cc)
  kind_is (TableRet r) (TableRet s) names h =
      let e : Ret (row_blocks rs r) ≡ Ret (row_blocks rs s) = h in
      let same : row_blocks rs r ≡ row_blocks rs s = cc in
      ap (λ n. TableRet n) (one_number rs r s apart fit names same)

  params_are : (ps qs : List TableParameter) → ParamsName (length rs) qs → params_said rs ps ≡ params_said rs qs → ps ≡ qs
  params_are [] [] names h = refl
  params_are [] (q ∷ qs) names h = absurd (cc)
  params_are (p ∷ ps) [] names h = absurd (cc)
  params_are (p ∷ ps) (q ∷ qs) names h =
      let head : ◌≡◌ {A = ℕ × ParamKind} (p.number, kind_said rs p.kind) (q.number, kind_said rs q.kind) = cc in
      let number : p.number ≡ q.number = ap (λ (x : ℕ × ParamKind). x.0) head in
      let said : kind_said rs p.kind ≡ kind_said rs q.kind = ap (λ (x : ℕ × ParamKind). x.1) head in
      let tail : params_said rs ps ≡ params_said rs qs = cc in
      let kind = kind_is p.kind q.kind (All-head (λ (x : TableParameter). NamesRow (length rs) x.kind) q qs names) said in
      let e : p ≡ q = param_made p.number q.number p.kind q.kind number kind in
      ap₂ (λ (x : TableParameter) (xs : List TableParameter). x ∷ xs) e
      (params_are ps qs (All-tail (λ (x : TableParameter). NamesRow (length rs) x.kind) q qs names) tail)

  state_is : (s t : TableState) → NamesRows (length rs) t → row_meaning rs s ≡ row_meaning rs t → s ≡ t
  state_is s t names h =
      let params = params_are s.parameters t.parameters names (ap (λ (r : Row). r.params) h) in
      let facilities : s.facilities ≡ t.facilities = ap (λ (r : Row). r.facilities) h in
      let units = units_are s.units t.units (ap (λ (r : Row). r.units) h) in
      state_made s.parameters t.parameters s.facilities t.facilities s.units t.units params facilities units

  option_is : (s t : Option TableState) → IfSome t (NamesRows (length rs)) → option_map (row_meaning rs) s ≡ option_map (row_meaning rs) t → s ≡ t
  option_is None None names h = refl
  option_is None (Some t) names h = absurd (cc)
  option_is (Some s) None names h = absurd (cc)
  option_is (Some s) (Some t) names h =
      let same : row_meaning rs s ≡ row_meaning rs t = cc in
      ap (λ (x : TableState). Some x) (state_is s t names same)

  states_are : (ss ts : List (Option TableState)) → StatesName (length rs) ts → seen_rows rs ss ≡ seen_rows rs ts → ss ≡ ts
  states_are [] [] names h = refl
  states_are [] (t ∷ ts) names h = absurd (cc)
  states_are (s ∷ ss) [] names h = absurd (cc)
  states_are (s ∷ ss) (t ∷ ts) names h =
      let head : option_map (row_meaning rs) s ≡ option_map (row_meaning rs) t = cc in
      let tail : seen_rows rs ss ≡ seen_rows rs ts = cc in
      ap₂ (λ (x : Option TableState) (xs : List (Option TableState)). x ∷ xs)
      (option_is s t (All-head (λ x. IfSome x (NamesRows (length rs))) t ts names) head)
      (states_are ss ts (All-tail (λ x. IfSome x (NamesRows (length rs))) t ts names) tail)

-- WHAT IS WRITTEN

table_made : (p : Parts) (rs rt : List ReturnRow) (ss st cs ct : List (Option TableState)) → rs ≡ rt → ss ≡ st → cs ≡ ct
    → with_table p rs ss cs ≡ with_table p rt st ct
table_made p rs rt ss st cs ct e f g = rw (e, f, g) refl

module _ (p : Parts) (w : Written) (t : IsTableOf p w) (q : Parts) (differs : DiffersInTable p q) (has : HasAssemblersTable p q) (spelled : HasSpelling q) where
  rows_same : own_rows q ≡ t.rows
  rows_same = settled_once p (own_rows q) t.rows has.rows t.final.table

  returns_same : q.returns ≡ w.returns
  returns_same = returns_are q.returns w.returns (has.returns ∙ ap (λ rows. sets_in rows) rows_same ∙ sym t.says.returns)

  apart : AreApart (sets_of w.returns)
  apart = subst AreApart (sym t.says.returns) (apart_in t.rows)

  each_fits : All ReturnRowFits w.returns
  each_fits = subst (All ReturnRowFits) returns_same spelled.limits.each_return

  states_same : q.states ≡ w.states
  states_same =
      let own : seen_rows q.returns q.states ≡ t.rows.blocks = ap (λ (r : TableRows). r.blocks) rows_same in
      let here : seen_rows w.returns q.states ≡ t.rows.blocks = subst (λ rs. seen_rows rs q.states ≡ t.rows.blocks) returns_same own in
      states_are w.returns apart each_fits q.states w.states t.says.block_numbers (here ∙ sym t.says.blocks)

  chain_states_same : q.chain_states ≡ w.chain_states
  chain_states_same =
      let own : seen_rows q.returns q.chain_states ≡ t.rows.chains = ap (λ (r : TableRows). r.chains) rows_same in
      let here : seen_rows w.returns q.chain_states ≡ t.rows.chains = subst (λ rs. seen_rows rs q.chain_states ≡ t.rows.chains) returns_same own in
      states_are w.returns apart each_fits q.chain_states w.chain_states t.says.chain_numbers (here ∙ sym t.says.chains)

  pub written_is_spelled : HasSpelling (with_written p w)
  written_is_spelled = subst HasSpelling
      (differs ∙ table_made p q.returns w.returns q.states w.states q.chain_states w.chain_states returns_same states_same chain_states_same) spelled

-- a written table that an object can't have is too large
pub too_large_written : (p : Parts) (w : Written) (fault : Fault) → IsTableOf p w → ¬ HasSpelling (with_written p w) → fault ≡ past_limit → IsTooLarge p fault
too_large_written p w fault t not is = record { is = is; none = λ q differs has spelled. not (written_is_spelled p w t q differs has spelled) }

-- EACH SET IS AMONG THOSE OF THE ROWS

more_sets : (sets : List (List ℕ)) (more bs : List ℕ) → has_set sets bs ≡ true → has_set (sets ++ more ∷ []) bs ≡ true
more_sets [] more bs h = absurd (false≢true h)
more_sets (ds ∷ sets) more bs h = ⊎_elim
    (λ (e : pointwise nat_eq ds bs ≡ true). or_left (pointwise nat_eq ds bs) (has_set (sets ++ more ∷ []) bs) e)
    (λ (e : has_set sets bs ≡ true). or_right (pointwise nat_eq ds bs) (has_set (sets ++ more ∷ []) bs) (more_sets sets more bs e))
    (or_cases (pointwise nat_eq ds bs) (has_set sets bs) h)

own_set : (sets : List (List ℕ)) (bs : List ℕ) → has_set (sets ++ bs ∷ []) bs ≡ true
own_set [] bs = or_left (pointwise nat_eq bs bs) false ((bytes_decides bs bs).1 refl)
own_set (ds ∷ sets) bs = or_right (pointwise nat_eq ds bs) (has_set (sets ++ bs ∷ []) bs) (own_set sets bs)

-- these sets are all among those
abbrev AreAmong : List (List ℕ) → List (List ℕ) → Type 0
AreAmong sets others = (bs : List ℕ) → has_set sets bs ≡ true → has_set others bs ≡ true

grows_if : (b : Bool) (sets : List (List ℕ)) (bs : List ℕ) → AreAmong sets (if b then sets else sets ++ bs ∷ [])
grows_if true sets bs cs h = h
grows_if false sets bs cs h = more_sets sets bs cs h

grows_kind : (sets : List (List ℕ)) (kind : ParamKind) → AreAmong sets (with_kind sets kind)
grows_kind sets Num cs h = h
grows_kind sets (Ret bs) cs h = grows_if (has_set sets bs) sets bs cs h

grows_params : (sets : List (List ℕ)) (ps : List (ℕ × ParamKind)) → AreAmong sets (with_params sets ps)
grows_params sets [] cs h = h
grows_params sets (p ∷ ps) cs h = grows_params (with_kind sets p.1) ps cs (grows_kind sets p.1 cs h)

grows_row : (sets : List (List ℕ)) (row : Option Row) → AreAmong sets (with_row sets row)
grows_row sets None cs h = h
grows_row sets (Some row) cs h = grows_params sets row.params cs h

grows_rows : (sets : List (List ℕ)) (rows : List (Option Row)) → AreAmong sets (with_rows sets rows)
grows_rows sets [] cs h = h
grows_rows sets (row ∷ rows) cs h = grows_rows (with_row sets row) rows cs (grows_row sets row cs h)

own_if : (b : Bool) (sets : List (List ℕ)) (bs : List ℕ) → has_set sets bs ≡ b → has_set (if b then sets else sets ++ bs ∷ []) bs ≡ true
own_if true sets bs is = is
own_if false sets bs is = own_set sets bs

own_kind : (sets : List (List ℕ)) (kind : ParamKind) → HasKind (with_kind sets kind) kind
own_kind sets Num = tt
own_kind sets (Ret bs) = own_if (has_set sets bs) sets bs refl

kind_grows : (sets others : List (List ℕ)) (kind : ParamKind) → AreAmong sets others → HasKind sets kind → HasKind others kind
kind_grows sets others Num among h = tt
kind_grows sets others (Ret bs) among h = among bs h

own_params : (sets others : List (List ℕ)) (ps : List (ℕ × ParamKind)) → AreAmong (with_params sets ps) others → HasParams others ps
own_params sets others [] among = All-nil (λ (e : ℕ × ParamKind). HasKind others e.1)
own_params sets others (p ∷ ps) among =
    All-cons (λ (e : ℕ × ParamKind). HasKind others e.1) p ps
    (kind_grows (with_kind sets p.1) others p.1 (λ bs h. among bs (grows_params (with_kind sets p.1) ps bs h)) (own_kind sets p.1))
    (own_params (with_kind sets p.1) others ps among)

-- A ROW THAT IS SPELLED

amounts_fit : (us : List Units) → All HeldFits us → AmountsFit (units_seen us)
amounts_fit [] fit = All-nil (λ (e : ℕ × ℕ). e.1 ≤ greatest_units)
amounts_fit (u ∷ us) fit =
    All-cons (λ (e : ℕ × ℕ). e.1 ≤ greatest_units) (u.entity, u.number) (units_seen us) (All-head HeldFits u us fit).most
    (amounts_fit us (All-tail HeldFits u us fit))

option_fits : (rs : List ReturnRow) (sets others : List (List ℕ)) (s : Option TableState) → IfSome s StateFits
    → AreAmong (with_row sets (option_map (row_meaning rs) s)) others → IfSome (option_map (row_meaning rs) s) (RowFits others)
option_fits rs sets others None fit among = tt
option_fits rs sets others (Some s) fit among =
    record { params = own_params sets others (params_said rs s.parameters) among; units = amounts_fit s.units fit.each_unit }

states_fit : (rs : List ReturnRow) (sets others : List (List ℕ)) (ss : List (Option TableState)) → All (λ s. IfSome s StateFits) ss
    → AreAmong (with_rows sets (seen_rows rs ss)) others → RowsFit others (seen_rows rs ss)
states_fit rs sets others [] fit among = All-nil (λ r. IfSome r (RowFits others))
states_fit rs sets others (s ∷ ss) fit among =
    let row = option_map (row_meaning rs) s in
    All-cons (λ r. IfSome r (RowFits others)) row (seen_rows rs ss)
    (option_fits rs sets others s (All-head (λ s. IfSome s StateFits) s ss fit) (λ bs h. among bs (grows_rows (with_row sets row) (seen_rows rs ss) bs h)))
    (states_fit rs (with_row sets row) others ss (All-tail (λ s. IfSome s StateFits) s ss fit) among)

length_sets : (rs : List ReturnRow) → length (sets_of rs) ≡ length rs
length_sets [] = refl
length_sets (r ∷ rs) = ap suc (length_sets rs)

-- the rows of an object that has a spelling can be written
spelled_fits : (q : Parts) → HasSpelling q → sets_of q.returns ≡ sets_in (own_rows q) → CanBeWritten (own_rows q)
spelled_fits q spelled is =
    let first = with_rows [] (seen_rows q.returns q.states) in
    let all = sets_in (own_rows q) in
    record {
      sets = subst (λ n. n ≤ most_return_rows) (sym (length_sets q.returns) ∙ ap (λ (sets : List (List ℕ)). length sets) is) spelled.limits.returns;
      blocks = states_fit q.returns [] all q.states spelled.limits.each_state (grows_rows first (seen_rows q.returns q.chain_states));
      chains = states_fit q.returns first all q.chain_states spelled.limits.each_chain_state (λ bs h. h);
    }

-- rows of the assembler's table that can't be written are too large
pub too_large_rows : (p : Parts) (rows : TableRows) (fault : Fault) → AreSettled p rows → ¬ CanBeWritten rows → fault ≡ past_limit → IsTooLarge p fault
too_large_rows p rows fault settled not is = record {
  is = is;
  none = λ q differs has spelled. not (subst CanBeWritten (settled_once p (own_rows q) rows has.rows settled) (spelled_fits q spelled has.returns));
}

-- what stops the writing of the assembler's table is no fault of flow
pub stopped : (p : Parts) (rows : TableRows) (stop : Stop) (fault : Fault) → AreSettled p rows → StopsUnless (CanBeWritten rows) stop
    → (stop ≡ stops.Memory → fault ≡ out_of_memory) → (stop ≡ stops.Limit → fault ≡ past_limit) → IsNoFlowFault p fault
stopped p rows stop fault settled (inl h) memory limit = inl (memory h)
stopped p rows stop fault settled (inr h) memory limit = inr (too_large_rows p rows fault settled h.1 (limit h.0))
