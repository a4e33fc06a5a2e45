-- First sights.
use Rattle.std.proofs.Common.{◌≡◌, ℕ, suc, ◌+◌, List, [], ◌∷◌, ◌++◌, length, map, cond, Option, Some, None, Bool, true, false, ◌&&◌, ◌||◌}
use Rattle.std.proofs.Common.{if◌then◌else◌, nat_lt, is_some, refl, sym, ap, subst, ◌∙◌, arith, add-zero}
use Rattle.std.specs.Prelude.{string_bytes}
use Rattle.std.specs.Option.{option_or}
use Rattle.std.proofs.lemmas.List.{map-append, length-map}
use Rattle.std.specs.List.{list_any, position_from}
use Rattle.std.specs.Str.{bytes_eq}
use Rattle.std.specs.Cmp.Lexicographic.{nat_list_eq_equiv}
use Rattle.std.proofs.lemmas.Bool.{false≢true}
use Rattle.gw_rules.specs.declared.entities.EntityKind.{EntityKind}
use Rattle.gw_rules.specs.declared.entities.EntityKind.TheVariants as kinds
use Rattle.gw_name_uses.specs.Mentions.{Mention}
use Rattle.gw_names.specs.declared.entities.ByKind.{ByKind}
use Rattle.gw_names.specs.declared.sights.Sighted.{Sighted}
use Rattle.gw_names.specs.Codes.{limit_fault}
use Rattle.gw_names.specs.Ledger.{noted_at}
use Rattle.gw_names.specs.Known.{Key, key, is_same, is_same_kind, entity_of}
use Rattle.gw_names.specs.Places.{AddsEntities}
use Rattle.gw_names.specs.Sights.{with_sight, limit_for, number_among}
use Rattle.gw_names.specs.Sighting.{IsSighted, key_of, keys_of}
use Rattle.gw_names.proofs.Declaring.{or_none}

-- PLACES

behind_first : (b : Bool) (k : ℕ) (rest more own : Option ℕ) → rest ≡ option_or more own → cond b (Some k) rest ≡ option_or (cond b (Some k) more) own
behind_first true k rest more own is = refl
behind_first false k rest more own is = is

alone : (b : Bool) (k : ℕ) → cond b (Some k) None ≡ (if b then Some (k + 0) else None)
alone true k = ap Some (sym (add-zero k))
alone false k = refl

-- one more behind them
pub place_behind : {A : Type 0} (test : A → Bool) (k : ℕ) (xs : List A) (x : A) → position_from test k (xs ++ x ∷ [])
    ≡ option_or (position_from test k xs) (if test x then Some (k + length xs) else None)
place_behind test k [] x = alone (test x) k
place_behind test k (y ∷ xs) x =
    let far : k + 1 + length xs ≡ k + suc (length xs) = omega arith in
    behind_first (test y) k (position_from test (k + 1) (xs ++ x ∷ [])) (position_from test (k + 1) xs) (if test x then Some (k + suc (length xs)) else None)
    (place_behind test (k + 1) xs x ∙ ap (λ n. option_or (position_from test (k + 1) xs) (if test x then Some n else None)) far)

there_first : (b : Bool) (k : ℕ) (rest : Option ℕ) (more : Bool) → is_some rest ≡ more → is_some (cond b (Some k) rest) ≡ (b || more)
there_first true k rest more is = refl
there_first false k rest more is = is

-- whether one is there
pub place_there : {A : Type 0} (test : A → Bool) (k : ℕ) (xs : List A) → is_some (position_from test k xs) ≡ list_any test xs
place_there test k [] = refl
place_there test k (x ∷ xs) = there_first (test x) k (position_from test (k + 1) xs) (list_any test xs) (place_there test (k + 1) xs)

-- KEYS

pub same_kind : (a b : EntityKind) → is_same_kind a b ≡ true → a ≡ b
same_kind kinds.Facility kinds.Facility is = refl
same_kind kinds.Storage kinds.Storage is = refl
same_kind kinds.Queue kinds.Queue is = refl
same_kind kinds.Switch kinds.Switch is = refl
same_kind kinds.Savevalue kinds.Savevalue is = refl
same_kind kinds.Table kinds.Table is = refl
same_kind kinds.Chain kinds.Chain is = refl
same_kind kinds.Variable kinds.Variable is = refl
same_kind kinds.BooleanVariable kinds.BooleanVariable is = refl
same_kind kinds.Function kinds.Function is = refl
same_kind a b is = absurd (false≢true is)

pub both_true : (a b : Bool) → (a && b) ≡ true → (a ≡ true) × (b ≡ true)
both_true true true is = (refl, refl)
both_true true false is = absurd (false≢true is)
both_true false b is = absurd (false≢true is)

-- keys of one entity find the same
pub same_keys : (one other : Key) → is_same one other ≡ true → is_same one ≡ is_same other
same_keys one other is =
    let both = both_true (is_same_kind one.kind other.kind) (bytes_eq one.name other.name) is in
    let kind = same_kind one.kind other.kind both.0 in
    λ j x. is_same_kind (kind j) x.kind && nat_list_eq_equiv.congr one.name other.name x.name both.1 j

numbered_by : (b : Bool) (n : ℕ) (before found : Option ℕ) → before ≡ found → (b ≡ true → found ≡ None)
    → option_or (option_or None (if b then Some n else None)) before ≡ option_or found (if b then Some n else None)
numbered_by true n before found is none = sym (ap (λ o. option_or o (Some n)) (none refl))
numbered_by false n before found is none = is ∙ sym (or_none found)

-- a new entity has the next number
pub number_added : (before after : EntityKind → List ℕ → Option ℕ) (keys : List Key) (kind : EntityKind) (name : List ℕ)
    → ((k : EntityKind) (n : List ℕ) → before k n ≡ number_among keys (key k n)) → before kind name ≡ None
    → AddsEntities ((key kind name, length keys) ∷ []) before after → (k : EntityKind) (n : List ℕ) → after k n
    ≡ number_among (keys ++ key kind name ∷ []) (key k n)
number_added before after keys kind name numbers new adds k n =
    let same = is_same (key k n) (key kind name) in
    let none : same ≡ true → number_among keys (key k n) ≡ None =
    λ e. ap (λ test. position_from test 0 keys) (same_keys (key k n) (key kind name) e) ∙ sym (numbers kind name) ∙ new in
    let far : length keys ≡ 0 + length keys = omega arith in
    adds k n
    ∙ numbered_by same (length keys) (before k n) (number_among keys (key k n)) (numbers k n) none
    ∙ ap (λ m. option_or (number_among keys (key k n)) (if same then Some m else None)) far
    ∙ sym (place_behind (is_same (key k n)) 0 keys (key kind name))

-- one more entity
pub sighted_more : (declarations before after : ByKind ℕ) (sighted more : List Sighted) (entity : Sighted) (kind : EntityKind)
    (name : List ℕ) (number : ℕ) → IsSighted declarations before sighted → entity_of before kind name ≡ None → more ≡ sighted ++ entity
    ∷ [] → entity.kind ≡ kind → string_bytes entity.name ≡ name → entity.declaration ≡ entity_of declarations kind name → number
    ≡ length sighted → AddsEntities ((key kind name, number) ∷ []) (entity_of before) (entity_of after) → IsSighted declarations after more
sighted_more declarations before after sighted more entity kind name number so_far new grows of_kind of_name declared counts adds =
    let keys = keys_of sighted in
    let found : Key → Option ℕ = λ k. entity_of declarations k.kind k.name in
    let told : Sighted → Option ℕ = λ s. s.declaration in
    let grown : keys_of more ≡ keys ++ key kind name ∷ [] = ap keys_of grows ∙ map-append key_of sighted (entity ∷ [])
    ∙ (λ j. keys ++ key (of_kind j) (of_name j) ∷ []) in
    let counted : number ≡ length keys = counts ∙ sym (length-map sighted key_of) in
    let next : AddsEntities ((key kind name, length keys) ∷ []) (entity_of before) (entity_of after) =
    subst (λ n. AddsEntities ((key kind name, n) ∷ []) (entity_of before) (entity_of after)) counted adds in
    record {
      number = λ k n. number_added (entity_of before) (entity_of after) keys kind name so_far.number new next k n
          ∙ ap (λ l. number_among l (key k n)) (sym grown);
      declared = ap (map told) grows ∙ map-append told sighted (entity ∷ []) ∙ ap (λ l. l ++ entity.declaration ∷ []) so_far.declared
          ∙ ap (λ d. map found keys ++ d ∷ []) declared ∙ sym (map-append found keys (key kind name ∷ [])) ∙ ap (map found) (sym grown);
    }

-- whether an entity was seen
pub entity_seen : (declarations entities : ByKind ℕ) (sighted : List Sighted) (kind : EntityKind) (name : List ℕ)
    → IsSighted declarations entities sighted → list_any (is_same (key kind name)) (keys_of sighted) ≡ is_some (entity_of entities kind name)
entity_seen declarations entities sighted kind name so_far = sym (place_there (is_same (key kind name)) 0 (keys_of sighted))
    ∙ ap is_some (sym (so_far.number kind name))

-- SIGHTS

module _ {A : Type 0} (pick : Mention → Option A) (same : A → A → Bool) (room : ℕ) (seen : List A) (line : ℕ) (x : A) where
  -- of what was seen before
  pub seen_before : list_any (same x) seen ≡ true → with_sight pick same room seen x ≡ seen
  seen_before is = ap (λ b. if b then seen else if nat_lt (length seen) room then seen ++ x ∷ [] else seen) is

  pub not_noted : list_any (same x) seen ≡ true → limit_for pick same room seen line x ≡ []
  not_noted is = ap (λ b. if b then [] else if nat_lt (length seen) room then [] else noted_at line limit_fault ∷ []) is

  -- of what is new, where there is room
  pub seen_now : list_any (same x) seen ≡ false → nat_lt (length seen) room ≡ true → with_sight pick same room seen x ≡ seen ++ x ∷ []
  seen_now is fits =
      ap (λ b. if b then seen else if nat_lt (length seen) room then seen ++ x ∷ [] else seen) is
      ∙ ap (λ b. if b then seen ++ x ∷ [] else seen) fits

  pub placed_now : list_any (same x) seen ≡ false → nat_lt (length seen) room ≡ true → limit_for pick same room seen line x ≡ []
  placed_now is fits =
      ap (λ b. if b then [] else if nat_lt (length seen) room then [] else noted_at line limit_fault ∷ []) is
      ∙ ap (λ b. if b then [] else noted_at line limit_fault ∷ []) fits

  -- and where there is none
  pub not_seen : list_any (same x) seen ≡ false → nat_lt (length seen) room ≡ false → with_sight pick same room seen x ≡ seen
  not_seen is full =
      ap (λ b. if b then seen else if nat_lt (length seen) room then seen ++ x ∷ [] else seen) is
      ∙ ap (λ b. if b then seen ++ x ∷ [] else seen) full

  pub noted_now : list_any (same x) seen ≡ false → nat_lt (length seen) room ≡ false → limit_for pick same room seen line x ≡ noted_at line limit_fault ∷ []
  noted_now is full =
      ap (λ b. if b then [] else if nat_lt (length seen) room then [] else noted_at line limit_fault ∷ []) is
      ∙ ap (λ b. if b then [] else noted_at line limit_fault ∷ []) full
