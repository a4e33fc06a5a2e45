-- Values that are brought up to date when they are read or changed, while time passes over all of them.
use Rattle.std.proofs.Common.{◌≡◌, ℕ, ◌+◌, ◌-◌, ◌<◌, List, ◌∷◌, [], length, map, get_or, set, refl, sym, ap, ◌∙◌, arith}
use Rattle.std.specs.List.{All}
use Rattle.std.proofs.lemmas.List.{length-map, get_or-map, map-set}
use Rattle.std.proofs.lemmas.List.Elements.{All-head, All-tail}
use Rattle.gw_num.specs.Table.{at, put}
use Rattle.gw_num.proofs.Tables.{at-get_or_any, set-put}
use Rattle.gw_entities.specs.declared.numbered.Kept.{Kept}
use Rattle.gw_entities.specs.Numbered.{ByNumber, IsKept, today}

module _ {T : Type 0} (after : ℕ → T → T) where
  -- the values of a table
  abbrev values : ℕ → List (Kept T) → List T
  values passed kept = map (today after passed) kept

  -- THE TABLE THAT A MODEL SHOWS

  module _ (passed : ℕ) (kept : List (Kept T)) (n : ByNumber T) (is : record { values = values passed kept; passed = passed } ≡ n) (k : ℕ)
      (there : k < length n.values) where
    within : k < length kept
    within = omega (arith, there, length-map kept (today after passed), ap (λ (m : ByNumber T). length m.values) is)

    -- a value is read
    pub read : (d : T) (e : Kept T) → today after passed (get_or kept k e) ≡ at d n.values k
    read d e =
        sym (get_or-map (today after passed) kept k e d within)
        ∙ sym (at-get_or_any d d (values passed kept) k (omega (arith, length-map kept (today after passed), within)))
        ∙ ap (λ (m : ByNumber T). at d m.values k) is

    -- a value changes now
    pub written : ((v : T) → after 0 v ≡ v) → (d v : T) → values passed (set kept k (record { value = v; since = passed })) ≡ put d n.values k v
    written at_once d v =
        let now : passed - passed ≡ 0 = omega arith in
        let is_now : today after passed (record { value = v; since = passed }) ≡ v = rw now (at_once v) in
        map-set (today after passed) kept k (record { value = v; since = passed })
        ∙ ap (set (values passed kept) k) is_now
        ∙ set-put d (values passed kept) k v (omega (arith, length-map kept (today after passed), within))
        ∙ ap (λ (m : ByNumber T). put d m.values k v) is

  -- TIME PASSES

  module _ (Fits : ℕ → T → Type 0) (passed dt : ℕ) where
    pub passes : ((a b : ℕ) (v : T) → after b (after a v) ≡ after (a + b) v) → (kept : List (Kept T)) → All (IsKept Fits passed) kept
        → values (passed + dt) kept ≡ map (after dt) (values passed kept)
    passes in_parts [] all = refl
    passes in_parts (k ∷ kept) all =
        let first = All-head (IsKept Fits passed) k kept all in
        let parts : passed + dt - k.since ≡ passed - k.since + dt = omega (arith, first.since) in
        let one : today after (passed + dt) k ≡ after dt (today after passed k) = rw parts (sym (in_parts (passed - k.since) dt k.value)) in
        ap (λ v. v ∷ values (passed + dt) kept) one
        ∙ ap (λ vs. after dt (today after passed k) ∷ vs) (passes in_parts kept (All-tail (IsKept Fits passed) k kept all))
