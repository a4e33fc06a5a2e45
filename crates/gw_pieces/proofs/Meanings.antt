-- What the names of PROCEDUREs and EQUs stand for.
use Rattle.std.proofs.Common.{◌≡◌, ◌∙◌, ◌+◌, ℕ, ℤ, suc, List, [], ◌∷◌, drop, Option, Some, None, Bool, true, false, slice_get, refl, sym, ap, subst, arith}
use Rattle.std.specs.Prelude.{string_bytes, option_and_then}
use Rattle.std.specs.Option.{option_or}
use Rattle.std.specs.Str.{bytes_eq}
use Rattle.std.specs.Cmp.Lexicographic.{bytes_decides}
use Rattle.gw_text.specs.declared.model.Body.{Body}
use Rattle.gw_text.specs.declared.model.Body.TheVariants as bodies
use Rattle.gw_text.specs.declared.model.Statement.{Statement}
use Rattle.gw_compile.specs.declared.numbering.Callee.{Callee}
use Rattle.gw_compile.specs.declared.numbering.Equ.{Equ}
use Rattle.gw_compile.specs.declared.numbering.Equ.TheVariants.{Number, Procedure}
use Rattle.gw_names.specs.Places.{is_equ, label_of, name_entry, last_of, equ_number_of}
use Rattle.gw_names.proofs.Declaring.{last_append, comes}
use Rattle.gw_pieces.proofs.Walks.{split_at}
use Rattle.gw_pieces.specs.declared.origins.Origin.{Origin}
use Rattle.gw_pieces.specs.Naming.{number_at, entries_from, callee_of_body, callee_of_statement, callee_of_origin, callee_of, equ_of_body}
use Rattle.gw_pieces.specs.Naming.{equ_of_statement, equ_of_origin, equ_by_number, equ_of_number, equ_meant, StandsAt, IsCallee, IsMeant}

-- what the next one gives comes
pub entries_step : {A X : Type 0} (entry : A → ℕ → List (List ℕ × X)) (xs : List A) (i : ℕ) (x : A) (name : List ℕ)
    (before after total : Option X) → slice_get xs i ≡ Some x
    → after ≡ option_or (last_of (entry x i) name) before → total ≡ option_or (last_of (entries_from entry i (drop i xs)) name) before
    → total ≡ option_or (last_of (entries_from entry (i + 1) (drop (i + 1) xs)) name) after
entries_step entry xs i x name before after total at adds so_far =
    so_far
    ∙ ap (λ l. option_or (last_of (entries_from entry i l) name) before) (split_at xs i x at)
    ∙ comes (bytes_eq name) (entry x i) (entries_from entry (i + 1) (drop (i + 1) xs)) before after adds

none_before : (j : ℕ) → 0 + j ≡ j
none_before j = omega arith

cases : {P : Type 0} (b : Bool) → (b ≡ true → P) → (b ≡ false → P) → P
cases true f g = f refl
cases false f g = g refl

-- what is found of two is found of one of them
either : {X P : Type 0} (a b : Option X) (x : X) → option_or a b ≡ Some x → (a ≡ Some x → P) → (b ≡ Some x → P) → P
either None b x h f g = g h
either (Some y) b x h f g = f h

-- one of the entries was found
module _ {A X : Type 0} (entry : A → ℕ → List (List ℕ × X)) (P : List ℕ → X → Type 0) where
  pub found_among : (name : List ℕ) (x : X) (k : ℕ) (xs : List A) → last_of (entries_from entry k xs) name ≡ Some x
      → ((j : ℕ) (a : A) → slice_get xs j ≡ Some a → last_of (entry a (k + j)) name ≡ Some x → P name x) → P name x
  found_among name x k [] h f = absurd cc
  found_among name x k (a ∷ xs) h f =
      let parts = sym (last_append (bytes_eq name) (entry a k) (entries_from entry (k + 1) xs)) ∙ h in
      either (last_of (entries_from entry (k + 1) xs) name) (last_of (entry a k) name) x parts
      (λ later. found_among name x (k + 1) xs later (λ j b at is. f (suc j) b at (subst (λ i. last_of (entry b i) name ≡ Some x) (shift j) is)))
      (λ here. f 0 a refl (subst (λ i. last_of (entry a i) name ≡ Some x) (none_more) here))
    where
      shift : (j : ℕ) → (k + 1) + j ≡ k + suc j
      shift j = omega arith

      none_more : k ≡ k + 0
      none_more = omega arith

-- a single entry that was found has the name
single : {X : Type 0} (name own : List ℕ) (v x : X) → last_of ((own, v) ∷ []) name ≡ Some x → (own ≡ name) × (v ≡ x)
single name own v x h = cases (bytes_eq name own)
    (λ yes. let e = rw yes at h in let is : v ≡ x = cc in (sym ((bytes_decides name own).0 yes), is))
    (λ no. let e = rw no at h in absurd cc)

module _ (ss : List Statement) (order : List Origin) where
  of_body : (name : List ℕ) (c : Callee) (place : ℕ) (s : Statement) (b : Body) → s.body ≡ b → StandsAt ss order place s
      → last_of (callee_of_body b place) name ≡ Some c → IsCallee ss order name c
  of_body name c place s (bodies.Procedure pr) is stands h =
      let e = single name (string_bytes pr.name) _ c h in
      record {
        place = place;
        statement = s;
        procedure = pr;
        stands = stands;
        body = is;
        called = e.0;
        number =
            sym (ap (λ (x : Callee). x.number) e.1);
        arguments = sym (ap (λ (x : Callee). x.arguments) e.1);
      }
  of_body name c place s bodies.Nothing is stands h = absurd cc
  of_body name c place s (bodies.Points points) is stands h = absurd cc

  of_origin : (name : List ℕ) (c : Callee) (place : ℕ) (o : Origin) → slice_get order place ≡ Some o → (there : Option Statement)
      → slice_get ss o.statement ≡ there → last_of (callee_of_statement there place) name ≡ Some c → IsCallee ss order name c
  of_origin name c place o at None is h = absurd cc
  of_origin name c place o at (Some s) is h = of_body name c place s s.body refl (record { origin = o; there = at; statement = is }) h

  -- what a name stands for is a PROCEDURE
  pub callee_is : (name : List ℕ) (c : Callee) → callee_of ss order name ≡ Some c → IsCallee ss order name c
  callee_is name c h = found_among (callee_of_origin ss) (IsCallee ss order) name c 0 order h
      (λ j o at is. of_origin name c j o at (slice_get ss o.statement) refl (subst (λ k. last_of (callee_of_origin ss o k) name ≡ Some c) (none_before j) is))

  by_label : (name : List ℕ) (q : ℕ) (e : Equ) (label : Option (List ℕ)) → last_of (name_entry label (Procedure q)) name ≡ Some e
      → (label ≡ Some name) × (Procedure q ≡ e)
  by_label name q e None h = absurd cc
  by_label name q e (Some own) h = let x = single name own (Procedure q) e h in (ap Some x.0, x.1)

  equ_in_body : (name : List ℕ) (e : Equ) (place : ℕ) (s : Statement) (b : Body) → s.body ≡ b → StandsAt ss order place s
      → last_of (equ_of_body b s place) name ≡ Some e → IsMeant ss order name e
  equ_in_body name e place s (bodies.Procedure pr) is stands h = absurd cc
  equ_in_body name e place s (bodies.Points points) is stands h = absurd cc
  equ_in_body name e place s bodies.Nothing is stands h = cases (is_equ s.word)
      (λ yes.
      let x = by_label name (number_at place) e (label_of s) (rw yes at h) in
      subst (IsMeant ss order name) x.1 (record { place = place; statement = s; stands = stands; body = is; word = yes; label = x.0; number = refl }))
      (λ no. let x = rw no at h in absurd cc)

  equ_in_origin : (name : List ℕ) (e : Equ) (place : ℕ) (o : Origin) → slice_get order place ≡ Some o → (there : Option Statement)
      → slice_get ss o.statement ≡ there → last_of (equ_of_statement there place) name ≡ Some e → IsMeant ss order name e
  equ_in_origin name e place o at None is h = absurd cc
  equ_in_origin name e place o at (Some s) is h = equ_in_body name e place s s.body refl (record { origin = o; there = at; statement = is }) h

  number_by : (name own : List ℕ) (z : Option ℤ) (e : Equ) → equ_number_of ss own ≡ z → last_of (equ_by_number (Some own) z) name ≡ Some e
      → IsMeant ss order name e
  number_by name own None e is h = absurd cc
  number_by name own (Some z) e is h =
      let x = single name own (Number z) e h in
      subst (IsMeant ss order name) x.1 (subst (λ y. equ_number_of ss y ≡ Some z) x.0 is)

  number_in : (name : List ℕ) (e : Equ) (label : Option (List ℕ))
      → last_of (equ_by_number label (option_and_then (equ_number_of ss) label)) name ≡ Some e → IsMeant ss order name e
  number_in name e None h = absurd cc
  number_in name e (Some own) h = number_by name own (equ_number_of ss own) e refl h

  number_of_statement : (name : List ℕ) (e : Equ) (s : Statement) (i : ℕ) → last_of (equ_of_number (equ_number_of ss) s i) name ≡ Some e
      → IsMeant ss order name e
  number_of_statement name e s i h = cases (is_equ s.word)
      (λ yes. number_in name e (label_of s) (rw yes at h))
      (λ no. let x = rw no at h in absurd cc)

  -- and an EQU
  pub equ_is : (name : List ℕ) (e : Equ) → equ_meant ss order name ≡ Some e → IsMeant ss order name e
  equ_is name e h = either (last_of (entries_from (equ_of_number (equ_number_of ss)) 0 ss) name) (last_of (entries_from (equ_of_origin ss) 0 order) name) e h
      (λ number. found_among (equ_of_number (equ_number_of ss)) (IsMeant ss order) name e 0 ss number (λ j s at is. number_of_statement name e s j is))
      (λ procedure. found_among (equ_of_origin ss) (IsMeant ss order) name e 0 order procedure
      (λ j o at is. equ_in_origin name e j o at (slice_get ss o.statement) refl
      (subst (λ k. last_of (equ_of_origin ss o k) name ≡ Some e) (none_before j) is)))
