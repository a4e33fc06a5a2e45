-- What is declared last.
use Rattle.std.proofs.Common.{◌≡◌, ℕ, List, [], ◌∷◌, ◌++◌, Option, Some, None, Bool, true, false, if◌then◌else◌, refl, sym, ap, subst, ◌∙◌}
use Rattle.std.proofs.Common.{cond, Result, Ok, Err, OnOk, suc, ◌+◌, ◌<◌, length, get_or, drop, add-one, ℤ}
use Rattle.std.proofs.Math.Seq.{drop-cons}
use Rattle.gw_text.specs.declared.model.Statement.{Statement}
use Rattle.std.specs.Prelude.{string_bytes}
use Rattle.std.specs.Option.{option_or}
use Rattle.std.specs.Cmp.Lexicographic.{nat_list_eq_equiv}
use Rattle.std.specs.Str.{bytes_eq}
use Rattle.std.specs.String.{string_eq}
use Rattle.std.specs.declared.string.String.{String}
use Rattle.std.proofs.lemmas.Map.Text.{hash_map_updates_text}
use Rattle.indexmap.specs.IndexMap.{IndexMap, Updates}
use Rattle.gw_rules.specs.declared.entities.EntityKind.TheVariants as kinds
use Rattle.gw_names.specs.declared.entities.ByKind.{ByKind}
use Rattle.gw_rules.specs.declared.entities.EntityKind.{EntityKind}
use Rattle.gw_names.specs.Known.{key, found_in, entity_of}
use Rattle.gw_names.specs.Places.{last_by, last_of, Adds, AddsEntities, name_entry, places_from, blocks_up_to, block_label, block_labels}
use Rattle.gw_names.specs.Places.{number_below, numbers_below}

pub or_none : {X : Type 0} (o : Option X) → option_or o None ≡ o
or_none None = refl
or_none (Some x) = refl

pub or_assoc : {X : Type 0} (a b c : Option X) → option_or (option_or a b) c ≡ option_or a (option_or b c)
or_assoc None b c = refl
or_assoc (Some x) b c = refl

-- of two lists
pub last_append : {K X : Type 0} (test : K → Bool) (xs ys : List (K × X)) → last_by test (xs ++ ys) ≡ option_or (last_by test ys) (last_by test xs)
last_append test [] ys = sym (or_none (last_by test ys))
last_append test (x ∷ xs) ys =
    let own = if test x.0 then Some x.1 else None in
    ap (λ o. option_or o own) (last_append test xs ys) ∙ or_assoc (last_by test ys) (last_by test xs) own

-- what was to come, once its first part has come
pub comes : {K X : Type 0} (test : K → Bool) (more rest : List (K × X)) (before after : Option X) → after
    ≡ option_or (last_by test more) before → option_or (last_by test (more ++ rest)) before ≡ option_or (last_by test rest) after
comes test more rest before after adds =
    ap (λ o. option_or o before) (last_append test more rest)
    ∙ or_assoc (last_by test rest) (last_by test more) before
    ∙ ap (option_or (last_by test rest)) (sym adds)

-- MAPS

-- what holds behind an answer that is there
pub on_ok : {A E P Q : Type 0} (answer : Result A E) → (P → Q) → OnOk answer P → OnOk answer Q
on_ok (Ok x) f p = f p
on_ok (Err e) f p = tt

by_test : {X : Type 0} (b : Bool) (v : X) (o : Option X) → cond b (Some v) o ≡ option_or (option_or None (if b then Some v else None)) o
by_test true v o = refl
by_test false v o = refl

-- a name is set
pub set_adds : {Y X S : Type 0} (k : String Y) (v : X) (m n : IndexMap (String Y) X S) (bytes : List ℕ) → string_bytes k ≡ bytes
    → Updates string_eq m n k (Some v) → Adds ((bytes, v) ∷ []) (found_in m) (found_in n)
set_adds k v m n bytes is updates = λ name.
    hash_map_updates_text (string_bytes k) m n (Some v) updates name
    ∙ ap (λ b. cond b (Some v) (found_in m name)) (nat_list_eq_equiv.symm (string_bytes k) name)
    ∙ ap (λ (k : List ℕ). cond (bytes_eq name k) (Some v) (found_in m name)) is
    ∙ by_test (bytes_eq name bytes) v (found_in m name)

-- an entity is set, by its kind
module _ {X : Type 0} (old : ByKind X) (kind : EntityKind) (name : List ℕ) (v : X) where
  abbrev Sets : ByKind X → EntityKind → Type 0
  Sets new k = AddsEntities ((key k name, v) ∷ []) (entity_of old) (entity_of new)

  at_facilities : (new : ByKind X) → Adds ((name, v) ∷ []) (found_in old.facilities) (found_in new.facilities) → new
      ≡ record old { facilities = new.facilities } → Sets new kinds.Facility
  at_facilities new adds same kinds.Facility n = adds n
  at_facilities new adds same asked n = ap (λ (names : ByKind X). entity_of names asked n) same

  pub set_facilities : (new : ByKind X) → kind ≡ kinds.Facility → new ≡ record old { facilities = new.facilities }
      → Adds ((name, v) ∷ []) (found_in old.facilities) (found_in new.facilities) → Sets new kind
  set_facilities new is same adds = subst (Sets new) (sym is) (at_facilities new adds same)

  at_storages : (new : ByKind X) → Adds ((name, v) ∷ []) (found_in old.storages) (found_in new.storages) → new
      ≡ record old { storages = new.storages } → Sets new kinds.Storage
  at_storages new adds same kinds.Storage n = adds n
  at_storages new adds same asked n = ap (λ (names : ByKind X). entity_of names asked n) same

  pub set_storages : (new : ByKind X) → kind ≡ kinds.Storage → new ≡ record old { storages = new.storages }
      → Adds ((name, v) ∷ []) (found_in old.storages) (found_in new.storages) → Sets new kind
  set_storages new is same adds = subst (Sets new) (sym is) (at_storages new adds same)

  at_queues : (new : ByKind X) → Adds ((name, v) ∷ []) (found_in old.queues) (found_in new.queues) → new
      ≡ record old { queues = new.queues } → Sets new kinds.Queue
  at_queues new adds same kinds.Queue n = adds n
  at_queues new adds same asked n = ap (λ (names : ByKind X). entity_of names asked n) same

  pub set_queues : (new : ByKind X) → kind ≡ kinds.Queue → new ≡ record old { queues = new.queues }
      → Adds ((name, v) ∷ []) (found_in old.queues) (found_in new.queues) → Sets new kind
  set_queues new is same adds = subst (Sets new) (sym is) (at_queues new adds same)

  at_switches : (new : ByKind X) → Adds ((name, v) ∷ []) (found_in old.switches) (found_in new.switches) → new
      ≡ record old { switches = new.switches } → Sets new kinds.Switch
  at_switches new adds same kinds.Switch n = adds n
  at_switches new adds same asked n = ap (λ (names : ByKind X). entity_of names asked n) same

  pub set_switches : (new : ByKind X) → kind ≡ kinds.Switch → new ≡ record old { switches = new.switches }
      → Adds ((name, v) ∷ []) (found_in old.switches) (found_in new.switches) → Sets new kind
  set_switches new is same adds = subst (Sets new) (sym is) (at_switches new adds same)

  at_savevalues : (new : ByKind X) → Adds ((name, v) ∷ []) (found_in old.savevalues) (found_in new.savevalues) → new
      ≡ record old { savevalues = new.savevalues } → Sets new kinds.Savevalue
  at_savevalues new adds same kinds.Savevalue n = adds n
  at_savevalues new adds same asked n = ap (λ (names : ByKind X). entity_of names asked n) same

  pub set_savevalues : (new : ByKind X) → kind ≡ kinds.Savevalue → new ≡ record old { savevalues = new.savevalues }
      → Adds ((name, v) ∷ []) (found_in old.savevalues) (found_in new.savevalues) → Sets new kind
  set_savevalues new is same adds = subst (Sets new) (sym is) (at_savevalues new adds same)

  at_tables : (new : ByKind X) → Adds ((name, v) ∷ []) (found_in old.tables) (found_in new.tables) → new
      ≡ record old { tables = new.tables } → Sets new kinds.Table
  at_tables new adds same kinds.Table n = adds n
  at_tables new adds same asked n = ap (λ (names : ByKind X). entity_of names asked n) same

  pub set_tables : (new : ByKind X) → kind ≡ kinds.Table → new ≡ record old { tables = new.tables }
      → Adds ((name, v) ∷ []) (found_in old.tables) (found_in new.tables) → Sets new kind
  set_tables new is same adds = subst (Sets new) (sym is) (at_tables new adds same)

  at_chains : (new : ByKind X) → Adds ((name, v) ∷ []) (found_in old.chains) (found_in new.chains) → new
      ≡ record old { chains = new.chains } → Sets new kinds.Chain
  at_chains new adds same kinds.Chain n = adds n
  at_chains new adds same asked n = ap (λ (names : ByKind X). entity_of names asked n) same

  pub set_chains : (new : ByKind X) → kind ≡ kinds.Chain → new ≡ record old { chains = new.chains }
      → Adds ((name, v) ∷ []) (found_in old.chains) (found_in new.chains) → Sets new kind
  set_chains new is same adds = subst (Sets new) (sym is) (at_chains new adds same)

  at_variables : (new : ByKind X) → Adds ((name, v) ∷ []) (found_in old.variables) (found_in new.variables) → new
      ≡ record old { variables = new.variables } → Sets new kinds.Variable
  at_variables new adds same kinds.Variable n = adds n
  at_variables new adds same asked n = ap (λ (names : ByKind X). entity_of names asked n) same

  pub set_variables : (new : ByKind X) → kind ≡ kinds.Variable → new ≡ record old { variables = new.variables }
      → Adds ((name, v) ∷ []) (found_in old.variables) (found_in new.variables) → Sets new kind
  set_variables new is same adds = subst (Sets new) (sym is) (at_variables new adds same)

  at_boolean_variables : (new : ByKind X) → Adds ((name, v) ∷ []) (found_in old.boolean_variables) (found_in new.boolean_variables) → new
      ≡ record old { boolean_variables = new.boolean_variables } → Sets new kinds.BooleanVariable
  at_boolean_variables new adds same kinds.BooleanVariable n = adds n
  at_boolean_variables new adds same asked n = ap (λ (names : ByKind X). entity_of names asked n) same

  pub set_boolean_variables : (new : ByKind X) → kind ≡ kinds.BooleanVariable → new
      ≡ record old { boolean_variables = new.boolean_variables }
      → Adds ((name, v) ∷ []) (found_in old.boolean_variables) (found_in new.boolean_variables) → Sets new kind
  set_boolean_variables new is same adds = subst (Sets new) (sym is) (at_boolean_variables new adds same)

  at_functions : (new : ByKind X) → Adds ((name, v) ∷ []) (found_in old.functions) (found_in new.functions) → new
      ≡ record old { functions = new.functions } → Sets new kinds.Function
  at_functions new adds same kinds.Function n = adds n
  at_functions new adds same asked n = ap (λ (names : ByKind X). entity_of names asked n) same

  pub set_functions : (new : ByKind X) → kind ≡ kinds.Function → new ≡ record old { functions = new.functions }
      → Adds ((name, v) ∷ []) (found_in old.functions) (found_in new.functions) → Sets new kind
  set_functions new is same adds = subst (Sets new) (sym is) (at_functions new adds same)

-- THE NEXT STATEMENT

-- the statement at a place, and those behind it
pub next_statement : {A : Type 0} (ss : List A) (i : ℕ) (s : A) → i < length ss → s ≡ get_or ss i s → drop i ss ≡ s ∷ drop (i + 1) ss
next_statement ss i s within is =
    drop-cons ss i s within ∙ ap (λ x. x ∷ drop (suc i) ss) (sym is) ∙ ap (λ k. s ∷ drop k ss) (sym (add-one i))

-- what it declares comes
pub places_step : {K : Type 0} (declared : Statement → Option K) (test : K → Bool) (ss : List Statement) (i : ℕ) (s : Statement)
    (before after total : Option ℕ) → i < length ss → s ≡ get_or ss i s → after
    ≡ option_or (last_by test (name_entry (declared s) i)) before → total
    ≡ option_or (last_by test (places_from declared i (drop i ss))) before → total
    ≡ option_or (last_by test (places_from declared (i + 1) (drop (i + 1) ss))) after
places_step declared test ss i s before after total within is adds so_far =
    so_far
    ∙ ap (λ l. option_or (last_by test (places_from declared i l)) before) (next_statement ss i s within is)
    ∙ comes test (name_entry (declared s) i) (places_from declared (i + 1) (drop (i + 1) ss)) before after adds

-- and the number of a block
pub labels_step : (ss : List Statement) (i n more : ℕ) (s : Statement) (label : List ℕ) (before after total : Option ℕ) → i < length ss → s
    ≡ get_or ss i s → more ≡ blocks_up_to n s → after ≡ option_or (last_of (block_label n s) label) before → total
    ≡ option_or (last_of (block_labels n (drop i ss)) label) before → total ≡ option_or (last_of (block_labels more (drop (i + 1) ss)) label) after
labels_step ss i n more s label before after total within is counts adds so_far =
    so_far
    ∙ ap (λ l. option_or (last_of (block_labels n l) label) before) (next_statement ss i s within is)
    ∙ comes (bytes_eq label) (block_label n s) (block_labels (blocks_up_to n s) (drop (i + 1) ss)) before after adds
    ∙ ap (λ k. option_or (last_of (block_labels k (drop (i + 1) ss)) label) after) (sym counts)

-- and of an EQU
pub numbers_step : (above below : List ℕ → Option ℤ) (ss : List Statement) (i : ℕ) (s : Statement) (name : List ℕ) (total : Option ℤ) → i
    < length ss → s ≡ get_or ss i s → ((name : List ℕ) → below name ≡ number_below above s name) → total
    ≡ numbers_below above (drop i ss) name → total ≡ numbers_below below (drop (i + 1) ss) name
numbers_step above below ss i s name total within is next so_far =
    let same : below ≡ number_below above s = λ j name. next name j in
    so_far
    ∙ ap (λ l. numbers_below above l name) (next_statement ss i s within is)
    ∙ ap (λ f. numbers_below f (drop (i + 1) ss) name) (sym same)
