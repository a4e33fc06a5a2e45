-- Entities are exact, and what fits their list is what keeps the rules of parts.
use Rattle.std.proofs.Common.{◌≡◌, ℕ, suc, ◌+◌, ◌<◌, Bool, true, false, IsTrue, not, List, [], ◌∷◌, ◌++◌, length, get_or, take, refl, sym, subst, ◌∙◌}
use Rattle.std.proofs.Common.{append_assoc, add-one, arith}
use Rattle.std.specs.Bool.{Decides}
use Rattle.std.specs.List.{All, AllPairs, list_any}
use Rattle.std.proofs.Math.ListN.{get_or-append}
use Rattle.std.proofs.Math.Seq.{take-suc, get_or-append_seam}
use Rattle.std.proofs.lemmas.Bool.Decides.{Decides-and, Decides-eqb, nat_tests}
use Rattle.std.proofs.lemmas.List.{append-nil, length-append, length-take, get_or-take, get_or_default}
use Rattle.std.proofs.lemmas.List.Folds.{Any-from_list_any, list_any_at}
use Rattle.std.proofs.lemmas.List.Quantifiers.{all_pairs_push}
use Rattle.std.proofs.lemmas.Slice.Eq.{bytes_eq-Decides}
use Rattle.gw_object.specs.Codes as codes
use Rattle.gw_object.specs.Limits.{most_letters}
use Rattle.gw_object.specs.declared.parts.Kind.{Kind}
use Rattle.gw_object.specs.declared.parts.Kind.TheVariants.{Facility, Storage, Queue, Switch, Savevalue, Table, Chain, Variable, BooleanVariable, Function}
use Rattle.gw_object.specs.declared.parts.Entity.{Entity}
use Rattle.gw_fields.specs.Fields.{Field, byte, flag, field_with_test, both, nothing, form_read, by_tag, plain, ElementsFit}
use Rattle.gw_object.specs.BlockGrammar.{procedure_number}
use Rattle.gw_object.specs.Entities.{is_letter, letter, name, kind_tag, capacity, initial_value, table, function, kind_fields, KindFits, KindAscends, IsLettered, EntityFits, EntityAscends, IsNamed, AreNamesakes, is_named, new_name, kind_form, kind_forms, entity_spelling, entity_read, FitsBehind, entity}
use Rattle.gw_object_bytes.proofs.KindLaws.{capacity_exact, initial_value_exact, table_exact, function_exact}
use Rattle.gw_block_bytes.proofs.BlockLaws.{procedure_number_exact}
use Rattle.gw_field_bytes.proofs.OneOf.{flag_exact}
use Rattle.gw_field_bytes.proofs.Exact.{ReadsBack, ◌also◌, IsExact, IsExactForm, AreExactForms, behind_exact, by_tag_takes}
use Rattle.gw_field_bytes.proofs.ExactLists.{IsExactElement}
use Rattle.gw_field_bytes.proofs.Exact.{by_tag_within, tag_reads_back, byte_exact, tested_exact, both_exact, fitting_exact, nothing_exact}
use Rattle.gw_field_bytes.proofs.ExactLists.{plain_exact, listed_exact, All-from_fit, fit-from_All}

-- ---- names

letter_is_byte : (b : ℕ) → IsTrue (is_letter b) → b < 256
letter_is_byte b h = grind (arith, nat_tests)

letter_exact : IsExact letter
letter_exact = fitting_exact (λ b. IsTrue (is_letter b)) (field_with_test is_letter codes.tag byte) (λ b h. h.1)
    (λ b h. (letter_is_byte b h, h)) (tested_exact is_letter codes.tag byte byte_exact)

name_exact : IsExact name
name_exact = listed_exact 1 most_letters (plain letter) (omega arith) (plain_exact letter letter_exact)

new_name_exact : (front : List Entity) (tag : ℕ) → IsExact (new_name front tag)
new_name_exact front tag = tested_exact (λ n. not (list_any (is_named tag n) front)) codes.not_canonical name name_exact

named_decides : (tag : ℕ) (n : List ℕ) (e : Entity) → Decides (is_named tag n e) (IsNamed tag n e)
named_decides tag n e = Decides-and _ _ (Decides-eqb (kind_tag e.kind) tag) (bytes_eq-Decides e.name n)

-- what the test says where it fails, and where it passes
pub none_named : (tag : ℕ) (n : List ℕ) (front : List Entity) → list_any (is_named tag n) front ≡ false → All (λ other. ¬ IsNamed tag n other) front
none_named tag n front e k d lt named =
    let found : list_any (is_named tag n) front ≡ true =
    list_any_at (is_named tag n) front k d lt ((named_decides tag n (get_or front k d)).1 named) in absurd cc

pub some_named : (tag : ℕ) (n : List ℕ) (front : List Entity) → list_any (is_named tag n) front ≡ true → ¬ All (λ other. ¬ IsNamed tag n other) front
some_named tag n front e own =
    let found = Any-from_list_any (is_named tag n) front e in
    own found.0 found.1 found.2 (rw found.3 ((named_decides tag n found.1).0 found.4))

from_not : (b : Bool) → IsTrue (not b) → b ≡ false
from_not true h = absurd cc
from_not false h = refl

to_not : (b : Bool) → ¬ (b ≡ true) → IsTrue (not b)
to_not true h = absurd (h refl)
to_not false h = refl

-- ---- kinds

-- a kind whose byte and fields are these
kind_form_exact : {A : Type 0} (front : List Entity) (tag : ℕ) (make : A → Kind) (fields : Field A) → ((x : A) → kind_tag (make x) ≡ tag)
    → ((x : A) → fields.spell x ≡ kind_fields (make x)) → ((x : A) → fields.Fits x → KindFits (make x) × KindAscends (make x)) → IsExact fields
    → IsExactForm entity_spelling (FitsBehind front) (kind_form front tag make fields)
kind_form_exact {A} front tag make fields tags spells fits exact =
    behind_exact entity_spelling (FitsBehind front) tag (λ (n, x). record { name = n; kind = make x }) (both (new_name front tag) fields)
    (λ y. rw (tags y.1, spells y.1) refl)
    (λ y h. record {
      letters = All-from_fit (λ _ _. letter.Fits) letter.Fits (λ before left b fit. fit) y.0 [] h.0.0.2;
      limits = record { name_least = h.0.0.0; name_most = h.0.0.1; kind = (fits y.1 h.1).0 };
      ascends = (fits y.1 h.1).1;
      own = rw (tags y.1) (none_named tag y.0 front (from_not (list_any (is_named tag y.0) front) h.0.1));
    })
    (both_exact (new_name front tag) fields (new_name_exact front tag) exact)

kind_forms_exact : (front : List Entity) → AreExactForms entity_spelling (FitsBehind front) (kind_forms front)
unfolding table function
kind_forms_exact front =
    kind_form_exact front 1 (λ _. Facility) nothing (λ x. refl) (λ x. refl) (λ x h. (tt, tt)) nothing_exact
    also kind_form_exact front 2 (λ n. Storage n) capacity (λ x. refl) (λ x. refl) (λ x h. (h, tt)) capacity_exact
    also kind_form_exact front 3 (λ _. Queue) nothing (λ x. refl) (λ x. refl) (λ x h. (tt, tt)) nothing_exact
    also kind_form_exact front 4 (λ set. Switch set) flag (λ x. refl) (λ x. refl) (λ x h. (tt, tt)) flag_exact
    also kind_form_exact front 5 (λ n. Savevalue n) initial_value (λ x. refl) (λ x. refl) (λ x h. (h, tt)) initial_value_exact
    also kind_form_exact front 6 (λ t. Table t) table (λ x. refl) (λ x. refl) (λ x h. (h, tt)) table_exact
    also kind_form_exact front 7 (λ _. Chain) nothing (λ x. refl) (λ x. refl) (λ x h. (tt, tt)) nothing_exact
    also kind_form_exact front 8 (λ q. Variable q) procedure_number (λ x. refl) (λ x. refl) (λ x h. (h, tt)) procedure_number_exact
    also kind_form_exact front 9 (λ q. BooleanVariable q) procedure_number (λ x. refl) (λ x. refl) (λ x h. (h, tt)) procedure_number_exact
    also kind_form_exact front 10 (λ f. Function f) function (λ x. refl) (λ x. refl) (λ x h. h) function_exact
    also tt

-- ---- entities

-- the name of an entity that fits is new
name_is_new : (front : List Entity) (e : Entity) → FitsBehind front e → (new_name front (kind_tag e.kind)).Fits e.name
name_is_new front e h = (
  (h.limits.name_least, h.limits.name_most, fit-from_All letter.Fits e.name [] h.letters),
  to_not (list_any (is_named (kind_tag e.kind) e.name) front) (λ found. some_named (kind_tag e.kind) e.name front found h.own),
)

-- the byte of a kind, a new name, and the fields of the kind
form_reads_back : {A : Type 0} (front : List Entity) (tag : ℕ) (make : A → Kind) (fields : Field A)
    → ((bytes rest : List ℕ) → form_read (kind_forms front) tag bytes rest ≡ (kind_form front tag make fields).1 rest) → IsExact fields
    → (n : List ℕ) (x : A) → (new_name front tag).Fits n → fields.Fits x
    → ReadsBack (by_tag (kind_forms front)) (tag ∷ (name.spell n ++ fields.spell x)) (record { name = n; kind = make x })
form_reads_back front tag make fields found exact n x new fits =
    tag_reads_back (kind_forms front) tag (λ (n, x). record { name = n; kind = make x }) (both (new_name front tag) fields) found
    (both_exact (new_name front tag) fields (new_name_exact front tag) exact) (n, x) (new, fits)

kind_reads_back : (front : List Entity) (n : List ℕ) (k : Kind) → FitsBehind front (record { name = n; kind = k })
    → ReadsBack (entity_read front) (entity_spelling (record { name = n; kind = k })) (record { name = n; kind = k })
unfolding entity_read table function
kind_reads_back front n Facility h = form_reads_back front 1 (λ _. Facility) nothing (λ _ _. refl) nothing_exact n tt (name_is_new front _ h) tt
kind_reads_back front n (Storage c) h = form_reads_back front 2 (λ c. Storage c) capacity (λ _ _. refl) capacity_exact n c (name_is_new front _ h) h.limits.kind
kind_reads_back front n Queue h = form_reads_back front 3 (λ _. Queue) nothing (λ _ _. refl) nothing_exact n tt (name_is_new front _ h) tt
kind_reads_back front n (Switch set) h = form_reads_back front 4 (λ set. Switch set) flag (λ _ _. refl) flag_exact n set (name_is_new front _ h) tt
kind_reads_back front n (Savevalue z) h =
    form_reads_back front 5 (λ z. Savevalue z) initial_value (λ _ _. refl) initial_value_exact n z (name_is_new front _ h) h.limits.kind
kind_reads_back front n (Table t) h = form_reads_back front 6 (λ t. Table t) table (λ _ _. refl) table_exact n t (name_is_new front _ h) h.limits.kind
kind_reads_back front n Chain h = form_reads_back front 7 (λ _. Chain) nothing (λ _ _. refl) nothing_exact n tt (name_is_new front _ h) tt
kind_reads_back front n (Variable q) h =
    form_reads_back front 8 (λ q. Variable q) procedure_number (λ _ _. refl) procedure_number_exact n q (name_is_new front _ h) h.limits.kind
kind_reads_back front n (BooleanVariable q) h =
    form_reads_back front 9 (λ q. BooleanVariable q) procedure_number (λ _ _. refl) procedure_number_exact n q (name_is_new front _ h) h.limits.kind
kind_reads_back front n (Function f) h =
    form_reads_back front 10 (λ f. Function f) function (λ _ _. refl) function_exact n f (name_is_new front _ h) (h.limits.kind, h.ascends)

pub entity_exact : IsExactElement entity
unfolding entity_read
entity_exact = record {
  takes = λ front left. by_tag_takes entity_spelling (FitsBehind front) (kind_forms front) (kind_forms_exact front);
  again = λ front left e rest fits. (kind_reads_back front e.name e.kind fits).again rest;
  within = λ front left. by_tag_within entity_spelling (FitsBehind front) (kind_forms front) (kind_forms_exact front);
  cut = λ front left e fits. (kind_reads_back front e.name e.kind fits).cut;
}

-- ---- what fits the list of entities is what keeps the rules of parts

abbrev AreStrangers : Entity → Entity → Type 0
AreStrangers a b = ¬ AreNamesakes a b

strangers-from_fit : (xs front : List Entity) → AllPairs AreStrangers front → ElementsFit entity.Fits front xs → AllPairs AreStrangers (front ++ xs)
strangers-from_fit [] front own h = rw (append-nil front) own
strangers-from_fit (x ∷ xs) front own h =
    subst (AllPairs AreStrangers) (append_assoc front (x ∷ []) xs)
    (strangers-from_fit xs (front ++ x ∷ []) (all_pairs_push AreStrangers front x own h.0.own) h.1)

pub record KeepRules (es : List Entity) : Type 0 where
  pub letters : All IsLettered es
  pub limits : All EntityFits es
  pub ascend : All EntityAscends es
  pub own : AllPairs AreStrangers es

pub entities_are : (es : List Entity) → ElementsFit entity.Fits [] es → KeepRules es
entities_are es h = record {
  letters = All-from_fit entity.Fits IsLettered (λ front left e fit. fit.letters) es [] h;
  limits = All-from_fit entity.Fits EntityFits (λ front left e fit. fit.limits) es [] h;
  ascend = All-from_fit entity.Fits EntityAscends (λ front left e fit. fit.ascends) es [] h;
  own = strangers-from_fit es [] (λ i j d lt in_none. absurd (omega arith)) h;
}

fit_behind : (xs front : List Entity) → All IsLettered xs → All EntityFits xs → All EntityAscends xs → AllPairs AreStrangers (front ++ xs)
    → ElementsFit entity.Fits front xs
fit_behind [] front letters limits ascend own = tt
fit_behind (x ∷ xs) front letters limits ascend own =
    let whole = front ++ x ∷ xs in
    let before : All (λ other. AreStrangers other x) front = λ k d lt.
    let pair : AreStrangers (get_or whole k d) (get_or whole (length front) d) = own k (length front) d lt (omega (arith, length-append front (x ∷ xs))) in
    rw (get_or-append front (x ∷ xs) d k lt, get_or-append_seam front x xs d) at pair in (
      record { letters = letters 0 x (omega arith); limits = limits 0 x (omega arith); ascends = ascend 0 x (omega arith); own = before },
      fit_behind xs (front ++ x ∷ []) (λ k d lt. letters (suc k) d (omega arith)) (λ k d lt. limits (suc k) d (omega arith))
          (λ k d lt. ascend (suc k) d (omega arith)) (subst (AllPairs AreStrangers) (sym (append_assoc front (x ∷ []) xs)) own),
    )

pub entities_fit : (es : List Entity) → All IsLettered es → All EntityFits es → All EntityAscends es → AllPairs AreStrangers es → ElementsFit entity.Fits [] es
entities_fit es letters limits ascend own = fit_behind es [] letters limits ascend own

-- one more entity whose kind and name none of the first ones has
pub strangers_more : (es : List Entity) (i : ℕ) (e : Entity) (tag : ℕ) (n : List ℕ) → i < length es → e ≡ get_or es i e → tag
    ≡ kind_tag e.kind → n ≡ e.name → list_any (is_named tag n) (take i es) ≡ false → AllPairs AreStrangers (take i es)
    → AllPairs AreStrangers (take (i + 1) es)
strangers_more es i e tag n lt is tag_is name_is none own =
    let new : All (λ other. AreStrangers other e) (take i es) = rw (tag_is, name_is) at (none_named tag n (take i es) none) in
    let more : take (i + 1) es ≡ take i es ++ e ∷ [] = rw (add-one, take-suc es i e lt, ← is) refl in
    rw more (all_pairs_push AreStrangers (take i es) e own new)

-- an entity whose kind and name one of the first ones has
pub namesake_found : (es : List Entity) (i : ℕ) (e : Entity) (tag : ℕ) (n : List ℕ) → i < length es → e ≡ get_or es i e → tag
    ≡ kind_tag e.kind → n ≡ e.name → list_any (is_named tag n) (take i es) ≡ true → ¬ AllPairs AreStrangers es
namesake_found es i e tag n lt is tag_is name_is found own =
    let before : All (λ other. AreStrangers other e) (take i es) = λ k d in_front.
    let k_lt : k < i = omega (arith, length-take i es) in
    let pair : AreStrangers (get_or es k d) (get_or es i d) = own k i d k_lt lt in
    let there : get_or es i d ≡ e = get_or_default es i d e lt ∙ sym is in
    rw (get_or-take i es k d k_lt) (rw there at pair) in
    some_named tag n (take i es) found (rw (tag_is, name_is) before)
