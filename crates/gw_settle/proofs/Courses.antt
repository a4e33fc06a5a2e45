-- Courses: what rows say after so many rounds, where these lower amounts alone. What a block sends in one has a course of its own.
use Rattle.std.proofs.Common.{◌≡◌, ◌≢◌, ◌⊎◌, inl, inr, ⊎_elim, ℕ, zero, suc, ◌+◌, ◌-◌, ◌≤◌, ◌<◌, List, [], ◌∷◌, ◌++◌, map, length, Option, Some, None}
use Rattle.std.proofs.Common.{Bool, true, false, not, ◌==◌, ◌&&◌, ◌||◌, if◌then◌else◌, nat_le, refl, sym, ap, ap₂, subst, ◌∙◌, arith}
use Rattle.std.specs.Prelude.{All, is_some}
use Rattle.std.specs.List.{list_all, flat_map}
use Rattle.std.proofs.lemmas.Bool.{cases_eq, eq-eqb, ne_eqb, le-leb, lt-leb, leb-true, and_parts}
use Rattle.std.proofs.lemmas.List.{map-append}
use Rattle.std.proofs.lemmas.List.Elements.{All-nil, All-cons, All-head, All-append}
use Rattle.gw_object.specs.declared.blocks.Block.{Block}
use Rattle.gw_object.specs.declared.blocks.Block.TheVariants as blocks
use Rattle.gw_object.specs.declared.blocks.Units.{Units}
use Rattle.gw_object.specs.declared.parts.Parts.{Parts}
use Rattle.gw_object.specs.Grammar.{AreAscending}
use Rattle.gw_rules.specs.declared.ways.Who.{Who}
use Rattle.gw_rules.specs.declared.ways.Who.TheVariants.{Itself, Copies}
use Rattle.gw_rules.specs.declared.ways.Exit.{Exit}
use Rattle.gw_rules.specs.Exits.{leads_to, exits_with}
use Rattle.gw_rules.specs.Sources.{evaluation_operands}
use Rattle.gw_rules.specs.Kinds.{is_generate}
use Rattle.gw_rules.specs.declared.set_parameters.Parameter.{Parameter}
use Rattle.gw_rules.specs.declared.edges.Target.{Target}
use Rattle.gw_rules.specs.declared.edges.Target.TheVariants as targets
use Rattle.gw_rules.specs.Blocks.{FlowEdge, Rule, rule, replaces, number_rules, parameters_read, value_rules, own_rules, rules, parameter_set, with_setting, after, returns_read, is_used, known_of, edges_along, edges_from, joins}
use Rattle.gw_rules.specs.FlowCodes as codes
use Rattle.gw_rules.specs.Entries.{lists, entry, amount_of, with_entry, with_number, without_number}
use Rattle.gw_rules.specs.Rows.{Row, ParamKind, is_number, is_return, return_blocks, units_of, nothing_known, is_empty, with_parameter, with_facility, without_facility, with_units, parameters_alone, KindAscends, IsOrdered}
use Rattle.gw_rules.specs.Seen.{kind_seen}
use Rattle.gw_rules.proofs.Entries.{amount-with_entry}
use Rattle.gw_flow.proofs.Ordered.{seen_ascends, with_parameter_ordered, with_facility_ordered, without_facility_ordered, with_units_ordered}
use Rattle.gw_settle.specs.Joins.{keep, joined_kind, join_rows}
use Rattle.gw_settle.specs.Jumps.{units_asked}
use Rattle.gw_settle.proofs.Joining.{units_joined}
use Rattle.gw_settle.proofs.Ordering.{join_is_ordered}
use Rattle.gw_settle.proofs.Alike.{row_same}

-- what a row says after each number of rounds
abbrev pub Course : Type 0
Course = ℕ → Row

-- for n rounds nothing changes but amounts: they fall, and no slower from round to round
pub record Declines (n : ℕ) (f : Course) : Type 0 where
  pub params : (t : ℕ) → (f t).params ≡ (f 0).params
  pub facilities : (t : ℕ) → (f t).facilities ≡ (f 0).facilities
  pub ordered : (t : ℕ) → IsOrdered (f t)
  pub falls : (t e : ℕ) → suc t ≤ n → units_of (f (suc t)) e ≤ units_of (f t) e
  pub slows : (t e : ℕ) → suc (suc t) ≤ n → units_of (f t) e + units_of (f (suc (suc t))) e ≤ units_of (f (suc t)) e + units_of (f (suc t)) e

-- what has fallen by the last round
pub fallen_by : (n : ℕ) (f : Course) → Declines n f → (t e : ℕ) → t ≤ n → units_of (f t) e ≤ units_of (f 0) e
fallen_by n f h zero e le = omega arith
fallen_by n f h (suc t) e le = omega (arith, fallen_by n f h t e (omega (arith, le)), h.falls t e le)

left_at : (n : ℕ) (f : Course) → Declines n f → (d t e : ℕ) → d + t ≡ n → units_of (f n) e ≤ units_of (f t) e
left_at n f h zero t e is = let same : t ≡ n = omega (arith, is) in subst (λ m. units_of (f n) e ≤ units_of (f m) e) (sym same) (omega arith)
left_at n f h (suc d) t e is = omega (arith, left_at n f h d (suc t) e (omega (arith, is)), h.falls t e (omega (arith, is)))

pub left_to : (n : ℕ) (f : Course) → Declines n f → (t e : ℕ) → t ≤ n → units_of (f n) e ≤ units_of (f t) e
left_to n f h t e le = left_at n f h (n - t) t e (omega (arith, le))

-- JOINS

pub joined_declines : (n : ℕ) (f s : Course) → Declines n f → Declines n s → Declines n (λ t. join_rows (f t) (s t))
joined_declines n f s h g = record {
  params = λ t. ap₂ (λ ps qs. keep (λ p. joined_kind (entry ps p) (entry qs p)) ps) (h.params t) (g.params t);
  facilities = h.facilities;
  ordered = λ t. join_is_ordered (f t) (s t) (h.ordered t) (g.ordered t);
  falls = λ t e le. omega (arith, units_joined (f t) (s t) e, units_joined (f (suc t)) (s (suc t)) e, h.falls t e le, g.falls t e le);
  slows = λ t e le. omega (
    arith,
    units_joined (f t) (s t) e,
    units_joined (f (suc t)) (s (suc t)) e,
    units_joined (f (suc (suc t))) (s (suc (suc t))) e,
    h.slows t e le,
    g.slows t e le,
  );
}

-- CHANGES

parameter_declines : (n p : ℕ) (kind : ParamKind) (f : Course) → KindAscends kind → Declines n f → Declines n (λ t. with_parameter p kind (f t))
parameter_declines n p kind f up h = record {
  params = λ t. ap (λ ps. with_entry p (Some kind) ps) (h.params t);
  facilities = h.facilities;
  ordered = λ t. with_parameter_ordered (f t) (h.ordered t) p kind up;
  falls = h.falls;
  slows = h.slows;
}

setting_declines : (n : ℕ) (set : Option Parameter) (f : Course) → Declines n f → Declines n (λ t. with_setting set (f t))
setting_declines n None f h = h
setting_declines n (Some set) f h = parameter_declines n set.number (kind_seen [] set.kind) f (seen_ascends [] (All-nil AreAscending) set.kind) h

facility_declines : (n x : ℕ) (f : Course) → Declines n f → Declines n (λ t. with_facility x (f t))
facility_declines n x f h = record {
  params = h.params;
  facilities = λ t. ap (λ fs. with_number x fs) (h.facilities t);
  ordered = λ t. with_facility_ordered (f t) (h.ordered t) x;
  falls = h.falls;
  slows = h.slows;
}

release_declines : (n x : ℕ) (f : Course) → Declines n f → Declines n (λ t. without_facility x (f t))
release_declines n x f h = record {
  params = h.params;
  facilities = λ t. ap (λ fs. without_number x fs) (h.facilities t);
  ordered = λ t. without_facility_ordered (f t) (h.ordered t) x;
  falls = h.falls;
  slows = h.slows;
}

written : (row : Row) (x n e : ℕ) → x ≡ e → units_of (with_units x n row) e ≡ n
written row x n e q = amount-with_entry x n row.units e ∙ rw (eq-eqb x e q) refl

unwritten : (row : Row) (x n e : ℕ) → x ≢ e → units_of (with_units x n row) e ≡ units_of row e
unwritten row x n e ne = amount-with_entry x n row.units e ∙ rw (ne_eqb x e ne) refl

-- amounts of one entity that fall so take the place of others
units_declines : (n x : ℕ) (g : ℕ → ℕ) (f : Course) → ((t : ℕ) → suc t ≤ n → g (suc t) ≤ g t)
    → ((t : ℕ) → suc (suc t) ≤ n → g t + g (suc (suc t)) ≤ g (suc t) + g (suc t)) → Declines n f → Declines n (λ t. with_units x (g t) (f t))
units_declines n x g f fall slow h = record {
  params = h.params;
  facilities = h.facilities;
  ordered = λ t. with_units_ordered (f t) (h.ordered t) x (g t);
  falls = λ t e le. ⊎_elim
      (λ (q : x ≡ e). omega (arith, written (f t) x (g t) e q, written (f (suc t)) x (g (suc t)) e q, fall t le))
      (λ (ne : x ≢ e). omega (arith, unwritten (f t) x (g t) e ne, unwritten (f (suc t)) x (g (suc t)) e ne, h.falls t e le))
      (cases_eq x e);
  slows = λ t e le. ⊎_elim
      (λ (q : x ≡ e). omega (
        arith,
        written (f t) x (g t) e q,
        written (f (suc t)) x (g (suc t)) e q,
        written (f (suc (suc t))) x (g (suc (suc t))) e q,
        slow t le,
      ))
      (λ (ne : x ≢ e). omega (
        arith,
        unwritten (f t) x (g t) e ne,
        unwritten (f (suc t)) x (g (suc t)) e ne,
        unwritten (f (suc (suc t))) x (g (suc (suc t))) e ne,
        h.slows t e le,
      ))
      (cases_eq x e);
}

more_declines : (n : ℕ) (u : Units) (f : Course) → Declines n f → Declines n (λ t. with_units u.entity (units_of (f t) u.entity + u.number) (f t))
more_declines n u f h = units_declines n u.entity (λ t. units_of (f t) u.entity + u.number) f
    (λ t le. omega (arith, h.falls t u.entity le)) (λ t le. omega (arith, h.slows t u.entity le)) h

-- as many as a block asks are held at each time
abbrev pub Holds : ℕ → Option Units → Course → Type 0
Holds n None f = Unit {0}
Holds n (Some u) f = u.number ≤ units_of (f n) u.entity

less_declines : (n : ℕ) (u : Units) (f : Course) → Holds n (Some u) f → Declines n f
    → Declines n (λ t. with_units u.entity (units_of (f t) u.entity - u.number) (f t))
less_declines n u f g h = units_declines n u.entity (λ t. units_of (f t) u.entity - u.number) f
    (λ t le. omega (arith, h.falls t u.entity le))
    (λ t le. omega (
      arith,
      h.slows t u.entity le,
      g,
      left_to n f h (suc (suc t)) u.entity le,
      left_to n f h (suc t) u.entity (omega (arith, le)),
      left_to n f h t u.entity (omega (arith, le)),
    ))
    h

alone_declines : (n : ℕ) (f : Course) → Declines n f → Declines n (λ t. parameters_alone (f t))
alone_declines n f h = record {
  params = h.params;
  facilities = λ t. refl;
  ordered = λ t. record {
    params = (h.ordered t).params;
    returns = (h.ordered t).returns;
    facilities = λ i j d lt within. absurd (omega arith);
    units = λ i j d lt within. absurd (omega arith);
    amounts = All-nil (λ (e : ℕ × ℕ). e.1 ≢ 0);
  };
  falls = λ t e le. omega arith;
  slows = λ t e le. omega arith;
}

-- who has passed a block has a course too
pub after_declines : (n b : ℕ) (block : Block) (f : Course) → Holds n (units_asked block) f → Declines n f → Declines n (λ t. after b block (f t))
after_declines n b (blocks.Seize x) f g h = facility_declines n x f h
after_declines n b (blocks.Release x) f g h = release_declines n x f h
after_declines n b (blocks.Enter u) f g h = more_declines n u f h
after_declines n b (blocks.Leave u) f g h = less_declines n u f g h
after_declines n b (blocks.Queue u) f g h = more_declines n u f h
after_declines n b (blocks.Depart u) f g h = less_declines n u f g h
after_declines n b block f g h = setting_declines n (parameter_set b block) f h

-- RULES

-- a course of which nothing is known at first is of nothing known
no_units : (es : List (ℕ × ℕ)) → All (λ e. e.1 ≢ 0) es → ((e : ℕ) → amount_of es e ≡ 0) → es ≡ []
no_units [] some h = refl
no_units (e ∷ es) some h =
    absurd (All-head (λ x. x.1 ≢ 0) e es some (sym (let first : amount_of (e ∷ es) e.0 ≡ e.1 = rw (eq-eqb e.0 e.0 refl) refl in first) ∙ h e.0))

pub nothing_stays : (n t : ℕ) (f : Course) → Declines n f → t ≤ n → f 0 ≡ nothing_known → f t ≡ f 0
nothing_stays n t f h le is =
    row_same (f t) (f 0) (h.ordered t) (h.ordered 0) (h.params t) (h.facilities t)
    (λ e. let none : units_of (f 0) e ≡ 0 = ap (λ row. units_of row e) is in omega (arith, none, fallen_by n f h t e le))

-- whether a rule on units holds is the same at each time
abbrev pub IsDecidedFor : ℕ → Option Units → Course → Type 0
IsDecidedFor n None f = Unit {0}
IsDecidedFor n (Some u) f = (u.number ≤ units_of (f n) u.entity) ⊎ (units_of (f 0) u.entity < u.number)

units_same : (n t : ℕ) (u : Units) (f : Course) → Declines n f → t ≤ n → IsDecidedFor n (Some u) f
    → nat_le u.number (units_of (f t) u.entity) ≡ nat_le u.number (units_of (f 0) u.entity)
units_same n t u f h le (inl q) =
    le-leb u.number (units_of (f t) u.entity) (omega (arith, q, left_to n f h t u.entity le))
    ∙ sym (le-leb u.number (units_of (f 0) u.entity) (omega (arith, q, left_to n f h 0 u.entity (omega arith))))
units_same n t u f h le (inr q) =
    lt-leb u.number (units_of (f t) u.entity) (omega (arith, q, fallen_by n f h t u.entity le))
    ∙ sym (lt-leb u.number (units_of (f 0) u.entity) q)

abbrev of_params : List (ℕ × ParamKind) → Row
of_params ps = record { params = ps; facilities = []; units = [] }

module _ (p : Parts) (n t : ℕ) (f : Course) (h : Declines n f) (le : t ≤ n) where
  values_same : (block : Block) → value_rules p block (f t) ≡ value_rules p block (f 0)
  values_same block = ap (λ ps. flat_map (number_rules (of_params ps)) (parameters_read p (evaluation_operands p.entities block))) (h.params t)

  own_same : (block : Block) → IsDecidedFor n (units_asked block) f → (is_generate (Some block) ≡ true → f 0 ≡ nothing_known)
      → own_rules p block (f t) ≡ own_rules p block (f 0)
  own_same (blocks.Generate g) d arrives = ap (λ row. rule codes.edge_state (is_empty row) ∷ []) (nothing_stays n t f h le (arrives refl))
  own_same (blocks.Terminate by) d arrives = ap (λ (fs : List ℕ). rule codes.owns_at_end (length fs == 0) ∷ []) (h.facilities t)
  own_same (blocks.Assemble size) d arrives = ap (λ (fs : List ℕ). rule codes.owns_at_end (length fs == 0) ∷ []) (h.facilities t)
  own_same (blocks.Seize x) d arrives = ap (λ (fs : List ℕ). rule codes.already_owned (not (lists fs x)) ∷ []) (h.facilities t)
  own_same (blocks.Release x) d arrives = ap (λ (fs : List ℕ). rule codes.not_owner (lists fs x) ∷ []) (h.facilities t)
  own_same (blocks.Leave u) d arrives = ap (λ is. rule codes.too_few_units is ∷ []) (units_same n t u f h le d)
  own_same (blocks.Depart u) d arrives = ap (λ is. rule codes.too_few_units is ∷ []) (units_same n t u f h le d)
  own_same (blocks.Assign a) d arrives =
      ap (λ (ps : List (ℕ × ParamKind)). rule codes.param_kind (replaces a.mode || not (is_return (entry ps a.parameter))) ∷ []) (h.params t)
  own_same (blocks.TransferByParameter q) d arrives =
      ap (λ (ps : List (ℕ × ParamKind)). rule codes.unset_param (is_some (entry ps q)) ∷ rule codes.param_kind (is_return (entry ps q)) ∷ []) (h.params t)
  own_same (blocks.Loop l) d arrives =
      ap (λ (ps : List (ℕ × ParamKind)). rule codes.unset_param (is_some (entry ps l.parameter))
      ∷ rule codes.param_kind (is_number (entry ps l.parameter)) ∷ []) (h.params t)
  own_same block d arrives = refl

  -- the rules of a block are the same at each time
  pub rules_same : (block : Block) → IsDecidedFor n (units_asked block) f → (is_generate (Some block) ≡ true → f 0 ≡ nothing_known)
      → rules p block (f t) ≡ rules p block (f 0)
  rules_same block d arrives = ap₂ (λ xs ys. xs ++ ys) (values_same block) (own_same block d arrives)

  -- a block leads to the same blocks
  pub exits_same : (block : Block) → exits_with (returns_read block (f t)) block ≡ exits_with (returns_read block (f 0)) block
  exits_same (blocks.TransferByParameter q) =
      ap (λ (ps : List (ℕ × ParamKind)). exits_with (return_blocks (entry ps q)) (blocks.TransferByParameter q)) (h.params t)
  exits_same block = refl

own_hold : (xs ys : List Rule) → list_all (λ (r : Rule). r.holds) (xs ++ ys) ≡ true → list_all (λ (r : Rule). r.holds) ys ≡ true
own_hold [] ys h = h
own_hold (x ∷ xs) ys h = own_hold xs ys (and_parts x.holds (list_all (λ (r : Rule). r.holds) (xs ++ ys)) h).1

asked_held : (n : ℕ) (u : Units) (f : Course) → (nat_le u.number (units_of (f 0) u.entity) && true) ≡ true → IsDecidedFor n (Some u) f → Holds n (Some u) f
asked_held n u f h (inl q) = q
asked_held n u f h (inr q) =
    let le : u.number ≤ units_of (f 0) u.entity =
    leb-true u.number (units_of (f 0) u.entity) (and_parts (nat_le u.number (units_of (f 0) u.entity)) true h).0 in
    absurd (omega (arith, le, q))

-- where a block's rules hold at first, what it asks is held to the end
pub rules_held : (p : Parts) (n : ℕ) (block : Block) (f : Course) → list_all (λ (r : Rule). r.holds) (rules p block (f 0)) ≡ true
    → IsDecidedFor n (units_asked block) f → Holds n (units_asked block) f
rules_held p n (blocks.Leave u) f h d = asked_held n u f (own_hold (value_rules p (blocks.Leave u) (f 0)) (own_rules p (blocks.Leave u) (f 0)) h) d
rules_held p n (blocks.Depart u) f h d = asked_held n u f (own_hold (value_rules p (blocks.Depart u) (f 0)) (own_rules p (blocks.Depart u) (f 0)) h) d
rules_held p n block f h d = tt

-- EDGES

-- an edge whose state has a course
pub record CourseEdge : Type 0 where
  pub code : ℕ
  pub target : Target
  pub course : Course

-- the edge after so many rounds
abbrev pub edge_at : ℕ → CourseEdge → FlowEdge
edge_at t e = record { code = e.code; target = e.target; state = e.course t }

abbrev pub edges_at : ℕ → List CourseEdge → List FlowEdge
edges_at t es = map (edge_at t) es

abbrev pub EdgeDeclines : ℕ → CourseEdge → Type 0
EdgeDeclines n e = Declines n e.course

abbrev pub course_edge : ℕ → Target → Course → CourseEdge
course_edge code target course = record { code = code; target = target; course = course }

abbrev pub course_along : ℕ → Course → Exit → List CourseEdge
course_along b f exit = if is_used exit.who then course_edge codes.edge_state (targets.Block (leads_to b exit.way)) (λ t. known_of exit.who (f t)) ∷ [] else []

at_if : (t : ℕ) (used : Bool) (e : CourseEdge) → edges_at t (if used then e ∷ [] else []) ≡ (if used then edge_at t e ∷ [] else [])
at_if t true e = refl
at_if t false e = refl

along_at : (t b : ℕ) (f : Course) (exits : List Exit) → edges_at t (flat_map (course_along b f) exits) ≡ edges_along b exits (f t)
along_at t b f [] = refl
along_at t b f (x ∷ xs) =
    map-append (edge_at t) (course_along b f x) (flat_map (course_along b f) xs)
    ∙ ap₂ (λ es fs. es ++ fs)
    (at_if t (is_used x.who) (course_edge codes.edge_state (targets.Block (leads_to b x.way)) (λ t. known_of x.who (f t)))) (along_at t b f xs)

known_declines : (n : ℕ) (who : Who) (f : Course) → Declines n f → Declines n (λ t. known_of who (f t))
known_declines n Itself f h = h
known_declines n (Copies copies) f h = alone_declines n f h

if_declines : (n : ℕ) (used : Bool) (e : CourseEdge) → EdgeDeclines n e → All (EdgeDeclines n) (if used then e ∷ [] else [])
if_declines n true e h = All-cons (EdgeDeclines n) e [] h (All-nil (EdgeDeclines n))
if_declines n false e h = All-nil (EdgeDeclines n)

along_decline : (n b : ℕ) (f : Course) (exits : List Exit) → Declines n f → All (EdgeDeclines n) (flat_map (course_along b f) exits)
along_decline n b f [] h = All-nil (EdgeDeclines n)
along_decline n b f (x ∷ xs) h =
    All-append (EdgeDeclines n) (course_along b f x) (flat_map (course_along b f) xs)
    (if_declines n (is_used x.who) (course_edge codes.edge_state (targets.Block (leads_to b x.way)) (λ t. known_of x.who (f t))) (known_declines n x.who f h))
    (along_decline n b f xs h)

-- the edges to blocks
abbrev pub courses_from : ℕ → Block → Course → List CourseEdge
courses_from b block f = flat_map (course_along b (λ t. after b block (f t))) (exits_with (returns_read block (f 0)) block)

pub from_at : (p : Parts) (n t b : ℕ) (block : Block) (f : Course) → Declines n f → t ≤ n → edges_at t (courses_from b block f) ≡ edges_from b block (f t)
from_at p n t b block f h le =
    along_at t b (λ s. after b block (f s)) (exits_with (returns_read block (f 0)) block)
    ∙ ap (λ exits. edges_along b exits (after b block (f t))) (sym (exits_same p n t f h le block))

pub from_decline : (n b : ℕ) (block : Block) (f : Course) → Holds n (units_asked block) f → Declines n f → All (EdgeDeclines n) (courses_from b block f)
from_decline n b block f g h = along_decline n b (λ t. after b block (f t)) (exits_with (returns_read block (f 0)) block) (after_declines n b block f g h)

-- the edge to a user chain
abbrev pub courses_joining : Block → Course → List CourseEdge
courses_joining (blocks.Link l) f = course_edge codes.chain_state (targets.Chain l.chain) f ∷ []
courses_joining block f = []

pub joining_at : (t : ℕ) (block : Block) (f : Course) → edges_at t (courses_joining block f) ≡ joins block (f t)
joining_at t (blocks.Link l) f = refl
joining_at t block f = refl

pub joining_declines : (n : ℕ) (block : Block) (f : Course) → Declines n f → All (EdgeDeclines n) (courses_joining block f)
joining_declines n (blocks.Link l) f h = All-cons (EdgeDeclines n) (course_edge codes.chain_state (targets.Chain l.chain) f) [] h (All-nil (EdgeDeclines n))
joining_declines n block f h = All-nil (EdgeDeclines n)
