-- The grammar of blocks is exact: each of its fields, and blocks.
use Rattle.std.proofs.Common.{◌≡◌, ℕ, Bool, true, false, IsTrue, eqb, List, [], ◌∷◌, get_or, refl, ◌∙◌, arith, rules}
use Rattle.std.specs.Int.{w16, w32, w64}
use Rattle.gw_object.specs.Limits.{most_parameters, most_streams}
use Rattle.gw_object.specs.declared.blocks.Operand.{Operand}
use Rattle.gw_object.specs.declared.blocks.Operand.TheVariants.{Constant, Parameter, Attribute, OfEntity, Random, Procedure}
use Rattle.gw_object.specs.declared.blocks.Block.{Block}
use Rattle.gw_object.specs.declared.blocks.Block.TheVariants as blocks
use Rattle.gw_fields.specs.Fields.{Field, behind, byte, form_read, signed_number, nothing, optional}
use Rattle.gw_object.specs.BlockGrammar.{parameter_number, stream_number, attribute_byte, attributes, attribute, entity_attribute_byte, entity_attributes, NumberedFits, numbered_field, OperandFits, operand_spelling, operand_forms, operand_read, operand, mode_byte, modes, mode, AssignFits, assign, comparison_byte, comparisons, TestFits, test_operands, condition_byte, conditions, GateFits, gate, CallFits, call, LoopFits, countdown, SplitFits, split, set_size, order_byte, orders, LinkFits, link, UnlinkFits, unlink, action_byte, actions, LogicFits, logic, SaveFits, save, PriorityFits, priority, PlusFits, plus, SpreadFits, spread, GenerateFits, generate, entity_number, procedure_number, UnitsFit, units, block_number, FractionFits, fraction, BothFits, choice, has_choices, block_spelling, tag_form, block_forms, forms_where, block_read, block}
use Rattle.gw_field_bytes.proofs.OneOf.{one_of_exact, flag_exact}
use Rattle.gw_field_bytes.proofs.Exact.{ReadsBack, ◌also◌, tag_reads_back, IsExactForm, AreExactForms, behind_exact, by_tag_exact, IsExact}
use Rattle.gw_field_bytes.proofs.Exact.{byte_exact, wide16, wide32, wide64, number_exact, signed_exact, made_exact, both_exact, fitting_exact}
use Rattle.gw_field_bytes.proofs.Exact.{ranged_exact, nothing_exact, optional_exact}

-- ---- numbers

pub entity_number_exact : IsExact entity_number
entity_number_exact = number_exact w16 wide16

pub procedure_number_exact : IsExact procedure_number
procedure_number_exact = number_exact w16 wide16

pub parameter_number_exact : IsExact parameter_number
parameter_number_exact = ranged_exact 1 most_parameters byte (λ n h. omega arith) byte_exact

-- ---- operands

stream_number_exact : IsExact stream_number
stream_number_exact = ranged_exact 1 most_streams byte (λ n h. omega arith) byte_exact

pub attribute_exact : IsExact attribute
attribute_exact = one_of_exact attribute_byte attributes (λ x. search rules)

pub numbered_exact : IsExact numbered_field
numbered_exact = fitting_exact NumberedFits _ (λ n h. h.1) (λ n h. (tt, h))
    (made_exact _ _ _ (λ x h. refl) (λ n h. refl)
    (both_exact _ _ (one_of_exact entity_attribute_byte entity_attributes (λ x. search rules)) (number_exact w16 wide16)))

operand_forms_exact : AreExactForms operand_spelling OperandFits operand_forms
operand_forms_exact =
    behind_exact operand_spelling OperandFits 0 (λ n. Constant n) (signed_number w64) (λ n. refl) (λ n h. h) (signed_exact w64 wide64)
    also behind_exact operand_spelling OperandFits 1 (λ p. Parameter p) parameter_number (λ p. refl) (λ p h. h) parameter_number_exact
    also behind_exact operand_spelling OperandFits 2 (λ a. Attribute a) attribute (λ a. refl) (λ a h. tt) attribute_exact
    also behind_exact operand_spelling OperandFits 3 (λ n. OfEntity n) numbered_field (λ n. refl) (λ n h. h) numbered_exact
    also behind_exact operand_spelling OperandFits 4 (λ s. Random s) stream_number (λ s. refl) (λ s h. h) stream_number_exact
    also behind_exact operand_spelling OperandFits 5 (λ q. Procedure q) procedure_number (λ q. refl) (λ q h. h) procedure_number_exact
    also tt

operand_reads_back : (x : Operand) → OperandFits x → ReadsBack operand_read (operand_spelling x) x
unfolding operand_read
operand_reads_back (Constant n) fits = tag_reads_back operand_forms 0 (λ n. Constant n) (signed_number w64) (λ _ _. refl) (signed_exact w64 wide64) n fits
operand_reads_back (Parameter p) fits = tag_reads_back operand_forms 1 (λ p. Parameter p) parameter_number (λ _ _. refl) parameter_number_exact p fits
operand_reads_back (Attribute a) fits = tag_reads_back operand_forms 2 (λ a. Attribute a) attribute (λ _ _. refl) attribute_exact a tt
operand_reads_back (OfEntity n) fits = tag_reads_back operand_forms 3 (λ n. OfEntity n) numbered_field (λ _ _. refl) numbered_exact n fits
operand_reads_back (Random s) fits = tag_reads_back operand_forms 4 (λ s. Random s) stream_number (λ _ _. refl) stream_number_exact s fits
operand_reads_back (Procedure q) fits = tag_reads_back operand_forms 5 (λ q. Procedure q) procedure_number (λ _ _. refl) procedure_number_exact q fits

pub operand_exact : IsExact operand
unfolding operand_read
operand_exact = by_tag_exact operand_spelling OperandFits operand_forms operand_forms_exact operand_reads_back

pub spread_exact : IsExact spread
spread_exact = fitting_exact SpreadFits _ (λ s h. record { mean = h.0; half = h.1 }) (λ s h. (h.mean, h.half))
    (made_exact _ _ _ (λ x h. refl) (λ s h. refl) (both_exact _ _ operand_exact operand_exact))

-- ---- blocks

pub generate_exact : IsExact generate
generate_exact = fitting_exact GenerateFits _
    (λ g h. record { interval = h.0; first = h.1.0; limit = h.1.1.0; priority = h.1.1.1 })
    (λ g h. (h.interval, (h.first, (h.limit, h.priority))))
    (made_exact _ _ _ (λ x h. refl) (λ g h. refl)
    (both_exact _ _ spread_exact
    (both_exact _ _ (optional_exact _ (signed_exact w64 wide64)) (both_exact _ _ (optional_exact _ (number_exact w32 wide32)) (signed_exact w32 wide32)))))

pub units_exact : IsExact units
units_exact = fitting_exact UnitsFit _ (λ u h. record { entity = h.0; number = h.1 }) (λ u h. (h.entity, h.number))
    (made_exact _ _ _ (λ x h. refl) (λ u h. refl) (both_exact _ _ entity_number_exact (number_exact w32 wide32)))

pub block_number_exact : IsExact block_number
block_number_exact = number_exact w16 wide16

pub fraction_exact : IsExact fraction
fraction_exact = fitting_exact FractionFits _
    (λ f h. record { thousandths = h.0; otherwise = h.1.0; target = h.1.1 })
    (λ f h. (h.thousandths, (h.otherwise, h.target)))
    (made_exact _ _ _ (λ x h. refl) (λ f h. refl)
    (both_exact _ _ (number_exact w16 wide16) (both_exact _ _ (optional_exact _ block_number_exact) block_number_exact)))

choice_exact : IsExact choice
choice_exact = fitting_exact BothFits _ (λ t h. record { first = h.0; second = h.1 }) (λ t h. (h.first, h.second))
    (made_exact _ _ _ (λ x h. refl) (λ t h. refl) (both_exact _ _ (optional_exact _ block_number_exact) block_number_exact))

mode_exact : IsExact mode
mode_exact = one_of_exact mode_byte modes (λ x. search rules)

pub assign_exact : IsExact assign
assign_exact = fitting_exact AssignFits _ (λ a h. record { parameter = h.0; value = h.1.1 }) (λ a h. (h.parameter, (tt, h.value)))
    (made_exact _ _ _ (λ x h. refl) (λ a h. refl) (both_exact _ _ parameter_number_exact (both_exact _ _ mode_exact operand_exact)))

otherwise_exact : IsExact (optional block_number)
otherwise_exact = optional_exact block_number block_number_exact

pub test_exact : IsExact test_operands
test_exact = fitting_exact TestFits _ (λ t h. record { left = h.1.0; right = h.1.1.0; otherwise = h.1.1.1 }) (λ t h. (tt, (h.left, (h.right, h.otherwise))))
    (made_exact _ _ _ (λ x h. refl) (λ t h. refl)
    (both_exact _ _ (one_of_exact comparison_byte comparisons (λ x. search rules))
    (both_exact _ _ operand_exact (both_exact _ _ operand_exact otherwise_exact))))

pub gate_exact : IsExact gate
gate_exact = fitting_exact GateFits _ (λ g h. record { entity = h.1.0; otherwise = h.1.1 }) (λ g h. (tt, (h.entity, h.otherwise)))
    (made_exact _ _ _ (λ x h. refl) (λ g h. refl)
    (both_exact _ _ (one_of_exact condition_byte conditions (λ x. search rules)) (both_exact _ _ entity_number_exact otherwise_exact)))

pub call_exact : IsExact call
call_exact = fitting_exact CallFits _ (λ c h. record { target = h.0; parameter = h.1 }) (λ c h. (h.target, h.parameter))
    (made_exact _ _ _ (λ x h. refl) (λ c h. refl) (both_exact _ _ block_number_exact parameter_number_exact))

pub countdown_exact : IsExact countdown
countdown_exact = fitting_exact LoopFits _ (λ l h. record { parameter = h.0; target = h.1 }) (λ l h. (h.parameter, h.target))
    (made_exact _ _ _ (λ x h. refl) (λ l h. refl) (both_exact _ _ parameter_number_exact block_number_exact))

pub split_exact : IsExact split
split_exact = fitting_exact SplitFits _ (λ s h. record { copies = h.0; target = h.1 }) (λ s h. (h.copies, h.target))
    (made_exact _ _ _ (λ x h. refl) (λ s h. refl) (both_exact _ _ (number_exact w16 wide16) otherwise_exact))

set_size_exact : IsExact set_size
set_size_exact = number_exact w16 wide16

pub link_exact : IsExact link
link_exact = fitting_exact LinkFits _ (λ l h. h.0) (λ l h. (h, tt))
    (made_exact _ _ _ (λ x h. refl) (λ l h. refl) (both_exact _ _ entity_number_exact (one_of_exact order_byte orders (λ x. search rules))))

pub unlink_exact : IsExact unlink
unlink_exact = fitting_exact UnlinkFits _ (λ u h. record { chain = h.0; target = h.1.0; most = h.1.1 }) (λ u h. (h.chain, (h.target, h.most)))
    (made_exact _ _ _ (λ x h. refl) (λ u h. refl)
    (both_exact _ _ entity_number_exact (both_exact _ _ block_number_exact (optional_exact _ (number_exact w32 wide32)))))

pub logic_exact : IsExact logic
logic_exact = fitting_exact LogicFits _ (λ l h. h.1) (λ l h. (tt, h))
    (made_exact _ _ _ (λ x h. refl) (λ l h. refl) (both_exact _ _ (one_of_exact action_byte actions (λ x. search rules)) entity_number_exact))

pub save_exact : IsExact save
save_exact = fitting_exact SaveFits _ (λ s h. record { savevalue = h.0; value = h.1.1 }) (λ s h. (h.savevalue, (tt, h.value)))
    (made_exact _ _ _ (λ x h. refl) (λ s h. refl) (both_exact _ _ entity_number_exact (both_exact _ _ mode_exact operand_exact)))

pub priority_exact : IsExact priority
priority_exact = fitting_exact PriorityFits _ (λ p h. h.0) (λ p h. (h, tt))
    (made_exact _ _ _ (λ x h. refl) (λ p h. refl) (both_exact _ _ operand_exact flag_exact))

parameter_if_any_exact : IsExact (optional parameter_number)
parameter_if_any_exact = optional_exact parameter_number parameter_number_exact

pub plus_exact : IsExact plus
plus_exact = fitting_exact PlusFits _ (λ a h. record { value = h.0; parameter = h.1 }) (λ a h. (h.value, h.parameter))
    (made_exact _ _ _ (λ x h. refl) (λ a h. refl) (both_exact _ _ operand_exact parameter_if_any_exact))

-- which values fit as blocks of a version
abbrev FitsVersion : ℕ → Block → Type 0
FitsVersion version = (block version).Fits

-- the forms of version 1 have tags of their own: another tag is found among them in each version
found_in_each : (b : Bool) (tag : ℕ) (bytes rest : List ℕ) → eqb tag 29 ≡ false → form_read (forms_where b) tag bytes rest
    ≡ form_read block_forms tag bytes rest
found_in_each false tag bytes rest other = refl
found_in_each true tag bytes rest other = rw other refl

-- the tag of a block
abbrev tag_of : Block → ℕ
tag_of block = get_or (block_spelling block) 0 0

module _ (version : ℕ) where
  -- a kind of block whose operands are those of a field
  block_form_exact : {A : Type 0} (tag : ℕ) (make : A → Block) (f : Field A) → ((x : A) → tag ∷ f.spell x ≡ block_spelling (make x))
      → ((x : A) → f.Fits x → FitsVersion version (make x)) → IsExact f
      → IsExactForm block_spelling (FitsVersion version) (behind tag make f)
  block_form_exact tag make f spelled fit exact = behind_exact block_spelling (FitsVersion version) tag make f spelled fit exact

  -- and one without operands
  tag_form_exact : (tag : ℕ) (block : Block) → tag ∷ [] ≡ block_spelling block → FitsVersion version block
      → IsExactForm block_spelling (FitsVersion version) (tag_form tag block)
  tag_form_exact tag block spelled fit = block_form_exact tag (λ _. block) nothing (λ _. spelled) (λ _ _. fit) nothing_exact

  block_forms_exact : AreExactForms block_spelling (FitsVersion version) block_forms
  block_forms_exact =
      block_form_exact 1 (λ g. blocks.Generate g) generate (λ g. refl) (λ g h. (tt, h)) generate_exact
      also block_form_exact 2 (λ n. blocks.Terminate n) operand (λ n. refl) (λ n h. (tt, h)) operand_exact
      also block_form_exact 3 (λ s. blocks.Advance s) spread (λ s. refl) (λ s h. (tt, h)) spread_exact
      also block_form_exact 4 (λ n. blocks.Seize n) entity_number (λ n. refl) (λ n h. (tt, h)) entity_number_exact
      also block_form_exact 5 (λ n. blocks.Release n) entity_number (λ n. refl) (λ n h. (tt, h)) entity_number_exact
      also block_form_exact 6 (λ u. blocks.Enter u) units (λ u. refl) (λ u h. (tt, h)) units_exact
      also block_form_exact 7 (λ u. blocks.Leave u) units (λ u. refl) (λ u h. (tt, h)) units_exact
      also block_form_exact 8 (λ u. blocks.Queue u) units (λ u. refl) (λ u h. (tt, h)) units_exact
      also block_form_exact 9 (λ u. blocks.Depart u) units (λ u. refl) (λ u h. (tt, h)) units_exact
      also block_form_exact 10 (λ a. blocks.Assign a) assign (λ a. refl) (λ a h. (tt, h)) assign_exact
      also block_form_exact 11 (λ t. blocks.Test t) test_operands (λ t. refl) (λ t h. (tt, h)) test_exact
      also block_form_exact 12 (λ g. blocks.Gate g) gate (λ g. refl) (λ g h. (tt, h)) gate_exact
      also block_form_exact 13 (λ n. blocks.Transfer n) block_number (λ n. refl) (λ n h. (tt, h)) block_number_exact
      also block_form_exact 14 (λ f. blocks.TransferByFraction f) fraction (λ f. refl) (λ f h. (tt, h)) fraction_exact
      also block_form_exact 15 (λ c. blocks.TransferToSubroutine c) call (λ c. refl) (λ c h. (tt, h)) call_exact
      also block_form_exact 16 (λ p. blocks.TransferByParameter p) parameter_number (λ p. refl) (λ p h. (tt, h)) parameter_number_exact
      also block_form_exact 17 (λ l. blocks.Loop l) countdown (λ l. refl) (λ l h. (tt, h)) countdown_exact
      also block_form_exact 18 (λ s. blocks.Split s) split (λ s. refl) (λ s h. (tt, h)) split_exact
      also block_form_exact 19 (λ n. blocks.Assemble n) set_size (λ n. refl) (λ n h. (tt, h)) set_size_exact
      also block_form_exact 20 (λ l. blocks.Link l) link (λ l. refl) (λ l h. (tt, h)) link_exact
      also block_form_exact 21 (λ u. blocks.Unlink u) unlink (λ u. refl) (λ u h. (tt, h)) unlink_exact
      also block_form_exact 22 (λ l. blocks.Logic l) logic (λ l. refl) (λ l h. (tt, h)) logic_exact
      also block_form_exact 23 (λ s. blocks.Savevalue s) save (λ s. refl) (λ s h. (tt, h)) save_exact
      also block_form_exact 24 (λ p. blocks.Mark p) (optional parameter_number) (λ p. refl) (λ p h. (tt, h)) parameter_if_any_exact
      also block_form_exact 25 (λ p. blocks.Priority p) priority (λ p. refl) (λ p h. (tt, h)) priority_exact
      also block_form_exact 27 (λ a. blocks.Plus a) plus (λ a. refl) (λ a h. (tt, h)) plus_exact
      also block_form_exact 28 (λ n. blocks.Tabulate n) entity_number (λ n. refl) (λ n h. (tt, h)) entity_number_exact
      also search tag_form_exact

  forms_exact : (b : Bool) → has_choices version ≡ b → AreExactForms block_spelling (FitsVersion version) (forms_where b)
  forms_exact false is = block_forms_exact
  forms_exact true is = block_form_exact 29 (λ t. blocks.TransferBoth t) choice (λ t. refl) (λ t h. (is, h)) choice_exact also block_forms_exact

  -- a block of each version is read back
  reads_back : {A : Type 0} (tag : ℕ) (make : A → Block) (f : Field A) → eqb tag 29 ≡ false
      → ((bytes rest : List ℕ) → form_read block_forms tag bytes rest ≡ (behind tag make f).1 rest) → IsExact f → (x : A) → f.Fits x
      → ReadsBack (block_read version) (tag ∷ f.spell x) (make x)
  unfolding block_read
  reads_back tag make f other found exact x fits =
      tag_reads_back (forms_where (has_choices version)) tag make f
      (λ bytes rest. found_in_each (has_choices version) tag bytes rest other ∙ found bytes rest) exact x fits

  choice_found : (bytes rest : List ℕ) → IsTrue (has_choices version) → form_read (forms_where (has_choices version)) 29 bytes rest
      ≡ (behind 29 (λ t. blocks.TransferBoth t) choice).1 rest
  choice_found bytes rest has = rw has refl

  block_reads_back : (b : Block) → FitsVersion version b → ReadsBack (block_read version) (block_spelling b) b
  unfolding block_read
  block_reads_back (blocks.Generate g) fits = reads_back 1 (λ g. blocks.Generate g) generate refl (λ _ _. refl) generate_exact g fits.1
  block_reads_back (blocks.Terminate n) fits = reads_back 2 (λ n. blocks.Terminate n) operand refl (λ _ _. refl) operand_exact n fits.1
  block_reads_back (blocks.Advance s) fits = reads_back 3 (λ s. blocks.Advance s) spread refl (λ _ _. refl) spread_exact s fits.1
  block_reads_back (blocks.Seize n) fits = reads_back 4 (λ n. blocks.Seize n) entity_number refl (λ _ _. refl) entity_number_exact n fits.1
  block_reads_back (blocks.Release n) fits = reads_back 5 (λ n. blocks.Release n) entity_number refl (λ _ _. refl) entity_number_exact n fits.1
  block_reads_back (blocks.Enter u) fits = reads_back 6 (λ u. blocks.Enter u) units refl (λ _ _. refl) units_exact u fits.1
  block_reads_back (blocks.Leave u) fits = reads_back 7 (λ u. blocks.Leave u) units refl (λ _ _. refl) units_exact u fits.1
  block_reads_back (blocks.Queue u) fits = reads_back 8 (λ u. blocks.Queue u) units refl (λ _ _. refl) units_exact u fits.1
  block_reads_back (blocks.Depart u) fits = reads_back 9 (λ u. blocks.Depart u) units refl (λ _ _. refl) units_exact u fits.1
  block_reads_back (blocks.Assign a) fits = reads_back 10 (λ a. blocks.Assign a) assign refl (λ _ _. refl) assign_exact a fits.1
  block_reads_back (blocks.Test t) fits = reads_back 11 (λ t. blocks.Test t) test_operands refl (λ _ _. refl) test_exact t fits.1
  block_reads_back (blocks.Gate g) fits = reads_back 12 (λ g. blocks.Gate g) gate refl (λ _ _. refl) gate_exact g fits.1
  block_reads_back (blocks.Transfer n) fits = reads_back 13 (λ n. blocks.Transfer n) block_number refl (λ _ _. refl) block_number_exact n fits.1
  block_reads_back (blocks.TransferByFraction f) fits = reads_back 14 (λ f. blocks.TransferByFraction f) fraction refl (λ _ _. refl) fraction_exact f fits.1
  block_reads_back (blocks.TransferBoth t) fits =
      tag_reads_back (forms_where (has_choices version)) 29 (λ t. blocks.TransferBoth t) choice
      (λ bytes rest. choice_found bytes rest fits.0) choice_exact t fits.1
  block_reads_back (blocks.TransferToSubroutine c) fits = reads_back 15 (λ c. blocks.TransferToSubroutine c) call refl (λ _ _. refl) call_exact c fits.1
  block_reads_back (blocks.TransferByParameter p) fits =
      reads_back 16 (λ p. blocks.TransferByParameter p) parameter_number refl (λ _ _. refl) parameter_number_exact p fits.1
  block_reads_back (blocks.Loop l) fits = reads_back 17 (λ l. blocks.Loop l) countdown refl (λ _ _. refl) countdown_exact l fits.1
  block_reads_back (blocks.Split s) fits = reads_back 18 (λ s. blocks.Split s) split refl (λ _ _. refl) split_exact s fits.1
  block_reads_back (blocks.Assemble n) fits = reads_back 19 (λ n. blocks.Assemble n) set_size refl (λ _ _. refl) set_size_exact n fits.1
  block_reads_back (blocks.Link l) fits = reads_back 20 (λ l. blocks.Link l) link refl (λ _ _. refl) link_exact l fits.1
  block_reads_back (blocks.Unlink u) fits = reads_back 21 (λ u. blocks.Unlink u) unlink refl (λ _ _. refl) unlink_exact u fits.1
  block_reads_back (blocks.Logic l) fits = reads_back 22 (λ l. blocks.Logic l) logic refl (λ _ _. refl) logic_exact l fits.1
  block_reads_back (blocks.Savevalue s) fits = reads_back 23 (λ s. blocks.Savevalue s) save refl (λ _ _. refl) save_exact s fits.1
  block_reads_back (blocks.Mark p) fits = reads_back 24 (λ p. blocks.Mark p) (optional parameter_number) refl (λ _ _. refl) parameter_if_any_exact p fits.1
  block_reads_back (blocks.Priority p) fits = reads_back 25 (λ p. blocks.Priority p) priority refl (λ _ _. refl) priority_exact p fits.1
  block_reads_back (blocks.Plus a) fits = reads_back 27 (λ a. blocks.Plus a) plus refl (λ _ _. refl) plus_exact a fits.1
  block_reads_back (blocks.Tabulate n) fits = reads_back 28 (λ n. blocks.Tabulate n) entity_number refl (λ _ _. refl) entity_number_exact n fits.1
  block_reads_back bare fits = reads_back (tag_of bare) (λ _. bare) nothing refl (λ _ _. refl) nothing_exact tt tt

  pub block_exact : IsExact (block version)
  unfolding block_read
  block_exact = by_tag_exact block_spelling (FitsVersion version) (forms_where (has_choices version)) (forms_exact (has_choices version) refl) block_reads_back
