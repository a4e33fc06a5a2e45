-- Refusals that are noted, each with its reason.
use Rattle.std.proofs.Common.{◌≡◌, ◌∙◌, ◌⊎◌, ℕ, List, [], ◌∷◌, ◌++◌, Option, Some, None, Bool, true, false, Err, inl, inr, refl, sym, ap, subst}
use Rattle.std.proofs.Common.{slice_get, arith}
use Rattle.std.specs.List.{Contains}
use Rattle.std.proofs.lemmas.List.Elements.{All-nil, All-cons, All-append, Contains-append_left, Contains-append_right}
use Rattle.gw_text.specs.declared.model.Statement.{Statement}
use Rattle.gw_compile.specs.declared.faults.CompileFault.{CompileFault}
use Rattle.gw_compile.specs.declared.faults.CompileFault.TheVariants as faults
use Rattle.gw_compile.specs.Numbers.{Numbers}
use Rattle.gw_compile.specs.Unknown.{Blame, Unknown, Arguments, Target, Judges}
use Rattle.gw_names.specs.declared.ledger.Noted.{Noted}
use Rattle.gw_names.specs.Codes.{name_fault, limit_fault}
use Rattle.gw_names.specs.Ledger.{with_note, with_notes, noted_at}
use Rattle.gw_text_tokens.specs.Words.{is_block}
use Rattle.gw_pieces.specs.declared.compiling.Blamed.{Blamed}
use Rattle.gw_pieces.specs.declared.compiling.Blamed.TheVariants as blamed
use Rattle.gw_pieces.specs.declared.origins.Origin.{Origin}
use Rattle.gw_pieces.specs.Blocks.{record_at}
use Rattle.gw_pieces.specs.Notes.{or_missing, unless_piece, IsFor, HasReason, NotesMore, NotesMissing}
use Rattle.gw_pieces.specs.Reasons.{IsBlamed, blamed_by, NotesBlamed, Explains, least_after_block, BlockMissing}
use Rattle.gw_pieces.proofs.Noted.{none_noted}

-- refusals behind others
pub behind : (least : Option Noted) (xs ys : List Noted) → with_notes least (xs ++ ys) ≡ with_notes (with_notes least xs) ys
behind least [] ys = refl
behind least (x ∷ xs) ys = behind (with_note least x) xs ys

module _ {Limit Due Missing : Noted → Type 0} where
  pub nothing_more : (least : Option Noted) → ((note : Noted) → Due note → ⊥) → NotesMore Limit Due Missing least least
  nothing_more least none = record { more = []; first = refl; reasons = All-nil (HasReason Limit Missing least); all = λ note d. absurd (none note d) }

  -- where this refusal alone is due
  pub one_limit : (least : Option Noted) (note : Noted) → Limit note → ((x : Noted) → Due x → note ≡ x)
      → NotesMore Limit Due Missing least (with_note least note)
  one_limit least note h is = record {
    more = note ∷ [];
    first = refl;
    reasons = All-cons (HasReason Limit Missing least) note [] (inl h) (All-nil (HasReason Limit Missing least));
    all = λ x d. (0, omega arith, is x d);
  }

  pub one_missing : (least : Option Noted) (line : ℕ) → Missing (noted_at line name_fault) → ((note : Noted) → Due note → ⊥)
      → NotesMore Limit Due Missing least (or_missing least line)
  one_missing None line h none = record {
    more = noted_at line name_fault ∷ [];
    first = refl;
    reasons = All-cons (HasReason Limit Missing None) (noted_at line name_fault) [] (inr (refl, h)) (All-nil (HasReason Limit Missing None));
    all = λ note d. absurd (none note d);
  }
  one_missing (Some x) line h none = nothing_more (Some x) none

  -- where the first refusal is this one
  pub ends_with : (a b c : Option Noted) → c ≡ b → NotesMore Limit Due Missing a b → NotesMore Limit Due Missing a c
  ends_with a b c is h = subst (NotesMore Limit Due Missing a) (sym is) h

  -- of one pass and the next, of which each tells what is due of it
  pub further : {DueFirst DueNext : Noted → Type 0} (a b c : Option Noted) → ((note : Noted) → Due note → DueFirst note ⊎ DueNext note)
      → NotesMore Limit DueFirst Missing a b → NotesMore Limit DueNext Missing b c → NotesMore Limit Due Missing a c
  further {DueFirst} {DueNext} a b c split one next = record {
    more = one.more ++ next.more;
    first = next.first ∙ ap (λ x. with_notes x next.more) one.first ∙ sym (behind a one.more next.more);
    reasons = All-append (HasReason Limit Missing a) one.more next.more one.reasons (λ k d lt. earlier _ (next.reasons k d lt));
    all = λ note d. in_either note (split note d);
  }
    where
      earlier : (note : Noted) → HasReason Limit Missing b note → HasReason Limit Missing a note
      earlier note (inl h) = inl h
      earlier note (inr h) = inr ((none_noted a one.more (sym one.first ∙ h.0)).0, h.1)

      in_either : (note : Noted) → DueFirst note ⊎ DueNext note → Contains (one.more ++ next.more) note
      in_either note (inl d) = Contains-append_left one.more next.more note (one.all note d)
      in_either note (inr d) = Contains-append_right one.more next.more note (next.all note d)

-- what may be missing
module _ {Missing : Noted → Type 0} where
  pub unless : {A : Type 0} (piece : Option A) (least : Option Noted) (line : ℕ) → (piece ≡ None → Missing (noted_at line name_fault))
      → NotesMissing Missing least (unless_piece piece least line)
  unless None least line h = one_missing least line (h refl) (λ note d. d)
  unless (Some x) least line h = nothing_more least (λ note d. d)

  pub further_missing : (a b c : Option Noted) → NotesMissing Missing a b → NotesMissing Missing b c → NotesMissing Missing a c
  further_missing a b c one next = further a b c (λ note d. absurd d) one next

-- by wider reasons, where less is due
pub widen : {Limit Due Missing WideLimit LessDue WideMissing : Noted → Type 0} (a b : Option Noted)
    → ((note : Noted) → Limit note → WideLimit note) → ((note : Noted) → LessDue note → Due note)
    → ((note : Noted) → Missing note → WideMissing note) → NotesMore Limit Due Missing a b → NotesMore WideLimit LessDue WideMissing a b
widen {Limit} {Due} {Missing} {WideLimit} {LessDue} {WideMissing} a b limit due missing h = record {
  more = h.more;
  first = h.first;
  reasons = λ k d lt. wide _ (h.reasons k d lt);
  all = λ note d. h.all note (due note d);
}
  where
    wide : (note : Noted) → HasReason Limit Missing a note → HasReason WideLimit WideMissing a note
    wide note (inl x) = inl (limit note x)
    wide note (inr x) = inr (x.0, missing note x.1)

-- CODE

-- what a fault of compiling says
pub told : (A : Type 0) (first : Option Blame) (Over : Type 0) (fault : CompileFault) → Judges {A = A} first Over (Err fault)
    → Explains (blamed_by fault) Over (IsBlamed first)
told A first Over (faults.Unknown operand) h = (Unknown operand.now, h)
told A first Over (faults.Arguments call) h = (Arguments call.now, h)
told A first Over (faults.Target name) h = (Target _, h)
told A first Over faults.Limit h = h
told A first Over faults.Memory h = tt

-- by other reasons that follow
pub explains_by : (b : Blamed) {Over Missing WideOver WideMissing : Type 0} → (Over → WideOver) → (Missing → WideMissing)
    → Explains b Over Missing → Explains b WideOver WideMissing
explains_by blamed.Limit f g h = f h
explains_by blamed.Name f g h = g h
explains_by blamed.Memory f g h = tt

-- what is noted of it
pub explained : (b : Blamed) (Over Missing : Type 0) (before after : Option Noted) (line : ℕ) → NotesBlamed b line before after → Explains b Over Missing
    → NotesMore (IsFor Over line limit_fault) (IsFor (Over × (Missing → ⊥)) line limit_fault) (IsFor Missing line name_fault) before after
explained blamed.Limit Over Missing before after line is h =
    ends_with before _ after is (one_limit before (noted_at line limit_fault) (h, refl) (λ note d. sym d.1))
explained blamed.Name Over Missing before after line is h = ends_with before _ after is (one_missing before line (h, refl) (λ note d. d.0.1 h))
explained blamed.Memory Over Missing before after line is h = absurd is

-- BLOCKS

cases : {P : Type 0} (b : Bool) → (b ≡ true → P) → (b ≡ false → P) → P
cases true f g = f refl
cases false f g = g refl

module _ (n : Numbers) (order : List Origin) (ss : List Statement) (i : ℕ) (s : Statement) (at : slice_get ss i ≡ Some s) where
  lacks : is_block s.word ≡ true → record_at n order s i ≡ None → BlockMissing n order ss (noted_at s.line name_fault)
  lacks block none = (i, record { statement = s; there = at; reason = (block, none); noted = refl })

  pub after_block : (least : Option Noted) → NotesMissing (BlockMissing n order ss) least (least_after_block n order s i least)
  after_block least = cases (is_block s.word)
      (λ yes. ends_with least (unless_piece (record_at n order s i) least s.line) (least_after_block n order s i least) (rw yes refl)
      (unless (record_at n order s i) least s.line (lacks yes)))
      (λ no. ends_with least least (least_after_block n order s i least) (rw no refl) (nothing_more least (λ note d. d)))
