-- Texts that begin with others.
use Rattle.std.proofs.Common.{◌≡◌, ℕ, List, ◌++◌, subst, ap, ◌∙◌}
use Rattle.gw_object.specs.declared.fault.Fault.{Fault}
use Rattle.gw_source_lines.specs.Sites.{Sites}
use Rattle.gw_explain.specs.Shown.{shown_lines}
use Rattle.gw_explain.specs.Marks.{AddsMarks}
use Rattle.gw_explain.specs.Codes.{advice_lines}
use Rattle.gw_explain.specs.Explanation.{Begins, IsAdvised, TellsFault}

-- a text with more behind it begins with that text
pub begun : (old new more : List ℕ) → new ≡ old ++ more → Begins old new
begun old new more h = record { rest = more; whole = h }

-- what begins with a text begins with what that is
pub begun_with : (front old new : List ℕ) → old ≡ front → Begins old new → Begins front new
begun_with front old new h b = subst (λ x. Begins x new) h b

-- a text with the words on a code behind it
pub advised : (front known new : List ℕ) (code : ℕ) → new ≡ front ++ advice_lines known code → IsAdvised front code new
advised front known new code h = record { known = known; whole = h }

-- what is told so behind a text is told so behind what that is
pub advised_with : (front old new : List ℕ) (code : ℕ) → old ≡ front → IsAdvised old code new → IsAdvised front code new
advised_with front old new code h a = subst (λ x. IsAdvised x code new) h a

-- the lines behind a text, marks behind these, and the words behind all that
pub marked_and_advised : (lines : List (List ℕ)) (sites : Sites) (fault : Fault) (front shown marked text : List ℕ)
    → shown ≡ front ++ shown_lines lines sites fault.place → AddsMarks lines fault.place shown marked → IsAdvised marked fault.code text
    → TellsFault lines sites fault front text
marked_and_advised lines sites fault front shown marked text s m a = record {
  marks = m.0;
  marked = m.1;
  advised = subst (λ x. IsAdvised x fault.code text) (m.2 ∙ ap (λ x. x ++ m.0) s) a;
}

-- what is told behind a text is told behind what that is
pub told_with : (lines : List (List ℕ)) (sites : Sites) (fault : Fault) (front old new : List ℕ) → old ≡ front
    → TellsFault lines sites fault old new → TellsFault lines sites fault front new
told_with lines sites fault front old new h t = subst (λ x. TellsFault lines sites fault x new) h t
