use Rattle.std.proofs.Common.{◌≡◌, Bool, true, false, string_bytes, refl, sym, ◌∙◌}
use Rattle.std.specs.Prelude.{not}
use Rattle.std.proofs.lemmas.Map.Text.{btree_set_updates_text}
use Rattle.gw_text.proofs.reader.add_label.Goals as goal

-- what isn't there is new
was_absent : (b : Bool) → true ≡ not b → b ≡ false
was_absent true h = absurd cc
was_absent false h = refl

pub returns : goal.returns
returns c = λ is_new. (
  was_absent _ (sym is_new ∙ c.in_ok-insert.ensures.added),
  btree_set_updates_text (string_bytes c.args.label) c.args.labels.now c.insert.new.self true c.in_ok-insert.ensures.updates,
)
