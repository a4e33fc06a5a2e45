use Rattle.std.proofs.Common.{◌≡◌, ◌∙◌, ap, ap₂, map, sym}
use Rattle.gw_names.specs.Places.{declaration_of}
use Rattle.gw_source_lines.specs.Lines.{block_lines, entity_line, sighted_line}
use Rattle.gw_source_lines.proofs.Sighting.{lines_by_keys}
use Rattle.gw_source_lines.proofs.lines.sources_known.Goals as goal

pub returns : goal.returns
returns c =
    let ss = c.args.text.now.statements.items in
    let sighted = c.args.known.now.sighted.items in
    let keys = c.requires.uses.sighted in
    let lines = c.in_ok-entities.ensures ∙ ap₂ (λ xs es. map (sighted_line xs) es) c.as_slice-2.ensures.value c.as_slice-3.ensures.value in
    record {
      blocks = c.in_ok-blocks.ensures ∙ ap block_lines c.as_slice.ensures.value;
      entities = lines ∙ lines_by_keys ss sighted (c.requires.uses.declared ∙ ap (map (declaration_of ss)) (sym keys)) ∙ ap (map (entity_line ss)) keys;
      procedures = c.in_ok-procedures.ensures;
    }
