use Rattle.std.proofs.Common.{List, ℕ, ap, ◌∙◌, Global}
use Rattle.std.specs.Prelude.{string_bytes}
use Rattle.std.specs.List.{list_any}
use Rattle.std.specs.Str.{bytes_eq}
use Rattle.std.specs.declared.string.String.{String}
use Rattle.gw_name_uses.proofs.Naming.{local_is}
use Rattle.gw_name_uses.proofs.locals.is_local.Goals as goal

pub returns : goal.returns
returns c =
    let keys = c.args.locals.now.keys in
    c.contains.ensures
    ∙ ap (λ (n : List ℕ). list_any (λ (k : String Global). bytes_eq n (string_bytes k)) keys) c.as_str.ensures.value
    ∙ local_is (string_bytes c.args.name.now) keys
