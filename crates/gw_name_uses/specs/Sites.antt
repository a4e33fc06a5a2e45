-- What all statements of a text use, with their places.
use Rattle.std.specs.Prelude.{◌≡◌, ℕ, ◌+◌, List, [], ◌∷◌, ◌++◌, map, Result, OnOk, Vec}
use Rattle.std.specs.Global.{Global}
use Rattle.gw_text.specs.declared.model.Statement.{Statement}
use Rattle.gw_name_uses.specs.declared.sites.Site.{Site}
use Rattle.gw_name_uses.specs.Mentions.{Mention, mention}
use Rattle.gw_name_uses.specs.Statements.{in_statement}

-- what is used, and where
pub record Mentioned : Type 0 where
  -- the statement, from 0
  pub statement : ℕ
  -- the line on which that begins
  pub line : ℕ
  -- what it uses
  pub what : Mention

-- what is used at this place
abbrev pub at_place : ℕ → ℕ → Mention → Mentioned
at_place statement line what = record { statement = statement; line = line; what = what }

-- what a site says
abbrev pub mention_at : Site → Mentioned
mention_at site = at_place site.statement site.line (mention site.used)

-- where there is memory, sites go on with what is mentioned here
abbrev pub PutsSites : {A E : Type 0} → Result A E → Vec Site Global → Vec Site Global → List Mentioned → Type 0
PutsSites result old new more = OnOk result (map mention_at new.items ≡ map mention_at old.items ++ more)

-- all these at one place
abbrev pub all_at : ℕ → ℕ → List Mention → List Mentioned
all_at statement line ms = map (at_place statement line) ms

-- what a statement of this number uses, with its place
abbrev pub mentioned_by : ℕ → Statement → List Mentioned
mentioned_by i s = all_at i s.line (in_statement s)

-- what all these statements use, of which the first has this number
abbrev pub mentioned_from : ℕ → List Statement → List Mentioned
mentioned_from i [] = []
mentioned_from i (s ∷ ss) = mentioned_by i s ++ mentioned_from (i + 1) ss

-- what the statements of a text use, in its order
abbrev pub mentioned_in : List Statement → List Mentioned
mentioned_in statements = mentioned_from 0 statements
