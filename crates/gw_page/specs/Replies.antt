-- How replies are sent.
use Rattle.std.specs.Prelude.{ℕ, List, [], ◌∷◌, ◌++◌, codes}
use Rattle.http1.specs.Fields.{Header}
use Rattle.http_server.specs.Response.{IsResponse}
use Rattle.http_server.specs.declared.response.Response.{Response}
use Rattle.gw_page.specs.declared.html.TheConstants.{PAGE_POLICY}
use Rattle.gw_page.specs.declared.reply.Kind.{Kind}
use Rattle.gw_page.specs.declared.reply.Kind.TheVariants.{Html, Plain, Csv, Svg}
use Rattle.gw_page.specs.declared.reply.Outcome.{Outcome}
use Rattle.gw_page.specs.declared.reply.Outcome.TheVariants.{Answered, Malformed, Unknown, GetAlone, PostAlone, Refused, Unavailable}
use Rattle.gw_page.specs.declared.reply.Reply.{Reply}

-- the status of an outcome
abbrev pub status_of : Outcome → ℕ
status_of Answered = 200
status_of Malformed = 400
status_of Unknown = 404
status_of GetAlone = 405
status_of PostAlone = 405
status_of Refused = 422
status_of Unavailable = 503

-- the content type of a kind of text: a model's words come back as text alone, or in a picture
abbrev pub type_of : Kind → List ℕ
type_of Html = codes "text/html; charset=utf-8"
type_of Plain = codes "text/plain; charset=utf-8"
type_of Csv = codes "text/csv; charset=utf-8"
type_of Svg = codes "image/svg+xml"

-- what a browser may load and run: of answers nothing
abbrev pub policy_of : Kind → List ℕ
policy_of Html = PAGE_POLICY.now
policy_of _ = codes "default-src 'none'; frame-ancestors 'none'; sandbox"

-- the methods that a path has, where another was tried
abbrev pub allowed_by : Outcome → List Header
allowed_by GetAlone = (codes "allow", codes "GET, HEAD") ∷ []
allowed_by PostAlone = (codes "allow", codes "POST") ∷ []
allowed_by _ = []

-- the headers of a reply: nothing is kept, nothing is taken for another type than it is, and nothing runs
abbrev pub headers_of : Outcome → Kind → List Header
headers_of outcome kind =
    (codes "content-type", type_of kind) ∷ (codes "cache-control", codes "no-store")
    ∷ (codes "x-content-type-options", codes "nosniff") ∷ (codes "content-security-policy", policy_of kind)
    ∷ allowed_by outcome

-- a response is a reply
abbrev pub IsSent : Reply → Response → Type 0
IsSent reply response = IsResponse (status_of reply.outcome) (headers_of reply.outcome reply.kind) reply.text.items response
