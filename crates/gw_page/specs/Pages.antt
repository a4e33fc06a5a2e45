-- What a request is answered.
use Rattle.std.specs.Prelude.{◌≡◌, ◌⊎◌, ℕ, List, [], ◌∷◌, codes, Option, None, Some, option_and_then, unwrap_or, Bool, ◌||◌, MatchBool, if◌then◌else◌}
use Rattle.std.specs.Str.{bytes_eq}
use Rattle.http.specs.declared.request.Request.{Request}
use Rattle.http.specs.Request.{head_of, body_of}
use Rattle.http_uri.specs.Uri.{uri_path, uri_query}
use Rattle.http_server.specs.declared.response.Response.{Response}
use Rattle.gw_command_line.specs.Words.{Act, command_in}
use Rattle.gw_page.specs.Words.{words_in}
use Rattle.gw_page.specs.Inquiries.{offered_act}
use Rattle.gw_page.specs.Replies.{IsSent}
use Rattle.gw_page.specs.Answers.{IsSaid, IsReplyTo as IsReplyToInquiry}
use Rattle.gw_page.specs.declared.html.TheConstants.{PAGE}
use Rattle.gw_page.specs.declared.reply.Kind.TheVariants.{Html, Plain}
use Rattle.gw_page.specs.declared.reply.Outcome.TheVariants.{Answered, Malformed, Unknown, GetAlone, PostAlone, Unavailable}
use Rattle.gw_page.specs.declared.reply.Reply.{Reply}
use Rattle.gw_page.specs.declared.texts.TheConstants.{USAGE, UNKNOWN, WRONG_METHOD, NO_MEMORY}

-- the command that a path is for
abbrev pub name_in : List ℕ → Option (List ℕ)
name_in path =
    if bytes_eq path (codes "/explain") then Some (codes "explain")
    else if bytes_eq path (codes "/list") then Some (codes "list")
    else if bytes_eq path (codes "/chart") then Some (codes "chart")
    else if bytes_eq path (codes "/points") then Some (codes "points")
    else if bytes_eq path (codes "/trace") then Some (codes "trace")
    else if bytes_eq path (codes "/report") then Some (codes "report")
    else if bytes_eq path (codes "/study") then Some (codes "study")
    else if bytes_eq path (codes "/runs") then Some (codes "runs")
    else if bytes_eq path (codes "/convert") then Some (codes "convert")
    else None

-- a command that the page offers is answered, and other words are malformed
abbrev pub IsReplyToAct : Option Act → List ℕ → Reply → Type 0
IsReplyToAct None text reply = IsSaid Malformed Plain USAGE.now reply
IsReplyToAct (Some act) text reply = IsReplyToInquiry act text reply

-- the reply to words about a text
abbrev pub IsReplyToWords : List (List ℕ) → List ℕ → Reply → Type 0
IsReplyToWords words text reply = IsReplyToAct (option_and_then offered_act (command_in words)) text reply

-- a method gets
abbrev pub gets : List ℕ → Bool
gets method = bytes_eq method (codes "GET") || bytes_eq method (codes "HEAD")

-- the reply of the page to a method
abbrev pub IsPageFor : List ℕ → Reply → Type 0
IsPageFor method reply = MatchBool (gets method) (IsSaid Answered Html PAGE.now reply) (IsSaid GetAlone Plain WRONG_METHOD.now reply)

-- the reply of a command, of this name and with this query, to a method and a text
abbrev pub IsCommandFor : List ℕ → List ℕ → List ℕ → List ℕ → Reply → Type 0
IsCommandFor name query method text reply =
    MatchBool (bytes_eq method (codes "POST"))
    (IsReplyToWords (name ∷ words_in query) text reply)
    (IsSaid PostAlone Plain WRONG_METHOD.now reply)

-- the same of a command, if the path is for one
abbrev pub IsFor : Option (List ℕ) → List ℕ → List ℕ → List ℕ → Reply → Type 0
IsFor None query method text reply = IsSaid Unknown Plain UNKNOWN.now reply
IsFor (Some name) query method text reply = IsCommandFor name query method text reply

-- the reply to a path, a query, a method and a text
abbrev pub IsAt : List ℕ → List ℕ → List ℕ → List ℕ → Reply → Type 0
IsAt path query method text reply =
    MatchBool (bytes_eq path (codes "/")) (IsPageFor method reply) (IsFor (name_in path) query method text reply)

-- the reply to a request
abbrev pub IsReplyTo : Request (List ℕ) → Reply → Type 0
IsReplyTo request reply =
    let head = head_of request in
    IsAt (uri_path head.uri) (unwrap_or (uri_query head.uri) []) head.method (body_of request) reply

-- that, or that memory ran out
abbrev pub Replies : Request (List ℕ) → Reply → Type 0
Replies request reply = IsReplyTo request reply ⊎ IsSaid Unavailable Plain NO_MEMORY.now reply

-- the response to a request
abbrev pub Answers : Request (List ℕ) → Response → Type 0
Answers request response = (reply : Reply) × Replies request reply × IsSent reply response
