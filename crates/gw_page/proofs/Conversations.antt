-- What a connection's calls say of its replies.
use Rattle.std.proofs.Common.{◌≡◌, ℕ, List, [], ◌∷◌, ◌++◌, Option, Result, Ok, Err, OnOk, All, refl, sym, subst, ap, ◌∙◌}
use Rattle.std.proofs.lemmas.List.Elements.{All-nil, All-cons}
use Rattle.std.specs.Io.KnownBytes.{Appends, Consumes}
use Rattle.http.specs.declared.request.Request.{Request}
use Rattle.http_server.specs.declared.response.Response.{Response}
use Rattle.http_server.specs.declared.connection.Connection.{Connection}
use Rattle.http_server.specs.declared.state.Config.{Config}
use Rattle.http_server.specs.Connection.{config_of, history}
use Rattle.http_server.specs.Exchange.{Call, Calls, Chain}
use Rattle.http_server.specs.History.{new_history}
use Rattle.http_server.proofs.Theorems.{always_served}
use Rattle.gw_page.specs.declared.reply.Reply.{Reply}
use Rattle.gw_page.specs.Replies.{IsSent}
use Rattle.gw_page.specs.Pages.{Answers, Replies}
use Rattle.gw_page.specs.Serving.{IsConversation}

-- a reply that is sent answers its request, and the service stays what it was
pub responded : {S U E : Type 0} (s : S) (request : Request (List ℕ)) (reply : Reply) (response : Response) (r : Result U E) → Replies request reply
    → OnOk r (IsSent reply response) → OnOk r ((s ≡ s) × Answers request response)
responded s request reply response (Ok u) replies sent = (refl, (reply, replies, sent))
responded s request reply response (Err e) replies sent = tt

-- each of the calls is answered
pub chained : {S : Type 0} (calls : List Call) (old new : S) → Chain (λ (a : S) request response (b : S). (b ≡ a) × Answers request response) old calls new
    → All (λ call. Answers call.0 call.1) calls
chained [] old new x = All-nil (λ (call : Call). Answers call.0 call.1)
chained (c ∷ calls) old new x = All-cons (λ (call : Call). Answers call.0 call.1) c calls x.1.1 (chained calls x.0 new x.2)

-- those of a connection that had made none before
pub called : {S : Type 0} (old new : S) (before after : List Call) → before ≡ []
    → Calls (λ (a : S) request response (b : S). (b ≡ a) × Answers request response) old new before after → All (λ call. Answers call.0 call.1) after
called old new before after none x =
    subst (λ cs. All (λ (call : Call). Answers call.0 call.1) cs) (sym (x.1 ∙ ap (λ b. b ++ x.0) none)) (chained x.0 old new x.2)

-- a connection that was new has had a conversation
pub conversed : (unread left written told : Option (List ℕ)) (first last : Connection) (given : Config)
    → config_of first ≡ given → config_of last ≡ config_of first → given.max_body_len ≡ 1048576 → given.limits.max_head_len ≡ 16384
    → history first ≡ new_history
    → ((more : List ℕ) × Consumes unread left more × ((history last).received ≡ (history first).received ++ more))
    → ((more : List ℕ) × Appends written told more × ((history last).sent ≡ (history first).sent ++ more))
    → All (λ call. Answers call.0 call.1) (history last).calls → IsConversation unread left written told
conversed unread left written told first last given is same body head fresh read wrote answers = record {
  config = config_of last;
  body = ap (λ (c : Config). c.max_body_len) (same ∙ is) ∙ body;
  head = ap (λ (c : Config). c.limits.max_head_len) (same ∙ is) ∙ head;
  history = history last;
  read = subst (λ xs. Consumes unread left xs) (sym (read.2 ∙ ap (λ h. h.received ++ read.0) fresh)) read.1;
  wrote = subst (λ xs. Appends written told xs) (sym (wrote.2 ∙ ap (λ h. h.sent ++ wrote.0) fresh)) wrote.1;
  served = always_served last;
  answers = answers;
}
