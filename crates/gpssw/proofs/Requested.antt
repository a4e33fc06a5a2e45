-- A command on one input responds as what answers its request.
use Rattle.std.proofs.Common.{◌≡◌, ℕ, List, Option, subst, sym}
use Rattle.gw_answers.specs.Requests as requests
use Rattle.gw_answers.specs.declared.request.Request.{Request}
use Rattle.gpssw.specs.declared.words.Command.{Command}
use Rattle.gpssw.specs.declared.words.Command.TheVariants.{Single}
use Rattle.gw_console.specs.Output.{Responds}
use Rattle.gpssw.specs.Output.{command_answering}

pub single : (request asked : Request) (command : Command) (known : Option (List ℕ)) (result : ℕ) (old new : Option (List ℕ)) → command
    ≡ Single request → request ≡ asked
    → Responds (requests.answers_to asked) known result old new → Responds (command_answering command) known result old new
single request asked command known result old new is one h =
    let asks : Responds (command_answering (Single request)) known result old new =
    subst (λ r. Responds (requests.answers_to r) known result old new) (sym one) h in
    subst (λ c. Responds (command_answering c) known result old new) (sym is) asks
