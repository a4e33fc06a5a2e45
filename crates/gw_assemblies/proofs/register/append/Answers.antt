use Rattle.std.proofs.Common.{◌∙◌, ap}
use Rattle.gw_assemblies.specs.Register.{assemblies_of}
use Rattle.gw_assemblies.proofs.Filing.{filed-front, standing-append}
use Rattle.gw_assemblies.proofs.register.append.Goals as goal

pub returns-clause-filed : goal.returns-clause-filed
returns-clause-filed c = λ buckets filed. rw c.push_reserved.ensures.items (filed-front c.args.entries.now.items _ buckets filed)

pub returns-clause-standing : goal.returns-clause-standing
returns-clause-standing c = ap assemblies_of c.push_reserved.ensures.items ∙ standing-append c.args.entries.now.items _
