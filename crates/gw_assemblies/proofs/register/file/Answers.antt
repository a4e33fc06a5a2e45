use Rattle.std.proofs.Common.{refl}
use Rattle.gw_assemblies.proofs.Filing.{standing-set, filed-at, get_or-own}
use Rattle.gw_assemblies.proofs.register.file.Goals as goal

pub returns-clause-filed : goal.returns-clause-filed
returns-clause-filed c =
    filed-at c.args.entries.now c.args.buckets.now c.args.place c.requires.filed c.requires.there _ c.bucket_of-bucket.result _
    c.bucket_of-bucket.ensures.value c.bucket_of-bucket.ensures.within

pub returns-clause-standing : goal.returns-clause-standing
returns-clause-standing c = standing-set c.args.entries.now c.args.place _ _ c.requires.there (get_or-own _ _ _ c.requires.there) refl refl
