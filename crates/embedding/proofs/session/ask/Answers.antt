use Rattle.embedding.proofs.Lists.{granted, named_few}
use Rattle.embedding.proofs.session.ask.Goals as goal

pub returns : goal.returns
returns g c =
    let n = c.nearest in
    granted n.result _ _ n.ensures.searched (λ a s. named_few _ _ a _ _ _ _ s n.auto.hits)
