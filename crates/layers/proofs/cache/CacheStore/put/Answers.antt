-- A put leaves every cell where it was, so that the lines stay faithful.
use Rattle.layers.proofs.Caching.{faithful_put}
use Rattle.layers.proofs.cache.CacheStore.put.Goals as goal

pub invariant_of-self : goal.invariant_of-self
invariant_of-self g c =
    let was = c.args.self.now in
    record { faithful = faithful_put (g.S.Store.meaning was.below) (g.S.Store.meaning c.put.new.self) c.args.cell was.lines.table c.put.ensures.after was.faithful }
