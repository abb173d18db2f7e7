-- A cell that the lines hold is there; one that was got from below is there too, and its line holds it then.
use Rattle.std.proofs.Common.{◌∙◌, rules}
use Rattle.store.proofs.Finding.{got_there}
use Rattle.layers.proofs.Caching.{miss_fills, hit_there}
use Rattle.layers.proofs.cache.CacheStore.get.Goals as goal

pub returns-in-Some : goal.returns-in-Some
returns-in-Some g c =
    let there = hit_there (g.S.Store.meaning c.args.self.now.below) c.args.self.now.lines.table c.args.k c.in-Some.cell c.in-Some.ensures c.args.self.now.faithful in
    search rules

pub returns : goal.returns
returns g c =
    let was = g.S.Store.meaning c.args.self.now.below in
    let cell = c.in_ok-cell.cell in
    let table = c.args.self.now.lines.table in
    let there = got_there was c.args.k cell c.in_ok-cell.ensures.answer in
    record {
      answer = search rules;
      same = search rules;
      untouched = search rules;
      lines = c.fill.ensures ∙ miss_fills _ _ table c.args.k cell c.in_default.ensures there;
      hit = search rules;
    }
