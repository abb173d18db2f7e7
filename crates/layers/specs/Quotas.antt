-- What a quota means, by what the store below means.
use Rattle.std.specs.Prelude.{ℕ, min, List}
use Rattle.store.specs.Meaning.{Meaning}
use Rattle.store.specs.declared.Store.{Ghosts}
use Rattle.layers.specs.declared.quota.Quota.{Quota}

-- a store of which no more than so many cells of the allowance may be used
abbrev pub limited : Meaning → ℕ → Meaning
limited m left = record { cells = m.cells; allowance = min left m.allowance; space = m.space }

module _ {S : Type 0} (below : Ghosts S) where
  abbrev pub quota_meaning : Quota S → Meaning
  quota_meaning q = limited (below.meaning q.below) q.left

  abbrev pub quota_buffer : Quota S → List ℕ
  quota_buffer q = below.buffer q.below
