-- What the store of the trials means.
use Rattle.std.specs.Prelude.{ℕ, List}
use Rattle.store.specs.Meaning.{Meaning}
use Rattle.store.specs.declared.Store.{Ghosts}
use Rattle.trials.specs.declared.counting.Counting.{Counting}

-- a counting layer is the store below it
module _ {S : Type 0} (below : Ghosts S) where
  abbrev pub counting_meaning : Counting S → Meaning
  counting_meaning c = below.meaning c.below

  abbrev pub counting_buffer : Counting S → List ℕ
  counting_buffer c = below.buffer c.below
