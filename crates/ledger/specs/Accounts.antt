-- What contracts see of a ledger.
use Rattle.std.specs.Prelude.{ℕ, List}
use Rattle.ledger.specs.declared.Row.{Row}

-- The store, the rows of the beliefs, and the number of the latest belief.
pub record Account (T S : Type 0) : Type 0 where
  pub store : S
  pub rows : List (Row T)
  pub latest : ℕ
