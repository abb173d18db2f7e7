-- The numbers and places of a ledger's refusals.
use Rattle.std.specs.Prelude.{ℕ}
use Rattle.store.specs.Faults as store
use Rattle.calls.specs.declared.refusal.Refusal.{Refusal}
use Rattle.calls.specs.declared.refusal.Refusal.TheVariants.{Full, NoOperation, NoBelief, Store}

-- a refusal's number, and its place: the operation or the belief that it is about; a store's fault has its own
abbrev pub number_and_place : Refusal → ℕ × ℕ
number_and_place Full = (0x23, 1023)
number_and_place (NoOperation n) = (0x22, n)
number_and_place (NoBelief b) = (0x21, b)
number_and_place (Store fault) = store.number_and_place fault
