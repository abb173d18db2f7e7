-- After i turns the store has i copies more.
use Rattle.std.proofs.Common.{◌≡◌, replicate}
use Rattle.store.specs.Meaning.{with_cells}
use Rattle.stacks.proofs.put_copies.Given as goal

abbrev pub invariant-loop-i : goal.invariant-loop-i
invariant-loop-i g l = g.S.Store.meaning l.store ≡ with_cells (g.S.Store.meaning l.initial.store) (replicate l._i l.cell)
