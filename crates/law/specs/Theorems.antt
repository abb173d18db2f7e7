-- What is proved of every run of a ledger just opened, for kinds that keep their laws.
use Rattle.std.specs.Prelude.{◌≡◌, ℕ, ◌<◌, ◌≤◌, List, [], ◌∷◌, length, take, drop, sum_by, slice_index_or}
use Rattle.store.specs.Meaning.{Meaning}
use Rattle.reference.specs.Beliefs.{Kinds, Belief}
use Rattle.calls.specs.declared.call.Call.{Call}
use Rattle.calls.specs.Verdict.{claim_of}
use Rattle.calls.specs.Widths.{Narrow, Fits}
use Rattle.law.specs.Runs.{Reply, View, opened, Step, Run, accepted}
use Rattle.law.specs.Law.{entries, calls_of, Promise, Continues}

module _ {E T S : Type 0} (k : Kinds E T S) where
  -- P of every run from an opening
  abbrev pub EveryRun : (Meaning → List (Call E T) → List (Reply S T) → View E T → Type 0) → Type 0
  EveryRun P = (m : Meaning) (cs : List (Call E T)) (xs : List (Reply S T)) (v : View E T) → Run k cs xs (opened m) v → P m cs xs v

  -- The first n calls kept the promise, and the others are a run from there.
  abbrev pub Throughout : Meaning → List (Call E T) → List (Reply S T) → View E T → Type 0
  Throughout m cs xs v = (n : ℕ) → (u : View E T) × Promise k m (take n cs) (take n xs) u × Run k (drop n cs) (drop n xs) u v

  -- Whatever came before, one call more keeps the promise.
  abbrev pub OneMore : Type 0
  OneMore = (c : Call E T) (a : Reply S T) (v w : View E T) → Step k c a v w → Continues k v (c ∷ []) (a ∷ []) w

  -- A ledger opened over a store of meaning m accepts each of the calls; and it has a run of them.
  pub record Accepts (m : Meaning) (cs : List (Call E T)) : Type 0 where
    pub all : (xs : List (Reply S T)) (w : View E T) → Run k cs xs (opened m) w → calls_of (accepted cs xs) ≡ cs
    pub some : (xs : List (Reply S T)) × (w : View E T) × Run k cs xs (opened m) w

  -- A belief has its second ledger: all its entries are accepted over every store that has room for what they claim, 42,966 cells at most.
  pub record Second (belief : Belief E T) : Type 0 where
    pub small : sum_by claim_of (entries belief) ≤ 42966
    pub accepted : (m : Meaning) → sum_by claim_of (entries belief) ≤ m.allowance → sum_by claim_of (entries belief) ≤ m.space → Accepts m (entries belief)

  -- each belief has its second ledger
  abbrev pub Seconds : Meaning → List (Call E T) → List (Reply S T) → View E T → Type 0
  Seconds m cs xs v = (b : ℕ) → b < length v.beliefs → Second (slice_index_or v.beliefs b [])

  -- To one call more, as frames have calls, the answer is as lines have answers.
  abbrev pub NextFits : Meaning → List (Call E T) → List (Reply S T) → View E T → Type 0
  NextFits m cs xs v = (c : Call E T) (a : Reply S T) (w : View E T) → Narrow c → Step k c a v w → Fits a
