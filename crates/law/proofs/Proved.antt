-- The theorems of every run from an opening.
use Rattle.std.proofs.Common.{List, [], length, get_or, arith}
use Rattle.std.proofs.ByRecursion.{All-get_or}
use Rattle.reference.specs.Beliefs.{Kinds}
use Rattle.calls.specs.declared.call.Call.{Call}
use Rattle.calls.specs.Verdict.{opening}
use Rattle.store.specs.Meaning.{Meaning}
use Rattle.law.specs.Runs.{Reply, View, opened, Run, accepted}
use Rattle.law.specs.Theorems.{EveryRun, Seconds, NextFits}
use Rattle.law.proofs.Sorting.{TimeLaws}
use Rattle.law.proofs.Following.{followed, Proper, Sound, sound_opening, sound}
use Rattle.law.proofs.Repeating.{second}
use Rattle.law.proofs.Fitting.{fits_step}

module _ {E T S : Type 0} (k : Kinds E T S) (laws : TimeLaws k.upto) where
  sound_run : {m : Meaning} {cs : List (Call E T)} {xs : List (Reply S T)} {v : View E T} → Run k cs xs (opened m) v → Sound k v.beliefs
  sound_run {cs = cs} {xs = xs} {v = v} r = sound k laws (accepted cs xs) opening v.beliefs (sound_opening k) (followed k r)

  pub seconds : EveryRun k (Seconds k)
  seconds m cs xs v r b l =
      let h = sound_run r in
      second k (get_or v.beliefs b []) (omega (arith, (All-get_or (Proper k (length v.beliefs)) v.beliefs b [] l h.proper).2, h.room))

  pub next_fits : EveryRun k (NextFits k)
  next_fits m cs xs v r c a w narrow s = fits_step k c a v w (sound_run r) narrow s
