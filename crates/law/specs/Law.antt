-- The law of a ledger, over its runs.
use Rattle.std.specs.Prelude.{◌≡◌, ℕ, ◌+◌, ◌-◌, ◌<◌, ◌≤◌, List, [], ◌∷◌, ◌++◌, map, length, sum_by, Option, Result, slice_index_or}
use Rattle.std.specs.Option as options
use Rattle.std.specs.Result as results
use Rattle.std.specs.List.{AllByRecursion}
use Rattle.store.specs.Meaning.{Meaning}
use Rattle.reference.specs.Beliefs.{Kinds, Belief}
use Rattle.calls.specs.declared.call.Call.{Call}
use Rattle.calls.specs.declared.call.Call.TheVariants.{Enter, Withdraw}
use Rattle.calls.specs.declared.refusal.Refusal.{Refusal}
use Rattle.calls.specs.Verdict.{Beliefs, latest_number, state_of, latest_of, count_of, claim_of}
use Rattle.law.specs.Runs.{Reply, View, opened, Run, Change, accepted}

-- one entry for each operation of a belief, in its order
abbrev pub entries : {E T : Type 0} → Belief E T → List (Call E T)
entries belief = map (λ o. Enter o.time o.effect) belief

abbrev pub calls_of : {E T : Type 0} → List (Change E T) → List (Call E T)
calls_of hs = map (λ h. h.call) hs

-- what latest answers, but for the operation's number
abbrev pub latest_time_of : {E T S : Type 0} → Kinds E T S → Beliefs E T → ℕ → T → Result (Option T) Refusal
latest_time_of k bs b t = results.result_map_both (λ found. options.option_map (λ o. o.1) found) (λ r. r) (latest_of k bs b t)

-- Belief b of one ledger answers as belief b' of another, but for the numbers of operations.
pub record Alike {E T S : Type 0} (k : Kinds E T S) (bs : Beliefs E T) (b : ℕ) (bs' : Beliefs E T) (b' : ℕ) : Type 0 where
  pub state : (t : T) → state_of k bs b t ≡ state_of k bs' b' t
  pub time : (t : T) → latest_time_of k bs b t ≡ latest_time_of k bs' b' t
  pub count : count_of bs b ≡ count_of bs' b'

-- A ledger opened over a store of meaning m had the calls cs, answered by xs, and now shows v.
pub record Promise {E T S : Type 0} (k : Kinds E T S) (m : Meaning) (cs : List (Call E T)) (xs : List (Reply S T)) (v : View E T) : Type 0 where
  -- Each answer and each new belief is the reference ledger's, fed the store's answers to claims.
  pub reference : Run k cs xs (opened m) v
  -- Each belief answers as the latest of every second ledger, on any store, that accepted just its operations, in their order.
  pub replays :
      (b : ℕ) → b < length v.beliefs → {m' : Meaning} {cs' : List (Call E T)} {xs' : List (Reply S T)} {w : View E T}
      → Run k cs' xs' (opened m') w → calls_of (accepted cs' xs') ≡ entries (slice_index_or v.beliefs b [])
      → Alike k v.beliefs b w.beliefs (latest_number w.beliefs)
  -- Where the next accepted change after an entry withdraws it, the new belief answers as the one before the entry, numbers too.
  pub undoes :
      (t : T) (e : E) (n n' x x' : ℕ) (earlier later : List (Change E T))
      → accepted cs xs ≡ earlier ++ (record { call = Enter t e; belief = n; cells = x } ∷ (record { call = Withdraw n; belief = n'; cells = x' } ∷ later))
      → Alike k v.beliefs n' v.beliefs (n - 1) × ((t' : T) → latest_of k v.beliefs n' t' ≡ latest_of k v.beliefs (n - 1) t')
  -- No accepted change reports more cells than it claimed.
  pub few : AllByRecursion (λ h. h.cells ≤ claim_of h.call) (accepted cs xs)
  -- The reports add up to what the store gained since the opening.
  pub adds_up : length m.cells + sum_by (λ h. h.cells) (accepted cs xs) ≡ length v.store.cells

-- Whatever calls a ledger v had since it was opened: the calls ds, answered by ys, make it w and keep the promise.
abbrev pub Continues : {E T S : Type 0} → Kinds E T S → View E T → List (Call E T) → List (Reply S T) → View E T → Type 0
Continues {E} {T} {S} k v ds ys w = (m : Meaning) (cs : List (Call E T)) (xs : List (Reply S T)) → Promise k m cs xs v → Promise k m (cs ++ ds) (xs ++ ys) w
