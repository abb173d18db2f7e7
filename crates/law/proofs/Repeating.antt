-- The second ledger exists: entries for which a store has room are all accepted, and every list of calls has a run.
use Rattle.std.proofs.Common.{◌≡◌, ℕ, ◌+◌, ◌<◌, ◌≤◌, List, [], ◌∷◌, ◌++◌, length, None, Ok, sum_by, sym, refl, ap, ◌∙◌, subst, arith}
use Rattle.std.specs.List.{AllByRecursion}
use Rattle.std.proofs.lemmas.List.{length_push, length-map}
use Rattle.std.proofs.lemmas.List.Sums.{sum_by-cons}
use Rattle.std.proofs.ByRecursion.{sum_by_le}
use Rattle.store.proofs.Granting.{free_granted}
use Rattle.store.specs.Meaning.{Meaning, fault_of, unless, claimed, with_cells}
use Rattle.reference.specs.Beliefs.{Kinds, Belief, entered}
use Rattle.calls.specs.declared.call.Call.{Call}
use Rattle.calls.specs.declared.call.Call.TheVariants.{Enter, Withdraw, State, Latest, Count}
use Rattle.calls.specs.declared.answer.Answer.TheVariants.{Changed}
use Rattle.calls.specs.Verdict.{Beliefs, Verdict, keeps, makes, granted, latest_number, latest_belief, verdict, claim_of}
use Rattle.calls.proofs.Deciding.{not_full}
use Rattle.law.specs.Runs.{Reply, View, opened, Grows, Outcome, Step, Run, rest, then, noted, accepted}
use Rattle.law.specs.Law.{entries, calls_of}
use Rattle.law.specs.Theorems.{Second}

abbrev Entry : {E T : Type 0} → Call E T → Type 0
Entry (Enter t e) = Unit {0}
Entry (Withdraw n) = ⊥
Entry (State b t) = ⊥
Entry (Latest b t) = ⊥
Entry (Count b) = ⊥

all_entries : {E T : Type 0} (b : Belief E T) → AllByRecursion Entry (entries b)
all_entries [] = tt
all_entries (o ∷ os) = (tt, all_entries os)

claims_of_entries : {E T : Type 0} (b : Belief E T) → AllByRecursion (λ c. claim_of c ≤ 42) (entries b)
claims_of_entries [] = tt
claims_of_entries (o ∷ os) = (omega arith, claims_of_entries os)

no_fault : (m : Meaning) (n : ℕ) → n ≤ m.allowance → n ≤ m.space → fault_of m n ≡ None
no_fault m n may can = free_granted m n (record { may = may; can = can })

module _ {E T S : Type 0} (k : Kinds E T S) where
  -- room in a ledger and its store for all of the calls
  pub record Room (cs : List (Call E T)) (v : View E T) : Type 0 where
    pub some : 0 < length v.beliefs
    pub beliefs : length v.beliefs + length cs ≤ 1024
    pub allowance : sum_by claim_of cs ≤ v.store.allowance
    pub space : sum_by claim_of cs ≤ v.store.space

  entry_made : (bs : Beliefs E T) (m : Meaning) (t : T) (e : E) → length bs ≤ 1023 → 0 < length bs → 42 ≤ m.allowance → 42 ≤ m.space → verdict k bs (Enter t e) (claimed m 42) ≡ makes (entered k (record { number = length bs; time = t; effect = e }) (latest_belief bs))
  entry_made bs m t e room some allowance space =
      let b = entered k (record { number = length bs; time = t; effect = e }) (latest_belief bs) in
      let test : latest_number bs < 1023 = omega arith in
      not_full bs _ test ∙ ap (λ f. granted (unless f tt) b) (no_fault m 42 allowance space)

  entry_grows : (c : Call E T) (cs : List (Call E T)) (a : Reply S T) (u v : View E T) → Entry c → Room (c ∷ cs) u → Step k c a u v → (b : Belief E T) × Grows b (claim_of c) a u v
  entry_grows (Enter t e) cs a u v i room s =
      let sum = sum_by-cons claim_of (Enter t e) cs in
      let P : Verdict E T S → Type 0 = λ x. Outcome x 42 a u v in
      (_, subst P (entry_made u.beliefs u.store t e (omega (arith, room.beliefs)) room.some (omega (arith, room.allowance)) (omega (arith, room.space))) s)
  entry_grows (Withdraw n) cs a u v i room s = absurd i
  entry_grows (State b t) cs a u v i room s = absurd i
  entry_grows (Latest b t) cs a u v i room s = absurd i
  entry_grows (Count b) cs a u v i room s = absurd i

  room_after : (c : Call E T) (cs : List (Call E T)) (a : Reply S T) (u v : View E T) (b : Belief E T) → Room (c ∷ cs) u → Grows b (claim_of c) a u v → Room cs v
  room_after c cs a u v b room g =
      let sum = sum_by-cons claim_of c cs in
      let few = g.few in
      subst (Room cs) (sym g.after) (record {
        some = omega (arith, length_push u.beliefs b);
        beliefs = omega (arith, length_push u.beliefs b, room.beliefs);
        allowance = omega (arith, room.allowance);
        space = omega (arith, room.space);
      })

  all_accepted : {cs : List (Call E T)} {xs : List (Reply S T)} {u w : View E T} → Run k cs xs u w → AllByRecursion Entry cs → Room cs u → calls_of (accepted cs xs) ≡ cs
  all_accepted rest i room = refl
  all_accepted (then {c = c} {a = a} {cs = cs} {xs = xs} {u = u} {v = v} s r) i room =
      let g = entry_grows c cs a u v i.0 room s in
      ap (λ y. calls_of (noted c y (accepted cs xs))) g.1.answer ∙ ap (◌∷◌ c) (all_accepted r i.1 (room_after c cs a u v g.0 room g.1))

  some_outcome : (x : Verdict E T S) (n : ℕ) (v : View E T) → (a : Reply S T) × (w : View E T) × Outcome x n a v w
  some_outcome (keeps a) n v = (a, v, (refl, refl))
  some_outcome (makes b) n v = (
    Ok (Changed (length v.beliefs, 0)),
    record { beliefs = v.beliefs ++ (b ∷ []); store = with_cells v.store [] },
    record { gained = []; few = omega arith; answer = refl; after = refl },
  )

  some_run : (cs : List (Call E T)) (u : View E T) → (xs : List (Reply S T)) × (w : View E T) × Run k cs xs u w
  some_run [] u = ([], u, rest)
  some_run (c ∷ cs) u =
      let first = some_outcome (verdict k u.beliefs c (claimed u.store (claim_of c))) (claim_of c) u in
      let others = some_run cs first.1 in
      (first.0 ∷ others.0, others.1, then first.2 others.2)

  pub second : (b : Belief E T) → length b ≤ 1023 → Second k b
  second b few = record {
    small = omega (arith, sum_by_le claim_of 42 (entries b) (claims_of_entries b), length-map b (λ o. Enter o.time o.effect));
    accepted = λ m allowance space. record {
      all = λ xs w r.
          all_accepted r (all_entries b) (record { some = omega arith; beliefs = omega (arith, length-map b (λ o. Enter o.time o.effect)); allowance = allowance; space = space });
      some = some_run (entries b) (opened m);
    };
  }
