-- Every run of a ledger just opened keeps the promise, and so does every run that goes on from one.
use Rattle.std.proofs.Common.{◌≡◌, ℕ, zero, suc, ◌+◌, ◌-◌, ◌<◌, ◌≤◌, List, [], ◌∷◌, ◌++◌, length, get_or, take, drop, Ok, sum_by, sym, ap, ◌∙◌, subst, ⊎_elim, arith}
use Rattle.std.specs.Option as options
use Rattle.std.specs.Result as results
use Rattle.std.specs.List.{AllByRecursion}
use Rattle.std.proofs.lemmas.List.{length-append, take_more}
use Rattle.std.proofs.lemmas.List.Elements.{length_all_zip}
use Rattle.std.proofs.ByRecursion.{All-get_or}
use Rattle.std.proofs.lemmas.List.Sums.{sum_by-cons}
use Rattle.store.specs.Meaning.{Meaning}
use Rattle.reference.specs.Beliefs.{Kinds, Belief, state, latest, count}
use Rattle.calls.specs.declared.call.Call.{Call}
use Rattle.calls.specs.Verdict.{Beliefs, opening, latest_number, claim_of}
use Rattle.calls.proofs.Deciding.{asked_found}
use Rattle.law.specs.Runs.{Reply, View, opened, Step, Run, rest, then, Change, noted, accepted}
use Rattle.law.specs.Law.{Alike, Promise, Continues}
use Rattle.law.specs.Theorems.{Throughout, OneMore}
use Rattle.law.proofs.Sorting.{TimeLaws, SameOps, same_ops, same_state, same_latest}
use Rattle.law.proofs.Stepping.{by_step}
use Rattle.law.proofs.Following.{Follows, followed, Proper, sound_opening, sound, undone, replayed}

module _ {E T S : Type 0} (k : Kinds E T S) where
  alike : (bs : Beliefs E T) (b : ℕ) (bs' : Beliefs E T) (b' : ℕ) → b < length bs → b' < length bs' → SameOps (get_or bs b []) (get_or bs' b' []) → Alike k bs b bs' b'
  alike bs b bs' b' l l' same =
      let B = get_or bs b [] in
      let B' = get_or bs' b' [] in
      record {
        state = λ t.
            let show : Belief E T → S = λ x. state k x t in
            asked_found bs b show l ∙ ap (λ s. Ok s) (same_state k B B' t same) ∙ sym (asked_found bs' b' show l');
        time = λ t.
            let time = results.result_map_both (λ found. options.option_map (λ o. o.1) found) (λ r. r) in
            ap time (asked_found bs b (λ x. latest k x t) l) ∙ ap (λ s. Ok s) (same_latest k B B' t same) ∙ sym (ap time (asked_found bs' b' (λ x. latest k x t) l'));
        count = asked_found bs b count l ∙ ap (λ s. Ok s) (length_all_zip _ B B' same) ∙ sym (asked_found bs' b' count l');
      }

  few : {cs : List (Call E T)} {xs : List (Reply S T)} {u w : View E T} → Run k cs xs u w → AllByRecursion (λ h. h.cells ≤ claim_of h.call) (accepted cs xs)
  few rest = tt
  few (then {c = c} {a = a} {cs = cs} {xs = xs} {u = u} {v = v} s r) =
      let hs = accepted cs xs in
      let Few : List (Change E T) → Type 0 = AllByRecursion (λ h. h.cells ≤ claim_of h.call) in
      ⊎_elim
      (λ q. subst Few (sym (q.quiet hs)) (few r))
      (λ q. subst (λ y. Few (noted c y hs)) (sym q.grows.answer) (q.grows.few, few r))
      (by_step k c a u v s)

  adds_up : {cs : List (Call E T)} {xs : List (Reply S T)} {u w : View E T} → Run k cs xs u w → length u.store.cells + sum_by (λ h. h.cells) (accepted cs xs) ≡ length w.store.cells
  adds_up rest = omega arith
  adds_up (then {c = c} {a = a} {cs = cs} {xs = xs} {u = u} {v = v} s r) =
      let hs = accepted cs xs in
      let total : List (Change E T) → ℕ = sum_by (λ h. h.cells) in
      ⊎_elim
      (λ q. ap (λ l. length u.store.cells + total l) (q.quiet hs) ∙ ap (λ z. length z.store.cells + total hs) (sym q.same) ∙ adds_up r)
      (λ q.
      let new : Change E T = record { call = c; belief = length u.beliefs; cells = length q.grows.gained } in
      let grown = ap (λ z. length z.store.cells) q.grows.after ∙ length-append u.store.cells q.grows.gained in
      ap (λ y. length u.store.cells + total (noted c y hs)) q.grows.answer
      ∙ omega (arith, grown, adds_up r, sum_by-cons (λ (h : Change E T). h.cells) new hs))
      (by_step k c a u v s)

  module _ (laws : TimeLaws k.upto) where
    -- The promise of every run from the opening.
    pub promised : {m : Meaning} {cs : List (Call E T)} {xs : List (Reply S T)} {v : View E T} → Run k cs xs (opened m) v → Promise k m cs xs v
    promised {cs = cs} {xs = xs} {v = v} r =
        let bs = v.beliefs in
        let f = followed k r in
        let beliefs = sound k laws (accepted cs xs) opening bs (sound_opening k) f in
        record {
          reference = r;
          replays = λ b l {cs' = cs'} {xs' = xs'} {w = w} r' e.
              let ds = w.beliefs in
              let f' = followed k r' in
              let some = (sound k laws (accepted cs' xs') opening ds (sound_opening k) f').some in
              let proper = All-get_or (Proper k (length bs)) bs b [] l beliefs.proper in
              alike bs b ds (latest_number ds) l (omega arith) (replayed k laws (accepted cs' xs') [] (get_or bs b []) opening ds (sound_opening k) proper.0 tt e f');
          undoes = λ t e n n' x x' earlier later split.
              let u = undone k laws t e n n' x x' earlier later opening bs (sound_opening k) (subst (λ z. Follows k opening z bs) split f) in (
                alike bs n' bs (n - 1) u.0 u.1 (subst (SameOps (get_or bs n' [])) u.2 (same_ops (get_or bs n' []))),
                λ t'. asked_found bs n' (λ z. latest k z t') u.0 ∙ ap (λ z. Ok (latest k z t')) u.2 ∙ sym (asked_found bs (n - 1) (λ z. latest k z t') u.1),
              );
          few = few r;
          adds_up = adds_up r;
        }

  pub run_append : {cs ds : List (Call E T)} {xs ys : List (Reply S T)} {u v w : View E T} → Run k cs xs u v → Run k ds ys v w → Run k (cs ++ ds) (xs ++ ys) u w
  run_append rest q = q
  run_append (then s r) q = then s (run_append r q)

  -- one turn of a loop over the calls cs
  pub run_more : (cs : List (Call E T)) (i : ℕ) (c : Call E T) (a : Reply S T) {xs : List (Reply S T)} {u v : View E T} (w : View E T) → i < length cs → c ≡ get_or cs i c → Run k (take i cs) xs u v → Step k c a v w → Run k (take (i + 1) cs) (xs ++ (a ∷ [])) u w
  run_more cs i c a {xs} {u} {v} w l e r s =
      let more : take (i + 1) cs ≡ take i cs ++ (c ∷ []) = take_more cs i c l ∙ ap (λ y. take i cs ++ (y ∷ [])) (sym e) in
      let last : Run k (c ∷ []) (a ∷ []) v w = then s rest in
      subst (λ z. Run k z (xs ++ (a ∷ [])) u w) (sym more) (run_append r last)

  pub run_split : (n : ℕ) {cs : List (Call E T)} {xs : List (Reply S T)} {u w : View E T} → Run k cs xs u w → (v : View E T) × Run k (take n cs) (take n xs) u v × Run k (drop n cs) (drop n xs) v w
  run_split zero {u = u} r = (u, rest, r)
  run_split (suc n) {u = u} rest = (u, rest, rest)
  run_split (suc n) (then s r) = let p = run_split n r in (p.0, then s p.1, p.2)

  module _ (laws : TimeLaws k.upto) where
    pub throughout : {m : Meaning} {cs : List (Call E T)} {xs : List (Reply S T)} {v : View E T} → Run k cs xs (opened m) v → Throughout k m cs xs v
    throughout r = λ n. let p = run_split n r in (p.0, promised laws p.1, p.2)

    -- Whatever came before, the calls of a run keep the promise.
    pub continues : {ds : List (Call E T)} {ys : List (Reply S T)} {v w : View E T} → Run k ds ys v w → Continues k v ds ys w
    continues r = λ m cs xs h. promised laws (run_append h.reference r)

    -- So does one call more.
    pub one_more : OneMore k
    one_more = λ c a v w s. continues (then s rest)
